-- An owner of a block, as a share of a token under which the block's lifetime lasts. Assumes `Logic`.
use Rattle.std.proofs.Common.{ℕ, ◌+◌, [], ◌∷◌, Bool, false}
use seplogic.Ra.Ura.{Ura}
use mir.Val.{Val}
use base.Fraction.{full_share}
use base.Logic.{SProp, ent, sep, ex}
use base.Fml.{Fml, Incl-refl, Share, fwand, flft, fshr_bor}
use types.Logic.{Logic, sem}
use types.Kit.{‵, ◌⊛◌, later, ◌$◌, ◌∵◌, !, qed, move, drop, frame, assume, show, use0, use1, use2, split, fsplit, fsplit3, fjoin, fjoin3, fpick, fpack, await, updating, now, done}
use types.RcWeak.{part, part_in}
use denote.RattleType.{RattleType}
use denote.Param.Laws.{Laws}
use denote.RawPtr.{block_of, count_of}
use denote.Sharing.{ShrLaws}
use denote.SharingLaws.{contraction}
use Rattle.std.specs.contracts.alloc.Global as heap
use Rattle.std.specs.contracts.impls.GlobalAllocator.TheImpl.{ghosts}
use Rattle.std.proofs.alloc.Global.TheLaws as heap_laws
use Rattle.std_alloc.specs.Owners.{sole_or_counted}
use Rattle.std_alloc.specs.Arc.Ownership.{sole_owns, counted_owns, owner_owns, value_and_blocks, fields_shared}
use Rattle.std_alloc.specs.contracts.arc.Arc as Arc
use Rattle.std_alloc.proofs.ArcSteps.{arc-Settles}
use Rattle.std_alloc.proofs.SharedLaws.{arc_fields_laws}
use Rattle.std_alloc.proofs.arc.Arc.TheLaws as arc-laws
use Rattle.bytes.proofs.Walks.{plainly, one, one_made}
use Rattle.buffer_block.specs.contracts.block.Block as Block
use Rattle.buffer_block.proofs.block.Block.TheLaws as block-laws

abbrev pub Counted : RattleType
Counted = Arc.the_row Block.the_row heap.the_row ghosts

abbrev pub counted-laws : Laws Counted
counted-laws = arc-laws.the_row_laws Block.the_row heap.the_row ghosts block-laws.the_row_laws heap_laws.the_row_laws

module _ {M : Type 1} {𝓤 : Ura M} (𝓛 : Logic 𝓤) (d : Counted.Denot) (u : Val) where
  abbrev Whole : Fml
  Whole = (plainly (Counted ∷ [])).own_val (d, tt) (one u ∷ [])

  -- a share of a token, under which the block's lifetime lasts, and what gives the owner back for it
  abbrev pub Out : ℕ × Share → SProp 𝓤
  Out s =
      sep 𝓤 (sem 𝓛 (fshr_bor (s.0 ∷ []) (λ q. flft (d.value.life ∷ []) q)))
      (sep 𝓤 (sem 𝓛 (flft (s.0 ∷ []) s.1)) (sem 𝓛 (fwand (flft (s.0 ∷ []) s.1) Whole)))

  pub owner_out : ent 𝓤 (sem 𝓛 (Counted.own_val d (u ∷ []))) (𝓛.H.⇛ (ex 𝓤 Out))
  owner_out =
      let B = Block.the_row in
      let Z = heap.the_row in
      let t = ghosts.dealloc_token in
      let p = d.ptr in
      let x = d.value in
      let LZ = heap_laws.the_row_laws in
      let L = block-laws.the_row_laws in
      let shared = fields_shared Z t B p x in
      let laws : ShrLaws shared = arc_fields_laws Z t B LZ.shr_laws L.shr_laws p x in
      let V = value_and_blocks Z t B p x in
      let counted = counted_owns Z t B p x in
      qed 𝓛 (‵ (Counted.own_val d (u ∷ [])) ∷ []) ∵ updating ! $ fsplit ! $ move ! (1 ∷ []) $ fsplit ! $
      use0 𝓛 (‵ (flft [] full_share)) (𝓛.lfts.lft-nil full_share) $ move ! (2 ∷ 0 ∷ []) $
      use2 𝓛 (later (‵ counted ⊛ ‵ (flft [] full_share))) (arc-Settles Z B t LZ L 𝓛 p x [] (Incl-refl []) (Incl-refl []) [] full_share (Incl-refl [])) $ await ! tt $ now ! $ split ! $
      move ! (1 ∷ []) $ drop ! $
      -- [what a counted owner has; ..; the fields]
      fpick ! (λ a. fsplit3 ! $ fpick ! (λ e. fpick ! (λ counts. move ! (2 ∷ []) $
      use1 𝓛 (‵ (shared (a ∷ [])) ⊛ ‵ (shared (a ∷ []))) (contraction 𝓛 shared laws (a ∷ [])) $ split ! $
      fsplit ! $ move ! (1 ∷ []) $ drop ! $ fsplit ! $ drop ! $ fsplit ! $ drop ! $ show ! Out (a, e) $
      frame ! $ move ! (1 ∷ []) $ frame ! $ assume ! (‵ (flft (a ∷ []) e)) $ use1 𝓛 (‵ (part 63 a)) (part_in 63 𝓛 a e counts) $
      move ! (0 ∷ 2 ∷ 1 ∷ []) $ fjoin3 ! $ fpack ! ℕ (λ i. owner_owns V (block_of p) (count_of p + 0) i shared) a $
      fpack ! Bool (sole_or_counted (sole_owns Z t B p x) counted) false $ move ! (1 ∷ 0 ∷ []) $ fjoin ! $ move ! (1 ∷ 0 ∷ []) $ fjoin ! $
      one_made ! Counted d u $ done !)))
