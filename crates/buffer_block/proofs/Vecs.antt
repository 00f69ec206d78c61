-- The room of an empty `Vec` of bytes is taken out, with the way back. Assumes `Logic`.
use Rattle.std.proofs.Common.{◌≡◌, ℕ, zero, suc, ◌+◌, ◌-◌, ◌*◌, ◌^◌, true, List, [], ◌∷◌, length, refl, sym, ◌∙◌, arith, Vec}
use seplogic.Ra.Ura.{Ura}
use mir.Syntax.{w8, ty_int}
use mir.Val.{Val}
use base.Logic.{ent, sep, never, id⊢, apply∗}
use base.Fml.{Fml, fwand, froom}
use types.Logic.{Logic, sem}
use types.Kit.{‵, ◌⊛◌, ◌$◌, ◌∵◌, !, qed, move, drop, frame, assume, show, use0, use1, use2, split, fsplit, fsplit3, fjoin, fjoin3, flt_l, flt_i, rewrite, done}
use denote.RattleType.{RattleType}
use denote.Builtin.{u8}
use denote.RawPtr.{Ptr, block_ptr, in_block, in_a_block}
use denote.Steps.{nothing}
use Rattle.std.specs.declared.alloc.Global.{Global}
use Rattle.std.specs.contracts.alloc.Global as heap
use Rattle.std.specs.contracts.impls.GlobalAllocator.TheImpl.{ghosts}
use Rattle.std.specs.Allocator.{block_with_items}
use Rattle.std_alloc.specs.Vec.Ownership.{owns_if, has_block}
use Rattle.std_alloc.specs.contracts.vec.Vec as V
use Rattle.std_alloc.proofs.VecSteps.Opens.{is_live}
use Rattle.std_alloc.proofs.vec.Vec.TheLaws as vec_laws
use Rattle.std.proofs.alloc.Global.TheLaws as heap_laws
use Rattle.bytes.proofs.Lodging.{byte_laws}
use denote.Param.Laws.{Laws}
use Rattle.bytes.proofs.Walks.{plainly, one, one_made}
use Rattle.buffer_block.specs.Ownership.{room_owns}
use Rattle.buffer_block.specs.contracts.block.Sole as Sole
use Rattle.buffer_block.proofs.Rooms.{Bytes}

abbrev pub V8 : RattleType
V8 = V.the_row u8 heap.the_row ghosts

-- what a `Vec` has behind its pointer
abbrev pub Behind : Global → Ptr → ℕ → ℕ → List ℕ → Fml
Behind a p n c xs = owns_if (has_block c) (block_with_items (ghosts.dealloc_token a) u8 p n c xs)

no_items : (xs : List ℕ) → length xs ≡ 0 → xs ≡ []
no_items [] e = refl
no_items (x ∷ xs) e = absurd (omega (arith, e))

module _ {M : Type 1} {𝓤 : Ura M} (𝓛 : Logic 𝓤) where
  empties : (a : Global) (b o c : ℕ) → ent 𝓤 (sem 𝓛 (Behind a (block_ptr b o) 0 c [])) (sep 𝓤 (sem 𝓛 (froom (Bytes c) b o)) (sem 𝓛 (fwand (froom (Bytes c) b o) (Behind a (block_ptr b o) 0 c []))))
  empties a b o zero =
      qed 𝓛 (‵ (Behind a (block_ptr b o) 0 0 []) ∷ []) ∵ drop ! $ use0 𝓛 (‵ (froom (Bytes 0) b o)) (𝓛.laws.room_nil (ty_int w8) b o) $ frame ! $
      assume ! (‵ (froom (Bytes 0) b o)) $ drop ! $ nothing ! $ done !
  empties a b o (suc c) =
      let p = block_ptr b o in
      let block = block_with_items (ghosts.dealloc_token a) u8 p 0 (suc c) [] in
      let live : has_block (suc c) ≡ true = is_live (suc c) (omega arith) in
      let start : o + 0 * 1 ≡ o = omega arith in
      let whole : suc c - 0 ≡ suc c = omega arith in
      qed 𝓛 (‵ (Behind a p 0 (suc c) []) ∷ []) ∵ rewrite ! 0 (λ y. ‵ (owns_if y block)) live refl $ fsplit3 ! $ move ! (1 ∷ []) $
      rewrite ! 0 (λ k. ‵ (froom (Bytes (suc c - 0)) b k)) start refl $ rewrite ! 0 (λ k. ‵ (froom (Bytes k) b o)) whole refl $ frame ! $
      assume ! (‵ (froom (Bytes (suc c)) b o)) $ rewrite ! 0 (λ k. ‵ (froom (Bytes k) b o)) (sym whole) refl $ rewrite ! 0 (λ k. ‵ (froom (Bytes (suc c - 0)) b k)) (sym start) refl $
      move ! (1 ∷ 0 ∷ 2 ∷ []) $ fjoin3 ! $ rewrite ! 0 (λ y. ‵ (owns_if y block)) (sym live) refl $ done !

  -- an empty `Vec` is its room, and the way back
  pub carve : (v : Vec ℕ Global) (u : Val) → v.len ≡ 0
      → ent 𝓤 (sem 𝓛 (V8.own_val v (u ∷ []))) (sep 𝓤 (sem 𝓛 (room_owns v.ptr v.cap)) (sem 𝓛 (Sole.the_own (record { ptr = v.ptr; len = v.cap }) (one u ∷ []))))
  carve v u empty =
      let Block = λ (p : Ptr) (n : ℕ) (xs : List ℕ). in_block p (Behind v.alloc p n v.cap xs) in
      let bound : v.cap * 1 ≡ v.cap = omega arith in
      let none : v.items ≡ [] = no_items v.items (sym v.ok.0 ∙ empty) in
      let Room = room_owns v.ptr v.cap in
      let Whole = (plainly (V8 ∷ [])).own_val (v, tt) (one u ∷ []) in
      qed 𝓛 (‵ (V8.own_val v (u ∷ [])) ∷ []) ∵ fsplit ! $ move ! (1 ∷ []) $ fsplit ! $ flt_l ! (λ fit.
      rewrite ! 0 (λ n. ‵ (Block v.ptr n v.items)) empty refl $ rewrite ! 0 (λ xs. ‵ (Block v.ptr 0 xs)) none refl $
      in_a_block ! v.ptr (λ p. Block p 0 []) (id⊢ 𝓤 (never 𝓤)) (λ b o at.
      let here = block_ptr b o in
      use1 𝓛 (‵ (froom (Bytes v.cap) b o) ⊛ ‵ (fwand (froom (Bytes v.cap) b o) (Behind v.alloc here 0 v.cap []))) (empties v.alloc b o v.cap) $ split ! $
      flt_i ! v.cap (2 ^ 63) (omega arith) $ fjoin ! $ rewrite ! 0 (λ p. ‵ (room_owns p v.cap)) (sym at) refl $ frame ! $
      show ! (λ i. sem 𝓛 (fwand Room ((plainly (V8 ∷ [])).own_val (i.vec, tt) (one u ∷ [])))) (record { vec = v }) $
      assume ! (‵ Room) $ rewrite ! 0 (λ p. ‵ (room_owns p v.cap)) at refl $ fsplit ! $ drop ! $ move ! (0 ∷ 1 ∷ []) $
      use2 𝓛 (‵ (Behind v.alloc here 0 v.cap [])) (apply∗ 𝓤 (sem 𝓛 (froom (Bytes v.cap) b o)) (sem 𝓛 (Behind v.alloc here 0 v.cap []))) $
      rewrite ! 0 (λ p. ‵ (Block p 0 [])) (sym at) refl $ rewrite ! 0 (λ xs. ‵ (Block v.ptr 0 xs)) (sym none) refl $ rewrite ! 0 (λ n. ‵ (Block v.ptr n v.items)) (sym empty) refl $
      flt_i ! (v.cap * 1) (2 ^ 63) fit $ fjoin ! $ move ! (1 ∷ 0 ∷ []) $ fjoin ! $ one_made ! V8 v u $ done !))

abbrev pub v8_laws : Laws V8
v8_laws = vec_laws.the_row_laws u8 heap.the_row ghosts byte_laws heap_laws.the_row_laws
