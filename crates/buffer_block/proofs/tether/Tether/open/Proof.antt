-- `open` locks the owner's token, then a share of the block's, and takes the place out. Assumes `Logic`.
use Rattle.std.proofs.Common.{◌≡◌, ℕ, List, [], ◌∷◌, ◌++◌, refl}
use seplogic.Ra.Ura.{Ura}
use mir.Syntax.{Fn}
use mir.Val.{Val}
use base.Logic.{SProp, ent}
use base.Fml.{Lft, Share, ftrue, flft, fex, fwand, fshr_bor}
use prog.Memory.{Memory}
use prog.Routine.{Routine}
use prog.Wp.{Calls, Loops, WpFn, Tables}
use contract.Monad.{Fun, fact}
use contract.Running.{tables, tables_of}
use sound.WpLaws.{WpFn-mono}
use types.Logic.{Logic}
use types.Kit.{‵, raw, ◌⊛◌, some, later, prop, ◌$◌, ◌∵◌, !, qed, move, drop, use1, split, split3, fsplit, fjoin, fjoin3, fpack, pick, regoal, rewrite, suffices, await, done}
use types.Part.{agg}
use types.Run.{enter, returns, of_opd, and_then, no_more}
use types.ByLocal.{alloc_all, pass_all, free_all, look_at, get, sets}
use denote.Exit.{yes}
use denote.RattleType.{owns}
use denote.Signature.{plain, types_at}
use denote.Steps.{nothing, heard}
use denote.Triple.Clauses.{Clauses, Ended, closing}
use denote.Triple.Entry.{alive}
use denote.Triple.Spec.{Meets, triple_of}
use denote.Triple.Table.{entered}
use denote.Triple.Walked.{says, Stays, stay_dropped, walk_of, ends_at, walk_Meets}
use Rattle.std.proofs.alloc.Calls.{Goes-blank}
use Rattle.bytes.proofs.Walks.{none, one, two, tells, none_made, two_made, none_had}
use types.Tokens.{shr_bor-open, bor_open}
use denote.Laws.{Typed}
use denote.Param.{layout}
use denote.Struct.Struct.{as_fields}
use Rattle.bytes.specs.Ownership.{Extent}
use Rattle.bytes.proofs.Arcs.{token_halves}
use Rattle.buffer_block.specs.Ownership.{borrowed, tethered}
use Rattle.buffer_block.specs.contracts.block.Places as Places
use Rattle.buffer_block.specs.contracts.tether.Room as Room
use Rattle.buffer_block.specs.contracts.tether.Tether as Tether
use Rattle.buffer_block.specs.contracts.tether.Tether.TheInside as Inside
use Rattle.buffer_block.proofs.Arcs.{Counted, counted-laws, owner_out}
use Rattle.buffer_block.specs.contracts.tether.Tether.open as F
use Rattle.buffer_block.specs.contracts.tether.Tether.open.Key.{name as #self}
use Rattle.buffer_block.proofs.tether.Tether.open.Statement as stated
use Rattle.buffer_block.proofs.tether.Tether.open.Code as code

abbrev function : Fn
function = code.function

abbrev ended : Ended
ended = F.ended

abbrev stayed : Stays ended.signature.params ended.kept
stayed = (stay_dropped (plain (λ _. Counted)) yes, (stay_dropped (plain (λ _. Places.the_row)) yes, tt))

module _ {M : Type 1} {𝓤 : Ura M} (𝓛 : Logic 𝓤) (at_mem : Memory → SProp 𝓤) (run : Routine → Fun 𝓤) where
  open 𝓛 use {H}

  abbrev held : Clauses 𝓤 ended
  held = F.clauses 𝓛 at_mem run

  module _ (C : Calls 𝓤 H) (Λ : Loops 𝓤 H) (z : (walk_of 𝓛 ended stayed held).Ghost) where
    abbrev Post : Val → SProp 𝓤
    Post = (walk_of 𝓛 ended stayed held).post z

    abbrev toks : SProp 𝓤
    toks = alive 𝓛 ended.signature z.0.0 z.0.1

    walks : ent 𝓤 ((walk_of 𝓛 ended stayed held).pre z) (WpFn 𝓤 H C Λ function ((walk_of 𝓛 ended stayed held).args z) Post)
    walks =
        let a = z.0.3 in
        let vss = z.0.4 in
        let arc = a.0 in
        let s = a.1.0 in
        let T = Tether.the_row in
        let X = (Inside.the_row).Denot in
        let life : Lft = arc.value.life ∷ [] in
        let t : Extent = record { ptr = s.ptr; len = s.room } in
        let room : (Room.the_row).Denot = record { ptr = s.ptr; len = s.room } in
        let Asked = (s.life ≡ arc.value.life) × (s.left ≡ 1) in
        qed 𝓛 ((raw toks ⊛ ‵ (owns (types_at ended.signature.params z.0.0) a vss)) ∷ raw (fact 𝓤 Asked) ∷ []) ∵
        move ! (1 ∷ []) $ heard ! Asked (λ asked. split ! $ move ! (1 ∷ []) $ fsplit ! $ tells ! Counted counted-laws arc vss.0 (λ u is₀ good. move ! (1 ∷ []) $
        fsplit ! $ fsplit ! $ none_had ! vss.1.0 (λ is₁. move ! (1 ∷ []) $ drop ! $
        let inner = as_fields (layout Counted ∷ []) (u ∷ []) (good, tt) in
        let own = λ (i : X). (Inside.the_row).own_val i (one u ∷ []) in
        let x : X = record { block = arc } in
        regoal ! (λ (us : List Val). prop (WpFn 𝓤 H C Λ function (us ++ (vss.1.0 ++ [])) Post)) is₀ refl $
        regoal ! (λ (us : List Val). prop (WpFn 𝓤 H C Λ function ((u ∷ []) ++ (us ++ [])) Post)) is₁ refl $
        enter ! C Λ function (u ∷ none ∷ []) Post $ alloc_all ! (λ l. pass_all ! refl (good, ((tt, tt), tt)) $
        sets ! (agg ! (no_more !)) refl (tt, tt) $
        sets ! (of_opd ! (get ! refl)) refl good $
        sets ! (agg ! (and_then ! (get ! refl) (no_more !))) refl inner $
        sets ! (agg ! (and_then ! (get ! refl) (and_then ! (get ! refl) (no_more !)))) refl (as_fields (layout Room.the_row ∷ layout T ∷ []) (none ∷ one u ∷ []) ((tt, tt), (inner, tt))) $
        -- [the loan; the owner; the tokens]
        rewrite ! 0 (λ i. ‵ (borrowed i s.room s.left s.ptr)) asked.0 refl $ rewrite ! 0 (λ k. ‵ (borrowed arc.value.life s.room k s.ptr)) asked.1 refl $ fsplit ! $ move ! (1 ∷ []) $ drop ! $ move ! (1 ∷ []) $
        use1 𝓛 (later (some (λ (w : ℕ × Share). ‵ (fshr_bor (w.0 ∷ []) (λ q. flft life q)) ⊛ ‵ (flft (w.0 ∷ []) w.1) ⊛ ‵ (fwand (flft (w.0 ∷ []) w.1) (own x))))) (owner_out 𝓛 arc u) $
        await ! tt $ pick ! (λ w. split3 ! $ shr_bor-open ! tt (token_halves 𝓛 life) (λ q. move ! (3 ∷ 1 ∷ []) $ bor_open ! tt $
        -- [the open loan; the room; the open token; the way back; the tokens]
        move ! (1 ∷ []) $ none_made ! $ fjoin ! $ move ! (3 ∷ 2 ∷ 1 ∷ []) $ fjoin3 ! $
        let alive_in = λ (i : X). i.block.value.life in
        fpack ! (ℕ × Share × Share) (tethered t X alive_in own x) (w.0, w.1, q) $ fpack ! X (λ i. fex (ℕ × Share × Share) (tethered t X alive_in own i)) x $
        nothing ! $ fpack ! (Typed T.mir (one u ∷ [])) (λ _. ftrue) (inner, tt) $ fjoin ! $ move ! (1 ∷ 0 ∷ []) $ two_made ! Room.the_row T room t none (one u) $
        returns ! (look_at ! 0 refl) $ free_all ! refl $
        suffices ! _ (ends_at 𝓛 ended stayed held z (two none (one u)) (room, t) (tt, (tt, tt)) (tt, (tt, tt))) $ says ! (refl, refl, refl, refl) $
        nothing ! $ nothing ! $ fjoin ! $ nothing ! $ fjoin ! $ move ! (2 ∷ 0 ∷ 1 ∷ []) $ done !))))))

  meets : (𝓣 : Tables 𝓤 H) → Meets 𝓛 ended.signature (WpFn 𝓤 H 𝓣.C 𝓣.Λ function) (closing 𝓛 ended held)
  meets 𝓣 =
      walk_Meets 𝓛 ended stayed (Goes-blank 𝓛 0 (plain (λ _. Counted)) yes (λ κs x f. tt), (Goes-blank 𝓛 0 (plain (λ _. Places.the_row)) yes (λ κs x f. tt), tt)) held (WpFn 𝓤 H 𝓣.C 𝓣.Λ function) (WpFn-mono 𝓤 H 𝓛.laws 𝓣 function) (walks 𝓣.C 𝓣.Λ)

pub open_spec : {M : Type 1} → stated.statement M
unfolding tables_of
open_spec 𝓤 𝓛 𝓜 𝓡 wired =
    let 𝓣 : Tables 𝓤 𝓛.H = tables_of 𝓤 𝓛.H 𝓜 (tables 𝓤 𝓛.H 𝓜 𝓡 𝓡.env) in
    entered 𝓤 𝓛.H (triple_of 𝓛 ended.signature (closing 𝓛 ended (held 𝓛 𝓜.mem 𝓡.returns))) 𝓣.C 𝓣.Λ #self function
    (code.unfolded 𝓤 𝓛.H 𝓜 𝓡 wired) (meets 𝓛 𝓜.mem 𝓡.returns 𝓣)
