-- `regain` ends the lifetime, and puts the room back. Assumes `Logic`.
use Rattle.std.proofs.Common.{◌*◌, ◌^◌, ◌<◌, List, [], ◌∷◌, ◌++◌, refl, sym, ap, subst}
use seplogic.Ra.Ura.{Ura}
use mir.Syntax.{Fn}
use mir.Val.{Val}
use base.Logic.{SProp, ent, emp, apply∗, id⊢}
use base.Fml.{fat}
use base.Fraction.{full_share}
use prog.Memory.{Memory}
use prog.Routine.{Routine}
use prog.Wp.{Calls, Loops, WpFn, Tables}
use contract.Monad.{Fun}
use contract.Running.{tables, tables_of}
use sound.WpLaws.{WpFn-mono}
use types.Logic.{Logic, sem}
use types.Kit.{‵, raw, ◌⊛◌, later, prop, ◌$◌, ◌∵◌, !, qed, move, drop, use0, use2, split, join, fsplit, fjoin, fpick, regoal, rewrite, suffices, await, done}
use types.Part.{sub, whole}
use types.Run.{enter, returns, of_opd, fld, stop}
use types.ByLocal.{alloc_all, pass_all, free_all, look_at, take_at, give_at, get, get_in, sets}
use denote.Exit.{yes}
use denote.RattleType.{owns}
use denote.Signature.{plain, types_at}
use denote.Steps.{nothing, only}
use denote.Triple.Clauses.{Clauses, Ended, closing}
use denote.Triple.Entry.{alive}
use denote.Triple.Spec.{Meets, triple_of}
use denote.Triple.Table.{entered}
use denote.Triple.Walked.{Stays, stay_dropped, walk_of, ends_at, walk_Meets}
use Rattle.std.proofs.alloc.Calls.{Goes-blank}
use Rattle.bytes.proofs.Walks.{Good, one, one_had}
use types.Tokens.{lft_end}
use denote.Param.{layout}
use denote.Struct.Struct.{as_fields}
use Rattle.buffer_block.specs.Ownership.{room_owns}
use Rattle.buffer_block.specs.contracts.block.Sole as Sole
use Rattle.buffer_block.specs.contracts.block.Block as Block
use Rattle.buffer_block.proofs.block.Sole.TheLaws as sole-laws
use Rattle.buffer_block.proofs.Rooms.{regain}
use Rattle.buffer_block.proofs.Vecs.{V8, v8_laws}
use Rattle.bytes.proofs.Walks.{plainly}
use Rattle.buffer_block.specs.contracts.block.Block.regain as F
use Rattle.buffer_block.specs.contracts.block.Block.regain.Key.{name as #self}
use Rattle.buffer_block.proofs.block.Block.regain.Statement as stated
use Rattle.buffer_block.proofs.block.Block.regain.Code as code

abbrev function : Fn
function = code.function

abbrev ended : Ended
ended = F.ended

abbrev stayed : Stays ended.signature.params ended.kept
stayed = (stay_dropped (plain (λ _. Block.the_row)) yes, tt)

module _ {M : Type 1} {𝓤 : Ura M} (𝓛 : Logic 𝓤) (at_mem : Memory → SProp 𝓤) (run : Routine → Fun 𝓤) where
  open 𝓛 use {H}

  abbrev held : Clauses 𝓤 ended
  held = F.clauses 𝓛 at_mem run

  module _ (C : Calls 𝓤 H) (Λ : Loops 𝓤 H) (z : (walk_of 𝓛 ended stayed held).Ghost) where
    abbrev Post : Val → SProp 𝓤
    Post = (walk_of 𝓛 ended stayed held).post z

    abbrev toks : SProp 𝓤
    toks = alive 𝓛 ended.signature z.0.0 z.0.1

    walks : ent 𝓤 ((walk_of 𝓛 ended stayed held).pre z) (WpFn 𝓤 H C Λ function ((walk_of 𝓛 ended stayed held).args z) Post)
    walks =
        let a = z.0.3 in
        let vss = z.0.4 in
        let block = a.0 in
        let e = block.sole in
        let S = Sole.the_row in
        qed 𝓛 ((raw toks ⊛ ‵ (owns (types_at ended.signature.params z.0.0) a vss)) ∷ raw (emp 𝓤) ∷ []) ∵
        move ! (1 ∷ []) $ drop ! $ split ! $ move ! (1 ∷ []) $ fsplit ! $ fsplit ! $ one_had ! S sole-laws.the_row_laws e vss.0 (λ w is good. move ! (2 ∷ []) $ drop ! $
        regoal ! (λ (us : List Val). prop (WpFn 𝓤 H C Λ function (us ++ []) Post)) is refl $
        enter ! C Λ function (one w ∷ []) Post $ alloc_all ! (λ l. pass_all ! refl (as_fields (layout S ∷ []) (w ∷ []) (good, tt), tt) $
        -- [the `Vec` without its room; what the block owns; the tokens]
        move ! (1 ∷ []) $ fsplit ! $ lft_end ! tt $
        use2 𝓛 (later (‵ (room_owns e.ptr (block.number * block.room)))) (regain 𝓛 block.life block.room block.number e.ptr block.placed (subst (λ k. k < 2 ^ 63) block.whole block.small)) $ await ! tt $
        rewrite ! 0 (λ k. ‵ (room_owns e.ptr k)) (sym block.whole) refl $ move ! (1 ∷ []) $ fsplit ! $ fpick ! (λ typed. drop ! $ fpick ! (λ i.
        let Whole = (plainly (V8 ∷ [])).own_val (i.vec, tt) (w ∷ []) in
        move ! (1 ∷ 0 ∷ []) $ use2 𝓛 (‵ Whole) (apply∗ 𝓤 (sem 𝓛 (room_owns e.ptr e.len)) (sem 𝓛 Whole)) $
        one_had ! V8 v8_laws i.vec (w ∷ []) (λ u same fine.
        take_at ! 1 $ rewrite ! 0 (λ y. ‵ (fat full_share (layout Block.the_row) (l 1) 0 (one y))) (ap only same) refl $ give_at ! 1 $
        sets ! (of_opd ! (get_in ! (fld ! refl (stop !)) (sub ! 0 refl (whole !)))) refl (subst (Good S) (ap only same) good) $
        sets ! (of_opd ! (get_in ! (fld ! refl (stop !)) (sub ! 0 refl (whole !)))) refl fine $
        sets ! (of_opd ! (get ! refl)) refl fine $
        returns ! (look_at ! 0 refl) $ free_all ! refl $
        suffices ! _ (ends_at 𝓛 ended stayed held z u i.vec ((tt, tt), tt) (tt, tt)) $
        nothing ! $ nothing ! $ fjoin ! $ move ! (0 ∷ 1 ∷ []) $ join ! $ move ! (1 ∷ 0 ∷ []) $ join ! $ use0 𝓛 (raw (emp 𝓤)) (id⊢ 𝓤 (emp 𝓤)) $ move ! (1 ∷ 0 ∷ []) $ done !)))))

  meets : (𝓣 : Tables 𝓤 H) → Meets 𝓛 ended.signature (WpFn 𝓤 H 𝓣.C 𝓣.Λ function) (closing 𝓛 ended held)
  meets 𝓣 =
      walk_Meets 𝓛 ended stayed (Goes-blank 𝓛 0 (plain (λ _. Block.the_row)) yes (λ κs x f. tt), tt) held (WpFn 𝓤 H 𝓣.C 𝓣.Λ function) (WpFn-mono 𝓤 H 𝓛.laws 𝓣 function) (walks 𝓣.C 𝓣.Λ)

pub regain_spec : {M : Type 1} → stated.statement M
unfolding tables_of
regain_spec 𝓤 𝓛 𝓜 𝓡 wired =
    let 𝓣 : Tables 𝓤 𝓛.H = tables_of 𝓤 𝓛.H 𝓜 (tables 𝓤 𝓛.H 𝓜 𝓡 𝓡.env) in
    entered 𝓤 𝓛.H (triple_of 𝓛 ended.signature (closing 𝓛 ended (held 𝓛 𝓜.mem 𝓡.returns))) 𝓣.C 𝓣.Λ #self function
    (code.unfolded 𝓤 𝓛.H 𝓜 𝓡 wired) (meets 𝓛 𝓜.mem 𝓡.returns 𝓣)
