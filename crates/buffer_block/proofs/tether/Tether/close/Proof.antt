-- `close` puts the place back, and with it the two tokens. Assumes `Logic`.
use Rattle.std.proofs.Common.{◌≡◌, List, [], ◌∷◌, ◌++◌, refl, ap}
use seplogic.Ra.Ura.{Ura}
use mir.Syntax.{Fn}
use mir.Val.{Val}
use base.Logic.{SProp, ent, emp, apply∗, id⊢}
use base.Fml.{flft, fat}
use base.Fraction.{full_share}
use prog.Memory.{Memory}
use prog.Routine.{Routine}
use prog.Wp.{Calls, Loops, WpFn, Tables}
use contract.Monad.{Fun, fact}
use contract.Running.{tables, tables_of}
use sound.WpLaws.{WpFn-mono}
use types.Logic.{Logic, sem}
use types.Kit.{‵, raw, ◌⊛◌, prop, ◌$◌, ◌∵◌, !, qed, move, drop, use0, use2, split, join, fsplit, fsplit3, fjoin, fpick, regoal, rewrite, suffices, done}
use types.Part.{sub, whole}
use types.Run.{enter, returns, of_opd, fld, stop}
use types.ByLocal.{alloc_all, pass_all, free_all, look_at, take_at, give_at, get, get_in, sets}
use denote.Exit.{yes}
use denote.RattleType.{owns}
use denote.Signature.{plain, types_at}
use denote.Steps.{nothing, heard, only}
use denote.Triple.Clauses.{Clauses, Ended, closing}
use denote.Triple.Entry.{alive}
use denote.Triple.Spec.{Meets, triple_of}
use denote.Triple.Table.{entered}
use denote.Triple.Walked.{Stays, stay_dropped, walk_of, ends_at, walk_Meets}
use Rattle.std.proofs.alloc.Calls.{Goes-blank}
use Rattle.bytes.proofs.Walks.{plainly, none, tells, one_had, none_had}
use types.Tokens.{obor_close}
use denote.Param.{layout}
use Rattle.buffer_block.specs.Ownership.{room_owns}
use Rattle.buffer_block.specs.contracts.tether.Room as Room
use Rattle.buffer_block.specs.contracts.tether.Tether as Tether
use Rattle.buffer_block.proofs.tether.Tether.TheLaws as tether-laws
use Rattle.buffer_block.proofs.Arcs.{Counted, counted-laws}
use Rattle.buffer_block.specs.contracts.tether.Tether.close as F
use Rattle.buffer_block.specs.contracts.tether.Tether.close.Key.{name as #self}
use Rattle.buffer_block.proofs.tether.Tether.close.Statement as stated
use Rattle.buffer_block.proofs.tether.Tether.close.Code as code

abbrev function : Fn
function = code.function

abbrev ended : Ended
ended = F.ended

abbrev stayed : Stays ended.signature.params ended.kept
stayed = (stay_dropped (plain (λ _. Tether.the_row)) yes, (stay_dropped (plain (λ _. Room.the_row)) yes, tt))

module _ {M : Type 1} {𝓤 : Ura M} (𝓛 : Logic 𝓤) (at_mem : Memory → SProp 𝓤) (run : Routine → Fun 𝓤) where
  open 𝓛 use {H}

  abbrev held : Clauses 𝓤 ended
  held = F.clauses 𝓛 at_mem run

  module _ (C : Calls 𝓤 H) (Λ : Loops 𝓤 H) (z : (walk_of 𝓛 ended stayed held).Ghost) where
    abbrev Post : Val → SProp 𝓤
    Post = (walk_of 𝓛 ended stayed held).post z

    abbrev toks : SProp 𝓤
    toks = alive 𝓛 ended.signature z.0.0 z.0.1

    walks : ent 𝓤 ((walk_of 𝓛 ended stayed held).pre z) (WpFn 𝓤 H C Λ function ((walk_of 𝓛 ended stayed held).args z) Post)
    walks =
        let a = z.0.3 in
        let vss = z.0.4 in
        let t = a.0 in
        let T = Tether.the_row in
        let Asked = (a.1.0.ptr ≡ t.ptr) × (a.1.0.len ≡ t.len) in
        qed 𝓛 ((raw toks ⊛ ‵ (owns (types_at ended.signature.params z.0.0) a vss)) ∷ raw (fact 𝓤 Asked) ∷ []) ∵
        move ! (1 ∷ []) $ heard ! Asked (λ asked. split ! $ move ! (1 ∷ []) $
        fsplit ! $ tells ! T tether-laws.the_row_laws t vss.0 (λ v is₀ fine. move ! (1 ∷ []) $ fsplit ! $ fsplit ! $ none_had ! vss.1.0 (λ is₁. move ! (1 ∷ []) $ drop ! $
        regoal ! (λ (us : List Val). prop (WpFn 𝓤 H C Λ function (us ++ (vss.1.0 ++ [])) Post)) is₀ refl $
        regoal ! (λ (us : List Val). prop (WpFn 𝓤 H C Λ function ((v ∷ []) ++ (us ++ [])) Post)) is₁ refl $
        enter ! C Λ function (v ∷ none ∷ []) Post $ alloc_all ! (λ l. pass_all ! refl (fine, ((tt, tt), tt)) $
        -- [the room; the owner; the tokens]
        rewrite ! 0 (λ p. ‵ (room_owns p a.1.0.len)) asked.0 refl $ rewrite ! 0 (λ k. ‵ (room_owns t.ptr k)) asked.1 refl $
        move ! (1 ∷ []) $ fsplit ! $ drop ! $ fpick ! (λ x. fpick ! (λ w. fsplit3 ! $
        -- [the way back; the open token; the open loan; the room; the tokens]
        move ! (2 ∷ 3 ∷ []) $ obor_close ! tt $ drop ! $ move ! (2 ∷ 0 ∷ []) $ obor_close ! tt $ drop ! $
        let Whole = (plainly (Counted ∷ [])).own_val (x.block, tt) (v ∷ []) in
        use2 𝓛 (‵ Whole) (apply∗ 𝓤 (sem 𝓛 (flft (w.0 ∷ []) w.1)) (sem 𝓛 Whole)) $ one_had ! Counted counted-laws x.block (v ∷ []) (λ u shape good.
        take_at ! 1 $ rewrite ! 0 (λ y. ‵ (fat full_share (layout T) (l 1) 0 y)) (ap only shape) refl $ give_at ! 1 $
        sets ! (of_opd ! (get_in ! (fld ! refl (stop !)) (sub ! 0 refl (whole !)))) refl good $
        sets ! (of_opd ! (get ! refl)) refl good $
        returns ! (look_at ! 0 refl) $ free_all ! refl $
        suffices ! _ (ends_at 𝓛 ended stayed held z u x.block (tt, (tt, tt)) (tt, (tt, tt))) $
        nothing ! $ nothing ! $ fjoin ! $ nothing ! $ fjoin ! $ move ! (0 ∷ 1 ∷ []) $ join ! $ move ! (1 ∷ 0 ∷ []) $ join ! $ use0 𝓛 (raw (emp 𝓤)) (id⊢ 𝓤 (emp 𝓤)) $ move ! (1 ∷ 0 ∷ []) $ done !)))))))

  meets : (𝓣 : Tables 𝓤 H) → Meets 𝓛 ended.signature (WpFn 𝓤 H 𝓣.C 𝓣.Λ function) (closing 𝓛 ended held)
  meets 𝓣 =
      walk_Meets 𝓛 ended stayed (Goes-blank 𝓛 0 (plain (λ _. Tether.the_row)) yes (λ κs x f. tt), (Goes-blank 𝓛 0 (plain (λ _. Room.the_row)) yes (λ κs x f. tt), tt)) held (WpFn 𝓤 H 𝓣.C 𝓣.Λ function) (WpFn-mono 𝓤 H 𝓛.laws 𝓣 function) (walks 𝓣.C 𝓣.Λ)

pub close_spec : {M : Type 1} → stated.statement M
unfolding tables_of
close_spec 𝓤 𝓛 𝓜 𝓡 wired =
    let 𝓣 : Tables 𝓤 𝓛.H = tables_of 𝓤 𝓛.H 𝓜 (tables 𝓤 𝓛.H 𝓜 𝓡 𝓡.env) in
    entered 𝓤 𝓛.H (triple_of 𝓛 ended.signature (closing 𝓛 ended (held 𝓛 𝓜.mem 𝓡.returns))) 𝓣.C 𝓣.Λ #self function
    (code.unfolded 𝓤 𝓛.H 𝓜 𝓡 wired) (meets 𝓛 𝓜.mem 𝓡.returns 𝓣)
