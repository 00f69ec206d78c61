-- `row` hands the room to `from_raw_parts`. Assumes `Logic`.
use Rattle.std.proofs.Common.{◌≡◌, ℕ, ◌^◌, ◌<◌, List, [], ◌∷◌, ◌++◌, Bool, false, replicate, refl, sym, ap, ◌∙◌, arith}
use seplogic.Ra.Ura.{Ura}
use mir.Syntax.{Fn, Callee, w64, copy, return, assign, seq, place, rv_opd}
use mir.Val.{Val, vint, vptr}
use base.Logic.{SProp, ent}
use base.Fraction.{full_share}
use base.Fml.{flft}
use prog.Memory.{Memory}
use prog.Routine.{Routine}
use prog.Wp.{Calls, Loops, WpFn, Tables}
use contract.Monad.{Fun, fact}
use contract.Running.{tables, tables_of}
use sound.WpLaws.{WpFn-mono, fm_of, FmC}
use types.Logic.{Logic}
use types.Kit.{‵, raw, ◌⊛◌, some, given, later, prop, at_ret, ◌$◌, ◌∵◌, !, qed, move, drop, use0, use1, use2, split, fsplit, fjoin, pick, learn, feq_l, flt_l, regoal, rewrite, suffices, await, done}
use types.Run.{enter, returns, of_opd, and_then, no_more, first, blocks, exec}
use types.ByLocal.{alloc_all, pass_all, free_all, look_at, get, sets, lands_last, env}
use denote.Exit.{yes}
use denote.RattleType.{owns}
use denote.Signature.{plain, types_at}
use denote.Steps.{nothing, heard}
use denote.Triple.Clauses.{Clauses, Ended, closing}
use denote.Triple.Entry.{alive}
use denote.Triple.Spec.{Meets, triple_of}
use denote.Triple.Table.{entered}
use denote.Triple.Walked.{says, Stays, stay_dropped, walk_of, ends_at, walk_Meets}
use Rattle.std.proofs.alloc.Calls.{Goes-blank}
use Rattle.bytes.proofs.Walks.{none, none_had}
use contract.BorrowLft.{⊑_refl}
use denote.Builtin.{u8, usize, RawPtr}
use denote.RawPtr.{ptr_val, block_of, count_of}
use denote.Triple.Call.{calls_at_last}
use denote.Triple.Statement.{Triple}
use lib.ListN.{length-replicate}
use Rattle.core.proofs.slots.Opens.{row_val}
use Rattle.core.proofs.slots.Runs.{of_space}
use Rattle.core.proofs.slots.Slots.from_raw_parts.Met as callee
use Rattle.std_alloc.proofs.vec.Blocks.{el, all}
use Rattle.std_alloc.proofs.vec.Spares.{Row, From, from_key, at_from, Made, from_goes, from_gives, row_Typed}
use Rattle.bytes.specs.Ownership.{IsPlaced}
use Rattle.bytes.proofs.Lodging.{byte_laws}
use Rattle.buffer_block.specs.Ownership.{room_owns}
use Rattle.buffer_block.specs.contracts.tether.Room as Room
use Rattle.buffer_block.proofs.Rooms.{E8, room_tells}
use Rattle.buffer_block.specs.contracts.tether.row as F
use Rattle.buffer_block.specs.contracts.tether.row.Key.{name as #self}
use Rattle.buffer_block.proofs.tether.row.Statement as stated
use Rattle.buffer_block.proofs.tether.row.Code as code

abbrev key : Callee
key = from_key E8

abbrev function : Fn
function = code.function

abbrev ended : Ended
ended = F.ended

abbrev stayed : Stays ended.signature.params ended.kept
stayed = (stay_dropped (plain (λ _. RawPtr)) yes, (stay_dropped (plain (λ _. usize)) yes, (stay_dropped (plain (λ _. Room.the_row)) yes, tt)))

module _ {M : Type 1} {𝓤 : Ura M} (𝓛 : Logic 𝓤) (at_mem : Memory → SProp 𝓤) (run : Routine → Fun 𝓤) where
  open 𝓛 use {H}

  abbrev held : Clauses 𝓤 ended
  held = F.clauses 𝓛 at_mem run

  module _ (C : Calls 𝓤 H) (Λ : Loops 𝓤 H) (framed : FmC 𝓤 H 𝓛.laws C) (called : Triple 𝓤 (C key) (From E8 𝓛 at_mem run)) (z : (walk_of 𝓛 ended stayed held).Ghost) where
    abbrev Post : Val → SProp 𝓤
    Post = (walk_of 𝓛 ended stayed held).post z

    abbrev toks : SProp 𝓤
    toks = alive 𝓛 ended.signature z.0.0 z.0.1

    walks : ent 𝓤 ((walk_of 𝓛 ended stayed held).pre z) (WpFn 𝓤 H C Λ function ((walk_of 𝓛 ended stayed held).args z) Post)
    walks =
        let a = z.0.3 in
        let vss = z.0.4 in
        let p = a.0 in
        let n = a.1.0 in
        let b = block_of p in
        let o = count_of p in
        let xs : List ℕ = replicate n 0 in
        let fs : List Bool = replicate n false in
        let Asked = (a.1.1.0.ptr ≡ p) × (a.1.1.0.len ≡ n) in
        qed 𝓛 ((raw toks ⊛ ‵ (owns (types_at ended.signature.params z.0.0) a vss)) ∷ raw (fact 𝓤 Asked) ∷ []) ∵
        move ! (1 ∷ []) $ heard ! Asked (λ asked. split ! $ move ! (1 ∷ []) $
        fsplit ! $ feq_l ! (λ is₀. fsplit ! $ fsplit ! $ feq_l ! (λ is₁. flt_l ! (λ fits. fsplit ! $ fsplit ! $ none_had ! vss.1.1.0 (λ is₂. move ! (1 ∷ []) $ drop ! $
        rewrite ! 0 (λ r. ‵ (room_owns r a.1.1.0.len)) asked.0 refl $ rewrite ! 0 (λ k. ‵ (room_owns p k)) asked.1 refl $
        use1 𝓛 (given (IsPlaced p × (n < 2 ^ 63)) (‵ (room_owns p n))) (room_tells 𝓛 p n) $ learn ! (λ told.
        let at = told.0 in
        let y = at_from E8 𝓛 at_mem run [] full_share b o n xs fs in
        rewrite ! 0 (λ r. ‵ (room_owns r n)) at refl $ fsplit ! $ drop ! $ use1 𝓛 (‵ (all E8 b o xs fs)) (of_space (el E8) 𝓛 b o n xs (length-replicate n 0)) $
        regoal ! (λ (us : List Val). prop (WpFn 𝓤 H C Λ function (us ++ (vss.1.0 ++ (vss.1.1.0 ++ []))) Post)) (is₀ ∙ ap (λ r. ptr_val r ∷ []) at) refl $
        regoal ! (λ (us : List Val). prop (WpFn 𝓤 H C Λ function ((vptr b o ∷ []) ++ (us ++ (vss.1.1.0 ++ []))) Post)) is₁ refl $
        regoal ! (λ (us : List Val). prop (WpFn 𝓤 H C Λ function ((vptr b o ∷ []) ++ ((vint w64 n ∷ []) ++ (us ++ []))) Post)) is₂ refl $
        enter ! C Λ function (vptr b o ∷ vint w64 n ∷ none ∷ []) Post $ alloc_all ! (λ l. pass_all ! refl ((tt, tt), ((tt, record { fits = fits }), ((tt, tt), tt))) $
        first ! $ blocks ! $ use0 𝓛 (‵ (flft [] full_share)) (𝓛.lfts.lft-nil full_share) $ move ! (1 ∷ 0 ∷ []) $
        use2 𝓛 (raw ((From E8 𝓛 at_mem run).pre y)) (from_goes E8 𝓛 at_mem run [] full_share b o n xs fs (⊑_refl []) (sym (length-replicate n 0)) (sym (length-replicate n false)) fits (let small = told.1 in omega arith)) $
        calls_at_last ! framed (From E8 𝓛 at_mem run) called y (and_then ! (get ! refl) (and_then ! (get ! refl) (no_more !))) (λ v.
        use1 𝓛 (later (some (λ (r : (Row E8).Denot). given ((v ≡ row_val b o n) × Made E8 𝓛 at_mem run [] full_share b o n xs fs r) (‵ ((Row E8).own_val r (row_val b o n ∷ [])) ⊛ ‵ (flft [] full_share))))) (from_gives E8 𝓛 at_mem run [] full_share b o n xs fs v) $
        await ! tt $ pick ! (λ r. learn ! (λ made. split ! $ move ! (1 ∷ []) $ drop ! $
        let fine = row_Typed E8 v b o n made.0 fits in
        rewrite ! 0 (λ w. ‵ ((Row E8).own_val r (w ∷ []))) (sym made.0) refl $ lands_last ! refl fine $
        exec ! C Λ (env function.locals l) (seq (assign (place 0 []) (rv_opd (copy (place 4 [])))) return) (at_ret (env function.locals l) Post) $
        sets ! (of_opd ! (get ! refl)) refl fine $
        returns ! (look_at ! 0 refl) $ free_all ! refl $
        suffices ! _ (ends_at 𝓛 ended stayed held z v r (tt, (tt, (tt, tt))) (tt, (tt, (tt, tt)))) $ says ! (made.1.0 ∙ sym at, made.1.1) $
        nothing ! $ nothing ! $ fjoin ! $ nothing ! $ fjoin ! $ nothing ! $ fjoin ! $ move ! (2 ∷ 0 ∷ 1 ∷ []) $ done !))))))))))

  meets : (𝓣 : Tables 𝓤 H) → Triple 𝓤 (𝓣.C key) (From E8 𝓛 at_mem run) → Meets 𝓛 ended.signature (WpFn 𝓤 H 𝓣.C 𝓣.Λ function) (closing 𝓛 ended held)
  meets 𝓣 called =
      walk_Meets 𝓛 ended stayed (Goes-blank 𝓛 0 (plain (λ _. RawPtr)) yes (λ κs x f. tt), (Goes-blank 𝓛 0 (plain (λ _. usize)) yes (λ κs x f. tt), (Goes-blank 𝓛 0 (plain (λ _. Room.the_row)) yes (λ κs x f. tt), tt))) held (WpFn 𝓤 H 𝓣.C 𝓣.Λ function) (WpFn-mono 𝓤 H 𝓛.laws 𝓣 function) (walks 𝓣.C 𝓣.Λ (fm_of 𝓤 H 𝓛.laws 𝓣) called)

pub row_spec : {M : Type 1} → stated.statement M
unfolding tables_of
row_spec 𝓤 𝓛 𝓜 𝓡 wired =
    let 𝓣 : Tables 𝓤 𝓛.H = tables_of 𝓤 𝓛.H 𝓜 (tables 𝓤 𝓛.H 𝓜 𝓡 𝓡.env) in
    entered 𝓤 𝓛.H (triple_of 𝓛 ended.signature (closing 𝓛 ended (held 𝓛 𝓜.mem 𝓡.returns))) 𝓣.C 𝓣.Λ #self function
    (code.unfolded 𝓤 𝓛.H 𝓜 𝓡 wired) (meets 𝓛 𝓜.mem 𝓡.returns 𝓣 (callee.met 𝓤 𝓛 𝓜 𝓡 (code.calls-core::slots::Slots::from_raw_parts 𝓡.env wired) u8 byte_laws))
