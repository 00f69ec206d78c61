-- `house` hands the places to `lodge`. Assumes `Logic`.
use Rattle.std.proofs.Common.{◌≡◌, ℕ, ◌*◌, ◌^◌, ◌<◌, ◌≤◌, List, [], ◌∷◌, ◌++◌, length, take, Bool, refl, sym, ap, ◌∙◌, subst, arith, Vec}
use seplogic.Ra.Ura.{Ura}
use mir.Syntax.{Fn, Callee, a_type, w64, copy, return, assign, seq, place, rv_opd}
use mir.Val.{Val, vint, WT}
use base.Logic.{SProp, ent}
use base.Fraction.{full_share}
use base.Fml.{flft, fat}
use prog.Memory.{Memory}
use prog.Routine.{Routine}
use prog.Wp.{Calls, Loops, WpFn, Tables}
use contract.Monad.{Fun, fact}
use contract.Running.{tables, tables_of}
use sound.WpLaws.{WpFn-mono, fm_of, FmC}
use types.Logic.{Logic}
use types.Kit.{‵, raw, ◌⊛◌, some, given, later, prop, at_ret, ◌$◌, ◌∵◌, !, qed, move, drop, use0, use1, use2, split, fsplit, fjoin, pick, learn, feq_l, flt_l, regoal, rewrite, suffices, await, done}
use types.Part.{sub, whole}
use types.Run.{enter, returns, of_opd, and_then, no_more, fld, stop, first, blocks, exec}
use types.ByLocal.{alloc_all, pass_all, free_all, look_at, take_at, give_at, get, get_in, sets, lands_last, env}
use denote.Exit.{yes}
use denote.RattleType.{owns}
use denote.Signature.{plain, types_at}
use denote.Steps.{nothing, heard, only}
use denote.Triple.Clauses.{Clauses, Ended, closing}
use denote.Triple.Entry.{alive}
use denote.Triple.Spec.{Meets, triple_of}
use denote.Triple.Table.{entered}
use denote.Triple.Walked.{says, Stays, stay_dropped, walk_of, ends_at, walk_Meets}
use Rattle.std.proofs.alloc.Calls.{Goes-blank}
use Rattle.bytes.proofs.Walks.{Good, tells}
use contract.BorrowLft.{⊑_refl}
use Rattle.core.specs.contracts.slots.Slots as SlotsType
use denote.Builtin.{u8, usize}
use denote.RawPtr.{RawPtr, block_ptr}
use denote.Struct.Tuple.{Tuple}
use denote.Param.{layout, layouts}
use denote.Triple.Call.{calls_at_last}
use denote.Triple.Statement.{Triple}
use lib.Seq.{length-take-le}
use Rattle.std.specs.Mem.Slots.{slots_len, slots_items, slots_filled, slots_counts}
use Rattle.std.specs.Mem.Slots.Ownership.{Filled}
use Rattle.core.proofs.slots.Opens.{row_val, row_had, row_made}
use Rattle.core.proofs.slots.Slots.into_raw_parts.Met as opened
use Rattle.core.proofs.alloc.Shapes.{after}
use Rattle.std_alloc.specs.declared.vec.lodged.Lodged.{Lodged}
use Rattle.std_alloc.specs.contracts.vec.lodge.Key.{name as callee_name}
use Rattle.std_alloc.proofs.vec.lodge.Met as callee
use Rattle.std_alloc.proofs.vec.Blocks.{el, all}
use Rattle.std_alloc.proofs.vec.Spares.{Into, into_key, at_into, Into-goes, Into-gives, parts_typed}
use Rattle.bytes.proofs.Lodging.{byte_laws, Housed, housed-laws, Lodges}
use Rattle.buffer_block.proofs.Housing.{Behind, IsHoused, at_lodge, lodge_goes, lodge_gives, housed}
use Rattle.buffer_block.proofs.Rooms.{E8}
use Rattle.buffer_block.specs.contracts.tether.house as F
use Rattle.buffer_block.specs.contracts.tether.house.Key.{name as #self}
use Rattle.buffer_block.proofs.tether.house.Statement as stated
use Rattle.buffer_block.proofs.tether.house.Code as code

abbrev key : Callee
key = callee_name (layouts (a_type ∷ []) (u8, tt))

abbrev function : Fn
function = code.function

abbrev ended : Ended
ended = F.ended

abbrev stayed : Stays ended.signature.params ended.kept
stayed = (stay_dropped (plain (λ _. SlotsType.the_row u8)) yes, (stay_dropped (plain (λ _. usize)) yes, tt))

module _ {M : Type 1} {𝓤 : Ura M} (𝓛 : Logic 𝓤) (at_mem : Memory → SProp 𝓤) (run : Routine → Fun 𝓤) where
  open 𝓛 use {H}

  abbrev held : Clauses 𝓤 ended
  held = F.clauses 𝓛 at_mem run

  module _ (C : Calls 𝓤 H) (Λ : Loops 𝓤 H) (framed : FmC 𝓤 H 𝓛.laws C) (taken : Triple 𝓤 (C (into_key E8)) (Into E8 𝓛 at_mem run)) (called : Triple 𝓤 (C key) (Lodges 𝓛 at_mem run)) (z : (walk_of 𝓛 ended stayed held).Ghost) where
    abbrev Post : Val → SProp 𝓤
    Post = (walk_of 𝓛 ended stayed held).post z

    abbrev toks : SProp 𝓤
    toks = alive 𝓛 ended.signature z.0.0 z.0.1

    walks : ent 𝓤 ((walk_of 𝓛 ended stayed held).pre z) (WpFn 𝓤 H C Λ function ((walk_of 𝓛 ended stayed held).args z) Post)
    walks =
        let a = z.0.3 in
        let vss = z.0.4 in
        let r = a.0 in
        let n = a.1.0 in
        let c = slots_len r in
        let xs : List ℕ = slots_items r in
        let fs : List Bool = slots_filled r in
        let Asked = (n ≤ c) × Filled fs 0 n in
        qed 𝓛 ((raw toks ⊛ ‵ (owns (types_at ended.signature.params z.0.0) a vss)) ∷ raw (fact 𝓤 Asked) ∷ []) ∵
        move ! (1 ∷ []) $ heard ! Asked (λ asked. split ! $ move ! (1 ∷ []) $
        fsplit ! $ row_had (el E8) ! r vss.0 (λ b o at is₀ fk fit. row_made (el E8) ! r b o at fk fit $ move ! (1 ∷ []) $ fsplit ! $ fsplit ! $ feq_l ! (λ is₁. flt_l ! (λ fits. drop ! $
        let words : WT (row_val b o c) = (tt, (record { fits = fk }, tt)) in
        let y = at_into E8 𝓛 at_mem run [] full_share r b o in
        let ys : List ℕ = take n xs in
        let long : length ys ≡ n = let counts = slots_counts r in length-take-le n xs (omega (arith, asked.0, counts.0)) in
        regoal ! (λ (us : List Val). prop (WpFn 𝓤 H C Λ function (us ++ (vss.1.0 ++ [])) Post)) is₀ refl $
        regoal ! (λ (us : List Val). prop (WpFn 𝓤 H C Λ function ((row_val b o c ∷ []) ++ (us ++ [])) Post)) is₁ refl $
        enter ! C Λ function (row_val b o c ∷ vint w64 n ∷ []) Post $ alloc_all ! (λ l. pass_all ! refl ((tt, words), ((tt, record { fits = fits }), tt)) $
        first ! $ blocks ! $ sets ! (of_opd ! (get ! refl)) refl (tt, words) $
        use0 𝓛 (‵ (flft [] full_share)) (𝓛.lfts.lft-nil full_share) $ move ! (1 ∷ 0 ∷ []) $
        use2 𝓛 (raw ((Into E8 𝓛 at_mem run).pre y)) (Into-goes E8 𝓛 at_mem run [] full_share r b o (⊑_refl [])) $
        calls_at_last ! framed (Into E8 𝓛 at_mem run) taken y (and_then ! (get ! refl) (no_more !)) (λ v.
        use1 𝓛 (later (given (v ≡ row_val b o c) (‵ (all E8 b o xs fs) ⊛ ‵ (flft [] full_share)))) (Into-gives E8 𝓛 at_mem run [] full_share r b o v at) $ await ! tt $ learn ! (λ e. split ! $ move ! (1 ∷ []) $ drop ! $
        lands_last ! refl (parts_typed v b o c e fk) $ exec ! C Λ (env function.locals l) (after 1 function.body) (at_ret (env function.locals l) Post) $
        take_at ! 6 $ rewrite ! 0 (λ w. ‵ (fat full_share (layout (Tuple (RawPtr ∷ usize ∷ []))) (l 6) 0 w)) e refl $ give_at ! 6 $
        sets ! (of_opd ! (get ! refl)) refl (parts_typed (row_val b o c) b o c refl fk) $
        sets ! (of_opd ! (get_in ! (fld ! refl (stop !)) (sub ! 0 refl (whole !)))) refl (tt, tt) $
        sets ! (of_opd ! (get_in ! (fld ! refl (stop !)) (sub ! 1 refl (whole !)))) refl (tt, record { fits = fk }) $
        let counts = slots_counts r in
        let small : c * 1 < 2 ^ 63 = fit in
        let y' = at_lodge 𝓛 at_mem run b o n c ys in
        use1 𝓛 (‵ (Behind (block_ptr b o) n c ys)) (housed 𝓛 b o n c xs fs (sym counts.0) (sym counts.1) asked.0 asked.1) $
        first ! $ blocks ! $ use1 𝓛 (raw ((Lodges 𝓛 at_mem run).pre y')) (lodge_goes 𝓛 at_mem run b o n c ys (sym long) asked.0 (omega (arith, small))) $
        calls_at_last ! framed (Lodges 𝓛 at_mem run) called y' (and_then ! (get ! refl) (and_then ! (get ! refl) (and_then ! (get ! refl) (no_more !)))) (λ w.
        use1 𝓛 (later (some (λ (d : Vec ℕ Lodged). given (IsHoused 𝓛 at_mem run b o n c ys d) (‵ (Housed.own_val d (w ∷ [])))))) (lodge_gives 𝓛 at_mem run b o n c ys w) $
        await ! tt $ pick ! (λ d. learn ! (λ is. tells ! Housed housed-laws d (w ∷ []) (λ u same good.
        let fine : Good Housed w = subst (Good Housed) (sym (ap only same)) good in
        rewrite ! 0 (λ t. ‵ (Housed.own_val d (t ∷ []))) (sym (ap only same)) refl $ lands_last ! refl fine $
        exec ! C Λ (env function.locals l) (seq (assign (place 0 []) (rv_opd (copy (place 8 [])))) return) (at_ret (env function.locals l) Post) $
        sets ! (of_opd ! (get ! refl)) refl fine $
        returns ! (look_at ! 0 refl) $ free_all ! refl $
        suffices ! _ (ends_at 𝓛 ended stayed held z w d (tt, (tt, tt)) (tt, (tt, tt))) $ says ! (is.0, is.2, is.3 ∙ sym at) $
        nothing ! $ nothing ! $ fjoin ! $ nothing ! $ fjoin ! $ move ! (2 ∷ 0 ∷ 1 ∷ []) $ done !)))))))))))

  meets : (𝓣 : Tables 𝓤 H) → Triple 𝓤 (𝓣.C (into_key E8)) (Into E8 𝓛 at_mem run) → Triple 𝓤 (𝓣.C key) (Lodges 𝓛 at_mem run) → Meets 𝓛 ended.signature (WpFn 𝓤 H 𝓣.C 𝓣.Λ function) (closing 𝓛 ended held)
  meets 𝓣 taken called =
      walk_Meets 𝓛 ended stayed (Goes-blank 𝓛 0 (plain (λ _. SlotsType.the_row u8)) yes (λ κs x f. tt), (Goes-blank 𝓛 0 (plain (λ _. usize)) yes (λ κs x f. tt), tt)) held (WpFn 𝓤 H 𝓣.C 𝓣.Λ function) (WpFn-mono 𝓤 H 𝓛.laws 𝓣 function) (walks 𝓣.C 𝓣.Λ (fm_of 𝓤 H 𝓛.laws 𝓣) taken called)

pub house_spec : {M : Type 1} → stated.statement M
unfolding tables_of
house_spec 𝓤 𝓛 𝓜 𝓡 wired =
    let 𝓣 : Tables 𝓤 𝓛.H = tables_of 𝓤 𝓛.H 𝓜 (tables 𝓤 𝓛.H 𝓜 𝓡 𝓡.env) in
    entered 𝓤 𝓛.H (triple_of 𝓛 ended.signature (closing 𝓛 ended (held 𝓛 𝓜.mem 𝓡.returns))) 𝓣.C 𝓣.Λ #self function
    (code.unfolded 𝓤 𝓛.H 𝓜 𝓡 wired) (meets 𝓛 𝓜.mem 𝓡.returns 𝓣
    (opened.met 𝓤 𝓛 𝓜 𝓡 (code.calls-core::slots::Slots::into_raw_parts 𝓡.env wired) u8 byte_laws) (callee.met 𝓤 𝓛 𝓜 𝓡 (code.calls-std_alloc::vec::lodge 𝓡.env wired) u8 byte_laws))
