-- `lend` starts the lifetime, and lends each place for it. Assumes `Logic`.
use Rattle.std.proofs.Common.{◌≡◌, ◌*◌, ◌^◌, ◌<◌, List, [], ◌∷◌, ◌++◌, refl, sym, subst}
use seplogic.Ra.Ura.{Ura}
use mir.Syntax.{Fn, w64}
use mir.Val.{Val, vint}
use base.Logic.{SProp, ent}
use base.Fml.{ftrue}
use prog.Memory.{Memory}
use prog.Routine.{Routine}
use prog.Wp.{Calls, Loops, WpFn, Tables}
use contract.Monad.{Fun, fact}
use contract.Running.{tables, tables_of}
use sound.WpLaws.{WpFn-mono}
use types.Logic.{Logic}
use types.Kit.{‵, raw, ◌⊛◌, given, later, prop, ◌$◌, ◌∵◌, !, qed, move, drop, use1, split, fsplit, fjoin, fpack, learn, feq_l, flt_l, regoal, rewrite, suffices, await, done}
use types.Part.{agg}
use types.Run.{enter, returns, of_opd, and_then, no_more}
use types.ByLocal.{alloc_all, pass_all, free_all, look_at, get, sets}
use denote.Exit.{yes}
use denote.RattleType.{owns}
use denote.Signature.{plain, types_at}
use denote.Steps.{nothing, heard}
use denote.Triple.Clauses.{Clauses, Ended, closing}
use denote.Triple.Entry.{alive}
use denote.Triple.Spec.{Meets, triple_of}
use denote.Triple.Table.{entered}
use denote.Triple.Walked.{says, Stays, stay_dropped, walk_of, ends_at, walk_Meets}
use Rattle.std.proofs.alloc.Calls.{Goes-blank}
use Rattle.bytes.proofs.Walks.{none, one, two, tells, none_made, one_made, two_made}
use types.Tokens.{lft_new}
use denote.Builtin.{usize}
use denote.Param.{layout}
use denote.Laws.{Typed}
use denote.RawPtr.{InBlock}
use denote.Struct.Struct.{as_fields}
use Rattle.bytes.specs.Ownership.{Extent, IsPlaced}
use Rattle.buffer_block.specs.Ownership.{room_owns}
use Rattle.buffer_block.specs.contracts.block.Sole as Sole
use Rattle.buffer_block.specs.contracts.block.Block as Block
use Rattle.buffer_block.specs.contracts.block.Places as Places
use Rattle.buffer_block.proofs.Rooms.{Loan, lend, room_tells}
use Rattle.buffer_block.proofs.Vecs.{V8, v8_laws, carve}
use Rattle.buffer_block.specs.contracts.block.Block.lend as F
use Rattle.buffer_block.specs.contracts.block.Block.lend.Key.{name as #self}
use Rattle.buffer_block.proofs.block.Block.lend.Statement as stated
use Rattle.buffer_block.proofs.block.Block.lend.Code as code

abbrev function : Fn
function = code.function

abbrev ended : Ended
ended = F.ended

abbrev stayed : Stays ended.signature.params ended.kept
stayed = (stay_dropped (plain (λ _. V8)) yes, (stay_dropped (plain (λ _. usize)) yes, (stay_dropped (plain (λ _. usize)) yes, tt)))

module _ {M : Type 1} {𝓤 : Ura M} (𝓛 : Logic 𝓤) (at_mem : Memory → SProp 𝓤) (run : Routine → Fun 𝓤) where
  open 𝓛 use {H}

  abbrev held : Clauses 𝓤 ended
  held = F.clauses 𝓛 at_mem run

  module _ (C : Calls 𝓤 H) (Λ : Loops 𝓤 H) (z : (walk_of 𝓛 ended stayed held).Ghost) where
    abbrev Post : Val → SProp 𝓤
    Post = (walk_of 𝓛 ended stayed held).post z

    abbrev toks : SProp 𝓤
    toks = alive 𝓛 ended.signature z.0.0 z.0.1

    walks : ent 𝓤 ((walk_of 𝓛 ended stayed held).pre z) (WpFn 𝓤 H C Λ function ((walk_of 𝓛 ended stayed held).args z) Post)
    walks =
        let a = z.0.3 in
        let vss = z.0.4 in
        let v = a.0 in
        let r = a.1.0 in
        let n = a.1.1.0 in
        let p = v.ptr in
        let S = Sole.the_row in
        let B = Block.the_row in
        let e : Extent = record { ptr = p; len = v.cap } in
        let Asked = (v.len ≡ 0) × (v.cap ≡ n * r) in
        qed 𝓛 ((raw toks ⊛ ‵ (owns (types_at ended.signature.params z.0.0) a vss)) ∷ raw (fact 𝓤 Asked) ∷ []) ∵
        move ! (1 ∷ []) $ heard ! Asked (λ asked. split ! $ move ! (1 ∷ []) $ fsplit ! $ tells ! V8 v8_laws v vss.0 (λ u is₀ good.
        use1 𝓛 (‵ (room_owns p v.cap) ⊛ ‵ (Sole.the_own e (one u ∷ []))) (carve 𝓛 v u asked.0) $ split ! $
        use1 𝓛 (given (IsPlaced p × (v.cap < 2 ^ 63)) (‵ (room_owns p v.cap))) (room_tells 𝓛 p v.cap) $ learn ! (λ told.
        move ! (2 ∷ []) $ fsplit ! $ fsplit ! $ feq_l ! (λ is₁. flt_l ! (λ fits₁. fsplit ! $ fsplit ! $ feq_l ! (λ is₂. flt_l ! (λ fits₂. drop ! $
        let inner = as_fields (layout V8 ∷ []) (u ∷ []) (good, tt) in
        let outer = as_fields (layout S ∷ []) (one u ∷ []) (inner, tt) in
        regoal ! (λ (us : List Val). prop (WpFn 𝓤 H C Λ function (us ++ (vss.1.0 ++ (vss.1.1.0 ++ []))) Post)) is₀ refl $
        regoal ! (λ (us : List Val). prop (WpFn 𝓤 H C Λ function ((u ∷ []) ++ (us ++ (vss.1.1.0 ++ []))) Post)) is₁ refl $
        regoal ! (λ (us : List Val). prop (WpFn 𝓤 H C Λ function ((u ∷ []) ++ ((vint w64 r ∷ []) ++ (us ++ []))) Post)) is₂ refl $
        enter ! C Λ function (u ∷ vint w64 r ∷ vint w64 n ∷ []) Post $ alloc_all ! (λ l. pass_all ! refl (good, ((tt, record { fits = fits₁ }), ((tt, record { fits = fits₂ }), tt))) $
        sets ! (of_opd ! (get ! refl)) refl good $
        sets ! (agg ! (and_then ! (get ! refl) (no_more !))) refl inner $
        sets ! (agg ! (and_then ! (get ! refl) (no_more !))) refl outer $
        sets ! (agg ! (no_more !)) refl (tt, tt) $
        sets ! (agg ! (and_then ! (get ! refl) (and_then ! (get ! refl) (no_more !)))) refl (as_fields (layout B ∷ layout Places.the_row ∷ []) (one (one u) ∷ none ∷ []) (outer, ((tt, tt), tt))) $
        -- [the room; the `Vec` without it; the tokens]
        rewrite ! 0 (λ k. ‵ (room_owns p k)) asked.1 refl $ lft_new ! tt (λ α. move ! (1 ∷ []) $
        use1 𝓛 (later (‵ (Loan 𝓛 α r n p))) (lend 𝓛 α r n p) $ await ! tt $ fsplit ! $
        let block : B.Denot = record { sole = e; life = α; room = r; number = n; whole = asked.1; small = told.1; placed = told.0 } in
        let places : (Places.the_row).Denot = record { life = α; room = r; left = n; ptr = p } in
        none_made ! $ fjoin ! $ move ! (2 ∷ 1 ∷ []) $ fjoin ! $ move ! (2 ∷ []) $ nothing ! $ fpack ! (Typed S.mir (one u ∷ [])) (λ _. ftrue) (inner, tt) $ fjoin ! $
        one_made ! S e (one u) $ fjoin ! $ two_made ! B Places.the_row block places (one (one u)) none $
        returns ! (look_at ! 0 refl) $ free_all ! refl $
        suffices ! _ (ends_at 𝓛 ended stayed held z (two (one (one u)) none) (block, places) (tt, (tt, (tt, tt))) (tt, (tt, (tt, tt)))) $ says ! (refl, refl, refl, refl, subst InBlock (sym told.0) tt) $
        nothing ! $ nothing ! $ fjoin ! $ nothing ! $ fjoin ! $ nothing ! $ fjoin ! $ move ! (2 ∷ 0 ∷ 1 ∷ []) $ done !)))))))))

  meets : (𝓣 : Tables 𝓤 H) → Meets 𝓛 ended.signature (WpFn 𝓤 H 𝓣.C 𝓣.Λ function) (closing 𝓛 ended held)
  meets 𝓣 =
      walk_Meets 𝓛 ended stayed (Goes-blank 𝓛 0 (plain (λ _. V8)) yes (λ κs x f. tt), (Goes-blank 𝓛 0 (plain (λ _. usize)) yes (λ κs x f. tt), (Goes-blank 𝓛 0 (plain (λ _. usize)) yes (λ κs x f. tt), tt))) held (WpFn 𝓤 H 𝓣.C 𝓣.Λ function) (WpFn-mono 𝓤 H 𝓛.laws 𝓣 function) (walks 𝓣.C 𝓣.Λ)

pub lend_spec : {M : Type 1} → stated.statement M
unfolding tables_of
lend_spec 𝓤 𝓛 𝓜 𝓡 wired =
    let 𝓣 : Tables 𝓤 𝓛.H = tables_of 𝓤 𝓛.H 𝓜 (tables 𝓤 𝓛.H 𝓜 𝓡 𝓡.env) in
    entered 𝓤 𝓛.H (triple_of 𝓛 ended.signature (closing 𝓛 ended (held 𝓛 𝓜.mem 𝓡.returns))) 𝓣.C 𝓣.Λ #self function
    (code.unfolded 𝓤 𝓛.H 𝓜 𝓡 wired) (meets 𝓛 𝓜.mem 𝓡.returns 𝓣)
