-- Laws of states of a timeline: one more context, and what stays true of every timeline.
use Rattle.std.proofs.Common.{◌≡◌, ℕ, ◌+◌, ◌-◌, ◌<◌, List, [], ◌∷◌, ◌++◌, length, drop, get_or, refl, sym, ap, ◌∙◌, subst, inl, inr, arith, length-append, length-drop, IfSome, Some, Option, slice_get, option_map}
use Rattle.std.proofs.lemmas.Bool.{cases_lt}
use Rattle.std.proofs.lemmas.List.{drop-append-le, drop-drop, drop-map, map-append, length-map, get_or-drop, get_or-append_right, get_or_append_left, get_or-map}
use Rattle.std.proofs.lemmas.Option.{slice_get_cases, get_or_from_slice_get}
use Rattle.circular_buffer.specs.Buffer.{keep_last, last_item}
use Rattle.circular_buffer.proofs.Places.{slice_get-drop}
use Rattle.vrt_time.specs.Time.{moment_of}
use Rattle.context_timeline.specs.declared.timed_context.TimedContext.{TimedContext}
use Rattle.context_timeline.specs.State.{TimelineState, IsTimelineState, IsRising, state_of, state_of_kept, with_context, horizon_of, moments}

-- what is kept of the kept and one more is what is kept of all and one more
pub keep_last-push : {X : Type 0} (limit : ℕ) (xs : List X) (x : X) → keep_last limit (keep_last limit xs ++ x ∷ []) ≡ keep_last limit (xs ++ x ∷ [])
keep_last-push limit xs x =
    let m = length xs - limit in
    let front : drop m xs ++ x ∷ [] ≡ drop m (xs ++ x ∷ []) = sym (drop-append-le m xs (x ∷ []) (omega arith)) in
    let long : length (drop m xs ++ x ∷ []) ≡ length xs - m + 1 = length-append (drop m xs) (x ∷ []) ∙ ap (λ n. n + 1) (length-drop m xs) in
    let all : length (xs ++ x ∷ []) ≡ length xs + 1 = length-append xs (x ∷ []) in
    let skip : m + (length (drop m xs ++ x ∷ []) - limit) ≡ length (xs ++ x ∷ []) - limit = omega arith in
    ap (λ ys. drop (length (drop m xs ++ x ∷ []) - limit) ys) front
    ∙ drop-drop (length (drop m xs ++ x ∷ []) - limit) m (xs ++ x ∷ [])
    ∙ ap (λ n. drop n (xs ++ x ∷ [])) skip

-- the state for all contexts and one more
pub state_of-push : (limit : ℕ) (contexts : List TimedContext) (context : TimedContext)
    → with_context (state_of limit contexts) context ≡ state_of limit (contexts ++ context ∷ [])
state_of-push limit contexts context =
    let kept = keep_last-push limit contexts context in
    let added = sym (length-append contexts (context ∷ [])) in
    ap (λ xs. state_of_kept limit (length contexts + 1) xs) kept ∙ ap (λ n. state_of_kept limit n (keep_last limit (contexts ++ context ∷ []))) added

rising-drop : (n : ℕ) (xs : List ℕ) → IsRising xs → IsRising (drop n xs)
rising-drop n xs h = record {
  rising = λ i j lt there. omega (arith, get_or-drop n xs i 0, get_or-drop n xs j 0, h.rising (n + i) (n + j) (omega arith) (omega (arith, length-drop n xs)));
}

rising-push : (xs : List ℕ) (x : ℕ) → IsRising xs → ((k : ℕ) → k < length xs → get_or xs k 0 < x) → IsRising (xs ++ x ∷ [])
rising-push xs x h above = record {
  rising = λ i j lt there.
      let long = length-append xs (x ∷ []) in
      let front = get_or_append_left xs (x ∷ []) 0 i (omega arith) in
      elim (cases_lt j (length xs)) [
        | inl below ↦ omega (arith, front, get_or_append_left xs (x ∷ []) 0 j below, h.rising i j lt below)
        | inr last ↦
            let e : j ≡ length xs = omega arith in
            let none : j - length xs ≡ 0 = omega arith in
            let at : get_or (xs ++ x ∷ []) j 0 ≡ x = get_or-append_right xs (x ∷ []) (length xs) j 0 refl last ∙ ap (λ n. get_or (x ∷ []) n 0) none in
            omega (arith, front, at, above i (omega arith))
      ];
}

abbrev moment_in : TimedContext → ℕ
moment_in context = moment_of context.stamp

-- the moment of a context at its place
pub moment_at : (contexts : List TimedContext) (k : ℕ) (context : TimedContext) → slice_get contexts k ≡ Some context → k < length contexts
    → get_or (moments contexts) k 0 ≡ moment_of context.stamp
moment_at contexts k context e there =
    get_or-map moment_in contexts k context 0 there ∙ ap moment_in (get_or_from_slice_get contexts k context context e)

-- a stamp above the horizon is above those of all that are kept
above_kept : (kept : List TimedContext) (t : ℕ) → IsRising (moments kept) → IfSome (option_map (λ context. context.stamp) (last_item kept)) (λ stamp. moment_of stamp < t)
    → (k : ℕ) → k < length (moments kept) → get_or (moments kept) k 0 < t
above_kept kept t h above k there =
    let n = length kept - 1 in
    let long = length-map kept moment_in in
    elim (slice_get_cases kept n).1 [
      | inl last ↦
          let top : moment_of last.0.stamp < t =
          subst (λ (o : Option TimedContext). IfSome (option_map (λ context. context.stamp) o) (λ stamp. moment_of stamp < t)) last.2 above in
          let at = moment_at kept n last.0 last.2 last.1 in
          elim (cases_lt k n) [
            | inl lt ↦ omega (arith, h.rising k n lt (omega arith), at, top)
            | inr le ↦ let e : k ≡ n = omega arith in omega (arith, at, top, ap (λ i. get_or (moments kept) i 0) e)
          ]
      | inr none ↦ absurd (omega arith)
    ]

-- a context above the horizon keeps what is true of every timeline
pub IsTimelineState-with_context : (line : TimelineState) (context : TimedContext) → IsTimelineState line → IfSome (horizon_of line) (λ stamp. moment_of stamp < moment_of context.stamp)
    → IsTimelineState (with_context line context)
IsTimelineState-with_context line context h above =
    let xs = line.kept ++ context ∷ [] in
    let m = length xs - line.limit in
    let all : length xs ≡ length line.kept + 1 = length-append line.kept (context ∷ []) in
    let joined : moments xs ≡ moments line.kept ++ moment_of context.stamp ∷ [] = map-append moment_in line.kept (context ∷ []) in
    let grown = rising-push (moments line.kept) (moment_of context.stamp) h.rising (above_kept line.kept (moment_of context.stamp) h.rising above) in
    let kept : drop m (moments xs) ≡ moments (drop m xs) = drop-map moment_in m xs in
    record {
      limit = h.limit;
      number = omega (arith, length-drop m xs, h.number, h.limit);
      rising = subst IsRising kept (rising-drop m (moments xs) (subst IsRising (sym joined) grown));
    }

-- the last of the kept is the last of all
pub last_item-keep_last : {X : Type 0} (limit : ℕ) (xs : List X) → 0 < limit → last_item (keep_last limit xs) ≡ last_item xs
last_item-keep_last limit xs some =
    let m = length xs - limit in
    let long = length-drop m xs in
    elim (slice_get_cases xs (length xs - 1)).1 [
      | inl last ↦ slice_get-drop m xs (length (drop m xs) - 1) (length xs - 1) (omega arith)
      | inr none ↦ slice_get-drop m xs (length (drop m xs) - 1) (length xs - 1) (omega arith)
    ]

-- the horizon is the stamp of the last context that was added
pub horizon_of-state_of : (limit : ℕ) (contexts : List TimedContext) → 0 < limit
    → horizon_of (state_of limit contexts) ≡ option_map (λ context. context.stamp) (last_item contexts)
horizon_of-state_of limit contexts some =
    ap (λ (o : Option TimedContext). option_map (λ context. context.stamp) o) (last_item-keep_last limit contexts some)
