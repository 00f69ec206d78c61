-- Releases only grow, and the events of calls bring all of them.
use Rattle.std.proofs.Common.{◌≡◌, ℕ, ◌≤◌, ◌&&◌, ◌||◌, not, Bool, true, false, cond, List, [], ◌∷◌, ◌++◌, length, take, drop, map, is_none, refl, sym, ap, ◌∙◌, subst, inl, inr, arith, append_assoc, length-drop}
use Rattle.std.proofs.lemmas.Bool.{cases_lt}
use Rattle.std.proofs.lemmas.List.{append-nil, drop-append-le, length-take-le, map-append, nil_from_length}
use Rattle.vrt_words.specs.Buffer.{Buffer}
use Rattle.vrt_time.specs.Time.{TimeStamp}
use Rattle.difi_context.specs.declared.context.ContextRec.{ContextRec}
use Rattle.reorder_window.specs.declared.entry.Entry.{Entry}
use Rattle.reorder_window.specs.Window.{boundary, is_late, twin, is_accepted, in_place, accepted, release, in_order, releases}
use Rattle.reorder_window.proofs.OrderLemmas.{length-in_place, in_place-take}
use Rattle.reorder_window.proofs.WindowLemmas.{accepted-more, accepted-none, drop-held}
use Rattle.vrt_fields.specs.declared.limits.Limits.{Limits}
use Rattle.sample_binder.specs.Calls.{Call, ContextCall, DataCall, EndCall, context_entry, data_entry, context_arrivals, data_arrivals, is_told, context_event, data_event, behind, all_releases, events_by, events_from, events_of}
use Rattle.sample_binder.specs.Events.{Event, EndEvent, contexts_of, packets_of, has_ended}
use Rattle.sample_binder.specs.Readings.{AreReleases, AreAllReleases}
use Rattle.sample_binder.specs.Released.{released_context, released_packet}
use Rattle.sample_binder.proofs.ArrivalLemmas.{behind-append, all_split, releases-within}
use Rattle.sample_binder.proofs.BinderLemmas.{context_arrivals-append, data_arrivals-append, events_of-more}
use Rattle.sample_binder.proofs.StateLemmas.{contexts_of-append, packets_of-append, has_ended-append}

-- ---- releases

pub grown : {X : Type 0} (xs ys more : List X) → xs ≡ ys ++ more → xs ≡ ys ++ behind ys xs
grown xs ys more e = e ∙ ap (λ zs. ys ++ zs) (sym (ap (behind ys) e ∙ behind-append ys more))

not_late : (late none : Bool) → (not late && none) ≡ true → late ≡ false
not_late true none e = absurd (cc)
not_late false none e = refl

module _ {T : Type 0} where
  -- packets in front of others come after them
  in_order-append : (ys zs : List (Entry T)) → (more : List (TimeStamp × ℕ × T)) × (in_order (ys ++ zs) ≡ in_order zs ++ more)
  in_order-append [] zs = ([], sym (append-nil (in_order zs)))
  in_order-append (y ∷ ys) zs =
      let r = in_order-append ys zs in
      let last = release y (ys ++ zs) in
      (r.0 ++ last ∷ [], ap (λ rs. rs ++ last ∷ []) r.1 ∙ append_assoc (in_order zs) r.0 (last ∷ []))

  none_left : (size : ℕ) (xs : List (Entry T)) → length xs ≤ size → drop size xs ≡ []
  none_left size xs le = nil_from_length (drop size xs) (omega (arith, length-drop size xs))

  -- one that is accepted is put among the greatest, or in front of what was released
  accepted_grows : (size : ℕ) (xs : List (Entry T)) (a : Entry T) → is_late (boundary size xs) a ≡ false
      → (more : List (TimeStamp × ℕ × T)) × (in_order (drop size (in_place a xs)) ≡ in_order (drop size xs) ++ more)
  accepted_grows size xs a late = elim (cases_lt (length xs) size) [
    | inl few ↦
        let now : drop size (in_place a xs) ≡ [] = none_left size (in_place a xs) (omega (arith, length-in_place a xs)) in
        let before : drop size xs ≡ [] = none_left size xs (omega arith) in
        ([], ap in_order now ∙ sym (append-nil (in_order (drop size xs)) ∙ ap in_order before))
    | inr many ↦
        let front = in_place a (take size xs) in
        let long : size ≤ length front = omega (arith, length-in_place a (take size xs), length-take-le size xs many) in
        let r = in_order-append (drop size front) (drop size xs) in
        (r.0, ap (λ ys. in_order (drop size ys)) (in_place-take size a xs late) ∙ ap in_order (drop-append-le size front (drop size xs) long) ∙ r.1)
  ]

  arrival_grows : (size : ℕ) (xs : List (Entry T)) (a : Entry T) (b : Bool) → is_accepted size xs a ≡ b
      → (more : List (TimeStamp × ℕ × T)) × (in_order (drop size (cond b (in_place a xs) xs)) ≡ in_order (drop size xs) ++ more)
  arrival_grows size xs a true e = accepted_grows size xs a (not_late (is_late (boundary size xs) a) (is_none (twin a xs)) e)
  arrival_grows size xs a false e = ([], sym (append-nil (in_order (drop size xs))))

  are_released : (size : ℕ) (arrivals : List (Entry T)) → releases size arrivals 0 ≡ in_order (drop size (accepted size arrivals))
  are_released size arrivals = ap in_order (drop-held size (accepted size arrivals))

  one_grows : (size : ℕ) (arrivals : List (Entry T)) (a : Entry T) → (more : List (TimeStamp × ℕ × T)) × (releases size (arrivals ++ a ∷ []) 0 ≡ releases size arrivals 0 ++ more)
  one_grows size arrivals a =
      let xs = accepted size arrivals in
      let r = arrival_grows size xs a (is_accepted size xs a) refl in
      (r.0, are_released size (arrivals ++ a ∷ []) ∙ ap (λ ys. in_order (drop size ys)) (accepted-more size arrivals a) ∙ r.1 ∙ ap (λ rs. rs ++ r.0) (sym (are_released size arrivals)))

  all_grow : (size : ℕ) (later arrivals : List (Entry T)) → (more : List (TimeStamp × ℕ × T)) × (releases size (arrivals ++ later) 0 ≡ releases size arrivals 0 ++ more)
  all_grow size [] arrivals = ([], ap (λ xs. releases size xs 0) (append-nil arrivals) ∙ sym (append-nil (releases size arrivals 0)))
  all_grow size (a ∷ later) arrivals =
      let one = one_grows size arrivals a in
      let rest = all_grow size later (arrivals ++ a ∷ []) in (
        one.0 ++ rest.0,
        ap (λ xs. releases size xs 0) (sym (append_assoc arrivals (a ∷ []) later)) ∙ rest.1 ∙ ap (λ rs. rs ++ rest.0) one.1 ∙ append_assoc (releases size arrivals 0) one.0 rest.0,
      )

  -- what was released stays so
  pub releases_grow : (size : ℕ) (arrivals later : List (Entry T)) → releases size (arrivals ++ later) 0 ≡ releases size arrivals 0 ++ behind (releases size arrivals 0) (releases size (arrivals ++ later) 0)
  releases_grow size arrivals later =
      let r = all_grow size later arrivals in
      grown (releases size (arrivals ++ later) 0) (releases size arrivals 0) r.0 r.1

-- ---- events of releases

contexts_in : (rs : List (TimeStamp × ℕ × ContextRec)) → contexts_of (map context_event rs) ≡ map released_context rs
contexts_in [] = refl
contexts_in (r ∷ rs) = ap (λ cs. released_context r ∷ cs) (contexts_in rs)

no_contexts_in : (rs : List (TimeStamp × ℕ × Buffer)) → contexts_of (map data_event rs) ≡ []
no_contexts_in [] = refl
no_contexts_in (r ∷ rs) = no_contexts_in rs

packets_in : (rs : List (TimeStamp × ℕ × Buffer)) → packets_of (map data_event rs) ≡ map released_packet rs
packets_in [] = refl
packets_in (r ∷ rs) = ap (λ ps. released_packet r ∷ ps) (packets_in rs)

no_packets_in : (rs : List (TimeStamp × ℕ × ContextRec)) → packets_of (map context_event rs) ≡ []
no_packets_in [] = refl
no_packets_in (r ∷ rs) = no_packets_in rs

no_end_in_contexts : (rs : List (TimeStamp × ℕ × ContextRec)) → has_ended (map context_event rs) ≡ false
no_end_in_contexts [] = refl
no_end_in_contexts (r ∷ rs) = no_end_in_contexts rs

no_end_in_data : (rs : List (TimeStamp × ℕ × Buffer)) → has_ended (map data_event rs) ≡ false
no_end_in_data [] = refl
no_end_in_data (r ∷ rs) = no_end_in_data rs

neither : (a b : Bool) → a ≡ false → b ≡ false → (a || b) ≡ false
neither a b e f = ap (λ c. c || b) e ∙ f

-- ---- the events of calls

-- these events bring what the windows have released after these calls, and no end
record Bring (limits : Limits) (calls : List Call) (events : List Event) : Type 0 where
  pub contexts : contexts_of events ≡ map released_context (releases limits.context_window (context_arrivals calls) 0)
  pub packets : packets_of events ≡ map released_packet (releases limits.data_window (data_arrivals calls) 0)
  pub running : has_ended events ≡ false

module _ (limits : Limits) where
  abbrev contexts_released : List (Entry ContextRec) → List (TimeStamp × ℕ × ContextRec)
  contexts_released arrivals = releases limits.context_window arrivals 0

  abbrev packets_released : List (Entry Buffer) → List (TimeStamp × ℕ × Buffer)
  packets_released arrivals = releases limits.data_window arrivals 0

  bring_context : (before : List Call) (events : List Event) (rec : ContextRec) → Bring limits before events
      → Bring limits (before ++ ContextCall rec ∷ []) (events ++ events_by limits before (ContextCall rec))
  bring_context before events rec h =
      let old = contexts_released (context_arrivals before) in
      let now = contexts_released (context_arrivals before ++ context_entry rec ∷ []) in
      let new = behind old now in
      let same : data_arrivals (before ++ ContextCall rec ∷ []) ≡ data_arrivals before = data_arrivals-append before (ContextCall rec ∷ []) ∙ append-nil (data_arrivals before) in
      record {
        contexts = contexts_of-append events (map context_event new) ∙ ap (λ cs. cs ++ contexts_of (map context_event new)) h.contexts ∙ ap (λ cs. map released_context old ++ cs) (contexts_in new)
            ∙ sym (map-append released_context old new) ∙ ap (map released_context) (sym (releases_grow limits.context_window (context_arrivals before) (context_entry rec ∷ [])))
            ∙ ap (λ entries. map released_context (contexts_released entries)) (sym (context_arrivals-append before (ContextCall rec ∷ [])));
        packets = packets_of-append events (map context_event new) ∙ ap (λ ps. packets_of events ++ ps) (no_packets_in new) ∙ append-nil (packets_of events) ∙ h.packets
            ∙ ap (λ entries. map released_packet (packets_released entries)) (sym same);
        running = has_ended-append events (map context_event new) ∙ neither (has_ended events) (has_ended (map context_event new)) h.running (no_end_in_contexts new);
      }

  bring_data : (before : List Call) (events : List Event) (buf : Buffer) → Bring limits before events
      → Bring limits (before ++ DataCall buf ∷ []) (events ++ events_by limits before (DataCall buf))
  bring_data before events buf h =
      let old = packets_released (data_arrivals before) in
      let now = packets_released (data_arrivals before ++ data_entry buf ∷ []) in
      let new = behind old now in
      let same : context_arrivals (before ++ DataCall buf ∷ []) ≡ context_arrivals before = context_arrivals-append before (DataCall buf ∷ []) ∙ append-nil (context_arrivals before) in
      record {
        contexts = contexts_of-append events (map data_event new) ∙ ap (λ cs. contexts_of events ++ cs) (no_contexts_in new) ∙ append-nil (contexts_of events) ∙ h.contexts
            ∙ ap (λ entries. map released_context (contexts_released entries)) (sym same);
        packets = packets_of-append events (map data_event new) ∙ ap (λ ps. ps ++ packets_of (map data_event new)) h.packets ∙ ap (λ ps. map released_packet old ++ ps) (packets_in new)
            ∙ sym (map-append released_packet old new) ∙ ap (map released_packet) (sym (releases_grow limits.data_window (data_arrivals before) (data_entry buf ∷ [])))
            ∙ ap (λ entries. map released_packet (packets_released entries)) (sym (data_arrivals-append before (DataCall buf ∷ [])));
        running = has_ended-append events (map data_event new) ∙ neither (has_ended events) (has_ended (map data_event new)) h.running (no_end_in_data new);
      }

  bring_from : (before calls : List Call) (events : List Event) → Bring limits before events → is_told calls ≡ false → Bring limits (before ++ calls) (events ++ events_from limits before calls)
  bring_from before [] events h e = subst (λ (cs : List Call). Bring limits cs (events ++ [])) (sym (append-nil before)) (subst (Bring limits before) (sym (append-nil events)) h)
  bring_from before (ContextCall rec ∷ calls) events h e =
      let call = ContextCall rec in
      subst (λ (cs : List Call). Bring limits cs (events ++ events_from limits before (call ∷ calls))) (append_assoc before (call ∷ []) calls)
      (subst (Bring limits ((before ++ call ∷ []) ++ calls)) (append_assoc events (events_by limits before call) (events_from limits (before ++ call ∷ []) calls))
      (bring_from (before ++ call ∷ []) calls (events ++ events_by limits before call) (bring_context before events rec h) e))
  bring_from before (DataCall buf ∷ calls) events h e =
      let call = DataCall buf in
      subst (λ (cs : List Call). Bring limits cs (events ++ events_from limits before (call ∷ calls))) (append_assoc before (call ∷ []) calls)
      (subst (Bring limits ((before ++ call ∷ []) ++ calls)) (append_assoc events (events_by limits before call) (events_from limits (before ++ call ∷ []) calls))
      (bring_from (before ++ call ∷ []) calls (events ++ events_by limits before call) (bring_data before events buf h) e))
  bring_from before (EndCall ∷ calls) events h e = absurd (cc)

  none_yet : {T : Type 0} (size : ℕ) → releases {T = T} size [] 0 ≡ []
  none_yet {T} size = nil_from_length (releases {T = T} size [] 0) (omega (arith, releases-within {T = T} size [] 0, ap length (accepted-none {T = T} size)))

  brings : (calls : List Call) → is_told calls ≡ false → Bring limits calls (events_of limits calls)
  brings calls off =
      bring_from [] calls [] (record {
        contexts = ap (map released_context) (sym (none_yet limits.context_window));
        packets = ap (map released_packet) (sym (none_yet limits.data_window));
        running = refl;
      }) off

  -- before the end was told
  pub are_releases : (calls : List Call) → is_told calls ≡ false → AreReleases limits calls
  are_releases calls off = let h = brings calls off in record { contexts = h.contexts; packets = h.packets; running = h.running }

  -- and when it is
  pub are_all_releases : (calls : List Call) → is_told calls ≡ false → AreAllReleases limits calls
  are_all_releases calls off =
      let h = brings calls off in
      let events = events_of limits calls in
      let cs = behind (contexts_released (context_arrivals calls)) (all_releases limits.context_window (context_arrivals calls)) in
      let ds = behind (packets_released (data_arrivals calls)) (all_releases limits.data_window (data_arrivals calls)) in
      let c = map context_event cs in
      let d = map data_event ds in
      let more = events_of-more limits calls EndCall in
      record {
        contexts = ap contexts_of more ∙ contexts_of-append events (c ++ (d ++ EndEvent ∷ [])) ∙ ap (λ xs. contexts_of events ++ xs) (contexts_of-append c (d ++ EndEvent ∷ []))
            ∙ ap (λ xs. contexts_of events ++ (contexts_of c ++ xs)) (contexts_of-append d (EndEvent ∷ []) ∙ append-nil (contexts_of d) ∙ no_contexts_in ds)
            ∙ ap (λ xs. contexts_of events ++ xs) (append-nil (contexts_of c) ∙ contexts_in cs) ∙ ap (λ xs. xs ++ map released_context cs) h.contexts
            ∙ sym (map-append released_context (contexts_released (context_arrivals calls)) cs) ∙ ap (map released_context) (sym (all_split limits.context_window (context_arrivals calls) 0));
        packets = ap packets_of more ∙ packets_of-append events (c ++ (d ++ EndEvent ∷ [])) ∙ ap (λ xs. packets_of events ++ xs) (packets_of-append c (d ++ EndEvent ∷ []))
            ∙ ap (λ xs. packets_of events ++ (xs ++ packets_of (d ++ EndEvent ∷ []))) (no_packets_in cs)
            ∙ ap (λ xs. packets_of events ++ xs) (packets_of-append d (EndEvent ∷ []) ∙ append-nil (packets_of d) ∙ packets_in ds) ∙ ap (λ xs. xs ++ map released_packet ds) h.packets
            ∙ sym (map-append released_packet (packets_released (data_arrivals calls)) ds) ∙ ap (map released_packet) (sym (all_split limits.data_window (data_arrivals calls) 0));
        front = events ++ (c ++ d);
        end_last = more ∙ sym (append_assoc events (c ++ d) (EndEvent ∷ []) ∙ ap (λ xs. events ++ xs) (append_assoc c d (EndEvent ∷ [])));
        once = has_ended-append events (c ++ d) ∙ neither (has_ended events) (has_ended (c ++ d)) h.running
            (has_ended-append c d ∙ neither (has_ended c) (has_ended d) (no_end_in_contexts cs) (no_end_in_data ds));
      }
