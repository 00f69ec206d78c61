-- A packet that its window turns away changes nothing.
use Rattle.std.proofs.Common.{◌≡◌, ℕ, ◌-◌, min, Bool, List, [], ◌∷◌, ◌++◌, length, drop, map, Err, refl, sym, ap, ◌∙◌, append_assoc}
use Rattle.std.proofs.lemmas.List.{append-nil}
use Rattle.vrt_words.specs.Buffer.{Buffer}
use Rattle.vrt_time.specs.Time.{TimeStamp}
use Rattle.vrt_fields.specs.declared.limits.Limits.{Limits}
use Rattle.difi_context.specs.declared.context.ContextRec.{ContextRec}
use Rattle.reorder_window.specs.declared.entry.Entry.{Entry}
use Rattle.reorder_window.specs.declared.arrival.Arrival.{Arrival}
use Rattle.reorder_window.specs.declared.arrival.Arrival.TheVariants as arrival
use Rattle.reorder_window.specs.Window.{with_arrival, accepted, in_order, releases, answer}
use Rattle.reorder_window.proofs.WindowLemmas.{accepted-more}
use Rattle.sample_binder.specs.declared.arrive.Turned.{Turned}
use Rattle.sample_binder.specs.Calls.{Call, ContextCall, DataCall, EndCall, context_arrivals, data_arrivals, context_entry, data_entry, context_event, data_event, behind, events_by, events_from, events_of, outputs_of, outcome}
use Rattle.sample_binder.specs.Events.{Event, EndEvent}
use Rattle.sample_binder.specs.Outputs.{outputs}
use Rattle.sample_binder.proofs.ArrivalLemmas.{IsTurned, not_accepted, behind-append}
use Rattle.sample_binder.proofs.BinderLemmas.{context_arrivals-append, data_arrivals-append}

behind-itself : {X : Type 0} (xs : List X) → behind xs xs ≡ []
behind-itself xs = ap (behind xs) (sym (append-nil xs)) ∙ behind-append xs []

-- ---- windows that have accepted the same

module _ {T : Type 0} (size : ℕ) where
  abbrev released_of : List (Entry T) → List (TimeStamp × ℕ × T)
  released_of xs = in_order (drop (min size (length xs) - 0) xs)

  releases-alike : (g h : List (Entry T)) → accepted size g ≡ accepted size h → releases size g 0 ≡ releases size h 0
  releases-alike g h e = ap released_of e

  accepted-alike : (g h : List (Entry T)) (a : Entry T) → accepted size g ≡ accepted size h → accepted size (g ++ a ∷ []) ≡ accepted size (h ++ a ∷ [])
  accepted-alike g h a e = accepted-more size g a ∙ ap (λ xs. with_arrival size xs a) e ∙ sym (accepted-more size h a)

  outcome_turned : (x : Arrival T) (why : Turned × T) → outcome x ≡ Err why → IsTurned x
  outcome_turned arrival.Kept why e = absurd (cc)
  outcome_turned (arrival.Released stamp lost item) why e = absurd (cc)
  outcome_turned (arrival.Late stamp item) why e = tt
  outcome_turned (arrival.Repeat item) why e = tt
  outcome_turned (arrival.Conflict count item) why e = tt

module _ (limits : Limits) where
  -- both windows have accepted the same after these calls and after those
  record AreAlike (a b : List Call) : Type 0 where
    pub contexts : accepted limits.context_window (context_arrivals a) ≡ accepted limits.context_window (context_arrivals b)
    pub packets : accepted limits.data_window (data_arrivals a) ≡ accepted limits.data_window (data_arrivals b)

  abbrev end_events : List (Entry ContextRec) → List (Entry Buffer) → List Event
  end_events xs ys =
      map context_event (behind (released_of limits.context_window xs) (in_order xs))
      ++ (map data_event (behind (released_of limits.data_window ys) (in_order ys)) ++ EndEvent ∷ [])

  events_by-alike : (a b : List Call) (call : Call) → AreAlike a b → events_by limits a call ≡ events_by limits b call
  events_by-alike a b (ContextCall rec) h =
      let w = limits.context_window in
      let more = context_entry rec ∷ [] in
      let now = releases-alike w (context_arrivals a) (context_arrivals b) h.contexts in
      let after = releases-alike w (context_arrivals a ++ more) (context_arrivals b ++ more) (accepted-alike w (context_arrivals a) (context_arrivals b) (context_entry rec) h.contexts) in
      ap (λ rs. map context_event (behind rs (releases w (context_arrivals a ++ more) 0))) now
      ∙ ap (λ rs. map context_event (behind (releases w (context_arrivals b) 0) rs)) after
  events_by-alike a b (DataCall buf) h =
      let w = limits.data_window in
      let more = data_entry buf ∷ [] in
      let now = releases-alike w (data_arrivals a) (data_arrivals b) h.packets in
      let after = releases-alike w (data_arrivals a ++ more) (data_arrivals b ++ more) (accepted-alike w (data_arrivals a) (data_arrivals b) (data_entry buf) h.packets) in
      ap (λ rs. map data_event (behind rs (releases w (data_arrivals a ++ more) 0))) now
      ∙ ap (λ rs. map data_event (behind (releases w (data_arrivals b) 0) rs)) after
  events_by-alike a b EndCall h =
      ap (λ xs. end_events xs (accepted limits.data_window (data_arrivals a))) h.contexts
      ∙ ap (λ ys. end_events (accepted limits.context_window (context_arrivals b)) ys) h.packets

  after_alike : (a b : List Call) (call : Call) → AreAlike a b → AreAlike (a ++ call ∷ []) (b ++ call ∷ [])
  after_alike a b call h =
      let more = call ∷ [] in
      let ca = ap (accepted limits.context_window) (context_arrivals-append a more) in
      let cb = ap (accepted limits.context_window) (context_arrivals-append b more) in
      let da = ap (accepted limits.data_window) (data_arrivals-append a more) in
      let db = ap (accepted limits.data_window) (data_arrivals-append b more) in
      let both = appended call in record { contexts = ca ∙ both.0 ∙ sym cb; packets = da ∙ both.1 ∙ sym db }
    where
      same_contexts : accepted limits.context_window (context_arrivals a ++ []) ≡ accepted limits.context_window (context_arrivals b ++ [])
      same_contexts = ap (accepted limits.context_window) (append-nil (context_arrivals a)) ∙ h.contexts ∙ sym (ap (accepted limits.context_window) (append-nil (context_arrivals b)))

      same_packets : accepted limits.data_window (data_arrivals a ++ []) ≡ accepted limits.data_window (data_arrivals b ++ [])
      same_packets = ap (accepted limits.data_window) (append-nil (data_arrivals a)) ∙ h.packets ∙ sym (ap (accepted limits.data_window) (append-nil (data_arrivals b)))

      appended : (c : Call) → (accepted limits.context_window (context_arrivals a ++ context_arrivals (c ∷ [])) ≡ accepted limits.context_window (context_arrivals b ++ context_arrivals (c ∷ [])))
          × (accepted limits.data_window (data_arrivals a ++ data_arrivals (c ∷ [])) ≡ accepted limits.data_window (data_arrivals b ++ data_arrivals (c ∷ [])))
      appended (ContextCall rec) = (accepted-alike limits.context_window (context_arrivals a) (context_arrivals b) (context_entry rec) h.contexts, same_packets)
      appended (DataCall buf) = (same_contexts, accepted-alike limits.data_window (data_arrivals a) (data_arrivals b) (data_entry buf) h.packets)
      appended EndCall = (same_contexts, same_packets)

  events_from-alike : (later a b : List Call) → AreAlike a b → events_from limits a later ≡ events_from limits b later
  events_from-alike [] a b h = refl
  events_from-alike (call ∷ later) a b h =
      ap (λ es. es ++ events_from limits (a ++ call ∷ []) later) (events_by-alike a b call h)
      ∙ ap (λ es. events_by limits b call ++ es) (events_from-alike later (a ++ call ∷ []) (b ++ call ∷ []) (after_alike a b call h))

  events_from-append : (before xs ys : List Call) → events_from limits before (xs ++ ys) ≡ events_from limits before xs ++ events_from limits (before ++ xs) ys
  events_from-append before [] ys = ap (λ cs. events_from limits cs ys) (sym (append-nil before))
  events_from-append before (call ∷ xs) ys =
      let here = before ++ call ∷ [] in
      ap (λ es. events_by limits before call ++ es) (events_from-append here xs ys ∙ ap (λ cs. events_from limits here xs ++ events_from limits cs ys) (append_assoc before (call ∷ []) xs))
      ∙ sym (append_assoc (events_by limits before call) (events_from limits here xs) (events_from limits (before ++ call ∷ xs) ys))

  -- a call that causes no event, and after which both windows have accepted what they had
  without_call : (calls later : List Call) (call : Call) → AreAlike (calls ++ call ∷ []) calls → events_by limits calls call ≡ []
      → outputs_of limits (calls ++ call ∷ later) ≡ outputs_of limits (calls ++ later)
  without_call calls later call alike none =
      let before = events_of limits calls in
      ap (outputs limits) (
      events_from-append [] calls (call ∷ later)
      ∙ ap (λ es. before ++ (es ++ events_from limits (calls ++ call ∷ []) later)) none
      ∙ ap (λ es. before ++ es) (events_from-alike later (calls ++ call ∷ []) calls alike)
      ∙ sym (events_from-append [] calls later)
      )

  -- ---- a packet that is turned away

  pub context_turned : (same : ContextRec → ContextRec → Bool) (calls later : List Call) (rec : ContextRec) (why : Turned × ContextRec)
      → outcome (answer same limits.context_window (context_arrivals calls) (context_entry rec)) ≡ Err why
      → outputs_of limits (calls ++ ContextCall rec ∷ later) ≡ outputs_of limits (calls ++ later)
  context_turned same calls later rec why e =
      let w = limits.context_window in
      let before = context_arrivals calls in
      let more = before ++ context_entry rec ∷ [] in
      let no = not_accepted same w before (context_entry rec) (outcome_turned w (answer same w before (context_entry rec)) why e) in
      let call = ContextCall rec in
      without_call calls later call
      (record {
        contexts = ap (accepted w) (context_arrivals-append calls (call ∷ [])) ∙ no;
        packets = ap (accepted limits.data_window) (data_arrivals-append calls (call ∷ []) ∙ append-nil (data_arrivals calls));
      })
      (ap (λ rs. map context_event (behind (releases w before 0) rs)) (releases-alike w more before no) ∙ ap (map context_event) (behind-itself (releases w before 0)))

  pub packet_turned : (same : Buffer → Buffer → Bool) (calls later : List Call) (buf : Buffer) (why : Turned × Buffer)
      → outcome (answer same limits.data_window (data_arrivals calls) (data_entry buf)) ≡ Err why
      → outputs_of limits (calls ++ DataCall buf ∷ later) ≡ outputs_of limits (calls ++ later)
  packet_turned same calls later buf why e =
      let w = limits.data_window in
      let before = data_arrivals calls in
      let more = before ++ data_entry buf ∷ [] in
      let no = not_accepted same w before (data_entry buf) (outcome_turned w (answer same w before (data_entry buf)) why e) in
      let call = DataCall buf in
      without_call calls later call
      (record {
        contexts = ap (accepted limits.context_window) (context_arrivals-append calls (call ∷ []) ∙ append-nil (context_arrivals calls));
        packets = ap (accepted w) (data_arrivals-append calls (call ∷ [])) ∙ no;
      })
      (ap (λ rs. map data_event (behind (releases w before 0) rs)) (releases-alike w more before no) ∙ ap (map data_event) (behind-itself (releases w before 0)))
