-- The runs and the records of a stream are those of its own frames.
use Rattle.std.proofs.Common.{◌≡◌, ℕ, ◌==◌, Bool, true, false, cond, List, [], ◌∷◌, ◌++◌, length, map, refl, sym, ap, ◌∙◌, subst, inl, inr}
use Rattle.std.proofs.lemmas.List.{append-nil}
use Rattle.std.proofs.lemmas.List.Elements.{filter-append}
use Rattle.std.specs.List.{AllByRecursion}
use Rattle.vrt_fields.specs.Route.{AreRoutes}
use Rattle.vrt_fields.specs.declared.route.Route.{Route}
use Rattle.difi_packet.specs.Packet.{DataValue, ContextValue, VersionValue, ControlValue, CancelValue, AckValue}
use Rattle.replay_form.specs.FrameFields.{Frame}
use Rattle.replay_form.specs.declared.record_head.RecordHead.{RecordHead}
use Rattle.release_form.specs.declared.shown.Shown.TheVariants as shown
use Rattle.sample_binder.specs.Calls.{ContextCall, DataCall, EndCall, outputs_of}
use Rattle.sample_binder.specs.declared.out.Run.{Run}
use Rattle.difi_gateway.specs.Contents.{Content, Larger, NoPacket, Holds, Received, IsReceived, frame_of, AreReceived}
use Rattle.difi_gateway.specs.Calls.{buffer_of, calls_by, calls}
use Rattle.difi_gateway.specs.Told.{Item, RefusedItem, RunItem, VersionItem, runs_told, is_listed, told}
use Rattle.difi_gateway.specs.Releases.{Release, ports_of, copies_of, copies, counts_of, part_of, all_told, out_of, AreRecordsOf}
use Rattle.difi_gateway.specs.Isolation.{is_run_of, runs_of_stream, is_of_stream, only, is_shown_of, releases_of_stream, AreStreamRecords}
use Rattle.difi_gateway.proofs.OneReading.{one_records}
use Rattle.difi_gateway.proofs.RefusedFrames.{unlisted_told, unlisted_all}
use Rattle.difi_gateway.proofs.StreamRuns.{true_or_false, told_runs, all_runs}

-- ---- the calls of a stream are those of its own frames

no_call : (head : RecordHead) (stream : ℕ) (frame : Frame) (content : Content) → is_of_stream stream content ≡ false
    → calls_by head stream (record { frame = frame; content = content }) ≡ []
no_call head stream frame (Larger size) e = refl
no_call head stream frame (NoPacket word) e = refl
no_call head stream frame (Holds (DataValue packet)) e = ap (λ b. cond b (DataCall (buffer_of head frame.datagram) ∷ []) []) e
no_call head stream frame (Holds (ContextValue rec)) e = ap (λ b. cond b (ContextCall rec ∷ []) []) e
no_call head stream frame (Holds (VersionValue rec)) e = refl
no_call head stream frame (Holds (ControlValue packet)) e = refl
no_call head stream frame (Holds (CancelValue packet)) e = refl
no_call head stream frame (Holds (AckValue packet)) e = refl

own_calls : (head : RecordHead) (stream : ℕ) (received : List Received) → calls head stream (only stream received) ≡ calls head stream received
own_calls head stream [] = refl
own_calls head stream (r ∷ received) = elim (true_or_false (is_of_stream stream r.content)) [
  | inl own ↦
      ap (λ b. calls head stream (cond b (r ∷ only stream received) (only stream received))) own
      ∙ ap (λ cs. calls_by head stream r ++ cs) (own_calls head stream received)
  | inr apart ↦
      ap (λ b. calls head stream (cond b (r ∷ only stream received) (only stream received))) apart
      ∙ own_calls head stream received ∙ sym (ap (λ cs. cs ++ calls head stream received) (no_call head stream r.frame r.content apart))
]

-- the frames of a stream are frames with what they hold
kept_received : (head : RecordHead) (stream : ℕ) (received : List Received) → AllByRecursion (IsReceived head) received → AllByRecursion (IsReceived head) (only stream received)
kept_received head stream [] h = tt
kept_received head stream (r ∷ received) h =
    let rest = kept_received head stream received h.1 in
    elim (is_of_stream stream r.content) as (λ b. AllByRecursion (IsReceived head) (cond b (r ∷ only stream received) (only stream received))) [ true ↦ (h.0, rest) | false ↦ rest ]

pub only_received : (head : RecordHead) (stream : ℕ) (frames : List Frame) (received : List Received) → AreReceived head frames received
    → AreReceived head (map frame_of (only stream received)) (only stream received)
only_received head stream frames received h = record { frames_are = refl; contents = kept_received head stream received h.contents }

-- ---- and so are its runs

pub own_part : (head : RecordHead) (stream : ℕ) (received : List Received) → runs_of_stream stream (told head received) ≡ runs_of_stream stream (told head (only stream received))
own_part head stream received = elim (true_or_false (is_listed head.routes stream)) [
  | inl listed ↦
      told_runs head stream listed received
      ∙ ap (λ cs. runs_told stream (outputs_of head.limits cs)) (sym (own_calls head stream received))
      ∙ sym (told_runs head stream listed (only stream received))
  | inr unlisted ↦ unlisted_told head stream received unlisted ∙ sym (unlisted_told head stream (only stream received) unlisted)
]

pub own_whole : (head : RecordHead) (second : Bool) (stream : ℕ) (received : List Received) → AreRoutes second head.routes
    → runs_of_stream stream (all_told head received) ≡ runs_of_stream stream (all_told head (only stream received))
own_whole head second stream received routes = elim (true_or_false (is_listed head.routes stream)) [
  | inl listed ↦
      all_runs head second stream received routes listed
      ∙ ap (λ cs. runs_told stream (outputs_of head.limits (cs ++ EndCall ∷ []))) (sym (own_calls head stream received))
      ∙ sym (all_runs head second stream (only stream received) routes listed)
  | inr unlisted ↦ unlisted_all head stream received unlisted ∙ sym (unlisted_all head stream (only stream received) unlisted)
]

-- ---- releases

module _ (stream : ℕ) where
  own_copies : (other lost : ℕ) (run : Run) (payload ports : List ℕ) (b : Bool) → (other == stream) ≡ b
      → releases_of_stream stream (map (λ port. record { shown = shown.Run other port lost run; payload = payload }) ports)
      ≡ cond b (map (λ port. record { shown = shown.Run other port lost run; payload = payload }) ports) []
  own_copies other lost run payload [] true e = refl
  own_copies other lost run payload [] false e = refl
  own_copies other lost run payload (port ∷ ports) true e =
      let first : Release = record { shown = shown.Run other port lost run; payload = payload } in
      let rest : List Release = map (λ p. record { shown = shown.Run other p lost run; payload = payload }) ports in
      ap (λ c. cond c (first ∷ releases_of_stream stream rest) (releases_of_stream stream rest)) e ∙ ap (λ rs. first ∷ rs) (own_copies other lost run payload ports true e)
  own_copies other lost run payload (port ∷ ports) false e =
      let first : Release = record { shown = shown.Run other port lost run; payload = payload } in
      let rest : List Release = map (λ p. record { shown = shown.Run other p lost run; payload = payload }) ports in
      ap (λ c. cond c (first ∷ releases_of_stream stream rest) (releases_of_stream stream rest)) e ∙ own_copies other lost run payload ports false e

  no_copies : (packet ports : List ℕ) → releases_of_stream stream (map (λ port. record { shown = shown.Version port; payload = packet }) ports) ≡ []
  no_copies packet [] = refl
  no_copies packet (port ∷ ports) = no_copies packet ports

  item_copies : (routes : List Route) (item : Item) → releases_of_stream stream (copies_of routes item) ≡ cond (is_run_of stream item) (copies_of routes item) []
  item_copies routes (RefusedItem frame port refusal detail stamp) = refl
  item_copies routes (RunItem other lost run payload) = own_copies other lost run payload (ports_of routes other) (other == stream) refl
  item_copies routes (VersionItem other packet) = no_copies packet (ports_of routes other)

  chosen_copies : (routes : List Route) (item : Item) (rest : List Item) (b : Bool) → cond b (copies_of routes item) [] ++ copies routes rest ≡ copies routes (cond b (item ∷ rest) rest)
  chosen_copies routes item rest true = refl
  chosen_copies routes item rest false = refl

  pub stream_copies : (routes : List Route) (items : List Item) → releases_of_stream stream (copies routes items) ≡ copies routes (runs_of_stream stream items)
  stream_copies routes [] = refl
  stream_copies routes (item ∷ items) =
      filter-append (λ (r : Release). is_shown_of stream r.shown) (copies_of routes item) (copies routes items)
      ∙ ap (λ rs. rs ++ releases_of_stream stream (copies routes items)) (item_copies routes item)
      ∙ ap (λ rs. cond (is_run_of stream item) (copies_of routes item) [] ++ rs) (stream_copies routes items)
      ∙ chosen_copies routes item (runs_of_stream stream items) (is_run_of stream item)

  stream_out : (head : RecordHead) (received : List Received) → releases_of_stream stream (out_of head received) ≡ copies head.routes (runs_of_stream stream (all_told head received))
  stream_out head received =
      let all = copies head.routes (all_told head received) in
      let last : List Release = record { shown = shown.End (counts_of (length received) (all_told head received)); payload = [] } ∷ [] in
      filter-append (λ (r : Release). is_shown_of stream r.shown) all last ∙ append-nil (releases_of_stream stream all) ∙ stream_copies head.routes (all_told head received)

pub own_part_releases : (head : RecordHead) (stream : ℕ) (received : List Received)
    → releases_of_stream stream (part_of head received) ≡ releases_of_stream stream (part_of head (only stream received))
own_part_releases head stream received =
    stream_copies stream head.routes (told head received) ∙ ap (copies head.routes) (own_part head stream received) ∙ sym (stream_copies stream head.routes (told head (only stream received)))

pub own_releases : (head : RecordHead) (second : Bool) (stream : ℕ) (received : List Received) → AreRoutes second head.routes
    → releases_of_stream stream (out_of head received) ≡ releases_of_stream stream (out_of head (only stream received))
own_releases head second stream received routes =
    stream_out stream head received ∙ ap (copies head.routes) (own_whole head second stream received routes) ∙ sym (stream_out stream head (only stream received))

-- ---- bytes

module _ (stream : ℕ) where
  -- the records of a stream are records of its releases
  stream_records : (releases : List Release) (bytes part : List ℕ) → AreStreamRecords stream releases bytes part → AreRecordsOf (releases_of_stream stream releases) part
  stream_records [] bytes part h = h.1
  stream_records (release ∷ releases) bytes part h =
      let rest = releases_of_stream stream releases in
      let first = h.0 in
      let others = h.1.1.0 in
      let inside = h.1.1.1 in
      let more = stream_records releases h.1.0 others inside.1.0 in
      subst (λ xs. AreRecordsOf (cond (is_shown_of stream release.shown) (release ∷ rest) rest) xs) (sym inside.1.1.1) (chosen (is_shown_of stream release.shown) more)
    where
      chosen : (b : Bool) → AreRecordsOf (releases_of_stream stream releases) h.1.1.0
          → AreRecordsOf (cond b (release ∷ releases_of_stream stream releases) (releases_of_stream stream releases)) (cond b (h.0 ++ h.1.1.0) h.1.1.0)
      chosen true more = (h.0, (h.1.1.0, (h.1.1.1.0, (more, refl))))
      chosen false more = more

  -- records have those of a stream among them
  pub some_records : (releases : List Release) (bytes : List ℕ) → AreRecordsOf releases bytes → (part : List ℕ) × AreStreamRecords stream releases bytes part
  some_records [] bytes h = ([], (h, refl))
  some_records (release ∷ releases) bytes h =
      let more = some_records releases h.1.0 h.1.1.1.0 in
      let part : List ℕ = cond (is_shown_of stream release.shown) (h.0 ++ more.0) more.0 in
      (part, (h.0, (h.1.0, (more.0, (h.1.1.0, (more.1, (h.1.1.1.1, refl)))))))

  same_records : (xs ys : List Release) (bytes others part other : List ℕ) → releases_of_stream stream xs ≡ releases_of_stream stream ys
      → AreStreamRecords stream xs bytes part → AreStreamRecords stream ys others other → part ≡ other
  same_records xs ys bytes others part other e r s =
      one_records (releases_of_stream stream ys) part other
      (subst (λ rs. AreRecordsOf rs part) e (stream_records xs bytes part r)) (stream_records ys others other s)

pub own_part_bytes : (head : RecordHead) (stream : ℕ) (received : List Received) (bytes others part other : List ℕ)
    → AreStreamRecords stream (part_of head received) bytes part → AreStreamRecords stream (part_of head (only stream received)) others other → part ≡ other
own_part_bytes head stream received bytes others part other r s =
    same_records stream (part_of head received) (part_of head (only stream received)) bytes others part other (own_part_releases head stream received) r s

pub own_bytes : (head : RecordHead) (second : Bool) (stream : ℕ) (received : List Received) (bytes others part other : List ℕ) → AreRoutes second head.routes
    → AreStreamRecords stream (out_of head received) bytes part → AreStreamRecords stream (out_of head (only stream received)) others other → part ≡ other
own_bytes head second stream received bytes others part other routes r s =
    same_records stream (out_of head received) (out_of head (only stream received)) bytes others part other (own_releases head second stream received routes) r s
