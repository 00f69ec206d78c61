-- A packet of a delivery that arrives for the first time is refused by no release.
use Rattle.std.proofs.Common.{◌≡◌, ◌≢◌, ◌⊎◌, ℕ, zero, suc, ◌+◌, ◌<◌, ◌≤◌, ◌==◌, Bool, true, false, cond, List, [], ◌∷◌, ◌++◌, length, map, slice_get, Option, Some, None, Result, Ok, Err, IsOk, refl, sym, ap, ◌∙◌, subst, inl, inr, arith, length-append}
use Rattle.std.proofs.lemmas.Bool.{false≢true}
use Rattle.std.proofs.lemmas.Option.{same_Some, none-some}
use Rattle.std.specs.List.{AllByRecursion, flat_map}
use Rattle.vrt_words.specs.Buffer.{Buffer}
use Rattle.vrt_fields.specs.declared.limits.Limits.{Limits}
use Rattle.vrt_fields.specs.declared.route.Route.{Route}
use Rattle.difi_context.specs.declared.context.ContextRec.{ContextRec}
use Rattle.difi_data.specs.Data.{DataPacket}
use Rattle.difi_packet.specs.Packet.{DataValue, ContextValue, VersionValue, ControlValue, CancelValue, AckValue}
use Rattle.replay_form.specs.FrameFields.{Frame}
use Rattle.replay_form.specs.declared.record_head.RecordHead.{RecordHead}
use Rattle.reorder_window.specs.declared.entry.Entry.{Entry}
use Rattle.reorder_window.specs.Delivery.{IsSent, IsDelivery, occurs}
use Rattle.reorder_window.specs.Window.{released, answer, answer_accepted}
use Rattle.reorder_window.proofs.DeliveryLemmas.{final-answered}
use Rattle.release_form.specs.declared.refusal.Refusal.TheVariants.{NoRoute}
use Rattle.release_form.specs.declared.shown.Shown.TheVariants as shown
use Rattle.stream_routes.specs.Ports.{is_listed, ports_of}
use Rattle.sample_binder.specs.Calls.{Call, ContextCall, DataCall, EndCall, context_arrivals, context_entry, data_arrivals, data_entry, given_by, outcome}
use Rattle.sample_binder.specs.Parts.{payload_of}
use Rattle.sample_binder.specs.declared.out.Out.{Out}
use Rattle.sample_binder.specs.declared.out.Out.TheVariants as out
use Rattle.sample_binder.specs.declared.out.Run.{Run}
use Rattle.sample_binder.specs.declared.arrive.Turned.{Turned}
use Rattle.sample_binder.specs.declared.arrive.Turned.TheVariants as turned
use Rattle.sample_binder.proofs.BinderLemmas.{context_arrivals-append, data_arrivals-append}
use Rattle.sample_binder.proofs.EventLemmas.{every-append}
use Rattle.site_truth.specs.Site.{context_sent}
use Rattle.site_truth.specs.Delivered.{Delivery, packet_arriving}
use Rattle.site_truth.proofs.ListLemmas.{occurs-cases}
use Rattle.difi_gateway.specs.Contents.{Content, Larger, NoPacket, Holds, IsContent, Received, IsReceived}
use Rattle.difi_gateway.specs.Calls.{buffer_of, calls, calls_by}
use Rattle.difi_gateway.specs.Told.{Item, RefusedItem, RunItem, VersionItem, runs_from, runs_told, same_buffer, same_context, turned_of, turned_away, bound, called, told, told_by, told_from, told_at_end}
use Rattle.difi_gateway.specs.Releases.{Release, all_told, copies, copies_of, out_of}
use Rattle.difi_gateway.specs.StreamDelivered.{IsFirstArrival, IsStreamDelivered}
use Rattle.difi_gateway.specs.TrueText.{AreFirstTaken, IsNotRefused, Refuses}
use Rattle.difi_gateway.proofs.Growth.{told_from-append}
use Rattle.difi_gateway.proofs.OneReading.{one_content}
use Rattle.difi_gateway.proofs.StreamRuns.{calls-append, equal_to, true_or_false}

abbrev holding : Frame → Content → Received
holding frame content = record { frame = frame; content = content }

-- ---- the window of its kind takes it

-- where the items of a list begin with some, so do the numbers
record AreCutAt {T : Type 0} (packet : ℕ → T) (order : List ℕ) (front : List T) (here : T) : Type 0 where
  pub earlier : List ℕ
  pub number : ℕ
  pub later : List ℕ
  pub are : order ≡ earlier ++ number ∷ later
  pub front_is : map packet earlier ≡ front
  pub here_is : packet number ≡ here

cut_at : {T : Type 0} (packet : ℕ → T) (order : List ℕ) (front : List T) (here : T) (rest : List T) → map packet order ≡ front ++ here ∷ rest → AreCutAt packet order front here
cut_at packet [] [] here rest e = absurd (cc)
cut_at packet [] (x ∷ xs) here rest e = absurd (cc)
cut_at packet (k ∷ ks) [] here rest e = record { earlier = []; number = k; later = ks; are = refl; front_is = refl; here_is = cc }
cut_at packet (k ∷ ks) (x ∷ xs) here rest e =
    let first : packet k ≡ x = cc in
    let behind : map packet ks ≡ xs ++ here ∷ rest = cc in
    let r = cut_at packet ks xs here rest behind in
    record {
      earlier = k ∷ r.earlier;
      number = r.number;
      later = r.later;
      are = ap (λ ns. k ∷ ns) r.are;
      front_is = ap (λ ys. packet k ∷ ys) r.front_is ∙ ap (λ y. y ∷ xs) first;
      here_is = r.here_is;
    }

-- a number that occurs has its item there
item_there : {T : Type 0} (packet : ℕ → T) (k : ℕ) (ks : List ℕ) → occurs k ks ≡ true → (i : ℕ) × (slice_get (map packet ks) i ≡ Some (packet k))
item_there packet k [] e = absurd (false≢true e)
item_there packet k (j ∷ ks) e = elim (occurs-cases k j ks e) [
  | inl same ↦ (0, ap (λ n. Some (packet n)) same)
  | inr there ↦ let r = item_there packet k ks there in (suc r.0, r.1)
]

accepted_taken : {T : Type 0} (after : List (Entry T)) → IsOk (outcome (answer_accepted after))
accepted_taken [] = refl
accepted_taken (least ∷ earlier) = refl

not_turned : {R T : Type 0} (r : Result R (Turned × T)) → IsOk r → turned_of r ≡ None
not_turned (Ok released) e = refl
not_turned (Err why) e = absurd (cc)

-- what did not arrive before is taken
fresh_taken : {T : Type 0} (start total size : ℕ) (packet : ℕ → Entry T) (order : List ℕ) (front : List (Entry T)) (here : Entry T) (rest : List (Entry T)) (same : T → T → Bool)
    → IsSent start total packet → IsDelivery size total order → map packet order ≡ front ++ here ∷ rest → ((i : ℕ) → slice_get front i ≢ Some here)
    → turned_of (outcome (answer same size front here)) ≡ None
fresh_taken {T} start total size packet order front here rest same s d e fresh =
    let r = cut_at packet order front here rest e in
    let absent : occurs r.number r.earlier ≡ false = elim (true_or_false (occurs r.number r.earlier)) [
      | inl on ↦
          let t = item_there packet r.number r.earlier on in
          absurd (fresh t.0 (ap (λ xs. slice_get xs t.0) (sym r.front_is) ∙ t.1 ∙ ap Some r.here_is))
      | inr off ↦ off
    ] in
    let final = final-answered start total size packet order r.earlier r.later r.number same s d r.are absent in
    let taken : IsOk (outcome (answer same size (map packet r.earlier) (packet r.number))) =
    subst (λ a. IsOk (outcome a)) (sym final) (accepted_taken (released size (map packet r.earlier ++ packet r.number ∷ []) 0)) in
    not_turned (outcome (answer same size front here))
    (subst (λ (x : Entry T). IsOk (outcome (answer same size front x))) r.here_is
    (subst (λ (xs : List (Entry T)). IsOk (outcome (answer same size xs (packet r.number)))) r.front_is taken))

-- ---- a packet that arrived before stands in a frame before

-- a frame holds a data packet in this buffer, or this context
abbrev pub HoldsBuffer : RecordHead → Buffer → Received → Type 0
HoldsBuffer head buf r = (packet : DataPacket) × (r.content ≡ Holds (DataValue packet)) × (buffer_of head r.frame.datagram ≡ buf)

abbrev pub HoldsContext : ContextRec → Received → Type 0
HoldsContext rec r = r.content ≡ Holds (ContextValue rec)

abbrev pub IsAmong : (Received → Type 0) → List Received → Type 0
IsAmong P before = (j : ℕ) × (other : Received) × (slice_get before j ≡ Some other) × P other

among_rest : (P : Received → Type 0) (r : Received) (before : List Received) → IsAmong P before → IsAmong P (r ∷ before)
among_rest P r before a = (suc a.0, a.1, a.2, a.3)

module _ (head : RecordHead) (stream : ℕ) where
  -- the arrivals of a frame stand in front of the others
  data_here : (frame : Frame) (content : Content) (before : List Received) (buf : Buffer)
      → ((i : ℕ) → slice_get (data_arrivals (calls head stream before)) i ≡ Some (data_entry buf) → IsAmong (HoldsBuffer head buf) before) → (i : ℕ)
      → slice_get (data_arrivals (calls_by head stream (holding frame content) ++ calls head stream before)) i ≡ Some (data_entry buf)
      → IsAmong (HoldsBuffer head buf) (holding frame content ∷ before)
  data_here frame (Larger size) before buf h i e = among_rest (HoldsBuffer head buf) _ before (h i e)
  data_here frame (NoPacket word) before buf h i e = among_rest (HoldsBuffer head buf) _ before (h i e)
  data_here frame (Holds (DataValue packet)) before buf h i e = by_stream (packet.prologue.stream == stream) refl i e
    where
      by_stream : (b : Bool) → (packet.prologue.stream == stream) ≡ b → (i : ℕ)
          → slice_get (data_arrivals (cond (packet.prologue.stream == stream) (DataCall (buffer_of head frame.datagram) ∷ []) [] ++ calls head stream before)) i ≡ Some (data_entry buf)
          → IsAmong (HoldsBuffer head buf) (holding frame (Holds (DataValue packet)) ∷ before)
      by_stream true is zero f =
          let one : Some (data_entry (buffer_of head frame.datagram)) ≡ Some (data_entry buf) =
          sym (ap (λ b. slice_get (data_arrivals (cond b (DataCall (buffer_of head frame.datagram) ∷ []) [] ++ calls head stream before)) 0) is) ∙ f in
          (0, holding frame (Holds (DataValue packet)), refl, (packet, refl, ap (λ (x : Entry Buffer). x.item) (same_Some _ _ one)))
      by_stream true is (suc i) f =
          among_rest (HoldsBuffer head buf) _ before
          (h i (sym (ap (λ b. slice_get (data_arrivals (cond b (DataCall (buffer_of head frame.datagram) ∷ []) [] ++ calls head stream before)) (suc i)) is) ∙ f))
      by_stream false is i f =
          among_rest (HoldsBuffer head buf) _ before
          (h i (sym (ap (λ b. slice_get (data_arrivals (cond b (DataCall (buffer_of head frame.datagram) ∷ []) [] ++ calls head stream before)) i) is) ∙ f))
  data_here frame (Holds (ContextValue rec)) before buf h i e =
      among_rest (HoldsBuffer head buf) _ before (h i (by_stream (rec.prologue.stream == stream) refl))
    where
      by_stream : (b : Bool) → (rec.prologue.stream == stream) ≡ b → slice_get (data_arrivals (calls head stream before)) i ≡ Some (data_entry buf)
      by_stream true is = sym (ap (λ b. slice_get (data_arrivals (cond b (ContextCall rec ∷ []) [] ++ calls head stream before)) i) is) ∙ e
      by_stream false is = sym (ap (λ b. slice_get (data_arrivals (cond b (ContextCall rec ∷ []) [] ++ calls head stream before)) i) is) ∙ e
  data_here frame (Holds (VersionValue rec)) before buf h i e = among_rest (HoldsBuffer head buf) _ before (h i e)
  data_here frame (Holds (ControlValue packet)) before buf h i e = among_rest (HoldsBuffer head buf) _ before (h i e)
  data_here frame (Holds (CancelValue packet)) before buf h i e = among_rest (HoldsBuffer head buf) _ before (h i e)
  data_here frame (Holds (AckValue packet)) before buf h i e = among_rest (HoldsBuffer head buf) _ before (h i e)

  data_among : (before : List Received) (buf : Buffer) (i : ℕ) → slice_get (data_arrivals (calls head stream before)) i ≡ Some (data_entry buf) → IsAmong (HoldsBuffer head buf) before
  data_among [] buf i e = absurd (none-some _ e)
  data_among (r ∷ before) buf i e = data_here r.frame r.content before buf (data_among before buf) i e

  context_here : (frame : Frame) (content : Content) (before : List Received) (rec : ContextRec)
      → ((i : ℕ) → slice_get (context_arrivals (calls head stream before)) i ≡ Some (context_entry rec) → IsAmong (HoldsContext rec) before) → (i : ℕ)
      → slice_get (context_arrivals (calls_by head stream (holding frame content) ++ calls head stream before)) i ≡ Some (context_entry rec)
      → IsAmong (HoldsContext rec) (holding frame content ∷ before)
  context_here frame (Larger size) before rec h i e = among_rest (HoldsContext rec) _ before (h i e)
  context_here frame (NoPacket word) before rec h i e = among_rest (HoldsContext rec) _ before (h i e)
  context_here frame (Holds (DataValue packet)) before rec h i e =
      among_rest (HoldsContext rec) _ before (h i (by_stream (packet.prologue.stream == stream) refl))
    where
      by_stream : (b : Bool) → (packet.prologue.stream == stream) ≡ b → slice_get (context_arrivals (calls head stream before)) i ≡ Some (context_entry rec)
      by_stream true is = sym (ap (λ b. slice_get (context_arrivals (cond b (DataCall (buffer_of head frame.datagram) ∷ []) [] ++ calls head stream before)) i) is) ∙ e
      by_stream false is = sym (ap (λ b. slice_get (context_arrivals (cond b (DataCall (buffer_of head frame.datagram) ∷ []) [] ++ calls head stream before)) i) is) ∙ e
  context_here frame (Holds (ContextValue other)) before rec h i e = by_stream (other.prologue.stream == stream) refl i e
    where
      by_stream : (b : Bool) → (other.prologue.stream == stream) ≡ b → (i : ℕ)
          → slice_get (context_arrivals (cond (other.prologue.stream == stream) (ContextCall other ∷ []) [] ++ calls head stream before)) i ≡ Some (context_entry rec)
          → IsAmong (HoldsContext rec) (holding frame (Holds (ContextValue other)) ∷ before)
      by_stream true is zero f =
          let one : Some (context_entry other) ≡ Some (context_entry rec) =
          sym (ap (λ b. slice_get (context_arrivals (cond b (ContextCall other ∷ []) [] ++ calls head stream before)) 0) is) ∙ f in
          let same : other ≡ rec = ap (λ (x : Entry ContextRec). x.item) (same_Some _ _ one) in
          (0, holding frame (Holds (ContextValue other)), refl, ap (λ c. Holds (ContextValue c)) same)
      by_stream true is (suc i) f =
          among_rest (HoldsContext rec) _ before
          (h i (sym (ap (λ b. slice_get (context_arrivals (cond b (ContextCall other ∷ []) [] ++ calls head stream before)) (suc i)) is) ∙ f))
      by_stream false is i f =
          among_rest (HoldsContext rec) _ before
          (h i (sym (ap (λ b. slice_get (context_arrivals (cond b (ContextCall other ∷ []) [] ++ calls head stream before)) i) is) ∙ f))
  context_here frame (Holds (VersionValue other)) before rec h i e = among_rest (HoldsContext rec) _ before (h i e)
  context_here frame (Holds (ControlValue packet)) before rec h i e = among_rest (HoldsContext rec) _ before (h i e)
  context_here frame (Holds (CancelValue packet)) before rec h i e = among_rest (HoldsContext rec) _ before (h i e)
  context_here frame (Holds (AckValue packet)) before rec h i e = among_rest (HoldsContext rec) _ before (h i e)

  context_among : (before : List Received) (rec : ContextRec) (i : ℕ) → slice_get (context_arrivals (calls head stream before)) i ≡ Some (context_entry rec) → IsAmong (HoldsContext rec) before
  context_among [] rec i e = absurd (none-some _ e)
  context_among (r ∷ before) rec i e = context_here r.frame r.content before rec (context_among before rec) i e

-- ---- items that refuse no frame of a number

abbrev pub IsNotOf : ℕ → Item → Type 0
IsNotOf n (RefusedItem frame port refusal detail stamp) = frame ≢ n
IsNotOf n (RunItem stream lost run payload) = Unit {0}
IsNotOf n (VersionItem stream packet) = Unit {0}

module _ (n : ℕ) where
  runs_not : (stream lost : ℕ) (payload : List ℕ) (outs : List Out) → AllByRecursion (IsNotOf n) (runs_from stream lost payload outs)
  runs_not stream lost payload [] = tt
  runs_not stream lost payload (out.Packet buf number ∷ outs) = runs_not stream number (payload_of buf.bytes) outs
  runs_not stream lost payload (out.Run run ∷ outs) = (tt, runs_not stream 0 payload outs)

  bound_not : (number port stream : ℕ) (given : List Out) (why : Option Turned) → number ≢ n → AllByRecursion (IsNotOf n) (bound number port stream given why)
  bound_not number port stream given None h = runs_not stream 0 [] given
  bound_not number port stream given (Some (turned.Late boundary)) h = (h, tt)
  bound_not number port stream given (Some turned.Repeat) h = (h, tt)
  bound_not number port stream given (Some (turned.Conflict count)) h = (h, tt)

  routed_not : (number port stream : ℕ) (items : List Item) (b : Bool) → number ≢ n → AllByRecursion (IsNotOf n) items
      → AllByRecursion (IsNotOf n) (cond b items (RefusedItem number port NoRoute stream None ∷ []))
  routed_not number port stream items true h all = all
  routed_not number port stream items false h all = (h, tt)

  module _ (head : RecordHead) where
    by_not : (before : List Received) (frame : Frame) (content : Content) → length before + 1 ≢ n → AllByRecursion (IsNotOf n) (told_by head before (holding frame content))
    by_not before frame (Larger size) h = (h, tt)
    by_not before frame (NoPacket word) h = (h, tt)
    by_not before frame (Holds (DataValue packet)) h =
        let m = length before + 1 in
        let s = packet.prologue.stream in
        let cs = calls head s before in
        let call = DataCall (buffer_of head frame.datagram) in
        routed_not m frame.port s (called head.limits m frame.port s cs call) (is_listed head.routes s) h
        (bound_not m frame.port s (given_by head.limits cs call) (turned_away head.limits cs call) h)
    by_not before frame (Holds (ContextValue rec)) h =
        let m = length before + 1 in
        let s = rec.prologue.stream in
        let cs = calls head s before in
        let call = ContextCall rec in
        routed_not m frame.port s (called head.limits m frame.port s cs call) (is_listed head.routes s) h
        (bound_not m frame.port s (given_by head.limits cs call) (turned_away head.limits cs call) h)
    by_not before frame (Holds (VersionValue rec)) h =
        let s = rec.prologue.stream in
        routed_not (length before + 1) frame.port s (VersionItem s frame.datagram ∷ []) (is_listed head.routes s) h (tt, tt)
    by_not before frame (Holds (ControlValue packet)) h = (h, tt)
    by_not before frame (Holds (CancelValue packet)) h = (h, tt)
    by_not before frame (Holds (AckValue packet)) h = (h, tt)

    -- frames that all come behind the one of this number, or all before it
    from_not : (before later : List Received) → (n ≤ length before) ⊎ (length before + length later < n) → AllByRecursion (IsNotOf n) (told_from head before later)
    from_not before [] h = tt
    from_not before (r ∷ later) (inl h) =
        let long = length-append before (r ∷ []) in
        every-append (IsNotOf n) (told_by head before r) (told_from head (before ++ r ∷ []) later) (by_not before r.frame r.content (λ e. omega (arith, h, e)))
        (from_not (before ++ r ∷ []) later (inl (omega (arith, h, long))))
    from_not before (r ∷ later) (inr h) =
        let long = length-append before (r ∷ []) in
        every-append (IsNotOf n) (told_by head before r) (told_from head (before ++ r ∷ []) later) (by_not before r.frame r.content (λ e. omega (arith, h, e)))
        (from_not (before ++ r ∷ []) later (inr (omega (arith, h, long))))

    end_not : (received : List Received) (routes : List Route) → AllByRecursion (IsNotOf n) (flat_map (λ (route : Route). runs_told route.stream (given_by head.limits (calls head route.stream received) EndCall)) routes)
    end_not received [] = tt
    end_not received (route ∷ routes) =
        every-append (IsNotOf n) (runs_told route.stream (given_by head.limits (calls head route.stream received) EndCall)) _
        (runs_not route.stream 0 [] (given_by head.limits (calls head route.stream received) EndCall)) (end_not received routes)

  -- ---- and their copies

  abbrev pub Spares : Release → Type 0
  Spares release = ¬ Refuses n release.shown

  run_spares : (stream lost : ℕ) (run : Run) (payload ports : List ℕ)
      → AllByRecursion Spares (map (λ port. record { shown = shown.Run stream port lost run; payload = payload }) ports)
  run_spares stream lost run payload [] = tt
  run_spares stream lost run payload (port ∷ ports) = (λ x. x, run_spares stream lost run payload ports)

  version_spares : (packet ports : List ℕ) → AllByRecursion Spares (map (λ port. record { shown = shown.Version port; payload = packet }) ports)
  version_spares packet [] = tt
  version_spares packet (port ∷ ports) = (λ x. x, version_spares packet ports)

  item_spares : (routes : List Route) (item : Item) → IsNotOf n item → AllByRecursion Spares (copies_of routes item)
  item_spares routes (RefusedItem frame port refusal detail stamp) h = (h, tt)
  item_spares routes (RunItem stream lost run payload) h = run_spares stream lost run payload (ports_of routes stream)
  item_spares routes (VersionItem stream packet) h = version_spares packet (ports_of routes stream)

  copies_spare : (routes : List Route) (items : List Item) → AllByRecursion (IsNotOf n) items → AllByRecursion Spares (copies routes items)
  copies_spare routes [] h = tt
  copies_spare routes (item ∷ items) h = every-append Spares (copies_of routes item) (copies routes items) (item_spares routes item h.0) (copies_spare routes items h.1)

-- where the frame itself is not refused, no release refuses it
not_refused : (head : RecordHead) (before later : List Received) (r : Received) → AllByRecursion (IsNotOf (length before + 1)) (told_by head before r)
    → IsNotRefused before (out_of head (before ++ r ∷ later))
not_refused head before later r own =
    let n = length before + 1 in
    let received = before ++ r ∷ later in
    let here = told_by head before r in
    let long = length-append before (r ∷ []) in
    let behind = told_from head (before ++ r ∷ []) later in
    let rest : AllByRecursion (IsNotOf n) (here ++ behind) =
    every-append (IsNotOf n) here behind own (from_not n head (before ++ r ∷ []) later (inl (omega (arith, long)))) in
    let frames : AllByRecursion (IsNotOf n) (told head received) =
    subst (AllByRecursion (IsNotOf n)) (sym (told_from-append head [] before (r ∷ later)))
    (every-append (IsNotOf n) (told_from head [] before) (here ++ behind) (from_not n head [] before (inr (omega arith))) rest) in
    let all : AllByRecursion (IsNotOf n) (all_told head received) =
    every-append (IsNotOf n) (told head received) (told_at_end head received) frames (end_not n head received head.routes) in
    every-append (Spares n) (copies head.routes (all_told head received)) _ (copies_spare n head.routes (all_told head received) all) (λ x. x, tt)

-- ---- the frame itself

listed_told : (head : RecordHead) (number port stream : ℕ) (before : List Call) (call : Call) → is_listed head.routes stream ≡ true → turned_away head.limits before call ≡ None
    → AllByRecursion (IsNotOf number) (cond (is_listed head.routes stream) (called head.limits number port stream before call) (RefusedItem number port NoRoute stream None ∷ []))
listed_told head number port stream before call on none =
    let given = given_by head.limits before call in
    let is : cond (is_listed head.routes stream) (called head.limits number port stream before call) (RefusedItem number port NoRoute stream None ∷ []) ≡ runs_told stream given =
    ap (λ b. cond b (called head.limits number port stream before call) (RefusedItem number port NoRoute stream None ∷ [])) on ∙ ap (bound number port stream given) none in
    subst (AllByRecursion (IsNotOf number)) (sym is) (runs_not number stream 0 [] given)

at_place : {X : Type 0} (P : X → Type 0) (xs : List X) (i : ℕ) (x : X) → AllByRecursion P xs → slice_get xs i ≡ Some x → P x
at_place P [] i x h e = absurd (none-some _ e)
at_place P (y ∷ xs) zero x h e = subst P (same_Some _ _ e) h.0
at_place P (y ∷ xs) (suc i) x h e = at_place P xs i x h.1 e

front_all : {X : Type 0} (P : X → Type 0) (xs ys : List X) → AllByRecursion P (xs ++ ys) → AllByRecursion P xs
front_all P [] ys h = tt
front_all P (x ∷ xs) ys h = (h.0, front_all P xs ys h.1)

first_behind : {X : Type 0} (P : X → Type 0) (xs : List X) (x : X) (ys : List X) → AllByRecursion P (xs ++ x ∷ ys) → P x
first_behind P [] x ys h = h.0
first_behind P (y ∷ xs) x ys h = first_behind P xs x ys h.1

module _ (head : RecordHead) (stream : ℕ) (delivery : Delivery) (before later : List Received) (on : is_listed head.routes stream ≡ true) where
  data_turned : (frame : Frame) (packet : DataPacket) → AllByRecursion (IsReceived head) (before ++ holding frame (Holds (DataValue packet)) ∷ later)
      → IsStreamDelivered head (before ++ holding frame (Holds (DataValue packet)) ∷ later) stream delivery → IsFirstArrival stream before (holding frame (Holds (DataValue packet)))
      → turned_away head.limits (calls head stream before) (DataCall (buffer_of head frame.datagram)) ≡ None
  data_turned frame packet contents s f =
      let r = holding frame (Holds (DataValue packet)) in
      let cs = calls head stream before in
      let buf = buffer_of head frame.datagram in
      let own : calls_by head stream r ≡ DataCall buf ∷ [] = ap (λ b. cond b (DataCall buf ∷ []) []) f.of_stream in
      let all : delivery.calls ≡ cs ++ DataCall buf ∷ calls head stream later =
      s.calls_are ∙ calls-append head stream before (r ∷ later) ∙ ap (λ xs. cs ++ (xs ++ calls head stream later)) own in
      let sent : IsSent s.site.first_packet delivery.site.packets_sent (packet_arriving delivery) = record { rising = s.site.packets.rising; counted = s.site.packets.counted } in
      let given : map (packet_arriving delivery) delivery.packets ≡ data_arrivals cs ++ data_entry buf ∷ data_arrivals (calls head stream later) =
      sym s.delivered.packets_given ∙ ap data_arrivals all ∙ data_arrivals-append cs (DataCall buf ∷ calls head stream later) in
      let fresh : (i : ℕ) → slice_get (data_arrivals cs) i ≢ Some (data_entry buf) = λ i e.
      let a = data_among head stream before buf i e in
      let other = a.1 in
      let same : other.frame.datagram ≡ frame.datagram = ap (λ (b : Buffer). b.bytes) a.3.2 in
      let its = at_place (IsReceived head) before a.0 other (front_all (IsReceived head) before (r ∷ later) contents) a.2 in
      let mine = first_behind (IsReceived head) before r later contents in
      f.first a.0 other a.2 (one_content head frame.datagram other.content r.content (subst (λ d. IsContent head d other.content) same its) mine) in
      ap (λ (l : Limits). turned_of (outcome (answer same_buffer l.data_window (data_arrivals cs) (data_entry buf)))) (sym s.limits)
      ∙ fresh_taken s.site.first_packet delivery.site.packets_sent delivery.limits.data_window (packet_arriving delivery) delivery.packets (data_arrivals cs) (data_entry buf)
      (data_arrivals (calls head stream later)) same_buffer sent s.delivered.packets given fresh

  context_turned : (frame : Frame) (rec : ContextRec) → IsStreamDelivered head (before ++ holding frame (Holds (ContextValue rec)) ∷ later) stream delivery
      → IsFirstArrival stream before (holding frame (Holds (ContextValue rec))) → turned_away head.limits (calls head stream before) (ContextCall rec) ≡ None
  context_turned frame rec s f =
      let r = holding frame (Holds (ContextValue rec)) in
      let cs = calls head stream before in
      let own : calls_by head stream r ≡ ContextCall rec ∷ [] = ap (λ b. cond b (ContextCall rec ∷ []) []) f.of_stream in
      let all : delivery.calls ≡ cs ++ ContextCall rec ∷ calls head stream later =
      s.calls_are ∙ calls-append head stream before (r ∷ later) ∙ ap (λ xs. cs ++ (xs ++ calls head stream later)) own in
      let given : map (context_sent delivery.site) delivery.contexts ≡ context_arrivals cs ++ context_entry rec ∷ context_arrivals (calls head stream later) =
      sym s.delivered.contexts_given ∙ ap context_arrivals all ∙ context_arrivals-append cs (ContextCall rec ∷ calls head stream later) in
      let fresh : (i : ℕ) → slice_get (context_arrivals cs) i ≢ Some (context_entry rec) = λ i e.
      let a = context_among head stream before rec i e in
      f.first a.0 a.1 a.2 a.3 in
      ap (λ (l : Limits). turned_of (outcome (answer same_context l.context_window (context_arrivals cs) (context_entry rec)))) (sym s.limits)
      ∙ fresh_taken s.site.first_context delivery.site.contexts_sent delivery.limits.context_window (context_sent delivery.site) delivery.contexts (context_arrivals cs) (context_entry rec)
      (context_arrivals (calls head stream later)) same_context s.site.contexts s.delivered.contexts given fresh

  told_not : (frame : Frame) (content : Content) → AllByRecursion (IsReceived head) (before ++ holding frame content ∷ later)
      → IsStreamDelivered head (before ++ holding frame content ∷ later) stream delivery → IsFirstArrival stream before (holding frame content)
      → AllByRecursion (IsNotOf (length before + 1)) (told_by head before (holding frame content))
  told_not frame (Larger size) contents s f = absurd (false≢true f.of_stream)
  told_not frame (NoPacket word) contents s f = absurd (false≢true f.of_stream)
  told_not frame (Holds (DataValue packet)) contents s f =
      let n = length before + 1 in
      let call = DataCall (buffer_of head frame.datagram) in
      let same : packet.prologue.stream ≡ stream = equal_to packet.prologue.stream stream f.of_stream in
      subst (λ (t : ℕ). AllByRecursion (IsNotOf n) (cond (is_listed head.routes t) (called head.limits n frame.port t (calls head t before) call) (RefusedItem n frame.port NoRoute t None ∷ []))) (sym same)
      (listed_told head n frame.port stream (calls head stream before) call on (data_turned frame packet contents s f))
  told_not frame (Holds (ContextValue rec)) contents s f =
      let n = length before + 1 in
      let call = ContextCall rec in
      let same : rec.prologue.stream ≡ stream = equal_to rec.prologue.stream stream f.of_stream in
      subst (λ (t : ℕ). AllByRecursion (IsNotOf n) (cond (is_listed head.routes t) (called head.limits n frame.port t (calls head t before) call) (RefusedItem n frame.port NoRoute t None ∷ []))) (sym same)
      (listed_told head n frame.port stream (calls head stream before) call on (context_turned frame rec s f))
  told_not frame (Holds (VersionValue rec)) contents s f = absurd (false≢true f.of_stream)
  told_not frame (Holds (ControlValue packet)) contents s f = absurd (false≢true f.of_stream)
  told_not frame (Holds (CancelValue packet)) contents s f = absurd (false≢true f.of_stream)
  told_not frame (Holds (AckValue packet)) contents s f = absurd (false≢true f.of_stream)

pub first_taken : (head : RecordHead) (received : List Received) → AllByRecursion (IsReceived head) received → AreFirstTaken head received (out_of head received)
first_taken head received contents stream delivery on s before later r e f =
    let own = told_not head stream delivery before later on r.frame r.content (subst (AllByRecursion (IsReceived head)) e contents)
    (subst (λ (rs : List Received). IsStreamDelivered head rs stream delivery) e s) f in
    subst (λ (rs : List Received). IsNotRefused before (out_of head rs)) (sym e) (not_refused head before later r own)
