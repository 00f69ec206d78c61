-- What is true of the events of calls whose packets are of their kinds.
use Rattle.std.proofs.Common.{◌≡◌, ℕ, suc, zero, ◌+◌, ◌-◌, ◌≤◌, min, List, [], ◌∷◌, ◌++◌, length, take, drop, map, get_or, refl, sym, ap, ◌∙◌, subst, arith, append_assoc}
use Rattle.std.proofs.lemmas.List.{get_or-drop}
use Rattle.std.specs.List.{AllByRecursion}
use Rattle.vrt_words.specs.Buffer.{Buffer}
use Rattle.vrt_time.specs.Time.{TimeStamp}
use Rattle.vrt_header.specs.Profile.{PacketProfile}
use Rattle.vrt_fields.specs.Format.{IsFormatFirst}
use Rattle.difi_context.specs.declared.context.ContextRec.{ContextRec}
use Rattle.difi_context.specs.Context.{IsSpelled}
use Rattle.reorder_window.specs.declared.entry.Entry.{Entry}
use Rattle.reorder_window.specs.Window.{accepted, released, lost_before, release, in_order, releases}
use Rattle.reorder_window.proofs.WindowLaws.{every-release}
use Rattle.vrt_fields.specs.declared.limits.Limits.{Limits}
use Rattle.sample_binder.specs.Pending.{Pending}
use Rattle.sample_binder.specs.Calls.{Call, ContextCall, DataCall, EndCall, context_entry, data_entry, context_arrivals, data_arrivals, shape_in, context_event, data_event, behind, all_releases, events_by, events_from, events_of}
use Rattle.sample_binder.specs.Events.{Event, ContextEvent, DataEvent, EndEvent, contexts_of, packets_of}
use Rattle.sample_binder.specs.Given.{IsDataOf}
use Rattle.sample_binder.specs.Parts.{IsCallOf, AreCallsOf, IsGivenIn}
use Rattle.sample_binder.proofs.MarkLemmas.{AreSoundFields, IsSoundContext}
use Rattle.sample_binder.proofs.StateLemmas.{sampling_of}

-- ---- what is true of each item of a list

module _ {X : Type 0} (P : X → Type 0) where
  pub every-append : (xs ys : List X) → AllByRecursion P xs → AllByRecursion P ys → AllByRecursion P (xs ++ ys)
  every-append [] ys h k = k
  every-append (x ∷ xs) ys h k = (h.0, every-append xs ys h.1 k)

  pub every-drop : (n : ℕ) (xs : List X) → AllByRecursion P xs → AllByRecursion P (drop n xs)
  every-drop zero xs h = h
  every-drop (suc n) [] h = h
  every-drop (suc n) (x ∷ xs) h = every-drop n xs h.1

  pub every-take : (n : ℕ) (xs : List X) → AllByRecursion P xs → AllByRecursion P (take n xs)
  every-take zero xs h = tt
  every-take (suc n) [] h = h
  every-take (suc n) (x ∷ xs) h = (h.0, every-take n xs h.1)

every-map : {X Y : Type 0} (P : Y → Type 0) (f : X → Y) (xs : List X) → AllByRecursion (λ x. P (f x)) xs → AllByRecursion P (map f xs)
every-map P f [] h = tt
every-map P f (x ∷ xs) h = (h.0, every-map P f xs h.1)

-- where two facts make a third
every-both : {X : Type 0} (P Q R : X → Type 0) → ((x : X) → P x → Q x → R x) → (xs : List X) → AllByRecursion P xs → AllByRecursion Q xs → AllByRecursion R xs
every-both P Q R f [] h k = tt
every-both P Q R f (x ∷ xs) h k = (f x h.0 k.0, every-both P Q R f xs h.1 k.1)

-- ---- releases

module _ {T : Type 0} where
  lost_few : (packet : Entry T) (earlier : List (Entry T)) → lost_before packet earlier ≤ 15
  lost_few packet [] = omega arith
  lost_few packet (previous ∷ earlier) = omega arith

  -- at most fifteen are said to be lost
  lost_each : (xs : List (Entry T)) → AllByRecursion (λ (r : TimeStamp × ℕ × T). r.1 ≤ 15) (in_order xs)
  lost_each [] = tt
  lost_each (x ∷ xs) = every-append (λ (r : TimeStamp × ℕ × T). r.1 ≤ 15) (in_order xs) (release x xs ∷ []) (lost_each xs) (lost_few x xs, tt)

  -- what is true of each arrival is true of each release, of which at most fifteen are lost before each
  released_each : (Q : T → Type 0) (R : TimeStamp × ℕ × T → Type 0) → ((r : TimeStamp × ℕ × T) → Q r.2 → r.1 ≤ 15 → R r)
      → (size : ℕ) (arrivals : List (Entry T)) (drained : ℕ) → AllByRecursion (λ (a : Entry T). Q a.item) arrivals → AllByRecursion R (releases size arrivals drained)
  released_each Q R f size arrivals drained h =
      every-both (λ (r : TimeStamp × ℕ × T). Q r.2) (λ (r : TimeStamp × ℕ × T). r.1 ≤ 15) R f (releases size arrivals drained)
      (every-release (λ stamp item. Q item) size arrivals drained h) (lost_each (released size arrivals drained))

  all_as : (size : ℕ) (arrivals : List (Entry T)) → releases size arrivals size ≡ all_releases size arrivals
  all_as size arrivals =
      let none : min size (length (accepted size arrivals)) - size ≡ 0 = omega arith in
      ap (λ n. in_order (drop n (accepted size arrivals))) none

  pub all_each : (Q : T → Type 0) (R : TimeStamp × ℕ × T → Type 0) → ((r : TimeStamp × ℕ × T) → Q r.2 → r.1 ≤ 15 → R r)
      → (size : ℕ) (arrivals : List (Entry T)) → AllByRecursion (λ (a : Entry T). Q a.item) arrivals → AllByRecursion R (all_releases size arrivals)
  all_each Q R f size arrivals h = subst (AllByRecursion R) (all_as size arrivals) (released_each Q R f size arrivals size h)

-- ---- packets that were given

-- the fields of a context in the grammar
pub fields_sound : (profile : PacketProfile) (rec : ContextRec) → IsSpelled profile rec → AreSoundFields rec.fields
fields_sound profile rec h =
    let words = h.words in
    let p = h.packet in
    let at : (k : ℕ) → get_or rec.fields k 0 ≡ get_or words (8 + k) 0 = λ k. ap (λ xs. get_or xs k 0) p.fields ∙ get_or-drop 8 words k 0 in
    record {
      are = record {
        rate = record { positive = omega (arith, at 11, p.rate.positive); least = omega (arith, at 11, at 12, p.rate.least) };
        format_first = subst IsFormatFirst (sym (at 17)) p.format_first;
        format_second = at 18 ∙ p.format_second;
      };
      sampling = sampling_of rec (record { profile = profile; spelled = h });
    }

-- a data packet that one of the calls gave
pub record IsGivenData (profile : PacketProfile) (all : List Call) (buf : Buffer) : Type 0 where
  pub given : IsGivenIn all buf
  pub grammar : IsDataOf profile buf.bytes

-- such a packet as it waits
pub record IsSoundPacket (profile : PacketProfile) (all : List Call) (packet : Pending) : Type 0 where
  pub buf : IsGivenData profile all packet.buf
  pub lost : packet.lost ≤ 15
  pub shape_is : packet.shape ≡ shape_in packet.shape.stamp packet.buf.bytes

abbrev pub IsSoundEvent : PacketProfile → List Call → Event → Type 0
IsSoundEvent profile all (ContextEvent context) = IsSoundContext context
IsSoundEvent profile all (DataEvent packet) = IsSoundPacket profile all packet
IsSoundEvent profile all EndEvent = Unit {0}

module _ (profile : PacketProfile) (all : List Call) where
  pub contexts_sound : (events : List Event) → AllByRecursion (IsSoundEvent profile all) events → AllByRecursion IsSoundContext (contexts_of events)
  contexts_sound [] h = tt
  contexts_sound (ContextEvent context ∷ events) h = (h.0, contexts_sound events h.1)
  contexts_sound (DataEvent packet ∷ events) h = contexts_sound events h.1
  contexts_sound (EndEvent ∷ events) h = contexts_sound events h.1

  pub packets_sound : (events : List Event) → AllByRecursion (IsSoundEvent profile all) events → AllByRecursion (IsSoundPacket profile all) (packets_of events)
  packets_sound [] h = tt
  packets_sound (ContextEvent context ∷ events) h = packets_sound events h.1
  packets_sound (DataEvent packet ∷ events) h = (h.0, packets_sound events h.1)
  packets_sound (EndEvent ∷ events) h = packets_sound events h.1

  contexts_given : (calls : List Call) → AreCallsOf profile calls → AllByRecursion (λ (a : Entry ContextRec). IsSpelled profile a.item) (context_arrivals calls)
  contexts_given [] h = tt
  contexts_given (ContextCall rec ∷ calls) h = (h.0, contexts_given calls h.1)
  contexts_given (DataCall buf ∷ calls) h = contexts_given calls h.1
  contexts_given (EndCall ∷ calls) h = contexts_given calls h.1

  data_given : (front calls later : List Call) → all ≡ front ++ (calls ++ later) → AreCallsOf profile calls → AllByRecursion (λ (a : Entry Buffer). IsGivenData profile all a.item) (data_arrivals calls)
  data_given front [] later e h = tt
  data_given front (ContextCall rec ∷ calls) later e h =
      data_given (front ++ ContextCall rec ∷ []) calls later (e ∙ sym (append_assoc front (ContextCall rec ∷ []) (calls ++ later))) h.1
  data_given front (DataCall buf ∷ calls) later e h = (
    record { given = record { before = front; later = calls ++ later; there = e }; grammar = h.0 },
    data_given (front ++ DataCall buf ∷ []) calls later (e ∙ sym (append_assoc front (DataCall buf ∷ []) (calls ++ later))) h.1,
  )
  data_given front (EndCall ∷ calls) later e h =
      data_given (front ++ EndCall ∷ []) calls later (e ∙ sym (append_assoc front (EndCall ∷ []) (calls ++ later))) h.1

  -- a release as an event
  context_sound : (r : TimeStamp × ℕ × ContextRec) → IsSpelled profile r.2 → r.1 ≤ 15 → IsSoundEvent profile all (context_event r)
  context_sound r h few = record { fields = fields_sound profile r.2 h; lost = few }

  packet_sound : (r : TimeStamp × ℕ × Buffer) → IsGivenData profile all r.2 → r.1 ≤ 15 → IsSoundEvent profile all (data_event r)
  packet_sound r h few = record { buf = h; lost = few; shape_is = refl }

  context_events : (before rs : List (TimeStamp × ℕ × ContextRec)) → AllByRecursion (λ (r : TimeStamp × ℕ × ContextRec). IsSoundEvent profile all (context_event r)) rs
      → AllByRecursion (IsSoundEvent profile all) (map context_event (behind before rs))
  context_events before rs h =
      every-map (IsSoundEvent profile all) context_event (behind before rs) (every-drop (λ (r : TimeStamp × ℕ × ContextRec). IsSoundEvent profile all (context_event r)) (length before) rs h)

  data_events : (before rs : List (TimeStamp × ℕ × Buffer)) → AllByRecursion (λ (r : TimeStamp × ℕ × Buffer). IsSoundEvent profile all (data_event r)) rs
      → AllByRecursion (IsSoundEvent profile all) (map data_event (behind before rs))
  data_events before rs h =
      every-map (IsSoundEvent profile all) data_event (behind before rs) (every-drop (λ (r : TimeStamp × ℕ × Buffer). IsSoundEvent profile all (data_event r)) (length before) rs h)

  module _ (limits : Limits) where
    -- the events that a call causes
    by_sound : (before : List Call) (call : Call) (later : List Call) → all ≡ before ++ call ∷ later → AreCallsOf profile before → IsCallOf profile call
        → AllByRecursion (IsSoundEvent profile all) (events_by limits before call)
    by_sound before (ContextCall rec) later e h k =
        context_events (releases limits.context_window (context_arrivals before) 0) (releases limits.context_window (context_arrivals before ++ context_entry rec ∷ []) 0)
        (released_each (IsSpelled profile) (λ (r : TimeStamp × ℕ × ContextRec). IsSoundEvent profile all (context_event r)) context_sound limits.context_window (context_arrivals before ++ context_entry rec ∷ []) 0
        (every-append (λ (a : Entry ContextRec). IsSpelled profile a.item) (context_arrivals before) (context_entry rec ∷ []) (contexts_given before h) (k, tt)))
    by_sound before (DataCall buf) later e h k =
        data_events (releases limits.data_window (data_arrivals before) 0) (releases limits.data_window (data_arrivals before ++ data_entry buf ∷ []) 0)
        (released_each (IsGivenData profile all) (λ (r : TimeStamp × ℕ × Buffer). IsSoundEvent profile all (data_event r)) packet_sound limits.data_window (data_arrivals before ++ data_entry buf ∷ []) 0
        (every-append (λ (a : Entry Buffer). IsGivenData profile all a.item) (data_arrivals before) (data_entry buf ∷ []) (data_given [] before (DataCall buf ∷ later) e h)
        (record { given = record { before = before; later = later; there = e }; grammar = k }, tt)))
    by_sound before EndCall later e h k =
        every-append (IsSoundEvent profile all) (map context_event (behind (releases limits.context_window (context_arrivals before) 0) (all_releases limits.context_window (context_arrivals before)))) _
        (context_events (releases limits.context_window (context_arrivals before) 0) (all_releases limits.context_window (context_arrivals before))
        (all_each (IsSpelled profile) (λ (r : TimeStamp × ℕ × ContextRec). IsSoundEvent profile all (context_event r)) context_sound limits.context_window (context_arrivals before) (contexts_given before h)))
        (every-append (IsSoundEvent profile all) (map data_event (behind (releases limits.data_window (data_arrivals before) 0) (all_releases limits.data_window (data_arrivals before)))) (EndEvent ∷ [])
        (data_events (releases limits.data_window (data_arrivals before) 0) (all_releases limits.data_window (data_arrivals before))
        (all_each (IsGivenData profile all) (λ (r : TimeStamp × ℕ × Buffer). IsSoundEvent profile all (data_event r)) packet_sound limits.data_window (data_arrivals before) (data_given [] before (EndCall ∷ later) e h)))
        (tt, tt))

    from_sound : (before calls : List Call) → all ≡ before ++ calls → AreCallsOf profile before → AreCallsOf profile calls → AllByRecursion (IsSoundEvent profile all) (events_from limits before calls)
    from_sound before [] e h k = tt
    from_sound before (call ∷ calls) e h k =
        every-append (IsSoundEvent profile all) (events_by limits before call) (events_from limits (before ++ call ∷ []) calls)
        (by_sound before call calls e h k.0)
        (from_sound (before ++ call ∷ []) calls (e ∙ sym (append_assoc before (call ∷ []) calls)) (every-append (IsCallOf profile) before (call ∷ []) h (k.0, tt)) k.1)

    -- the events of all calls
    pub events_sound : AreCallsOf profile all → AllByRecursion (IsSoundEvent profile all) (events_of limits all)
    events_sound h = from_sound [] all refl tt h
