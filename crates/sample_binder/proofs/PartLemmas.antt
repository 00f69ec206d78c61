-- Outputs are whole packets, which can be written.
use Rattle.std.proofs.Common.{◌≡◌, ℕ, ◌-◌, ◌*◌, Bool, true, false, cond, List, [], ◌∷◌, ◌++◌, length, drop, refl, sym, ap, ◌∙◌, subst, arith, append_assoc, length-drop}
use Rattle.std.proofs.lemmas.List.{append-nil}
use Rattle.std.specs.List.{AllByRecursion}
use Rattle.vrt_header.specs.Profile.{PacketProfile}
use Rattle.context_timeline.specs.State.{TimelineState}
use Rattle.vrt_fields.specs.declared.limits.Limits.{Limits}
use Rattle.sample_binder.specs.declared.out.Out.{Out}
use Rattle.sample_binder.specs.Pending.{Pending}
use Rattle.sample_binder.specs.declared.reason.Reason.{Reason}
use Rattle.sample_binder.specs.Calls.{Call, events_of, events_by, outputs_of, given_by, behind}
use Rattle.sample_binder.specs.Events.{Event, contexts_of, packets_of, has_ended, line_after}
use Rattle.sample_binder.specs.Given.{HasDataSize}
use Rattle.sample_binder.specs.Outputs.{open_reason, outputs}
use Rattle.sample_binder.specs.Parts.{AreCallsOf, Part, outs_of_part, outs_of, payload_of, IsWhole, AreParts, AreWhole, AnyPart}
use Rattle.sample_binder.specs.Queue.{IsShape, is_first_due, queue_owes}
use Rattle.sample_binder.specs.Runs.{runs_of}
use Rattle.sample_binder.proofs.ArrivalLemmas.{behind-append}
use Rattle.sample_binder.proofs.BinderLemmas.{data_size, events_of-more}
use Rattle.sample_binder.proofs.EventLemmas.{every-append, every-drop, IsSoundPacket, IsSoundEvent, contexts_sound, packets_sound, events_sound}
use Rattle.sample_binder.proofs.MarkLemmas.{IsSoundContext}
use Rattle.sample_binder.proofs.PrefixLaws.{outputs-prefix, one_more_owes}
use Rattle.sample_binder.proofs.WritableLemmas.{AreLeft, runs_left}

abbrev pub part_of : TimelineState → Reason → Pending → Part
part_of line why packet = record { buf = packet.buf; lost = packet.lost; runs = runs_of line why packet.shape }

-- ---- packets one after another

outs_of-append : (ps qs : List Part) → outs_of (ps ++ qs) ≡ outs_of ps ++ outs_of qs
outs_of-append [] qs = refl
outs_of-append (p ∷ ps) qs = ap (λ xs. outs_of_part p ++ xs) (outs_of-append ps qs) ∙ sym (append_assoc (outs_of_part p) (outs_of ps) (outs_of qs))

module _ (P : Part → Type 0) where
  no_parts : AreParts P []
  no_parts = record { parts = []; outs_are = refl; each = tt }

  one_part : (p : Part) → P p → AreParts P (outs_of_part p)
  one_part p h = record { parts = p ∷ []; outs_are = sym (append-nil (outs_of_part p)); each = (h, tt) }

  more_parts : (xs ys : List Out) → AreParts P xs → AreParts P ys → AreParts P (xs ++ ys)
  more_parts xs ys a b = record {
    parts = a.parts ++ b.parts;
    outs_are = ap (λ zs. zs ++ ys) a.outs_are ∙ ap (λ zs. outs_of a.parts ++ zs) b.outs_are ∙ sym (outs_of-append a.parts b.parts);
    each = every-append P a.parts b.parts a.each b.each;
  }

  chosen_parts : (b : Bool) (xs : List Out) → AreParts P xs → AreParts P (cond b xs [])
  chosen_parts true xs h = h
  chosen_parts false xs h = no_parts

  -- those that the packets that wait give now
  owes_parts : (pending : ℕ) (line : TimelineState) (ended : Bool) (queue : List Pending) → AllByRecursion (λ (packet : Pending). P (part_of line (open_reason ended) packet)) queue
      → AreParts P (queue_owes pending line ended queue)
  owes_parts pending line ended [] h = no_parts
  owes_parts pending line ended (packet ∷ rest) h =
      let part = part_of line (open_reason ended) packet in
      let behind_it = queue_owes pending line ended rest in
      chosen_parts (is_first_due pending line ended packet.shape (length (packet ∷ rest))) (outs_of_part part ++ behind_it)
      (more_parts (outs_of_part part) behind_it (one_part part h.0) (owes_parts pending line ended rest h.1))

  -- where it is true of each packet as it leaves after some of the events, more events add such packets
  abbrev AreGood : Limits → List Event → Type 0
  AreGood limits events = AllByRecursion (λ (packet : Pending). P (part_of (line_after limits.kept events) (open_reason (has_ended events)) packet)) (packets_of events)

  later_parts : (limits : Limits) (good : (es : List Event) → Type 0) → ((es : List Event) → good es → AreGood limits es)
      → ((es fs : List Event) → good (es ++ fs) → good es) → (later events : List Event) → good (events ++ later)
      → (more : List Out) × (outputs limits (events ++ later) ≡ outputs limits events ++ more) × AreParts P more
  later_parts limits good is_good front [] events h =
      ([], ap (outputs limits) (append-nil events) ∙ sym (append-nil (outputs limits events)), no_parts)
  later_parts limits good is_good front (event ∷ later) events h =
      let all = events ++ event ∷ [] in
      let one = one_more_owes limits events event in
      let assoc = append_assoc events (event ∷ []) later in
      let whole : good (all ++ later) = subst good (sym assoc) h in
      let rest = later_parts limits good is_good front later all whole in
      let line = line_after limits.kept all in
      let queue = drop one.0 (packets_of all) in
      let first = queue_owes limits.pending line (has_ended all) queue in
      let here = owes_parts limits.pending line (has_ended all) queue
      (every-drop (λ (packet : Pending). P (part_of line (open_reason (has_ended all)) packet)) one.0 (packets_of all) (is_good all (front all later whole))) in (
        first ++ rest.0,
        ap (outputs limits) (sym assoc) ∙ rest.1 ∙ ap (λ xs. xs ++ rest.0) one.1 ∙ append_assoc (outputs limits events) first rest.0,
        more_parts first rest.0 here rest.2,
      )

-- ---- any packets

any_each : (f : Pending → Part) (packets : List Pending) → AllByRecursion (λ (packet : Pending). AnyPart (f packet)) packets
any_each f [] = tt
any_each f (packet ∷ packets) = (tt, any_each f packets)

-- more events add whole packets
pub later_packets : (limits : Limits) (events later : List Event) → (more : List Out) × (outputs limits (events ++ later) ≡ outputs limits events ++ more) × AreParts AnyPart more
later_packets limits events later =
    later_parts AnyPart limits (λ es. Unit {0}) (λ es h. any_each (part_of (line_after limits.kept es) (open_reason (has_ended es))) (packets_of es)) (λ es fs h. tt) later events tt

-- ---- packets that were given

module _ (profile : PacketProfile) (all : List Call) where
  -- a packet, and what it leaves in
  pub record LeavesIn (part : Part) : Type 0 where
    pub size : HasDataSize part.buf.bytes
    pub left : AreLeft (length (payload_of part.buf.bytes)) part.runs

  pub leaves_in : (kept : ℕ) (es : List Event) → AllByRecursion (IsSoundEvent profile all) es → (packet : Pending) → IsSoundPacket profile all packet
      → LeavesIn (part_of (line_after kept es) (open_reason (has_ended es)) packet)
  leaves_in kept es sound packet h =
      let bytes = packet.buf.bytes in
      let size : HasDataSize bytes = data_size profile bytes h.buf.grammar in
      let shape = ap (λ s. s.words) h.shape_is in
      let fits : IsShape packet.shape = record { words = omega (arith, shape, size.most); pad = omega (arith, ap (λ s. s.pad) h.shape_is) } in
      let payload : length (payload_of bytes) ≡ 4 * packet.shape.words = omega (arith, length-drop 28 bytes, size.whole, size.least, shape) in
      let contexts = contexts_of es in
      let kept_sound = every-drop IsSoundContext (length contexts - kept) contexts (contexts_sound profile all es sound) in
      record { size = size; left = runs_left (length (payload_of bytes)) packet.shape (omega (arith, shape, size.least)) fits payload (line_after kept es) (has_ended es) kept_sound }

  pub part_whole : (kept : ℕ) (es : List Event) → AllByRecursion (IsSoundEvent profile all) es → (packet : Pending) → IsSoundPacket profile all packet
      → IsWhole all (part_of (line_after kept es) (open_reason (has_ended es)) packet)
  part_whole kept es sound packet h =
      let l = leaves_in kept es sound packet h in
      record { given = h.buf.given; size = l.size; lost = h.lost; some = l.left.some; runs = l.left.writable; few = l.left.few }

  each_whole : (kept : ℕ) (es : List Event) → AllByRecursion (IsSoundEvent profile all) es → (packets : List Pending) → AllByRecursion (IsSoundPacket profile all) packets
      → AllByRecursion (λ (packet : Pending). IsWhole all (part_of (line_after kept es) (open_reason (has_ended es)) packet)) packets
  each_whole kept es sound [] h = tt
  each_whole kept es sound (packet ∷ packets) h = (part_whole kept es sound packet h.0, each_whole kept es sound packets h.1)

  front_sound : (es fs : List Event) → AllByRecursion (IsSoundEvent profile all) (es ++ fs) → AllByRecursion (IsSoundEvent profile all) es
  front_sound [] fs h = tt
  front_sound (e ∷ es) fs h = (h.0, front_sound es fs h.1)

  later_whole : (limits : Limits) (events later : List Event) → AllByRecursion (IsSoundEvent profile all) (events ++ later)
      → (more : List Out) × (outputs limits (events ++ later) ≡ outputs limits events ++ more) × AreWhole all more
  later_whole limits events later h =
      later_parts (IsWhole all) limits (AllByRecursion (IsSoundEvent profile all)) (λ es sound. each_whole limits.kept es sound (packets_of es) (packets_sound profile all es sound)) front_sound later events h

-- all outputs of calls are whole packets
pub outputs_whole : (profile : PacketProfile) (limits : Limits) (calls : List Call) → AreCallsOf profile calls → AreWhole calls (outputs_of limits calls)
outputs_whole profile limits calls h =
    let more = later_whole profile calls limits [] (events_of limits calls) (events_sound profile calls limits h) in
    subst (AreWhole calls) (sym more.1) more.2

-- ---- what a call adds

-- outputs append
pub outputs_append : (limits : Limits) (calls : List Call) (call : Call) → outputs_of limits (calls ++ call ∷ []) ≡ outputs_of limits calls ++ given_by limits calls call
outputs_append limits calls call =
    let p = outputs-prefix limits (events_by limits calls call) (events_of limits calls) in
    let all = ap (outputs limits) (events_of-more limits calls call) ∙ p.1 in
    let before = outputs_of limits calls in
    all ∙ ap (λ xs. before ++ xs) (sym (ap (behind before) all ∙ behind-append before p.0))

pub given_whole : (profile : PacketProfile) (limits : Limits) (calls : List Call) (call : Call) → AreCallsOf profile (calls ++ call ∷ []) → AreWhole (calls ++ call ∷ []) (given_by limits calls call)
given_whole profile limits calls call h =
    let events = events_of-more limits calls call in
    let sound = subst (AllByRecursion (IsSoundEvent profile (calls ++ call ∷ []))) events (events_sound profile (calls ++ call ∷ []) limits h) in
    let more = later_whole profile (calls ++ call ∷ []) limits (events_of limits calls) (events_by limits calls call) sound in
    let before = outputs_of limits calls in
    let same : given_by limits calls call ≡ more.0 = ap (behind before) (ap (outputs limits) events ∙ more.1) ∙ behind-append before more.0 in
    subst (AreWhole (calls ++ call ∷ [])) (sym same) more.2
