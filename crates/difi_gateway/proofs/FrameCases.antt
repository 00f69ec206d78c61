-- One frame, by what it holds: that it is refused, shown, or given to a binder.
use Rattle.std.proofs.Common.{◌≡◌, ◌⊎◌, inl, inr, ℕ, ◌+◌, ◌<◌, ◌≤◌, ◌==◌, Bool, true, false, nat_lt, cond, List, [], ◌∷◌, ◌++◌, length, drop, slice_get, slice_set, slice_index, Option, Some, None, IfSome, refl, sym, ap, ◌∙◌, subst, arith, ◌≢◌}
use Rattle.std.proofs.lemmas.Bool.Decides.{nat_tests}
use Rattle.std.specs.List.{AllByRecursion, sum_by}
use Rattle.std.proofs.lemmas.List.{append-nil, length-append, length-drop, length-set, get_or-set_same, get_or-set_other, drop_all}
use Rattle.std.proofs.lemmas.List.Sums.{sum_by-append, sum_by-set}
use Rattle.std.proofs.lemmas.Option.{slice_get_within, get_or_from_slice_get, slice_get-get_or}
use Rattle.std.proofs.ByRecursion.{All-append}
use Rattle.vrt_words.specs.Words.{AreBytes}
use Rattle.vrt_words.specs.Buffer.{Buffer}
use Rattle.vrt_time.specs.Time.{TimeStamp}
use Rattle.vrt_fields.specs.Route.{AreRoutes}
use Rattle.vrt_fields.specs.declared.route.Route.{Route}
use Rattle.replay_form.specs.declared.record_head.RecordHead.{RecordHead}
use Rattle.sample_binder.specs.Binder as binder
use Rattle.sample_binder.specs.Binder.{BinderState, number_kept}
use Rattle.sample_binder.specs.Calls.{Call, outputs_of, given_by}
use Rattle.sample_binder.specs.Parts.{payload_of}
use Rattle.sample_binder.specs.Queue.{owed}
use Rattle.sample_binder.proofs.NextLemmas.{taken_within}
use Rattle.sample_binder.specs.declared.out.Out.{Out}
use Rattle.sample_binder.specs.declared.arrive.Turned.{Turned}
use Rattle.sample_binder.specs.declared.arrive.Turned.TheVariants as whys
use Rattle.release_form.specs.declared.refusal.Refusal.{Refusal}
use Rattle.release_form.specs.declared.refusal.Refusal.TheVariants.{NoRoute, Late, Repeat, Conflict}
use Rattle.stream_routes.specs.Ports.{IsRouteAt, ports_at}
use Rattle.stream_routes.proofs.PortLaws.{listed_there, not_listed, one_route, ports_there, some_ports, routes_of_form_2}
use Rattle.difi_gateway.specs.Contents.{Received, IsReceived}
use Rattle.difi_gateway.specs.Calls.{calls, calls_by}
use Rattle.difi_gateway.specs.Told.{Item, RefusedItem, VersionItem, told_by, routed, called, bound, turned_away, runs_from, runs_told}
use Rattle.difi_gateway.specs.Releases.{counts_of, bound_samples, uncertain_samples, raw_packets, refused_frames, versions}
use Rattle.difi_gateway.specs.State.{Gated, StandsFor, IsAtRest, IsOf, IsPlaced, AreBinders, AreBuffers, IsStream, IsIdle, HasRoom, items_in, items_left, packet_in, stream_at, stream_in, calls_with}
use Rattle.difi_gateway.specs.Steps.{refused, refused_for, drawing, called_with, shown_at, more, IsCalled, kept_by}
use Rattle.difi_gateway.specs.declared.stage.Stage.{Stage}
use Rattle.difi_gateway.specs.declared.stage.Stage.TheVariants as stages
use Rattle.difi_gateway.proofs.StreamRuns.{true_or_false, equal_to, given_parts, runs-append, turned_changes_nothing, calls-append}
use Rattle.difi_gateway.proofs.FrameSteps.{IsNext}

-- ---- lists

pub cons : {x y : ℕ} {xs ys : List ℕ} → x ≡ y → xs ≡ ys → x ∷ xs ≡ y ∷ ys
cons {x} {y} {xs} {ys} e f = ap (λ n. n ∷ xs) e ∙ ap (λ l. y ∷ l) f

-- one more item is counted
pub counts_more : (n : ℕ) (items : List Item) (item : Item)
    → counts_of n (items ++ item ∷ [])
    ≡ n ∷ (sum_by bound_samples items + bound_samples item) ∷ (sum_by uncertain_samples items + uncertain_samples item) ∷ (sum_by raw_packets items + raw_packets item)
    ∷ (sum_by refused_frames items + refused_frames item) ∷ 0 ∷ (sum_by versions items + versions item) ∷ []
counts_more n items item =
    let one : (f : Item → ℕ) → sum_by f (items ++ item ∷ []) ≡ sum_by f items + f item = λ f. omega (arith, sum_by-append f items (item ∷ [])) in
    cons refl (cons (one bound_samples) (cons (one uncertain_samples) (cons (one raw_packets) (cons (one refused_frames) (cons refl (cons (one versions) refl))))))

counts_refused : (n : ℕ) (items : List Item) (frame port : ℕ) (refusal : Refusal) (detail : ℕ) (stamp : Option TimeStamp) (counts : List ℕ) → counts ≡ counts_of n items
    → more 4 1 (more 0 1 counts) ≡ counts_of (n + 1) (items ++ RefusedItem frame port refusal detail stamp ∷ [])
counts_refused n items frame port refusal detail stamp counts e =
    ap (λ l. more 4 1 (more 0 1 l)) e
    ∙ cons refl (cons (omega arith) (cons (omega arith) (cons (omega arith) (cons refl (cons refl (cons (omega arith) refl))))))
    ∙ sym (counts_more (n + 1) items (RefusedItem frame port refusal detail stamp))

pub below_none : (k : ℕ) → nat_lt k 0 ≡ false
below_none k = grind (arith, nat_tests)

-- ---- binders

calls_more : (head : RecordHead) (stream : ℕ) (received : List Received) (r : Received) → calls head stream (received ++ r ∷ []) ≡ calls head stream received ++ calls_by head stream r
calls_more head stream received r = calls-append head stream received (r ∷ []) ∙ ap (λ l. calls head stream received ++ l) (append-nil (calls_by head stream r))

-- every binder is idle after these frames
pub record AreIdle (head : RecordHead) (received : List Received) (binders : List BinderState) : Type 0 where
  pub all : length binders ≡ length head.routes
  pub each : (k : ℕ) (route : Route) (bound : BinderState) → slice_get head.routes k ≡ Some route → slice_get binders k ≡ Some bound → IsIdle head (calls head route.stream received) bound

pub waiting_idle : (head : RecordHead) (received : List Received) (left : List Out) (binders : List BinderState) → AreBinders head received stages.Waiting left binders → AreIdle head received binders
waiting_idle head received left binders are = record {
  all = are.all;
  each = λ k route bound p q.
      subst (λ b. IsIdle head (calls_with b (calls head route.stream received)) bound) (below_none k) ((are.each k route bound p q).idle (λ x. x));
}

pub idle_waiting : (head : RecordHead) (received : List Received) (binders : List BinderState) → AreIdle head received binders → AreBinders head received stages.Waiting [] binders
idle_waiting head received binders are = record {
  all = are.all;
  none_behind = tt;
  each = λ k route bound p q. record {
    drawn = λ never. absurd never;
    idle = λ h. subst (λ b. IsIdle head (calls_with b (calls head route.stream received)) bound) (sym (below_none k)) (are.each k route bound p q);
  };
}

-- the one of this index gives these outputs, and all others are idle
pub one_draws : (head : RecordHead) (received : List Received) (index : ℕ) (left : List Out) (binders : List BinderState) → length binders ≡ length head.routes
    → ((k : ℕ) (route : Route) (bound : BinderState) → k ≡ index → slice_get head.routes k ≡ Some route → slice_get binders k ≡ Some bound → IsStream head (calls head route.stream received) left bound)
    → ((k : ℕ) (route : Route) (bound : BinderState) → k ≢ index → slice_get head.routes k ≡ Some route → slice_get binders k ≡ Some bound → IsIdle head (calls head route.stream received) bound)
    → AreBinders head received (stages.Drawing index) left binders
one_draws head received index left binders all here others = record {
  all = all;
  none_behind = tt;
  each = λ k route bound p q. record {
    drawn = λ is. subst (λ b. IsStream head (calls_with b (calls head route.stream received)) left bound) (sym (below_none k)) (here k route bound is p q);
    idle = λ is_not. subst (λ b. IsIdle head (calls_with b (calls head route.stream received)) bound) (sym (below_none k)) (others k route bound is_not p q);
  };
}

-- ---- a frame that makes no call

module _ (gate : Gated) (head : RecordHead) (received : List Received) (given : ℕ) (st : StandsFor gate head received false given) (rest : IsAtRest gate) (r : Received)
    (content : IsReceived head r) (fit : AreBytes r.frame.datagram) where
  pub idle_now : AreIdle head received gate.binders
  idle_now = waiting_idle head received st.left gate.binders (subst (λ (s : Stage). AreBinders head received s st.left gate.binders) rest.stage st.binders)

  pub number_is : slice_index gate.counts 0 ≡ length received
  number_is = ap (λ l. slice_index l 0) st.counts

  pub quiet : ((k : ℕ) (route : Route) → slice_get head.routes k ≡ Some route → calls_by head route.stream r ≡ []) → AreIdle head (received ++ r ∷ []) gate.binders
  quiet none = record {
    all = idle_now.all;
    each = λ k route bound p q.
        subst (λ cs. IsIdle head cs bound) (sym (calls_more head route.stream received r ∙ ap (λ l. calls head route.stream received ++ l) (none k route p) ∙ append-nil _)) (idle_now.each k route bound p q);
  }

  abbrev changed : List BinderState → List Buffer → Gated
  changed binders empty = record gate { binders = binders; empty = empty }

  is_of_changed : (binders : List BinderState) (empty : List Buffer) → IsOf head (changed binders empty)
  is_of_changed binders empty = record { values = st.is_of.values; profile = st.is_of.profile; max_words = st.is_of.max_words; routes = st.is_of.routes }

  -- it is refused
  pub refused_next : (binders : List BinderState) (empty : List Buffer) (port : ℕ) (refusal : Refusal) (detail : ℕ) (stamp : Option TimeStamp)
      → told_by head received r ≡ RefusedItem (length received + 1) port refusal detail stamp ∷ []
      → AreIdle head (received ++ r ∷ []) binders → AreBuffers head binders empty
      → IsNext gate head received given st rest r (refused (changed binders empty) port (length r.frame.datagram) refusal detail stamp) []
  refused_next binders empty port refusal detail stamp told_is idle buffers = record {
    is_of = record { values = st.is_of.values; profile = st.is_of.profile; max_words = st.is_of.max_words; routes = st.is_of.routes };
    content = content;
    fit = fit;
    taken = omega arith;
    waits = inl rest.stage;
    binders = subst (λ (s : Stage). AreBinders head (received ++ r ∷ []) s [] binders) (sym rest.stage) (idle_waiting head (received ++ r ∷ []) binders idle);
    buffers = buffers;
    told_is =
        ap (λ (s : Stage). RefusedItem (slice_index gate.counts 0 + 1) port refusal detail stamp
        ∷ items_left head (received ++ r ∷ []) (refused (changed binders empty) port (length r.frame.datagram) refusal detail stamp) [] s) rest.stage
        ∙ ap (λ n. RefusedItem (n + 1) port refusal detail stamp ∷ []) number_is
        ∙ sym told_is;
    first = refl;
    placed = refl;
    counts = λ begun e. counts_refused (length received) begun (slice_index gate.counts 0 + 1) port refusal detail stamp gate.counts e;
  }

-- ---- a packet of a stream

other_number : (a b : ℕ) → a ≢ b → (a == b) ≡ false
other_number a b h = grind (arith, nat_tests, h)

same_number : (a : ℕ) → (a == a) ≡ true
same_number a = grind (arith, nat_tests)

pub none_either : (b : Bool) (none : List Call) → none ≡ [] → cond b none [] ≡ []
none_either true none e = e
none_either false none e = refl

-- it makes these calls of its stream's binder and no other, and where its stream is listed this is told
pub record IsPacketOf (head : RecordHead) (received : List Received) (r : Received) (stream : ℕ) (items : List Item) (made : List Call) : Type 0 where
  pub told_is : told_by head received r ≡ routed head.routes (length received + 1) r.frame.port stream items
  pub calls_are : (other : ℕ) → calls_by head other r ≡ cond (stream == other) made []

module _ (head : RecordHead) (received : List Received) (r : Received) (stream : ℕ) (items : List Item) (made : List Call) (packet : IsPacketOf head received r stream items made) where
  pub told_listed : (index : ℕ) → IsRouteAt head.routes stream index → told_by head received r ≡ items
  told_listed index route =
      packet.told_is ∙ ap (λ b. cond b items (RefusedItem (length received + 1) r.frame.port NoRoute stream None ∷ [])) (listed_there head.routes stream index route)

  pub told_unlisted : ((index : ℕ) → ¬ IsRouteAt head.routes stream index) → told_by head received r ≡ RefusedItem (length received + 1) r.frame.port NoRoute stream None ∷ []
  told_unlisted absent =
      packet.told_is ∙ ap (λ b. cond b items (RefusedItem (length received + 1) r.frame.port NoRoute stream None ∷ [])) (not_listed head.routes stream absent)

  pub no_call : (k : ℕ) (route : Route) → slice_get head.routes k ≡ Some route → stream ≢ route.stream → calls_by head route.stream r ≡ []
  no_call k route p apart = packet.calls_are route.stream ∙ ap (λ b. cond b made []) (other_number stream route.stream apart)

  pub its_calls : calls_by head stream r ≡ made
  its_calls = packet.calls_are stream ∙ ap (λ b. cond b made []) (same_number stream)

module _ (gate : Gated) (head : RecordHead) (received : List Received) (given : ℕ) (st : StandsFor gate head received false given) (rest : IsAtRest gate) (r : Received)
    (content : IsReceived head r) (fit : AreBytes r.frame.datagram) where
  -- its stream has no route
  pub unlisted_next : (stream : ℕ) (items : List Item) (made : List Call) → IsPacketOf head received r stream items made → ((index : ℕ) → ¬ IsRouteAt head.routes stream index)
      → IsNext gate head received given st rest r (refused gate r.frame.port (length r.frame.datagram) NoRoute stream None) []
  unlisted_next stream items made packet absent =
      refused_next gate head received given st rest r content fit gate.binders gate.empty r.frame.port NoRoute stream None
      (told_unlisted head received r stream items made packet absent)
      (quiet gate head received given st rest r content fit
      (λ k route p. no_call head received r stream items made packet k route p (λ e. absent k (record { route = route; there = p; stream_is = sym e }))))
      st.buffers

  -- nothing is called
  pub uncalled_next : (refusal : Refusal) (detail : ℕ) → told_by head received r ≡ RefusedItem (length received + 1) r.frame.port refusal detail None ∷ []
      → ((stream : ℕ) → calls_by head stream r ≡ [])
      → IsNext gate head received given st rest r (refused gate r.frame.port (length r.frame.datagram) refusal detail None) []
  uncalled_next refusal detail told_is none =
      refused_next gate head received given st rest r content fit gate.binders gate.empty r.frame.port refusal detail None told_is
      (quiet gate head received given st rest r content fit (λ k route p. none route.stream)) st.buffers

-- ---- the buffers

-- behind the others stands the packet that was put there last
pub packet_last : (front : List Buffer) (buf : Buffer) → packet_in (front ++ buf ∷ []) ≡ buf.bytes
packet_last [] buf = refl
packet_last (first ∷ []) buf = refl
packet_last (first ∷ next ∷ front) buf = packet_last (next ∷ front) buf

pub split_all : (P : Buffer → Type 0) (front : List Buffer) (last : Buffer) → AllByRecursion P (front ++ last ∷ []) → AllByRecursion P front × P last
split_all P [] last all = (tt, all.0)
split_all P (first ∷ front) last all = let later = split_all P front last all.1 in ((all.0, later.0), later.1)

-- the last one is filled with other bytes
refilled : (head : RecordHead) (binders : List BinderState) (empty front : List Buffer) (last : Buffer) (bytes : List ℕ) → AreBuffers head binders empty → empty ≡ front ++ last ∷ []
    → AreBuffers head binders (front ++ record last { bytes = bytes } ∷ [])
refilled head binders empty front last bytes are e =
    let rooms = split_all (HasRoom head.max_words) front last (subst (AllByRecursion (HasRoom head.max_words)) e are.rooms) in
    record {
      all = omega (arith, are.all, ap (λ (l : List Buffer). length l) e, length-append front (last ∷ []), length-append front (record last { bytes = bytes } ∷ []));
      rooms = All-append (HasRoom head.max_words) front (record last { bytes = bytes } ∷ []) rooms.0 (rooms.1, tt);
    }

pub stream_there : (routes : List Route) (stream index : ℕ) → IsRouteAt routes stream index → stream_at routes index ≡ stream
stream_there routes stream index route = ap stream_in route.there ∙ route.stream_is

counts_shown : (n : ℕ) (items : List Item) (stream : ℕ) (packet : List ℕ) (counts : List ℕ) → counts ≡ counts_of n items
    → more 6 1 (more 0 1 counts) ≡ counts_of (n + 1) (items ++ VersionItem stream packet ∷ [])
counts_shown n items stream packet counts e =
    ap (λ l. more 6 1 (more 0 1 l)) e
    ∙ cons refl (cons (omega arith) (cons (omega arith) (cons (omega arith) (cons (omega arith) (cons refl (cons refl refl))))))
    ∙ sym (counts_more (n + 1) items (VersionItem stream packet))

by_form : (second : Bool) (routes : List Route) → AreRoutes second routes → AreRoutes true routes
by_form true routes h = h
by_form false routes h = routes_of_form_2 routes h

pub either_form : (form : ℕ) (routes : List Route) → AreRoutes (form == 2) routes → AreRoutes true routes
either_form form routes h = by_form (form == 2) routes h

module _ (gate : Gated) (head : RecordHead) (received : List Received) (given : ℕ) (st : StandsFor gate head received false given) (rest : IsAtRest gate) (r : Received)
    (content : IsReceived head r) (fit : AreBytes r.frame.datagram) where
  pub routes_valid : AreRoutes true head.routes
  routes_valid = either_form head.form head.routes st.is_of.values.routes

  -- a version packet is shown
  pub shown_next : (stream : ℕ) → IsPacketOf head received r stream (VersionItem stream r.frame.datagram ∷ []) []
      → (index : ℕ) → IsRouteAt head.routes stream index → (front : List Buffer) (last : Buffer) → gate.empty ≡ front ++ last ∷ []
      → IsNext gate head received given st rest r (shown_at gate index (front ++ record last { bytes = r.frame.datagram } ∷ []) r.frame.datagram) []
  shown_next stream packet index route front last empties =
      let buffers = front ++ record last { bytes = r.frame.datagram } ∷ [] in
      let new = shown_at gate index buffers r.frame.datagram in
      let items : VersionItem (stream_at gate.routes index) (packet_in buffers) ≡ VersionItem stream r.frame.datagram =
      ap (λ routes. VersionItem (stream_at routes index) (packet_in buffers)) st.is_of.routes ∙ ap (λ s. VersionItem s (packet_in buffers)) (stream_there head.routes stream index route)
      ∙ ap (λ l. VersionItem stream l) (packet_last front (record last { bytes = r.frame.datagram })) in
      let idle = quiet gate head received given st rest r content fit (λ k other p. packet.calls_are other.stream ∙ none_either (stream == other.stream) [] refl) in
      record {
        is_of = record { values = st.is_of.values; profile = st.is_of.profile; max_words = st.is_of.max_words; routes = st.is_of.routes };
        content = content;
        fit = fit;
        taken = omega arith;
        waits = inl rest.stage;
        binders = subst (λ (s : Stage). AreBinders head (received ++ r ∷ []) s [] gate.binders) (sym rest.stage) (idle_waiting head (received ++ r ∷ []) gate.binders idle);
        buffers = refilled head gate.binders gate.empty front last r.frame.datagram st.buffers empties;
        told_is =
            ap (λ (s : Stage). VersionItem (stream_at gate.routes index) (packet_in buffers) ∷ items_left head (received ++ r ∷ []) new [] s) rest.stage
            ∙ ap (λ item. item ∷ []) items ∙ sym (told_listed head received r stream (VersionItem stream r.frame.datagram ∷ []) [] packet index route);
        first = refl;
        placed = subst (λ routes. (index < length routes) × (0 < length (ports_at routes index))) (sym st.is_of.routes)
            (slice_get_within head.routes index route.route route.there, subst (λ (l : List ℕ). 0 < length l) (ports_there head.routes stream index routes_valid route) (some_ports head.routes stream index routes_valid route));
        counts = λ begun e. counts_shown (length received) begun (stream_at gate.routes index) (packet_in buffers) gate.counts e;
      }

-- ---- a call

abbrev pub left_by : Option Turned → List Out → List Out
left_by None outs = outs
left_by (Some why) outs = []

pub same_or_other : (a b : ℕ) → (a ≡ b) ⊎ (a ≢ b)
same_or_other a b = elim (true_or_false (a == b)) [ inl e ↦ inl (equal_to a b e) | inr e ↦ inr (λ same. grind (arith, nat_tests, e, same)) ]

pub set_same : {X : Type 0} (xs : List X) (index : ℕ) (x y : X) → slice_get (slice_set xs index x) index ≡ Some y → index < length xs → y ≡ x
set_same xs index x y p lt = sym (get_or_from_slice_get (slice_set xs index x) index y y p) ∙ get_or-set_same xs index x y lt

pub set_other : {X : Type 0} (xs : List X) (index k : ℕ) (x y : X) → k ≢ index → slice_get (slice_set xs index x) k ≡ Some y → slice_get xs k ≡ Some y
set_other {X} xs index k x y apart p =
    let lt : k < length xs = omega (arith, slice_get_within (slice_set xs index x) k y p, length-set xs index x) in
    slice_get-get_or xs k y lt ∙ ap (λ (z : X). Some z) (sym (get_or-set_other xs index k x y apart) ∙ get_or_from_slice_get (slice_set xs index x) k y y p)

module _ (gate : Gated) (head : RecordHead) (received : List Received) (given : ℕ) (st : StandsFor gate head received false given) (rest : IsAtRest gate) (r : Received)
    (content : IsReceived head r) (fit : AreBytes r.frame.datagram)
    (call : Call) (stream : ℕ)
    (packet : IsPacketOf head received r stream (called head.limits (length received + 1) r.frame.port stream (calls head stream received) call) (call ∷ []))
    (index : ℕ) (route : IsRouteAt head.routes stream index)
    (was now : BinderState) (there : slice_get gate.binders index ≡ Some was) (turned : Option Turned) (is : IsCalled call turned was now)
    (buffers : List Buffer) (number : length buffers + kept_by call turned ≡ length gate.empty) (rooms : AllByRecursion (HasRoom head.max_words) buffers) where
  abbrev before : List Call
  before = calls head stream received

  abbrev binders : List BinderState
  binders = slice_set gate.binders index now

  among : index < length gate.binders
  among = slice_get_within gate.binders index was there

  was_idle : IsIdle head before was
  was_idle =
      subst (λ s. IsIdle head (calls head s received) was) route.stream_is
      ((idle_now gate head received given st rest r content fit).each index route.route was route.there there)

  turned_is : turned ≡ turned_away head.limits before call
  turned_is = is.answer before was_idle.stream.taken was_idle.stream.stands ∙ ap (λ limits. turned_away limits before call) was_idle.stream.limits

  told_is : told_by head received r ≡ bound (length received + 1) r.frame.port stream (given_by head.limits before call) turned
  told_is =
      told_listed head received r stream (called head.limits (length received + 1) r.frame.port stream before call) (call ∷ []) packet index route
      ∙ ap (bound (length received + 1) r.frame.port stream (given_by head.limits before call)) (sym turned_is)

  calls_now : calls head stream (received ++ r ∷ []) ≡ before ++ call ∷ []
  calls_now = calls_more head stream received r ∙ ap (λ l. before ++ l) (its_calls head received r stream _ (call ∷ []) packet)

  all_taken : was_idle.stream.taken ≡ length (outputs_of head.limits before)
  all_taken =
      let most : was_idle.stream.taken ≤ length (outputs_of head.limits before) =
      subst (λ limits. was_idle.stream.taken ≤ length (outputs_of limits before)) was_idle.stream.limits
      (taken_within was.limits was.contexts was.packets was.state was.told before was_idle.stream.taken was_idle.stream.stands) in
      let least = ap (λ (l : List Out). length l) was_idle.stream.left_is in
      omega (arith, most, least, length-drop was_idle.stream.taken (outputs_of head.limits before))

  -- its binder has had the call, and what the call gives is left
  now_stream : IsStream head (calls head stream (received ++ r ∷ [])) (given_by head.limits before call) now
  now_stream = record {
    profile = is.same.profile ∙ was_idle.stream.profile;
    limits = is.same.limits ∙ was_idle.stream.limits;
    few = omega (arith, is.count, was_idle.stream.few, ap (λ (l : List Call). length l) calls_now, length-append before (call ∷ []));
    kept = is.few was_idle.stream.kept;
    taken = was_idle.stream.taken;
    stands = subst (λ cs. binder.StandsFor now cs was_idle.stream.taken) (sym calls_now) (is.stands before was_idle.stream.taken was_idle.stream.stands);
    left_is = ap (λ n. drop n (outputs_of head.limits (before ++ call ∷ []))) (sym all_taken) ∙ ap (λ cs. drop was_idle.stream.taken (outputs_of head.limits cs)) (sym calls_now);
  }

  others : (k : ℕ) (other : Route) (bound : BinderState) → k ≢ index → slice_get head.routes k ≡ Some other → slice_get binders k ≡ Some bound → IsIdle head (calls head other.stream (received ++ r ∷ [])) bound
  others k other bound apart p q =
      let valid = routes_valid gate head received given st rest r content fit in
      let none : calls_by head other.stream r ≡ [] =
      no_call head received r stream _ (call ∷ []) packet k other p
      (λ e. apart (one_route head.routes stream k index valid (record { route = other; there = p; stream_is = sym e }) route)) in
      subst (λ cs. IsIdle head cs bound) (sym (calls_more head other.stream received r ∙ ap (λ l. calls head other.stream received ++ l) none ∙ append-nil _))
      ((idle_now gate head received given st rest r content fit).each k other bound p (set_other gate.binders index k now bound apart q))

  all_binders : length binders ≡ length head.routes
  all_binders = length-set gate.binders index now ∙ (idle_now gate head received given st rest r content fit).all

  -- the binder of the route is the one of its stream
  here_is : (k : ℕ) (other : Route) (bound : BinderState) → k ≡ index → slice_get head.routes k ≡ Some other → slice_get binders k ≡ Some bound → (other.stream ≡ stream) × (bound ≡ now)
  here_is k other bound e p q = (
    ap (λ (o : Route). o.stream) (sym (get_or_from_slice_get head.routes k other other p)
        ∙ get_or_from_slice_get head.routes k route.route other (subst (λ n. slice_get head.routes n ≡ Some route.route) (sym e) route.there))
        ∙ route.stream_is,
    set_same gate.binders index now bound (subst (λ n. slice_get binders n ≡ Some bound) e q) among,
  )

  kept_buffers : AreBuffers head binders buffers
  kept_buffers = record {
    all = omega (arith, number, is.kept, st.buffers.all, sum_by-set number_kept gate.binders index now was among, ap number_kept (get_or_from_slice_get gate.binders index was was there));
    rooms = rooms;
  }

  -- the packet was turned away
  module _ (why : Turned) (turned_why : turned ≡ Some why) where
    unchanged : now ≡ was
    unchanged = subst (λ (t : Option Turned). IfSome t (λ w. now ≡ was)) turned_why is.unchanged

    nothing_given : given_by head.limits before call ≡ []
    nothing_given =
        let same : outputs_of head.limits (before ++ call ∷ []) ≡ outputs_of head.limits before =
        turned_changes_nothing head.limits before [] call why (sym turned_is ∙ turned_why) ∙ ap (outputs_of head.limits) (append-nil before) in
        ap (drop (length (outputs_of head.limits before))) same ∙ drop_all (length (outputs_of head.limits before)) (outputs_of head.limits before) (omega arith)

    here_or_not : (k : ℕ) (other : Route) (bound : BinderState) → slice_get head.routes k ≡ Some other → slice_get binders k ≡ Some bound → (k ≡ index) ⊎ (k ≢ index)
        → IsIdle head (calls head other.stream (received ++ r ∷ [])) bound
    here_or_not k other bound p q (inl e) =
        let here = here_is k other bound e p q in
        subst (λ s. IsIdle head (calls head s (received ++ r ∷ [])) bound) (sym here.0)
        (subst (λ (b : BinderState). IsIdle head (calls head stream (received ++ r ∷ [])) b) (sym here.1)
        (record {
          stream = subst (λ outs. IsStream head (calls head stream (received ++ r ∷ [])) outs now) nothing_given now_stream;
          nothing = ap (λ (b : BinderState). owed b.state) unchanged ∙ was_idle.nothing;
        }))
    here_or_not k other bound p q (inr apart) = others k other bound apart p q

    all_idle : AreIdle head (received ++ r ∷ []) binders
    all_idle = record {
      all = all_binders;
      each = λ k other bound p q. here_or_not k other bound p q (same_or_other k index);
    }

  refused_why : (why : Turned) → turned ≡ Some why
      → IsNext gate head received given st rest r (refused_for (record gate { binders = binders; empty = buffers }) r.frame.port (length r.frame.datagram) why) []
  refused_why (whys.Late boundary) e =
      refused_next gate head received given st rest r content fit binders buffers r.frame.port Late 0 (Some boundary)
      (told_is ∙ ap (bound (length received + 1) r.frame.port stream (given_by head.limits before call)) e) (all_idle (whys.Late boundary) e) kept_buffers
  refused_why whys.Repeat e =
      refused_next gate head received given st rest r content fit binders buffers r.frame.port Repeat 0 None
      (told_is ∙ ap (bound (length received + 1) r.frame.port stream (given_by head.limits before call)) e) (all_idle whys.Repeat e) kept_buffers
  refused_why (whys.Conflict count) e =
      refused_next gate head received given st rest r content fit binders buffers r.frame.port Conflict count None
      (told_is ∙ ap (bound (length received + 1) r.frame.port stream (given_by head.limits before call)) e) (all_idle (whys.Conflict count) e) kept_buffers

  -- the packet was taken
  drawing_next : turned ≡ None
      → IsNext gate head received given st rest r (drawing (record gate { binders = binders; empty = buffers }) (length r.frame.datagram) index) (given_by head.limits before call)
  drawing_next e =
      let new = drawing (record gate { binders = binders; empty = buffers }) (length r.frame.datagram) index in
      let left = given_by head.limits before call in
      let none_now : items_in gate.routes (packet_in buffers) gate.telling ≡ [] = ap (items_in gate.routes (packet_in buffers)) rest.telling in
      let parts = given_parts head.limits before call in
      record {
        is_of = record { values = st.is_of.values; profile = st.is_of.profile; max_words = st.is_of.max_words; routes = st.is_of.routes };
        content = content;
        fit = fit;
        taken = omega arith;
        waits = inr (index, refl);
        binders = one_draws head (received ++ r ∷ []) index left binders all_binders
            (λ k other bound is_index p q.
            let here = here_is k other bound is_index p q in
            subst (λ s. IsStream head (calls head s (received ++ r ∷ [])) left bound) (sym here.0)
            (subst (λ (b : BinderState). IsStream head (calls head stream (received ++ r ∷ [])) left b) (sym here.1) now_stream))
            (λ k other bound apart p q. others k other bound apart p q);
        buffers = kept_buffers;
        told_is =
            ap (λ l. l ++ runs_from (stream_at gate.routes index) 0 (payload_of (packet_in buffers)) left) none_now
            ∙ ap (λ routes. runs_from (stream_at routes index) 0 (payload_of (packet_in buffers)) left) st.is_of.routes
            ∙ ap (λ s. runs_from s 0 (payload_of (packet_in buffers)) left) (stream_there head.routes stream index route)
            ∙ ap (runs_from stream 0 (payload_of (packet_in buffers))) parts.outs_are
            ∙ runs-append stream 0 (payload_of (packet_in buffers)) [] parts.parts
            ∙ ap (runs_told stream) (sym parts.outs_are)
            ∙ sym (told_is ∙ ap (bound (length received + 1) r.frame.port stream left) e);
        first = refl;
        placed = subst (λ t. IsPlaced gate.routes t 0) (sym rest.telling) tt;
        counts = λ begun f. ap (more 0 1) f ∙ ap (counts_of (length received + 1)) (sym (append-nil begun) ∙ ap (λ l. begun ++ l) (sym none_now));
      }

  -- its step
  pub called_next : IsNext gate head received given st rest r (called_with (record gate { binders = binders; empty = buffers }) r.frame.port (length r.frame.datagram) index turned)
      (left_by turned (given_by head.limits before call))
  called_next = by_turned turned refl where
    by_turned : (t : Option Turned) → turned ≡ t
        → IsNext gate head received given st rest r (called_with (record gate { binders = binders; empty = buffers }) r.frame.port (length r.frame.datagram) index t)
        (left_by t (given_by head.limits before call))
    by_turned None e = drawing_next e
    by_turned (Some why) e = refused_why why e
