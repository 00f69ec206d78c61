-- A gateway at rest may take a frame.
use Rattle.std.proofs.Common.{◌≡◌, ℕ, zero, suc, ◌+◌, ◌*◌, ◌<◌, ◌≤◌, ◌==◌, ◌^◌, true, false, cond, List, [], ◌∷◌, length, slice_get, slice_index, Some, refl, sym, ap, ◌∙◌, subst, arith}
use Rattle.std.specs.List.{AllByRecursion, sum_by}
use Rattle.std.proofs.lemmas.List.{length-append}
use Rattle.std.proofs.lemmas.List.Sums.{sum_by-cons}
use Rattle.std.proofs.lemmas.Option.{slice_get_within}
use Rattle.vrt_fields.specs.declared.limits.Limits.{Limits}
use Rattle.vrt_fields.specs.declared.route.Route.{Route}
use Rattle.replay_form.specs.declared.record_head.RecordHead.{RecordHead}
use Rattle.sample_binder.specs.Binder.{BinderState, number_kept}
use Rattle.sample_binder.specs.Calls.{DataCall, ContextCall}
use Rattle.difi_packet.specs.Packet.{DataValue, ContextValue, VersionValue, ControlValue, CancelValue, AckValue}
use Rattle.replay_form.specs.FrameFields.{Frame}
use Rattle.difi_gateway.specs.Contents.{Content, Larger, NoPacket, Holds, Received}
use Rattle.difi_gateway.specs.Calls.{calls, calls_by, buffer_of}
use Rattle.difi_gateway.specs.Told.{Item}
use Rattle.difi_gateway.specs.Releases.{refused_frames, versions}
use Rattle.difi_gateway.specs.State.{Gated, StandsFor, IsAtRest, AreBinders, HasRoom, bytes_taken}
use Rattle.difi_gateway.specs.Steps.{MayTake, IsReadyBinder}
use Rattle.difi_gateway.proofs.FrameSteps.{begun_all}
use Rattle.difi_gateway.proofs.FrameCases.{AreIdle, waiting_idle}
use Rattle.difi_gateway.proofs.FitLemmas.{calls_not_told}
use Rattle.difi_gateway.proofs.OnceLemmas.{part_once}

-- a frame makes one call at most
one_call : (head : RecordHead) (stream : ℕ) (frame : Frame) (content : Content) → length (calls_by head stream (record { frame = frame; content = content })) ≤ 1
one_call head stream frame (Larger size) = omega arith
one_call head stream frame (NoPacket word) = omega arith
one_call head stream frame (Holds (DataValue packet)) =
    elim (packet.prologue.stream == stream) as (λ b. length (cond b (DataCall (buffer_of head frame.datagram) ∷ []) []) ≤ 1) [ true ↦ omega arith | false ↦ omega arith ]
one_call head stream frame (Holds (ContextValue rec)) = elim (rec.prologue.stream == stream) as (λ b. length (cond b (ContextCall rec ∷ []) []) ≤ 1) [ true ↦ omega arith | false ↦ omega arith ]
one_call head stream frame (Holds (VersionValue rec)) = omega arith
one_call head stream frame (Holds (ControlValue packet)) = omega arith
one_call head stream frame (Holds (CancelValue packet)) = omega arith
one_call head stream frame (Holds (AckValue packet)) = omega arith

pub few_calls : (head : RecordHead) (stream : ℕ) (received : List Received) → length (calls head stream received) ≤ length received
few_calls head stream [] = omega arith
few_calls head stream (r ∷ received) =
    omega (arith, few_calls head stream received, one_call head stream r.frame r.content, length-append (calls_by head stream r) (calls head stream received))

-- each frame is counted with its bytes
pub frames_taken : (received : List Received) → length received ≤ sum_by bytes_taken received
frames_taken [] = omega arith
frames_taken (r ∷ received) = omega (arith, frames_taken received, sum_by-cons bytes_taken r received)

-- no binder keeps more than so many
pub few_kept : (most : ℕ) (binders : List BinderState) → AllByRecursion (λ (b : BinderState). number_kept b ≤ most) binders → sum_by number_kept binders ≤ length binders * most
few_kept most [] all = omega arith
few_kept most (b ∷ binders) all = omega (arith, few_kept most binders all.1, all.0, sum_by-cons number_kept b binders, step (length binders) most) where
  step : (n m : ℕ) → suc n * m ≡ m + n * m
  step n m = grind arith

pub route_by_place : (routes : List Route) (k : ℕ) → k < length routes → (route : Route) × (slice_get routes k ≡ Some route)
route_by_place [] k lt = absurd (omega (arith, lt))
route_by_place (route ∷ routes) zero lt = (route, refl)
route_by_place (route ∷ routes) (suc k) lt = route_by_place routes k (omega (arith, lt))

pub all_by_place : (P : BinderState → Type 0) (binders : List BinderState) → ((k : ℕ) (b : BinderState) → slice_get binders k ≡ Some b → P b) → AllByRecursion P binders
all_by_place P [] h = tt
all_by_place P (b ∷ binders) h = (h 0 b refl, all_by_place P binders (λ k c p. h (suc k) c p))

module _ (gate : Gated) (head : RecordHead) (received : List Received) (given : ℕ) (st : StandsFor gate head received false given) (rest : IsAtRest gate) where
  idle_at_rest : AreIdle head received gate.binders
  idle_at_rest = waiting_idle head received st.left gate.binders (subst (λ s. AreBinders head received s st.left gate.binders) rest.stage st.binders)

  route_at : (k : ℕ) (bound : BinderState) → slice_get gate.binders k ≡ Some bound → (route : Route) × (slice_get head.routes k ≡ Some route)
  route_at k bound p =
      let within : k < length head.routes = omega (arith, slice_get_within gate.binders k bound p, idle_at_rest.all) in
      route_by_place head.routes k within

  few_frames : length received ≤ gate.taken
  few_frames = omega (arith, st.taken, frames_taken received)

  few_told : sum_by refused_frames st.begun + sum_by versions st.begun ≤ length received
  few_told = subst (λ (items : List Item). sum_by refused_frames items + sum_by versions items ≤ length received) (sym (begun_all gate head received given st rest)) (part_once head received)

  ready : (k : ℕ) (bound : BinderState) → slice_get gate.binders k ≡ Some bound → gate.taken < 2 ^ 63 → IsReadyBinder bound × (bound.profile ≡ gate.profile)
  ready k bound p few =
      let route = route_at k bound p in
      let idle = idle_at_rest.each k route.0 bound route.1 p in (
        record {
          nothing = idle.nothing;
          untold = idle.stream.stands.is_told_too ∙ calls_not_told head route.0.stream received;
          few = omega (arith, idle.stream.few, few_calls head route.0.stream received, few_frames, few);
        },
        idle.stream.profile ∙ sym st.is_of.profile,
      )

  some_empty : 0 < length gate.empty
  some_empty =
      let most = head.limits.data_window + 1 + head.limits.pending in
      let each : (k : ℕ) (b : BinderState) → slice_get gate.binders k ≡ Some b → number_kept b ≤ most =
      λ k b p.
      let route = route_at k b p in
      let idle = idle_at_rest.each k route.0 b route.1 p in
      subst (λ (l : Limits). number_kept b ≤ l.data_window + 1 + l.pending) idle.stream.limits idle.stream.kept in
      omega (arith, st.buffers.all, few_kept most gate.binders (all_by_place (λ (b : BinderState). number_kept b ≤ most) gate.binders each), ap (λ n. n * most) idle_at_rest.all)

  pub may_take : (size : ℕ) → gate.taken + 1 + size < 2 ^ 63 → MayTake gate size
  may_take size few = record {
    all = idle_at_rest.all ∙ ap (λ (l : List Route). length l) (sym st.is_of.routes);
    each = λ k bound p. ready k bound p (omega (arith, few));
    some = some_empty;
    rooms = subst (λ n. AllByRecursion (HasRoom n) gate.empty) (sym st.is_of.max_words) st.buffers.rooms;
    few = few;
    frames = omega (arith, ap (λ l. slice_index l 0) st.counts, few_frames, few);
    refusals = omega (arith, ap (λ l. slice_index l 4) st.counts, few_told, few_frames, few);
    versions = omega (arith, ap (λ l. slice_index l 6) st.counts, few_told, few_frames, few);
  }
