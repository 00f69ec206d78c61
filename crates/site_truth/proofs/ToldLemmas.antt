-- The contexts and the data packets of the events of a delivery are those that arrived, in the order of sending; after some of
-- the events they are the first of these.
use Rattle.std.proofs.Common.{◌≡◌, ℕ, ◌<◌, ◌≤◌, List, [], ◌∷◌, ◌++◌, map, length, take, drop, get_or, slice_get, Some, sym, ap, ◌∙◌, arith, false, length-append}
use Rattle.std.proofs.lemmas.List.{length-map, take-append-drop}
use Rattle.vrt_header.specs.Profile.{PacketProfile}
use Rattle.context_timeline.specs.declared.timed_context.TimedContext.{TimedContext}
use Rattle.context_timeline.specs.State.{timed_context}
use Rattle.reorder_window.specs.Delivery.{IsSent}
use Rattle.sample_binder.specs.Calls.{data_stamp, shape_in, all_releases}
use Rattle.sample_binder.specs.Events.{Event, EndEvent, contexts_of, packets_of, has_ended}
use Rattle.sample_binder.specs.Pending.{Pending}
use Rattle.sample_binder.specs.Readings.{AreAllReleases}
use Rattle.sample_binder.specs.Released.{released_context, released_packet}
use Rattle.sample_binder.proofs.GrowLemmas.{are_all_releases}
use Rattle.sample_binder.proofs.StateLemmas.{contexts_of-append, packets_of-append}
use Rattle.site_truth.specs.Site.{IsSite, context_sent}
use Rattle.site_truth.specs.Delivered.{Delivery, IsDelivered, packet_arriving, buffer_of, all_events, AreInOrder, absent_before}
use Rattle.site_truth.proofs.ListLemmas.{slice_get-map, take-all}
use Rattle.site_truth.proofs.NumberLemmas.{all_released}

-- context number i of those that arrived, as it is released
abbrev pub context_told : Delivery → List ℕ → ℕ → TimedContext
context_told delivery numbers i = timed_context (delivery.site.context (get_or numbers i 0)) (absent_before delivery.contexts numbers i)

-- and data packet number j
abbrev pub packet_told : Delivery → List ℕ → ℕ → Pending
packet_told delivery numbers j = record {
  buf = buffer_of delivery (get_or numbers j 0);
  shape = shape_in (data_stamp (delivery.site.packet (get_or numbers j 0))) (delivery.site.packet (get_or numbers j 0));
  lost = absent_before delivery.packets numbers j;
}

pub record AreContextsTold (delivery : Delivery) : Type 0 where
  pub numbers : List ℕ
  pub in_order : AreInOrder delivery.contexts numbers
  pub long : length (contexts_of (all_events delivery)) ≡ length numbers
  pub each : (i : ℕ) → i < length numbers → slice_get (contexts_of (all_events delivery)) i ≡ Some (context_told delivery numbers i)

pub record ArePacketsTold (delivery : Delivery) : Type 0 where
  pub numbers : List ℕ
  pub in_order : AreInOrder delivery.packets numbers
  pub long : length (packets_of (all_events delivery)) ≡ length numbers
  pub each : (j : ℕ) → j < length numbers → slice_get (packets_of (all_events delivery)) j ≡ Some (packet_told delivery numbers j)

-- the end is the last event, and comes once
pub record EndsLast (events : List Event) : Type 0 where
  pub front : List Event
  pub last : events ≡ front ++ EndEvent ∷ []
  pub once : has_ended front ≡ false

pub contexts_told : (profile : PacketProfile) (most : ℕ) (delivery : Delivery) → IsSite profile most delivery.site → IsDelivered delivery → AreContextsTold delivery
contexts_told profile most delivery s d =
    let all : AreAllReleases delivery.limits delivery.calls = are_all_releases delivery.limits delivery.calls d.not_told in
    let site = delivery.site in
    let r = all_released s.first_context site.contexts_sent delivery.limits.context_window (context_sent site) delivery.contexts s.contexts d.contexts in
    let rs = all_releases delivery.limits.context_window (map (context_sent site) delivery.contexts) in
    let are : contexts_of (all_events delivery) ≡ map released_context rs =
    all.contexts ∙ ap (λ entries. map released_context (all_releases delivery.limits.context_window entries)) d.contexts_given in
    record {
      numbers = r.numbers;
      in_order = r.in_order;
      long = ap length are ∙ length-map rs released_context ∙ r.long;
      each = λ i lt. ap (λ cs. slice_get cs i) are ∙ slice_get-map released_context rs i _ (r.each i lt);
    }

pub packets_told : (profile : PacketProfile) (most : ℕ) (delivery : Delivery) → IsSite profile most delivery.site → IsDelivered delivery → ArePacketsTold delivery
packets_told profile most delivery s d =
    let all : AreAllReleases delivery.limits delivery.calls = are_all_releases delivery.limits delivery.calls d.not_told in
    let site = delivery.site in
    let sent : IsSent s.first_packet site.packets_sent (packet_arriving delivery) = record { rising = s.packets.rising; counted = s.packets.counted } in
    let r = all_released s.first_packet site.packets_sent delivery.limits.data_window (packet_arriving delivery) delivery.packets sent d.packets in
    let rs = all_releases delivery.limits.data_window (map (packet_arriving delivery) delivery.packets) in
    let are : packets_of (all_events delivery) ≡ map released_packet rs =
    all.packets ∙ ap (λ entries. map released_packet (all_releases delivery.limits.data_window entries)) d.packets_given in
    record {
      numbers = r.numbers;
      in_order = r.in_order;
      long = ap length are ∙ length-map rs released_packet ∙ r.long;
      each = λ j lt. ap (λ ps. slice_get ps j) are ∙ slice_get-map released_packet rs j _ (r.each j lt);
    }

pub ends_last : (delivery : Delivery) → IsDelivered delivery → EndsLast (all_events delivery)
ends_last delivery d =
    let all : AreAllReleases delivery.limits delivery.calls = are_all_releases delivery.limits delivery.calls d.not_told in
    record { front = all.front; last = all.end_last; once = all.once }

-- ---- after some of the events

split : (e : ℕ) (events : List Event) → events ≡ take e events ++ drop e events
split e events = sym (take-append-drop e events)

pub contexts_first : (e : ℕ) (events : List Event) → contexts_of (take e events) ≡ take (length (contexts_of (take e events))) (contexts_of events)
contexts_first e events =
    let es = contexts_of (take e events) in
    let all : contexts_of events ≡ es ++ contexts_of (drop e events) = ap contexts_of (split e events) ∙ contexts_of-append (take e events) (drop e events) in
    sym (ap (take (length es)) all ∙ take-all es (contexts_of (drop e events)))

pub contexts_fewer : (e : ℕ) (events : List Event) → length (contexts_of (take e events)) ≤ length (contexts_of events)
contexts_fewer e events =
    let es = contexts_of (take e events) in
    let all : contexts_of events ≡ es ++ contexts_of (drop e events) = ap contexts_of (split e events) ∙ contexts_of-append (take e events) (drop e events) in
    omega (arith, ap length all, length-append es (contexts_of (drop e events)))

pub packets_first : (e : ℕ) (events : List Event) → packets_of (take e events) ≡ take (length (packets_of (take e events))) (packets_of events)
packets_first e events =
    let es = packets_of (take e events) in
    let all : packets_of events ≡ es ++ packets_of (drop e events) = ap packets_of (split e events) ∙ packets_of-append (take e events) (drop e events) in
    sym (ap (take (length es)) all ∙ take-all es (packets_of (drop e events)))

pub packets_fewer : (e : ℕ) (events : List Event) → length (packets_of (take e events)) ≤ length (packets_of events)
packets_fewer e events =
    let es = packets_of (take e events) in
    let all : packets_of events ≡ es ++ packets_of (drop e events) = ap packets_of (split e events) ∙ packets_of-append (take e events) (drop e events) in
    omega (arith, ap length all, length-append es (packets_of (drop e events)))
