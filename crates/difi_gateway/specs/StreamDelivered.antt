-- Which frames of a record are a delivery of what a site sends.
use Rattle.std.specs.Prelude.{◌≡◌, ◌≢◌, ℕ, ◌*◌, true, List, slice_get, Some}
use Rattle.vrt_fields.specs.declared.route.Route.{Route}
use Rattle.replay_form.specs.declared.record_head.RecordHead.{RecordHead}
use Rattle.site_truth.specs.Delivered.{Delivery, IsDelivered}
use Rattle.site_truth.specs.Site.{IsSite}
use Rattle.stream_routes.specs.Ports.{ports_of}
use Rattle.difi_gateway.specs.Calls.{calls}
use Rattle.difi_gateway.specs.Contents.{Received}
use Rattle.difi_gateway.specs.Isolation.{is_of_stream}

-- The data packets and the contexts of a stream among these frames are, kind by kind and in this order, what arrives of a site's packets
-- within the windows of the record. Whatever else stands between makes no call of the stream's binder.
pub record IsStreamDelivered (head : RecordHead) (received : List Received) (stream : ℕ) (delivery : Delivery) : Type 0 where
  pub limits : delivery.limits ≡ head.limits
  pub room : delivery.room ≡ 4 * head.max_words
  pub calls_are : delivery.calls ≡ calls head stream received
  pub site : IsSite head.profile head.max_words delivery.site
  pub delivered : IsDelivered delivery

-- one of the ports of the stream's route
abbrev pub IsPortOf : List Route → ℕ → ℕ → Type 0
IsPortOf routes stream port = (place : ℕ) × (slice_get (ports_of routes stream) place ≡ Some port)

-- a frame behind others holds a data packet or a context of the stream that none of these holds
pub record IsFirstArrival (stream : ℕ) (before : List Received) (r : Received) : Type 0 where
  pub of_stream : is_of_stream stream r.content ≡ true
  pub first : (i : ℕ) (other : Received) → slice_get before i ≡ Some other → other.content ≢ r.content
