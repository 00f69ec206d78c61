-- What follows of a true text for whoever reads the records of one stream and port: each record is true by itself, and each sample of a
-- packet that arrives is told once.
use Rattle.std.specs.Prelude.{◌≡◌, ◌⊎◌, ℕ, ◌+◌, ◌<◌, ◌==◌, ◌&&◌, nat_le, nat_lt, Bool, true, false, List, [], ◌∷◌, length, filter}
use Rattle.vrt_time.specs.Time.{moment_of}
use Rattle.reorder_window.specs.Delivery.{occurs}
use Rattle.release_form.specs.declared.shown.Shown.{Shown}
use Rattle.release_form.specs.declared.shown.Shown.TheVariants as shown
use Rattle.sample_binder.specs.Parts.{payload_of}
use Rattle.sample_binder.specs.declared.out.Run.{Run}
use Rattle.sample_binder.specs.declared.out.Run.TheVariants.{Bound, Uncertain, Raw}
use Rattle.site_truth.specs.Cause.{Left}
use Rattle.site_truth.specs.Delivered.{Delivery}
use Rattle.site_truth.specs.Site.{DividesInto, IsInForce, packet_moment}
use Rattle.site_truth.specs.Truth.{IsTrueRaw, IsTrueRun}
use Rattle.difi_gateway.specs.Releases.{Release}

-- ---- one record

-- samples of packet number n, of which the first has this index
pub record AreTrueSamples (delivery : Delivery) (left : Left) (n : ℕ) (run : Run) : Type 0 where
  pub context : ℕ
  pub in_force : IsInForce delivery.site (packet_moment delivery.site n) context
  pub number : ℕ
  pub divides : DividesInto delivery.site n context number
  pub from : ℕ
  pub is_true : IsTrueRun delivery left (record { packet = n; context = context; number = number }) from run

-- a run and its payload are those of a packet that arrives, and are true: the whole packet, or samples of it
pub record IsTrueRecord (delivery : Delivery) (run : Run) (payload : List ℕ) : Type 0 where
  pub packet : ℕ
  pub arrived : occurs packet delivery.packets ≡ true
  pub payload_is : payload ≡ payload_of (delivery.site.packet packet)
  pub left : Left
  pub is_true : IsTrueRaw delivery left packet (run ∷ []) ⊎ AreTrueSamples delivery left packet run

abbrev pub IsTrueRelease : Delivery → ℕ → ℕ → Release → Type 0
IsTrueRelease delivery stream port release =
    (lost : ℕ) × (run : Run) × (release.shown ≡ shown.Run stream port lost run) × IsTrueRecord delivery run release.payload

-- ---- each sample

-- a run tells this sample of the packet that is stamped at this moment
abbrev pub tells_sample : ℕ → ℕ → Run → Bool
tells_sample moment m (Bound stamp first number at fields bits) = moment_of stamp == moment && nat_le first m && nat_lt m (first + number)
tells_sample moment m (Uncertain reason stamp first number at bits) = moment_of stamp == moment && nat_le first m && nat_lt m (first + number)
tells_sample moment m (Raw reason stamp pad) = false

-- and as bound
abbrev pub binds_sample : ℕ → ℕ → Run → Bool
binds_sample moment m (Bound stamp first number at fields bits) = moment_of stamp == moment && nat_le first m && nat_lt m (first + number)
binds_sample moment m (Uncertain reason stamp first number at bits) = false
binds_sample moment m (Raw reason stamp pad) = false

-- or it tells the whole of it
abbrev pub tells_whole : ℕ → Run → Bool
tells_whole moment (Bound stamp first number at fields bits) = false
tells_whole moment (Uncertain reason stamp first number at bits) = false
tells_whole moment (Raw reason stamp pad) = moment_of stamp == moment

abbrev pub is_run_with : (Run → Bool) → Shown → Bool
is_run_with test (shown.Run stream port lost run) = test run
is_run_with test shown = false

-- how many of these releases do
abbrev pub number_telling : (Run → Bool) → List Release → ℕ
number_telling test releases = length (filter (λ r. is_run_with test r.shown) releases)

-- packet number n is told whole, once, and none of its samples beside it
pub record IsToldWhole (delivery : Delivery) (releases : List Release) (n : ℕ) : Type 0 where
  pub once : number_telling (tells_whole (packet_moment delivery.site n)) releases ≡ 1
  pub no_sample : (m : ℕ) → number_telling (tells_sample (packet_moment delivery.site n) m) releases ≡ 0

-- or each of its samples is told once, and it is nowhere told whole
pub record IsToldBySample (delivery : Delivery) (releases : List Release) (n : ℕ) : Type 0 where
  pub context : ℕ
  pub in_force : IsInForce delivery.site (packet_moment delivery.site n) context
  pub number : ℕ
  pub divides : DividesInto delivery.site n context number
  pub not_whole : number_telling (tells_whole (packet_moment delivery.site n)) releases ≡ 0
  pub once : (m : ℕ) → m < number → number_telling (tells_sample (packet_moment delivery.site n) m) releases ≡ 1

abbrev pub IsToldOnce : Delivery → List Release → ℕ → Type 0
IsToldOnce delivery releases n = IsToldWhole delivery releases n ⊎ IsToldBySample delivery releases n
