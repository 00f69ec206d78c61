-- What a gateway tells now, once for each port of its stream, and a refusal once.
use Rattle.std.specs.Prelude.{ℕ, Option}
use Rattle.vrt_time.specs.Time.{TimeStamp}
use Rattle.sample_binder.specs.declared.out.Run.{Run as SampleRun}
use Rattle.release_form.specs.declared.refusal.Refusal.{Refusal}
use Rattle.difi_gateway.specs.declared.telling.Telling as declared
use Rattle.difi_gateway.specs.declared.telling.Telling.TheVariants as held

-- nothing; that a frame of this number and port is refused, with what shows why; samples of the stream of a route, with the number
-- lost before; or a version packet of the stream of a route
pub data Telling : Type 0 where
  Nothing : Telling
  Refused : (frame port : ℕ) (refusal : Refusal) (detail : ℕ) (stamp : Option TimeStamp) → Telling
  Run : (index lost : ℕ) (run : SampleRun) → Telling
  Version : (index : ℕ) → Telling

-- the samples are those of the run that stands beside
abbrev pub told_now : SampleRun → declared.Telling → Telling
told_now run held.Nothing = Nothing
told_now run (held.Refused frame port refusal detail stamp) = Refused frame port refusal detail stamp
told_now run (held.Run index lost) = Run index lost run
told_now run (held.Version index) = Version index
