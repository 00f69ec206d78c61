-- What holds of the values that a release record tells.
use Rattle.std.specs.Prelude.{◌≡◌, ℕ, ◌≤◌, ◌↔◌, Option, IsSome}
use Rattle.vrt_time.specs.Time.{TimeStamp}
use Rattle.sample_binder.specs.RunRules.{ObeysRun}
use Rattle.release_form.specs.Refusals.{refusal_number}
use Rattle.release_form.specs.declared.refusal.Refusal.{Refusal}
use Rattle.release_form.specs.declared.refusal.Refusal.TheVariants.{Late}
use Rattle.release_form.specs.declared.shown.Shown.{Shown}
use Rattle.release_form.specs.declared.shown.Shown.TheVariants.{Run as ARun, Ack, Refused, Version, End}

-- frames are counted from 1, the reason is a number of the table of refusals, and a late packet alone has a stamp
pub record ObeysRefused (frame reason : ℕ) (stamp : Option TimeStamp) : Type 0 where
  pub counted : 1 ≤ frame
  pub refusal : Refusal
  pub reason_is : reason ≡ refusal_number refusal
  pub late : IsSome stamp ↔ (refusal ≡ Late)

abbrev pub Obeys : Shown → Type 0
Obeys (ARun stream port lost run) = (lost ≤ 15) × ObeysRun run
Obeys (Ack port) = Unit {0}
Obeys (Refused frame port reason detail stamp) = ObeysRefused frame reason stamp
Obeys (Version port) = Unit {0}
Obeys (End counts) = Unit {0}
