-- What is told can be written as release records.
use Rattle.std.specs.Prelude.{◌≡◌, ◌+◌, ◌*◌, ◌≤◌, length}
use Rattle.sample_binder.specs.RunRules.{IsWritable}
use Rattle.release_form.specs.Refusals.{refusal_number}
use Rattle.release_form.specs.Rules.{Obeys, ObeysRefused}
use Rattle.release_form.specs.Sizes.{GoesWith, size_with}
use Rattle.difi_gateway.specs.Told.{Item, RefusedItem, RunItem, VersionItem}
use Rattle.difi_gateway.specs.Releases.{Release}

-- a refusal obeys its rules; a run can be written with its payload, which is that of a packet of at most 16,376 words with seven
-- in front; a version packet has eleven words
abbrev pub IsWritableItem : Item → Type 0
IsWritableItem (RefusedItem frame port refusal detail stamp) = ObeysRefused frame (refusal_number refusal) stamp
IsWritableItem (RunItem stream lost run payload) = (lost ≤ 15) × IsWritable (length payload) run × (length payload + 28 ≤ 4 * 16376)
IsWritableItem (VersionItem stream packet) = length packet ≡ 44

-- the values of a release obey their rules, its payload or packet goes with them, and its record has room in 262,144 bytes
pub record CanBeWritten (release : Release) : Type 0 where
  pub obeys : Obeys release.shown
  pub goes : GoesWith release.shown (length release.payload)
  pub fits : size_with release.shown (length release.payload) ≤ 262144
