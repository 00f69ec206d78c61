-- A record in another form has the same releases, and so has its migrated text.
use Rattle.std.proofs.Common.{ℕ, inl, inr, List, [], sym, subst, arith}
use Rattle.std.specs.Prelude.{◌↔◌}
use Rattle.vrt_words.specs.Words.{AreBytes}
use Rattle.replay_form.specs.FrameFields.{Frame}
use Rattle.replay_form.specs.Record.{IsRecord}
use Rattle.replay_form.specs.Standing.{HasNoHead, HasFrames}
use Rattle.replay_form.specs.SecondForm.{in_second_form}
use Rattle.replay_form.specs.declared.record_head.RecordHead.{RecordHead}
use Rattle.replay_form.proofs.VerdictLaws.{one_standing, not_headless, record_stands}
use Rattle.difi_gateway.specs.Releases.{IsPartOf, IsOutOf}
use Rattle.difi_gateway.proofs.OtherForm.{same_part_bytes, same_out_bytes}
use Rattle.difi_cmd.specs.Migrated.{IsMigratedOf, IsMigratedSoFar}
use Rattle.difi_cmd.specs.ReleasesOf.{AreReleasesOf, AreReleasesSoFar, HaveSameReleases, HasOnePortEach}
use Rattle.difi_cmd.proofs.FormLaws.{same_header}
use Rattle.difi_cmd.proofs.MigratedLaws.{is_record, second_record}

-- where two records have the same frames, and headers that differ in form alone, the releases of one are those of the other
moved : (head : RecordHead) (form : ℕ) (frames : List Frame) (bytes others releases : List ℕ) → IsRecord head frames bytes → IsRecord (record head { form = form }) frames others
    → AreReleasesOf bytes releases → AreReleasesOf others releases
moved head form frames bytes others releases cut other r =
    let same = one_standing r.0 head r.1.0 frames bytes (record_stands r.0 r.1.0 bytes r.1.1.0) (record_stands head frames bytes cut) in
    let out : IsOutOf head frames releases =
    subst (λ (h : RecordHead). IsOutOf h frames releases) same.0 (subst (λ fs. IsOutOf r.0 fs releases) same.1 r.1.1.1) in
    (record head { form = form }, (frames, (other, same_out_bytes head form frames releases out)))

pub other_form : (head : RecordHead) (form : ℕ) (frames : List Frame) (bytes others : List ℕ) → IsRecord head frames bytes → IsRecord (record head { form = form }) frames others
    → HaveSameReleases bytes others
other_form head form frames bytes others cut other releases = (
  moved head form frames bytes others releases cut other,
  moved (record head { form = form }) head.form frames others bytes releases other cut,
)

pub one_port : (head other : RecordHead) (frames : List Frame) (bytes others : List ℕ) → AreBytes bytes → AreBytes others → IsRecord head frames bytes → IsRecord other frames others
    → HasOnePortEach head other → HaveSameReleases bytes others
one_port head other frames bytes others fit fits cut others_cut p =
    let same = same_header head other frames bytes others fit fits cut others_cut p in
    other_form head 2 frames bytes others cut (subst (λ (h : RecordHead). IsRecord h frames others) same others_cut)

pub migrated_whole : (bytes text : List ℕ) → IsMigratedOf bytes text → HaveSameReleases bytes text
migrated_whole bytes text m = other_form m.0 2 m.1.0 bytes text m.1.1.0 (is_record m.0 m.1.0 bytes text m.1.1.0 m.1.1.1)

-- ---- as far as bytes go

part_moved : (head : RecordHead) (form : ℕ) (frames : List Frame) (bytes others releases : List ℕ) → HasFrames head frames bytes → HasFrames (record head { form = form }) frames others
    → AreReleasesSoFar bytes releases → AreReleasesSoFar others releases
part_moved head form frames bytes others releases has other (inl p) = absurd (not_headless head frames bytes has p.0)
part_moved head form frames bytes others releases has other (inr r) =
    let same = one_standing r.0 head r.1.0 frames bytes r.1.1.0 has in
    let part : IsPartOf head frames releases =
    subst (λ (h : RecordHead). IsPartOf h frames releases) same.0 (subst (λ fs. IsPartOf r.0 fs releases) same.1 r.1.1.1) in
    inr (record head { form = form }, (frames, (other, same_part_bytes head form frames releases part)))

-- no header, no release
none_moved : (bytes others releases : List ℕ) → HasNoHead bytes → HasNoHead others → AreReleasesSoFar bytes releases → AreReleasesSoFar others releases
none_moved bytes others releases none other (inl p) = inl (other, p.1)
none_moved bytes others releases none other (inr r) = absurd (not_headless r.0 r.1.0 bytes r.1.1.0 none)

no_bytes : HasNoHead []
no_bytes = inl (0, record { among = omega arith; before = λ i h. absurd (omega arith); missing = omega arith })

pub migrated_so_far : (bytes text releases : List ℕ) → IsMigratedSoFar bytes text → AreReleasesSoFar bytes releases ↔ AreReleasesSoFar text releases
migrated_so_far bytes text releases (inl p) =
    let none : HasNoHead text = subst HasNoHead (sym p.1) no_bytes in
    (none_moved bytes text releases p.0 none, none_moved text bytes releases none p.0)
migrated_so_far bytes text releases (inr m) =
    let head = m.0 in
    let frames = m.1.0 in
    let has = m.1.1.0 in
    let second = record_stands (in_second_form head) frames text (second_record head frames has.cut.body text has.cut.framed m.1.1.1) in
    (part_moved head 2 frames bytes text releases has second, part_moved (in_second_form head) head.form frames text bytes releases second has)
