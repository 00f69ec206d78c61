-- A header of form 1 and one of form 2 with one port a route are the same but for the form; a migrated text is there, and is
-- a record of form 2.
use Rattle.std.proofs.Common.{◌≡◌, ℕ, zero, suc, ◌<◌, ◌≤◌, ◌==◌, true, false, List, [], ◌∷◌, ◌++◌, length, slice_index, get_or, refl, sym, ap, ◌∙◌, subst, arith}
use Rattle.std.proofs.lemmas.Grind.{same_number_lists}
use Rattle.std.proofs.lemmas.List.{same_lists}
use Rattle.vrt_words.specs.Words.{AreBytes}
use Rattle.vrt_fields.specs.Route.{IsRoute}
use Rattle.vrt_fields.specs.declared.route.Route.{Route}
use Rattle.replay_form.specs.FrameFields.{Frame}
use Rattle.replay_form.specs.HeadValues.{AreHeadValues}
use Rattle.replay_form.specs.Record.{IsRecord}
use Rattle.replay_form.specs.SecondForm.{in_second_form}
use Rattle.replay_form.specs.declared.record_head.RecordHead.{RecordHead}
use Rattle.replay_form.proofs.HeadValues.{values_by_spelled}
use Rattle.replay_form.proofs.HeadSaid.{spelled_by_values}
use Rattle.replay_form.proofs.Putting.{AreBytes-append}
use Rattle.replay_form.proofs.SecondForm.{second_values}
use Rattle.difi_cmd.specs.Migrated.{AreFrameBytes, IsMigrated, IsMigratedOf, IsOfSecondForm}
use Rattle.difi_cmd.specs.ReleasesOf.{IsOnePort, HasOnePortEach}
use Rattle.difi_cmd.proofs.MigratedLaws.{front_fits, frames_of, is_record, whole_record}

-- the values of the header of a record obey their rules
values_of : (head : RecordHead) (frames : List Frame) (bytes : List ℕ) → AreBytes bytes → IsRecord head frames bytes → AreHeadValues head
values_of head frames bytes fit cut =
    values_by_spelled head (record { bytes = cut.header; fit = front_fits bytes cut.header cut.body fit (whole_record head frames bytes cut); says = cut.says })

-- ---- one port a route

same_at : (xs ys : List ℕ) → slice_index ys 0 ≡ slice_index xs 0 → ((k : ℕ) → 1 ≤ k → slice_index xs k ≡ 0) → ((k : ℕ) → 1 ≤ k → slice_index ys k ≡ 0) → (k : ℕ) → slice_index ys k ≡ slice_index xs k
same_at xs ys first behind others zero = first
same_at xs ys first behind others (suc k) = others (suc k) (omega arith) ∙ sym (behind (suc k) (omega arith))

route_by : (a b : Route) → a.stream ≡ b.stream → a.ports ≡ b.ports → a.number ≡ b.number → a ≡ b
route_by a b p q r = ap (λ n. record a { stream = n }) p ∙ ap (λ l. record b { ports = l; number = a.number }) q ∙ ap (λ n. record b { number = n }) r

same_route : (route other : Route) → IsRoute false route → IsRoute true other → IsOnePort route other → other ≡ route
same_route route other a b p =
    let number : route.number ≡ 1 = omega (arith, a.from, a.to) in
    let at = same_at route.ports other.ports p.port (λ k h. a.behind k (omega (arith, number))) (λ k h. b.behind k (omega (arith, p.one))) in
    let ports = same_number_lists other.ports route.ports (b.places ∙ sym a.places) (λ k h. at k) in
    route_by other route p.stream ports (p.one ∙ sym number)

same_routes : (head other : RecordHead) → AreHeadValues head → AreHeadValues other → HasOnePortEach head other → other.routes ≡ head.routes
same_routes head other a b p =
    let first : (head.form == 2) ≡ false = ap (λ n. n == 2) p.first in
    let second : (other.form == 2) ≡ true = ap (λ (h : RecordHead). h.form == 2) p.values in
    same_lists other.routes head.routes p.all
    (λ k none h. (
    let there : k < length head.routes = omega (arith, p.all) in
    same_route (get_or head.routes k none) (get_or other.routes k none)
    (subst (λ s. IsRoute s (get_or head.routes k none)) first (a.routes.each k none there))
    (subst (λ s. IsRoute s (get_or other.routes k none)) second (b.routes.each k none h))
    (p.ports k none there)
    ))

-- the header of form 2 is that of form 1 but for the form
pub same_header : (head other : RecordHead) (frames : List Frame) (bytes others : List ℕ) → AreBytes bytes → AreBytes others → IsRecord head frames bytes → IsRecord other frames others
    → HasOnePortEach head other → other ≡ in_second_form head
same_header head other frames bytes others fit fits cut others_cut p =
    let routes = same_routes head other (values_of head frames bytes fit cut) (values_of other frames others fits others_cut) p in
    p.values ∙ ap (λ l. record head { form = 2; routes = l }) routes

-- ---- the migrated text

frames_fit : (frames : List Frame) (bytes : List ℕ) → AreFrameBytes frames bytes → AreBytes bytes
frames_fit [] bytes a = subst AreBytes (sym a) (λ i. omega arith)
frames_fit (frame ∷ frames) bytes a = subst AreBytes (sym a.1.1.0) (AreBytes-append a.0 a.1.0 a.1.1.1.0.fit (frames_fit frames a.1.0 a.1.1.1.1))

pub of_second_form : (bytes text : List ℕ) → IsMigratedOf bytes text → IsOfSecondForm text
of_second_form bytes text m =
    let head = m.0 in
    let frames = m.1.0 in
    let is = m.1.1.1 in
    let fit = subst AreBytes (sym is.1.1.1.0) (AreBytes-append is.0 is.1.1.0 is.1.0.fit (frames_fit frames is.1.1.0 is.1.1.1.1)) in
    (in_second_form head, (frames, (fit, (is_record head frames bytes text m.1.1.0 is, refl))))

pub is_there : (head : RecordHead) (frames : List Frame) (bytes : List ℕ) → AreBytes bytes → IsRecord head frames bytes → (text : List ℕ) × IsMigratedOf bytes text
is_there head frames bytes fit cut =
    let s = spelled_by_values (in_second_form head) (second_values head (values_of head frames bytes fit cut)) in
    let is : IsMigrated head frames (s.bytes ++ cut.body) = (s.bytes, (record { fit = s.fit; says = s.says }, (cut.body, (refl, frames_of head frames bytes fit cut)))) in
    (s.bytes ++ cut.body, (head, (frames, (cut, is))))
