-- Up to where the mark of a sample stays, and its label.
use Rattle.std.proofs.Common.{◌≡◌, ℕ, ◌<◌, ◌≤◌, nat_lt, Bool, true, false, cond, refl, List, [], ◌∷◌, Option, Some, None, IfSome, subst, sym, ap, ◌∙◌, inl, inr, arith}
use Rattle.std.proofs.lemmas.Bool.Decides.{nat_tests}
use Rattle.std.proofs.lemmas.Bool.{cases_lt}
use Rattle.vrt_time.specs.Time.{TimeStamp, moment_of, capture_at}
use Rattle.context_timeline.specs.declared.timed_context.TimedContext.{TimedContext}
use Rattle.context_timeline.specs.Marks.{next_stamp}
use Rattle.sample_binder.specs.declared.label.Label.{Label}
use Rattle.sample_binder.specs.declared.sampling.Sampled.{Sampled}
use Rattle.sample_binder.specs.Runs.{same_label}
use Rattle.sample_binder.specs.Samples.{rate_in}
use Rattle.sample_binder.specs.Stretches.{IsPassedBy, IsStretch, GoesOn}
use Rattle.sample_binder.proofs.LabelLemmas.{same_self}

lt_told : (a b : ℕ) → nat_lt a b ≡ true → a < b
lt_told a b e = grind (arith, nat_tests)

or_next : (t : ℕ) (b : Bool) (stamp : TimeStamp) (rest : Option TimeStamp) → (b ≡ true → t < moment_of stamp) → IfSome rest (λ u. t < moment_of u)
    → IfSome (cond b (Some stamp) rest) (λ u. t < moment_of u)
or_next t true stamp rest h r = h refl
or_next t false stamp rest h r = r

-- the stamp of the first context after a moment is after it
pub next_after : (kept : List TimedContext) (t : ℕ) → IfSome (next_stamp kept t) (λ u. t < moment_of u)
next_after [] t = tt
next_after (context ∷ rest) t =
    or_next t (nat_lt t (moment_of context.stamp)) context.stamp (next_stamp rest t) (lt_told t (moment_of context.stamp)) (next_after rest t)

pub earlier : (o : Option TimeStamp) (s t : ℕ) → s ≤ t → IfSome o (λ u. t < moment_of u) → IfSome o (λ u. s < moment_of u)
earlier None s t le h = tt
earlier (Some u) s t le h = omega (arith, h)

-- a sample in front of the stamp is among those that are passed
pub is_passed : (samples : Sampled) (o : Option TimeStamp) (count m : ℕ) → IsPassedBy samples o count → m < samples.number
    → IfSome o (λ u. capture_at samples.stamp m (rate_in samples.fields) < moment_of u) → m < count
is_passed samples None count m h there late = omega (arith, h)
is_passed samples (Some until) count m h there late = elim (cases_lt m count) [
  | inl lt ↦ lt
  | inr ge ↦ absurd (omega (arith, h.behind m ge there, late))
]

pub passed_before : (samples : Sampled) (o : Option TimeStamp) (count m : ℕ) → IsPassedBy samples o count → m < count
    → IfSome o (λ u. capture_at samples.stamp m (rate_in samples.fields) < moment_of u)
passed_before samples None count m h lt = tt
passed_before samples (Some until) count m h lt = h.before m lt

-- the next stamp is after the sample at whose capture it was looked for
pub after_sample : (kept : List TimedContext) (samples : Sampled) (sample at rate : ℕ) (until : Option TimeStamp) → until ≡ next_stamp kept at → at ≡ capture_at samples.stamp sample rate
    → rate ≡ rate_in samples.fields → IfSome until (λ u. capture_at samples.stamp sample (rate_in samples.fields) < moment_of u)
after_sample kept samples sample at rate until e f g =
    subst (λ (o : Option TimeStamp). IfSome o (λ u. capture_at samples.stamp sample (rate_in samples.fields) < moment_of u)) (sym e)
    (subst (λ (t : ℕ). IfSome (next_stamp kept at) (λ u. t < moment_of u)) (f ∙ ap (λ r. capture_at samples.stamp sample r) g) (next_after kept at))

-- samples of one label, and those that go on with it, are a stretch
pub stretch_with : (labels : ℕ → Label) (number first from end : ℕ) (label : Label) → first < from → ((m : ℕ) → first ≤ m → m < from → labels m ≡ label)
    → GoesOn labels number from label end → IsStretch labels number first label end
stretch_with labels number first from end label some same on = record {
  label_told = sym (same first (omega arith) some);
  some = omega (arith, some, on.later);
  within = on.within;
  alike = λ m le lt. elim (cases_lt m from) [
    | inl before ↦ ap (same_label label) (same m le before) ∙ same_self label
    | inr behind ↦ on.alike m behind lt
  ];
  ends = on.ends;
}
