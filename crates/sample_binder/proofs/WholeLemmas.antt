-- A packet whose last sample was captured before the next context leaves in one run.
use Rattle.std.proofs.Common.{◌≡◌, ℕ, ◌-◌, ◌<◌, ◌≤◌, ◌∷◌, nat_lt, true, false, cond, List, Option, Some, None, IfSome, refl, sym, ap, ◌∙◌, inl, arith}
use Rattle.std.proofs.lemmas.Grind.{common_steps}
use Rattle.std.proofs.lemmas.Bool.Decides.{nat_tests}
use Rattle.vrt_time.specs.Time.{TimeStamp, moment_of, capture_at}
use Rattle.vrt_time.proofs.TimeLaws.{capture_at-le}
use Rattle.context_timeline.specs.declared.mark.Mark.TheVariants as mark
use Rattle.context_timeline.specs.Cut.{stamp_at}
use Rattle.context_timeline.specs.State.{TimelineState, IsTimelineState, moments}
use Rattle.context_timeline.specs.Marks.{mark_in, is_below, next_stamp}
use Rattle.context_timeline.proofs.PartitionLaws.{cut_of, next_stamp_cut, mark_in_cut, mark_in_later}
use Rattle.sample_binder.specs.declared.label.Label.{Label}
use Rattle.sample_binder.specs.declared.label.Label.TheVariants as label
use Rattle.sample_binder.specs.declared.give.Leaving.TheVariants as leaving
use Rattle.sample_binder.specs.declared.reason.Reason.{Reason}
use Rattle.sample_binder.specs.declared.reason.Reason.TheVariants as reason
use Rattle.sample_binder.specs.declared.out.Run.{Run}
use Rattle.sample_binder.specs.declared.out.Run.TheVariants as run
use Rattle.sample_binder.specs.declared.sampling.Sampled.{Sampled}
use Rattle.sample_binder.specs.Left.{runs_left, runs_left_of}
use Rattle.sample_binder.specs.Runs.{same_sampling, label_by, label_at, run_by}
use Rattle.sample_binder.specs.Samples.{rate_in, size_in}
use Rattle.sample_binder.specs.Sound.{HasSampling}
use Rattle.sample_binder.specs.Stretches.{IsStretch}
use Rattle.sample_binder.proofs.CutLemmas.{stretch_with}
use Rattle.sample_binder.proofs.RunLemmas.{first_run}

before_told : (t : ℕ) (o : Option TimeStamp) → is_below t o ≡ true → IfSome o (λ stamp. t < moment_of stamp)
before_told t None e = absurd (cc)
before_told t (Some stamp) e = grind (arith, nat_tests)

before_later : (s t : ℕ) (o : Option TimeStamp) → s ≤ t → is_below t o ≡ true → is_below s o ≡ true
before_later s t None le e = e
before_later s t (Some stamp) le e = grind (arith, nat_tests)

-- a later moment in front of the next stamp has the same mark
mark_same : (line : TimelineState) (t later : ℕ) → IsTimelineState line → t ≤ later → is_below later (next_stamp line.kept t) ≡ true → mark_in line later ≡ mark_in line t
mark_same line t later h le below =
    let cut = cut_of (moments line.kept) t h.rising in
    let next = next_stamp_cut line.kept t cut.0 cut.1 in
    mark_in_later line t later cut.0 h.rising cut.1 le (before_told later (stamp_at line.kept cut.0) (ap (is_below later) (sym next) ∙ below))
    ∙ sym (mark_in_cut line t cut.0 cut.1)

same_sampling-self : (fields : List ℕ) → same_sampling fields fields ≡ true
same_sampling-self fields = grind (arith, nat_tests)

first_time : (stamp : TimeStamp) (rate : ℕ) → capture_at stamp 0 rate ≡ moment_of stamp
first_time stamp rate = grind (arith, common_steps)

none_behind : (n : ℕ) → nat_lt n n ≡ false
none_behind n = grind (arith, nat_tests)

module _ (line : TimelineState) (why : Reason) (samples : Sampled) (place : ℕ) (is_line : IsTimelineState line) (sampling : HasSampling samples.fields) (some : 0 < samples.number)
    (here : mark_in line (moment_of samples.stamp) ≡ mark.Bound place samples.fields)
    (whole : is_below (capture_at samples.stamp (samples.number - 1) (rate_in samples.fields)) (next_stamp line.kept (moment_of samples.stamp)) ≡ true) where
  abbrev bound : Label
  bound = label.Bound place samples.fields

  -- each sample has the context of the first
  label_is : (m : ℕ) → m < samples.number → label_at line why samples.stamp samples.fields m ≡ bound
  label_is m lt =
      let rate = rate_in samples.fields in
      let at = capture_at samples.stamp m rate in
      let order = capture_at-le samples.stamp m (samples.number - 1) rate (omega arith) (omega (arith, sampling.least)) in
      let below = before_later at (capture_at samples.stamp (samples.number - 1) rate) (next_stamp line.kept (moment_of samples.stamp)) order whole in
      ap (label_by samples.fields why) (mark_same line (moment_of samples.stamp) at is_line (omega arith) below ∙ here)
      ∙ ap (λ b. cond b bound (label.Uncertain reason.FormatChanged)) (same_sampling-self samples.fields)

  one_stretch : IsStretch (label_at line why samples.stamp samples.fields) samples.number 0 bound samples.number
  one_stretch =
      stretch_with (label_at line why samples.stamp samples.fields) samples.number 0 samples.number samples.number bound some (λ m le lt. label_is m lt)
      (record { later = omega arith; within = omega arith; alike = λ m le lt. absurd (omega arith); ends = inl refl })

  -- so its one run is what is left where it is cut
  pub whole_is_cut : runs_left line why (leaving.Whole samples) ≡ runs_left line why (leaving.Cut samples 0)
  whole_is_cut =
      let n = samples.number in
      let rate = rate_in samples.fields in
      let all : n - 0 ≡ n = omega arith in
      let runs : Run → List Run = λ r. r ∷ runs_left_of line why (cond (nat_lt n n) (Some (leaving.Cut samples n)) None) in
      sym (
      first_run line why samples 0 n bound one_stretch refl
      ∙ ap (λ (l : Label). runs (run_by l samples.stamp samples.fields (0, n - 0))) (label_is 0 some)
      ∙ ap (λ k. runs (run.Bound samples.stamp 0 k (capture_at samples.stamp 0 rate) samples.fields (size_in samples.fields))) all
      ∙ ap (λ t. runs (run.Bound samples.stamp 0 n t samples.fields (size_in samples.fields))) (first_time samples.stamp rate)
      ∙ ap (λ b. run.Bound samples.stamp 0 n (moment_of samples.stamp) samples.fields (size_in samples.fields) ∷ runs_left_of line why (cond b (Some (leaving.Cut samples n)) None)) (none_behind n)
      )
