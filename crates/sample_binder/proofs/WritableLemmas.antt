-- The runs in which a packet leaves can be written.
use Rattle.std.proofs.Common.{◌≡◌, ◌≢◌, ℕ, ◌+◌, ◌*◌, ◌<◌, ◌≤◌, ◌==◌, ◌&&◌, Bool, true, false, cond, List, [], ◌∷◌, map, Option, Some, None, refl, sym, ap, arith}
use Rattle.std.proofs.Math.Nat.{mul-le-mul_left}
use Rattle.std.proofs.lemmas.Bool.Decides.{nat_tests}
use Rattle.std.specs.List.{AllByRecursion}
use Rattle.vrt_time.specs.Time.{moment_of, capture_at}
use Rattle.context_timeline.specs.declared.mark.Mark.{Mark}
use Rattle.context_timeline.specs.declared.mark.Mark.TheVariants as mark
use Rattle.context_timeline.specs.State.{TimelineState}
use Rattle.context_timeline.specs.Marks.{mark_in}
use Rattle.sample_binder.specs.declared.label.Label.{Label}
use Rattle.sample_binder.specs.declared.label.Label.TheVariants as label
use Rattle.sample_binder.specs.declared.reason.Reason.{Reason}
use Rattle.sample_binder.specs.declared.reason.Reason.TheVariants as reason
use Rattle.sample_binder.specs.declared.out.Run.{Run}
use Rattle.sample_binder.specs.declared.sampling.Shape.{Shape}
use Rattle.sample_binder.specs.Outputs.{open_reason}
use Rattle.sample_binder.specs.Parts.{samples_of, samples_in, counted_of, counted_in}
use Rattle.sample_binder.specs.Queue.{IsShape}
use Rattle.sample_binder.specs.Readings.{AreStretches}
use Rattle.sample_binder.specs.Reasons.{number_of as number_of_reason, IsInTable}
use Rattle.vrt_fields.specs.FieldWords.{AreFields}
use Rattle.sample_binder.specs.RunRules.{AreIndices, HoldsRun, IsWritable}
use Rattle.sample_binder.specs.Runs.{same_sampling, label_by, label_at, cut, run_by, run_at, raw, runs_bound, runs_by, runs_of}
use Rattle.sample_binder.specs.Samples.{rate_in, size_in, number_of, used_bits}
use Rattle.sample_binder.proofs.LawLemmas.{longest_told}
use Rattle.sample_binder.proofs.MarkLemmas.{AreSoundFields, IsSoundContext, IsSoundMark, mark_sound, later_not_before}
use Rattle.sample_binder.proofs.SampleLemmas.{number_exact, number_positive}

-- what is said of the runs of one packet
pub record AreLeft (payload : ℕ) (runs : List Run) : Type 0 where
  pub some : runs ≢ []
  pub writable : AllByRecursion (IsWritable payload) runs
  pub few : samples_in runs ≤ payload
  pub counted : counted_in runs ≤ payload

-- ---- labels

-- a context that is bound has the rate of the first, and an uncertain sample a reason that samples can have
abbrev pub IsSoundLabel : List ℕ → Label → Type 0
IsSoundLabel first (label.Bound place fields) = AreFields fields × (rate_in fields ≡ rate_in first)
IsSoundLabel first (label.Uncertain reason) = IsInTable reason × (2 ≤ number_of_reason reason) × (number_of_reason reason ≤ 6)

first_of_three : (x y : ℕ) (p q : Bool) → (x == y && p && q) ≡ true → y ≡ x
first_of_three x y p q e = grind (arith, nat_tests)

open_label : (first : List ℕ) (ended : Bool) → IsSoundLabel first (label.Uncertain (open_reason ended))
open_label first true = (tt, omega arith, omega arith)
open_label first false = (tt, omega arith, omega arith)

chosen_label : (first fields : List ℕ) (place : ℕ) (same : Bool) → (same ≡ true → rate_in fields ≡ rate_in first) → AreFields fields
    → IsSoundLabel first (cond same (label.Bound place fields) (label.Uncertain reason.FormatChanged))
chosen_label first fields place true h f = (f, h refl)
chosen_label first fields place false h f = (tt, omega arith, omega arith)

label_sound : (first : List ℕ) (ended : Bool) (m : Mark) → IsSoundMark m → (m ≡ mark.BeforeFirst → ⊥) → IsSoundLabel first (label_by first (open_reason ended) m)
label_sound first ended mark.Open h f = open_label first ended
label_sound first ended mark.BeforeFirst h f = absurd (f refl)
label_sound first ended mark.TimelineFull h f = (tt, omega arith, omega arith)
label_sound first ended (mark.Lost lost) h f = (h, omega arith, omega arith)
label_sound first ended (mark.Bound place fields) h f =
    chosen_label first fields place (same_sampling first fields) (λ e. first_of_three (rate_in first) (rate_in fields) _ _ e) h.are

run_samples : (l : Label) (shape : Shape) (fields : List ℕ) (s : ℕ × ℕ) → samples_of (run_by l shape.stamp fields s) ≡ s.1
run_samples (label.Bound place f) shape fields s = refl
run_samples (label.Uncertain reason) shape fields s = refl

run_counted : (l : Label) (shape : Shape) (fields : List ℕ) (s : ℕ × ℕ) → counted_of (run_by l shape.stamp fields s) ≡ s.1
run_counted (label.Bound place f) shape fields s = refl
run_counted (label.Uncertain reason) shape fields s = refl

module _ (payload : ℕ) (shape : Shape) (some : 1 ≤ shape.words) (fits : IsShape shape) (whole : payload ≡ 4 * shape.words) where
  -- ---- a packet as a whole

  raw_left : (reason : Reason) → IsInTable reason → number_of_reason reason ≢ 6 → AreLeft payload (raw reason shape)
  raw_left reason table other = record {
    some = λ e. absurd (cc);
    writable = (record { obeys = record { in_table = table; whole_packet = other; pad_most = fits.pad }; goes = record { some = omega arith; whole = omega arith } }, tt);
    few = omega arith;
    counted = omega arith;
  }

  open_left : (ended : Bool) → AreLeft payload (raw (open_reason ended) shape)
  open_left true = raw_left reason.Ended tt (λ e. let no : 5 ≡ 6 = e in absurd (omega arith))
  open_left false = raw_left reason.PendingFull tt (λ e. let no : 3 ≡ 6 = e in absurd (omega arith))

  -- ---- a packet that is cut

  module _ (line : TimelineState) (ended : Bool) (sound : AllByRecursion IsSoundContext line.kept) (fields : List ℕ) (first : AreSoundFields fields) (place number : ℕ)
      (here : mark_in line (moment_of shape.stamp) ≡ mark.Bound place fields) (holds : number_of shape (size_in fields) ≡ Some number) where
    abbrev labels : ℕ → Label
    labels = label_at line (open_reason ended) shape.stamp fields

    exact : 2 * size_in fields * number ≡ used_bits shape
    exact = number_exact shape (size_in fields) number (omega (arith, first.sampling.some_bits)) holds

    eight : 8 * number ≤ used_bits shape
    eight =
        let size = size_in fields in
        let more : number * 8 ≤ number * (2 * size) = mul-le-mul_left number (omega (arith, first.sampling.some_bits)) in
        omega (arith, more, exact)

    run_writable : (l : Label) (s : ℕ × ℕ) → IsSoundLabel fields l → 0 < s.1 → s.0 + s.1 ≤ number → IsWritable payload (run_by l shape.stamp fields s)
    run_writable (label.Bound place f) s h some within = record {
      obeys = record { indices = indices; are_fields = h.0; captured = ap (λ r. capture_at shape.stamp s.0 r) (sym h.1) };
      goes = goes;
    }
      where
        indices : AreIndices s.0 s.1
        indices = record { some = omega arith; within = omega (arith, eight, fits.words) }

        goes : HoldsRun (size_in fields) s.0 s.1 payload
        goes = record { least_bits = first.sampling.some_bits; most_bits = first.sampling.most_bits; within = λ lt. omega (arith, mul-le-mul_left (2 * size_in fields) within, exact) }
    run_writable (label.Uncertain reason) s h some within = record {
      obeys = record { indices = indices; in_table = h.0; least = h.1; most = h.2 };
      goes = goes;
    }
      where
        indices : AreIndices s.0 s.1
        indices = record { some = omega arith; within = omega (arith, eight, fits.words) }

        goes : HoldsRun (size_in fields) s.0 s.1 payload
        goes = record { least_bits = first.sampling.some_bits; most_bits = first.sampling.most_bits; within = λ lt. omega (arith, mul-le-mul_left (2 * size_in fields) within, exact) }

    sound_at : (m : ℕ) → IsSoundLabel fields (labels m)
    sound_at m =
        let at = capture_at shape.stamp m (rate_in fields) in
        label_sound fields ended (mark_in line at) (mark_sound line at sound)
        (λ e. later_not_before line (moment_of shape.stamp) at (omega arith) place fields here e)

    cut_writable : (xs : List (ℕ × ℕ)) (m : ℕ) → AreStretches labels number m xs → AllByRecursion (IsWritable payload) (map (run_at line (open_reason ended) shape.stamp fields) xs)
    cut_writable [] m h = tt
    cut_writable (s ∷ xs) m h =
        (run_writable (labels s.0) s (sound_at s.0) h.1.some (omega (arith, h.0, h.1.within)), cut_writable xs (m + s.1) h.2)

    cut_samples : (xs : List (ℕ × ℕ)) (m : ℕ) → AreStretches labels number m xs → m + samples_in (map (run_at line (open_reason ended) shape.stamp fields) xs) ≡ number
    cut_samples [] m h = omega (arith, h)
    cut_samples (s ∷ xs) m h = omega (arith, cut_samples xs (m + s.1) h.2, run_samples (labels s.0) shape fields s)

    cut_counted : (xs : List (ℕ × ℕ)) (m : ℕ) → AreStretches labels number m xs → m + counted_in (map (run_at line (open_reason ended) shape.stamp fields) xs) ≡ number
    cut_counted [] m h = omega (arith, h)
    cut_counted (s ∷ xs) m h = omega (arith, cut_counted xs (m + s.1) h.2, run_counted (labels s.0) shape fields s)

    cut_some : (xs : List (ℕ × ℕ)) → AreStretches labels number 0 xs → 0 < number → map (run_at line (open_reason ended) shape.stamp fields) xs ≢ []
    cut_some [] h lt e = absurd (omega (arith, h))
    cut_some (s ∷ xs) h lt e = absurd (cc)

    cut_left : 0 < number → AreLeft payload (map (run_at line (open_reason ended) shape.stamp fields) (cut labels number))
    cut_left lt =
        let xs = cut labels number in
        let h = longest_told labels number in
        record {
          some = cut_some xs h lt;
          writable = cut_writable xs 0 h;
          few = omega (arith, cut_samples xs 0 h, eight);
          counted = omega (arith, cut_counted xs 0 h, eight);
        }

  module _ (line : TimelineState) (ended : Bool) (sound : AllByRecursion IsSoundContext line.kept) where
    bound_left : (fields : List ℕ) (place : ℕ) → AreSoundFields fields → mark_in line (moment_of shape.stamp) ≡ mark.Bound place fields
        → (o : Option ℕ) → number_of shape (size_in fields) ≡ o → AreLeft payload (runs_bound line (open_reason ended) shape fields o)
    bound_left fields place first here None holds = raw_left reason.Shape tt (λ e. let no : 7 ≡ 6 = e in absurd (omega arith))
    bound_left fields place first here (Some number) holds =
        cut_left line ended sound fields first place number here holds (number_positive shape (size_in fields) number (omega (arith, first.sampling.some_bits)) holds)

    by_left : (m : Mark) → mark_in line (moment_of shape.stamp) ≡ m → IsSoundMark m → AreLeft payload (runs_by line (open_reason ended) shape m)
    by_left mark.Open e h = open_left ended
    by_left mark.BeforeFirst e h = raw_left reason.BeforeFirst tt (λ e. let no : 1 ≡ 6 = e in absurd (omega arith))
    by_left mark.TimelineFull e h = raw_left reason.TimelineFull tt (λ e. let no : 4 ≡ 6 = e in absurd (omega arith))
    by_left (mark.Lost lost) e h = raw_left (reason.ContextLost lost) h (λ e. let no : 2 ≡ 6 = e in absurd (omega arith))
    by_left (mark.Bound place fields) e h = bound_left fields place h e (number_of shape (size_in fields)) refl

    -- what a packet leaves in
    pub runs_left : AreLeft payload (runs_of line (open_reason ended) shape)
    runs_left =
        let m = mark_in line (moment_of shape.stamp) in
        by_left m refl (mark_sound line (moment_of shape.stamp) sound)
