-- The rules of the initial fields, word by word as they stand in a header.
use Rattle.std.proofs.Common.{ℕ, ◌+◌, ◌*◌, ◌-◌, ◌<◌, ◌≤◌, ◌^◌, List, slice_index, sym, subst}
use Rattle.vrt_fields.specs.Format.{IsFormatFirst, IsFormatSecond}
use Rattle.vrt_fields.specs.FieldWords.{AreFields}
use Rattle.replay_form.specs.HeadFields.{IsInitialWord}

pub rule_of_word : (words : List ℕ) (place : ℕ) → AreFields words → IsInitialWord place (slice_index words (place - 1)) (slice_index words place)
rule_of_word words place h = record {
  rate_high = λ e. subst (λ p. slice_index words p < 2 ^ 31) (sym e) h.rate.positive;
  rate_low = λ e. subst (λ p. 2 ^ 20 ≤ slice_index words (p - 1) * 2 ^ 32 + slice_index words p) (sym e) h.rate.least;
  format_first = λ e. subst (λ p. IsFormatFirst (slice_index words p)) (sym e) h.format_first;
  format_second = λ e. subst (λ p. IsFormatSecond (slice_index words p)) (sym e) h.format_second;
}
