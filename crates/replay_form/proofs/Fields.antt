-- One field after another.
use Rattle.std.proofs.Common.{◌≡◌, ℕ, ◌+◌, ◌≤◌, Bool, List, length, take, subst, below_more, arith}
use Rattle.std.proofs.lemmas.List.{length-take-le}
use Rattle.replay_form.proofs.NumberLaws.{number_at-take}
use Rattle.replay_form.specs.FrameFields.{frame_end}
use Rattle.replay_form.specs.declared.frame_field.FrameField.{FrameField}
use Rattle.replay_form.specs.declared.frame_field.FrameField.TheVariants.{Seconds, Picos, Port, Zero, Length, Datagram}
use Rattle.replay_form.specs.HeadFields.{IsRightIn, IsGood, AreRight, is_second, field_at, end_of}
use Rattle.replay_form.specs.declared.head_field.HeadField.{HeadField}

-- a field that is there and right
pub one_more : (bytes : List ℕ) (i end : ℕ) (second : Bool) (field : HeadField) → second ≡ is_second bytes → field ≡ field_at second i → end ≡ end_of second field
    → end ≤ length bytes → IsRightIn second field (take end bytes) → AreRight bytes i → AreRight bytes (i + 1)
one_more bytes i end second field form same ends there right before =
    let good : IsGood second field bytes =
    record { there = subst (λ e. e ≤ length bytes) ends there; right = subst (λ e. IsRightIn second field (take e bytes)) ends right } in
    let here : IsGood second (field_at second i) bytes = subst (λ f. IsGood second f bytes) same good in
    below_more (λ k. IsGood (is_second bytes) (field_at (is_second bytes) k) bytes) i before (subst (λ s. IsGood s (field_at s i) bytes) form here)

-- the bytes up to a field's end have it whole
pub ends_there : (field : FrameField) (bytes : List ℕ) (end : ℕ) → end ≡ frame_end field bytes → end ≤ length bytes → frame_end field (take end bytes) ≤ length (take end bytes)
ends_there Seconds bytes end e h = omega (arith, length-take-le end bytes h)
ends_there Picos bytes end e h = omega (arith, length-take-le end bytes h)
ends_there Port bytes end e h = omega (arith, length-take-le end bytes h)
ends_there Zero bytes end e h = omega (arith, length-take-le end bytes h)
ends_there Length bytes end e h = omega (arith, length-take-le end bytes h)
ends_there Datagram bytes end e h = omega (arith, length-take-le end bytes h, number_at-take 16 4 end bytes (omega arith))
