-- Labels are compared by an equivalence.
use Rattle.std.proofs.Common.{◌≡◌, ℕ, ◌==◌, true, List, refl, ap, arith}
use Rattle.std.proofs.lemmas.Bool.Decides.{nat_tests}
use Rattle.sample_binder.specs.declared.label.Label.{Label}
use Rattle.sample_binder.specs.declared.label.Label.TheVariants as label
use Rattle.sample_binder.specs.declared.reason.Reason.{Reason}
use Rattle.sample_binder.specs.declared.reason.Reason.TheVariants as reason
use Rattle.sample_binder.specs.Runs.{same_reason, same_label}

same_number : (a b : ℕ) → (a == b) ≡ true → a ≡ b
same_number a b e = grind (arith, nat_tests)

number_self : (a : ℕ) → (a == a) ≡ true
number_self a = grind (arith, nat_tests)

reason_is : (a b : Reason) → same_reason a b ≡ true → a ≡ b
reason_is reason.BeforeFirst reason.BeforeFirst e = refl
reason_is (reason.ContextLost lost) (reason.ContextLost other) e = ap reason.ContextLost (same_number lost other e)
reason_is reason.PendingFull reason.PendingFull e = refl
reason_is reason.TimelineFull reason.TimelineFull e = refl
reason_is reason.Ended reason.Ended e = refl
reason_is reason.FormatChanged reason.FormatChanged e = refl
reason_is reason.Shape reason.Shape e = refl
reason_is a b e = absurd (cc)

reason_self : (a : Reason) → same_reason a a ≡ true
reason_self reason.BeforeFirst = refl
reason_self (reason.ContextLost lost) = number_self lost
reason_self reason.PendingFull = refl
reason_self reason.TimelineFull = refl
reason_self reason.Ended = refl
reason_self reason.FormatChanged = refl
reason_self reason.Shape = refl

pub same_self : (a : Label) → same_label a a ≡ true
same_self (label.Bound place fields) = number_self place
same_self (label.Uncertain why) = reason_self why

place_as : (place other : ℕ) (fields others : List ℕ) (c : Label) → place ≡ other → same_label (label.Bound place fields) c ≡ same_label (label.Bound other others) c
place_as place other fields others (label.Bound third thirds) e = ap (λ n. n == third) e
place_as place other fields others (label.Uncertain why) e = refl

-- one that is the same as another is so to the same others
pub same_as : (a b c : Label) → same_label a b ≡ true → same_label a c ≡ same_label b c
same_as (label.Bound place fields) (label.Bound other others) c e = place_as place other fields others c (same_number place other e)
same_as (label.Uncertain why) (label.Uncertain other) c e = ap (λ (r : Reason). same_label (label.Uncertain r) c) (reason_is why other e)
same_as a b c e = absurd (cc)
