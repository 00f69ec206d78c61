-- Texts behind one another.
use Rattle.std.proofs.Common.{◌≡◌, ℕ, List, ◌++◌, ap, ◌∙◌, append_assoc}

pub two_behind : (old mid new front back : List ℕ) → mid ≡ old ++ front → new ≡ mid ++ back → new ≡ old ++ (front ++ back)
two_behind old mid new front back first second =
    second ∙ ap (λ l. l ++ back) first ∙ append_assoc old front back

regrouped_3 : (old a b c : List ℕ) → ((old ++ a) ++ b) ++ c ≡ old ++ (a ++ b ++ c)
regrouped_3 old a b c = simp append_assoc

pub three_behind : (old x y z a b c : List ℕ) → x ≡ old ++ a → y ≡ x ++ b → z ≡ y ++ c → z ≡ old ++ (a ++ b ++ c)
three_behind old x y z a b c p q r =
    r ∙ ap (λ l. l ++ c) q ∙ ap (λ l. (l ++ b) ++ c) p ∙ regrouped_3 old a b c
