-- Items of lists by their places.
use Rattle.std.proofs.Common.{◌≡◌, ◌⊎◌, ℕ, suc, zero, ◌+◌, ◌<◌, ◌≤◌, ◌||◌, Bool, true, false, cond, eqb, List, [], ◌∷◌, ◌++◌, map, length, take, filter, get_or, slice_get, Some, refl, ap, inl, inr, arith}
use Rattle.std.proofs.lemmas.Bool.{cases_lt, false≢true}
use Rattle.std.proofs.lemmas.Bool.Decides.{eqb_tells}
use Rattle.reorder_window.specs.Delivery.{occurs}

module _ {X : Type 0} where
  pub slice_get-left : (xs ys : List X) (i : ℕ) → i < length xs → slice_get (xs ++ ys) i ≡ slice_get xs i
  slice_get-left [] ys i h = absurd (omega arith)
  slice_get-left (x ∷ xs) ys zero h = refl
  slice_get-left (x ∷ xs) ys (suc i) h = slice_get-left xs ys i (omega arith)

  pub slice_get-end : (xs : List X) (y : X) (i : ℕ) → i ≡ length xs → slice_get (xs ++ y ∷ []) i ≡ Some y
  slice_get-end [] y zero e = refl
  slice_get-end [] y (suc i) e = absurd (omega arith)
  slice_get-end (x ∷ xs) y zero e = absurd (omega arith)
  slice_get-end (x ∷ xs) y (suc i) e = slice_get-end xs y i (omega arith)

  pub slice_get-front : (n : ℕ) (xs : List X) (i : ℕ) → i < n → slice_get (take n xs) i ≡ slice_get xs i
  slice_get-front zero xs i h = absurd (omega arith)
  slice_get-front (suc n) [] i h = refl
  slice_get-front (suc n) (x ∷ xs) zero h = refl
  slice_get-front (suc n) (x ∷ xs) (suc i) h = slice_get-front n xs i (omega arith)

  pub slice_get-within : (xs : List X) (i : ℕ) (x : X) → slice_get xs i ≡ Some x → i < length xs
  slice_get-within [] zero x e = absurd (cc)
  slice_get-within [] (suc i) x e = absurd (cc)
  slice_get-within (y ∷ xs) zero x e = omega arith
  slice_get-within (y ∷ xs) (suc i) x e = let h = slice_get-within xs i x e in omega arith

  pub take-all : (xs ys : List X) → take (length xs) (xs ++ ys) ≡ xs
  take-all [] ys = refl
  take-all (x ∷ xs) ys = ap (λ zs. x ∷ zs) (take-all xs ys)

  -- the place of an item of a list with one more
  pub at_end : (xs : List X) (y d : X) (i : ℕ) → i < length (xs ++ y ∷ [])
      → ((i < length xs) × (get_or (xs ++ y ∷ []) i d ≡ get_or xs i d)) ⊎ ((i ≡ length xs) × (get_or (xs ++ y ∷ []) i d ≡ y))
  at_end [] y d zero h = inr (refl, refl)
  at_end [] y d (suc i) h = absurd (omega arith)
  at_end (x ∷ xs) y d zero h = inl (omega arith, refl)
  at_end (x ∷ xs) y d (suc i) h = elim (at_end xs y d i (omega arith)) [
    | inl t ↦ inl (omega (arith, t.0), t.1)
    | inr t ↦ inr (omega (arith, t.0), t.1)
  ]

pub slice_get-map : {X Y : Type 0} (f : X → Y) (xs : List X) (i : ℕ) (x : X) → slice_get xs i ≡ Some x → slice_get (map f xs) i ≡ Some (f x)
slice_get-map f [] zero x e = absurd (cc)
slice_get-map f [] (suc i) x e = absurd (cc)
slice_get-map f (y ∷ xs) zero x e = let same : y ≡ x = cc in ap (λ z. Some (f z)) same
slice_get-map f (y ∷ xs) (suc i) x e = slice_get-map f xs i x e

-- ---- whether a number is among these

pub occurs-here : (k : ℕ) (ns : List ℕ) → occurs k (k ∷ ns) ≡ true
occurs-here k ns = elim (eqb_tells k k) [ inl t ↦ rw t.0 refl | inr t ↦ absurd (t.1 refl) ]

pub occurs-behind : (k j : ℕ) (ns : List ℕ) → occurs k ns ≡ true → occurs k (j ∷ ns) ≡ true
occurs-behind k j ns e = elim (eqb j k) as (λ v. (v || occurs k ns) ≡ true) [ true ↦ refl | false ↦ e ]

pub occurs-cases : (k j : ℕ) (ns : List ℕ) → occurs k (j ∷ ns) ≡ true → (j ≡ k) ⊎ (occurs k ns ≡ true)
occurs-cases k j ns e = elim (eqb_tells j k) [ inl t ↦ inl t.1 | inr t ↦ inr (rw t.0 at e) ]

-- its place
pub place_among : (k : ℕ) (ns : List ℕ) → occurs k ns ≡ true → (i : ℕ) × (i < length ns) × (get_or ns i 0 ≡ k)
place_among k [] e = absurd (false≢true e)
place_among k (j ∷ ns) e = elim (occurs-cases k j ns e) [
  | inl same ↦ (0, omega arith, same)
  | inr there ↦ let r = place_among k ns there in (suc r.0, omega (arith, r.1), r.2)
]

pub occurs-at : (ns : List ℕ) (i : ℕ) → i < length ns → occurs (get_or ns i 0) ns ≡ true
occurs-at [] i h = absurd (omega arith)
occurs-at (j ∷ ns) zero h = occurs-here j ns
occurs-at (j ∷ ns) (suc i) h = occurs-behind (get_or ns i 0) j ns (occurs-at ns i (omega arith))

-- ---- how many pass a test

count_one : (p : Bool) (x : ℕ) (xs : List ℕ) → length xs ≤ length (cond p (x ∷ xs) xs)
count_one true x xs = omega arith
count_one false x xs = omega arith

count_here : (p : Bool) (x : ℕ) (xs : List ℕ) → p ≡ true → length (cond p (x ∷ xs) xs) ≡ suc (length xs)
count_here true x xs e = refl
count_here false x xs e = absurd (false≢true e)

-- where the last n pass, n pass
pub last_pass : (p : ℕ → Bool) (n : ℕ) (xs : List ℕ) → n ≤ length xs
    → ((i : ℕ) → length xs ≤ i + n → i < length xs → p (get_or xs i 0) ≡ true) → n ≤ length (filter p xs)
last_pass p n [] few h = few
last_pass p zero (x ∷ xs) few h = omega arith
last_pass p (suc n) (x ∷ xs) few h = elim (cases_lt n (length xs)) [
  | inl less ↦
      let r = last_pass p (suc n) xs (omega arith) (λ i late within. h (suc i) (omega arith) (omega arith)) in
      omega (arith, r, count_one (p x) x (filter p xs))
  | inr all ↦
      let r = last_pass p n xs (omega arith) (λ i late within. h (suc i) (omega arith) (omega arith)) in
      omega (arith, r, count_here (p x) x (filter p xs) (h 0 (omega arith) (omega arith)))
]
