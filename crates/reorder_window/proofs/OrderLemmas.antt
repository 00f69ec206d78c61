-- Lists of packets whose stamps fall.
use Rattle.std.proofs.Common.{◌≡◌, ℕ, ◌<◌, ◌≤◌, true, false, cond, eqb, nat_lt, nat_le, List, [], ◌∷◌, ◌++◌, length, take, drop, insert, Some, None, refl, sym, ap, ◌∙◌, add-one, suc, zero, ◌⊎◌, inl, inr, take-append-drop, arith}
use Rattle.std.proofs.lemmas.Bool.Decides.{nat_tests, leb_tells, eqb_tells}
use Rattle.vrt_time.specs.Time.{moment_of}
use Rattle.reorder_window.specs.declared.entry.Entry.{Entry}
use Rattle.reorder_window.specs.Window.{boundary, is_late, twin, in_place, AreBelow, AreFalling}
use Rattle.reorder_window.specs.Steps.{number_above, found}

pub ltb-false : (a b : ℕ) → b ≤ a → nat_lt a b ≡ false
ltb-false a b h = grind (arith, nat_tests)

pub leb-true : (a b : ℕ) → a ≤ b → nat_le a b ≡ true
leb-true a b h = grind (arith, nat_tests)

pub ltb-true : (a b : ℕ) → a < b → nat_lt a b ≡ true
ltb-true a b h = grind (arith, nat_tests)

pub ltb_tells : (a b : ℕ) → ((nat_lt a b ≡ true) × (a < b)) ⊎ ((nat_lt a b ≡ false) × (b ≤ a))
ltb_tells a b = elim (leb_tells b a) [ inl h ↦ inr (ltb-false a b h.1, h.1) | inr h ↦ inl (ltb-true a b h.1, h.1) ]

module _ {T : Type 0} where
  -- none below is a twin
  pub twin_none : (n : ℕ) (a : Entry T) (xs : List (Entry T)) → n ≤ moment_of a.stamp → AreBelow n xs → twin a xs ≡ None
  twin_none n a [] h p = refl
  twin_none n a (b ∷ rest) h p =
      elim (eqb_tells (moment_of b.stamp) (moment_of a.stamp)) [ inl e ↦ absurd (omega (arith, p.0, e.1)) | inr e ↦ rw e.0 (twin_none n a rest h p.1) ]

  pub in_place-below : (n : ℕ) (a : Entry T) (xs : List (Entry T)) → moment_of a.stamp < n → AreBelow n xs → AreBelow n (in_place a xs)
  in_place-below n a [] h p = (h, tt)
  in_place-below n a (b ∷ rest) h p =
      let r = in_place-below n a rest h p.1 in
      elim (nat_lt (moment_of b.stamp) (moment_of a.stamp)) as (λ v. AreBelow n (cond v (a ∷ b ∷ rest) (b ∷ in_place a rest))) [ true ↦ (h, p) | false ↦ (p.0, r) ]

  -- what is below is below a greater number
  pub below_more : (m n : ℕ) (xs : List (Entry T)) → m ≤ n → AreBelow m xs → AreBelow n xs
  below_more m n [] h p = tt
  below_more m n (b ∷ rest) h p = (omega (arith, p.0), below_more m n rest h p.1)

  -- a new one in its place leaves stamps that fall
  pub in_place-falling : (a : Entry T) (xs : List (Entry T)) → AreFalling xs → twin a xs ≡ None → AreFalling (in_place a xs)
  in_place-falling a [] p e = (tt, tt)
  in_place-falling a (b ∷ rest) p e =
      elim (eqb_tells (moment_of b.stamp) (moment_of a.stamp)) [
        | inl t ↦ let f : Some b ≡ None = sym (rw t.0 refl) ∙ e in cc
        | inr t ↦
            let f : twin a rest ≡ None = rw t.0 at e in
            elim (ltb_tells (moment_of b.stamp) (moment_of a.stamp)) [
              | inl u ↦ rw u.0 ((u.1, below_more (moment_of b.stamp) (moment_of a.stamp) rest (omega (arith, u.1)) p.0), p)
              | inr u ↦ rw u.0 (in_place-below (moment_of b.stamp) a rest (omega (arith, u.1, t.1)) p.0, in_place-falling a rest p.1 f)
            ]
      ]

  -- the first that is not above it tells whether there is a twin
  pub twin-found : (a : Entry T) (xs : List (Entry T)) → AreFalling xs → found a.stamp xs ≡ twin a xs
  twin-found a [] p = refl
  twin-found a (b ∷ rest) p =
      elim (ltb_tells (moment_of a.stamp) (moment_of b.stamp)) [
        | inl u ↦
            elim (eqb_tells (moment_of b.stamp) (moment_of a.stamp)) [
              | inl t ↦ absurd (omega (arith, u.1, t.1))
              | inr t ↦ rw (u.0, t.0, add-one) (twin-found a rest p.1)
            ]
        | inr u ↦
            elim (eqb_tells (moment_of b.stamp) (moment_of a.stamp)) [
              | inl t ↦ rw (u.0, t.0) refl
              | inr t ↦ rw (u.0, t.0) (sym (twin_none (moment_of b.stamp) a rest (omega (arith, u.1)) p.0))
            ]
      ]

  -- it stands where the code puts it
  pub insert-in_place : (a : Entry T) (xs : List (Entry T)) → twin a xs ≡ None → insert xs (number_above a.stamp xs) a ≡ in_place a xs
  insert-in_place a [] e = refl
  insert-in_place a (b ∷ rest) e =
      elim (eqb_tells (moment_of b.stamp) (moment_of a.stamp)) [
        | inl t ↦ let f : Some b ≡ None = sym (rw t.0 refl) ∙ e in cc
        | inr t ↦
            let f : twin a rest ≡ None = rw t.0 at e in
            elim (ltb_tells (moment_of a.stamp) (moment_of b.stamp)) [
              | inl u ↦ elim (ltb_tells (moment_of b.stamp) (moment_of a.stamp)) [
                | inl v ↦ absurd (omega (arith, u.1, v.1))
                | inr v ↦ rw (u.0, v.0, add-one) (ap (λ l. b ∷ l) (insert-in_place a rest f))
              ]
              | inr u ↦ elim (ltb_tells (moment_of b.stamp) (moment_of a.stamp)) [
                | inl v ↦ rw (u.0, v.0) refl
                | inr v ↦ absurd (omega (arith, u.1, v.1, t.1))
              ]
            ]
      ]

  pub length-in_place : (a : Entry T) (xs : List (Entry T)) → length (in_place a xs) ≡ suc (length xs)
  length-in_place a [] = refl
  length-in_place a (b ∷ rest) =
      let r = length-in_place a rest in
      elim (nat_lt (moment_of b.stamp) (moment_of a.stamp)) as (λ v. length (cond v (a ∷ b ∷ rest) (b ∷ in_place a rest)) ≡ suc (suc (length rest))) [ true ↦ refl | false ↦ ap suc r ]

  -- of one above the boundary, the twin is among the greatest, and there is its place
  pub twin-take : (size : ℕ) (a : Entry T) (xs : List (Entry T)) → AreFalling xs → is_late (boundary size xs) a ≡ false → twin a (take size xs) ≡ twin a xs
  twin-take zero a [] p e = refl
  twin-take zero a (b ∷ rest) p e =
      elim (leb_tells (moment_of a.stamp) (moment_of b.stamp)) [
        | inl u ↦ let f : true ≡ false = sym u.0 ∙ e in cc
        | inr u ↦ sym (twin_none (moment_of a.stamp) a (b ∷ rest) (omega arith) (u.1, below_more (moment_of b.stamp) (moment_of a.stamp) rest (omega (arith, u.1)) p.0))
      ]
  twin-take (suc size) a [] p e = refl
  twin-take (suc size) a (b ∷ rest) p e =
      let r = twin-take size a rest p.1 e in
      elim (eqb (moment_of b.stamp) (moment_of a.stamp)) as (λ v. cond v (Some b) (twin a (take size rest)) ≡ cond v (Some b) (twin a rest)) [ true ↦ refl | false ↦ r ]

  pub in_place-take : (size : ℕ) (a : Entry T) (xs : List (Entry T)) → is_late (boundary size xs) a ≡ false → in_place a xs ≡ in_place a (take size xs) ++ drop size xs
  in_place-take zero a [] e = refl
  in_place-take zero a (b ∷ rest) e =
      elim (leb_tells (moment_of a.stamp) (moment_of b.stamp)) [
        | inl u ↦ let f : true ≡ false = sym u.0 ∙ e in cc
        | inr u ↦ elim (ltb_tells (moment_of b.stamp) (moment_of a.stamp)) [
          | inl v ↦ rw v.0 refl
          | inr v ↦ absurd (omega (arith, u.1, v.1))
        ]
      ]
  in_place-take (suc size) a [] e = refl
  in_place-take (suc size) a (b ∷ rest) e =
      let r = in_place-take size a rest e in
      elim (nat_lt (moment_of b.stamp) (moment_of a.stamp)) as (λ v. cond v (a ∷ b ∷ rest) (b ∷ in_place a rest) ≡ cond v (a ∷ b ∷ take size rest) (b ∷ in_place a (take size rest)) ++ drop size rest) [
        | true ↦ ap (λ l. a ∷ b ∷ l) (sym (take-append-drop size rest))
        | false ↦ ap (λ l. b ∷ l) r
      ]
