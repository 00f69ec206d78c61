-- What is true of all arrivals is true of the accepted and of the releases.
use Rattle.std.proofs.Common.{ℕ, true, false, cond, nat_lt, List, [], ◌∷◌, ◌++◌, drop, fold, zero, suc}
use Rattle.std.specs.List.{AllByRecursion}
use Rattle.vrt_time.specs.Time.{TimeStamp, moment_of}
use Rattle.reorder_window.specs.declared.entry.Entry.{Entry}
use Rattle.reorder_window.specs.Window.{is_accepted, in_place, with_arrival, accepted, number_held, released, release, in_order, releases}

module _ {T : Type 0} where
  every-in_place : (P : Entry T → Type 0) (a : Entry T) (xs : List (Entry T)) → P a → AllByRecursion P xs → AllByRecursion P (in_place a xs)
  every-in_place P a [] p h = (p, tt)
  every-in_place P a (b ∷ xs) p h =
      let r = every-in_place P a xs p h.1 in
      elim (nat_lt (moment_of b.stamp) (moment_of a.stamp)) as (λ v. AllByRecursion P (cond v (a ∷ b ∷ xs) (b ∷ in_place a xs))) [ true ↦ (p, h) | false ↦ (h.0, r) ]

  every-with : (P : Entry T → Type 0) (size : ℕ) (xs : List (Entry T)) (a : Entry T) → P a → AllByRecursion P xs → AllByRecursion P (with_arrival size xs a)
  every-with P size xs a p h =
      elim (is_accepted size xs a) as (λ v. AllByRecursion P (cond v (in_place a xs) xs)) [ true ↦ every-in_place P a xs p h | false ↦ h ]

  every-fold : (P : Entry T → Type 0) (size : ℕ) (xs arrivals : List (Entry T)) → AllByRecursion P xs → AllByRecursion P arrivals → AllByRecursion P (fold (with_arrival size) xs arrivals)
  every-fold P size xs [] h q = h
  every-fold P size xs (a ∷ arrivals) h q = every-fold P size (with_arrival size xs a) arrivals (every-with P size xs a q.0 h) q.1

  pub every-accepted : (P : Entry T → Type 0) (size : ℕ) (arrivals : List (Entry T)) → AllByRecursion P arrivals → AllByRecursion P (accepted size arrivals)
  unfolding accepted
  every-accepted P size arrivals q = every-fold P size [] arrivals tt q

  every-drop : (P : Entry T → Type 0) (n : ℕ) (xs : List (Entry T)) → AllByRecursion P xs → AllByRecursion P (drop n xs)
  every-drop P zero xs h = h
  every-drop P (suc n) [] h = h
  every-drop P (suc n) (b ∷ xs) h = every-drop P n xs h.1

  every-push : (Q : TimeStamp × ℕ × T → Type 0) (xs : List (TimeStamp × ℕ × T)) (r : TimeStamp × ℕ × T) → AllByRecursion Q xs → Q r → AllByRecursion Q (xs ++ r ∷ [])
  every-push Q [] r h q = (q, tt)
  every-push Q (x ∷ xs) r h q = (h.0, every-push Q xs r h.1 q)

  every-in_order : (Q : TimeStamp → T → Type 0) (xs : List (Entry T)) → AllByRecursion (λ a. Q a.stamp a.item) xs → AllByRecursion (λ r. Q r.0 r.2) (in_order xs)
  every-in_order Q [] h = tt
  every-in_order Q (a ∷ xs) h = every-push (λ r. Q r.0 r.2) (in_order xs) (release a xs) (every-in_order Q xs h.1) h.0

  -- of stamp and item of each arrival, so of each release
  pub every-release : (Q : TimeStamp → T → Type 0) (size : ℕ) (arrivals : List (Entry T)) (drained : ℕ) → AllByRecursion (λ a. Q a.stamp a.item) arrivals → AllByRecursion (λ r. Q r.0 r.2) (releases size arrivals drained)
  every-release Q size arrivals drained q =
      every-in_order Q (released size arrivals drained) (every-drop (λ a. Q a.stamp a.item) (number_held size arrivals drained) (accepted size arrivals) (every-accepted (λ a. Q a.stamp a.item) size arrivals q))
