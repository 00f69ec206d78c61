-- What arrivals at a window, and draining it, make of its releases.
use Rattle.std.proofs.Common.{◌≡◌, ◌≢◌, ℕ, suc, zero, ◌+◌, ◌-◌, ◌≤◌, min, ◌&&◌, ◌==◌, not, Bool, true, false, cond, List, [], ◌∷◌, ◌++◌, length, take, drop, Option, Some, None, Result, Err, is_none, refl, sym, ap, ◌∙◌, subst, arith, length-append, length-drop, append_assoc}
use Rattle.std.proofs.lemmas.List.{append-nil, length-take-le, nil_from_length}
use Rattle.std.proofs.Math.Seq.{drop-append_seam}
use Rattle.std.specs.List.{AllByRecursion}
use Rattle.vrt_time.specs.Time.{TimeStamp, moment_of}
use Rattle.reorder_window.specs.declared.entry.Entry.{Entry}
use Rattle.reorder_window.specs.declared.arrival.Arrival.{Arrival}
use Rattle.reorder_window.specs.declared.arrival.Arrival.TheVariants as arrival
use Rattle.reorder_window.specs.State.{Holding, StandsFor, last_of}
use Rattle.reorder_window.specs.Window.{AreFalling, boundary, is_late, twin, is_accepted, in_place, accepted, number_held, held, released, answer_accepted, answer_above, answer_by, answer, release, in_order, releases}
use Rattle.reorder_window.proofs.OrderLemmas.{length-in_place}
use Rattle.reorder_window.proofs.WindowLemmas.{accepted-more}
use Rattle.sample_binder.specs.declared.arrive.Turned.{Turned}
use Rattle.sample_binder.specs.declared.arrive.Turned.TheVariants as turned
use Rattle.sample_binder.specs.Calls.{behind, all_releases, outcome}

off : (late : Bool) (none : Bool) → none ≡ false → (not late && none) ≡ false
off true none e = refl
off false none e = e

pub behind-append : {X : Type 0} (xs ys : List X) → behind xs (xs ++ ys) ≡ ys
behind-append xs ys = drop-append_seam xs ys

some_last : {X : Type 0} (xs : List X) (x : X) → xs ++ x ∷ [] ≢ []
some_last [] x e = absurd (cc)
some_last (y ∷ xs) x e = absurd (cc)

-- the last of a list, and those before it
pub one_last : {X : Type 0} (xs ys : List X) (x y : X) → xs ++ x ∷ [] ≡ ys ++ y ∷ [] → (xs ≡ ys) × (x ≡ y)
one_last [] [] x y e = (refl, (cc))
one_last [] (z ∷ ys) x y e = let none : ys ++ y ∷ [] ≡ [] = cc in absurd (some_last ys y none)
one_last (z ∷ xs) [] x y e = let none : xs ++ x ∷ [] ≡ [] = cc in absurd (some_last xs x none)
one_last (z ∷ xs) (w ∷ ys) x y e =
    let head : z ≡ w = cc in
    let tail : xs ++ x ∷ [] ≡ ys ++ y ∷ [] = cc in
    let h = one_last xs ys x y tail in
    let same : z ∷ xs ≡ w ∷ ys = cc (head, h.0) in
    (same, h.1)

err_is : {R E : Type 0} (x y : E) → ◌≡◌ {A = Result R E} (Err x) (Err y) → x ≡ y
err_is x y e = cc

module _ {T : Type 0} where
  -- an arrival that is turned away
  abbrev pub IsTurned : Arrival T → Type 0
  IsTurned arrival.Kept = ⊥
  IsTurned (arrival.Released stamp lost item) = ⊥
  IsTurned (arrival.Late stamp item) = Unit {0}
  IsTurned (arrival.Repeat item) = Unit {0}
  IsTurned (arrival.Conflict count item) = Unit {0}

  abbrev same_stamp : Entry T → Entry T → Bool
  same_stamp a b = moment_of b.stamp == moment_of a.stamp

  found_first : (b : Bool) (x y : Entry T) (rest whole : Option (Entry T)) → cond b (Some x) rest ≡ Some y → (rest ≡ Some y → is_none whole ≡ false) → is_none (cond b (Some x) whole) ≡ false
  found_first true x y rest whole e h = refl
  found_first false x y rest whole e h = h e

  -- one that is found among the first is there
  twin_there : (a b : Entry T) (n : ℕ) (xs : List (Entry T)) → twin a (take n xs) ≡ Some b → is_none (twin a xs) ≡ false
  twin_there a b zero xs e = absurd (cc)
  twin_there a b (suc n) [] e = absurd (cc)
  twin_there a b (suc n) (x ∷ xs) e = found_first (same_stamp a x) x b (twin a (take n xs)) (twin a xs) e (λ f. twin_there a b n xs f)

  accepted_turns : (released : List (Entry T)) → IsTurned (answer_accepted released) → ⊥
  accepted_turns [] h = h
  accepted_turns (x ∷ xs) h = h

  above_turned : (same : T → T → Bool) (a : Entry T) (o : Option (Entry T)) (after : List (Entry T)) → IsTurned (answer_above same a o after) → (b : Entry T) × (o ≡ Some b)
  above_turned same a None after h = absurd (accepted_turns after h)
  above_turned same a (Some b) after h = (b, refl)

  by_turned : (same : T → T → Bool) (a : Entry T) (late : Bool) (stamp : TimeStamp) (o : Option (Entry T)) (after : List (Entry T)) (none : Bool)
      → IsTurned (cond late (arrival.Late stamp a.item) (answer_above same a o after)) → ((b : Entry T) → o ≡ Some b → none ≡ false) → (not late && none) ≡ false
  by_turned same a true stamp o after none h f = refl
  by_turned same a false stamp o after none h f = let t = above_turned same a o after h in f t.0 t.1

  by_answer : (same : T → T → Bool) (a : Entry T) (limit : Option TimeStamp) (o : Option (Entry T)) (after : List (Entry T)) (none : Bool)
      → IsTurned (answer_by same a limit o after) → ((b : Entry T) → o ≡ Some b → none ≡ false) → (not (is_late limit a) && none) ≡ false
  by_answer same a None o after none h f = let t = above_turned same a o after h in f t.0 t.1
  by_answer same a (Some stamp) o after none h f = by_turned same a (is_late (Some stamp) a) stamp o after none h f

  -- it is not accepted
  pub not_accepted : (same : T → T → Bool) (size : ℕ) (arrivals : List (Entry T)) (a : Entry T) → IsTurned (answer same size arrivals a) → accepted size (arrivals ++ a ∷ []) ≡ accepted size arrivals
  not_accepted same size arrivals a h =
      let xs = accepted size arrivals in
      let no = by_answer same a (boundary size xs) (twin a (held size arrivals 0)) (released size (arrivals ++ a ∷ []) 0) (is_none (twin a xs)) h
      (λ b e. twin_there a b (number_held size arrivals 0) xs e) in
      accepted-more size arrivals a ∙ ap (λ b. cond b (in_place a xs) xs) no

  same_holding : (a b : Holding T) → a.size ≡ b.size → a.held ≡ b.held → a.last ≡ b.last → a ≡ b
  same_holding a b e f g = grind arith

  -- and the window keeps what it kept
  pub same_window : (same : T → T → Bool) (old new : Holding T) (arrivals : List (Entry T)) (a : Entry T) (given : Arrival T) → StandsFor old arrivals 0 → StandsFor new (arrivals ++ a ∷ []) 0
      → new.size ≡ old.size → given ≡ answer same old.size arrivals a → IsTurned given → new ≡ old
  same_window same old new arrivals a given s t size e h =
      let all = not_accepted same old.size arrivals a (subst IsTurned e h) in
      same_holding new old size
      (t.held ∙ ap (λ n. held n (arrivals ++ a ∷ []) 0) size ∙ ap (λ (xs : List (Entry T)). take (min old.size (length xs) - 0) xs) all ∙ sym s.held)
      (t.last ∙ ap (λ n. last_of (released n (arrivals ++ a ∷ []) 0)) size ∙ ap (λ (xs : List (Entry T)). last_of (drop (min old.size (length xs) - 0) xs)) all ∙ sym s.last)

  -- ---- releases

  -- what has not been released yet comes behind what has
  extra : (k : ℕ) (xs : List (Entry T)) → (more : List (TimeStamp × ℕ × T)) × (in_order xs ≡ in_order (drop k xs) ++ more)
  extra zero xs = ([], sym (append-nil (in_order xs)))
  extra (suc k) [] = ([], refl)
  extra (suc k) (x ∷ xs) =
      let e = extra k xs in
      (e.0 ++ release x xs ∷ [], ap (λ rs. rs ++ release x xs ∷ []) e.1 ∙ append_assoc (in_order (drop k xs)) e.0 (release x xs ∷ []))

  pub all_split : (size : ℕ) (arrivals : List (Entry T)) (drained : ℕ)
      → all_releases size arrivals ≡ releases size arrivals drained ++ behind (releases size arrivals drained) (all_releases size arrivals)
  all_split size arrivals drained =
      let e = extra (number_held size arrivals drained) (accepted size arrivals) in
      let given = releases size arrivals drained in
      e.1 ∙ ap (λ rs. given ++ rs) (sym (ap (behind given) e.1 ∙ drop-append_seam given e.0))

  -- one that is drained is the first of those that are left
  pub drained_first : (size : ℕ) (arrivals : List (Entry T)) (drained : ℕ) (given : TimeStamp × ℕ × T) → releases size arrivals (drained + 1) ≡ releases size arrivals drained ++ given ∷ []
      → behind (releases size arrivals drained) (all_releases size arrivals) ≡ given ∷ behind (releases size arrivals (drained + 1)) (all_releases size arrivals)
  drained_first size arrivals drained given e =
      let before = releases size arrivals drained in
      let left = behind (releases size arrivals (drained + 1)) (all_releases size arrivals) in
      let whole : all_releases size arrivals ≡ before ++ given ∷ left =
      all_split size arrivals (drained + 1) ∙ ap (λ rs. rs ++ left) e ∙ append_assoc before (given ∷ []) left in
      ap (behind before) whole ∙ drop-append_seam before (given ∷ left)

  held_none : (size drained : ℕ) (xs : List (Entry T)) → take (min size (length xs) - drained) xs ≡ [] → min size (length xs) - drained ≡ 0
  held_none size drained xs e = omega (arith, ap length e, length-take-le (min size (length xs) - drained) xs (omega arith))

  -- where none is held, all were released
  pub none_left : (size : ℕ) (arrivals : List (Entry T)) (drained : ℕ) → held size arrivals drained ≡ [] → behind (releases size arrivals drained) (all_releases size arrivals) ≡ []
  none_left size arrivals drained e =
      let none = held_none size drained (accepted size arrivals) e in
      let same : releases size arrivals drained ≡ all_releases size arrivals = ap (λ n. in_order (drop n (accepted size arrivals))) none in
      ap (λ rs. behind rs (all_releases size arrivals)) same ∙ nil_from_length (behind (all_releases size arrivals) (all_releases size arrivals)) (omega (arith, length-drop (length (all_releases size arrivals)) (all_releases size arrivals)))

  -- the release that comes last is that of the first of the released
  pub newest : (xs : List (Entry T)) (before : List (TimeStamp × ℕ × T)) (given : TimeStamp × ℕ × T) → in_order xs ≡ before ++ given ∷ []
      → (x : Entry T) × (rest : List (Entry T)) × (xs ≡ x ∷ rest) × (in_order rest ≡ before) × (release x rest ≡ given)
  newest [] before given e = absurd (some_last before given (sym e))
  newest (x ∷ rest) before given e =
      let h = one_last (in_order rest) before (release x rest) given e in
      (x, rest, refl, h.0, h.1)

  pub falling-drop : (n : ℕ) (xs : List (Entry T)) → AreFalling xs → AreFalling (drop n xs)
  falling-drop zero xs h = h
  falling-drop (suc n) [] h = h
  falling-drop (suc n) (x ∷ xs) h = falling-drop n xs h.1

  pub each-drop : (P : Entry T → Type 0) (n : ℕ) (xs : List (Entry T)) → AllByRecursion P xs → AllByRecursion P (drop n xs)
  each-drop P zero xs h = h
  each-drop P (suc n) [] h = h
  each-drop P (suc n) (x ∷ xs) h = each-drop P n xs h.1

  -- one more arrival makes one more accepted at most
  with_one : (a : Entry T) (xs : List (Entry T)) (b : Bool) → length (cond b (in_place a xs) xs) ≤ length xs + 1
  with_one a xs true = omega (arith, length-in_place a xs)
  with_one a xs false = omega arith

  pub accepted-one : (size : ℕ) (arrivals : List (Entry T)) (a : Entry T) → length (accepted size (arrivals ++ a ∷ [])) ≤ length (accepted size arrivals) + 1
  accepted-one size arrivals a =
      let xs = accepted size arrivals in
      omega (arith, ap length (accepted-more size arrivals a), with_one a xs (is_accepted size xs a))

  pub length-in_order : (xs : List (Entry T)) → length (in_order xs) ≡ length xs
  length-in_order [] = refl
  length-in_order (x ∷ xs) = omega (arith, length-append (in_order xs) (release x xs ∷ []), length-in_order xs)

  -- no more are released than were accepted
  pub releases-within : (size : ℕ) (arrivals : List (Entry T)) (drained : ℕ) → length (releases size arrivals drained) ≤ length (accepted size arrivals)
  releases-within size arrivals drained =
      let n = number_held size arrivals drained in
      omega (arith, length-in_order (drop n (accepted size arrivals)), length-drop n (accepted size arrivals))

  -- what is turned away is what arrived
  abbrev HandsBack : Entry T → Arrival T → Type 0
  HandsBack a arrival.Kept = Unit {0}
  HandsBack a (arrival.Released stamp lost item) = Unit {0}
  HandsBack a (arrival.Late stamp item) = item ≡ a.item
  HandsBack a (arrival.Repeat item) = item ≡ a.item
  HandsBack a (arrival.Conflict count item) = item ≡ a.item

  back_accepted : (a : Entry T) (after : List (Entry T)) → HandsBack a (answer_accepted after)
  back_accepted a [] = tt
  back_accepted a (x ∷ xs) = tt

  back_twin : (a b : Entry T) (t : Bool) → HandsBack a (cond t (arrival.Repeat a.item) (arrival.Conflict b.count a.item))
  back_twin a b true = refl
  back_twin a b false = refl

  back_above : (same : T → T → Bool) (a : Entry T) (o : Option (Entry T)) (after : List (Entry T)) → HandsBack a (answer_above same a o after)
  back_above same a None after = back_accepted a after
  back_above same a (Some b) after = back_twin a b (same b.item a.item)

  back_late : (same : T → T → Bool) (a : Entry T) (late : Bool) (stamp : TimeStamp) (o : Option (Entry T)) (after : List (Entry T)) → HandsBack a (cond late (arrival.Late stamp a.item) (answer_above same a o after))
  back_late same a true stamp o after = refl
  back_late same a false stamp o after = back_above same a o after

  back_by : (same : T → T → Bool) (a : Entry T) (limit : Option TimeStamp) (o : Option (Entry T)) (after : List (Entry T)) → HandsBack a (answer_by same a limit o after)
  back_by same a None o after = back_above same a o after
  back_by same a (Some stamp) o after = back_late same a (is_late (Some stamp) a) stamp o after

  back_outcome : (a : Entry T) (given : Arrival T) (e : Turned × T) → HandsBack a given → outcome given ≡ Err e → e.1 ≡ a.item
  back_outcome a arrival.Kept e h f = absurd (cc)
  back_outcome a (arrival.Released stamp lost item) e h f = absurd (cc)
  back_outcome a (arrival.Late stamp item) e h f = let same : (turned.Late stamp, item) ≡ e = err_is (turned.Late stamp, item) e f in sym (ap (λ (p : Turned × T). p.1) same) ∙ h
  back_outcome a (arrival.Repeat item) e h f = let same : (turned.Repeat, item) ≡ e = err_is (turned.Repeat, item) e f in sym (ap (λ (p : Turned × T). p.1) same) ∙ h
  back_outcome a (arrival.Conflict count item) e h f = let same : (turned.Conflict count, item) ≡ e = err_is (turned.Conflict count, item) e f in sym (ap (λ (p : Turned × T). p.1) same) ∙ h

  pub handed_back : (same : T → T → Bool) (size : ℕ) (arrivals : List (Entry T)) (a : Entry T) (e : Turned × T) → Err e ≡ outcome (answer same size arrivals a) → e.1 ≡ a.item
  handed_back same size arrivals a e f =
      let xs = accepted size arrivals in
      back_outcome a (answer same size arrivals a) e (back_by same a (boundary size xs) (twin a (held size arrivals 0)) (released size (arrivals ++ a ∷ []) 0)) (sym f)
