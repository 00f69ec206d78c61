-- A step of a window, against the whole list of arrivals.
use Rattle.std.proofs.Common.{◌≡◌, ℕ, ◌+◌, ◌-◌, ◌<◌, ◌≤◌, min, Bool, true, false, cond, not, ◌&&◌, nat_lt, List, [], ◌∷◌, ◌++◌, length, take, drop, fold, insert, Option, Some, None, is_none, IfSome, OnSome, rules, refl, sym, ap, subst, ◌∙◌, suc, zero, inl, inr, take-append-drop, length-append, length-take-le, arith}
use Rattle.std.proofs.lemmas.Grind.{common_steps}
use Rattle.std.proofs.lemmas.Bool.Decides.{leb_tells}
use Rattle.std.proofs.lemmas.List.{append-nil}
use Rattle.std.proofs.lemmas.List.Sums.{fold-append}
use Rattle.vrt_time.specs.Time.{TimeStamp, moment_of}
use Rattle.reorder_window.specs.declared.entry.Entry.{Entry}
use Rattle.reorder_window.specs.declared.entry.Last.{Last}
use Rattle.reorder_window.specs.declared.arrival.Arrival.{Arrival}
use Rattle.reorder_window.specs.declared.arrival.Arrival.TheVariants.{Released, Late, Repeat, Conflict}
use Rattle.reorder_window.specs.Window.{AreBelow, AreFalling, IsPutInto, is_accepted, first_stamp, boundary, is_late, twin, in_place, with_arrival, accepted, number_held, held, released, lost_before, answer_twin, answer_accepted, answer_above, answer_by, answer, release, in_order, releases, released_by}
use Rattle.reorder_window.specs.State.{Holding, last_of, StandsFor}
use Rattle.reorder_window.specs.Steps.{late_by, lost_after, found, IsRepeated, IsContradicted, IsFresh, IsGiven, IsKept, IsReleased}
use Rattle.reorder_window.proofs.OrderLemmas.{ltb-false, leb-true, in_place-falling, twin-found, twin-take, insert-in_place, in_place-take, length-in_place, ltb_tells}

module _ {T : Type 0} where
  pub accepted-more : (size : ℕ) (h : List (Entry T)) (a : Entry T) → accepted size (h ++ a ∷ []) ≡ with_arrival size (accepted size h) a
  unfolding accepted
  accepted-more size h a = fold-append (with_arrival size) [] h (a ∷ [])

  -- a new one in its place is put into the list
  put-in_place : (a : Entry T) (xs : List (Entry T)) → IsPutInto a xs (in_place a xs)
  put-in_place a [] = record { front = []; back = []; was = refl; becomes = refl }
  put-in_place a (b ∷ rest) =
      let p = put-in_place a rest in
      elim (nat_lt (moment_of b.stamp) (moment_of a.stamp)) as (λ v. IsPutInto a (b ∷ rest) (cond v (a ∷ b ∷ rest) (b ∷ in_place a rest))) [
        | true ↦ record { front = []; back = b ∷ rest; was = refl; becomes = refl }
        | false ↦ record { front = b ∷ p.front; back = p.back; was = ap (λ l. b ∷ l) p.was; becomes = ap (λ l. b ∷ l) p.becomes }
      ]

  pub accepted-put : (size : ℕ) (h : List (Entry T)) (a : Entry T) → is_accepted size (accepted size h) a ≡ true → IsPutInto a (accepted size h) (accepted size (h ++ a ∷ []))
  accepted-put size h a e =
      let now : accepted size (h ++ a ∷ []) ≡ in_place a (accepted size h) = accepted-more size h a ∙ rw e refl in
      subst (IsPutInto a (accepted size h)) (sym now) (put-in_place a (accepted size h))

  pub accepted-same : (size : ℕ) (h : List (Entry T)) (a : Entry T) → is_accepted size (accepted size h) a ≡ false → accepted size (h ++ a ∷ []) ≡ accepted size h
  accepted-same size h a e = accepted-more size h a ∙ rw e refl

  with_arrival-falling : (size : ℕ) (xs : List (Entry T)) (a : Entry T) → AreFalling xs → AreFalling (with_arrival size xs a)
  with_arrival-falling size xs a p = falls (is_late (boundary size xs) a) (twin a xs) refl
    where
      falls : (late : Bool) (other : Option (Entry T)) → other ≡ twin a xs → AreFalling (cond (not late && is_none other) (in_place a xs) xs)
      falls true other e = p
      falls false None e = in_place-falling a xs p (sym e)
      falls false (Some b) e = p

  fold-falling : (size : ℕ) (xs h : List (Entry T)) → AreFalling xs → AreFalling (fold (with_arrival size) xs h)
  fold-falling size xs [] p = p
  fold-falling size xs (a ∷ h) p = fold-falling size (with_arrival size xs a) h (with_arrival-falling size xs a p)

  pub accepted-falling : (size : ℕ) (h : List (Entry T)) → AreFalling (accepted size h)
  unfolding accepted
  accepted-falling size h = fold-falling size [] h tt

  pub take-held : (size : ℕ) (xs : List (Entry T)) → take (min size (length xs) - 0) xs ≡ take size xs
  take-held size xs = grind (arith, common_steps)

  pub drop-held : (size : ℕ) (xs : List (Entry T)) → drop (min size (length xs) - 0) xs ≡ drop size xs
  drop-held size xs = grind (arith, common_steps)

  -- what a window keeps, by the accepted
  pub keeps : (w : Holding T) (h : List (Entry T)) → StandsFor w h 0 → (w.held ≡ take w.size (accepted w.size h)) × (w.last ≡ last_of (drop w.size (accepted w.size h)))
  keeps w h s = (s.held ∙ take-held w.size (accepted w.size h), s.last ∙ ap last_of (drop-held w.size (accepted w.size h)))

  pub kept_for : (w : Holding T) (h : List (Entry T)) → w.held ≡ take w.size (accepted w.size h) → w.last ≡ last_of (drop w.size (accepted w.size h)) → StandsFor w h 0
  kept_for w h e l = record {
    held = e ∙ sym (take-held w.size (accepted w.size h));
    last = l ∙ ap last_of (sym (drop-held w.size (accepted w.size h)));
  }

  answer-is : (same : T → T → Bool) (size : ℕ) (h : List (Entry T)) (a : Entry T) → answer same size h a ≡ answer_by same a (boundary size (accepted size h)) (twin a (take size (accepted size h))) (drop size (accepted size (h ++ a ∷ [])))
  answer-is same size h a =
      ap (λ l. answer_by same a (boundary size (accepted size h)) (twin a l) (released size (h ++ a ∷ []) 0)) (take-held size (accepted size h))
      ∙ ap (λ l. answer_by same a (boundary size (accepted size h)) (twin a (take size (accepted size h))) l) (drop-held size (accepted size (h ++ a ∷ [])))

  releases-are : (size : ℕ) (h : List (Entry T)) → releases size h 0 ≡ in_order (drop size (accepted size h))
  releases-are size h = ap in_order (drop-held size (accepted size h))

  late-some : (q : List (Entry T)) (a : Entry T) (b : TimeStamp) → late_by (last_of q) a.stamp ≡ Some b → (first_stamp q ≡ Some b) × (is_late (Some b) a ≡ true)
  late-some [] a b e = cc
  late-some (x ∷ q) a b e =
      elim (ltb_tells (moment_of x.stamp) (moment_of a.stamp)) [
        | inl t ↦ let f : None ≡ Some b = sym (rw t.0 refl) ∙ e in cc
        | inr t ↦
            let f : Some x.stamp ≡ Some b = rw t.0 at e in
            let g : x.stamp ≡ b = cc in
            (f, rw (← g) (leb-true (moment_of a.stamp) (moment_of x.stamp) t.1))
      ]

  late-none : (q : List (Entry T)) (a : Entry T) → late_by (last_of q) a.stamp ≡ None → is_late (first_stamp q) a ≡ false
  late-none [] a e = refl
  late-none (x ∷ q) a e =
      elim (leb_tells (moment_of a.stamp) (moment_of x.stamp)) [
        | inl t ↦ let f : Some x.stamp ≡ None = sym (rw (ltb-false (moment_of x.stamp) (moment_of a.stamp) t.1) refl) ∙ e in cc
        | inr t ↦ t.0
      ]

  answer-not_late : (same : T → T → Bool) (a : Entry T) (limit : Option TimeStamp) (other : Option (Entry T)) (after : List (Entry T)) → is_late limit a ≡ false → answer_by same a limit other after ≡ answer_above same a other after
  answer-not_late same a None other after e = refl
  answer-not_late same a (Some b) other after e = rw e refl

  lost-is : (q : List (Entry T)) (least : Entry T) → lost_after (last_of q) least.count ≡ lost_before least q
  lost-is [] least = refl
  lost-is (x ∷ q) least = refl

  below-take : (m n : ℕ) (xs : List (Entry T)) → AreBelow m xs → AreBelow m (take n xs)
  below-take m zero xs p = tt
  below-take m (suc n) [] p = tt
  below-take m (suc n) (b ∷ xs) p = (p.0, below-take m n xs p.1)

  falling-take : (n : ℕ) (xs : List (Entry T)) → AreFalling xs → AreFalling (take n xs)
  falling-take zero xs p = tt
  falling-take (suc n) [] p = tt
  falling-take (suc n) (b ∷ xs) p = (below-take (moment_of b.stamp) n xs p.0, falling-take n xs p.1)

  take-after : (after rest : List (Entry T)) (least : Entry T) → take (length after) ((after ++ least ∷ []) ++ rest) ≡ after
  take-after [] rest least = refl
  take-after (x ∷ after) rest least = ap (λ l. x ∷ l) (take-after after rest least)

  drop-after : (after rest : List (Entry T)) (least : Entry T) → drop (length after) ((after ++ least ∷ []) ++ rest) ≡ least ∷ rest
  drop-after [] rest least = refl
  drop-after (x ∷ after) rest least = drop-after after rest least

  -- the last of the greatest is the first of the rest, with one fewer of the greatest
  split-last : (n : ℕ) (xs after rest : List (Entry T)) (least : Entry T) → xs ≡ (after ++ least ∷ []) ++ rest → length after ≡ n → (take n xs ≡ after) × (drop n xs ≡ least ∷ rest)
  split-last n xs after rest least e l = rw (e, ← l) (take-after after rest least, drop-after after rest least)

-- an arrival was taken as it is defined
pub record IsDefined {T : Type 0} (same : T → T → Bool) (old new : Holding T) (h : List (Entry T)) (a : Entry T) (given : Arrival T) : Type 0 where
  pub stands : StandsFor new (h ++ a ∷ []) 0
  pub answers : given ≡ answer same old.size h a
  pub gains : releases old.size (h ++ a ∷ []) 0 ≡ releases old.size h 0 ++ released_by given

module _ {T : Type 0} where
  -- one that is not accepted
  unchanged : (same : T → T → Bool) (w : Holding T) (h : List (Entry T)) (a : Entry T) (given : Arrival T) → StandsFor w h 0 → accepted w.size (h ++ a ∷ []) ≡ accepted w.size h → given ≡ answer same w.size h a → released_by given ≡ [] → IsDefined same w w h a given
  unchanged same w h a given s e g n = record {
    stands = kept_for w (h ++ a ∷ []) (rw e (keeps w h s).0) (rw e (keeps w h s).1);
    answers = g;
    gains = releases-are w.size (h ++ a ∷ []) ∙ ap (λ l. in_order (drop w.size l)) e ∙ sym (releases-are w.size h) ∙ sym (append-nil (releases w.size h 0)) ∙ ap (λ l. releases w.size h 0 ++ l) (sym n);
  }

  late-more : (size : ℕ) (h : List (Entry T)) (a : Entry T) → is_late (boundary size (accepted size h)) a ≡ true → accepted size (h ++ a ∷ []) ≡ accepted size h
  late-more size h a e = accepted-more size h a ∙ rw e refl

  pub late-defined : (same : T → T → Bool) (w : Holding T) (h : List (Entry T)) (a : Entry T) (b : TimeStamp) → StandsFor w h 0 → late_by w.last a.stamp ≡ Some b → IsDefined same w w h a (Late b a.item)
  late-defined same w h a b s e =
      let k = keeps w h s in
      let f : late_by (last_of (drop w.size (accepted w.size h))) a.stamp ≡ Some b = rw k.1 at e in
      let l = late-some (drop w.size (accepted w.size h)) a b f in
      let m : is_late (boundary w.size (accepted w.size h)) a ≡ true = rw l.0 l.1 in
      unchanged same w h a (Late b a.item) s (late-more w.size h a m)
      (sym (answer-is same w.size h a ∙ ap (λ o. answer_by same a o (twin a (take w.size (accepted w.size h))) (drop w.size (accepted w.size (h ++ a ∷ [])))) l.0 ∙ late-answer same a b _ _ l.1))
      refl
    where
      late-answer : (same : T → T → Bool) (a : Entry T) (b : TimeStamp) (other : Option (Entry T)) (after : List (Entry T)) → is_late (Some b) a ≡ true → answer_by same a (Some b) other after ≡ Late b a.item
      late-answer same a b other after e = rw e refl

  -- an arrival above the boundary
  above : (w : Holding T) (h : List (Entry T)) (a : Entry T) → StandsFor w h 0 → late_by w.last a.stamp ≡ None → is_late (boundary w.size (accepted w.size h)) a ≡ false
  above w h a s e =
      let f : late_by (last_of (drop w.size (accepted w.size h))) a.stamp ≡ None = rw (keeps w h s).1 at e in
      late-none (drop w.size (accepted w.size h)) a f

  -- and the held one of its stamp
  beside : (w : Holding T) (h : List (Entry T)) (a : Entry T) → StandsFor w h 0 → found a.stamp w.held ≡ twin a (take w.size (accepted w.size h))
  beside w h a s =
      ap (found a.stamp) (keeps w h s).0 ∙ twin-found a (take w.size (accepted w.size h)) (falling-take w.size (accepted w.size h) (accepted-falling w.size h))

  twin-more : (size : ℕ) (h : List (Entry T)) (a b : Entry T) → twin a (accepted size h) ≡ Some b → is_late (boundary size (accepted size h)) a ≡ false → accepted size (h ++ a ∷ []) ≡ accepted size h
  twin-more size h a b e l = accepted-more size h a ∙ rw (l, e) refl

  twin-answer : (same : T → T → Bool) (w : Holding T) (h : List (Entry T)) (a b : Entry T) → StandsFor w h 0 → late_by w.last a.stamp ≡ None → found a.stamp w.held ≡ Some b → (accepted w.size (h ++ a ∷ []) ≡ accepted w.size h) × (answer same w.size h a ≡ answer_twin same a b)
  twin-answer same w h a b s l f =
      let n = above w h a s l in
      let t : twin a (take w.size (accepted w.size h)) ≡ Some b = sym (beside w h a s) ∙ f in
      let u : twin a (accepted w.size h) ≡ Some b = sym (twin-take w.size a (accepted w.size h) (accepted-falling w.size h) n) ∙ t in
      (twin-more w.size h a b u n, answer-is same w.size h a ∙ answer-not_late same a _ _ _ n ∙ ap (λ o. answer_above same a o (drop w.size (accepted w.size (h ++ a ∷ [])))) t)

  pub repeat-defined : (same : T → T → Bool) (w : Holding T) (h : List (Entry T)) (a : Entry T) → StandsFor w h 0 → IsRepeated same w.held w.last a.stamp a.item → IsDefined same w w h a (Repeat a.item)
  repeat-defined same w h a s r =
      let t = twin-answer same w h a r.twin s r.above r.is_found in
      unchanged same w h a (Repeat a.item) s t.0 (sym (t.1 ∙ rw r.test refl)) refl

  pub conflict-defined : (same : T → T → Bool) (w : Holding T) (h : List (Entry T)) (a : Entry T) (count : ℕ) → StandsFor w h 0 → IsContradicted same w.held w.last a.stamp a.item count → IsDefined same w w h a (Conflict count a.item)
  conflict-defined same w h a count s r =
      let t = twin-answer same w h a r.twin s r.above r.is_found in
      unchanged same w h a (Conflict count a.item) s t.0 (sym (t.1 ∙ rw (r.test, r.is_count) refl)) refl

  -- the accepted with a new one, which is above the boundary and has no twin
  fresh-more : (size : ℕ) (h : List (Entry T)) (a : Entry T) → is_late (boundary size (accepted size h)) a ≡ false → twin a (accepted size h) ≡ None → accepted size (h ++ a ∷ []) ≡ in_place a (take size (accepted size h)) ++ drop size (accepted size h)
  fresh-more size h a l t = accepted-more size h a ∙ rw (l, t) (in_place-take size a (accepted size h) l)

  pub fresh-answer : (same : T → T → Bool) (size : ℕ) (h : List (Entry T)) (a : Entry T) → is_late (boundary size (accepted size h)) a ≡ false → twin a (take size (accepted size h)) ≡ None → answer same size h a ≡ answer_accepted (drop size (accepted size (h ++ a ∷ [])))
  fresh-answer same size h a n t =
      answer-is same size h a ∙ answer-not_late same a _ _ _ n ∙ ap (λ o. answer_above same a o (drop size (accepted size (h ++ a ∷ [])))) t

  -- where fewer are held than may be, all are
  all-held : (size : ℕ) (xs : List (Entry T)) → length (take size xs) < size → drop size xs ≡ []
  all-held zero xs l = absurd (omega arith)
  all-held (suc n) [] l = refl
  all-held (suc n) (x ∷ xs) l = all-held n xs (omega arith)

  take-most : (n : ℕ) (xs : List (Entry T)) → length (take n xs) ≤ n
  take-most zero xs = omega arith
  take-most (suc n) [] = omega arith
  take-most (suc n) (x ∷ xs) = omega (arith, take-most n xs)

  take-fits : (size : ℕ) (xs : List (Entry T)) → length xs ≤ size → (take size xs ≡ xs) × (drop size xs ≡ [])
  take-fits zero [] l = (refl, refl)
  take-fits zero (x ∷ xs) l = absurd (omega arith)
  take-fits (suc n) [] l = (refl, refl)
  take-fits (suc n) (x ∷ xs) l = let r = take-fits n xs (omega arith) in (ap (λ l. x ∷ l) r.0, r.1)

  -- what is known of an arrival that is accepted
  among-is : (w : Holding T) (h : List (Entry T)) (a : Entry T) (place : ℕ) → StandsFor w h 0 → IsFresh w.held w.last a.stamp place → insert w.held place a ≡ in_place a (take w.size (accepted w.size h))
  among-is w h a place s r =
      let t : twin a (take w.size (accepted w.size h)) ≡ None = sym (beside w h a s) ∙ r.alone in
      rw (r.at_place, (keeps w h s).0) (insert-in_place a (take w.size (accepted w.size h)) t)

  pub kept-defined : (same : T → T → Bool) (w new : Holding T) (h : List (Entry T)) (a : Entry T) (place : ℕ) (given : Arrival T) → StandsFor w h 0 → IsFresh w.held w.last a.stamp place → new.size ≡ w.size → length w.held < w.size → IsKept (insert w.held place a) w.last new.held new.last given → IsDefined same w new h a given
  kept-defined same w new h a place given s r z l k =
      let n = above w h a s r.above in
      let t : twin a (take w.size (accepted w.size h)) ≡ None = sym (beside w h a s) ∙ r.alone in
      let u : twin a (accepted w.size h) ≡ None = sym (twin-take w.size a (accepted w.size h) (accepted-falling w.size h) n) ∙ t in
      let few : length (take w.size (accepted w.size h)) < w.size = rw (keeps w h s).0 at l in
      let none : drop w.size (accepted w.size h) ≡ [] = all-held w.size (accepted w.size h) few in
      let p : List (Entry T) = in_place a (take w.size (accepted w.size h)) in
      let m : accepted w.size (h ++ a ∷ []) ≡ p = fresh-more w.size h a n u ∙ ap (λ l. p ++ l) none ∙ append-nil p in
      let size : length p ≤ w.size = omega (arith, few, length-in_place a (take w.size (accepted w.size h))) in
      let parts = take-fits w.size p size in
      let rest : drop w.size (accepted w.size (h ++ a ∷ [])) ≡ [] = rw m parts.1 in
      let front : take new.size (accepted new.size (h ++ a ∷ [])) ≡ p = rw (z, m) parts.0 in
      let back : drop new.size (accepted new.size (h ++ a ∷ [])) ≡ [] = rw (z, m) parts.1 in
      record {
        stands = kept_for new (h ++ a ∷ [])
            (k.same_held ∙ among-is w h a place s r ∙ sym front)
            (k.same_last ∙ (keeps w h s).1 ∙ ap last_of (none ∙ sym back));
        answers = k.kept ∙ sym (fresh-answer same w.size h a n t ∙ ap answer_accepted rest);
        gains = releases-are w.size (h ++ a ∷ []) ∙ ap in_order rest ∙ sym (rw (releases-are w.size h, none, k.kept) refl);
      }

  pub released-defined : (same : T → T → Bool) (w new : Holding T) (h : List (Entry T)) (a : Entry T) (place : ℕ) (given : Arrival T) → StandsFor w h 0 → IsFresh w.held w.last a.stamp place → new.size ≡ w.size → w.size ≤ length w.held → IsReleased (insert w.held place a) w.last new.held new.last given → IsDefined same w new h a given
  released-defined same w new h a place given s r z l k =
      let n = above w h a s r.above in
      let t : twin a (take w.size (accepted w.size h)) ≡ None = sym (beside w h a s) ∙ r.alone in
      let u : twin a (accepted w.size h) ≡ None = sym (twin-take w.size a (accepted w.size h) (accepted-falling w.size h) n) ∙ t in
      let many : w.size ≤ length (take w.size (accepted w.size h)) = rw (keeps w h s).0 at l in
      let q : List (Entry T) = drop w.size (accepted w.size h) in
      let g = k.is_given in
      let among : in_place a (take w.size (accepted w.size h)) ≡ new.held ++ g.least ∷ [] = sym (among-is w h a place s r) ∙ g.taken in
      let m : accepted w.size (h ++ a ∷ []) ≡ (new.held ++ g.least ∷ []) ++ q = fresh-more w.size h a n u ∙ ap (λ l. l ++ q) among in
      let size : length new.held ≡ w.size = omega (arith, many, take-most w.size (accepted w.size h), length-in_place a (take w.size (accepted w.size h)), ap length among, length-append new.held (g.least ∷ [])) in
      let parts = split-last w.size (accepted w.size (h ++ a ∷ [])) new.held q g.least m size in
      let lost : lost_after w.last g.least.count ≡ lost_before g.least q = ap (λ o. lost_after o g.least.count) (keeps w h s).1 ∙ lost-is q g.least in
      let told : given ≡ Released g.least.stamp (lost_before g.least q) g.least.item = k.released ∙ rw (g.is_given, lost) refl in
      let front : take new.size (accepted new.size (h ++ a ∷ [])) ≡ new.held = rw z parts.0 in
      let back : drop new.size (accepted new.size (h ++ a ∷ [])) ≡ g.least ∷ q = rw z parts.1 in
      record {
        stands = kept_for new (h ++ a ∷ []) (sym front) (g.last ∙ ap last_of (sym back));
        answers = told ∙ sym (fresh-answer same w.size h a n t ∙ ap answer_accepted parts.1);
        gains = releases-are w.size (h ++ a ∷ []) ∙ ap in_order parts.1 ∙ sym (rw (releases-are w.size h, told) refl);
      }

  -- the least of the held leaves as it is defined
  pub drained-defined : (w new : Holding T) (h : List (Entry T)) (k : ℕ) (given : TimeStamp × ℕ × T) → StandsFor w h k → new.size ≡ w.size → IsGiven w.held w.last new.held new.last given → StandsFor new h (k + 1) × (releases w.size h (k + 1) ≡ releases w.size h k ++ given ∷ [])
  drained-defined w new h k given s z g =
      let n : ℕ = number_held w.size h k in
      let d : List (Entry T) = accepted w.size h in
      let q : List (Entry T) = drop n d in
      let front : take n d ≡ new.held ++ g.least ∷ [] = sym s.held ∙ g.taken in
      let whole : d ≡ (new.held ++ g.least ∷ []) ++ q = sym (take-append-drop n d) ∙ ap (λ l. l ++ q) front in
      let fits : n ≤ length d = omega arith in
      let size : length new.held ≡ number_held w.size h (k + 1) = omega (arith, ap length front, length-take-le n d fits, length-append new.held (g.least ∷ [])) in
      let parts = split-last (number_held w.size h (k + 1)) d new.held q g.least whole size in
      let lost : lost_after w.last g.least.count ≡ lost_before g.least q = ap (λ o. lost_after o g.least.count) s.last ∙ lost-is q g.least in
      let ahead : held new.size h (k + 1) ≡ new.held = rw z parts.0 in
      let behind : released new.size h (k + 1) ≡ g.least ∷ q = rw z parts.1 in
      let told : given ≡ release g.least q = g.is_given ∙ ap (λ l. (g.least.stamp, l, g.least.item)) lost in
      (record { held = sym ahead; last = g.last ∙ ap last_of (sym behind) }, ap in_order parts.1 ∙ ap (λ r. in_order q ++ r ∷ []) (sym told))

  -- one that is accepted
  pub fresh-defined : (same : T → T → Bool) (w : Holding T) (h : List (Entry T)) (a : Entry T) (place : ℕ) (after : List (Entry T)) (now : Option Last) (given : Arrival T) (len : ℕ) → length w.held ≡ len → StandsFor w h 0 → IsFresh w.held w.last a.stamp place → (len < w.size → IsKept (insert w.held place a) w.last after now given) → (w.size ≤ len → IsReleased (insert w.held place a) w.last after now given) → IsDefined same w (record { size = w.size; held = after; last = now }) h a given
  fresh-defined same w h a place after now given len e s r kept released =
      let new : Holding T = record { size = w.size; held = after; last = now } in
      elim (leb_tells w.size len) [
        | inl t ↦ released-defined same w new h a place given s r refl (omega (arith, t.1, e)) (released t.1)
        | inr t ↦ kept-defined same w new h a place given s r refl (omega (arith, t.1, e)) (kept t.1)
      ]

  -- the same of a call that may give nothing
  pub drained-given : (w : Holding T) (h : List (Entry T)) (k : ℕ) (after : List (Entry T)) (now : Option Last) (given : Option (TimeStamp × ℕ × T)) → StandsFor w h k → IfSome given (IsGiven w.held w.last after now) → IfSome given (λ r. releases w.size h (k + 1) ≡ releases w.size h k ++ r ∷ [])
  drained-given w h k after now None s g = search rules
  drained-given w h k after now (Some r) s g = (drained-defined w (record { size = w.size; held = after; last = now }) h k r s refl g).1

  pub drained-stands : (w : Holding T) (h : List (Entry T)) (k : ℕ) (after : List (Entry T)) (now : Option Last) (given : Option (TimeStamp × ℕ × T)) → StandsFor w h k → IfSome given (IsGiven w.held w.last after now) → OnSome given (StandsFor (record { size = w.size; held = after; last = now }) h (k + 1))
  drained-stands w h k after now None s g = search rules
  drained-stands w h k after now (Some r) s g = (drained-defined w (record { size = w.size; held = after; last = now }) h k r s refl g).0

  pub accepted-none : (size : ℕ) → accepted {T = T} size [] ≡ []
  unfolding accepted
  accepted-none size = refl

  take-none : (n : ℕ) → (take {A = Entry T} n [] ≡ []) × (drop {A = Entry T} n [] ≡ [])
  take-none zero = (refl, refl)
  take-none (suc n) = (refl, refl)

  -- an opened window has had no arrivals
  pub opened : (w : Holding T) → w.held ≡ [] → w.last ≡ None → StandsFor w [] 0
  opened w e l =
      let none : accepted w.size [] ≡ [] = accepted-none w.size in
      kept_for w [] (e ∙ sym (rw none (take-none w.size).0)) (l ∙ ap last_of (sym (drop-none w none)))
    where
      drop-none : (w : Holding T) → accepted {T = T} w.size [] ≡ [] → drop w.size (accepted {T = T} w.size []) ≡ []
      drop-none w none = rw none (take-none w.size).1
