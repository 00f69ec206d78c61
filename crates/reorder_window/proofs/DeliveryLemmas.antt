-- What a window accepts of a delivery, by the numbers of the sent packets.
use Rattle.std.proofs.Common.{◌≡◌, ℕ, ◌+◌, ◌-◌, ◌%◌, ◌<◌, ◌≤◌, ◌≢◌, Bool, true, false, cond, not, ◌&&◌, ◌||◌, eqb, nat_lt, if◌then◌else◌, List, [], ◌∷◌, ◌++◌, map, length, take, drop, None, is_none, refl, sym, ap, subst, ◌∙◌, suc, zero, ◌⊎◌, inl, inr, append_assoc, filter, min, arith}
use Rattle.std.specs.List.{range_with_len}
use Rattle.std.proofs.lemmas.Bool.Decides.{leb_tells, eqb_tells}
use Rattle.std.proofs.lemmas.List.{append-nil, map-append, drop-map, length-map}
use Rattle.std.proofs.lemmas.Bool.{false≢true}
use Rattle.std.proofs.lemmas.Grind.{common_steps}
use Rattle.vrt_time.specs.Time.{moment_of}
use Rattle.reorder_window.specs.declared.entry.Entry.{Entry}
use Rattle.reorder_window.specs.Window.{lost_between, first_stamp, boundary, is_late, twin, in_place, with_arrival, accepted, number_held, released, answer, answer_accepted}
use Rattle.reorder_window.specs.Delivery.{IsSent, occurs, IsDelivery, AreLess, AreDistances, NumbersFall, AreNumbersOf, IsTold}
use Rattle.reorder_window.proofs.OrderLemmas.{ltb-false, ltb-true, ltb_tells, twin-take}
use Rattle.reorder_window.proofs.WindowLemmas.{accepted-more, accepted-none, accepted-falling, drop-held, fresh-answer}

-- among numbers that fall: in front of the first lower one
abbrev pub number_place : ℕ → List ℕ → List ℕ
number_place k [] = k ∷ []
number_place k (j ∷ rest) = if nat_lt j k then k ∷ j ∷ rest else j ∷ number_place k rest

less-more : (m n : ℕ) (ns : List ℕ) → m ≤ n → AreLess m ns → AreLess n ns
less-more m n [] h p = tt
less-more m n (j ∷ ns) h p = (omega (arith, p.0), less-more m n ns h p.1)

number_place-less : (n k : ℕ) (ns : List ℕ) → k < n → AreLess n ns → AreLess n (number_place k ns)
number_place-less n k [] h p = (h, tt)
number_place-less n k (j ∷ ns) h p =
    let r = number_place-less n k ns h p.1 in
    elim (nat_lt j k) as (λ v. AreLess n (cond v (k ∷ j ∷ ns) (j ∷ number_place k ns))) [ true ↦ (h, p) | false ↦ (p.0, r) ]

-- whether a number is among these, by cases
occurs-cons : (k j : ℕ) (ns : List ℕ) → occurs k (j ∷ ns) ≡ true → (j ≡ k) ⊎ (occurs k ns ≡ true)
occurs-cons k j ns e = elim (eqb_tells j k) [ inl t ↦ inl t.1 | inr t ↦ inr (rw t.0 at e) ]

occurs-behind : (k j : ℕ) (ns : List ℕ) → occurs k ns ≡ true → occurs k (j ∷ ns) ≡ true
occurs-behind k j ns e = elim (eqb j k) as (λ v. (v || occurs k ns) ≡ true) [ true ↦ refl | false ↦ e ]

occurs-here : (k : ℕ) (ns : List ℕ) → occurs k (k ∷ ns) ≡ true
occurs-here k ns = elim (eqb_tells k k) [ inl t ↦ rw t.0 refl | inr t ↦ absurd (t.1 refl) ]

-- not among these: neither the first nor among the rest
absent-cons : (k j : ℕ) (ns : List ℕ) → occurs k (j ∷ ns) ≡ false → (j ≢ k) × (occurs k ns ≡ false)
absent-cons k j ns e =
    elim (eqb_tells j k) [
      | inl t ↦ let f : true ≡ false = sym (rw t.0 refl) ∙ e in cc
      | inr t ↦ (t.1, rw t.0 at e)
    ]

occurs-append_left : (k : ℕ) (xs ys : List ℕ) → occurs k xs ≡ true → occurs k (xs ++ ys) ≡ true
occurs-append_left k [] ys e = cc
occurs-append_left k (x ∷ xs) ys e =
    elim (eqb_tells x k) [ inl t ↦ rw t.0 refl | inr t ↦ rw t.0 (occurs-append_left k xs ys (rw t.0 at e)) ]

occurs-append_right : (k : ℕ) (xs ys : List ℕ) → occurs k ys ≡ true → occurs k (xs ++ ys) ≡ true
occurs-append_right k [] ys e = e
occurs-append_right k (x ∷ xs) ys e = occurs-behind k x (xs ++ ys) (occurs-append_right k xs ys e)

occurs-append : (k : ℕ) (xs ys : List ℕ) → occurs k (xs ++ ys) ≡ true → (occurs k xs ≡ true) ⊎ (occurs k ys ≡ true)
occurs-append k [] ys e = inr e
occurs-append k (x ∷ xs) ys e =
    elim (eqb_tells x k) [
      | inl t ↦ inl (rw t.0 refl)
      | inr t ↦ elim (occurs-append k xs ys (rw t.0 at e)) [ inl u ↦ inl (occurs-behind k x xs u) | inr u ↦ inr u ]
    ]

occurs-drop : (k n : ℕ) (ns : List ℕ) → occurs k (drop n ns) ≡ true → occurs k ns ≡ true
occurs-drop k zero ns e = e
occurs-drop k (suc n) [] e = e
occurs-drop k (suc n) (j ∷ ns) e = occurs-behind k j ns (occurs-drop k n ns e)

occurs-place : (m k : ℕ) (ns : List ℕ) → occurs m (number_place k ns) ≡ true → (k ≡ m) ⊎ (occurs m ns ≡ true)
occurs-place m k [] e = occurs-cons m k [] e
occurs-place m k (j ∷ ns) e =
    elim (ltb_tells j k) [
      | inl t ↦ occurs-cons m k (j ∷ ns) (rw t.0 at e)
      | inr t ↦ elim (occurs-cons m j (number_place k ns) (rw t.0 at e)) [
        | inl u ↦ inr (rw u (occurs-here m ns))
        | inr u ↦ elim (occurs-place m k ns u) [ inl v ↦ inl v | inr v ↦ inr (occurs-behind m j ns v) ]
      ]
    ]

place-occurs : (m k : ℕ) (ns : List ℕ) → occurs m (k ∷ ns) ≡ true → occurs m (number_place k ns) ≡ true
place-occurs m k [] e = e
place-occurs m k (j ∷ ns) e =
    elim (ltb_tells j k) [
      | inl t ↦ rw t.0 e
      | inr t ↦ rw t.0 (elim (occurs-cons m k (j ∷ ns) e) [
        | inl u ↦ occurs-behind m j (number_place k ns) (place-occurs m k ns (rw u (occurs-here m ns)))
        | inr u ↦ elim (occurs-cons m j ns u) [
          | inl v ↦ rw v (occurs-here m (number_place k ns))
          | inr v ↦ occurs-behind m j (number_place k ns) (place-occurs m k ns (occurs-behind m k ns v))
        ]
      ])
    ]

number_place-fall : (k : ℕ) (ns : List ℕ) → NumbersFall ns → occurs k ns ≡ false → NumbersFall (number_place k ns)
number_place-fall k [] p e = (tt, tt)
number_place-fall k (j ∷ ns) p e =
    let a = absent-cons k j ns e in
    elim (ltb_tells j k) [
      | inl t ↦ rw t.0 ((t.1, less-more j k ns (omega (arith, t.1)) p.0), p)
      | inr t ↦ rw t.0 (number_place-less j k ns (omega (arith, t.1, a.0)) p.0, number_place-fall k ns p.1 a.1)
    ]

-- what is behind so many that fall is lower by as much
deep : (size bound b : ℕ) (ns rest : List ℕ) → NumbersFall ns → AreLess (bound + 1) ns → drop size ns ≡ b ∷ rest → b + size ≤ bound
deep zero bound b [] rest p l e = cc
deep zero bound b (j ∷ ns) rest p l e = let f : j ≡ b = cc in omega (arith, l.0, f)
deep (suc n) bound b [] rest p l e = cc
deep (suc n) bound b (j ∷ ns) rest p l e =
    elim (zero_or_more j) [
      | inl z ↦ let q : AreLess 0 ns = subst (λ v. AreLess v ns) z p.0 in absurd (nothing_less n b ns rest q e)
      | inr z ↦ let q : AreLess (z.0 + 1) ns = subst (λ v. AreLess v ns) z.1 p.0 in omega (arith, deep n z.0 b ns rest p.1 q e, l.0, z.1)
    ]
  where
    zero_or_more : (j : ℕ) → (j ≡ 0) ⊎ ((i : ℕ) × (j ≡ i + 1))
    zero_or_more zero = inl refl
    zero_or_more (suc i) = inr (i, omega arith)

    nothing_less : (n b : ℕ) (ns rest : List ℕ) → AreLess 0 ns → drop n ns ≡ b ∷ rest → ⊥
    nothing_less zero b [] rest q e = cc
    nothing_less zero b (j ∷ ns) rest q e = omega (arith, q.0)
    nothing_less (suc n) b [] rest q e = cc
    nothing_less (suc n) b (j ∷ ns) rest q e = omega (arith, q.0)

module _ {T : Type 0} where
  -- stamps compare as numbers do
  not_above : (start total : ℕ) (packet : ℕ → Entry T) → IsSent start total packet → (j k : ℕ) → j ≤ k → k < total → moment_of (packet j).stamp ≤ moment_of (packet k).stamp
  not_above start total packet s j k h l =
      elim (eqb_tells j k) [
        | inl t ↦ rw t.1 (omega arith)
        | inr t ↦ omega (arith, s.rising j k (omega (arith, h, t.1)) l)
      ]

  test-less : (start total : ℕ) (packet : ℕ → Entry T) → IsSent start total packet → (j k : ℕ) → j < total → k < total → nat_lt (moment_of (packet j).stamp) (moment_of (packet k).stamp) ≡ nat_lt j k
  test-less start total packet s j k a b =
      elim (ltb_tells j k) [
        | inl t ↦ ltb-true (moment_of (packet j).stamp) (moment_of (packet k).stamp) (s.rising j k t.1 b) ∙ sym t.0
        | inr t ↦ ltb-false (moment_of (packet j).stamp) (moment_of (packet k).stamp) (not_above start total packet s k j t.1 a) ∙ sym t.0
      ]

  test-same : (start total : ℕ) (packet : ℕ → Entry T) → IsSent start total packet → (j k : ℕ) → j < total → k < total → j ≢ k → eqb (moment_of (packet j).stamp) (moment_of (packet k).stamp) ≡ false
  test-same start total packet s j k a b n =
      elim (eqb_tells (moment_of (packet j).stamp) (moment_of (packet k).stamp)) [
        | inl t ↦ elim (ltb_tells j k) [
          | inl u ↦ absurd (omega (arith, s.rising j k u.1 b, t.1))
          | inr u ↦ absurd (omega (arith, s.rising k j (omega (arith, u.1, n)) a, t.1))
        ]
        | inr t ↦ t.0
      ]

  -- one that arrived has a twin, and one that did not has none
  twin-there : (packet : ℕ → Entry T) (k : ℕ) (ns : List ℕ) → occurs k ns ≡ true → is_none (twin (packet k) (map packet ns)) ≡ false
  twin-there packet k [] e = cc
  twin-there packet k (j ∷ ns) e =
      elim (eqb_tells (moment_of (packet j).stamp) (moment_of (packet k).stamp)) [
        | inl t ↦ rw t.0 refl
        | inr t ↦ elim (occurs-cons k j ns e) [
          | inl u ↦ absurd (t.1 (ap (λ v. moment_of (packet v).stamp) u))
          | inr u ↦ rw t.0 (twin-there packet k ns u)
        ]
      ]

  twin-absent : (start total : ℕ) (packet : ℕ → Entry T) → IsSent start total packet → (k : ℕ) (ns : List ℕ) → k < total → ((m : ℕ) → occurs m ns ≡ true → m < total) → occurs k ns ≡ false → twin (packet k) (map packet ns) ≡ None
  twin-absent start total packet s k [] l all e = refl
  twin-absent start total packet s k (j ∷ ns) l all e =
      let a = absent-cons k j ns e in
      rw (test-same start total packet s j k (all j (occurs-here j ns)) l a.0) (twin-absent start total packet s k ns l (λ m h. all m (occurs-behind m j ns h)) a.1)

  place-map : (start total : ℕ) (packet : ℕ → Entry T) → IsSent start total packet → (k : ℕ) (ns : List ℕ) → k < total → ((m : ℕ) → occurs m ns ≡ true → m < total) → in_place (packet k) (map packet ns) ≡ map packet (number_place k ns)
  place-map start total packet s k [] l all = refl
  place-map start total packet s k (j ∷ ns) l all =
      let r = place-map start total packet s k ns l (λ m h. all m (occurs-behind m j ns h)) in
      let e = test-less start total packet s j k (all j (occurs-here j ns)) l in
      elim (ltb_tells j k) [
        | inl t ↦ rw (e, t.0) refl
        | inr t ↦ rw (e, t.0) (ap (λ l. packet j ∷ l) r)
      ]

  -- one that comes after none greater by more than the size is above the boundary
  early : (start total : ℕ) (packet : ℕ → Entry T) → IsSent start total packet → (size k : ℕ) (ns : List ℕ) → NumbersFall ns → k < total → AreLess (k + size + 1) ns → occurs k ns ≡ false → is_late (boundary size (map packet ns)) (packet k) ≡ false
  early start total packet s size k ns p l a e = rw (drop-map packet size ns) (by_rest (drop size ns) refl)
    where
      by_rest : (rest : List ℕ) → drop size ns ≡ rest → is_late (first_stamp (map packet rest)) (packet k) ≡ false
      by_rest [] f = refl
      by_rest (b ∷ rest) f =
          let d = deep size (k + size) b ns rest p a f in
          let there : occurs b ns ≡ true = occurs-drop b size ns (rw f (occurs-here b rest)) in
          elim (eqb_tells b k) [
            | inl t ↦ let g : true ≡ false = sym there ∙ rw (sym t.1) at e in cc
            | inr t ↦ elim (leb_tells (moment_of (packet k).stamp) (moment_of (packet b).stamp)) [
              | inl u ↦ absurd (omega (arith, u.1, s.rising b k (omega (arith, d, t.1)) l))
              | inr u ↦ u.0
            ]
          ]

-- the accepted are the packets of these numbers
pub record IsSeen {T : Type 0} (size : ℕ) (packet : ℕ → Entry T) (before ns : List ℕ) : Type 0 where
  pub are : accepted size (map packet before) ≡ map packet ns
  pub numbers : AreNumbersOf before ns

less-by : (n : ℕ) (ns : List ℕ) → ((j : ℕ) → occurs j ns ≡ true → j < n) → AreLess n ns
less-by n [] h = tt
less-by n (j ∷ ns) h = (h j (occurs-here j ns), less-by n ns (λ m e. h m (occurs-behind m j ns e)))

absent-by : (k : ℕ) (xs ys : List ℕ) → ((m : ℕ) → occurs m xs ≡ true → occurs m ys ≡ true) → occurs k ys ≡ false → occurs k xs ≡ false
absent-by k xs ys h e = by_case (occurs k xs) refl
  where
    by_case : (v : Bool) → occurs k xs ≡ v → v ≡ false
    by_case false f = refl
    by_case true f = let g : true ≡ false = sym (h k f) ∙ e in cc

module _ {T : Type 0} where
  -- a first arrival is accepted
  first-accepted : (start total : ℕ) (packet : ℕ → Entry T) → IsSent start total packet → (size k : ℕ) (before ns : List ℕ) → IsSeen size packet before ns → k < total → ((m : ℕ) → occurs m before ≡ true → m < total) → occurs k before ≡ false → ((j : ℕ) → occurs j before ≡ true → j ≤ k + size) → (is_late (boundary size (map packet ns)) (packet k) ≡ false) × (twin (packet k) (map packet ns) ≡ None)
  first-accepted start total packet s size k before ns i l all e near =
      let f : occurs k ns ≡ false = absent-by k ns before i.numbers.inside e in
      let a : AreLess (k + size + 1) ns = less-by (k + size + 1) ns (λ j h. omega (arith, near j (i.numbers.inside j h))) in
      (early start total packet s size k ns i.numbers.fall l a f, twin-absent start total packet s k ns l (λ m h. all m (i.numbers.inside m h)) f)

  map-more : (packet : ℕ → Entry T) (before : List ℕ) (k : ℕ) → map packet (before ++ k ∷ []) ≡ map packet before ++ packet k ∷ []
  map-more packet before k = map-append packet before (k ∷ [])

  seen-again : (size : ℕ) (packet : ℕ → Entry T) (k : ℕ) (before ns : List ℕ) → IsSeen size packet before ns → occurs k before ≡ true → IsSeen size packet (before ++ k ∷ []) ns
  seen-again size packet k before ns i e = record {
    are = ap (accepted size) (map-more packet before k) ∙ accepted-more size (map packet before) (packet k) ∙ ap (λ l. with_arrival size l (packet k)) i.are ∙ with-none (is_late (boundary size (map packet ns)) (packet k)) (is_none (twin (packet k) (map packet ns))) (twin-there packet k ns (i.numbers.all k e));
    numbers = record {
      fall = i.numbers.fall;
      inside = λ m h. occurs-append_left m before (k ∷ []) (i.numbers.inside m h);
      all = λ m h. elim (occurs-append m before (k ∷ []) h) [
        | inl u ↦ i.numbers.all m u
        | inr u ↦ elim (occurs-cons m k [] u) [ inl v ↦ rw (sym v) (i.numbers.all k e) | inr v ↦ absurd (false≢true v) ]
      ];
    };
  }
    where
      with-none : (late none : Bool) → none ≡ false → cond (not late && none) (in_place (packet k) (map packet ns)) (map packet ns) ≡ map packet ns
      with-none true none e = refl
      with-none false none e = rw e refl

  seen-first : (start total : ℕ) (packet : ℕ → Entry T) → IsSent start total packet → (size k : ℕ) (before ns : List ℕ) → IsSeen size packet before ns → k < total → ((m : ℕ) → occurs m before ≡ true → m < total) → occurs k before ≡ false → ((j : ℕ) → occurs j before ≡ true → j ≤ k + size) → IsSeen size packet (before ++ k ∷ []) (number_place k ns)
  seen-first start total packet s size k before ns i l all e near =
      let f = first-accepted start total packet s size k before ns i l all e near in
      let added : with_arrival size (map packet ns) (packet k) ≡ in_place (packet k) (map packet ns) = rw (f.0, f.1) refl in
      record {
        are = ap (accepted size) (map-more packet before k) ∙ accepted-more size (map packet before) (packet k) ∙ ap (λ l. with_arrival size l (packet k)) i.are ∙ added ∙ place-map start total packet s k ns l (λ m h. all m (i.numbers.inside m h));
        numbers = record {
          fall = number_place-fall k ns i.numbers.fall (absent-by k ns before i.numbers.inside e);
          inside = λ m h. elim (occurs-place m k ns h) [
            | inl u ↦ occurs-append_right m before (k ∷ []) (rw u (occurs-here m []))
            | inr u ↦ occurs-append_left m before (k ∷ []) (i.numbers.inside m u)
          ];
          all = λ m h. elim (occurs-append m before (k ∷ []) h) [
            | inl u ↦ place-occurs m k ns (occurs-behind m k ns (i.numbers.all m u))
            | inr u ↦ elim (occurs-cons m k [] u) [ inl v ↦ place-occurs m k ns (rw v (occurs-here m ns)) | inr v ↦ absurd (false≢true v) ]
          ];
        };
      }

  -- one more arrival of a delivery
  seen-step : (start total : ℕ) (packet : ℕ → Entry T) → IsSent start total packet → (size : ℕ) (order : List ℕ) → IsDelivery size total order → (done after ns : List ℕ) (k : ℕ) → order ≡ done ++ k ∷ after → IsSeen size packet done ns → (all : List ℕ) × IsSeen size packet (done ++ k ∷ []) all
  seen-step start total packet s size order d done after ns k e i = by_case (occurs k done) refl
    where
      here : occurs k order ≡ true
      here = rw e (occurs-append_right k done (k ∷ after) (occurs-here k after))

      inside : (m : ℕ) → occurs m done ≡ true → m < total
      inside m h = d.sent m (rw e (occurs-append_left m done (k ∷ after) h))

      by_case : (v : Bool) → occurs k done ≡ v → (all : List ℕ) × IsSeen size packet (done ++ k ∷ []) all
      by_case true f = (ns, seen-again size packet k done ns i f)
      by_case false f = (number_place k ns, seen-first start total packet s size k done ns i (d.sent k here) inside f (λ j h. d.near done after j k e f h))

  -- and one after another
  seen-from : (start total : ℕ) (packet : ℕ → Entry T) → IsSent start total packet → (size : ℕ) (order : List ℕ) → IsDelivery size total order → (done todo rest ns : List ℕ) → order ≡ done ++ (todo ++ rest) → IsSeen size packet done ns → (all : List ℕ) × IsSeen size packet (done ++ todo) all
  seen-from start total packet s size order d done [] rest ns e i = (ns, subst (λ l. IsSeen size packet l ns) (sym (append-nil done)) i)
  seen-from start total packet s size order d done (k ∷ todo) rest ns e i =
      let n = seen-step start total packet s size order d done (todo ++ rest) ns k e i in
      let more : order ≡ (done ++ k ∷ []) ++ (todo ++ rest) = e ∙ sym (append_assoc done (k ∷ []) (todo ++ rest)) in
      let r = seen-from start total packet s size order d (done ++ k ∷ []) todo rest n.0 more n.1 in
      (r.0, subst (λ l. IsSeen size packet l r.0) (append_assoc done (k ∷ []) todo) r.1)

  -- what was seen of any part of a delivery
  pub seen : (start total : ℕ) (packet : ℕ → Entry T) → IsSent start total packet → (size : ℕ) (order : List ℕ) → IsDelivery size total order → (before later : List ℕ) → order ≡ before ++ later → (ns : List ℕ) × IsSeen size packet before ns
  seen start total packet s size order d before later e =
      seen-from start total packet s size order d [] before later [] e (record { are = accepted-none size; numbers = record { fall = tt; inside = λ k h. h; all = λ k h. h } })

first-of : (k : ℕ) (later : List ℕ) → occurs k later ≡ true → (middle : List ℕ) × (after : List ℕ) × (later ≡ middle ++ k ∷ after) × (occurs k middle ≡ false)
first-of k [] e = cc
first-of k (j ∷ later) e =
    elim (eqb_tells j k) [
      | inl t ↦ ([], later, rw t.1 refl, refl)
      | inr t ↦
          let r = first-of k later (rw t.0 at e) in
          (j ∷ r.0, r.1, ap (λ l. j ∷ l) r.2, rw t.0 r.3)
    ]

absent-append : (k : ℕ) (xs ys : List ℕ) → occurs k xs ≡ false → occurs k ys ≡ false → occurs k (xs ++ ys) ≡ false
absent-append k [] ys e f = f
absent-append k (x ∷ xs) ys e f = let a = absent-cons k x xs e in elim (eqb_tells x k) [ inl t ↦ absurd (a.0 t.1) | inr t ↦ rw t.0 (absent-append k xs ys a.1 f) ]

-- what arrives later for the first time is not below what arrived by more than the size
near-later : (size total : ℕ) (order before later : List ℕ) (k : ℕ) → IsDelivery size total order → order ≡ before ++ later → occurs k before ≡ false → occurs k later ≡ true → (j : ℕ) → occurs j before ≡ true → j ≤ k + size
near-later size total order before later k d e f h j o =
    let r = first-of k later h in
    let split : order ≡ (before ++ r.0) ++ k ∷ r.1 = e ∙ ap (λ l. before ++ l) r.2 ∙ sym (append_assoc before r.0 (k ∷ r.1)) in
    d.near (before ++ r.0) r.1 j k split (absent-append k before r.0 f r.3) (occurs-append_left j before r.0 o)

-- the numbers from the boundary on are below it
drop-less : (size bound : ℕ) (ns : List ℕ) → NumbersFall ns → AreLess (bound + size + 1) ns → AreLess (bound + 1) (drop size ns)
drop-less zero bound ns p a = less-more (bound + zero + 1) (bound + 1) ns (omega arith) a
drop-less (suc n) bound [] p a = tt
drop-less (suc n) bound (j ∷ ns) p a = drop-less n bound ns p.1 (less-more j (bound + n + 1) ns (omega (arith, a.0)) p.0)

less-but : (k : ℕ) (ns : List ℕ) → AreLess (k + 1) ns → occurs k ns ≡ false → AreLess k ns
less-but k [] a e = tt
less-but k (j ∷ ns) a e = let b = absent-cons k j ns e in (omega (arith, a.0, b.0), less-but k ns a.1 b.1)

-- the released are below what arrives later for the first time
behind-less : (size total : ℕ) (order before later : List ℕ) (k : ℕ) (ns : List ℕ) → IsDelivery size total order → order ≡ before ++ later → occurs k before ≡ false → occurs k later ≡ true → NumbersFall ns → ((j : ℕ) → occurs j ns ≡ true → occurs j before ≡ true) → AreLess k (drop size ns)
behind-less size total order before later k ns d e f h p inside =
    let near = near-later size total order before later k d e f h in
    let a : AreLess (k + size + 1) ns = less-by (k + size + 1) ns (λ j o. omega (arith, near j (inside j o))) in
    less-but k (drop size ns) (drop-less size k ns p a) (absent-by k (drop size ns) before (λ m o. inside m (occurs-drop m size ns o)) f)

module _ {T : Type 0} where
  released-are : (size : ℕ) (packet : ℕ → Entry T) (before ns : List ℕ) (drained : ℕ) → IsSeen size packet before ns → released size (map packet before) drained ≡ map packet (drop (number_held size (map packet before) drained) ns)
  released-are size packet before ns drained i = ap (drop (number_held size (map packet before) drained)) i.are ∙ drop-map packet (number_held size (map packet before) drained) ns

  released-now : (size : ℕ) (packet : ℕ → Entry T) (before ns : List ℕ) → IsSeen size packet before ns → released size (map packet before) 0 ≡ map packet (drop size ns)
  released-now size packet before ns i = drop-held size (accepted size (map packet before)) ∙ ap (drop size) i.are ∙ drop-map packet size ns

  pub final-accepted : (start total size : ℕ) (packet : ℕ → Entry T) (order before after : List ℕ) (k : ℕ) → IsSent start total packet → IsDelivery size total order → order ≡ before ++ k ∷ after → occurs k before ≡ false → (is_late (boundary size (accepted size (map packet before))) (packet k) ≡ false) × (twin (packet k) (accepted size (map packet before)) ≡ None)
  final-accepted start total size packet order before after k s d e f =
      let n = seen start total packet s size order d before (k ∷ after) e in
      let here : occurs k order ≡ true = rw e (occurs-append_right k before (k ∷ after) (occurs-here k after)) in
      let inside : (m : ℕ) → occurs m before ≡ true → m < total = λ m h. d.sent m (rw e (occurs-append_left m before (k ∷ after) h)) in
      let r = first-accepted start total packet s size k before n.0 n.1 (d.sent k here) inside f (λ j h. d.near before after j k e f h) in
      rw n.1.are r

  pub final-below : (start total size : ℕ) (packet : ℕ → Entry T) (order before later : List ℕ) (k : ℕ) → IsSent start total packet → IsDelivery size total order → order ≡ before ++ later → occurs k before ≡ false → occurs k later ≡ true → (ns : List ℕ) × (released size (map packet before) 0 ≡ map packet ns) × AreLess k ns
  final-below start total size packet order before later k s d e f h =
      let n = seen start total packet s size order d before later e in
      (drop size n.0, released-now size packet before n.0 n.1, behind-less size total order before later k n.0 d e f h n.1.numbers.fall n.1.numbers.inside)

  pub final-answered : (start total size : ℕ) (packet : ℕ → Entry T) (order before after : List ℕ) (k : ℕ) (same : T → T → Bool) → IsSent start total packet → IsDelivery size total order → order ≡ before ++ k ∷ after → occurs k before ≡ false → answer same size (map packet before) (packet k) ≡ answer_accepted (released size (map packet before ++ packet k ∷ []) 0)
  final-answered start total size packet order before after k same s d e f =
      let r = final-accepted start total size packet order before after k s d e f in
      let h : List (Entry T) = map packet before in
      let t : twin (packet k) (take size (accepted size h)) ≡ None = twin-take size (packet k) (accepted size h) (accepted-falling size h) r.0 ∙ r.1 in
      fresh-answer same size h (packet k) r.0 t ∙ ap answer_accepted (sym (drop-held size (accepted size (h ++ packet k ∷ []))))

-- the counts tell the distance where it is at most sixteen
lost-distance : (start j k : ℕ) → j < k → k ≤ j + 16 → lost_between ((start + j) % 16) ((start + k) % 16) ≡ k - j - 1
lost-distance start j k h l = omega arith

-- where none of so many numbers arrives, all are absent
all-absent : (order : List ℕ) (a n : ℕ) → ((m : ℕ) → a ≤ m → m < a + n → occurs m order ≡ false) → length (filter (λ m. not (occurs m order)) (range_with_len a n)) ≡ n
all-absent order a zero h = refl
all-absent order a (suc n) h =
    let r = all-absent order (a + 1) n (λ m u v. h m (omega (arith, u)) (omega (arith, v))) in
    rw (h a (omega arith) (omega arith)) (ap suc r)

less-than : (n j : ℕ) (ns : List ℕ) → AreLess n ns → occurs j ns ≡ true → j < n
less-than n j [] a e = cc
less-than n j (i ∷ ns) a e = elim (occurs-cons j i ns e) [ inl t ↦ omega (arith, a.0, t) | inr t ↦ less-than n j ns a.1 t ]

absent-case : (m : ℕ) (order : List ℕ) → (occurs m order ≡ true → ⊥) → occurs m order ≡ false
absent-case m order h = by_case (occurs m order) refl
  where
    by_case : (v : Bool) → occurs m order ≡ v → v ≡ false
    by_case false f = refl
    by_case true f = absurd (h f)

-- what is behind a number that falls, of all that are lower
behind-drop : (n m k : ℕ) (ns rest : List ℕ) → NumbersFall ns → drop n ns ≡ k ∷ rest → occurs m ns ≡ true → m < k → occurs m rest ≡ true
behind-drop zero m k [] rest p e o l = cc
behind-drop zero m k (j ∷ ns) rest p e o l =
    let f : j ≡ k = cc in
    let g : ns ≡ rest = cc in
    elim (occurs-cons m j ns o) [ inl t ↦ absurd (omega (arith, l, t, f)) | inr t ↦ rw (sym g) t ]
behind-drop (suc n) m k [] rest p e o l = cc
behind-drop (suc n) m k (j ∷ ns) rest p e o l =
    elim (occurs-cons m j ns o) [
      | inl t ↦ let there : occurs k ns ≡ true = occurs-drop k n ns (rw e (occurs-here k rest)) in absurd (omega (arith, less-than j k ns p.0 there, t, l))
      | inr t ↦ behind-drop n m k ns rest p.1 e t l
    ]

fall-drop : (n : ℕ) (ns : List ℕ) → NumbersFall ns → NumbersFall (drop n ns)
fall-drop zero ns p = p
fall-drop (suc n) [] p = tt
fall-drop (suc n) (j ∷ ns) p = fall-drop n ns p.1

-- of numbers that fall, what is below one behind so many is there too
below-drop : (n j k : ℕ) (ns : List ℕ) → NumbersFall ns → occurs k (drop n ns) ≡ true → occurs j ns ≡ true → j < k → occurs j (drop n ns) ≡ true
below-drop zero j k ns p e o l = o
below-drop (suc n) j k [] p e o l = o
below-drop (suc n) j k (i ∷ ns) p e o l =
    elim (occurs-cons j i ns o) [
      | inl t ↦ absurd (omega (arith, less-than i k ns p.0 (occurs-drop k n ns e), t, l))
      | inr t ↦ below-drop n j k ns p.1 e t l
    ]

-- at most all of a list are dropped
drop-most : (size : ℕ) (ns : List ℕ) → drop (min size (length ns) - 0) ns ≡ drop size ns
drop-most size ns = grind (arith, common_steps)

-- what arrives below a released packet was released before it
pub record AreClosed (order ns : List ℕ) (k : ℕ) : Type 0 where
  pub below : (m : ℕ) → occurs m order ≡ true → m < k → occurs m ns ≡ true

module _ {T : Type 0} where
  distances : (start total size : ℕ) (packet : ℕ → Entry T) (order : List ℕ) → IsSent start total packet → IsDelivery size total order → (k : ℕ) (ns : List ℕ) → NumbersFall (k ∷ ns) → ((m : ℕ) → occurs m (k ∷ ns) ≡ true → occurs m order ≡ true) → AreClosed order ns k → AreDistances packet order (k ∷ ns)
  distances start total size packet order s d k [] p inside c = tt
  distances start total size packet order s d k (j ∷ ns) p inside c =
      let jk : j < k = p.0.0 in
      let ink : occurs k order ≡ true = inside k (occurs-here k (j ∷ ns)) in
      let inj : occurs j order ≡ true = inside j (occurs-behind j k (j ∷ ns) (occurs-here j ns)) in
      let gap = d.gaps j k inj ink jk in
      let among : (m : ℕ) → j < m → m < k → occurs m order ≡ true → ⊥ = λ m u v o. elim (occurs-cons m j ns (c.below m o v)) [ inl t ↦ omega (arith, u, t) | inr t ↦ omega (arith, u, less-than j m ns p.1.0 t) ] in
      let near : k ≤ j + 16 = elim (leb_tells k gap.0) [ inl t ↦ omega (arith, t.1, gap.2) | inr t ↦ absurd (among gap.0 gap.1 t.1 gap.3) ] in
      let none : (m : ℕ) → j + 1 ≤ m → m < (j + 1) + (k - j - 1) → occurs m order ≡ false = λ m u v. absent-case m order (λ o. among m (omega (arith, u)) (omega (arith, v, jk)) o) in
      let counts : lost_between (packet j).count (packet k).count ≡ k - j - 1 = rw (s.counted j (d.sent j inj), s.counted k (d.sent k ink)) (lost-distance start j k jk near) in
      let rest = distances start total size packet order s d j ns p.1 (λ m h. inside m (occurs-behind m k (j ∷ ns) h)) (record { below = λ m o v. elim (occurs-cons m j ns (c.below m o (omega (arith, v, jk)))) [ inl t ↦ absurd (omega (arith, v, t)) | inr t ↦ t ] }) in
      (jk, counts ∙ sym (all-absent order (j + 1) (k - j - 1) none), rest)

  -- the released packets of a part of a delivery that more may follow, or of all of it
  released-distances : (start total size n : ℕ) (packet : ℕ → Entry T) (order before later ns : List ℕ) → IsSent start total packet → IsDelivery size total order → order ≡ before ++ later → IsSeen size packet before ns → ((k : ℕ) → occurs k before ≡ false → occurs k later ≡ true → AreLess k (drop n ns)) → AreDistances packet order (drop n ns)
  released-distances start total size n packet order before later ns s d e i later_above = by_rest (drop n ns) refl
    where
      by_rest : (rest : List ℕ) → drop n ns ≡ rest → AreDistances packet order rest
      by_rest [] f = tt
      by_rest (k ∷ rest) f =
          distances start total size packet order s d k rest (subst NumbersFall f (fall-drop n ns i.numbers.fall))
          (λ m h. rw e (occurs-append_left m before later (i.numbers.inside m (occurs-drop m n ns (rw f h)))))
          (record { below = λ m o l. below m o l (occurs m before) refl })
        where
          below : (m : ℕ) → occurs m order ≡ true → m < k → (v : Bool) → occurs m before ≡ v → occurs m rest ≡ true
          below m o l true b = behind-drop n m k ns rest i.numbers.fall f (i.numbers.all m b) l
          below m o l false b =
              elim (occurs-append m before later (rw e at o)) [
                | inl t ↦ let g : true ≡ false = sym t ∙ b in cc
                | inr t ↦ let q : AreLess m (k ∷ rest) = rw f at (later_above m b t) in absurd (omega (arith, q.0, l))
              ]

  -- what is told of a part of which more may follow, or of all of it, once so many are dropped
  told : (start total size drained : ℕ) (packet : ℕ → Entry T) (order before later ns : List ℕ) → IsSent start total packet
      → IsDelivery size total order → order ≡ before ++ later → IsSeen size packet before ns
      → ((k : ℕ) → occurs k before ≡ false → occurs k later ≡ true → AreLess k (drop (number_held size (map packet before) drained) ns))
      → IsTold packet size order before drained
  told start total size drained packet order before later ns s d e i above =
      let n : ℕ = number_held size (map packet before) drained in record {
        numbers = ns;
        arrived = i.numbers;
        are_accepted = i.are;
        behind = drop n ns;
        are_behind = refl;
        are_released = released-are size packet before ns drained i;
        distances = released-distances start total size n packet order before later ns s d e i above;
        whole = λ j k h o l. below-drop n j k ns i.numbers.fall h (i.numbers.all j o) l;
      }

  -- while more may arrive
  pub told-now : (start total size : ℕ) (packet : ℕ → Entry T) (order before later : List ℕ) → IsSent start total packet → IsDelivery size total order → order ≡ before ++ later → IsTold packet size order before 0
  told-now start total size packet order before later s d e =
      let n = seen start total packet s size order d before later e in
      let same : drop (number_held size (map packet before) 0) n.0 ≡ drop size n.0 = same-behind size (map packet before) n.0 (ap length n.1.are ∙ length-map n.0 packet) in
      told start total size 0 packet order before later n.0 s d e n.1
      (λ k f h. subst (AreLess k) (sym same) (behind-less size total order before later k n.0 d e f h n.1.numbers.fall n.1.numbers.inside))
    where
      same-behind : (size : ℕ) (arrivals : List (Entry T)) (ns : List ℕ) → length (accepted size arrivals) ≡ length ns → drop (number_held size arrivals 0) ns ≡ drop size ns
      same-behind size arrivals ns e = rw e (drop-most size ns)

  -- and afterwards, while the held are drained
  pub told-drained : (start total size : ℕ) (packet : ℕ → Entry T) (order : List ℕ) (drained : ℕ) → IsSent start total packet → IsDelivery size total order → IsTold packet size order order drained
  told-drained start total size packet order drained s d =
      let n = seen start total packet s size order d order [] (sym (append-nil order)) in
      told start total size drained packet order order [] n.0 s d (sym (append-nil order)) n.1 (λ k f h. absurd (false≢true h))

  -- the accepted are what arrived, each once
  pub final-once : (start total size : ℕ) (packet : ℕ → Entry T) (order before later : List ℕ) → IsSent start total packet → IsDelivery size total order → order ≡ before ++ later → (ns : List ℕ) × (accepted size (map packet before) ≡ map packet ns) × AreNumbersOf before ns
  final-once start total size packet order before later s d e =
      let n = seen start total packet s size order d before later e in (n.0, n.1.are, n.1.numbers)
