-- The numbers that arrived in the order of sending, and the releases of their packets.
use Rattle.std.proofs.Common.{◌≡◌, ℕ, suc, zero, ◌+◌, ◌<◌, true, List, [], ◌∷◌, ◌++◌, map, length, drop, get_or, slice_get, Some, refl, sym, ap, ◌∙◌, subst, inl, inr, arith, length-append}
use Rattle.std.proofs.lemmas.Bool.{cases_lt}
use Rattle.std.proofs.lemmas.List.{get_or_append_left}
use Rattle.std.specs.List.{AllByRecursion}
use Rattle.vrt_time.specs.Time.{TimeStamp}
use Rattle.reorder_window.specs.declared.entry.Entry.{Entry}
use Rattle.reorder_window.specs.Delivery.{IsSent, IsDelivery, occurs, AreLess, NumbersFall, AreNumbersOf, AreDistances, number_absent, IsTold}
use Rattle.reorder_window.specs.Window.{number_held, lost_before, release, in_order}
use Rattle.reorder_window.proofs.DeliveryLemmas.{told-drained}
use Rattle.sample_binder.specs.Calls.{all_releases}
use Rattle.site_truth.specs.Delivered.{AreInOrder, absent_before}
use Rattle.site_truth.proofs.ListLemmas.{slice_get-left, slice_get-end, at_end, occurs-here, occurs-behind, place_among}

-- the same numbers, the last one first
abbrev pub turned : List ℕ → List ℕ
turned [] = []
turned (k ∷ ns) = turned ns ++ k ∷ []

pub length-turned : (ns : List ℕ) → length (turned ns) ≡ length ns
length-turned [] = refl
length-turned (k ∷ ns) = let r = length-turned ns in omega (arith, length-append (turned ns) (k ∷ []))

-- what is true of each is true at each place
each_turned : (P : ℕ → Type 0) (ns : List ℕ) → AllByRecursion P ns → (i : ℕ) → i < length (turned ns) → P (get_or (turned ns) i 0)
each_turned P [] h i lt = absurd (omega arith)
each_turned P (k ∷ ns) h i lt = elim (at_end (turned ns) k 0 i lt) [
  | inl t ↦ subst P (sym t.1) (each_turned P ns h.1 i t.0)
  | inr t ↦ subst P (sym t.1) h.0
]

each_by : (P : ℕ → Type 0) (ns : List ℕ) → ((k : ℕ) → occurs k ns ≡ true → P k) → AllByRecursion P ns
each_by P [] h = tt
each_by P (k ∷ ns) h = (h k (occurs-here k ns), each_by P ns (λ j e. h j (occurs-behind j k ns e)))

each_less : (n : ℕ) (ns : List ℕ) → AreLess n ns → AllByRecursion (λ j. j < n) ns
each_less n [] h = tt
each_less n (j ∷ ns) h = (h.0, each_less n ns h.1)

-- numbers that fall rise when they are turned
rises : (ns : List ℕ) → NumbersFall ns → (i j : ℕ) → i < j → j < length (turned ns) → get_or (turned ns) i 0 < get_or (turned ns) j 0
rises [] h i j lt there = absurd (omega arith)
rises (k ∷ ns) h i j lt there =
    let front : length (turned ns ++ k ∷ []) ≡ length (turned ns) + 1 = length-append (turned ns) (k ∷ []) in
    let at : get_or (turned ns ++ k ∷ []) i 0 ≡ get_or (turned ns) i 0 = get_or_append_left (turned ns) (k ∷ []) 0 i (omega arith) in
    elim (at_end (turned ns) k 0 j there) [
      | inl t ↦ let r = rises ns h.1 i j lt t.0 in omega (arith, at, t.1)
      | inr t ↦ let r = each_turned (λ m. m < k) ns (each_less k ns h.0) i (omega arith) in omega (arith, at, t.1)
    ]

place_turned : (k : ℕ) (ns : List ℕ) (i : ℕ) → i < length ns → get_or ns i 0 ≡ k → (m : ℕ) × (m < length (turned ns)) × (get_or (turned ns) m 0 ≡ k)
place_turned k [] i lt e = absurd (omega arith)
place_turned k (j ∷ ns) zero lt e =
    let long = length-append (turned ns) (j ∷ []) in
    let here : length (turned ns) < length (turned ns ++ j ∷ []) = omega arith in
    elim (at_end (turned ns) j 0 (length (turned ns)) here) [
      | inl t ↦ absurd (omega (arith, t.0))
      | inr t ↦ (length (turned ns), here, t.1 ∙ e)
    ]
place_turned k (j ∷ ns) (suc i) lt e =
    let long = length-append (turned ns) (j ∷ []) in
    let r = place_turned k ns i (omega arith) e in
    (r.0, omega (arith, r.1), get_or_append_left (turned ns) (j ∷ []) 0 r.0 r.1 ∙ r.2)

pub turned_in_order : (arrived ns : List ℕ) → AreNumbersOf arrived ns → AreInOrder arrived (turned ns)
turned_in_order arrived ns h = record {
  rising = record { rising = rises ns h.fall };
  inside = each_turned (λ k. occurs k arrived ≡ true) ns (each_by (λ k. occurs k arrived ≡ true) ns h.inside);
  all = λ k e. let p = place_among k ns (h.all k e) in place_turned k ns p.0 p.1 p.2;
}

-- ---- releases

abbrev pub release_at : {T : Type 0} → (ℕ → Entry T) → List ℕ → List ℕ → ℕ → TimeStamp × ℕ × T
release_at packet order numbers i = ((packet (get_or numbers i 0)).stamp, absent_before order numbers i, (packet (get_or numbers i 0)).item)

absent_before-left : (order xs ys : List ℕ) (i : ℕ) → i < length xs → absent_before order (xs ++ ys) i ≡ absent_before order xs i
absent_before-left order xs ys zero h = refl
absent_before-left order xs ys (suc i) h =
    ap (λ k. number_absent order k (get_or (xs ++ ys) (suc i) 0)) (get_or_append_left xs ys 0 i (omega arith))
    ∙ ap (number_absent order (get_or xs i 0)) (get_or_append_left xs ys 0 (suc i) h)

module _ {T : Type 0} (packet : ℕ → Entry T) (order : List ℕ) where
  pub length-releases : (ns : List ℕ) → length (in_order (map packet ns)) ≡ length ns
  length-releases [] = refl
  length-releases (k ∷ ns) = let r = length-releases ns in omega (arith, length-append (in_order (map packet ns)) (release (packet k) (map packet ns) ∷ []))

  release-left : (xs ys : List ℕ) (i : ℕ) → i < length xs → release_at packet order (xs ++ ys) i ≡ release_at packet order xs i
  release-left xs ys i h =
      ap (λ k. ((packet k).stamp, absent_before order (xs ++ ys) i, (packet k).item)) (get_or_append_left xs ys 0 i h)
      ∙ ap (λ n. ((packet (get_or xs i 0)).stamp, n, (packet (get_or xs i 0)).item)) (absent_before-left order xs ys i h)

  -- the number lost before the last one
  lost_last : (k : ℕ) (ns : List ℕ) → AreDistances packet order (k ∷ ns) → lost_before (packet k) (map packet ns) ≡ absent_before order (turned ns ++ k ∷ []) (length ns)
  lost_last k [] h = refl
  lost_last k (j ∷ ns) h =
      let long = length-turned ns in
      let longer = length-append (turned ns) (j ∷ []) in
      let first : get_or ((turned ns ++ j ∷ []) ++ k ∷ []) (length ns) 0 ≡ j =
      get_or_append_left (turned ns ++ j ∷ []) (k ∷ []) 0 (length ns) (omega arith) ∙ end_at (turned ns) j (length ns) (omega arith) in
      let second : get_or ((turned ns ++ j ∷ []) ++ k ∷ []) (suc (length ns)) 0 ≡ k = end_at (turned ns ++ j ∷ []) k (suc (length ns)) (omega arith) in
      h.1 ∙ sym (ap (λ a. number_absent order a (get_or ((turned ns ++ j ∷ []) ++ k ∷ []) (suc (length ns)) 0)) first ∙ ap (number_absent order j) second)
    where
      end_at : (xs : List ℕ) (y i : ℕ) → i ≡ length xs → get_or (xs ++ y ∷ []) i 0 ≡ y
      end_at xs y i e = elim (at_end xs y 0 i (omega (arith, length-append xs (y ∷ [])))) [ inl t ↦ absurd (omega (arith, t.0)) | inr t ↦ t.1 ]

  further : (k : ℕ) (ns : List ℕ) → AreDistances packet order (k ∷ ns) → AreDistances packet order ns
  further k [] h = tt
  further k (j ∷ ns) h = h.2

  pub releases_told : (ns : List ℕ) → AreDistances packet order ns → (i : ℕ) → i < length ns
      → slice_get (in_order (map packet ns)) i ≡ Some (release_at packet order (turned ns) i)
  releases_told [] h i lt = absurd (omega arith)
  releases_told (k ∷ ns) h i lt =
      let rest = in_order (map packet ns) in
      let last = release (packet k) (map packet ns) in
      let long = length-releases ns in
      let turned_long = length-turned ns in
      elim (cases_lt i (length ns)) [
        | inl less ↦
            slice_get-left rest (last ∷ []) i (omega arith) ∙ releases_told ns (further k ns h) i less
            ∙ ap Some (sym (release-left (turned ns) (k ∷ []) i (omega arith)))
        | inr le ↦
            let end : i ≡ length ns = omega arith in
            let at : get_or (turned ns ++ k ∷ []) i 0 ≡ k = elim (at_end (turned ns) k 0 i (omega (arith, length-append (turned ns) (k ∷ [])))) [ inl t ↦ absurd (omega (arith, t.0)) | inr t ↦ t.1 ] in
            slice_get-end rest last i (omega arith)
            ∙ ap (λ n. Some ((packet k).stamp, n, (packet k).item)) (lost_last k ns h ∙ ap (absent_before order (turned ns ++ k ∷ [])) (sym end))
            ∙ ap (λ m. Some ((packet m).stamp, absent_before order (turned ns ++ k ∷ []) i, (packet m).item)) (sym at)
      ]

-- what a window releases of a delivery by the end: what arrived, in the order of sending, each with the number absent before it
pub record AreReleased {T : Type 0} (packet : ℕ → Entry T) (order : List ℕ) (released : List (TimeStamp × ℕ × T)) : Type 0 where
  pub numbers : List ℕ
  pub in_order : AreInOrder order numbers
  pub long : length released ≡ length numbers
  pub each : (i : ℕ) → i < length numbers → slice_get released i ≡ Some (release_at packet order numbers i)

pub all_released : {T : Type 0} (start total size : ℕ) (packet : ℕ → Entry T) (order : List ℕ) → IsSent start total packet → IsDelivery size total order
    → AreReleased packet order (all_releases size (map packet order))
all_released {T} start total size packet order s d =
    let told : IsTold packet size order order size = told-drained start total size packet order size s d in
    let ns = told.numbers in
    let none : number_held size (map packet order) size ≡ 0 = omega arith in
    let same : told.behind ≡ ns = told.are_behind ∙ ap (λ n. drop n ns) none in
    let far : AreDistances packet order ns = subst (AreDistances packet order) same told.distances in
    let are : all_releases size (map packet order) ≡ in_order (map packet ns) = ap in_order told.are_accepted in
    record {
      numbers = turned ns;
      in_order = turned_in_order order ns told.arrived;
      long = ap length are ∙ length-releases packet order ns ∙ sym (length-turned ns);
      each = λ i lt. ap (λ rs. slice_get rs i) are ∙ releases_told packet order ns far i (omega (arith, length-turned ns));
    }
