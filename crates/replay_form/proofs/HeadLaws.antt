-- What the rules of the fields say of a whole header's numbers.
use Rattle.std.proofs.Common.{◌≡◌, ℕ, ◌+◌, ◌*◌, ◌-◌, ◌/◌, ◌%◌, ◌<◌, ◌≤◌, ◌^◌, Bool, true, false, nat_lt, zero, suc, get_or, List, length, take, refl, sym, ap, ◌∙◌, subst, lit<, lit≤, inl, inr, arith}
use Rattle.std.proofs.lemmas.Bool.{cases_order}
use Rattle.std.proofs.lemmas.Grind.{common_steps}
use Rattle.vrt_header.specs.Profile.{IsProfile, profile_of}
use Rattle.replay_form.specs.Numbers.{number_at}
use Rattle.replay_form.proofs.NumberLaws.{number_at-take}
use Rattle.replay_form.specs.HeadFields.{AreRight, IsGood, IsWholeHead, route_size, IsRouteCount, is_second, field_at, field_count, head_size, end_of, most_pending, route_at, route_fields, route_field, bound_field, first_fields}
use Rattle.replay_form.specs.HeadRanges.{HeadRanges}
use Rattle.replay_form.specs.declared.head_field.HeadField.TheVariants.{Magic, Number, Zero}

-- a number that a rule speaks of is that of the header
here : (P : ℕ → Type 0) (offset width end : ℕ) (bytes : List ℕ) → offset + width ≤ end → P (number_at offset width (take end bytes)) → P (number_at offset width bytes)
here P offset width end bytes h p = subst P (number_at-take offset width end bytes h) p

pub head_ranges : (bytes : List ℕ) (k : ℕ) → 58 ≤ k → AreRight bytes k → HeadRanges bytes
head_ranges bytes k h right =
    let tsi = (right 2 (omega arith)).right in
    let max_words = (right 3 (omega arith)).right in
    let kept = (right 6 (omega arith)).right in
    let pending = (right 7 (omega arith)).right in
    let routes = (right 8 (omega arith)).right in record {
      cid = here (λ n. n < 2 ^ 24) 8 4 12 bytes (omega arith) (right 1 (omega arith)).right;
      tsi_from = here (λ n. 1 ≤ n) 12 4 16 bytes (omega arith) tsi.0;
      tsi_to = here (λ n. n ≤ 3) 12 4 16 bytes (omega arith) tsi.1;
      max_words_from = here (λ n. 43 ≤ n) 16 4 20 bytes (omega arith) max_words.0;
      max_words_to = here (λ n. n ≤ 16376) 16 4 20 bytes (omega arith) max_words.1;
      data_window = here (λ n. n ≤ 4096) 20 4 24 bytes (omega arith) (right 4 (omega arith)).right;
      context_window = here (λ n. n ≤ 4096) 24 4 28 bytes (omega arith) (right 5 (omega arith)).right;
      kept_from = here (λ n. 2 ≤ n) 28 4 32 bytes (omega arith) kept.0;
      kept_to = here (λ n. n ≤ 4096) 28 4 32 bytes (omega arith) kept.1;
      pending_from = here (λ n. 1 ≤ n) 32 4 36 bytes (omega arith) pending.0;
      pending_to = here (λ n. n ≤ most_pending (is_second bytes)) 32 4 36 bytes (omega arith) pending.1;
      routes = here (λ n. IsRouteCount (is_second bytes) (number_at 16 4 bytes) (number_at 20 4 bytes) (number_at 32 4 bytes) n) 36 4 40 bytes (omega arith)
          (here (λ n. IsRouteCount (is_second bytes) (number_at 16 4 bytes) (number_at 20 4 bytes) n (number_at 36 4 (take 40 bytes))) 32 4 40 bytes (omega arith)
          (here (λ n. IsRouteCount (is_second bytes) (number_at 16 4 bytes) n (number_at 32 4 (take 40 bytes)) (number_at 36 4 (take 40 bytes))) 20 4 40 bytes (omega arith)
          (here (λ n. IsRouteCount (is_second bytes) n (number_at 20 4 (take 40 bytes)) (number_at 32 4 (take 40 bytes)) (number_at 36 4 (take 40 bytes))) 16 4 40 bytes (omega arith) routes)));
      identity_form = here (λ n. n ≤ 2) 40 4 44 bytes (omega arith) (right 9 (omega arith)).right;
    }

pub whole_ranges : (bytes : List ℕ) → IsWholeHead bytes → HeadRanges bytes
whole_ranges bytes whole = head_ranges bytes (field_count bytes) (omega arith) whole.right

-- the profile is one
pub head_profile : (bytes : List ℕ) → HeadRanges bytes → IsProfile (profile_of (number_at 8 4 bytes) (number_at 12 4 bytes))
head_profile bytes h = record { cid_fits = h.cid; tsi_from = h.tsi_from; tsi_to = h.tsi_to }

-- behind the first 58 fields stand those of the routes
pub field_behind : (second : Bool) (index : ℕ) → 58 ≤ index → field_at second index ≡ route_field second ((index - 58) / route_fields second) ((index - 58) % route_fields second)
field_behind second index h =
    let a : nat_lt index 11 ≡ false = grind (arith, common_steps) in
    let b : nat_lt index 30 ≡ false = grind (arith, common_steps) in
    let d : nat_lt index 58 ≡ false = grind (arith, common_steps) in
    rw (a, b, d) refl

-- the field at a place of a route
pub field_in_route : (second : Bool) (route place : ℕ) → place < route_fields second → field_at second (58 + (route_fields second * route + place)) ≡ route_field second route place
field_in_route true route place h =
    let i = 58 + (7 * route + place) in
    let q : (i - 58) / 7 ≡ route = omega arith in
    let m : (i - 58) % 7 ≡ place = omega arith in
    field_behind true i (omega arith) ∙ ap (λ n. route_field true n ((i - 58) % 7)) q ∙ ap (route_field true route) m
field_in_route false route place h =
    let i = 58 + (3 * route + place) in
    let q : (i - 58) / 3 ≡ route = omega arith in
    let m : (i - 58) % 3 ≡ place = omega arith in
    field_behind false i (omega arith) ∙ ap (λ n. route_field false n ((i - 58) % 3)) q ∙ ap (route_field false route) m

-- the fields and the bytes of a route are among those of all
field_inside : (second : Bool) (route place n : ℕ) → route < n → place < route_fields second → 58 + (route_fields second * route + place) < 58 + route_fields second * n
field_inside true route place n p q = omega arith
field_inside false route place n p q = omega arith

pub route_inside : (second : Bool) (route n : ℕ) → route < n → route_at second (route + 1) ≤ 332 + route_size second * n
route_inside true route n p = omega arith
route_inside false route n p = omega arith

-- each field of a route is right
pub route_good : (bytes : List ℕ) (route place : ℕ) → IsWholeHead bytes → route < number_at 36 4 bytes → place < route_fields (is_second bytes)
    → IsGood (is_second bytes) (route_field (is_second bytes) route place) bytes
route_good bytes route place whole h k =
    let second = is_second bytes in
    subst (λ field. IsGood second field bytes) (field_in_route second route place k)
    (whole.right (58 + (route_fields second * route + place)) (field_inside second route place (number_at 36 4 bytes) h k))

-- a route of form 2 has one to four ports
pub record HasPorts (route : ℕ) (bytes : List ℕ) : Type 0 where
  pub from : 1 ≤ number_at (route_at true route + 4) 2 bytes
  pub to : number_at (route_at true route + 4) 2 bytes ≤ 4

pub has_ports : (bytes : List ℕ) (route : ℕ) → IsWholeHead bytes → is_second bytes ≡ true → route < number_at 36 4 bytes → HasPorts route bytes
has_ports bytes route whole form h =
    let wide : 1 < route_fields (is_second bytes) = rw form (lit< tt) in
    let good : IsGood true (Number route) bytes = subst (λ s. IsGood s (route_field s route 1) bytes) form (route_good bytes route 1 whole h wide) in record {
      from = here (λ n. 1 ≤ n) (route_at true route + 4) 2 (route_at true route + 4 + 2) bytes (omega arith) good.right.0;
      to = here (λ n. n ≤ 4) (route_at true route + 4) 2 (route_at true route + 4 + 2) bytes (omega arith) good.right.1;
    }

-- the bytes of a route are there
pub route_there : (bytes : List ℕ) (route : ℕ) → IsWholeHead bytes → route < number_at 36 4 bytes → route_at (is_second bytes) (route + 1) ≤ length bytes
route_there bytes route whole h =
    omega (arith, whole.all, route_inside (is_second bytes) route (number_at 36 4 bytes) h)

-- each field ends within the header
first_inside : (second : Bool) (k : ℕ) → k < 11 → end_of second (get_or first_fields k Magic) ≤ 332
first_inside second zero h = lit≤ tt
first_inside second (suc zero) h = lit≤ tt
first_inside second (suc (suc zero)) h = lit≤ tt
first_inside second (suc (suc (suc zero))) h = lit≤ tt
first_inside second (suc (suc (suc (suc zero)))) h = lit≤ tt
first_inside second (suc (suc (suc (suc (suc zero))))) h = lit≤ tt
first_inside second (suc (suc (suc (suc (suc (suc zero)))))) h = lit≤ tt
first_inside second (suc (suc (suc (suc (suc (suc (suc zero))))))) h = lit≤ tt
first_inside second (suc (suc (suc (suc (suc (suc (suc (suc zero)))))))) h = lit≤ tt
first_inside second (suc (suc (suc (suc (suc (suc (suc (suc (suc zero))))))))) h = lit≤ tt
first_inside second (suc (suc (suc (suc (suc (suc (suc (suc (suc (suc zero)))))))))) h = lit≤ tt
first_inside second (suc (suc (suc (suc (suc (suc (suc (suc (suc (suc (suc i))))))))))) h = absurd (omega arith)

bound_ends : (second : Bool) (bound place : ℕ) → end_of second (bound_field bound place) ≤ 164 + 28 * bound
bound_ends second bound place = grind (arith, common_steps)

initial_inside : (second : Bool) (k : ℕ) → 11 ≤ k → k < 30 → end_of second (field_at second k) ≤ 332
initial_inside second k g h =
    let a : nat_lt k 11 ≡ false = grind (arith, common_steps) in
    let b : nat_lt k 30 ≡ true = grind (arith, common_steps) in
    rw (a, b) (omega arith)

bounds_inside : (second : Bool) (k : ℕ) → 30 ≤ k → k < 58 → end_of second (field_at second k) ≤ 332
bounds_inside second k g h =
    let a : nat_lt k 11 ≡ false = grind (arith, common_steps) in
    let b : nat_lt k 30 ≡ false = grind (arith, common_steps) in
    let d : nat_lt k 58 ≡ true = grind (arith, common_steps) in
    let e = bound_ends second ((k - 30) / 4) ((k - 30) % 4) in
    let most : end_of second (bound_field ((k - 30) / 4) ((k - 30) % 4)) ≤ 332 = omega arith in
    rw (a, b, d) most

fixed_inside : (second : Bool) (k : ℕ) → k < 58 → end_of second (field_at second k) ≤ 332
fixed_inside second k h =
    elim (cases_order k 11) [
      | inl e ↦ initial_inside second k (omega arith) (omega arith)
      | inr (inl less) ↦ (let a : nat_lt k 11 ≡ true = grind (arith, common_steps) in rw a (first_inside second k less))
      | inr (inr more) ↦ elim (cases_order k 30) [
        | inl e ↦ bounds_inside second k (omega arith) h
        | inr (inl less) ↦ initial_inside second k (omega arith) less
        | inr (inr above) ↦ bounds_inside second k (omega arith) h
      ]
    ]

route_ends : (second : Bool) (route place : ℕ) → place < route_fields second → end_of second (route_field second route place) ≤ route_at second (route + 1)
route_ends true route place h = grind (arith, common_steps)
route_ends false route place h = grind (arith, common_steps)

pub quotient : (second : Bool) (k n : ℕ) → 58 ≤ k → k < 58 + route_fields second * n → (k - 58) / route_fields second < n
quotient true k n g h = omega arith
quotient false k n g h = omega arith

pub rest : (second : Bool) (k : ℕ) → (k - 58) % route_fields second < route_fields second
rest true k = omega arith
rest false k = omega arith

behind_ends : (second : Bool) (k n : ℕ) → 58 ≤ k → k < 58 + route_fields second * n → end_of second (field_at second k) ≤ 332 + route_size second * n
behind_ends second k n g h =
    let r = (k - 58) / route_fields second in
    let place = (k - 58) % route_fields second in
    let a = route_ends second r place (rest second k) in
    let b = route_inside second r n (quotient second k n g h) in
    let e : end_of second (route_field second r place) ≤ 332 + route_size second * n = omega arith in
    subst (λ field. end_of second field ≤ 332 + route_size second * n) (sym (field_behind second k g)) e

pub field_ends : (second : Bool) (k n : ℕ) → k < 58 + route_fields second * n → end_of second (field_at second k) ≤ 332 + route_size second * n
field_ends second k n h =
    elim (cases_order k 58) [
      | inl e ↦ behind_ends second k n (omega arith) h
      | inr (inl less) ↦ (let f = fixed_inside second k less in omega arith)
      | inr (inr more) ↦ behind_ends second k n (omega arith) h
    ]

-- the last field ends where the header does
last_of : (second : Bool) (bytes : List ℕ) (n : ℕ) → ((i : ℕ) → i < 58 + route_fields second * n → IsGood second (field_at second i) bytes)
    → 332 + route_size second * n ≤ length bytes
last_of second bytes zero right = omega (arith, (right 57 (omega arith)).there)
last_of true bytes (suc n) right =
    let good : IsGood true (Zero n) bytes = subst (λ field. IsGood true field bytes) (field_in_route true n 6 (lit< tt)) (right (58 + (7 * n + 6)) (omega arith)) in
    omega (arith, good.there)
last_of false bytes (suc n) right =
    let good : IsGood false (Zero n) bytes = subst (λ field. IsGood false field bytes) (field_in_route false n 2 (lit< tt)) (right (58 + (3 * n + 2)) (omega arith)) in
    omega (arith, good.there)

pub last_ends : (bytes : List ℕ) → AreRight bytes (field_count bytes) → head_size bytes ≤ length bytes
last_ends bytes right = last_of (is_second bytes) bytes (number_at 36 4 bytes) right
