-- Bytes with the numbers of a header whose values obey the rules are that header.
use Rattle.std.proofs.Common.{◌≡◌, ℕ, zero, suc, ◌+◌, ◌*◌, ◌-◌, ◌/◌, ◌%◌, ◌<◌, ◌≤◌, ◌^◌, ◌==◌, ◌&&◌, ◌⊎◌, nat_le, nat_lt, Bool, true, false, if◌then◌else◌, List, [], ◌∷◌, length, slice_index, get_or, inl, inr, refl, sym, ap, ◌∙◌, subst, arith}
use Rattle.std.specs.Prelude.{ℤ, pos}
use Rattle.std.specs.Int.{w64, cast_signed}
use Rattle.std.proofs.lemmas.Grind.{common_steps}
use Rattle.std.proofs.lemmas.Bool.{cases_order}
use Rattle.std.proofs.lemmas.Int.{to_z-of_z}
use Rattle.std.proofs.lemmas.List.{same_lists}
use Rattle.vrt_header.specs.Profile.{profile_of}
use Rattle.vrt_fields.specs.declared.limit.Limit.{Limit}
use Rattle.vrt_fields.specs.declared.route.Route.{Route}
use Rattle.vrt_fields.specs.Format.{IsFormatFirst, IsFormatSecond}
use Rattle.vrt_fields.specs.declared.limits.Limits.{Limits}
use Rattle.cam_field.specs.declared.ident.Ident.{Ident}
use Rattle.cam_field.specs.declared.ident.Ident.TheVariants as idents
use Rattle.replay_form.specs.Numbers.{number_at, signed_at, AreNumbers}
use Rattle.replay_form.specs.Head.{IsHead, IsSpelledHead, IsIdentity, form_number, limit_in, bounds_in, route_in, routes_in}
use Rattle.replay_form.specs.HeadFields.{IsRightIn, IsGood, IsWholeHead, IsRouteCount, IsIdentityField, IsInitialWord, IsStep, IsLeast, IsGreatest, IsPort, is_second, first_magic, second_magic, route_at, port_at, route_size, route_fields, route_field, bound_field, first_fields, field_at}
use Rattle.replay_form.proofs.HeadLaws.{field_ends, field_behind, quotient, rest}
use Rattle.replay_form.specs.HeadSpelling.{IsLimitSpelled, AreLimitsSpelled, IsSecondRoute, IsRouteSpelled, AreRoutesSpelled, identity_form, identity_words}
use Rattle.replay_form.proofs.HeadSpellingLaws.{length-routes_in, route_here, bound_there}
use Rattle.replay_form.proofs.InitialLaws.{rule_of_word}
use Rattle.replay_form.proofs.BoundLaws.{IsBound, bound_of_limit}
use Rattle.replay_form.specs.HeadValues.{AreHeadValues}
use Rattle.vrt_fields.specs.Route.{IsRoute, AreRoutes}
use Rattle.replay_form.specs.declared.head_field.HeadField.TheVariants.{Magic, Initial, Stream}
use Rattle.replay_form.specs.declared.record_head.RecordHead.{RecordHead}
use Rattle.replay_form.proofs.HeadBytes.{AreHeadNumbers, head_bytes, head_bytes_fit, numbers_there}
use Rattle.replay_form.proofs.FieldRules.{right_up_to}

-- the form
magic_either : (b : Bool) (n : ℕ) → (if b then second_magic else first_magic) ≡ n → (n ≡ first_magic) ⊎ (n ≡ second_magic)
magic_either true n e = inr (sym e)
magic_either false n e = inl (sym e)

second_by : (b : Bool) (n size : ℕ) → 8 ≤ size → (if b then second_magic else first_magic) ≡ n → (nat_le 8 size && (n == second_magic)) ≡ b
second_by true n size h e = let there : nat_le 8 size ≡ true = grind (arith, common_steps) in rw (there, sym e) refl
second_by false n size h e = let there : nat_le 8 size ≡ true = grind (arith, common_steps) in rw (there, sym e) refl

form_by : (n : ℕ) → (n ≡ 1) ⊎ (n ≡ 2) → n ≡ form_number (n == 2)
form_by n (inl e) = rw e refl
form_by n (inr e) = rw e refl

pub second_told : (head : RecordHead) (bytes : List ℕ) → AreHeadNumbers head bytes → is_second bytes ≡ (head.form == 2)
second_told head bytes numbers = second_by (head.form == 2) (number_at 0 8 bytes) (length bytes) (omega (arith, numbers.start.there)) numbers.start.magic

-- the rules at other numbers that are the same
pub count_by : {s t : Bool} {a b d e m n p q : ℕ} → s ≡ t → a ≡ m → b ≡ n → d ≡ p → e ≡ q → IsRouteCount s a b d e → IsRouteCount t m n p q
count_by f g h i j rule = rw (sym f, sym g, sym h, sym i, sym j) rule

pub step_by : {f g s t : ℕ} → f ≡ g → s ≡ t → IsStep f s → IsStep g t
step_by p q rule = rw (sym p, sym q) rule

pub least_by : {bound f g s t : ℕ} {l m : ℤ} → f ≡ g → s ≡ t → l ≡ m → IsLeast bound f s l → IsLeast bound g t m
least_by p q r rule = rw (sym p, sym q, sym r) rule

pub greatest_by : {bound f g s t : ℕ} {l m h k : ℤ} → f ≡ g → s ≡ t → l ≡ m → h ≡ k → IsGreatest bound f s l h → IsGreatest bound g t m k
greatest_by p q r e rule = rw (sym p, sym q, sym r, sym e) rule

pub initial_by : {place a b v w : ℕ} → (0 < place → a ≡ b) → v ≡ w → IsInitialWord place a v → IsInitialWord place b w
initial_by {place} {a} {b} {v} {w} p q rule = record {
  rate_high = λ e. subst (λ n. n < 2 ^ 31) q (rule.rate_high e);
  rate_low = λ e. (let r = rule.rate_low e in let s = p (omega arith) in omega arith);
  format_first = λ e. subst IsFormatFirst q (rule.format_first e);
  format_second = λ e. subst IsFormatSecond q (rule.format_second e);
}

identity_field : (identity : Ident) → IsIdentityField (identity_form identity) (slice_index (identity_words identity) 0) (slice_index (identity_words identity) 1)
    (slice_index (identity_words identity) 2) (slice_index (identity_words identity) 3)
identity_field idents.None = record { none = λ e. refl; behind_second = λ h. refl; behind_third = λ h. refl; behind_fourth = λ h. refl }
identity_field (idents.Word word) = record { none = λ e. absurd (omega arith); behind_second = λ h. refl; behind_third = λ h. refl; behind_fourth = λ h. refl }
identity_field (idents.Uuid words) = record {
  none = λ e. absurd (omega arith);
  behind_second = λ h. absurd (omega arith);
  behind_third = λ h. absurd (omega arith);
  behind_fourth = λ h. absurd (omega arith);
}

identity_by : {f g a b d e m n p q : ℕ} → f ≡ g → a ≡ m → b ≡ n → d ≡ p → e ≡ q → IsIdentityField f a b d e → IsIdentityField g m n p q
identity_by f g h i j rule = rw (sym f, sym g, sym h, sym i, sym j) rule

identity_most : (identity : Ident) → identity_form identity ≤ 2
identity_most idents.None = omega arith
identity_most (idents.Word word) = omega arith
identity_most (idents.Uuid words) = omega arith

-- the fields in front of the initial fields
first_rules : (head : RecordHead) (bytes : List ℕ) (k : ℕ) → AreHeadValues head → AreHeadNumbers head bytes → k < 11 → IsRightIn (head.form == 2) (get_or first_fields k Magic) bytes
first_rules head bytes zero values numbers h = magic_either (head.form == 2) (number_at 0 8 bytes) numbers.start.magic
first_rules head bytes (suc zero) values numbers h = omega (arith, values.profile.cid_fits, numbers.start.cid)
first_rules head bytes (suc (suc zero)) values numbers h = (omega (arith, values.profile.tsi_from, numbers.start.tsi), omega (arith, values.profile.tsi_to, numbers.start.tsi))
first_rules head bytes (suc (suc (suc zero))) values numbers h = (omega (arith, values.max_words_from, numbers.start.max_words), omega (arith, values.max_words_to, numbers.start.max_words))
first_rules head bytes (suc (suc (suc (suc zero)))) values numbers h = omega (arith, values.limits.data_window, numbers.start.data_window)
first_rules head bytes (suc (suc (suc (suc (suc zero))))) values numbers h = omega (arith, values.limits.context_window, numbers.start.context_window)
first_rules head bytes (suc (suc (suc (suc (suc (suc zero)))))) values numbers h = (omega (arith, values.limits.least_kept, numbers.start.kept), omega (arith, values.limits.most_kept, numbers.start.kept))
first_rules head bytes (suc (suc (suc (suc (suc (suc (suc zero))))))) values numbers h = (omega (arith, values.limits.least_pending, numbers.start.pending), omega (arith, values.pending, numbers.start.pending))
first_rules head bytes (suc (suc (suc (suc (suc (suc (suc (suc zero)))))))) values numbers h = count_by refl numbers.start.max_words numbers.start.data_window numbers.start.pending numbers.start.routes_told values.count
first_rules head bytes (suc (suc (suc (suc (suc (suc (suc (suc (suc zero))))))))) values numbers h = omega (arith, numbers.start.identity_told, identity_most head.identity)
first_rules head bytes (suc (suc (suc (suc (suc (suc (suc (suc (suc (suc zero)))))))))) values numbers h = identity_by numbers.start.identity_told (numbers.identity.each 0 (omega arith)) (numbers.identity.each 1 (omega arith)) (numbers.identity.each 2 (omega arith)) (numbers.identity.each 3 (omega arith)) (identity_field head.identity)
first_rules head bytes (suc (suc (suc (suc (suc (suc (suc (suc (suc (suc (suc k))))))))))) values numbers h = absurd (omega arith)

initial_rules : (head : RecordHead) (bytes : List ℕ) (place : ℕ) → AreHeadValues head → AreHeadNumbers head bytes → place < 19 → IsRightIn (head.form == 2) (Initial place) bytes
initial_rules head bytes place values numbers h =
    initial_by (λ k. numbers.initial.each (place - 1) (omega arith) ∙ ap (λ o. number_at o 4 bytes) (omega arith)) (numbers.initial.each place h) (rule_of_word head.initial place values.initial.fields)

-- the bounds
pub least_read : (limit : Limit) (bound : ℕ) (bytes : List ℕ) → IsBound bound limit → IsLimitSpelled limit bound bytes → limit.least ≡ signed_at (148 + 28 * bound) bytes
least_read limit bound bytes rule told = sym (to_z-of_z w64 limit.least rule.least_fits) ∙ ap (cast_signed w64) told.least_told

pub greatest_read : (limit : Limit) (bound : ℕ) (bytes : List ℕ) → IsBound bound limit → IsLimitSpelled limit bound bytes → limit.greatest ≡ signed_at (156 + 28 * bound) bytes
greatest_read limit bound bytes rule told = sym (to_z-of_z w64 limit.greatest rule.greatest_fits) ∙ ap (cast_signed w64) told.greatest_told

flag_most : (b : Bool) (n : ℕ) → (if b then 1 else 0) ≡ n → n ≤ 1
flag_most true n e = omega arith
flag_most false n e = omega arith

limit_rules : (second : Bool) (limit : Limit) (bound place : ℕ) (bytes : List ℕ) → IsBound bound limit → IsLimitSpelled limit bound bytes → place < 4
    → IsRightIn second (bound_field bound place) bytes
limit_rules second limit bound zero bytes rule told h = flag_most limit.settable (number_at (136 + 28 * bound) 4 bytes) told.flag
limit_rules second limit bound (suc zero) bytes rule told h = step_by told.flag told.step_told rule.step
limit_rules second limit bound (suc (suc zero)) bytes rule told h = least_by told.flag told.step_told (least_read limit bound bytes rule told) rule.least
limit_rules second limit bound (suc (suc (suc zero))) bytes rule told h =
    greatest_by told.flag told.step_told (least_read limit bound bytes rule told) (greatest_read limit bound bytes rule told) rule.greatest
limit_rules second limit bound (suc (suc (suc (suc place)))) bytes rule told h = absurd (omega arith)

-- the routes
nowhere : Route
nowhere = record { stream = 0; ports = []; number = 0 }

no_limit : Limit
no_limit = record { settable = false; step = 0; least = pos 0; greatest = pos 0 }

pub stream_told : (second : Bool) (route : Route) (k : ℕ) (bytes : List ℕ) → IsRouteSpelled second route k bytes → route.stream ≡ number_at (route_at second k) 4 bytes
stream_told false route k bytes told = told.stream
stream_told true route k bytes told = told.stream

pub port_told : (route : Route) (k place : ℕ) (bytes : List ℕ) → IsSecondRoute route k bytes → place < 4 → slice_index route.ports place ≡ number_at (port_at true k place) 2 bytes
port_told route k zero bytes told h = told.port0 ∙ ap (λ o. number_at o 2 bytes) (omega arith)
port_told route k (suc zero) bytes told h = told.port1 ∙ ap (λ o. number_at o 2 bytes) (omega arith)
port_told route k (suc (suc zero)) bytes told h = told.port2 ∙ ap (λ o. number_at o 2 bytes) (omega arith)
port_told route k (suc (suc (suc zero))) bytes told h = told.port3 ∙ ap (λ o. number_at o 2 bytes) (omega arith)
port_told route k (suc (suc (suc (suc place)))) bytes told h = absurd (omega arith)

port_rule : (route : Route) (k place : ℕ) (bytes : List ℕ) → IsRoute true route → IsSecondRoute route k bytes → place < 4 → IsPort true k place bytes
port_rule route k place bytes rule told h =
    let number = told.number in
    let here = port_told route k place bytes told h in (
      λ among earlier less e. rule.differ place earlier (omega arith) less (port_told route k earlier bytes told (omega arith) ∙ e ∙ sym here),
      λ behind. sym here ∙ rule.behind place (omega arith),
    )

stream_rule : (second : Bool) (routes : List Route) (k : ℕ) (bytes : List ℕ) → AreRoutes second routes → AreRoutesSpelled second routes bytes → k < length routes → IsRightIn second (Stream k) bytes
stream_rule second routes zero bytes rule told h = λ none. absurd (omega arith)
stream_rule second routes (suc k) bytes rule told h = λ some.
    let e : suc k - 1 ≡ k = omega arith in
    let f : k + 1 ≡ suc k = omega arith in
    let before = stream_told second (get_or routes k nowhere) k bytes (told k nowhere (omega arith)) in
    let here = stream_told second (get_or routes (suc k) nowhere) (suc k) bytes (told (suc k) nowhere h) in
    let rising : (get_or routes k nowhere).stream < (get_or routes (suc k) nowhere).stream =
    subst (λ n. (get_or routes k nowhere).stream < (get_or routes n nowhere).stream) f (rule.rising k nowhere (omega arith)) in
    let less : number_at (route_at second k) 4 bytes < number_at (route_at second (suc k)) 4 bytes = omega arith in
    subst (λ n. number_at (route_at second n) 4 bytes < number_at (route_at second (suc k)) 4 bytes) (sym e) less

route_rules : (second : Bool) (routes : List Route) (k place : ℕ) (bytes : List ℕ) → AreRoutes second routes → AreRoutesSpelled second routes bytes → k < length routes → place < route_fields second
    → IsRightIn second (route_field second k place) bytes
route_rules false routes k zero bytes rule told h g = stream_rule false routes k bytes rule told h
route_rules false routes k (suc zero) bytes rule told h g = tt
route_rules false routes k (suc (suc zero)) bytes rule told h g = sym (told k nowhere h).zero
route_rules false routes k (suc (suc (suc place))) bytes rule told h g = absurd (omega arith)
route_rules true routes k zero bytes rule told h g = stream_rule true routes k bytes rule told h
route_rules true routes k (suc zero) bytes rule told h g =
    let number = (told k nowhere h).number in
    let one = rule.each k nowhere h in
    (omega (arith, one.from), omega (arith, one.to))
route_rules true routes k (suc (suc zero)) bytes rule told h g = port_rule (get_or routes k nowhere) k 0 bytes (rule.each k nowhere h) (told k nowhere h) (omega arith)
route_rules true routes k (suc (suc (suc zero))) bytes rule told h g = port_rule (get_or routes k nowhere) k 1 bytes (rule.each k nowhere h) (told k nowhere h) (omega arith)
route_rules true routes k (suc (suc (suc (suc zero)))) bytes rule told h g = port_rule (get_or routes k nowhere) k 2 bytes (rule.each k nowhere h) (told k nowhere h) (omega arith)
route_rules true routes k (suc (suc (suc (suc (suc zero))))) bytes rule told h g = port_rule (get_or routes k nowhere) k 3 bytes (rule.each k nowhere h) (told k nowhere h) (omega arith)
route_rules true routes k (suc (suc (suc (suc (suc (suc zero)))))) bytes rule told h g = sym (told k nowhere h).zero
route_rules true routes k (suc (suc (suc (suc (suc (suc (suc place))))))) bytes rule told h g = absurd (omega arith)

-- every field
pub field_first : (second : Bool) (k : ℕ) → k < 11 → field_at second k ≡ get_or first_fields k Magic
field_first second k h = let a : nat_lt k 11 ≡ true = grind (arith, common_steps) in rw a refl

pub field_initial : (second : Bool) (k : ℕ) → 11 ≤ k → k < 30 → field_at second k ≡ Initial (k - 11)
field_initial second k g h =
    let a : nat_lt k 11 ≡ false = grind (arith, common_steps) in
    let b : nat_lt k 30 ≡ true = grind (arith, common_steps) in
    rw (a, b) refl

pub field_bound : (second : Bool) (k : ℕ) → 30 ≤ k → k < 58 → field_at second k ≡ bound_field ((k - 30) / 4) ((k - 30) % 4)
field_bound second k g h =
    let a : nat_lt k 11 ≡ false = grind (arith, common_steps) in
    let b : nat_lt k 30 ≡ false = grind (arith, common_steps) in
    let d : nat_lt k 58 ≡ true = grind (arith, common_steps) in
    rw (a, b, d) refl

module _ (head : RecordHead) (bytes : List ℕ) (values : AreHeadValues head) (numbers : AreHeadNumbers head bytes) where
  abbrev second : Bool
  second = head.form == 2

  initial_field : (k : ℕ) → 11 ≤ k → k < 30 → IsRightIn second (field_at second k) bytes
  initial_field k g h = subst (λ field. IsRightIn second field bytes) (sym (field_initial second k g h)) (initial_rules head bytes (k - 11) values numbers (omega arith))

  limit_field : (k : ℕ) → 30 ≤ k → k < 58 → IsRightIn second (field_at second k) bytes
  limit_field k g h =
      let bound = (k - 30) / 4 in
      let there : bound < 7 = omega arith in
      subst (λ field. IsRightIn second field bytes) (sym (field_bound second k g h))
      (limit_rules second (get_or head.bounds bound no_limit) bound ((k - 30) % 4) bytes (bound_of_limit bound (get_or head.bounds bound no_limit) (values.bounds bound no_limit there)) (numbers.bounds bound no_limit there) (omega arith))

  route_rule : (k : ℕ) → 58 ≤ k → k < 58 + route_fields second * length head.routes → IsRightIn second (field_at second k) bytes
  route_rule k g h =
      subst (λ field. IsRightIn second field bytes) (sym (field_behind second k g))
      (route_rules second head.routes ((k - 58) / route_fields second) ((k - 58) % route_fields second) bytes values.routes numbers.routes (quotient second k (length head.routes) g h) (rest second k))

  each_rule : (k : ℕ) → k < 58 + route_fields second * length head.routes → IsRightIn second (field_at second k) bytes
  each_rule k h =
      elim (cases_order k 11) [
        | inl e ↦ initial_field k (omega arith) (omega arith)
        | inr (inl less) ↦ subst (λ field. IsRightIn second field bytes) (sym (field_first second k less)) (first_rules head bytes k values numbers less)
        | inr (inr more) ↦ elim (cases_order k 30) [
          | inl e ↦ limit_field k (omega arith) (omega arith)
          | inr (inl less) ↦ initial_field k (omega arith) less
          | inr (inr above) ↦ elim (cases_order k 58) [
            | inl e ↦ route_rule k (omega arith) h
            | inr (inl less) ↦ limit_field k (omega arith) less
            | inr (inr behind) ↦ route_rule k (omega arith) h
          ]
        ]
      ]

  each_good : (k : ℕ) → k < 58 + route_fields second * length head.routes → IsGood second (field_at second k) bytes
  each_good k h = record {
    there = omega (arith, field_ends second k (length head.routes) h, numbers.all);
    right = right_up_to second (field_at second k) bytes (each_rule k h);
  }

  pub whole_by_values : IsWholeHead bytes
  whole_by_values =
      let form = second_told head bytes numbers in
      let count = numbers.start.routes_told in record {
        all = numbers.all ∙ ap (λ n. 332 + route_size second * n) count ∙ ap (λ s. 332 + route_size s * number_at 36 4 bytes) (sym form);
        right = λ k h. (
            let among : k < 58 + route_fields second * length head.routes =
            subst (λ n. k < 58 + route_fields second * n) (sym count) (subst (λ s. k < 58 + route_fields s * number_at 36 4 bytes) form h) in
            subst (λ s. IsGood s (field_at s k) bytes) (sym form) (each_good k among)
            );
      }

-- what it says
limits_by : (l : Limits) (a b d e : ℕ) → l.data_window ≡ a → l.context_window ≡ b → l.kept ≡ d → l.pending ≡ e
    → l ≡ record { data_window = a; context_window = b; kept = d; pending = e }
limits_by l a b d e p q r s = rw (sym p, sym q, sym r, sym s) refl

identity_is : (identity : Ident) (bytes : List ℕ) → identity_form identity ≡ number_at 40 4 bytes → AreNumbers (identity_words identity) 44 4 bytes → IsIdentity identity bytes
identity_is idents.None bytes form words = sym form
identity_is (idents.Word word) bytes form words = (sym form, words.each 0 (omega arith))
identity_is (idents.Uuid words) bytes form numbers = (sym form, numbers)

flag_read : (b : Bool) (n : ℕ) → (if b then 1 else 0) ≡ n → b ≡ (n == 1)
flag_read true n e = rw (sym e) refl
flag_read false n e = rw (sym e) refl

limit_by : (l : Limit) (b : Bool) (s : ℕ) (m g : ℤ) → l.settable ≡ b → l.step ≡ s → l.least ≡ m → l.greatest ≡ g → l ≡ record { settable = b; step = s; least = m; greatest = g }
limit_by l b s m g p q r t = rw (sym p, sym q, sym r, sym t) refl

limit_is : (limit : Limit) (bound : ℕ) (bytes : List ℕ) → IsBound bound limit → IsLimitSpelled limit bound bytes → limit ≡ limit_in bound bytes
limit_is limit bound bytes rule told =
    limit_by limit _ _ _ _ (flag_read limit.settable (number_at (136 + 28 * bound) 4 bytes) told.flag) told.step_told (least_read limit bound bytes rule told) (greatest_read limit bound bytes rule told)

bounds_are : (bounds : List Limit) (bytes : List ℕ) → length bounds ≡ 7 → ((bound : ℕ) (other : Limit) → bound < 7 → IsBound bound (get_or bounds bound other)) → AreLimitsSpelled bounds bytes
    → bounds ≡ bounds_in bytes
bounds_are bounds bytes all rules told =
    same_lists bounds (bounds_in bytes) all
    (λ k other h. (
    let there : k < 7 = omega arith in
    limit_is (get_or bounds k other) k bytes (rules k other there) (told k other there) ∙ sym (bound_there bytes k other there)
    ))

four_places : (xs : List ℕ) → length xs ≡ 4 → xs ≡ slice_index xs 0 ∷ slice_index xs 1 ∷ slice_index xs 2 ∷ slice_index xs 3 ∷ []
four_places (a ∷ b ∷ d ∷ e ∷ []) all = refl
four_places [] all = absurd (omega arith)
four_places (a ∷ []) all = absurd (omega arith)
four_places (a ∷ b ∷ []) all = absurd (omega arith)
four_places (a ∷ b ∷ d ∷ []) all = absurd (omega arith)
four_places (a ∷ b ∷ d ∷ e ∷ f ∷ xs) all = absurd (omega arith)

four_by : {a b d e m n p q : ℕ} → a ≡ m → b ≡ n → d ≡ p → e ≡ q → a ∷ b ∷ d ∷ e ∷ [] ≡ m ∷ n ∷ p ∷ q ∷ []
four_by p q r s = cc

route_by : (route : Route) (s n : ℕ) (ports : List ℕ) → route.stream ≡ s → route.ports ≡ ports → route.number ≡ n → route ≡ record { stream = s; ports = ports; number = n }
route_by route s n ports p q r = rw (sym p, sym q, sym r) refl

route_is : (second : Bool) (route : Route) (k : ℕ) (bytes : List ℕ) → IsRoute second route → IsRouteSpelled second route k bytes → route ≡ route_in second k bytes
route_is false route k bytes rule told =
    let one : route.number ≡ 1 = omega (arith, rule.from, rule.to) in
    let port : slice_index route.ports 0 ≡ number_at (port_at false k 0) 2 bytes = told.port ∙ ap (λ o. number_at o 2 bytes) (omega arith) in
    route_by route _ _ _ told.stream
    (four_places route.ports rule.places ∙ four_by port (rule.behind 1 (omega arith)) (rule.behind 2 (omega arith)) (rule.behind 3 (omega arith))) one
route_is true route k bytes rule told =
    route_by route _ _ _ told.stream
    (four_places route.ports rule.places
    ∙ four_by (port_told route k 0 bytes told (omega arith)) (port_told route k 1 bytes told (omega arith)) (port_told route k 2 bytes told (omega arith)) (port_told route k 3 bytes told (omega arith)))
    told.number

routes_are : (second : Bool) (routes : List Route) (n : ℕ) (bytes : List ℕ) → length routes ≡ n → AreRoutes second routes → AreRoutesSpelled second routes bytes → routes ≡ routes_in second n bytes
routes_are second routes n bytes all rules told =
    same_lists routes (routes_in second n bytes) (all ∙ sym (length-routes_in second n bytes))
    (λ k other h. (
    let among : k < n = omega arith in
    route_is second (get_or routes k other) k bytes (rules.each k other h) (told k other h) ∙ sym (route_here second n bytes k other among)
    ))

-- bytes with its numbers are the header
pub head_by_values : (head : RecordHead) (bytes : List ℕ) → AreHeadValues head → AreHeadNumbers head bytes → IsHead head bytes
head_by_values head bytes values numbers =
    let form = second_told head bytes numbers in
    let start = numbers.start in record {
      whole = whole_by_values head bytes values numbers;
      form = form_by head.form values.form ∙ ap form_number (sym form);
      profile = ap (λ n. profile_of n head.profile.tsi) start.cid ∙ ap (profile_of (number_at 8 4 bytes)) start.tsi;
      max_words = start.max_words;
      limits = limits_by head.limits _ _ _ _ start.data_window start.context_window start.kept start.pending;
      identity = identity_is head.identity bytes start.identity_told numbers.identity;
      initial = numbers.initial;
      bounds = bounds_are head.bounds bytes values.bounds_all (λ bound other h. bound_of_limit bound (get_or head.bounds bound other) (values.bounds bound other h)) numbers.bounds;
      routes = routes_are (head.form == 2) head.routes (number_at 36 4 bytes) bytes start.routes_told values.routes numbers.routes
          ∙ ap (λ s. routes_in s (number_at 36 4 bytes) bytes) (sym form);
    }

-- a header whose values obey the rules can be spelled
pub spelled_by_values : (head : RecordHead) → AreHeadValues head → IsSpelledHead head
spelled_by_values head values = record {
  bytes = head_bytes head;
  fit = head_bytes_fit head;
  says = head_by_values head (head_bytes head) values (numbers_there head values);
}
