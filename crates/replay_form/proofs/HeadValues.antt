-- What a header's bytes say obeys the rules of values.
use Rattle.std.proofs.Common.{◌≡◌, ℕ, zero, suc, ◌+◌, ◌*◌, ◌-◌, ◌/◌, ◌%◌, ◌<◌, ◌≤◌, ◌⊎◌, Bool, true, false, List, length, slice_index, get_or, inl, inr, refl, sym, ap, ◌∙◌, subst, lit<, arith}
use Rattle.std.specs.Int.{w64}
use Rattle.std.specs.Int.RustNames.{FitsSigned}
use Rattle.std.proofs.Math.Facts.{sfits_to_z}
use Rattle.std.proofs.lemmas.Bool.{cases_order}
use Rattle.std.proofs.lemmas.List.{get_or_past}
use Rattle.vrt_words.specs.Words.{AreBytes, AreWords}
use Rattle.vrt_header.specs.Profile.{IsProfile}
use Rattle.vrt_fields.specs.declared.limit.Limit.{Limit}
use Rattle.replay_form.specs.Numbers.{number_at, signed_at, AreNumbers}
use Rattle.replay_form.specs.Head.{IsHead, IsSpelledHead, form_number, limit_in, ports_in, route_in}
use Rattle.replay_form.specs.HeadFields.{IsInitialWord, IsRightIn, IsWholeHead, is_second, field_at, field_count, bound_field, route_at, port_at, route_fields, route_field, most_pending}
use Rattle.replay_form.proofs.HeadLaws.{whole_ranges, head_profile, route_good}
use Rattle.replay_form.specs.HeadSpelling.{IsLimitSpelled, identity_words}
use Rattle.replay_form.proofs.HeadSpellingLaws.{head_start, head_form, identity_spelled, limits_spelled, routes_spelled, bound_there, route_here, length-routes_in, number_below}
use Rattle.replay_form.proofs.BoundLaws.{IsBound, limit_of_bound}
use Rattle.replay_form.specs.HeadValues.{AreHeadValues}
use Rattle.vrt_fields.specs.Route.{IsRoute, AreRoutes}
use Rattle.replay_form.specs.declared.head_field.HeadField.TheVariants.{Initial, Port, Stream}
use Rattle.replay_form.specs.declared.record_head.RecordHead.{RecordHead}
use Rattle.replay_form.proofs.FieldRules.{right_here}
use Rattle.replay_form.proofs.HeadSaid.{count_by, step_by, least_by, greatest_by, initial_by, stream_told, field_initial, field_bound}

form_either : (second : Bool) (n : ℕ) → n ≡ form_number second → (n ≡ 1) ⊎ (n ≡ 2)
form_either true n e = inr e
form_either false n e = inl e

most_there : (second : Bool) (n : ℕ) → n ≤ most_pending second → n ≤ 1048576
most_there true n h = omega arith
most_there false n h = omega arith

-- numbers of four bytes are words
are_words : (words : List ℕ) (offset n : ℕ) (bytes : List ℕ) → AreBytes bytes → AreNumbers words offset n bytes → AreWords words
are_words words offset n bytes fit numbers i =
    let all = numbers.all in
    elim (cases_order i n) [
      | inl e ↦ (let past = get_or_past words i 0 (omega arith) in omega arith)
      | inr (inl less) ↦ (let e = numbers.each i less in let below = number_below (offset + 4 * i) 4 bytes fit in omega arith)
      | inr (inr more) ↦ (let past = get_or_past words i 0 (omega arith) in omega arith)
    ]

-- the rule of a field
rule_of : (bytes : List ℕ) (k : ℕ) → IsWholeHead bytes → k < field_count bytes → IsRightIn (is_second bytes) (field_at (is_second bytes) k) bytes
rule_of bytes k whole h = right_here (is_second bytes) (field_at (is_second bytes) k) bytes (whole.right k h).right

initial_rule : (bytes : List ℕ) (place : ℕ) → IsWholeHead bytes → place < 19 → IsRightIn (is_second bytes) (Initial place) bytes
initial_rule bytes place whole h =
    let e : 11 + place - 11 ≡ place = omega arith in
    subst (λ n. IsRightIn (is_second bytes) (Initial n) bytes) e
    (subst (λ field. IsRightIn (is_second bytes) field bytes) (field_initial (is_second bytes) (11 + place) (omega arith) (omega arith)) (rule_of bytes (11 + place) whole (omega arith)))

bound_rule : (bytes : List ℕ) (bound place : ℕ) → IsWholeHead bytes → bound < 7 → place < 4 → IsRightIn (is_second bytes) (bound_field bound place) bytes
bound_rule bytes bound place whole h g =
    let k = 30 + (4 * bound + place) in
    let q : (k - 30) / 4 ≡ bound = omega arith in
    let m : (k - 30) % 4 ≡ place = omega arith in
    subst (λ n. IsRightIn (is_second bytes) (bound_field n place) bytes) q
    (subst (λ n. IsRightIn (is_second bytes) (bound_field ((k - 30) / 4) n) bytes) m
    (subst (λ field. IsRightIn (is_second bytes) field bytes) (field_bound (is_second bytes) k (omega arith) (omega arith)) (rule_of bytes k whole (omega arith))))

-- the bounds
signed_fits : (offset : ℕ) (bytes : List ℕ) → AreBytes bytes → FitsSigned w64 (signed_at offset bytes)
signed_fits offset bytes fit = sfits_to_z (record { fits = number_below offset 8 bytes fit })

bound_by : (limit : Limit) (bound : ℕ) (bytes : List ℕ) → AreBytes bytes → IsWholeHead bytes → bound < 7 → limit ≡ limit_in bound bytes → IsLimitSpelled limit bound bytes → IsBound bound limit
bound_by limit bound bytes fit whole h e told =
    let flag = sym told.flag in
    let step = sym told.step_told in
    let least : signed_at (148 + 28 * bound) bytes ≡ limit.least = ap (λ (l : Limit). l.least) (sym e) in
    let greatest : signed_at (156 + 28 * bound) bytes ≡ limit.greatest = ap (λ (l : Limit). l.greatest) (sym e) in record {
      step = step_by flag step (bound_rule bytes bound 1 whole h (omega arith));
      least = least_by flag step least (bound_rule bytes bound 2 whole h (omega arith));
      greatest = greatest_by flag step least greatest (bound_rule bytes bound 3 whole h (omega arith));
      least_fits = subst (FitsSigned w64) least (signed_fits (148 + 28 * bound) bytes fit);
      greatest_fits = subst (FitsSigned w64) greatest (signed_fits (156 + 28 * bound) bytes fit);
    }

-- the routes
port_read : (k place : ℕ) (bytes : List ℕ) → place < 4 → slice_index (ports_in true k bytes) place ≡ number_at (port_at true k place) 2 bytes
port_read k zero bytes h = refl
port_read k (suc zero) bytes h = refl
port_read k (suc (suc zero)) bytes h = refl
port_read k (suc (suc (suc zero))) bytes h = refl
port_read k (suc (suc (suc (suc place)))) bytes h = absurd (omega arith)

port_field : (k place : ℕ) → place < 4 → route_field true k (2 + place) ≡ Port k place
port_field k zero h = refl
port_field k (suc zero) h = refl
port_field k (suc (suc zero)) h = refl
port_field k (suc (suc (suc zero))) h = refl
port_field k (suc (suc (suc (suc place)))) h = absurd (omega arith)

none_past : (second : Bool) (k place : ℕ) (bytes : List ℕ) → 4 ≤ place → slice_index (ports_in second k bytes) place ≡ 0
none_past true k place bytes h = get_or_past (ports_in true k bytes) place 0 h
none_past false k place bytes h = get_or_past (ports_in false k bytes) place 0 h

one_port : (k place : ℕ) (bytes : List ℕ) → 1 ≤ place → slice_index (ports_in false k bytes) place ≡ 0
one_port k zero bytes h = absurd (omega arith)
one_port k (suc zero) bytes h = refl
one_port k (suc (suc zero)) bytes h = refl
one_port k (suc (suc (suc zero))) bytes h = refl
one_port k (suc (suc (suc (suc place)))) bytes h = none_past false k (suc (suc (suc (suc place)))) bytes (omega arith)

route_by : (second : Bool) (k : ℕ) (bytes : List ℕ) → AreBytes bytes → ((place : ℕ) → place < route_fields second → IsRightIn second (route_field second k place) bytes)
    → IsRoute second (route_in second k bytes)
route_by false k bytes fit rules = record {
  stream = number_below (route_at false k) 4 bytes fit;
  from = omega arith;
  to = omega arith;
  places = refl;
  fit = λ place. elim (cases_order place 0) [
    | inl e ↦ (
        let here = ap (slice_index (ports_in false k bytes)) e in
        let below = number_below (port_at false k 0) 2 bytes fit in
        omega arith
        )
    | inr (inl less) ↦ absurd (omega arith)
    | inr (inr more) ↦ (let none = one_port k place bytes (omega arith) in omega arith)
  ];
  differ = λ place earlier h less. absurd (omega arith);
  behind = λ place h. one_port k place bytes h;
}
route_by true k bytes fit rules =
    let number = rules 1 (omega arith) in
    let port : (place : ℕ) → (h : place < 4) → IsRightIn true (Port k place) bytes =
    λ place h. subst (λ field. IsRightIn true field bytes) (port_field k place h) (rules (2 + place) (omega arith)) in record {
      stream = number_below (route_at true k) 4 bytes fit;
      from = number.0;
      to = number.1;
      places = refl;
      fit = λ place. elim (cases_order place 4) [
        | inl e ↦ (let none = none_past true k place bytes (omega arith) in omega arith)
        | inr (inl less) ↦ (let here = port_read k place bytes less in let below = number_below (port_at true k place) 2 bytes fit in omega arith)
        | inr (inr more) ↦ (let none = none_past true k place bytes (omega arith) in omega arith)
      ];
      differ = λ place earlier h less e. (
          let among : place < 4 = omega (arith, number.1) in
          (port place among).0 h earlier less (sym (port_read k earlier bytes (omega arith)) ∙ e ∙ port_read k place bytes among)
          );
      behind = λ place h. elim (cases_order place 4) [
        | inl e ↦ none_past true k place bytes (omega arith)
        | inr (inl less) ↦ port_read k place bytes less ∙ (port place less).1 h
        | inr (inr more) ↦ none_past true k place bytes (omega arith)
      ];
    }

route_rule : (bytes : List ℕ) (k place : ℕ) → IsWholeHead bytes → k < number_at 36 4 bytes → place < route_fields (is_second bytes)
    → IsRightIn (is_second bytes) (route_field (is_second bytes) k place) bytes
route_rule bytes k place whole h g = right_here (is_second bytes) (route_field (is_second bytes) k place) bytes (route_good bytes k place whole h g).right

stream_field : (second : Bool) (k : ℕ) → route_field second k 0 ≡ Stream k
stream_field true k = refl
stream_field false k = refl

some_field : (second : Bool) → 0 < route_fields second
some_field true = lit< tt
some_field false = lit< tt

routes_by : (head : RecordHead) (bytes : List ℕ) → AreBytes bytes → IsHead head bytes → AreRoutes (is_second bytes) head.routes
routes_by head bytes fit is =
    let second = is_second bytes in
    let n = number_at 36 4 bytes in
    let count = ap length is.routes ∙ length-routes_in second n bytes in
    let told = routes_spelled head bytes fit is in record {
      each = λ k other h. (
          let among : k < n = omega arith in
          subst (IsRoute second) (sym (ap (λ routes. get_or routes k other) is.routes ∙ route_here second n bytes k other among))
          (route_by second k bytes fit (λ place g. route_rule bytes k place is.whole among g))
          );
      rising = λ k other h. (
          let among : k + 1 < n = omega arith in
          let less : IsRightIn second (Stream (k + 1)) bytes = subst (λ field. IsRightIn second field bytes) (stream_field second (k + 1)) (route_rule bytes (k + 1) 0 is.whole among (some_field second)) in
          let e : k + 1 - 1 ≡ k = omega arith in
          let rising : number_at (route_at second k) 4 bytes < number_at (route_at second (k + 1)) 4 bytes =
          subst (λ i. number_at (route_at second i) 4 bytes < number_at (route_at second (k + 1)) 4 bytes) e (less (omega arith)) in
          let before = stream_told second (get_or head.routes k other) k bytes (told k other (omega arith)) in
          let here = stream_told second (get_or head.routes (k + 1) other) (k + 1) bytes (told (k + 1) other h) in
          omega arith
          );
    }

values_by : (head : RecordHead) (bytes : List ℕ) → AreBytes bytes → IsHead head bytes → AreHeadValues head
values_by head bytes fit is =
    let start = head_start head bytes fit is in
    let ranges = whole_ranges bytes is.whole in
    let form = sym (head_form head bytes is) in
    let identity = identity_spelled head.identity bytes is.whole is.identity in
    let rule : (place : ℕ) → place < 19 → IsInitialWord place (slice_index head.initial (place - 1)) (slice_index head.initial place) =
    λ place h. initial_by (λ k. ap (λ o. number_at o 4 bytes) (omega arith) ∙ sym (is.initial.each (place - 1) (omega arith))) (sym (is.initial.each place h))
    (initial_rule bytes place is.whole h) in
    let limits = limits_spelled head bytes fit is in record {
      form = form_either (is_second bytes) head.form is.form;
      profile = subst IsProfile (sym is.profile) (head_profile bytes ranges);
      max_words_from = omega arith;
      max_words_to = omega arith;
      limits = record {
        data_window = omega arith;
        context_window = omega arith;
        least_kept = omega arith;
        most_kept = omega arith;
        least_pending = omega arith;
        most_pending = (let m = most_there (is_second bytes) (number_at 32 4 bytes) ranges.pending_to in omega arith);
      };
      pending = subst (λ s. head.limits.pending ≤ most_pending s) form (subst (λ n. n ≤ most_pending (is_second bytes)) (sym start.pending) ranges.pending_to);
      count = count_by form (sym start.max_words) (sym start.data_window) (sym start.pending) (sym start.routes_told) ranges.routes;
      identity = record { four = identity.all; fit = are_words (identity_words head.identity) 44 4 bytes fit identity };
      initial = record {
        all = is.initial.all;
        fit = are_words head.initial 60 19 bytes fit is.initial;
        fields = record {
          rate = record { positive = (rule 11 (omega arith)).rate_high refl; least = (rule 12 (omega arith)).rate_low refl };
          format_first = (rule 17 (omega arith)).format_first refl;
          format_second = (rule 18 (omega arith)).format_second refl;
        };
      };
      bounds_all = ap length is.bounds;
      bounds = λ bound other h. limit_of_bound bound (get_or head.bounds bound other) h
          (bound_by (get_or head.bounds bound other) bound bytes fit is.whole h (ap (λ bounds. get_or bounds bound other) is.bounds ∙ bound_there bytes bound other h)
          (limits bound other h));
      routes = subst (λ s. AreRoutes s head.routes) form (routes_by head bytes fit is);
    }

-- the values of a header that bytes spell obey the rules
pub values_by_spelled : (head : RecordHead) → IsSpelledHead head → AreHeadValues head
values_by_spelled head spelled = values_by head spelled.bytes spelled.fit spelled.says
