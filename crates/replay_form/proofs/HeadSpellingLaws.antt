-- What a header's bytes say is spelled by its numbers, one after another.
use Rattle.std.proofs.Common.{◌≡◌, ℕ, zero, suc, ◌+◌, ◌*◌, ◌-◌, ◌<◌, ◌≤◌, ◌^◌, ◌==◌, ◌&&◌, ◌⊎◌, nat_le, if◌then◌else◌, Bool, true, false, List, [], ◌∷◌, length, take, slice_index, get_or, inl, inr, refl, sym, ap, ◌∙◌, subst, length-append, lit<, arith}
use Rattle.std.proofs.lemmas.Grind.{common_steps}
use Rattle.std.proofs.lemmas.Int.{of_z-to_z}
use Rattle.std.proofs.lemmas.Bool.{cases_order}
use Rattle.std.proofs.lemmas.List.{get_or_append_left, get_or-append_right}
use Rattle.std.specs.Int.{w64, cast_unsigned, cast_signed}
use Rattle.vrt_header.specs.Profile.{PacketProfile}
use Rattle.vrt_words.specs.Words.{AreBytes}
use Rattle.vrt_fields.specs.declared.limit.Limit.{Limit}
use Rattle.vrt_fields.specs.declared.route.Route.{Route}
use Rattle.vrt_fields.specs.declared.limits.Limits.{Limits}
use Rattle.cam_field.specs.declared.ident.Ident.{Ident}
use Rattle.cam_field.specs.declared.ident.Ident.TheVariants as idents
use Rattle.replay_form.specs.Numbers.{number_at, AreNumbers}
use Rattle.replay_form.proofs.NumberLaws.{number_at-take}
use Rattle.replay_form.specs.Head.{IsHead, IsIdentity, limit_in, bounds_in, route_in, routes_in, form_number}
use Rattle.replay_form.specs.HeadFields.{IsWholeHead, IsGood, is_second, first_magic, second_magic, route_at, route_size, route_fields, route_field, most_routes}
use Rattle.replay_form.proofs.HeadLaws.{whole_ranges, route_good, route_there}
use Rattle.replay_form.specs.HeadSpelling.{IsHeadStart, IsLimitSpelled, AreLimitsSpelled, IsRouteSpelled, AreRoutesSpelled, identity_form, identity_words, magic_of, size_of_head}
use Rattle.byteorder.specs.Numbers.{big_from-lt}
use Rattle.replay_form.specs.declared.head_field.HeadField.TheVariants.{Zero}
use Rattle.replay_form.specs.declared.record_head.RecordHead.{RecordHead}

pub length-routes_in : (second : Bool) (n : ℕ) (bytes : List ℕ) → length (routes_in second n bytes) ≡ n
length-routes_in second zero bytes = refl
length-routes_in second (suc n) bytes = omega (arith, length-append (routes_in second n bytes) (route_in second n bytes ∷ []), length-routes_in second n bytes)

-- the form that a header names
form_second : (second : Bool) → (form_number second == 2) ≡ second
form_second true = refl
form_second false = refl

pub head_form : (head : RecordHead) (bytes : List ℕ) → IsHead head bytes → (head.form == 2) ≡ is_second bytes
head_form head bytes is = ap (λ n. n == 2) is.form ∙ form_second (is_second bytes)

magic_by : (n size : ℕ) → 8 ≤ size → (n ≡ first_magic) ⊎ (n ≡ second_magic) → magic_of (form_number (nat_le 8 size && (n == second_magic))) ≡ n
magic_by n size h (inl e) = let there : nat_le 8 size ≡ true = grind (arith, common_steps) in rw (there, e) refl
magic_by n size h (inr e) = let there : nat_le 8 size ≡ true = grind (arith, common_steps) in rw (there, e) refl

magic_told : (bytes : List ℕ) → IsWholeHead bytes → magic_of (form_number (is_second bytes)) ≡ number_at 0 8 bytes
magic_told bytes whole =
    let good = whole.right 0 (omega arith) in
    magic_by (number_at 0 8 bytes) (length bytes) good.there
    (subst (λ n. (n ≡ first_magic) ⊎ (n ≡ second_magic)) (number_at-take 0 8 8 bytes (omega arith)) good.right)

identity_told : (ident : Ident) (bytes : List ℕ) → IsIdentity ident bytes → identity_form ident ≡ number_at 40 4 bytes
identity_told idents.None bytes e = sym e
identity_told (idents.Word word) bytes e = sym e.0
identity_told (idents.Uuid words) bytes e = sym e.0

pub head_start : (head : RecordHead) (bytes : List ℕ) → AreBytes bytes → IsHead head bytes → IsHeadStart head bytes
head_start head bytes fit is = record {
  fit = fit;
  there = omega (arith, is.whole.all);
  magic = ap magic_of is.form ∙ magic_told bytes is.whole;
  cid = ap (λ (p : PacketProfile). p.cid) is.profile;
  tsi = ap (λ (p : PacketProfile). p.tsi) is.profile;
  max_words = is.max_words;
  data_window = ap (λ (l : Limits). l.data_window) is.limits;
  context_window = ap (λ (l : Limits). l.context_window) is.limits;
  kept = ap (λ (l : Limits). l.kept) is.limits;
  pending = ap (λ (l : Limits). l.pending) is.limits;
  routes_told = ap length is.routes ∙ length-routes_in (is_second bytes) (number_at 36 4 bytes) bytes;
  identity_told = identity_told head.identity bytes is.identity;
}

-- the four words of the identity
pub record IdentityBytes (bytes : List ℕ) : Type 0 where
  pub none : number_at 40 4 bytes ≡ 0 → number_at 44 4 bytes ≡ 0
  pub behind_second : number_at 40 4 bytes ≤ 1 → number_at 48 4 bytes ≡ 0
  pub behind_third : number_at 40 4 bytes ≤ 1 → number_at 52 4 bytes ≡ 0
  pub behind_fourth : number_at 40 4 bytes ≤ 1 → number_at 56 4 bytes ≡ 0

identity_bytes : (bytes : List ℕ) → IsWholeHead bytes → IdentityBytes bytes
identity_bytes bytes whole =
    let right = (whole.right 10 (omega arith)).right in
    let form = number_at-take 40 4 60 bytes (omega arith) in
    let first = number_at-take 44 4 60 bytes (omega arith) in
    let second = number_at-take 48 4 60 bytes (omega arith) in
    let third = number_at-take 52 4 60 bytes (omega arith) in
    let fourth = number_at-take 56 4 60 bytes (omega arith) in record {
      none = λ e. sym first ∙ right.none (form ∙ e);
      behind_second = λ h. sym second ∙ right.behind_second (omega arith);
      behind_third = λ h. sym third ∙ right.behind_third (omega arith);
      behind_fourth = λ h. sym fourth ∙ right.behind_fourth (omega arith);
    }

four_numbers : (a b d e : ℕ) (bytes : List ℕ) → a ≡ number_at 44 4 bytes → b ≡ number_at 48 4 bytes → d ≡ number_at 52 4 bytes → e ≡ number_at 56 4 bytes
    → (i : ℕ) → i < 4 → slice_index (a ∷ b ∷ d ∷ e ∷ []) i ≡ number_at (44 + 4 * i) 4 bytes
four_numbers a b d e bytes p q r s zero h = p
four_numbers a b d e bytes p q r s (suc zero) h = q
four_numbers a b d e bytes p q r s (suc (suc zero)) h = r
four_numbers a b d e bytes p q r s (suc (suc (suc zero))) h = s
four_numbers a b d e bytes p q r s (suc (suc (suc (suc i)))) h = absurd (omega arith)

pub identity_spelled : (ident : Ident) (bytes : List ℕ) → IsWholeHead bytes → IsIdentity ident bytes → AreNumbers (identity_words ident) 44 4 bytes
identity_spelled idents.None bytes whole is =
    let rule = identity_bytes bytes whole in record {
      all = refl;
      each = four_numbers 0 0 0 0 bytes (sym (rule.none is)) (sym (rule.behind_second (omega arith))) (sym (rule.behind_third (omega arith))) (sym (rule.behind_fourth (omega arith)));
    }
identity_spelled (idents.Word word) bytes whole is =
    let rule = identity_bytes bytes whole in
    let form = is.0 in record {
      all = refl;
      each = four_numbers word 0 0 0 bytes is.1 (sym (rule.behind_second (omega arith))) (sym (rule.behind_third (omega arith))) (sym (rule.behind_fourth (omega arith)));
    }
identity_spelled (idents.Uuid words) bytes whole is = is.1

-- the bounds
pub number_below : (offset width : ℕ) (bytes : List ℕ) → AreBytes bytes → number_at offset width bytes < 256 ^ width
unfolding number_at
number_below offset width bytes fit = big_from-lt offset width bytes fit

flag_told : (n : ℕ) → n ≤ 1 → (if (n == 1) then 1 else 0) ≡ n
flag_told zero h = refl
flag_told (suc zero) h = refl
flag_told (suc (suc n)) h = absurd (omega arith)

bits_told : (n : ℕ) → n < 256 ^ 8 → cast_unsigned w64 (cast_signed w64 n) ≡ n
bits_told n h = of_z-to_z w64 n h

limit_one : (bound : ℕ) (bytes : List ℕ) → AreBytes bytes → 332 ≤ length bytes → number_at (136 + 28 * bound) 4 bytes ≤ 1 → IsLimitSpelled (limit_in bound bytes) bound bytes
limit_one bound bytes fit there flag = record {
  fit = fit;
  there = there;
  flag = flag_told (number_at (136 + 28 * bound) 4 bytes) flag;
  step_told = refl;
  least_told = bits_told (number_at (148 + 28 * bound) 8 bytes) (number_below (148 + 28 * bound) 8 bytes fit);
  greatest_told = bits_told (number_at (156 + 28 * bound) 8 bytes) (number_below (156 + 28 * bound) 8 bytes fit);
}

flag_right : (bytes : List ℕ) (k : ℕ) → k < 7 → IsWholeHead bytes → number_at (136 + 28 * k) 4 bytes ≤ 1
flag_right bytes zero h whole = (let e = number_at-take 136 4 140 bytes (omega arith) in let r = (whole.right 30 (omega arith)).right in omega arith)
flag_right bytes (suc zero) h whole = (let e = number_at-take 164 4 168 bytes (omega arith) in let r = (whole.right 34 (omega arith)).right in omega arith)
flag_right bytes (suc (suc zero)) h whole = (let e = number_at-take 192 4 196 bytes (omega arith) in let r = (whole.right 38 (omega arith)).right in omega arith)
flag_right bytes (suc (suc (suc zero))) h whole = (let e = number_at-take 220 4 224 bytes (omega arith) in let r = (whole.right 42 (omega arith)).right in omega arith)
flag_right bytes (suc (suc (suc (suc zero)))) h whole = (let e = number_at-take 248 4 252 bytes (omega arith) in let r = (whole.right 46 (omega arith)).right in omega arith)
flag_right bytes (suc (suc (suc (suc (suc zero))))) h whole = (let e = number_at-take 276 4 280 bytes (omega arith) in let r = (whole.right 50 (omega arith)).right in omega arith)
flag_right bytes (suc (suc (suc (suc (suc (suc zero)))))) h whole = (let e = number_at-take 304 4 308 bytes (omega arith) in let r = (whole.right 54 (omega arith)).right in omega arith)
flag_right bytes (suc (suc (suc (suc (suc (suc (suc k))))))) h whole = absurd (omega arith)

pub bound_there : (bytes : List ℕ) (k : ℕ) (other : Limit) → k < 7 → get_or (bounds_in bytes) k other ≡ limit_in k bytes
bound_there bytes zero other h = refl
bound_there bytes (suc zero) other h = refl
bound_there bytes (suc (suc zero)) other h = refl
bound_there bytes (suc (suc (suc zero))) other h = refl
bound_there bytes (suc (suc (suc (suc zero)))) other h = refl
bound_there bytes (suc (suc (suc (suc (suc zero))))) other h = refl
bound_there bytes (suc (suc (suc (suc (suc (suc zero)))))) other h = refl
bound_there bytes (suc (suc (suc (suc (suc (suc (suc k))))))) other h = absurd (omega arith)

pub limits_spelled : (head : RecordHead) (bytes : List ℕ) → AreBytes bytes → IsHead head bytes → AreLimitsSpelled head.bounds bytes
limits_spelled head bytes fit is k other h =
    subst (λ limit. IsLimitSpelled limit k bytes) (sym (ap (λ bounds. get_or bounds k other) is.bounds ∙ bound_there bytes k other h))
    (limit_one k bytes fit (omega (arith, is.whole.all)) (flag_right bytes k h is.whole))

-- the routes
pub route_here : (second : Bool) (n : ℕ) (bytes : List ℕ) (k : ℕ) (other : Route) → k < n → get_or (routes_in second n bytes) k other ≡ route_in second k bytes
route_here second zero bytes k other h = absurd (omega arith)
route_here second (suc n) bytes k other h =
    let size = length-routes_in second n bytes in
    elim (cases_order k n) [
      | inl e ↦ (
          let first : k - n ≡ 0 = omega arith in
          get_or-append_right (routes_in second n bytes) (route_in second n bytes ∷ []) n k other size (omega arith)
          ∙ ap (λ i. get_or (route_in second n bytes ∷ []) i other) first
          ∙ ap (λ i. route_in second i bytes) (sym e)
          )
      | inr (inl less) ↦ get_or_append_left (routes_in second n bytes) (route_in second n bytes ∷ []) other k (omega arith) ∙ route_here second n bytes k other less
      | inr (inr more) ↦ absurd (omega arith)
    ]

zero_told : (offset : ℕ) (bytes : List ℕ) → number_at offset 2 (take (offset + 2) bytes) ≡ 0 → 0 ≡ number_at offset 2 bytes
zero_told offset bytes e = sym e ∙ number_at-take offset 2 (offset + 2) bytes (omega arith)

route_one : (second : Bool) (route : ℕ) (bytes : List ℕ) → AreBytes bytes → route_at second (route + 1) ≤ length bytes → IsGood second (Zero route) bytes
    → IsRouteSpelled second (route_in second route bytes) route bytes
route_one false route bytes fit there good = record {
  fit = fit;
  there = omega arith;
  stream = refl;
  port = ap (λ o. number_at o 2 bytes) (omega arith);
  zero = zero_told (route_at false route + 6) bytes good.right;
}
route_one true route bytes fit there good = record {
  fit = fit;
  there = omega arith;
  stream = refl;
  number = refl;
  port0 = ap (λ o. number_at o 2 bytes) (omega arith);
  port1 = ap (λ o. number_at o 2 bytes) (omega arith);
  port2 = ap (λ o. number_at o 2 bytes) (omega arith);
  port3 = ap (λ o. number_at o 2 bytes) (omega arith);
  zero = zero_told (route_at true route + 14) bytes good.right;
}

last_place : (second : Bool) → (place : ℕ) × ((place < route_fields second) × ((route : ℕ) → route_field second route place ≡ Zero route))
last_place true = (6, (lit< tt, λ route. refl))
last_place false = (2, (lit< tt, λ route. refl))

pub routes_spelled : (head : RecordHead) (bytes : List ℕ) → AreBytes bytes → IsHead head bytes → AreRoutesSpelled (is_second bytes) head.routes bytes
routes_spelled head bytes fit is k other h =
    let second = is_second bytes in
    let n = number_at 36 4 bytes in
    let count = ap length is.routes ∙ length-routes_in second n bytes in
    let among : k < n = omega arith in
    let last = last_place second in
    let good : IsGood second (Zero k) bytes = subst (λ field. IsGood second field bytes) (last.1.1 k) (route_good bytes k last.0 is.whole among last.1.0) in
    subst (λ route. IsRouteSpelled second route k bytes) (sym (ap (λ routes. get_or routes k other) is.routes ∙ route_here second n bytes k other among))
    (route_one second k bytes fit (route_there bytes k is.whole among) good)

-- there are 256 routes at most
most_256 : (second : Bool) (n : ℕ) → n ≤ most_routes second → n ≤ 256
most_256 true n h = omega arith
most_256 false n h = omega arith

pub few_routes : (head : RecordHead) (bytes : List ℕ) → IsHead head bytes → length head.routes ≤ 256
few_routes head bytes is =
    let count = ap length is.routes ∙ length-routes_in (is_second bytes) (number_at 36 4 bytes) bytes in
    let few = most_256 (is_second bytes) (number_at 36 4 bytes) (whole_ranges bytes is.whole).routes.most in
    omega arith

pub size_told : (head : RecordHead) (bytes : List ℕ) → IsHead head bytes → size_of_head head ≡ length bytes
size_told head bytes is =
    ap (λ s. 332 + route_size s * length head.routes) (head_form head bytes is)
    ∙ ap (λ n. 332 + route_size (is_second bytes) * n) (ap length is.routes ∙ length-routes_in (is_second bytes) (number_at 36 4 bytes) bytes)
    ∙ sym is.whole.all
