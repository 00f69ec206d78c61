-- The bytes of a header by its values.
use Rattle.std.proofs.Common.{◌≡◌, ℕ, zero, suc, ◌+◌, ◌*◌, ◌-◌, ◌<◌, ◌≤◌, ◌^◌, ◌==◌, Bool, true, false, if◌then◌else◌, List, [], ◌∷◌, ◌++◌, length, drop, slice_index, get_or, refl, sym, ap, ◌∙◌, subst, append-nil, length-append, lit<, arith}
use Rattle.std.proofs.Math.Nat.{mul-suc}
use Rattle.std.proofs.lemmas.List.{drop_at, drop-drop, get_or_append_left, get_or-append_right}
use Rattle.std.specs.Int.{w64, cast_unsigned}
use Rattle.std.specs.Int.RustNames.{FitsSigned}
use Rattle.std.specs.Prelude.{ℤ, pos, negsuc}
use Rattle.byteorder.specs.Endian.{big_bytes, big_from}
use Rattle.byteorder.specs.Numbers.{length-bytes_high_first}
use Rattle.vrt_words.specs.Words.{AreBytes, AreWords}
use Rattle.vrt_words.proofs.WordLaws.{AreWords-append}
use Rattle.vrt_fields.specs.declared.limit.Limit.{Limit}
use Rattle.vrt_fields.specs.declared.route.Route.{Route}
use Rattle.cam_field.specs.declared.ident.Ident.{Ident}
use Rattle.cam_field.specs.declared.ident.Ident.TheVariants as idents
use Rattle.replay_form.specs.HeadFields.{IsStep, route_size, route_at, most_routes, first_magic, second_magic}
use Rattle.replay_form.specs.HeadSpelling.{IsHeadStart, IsLimitSpelled, AreLimitsSpelled, IsRouteSpelled, AreRoutesSpelled, identity_form, identity_words, magic_of, size_of_head}
use Rattle.replay_form.proofs.BoundLaws.{IsBound, bound_of_limit}
use Rattle.replay_form.specs.HeadValues.{AreHeadValues}
use Rattle.vrt_fields.specs.Route.{IsRoute}
use Rattle.replay_form.specs.declared.record_head.RecordHead.{RecordHead}
use Rattle.replay_form.specs.Numbers.{number_at, AreNumbers}
use Rattle.replay_form.proofs.NumberLaws.{number_at-drop, number_at-append}
use Rattle.replay_form.proofs.Putting.{number_here, number_next, number_fits, AreBytes-append}

-- a number behind other bytes
pub number_behind : (front back : List ℕ) (size offset width : ℕ) → length front ≡ size → number_at (size + offset) width (front ++ back) ≡ number_at offset width back
number_behind front back size offset width e =
    sym (number_at-drop (size + offset) width (front ++ back)) ∙ ap (big_from 0 width) (sym (drop-drop offset size (front ++ back)) ∙ ap (drop offset) (drop_at front back size e)) ∙ number_at-drop offset width back

-- blocks of one size, one after another
abbrev pub blocks : {A : Type 0} → (A → List ℕ) → List A → List ℕ
blocks f [] = []
blocks f (x ∷ xs) = f x ++ blocks f xs

pub blocks_fit : {A : Type 0} (f : A → List ℕ) (xs : List A) → ((x : A) → AreBytes (f x)) → AreBytes (blocks f xs)
blocks_fit f [] fit = λ i. omega arith
blocks_fit f (x ∷ xs) fit = AreBytes-append (f x) (blocks f xs) (fit x) (blocks_fit f xs fit)

pub length-blocks : {A : Type 0} (f : A → List ℕ) (size : ℕ) (xs : List A) → ((x : A) → length (f x) ≡ size) → length (blocks f xs) ≡ size * length xs
length-blocks f size [] all = omega arith
length-blocks f size (x ∷ xs) all =
    length-append (f x) (blocks f xs) ∙ omega (arith, all x, length-blocks f size xs all, mul-suc size (length xs))

-- a number of a block
pub number_in_block : {A : Type 0} (f : A → List ℕ) (size : ℕ) (xs : List A) (k offset width : ℕ) (other : A) → ((x : A) → length (f x) ≡ size) → k < length xs → offset + width ≤ size
    → number_at (size * k + offset) width (blocks f xs) ≡ number_at offset width (f (get_or xs k other))
number_in_block f size [] k offset width other all h g = absurd (omega arith)
number_in_block f size (x ∷ xs) zero offset width other all h g =
    let e : size * 0 + offset ≡ offset = omega arith in
    let there : offset + width ≤ length (f x) = omega (arith, all x) in
    ap (λ o. number_at o width (f x ++ blocks f xs)) e ∙ number_at-append offset width (f x) (blocks f xs) there
number_in_block f size (x ∷ xs) (suc k) offset width other all h g =
    let e : size * suc k + offset ≡ size + (size * k + offset) = omega (arith, mul-suc size k) in
    ap (λ o. number_at o width (f x ++ blocks f xs)) e
    ∙ number_behind (f x) (blocks f xs) size (size * k + offset) width (all x)
    ∙ number_in_block f size xs k offset width other all (omega arith) g

-- words, one after another
pub word_in_blocks : (words : List ℕ) (k : ℕ) → AreWords words → k < length words → number_at (4 * k) 4 (blocks (big_bytes 4) words) ≡ slice_index words k
word_in_blocks words k fit h =
    let e : 4 * k + 0 ≡ 4 * k = omega arith in
    ap (λ o. number_at o 4 (blocks (big_bytes 4) words)) (sym e)
    ∙ number_in_block (big_bytes 4) 4 words k 0 4 0 (length-bytes_high_first 4) h (omega arith)
    ∙ ap (number_at 0 4) (sym (append-nil (big_bytes 4 (slice_index words k))))
    ∙ number_here 4 (slice_index words k) [] (let f = fit k in omega arith)

-- a bounds entry
abbrev pub limit_bytes : Limit → List ℕ
limit_bytes limit =
    big_bytes 4 (if limit.settable then 1 else 0)
    ++ (big_bytes 8 limit.step ++ (big_bytes 8 (cast_unsigned w64 limit.least) ++ (big_bytes 8 (cast_unsigned w64 limit.greatest) ++ [])))

-- a route
abbrev pub route_bytes : Bool → Route → List ℕ
route_bytes false route = big_bytes 4 route.stream ++ (big_bytes 2 (slice_index route.ports 0) ++ (big_bytes 2 0 ++ []))
route_bytes true route =
    big_bytes 4 route.stream
    ++ (big_bytes 2 route.number
    ++ (big_bytes 2 (slice_index route.ports 0)
    ++ (big_bytes 2 (slice_index route.ports 1) ++ (big_bytes 2 (slice_index route.ports 2) ++ (big_bytes 2 (slice_index route.ports 3) ++ (big_bytes 2 0 ++ []))))))

-- the words between the magic and the bounds
abbrev pub first_words : RecordHead → List ℕ
first_words head =
    head.profile.cid ∷ head.profile.tsi ∷ head.max_words ∷ head.limits.data_window ∷ head.limits.context_window ∷ head.limits.kept ∷ head.limits.pending
    ∷ length head.routes ∷ identity_form head.identity ∷ []

abbrev pub head_words : RecordHead → List ℕ
head_words head = first_words head ++ (identity_words head.identity ++ head.initial)

abbrev pub head_bytes : RecordHead → List ℕ
head_bytes head =
    big_bytes 8 (magic_of head.form)
    ++ (blocks (big_bytes 4) (head_words head) ++ (blocks limit_bytes head.bounds ++ blocks (route_bytes (head.form == 2)) head.routes))

nothing_fits : AreBytes []
nothing_fits i = omega arith

limit_fits : (limit : Limit) → AreBytes (limit_bytes limit)
limit_fits limit =
    let d = big_bytes 8 (cast_unsigned w64 limit.greatest) ++ [] in
    let c = big_bytes 8 (cast_unsigned w64 limit.least) ++ d in
    let b = big_bytes 8 limit.step ++ c in
    number_fits 4 (if limit.settable then 1 else 0) b (number_fits 8 limit.step c (number_fits 8 (cast_unsigned w64 limit.least) d
    (number_fits 8 (cast_unsigned w64 limit.greatest) [] nothing_fits)))

length-limit : (limit : Limit) → length (limit_bytes limit) ≡ 28
length-limit limit = refl

length-route : (second : Bool) (route : Route) → length (route_bytes second route) ≡ route_size second
length-route false route = refl
length-route true route = refl

route_fits : (second : Bool) (route : Route) → AreBytes (route_bytes second route)
route_fits false route =
    let b = big_bytes 2 0 ++ [] in
    let a = big_bytes 2 (slice_index route.ports 0) ++ b in
    number_fits 4 route.stream a (number_fits 2 (slice_index route.ports 0) b (number_fits 2 0 [] nothing_fits))
route_fits true route =
    let f = big_bytes 2 0 ++ [] in
    let e = big_bytes 2 (slice_index route.ports 3) ++ f in
    let d = big_bytes 2 (slice_index route.ports 2) ++ e in
    let c = big_bytes 2 (slice_index route.ports 1) ++ d in
    let b = big_bytes 2 (slice_index route.ports 0) ++ c in
    let a = big_bytes 2 route.number ++ b in
    number_fits 4 route.stream a
    (number_fits 2 route.number b
    (number_fits 2 (slice_index route.ports 0) c
    (number_fits 2 (slice_index route.ports 1) d (number_fits 2 (slice_index route.ports 2) e (number_fits 2 (slice_index route.ports 3) f (number_fits 2 0 [] nothing_fits))))))

words_fit : (words : List ℕ) → AreBytes (blocks (big_bytes 4) words)
words_fit words = blocks_fit (big_bytes 4) words (λ n. subst AreBytes (append-nil (big_bytes 4 n)) (number_fits 4 n [] nothing_fits))

pub head_bytes_fit : (head : RecordHead) → AreBytes (head_bytes head)
head_bytes_fit head =
    let second = head.form == 2 in
    let limits = blocks limit_bytes head.bounds in
    let routes = blocks (route_bytes second) head.routes in
    number_fits 8 (magic_of head.form) (blocks (big_bytes 4) (head_words head) ++ (limits ++ routes))
    (AreBytes-append (blocks (big_bytes 4) (head_words head)) (limits ++ routes) (words_fit (head_words head))
    (AreBytes-append limits routes (blocks_fit limit_bytes head.bounds limit_fits) (blocks_fit (route_bytes second) head.routes (route_fits second))))

length-words : (head : RecordHead) → AreHeadValues head → length (head_words head) ≡ 32
length-words head values =
    omega (arith, length-append (first_words head) (identity_words head.identity ++ head.initial), length-append (identity_words head.identity) head.initial, values.identity.four, values.initial.all)

pub length-head_bytes : (head : RecordHead) → AreHeadValues head → length (head_bytes head) ≡ size_of_head head
length-head_bytes head values =
    let second = head.form == 2 in
    let words = blocks (big_bytes 4) (head_words head) in
    let limits = blocks limit_bytes head.bounds in
    let routes = blocks (route_bytes second) head.routes in
    omega (
      arith,
      length-append words (limits ++ routes),
      length-append limits routes,
      length-blocks (big_bytes 4) 4 (head_words head) (length-bytes_high_first 4),
      length-blocks limit_bytes 28 head.bounds length-limit,
      length-blocks (route_bytes second) (route_size second) head.routes (length-route second),
      length-words head values,
      values.bounds_all,
    )

identity_small : (identity : Ident) → identity_form identity < 2 ^ 32
identity_small idents.None = omega arith
identity_small (idents.Word word) = omega arith
identity_small (idents.Uuid words) = omega arith

few : (second : Bool) (n : ℕ) → n ≤ most_routes second → n < 2 ^ 32
few true n h = omega arith
few false n h = omega arith

first_fit : (head : RecordHead) → AreHeadValues head → AreWords (first_words head)
first_fit head values zero = omega (arith, values.profile.cid_fits)
first_fit head values (suc zero) = omega (arith, values.profile.tsi_to)
first_fit head values (suc (suc zero)) = omega (arith, values.max_words_to)
first_fit head values (suc (suc (suc zero))) = omega (arith, values.limits.data_window)
first_fit head values (suc (suc (suc (suc zero)))) = omega (arith, values.limits.context_window)
first_fit head values (suc (suc (suc (suc (suc zero))))) = omega (arith, values.limits.most_kept)
first_fit head values (suc (suc (suc (suc (suc (suc zero)))))) = omega (arith, values.limits.most_pending)
first_fit head values (suc (suc (suc (suc (suc (suc (suc zero))))))) = few (head.form == 2) (length head.routes) values.count.most
first_fit head values (suc (suc (suc (suc (suc (suc (suc (suc zero)))))))) = identity_small head.identity
first_fit head values (suc (suc (suc (suc (suc (suc (suc (suc (suc i))))))))) = omega arith

words_are : (head : RecordHead) → AreHeadValues head → AreWords (head_words head)
words_are head values =
    AreWords-append (first_words head) (identity_words head.identity ++ head.initial) (first_fit head values)
    (AreWords-append (identity_words head.identity) head.initial values.identity.fit values.initial.fit)

-- a word of the header
word_there : (head : RecordHead) (k : ℕ) → AreHeadValues head → k < 32 → number_at (8 + 4 * k) 4 (head_bytes head) ≡ slice_index (head_words head) k
word_there head k values h =
    let words = head_words head in
    let rest = blocks limit_bytes head.bounds ++ blocks (route_bytes (head.form == 2)) head.routes in
    let size = length-blocks (big_bytes 4) 4 words (length-bytes_high_first 4) in
    let count = length-words head values in
    number_next 8 (magic_of head.form) (4 * k) 4 (blocks (big_bytes 4) words ++ rest)
    ∙ number_at-append (4 * k) 4 (blocks (big_bytes 4) words) rest (omega arith)
    ∙ word_in_blocks words k (words_are head values) (omega arith)

identity_there : (head : RecordHead) (k : ℕ) → AreHeadValues head → k < 4 → slice_index (identity_words head.identity) k ≡ number_at (44 + 4 * k) 4 (head_bytes head)
identity_there head k values h =
    let identity = identity_words head.identity in
    let e : 8 + 4 * (9 + k) ≡ 44 + 4 * k = omega arith in
    let back : 9 + k - 9 ≡ k = omega arith in
    sym (
    ap (λ o. number_at o 4 (head_bytes head)) (sym e) ∙ word_there head (9 + k) values (omega arith)
    ∙ get_or-append_right (first_words head) (identity ++ head.initial) 9 (9 + k) 0 refl (omega arith)
    ∙ ap (λ i. slice_index (identity ++ head.initial) i) back
    ∙ get_or_append_left identity head.initial 0 k (omega (arith, values.identity.four)))

initial_there : (head : RecordHead) (k : ℕ) → AreHeadValues head → k < 19 → slice_index head.initial k ≡ number_at (60 + 4 * k) 4 (head_bytes head)
initial_there head k values h =
    let identity = identity_words head.identity in
    let e : 8 + 4 * (13 + k) ≡ 60 + 4 * k = omega arith in
    let back : 13 + k - 9 ≡ 4 + k = omega arith in
    let here : 4 + k - 4 ≡ k = omega arith in
    sym (
    ap (λ o. number_at o 4 (head_bytes head)) (sym e) ∙ word_there head (13 + k) values (omega arith)
    ∙ get_or-append_right (first_words head) (identity ++ head.initial) 9 (13 + k) 0 refl (omega arith)
    ∙ ap (λ i. slice_index (identity ++ head.initial) i) back
    ∙ get_or-append_right identity head.initial 4 (4 + k) 0 values.identity.four (omega arith)
    ∙ ap (λ i. slice_index head.initial i) here)

-- the numbers in front of the bounds
magic_small : (b : Bool) → (if b then second_magic else first_magic) < 256 ^ 8
magic_small true = lit< tt
magic_small false = lit< tt

pub start_there : (head : RecordHead) → AreHeadValues head → IsHeadStart head (head_bytes head)
start_there head values = record {
  fit = head_bytes_fit head;
  there = omega (arith, length-head_bytes head values);
  magic = sym (number_here 8 (magic_of head.form) _ (magic_small (head.form == 2)));
  cid = sym (word_there head 0 values (omega arith));
  tsi = sym (word_there head 1 values (omega arith));
  max_words = sym (word_there head 2 values (omega arith));
  data_window = sym (word_there head 3 values (omega arith));
  context_window = sym (word_there head 4 values (omega arith));
  kept = sym (word_there head 5 values (omega arith));
  pending = sym (word_there head 6 values (omega arith));
  routes_told = sym (word_there head 7 values (omega arith));
  identity_told = sym (word_there head 8 values (omega arith));
}

-- the bounds
flag_small : (b : Bool) → (if b then 1 else 0) < 256 ^ 4
flag_small true = lit< tt
flag_small false = lit< tt

step_small : (b : Bool) (step : ℕ) → IsStep (if b then 1 else 0) step → step < 256 ^ 8
step_small true step rule = omega (arith, rule.most refl)
step_small false step rule = omega (arith, rule.unset refl)

signed_small : (z : ℤ) → FitsSigned w64 z → cast_unsigned w64 z < 256 ^ 8
signed_small (pos n) fits = omega (arith, fits.sfits)
signed_small (negsuc n) fits = omega (arith, fits.sfits)

limit_there : (limit : Limit) (bound : ℕ) (bytes : List ℕ) → AreBytes bytes → 332 ≤ length bytes → IsBound bound limit
    → ((offset width : ℕ) → offset + width ≤ 28 → number_at (136 + (28 * bound + offset)) width bytes ≡ number_at offset width (limit_bytes limit))
    → IsLimitSpelled limit bound bytes
limit_there limit bound bytes fit there rule at =
    let d = big_bytes 8 (cast_unsigned w64 limit.greatest) ++ [] in
    let c = big_bytes 8 (cast_unsigned w64 limit.least) ++ d in
    let b = big_bytes 8 limit.step ++ c in
    let flag : ℕ = if limit.settable then 1 else 0 in
    let moved = λ (o p w : ℕ) (e : o ≡ p). ap (λ n. number_at n w bytes) e in record {
      fit = fit;
      there = there;
      flag = sym (moved (136 + 28 * bound) (136 + (28 * bound + 0)) 4 (omega arith) ∙ at 0 4 (omega arith) ∙ number_here 4 flag b (flag_small limit.settable));
      step_told = sym (moved (140 + 28 * bound) (136 + (28 * bound + 4)) 8 (omega arith) ∙ at 4 8 (omega arith) ∙ number_next 4 flag 0 8 b
          ∙ number_here 8 limit.step c (step_small limit.settable limit.step rule.step));
      least_told = sym (moved (148 + 28 * bound) (136 + (28 * bound + 12)) 8 (omega arith) ∙ at 12 8 (omega arith) ∙ number_next 4 flag 8 8 b ∙ number_next 8 limit.step 0 8 c
          ∙ number_here 8 (cast_unsigned w64 limit.least) d (signed_small limit.least rule.least_fits));
      greatest_told = sym (moved (156 + 28 * bound) (136 + (28 * bound + 20)) 8 (omega arith) ∙ at 20 8 (omega arith) ∙ number_next 4 flag 16 8 b ∙ number_next 8 limit.step 8 8 c
          ∙ number_next 8 (cast_unsigned w64 limit.least) 0 8 d ∙ number_here 8 (cast_unsigned w64 limit.greatest) [] (signed_small limit.greatest rule.greatest_fits));
    }

-- a number behind the words
behind_words : (head : RecordHead) (offset width : ℕ) → AreHeadValues head
    → number_at (136 + offset) width (head_bytes head) ≡ number_at offset width (blocks limit_bytes head.bounds ++ blocks (route_bytes (head.form == 2)) head.routes)
behind_words head offset width values =
    let words = blocks (big_bytes 4) (head_words head) in
    let rest = blocks limit_bytes head.bounds ++ blocks (route_bytes (head.form == 2)) head.routes in
    let size : length words ≡ 128 = omega (arith, length-blocks (big_bytes 4) 4 (head_words head) (length-bytes_high_first 4), length-words head values) in
    let e : 136 + offset ≡ 8 + (128 + offset) = omega arith in
    ap (λ o. number_at o width (head_bytes head)) e ∙ number_next 8 (magic_of head.form) (128 + offset) width (words ++ rest) ∙ number_behind words rest 128 offset width size

pub limits_there : (head : RecordHead) → AreHeadValues head → AreLimitsSpelled head.bounds (head_bytes head)
limits_there head values bound other h =
    let limits = blocks limit_bytes head.bounds in
    let routes = blocks (route_bytes (head.form == 2)) head.routes in
    let size = length-blocks limit_bytes 28 head.bounds length-limit in
    let count = values.bounds_all in
    limit_there (get_or head.bounds bound other) bound (head_bytes head) (head_bytes_fit head) (omega (arith, length-head_bytes head values)) (bound_of_limit bound (get_or head.bounds bound other) (values.bounds bound other h))
    (λ offset width inside. (
    let there : 28 * bound + offset + width ≤ length limits = omega arith in
    behind_words head (28 * bound + offset) width values ∙ number_at-append (28 * bound + offset) width limits routes there
    ∙ number_in_block limit_bytes 28 head.bounds bound offset width other length-limit (omega arith) inside
    ))

-- the routes
route_end : (second : Bool) (k n : ℕ) → k < n → route_at second k + route_size second ≤ 332 + route_size second * n
route_end true k n h = omega arith
route_end false k n h = omega arith

route_there : (second : Bool) (route : Route) (k : ℕ) (bytes : List ℕ) → AreBytes bytes → route_at second k + route_size second ≤ length bytes → IsRoute second route
    → ((offset width : ℕ) → offset + width ≤ route_size second → number_at (route_at second k + offset) width bytes ≡ number_at offset width (route_bytes second route))
    → IsRouteSpelled second route k bytes
route_there false route k bytes fit there rule at =
    let b = big_bytes 2 0 ++ [] in
    let a = big_bytes 2 (slice_index route.ports 0) ++ b in
    let moved = λ (o p w : ℕ) (e : o ≡ p). ap (λ n. number_at n w bytes) e in record {
      fit = fit;
      there = there;
      stream = sym (moved (route_at false k) (route_at false k + 0) 4 (omega arith) ∙ at 0 4 (omega arith) ∙ number_here 4 route.stream a (omega (arith, rule.stream)));
      port = sym (at 4 2 (omega arith) ∙ number_next 4 route.stream 0 2 a ∙ number_here 2 (slice_index route.ports 0) b (let f = rule.fit 0 in omega arith));
      zero = sym (at 6 2 (omega arith) ∙ number_next 4 route.stream 2 2 a ∙ number_next 2 (slice_index route.ports 0) 0 2 b ∙ number_here 2 0 [] (omega arith));
    }
route_there true route k bytes fit there rule at =
    let f = big_bytes 2 0 ++ [] in
    let p3 = slice_index route.ports 3 in
    let e = big_bytes 2 p3 ++ f in
    let p2 = slice_index route.ports 2 in
    let d = big_bytes 2 p2 ++ e in
    let p1 = slice_index route.ports 1 in
    let c = big_bytes 2 p1 ++ d in
    let p0 = slice_index route.ports 0 in
    let b = big_bytes 2 p0 ++ c in
    let a = big_bytes 2 route.number ++ b in
    let f0 = rule.fit 0 in
    let f1 = rule.fit 1 in
    let f2 = rule.fit 2 in
    let f3 = rule.fit 3 in
    let moved = λ (o p w : ℕ) (e : o ≡ p). ap (λ n. number_at n w bytes) e in record {
      fit = fit;
      there = there;
      stream = sym (moved (route_at true k) (route_at true k + 0) 4 (omega arith) ∙ at 0 4 (omega arith) ∙ number_here 4 route.stream a (omega (arith, rule.stream)));
      number = sym (at 4 2 (omega arith) ∙ number_next 4 route.stream 0 2 a ∙ number_here 2 route.number b (omega (arith, rule.to)));
      port0 = sym (at 6 2 (omega arith) ∙ number_next 4 route.stream 2 2 a ∙ number_next 2 route.number 0 2 b ∙ number_here 2 p0 c (omega arith));
      port1 = sym (at 8 2 (omega arith) ∙ number_next 4 route.stream 4 2 a ∙ number_next 2 route.number 2 2 b ∙ number_next 2 p0 0 2 c ∙ number_here 2 p1 d (omega arith));
      port2 = sym (at 10 2 (omega arith) ∙ number_next 4 route.stream 6 2 a ∙ number_next 2 route.number 4 2 b ∙ number_next 2 p0 2 2 c ∙ number_next 2 p1 0 2 d
          ∙ number_here 2 p2 e (omega arith));
      port3 = sym (at 12 2 (omega arith) ∙ number_next 4 route.stream 8 2 a ∙ number_next 2 route.number 6 2 b ∙ number_next 2 p0 4 2 c ∙ number_next 2 p1 2 2 d ∙ number_next 2 p2 0 2 e
          ∙ number_here 2 p3 f (omega arith));
      zero = sym (at 14 2 (omega arith) ∙ number_next 4 route.stream 10 2 a ∙ number_next 2 route.number 8 2 b ∙ number_next 2 p0 6 2 c ∙ number_next 2 p1 4 2 d ∙ number_next 2 p2 2 2 e
          ∙ number_next 2 p3 0 2 f ∙ number_here 2 0 [] (omega arith));
    }

pub routes_there : (head : RecordHead) → AreHeadValues head → AreRoutesSpelled (head.form == 2) head.routes (head_bytes head)
routes_there head values k other h =
    let second = head.form == 2 in
    let limits = blocks limit_bytes head.bounds in
    let routes = blocks (route_bytes second) head.routes in
    let size : length limits ≡ 196 = omega (arith, length-blocks limit_bytes 28 head.bounds length-limit, values.bounds_all) in
    route_there second (get_or head.routes k other) k (head_bytes head) (head_bytes_fit head) (omega (arith, length-head_bytes head values, route_end second k (length head.routes) h))
    (values.routes.each k other h)
    (λ offset width inside. (
    let e : route_at second k + offset ≡ 136 + (196 + (route_size second * k + offset)) = omega arith in
    ap (λ o. number_at o width (head_bytes head)) e ∙ behind_words head (196 + (route_size second * k + offset)) width values
    ∙ number_behind limits routes 196 (route_size second * k + offset) width size
    ∙ number_in_block (route_bytes second) (route_size second) head.routes k offset width other (length-route second) h inside
    ))

-- bytes with the numbers of a header, and no others
pub record AreHeadNumbers (head : RecordHead) (bytes : List ℕ) : Type 0 where
  pub start : IsHeadStart head bytes
  pub identity : AreNumbers (identity_words head.identity) 44 4 bytes
  pub initial : AreNumbers head.initial 60 19 bytes
  pub bounds : AreLimitsSpelled head.bounds bytes
  pub routes : AreRoutesSpelled (head.form == 2) head.routes bytes
  pub all : length bytes ≡ size_of_head head

pub numbers_there : (head : RecordHead) → AreHeadValues head → AreHeadNumbers head (head_bytes head)
numbers_there head values = record {
  start = start_there head values;
  identity = record { all = values.identity.four; each = λ k h. identity_there head k values h };
  initial = record { all = values.initial.all; each = λ k h. initial_there head k values h };
  bounds = limits_there head values;
  routes = routes_there head values;
  all = length-head_bytes head values;
}
