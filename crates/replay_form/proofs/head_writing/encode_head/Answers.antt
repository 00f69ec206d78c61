-- The bytes are those that spell the header.
use Rattle.std.proofs.Common.{◌≡◌, ◌+◌, ◌*◌, ◌≤◌, ◌==◌, ◌∙◌, length, take, take_all, sym, ap, subst, arith}
use Rattle.replay_form.specs.Numbers.{AreNumbers}
use Rattle.replay_form.specs.Head.{IsHead}
use Rattle.replay_form.specs.HeadFields.{is_second, route_size}
use Rattle.replay_form.specs.HeadSpelling.{AreRoutesSpelled}
use Rattle.replay_form.proofs.HeadSpellingLaws.{head_start, head_form, identity_spelled, limits_spelled, routes_spelled, few_routes, size_told}
use Rattle.replay_form.proofs.HeadSaid.{spelled_by_values}
use Rattle.replay_form.proofs.head_writing.encode_head.Goals as goal

pub put_limits-requires-clause-few : goal.put_limits-requires-clause-few
put_limits-requires-clause-few c =
    let s = spelled_by_values c.args.head.now c.requires.valid in
    few_routes c.args.head.now s.bytes s.says

pub put_routes-requires-clause-few : goal.put_routes-requires-clause-few
put_routes-requires-clause-few c =
    let s = spelled_by_values c.args.head.now c.requires.valid in
    subst (λ routes. length routes ≤ 256) (sym c.as_slice-routes.ensures) (few_routes c.args.head.now s.bytes s.says)

pub returns-clause-again : goal.returns-clause-again
returns-clause-again c = λ bytes fit is.
    let head = c.args.head.now in
    let routes = c.as_slice-routes.result.now in
    let start = head_start head bytes fit is in
    let there = start.there in
    let words = c.words_of-words.result in
    let numbers : AreNumbers words 44 4 bytes = subst (λ x. AreNumbers x 44 4 bytes) (sym c.words_of-words.ensures) (identity_spelled head.identity bytes is.whole is.identity) in
    let four = numbers.all in
    let nineteen = is.initial.all in
    let to_44 = c.put_limits.ensures.agrees bytes start (c.put_profile.ensures.agrees bytes start) in
    let sixty : 44 + 4 * length words ≡ 60 = omega arith in
    let to_60 = subst (λ n. take n c.put_words.new.into ≡ take n bytes) sixty
    (c.put_words.ensures.agrees bytes fit (omega arith) (subst (λ n. AreNumbers words 44 n bytes) (sym four) numbers) to_44) in
    let fixed : 60 + 4 * length head.initial ≡ 136 = omega arith in
    let to_136 = subst (λ n. take n c.put_words-2.new.into ≡ take n bytes) fixed
    (c.put_words-2.ensures.agrees bytes fit (omega arith) (subst (λ n. AreNumbers head.initial 60 n bytes) (sym nineteen) is.initial) to_60) in
    let to_332 = c.put_bounds.ensures.agrees bytes (limits_spelled head bytes fit is) to_136 in
    let spelled : AreRoutesSpelled (head.form == 2) routes bytes =
    subst (λ s. AreRoutesSpelled s routes bytes) (sym (head_form head bytes is))
    (subst (λ rs. AreRoutesSpelled (is_second bytes) rs bytes) (sym c.as_slice-routes.ensures) (routes_spelled head bytes fit is)) in
    let to_end = c.put_routes.ensures.agrees bytes spelled to_332 in
    let same : 332 + c.size_of_route.result * length routes ≡ 332 + route_size (head.form == 2) * length routes = ap (λ n. 332 + n * length routes) c.size_of_route.ensures in
    let size : 332 + route_size (head.form == 2) * length routes ≡ length bytes =
    ap (λ rs. 332 + route_size (head.form == 2) * length rs) c.as_slice-routes.ensures ∙ size_told head bytes is in
    ap (λ n. take n c.put_routes.new.into) same ∙ to_end ∙ take_all (332 + route_size (head.form == 2) * length routes) bytes (omega arith)

pub returns-clause-head : goal.returns-clause-head
returns-clause-head c =
    let s = spelled_by_values c.args.head.now c.requires.valid in
    subst (IsHead c.args.head.now) (sym (returns-clause-again c s.bytes s.fit s.says)) s.says

pub returns-clause-behind : goal.returns-clause-behind
returns-clause-behind c =
    let routes = c.as_slice-routes.result.now in
    let n = 332 + c.size_of_route.result * length routes in
    let same : 332 + c.size_of_route.result * length routes ≡ 332 + route_size (c.args.head.now.form == 2) * length routes = ap (λ k. 332 + k * length routes) c.size_of_route.ensures in
    let s = spelled_by_values c.args.head.now c.requires.valid in
    let is = s.says in
    let words = subst (λ x. AreNumbers x 44 4 s.bytes) (sym c.words_of-words.ensures) (identity_spelled c.args.head.now.identity s.bytes is.whole is.identity) in
    let four : length c.words_of-words.result ≡ 4 = words.all in
    let nineteen : length c.args.head.now.initial ≡ 19 = is.initial.all in
    c.put_routes.ensures.stays n (omega arith) ∙ c.put_bounds.ensures.stays n (omega arith) ∙ c.put_words-2.ensures.stays n (omega arith)
    ∙ c.put_words.ensures.stays n (omega arith) ∙ c.put_limits.ensures.stays n (omega arith) ∙ c.put_profile.ensures.stays n (omega arith)
