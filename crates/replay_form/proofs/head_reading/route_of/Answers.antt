-- A route of form 2 has four ports at most.
use Rattle.std.proofs.Common.{◌≡◌, ◌+◌, ◌≤◌, true, sym, ap, subst, ◌∙◌, arith}
use Rattle.replay_form.specs.HeadFields.{is_second, route_at}
use Rattle.replay_form.proofs.HeadLaws.{has_ports}
use Rattle.replay_form.specs.Numbers.{number_at}
use Rattle.replay_form.proofs.head_reading.route_of.Goals as goal

pub overflow_cast-number : goal.overflow_cast-number
overflow_cast-number c =
    let bytes = c.args.bytes.now in
    let form : is_second bytes ≡ true = sym c.requires.form ∙ c.if-not-second.false in
    let start : c.start_of_route-start.result ≡ route_at true c.args.route = c.start_of_route-start.ensures ∙ ap (λ s. route_at s c.args.route) c.if-not-second.false in
    let most : number_at (c.start_of_route-start.result + 4) 2 bytes ≤ 4 =
    subst (λ s. number_at (s + 4) 2 bytes ≤ 4) (sym start) (has_ports bytes c.args.route c.requires.whole form c.requires.among).to in
    omega arith
