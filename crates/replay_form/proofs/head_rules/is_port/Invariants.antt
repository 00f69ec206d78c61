use Rattle.std.proofs.Common.{◌≡◌, ◌<◌, ℕ, true}
use Rattle.replay_form.specs.HeadFields.{port_at}
use Rattle.replay_form.specs.Numbers.{number_at}
use Rattle.replay_form.proofs.head_rules.is_port.Given as goal

-- no port so far is this one
abbrev pub invariant-loop-earlier : goal.invariant-loop-earlier
invariant-loop-earlier l = (k : ℕ) → k < l.earlier → number_at (port_at true l.route k) 2 l.front ≡ l.port → ⊥
