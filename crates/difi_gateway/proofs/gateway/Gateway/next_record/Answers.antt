use Rattle.std.proofs.Common.{◌≡◌, ◌∙◌, ◌++◌, refl, sym, ap, subst, length, arith}
use Rattle.difi_gateway.specs.Steps.{gated}
use Rattle.difi_gateway.specs.Progress.{IsGiven}
use Rattle.difi_gateway.proofs.AdvanceLemmas.{settled_given}
use Rattle.difi_gateway.proofs.GivingLemmas.{left_given, left_none}
use Rattle.difi_gateway.proofs.gateway.Gateway.next_record.Goals as goal

pub returns-then-not-put_next : goal.returns-then-not-put_next
returns-then-not-put_next c =
    let none = c.put_next.ensures.none c.if-not-put_next.true in
    rw (← c.self.view_is) (
      (refl, λ _. tt, left_none (gated c.self.inside.parts) (gated c.put_next.new.self) none),
      record {
        given = λ head received ended given st. tt;
        none = λ head received ended given st. settled_given (gated c.self.inside.parts) head received ended given st none.settled;
        short = tt;
        leaves = tt;
      },
    )

pub returns : goal.returns
returns c =
    let p = c.put_next.ensures.given c.if-not-put_next.false in
    let bytes : c.as_slice.result.now ≡ p.bytes = c.as_slice.ensures ∙ p.behind ∙ ap (λ l. l ++ p.bytes) c.clear.ensures in
    rw (← c.self.view_is) (
      (refl, λ _. tt, left_given (gated c.self.inside.parts) (gated c.put_next.new.self) p.bytes _ p.is),
      record {
        given = λ head received ended given st. subst (IsGiven head received ended given) (sym bytes) (p.is.next head received ended given st).0;
        none = λ head received ended given st. tt;
        short = omega (arith, ap (λ l. length l) bytes, p.short);
        leaves = tt;
      },
    )
