use Rattle.difi_gateway.specs.Steps.{gated}
use Rattle.difi_gateway.proofs.GivingLemmas.{next_ahead}
use Rattle.difi_gateway.proofs.parts.Parts.put_next.Goals as goal

pub returns-clause-given : goal.returns-clause-given
returns-clause-given c = λ t.
    let p = c.put_owed.ensures.given c.if-not-put_owed.false in record {
      bytes = p.bytes;
      fit = p.fit;
      short = p.short;
      behind = p.behind;
      is = next_ahead (gated c.args.self.now) (gated c.put_owed.new.self) (gated c.draw_ahead.new.self) p.bytes p.is c.draw_ahead.ensures.way c.draw_ahead.ensures.sound;
    }
