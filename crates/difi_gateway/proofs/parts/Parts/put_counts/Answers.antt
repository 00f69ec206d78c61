use Rattle.difi_gateway.specs.Steps.{gated}
use Rattle.difi_gateway.proofs.GivingLemmas.{end_next}
use Rattle.difi_gateway.proofs.parts.Parts.put_counts.Goals as goal

pub returns-in-Ending-clause-given : goal.returns-in-Ending-clause-given
returns-in-Ending-clause-given c = λ t.
    let p = c.put_end.ensures in record {
      bytes = p.bytes;
      fit = p.fit;
      short = p.short;
      behind = p.behind;
      is = end_next (gated c.args.self.now) (gated c.put_end.new.self) p.bytes c.in-Ending.index c.requires.sound
          c.in-Ending.is c.requires.quiet c.requires.ahead p.is;
    }

pub returns-in-Ending-clause-sound : goal.returns-in-Ending-clause-sound
returns-in-Ending-clause-sound c =
    let p = c.put_end.ensures in
    (end_next (gated c.args.self.now) (gated c.put_end.new.self) p.bytes c.in-Ending.index c.requires.sound
    c.in-Ending.is c.requires.quiet c.requires.ahead p.is).sound
