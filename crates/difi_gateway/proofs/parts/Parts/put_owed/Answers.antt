use Rattle.difi_gateway.specs.Steps.{gated}
use Rattle.difi_gateway.proofs.AdvanceLemmas.{copies_written}
use Rattle.difi_gateway.proofs.GivingLemmas.{copy_next}
use Rattle.difi_gateway.proofs.parts.Parts.put_owed.Goals as goal

pub put_copy-requires-clause-can : goal.put_copy-requires-clause-can
put_copy-requires-clause-can c =
    let w = c.requires.sound in
    copies_written (gated c.args.self.now) w.head w.received _ w.given w.stands

pub returns-then-tells-clause-given : goal.returns-then-tells-clause-given
returns-then-tells-clause-given c = λ t.
    let p = c.put_copy.ensures in record {
      bytes = p.bytes;
      fit = p.fit;
      short = p.short;
      behind = p.behind;
      is = copy_next (gated c.args.self.now) (gated c.put_copy.new.self) p.bytes c.requires.sound (c.tells.ensures.told c.if-tells.true) p.is;
    }

pub returns-then-tells-clause-sound : goal.returns-then-tells-clause-sound
returns-then-tells-clause-sound c =
    let p = c.put_copy.ensures in
    (copy_next (gated c.args.self.now) (gated c.put_copy.new.self) p.bytes c.requires.sound (c.tells.ensures.told c.if-tells.true) p.is).sound
