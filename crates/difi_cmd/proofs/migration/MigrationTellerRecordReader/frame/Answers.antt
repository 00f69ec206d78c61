use Rattle.std.proofs.Common.{arith}
use Rattle.difi_cmd.proofs.Migrating.{frame_on}
use Rattle.difi_cmd.proofs.migration.MigrationTellerRecordReader.frame.Goals as goal

pub put-requires-clause-fits : goal.put-requires-clause-fits
put-requires-clause-fits c =
    let counted = c.requires.count c.requires.whole.1 c.requires.whole.3 in
    omega (arith, counted)

pub returns-clause-told : goal.returns-clause-told
returns-clause-told c = λ head frame known whole.
    frame_on c.args.intake.now c.args.bytes.now head frame c.in-Some.frame.now _ _ c.args.self.now c.put.new.self c.put.ensures.frames c.requires.settled.started c.requires.settled.owed c.in-Some.ensures.frame whole
    c.put.ensures.bytes c.put.ensures.text
