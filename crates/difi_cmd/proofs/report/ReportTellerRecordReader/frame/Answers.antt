use Rattle.std.proofs.Common.{arith}
use Rattle.difi_cmd.proofs.Telling.{frame_told}
use Rattle.difi_cmd.proofs.report.ReportTellerRecordReader.frame.Goals as goal

pub tell-requires-clause-fits : goal.tell-requires-clause-fits
tell-requires-clause-fits c =
    let lent = c.requires.whole in
    omega (arith, c.requires.count lent.1 lent.3)

pub returns-clause-told : goal.returns-clause-told
returns-clause-told c = λ head frame known whole.
    frame_told c.args.intake.now c.args.bytes.now head frame c.in-Some.head.now c.in-Some-frame.field-0-0 c.in-Some-frame.field-0-1 c.in-Some-frame.datagram.now c.args.self.now c.tell.new.self _ _
    c.in-Some.ensures.head c.in-Some-frame.ensures.held known whole c.tell.ensures
