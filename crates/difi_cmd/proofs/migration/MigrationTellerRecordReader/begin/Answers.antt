use Rattle.std.proofs.Common.{ap, sym, ◌∙◌}
use Rattle.difi_cmd.specs.Migrating.{Migrating}
use Rattle.difi_cmd.proofs.Migrating.{started_on}
use Rattle.difi_cmd.proofs.migration.MigrationTellerRecordReader.begin.Goals as goal

pub returns-then-not-self-clause-goes : goal.returns-then-not-self-clause-goes
returns-then-not-self-clause-goes c = λ head known.
    started_on c.args.intake.now c.in-Some.head.now head c.args.self.now c.start.new.self (ap (λ (m : Migrating). m.started) (sym c.self.view_is) ∙ c.if-not-self.true) c.in-Some.ensures.head known c.start.ensures
