use Rattle.std.proofs.Common.{◌≡◌, ◌∙◌}
use Rattle.difi_cmd.specs.declared.words.Line.TheVariants as lines
use Rattle.difi_cmd.proofs.LineLaws.{one_line}
use Rattle.difi_cmd.proofs.run.difi_run.Goals as goal

pub returns-in-List-clause-complete : goal.returns-in-List-clause-complete
returns-in-List-clause-complete g c = λ line asks no_read no_write.
    let same : line ≡ lines.List c.in-List.options = one_line c.args.words.now line c.in-Ok.line asks c.in-Ok.ensures.found ∙ c.in-List.is in
    rw same (c.list.ensures.complete no_read no_write)

pub returns-in-Migrate-clause-complete : goal.returns-in-Migrate-clause-complete
returns-in-Migrate-clause-complete g c = λ line asks no_read no_write.
    let same : line ≡ lines.Migrate c.in-Migrate.max_bytes = one_line c.args.words.now line c.in-Ok.line asks c.in-Ok.ensures.found ∙ c.in-Migrate.is in
    rw same (c.migrate.ensures.complete no_read no_write)

pub returns-in-Replay-clause-want : goal.returns-in-Replay-clause-want
returns-in-Replay-clause-want g c = λ short line asks.
    let same : line ≡ lines.Replay c.in-Replay.max_bytes = one_line c.args.words.now line c.in-Ok.line asks c.in-Ok.ensures.found ∙ c.in-Replay.is in
    rw same (c.replay_run.ensures.replayed)

pub returns-in-Replay-clause-complete : goal.returns-in-Replay-clause-complete
returns-in-Replay-clause-complete g c = λ line asks no_read no_write.
    let same : line ≡ lines.Replay c.in-Replay.max_bytes = one_line c.args.words.now line c.in-Ok.line asks c.in-Ok.ensures.found ∙ c.in-Replay.is in
    rw same (c.replay_run.ensures.complete no_read no_write)

pub returns-in-List-clause-truth : goal.returns-in-List-clause-truth
returns-in-List-clause-truth g c = λ done most asks.
    let same : lines.Replay most ≡ lines.List c.in-List.options = one_line c.args.words.now (lines.Replay most) c.in-Ok.line asks c.in-Ok.ensures.found ∙ c.in-List.is in
    absurd (cc)

pub returns-in-Migrate-clause-truth : goal.returns-in-Migrate-clause-truth
returns-in-Migrate-clause-truth g c = λ done most asks.
    let same : lines.Replay most ≡ lines.Migrate c.in-Migrate.max_bytes =
    one_line c.args.words.now (lines.Replay most) c.in-Ok.line asks c.in-Ok.ensures.found ∙ c.in-Migrate.is in
    absurd (cc)

pub returns-in-Replay-clause-truth : goal.returns-in-Replay-clause-truth
returns-in-Replay-clause-truth g c = λ done most asks. c.replay_run.ensures.truth done
