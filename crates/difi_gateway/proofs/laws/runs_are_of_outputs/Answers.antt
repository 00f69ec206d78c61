use Rattle.difi_gateway.proofs.StreamRuns.{told_runs, all_runs}
use Rattle.difi_gateway.proofs.laws.runs_are_of_outputs.Goals as goal

pub returns-clause-so_far : goal.returns-clause-so_far
returns-clause-so_far c = λ head stream received listed. told_runs head stream listed received

pub returns-clause-whole : goal.returns-clause-whole
returns-clause-whole c = all_runs
