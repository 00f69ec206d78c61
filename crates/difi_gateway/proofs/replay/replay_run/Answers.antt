use Rattle.difi_gateway.proofs.ReplayLemmas.{all_told}
use Rattle.difi_gateway.proofs.RunTexts.{all_replayed}
use Rattle.difi_gateway.proofs.TrueTexts.{done_true}
use Rattle.difi_gateway.proofs.replay.replay_run.Goals as goal

pub returns-clause-replayed : goal.returns-clause-replayed
returns-clause-replayed g c =
    all_replayed c.run_record.result c.args.options.now.max_bytes _ (all_told c.args.options.now.max_bytes c.run_record.result _ c.new-replay.result c.new-replay.ensures c.run_record.ensures.outcome)

pub returns-clause-truth : goal.returns-clause-truth
returns-clause-truth g c =
    done_true c.run_record.result c.args.options.now.max_bytes _ (all_told c.args.options.now.max_bytes c.run_record.result _ c.new-replay.result c.new-replay.ensures c.run_record.ensures.outcome)
