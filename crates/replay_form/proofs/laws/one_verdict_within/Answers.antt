-- The laws of the definitions.
use Rattle.replay_form.proofs.WithinLaws as laws
use Rattle.replay_form.proofs.laws.one_verdict_within.Goals as goal

pub returns-clause-one_place : goal.returns-clause-one_place
returns-clause-one_place c = laws.one_place

pub returns-clause-bad_not_longer : goal.returns-clause-bad_not_longer
returns-clause-bad_not_longer c = laws.bad_not_longer

pub returns-clause-bad_not_whole : goal.returns-clause-bad_not_whole
returns-clause-bad_not_whole c = laws.bad_not_whole

pub returns-clause-longer_not_whole : goal.returns-clause-longer_not_whole
returns-clause-longer_not_whole c = laws.longer_not_whole
