-- The laws of the definitions.
use Rattle.replay_form.proofs.VerdictLaws as laws
use Rattle.replay_form.proofs.OneHead.{one_head}
use Rattle.replay_form.proofs.laws.one_verdict.Goals as goal

pub returns-clause-one_head : goal.returns-clause-one_head
returns-clause-one_head c = one_head

pub returns-clause-one_record : goal.returns-clause-one_record
returns-clause-one_record c = laws.one_record

pub returns-clause-one_place : goal.returns-clause-one_place
returns-clause-one_place c = laws.one_place

pub returns-clause-record_not_wrong : goal.returns-clause-record_not_wrong
returns-clause-record_not_wrong c = laws.record_not_wrong

pub returns-clause-record_not_inside : goal.returns-clause-record_not_inside
returns-clause-record_not_inside c = laws.record_not_inside

pub returns-clause-wrong_not_inside : goal.returns-clause-wrong_not_inside
returns-clause-wrong_not_inside c = laws.wrong_not_inside

pub returns-clause-one_standing : goal.returns-clause-one_standing
returns-clause-one_standing c = laws.one_standing

pub returns-clause-not_headless : goal.returns-clause-not_headless
returns-clause-not_headless c = laws.not_headless

pub returns-clause-stands : goal.returns-clause-stands
returns-clause-stands c = laws.record_stands

pub returns-clause-stays : goal.returns-clause-stays
returns-clause-stays c = laws.standing_stays

pub returns-clause-has_head_later : goal.returns-clause-has_head_later
returns-clause-has_head_later c = laws.not_headless_later
