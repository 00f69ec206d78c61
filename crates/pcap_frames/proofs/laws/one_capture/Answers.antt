-- The laws of the definitions.
use Rattle.pcap_frames.proofs.VerdictLaws as laws
use Rattle.pcap_frames.proofs.laws.one_capture.Goals as goal

pub returns-clause-one_capture : goal.returns-clause-one_capture
returns-clause-one_capture c = laws.one_capture

pub returns-clause-one_place : goal.returns-clause-one_place
returns-clause-one_place c = laws.one_place

pub returns-clause-capture_not_wrong : goal.returns-clause-capture_not_wrong
returns-clause-capture_not_wrong c = laws.capture_not_wrong

pub returns-clause-capture_not_inside : goal.returns-clause-capture_not_inside
returns-clause-capture_not_inside c = laws.capture_not_inside

pub returns-clause-wrong_not_inside : goal.returns-clause-wrong_not_inside
returns-clause-wrong_not_inside c = laws.wrong_not_inside

pub returns-clause-one_standing : goal.returns-clause-one_standing
returns-clause-one_standing c = laws.one_standing

pub returns-clause-not_headless : goal.returns-clause-not_headless
returns-clause-not_headless c = laws.not_headless

pub returns-clause-stands : goal.returns-clause-stands
returns-clause-stands c = laws.capture_stands
