use Rattle.difi_gateway.proofs.FitLemmas.{part_fit, whole_fit}
use Rattle.difi_gateway.proofs.OnceLemmas.{part_once, whole_once}
use Rattle.difi_gateway.proofs.laws.counts_are_at_most_bytes.Goals as goal

pub returns-clause-so_far : goal.returns-clause-so_far
returns-clause-so_far c = part_fit

pub returns-clause-whole : goal.returns-clause-whole
returns-clause-whole c = whole_fit

pub returns-clause-frames_so_far : goal.returns-clause-frames_so_far
returns-clause-frames_so_far c = part_once

pub returns-clause-frames : goal.returns-clause-frames
returns-clause-frames c = whole_once
