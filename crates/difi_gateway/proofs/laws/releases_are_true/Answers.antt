use Rattle.difi_gateway.proofs.TrueReleases.{releases_true}
use Rattle.difi_gateway.proofs.TrueTexts.{out_true}
use Rattle.difi_gateway.proofs.laws.releases_are_true.Goals as goal

pub returns-clause-releases : goal.returns-clause-releases
returns-clause-releases c = releases_true

pub returns-clause-text : goal.returns-clause-text
returns-clause-text c = out_true
