-- A wrong second word, by the law of the refused place.
use Rattle.std.proofs.Common.{refl, inr}
use Rattle.vrt_fields.proofs.FormatLaws.{refused_at}
use Rattle.vrt_fields.proofs.format.PayloadFormat.read.Goals as goal

pub returns-then-second-ne0-clause-refused : goal.returns-then-second-ne0-clause-refused
returns-then-second-ne0-clause-refused c =
    refused_at c.args.first c.args.second 1 (inr (refl, c.in-Some.ensures.right, λ e. c.if-second-ne0.true e))
