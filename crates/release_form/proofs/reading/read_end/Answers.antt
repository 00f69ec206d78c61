use Rattle.std.proofs.Common.{arith}
use Rattle.release_form.proofs.Told.{reads_end}
use Rattle.release_form.proofs.reading.read_end.Goals as goal

pub returns-clause-found : goal.returns-clause-found
returns-clause-found c =
    reads_end _ _ c.requires.kind c.requires.length (omega arith)
    (cc (c.double_in.ensures, c.double_in-2.ensures, c.double_in-3.ensures, c.double_in-4.ensures, c.double_in-5.ensures, c.double_in-6.ensures, c.double_in-7.ensures))
