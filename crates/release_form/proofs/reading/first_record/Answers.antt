use Rattle.std.proofs.Common.{◌≡◌, arith, rules}
use Rattle.release_form.specs.Positions.{word}
use Rattle.release_form.proofs.ReleaseLaws.{first_found}
use Rattle.release_form.proofs.reading.first_record.Goals as goal

pub returns-clause-found : goal.returns-clause-found
returns-clause-found c =
    let e : word c.args.bytes.now 1 ≡ c.in_ok-length.length = search rules in
    first_found c.in_ok-length.length c.args.bytes.now e (omega arith)
