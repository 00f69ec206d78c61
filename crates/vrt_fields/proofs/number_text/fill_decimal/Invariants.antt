use Rattle.std.proofs.Common.{◌≡◌, ◌≤◌, ◌<◌, ◌^◌, ◌++◌, drop, length}
use Rattle.std.specs.Fmt.{decimal}
use Rattle.vrt_fields.proofs.number_text.fill_decimal.Given as goal

-- the digits in front are still to be written, and those from the start on are
abbrev pub invariant-loop-rest : goal.invariant-loop-rest
invariant-loop-rest l = record {
  size : length l.into ≡ 20;
  within : l.start ≤ 20;
  room : length (decimal l.rest) ≤ l.start;
  fits : l.rest < 2 ^ 64;
  text : decimal l.fn.number ≡ decimal l.rest ++ drop l.start l.into;
}

abbrev pub decreases-loop-rest : goal.decreases-loop-rest
decreases-loop-rest l = l.rest
