use Rattle.std.proofs.Common.{rules, arith}
use Rattle.std.proofs.lemmas.List.{take_rest}
use Rattle.difi_io.proofs.Moves.{Appends-more}
use Rattle.record_run.proofs.transfer.write_all.Goals as goal

pub loop-done-preserved : goal.loop-done-preserved
loop-done-preserved g c = record {
  within = search rules;
  bytes = Appends-more _ _ _ c.args.bytes.now _ c.loop-done.done c.in_ok-done.field-0 (take_rest c.args.bytes.now c.loop-done.done) c.loop-done.invariant.bytes c.in_ok-done.ensures.bytes;
  idle = λ none. absurd (omega (arith, none, c.in_ok-done.ensures.some));
  same = search rules;
}
