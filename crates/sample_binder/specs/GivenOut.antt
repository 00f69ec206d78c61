-- The output that an answer means whose run stands in a place of its own.
use Rattle.std.specs.Prelude.{Option, Some, None}
use Rattle.sample_binder.specs.declared.out.Given.{Given}
use Rattle.sample_binder.specs.declared.out.Given.TheVariants as given
use Rattle.sample_binder.specs.declared.out.Out.{Out}
use Rattle.sample_binder.specs.declared.out.Out.TheVariants as out
use Rattle.sample_binder.specs.declared.out.Run.{Run}

-- a packet, or the run that stands there
abbrev pub out_by : Given → Run → Out
out_by (given.Packet buf lost) run = out.Packet buf lost
out_by given.Run run = out.Run run

abbrev pub out_with : Option Given → Run → Option Out
out_with None run = None
out_with (Some given) run = Some (out_by given run)
