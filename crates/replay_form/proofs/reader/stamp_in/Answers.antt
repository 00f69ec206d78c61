-- The picoseconds of a frame are below a second.
use Rattle.std.proofs.Common.{arith}
use Rattle.replay_form.proofs.FrameLaws.{frame_ranges}
use Rattle.replay_form.proofs.reader.stamp_in.Goals as goal

pub unreachable-requires : goal.unreachable-requires
unreachable-requires c =
    let below = (frame_ranges c.args.last c.args.bytes.now c.requires).picos in
    grind arith
