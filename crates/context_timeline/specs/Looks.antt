-- The mark that a look says, wherever the fields lie.
use Rattle.context_timeline.specs.declared.mark.Mark.{Mark}
use Rattle.context_timeline.specs.declared.mark.Mark.TheVariants as mark
use Rattle.context_timeline.specs.declared.look.Look.{Look}
use Rattle.context_timeline.specs.declared.look.Look.TheVariants as look

abbrev pub mark_of : Look → Mark
mark_of look.Open = mark.Open
mark_of look.BeforeFirst = mark.BeforeFirst
mark_of look.TimelineFull = mark.TimelineFull
mark_of (look.Lost lost) = mark.Lost lost
mark_of (look.Bound place fields) = mark.Bound place fields.now
