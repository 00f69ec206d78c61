-- The record of received datagrams as what an intake reads.
use Rattle.std.specs.Prelude.{◌≡◌, ◌+◌, length, true, Some, None, if◌then◌else◌}
use Rattle.replay_form.specs.FrameFields.{Frame}
use Rattle.replay_form.specs.Head.{IsHead}
use Rattle.replay_form.specs.Reading.{Reading, IsFrameIn, StandsFor, begun, held_frame}
use Rattle.replay_form.specs.Record.{IsRecord, EndsInside}
use Rattle.replay_form.specs.Standing.{HasNoHead, HasFrames}
use Rattle.replay_form.specs.Verdict.{HasNoFault, HasFaultAt}
use Rattle.replay_form.specs.declared.record_head.RecordHead.{RecordHead}
use Rattle.replay_form.specs.Grammar.{Grammar, Reads}

abbrev pub record_grammar : Grammar RecordHead Frame
record_grammar = record {
  wrong = HasFaultAt;
  sound = HasNoFault;
  inside = EndsInside;
  header = λ bytes. (head : RecordHead) × IsHead head bytes;
  none = HasNoHead;
  has = HasFrames;
  whole = IsRecord;
  size = λ frame. length frame.datagram;
}

-- what a reader of a record knows, while no field is wrong
abbrev pub record_reads : Reading → Reads RecordHead Frame
record_reads reading = record {
  given = reading.start + length (begun reading);
  whole = reading.start;
  head = if reading.started then Some reading.head else None;
  frame = λ taken frame. (reading.whole ≡ true) × ((frame ≡ held_frame reading taken) × IsFrameIn reading taken);
  stands = λ taken frames. (reading.fault ≡ None) × StandsFor reading taken frames;
}
