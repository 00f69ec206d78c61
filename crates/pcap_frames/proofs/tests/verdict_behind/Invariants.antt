use Rattle.std.proofs.Common.{◌≡◌, ◌≤◌, ◌-◌, List, length, take, None}
use Rattle.pcap_frames.specs.CaptureFields.{Captured}
use Rattle.pcap_frames.specs.Reading.{StandsFor}
use Rattle.pcap_frames.proofs.tests.verdict_behind.Given as goal

-- the reader stands for the bytes so far
abbrev pub invariant-loop-at : goal.invariant-loop-at
invariant-loop-at l = record {
  within : l.at ≤ length l.bytes;
  sound : l.reader.fault ≡ None;
  stands : (records : List Captured) × StandsFor l.reader (take l.at l.bytes) records;
}

abbrev pub decreases-loop-at : goal.decreases-loop-at
decreases-loop-at l = length l.bytes - l.at
