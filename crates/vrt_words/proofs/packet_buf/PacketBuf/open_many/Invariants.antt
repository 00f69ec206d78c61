use Rattle.std.proofs.Common.{◌≡◌, ◌*◌, ◌-◌, ◌≤◌, replicate, vec_capacity}
use Rattle.vrt_words.specs.Buffer.{fresh}
use Rattle.vrt_words.proofs.packet_buf.PacketBuf.open_many.Given as goal

-- the buffers of bytes that are left, the buffers for packets that were made of the others, and the room for all
abbrev pub invariant-loop : goal.invariant-loop
invariant-loop l = record {
  left : l.opened.items ≡ replicate (l.number - l.counter) (fresh (4 * l.max_words));
  made : l.bufs.items ≡ replicate l.counter (fresh (4 * l.max_words));
  count : l.counter ≤ l.number;
  room : l.number ≤ vec_capacity l.bufs;
}
