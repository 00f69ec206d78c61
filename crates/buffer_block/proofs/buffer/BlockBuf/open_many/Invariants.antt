use Rattle.std.proofs.Common.{◌-◌, ◌≡◌, ◌+◌, ◌≤◌, replicate}
use Rattle.std.specs.Vec.{vec_len, vec_capacity}
use denote.RawPtr.{InBlock}
use Rattle.buffer_block.specs.Buffers.{fresh}
use Rattle.buffer_block.proofs.buffer.BlockBuf.open_many.Given as goal

-- i buffers stand, and the loans of the others lie from `ptr` on
abbrev pub invariant-loop-i : goal.invariant-loop-i
invariant-loop-i l =
    (l.i ≤ l.number) × (l.bufs.items ≡ replicate l.i (fresh l.room)) × (vec_len l.bufs ≡ l.i) × (vec_capacity l.bufs ≡ l.number)
    × (l.places.life ≡ l.block.value.life) × (l.places.room ≡ l.room) × (l.i + l.places.left ≡ l.number) × (l.places.ptr ≡ l.ptr) × InBlock l.ptr

abbrev pub decreases-loop-i : goal.decreases-loop-i
decreases-loop-i l = l.number - l.i
