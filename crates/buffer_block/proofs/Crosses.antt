-- What a block and its owners hold names no thread.
use Rattle.std.proofs.Common.{ℕ, zero, suc}
use base.Shift.{Keyless}
use denote.Param.Send.{IsSend, IsSync, struct_send, struct_sync, owning_send}
use denote.RawPtr.{Ptr, block_ptr, null_ptr, ◌+ₚ◌}
use denote.Struct.Declared as declared
use denote.Struct.Owning.{shape, to}
use Rattle.std.specs.contracts.alloc.Global as heap
use Rattle.std.specs.contracts.impls.GlobalAllocator.TheImpl.{ghosts}
use Rattle.std.proofs.alloc.Global.TheSendSync as heap_crosses
use Rattle.std.proofs.Crossing.{frees}
use Rattle.std_alloc.proofs.SendSync.{Arc-send, Vec-send}
use Rattle.bytes.proofs.Crosses.{u8-send}
use denote.Builtin.{u8}
use Rattle.buffer_block.specs.Ownership.{room_owns, lent}
use Rattle.buffer_block.specs.contracts.block.Sole as Sole
use Rattle.buffer_block.specs.contracts.block.Sole.TheInside as vec_inside
use Rattle.buffer_block.specs.contracts.block.Block as Block
use Rattle.buffer_block.specs.contracts.tether.Tether as Tether
use Rattle.buffer_block.specs.contracts.tether.Tether.TheInside as arc_inside

room-keyless : (p : Ptr) (n : ℕ) → Keyless (room_owns p n)
room-keyless (block_ptr b o) n = (tt, tt)
room-keyless null_ptr n = (tt, tt)

lent-keyless : (a room n : ℕ) (p : Ptr) → Keyless (lent a room n p)
lent-keyless a room zero p = tt
lent-keyless a room (suc n) p = (room-keyless p room, lent-keyless a room n (p +ₚ room))

pub sole-send : IsSend Sole.the_row
sole-send = record {
  owned = λ e vs. ((λ _. tt), λ v. (room-keyless e.ptr e.len, (struct_send (declared.shape vec_inside.the_type) (Vec-send u8 heap.the_row ghosts u8-send heap_crosses.the_send frees, tt)).owned (v.vec, tt) vs));
  leaving = λ k x w. tt;
}

pub sole-sync : IsSync Sole.the_row
sole-sync = record { shared = λ e b o κ. tt }

pub block-send : IsSend Block.the_row
block-send = owning_send Block.the_type (sole-send, tt) (λ d. (tt, lent-keyless d.life d.room d.number d.sole.ptr)) (λ k x w. (tt, tt))

pub block-sync : IsSync Block.the_row
block-sync = record { shared = λ d b o κ. ((struct_sync (shape Block.the_type) (sole-sync, tt)).shared (to Block.the_type d) b o κ, λ q. tt) }

pub tether-send : IsSend Tether.the_row
tether-send =
    let counted = Arc-send Block.the_row heap.the_row ghosts block-send block-sync frees heap_crosses.the_send heap_crosses.the_sync in
    record {
      owned = λ t vs. ((λ _. tt), λ x w. ((tt, (struct_send (declared.shape arc_inside.the_type) (counted, tt)).owned (x.block, tt) vs), (tt, room-keyless t.ptr t.len)));
      leaving = λ k x w. tt;
    }

pub tether-sync : IsSync Tether.the_row
tether-sync = record { shared = λ t b o κ. tt }
