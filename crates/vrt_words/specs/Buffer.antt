-- What a contract sees of a buffer for a packet: its room, and the bytes there.
pub use Rattle.buffer_block.specs.Buffers.{Buffer, fresh}
