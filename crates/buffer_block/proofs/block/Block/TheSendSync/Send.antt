use denote.Param.Send.{IsSend}
use Rattle.buffer_block.proofs.Crosses.{block-send}
use Rattle.buffer_block.specs.contracts.block.Block.{the_row}

pub send : IsSend the_row
send = block-send
