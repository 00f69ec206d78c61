use denote.Param.Send.{IsSend}
use Rattle.buffer_block.proofs.Crosses.{sole-send}
use Rattle.buffer_block.specs.contracts.block.Sole.{the_row}

pub send : IsSend the_row
send = sole-send
