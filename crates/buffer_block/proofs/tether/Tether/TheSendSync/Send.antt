use denote.Param.Send.{IsSend}
use Rattle.buffer_block.proofs.Crosses.{tether-send}
use Rattle.buffer_block.specs.contracts.tether.Tether.{the_row}

pub send : IsSend the_row
send = tether-send
