use denote.Param.Send.{IsSync}
use Rattle.buffer_block.proofs.Crosses.{tether-sync}
use Rattle.buffer_block.specs.contracts.tether.Tether.{the_row}

pub sync : IsSync the_row
sync = tether-sync
