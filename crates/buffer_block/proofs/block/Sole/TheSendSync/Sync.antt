use denote.Param.Send.{IsSync}
use Rattle.buffer_block.proofs.Crosses.{sole-sync}
use Rattle.buffer_block.specs.contracts.block.Sole.{the_row}

pub sync : IsSync the_row
sync = sole-sync
