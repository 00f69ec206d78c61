use denote.Param.Send.{IsSync}
use Rattle.buffer_block.proofs.Crosses.{block-sync}
use Rattle.buffer_block.specs.contracts.block.Block.{the_row}

pub sync : IsSync the_row
sync = block-sync
