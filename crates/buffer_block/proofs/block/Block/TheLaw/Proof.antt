-- Of a block its lifetime's token is lent, in shares. Assumes `Logic`.
use mathlib.Core.List.{[], ◌∷◌}
use base.Fraction.{full_share}
use base.Fml.{fbor, flft}
use types.Logic.{lfts}
use types.Kit.{‵, raw, ◌$◌, ◌∵◌, !, qed, updating, now, done}
use types.Tokens.{bor_fracture}
use denote.Sharing.{one}
use denote.SharingLaws.{one_shr_laws}
use denote.Struct.Lending.{of_Lends, Lends-first}
use Rattle.buffer_block.specs.Ownership.{lent}
use Rattle.buffer_block.specs.contracts.block.Sole.{the_row as sole_row}
use Rattle.buffer_block.specs.contracts.block.Block as C
use Rattle.buffer_block.proofs.block.Sole.TheLaws as sole
use Rattle.buffer_block.proofs.block.Block.TheLaw.Statement.{statement}

pub shares : statement
shares =
    of_Lends C.struct (C.the_codes sole_row.coded) C.the_heap C.the_lent (λ d p. one_shr_laws (λ q. flft (d.life ∷ []) q)) (sole.the_field_shared, tt) (λ M 𝓤 𝓛 d p.
    Lends-first 𝓛 (flft (d.life ∷ []) full_share) (lent d.life d.room d.number d.sole.ptr) (one (λ q. flft (d.life ∷ []) q)) C.the_row.lives
    (λ κ ts inc sp. qed 𝓛 (‵ (fbor κ (flft (d.life ∷ []) full_share)) ∷ raw (lfts 𝓛 ts) ∷ []) ∵ updating ! $ bor_fracture ! tt (λ q. flft (d.life ∷ []) q) full_share $ now ! $ done !))
