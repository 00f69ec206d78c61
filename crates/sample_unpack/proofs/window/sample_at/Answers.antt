use Rattle.std.proofs.Common.{◌+◌, ◌*◌, ◌∙◌, refl, arith}
use Rattle.sample_unpack.specs.Bits.{bits_of_bytes}
use Rattle.sample_unpack.proofs.Bits.{length-bits_of_bytes}
use Rattle.sample_unpack.proofs.Samples.{sample_in_window}
use Rattle.sample_unpack.proofs.window.sample_at.Goals as goal

pub returns : goal.returns
returns c =
    let payload = c.args.payload.now in
    let start = 8 * c.args.at in
    c.sample_from.ensures
    ∙ sample_in_window c.args.width (bits_of_bytes payload) c.window_at.result c.items_in.result start c.args.offset (start + c.args.offset)
    (omega arith) (omega (arith, length-bits_of_bytes payload)) refl c.window_at.ensures c.items_in.ensures.items
