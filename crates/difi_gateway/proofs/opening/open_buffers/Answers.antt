-- Each of the buffers that were opened together has the room.
use Rattle.std.proofs.Common.{ℕ, zero, suc, ◌*◌, replicate, subst, sym, refl}
use Rattle.std.specs.List.{AllByRecursion}
use Rattle.vrt_words.specs.Buffer.{fresh}
use Rattle.difi_gateway.specs.State.{HasRoom}
use Rattle.difi_gateway.proofs.opening.open_buffers.Goals as goal

have_room : (max_words number : ℕ) → AllByRecursion (HasRoom max_words) (replicate number (fresh (4 * max_words)))
have_room max_words zero = tt
have_room max_words (suc number) = (refl, have_room max_words number)

pub returns-clause-rooms : goal.returns-clause-rooms
returns-clause-rooms c =
    subst (AllByRecursion (HasRoom c.args.max_words)) (sym c.in_ok-buffers.ensures.buffers) (have_room c.args.max_words c.args.number)
