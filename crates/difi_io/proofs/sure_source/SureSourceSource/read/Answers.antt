use Rattle.std.proofs.Common.{arith, ◌≡◌, ◌∙◌, sym, ap, take, drop, length}
use Rattle.std.proofs.lemmas.Grind.{common_steps}
use Rattle.difi_io.specs.Supply.{Supply}
use Rattle.difi_io.proofs.Pieces.{copied_and_left}
use Rattle.difi_io.proofs.sure_source.SureSourceSource.read.Goals as goal

pub returns-clause-bytes : goal.returns-clause-bytes
returns-clause-bytes c =
    let is : c.copy_from_slice.new.self ≡ take c.min-count.result (drop c.self.inside.given c.self.inside.bytes.items) =
    grind (arith, common_steps, c.copy_from_slice.ensures.after, c.deref.ensures.value) in
    let long : length c.copy_from_slice.new.self ≡ c.min-count.result =
    grind (arith, common_steps, c.copy_from_slice.ensures.len) in
    sym (ap (λ (s : Supply). s.left) c.self.view_is) ∙ copied_and_left _ _ _ _ _ is long
