use Rattle.std.proofs.Common.{subst, sym}
use Rattle.difi_gateway.specs.State.{Gated}
use Rattle.difi_gateway.specs.Steps.{gated}
use Rattle.difi_gateway.specs.Drawing.{MayGoOn}
use Rattle.difi_gateway.proofs.MoveLemmas.{drew_nothing}
use Rattle.difi_gateway.proofs.parts.Parts.move_on.Goals as goal

pub go_on-requires : goal.go_on-requires
go_on-requires c =
    subst (λ (g : Gated). MayGoOn g.stage g.binders) (sym (drew_nothing c.args.index (gated c.args.self.now) (gated c.draw_next.new.self) c.in-Nothing.ensures)) c.requires.next
