use Rattle.std.proofs.Common.{subst, sym, false, true}
use Rattle.difi_gateway.specs.State.{Gated, IsAtRest, StandsFor}
use Rattle.difi_gateway.specs.Steps.{gated}
use Rattle.difi_gateway.proofs.StepLemmas.{may_be_told, told_sound, told_stands}
use Rattle.difi_gateway.proofs.gateway.Gateway.end.Goals as goal

pub tell_end-requires : goal.tell_end-requires
tell_end-requires c =
    let w = c.self.invariant.sound in
    may_be_told (gated c.self.inside.parts) w.head w.received _ w.given w.stands (subst IsAtRest (sym c.self.view_is) c.requires.rest).stage

pub draw_ahead-requires : goal.draw_ahead-requires
draw_ahead-requires c = told_sound (gated c.self.inside.parts) (gated c.tell_end.new.self) c.self.invariant.sound (subst IsAtRest (sym c.self.view_is) c.requires.rest) c.tell_end.ensures

pub returns-clause-stands : goal.returns-clause-stands
returns-clause-stands c = λ head received given st.
    c.draw_ahead.ensures.way.stands head received true given
    (told_stands (gated c.self.inside.parts) (gated c.tell_end.new.self) head received given (subst (λ (g : Gated). StandsFor g head received false given) (sym c.self.view_is) st)
    (subst IsAtRest (sym c.self.view_is) c.requires.rest) c.tell_end.ensures)
