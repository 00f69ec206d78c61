use Rattle.std.proofs.Common.{◌≡◌, subst, sym, ◌∙◌, ◌+◌, ◌<◌, ◌^◌, false, length, arith}
use Rattle.replay_form.specs.FrameFields.{Frame}
use Rattle.difi_gateway.specs.State.{Gated, IsAtRest, StandsFor}
use Rattle.difi_gateway.specs.Steps.{gated}
use Rattle.difi_gateway.proofs.TakingLemmas.{frame_in, frame_apart, frame_running, sound_ready}
use Rattle.difi_gateway.proofs.gateway.Gateway.frame.Goals as goal

pub take_frame-requires-clause-ready : goal.take_frame-requires-clause-ready
take_frame-requires-clause-ready c =
    sound_ready (gated c.self.inside.parts) (length c.args.bytes.now) c.self.invariant.sound
    (subst IsAtRest (sym c.self.view_is) c.requires.rest) (subst (λ (g : Gated). g.taken + 1 + length c.args.bytes.now < 2 ^ 63) (sym c.self.view_is) c.requires.few)

pub draw_ahead-requires : goal.draw_ahead-requires
draw_ahead-requires c =
    let frame : Frame = record { stamp = c.args.moment; port = c.args.port; datagram = c.args.bytes.now } in
    (frame_in (gated c.self.inside.parts) (gated c.take_frame.new.self) frame c.self.invariant.sound (subst IsAtRest (sym c.self.view_is) c.requires.rest)
    (λ i. omega (arith, c.type_inv.bytes i)) (subst (λ (g : Gated). g.taken + 1 + length c.args.bytes.now < 2 ^ 63) (sym c.self.view_is) c.requires.few) c.take_frame.ensures).sound

pub returns-clause-stands : goal.returns-clause-stands
returns-clause-stands c = λ head received given st.
    let frame : Frame = record { stamp = c.args.moment; port = c.args.port; datagram = c.args.bytes.now } in
    let is = frame_in (gated c.self.inside.parts) (gated c.take_frame.new.self) frame c.self.invariant.sound (subst IsAtRest (sym c.self.view_is) c.requires.rest)
    (λ i. omega (arith, c.type_inv.bytes i)) (subst (λ (g : Gated). g.taken + 1 + length c.args.bytes.now < 2 ^ 63) (sym c.self.view_is) c.requires.few) c.take_frame.ensures in
    let one = is.more head received given (subst (λ (g : Gated). StandsFor g head received false given) (sym c.self.view_is) st) in
    (one.0, one.1, c.draw_ahead.ensures.way.stands head _ false given one.2)

pub returns-clause-apart : goal.returns-clause-apart
returns-clause-apart c = λ head received given st content is stream. frame_apart head _ stream st.is_of.values

pub returns-clause-running : goal.returns-clause-running
returns-clause-running c =
    let frame : Frame = record { stamp = c.args.moment; port = c.args.port; datagram = c.args.bytes.now } in
    let rest = subst IsAtRest (sym c.self.view_is) c.requires.rest in
    let is = frame_in (gated c.self.inside.parts) (gated c.take_frame.new.self) frame c.self.invariant.sound rest
    (λ i. omega (arith, c.type_inv.bytes i)) (subst (λ (g : Gated). g.taken + 1 + length c.args.bytes.now < 2 ^ 63) (sym c.self.view_is) c.requires.few) c.take_frame.ensures in
    c.draw_ahead.ensures.way.ended ∙ frame_running (gated c.self.inside.parts) (gated c.take_frame.new.self) frame c.self.invariant.sound rest is.more

pub returns-clause-taken : goal.returns-clause-taken
returns-clause-taken c =
    let frame : Frame = record { stamp = c.args.moment; port = c.args.port; datagram = c.args.bytes.now } in
    let is = frame_in (gated c.self.inside.parts) (gated c.take_frame.new.self) frame c.self.invariant.sound (subst IsAtRest (sym c.self.view_is) c.requires.rest)
    (λ i. omega (arith, c.type_inv.bytes i)) (subst (λ (g : Gated). g.taken + 1 + length c.args.bytes.now < 2 ^ 63) (sym c.self.view_is) c.requires.few) c.take_frame.ensures in
    c.draw_ahead.ensures.way.taken ∙ subst (λ (g : Gated). (gated c.take_frame.new.self).taken ≡ g.taken + 1 + length c.args.bytes.now) c.self.view_is is.taken
