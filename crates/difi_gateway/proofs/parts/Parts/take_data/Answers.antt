use Rattle.std.proofs.Common.{vec_capacity, refl, Some, None, sym, ap, subst, inr, ◌∙◌, ◌++◌, ◌∷◌, []}
use Rattle.std.proofs.lemmas.Option.{slice_get_read}
use Rattle.vrt_words.specs.Buffer.{Buffer}
use Rattle.vrt_header.specs.Profile.{PacketProfile}
use Rattle.sample_binder.specs.Calls.{front_in}
use Rattle.sample_binder.specs.Given.{IsDataOf}
use Rattle.sample_binder.proofs.BinderLemmas.{data_bytes}
use Rattle.difi_gateway.specs.Steps.{gated}
use Rattle.difi_gateway.proofs.CallLemmas.{data_given}
use Rattle.difi_gateway.proofs.parts.Parts.take_data.Goals as goal

pub front_of-front-requires : goal.front_of-front-requires
front_of-front-requires c = data_bytes c.args.self.now.profile c.args.bytes.now c.requires.grammar

pub call_data-requires-clause-front : goal.call_data-requires-clause-front
call_data-requires-clause-front c = c.front_of-front.ensures ∙ sym (ap (λ (b : Buffer). front_in b.bytes) c.filled-buf.ensures.filled.2)

pub call_data-requires-clause-ready : goal.call_data-requires-clause-ready
call_data-requires-clause-ready c = (c.requires.ready.each c.in-Some.index c.index_mut.result.now (slice_get_read _ _ c.in-Some.index c.index_mut.result.now (sym c.requires.ready.all) c.in-Some.ensures.within c.index_mut.ensures.value)).0

pub call_data-requires-clause-grammar : goal.call_data-requires-clause-grammar
call_data-requires-clause-grammar c =
    subst (λ (b : Buffer). IsDataOf c.index_mut.result.now.profile b.bytes) (sym c.filled-buf.ensures.filled.2)
    (subst (λ (p : PacketProfile). IsDataOf p c.args.bytes.now) (sym (c.requires.ready.each c.in-Some.index c.index_mut.result.now (slice_get_read _ _ c.in-Some.index c.index_mut.result.now (sym c.requires.ready.all) c.in-Some.ensures.within c.index_mut.ensures.value)).1) c.requires.grammar)

pub returns-in-Ok : goal.returns-in-Ok
returns-in-Ok c = inr (
    data_given c.args.stream c.args.bytes.now c.args.port (gated c.args.self.now) (gated c.draw.new.self) c.filled-buf.new.empty.items c.filled-buf.ensures.filled.0 c.filled-buf.result
    None c.in-Some.index c.index_mut.result.now c.call_data.new.binder
    c.filled-buf.ensures.filled.2 c.filled-buf.ensures.filled.1 c.in-Some.ensures.found (slice_get_read _ _ c.in-Some.index c.index_mut.result.now (sym c.requires.ready.all) c.in-Some.ensures.within c.index_mut.ensures.value) c.in-Ok.ensures.called
    c.filled-buf.new.empty.items (vec_capacity c.filled-buf.new.empty) refl c.filled-buf.ensures.capacity c.draw.ensures
    )

pub returns-in-Err : goal.returns-in-Err
returns-in-Err c = inr (
    data_given c.args.stream c.args.bytes.now c.args.port (gated c.args.self.now) (gated c.turn_away.new.self) c.filled-buf.new.empty.items c.filled-buf.ensures.filled.0 c.filled-buf.result
    (Some c.in-Err.turned) c.in-Some.index c.index_mut.result.now c.call_data.new.binder
    c.filled-buf.ensures.filled.2 c.filled-buf.ensures.filled.1 c.in-Some.ensures.found (slice_get_read _ _ c.in-Some.index c.index_mut.result.now (sym c.requires.ready.all) c.in-Some.ensures.within c.index_mut.ensures.value) c.in-Err.ensures.called
    c.push_reserved.new.self.items (vec_capacity c.push_reserved.new.self)
    (c.push_reserved.ensures.items ∙ ap (λ b. c.filled-buf.new.empty.items ++ b ∷ []) c.in-Err.ensures.back) (c.push_reserved.ensures.capacity ∙ c.filled-buf.ensures.capacity) c.turn_away.ensures
    )
