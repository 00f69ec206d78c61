use Rattle.std.proofs.Common.{sym, subst, inr}
use Rattle.std.proofs.lemmas.Option.{slice_get_read}
use Rattle.vrt_header.specs.Profile.{PacketProfile}
use Rattle.difi_context.specs.Context.{IsSpelled}
use Rattle.difi_gateway.proofs.parts.Parts.take_context.Goals as goal

pub call_context-requires-clause-ready : goal.call_context-requires-clause-ready
call_context-requires-clause-ready c =
    (c.requires.ready.each c.in-Some.index c.index_mut.result.now (slice_get_read _ _ c.in-Some.index c.index_mut.result.now (sym c.requires.ready.all) c.in-Some.ensures.within c.index_mut.ensures.value)).0

pub call_context-requires-clause-grammar : goal.call_context-requires-clause-grammar
call_context-requires-clause-grammar c =
    subst (λ (p : PacketProfile). IsSpelled p c.args.rec)
    (sym (c.requires.ready.each c.in-Some.index c.index_mut.result.now (slice_get_read _ _ c.in-Some.index c.index_mut.result.now (sym c.requires.ready.all) c.in-Some.ensures.within c.index_mut.ensures.value)).1)
    c.requires.grammar

pub returns-in-Ok : goal.returns-in-Ok
returns-in-Ok c = inr (
  _,
  record {
    index = c.in-Some.index;
    route = c.in-Some.ensures.found;
    was = c.index_mut.result.now;
    there = slice_get_read _ _ c.in-Some.index c.index_mut.result.now (sym c.requires.ready.all) c.in-Some.ensures.within c.index_mut.ensures.value;
    now = c.call_context.new.binder;
    called = c.in-Ok.ensures;
    after = c.draw.ensures;
  },
)

pub returns-in-Err : goal.returns-in-Err
returns-in-Err c = inr (
  _,
  record {
    index = c.in-Some.index;
    route = c.in-Some.ensures.found;
    was = c.index_mut.result.now;
    there = slice_get_read _ _ c.in-Some.index c.index_mut.result.now (sym c.requires.ready.all) c.in-Some.ensures.within c.index_mut.ensures.value;
    now = c.call_context.new.binder;
    called = c.in-Err.ensures;
    after = c.turn_away.ensures;
  },
)
