use Rattle.std.proofs.Common.{◌++◌, ◌∷◌, [], List, sym, ap, ◌∙◌, subst, arith}
use Rattle.sample_binder.specs.Pending.{Pending}
use Rattle.sample_binder.specs.Events.{DataEvent}
use Rattle.sample_binder.specs.Queue.{FirstWaits, State, owed, StandsFor, IsState}
use Rattle.sample_binder.proofs.StateLemmas.{first_held, held_some, stands-data, IsState-data, idle}
use Rattle.sample_binder.proofs.binding.Binding.data.Goals as goal

pub push_back_reserved-requires : goal.push_back_reserved-requires
push_back_reserved-requires c =
    let inside = c.self.inside in
    let old : State = record { pending = inside.pending; line = inside.timeline; queue = inside.queue.items; leaving = inside.leaving; ended = inside.ended } in
    omega (arith, c.self.invariant.room_kept, (idle old c.self.invariant.is_state (ap owed c.self.view_is ∙ c.requires.nothing)).few, inside.queue.ok.0)

pub invariant_of-self : goal.invariant_of-self
invariant_of-self c =
    let inside = c.self.inside in
    let old : State = record { pending = inside.pending; line = inside.timeline; queue = inside.queue.items; leaving = inside.leaving; ended = inside.ended } in
    let kept : IsState (record { pending = inside.pending; line = inside.timeline; queue = c.push_back_reserved.new.self.items; leaving = inside.leaving; ended = inside.ended }) =
    subst (λ (q : List Pending). IsState (record { pending = inside.pending; line = inside.timeline; queue = q; leaving = inside.leaving; ended = inside.ended })) (sym c.push_back_reserved.ensures.items)
    (IsState-data old c.self.invariant.is_state (ap owed c.self.view_is ∙ c.requires.nothing) c.args.packet c.requires.shape) in
    record { is_state = kept; room_kept = omega (arith, c.self.invariant.room_kept, c.push_back_reserved.ensures.capacity); first = λ e. subst (λ (q : List Pending). FirstWaits inside.timeline q) (sym c.push_back_reserved.ensures.items) (first_held inside.pending inside.timeline inside.ended inside.queue.items c.args.packet (idle old c.self.invariant.is_state (ap owed c.self.view_is ∙ c.requires.nothing)).queue_waits (held_some c.is_empty.result _ inside.queue.items c.is_empty.ensures (omega (arith, inside.queue.ok.0)) e)) }

pub returns-clause-history : goal.returns-clause-history
returns-clause-history c = λ limits events taken h.
    let inside = c.self.inside in
    let old : State = record { pending = inside.pending; line = inside.timeline; queue = inside.queue.items; leaving = inside.leaving; ended = inside.ended } in
    let before : StandsFor old limits events taken = subst (λ (s : State). StandsFor s limits events taken) (sym c.self.view_is) h in
    subst (λ (q : List Pending). StandsFor (record { pending = inside.pending; line = inside.timeline; queue = q; leaving = inside.leaving; ended = inside.ended }) limits (events ++ DataEvent c.args.packet ∷ []) taken)
    (sym c.push_back_reserved.ensures.items)
    (stands-data old limits events taken before c.self.invariant.is_state (ap owed c.self.view_is ∙ c.requires.nothing) c.args.packet)
