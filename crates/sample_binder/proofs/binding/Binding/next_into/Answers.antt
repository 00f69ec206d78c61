use Rattle.std.proofs.Common.{◌≡◌, ◌∷◌, IfSome, sym, subst, arith}
use Rattle.sample_binder.specs.declared.out.Out.TheVariants as out
use Rattle.sample_binder.specs.GivenOut.{out_with}
use Rattle.sample_binder.specs.Queue.{State, owed, StandsFor}
use Rattle.sample_binder.proofs.GiveLemmas.{owed-run, stands-run, none_with, IsNext, next-packet}
use Rattle.sample_binder.proofs.binding.Binding.next_into.Goals as goal

pub returns-then-give_run-clause-history : goal.returns-then-give_run-clause-history
returns-then-give_run-clause-history c = λ limits events taken h.
    let inside = c.self.inside in
    let old : State = record { pending = inside.pending; line = inside.timeline; queue = inside.queue.items; leaving = inside.leaving; ended = inside.ended } in
    let before : StandsFor old limits events taken = subst (λ (s : State). StandsFor s limits events taken) (sym c.self.view_is) h in
    let given = c.give_run.ensures.given c.if-give_run.true in
    stands-run old limits events taken before (out.Run c.give_run.new.run) c.give_run.new.leaving (owed-run old c.give_run.new.run c.give_run.new.leaving given)

next_here : (c : goal.After-give_packet) → IsNext (record { pending = c.self.inside.pending; line = c.self.inside.timeline; queue = c.self.inside.queue.items; leaving = c.self.inside.leaving; ended = c.self.inside.ended }) c.give_packet.new.queue.items c.give_packet.new.leaving (out_with c.give_packet.result c.give_run.new.run)
next_here c =
    let inside = c.self.inside in
    let run = c.give_run.new.run in
    let given = c.give_packet.result in
    let old : State = record { pending = inside.pending; line = inside.timeline; queue = inside.queue.items; leaving = inside.leaving; ended = inside.ended } in
    next-packet old c.give_packet.new.queue.items c.give_packet.new.leaving (out_with given run) c.self.invariant.is_state (c.give_run.ensures.none c.if-give_run.false) (c.give_packet.ensures.packet run)
    (none_with _ given run c.give_packet.ensures.same_queue) (none_with _ given run c.give_packet.ensures.same_leaving)

pub invariant_of-self-2 : goal.invariant_of-self-2
invariant_of-self-2 c = record { is_state = (next_here c).is_state; room_kept = omega (arith, c.self.invariant.room_kept, c.give_packet.ensures.room); first = λ e. absurd (cc) }

pub returns-clause-given : goal.returns-clause-given
returns-clause-given c =
    let inside = c.self.inside in
    subst (λ (s : State). IfSome (out_with c.give_packet.result c.give_run.new.run) (λ given. owed s ≡ given ∷ owed (record { pending = inside.pending; line = inside.timeline; queue = c.give_packet.new.queue.items; leaving = c.give_packet.new.leaving; ended = inside.ended }))) c.self.view_is (next_here c).given

pub returns-clause-history : goal.returns-clause-history
returns-clause-history c = λ limits events taken h.
    (next_here c).history limits events taken (subst (λ (s : State). StandsFor s limits events taken) (sym c.self.view_is) h)
