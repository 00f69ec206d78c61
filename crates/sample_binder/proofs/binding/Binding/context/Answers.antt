use Rattle.std.proofs.Common.{◌<◌, ◌++◌, ◌∷◌, [], IfSome, sym, ap, ◌∙◌, subst}
use Rattle.context_timeline.specs.State.{TimelineState, horizon_of, stamp_in, timed_context}
use Rattle.vrt_time.specs.Time.{moment_of}
use Rattle.sample_binder.specs.Events.{ContextEvent}
use Rattle.sample_binder.specs.Queue.{State, owed, StandsFor, IsState}
use Rattle.sample_binder.proofs.StateLemmas.{stands-context, IsState-context, sampling_of}
use Rattle.sample_binder.proofs.binding.Binding.context.Goals as goal

pub add-requires-clause-later : goal.add-requires-clause-later
add-requires-clause-later c =
    subst (λ (s : State). IfSome (horizon_of s.line) (λ horizon. moment_of horizon < moment_of (stamp_in c.args.rec.now.prologue.stamp))) (sym c.self.view_is) c.requires.later

pub invariant_of-self : goal.invariant_of-self
invariant_of-self c =
    let inside = c.self.inside in
    let old : State = record { pending = inside.pending; line = inside.timeline; queue = inside.queue.items; leaving = inside.leaving; ended = inside.ended } in
    let context = timed_context c.args.rec.now c.args.lost in
    let later : IfSome (horizon_of old.line) (λ horizon. moment_of horizon < moment_of context.stamp) =
    subst (λ (s : State). IfSome (horizon_of s.line) (λ horizon. moment_of horizon < moment_of context.stamp)) (sym c.self.view_is) c.requires.later in
    let kept : IsState (record { pending = inside.pending; line = c.add.new.self; queue = inside.queue.items; leaving = inside.leaving; ended = inside.ended }) =
    subst (λ (l : TimelineState). IsState (record { pending = inside.pending; line = l; queue = inside.queue.items; leaving = inside.leaving; ended = inside.ended })) (sym c.add.ensures.one_more)
    (IsState-context old c.self.invariant.is_state (ap owed c.self.view_is ∙ c.requires.nothing) context (sampling_of c.args.rec.now c.requires.grammar) later) in
    record { is_state = kept; room_kept = c.self.invariant.room_kept; first = λ e. absurd (cc) }

pub returns-clause-history : goal.returns-clause-history
returns-clause-history c = λ limits events taken h.
    let inside = c.self.inside in
    let old : State = record { pending = inside.pending; line = inside.timeline; queue = inside.queue.items; leaving = inside.leaving; ended = inside.ended } in
    let context = timed_context c.args.rec.now c.args.lost in
    let before : StandsFor old limits events taken = subst (λ (s : State). StandsFor s limits events taken) (sym c.self.view_is) h in
    subst (λ (l : TimelineState). StandsFor (record { pending = inside.pending; line = l; queue = inside.queue.items; leaving = inside.leaving; ended = inside.ended }) limits (events ++ ContextEvent context ∷ []) taken)
    (sym c.add.ensures.one_more)
    (stands-context old limits events taken before c.self.invariant.is_state (ap owed c.self.view_is ∙ c.requires.nothing) context)
