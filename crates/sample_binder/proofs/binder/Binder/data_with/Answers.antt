use Rattle.std.proofs.Common.{◌≡◌, ◌+◌, ◌<◌, ◌^◌, [], List, length, Ok, Err, false, bytes_eq, refl, sym, ap, ◌∙◌, subst, arith}
use Rattle.std.proofs.lemmas.List.{append-nil}
use Rattle.vrt_words.specs.Buffer.{Buffer}
use Rattle.reorder_window.specs.State.{Holding}
use Rattle.sample_binder.specs.Arrivals.{released_list}
use Rattle.sample_binder.specs.Released.{queue_with}
use Rattle.sample_binder.specs.Binder.{BinderState, IsBinderState, StandsFor, Follows, number_kept, without_release}
use Rattle.sample_binder.specs.Calls.{data_entry}
use Rattle.sample_binder.specs.Events.{Event}
use Rattle.sample_binder.specs.Queue.{State, owed}
use Rattle.sample_binder.specs.Queue as queue
use Rattle.sample_binder.proofs.BinderLemmas.{undrained_packets, data_bytes, front_released, seen_data, turned_data, buffer_back, answer_data, follows_data, bound_data, same_but}
use Rattle.sample_binder.proofs.KeptLemmas.{one_more_seen, one_release, length-queue_with, few_where_nothing}
use Rattle.sample_binder.proofs.NextLemmas.{held_within}
use Rattle.sample_binder.proofs.binder.Binder.data_with.Goals as goal

pub arrive_data-requires-clause-undrained : goal.arrive_data-requires-clause-undrained
arrive_data-requires-clause-undrained c =
    let inside = c.self.inside in
    let untold : inside.told ≡ false = ap (λ (b : BinderState). b.told) c.self.view_is ∙ c.requires.untold in
    undrained_packets inside.packets inside.told c.self.invariant.seen.packets_seen untold

pub give_data-requires-clause-front : goal.give_data-requires-clause-front
give_data-requires-clause-front c =
    let inside = c.self.inside in
    let untold : inside.told ≡ false = ap (λ (b : BinderState). b.told) c.self.view_is ∙ c.requires.untold in
    front_released (λ a b. bytes_eq a.bytes b.bytes) inside.packets c.arrive_data.new.window inside.told c.args.buf (Ok c.in-Ok.released) c.self.invariant.seen.packets_seen untold
    c.in-Ok.ensures.takes (data_bytes c.args.self.now.profile c.args.buf.bytes c.requires.grammar) c.in-Ok.released refl

pub invariant_of-self : goal.invariant_of-self
invariant_of-self c =
    let inside = c.self.inside in
    let old : BinderState = record { profile = inside.profile; limits = inside.limits; contexts = inside.contexts; packets = inside.packets; state = inside.binding; given = inside.given; told = inside.told } in
    let untold : inside.told ≡ false = ap (λ (b : BinderState). b.told) c.self.view_is ∙ c.requires.untold in
    let few : inside.given < 2 ^ 63 = omega (arith, ap (λ (b : BinderState). b.given) c.self.view_is, c.requires.few) in
    bound_data old c.self.invariant untold few c.arrive_data.new.window c.give_data.new.binding (queue_with inside.binding.queue c.in-Ok.released) c.give_data.ensures.state c.in-Ok.ensures.size
    (seen_data (λ a b. bytes_eq a.bytes b.bytes) inside.packets c.arrive_data.new.window inside.told c.args.buf (Ok c.in-Ok.released) c.self.invariant.seen.packets_seen untold
    c.in-Ok.ensures.takes (data_bytes c.args.self.now.profile c.args.buf.bytes c.requires.grammar))

pub returns-in-Ok-clause-answer : goal.returns-in-Ok-clause-answer
returns-in-Ok-clause-answer c = λ calls taken h.
    let now = c.args.self.now in
    let inside = c.self.inside in
    let packets : inside.packets ≡ now.packets = ap (λ (b : BinderState). b.packets) c.self.view_is in
    let follows : Follows now.limits now.contexts inside.packets now.state now.told calls taken =
    subst (λ (w : Holding Buffer). Follows now.limits now.contexts w now.state now.told calls taken) (sym packets) h in
    ap without_release (answer_data (λ a b. bytes_eq a.bytes b.bytes) now.limits inside.packets c.arrive_data.new.window now.contexts now.state now.state now.told c.args.buf (Ok c.in-Ok.released) c.requires.untold
    c.in-Ok.ensures.takes c.in-Ok.ensures.size calls taken follows)

pub returns-in-Ok-clause-stands : goal.returns-in-Ok-clause-stands
returns-in-Ok-clause-stands c = λ calls taken h.
    let inside = c.self.inside in
    let untold : inside.told ≡ false = ap (λ (b : BinderState). b.told) c.self.view_is ∙ c.requires.untold in
    let follows : Follows inside.limits inside.contexts inside.packets inside.binding inside.told calls taken =
    subst (λ (b : BinderState). StandsFor b calls taken) (sym c.self.view_is) h in
    follows_data (λ a b. bytes_eq a.bytes b.bytes) inside.limits inside.packets c.arrive_data.new.window inside.contexts inside.binding c.give_data.new.binding inside.told c.args.buf (Ok c.in-Ok.released) untold
    c.in-Ok.ensures.takes c.in-Ok.ensures.size calls taken follows (released_list c.in-Ok.released) refl
    (λ events s. c.give_data.ensures.history inside.limits events taken s)

same_packets : (c : goal.In-Err) → c.arrive_data.new.window ≡ c.self.inside.packets
same_packets c =
    let inside = c.self.inside in
    let untold : inside.told ≡ false = ap (λ (b : BinderState). b.told) c.self.view_is ∙ c.requires.untold in
    turned_data (λ a b. bytes_eq a.bytes b.bytes) inside.packets c.arrive_data.new.window inside.told c.args.buf (Err c.in-Err.turned) c.self.invariant.seen.packets_seen untold
    c.in-Err.ensures.takes (data_bytes c.args.self.now.profile c.args.buf.bytes c.requires.grammar) c.in-Err.turned refl

pub invariant_of-self-in-Err : goal.invariant_of-self-in-Err
invariant_of-self-in-Err c =
    let inside = c.self.inside in
    subst (λ (w : Holding Buffer). IsBinderState (record { profile = inside.profile; limits = inside.limits; contexts = inside.contexts; packets = w; state = inside.binding; given = inside.given; told = inside.told }))
    (sym (same_packets c)) c.self.invariant

pub returns-in-Err-clause-answer : goal.returns-in-Err-clause-answer
returns-in-Err-clause-answer c = λ calls taken h.
    let now = c.args.self.now in
    let inside = c.self.inside in
    let packets : inside.packets ≡ now.packets = ap (λ (b : BinderState). b.packets) c.self.view_is in
    let follows : Follows now.limits now.contexts inside.packets now.state now.told calls taken =
    subst (λ (w : Holding Buffer). Follows now.limits now.contexts w now.state now.told calls taken) (sym packets) h in
    ap without_release (answer_data (λ a b. bytes_eq a.bytes b.bytes) now.limits inside.packets c.arrive_data.new.window now.contexts now.state now.state now.told c.args.buf (Err c.in-Err.turned) c.requires.untold
    c.in-Err.ensures.takes c.in-Err.ensures.size calls taken follows)

pub returns-in-Err-clause-stands : goal.returns-in-Err-clause-stands
returns-in-Err-clause-stands c = λ calls taken h.
    let inside = c.self.inside in
    let untold : inside.told ≡ false = ap (λ (b : BinderState). b.told) c.self.view_is ∙ c.requires.untold in
    let follows : Follows inside.limits inside.contexts inside.packets inside.binding inside.told calls taken =
    subst (λ (b : BinderState). StandsFor b calls taken) (sym c.self.view_is) h in
    follows_data (λ a b. bytes_eq a.bytes b.bytes) inside.limits inside.packets c.arrive_data.new.window inside.contexts inside.binding inside.binding inside.told c.args.buf (Err c.in-Err.turned) untold
    c.in-Err.ensures.takes c.in-Err.ensures.size calls taken follows [] refl
    (λ events s. subst (λ (es : List Event). queue.StandsFor inside.binding inside.limits es taken) (sym (append-nil events)) s)

pub returns-in-Err-clause-err : goal.returns-in-Err-clause-err
returns-in-Err-clause-err c =
    let inside = c.self.inside in
    ap (λ (w : Holding Buffer). same_but inside.profile inside.limits inside.contexts w inside.binding inside.given inside.told) (same_packets c) ∙ c.self.view_is

pub returns-in-Err-clause-buffer : goal.returns-in-Err-clause-buffer
returns-in-Err-clause-buffer c =
    let inside = c.self.inside in
    let untold : inside.told ≡ false = ap (λ (b : BinderState). b.told) c.self.view_is ∙ c.requires.untold in
    buffer_back (λ a b. bytes_eq a.bytes b.bytes) inside.packets c.arrive_data.new.window inside.told c.args.buf (Err c.in-Err.turned) c.self.invariant.seen.packets_seen untold
    c.in-Err.ensures.takes (data_bytes c.args.self.now.profile c.args.buf.bytes c.requires.grammar) c.in-Err.turned refl

pub returns-in-Ok-clause-one_more : goal.returns-in-Ok-clause-one_more
returns-in-Ok-clause-one_more c =
    let inside = c.self.inside in
    let untold : inside.told ≡ false = ap (λ (b : BinderState). b.told) c.self.view_is ∙ c.requires.untold in
    let held = one_more_seen (λ a b. bytes_eq a.bytes b.bytes) inside.packets c.arrive_data.new.window inside.told (data_entry c.args.buf) c.in-Ok.released c.self.invariant.seen.packets_seen untold c.in-Ok.ensures.takes c.in-Ok.ensures.size in
    let queue = ap (λ (s : State). length s.queue) c.give_data.ensures.state ∙ length-queue_with inside.binding.queue c.in-Ok.released in
    let before : length inside.packets.held + length inside.binding.queue ≡ number_kept c.args.self.now = ap number_kept c.self.view_is in
    omega (arith, held, queue, before)

pub returns-in-Ok-clause-few_kept : goal.returns-in-Ok-clause-few_kept
returns-in-Ok-clause-few_kept c =
    let inside = c.self.inside in
    let untold : inside.told ≡ false = ap (λ (b : BinderState). b.told) c.self.view_is ∙ c.requires.untold in
    let seen = seen_data (λ a b. bytes_eq a.bytes b.bytes) inside.packets c.arrive_data.new.window inside.told c.args.buf (Ok c.in-Ok.released) c.self.invariant.seen.packets_seen untold
    c.in-Ok.ensures.takes (data_bytes c.args.self.now.profile c.args.buf.bytes c.requires.grammar) in
    let held = held_within c.arrive_data.new.window inside.told seen in
    let queue = ap (λ (s : State). length s.queue) c.give_data.ensures.state ∙ length-queue_with inside.binding.queue c.in-Ok.released in
    let before = few_where_nothing inside.binding (ap (λ (b : BinderState). owed b.state) c.self.view_is ∙ c.requires.nothing) in
    omega (arith, held, c.in-Ok.ensures.size, c.self.invariant.data_size, queue, one_release c.in-Ok.released, before, c.self.invariant.pending)

pub returns-in-Ok-clause-few_wait : goal.returns-in-Ok-clause-few_wait
returns-in-Ok-clause-few_wait c =
    let inside = c.self.inside in
    let queue = ap (λ (s : State). length s.queue) c.give_data.ensures.state ∙ length-queue_with inside.binding.queue c.in-Ok.released in
    let before = few_where_nothing inside.binding (ap (λ (b : BinderState). owed b.state) c.self.view_is ∙ c.requires.nothing) in
    omega (arith, queue, one_release c.in-Ok.released, before, c.self.invariant.pending)

pub returns-in-Err-clause-few_kept : goal.returns-in-Err-clause-few_kept
returns-in-Err-clause-few_kept c =
    let inside = c.self.inside in
    let before = few_where_nothing inside.binding (ap (λ (b : BinderState). owed b.state) c.self.view_is ∙ c.requires.nothing) in
    let held = held_within inside.packets inside.told c.self.invariant.seen.packets_seen in
    omega (arith, ap (λ (w : Holding Buffer). length w.held) (same_packets c), held, before, c.self.invariant.data_size, c.self.invariant.pending)

pub returns-in-Err-clause-few_wait : goal.returns-in-Err-clause-few_wait
returns-in-Err-clause-few_wait c =
    let before = few_where_nothing c.self.inside.binding (ap (λ (b : BinderState). owed b.state) c.self.view_is ∙ c.requires.nothing) in
    omega (arith, before, c.self.invariant.pending)
