-- The frame is whole, and the next one has not begun.
use Rattle.std.proofs.Common.{◌≡◌, ◌<◌, ◌+◌, ◌^◌, ◌∙◌, if◌then◌else◌, [], length, take, sym, ap, subst, true, false, None, length-append, arith}
use Rattle.std.proofs.lemmas.Grind.{common_steps}
use Rattle.std.proofs.lemmas.List.{length-take-le}
use Rattle.replay_form.specs.FrameFields.{IsWholeFrame}
use Rattle.replay_form.specs.Reading.{Reading, begun, whole_bytes}
use Rattle.replay_form.specs.contracts.reader.RecordReader.{the_view}
use Rattle.replay_form.proofs.RecordLaws.{nothing_open}
use Rattle.replay_form.proofs.ReadingLaws.{found_bytes, frame_found}
use Rattle.replay_form.proofs.reader.RecordReader.feed_frame.Goals as goal

pub stamp_in-last-requires : goal.stamp_in-last-requires
stamp_in-last-requires c =
    let front = take c.in-Ok-Whole.count c.args.piece.now in
    let found = rw c.in-Ok-Whole.field-0-is at c.in-Ok-Whole.ensures.taken in
    let is = c.bytes_of_frame-frame.ensures ∙ ap (λ held. whole_bytes held front) c.deref.ensures.value in
    subst (IsWholeFrame c.self.inside.last) (sym (found_bytes c.self.inside.last _ _ _ c.in-Ok-Whole.count _ found is)) found.whole

pub invariant_of-self-in-Ok-Whole : goal.invariant_of-self-in-Ok-Whole
invariant_of-self-in-Ok-Whole c =
    let inv = c.self.invariant in
    let held = c.self.inside.held.items in
    let bytes = c.bytes_of_frame-frame.result.now in
    let count = c.in-Ok-Whole.count in
    let front = take count c.args.piece.now in
    let found = rw c.in-Ok-Whole.field-0-is at c.in-Ok-Whole.ensures.taken in
    let started : c.self.inside.started ≡ true = ap (λ (r : Reading). r.started) c.self.view_is ∙ c.requires.later in
    let idle : c.self.inside.whole ≡ false = ap (λ (r : Reading). r.whole) c.self.view_is ∙ c.requires.idle in
    let few = found.few in
    let is = c.bytes_of_frame-frame.ensures ∙ ap (λ h. whole_bytes h front) c.deref.ensures.value in
    let all = found_bytes c.self.inside.last held c.args.piece.now c.take_frame.new.held.items count bytes found is in
    let grown : length bytes ≡ length held + count = ap length all ∙ length-append held front ∙ ap (λ n. length held + n) (length-take-le count c.args.piece.now few) in
    let same = ap (λ (r : Reading). r.start + length (begun r)) c.self.view_is in
    let open_ : c.self.inside.start + length (if c.self.inside.whole then [] else held) ≡ c.self.inside.start + length held =
    ap (λ w. c.self.inside.start + length (if w then [] else held)) idle in
    let limit = c.requires.small in
    let small : c.self.inside.start + length held + length c.args.piece.now < 2 ^ 63 = omega arith in
    record {
      held_fit = (let cap = c.take_frame.ensures.capacity in let fit = inv.held_fit in omega arith);
      no_routes = inv.no_routes;
      routes_fit = inv.routes_fit;
      not_whole = λ h. absurd (cc);
      head_open = λ s h. absurd (cc);
      frame_open = λ s h. nothing_open _;
      spelled = inv.spelled;
      idle = λ some. grind (arith, common_steps);
      small = λ s. omega arith;
    }

pub returns-in-Ok-Whole-clause-step : goal.returns-in-Ok-Whole-clause-step
returns-in-Ok-Whole-clause-step c =
    let front = take c.in-Ok-Whole.count c.args.piece.now in
    let found = rw c.in-Ok-Whole.field-0-is at c.in-Ok-Whole.ensures.taken in
    let started : c.self.inside.started ≡ true = ap (λ (r : Reading). r.started) c.self.view_is ∙ c.requires.later in
    let sound : c.self.inside.fault ≡ None = ap (λ (r : Reading). r.fault) c.self.view_is ∙ c.requires.sound in
    let idle : c.self.inside.whole ≡ false = ap (λ (r : Reading). r.whole) c.self.view_is ∙ c.requires.idle in
    let is = c.bytes_of_frame-frame.ensures ∙ ap (λ held. whole_bytes held front) c.deref.ensures.value in
    rw (← c.self.view_is)
    (frame_found (the_view c.self.inside) c.args.piece.now c.in-Ok-Whole.count c.take_frame.new.held.items c.bytes_of_frame-frame.result.now c.stamp_in-last.result sound
    started idle found (found_bytes c.self.inside.last _ _ _ c.in-Ok-Whole.count _ found is) c.stamp_in-last.ensures)
