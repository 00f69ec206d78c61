-- The header goes on with its routes.
use Rattle.std.proofs.Common.{◌≡◌, ◌<◌, ◌≤◌, length, sym, ap, subst, ◌∙◌, vec_len, arith}
use Rattle.replay_form.specs.HeadFields.{AreJudged, IsHeadWrongAt, field_count, head_size}
use Rattle.replay_form.proofs.Taking.{few_routes, begun_resumes, wrong_in_piece, whole_piece, judged_open, judged_whole, grown_size}
use Rattle.replay_form.proofs.take.take_routes.Goals as goal

pub take_up_to-count-requires : goal.take_up_to-count-requires
take_up_to-count-requires c =
    let old = c.args.held.now.items in
    let few = few_routes old c.args.judged c.requires.begun.fields c.requires.begun.there in
    let same : c.size_of_head-size.result ≡ head_size old = c.size_of_head-size.ensures ∙ ap head_size c.deref.ensures.value in
    omega arith

pub judge_head-requires-clause-right : goal.judge_head-requires-clause-right
judge_head-requires-clause-right c =
    let e = c.deref-2.ensures.value ∙ c.take_up_to-count.ensures.held in
    (begun_resumes c.args.held.now.items _ c.deref-2.result.now c.args.judged e c.requires.begun).right

pub judge_head-requires-clause-among : goal.judge_head-requires-clause-among
judge_head-requires-clause-among c =
    let e = c.deref-2.ensures.value ∙ c.take_up_to-count.ensures.held in
    (begun_resumes c.args.held.now.items _ c.deref-2.result.now c.args.judged e c.requires.begun).among

pub returns-in-Err-clause-wrong : goal.returns-in-Err-clause-wrong
returns-in-Err-clause-wrong c =
    let wrong = subst (λ xs. IsHeadWrongAt xs c.in-Err.offset) c.deref-2.ensures.value c.in-Err.ensures.wrong in
    wrong_in_piece c.args.held.now.items c.args.piece.now c.take_up_to-count.new.held.items c.take_up_to-count.result c.in-Err.offset c.take_up_to-count.ensures.held wrong

pub returns-then-len-size-clause-taken : goal.returns-then-len-size-clause-taken
returns-then-len-size-clause-taken c =
    let old = c.args.held.now.items in
    let new = c.take_up_to-count.new.held.items in
    let judged = subst (λ xs. AreJudged xs c.in-Ok.judged (field_count xs)) c.deref-2.ensures.value c.in-Ok.ensures.judged in
    let size : c.size_of_head-size.result ≡ head_size old = c.size_of_head-size.ensures ∙ ap head_size c.deref.ensures.value in
    let grown = grown_size old _ new c.args.judged c.take_up_to-count.ensures.held c.requires.begun in
    let count : length new ≡ vec_len c.take_up_to-count.new.held = sym (ap length c.deref-2.ensures.value) ∙ c.deref-2.ensures.len in
    let short : length new < c.size_of_head-size.result = omega arith in record {
      held = whole_piece old c.args.piece.now new c.take_up_to-count.result c.take_up_to-count.ensures.held (c.take_up_to-count.ensures.all short);
      goes_on = judged_open new c.in-Ok.judged judged (omega arith);
    }

pub returns-else-len-size-clause-taken : goal.returns-else-len-size-clause-taken
returns-else-len-size-clause-taken c =
    let old = c.args.held.now.items in
    let new = c.take_up_to-count.new.held.items in
    let judged = subst (λ xs. AreJudged xs c.in-Ok.judged (field_count xs)) c.deref-2.ensures.value c.in-Ok.ensures.judged in
    let size : c.size_of_head-size.result ≡ head_size old = c.size_of_head-size.ensures ∙ ap head_size c.deref.ensures.value in
    let grown = grown_size old _ new c.args.judged c.take_up_to-count.ensures.held c.requires.begun in
    let count : length new ≡ vec_len c.take_up_to-count.new.held = sym (ap length c.deref-2.ensures.value) ∙ c.deref-2.ensures.len in
    let within = c.requires.begun.within in
    let most : length new ≤ c.size_of_head-size.result = c.take_up_to-count.ensures.within (omega arith) in record {
      few = c.take_up_to-count.ensures.few;
      held = c.take_up_to-count.ensures.held;
      whole = judged_whole new c.in-Ok.judged judged (omega arith);
    }
