-- The record goes on with its captured bytes.
use Rattle.std.proofs.Common.{◌≡◌, ◌<◌, ◌≤◌, length, ap, ◌∙◌, arith}
use Rattle.replay_form.proofs.Taking.{whole_piece}
use Rattle.pcap_frames.specs.CaptureFields.{record_size}
use Rattle.pcap_frames.proofs.FieldLaws.{captured_part, captured_whole}
use Rattle.pcap_frames.proofs.TakingLaws.{record_grown, record_resumes}
use Rattle.pcap_frames.proofs.take.take_captured.Goals as goal

pub returns-then-len-size-clause-taken : goal.returns-then-len-size-clause-taken
returns-then-len-size-clause-taken c =
    let form = c.args.form in
    let old = c.args.held.now.items in
    let new = c.take_up_to-count.new.held.items in
    let size : c.size_of_record-size.result ≡ record_size form old = c.size_of_record-size.ensures ∙ ap (record_size form) c.deref.ensures.value in
    let grown = record_grown form old _ new c.take_up_to-count.ensures.held c.requires.begun in
    let right = record_resumes form old _ new c.take_up_to-count.ensures.held c.requires.begun in
    let count = c.take_up_to-count.ensures.len in
    let short : length new < c.size_of_record-size.result = omega arith in record {
      held = whole_piece old c.args.piece.now new c.take_up_to-count.result c.take_up_to-count.ensures.held (c.take_up_to-count.ensures.all short);
      goes_on = captured_part form new (omega arith) right;
    }

pub returns-else-len-size-clause-taken : goal.returns-else-len-size-clause-taken
returns-else-len-size-clause-taken c =
    let form = c.args.form in
    let old = c.args.held.now.items in
    let new = c.take_up_to-count.new.held.items in
    let size : c.size_of_record-size.result ≡ record_size form old = c.size_of_record-size.ensures ∙ ap (record_size form) c.deref.ensures.value in
    let grown = record_grown form old _ new c.take_up_to-count.ensures.held c.requires.begun in
    let right = record_resumes form old _ new c.take_up_to-count.ensures.held c.requires.begun in
    let count = c.take_up_to-count.ensures.len in
    let within = c.requires.begun.within in
    let most : length new ≤ c.size_of_record-size.result = c.take_up_to-count.ensures.within (omega arith) in record {
      few = c.take_up_to-count.ensures.few;
      held = c.take_up_to-count.ensures.held;
      whole = captured_whole form new (omega arith) right;
    }
