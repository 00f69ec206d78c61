-- The record stands whole in front.
use Rattle.std.proofs.Common.{◌≤◌, length, take, sym, subst, arith}
use Rattle.std.proofs.lemmas.List.{length-take-le}
use Rattle.pcap_frames.specs.CaptureFields.{IsWholeRecord, record_size}
use Rattle.pcap_frames.proofs.FieldLaws.{whole_in_front, whole_not_wrong, whole_told}
use Rattle.pcap_frames.proofs.judge.whole_record.Goals as goal

pub returns-else-bytes-size-clause-whole : goal.returns-else-bytes-size-clause-whole
returns-else-bytes-size-clause-whole c =
    let bytes = c.args.bytes.now in
    let there : record_size c.args.form bytes ≤ length bytes = omega (arith, c.size_of_record-size.ensures, c.if-bytes-size.false) in
    subst (λ n. IsWholeRecord c.args.form (take n bytes)) (sym c.size_of_record-size.ensures)
    (whole_in_front c.args.form bytes (omega (arith, c.if-bytes-lt-RECORD_HEAD.false)) c.in_default.ensures.right there)

pub returns-in-Err-clause-none : goal.returns-in-Err-clause-none
returns-in-Err-clause-none c = λ n few whole. whole_not_wrong c.args.form c.args.bytes.now n _ c.in-Err.ensures.wrong whole

pub returns-then-bytes-size-clause-none : goal.returns-then-bytes-size-clause-none
returns-then-bytes-size-clause-none c = λ n few whole.
    let told = whole_told c.args.form c.args.bytes.now n whole in
    omega (arith, told.1, length-take-le n c.args.bytes.now few, c.size_of_record-size.ensures, c.if-bytes-size.true)
