-- The head's numbers stay, and what was captured stands behind them.
use Rattle.std.proofs.Common.{◌∙◌, arith}
use Rattle.pcap_frames.proofs.NumberLaws.{same_number}
use Rattle.pcap_frames.proofs.SpellingLaws.{record_written, head_of_record, behind_record}
use Rattle.pcap_frames.proofs.encode.encode_capture.Goals as goal

pub returns-clause-captured : goal.returns-clause-captured
returns-clause-captured c =
    let big = c.args.form.big in
    let mid = c.put_u32-4.new.into in
    let seconds = same_number big 0 4 4 mid c.put_u32.new.into (omega arith)
    (c.put_u32-4.ensures.front 4 (omega arith) ∙ c.put_u32-3.ensures.front 4 (omega arith) ∙ c.put_u32-2.ensures.front 4 (omega arith))
    ∙ c.put_u32.ensures.there ∙ c.seconds.ensures.number in
    let fraction = same_number big 4 4 8 mid c.put_u32-2.new.into (omega arith) (c.put_u32-4.ensures.front 8 (omega arith) ∙ c.put_u32-3.ensures.front 8 (omega arith))
    ∙ c.put_u32-2.ensures.there ∙ c.fraction_of.ensures in
    let size = same_number big 8 4 12 mid c.put_u32-3.new.into (omega arith) (c.put_u32-4.ensures.front 12 (omega arith)) ∙ c.put_u32-3.ensures.there in
    record_written c.args.form c.args.time c.args.bytes.now mid c.copy_from_slice.new.self c.seconds.ensures.within c.requires.unit c.requires.most (omega arith)
    c.copy_from_slice.ensures.after seconds fraction size

pub returns-clause-original : goal.returns-clause-original
returns-clause-original c =
    head_of_record c.args.form.big 12 c.args.bytes.now c.put_u32-4.new.into c.copy_from_slice.new.self (omega arith) (omega arith) c.copy_from_slice.ensures.after
    ∙ c.put_u32-4.ensures.there

pub returns-clause-behind : goal.returns-clause-behind
returns-clause-behind c =
    behind_record c.args.bytes.now c.put_u32-4.new.into c.copy_from_slice.new.self c.args.into.now (omega arith) c.copy_from_slice.ensures.after
    (c.put_u32-4.ensures.stays _ (omega arith) ∙ c.put_u32-3.ensures.stays _ (omega arith) ∙ c.put_u32-2.ensures.stays _ (omega arith) ∙ c.put_u32.ensures.stays _ (omega arith))
