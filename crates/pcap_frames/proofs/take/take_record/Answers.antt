-- Where nothing is held, what was moved is what is kept.
use Rattle.std.proofs.Common.{arith}
use Rattle.std.proofs.lemmas.Result.{IfOk-weaker}
use Rattle.std.proofs.lemmas.List.{nil_from_length}
use Rattle.pcap_frames.specs.Taking.{IsRecordMoved}
use Rattle.pcap_frames.proofs.TakingLaws.{moved_taken}
use Rattle.pcap_frames.proofs.take.take_record.Goals as goal

pub returns-in-None-clause-taken : goal.returns-in-None-clause-taken
returns-in-None-clause-taken c =
    let none = nil_from_length c.args.held.now.items (grind arith) in
    IfOk-weaker c.take_in_parts-in-None.result (λ taken. IsRecordMoved c.args.form c.args.held.now.items c.args.piece.now taken _) _
    (λ taken is. moved_taken c.args.form c.args.held.now.items c.args.piece.now taken _ none c.in-None.ensures.none is) c.take_in_parts-in-None.ensures.taken
