-- The law of the definitions, at the call's facts.
use Rattle.std.proofs.Common.{Result, Ok, Err, IfErr}
use Rattle.pcap_frames.specs.Reading.{IsUnfinished}
use Rattle.pcap_frames.proofs.ReadingLaws.{unfinished_told}
use Rattle.pcap_frames.proofs.reader.CaptureReader.finish.Goals as goal

err_weaker : {A B : Type 0} (P Q : B → Type 0) (r : Result A B) → ((e : B) → P e → Q e) → IfErr r P → IfErr r Q
err_weaker P Q (Ok a) f p = tt
err_weaker P Q (Err e) f p = f e p

pub returns-clause-no_capture : goal.returns-clause-no_capture
returns-clause-no_capture c =
    err_weaker (λ fault. IsUnfinished c.args.self.now.fault c.args.self.now fault.offset) _ c.ending.result
    (λ fault is taken records stands. unfinished_told c.args.self.now taken records fault.offset is stands) c.ending.ensures.unfinished
