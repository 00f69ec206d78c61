-- The laws of the definitions, at the call's facts.
use Rattle.std.proofs.Common.{Result, Ok, Err, IfErr, OnErr}
use Rattle.std.proofs.lemmas.Result.{IfOk-weaker}
use Rattle.replay_form.specs.Reading.{IsNextReading, IsFailed}
use Rattle.replay_form.proofs.ReadingLaws.{step_stands, step_few, step_lies, failed_stands}
use Rattle.replay_form.proofs.reader.RecordReader.feed.Goals as goal

on_err : {A B : Type 0} (P : Type 0) (Q : B → Type 0) (r : Result A B) → ((e : B) → Q e → P) → IfErr r Q → OnErr r P
on_err P Q (Ok a) f q = tt
on_err P Q (Err e) f q = f e q

pub returns-clause-stands : goal.returns-clause-stands
returns-clause-stands c =
    IfOk-weaker c.advance.result (λ step. IsNextReading c.args.self.now c.args.piece.now step.0 step.1 c.advance.new.self) _
    (λ step is taken frames stands. step_stands c.args.self.now c.args.piece.now step.0 step.1 c.advance.new.self taken frames is stands) c.advance.ensures.step

pub returns-clause-fails : goal.returns-clause-fails
returns-clause-fails c =
    on_err _ (λ fault. IsFailed c.args.self.now.fault c.args.self.now c.args.piece.now fault.offset c.advance.new.self) c.advance.result
    (λ fault is taken frames stands. failed_stands c.args.self.now c.args.piece.now fault.offset c.advance.new.self taken frames is stands) c.advance.ensures.wrong

pub returns-clause-few : goal.returns-clause-few
returns-clause-few c =
    IfOk-weaker c.advance.result (λ step. IsNextReading c.args.self.now c.args.piece.now step.0 step.1 c.advance.new.self) _
    (λ step is. step_few c.args.self.now c.args.piece.now step.0 step.1 c.advance.new.self is) c.advance.ensures.step

pub returns-clause-lies : goal.returns-clause-lies
returns-clause-lies c =
    IfOk-weaker c.advance.result (λ step. IsNextReading c.args.self.now c.args.piece.now step.0 step.1 c.advance.new.self) _
    (λ step is. step_lies c.args.self.now c.args.piece.now step.0 step.1 c.advance.new.self is) c.advance.ensures.step
