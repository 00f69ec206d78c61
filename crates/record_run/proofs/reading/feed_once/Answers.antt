use Rattle.std.proofs.Common.{refl, subst, arith}
use Rattle.replay_form.specs.declared.event.Event.{Event}
use Rattle.replay_form.specs.Grammar.{IsIntake}
use Rattle.record_run.proofs.Feeding.{more_fed, head_fed, frame_fed, wrong_fed, counts_within}
use Rattle.record_run.proofs.reading.feed_once.Goals as goal

pub returns-in-Ok-default-More-clause-fed : goal.returns-in-Ok-default-More-clause-fed
returns-in-Ok-default-More-clause-fed g c = λ taken frames stands. record {
  count = c.in-Ok-default-More.count;
  is = refl;
  some = c.in-Ok-default-More.ensures.progress c.requires.some;
  few = c.in-Ok-default-More.ensures.front.few;
  fed = more_fed c.args.bytes.now c.in-Ok-default-More.count _ _ _ _ taken frames (subst (λ (e : Event). IsIntake g.I.Intake.grammar e c.args.bytes.now c.in-Ok-default-More.count (g.I.Intake.reads c.args.intake.now) (g.I.Intake.reads c.feed.new.self)) c.in-Ok-default-More.field-0-1-is c.in-Ok-default-More.ensures.step) stands;
}

pub returns-in-Ok-clause-fed : goal.returns-in-Ok-clause-fed
returns-in-Ok-clause-fed g c = λ taken frames stands. record {
  count = c.in-Ok-default-Head.count;
  is = refl;
  some = c.in-Ok-default-Head.ensures.progress c.requires.some;
  few = c.in-Ok-default-Head.ensures.front.few;
  fed = head_fed g.I.Intake.grammar c.args.bytes.now c.in-Ok-default-Head.count _ _ _ _ _ _ taken frames (subst (λ (e : Event). IsIntake g.I.Intake.grammar e c.args.bytes.now c.in-Ok-default-Head.count (g.I.Intake.reads c.args.intake.now) (g.I.Intake.reads c.feed.new.self)) c.in-Ok-default-Head.field-0-1-is c.in-Ok-default-Head.ensures.step) stands c.in-Ok.ensures.told;
}

pub returns-in-Ok-default-Frame-clause-fed : goal.returns-in-Ok-default-Frame-clause-fed
returns-in-Ok-default-Frame-clause-fed g c = λ taken frames stands.
    let read = subst (λ (e : Event). IsIntake g.I.Intake.grammar e c.args.bytes.now c.in-Ok-default-Frame.count (g.I.Intake.reads c.args.intake.now) (g.I.Intake.reads c.feed.new.self)) c.in-Ok-default-Frame.field-0-1-is c.in-Ok-default-Frame.ensures.step in record {
      count = c.in-Ok-default-Frame.count;
      is = refl;
      some = c.in-Ok-default-Frame.ensures.progress c.requires.some;
      few = c.in-Ok-default-Frame.ensures.front.few;
      fed = frame_fed g.I.Intake.grammar c.args.bytes.now c.in-Ok-default-Frame.count _ _ _ _ _ _ taken frames read stands (c.tell_frame.ensures.told read.says read.is read.head read.frame);
    }

pub returns-in-Err-clause-fed : goal.returns-in-Err-clause-fed
returns-in-Err-clause-fed g c = λ taken frames stands. record {
  count = 1;
  is = tt;
  some = omega arith;
  few = omega (arith, c.requires.some);
  fed = wrong_fed g.I.Intake.grammar c.args.bytes.now c.in-Err.fault.offset _ _ _ taken frames c.in-Err.ensures.wrong c.requires.ready stands;
}

-- the frame that is whole is the one that was read
pub tell_frame-requires-clause-count : goal.tell_frame-requires-clause-count
tell_frame-requires-clause-count g c = λ frame whole.
    let read = subst (λ (e : Event). IsIntake g.I.Intake.grammar e c.args.bytes.now c.in-Ok-default-Frame.count (g.I.Intake.reads c.args.intake.now) (g.I.Intake.reads c.feed.new.self)) c.in-Ok-default-Frame.field-0-1-is c.in-Ok-default-Frame.ensures.step in
    counts_within g.I.Intake.grammar c.args.bytes.now c.in-Ok-default-Frame.count _ _ _ frame read whole (g.met.I.Intake.so_far c.feed.new.self) c.requires.ready
    c.in-Ok-default-Frame.ensures.front c.requires.small
