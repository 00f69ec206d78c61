-- What a teller tells, in other words.
use Rattle.std.proofs.Common.{◌≡◌, ℕ, inl, inr, List, take, ◌∙◌}
use Rattle.replay_form.specs.Grammar.{Grammar}
use Rattle.record_run.specs.declared.status.Status.{Status}
use Rattle.record_run.specs.declared.status.Status.TheVariants.{Done, Usage, ReadFault, WriteFault, Memory, BadRecord, TooLong}
use Rattle.record_run.specs.Tells.{Tells}
use Rattle.record_run.specs.Outcome.{Behaviour, Moves, IsPart, IsOutput, IsCause, IsOutcome}

-- what one tells, the other tells too
pub record Retells {H F : Type 0} (tells other : Tells H F) : Type 0 where
  pub part : (head : H) (frames : List F) (text : List ℕ) → tells.part head frames text → other.part head frames text
  pub out : (head : H) (frames : List F) (text : List ℕ) → tells.out head frames text → other.out head frames text
  pub wants : other.wants ≡ tells.wants

module _ {H F : Type 0} (most : ℕ) (grammar : Grammar H F) (tells other : Tells H F) (same : Retells tells other) where
  abbrev told : Behaviour H F
  told = record { most = most; grammar = grammar; tells = tells }

  abbrev retold : Behaviour H F
  retold = record { most = most; grammar = grammar; tells = other }

  part_retold : (bytes text : List ℕ) → IsPart told bytes text → IsPart retold bytes text
  part_retold bytes text (inl p) = inl p
  part_retold bytes text (inr p) = inr (p.0, (p.1.0, (p.1.1.0, same.part p.0 p.1.0 text p.1.1.1)))

  output_retold : (bytes text : List ℕ) → IsOutput told bytes text → IsOutput retold bytes text
  output_retold bytes text p = (p.0, (p.1.0, (p.1.1.0, same.out p.0 p.1.0 text p.1.1.1)))

  cause_retold : (status : Status) (bytes text : List ℕ) (moves : Moves) → IsCause status told bytes text moves → IsCause status retold bytes text moves
  cause_retold Done bytes text moves c = record { at_end = c.at_end; within = c.within; output = output_retold bytes text c.output }
  cause_retold ReadFault bytes text moves c = record { rose = c.rose; kept = c.kept; within = c.within; sound = c.sound; part = part_retold bytes text c.part }
  cause_retold WriteFault bytes text moves c = record {
    rose = c.rose;
    all = c.all;
    so_far = elim c.so_far [
      | inl p ↦ inl (part_retold (take most bytes) c.all p)
      | inr p ↦ inr (p.0, (p.1.0, output_retold bytes c.all p.1.1))
    ];
    number = c.number;
    front = c.front;
  }
  cause_retold Memory bytes text moves c = record {
    reads = c.reads;
    writes = c.writes;
    taken = elim c.taken [ inl p ↦ inl p | inr p ↦ inr (same.wants ∙ p.0, p.1) ];
    none = c.none;
  }
  cause_retold (BadRecord offset) bytes text moves c = record { bad = c.bad; part = part_retold (take most bytes) text c.part }
  cause_retold TooLong bytes text moves c = record { longer = c.longer; part = part_retold (take most bytes) text c.part }
  cause_retold Usage bytes text moves c = absurd c

  pub outcome_retold : (status : Status) (moves : Moves) → IsOutcome status told moves → IsOutcome status retold moves
  outcome_retold status moves o = record {
    bytes = o.bytes;
    taken = o.taken;
    few = o.few;
    text = o.text;
    written = o.written;
    cause = cause_retold status o.bytes o.text moves o.cause;
  }
