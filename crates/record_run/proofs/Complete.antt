-- Where no read and no write failed, the bytes decide the status.
use Rattle.std.proofs.Common.{◌≡◌, ℕ, ◌+◌, ◌-◌, ◌≤◌, ◌⊎◌, List, [], ◌++◌, length, take, append-nil, length-append, take_all, refl, sym, ap, ◌∙◌, subst, inl, inr, arith}
use Rattle.std.proofs.Math.Seq.{take-append-add}
use Rattle.std.proofs.lemmas.List.{take-append-le}
use Rattle.std.proofs.lemmas.Bool.{cases_order}
use Rattle.std.specs.Prelude.{Option, Some, None, IfSome}
use Rattle.std.specs.Io.KnownBytes.{Consumes, IsAtEnd}
use Rattle.difi_io.specs.Faults.{Rose}
use Rattle.replay_form.specs.Grammar.{Grammar, IsLawful, IsBad, IsLonger, IsWhole}
use Rattle.record_run.specs.declared.status.Status.{Status}
use Rattle.record_run.specs.declared.status.Status.TheVariants.{Done, Usage, ReadFault, WriteFault, Memory, BadRecord, TooLong}
use Rattle.record_run.specs.Outcome.{Behaviour, Moves, IsBadSoFar, IsVerdict, IsOutcome, IsCause}

told_all : (bytes taken : List ℕ) (left : Option (List ℕ)) → Consumes (Some bytes) left taken → IsAtEnd left → taken ≡ bytes
told_all bytes taken None p e = absurd p
told_all bytes taken (Some rest) p e = sym (p ∙ ap (λ l. taken ++ l) e ∙ append-nil taken)

told_more : (bytes taken : List ℕ) (left : Option (List ℕ)) → Consumes (Some bytes) left taken → (rest : List ℕ) × (bytes ≡ taken ++ rest)
told_more bytes taken None p = absurd p
told_more bytes taken (Some rest) p = (rest, p)

-- the first bytes of what goes on are the first ones, and then maybe more
front_of : (most : ℕ) (taken rest : List ℕ) → (more : List ℕ) × (take most (taken ++ rest) ≡ take most taken ++ more)
front_of most taken rest =
    elim (cases_order most (length taken)) [
      | inl same ↦ ([], take-append-le most taken rest (omega arith) ∙ sym (append-nil (take most taken)))
      | inr apart ↦ elim apart [
        | inl less ↦ ([], take-append-le most taken rest (omega arith) ∙ sym (append-nil (take most taken)))
        | inr more ↦ (
            let n : most ≡ length taken + (most - length taken) = omega arith in
            let all : take most taken ≡ taken = take_all most taken (omega arith) in (
              take (most - length taken) rest,
              ap (λ k. take k (taken ++ rest)) n ∙ take-append-add taken rest (most - length taken) ∙ ap (λ l. l ++ take (most - length taken) rest) (sym all),
            )
            )
      ]
    ]

fault_stays : {H F : Type 0} (grammar : Grammar H F) → IsLawful grammar → (most : ℕ) (bytes taken rest : List ℕ) (offset : ℕ) → bytes ≡ taken ++ rest
    → grammar.wrong (take most taken) offset → grammar.wrong (take most bytes) offset
fault_stays grammar lawful most bytes taken rest offset e fault =
    let f = front_of most taken rest in
    subst (λ l. grammar.wrong l offset) (sym (ap (take most) e ∙ f.1)) (lawful.stays (take most taken) f.0 offset fault)

bad : {H F : Type 0} (behaviour : Behaviour H F) → IsLawful behaviour.grammar → (bytes taken : List ℕ) (left : Option (List ℕ)) (offset : ℕ) → Consumes (Some bytes) left taken
    → IsBadSoFar behaviour taken offset left → IsBad behaviour.grammar behaviour.most bytes offset
bad behaviour lawful bytes taken left offset consumed (inl fault) =
    let more = told_more bytes taken left consumed in inl (fault_stays behaviour.grammar lawful behaviour.most bytes taken more.0 offset more.1 fault)
bad behaviour lawful bytes taken left offset consumed (inr ends) =
    let same = told_all bytes taken left consumed ends.1.0 in
    inr (subst (λ l. (length l ≤ behaviour.most) × (behaviour.grammar.inside l × (offset ≡ length l))) same (ends.0, ends.1.1))

longer : {H F : Type 0} (grammar : Grammar H F) (most : ℕ) (bytes taken : List ℕ) (left : Option (List ℕ)) → Consumes (Some bytes) left taken → IsLonger grammar most taken → IsLonger grammar most bytes
longer grammar most bytes taken left consumed l =
    let more = told_more bytes taken left consumed in
    let same : take most bytes ≡ take most taken = ap (take most) more.1 ∙ take-append-le most taken more.0 (omega (arith, l.more)) in record {
      more = omega (arith, l.more, ap length more.1, length-append taken more.0);
      sound = subst grammar.sound (sym same) l.sound;
    }

verdict : {H F : Type 0} (status : Status) (behaviour : Behaviour H F) → IsLawful behaviour.grammar → (bytes taken text : List ℕ) (moves : Moves) → Consumes (Some bytes) moves.left_now taken
    → ¬ Rose moves.reads moves.reads_now → ¬ Rose moves.writes moves.writes_now → IsCause status behaviour taken text moves
    → (status ≡ Memory) ⊎ IsVerdict behaviour.grammar behaviour.most bytes status
verdict Done behaviour lawful bytes taken text moves consumed no_read no_write o =
    let same = told_all bytes taken moves.left_now consumed o.at_end in
    inr (subst (IsWhole behaviour.grammar behaviour.most) same (record { within = o.within; whole = (o.output.0, (o.output.1.0, o.output.1.1.0)) }))
verdict (BadRecord offset) behaviour lawful bytes taken text moves consumed no_read no_write o =
    inr (bad behaviour lawful bytes taken moves.left_now offset consumed o.bad)
verdict TooLong behaviour lawful bytes taken text moves consumed no_read no_write o =
    inr (longer behaviour.grammar behaviour.most bytes taken moves.left_now consumed o.longer)
verdict Memory behaviour lawful bytes taken text moves consumed no_read no_write o = inl refl
verdict Usage behaviour lawful bytes taken text moves consumed no_read no_write o = absurd o
verdict ReadFault behaviour lawful bytes taken text moves consumed no_read no_write o = absurd (no_read o.rose)
verdict WriteFault behaviour lawful bytes taken text moves consumed no_read no_write o = absurd (no_write o.rose)

pub complete : {H F : Type 0} (status : Status) (behaviour : Behaviour H F) → IsLawful behaviour.grammar → (moves : Moves) → IsOutcome status behaviour moves
    → ¬ Rose moves.reads moves.reads_now → ¬ Rose moves.writes moves.writes_now
    → IfSome moves.left (λ bytes. (status ≡ Memory) ⊎ IsVerdict behaviour.grammar behaviour.most bytes status)
complete status behaviour lawful moves o no_read no_write = over moves.left o.taken where
  over : (left : Option (List ℕ)) → Consumes left moves.left_now o.bytes → IfSome left (λ bytes. (status ≡ Memory) ⊎ IsVerdict behaviour.grammar behaviour.most bytes status)
  over None consumed = tt
  over (Some bytes) consumed = verdict status behaviour lawful bytes o.bytes o.text moves consumed no_read no_write o.cause
