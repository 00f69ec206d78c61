-- Bytes have one status.
use Rattle.std.proofs.Common.{◌≡◌, ℕ, List, refl, ap}
use Rattle.replay_form.proofs.WithinLaws.{one_place, bad_not_longer, bad_not_whole, longer_not_whole}
use Rattle.record_run.specs.declared.status.Status.{Status}
use Rattle.record_run.specs.declared.status.Status.TheVariants.{Done, Usage, ReadFault, WriteFault, Memory, BadRecord, TooLong}
use Rattle.replay_form.specs.RecordGrammar.{record_grammar}
use Rattle.record_run.specs.Outcome.{IsVerdict}

-- they are a record, or bad at a place, or too many
none_else : (most : ℕ) (bytes : List ℕ) (status : Status) → IsVerdict record_grammar most bytes status → IsVerdict record_grammar most bytes Done → Done ≡ status
none_else most bytes Done p q = refl
none_else most bytes (BadRecord offset) p q = absurd (bad_not_whole most bytes offset p q)
none_else most bytes TooLong p q = absurd (longer_not_whole most bytes p q)
none_else most bytes Usage p q = absurd p
none_else most bytes ReadFault p q = absurd p
none_else most bytes WriteFault p q = absurd p
none_else most bytes Memory p q = absurd p

none_longer : (most : ℕ) (bytes : List ℕ) (status : Status) → IsVerdict record_grammar most bytes status → IsVerdict record_grammar most bytes TooLong → TooLong ≡ status
none_longer most bytes Done p q = absurd (longer_not_whole most bytes q p)
none_longer most bytes (BadRecord offset) p q = absurd (bad_not_longer most bytes offset p q)
none_longer most bytes TooLong p q = refl
none_longer most bytes Usage p q = absurd p
none_longer most bytes ReadFault p q = absurd p
none_longer most bytes WriteFault p q = absurd p
none_longer most bytes Memory p q = absurd p

none_bad : (most : ℕ) (bytes : List ℕ) (offset : ℕ) (status : Status) → IsVerdict record_grammar most bytes status → IsVerdict record_grammar most bytes (BadRecord offset) → BadRecord offset ≡ status
none_bad most bytes offset Done p q = absurd (bad_not_whole most bytes offset q p)
none_bad most bytes offset (BadRecord other) p q = ap BadRecord (one_place most bytes offset other q p)
none_bad most bytes offset TooLong p q = absurd (bad_not_longer most bytes offset q p)
none_bad most bytes offset Usage p q = absurd p
none_bad most bytes offset ReadFault p q = absurd p
none_bad most bytes offset WriteFault p q = absurd p
none_bad most bytes offset Memory p q = absurd p

pub one_status : (most : ℕ) (bytes : List ℕ) (status other : Status) → IsVerdict record_grammar most bytes status → IsVerdict record_grammar most bytes other → status ≡ other
one_status most bytes Done other p q = none_else most bytes other q p
one_status most bytes TooLong other p q = none_longer most bytes other q p
one_status most bytes (BadRecord offset) other p q = none_bad most bytes offset other q p
one_status most bytes Usage other p q = absurd p
one_status most bytes ReadFault other p q = absurd p
one_status most bytes WriteFault other p q = absurd p
one_status most bytes Memory other p q = absurd p
