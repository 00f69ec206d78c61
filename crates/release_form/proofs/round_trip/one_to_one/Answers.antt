use Rattle.release_form.proofs.ReleaseLaws.{one_place}
use Rattle.release_form.proofs.Spelling.{one_record}
use Rattle.release_form.proofs.Sixteen.{samples_again}
use Rattle.release_form.proofs.round_trip.one_to_one.Goals as goal

pub returns-clause-one_value : goal.returns-clause-one_value
returns-clause-one_value c = λ a b part other m n bytes p q. one_place a b part other m n bytes p q

pub returns-clause-one_record : goal.returns-clause-one_record
returns-clause-one_record c = λ shown payload a b p q r s. one_record shown payload a b p q r s

pub returns-clause-samples : goal.returns-clause-samples
returns-clause-samples c = λ bits first number payload part h e. samples_again bits first number payload part h e
