use Rattle.ack_codec.proofs.AnswerLaws.{listed, made, told}
use Rattle.ack_codec.proofs.round_trip.responses_of_answers.Goals as goal

pub returns : goal.returns
returns c = record {
  rule = made;
  listed = listed;
  words = told;
}
