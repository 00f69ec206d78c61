-- The word is the number that its groups of bits make.
use Rattle.std.proofs.Common.{◌≡◌, ◌+◌, ◌*◌, ◌%◌, ◌∙◌, subst, sym, arith}
use Rattle.cam_field.specs.Cam.{IsSpelled}
use Rattle.cam_field.proofs.CamLaws.{spelled, word_told}
use Rattle.cam_field.specs.Spelling.{word_of_cam}
use Rattle.cam_field.proofs.cam.Cam.write.Goals as goal

pub returns-clause-spelled : goal.returns-clause-spelled
returns-clause-spelled c =
    let same : c.command_of.result * 4194304 % 4294967296 + c.answer_of.result * 65536 % 4294967296 + c.outcome_of.result * 1024 % 4294967296 ≡ word_of_cam c.args.self.now = omega arith in
    subst (IsSpelled c.args.self.now) (sym same) (spelled c.args.self.now)

pub returns-clause-again : goal.returns-clause-again
returns-clause-again c = λ word fits p.
    let same : c.command_of.result * 4194304 % 4294967296 + c.answer_of.result * 65536 % 4294967296 + c.outcome_of.result * 1024 % 4294967296 ≡ word_of_cam c.args.self.now = omega arith in
    same ∙ word_told c.args.self.now word fits p
