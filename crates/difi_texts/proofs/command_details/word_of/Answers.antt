use Rattle.cam_field.proofs.CamLaws.{spelled, word_fits}
use Rattle.cam_field.specs.Spelling.{word_of_cam}
use Rattle.difi_texts.proofs.command_details.word_of.Goals as goal

pub returns : goal.returns
returns c = c.write.ensures.again (word_of_cam c.args.cam.now) (word_fits c.args.cam.now) (spelled c.args.cam.now)
