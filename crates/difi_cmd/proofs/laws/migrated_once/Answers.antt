use Rattle.difi_cmd.proofs.MigratedLaws.{one_text, again, is_record, changes_form, form_changed, stays}
use Rattle.difi_cmd.proofs.laws.migrated_once.Goals as goal

pub returns : goal.returns
returns c = record {
  one_text = one_text;
  frames_stand = λ head frames bytes text fit is. (changes_form head frames bytes text fit is, form_changed head frames bytes text fit is);
  second_form = is_record;
  again = again;
  stays = stays;
}
