use Rattle.difi_cmd.proofs.FormLaws.{is_there, of_second_form}
use Rattle.difi_cmd.proofs.ReleasesLaws.{migrated_whole, migrated_so_far, one_port, other_form}
use Rattle.difi_cmd.proofs.laws.migrated_keeps_its_releases.Goals as goal

pub returns : goal.returns
returns c = record {
  whole = migrated_whole;
  so_far = migrated_so_far;
  valid = of_second_form;
  there = is_there;
  one_port = one_port;
  other_form = other_form;
}
