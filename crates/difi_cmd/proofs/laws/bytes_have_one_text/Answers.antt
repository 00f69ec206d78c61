use Rattle.difi_cmd.proofs.OneText.{one_part, one_output}
use Rattle.difi_cmd.proofs.laws.bytes_have_one_text.Goals as goal

pub returns : goal.returns
returns c = record {
  so_far = one_part;
  whole = one_output;
}
