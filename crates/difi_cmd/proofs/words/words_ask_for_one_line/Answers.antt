use Rattle.difi_cmd.proofs.LineLaws.{no_dashes, one_line}
use Rattle.difi_cmd.proofs.words.words_ask_for_one_line.Goals as goal

pub returns : goal.returns
returns c = record { one_line = one_line c.args.words.now; no_dashes = no_dashes c.args.words.now }
