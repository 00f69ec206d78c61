use Rattle.std.proofs.Common.{◌+◌, ◌*◌, length}
use Rattle.vrt_words.proofs.WordLaws.{same_later}
use Rattle.release_form.proofs.Written.{next_words}
use Rattle.release_form.proofs.front.put_next.Goals as goal

pub returns-clause-words : goal.returns-clause-words
returns-clause-words c = next_words c.args.position c.args.words.now _ c.args.into.now c.put_words.new.bytes c.requires c.put_words.ensures.words

pub returns-clause-behind : goal.returns-clause-behind
returns-clause-behind c = λ n h. same_later (4 * (c.args.position + length c.args.words.now)) n c.put_words.new.bytes c.args.into.now h c.put_words.ensures.behind
