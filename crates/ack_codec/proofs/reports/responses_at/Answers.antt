-- Where neither is announced, the front ends the datagram.
use Rattle.ack_codec.proofs.CutLemmas.{read_none, cut_unannounced}
use Rattle.ack_codec.proofs.reports.responses_at.Goals as goal

pub returns-in-Ok-check_size-clause-found : goal.returns-in-Ok-check_size-clause-found
returns-in-Ok-check_size-clause-found c =
    read_none c.args.warned c.args.erred c.args.at c.args.size c.args.bytes.now c.in-false-false.is-0 c.in-false-false.is-1 c.requires.inside c.requires.allowed
    c.in-Ok-check_size.ensures.right

pub returns-in-Err-check_size-clause-refused : goal.returns-in-Err-check_size-clause-refused
returns-in-Err-check_size-clause-refused c =
    cut_unannounced c.args.warned c.args.erred c.args.at c.args.size c.args.bytes.now c.in-Err-check_size.place.word c.in-false-false.is-0 c.in-false-false.is-1
    c.requires.inside c.requires.there c.requires.allowed c.in-Err-check_size.ensures.other
