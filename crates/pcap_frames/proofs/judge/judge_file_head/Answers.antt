-- Where the magic number is not there, or is none.
use Rattle.std.proofs.Common.{◌∙◌, arith}
use Rattle.pcap_frames.proofs.FieldLaws.{file_nothing, magic_wrong}
use Rattle.pcap_frames.proofs.judge.judge_file_head.Goals as goal

pub returns-then-bytes-lt4-clause-judged : goal.returns-then-bytes-lt4-clause-judged
returns-then-bytes-lt4-clause-judged c = file_nothing c.args.bytes.now c.if-bytes-lt4.true

pub returns-in_default-clause-wrong : goal.returns-in_default-clause-wrong
returns-in_default-clause-wrong c =
    magic_wrong c.args.bytes.now (omega (arith, c.if-bytes-lt4.false)) (λ form e. c.in_default.ensures.none form (c.u32_in.ensures ∙ e))
