use Rattle.difi_gateway.proofs.Growth.{told-append, part-append, end_releases, out-append, part_begins, out_begins, part_in_part, part_in_out}
use Rattle.difi_gateway.proofs.laws.more_frames_append.Goals as goal

pub returns-clause-told : goal.returns-clause-told
returns-clause-told c = told-append

pub returns-clause-releases : goal.returns-clause-releases
returns-clause-releases c = part-append

pub returns-clause-bytes : goal.returns-clause-bytes
returns-clause-bytes c = λ head frames later bytes h. let b = part_begins head frames later bytes h in (b.front, b.rest, b.bytes_are, b.is)

pub returns-clause-all_releases : goal.returns-clause-all_releases
returns-clause-all_releases c = λ head received. (end_releases head received, out-append head received)

pub returns-clause-all_bytes : goal.returns-clause-all_bytes
returns-clause-all_bytes c = λ head frames bytes h. let b = out_begins head frames bytes h in (b.front, b.rest, b.bytes_are, b.is)

pub returns-clause-begins : goal.returns-clause-begins
returns-clause-begins c = part_in_part

pub returns-clause-all_begins : goal.returns-clause-all_begins
returns-clause-all_begins c = part_in_out
