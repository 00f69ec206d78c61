use Rattle.difi_gateway.proofs.OtherForm.{same_part, same_out, same_part_bytes, same_out_bytes}
use Rattle.difi_gateway.proofs.laws.forms_have_the_same_releases.Goals as goal

pub returns-clause-releases_so_far : goal.returns-clause-releases_so_far
returns-clause-releases_so_far c = same_part

pub returns-clause-releases : goal.returns-clause-releases
returns-clause-releases c = same_out

pub returns-clause-bytes_so_far : goal.returns-clause-bytes_so_far
returns-clause-bytes_so_far c = λ head form frames bytes.
    (λ h. same_part_bytes (record head { form = form }) head.form frames bytes h, λ h. same_part_bytes head form frames bytes h)

pub returns-clause-bytes : goal.returns-clause-bytes
returns-clause-bytes c = λ head form frames bytes.
    (λ h. same_out_bytes (record head { form = form }) head.form frames bytes h, λ h. same_out_bytes head form frames bytes h)
