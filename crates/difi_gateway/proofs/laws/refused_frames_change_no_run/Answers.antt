use Rattle.difi_gateway.proofs.RefusedFrames.{refused_part, refused_whole}
use Rattle.difi_gateway.proofs.laws.refused_frames_change_no_run.Goals as goal

pub returns-clause-so_far : goal.returns-clause-so_far
returns-clause-so_far c = refused_part

pub returns-clause-whole : goal.returns-clause-whole
returns-clause-whole c = λ head second stream before later r frame port refusal detail stamp routes refused.
    refused_whole head stream before later r frame port refusal detail stamp refused second routes
