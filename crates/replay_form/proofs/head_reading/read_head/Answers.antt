-- The rules of the fields give the ranges of the numbers.
use Rattle.replay_form.proofs.HeadLaws.{whole_ranges}
use Rattle.replay_form.proofs.head_reading.read_head.Goals as goal

pub profile_in-profile-requires-clause-right : goal.profile_in-profile-requires-clause-right
profile_in-profile-requires-clause-right c = whole_ranges c.args.bytes.now c.requires.whole

pub identity_in-identity-requires-clause-right : goal.identity_in-identity-requires-clause-right
identity_in-identity-requires-clause-right c = whole_ranges c.args.bytes.now c.requires.whole

pub read_routes-routes-requires-clause-right : goal.read_routes-routes-requires-clause-right
read_routes-routes-requires-clause-right c = whole_ranges c.args.bytes.now c.requires.whole
