use Rattle.difi_gateway.proofs.OneStream.{only_received, own_part, own_whole, own_part_releases, own_releases, some_records, own_part_bytes, own_bytes}
use Rattle.difi_gateway.proofs.laws.streams_are_kept_apart.Goals as goal

pub returns-clause-only_received : goal.returns-clause-only_received
returns-clause-only_received c = only_received

pub returns-clause-runs_so_far : goal.returns-clause-runs_so_far
returns-clause-runs_so_far c = own_part

pub returns-clause-runs : goal.returns-clause-runs
returns-clause-runs c = own_whole

pub returns-clause-releases_so_far : goal.returns-clause-releases_so_far
returns-clause-releases_so_far c = own_part_releases

pub returns-clause-releases : goal.returns-clause-releases
returns-clause-releases c = own_releases

pub returns-clause-there : goal.returns-clause-there
returns-clause-there c = some_records

pub returns-clause-bytes_so_far : goal.returns-clause-bytes_so_far
returns-clause-bytes_so_far c = own_part_bytes

pub returns-clause-bytes : goal.returns-clause-bytes
returns-clause-bytes c = own_bytes
