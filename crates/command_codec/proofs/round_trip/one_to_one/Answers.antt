-- The laws of the definitions.
use Rattle.vrt_words.specs.Words.{words_of}
use Rattle.command_codec.proofs.CancelLaws as cancels
use Rattle.command_codec.proofs.ControlLaws as controls
use Rattle.command_codec.proofs.round_trip.one_to_one.Goals as goal

pub returns-clause-one_control : goal.returns-clause-one_control
returns-clause-one_control c = λ profile a b bytes p q. controls.one_control profile a b (words_of bytes) p.packet q.packet

pub returns-clause-one_control_datagram : goal.returns-clause-one_control_datagram
returns-clause-one_control_datagram c = controls.one_datagram

pub returns-clause-one_cancel : goal.returns-clause-one_cancel
returns-clause-one_cancel c = λ profile a b bytes p q. cancels.one_cancel profile a b (words_of bytes) p.packet q.packet

pub returns-clause-one_cancel_datagram : goal.returns-clause-one_cancel_datagram
returns-clause-one_cancel_datagram c = cancels.one_datagram
