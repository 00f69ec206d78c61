-- Received datagrams are bytes.
use Rattle.std.specs.Prelude.{List}
use Rattle.std.specs.List.{AllByRecursion}
use Rattle.vrt_words.specs.Words.{AreBytes}
use Rattle.difi_gateway.specs.Contents.{Received}

-- each datagram is made of numbers below 256
abbrev pub HoldBytes : List Received → Type 0
HoldBytes received = AllByRecursion (λ r. AreBytes r.frame.datagram) received
