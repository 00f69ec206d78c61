-- A record is read in one way, and has one text.
use Rattle.std.proofs.Common.{◌≡◌, ℕ, List, [], ◌∷◌, ◌++◌, map, refl, sym, ap, ◌∙◌, subst, arith}
use Rattle.std.specs.List.{AllByRecursion}
use Rattle.vrt_words.specs.Words.{words_of}
use Rattle.vrt_words.proofs.BeginLaws.{one_place}
use Rattle.difi_packet.specs.Packet.{IsPacket}
use Rattle.difi_packet.proofs.PacketLaws.{one_packet}
use Rattle.replay_form.specs.FrameFields.{Frame}
use Rattle.replay_form.specs.declared.record_head.RecordHead.{RecordHead}
use Rattle.release_form.proofs.Spelling.{one_record}
use Rattle.difi_gateway.specs.Contents.{Content, Larger, NoPacket, Holds, IsContent, Received, IsReceived, frame_of, AreReceived}
use Rattle.difi_gateway.specs.Releases.{Release, part_of, out_of, AreRecordsOf, IsPartOf, IsOutOf}

-- a datagram holds one thing
pub one_content : (head : RecordHead) (datagram : List ℕ) (a b : Content) → IsContent head datagram a → IsContent head datagram b → a ≡ b
one_content head datagram (Larger m) (Larger n) p q = ap Larger (p.1 ∙ sym q.1)
one_content head datagram (Larger m) (NoPacket w) p q = absurd (omega (arith, p.0, q.0))
one_content head datagram (Larger m) (Holds v) p q = absurd (omega (arith, p.0, q.0))
one_content head datagram (NoPacket w) (Larger n) p q = absurd (omega (arith, p.0, q.0))
one_content head datagram (NoPacket w) (NoPacket u) p q = ap NoPacket (one_place (IsPacket head.profile) (words_of datagram) w u p.1.at q.1.at)
one_content head datagram (NoPacket w) (Holds v) p q = absurd (p.1.no_packet v q.1)
one_content head datagram (Holds v) (Larger n) p q = absurd (omega (arith, p.0, q.0))
one_content head datagram (Holds v) (NoPacket u) p q = absurd (q.1.no_packet v p.1)
one_content head datagram (Holds v) (Holds u) p q = ap Holds (one_packet head.profile v u (words_of datagram) p.1.packet q.1.packet)

same_received : (a b : Received) → a.frame ≡ b.frame → a.content ≡ b.content → a ≡ b
same_received a b e f = grind arith

one_each : (head : RecordHead) (a b : List Received) → map frame_of a ≡ map frame_of b → AllByRecursion (IsReceived head) a → AllByRecursion (IsReceived head) b → a ≡ b
one_each head [] [] e p q = refl
one_each head [] (y ∷ b) e p q = absurd (cc)
one_each head (x ∷ a) [] e p q = absurd (cc)
one_each head (x ∷ a) (y ∷ b) e p q =
    let frame : x.frame ≡ y.frame = cc in
    let frames : map frame_of a ≡ map frame_of b = cc in
    let content = one_content head y.frame.datagram x.content y.content (subst (λ (f : Frame). IsContent head f.datagram x.content) frame p.0) q.0 in
    ap (λ z. z ∷ a) (same_received x y frame content) ∙ ap (λ l. y ∷ l) (one_each head a b frames p.1 q.1)

-- and frames hold one list of things
pub one_received : (head : RecordHead) (frames : List Frame) (a b : List Received) → AreReceived head frames a → AreReceived head frames b → a ≡ b
one_received head frames a b p q = one_each head a b (sym p.frames_are ∙ q.frames_are) p.contents q.contents

-- ---- bytes

-- releases have one list of records
pub one_records : (releases : List Release) (a b : List ℕ) → AreRecordsOf releases a → AreRecordsOf releases b → a ≡ b
one_records [] a b r s = r ∙ sym s
one_records (release ∷ releases) a b r s =
    let first = one_record release.shown release.payload r.0 s.0 r.1.1.0.fit s.1.1.0.fit r.1.1.0.is s.1.1.0.is in
    let rest = one_records releases r.1.0 s.1.0 r.1.1.1.0 s.1.1.1.0 in
    r.1.1.1.1 ∙ ap (λ xs. xs ++ r.1.0) first ∙ ap (λ xs. s.0 ++ xs) rest ∙ sym s.1.1.1.1

pub one_part : (head : RecordHead) (frames : List Frame) (a b : List ℕ) → IsPartOf head frames a → IsPartOf head frames b → a ≡ b
one_part head frames a b r s =
    let same = ap (part_of head) (one_received head frames r.0 s.0 r.1.0 s.1.0) in
    one_records (part_of head s.0) a b (subst (λ rs. AreRecordsOf rs a) same r.1.1) s.1.1

pub one_out : (head : RecordHead) (frames : List Frame) (a b : List ℕ) → IsOutOf head frames a → IsOutOf head frames b → a ≡ b
one_out head frames a b r s =
    let same = ap (out_of head) (one_received head frames r.0 s.0 r.1.0 s.1.0) in
    one_records (out_of head s.0) a b (subst (λ rs. AreRecordsOf rs a) same r.1.1) s.1.1
