-- Laws of packets: the header tells the kind, and what is refused by its kind is refused by all.
use Rattle.std.proofs.Common.{◌≡◌, ℕ, suc, ◌<◌, Bool, true, false, Result, Ok, Err, IfOk, IfErr, IsOkAnd, List, ◌++◌, length, take, get_or, sym, ap, ◌∙◌, subst, arith}
use Rattle.std.proofs.lemmas.List.{length-take}
use Rattle.vrt_words.specs.Words.{words_of}
use Rattle.vrt_words.specs.Begins.{IsDatagram, IsRefused}
use Rattle.vrt_words.proofs.BeginLaws.{begun_words}
use Rattle.vrt_header.specs.Profile.{PacketProfile}
use Rattle.vrt_header.specs.Header.{IsKind, prologue_words}
use Rattle.vrt_header.specs.Prologue.{IsPrologue}
use Rattle.vrt_header.proofs.PrologueLaws.{one_kind}
use Rattle.vrt_header.proofs.KindLaws.{kind_of_first}
use Rattle.vrt_header.specs.declared.header.Kind.{Kind}
use Rattle.vrt_header.specs.declared.header.Kind.TheVariants as kinds
use Rattle.vrt_header.specs.declared.prologue.Prologue.{Prologue}
use Rattle.cam_field.specs.declared.modes.Role.{Role}
use Rattle.command_prologue.specs.CommandPrologue.{IsCommandPrologue}
use Rattle.command_prologue.proofs.CommandPrologueLaws.{header_kind}
use Rattle.command_prologue.specs.declared.prologue.CommandPrologue.{CommandPrologue}
use Rattle.difi_data.specs.Data.{DataPacket}
use Rattle.difi_data.proofs.DataLaws.{one_data}
use Rattle.difi_context.proofs.ContextLaws.{one_context}
use Rattle.difi_version.proofs.VersionLaws.{one_version}
use Rattle.command_codec.proofs.ControlLaws as controls
use Rattle.command_codec.proofs.CancelLaws as cancels
use Rattle.ack_codec.proofs.SizeLaws as acks
use Rattle.command_codec.proofs.ControlLaws.{one_control}
use Rattle.command_codec.proofs.CancelLaws.{one_cancel}
use Rattle.ack_codec.proofs.AckLaws.{one_ack}
use Rattle.difi_packet.specs.Packet.{PacketValue, DataValue, ContextValue, VersionValue, ControlValue, CancelValue, AckValue, IsPacket, value_of, size_in_words, IsClassified, kind_and_stream}
use Rattle.vrt_words.specs.declared.place.Place.{Place}
use Rattle.difi_packet.specs.declared.packet.Packet.{Packet}
use Rattle.difi_packet.specs.declared.kind.PacketKind.{PacketKind}
use Rattle.difi_context.specs.declared.context.ContextRec.{ContextRec}
use Rattle.difi_version.specs.declared.version.VersionRec.{VersionRec}
use Rattle.command_codec.specs.declared.control.Control.{Control}
use Rattle.command_codec.specs.declared.cancel.Cancel.{Cancel}
use Rattle.ack_codec.specs.declared.ack.Ack.{Ack}

-- ---- the kind

pub kind_in : PacketValue → Kind
kind_in (DataValue packet) = kinds.Data
kind_in (ContextValue rec) = kinds.Context
kind_in (VersionValue rec) = kinds.Version
kind_in (ControlValue packet) = kinds.Control
kind_in (CancelValue packet) = kinds.Cancel
kind_in (AckValue packet) = kinds.Ack

-- the header of a packet tells its kind
pub kind_told : (profile : PacketProfile) (v : PacketValue) (words : List ℕ) → IsPacket profile v words → IsKind (kind_in v) (get_or words 0 0)
unfolding kind_in
kind_told profile (DataValue packet) words h = kind_of_first profile kinds.Data packet.prologue words 7 h.prologue
kind_told profile (ContextValue rec) words h = kind_of_first profile kinds.Context rec.prologue words 7 h.prologue
kind_told profile (VersionValue rec) words h = kind_of_first profile kinds.Version rec.prologue words 7 h.prologue
kind_told profile (ControlValue packet) words h = header_kind profile _ _ _ words (controls.sized profile packet words h)
kind_told profile (CancelValue packet) words h = header_kind profile _ _ _ words (cancels.sized profile packet words h)
kind_told profile (AckValue packet) words h = header_kind profile _ _ _ words (acks.sized profile packet words h)

same_kind : (profile : PacketProfile) (a b : PacketValue) (words : List ℕ) → IsPacket profile a words → IsPacket profile b words → kind_in a ≡ kind_in b
same_kind profile a b words p q = one_kind (kind_in a) (kind_in b) (get_or words 0 0) (kind_told profile a words p) (kind_told profile b words q)

-- words spell one packet
pub one_packet : (profile : PacketProfile) (a b : PacketValue) (words : List ℕ) → IsPacket profile a words → IsPacket profile b words → a ≡ b
unfolding kind_in
one_packet profile (DataValue a) (DataValue b) words p q = ap DataValue (one_data profile a b words p q)
one_packet profile (ContextValue a) (ContextValue b) words p q = ap ContextValue (one_context profile a b words p q)
one_packet profile (VersionValue a) (VersionValue b) words p q = ap VersionValue (one_version profile a b words p q)
one_packet profile (ControlValue a) (ControlValue b) words p q = ap ControlValue (one_control profile a b words p q)
one_packet profile (CancelValue a) (CancelValue b) words p q = ap CancelValue (one_cancel profile a b words p q)
one_packet profile (AckValue a) (AckValue b) words p q = ap AckValue (one_ack profile a b words p q)
one_packet profile a b words p q = absurd (cc (same_kind profile a b words p q))

-- they are as many as the packet's size
pub size_told : (profile : PacketProfile) (v : PacketValue) (words : List ℕ) → IsPacket profile v words → length words ≡ size_in_words v
size_told profile (DataValue packet) words h = sym h.size
size_told profile (ContextValue rec) words h = h.all
size_told profile (VersionValue rec) words h = h.all
size_told profile (ControlValue packet) words h = sym h.size
size_told profile (CancelValue packet) words h = sym h.size
size_told profile (AckValue packet) words h = sym h.size

-- ---- the place is that of the kind which the header tells

-- packets of one kind among others, which the header tells
same_place : {V W : Type 0} (IsOne : V → List ℕ → Type 0) (IsAny : W → List ℕ → Type 0) (kind : Kind) (among : V → W)
    → ((u : V) (words : List ℕ) → IsOne u words → IsAny (among u) words)
    → ((v : W) (words : List ℕ) → IsKind kind (get_or words 0 0) → IsAny v words → (u : V) × IsOne u words)
    → (bytes : List ℕ) (place : ℕ) → IsKind kind (get_or (words_of bytes) 0 0) → IsRefused IsOne bytes place → IsRefused IsAny bytes place
same_place {V} {W} IsOne IsAny kind among up down bytes place e h =
    let words = words_of bytes in
    record {
      at = record {
        within = h.at.within;
        before = λ u less. let b = h.at.before u less in (among b.0, (b.1.0, (b.1.1.0, up b.0 (take (suc u) words ++ b.1.0) b.1.1.1)));
        here = λ less b.
            let xs = take (suc place) words ++ b.1.0 in
            let first : get_or xs 0 0 ≡ get_or words 0 0 = begun_words place words b.1.0 0 less (omega arith) in
            let one = down b.0 xs (subst (IsKind kind) (sym first) e) b.1.1.1 in
            h.at.here less (one.0, (b.1.0, (b.1.1.0, one.1)));
      };
      no_packet = λ v d. let one = down v words e d.packet in h.no_packet one.0 (record { whole = d.whole; packet = one.1 });
    }

-- the values of a kind
abbrev ValueOf : Kind → Type 0
ValueOf kinds.Data = DataPacket
ValueOf kinds.Context = ContextRec
ValueOf kinds.Version = VersionRec
ValueOf kinds.Control = Control
ValueOf kinds.Cancel = Cancel
ValueOf kinds.Ack = Ack

abbrev value_in : (kind : Kind) → ValueOf kind → PacketValue
value_in kinds.Data packet = DataValue packet
value_in kinds.Context rec = ContextValue rec
value_in kinds.Version rec = VersionValue rec
value_in kinds.Control packet = ControlValue packet
value_in kinds.Cancel packet = CancelValue packet
value_in kinds.Ack packet = AckValue packet

-- the packets of a kind
abbrev pub IsPacketOf : PacketProfile → (kind : Kind) → ValueOf kind → List ℕ → Type 0
IsPacketOf profile kind u words = IsPacket profile (value_in kind u) words

-- each packet is one of its kind
own_kind : (profile : PacketProfile) (v : PacketValue) (words : List ℕ) → IsPacket profile v words → (u : ValueOf (kind_in v)) × IsPacketOf profile (kind_in v) u words
unfolding kind_in
own_kind profile (DataValue packet) words h = (packet, h)
own_kind profile (ContextValue rec) words h = (rec, h)
own_kind profile (VersionValue rec) words h = (rec, h)
own_kind profile (ControlValue packet) words h = (packet, h)
own_kind profile (CancelValue packet) words h = (packet, h)
own_kind profile (AckValue packet) words h = (packet, h)

-- and so of the kind that the header tells
kind_is : (profile : PacketProfile) (kind : Kind) (v : PacketValue) (words : List ℕ) → IsKind kind (get_or words 0 0) → IsPacket profile v words
    → (u : ValueOf kind) × IsPacketOf profile kind u words
kind_is profile kind v words e h =
    subst (λ k. (u : ValueOf k) × IsPacketOf profile k u words) (one_kind (kind_in v) kind (get_or words 0 0) (kind_told profile v words h) e) (own_kind profile v words h)

pub place_of_kind : (profile : PacketProfile) (kind : Kind) (bytes : List ℕ) (place : ℕ) → IsKind kind (get_or (words_of bytes) 0 0)
    → IsRefused (IsPacketOf profile kind) bytes place → IsRefused (IsPacket profile) bytes place
place_of_kind profile kind = same_place (IsPacketOf profile kind) (IsPacket profile) kind (value_in kind) (λ u words p. p) (kind_is profile kind)

-- ---- a first word of no kind

some_words : (timed : Bool) → 0 < prologue_words timed
some_words true = omega arith
some_words false = omega arith

some_front : (profile : PacketProfile) (p : Prologue) (n : ℕ) (words : List ℕ) → IsPrologue profile p (take n words) → 0 < length words
some_front profile p n words h = omega (arith, h.all, some_words p.header.timed, length-take n words)

some_command : (profile : PacketProfile) (role : Role) (front : CommandPrologue) (n : ℕ) (words : List ℕ) → IsCommandPrologue profile role front (take n words) → 0 < length words
some_command profile role front n words h =
    omega (arith, some_front profile front.prologue (prologue_words front.prologue.header.timed) (take n words) h.prologue.prologue, length-take n words)

some_word : (profile : PacketProfile) (v : PacketValue) (words : List ℕ) → IsPacket profile v words → 0 < length words
some_word profile (DataValue packet) words h = some_front profile packet.prologue 7 words h.prologue.prologue
some_word profile (ContextValue rec) words h = some_front profile rec.prologue 7 words h.prologue.prologue
some_word profile (VersionValue rec) words h = some_front profile rec.prologue 7 words h.prologue.prologue
some_word profile (ControlValue packet) words h = some_command profile _ _ _ words (controls.sized profile packet words h)
some_word profile (CancelValue packet) words h = some_command profile _ _ _ words (cancels.sized profile packet words h)
some_word profile (AckValue packet) words h = some_command profile _ _ _ words (acks.sized profile packet words h)

pub no_kind : (profile : PacketProfile) (bytes : List ℕ) → ((kind : Kind) → ¬ ((0 < length (words_of bytes)) × IsKind kind (get_or (words_of bytes) 0 0)))
    → IsRefused (IsPacket profile) bytes 0
no_kind profile bytes none =
    let words = words_of bytes in
    record {
      at = record {
        within = omega arith;
        before = λ u h. absurd (omega arith);
        here = λ there b.
            let first : get_or (take 1 words ++ b.1.0) 0 0 ≡ get_or words 0 0 = begun_words 0 words b.1.0 0 there (omega arith) in
            none (kind_in b.0) (there, subst (IsKind (kind_in b.0)) first (kind_told profile b.0 (take 1 words ++ b.1.0) b.1.1.1));
      };
      no_packet = λ v d. none (kind_in v) (some_word profile v words d.packet, kind_told profile v words d.packet);
    }

-- the answer of a decoder is the only one
pub one_answer : (profile : PacketProfile) (bytes : List ℕ) (result : Result Packet Place) → IfOk result (λ packet. IsDatagram (IsPacket profile) (value_of packet) bytes)
    → IfErr result (λ place. IsRefused (IsPacket profile) bytes place.word) → (value : PacketValue) → IsDatagram (IsPacket profile) value bytes
    → IsOkAnd result (λ packet. value_of packet ≡ value)
one_answer profile bytes (Ok packet) found refused value d = one_packet profile (value_of packet) value (words_of bytes) found.packet d.packet
one_answer profile bytes (Err place) found refused value d = absurd (refused.no_packet value d)

-- and so is that of a call that tells the kind and the stream alone
pub one_class : (profile : PacketProfile) (bytes : List ℕ) (result : Result (PacketKind × ℕ) Place) → IfOk result (IsClassified profile bytes)
    → IfErr result (λ place. IsRefused (IsPacket profile) bytes place.word) → (value : PacketValue) → IsDatagram (IsPacket profile) value bytes
    → result ≡ Ok (kind_and_stream value)
one_class profile bytes (Ok told) found refused value d =
    ap Ok (found.1.1 ∙ ap kind_and_stream (one_packet profile found.0 value (words_of bytes) found.1.0.packet d.packet))
one_class profile bytes (Err place) found refused value d = absurd (refused.no_packet value d)
