-- Laws of cancellations: words are one at most, and are refused in the prologue, at CIF0 or at the end.
use Rattle.std.proofs.Common.{◌≡◌, ℕ, suc, ◌+◌, ◌*◌, ◌^◌, ◌<◌, List, [], ◌∷◌, ◌++◌, length, take, drop, Result, Ok, IfOk, IfErr, sym, ap, ◌∙◌, arith}
use Rattle.std.proofs.lemmas.List.{nil_from_length}
use Rattle.vrt_words.specs.Words.{words_of, AreBytes}
use Rattle.vrt_words.specs.Begins.{IsDatagram, IsRefused}
use Rattle.vrt_header.specs.Profile.{PacketProfile}
use Rattle.vrt_fields.specs.FieldSet.{IsFieldMask}
use Rattle.vrt_fields.proofs.MaskLaws.{mask_of_number}
use Rattle.cam_field.specs.declared.modes.Role.TheVariants as roles
use Rattle.command_prologue.specs.CommandPrologue.{IsCommandPrologue, command_words}
use Rattle.command_prologue.proofs.CommandPrologueLaws.{content_left, same_head}
use Rattle.command_prologue.specs.declared.prologue.CommandPrologue.{CommandPrologue}
use Rattle.vrt_words.specs.declared.place.Place.{Place}
use Rattle.command_codec.specs.declared.cancel.Cancel.{Cancel}
use Rattle.command_codec.specs.Cancel.{front_of, IsCancel}
use Rattle.command_codec.specs.Steps.{IsNamed}
use Rattle.command_codec.specs.FirstWord.{AreByFirst}
use Rattle.command_codec.proofs.ContentLaws.{AreInParts}
use Rattle.command_codec.proofs.ContentLaws as laws

same_parts : (a b : Cancel) → a.prologue ≡ b.prologue → a.cam ≡ b.cam → a.message ≡ b.message → a.controllee ≡ b.controllee → a.controller ≡ b.controller
    → a.named ≡ b.named → a ≡ b
same_parts a b p q r s t u = grind arith

same_cancel : (a b : Cancel) → front_of a ≡ front_of b → a.named ≡ b.named → a ≡ b
same_cancel a b front named =
    same_parts a b (ap (λ (f : CommandPrologue). f.prologue) front) (ap (λ (f : CommandPrologue). f.cam) front) (ap (λ (f : CommandPrologue). f.message) front)
    (ap (λ (f : CommandPrologue). f.controllee) front) (ap (λ (f : CommandPrologue). f.controller) front) named

-- CIF0 alone stands behind the identities
abbrev pub IsContent : Cancel → List ℕ → Type 0
IsContent packet words = IsFieldMask packet.named × (words ≡ packet.named ∷ [])

pub in_parts : (profile : PacketProfile) → AreInParts profile roles.Cancel front_of IsContent (IsCancel profile)
in_parts profile = record {
  parts = λ packet words h. record { front = h.front; content = (h.only, h.content); size = h.size };
  whole = λ packet words h. record { front = h.front; only = h.content.0; content = h.content.1; size = h.size };
  fits = λ packet words h. ap length h.1;
  one_value = λ a b words front p q. same_cancel a b front (same_head a.named b.named [] [] (sym p.1 ∙ q.1)).0;
  one_content = λ packet a b p q. p.1 ∙ sym q.1;
}

-- the words in front leave room for it
pub sized : (profile : PacketProfile) (packet : Cancel) (words : List ℕ) → IsCancel profile packet words
    → IsCommandPrologue profile roles.Cancel (front_of packet) (take (command_words (front_of packet)) words)
sized profile = laws.sized profile roles.Cancel front_of IsContent (IsCancel profile) (in_parts profile)

pub one_cancel : (profile : PacketProfile) (a b : Cancel) (words : List ℕ) → IsCancel profile a words → IsCancel profile b words → a ≡ b
one_cancel profile = laws.one_packet profile roles.Cancel front_of IsContent (IsCancel profile) (in_parts profile)

pub one_datagram : (profile : PacketProfile) (packet : Cancel) (a b : List ℕ) → AreBytes a → AreBytes b
    → IsDatagram (IsCancel profile) packet a → IsDatagram (IsCancel profile) packet b → a ≡ b
one_datagram profile = laws.one_datagram profile roles.Cancel front_of IsContent (IsCancel profile) (in_parts profile)

-- the answer of a decoder is the only one
pub one_answer : (profile : PacketProfile) (bytes : List ℕ) (result : Result Cancel Place) → IfOk result (λ packet. IsDatagram (IsCancel profile) packet bytes)
    → IfErr result (λ place. IsRefused (IsCancel profile) bytes place.word) → (packet : Cancel) → IsDatagram (IsCancel profile) packet bytes → result ≡ Ok packet
one_answer profile = laws.one_answer profile roles.Cancel front_of IsContent (IsCancel profile) (in_parts profile)

pub right_cancel : (profile : PacketProfile) (packet : Cancel) (bytes : List ℕ) → AreBytes bytes
    → IsCommandPrologue profile roles.Cancel (front_of packet) (take (command_words (front_of packet)) (words_of bytes))
    → length bytes ≡ 4 * packet.prologue.header.size → IsContent packet (drop (command_words (front_of packet)) (words_of bytes))
    → IsDatagram (IsCancel profile) packet bytes
right_cancel profile = laws.right profile roles.Cancel front_of IsContent (IsCancel profile) (in_parts profile)

pub cancel_size : (profile : PacketProfile) (packet : Cancel) (words : List ℕ) → IsCancel profile packet words
    → packet.prologue.header.size ≡ command_words (front_of packet) + 1
cancel_size profile packet words h =
    h.size ∙ laws.all_words profile roles.Cancel front_of IsContent (IsCancel profile) (in_parts profile) packet words h
    ∙ ap (λ xs. command_words (front_of packet) + length xs) h.content

-- ---- cancellations are a prologue, CIF0 of its rule, and no word more

-- the cancellation of a prologue and CIF0
packet_of : CommandPrologue → ℕ → Cancel
packet_of front named = record {
  prologue = front.prologue;
  cam = front.cam;
  message = front.message;
  controllee = front.controllee;
  controller = front.controller;
  named = named;
}

mask_there : (profile : PacketProfile) (front : CommandPrologue) (words : List ℕ) → IsCommandPrologue profile roles.Cancel front words
    → (x : ℕ) × (x < 2 ^ 32) × IsNamed front x × (command_words front < front.prologue.header.size)
mask_there profile front words is =
    let left = content_left profile roles.Cancel front words is in
    let mask = mask_of_number 0 (omega arith) in
    (mask.mask, omega (arith, mask.below), mask.only, omega (arith, left.1.0, left.1.1))

made : (profile : PacketProfile) (front : CommandPrologue) (words : List ℕ) (named : ℕ) (rest : List ℕ) → IsCommandPrologue profile roles.Cancel front words
    → IsFieldMask named → front.prologue.header.size ≡ command_words front + suc (length rest) → IsCancel profile (packet_of front named) (words ++ (named ∷ rest))
unfolding packet_of
made profile front words named rest is only size =
    let left = content_left profile roles.Cancel front words is in
    let none : rest ≡ [] = nil_from_length rest (omega (arith, size, left.1.0, left.1.1)) in
    laws.made profile roles.Cancel front_of IsContent (IsCancel profile) (in_parts profile) (packet_of front named) words (named ∷ rest) is
    (only, ap (λ xs. named ∷ xs) none) size

pub by_first : (profile : PacketProfile) → AreByFirst profile roles.Cancel IsNamed (IsCancel profile)
by_first profile = record {
  has = λ packet words h. record {
    front = front_of packet;
    is_front = sized profile packet words h;
    size = h.size;
    first = packet.named;
    rest = [];
    behind = h.content;
    is_first = h.only;
  };
  there = mask_there profile;
  whole = λ front words named rest is first fit size. (packet_of front named, made profile front words named rest is first size);
}
