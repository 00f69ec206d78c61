-- Laws of commands: words are one at most, and are refused in the prologue, at CIF0 or at the end.
use Rattle.std.proofs.Common.{◌≡◌, ℕ, zero, suc, ◌+◌, ◌-◌, ◌*◌, ◌^◌, ◌<◌, ◌≤◌, ◌⊎◌, inl, inr, List, [], ◌∷◌, ◌++◌, length, take, drop, Option, Some, None, Result, Ok, IfOk, IfErr, refl, sym, ap, ◌∙◌, subst, take-append-drop, append_assoc, arith}
use Rattle.std.proofs.lemmas.List.{nil_from_length}
use Rattle.vrt_words.specs.Words.{words_of, AreWords, AreBytes}
use Rattle.vrt_words.specs.Begins.{IsDatagram, IsRefused}
use Rattle.vrt_header.specs.Profile.{PacketProfile}
use Rattle.vrt_fields.specs.FieldSet.{FieldValues, IsFieldMask, width_of_mask, mask_of}
use Rattle.vrt_fields.proofs.FieldSetLaws.{one_set, width_is_of_fields, set_of_words}
use Rattle.vrt_fields.proofs.MaskLaws.{mask_of_width, no_width}
use Rattle.vrt_fields.proofs.Steps.{width_most, all_widths}
use Rattle.vrt_fields.specs.Field.{fields_in_order}
use Rattle.cam_field.specs.declared.cam.Cam.{Cam}
use Rattle.cam_field.specs.declared.modes.Action.TheVariants as actions
use Rattle.cam_field.specs.declared.modes.Role.TheVariants as roles
use Rattle.command_prologue.specs.CommandPrologue.{IsContentSize, IsCommandPrologue, command_words}
use Rattle.command_prologue.proofs.CommandPrologueLaws.{content_left, same_head}
use Rattle.command_prologue.specs.declared.prologue.CommandPrologue.{CommandPrologue}
use Rattle.vrt_words.specs.declared.place.Place.{Place}
use Rattle.command_codec.specs.declared.control.Control.{Control}
use Rattle.command_codec.specs.Control.{front_of, AreValues, words_of_values, IsContent, IsControl}
use Rattle.command_codec.specs.FirstWord.{AreByFirst}
use Rattle.command_codec.specs.Steps.{IsAsked}
use Rattle.command_codec.proofs.ContentLaws.{AreInParts}
use Rattle.command_codec.proofs.ContentLaws as laws

-- ---- the content

values_few : (cam : Cam) (asked : ℕ) (fields : Option FieldValues) (words : List ℕ) → AreValues cam asked fields words → length words ≤ 19
values_few cam asked (Some set) words h =
    omega (arith, ap length h.2, width_is_of_fields set h.0, width_most (mask_of set) fields_in_order, all_widths)
values_few cam asked None words h = omega (arith, ap length h.2)

one_values : (cam : Cam) (asked : ℕ) (a b : Option FieldValues) (words : List ℕ) → IsFieldMask asked → AreValues cam asked a words → AreValues cam asked b words → a ≡ b
one_values cam asked (Some a) (Some b) words only p q = ap Some (one_set a b p.0 q.0 (p.1 ∙ sym q.1) (p.2 ∙ sym q.2))
one_values cam asked (Some a) None words only p q =
    absurd (q.1 (no_width asked only (ap width_of_mask (sym p.1) ∙ width_is_of_fields a p.0 ∙ ap length (p.2 ∙ q.2))))
one_values cam asked None (Some b) words only p q =
    absurd (p.1 (no_width asked only (ap width_of_mask (sym q.1) ∙ width_is_of_fields b q.0 ∙ ap length (q.2 ∙ p.2))))
one_values cam asked None None words only p q = refl

same_control : (a b : Control) → front_of a ≡ front_of b → a.asked ≡ b.asked → a.fields ≡ b.fields → a ≡ b
same_control a b front asked fields =
    let prologue : a.prologue ≡ b.prologue = ap (λ (f : CommandPrologue). f.prologue) front in
    let cam : a.cam ≡ b.cam = ap (λ (f : CommandPrologue). f.cam) front in
    let message : a.message ≡ b.message = ap (λ (f : CommandPrologue). f.message) front in
    let controllee : a.controllee ≡ b.controllee = ap (λ (f : CommandPrologue). f.controllee) front in
    let controller : a.controller ≡ b.controller = ap (λ (f : CommandPrologue). f.controller) front in
    parts a b prologue cam message controllee controller asked fields
  where
    parts : (a b : Control) → a.prologue ≡ b.prologue → a.cam ≡ b.cam → a.message ≡ b.message → a.controllee ≡ b.controllee → a.controller ≡ b.controller
        → a.asked ≡ b.asked → a.fields ≡ b.fields → a ≡ b
    parts a b p q r s t u v = grind arith

one_content : (a b : Control) (words : List ℕ) → front_of a ≡ front_of b → IsContent a words → IsContent b words → a ≡ b
one_content a b words front p q =
    let row = same_head a.asked b.asked p.behind q.behind (sym p.all ∙ q.all) in
    let cam : a.cam ≡ b.cam = ap (λ (f : CommandPrologue). f.cam) front in
    let theirs : AreValues a.cam a.asked b.fields p.behind =
    subst (λ (c : Cam). AreValues c a.asked b.fields p.behind) (sym cam)
    (subst (λ n. AreValues b.cam n b.fields p.behind) (sym row.0) (subst (AreValues b.cam b.asked b.fields) (sym row.1) q.values)) in
    same_control a b front row.0 (one_values a.cam a.asked a.fields b.fields p.behind p.only p.values theirs)

one_content_words : (packet : Control) (a b : List ℕ) → IsContent packet a → IsContent packet b → a ≡ b
one_content_words packet a b p q = p.all ∙ ap (λ xs. packet.asked ∷ xs) (same packet.fields p.values q.values) ∙ sym q.all
  where
    same : (fields : Option FieldValues) → AreValues packet.cam packet.asked fields p.behind → AreValues packet.cam packet.asked fields q.behind → p.behind ≡ q.behind
    same (Some set) x y = sym x.2 ∙ y.2
    same None x y = x.2 ∙ sym y.2

-- ---- a command is its front and the content

content_fits : (packet : Control) (words : List ℕ) → IsContent packet words → IsContentSize roles.Control packet.cam (length words)
content_fits packet words h =
    let few = values_few packet.cam packet.asked packet.fields h.behind h.values in
    (omega (arith, ap length h.all), omega (arith, few, ap length h.all))

pub in_parts : (profile : PacketProfile) → AreInParts profile roles.Control front_of IsContent (IsControl profile)
in_parts profile = record {
  parts = λ packet words h. record { front = h.front; content = h.content; size = h.size };
  whole = λ packet words h. record { front = h.front; content = h.content; size = h.size };
  fits = content_fits;
  one_value = one_content;
  one_content = one_content_words;
}

-- the words in front leave room for it
pub sized : (profile : PacketProfile) (packet : Control) (words : List ℕ) → IsControl profile packet words
    → IsCommandPrologue profile roles.Control (front_of packet) (take (command_words (front_of packet)) words)
sized profile = laws.sized profile roles.Control front_of IsContent (IsControl profile) (in_parts profile)

pub one_control : (profile : PacketProfile) (a b : Control) (words : List ℕ) → IsControl profile a words → IsControl profile b words → a ≡ b
one_control profile = laws.one_packet profile roles.Control front_of IsContent (IsControl profile) (in_parts profile)

pub one_datagram : (profile : PacketProfile) (packet : Control) (a b : List ℕ) → AreBytes a → AreBytes b
    → IsDatagram (IsControl profile) packet a → IsDatagram (IsControl profile) packet b → a ≡ b
one_datagram profile = laws.one_datagram profile roles.Control front_of IsContent (IsControl profile) (in_parts profile)

-- the answer of a decoder is the only one
pub one_answer : (profile : PacketProfile) (bytes : List ℕ) (result : Result Control Place) → IfOk result (λ packet. IsDatagram (IsControl profile) packet bytes)
    → IfErr result (λ place. IsRefused (IsControl profile) bytes place.word) → (packet : Control) → IsDatagram (IsControl profile) packet bytes → result ≡ Ok packet
one_answer profile = laws.one_answer profile roles.Control front_of IsContent (IsControl profile) (in_parts profile)

pub right_control : (profile : PacketProfile) (packet : Control) (bytes : List ℕ) → AreBytes bytes
    → IsCommandPrologue profile roles.Control (front_of packet) (take (command_words (front_of packet)) (words_of bytes))
    → length bytes ≡ 4 * packet.prologue.header.size → IsContent packet (drop (command_words (front_of packet)) (words_of bytes)) → IsDatagram (IsControl profile) packet bytes
right_control profile = laws.right profile roles.Control front_of IsContent (IsControl profile) (in_parts profile)

all_words : (profile : PacketProfile) (packet : Control) (words : List ℕ) (h : IsControl profile packet words)
    → length words ≡ command_words (front_of packet) + suc (length h.content.behind)
all_words profile packet words h =
    laws.all_words profile roles.Control front_of IsContent (IsControl profile) (in_parts profile) packet words h
    ∙ ap (λ xs. command_words (front_of packet) + length xs) h.content.all

-- ---- commands are a prologue, CIF0 of its rule, and words up to the size

asked_right : (profile : PacketProfile) (packet : Control) (words : List ℕ) (fields : Option FieldValues) (h : IsControl profile packet words)
    → AreValues packet.cam packet.asked fields h.content.behind → IsAsked (front_of packet) packet.asked
asked_right profile packet words fields h values =
    record { only = h.content.only; follows = follow fields values (all_words profile packet words h) }
  where
    follow : (fields : Option FieldValues) → AreValues packet.cam packet.asked fields h.content.behind → length words ≡ command_words (front_of packet) + suc (length h.content.behind)
        → (command_words (front_of packet) + 1 + width_of_mask packet.asked ≡ packet.prologue.header.size)
        ⊎ ((packet.cam.action ≡ actions.None) × (command_words (front_of packet) + 1 ≡ packet.prologue.header.size))
    follow (Some set) v e = inl (omega (arith, h.size, e, ap width_of_mask v.1, width_is_of_fields set v.0, ap length v.2))
    follow None v e = inr (v.0, omega (arith, h.size, e, ap length v.2))

mask_there : (profile : PacketProfile) (front : CommandPrologue) (words : List ℕ) → IsCommandPrologue profile roles.Control front words
    → (x : ℕ) × (x < 2 ^ 32) × IsAsked front x × (command_words front < front.prologue.header.size)
mask_there profile front words is =
    let left = content_left profile roles.Control front words is in
    let mask = mask_of_width (left.0 - 1) (omega (arith, left.1.1)) in
    (mask.mask, omega (arith, mask.below), record { only = mask.only; follows = inl (omega (arith, mask.wide, left.1.0, left.1.1)) }, omega (arith, left.1.0, left.1.1))

-- the command of a prologue, CIF0 and values
packet_of : CommandPrologue → ℕ → Option FieldValues → Control
packet_of front asked fields = record {
  prologue = front.prologue;
  cam = front.cam;
  message = front.message;
  controllee = front.controllee;
  controller = front.controller;
  asked = asked;
  fields = fields;
}

-- values for the words behind CIF0
values_there : (front : CommandPrologue) (asked : ℕ) (rest : List ℕ) → IsAsked front asked → AreWords rest → front.prologue.header.size ≡ command_words front + suc (length rest)
    → (fields : Option FieldValues) × AreValues front.cam asked fields rest
values_there front zero rest first fit size =
    let set = set_of_words 0 rest first.only fit (elim first.follows [ inl e ↦ omega arith | inr e ↦ omega (arith, e.1) ]) in
    (Some set.0, set.1)
values_there front (suc asked) rest first fit size = elim first.follows [
  | inl e ↦ let set = set_of_words (suc asked) rest first.only fit (omega arith) in (Some set.0, set.1)
  | inr e ↦ (None, (e.0, (λ h. absurd (omega arith)), nil_from_length rest (omega (arith, e.1))))
]

made : (profile : PacketProfile) (front : CommandPrologue) (words : List ℕ) (asked : ℕ) (rest : List ℕ) (fields : Option FieldValues) → IsCommandPrologue profile roles.Control front words
    → IsFieldMask asked → AreValues front.cam asked fields rest → front.prologue.header.size ≡ command_words front + suc (length rest)
    → IsControl profile (packet_of front asked fields) (words ++ (asked ∷ rest))
unfolding packet_of
made profile front words asked rest fields is only values size =
    laws.made profile roles.Control front_of IsContent (IsControl profile) (in_parts profile) (packet_of front asked fields) words (asked ∷ rest) is
    (record { only = only; behind = rest; all = refl; values = values }) size

pub by_first : (profile : PacketProfile) → AreByFirst profile roles.Control IsAsked (IsControl profile)
by_first profile = record {
  has = λ packet words h. record {
    front = front_of packet;
    is_front = sized profile packet words h;
    size = h.size;
    first = packet.asked;
    rest = h.content.behind;
    behind = h.content.all;
    is_first = asked_right profile packet words packet.fields h h.content.values;
  };
  there = mask_there profile;
  whole = λ front words asked rest is first fit size.
      let fields = values_there front asked rest first fit size in
      (packet_of front asked fields.0, made profile front words asked rest fields.0 is first.only fields.1 size);
}

-- ---- the words that are written

pub values_spelled : (cam : Cam) (asked : ℕ) (fields : Option FieldValues) (words : List ℕ) → AreValues cam asked fields words → words_of_values fields ≡ words
values_spelled cam asked (Some set) words h = h.2
values_spelled cam asked None words h = sym h.2

pub control_size : (profile : PacketProfile) (packet : Control) (words : List ℕ) → IsControl profile packet words
    → packet.prologue.header.size ≡ command_words (front_of packet) + 1 + length (words_of_values packet.fields)
control_size profile packet words h =
    omega (arith, h.size, all_words profile packet words h, ap length (values_spelled packet.cam packet.asked packet.fields h.content.behind h.content.values))

-- the prologue, CIF0 and the values in a row
pub row_words : (profile : PacketProfile) (packet : Control) (words start : List ℕ) → IsControl profile packet words → start ≡ take (command_words (front_of packet)) words
    → (start ++ (packet.asked ∷ [])) ++ words_of_values packet.fields ≡ words
row_words profile packet words start h e =
    let m = command_words (front_of packet) in
    append_assoc start (packet.asked ∷ []) (words_of_values packet.fields)
    ∙ ap (λ xs. xs ++ (packet.asked ∷ words_of_values packet.fields)) e
    ∙ ap (λ xs. take m words ++ (packet.asked ∷ xs)) (values_spelled packet.cam packet.asked packet.fields h.content.behind h.content.values)
    ∙ ap (λ xs. take m words ++ xs) (sym h.content.all)
    ∙ take-append-drop m words
