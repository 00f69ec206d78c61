-- A front, and one whose size leaves words for a content.
use Rattle.std.proofs.Common.{◌≡◌, ℕ, ◌+◌, List, length, drop, ap, length-append, length-drop, length-take, arith}
use Rattle.vrt_header.specs.Profile.{PacketProfile}
use Rattle.vrt_header.specs.Header.{prologue_words}
use Rattle.cam_field.specs.declared.cam.Cam.{Cam}
use Rattle.cam_field.specs.declared.modes.Role.{Role}
use Rattle.cam_field.specs.Ident.{ident_words}
use Rattle.command_prologue.specs.CommandPrologue.{identity_words, IsContentSize, AreBehind, IsInFront, IsFront, IsCommandPrologue, command_words}
use Rattle.command_prologue.specs.declared.prologue.CommandPrologue.{CommandPrologue}

-- the words of a front are as many as it says, whatever rule its mode word obeys
pub length-behind : (IsModeWord : Cam → ℕ → Type 0) (front : CommandPrologue) (words : List ℕ) → AreBehind IsModeWord front words → length words ≡ 2 + identity_words front.cam
length-behind IsModeWord front words h =
    omega (arith, ap length h.all, length-append (ident_words front.controllee) (ident_words front.controller), h.controllee.size, h.controller.size)

pub length-front : {IsModeWord : Cam → ℕ → Type 0} (profile : PacketProfile) (role : Role) (front : CommandPrologue) (words : List ℕ)
    → IsInFront IsModeWord profile role front words → length words ≡ command_words front
length-front {IsModeWord} profile role front words h =
    let n = prologue_words front.prologue.header.timed in
    omega (arith, h.prologue.prologue.all, length-behind IsModeWord front (drop n words) h.behind, length-drop n words, length-take n words)

-- what is in front with room for a content is in front
pub front_alone : (profile : PacketProfile) (role : Role) (front : CommandPrologue) (words : List ℕ) → IsCommandPrologue profile role front words → IsFront profile role front words
front_alone profile role front words h = record {
  prologue = h.prologue;
  behind = record {
    mode_word = h.behind.mode_word;
    mode = h.behind.mode.spelled;
    controllee = h.behind.controllee;
    controller = h.behind.controller;
    all = h.behind.all;
  };
}

-- and what is in front of a content has room for it
pub front_with_room : (profile : PacketProfile) (role : Role) (front : CommandPrologue) (words : List ℕ) (content : ℕ) → IsFront profile role front words
    → front.prologue.header.size ≡ command_words front + content → IsContentSize role front.cam content → IsCommandPrologue profile role front words
front_with_room profile role front words content h size allowed = record {
  prologue = h.prologue;
  behind = record {
    mode_word = h.behind.mode_word;
    mode = record { spelled = h.behind.mode; content = content; size = size; allowed = allowed };
    controllee = h.behind.controllee;
    controller = h.behind.controller;
    all = h.behind.all;
  };
}
