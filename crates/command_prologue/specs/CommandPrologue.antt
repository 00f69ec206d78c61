-- The prologue of commands, cancellations and acknowledgements, one line for each of its parts.
use Rattle.std.specs.Prelude.{◌≡◌, ℕ, ◌+◌, ◌*◌, ◌≤◌, Bool, true, false, List, ◌∷◌, ◌++◌, length, take, drop}
use Rattle.vrt_header.specs.Profile.{PacketProfile}
use Rattle.vrt_header.specs.Header.{prologue_words}
use Rattle.vrt_header.specs.Prologue.{IsPrologueOf}
use Rattle.vrt_header.specs.declared.header.Kind.{Kind}
use Rattle.vrt_header.specs.declared.header.Kind.TheVariants as kinds
use Rattle.vrt_header.specs.declared.prologue.Prologue.{Prologue}
use Rattle.cam_field.specs.Cam.{IsCam}
use Rattle.cam_field.specs.Ident.{is_named, is_uuid, ident_words, ident_size}
use Rattle.cam_field.specs.Spelling.{bit_of}
use Rattle.cam_field.specs.declared.cam.Cam.{Cam}
use Rattle.cam_field.specs.declared.ident.Ident.{Ident}
use Rattle.cam_field.specs.declared.modes.Role.{Role}
use Rattle.cam_field.specs.declared.modes.Role.TheVariants.{Control, Cancel, Ack}
use Rattle.command_prologue.specs.declared.prologue.CommandPrologue.{CommandPrologue}

-- the kind of packet that has the role
abbrev pub kind_of : Role → Kind
kind_of Control = kinds.Control
kind_of Cancel = kinds.Cancel
kind_of Ack = kinds.Ack

-- an identity that is there or not, and a UUID or not
pub record IsIdentity (named uuid : Bool) (ident : Ident) : Type 0 where
  pub there : is_named ident ≡ named
  pub form : is_uuid ident ≡ uuid
  pub size : length (ident_words ident) ≡ ident_size named uuid

-- the words of both identities
abbrev pub identity_words : Cam → ℕ
identity_words cam = ident_size cam.ce cam.ie + ident_size cam.cr cam.ir

-- the masks of fields behind the identities of an acknowledgement: one for warnings, and one for errors
abbrev pub masks_in : Cam → ℕ
masks_in cam = bit_of cam.warned + bit_of cam.erred

-- A mask of fields has up to 19 words of values, or up to twelve responses.
abbrev pub IsAnswerSize : Bool → ℕ → ℕ → Type 0
IsAnswerSize true masks size = (1 ≤ size) × (size ≤ 20)
IsAnswerSize false masks size = (masks ≤ size) × (size ≤ 13 * masks)

-- the words that can stand behind the identities
abbrev pub IsContentSize : Role → Cam → ℕ → Type 0
IsContentSize Control cam size = (1 ≤ size) × (size ≤ 20)
IsContentSize Cancel cam size = size ≡ 1
IsContentSize Ack cam size = IsAnswerSize cam.s (masks_in cam) size

-- the words behind the prologue: a mode word that obeys this rule, the message identifier, the controllee and the controller
pub record AreBehind (IsModeWord : Cam → ℕ → Type 0) (front : CommandPrologue) (words : List ℕ) : Type 0 where
  pub mode_word : ℕ
  pub mode : IsModeWord front.cam mode_word
  pub controllee : IsIdentity front.cam.ce front.cam.ie front.controllee
  pub controller : IsIdentity front.cam.cr front.cam.ir front.controller
  pub all : words ≡ mode_word ∷ front.message ∷ (ident_words front.controllee ++ ident_words front.controller)

-- these words, and no others, stand in front of the content
pub record IsInFront (IsModeWord : Cam → ℕ → Type 0) (profile : PacketProfile) (role : Role) (front : CommandPrologue) (words : List ℕ) : Type 0 where
  pub prologue : IsPrologueOf profile (kind_of role) front.prologue (take (prologue_words front.prologue.header.timed) words)
  pub behind : AreBehind IsModeWord front (drop (prologue_words front.prologue.header.timed) words)

-- the front of a packet with this role
abbrev pub IsFront : PacketProfile → Role → CommandPrologue → List ℕ → Type 0
IsFront profile role front words = IsInFront (IsCam role front.prologue.header.timed) profile role front words

-- the mode word of a packet with this prologue, whose size leaves words that can stand behind the identities
pub record IsMode (role : Role) (prologue : Prologue) (cam : Cam) (word : ℕ) : Type 0 where
  pub spelled : IsCam role prologue.header.timed cam word
  pub content : ℕ
  pub size : prologue.header.size ≡ prologue_words prologue.header.timed + 2 + identity_words cam + content
  pub allowed : IsContentSize role cam content

abbrev pub IsBehind : Role → CommandPrologue → List ℕ → Type 0
IsBehind role front words = AreBehind (IsMode role front.prologue) front words

-- a front whose size leaves words for a content, as that of each packet does
abbrev pub IsCommandPrologue : PacketProfile → Role → CommandPrologue → List ℕ → Type 0
IsCommandPrologue profile role front words = IsInFront (IsMode role front.prologue) profile role front words

-- its words
abbrev pub command_words : CommandPrologue → ℕ
command_words front = prologue_words front.prologue.header.timed + 2 + identity_words front.cam
