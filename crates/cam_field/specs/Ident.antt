-- Identities: the two bits of the mode word that announce one, and its words.
use Rattle.std.specs.Prelude.{ℕ, List, [], ◌∷◌, Bool, true, false}
use Rattle.cam_field.specs.declared.ident.Ident.{Ident}
use Rattle.cam_field.specs.declared.ident.Ident.TheVariants as idents

-- whether there is one
abbrev pub is_named : Ident → Bool
is_named idents.None = false
is_named (idents.Word word) = true
is_named (idents.Uuid words) = true

-- whether it is a UUID
abbrev pub is_uuid : Ident → Bool
is_uuid idents.None = false
is_uuid (idents.Word word) = false
is_uuid (idents.Uuid words) = true

-- its words as they stand in a packet
abbrev pub ident_words : Ident → List ℕ
ident_words idents.None = []
ident_words (idents.Word word) = word ∷ []
ident_words (idents.Uuid words) = words

-- the number of words of an identity that is there or not, and a UUID or not
abbrev pub ident_size : Bool → Bool → ℕ
ident_size false uuid = 0
ident_size true false = 1
ident_size true true = 4
