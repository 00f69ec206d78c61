-- What a line of words asks for: a command, and options with their values.
use Rattle.std.specs.Prelude.{◌≡◌, ◌<◌, ◌≤◌, ◌==◌, ◌&&◌, ◌++◌, ◌^◌, ℕ, Bool, true, false, not, nat_le, List, [], ◌∷◌}
use Rattle.std.specs.Prelude.{All, Contains, None, Option, Some, String, codes, drop, filter}
use Rattle.std.specs.Prelude.{length, map, string_bytes}
use Rattle.std.specs.List.{flat_map, list_all, list_any}
use Rattle.std.specs.Str.{bytes_eq}
use Rattle.std.specs.Str.Parse.{IsNumeral, digits_value}
use Rattle.difi_texts.specs.declared.lines.Listing.TheVariants.{Check, Show}
use Rattle.difi_cmd.specs.declared.words.CommandName.{CommandName}
use Rattle.difi_cmd.specs.declared.words.CommandName.TheVariants as names
use Rattle.difi_cmd.specs.declared.options.LeftOut.{LeftOut}
use Rattle.difi_cmd.specs.declared.options.LeftOut.TheVariants.{Default, Refused, NoNumber}
use Rattle.difi_cmd.specs.declared.words.Line.{Line}
use Rattle.difi_cmd.specs.declared.words.Line.TheVariants as lines
use Rattle.difi_cmd.specs.declared.options.OptionRow.{OptionRow as CodeRow}

abbrev pub Text : Type 0
Text = List ℕ

-- ---- the items behind the command's word

-- an option and its value, or a word that stands alone
pub data Item : Type 0 where
  -- in one word, `--name=value`
  joined : Text → Text → Item
  -- in two words, `--name value`
  apart : Text → Text → Item
  -- the value of what has no name
  alone : Text → Item

abbrev pub option_of : Item → Text
option_of (joined name value) = name
option_of (apart name value) = name
option_of (alone value) = []

abbrev pub value_of : Item → Text
value_of (joined name value) = value
value_of (apart name value) = value
value_of (alone value) = value

abbrev pub words_of_item : Item → List Text
words_of_item (joined name value) = (codes "--" ++ name ++ codes "=" ++ value) ∷ []
words_of_item (apart name value) = (codes "--" ++ name) ∷ value ∷ []
words_of_item (alone value) = value ∷ []

abbrev pub BeginsWithHyphen : Text → Type 0
BeginsWithHyphen [] = ⊥
BeginsWithHyphen (first ∷ rest) = first ≡ 45

-- the whole name of an option of this list
abbrev pub IsOption : List Text → Text → Type 0
IsOption names name = Contains names name × (0 < length name)

-- an option of this list; or a word that stands alone, where the list has the empty name; a value
-- that is a word of its own begins with no hyphen
abbrev pub IsItem : List Text → Item → Type 0
IsItem names (joined name value) = IsOption names name
IsItem names (apart name value) = IsOption names name × ¬ BeginsWithHyphen value
IsItem names (alone value) = Contains names [] × ¬ BeginsWithHyphen value

-- the words are these items, one after another
pub record AreItems (names : List Text) (words : List Text) (items : List Item) : Type 0 where
  pub spelled : words ≡ flat_map words_of_item items
  pub known : All (IsItem names) items

-- the values that the items give an option
abbrev pub values_of : Text → List Item → List Text
values_of name items = map value_of (filter (λ item. bytes_eq (option_of item) name) items)

-- ---- the number that an option has

-- an option of a command: the numbers that its value may write, and what holds where it is left
-- out; one whose name is empty is the word that stands alone
pub record OptionRow : Type 0 where
  pub name : Text
  pub least : ℕ
  pub greatest : ℕ
  pub left_out : LeftOut

-- a value: 1 to 19 decimal digits, and zeros may stand in front
pub record IsValue (value : Text) : Type 0 where
  pub digits : IsNumeral 10 value
  pub short : length value ≤ 19

-- the value writes this number, which is in the option's range
pub record Writes (row : OptionRow) (value : Text) (number : ℕ) : Type 0 where
  pub is_value : IsValue value
  pub is_number : number ≡ digits_value 10 value
  pub at_least : row.least ≤ number
  pub at_most : number ≤ row.greatest

-- an option that is left out has its default, or is refused, or has no number
abbrev pub IsLeftOut : LeftOut → Option ℕ → Type 0
IsLeftOut (Default default) number = number ≡ Some default
IsLeftOut Refused number = ⊥
IsLeftOut NoNumber number = number ≡ None

-- an option with these values has this number; none has two values
abbrev pub Gives : OptionRow → List Text → Option ℕ → Type 0
Gives row [] number = IsLeftOut row.left_out number
Gives row (value ∷ []) (Some number) = Writes row value number
Gives row (value ∷ []) None = ⊥
Gives row (value ∷ other ∷ values) number = ⊥

-- these options have these numbers, one by one, where each has the values of its name
abbrev pub AreGiven : List OptionRow → (Text → List Text) → List (Option ℕ) → Type 0
AreGiven [] values [] = Unit {0}
AreGiven [] values (number ∷ numbers) = ⊥
AreGiven (row ∷ rows) values [] = ⊥
AreGiven (row ∷ rows) values (number ∷ numbers) =
    Gives row (values row.name) number × AreGiven rows values numbers

abbrev pub names_of : List OptionRow → List Text
names_of rows = map (λ row. row.name) rows

-- the words are items of these options, and give them these numbers
pub record GiveNumbers (rows : List OptionRow) (words : List Text) (numbers : List (Option ℕ))
    : Type 0 where
  pub items : List Item
  pub are_items : AreItems (names_of rows) words items
  pub given : AreGiven rows (λ name. values_of name items) numbers

-- ---- the commands

-- the word of a command, and its options
pub record CommandRow : Type 0 where
  pub word : Text
  pub options : List OptionRow

abbrev pub max_bytes : OptionRow
max_bytes = record {
  name = codes "max-bytes";
  least = 1;
  greatest = 2 ^ 62;
  left_out = Default (2 ^ 40);
}

-- the table of the commands
abbrev pub row_of : CommandName → CommandRow
row_of (names.List Check) = record { word = codes "check"; options = max_bytes ∷ [] }
row_of (names.List Show) = record { word = codes "show"; options = max_bytes ∷ [] }
row_of names.Migrate = record { word = codes "migrate"; options = max_bytes ∷ [] }
row_of names.Replay = record { word = codes "replay"; options = max_bytes ∷ [] }

-- ---- the line

-- the command of a line, and the numbers of its options in the order of the table
abbrev pub command_of : Line → CommandName
command_of (lines.List options) = names.List options.listing
command_of (lines.Migrate most) = names.Migrate
command_of (lines.Replay most) = names.Replay

abbrev pub numbers_of : Line → List (Option ℕ)
numbers_of (lines.List options) = Some options.max_bytes ∷ []
numbers_of (lines.Migrate most) = Some most ∷ []
numbers_of (lines.Replay most) = Some most ∷ []

-- the first word is this one
abbrev pub IsFirst : List Text → Text → Type 0
IsFirst [] text = ⊥
IsFirst (word ∷ words) text = word ≡ text

-- the first word names the command
abbrev pub NamesCommand : {A : Type 0} → List (String A) → CommandName → Type 0
NamesCommand words command = IsFirst (map string_bytes words) (row_of command).word

-- the words ask for this line: the first is the command's, and those behind it give its options
-- their numbers
pub record Asks {A : Type 0} (words : List (String A)) (line : Line) : Type 0 where
  pub named : NamesCommand words (command_of line)
  pub behind : GiveNumbers (row_of (command_of line)).options (drop 1 (map string_bytes words))
      (numbers_of line)

-- ---- the parts of the reading

-- a row as it stands in the code
abbrev pub option_row : CodeRow → OptionRow
option_row row = record {
  name = row.name.now;
  least = row.least;
  greatest = row.greatest;
  left_out = row.left_out;
}

abbrev pub option_rows : List CodeRow → List OptionRow
option_rows rows = map option_row rows

-- a name has no `=` in it
abbrev pub is_option_name : Text → Bool
is_option_name name = not (list_any (λ byte. byte == 61) name)

-- the default is in the range
abbrev pub has_default_within : ℕ → ℕ → LeftOut → Bool
has_default_within least greatest (Default default) =
    nat_le least default && nat_le default greatest
has_default_within least greatest Refused = true
has_default_within least greatest NoNumber = true

abbrev pub is_row : OptionRow → Bool
is_row row = is_option_name row.name && has_default_within row.least row.greatest row.left_out

abbrev pub has_no_name : Text → Bool
has_no_name [] = true
has_no_name (first ∷ rest) = false

-- one of these names at most is empty
abbrev pub is_one_alone : List Text → Bool
is_one_alone [] = true
is_one_alone ([] ∷ names) = not (list_any has_no_name names)
is_one_alone ((first ∷ rest) ∷ names) = is_one_alone names

-- the options can be read
abbrev pub are_rows : List OptionRow → Bool
are_rows rows = list_all is_row rows && is_one_alone (names_of rows)

-- the number is in the option's range; there is none only where the option may be left out so
abbrev pub IsWithin : OptionRow → Option ℕ → Type 0
IsWithin row (Some number) = (row.least ≤ number) × (number ≤ row.greatest)
IsWithin row None = row.left_out ≡ NoNumber

abbrev pub AreWithin : List OptionRow → List (Option ℕ) → Type 0
AreWithin [] [] = Unit {0}
AreWithin [] (number ∷ numbers) = ⊥
AreWithin (row ∷ rows) [] = ⊥
AreWithin (row ∷ rows) (number ∷ numbers) = IsWithin row number × AreWithin rows numbers

-- the word begins with a hyphen, and is no `--` with a name behind it
abbrev pub is_stray : Text → Bool
is_stray [] = false
is_stray (first ∷ []) = first == 45
is_stray (first ∷ second ∷ []) = first == 45
is_stray (first ∷ second ∷ third ∷ rest) = first == 45 && not (second == 45)

-- such a word stands behind the first
abbrev pub has_stray : {A : Type 0} → List (String A) → Bool
has_stray words = list_any is_stray (drop 1 (map string_bytes words))

-- none or one
abbrev pub value_list : Option Text → List Text
value_list None = []
value_list (Some value) = value ∷ []

-- the words are items of these options, and give each its value or none
pub record GiveValues (names : List Text) (words : List Text) (value : Text → Option Text)
    : Type 0 where
  pub items : List Item
  pub are_items : AreItems names words items
  pub values : (name : Text) → Contains names name → values_of name items ≡ value_list (value name)
