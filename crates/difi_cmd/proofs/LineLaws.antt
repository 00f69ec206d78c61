-- Words ask for one line at most, and none of its words is `--`.
use Rattle.std.proofs.Common.{if◌then◌else◌, ◌≡◌, ◌≢◌, ◌∙◌, ℕ, true, false, List, [], ◌∷◌, drop, map, Option, Some, None, String, codes, string_bytes, refl, sym, ap, ap₂, subst, All}
use Rattle.std.specs.List.{list_any}
use Rattle.std.specs.Str.{bytes_eq}
use Rattle.std.proofs.lemmas.List.Elements.{All-cons, All-nil}
use Rattle.difi_texts.specs.declared.lines.Listing.TheVariants.{Check, Show}
use Rattle.difi_cmd.specs.declared.words.CommandName.{CommandName}
use Rattle.difi_cmd.specs.declared.words.CommandName.TheVariants as names
use Rattle.difi_cmd.specs.declared.words.Line.{Line}
use Rattle.difi_cmd.specs.declared.words.Line.TheVariants as lines
use Rattle.difi_cmd.specs.LineOfWords.{Asks, GiveNumbers, IsFirst, NamesCommand, OptionRow, Text, command_of, are_rows, is_stray, numbers_of, row_of}
use Rattle.difi_cmd.proofs.ClapOptions.{neither_first, neither_second}
use Rattle.difi_cmd.proofs.Numbers.{no_stray, one_numbers}

-- ---- what is shown of each command of the table

-- its options can be read
pub have_rows : (command : CommandName) → are_rows (row_of command).options ≡ true
have_rows (names.List Check) = refl
have_rows (names.List Show) = refl
have_rows names.Migrate = refl
have_rows names.Replay = refl

-- its word names it
named_by : Text → Option CommandName
named_by word =
    if bytes_eq word (codes "check") then Some (names.List Check)
    else (if bytes_eq word (codes "show") then Some (names.List Show)
    else (if bytes_eq word (codes "migrate") then Some names.Migrate
    else (if bytes_eq word (codes "replay") then Some names.Replay else None)))

is_named : (command : CommandName) → named_by (row_of command).word ≡ Some command
unfolding named_by
is_named (names.List Check) = refl
is_named (names.List Show) = refl
is_named names.Migrate = refl
is_named names.Replay = refl

-- its numbers have one line
line_from : CommandName → List (Option ℕ) → Option Line
line_from (names.List listing) (Some max_bytes ∷ []) = Some (lines.List (record { listing = listing; max_bytes = max_bytes }))
line_from names.Migrate (Some max_bytes ∷ []) = Some (lines.Migrate max_bytes)
line_from names.Replay (Some max_bytes ∷ []) = Some (lines.Replay max_bytes)
line_from command numbers = None

from_line : (line : Line) → line_from (command_of line) (numbers_of line) ≡ Some line
unfolding line_from
from_line (lines.List options) = refl
from_line (lines.Migrate most) = refl
from_line (lines.Replay most) = refl

-- ---- the laws

-- the word of a command is that of no other, and is not `--`
one_word : (command other : CommandName) → (row_of command).word ≡ (row_of other).word → command ≡ other
one_word command other h =
    let same : Some command ≡ Some other = sym (is_named command) ∙ (ap named_by h ∙ is_named other) in
    cc

no_dashes_first : (command : CommandName) → (row_of command).word ≢ codes "--"
unfolding named_by
no_dashes_first command h =
    let none : named_by (codes "--") ≡ None = refl in
    let bad : Some command ≡ None = sym (is_named command) ∙ (ap named_by h ∙ none) in
    cc

same_line : (line other : Line) → command_of line ≡ command_of other → numbers_of line ≡ numbers_of other → line ≡ other
same_line line other command numbers =
    let same : Some line ≡ Some other = sym (from_line line) ∙ (ap₂ line_from command numbers ∙ from_line other) in
    cc

one_command : (words : List Text) (command other : CommandName) → IsFirst words (row_of command).word → IsFirst words (row_of other).word → command ≡ other
one_command [] command other h k = absurd h
one_command (word ∷ words) command other h k = one_word command other (sym h ∙ k)

-- what words that name a command ask for stands behind them as its options and their numbers
pub asked_behind : {A : Type 0} (words : List (String A)) (command : CommandName) (rows : List OptionRow) (line : Line) → NamesCommand words command → rows ≡ (row_of command).options
    → Asks words line → (command_of line ≡ command) × GiveNumbers rows (drop 1 (map string_bytes words)) (numbers_of line)
asked_behind words command rows line named is asks =
    let command_is = one_command (map string_bytes words) (command_of line) command asks.named named in
    let rows_are = ap (λ (c : CommandName). (row_of c).options) command_is ∙ sym is in
    (command_is, subst (λ (rs : List OptionRow). GiveNumbers rs (drop 1 (map string_bytes words)) (numbers_of line)) rows_are asks.behind)

-- and no others do
pub asked_numbers : {A : Type 0} (words : List (String A)) (command : CommandName) (rows : List OptionRow) (numbers : List (Option ℕ)) (line : Line) → NamesCommand words command
    → rows ≡ (row_of command).options → GiveNumbers rows (drop 1 (map string_bytes words)) numbers → Asks words line → (command_of line ≡ command) × (numbers_of line ≡ numbers)
asked_numbers words command rows numbers line named is given asks =
    let own = asked_behind words command rows line named is asks in
    (own.0, one_numbers rows _ (numbers_of line) numbers (ap are_rows is ∙ have_rows command) own.1 given)

pub one_line : {A : Type 0} (words : List (String A)) (line other : Line) → Asks words line → Asks words other → line ≡ other
one_line words line other asks also =
    let both = asked_numbers words (command_of other) (row_of (command_of other)).options (numbers_of other) line also.named refl also.behind asks in
    same_line line other both.0 both.1

none_dashes : (words : List Text) → list_any is_stray words ≡ false → All (λ word. word ≢ codes "--") words
none_dashes [] h = All-nil (λ word. word ≢ codes "--")
none_dashes (word ∷ words) h = All-cons (λ text. text ≢ codes "--") word words (λ e. let bad : true ≡ false = rw e at (neither_first (is_stray word) _ h) in cc)
    (none_dashes words (neither_second (is_stray word) _ h))

all_words : (words : List Text) (command : CommandName) → IsFirst words (row_of command).word → list_any is_stray (drop 1 words) ≡ false → All (λ word. word ≢ codes "--") words
all_words [] command named h = absurd named
all_words (word ∷ words) command named h = All-cons (λ text. text ≢ codes "--") word words (λ e. no_dashes_first command (sym named ∙ e)) (none_dashes words h)

pub no_dashes : {A : Type 0} (words : List (String A)) (line : Line) → Asks words line → All (λ word. word ≢ codes "--") (map string_bytes words)
no_dashes words line asks =
    let texts = map string_bytes words in
    all_words texts (command_of line) asks.named (no_stray (row_of (command_of line)).options (drop 1 texts) (numbers_of line) (have_rows (command_of line)) asks.behind)
