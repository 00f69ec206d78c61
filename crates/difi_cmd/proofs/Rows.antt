-- Options that are gone through one by one.
use Rattle.std.proofs.Common.{◌≡◌, ◌<◌, ◌+◌, ◌++◌, ◌∙◌, ℕ, zero, suc, List, [], ◌∷◌, length, take, get_or, Option, sym, ap, ap₂, subst, arith}
use Rattle.std.proofs.lemmas.List.{map-append, take_more}
use Rattle.clap.specs.Words.{App, Rule, with_rule}
use Rattle.difi_cmd.specs.declared.options.OptionRow.{OptionRow as CodeRow}
use Rattle.difi_cmd.specs.CommandOfOptions.{app, bare, option_rule}
use Rattle.difi_cmd.specs.LineOfWords.{AreGiven, Gives, OptionRow, Text, names_of, option_row, option_rows, value_list}

pub more_rows : (rows : List CodeRow) (i : ℕ) (d : CodeRow) → i < length rows → option_rows (take (i + 1) rows) ≡ option_rows (take i rows) ++ option_row (get_or rows i d) ∷ []
more_rows rows i d lt = ap option_rows (take_more rows i d lt) ∙ map-append option_row (take i rows) (get_or rows i d ∷ [])

more_options : (rows : List OptionRow) (row : OptionRow) → with_rule (app (names_of rows)) (option_rule row.name) ≡ app (names_of (rows ++ row ∷ []))
more_options rows row =
    ap (λ (rules : List Rule). record bare { top = record bare.top { rules = rules } }) (sym (map-append option_rule (names_of rows) (row.name ∷ [])))
    ∙ ap (λ (names : List Text). app names) (sym (map-append (λ (r : OptionRow). r.name) rows (row ∷ [])))

-- a command with the next option, too
pub option_next : (rows : List CodeRow) (i : ℕ) (d : CodeRow) (a : App) (rule : Rule) → i < length rows → a ≡ app (names_of (option_rows (take i rows)))
    → rule ≡ option_rule (option_row (get_or rows i d)).name → with_rule a rule ≡ app (names_of (option_rows (take (i + 1) rows)))
option_next rows i d a rule lt is option =
    ap₂ with_rule is option ∙ (more_options (option_rows (take i rows)) (option_row (get_or rows i d)) ∙ ap (λ (rs : List OptionRow). app (names_of rs)) (sym (more_rows rows i d lt)))

given_more : (rows : List OptionRow) (values : Text → List Text) (numbers : List (Option ℕ)) (row : OptionRow) (number : Option ℕ) → AreGiven rows values numbers
    → Gives row (values row.name) number → AreGiven (rows ++ row ∷ []) values (numbers ++ number ∷ [])
given_more [] values [] row number h one = (one, tt)
given_more [] values (n ∷ numbers) row number h one = absurd h
given_more (r ∷ rows) values [] row number h one = absurd h
given_more (r ∷ rows) values (n ∷ numbers) row number h one = (h.0, given_more rows values numbers row number h.1 one)

-- the next option has its number, too
pub given_next : (rows : List CodeRow) (i : ℕ) (d : CodeRow) (value : Text → Option Text) (numbers : List (Option ℕ)) (text : Option Text) (number : Option ℕ) → i < length rows
    → text ≡ value (option_row (get_or rows i d)).name → AreGiven (option_rows (take i rows)) (λ name. value_list (value name)) numbers
    → Gives (option_row (get_or rows i d)) (value_list text) number → AreGiven (option_rows (take (i + 1) rows)) (λ name. value_list (value name)) (numbers ++ number ∷ [])
given_next rows i d value numbers text number lt is h one =
    let values : Text → List Text = λ name. value_list (value name) in
    let own = subst (λ (t : Option Text). Gives (option_row (get_or rows i d)) (value_list t) number) is one in
    subst (λ (rs : List OptionRow). AreGiven rs values (numbers ++ number ∷ [])) (sym (more_rows rows i d lt)) (given_more (option_rows (take i rows)) values numbers (option_row (get_or rows i d)) number h own)

given_at : (rows : List CodeRow) (i : ℕ) (d : CodeRow) (values : Text → List Text) (numbers : List (Option ℕ)) → i < length rows → AreGiven (option_rows rows) values numbers
    → (number : Option ℕ) × Gives (option_row (get_or rows i d)) (values (option_row (get_or rows i d)).name) number
given_at [] i d values numbers lt h = absurd (omega arith)
given_at (row ∷ rows) i d values [] lt h = absurd h
given_at (row ∷ rows) zero d values (n ∷ numbers) lt h = (n, h.0)
given_at (row ∷ rows) (suc i) d values (n ∷ numbers) lt h = given_at rows i d values numbers (omega arith) h.1

-- where one has no number, there are none for all
pub none_at : (rows : List CodeRow) (i : ℕ) (d : CodeRow) (value : Text → Option Text) (text : Option Text) → i < length rows → text ≡ value (option_row (get_or rows i d)).name
    → ((number : Option ℕ) → Gives (option_row (get_or rows i d)) (value_list text) number → ⊥) → (numbers : List (Option ℕ))
    → AreGiven (option_rows rows) (λ name. value_list (value name)) numbers → ⊥
none_at rows i d value text lt is none numbers h =
    let one = given_at rows i d (λ name. value_list (value name)) numbers lt h in
    none one.0 (subst (λ (t : Option Text). Gives (option_row (get_or rows i d)) (value_list t) one.0) (sym is) one.1)
