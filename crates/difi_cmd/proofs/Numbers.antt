-- The numbers that words give options: they are those of the values that `clap` finds, and words give one list of them.
use Rattle.std.proofs.Common.{◌≡◌, ◌≤◌, ◌&&◌, ◌==◌, ◌∙◌, ℕ, ap₂, Bool, true, false, not, nat_le, zero, suc, List, [], ◌∷◌, length, Option, Some, None, refl, sym, ap, subst, arith, Contains, All}
use Rattle.std.specs.List.{list_all, list_any}
use Rattle.std.proofs.lemmas.Bool.Decides.{nat_tests}
use Rattle.std.proofs.lemmas.List.Elements.{All-cons, All-nil}
use Rattle.clap.proofs.CutLemmas.{Lacks}
use Rattle.difi_cmd.specs.declared.options.LeftOut.{LeftOut}
use Rattle.difi_cmd.specs.declared.options.LeftOut.TheVariants.{Default, Refused, NoNumber}
use Rattle.difi_cmd.specs.LineOfWords.{AreGiven, AreWithin, GiveNumbers, GiveValues, Gives, IsLeftOut, IsWithin, OptionRow, Text}
use Rattle.difi_cmd.specs.LineOfWords.{has_default_within, are_rows, is_one_alone, is_option_name, is_row, is_stray, names_of, value_list, values_of}
use Rattle.difi_cmd.proofs.ClapOptions.{neither_second}
use Rattle.difi_cmd.proofs.ClapSpelling.{none_stray, one_spelling}

-- ---- rows

both : (a b : Bool) → (a && b) ≡ true → (a ≡ true) × (b ≡ true)
both true b h = (refl, h)
both false b h = cc

turned : (b : Bool) → not b ≡ true → b ≡ false
turned true h = cc
turned false h = refl

Lacks-from : (xs : Text) → list_any (λ x. x == 61) xs ≡ false → Lacks 61 xs
Lacks-from [] h i lt = absurd (omega arith)
Lacks-from (x ∷ xs) h zero lt = λ e. let t : true ≡ false = rw e at h in cc
Lacks-from (x ∷ xs) h (suc i) lt = Lacks-from xs (neither_second (x == 61) _ h) i (omega arith)

each_lacks : (rows : List OptionRow) → list_all is_row rows ≡ true → All (Lacks 61) (names_of rows)
each_lacks [] h = All-nil (Lacks 61)
each_lacks (row ∷ rows) h =
    let two = both (is_row row) (list_all is_row rows) h in
    All-cons (Lacks 61) row.name (names_of rows) (Lacks-from row.name (turned _ (both (is_option_name row.name) _ two.0).0)) (each_lacks rows two.1)

pub names_from : (rows : List OptionRow) → are_rows rows ≡ true → All (Lacks 61) (names_of rows)
names_from rows good = each_lacks rows (both (list_all is_row rows) _ good).0

pub one_from : (rows : List OptionRow) → are_rows rows ≡ true → is_one_alone (names_of rows) ≡ true
one_from rows good = (both (list_all is_row rows) _ good).1

-- ---- numbers and values

behind : (first name : Text) (names : List Text) → Contains names name → Contains (first ∷ names) name
behind first name names (k, lt, is) = (suc k, omega arith, is)

-- numbers depend on the values of their options alone
pub same_values : (rows : List OptionRow) (values others : Text → List Text) (numbers : List (Option ℕ)) → ((name : Text) → Contains (names_of rows) name → values name ≡ others name)
    → AreGiven rows values numbers → AreGiven rows others numbers
same_values [] values others [] same h = tt
same_values [] values others (n ∷ numbers) same h = absurd h
same_values (row ∷ rows) values others [] same h = absurd h
same_values (row ∷ rows) values others (n ∷ numbers) same h = (
  subst (λ (vs : List Text). Gives row vs n) (same row.name (zero, omega arith, refl)) h.0,
  same_values rows values others numbers (λ name has. same name (behind row.name name (names_of rows) has)) h.1,
)

pub short_values : (row : OptionRow) (values : List Text) (number : Option ℕ) → Gives row values number → length values ≤ 1
short_values row [] number h = omega arith
short_values row (value ∷ []) number h = omega arith
short_values row (value ∷ other ∷ values) number h = absurd h

one_each : (rows : List OptionRow) (values : Text → List Text) (numbers : List (Option ℕ)) → AreGiven rows values numbers
    → (name : Text) → Contains (names_of rows) name → length (values name) ≤ 1
one_each [] values numbers h name (k, lt, is) = absurd (omega arith)
one_each (row ∷ rows) values [] h name has = absurd h
one_each (row ∷ rows) values (n ∷ numbers) h name (zero, lt, is) = subst (λ (t : Text). length (values t) ≤ 1) is (short_values row (values row.name) n h.0)
one_each (row ∷ rows) values (n ∷ numbers) h name (suc k, lt, is) = one_each rows values numbers h.1 name (k, omega arith, is)

abbrev pub first_in : List Text → Option Text
first_in [] = None
first_in (value ∷ values) = Some value

first_alone : (values : List Text) → length values ≤ 1 → values ≡ value_list (first_in values)
first_alone [] h = refl
first_alone (value ∷ []) h = refl
first_alone (value ∷ other ∷ values) h = absurd (omega arith)

-- the same values under another name
pub other_values : (names : List Text) (words : List Text) (value other : Text → Option Text) → ((name : Text) → value name ≡ other name) → GiveValues names words value
    → GiveValues names words other
other_values names words value other same g = record {
  items = g.items;
  are_items = g.are_items;
  values = λ name has. g.values name has ∙ ap value_list (same name);
}

-- words that give options numbers give each its value or none
pub value_of_each : (rows : List OptionRow) (words : List Text) (numbers : List (Option ℕ)) → (g : GiveNumbers rows words numbers)
    → GiveValues (names_of rows) words (λ name. first_in (values_of name g.items))
value_of_each rows words numbers g = record {
  items = g.items;
  are_items = g.are_items;
  values = λ name has. first_alone (values_of name g.items) (one_each rows (λ n. values_of n g.items) numbers g.given name has);
}

-- words that give options values give them the numbers of these
pub numbers_of_values : (rows : List OptionRow) (words : List Text) (value : Text → Option Text) (numbers : List (Option ℕ)) → GiveValues (names_of rows) words value
    → AreGiven rows (λ name. value_list (value name)) numbers → GiveNumbers rows words numbers
numbers_of_values rows words value numbers g h = record {
  items = g.items;
  are_items = g.are_items;
  given = same_values rows (λ name. value_list (value name)) (λ name. values_of name g.items) numbers (λ name has. sym (g.values name has)) h;
}

-- and no others
pub values_give : (rows : List OptionRow) (words : List Text) (value : Text → Option Text) (numbers : List (Option ℕ)) → are_rows rows ≡ true → GiveValues (names_of rows) words value
    → GiveNumbers rows words numbers → AreGiven rows (λ name. value_list (value name)) numbers
values_give rows words value numbers good g h =
    let items = one_spelling (names_of rows) (names_from rows good) h.items g.items h.are_items.known g.are_items.known (sym h.are_items.spelled ∙ g.are_items.spelled) in
    same_values rows (λ name. values_of name h.items) (λ name. value_list (value name)) numbers (λ name has. ap (values_of name) items ∙ g.values name has) h.given

pub no_stray : (rows : List OptionRow) (words : List Text) (numbers : List (Option ℕ)) → are_rows rows ≡ true → GiveNumbers rows words numbers → list_any is_stray words ≡ false
no_stray rows words numbers good g = ap (list_any is_stray) g.are_items.spelled ∙ none_stray (names_of rows) (names_from rows good) g.items g.are_items.known

-- ---- one list of numbers

one_left_out : (left_out : LeftOut) (m n : Option ℕ) → IsLeftOut left_out m → IsLeftOut left_out n → m ≡ n
one_left_out (Default default) m n h k = h ∙ sym k
one_left_out Refused m n h k = absurd h
one_left_out NoNumber m n h k = h ∙ sym k

one_number : (row : OptionRow) (values : List Text) (m n : Option ℕ) → Gives row values m → Gives row values n → m ≡ n
one_number row [] m n h k = one_left_out row.left_out m n h k
one_number row (value ∷ []) None n h k = absurd h
one_number row (value ∷ []) (Some m) None h k = absurd k
one_number row (value ∷ []) (Some m) (Some n) h k = ap (λ (x : ℕ). Some x) (h.is_number ∙ sym k.is_number)
one_number row (value ∷ other ∷ values) m n h k = absurd h

pub one_list : (rows : List OptionRow) (values : Text → List Text) (ms ns : List (Option ℕ)) → AreGiven rows values ms → AreGiven rows values ns → ms ≡ ns
one_list [] values [] [] h k = refl
one_list [] values [] (n ∷ ns) h k = absurd k
one_list [] values (m ∷ ms) ns h k = absurd h
one_list (row ∷ rows) values [] ns h k = absurd h
one_list (row ∷ rows) values (m ∷ ms) [] h k = absurd k
one_list (row ∷ rows) values (m ∷ ms) (n ∷ ns) h k = ap₂ (λ (x : Option ℕ) (xs : List (Option ℕ)). x ∷ xs) (one_number row (values row.name) m n h.0 k.0) (one_list rows values ms ns h.1 k.1)

-- words give options one list of numbers at most
pub one_numbers : (rows : List OptionRow) (words : List Text) (ms ns : List (Option ℕ)) → are_rows rows ≡ true → GiveNumbers rows words ms → GiveNumbers rows words ns → ms ≡ ns
one_numbers rows words ms ns good g h =
    let items = one_spelling (names_of rows) (names_from rows good) g.items h.items g.are_items.known h.are_items.known (sym g.are_items.spelled ∙ h.are_items.spelled) in
    let first = same_values rows (λ name. values_of name g.items) (λ name. values_of name h.items) ms (λ name has. ap (values_of name) items) g.given in
    one_list rows (λ name. values_of name h.items) ms ns first h.given

-- ---- ranges

default_within : (row : OptionRow) (left_out : LeftOut) (number : Option ℕ) → row.left_out ≡ left_out → has_default_within row.least row.greatest left_out ≡ true → IsLeftOut left_out number → IsWithin row number
default_within row (Default default) number is h k =
    let two = both (nat_le row.least default) (nat_le default row.greatest) h in
    let low : row.least ≤ default = grind (arith, nat_tests) in
    let high : default ≤ row.greatest = grind (arith, nat_tests) in
    subst (IsWithin row) (sym k) (low, high)
default_within row Refused number is h k = absurd k
default_within row NoNumber number is h k = subst (IsWithin row) (sym k) is

within_one : (row : OptionRow) (values : List Text) (number : Option ℕ) → is_row row ≡ true → Gives row values number → IsWithin row number
within_one row [] number good h = default_within row row.left_out number refl (both (is_option_name row.name) _ good).1 h
within_one row (value ∷ []) None good h = absurd h
within_one row (value ∷ []) (Some n) good h = (h.at_least, h.at_most)
within_one row (value ∷ other ∷ values) number good h = absurd h

each_within : (rows : List OptionRow) (values : Text → List Text) (numbers : List (Option ℕ)) → list_all is_row rows ≡ true → AreGiven rows values numbers → AreWithin rows numbers
each_within [] values [] good h = tt
each_within [] values (n ∷ numbers) good h = absurd h
each_within (row ∷ rows) values [] good h = absurd h
each_within (row ∷ rows) values (n ∷ numbers) good h =
    let two = both (is_row row) (list_all is_row rows) good in
    (within_one row (values row.name) n two.0 h.0, each_within rows values numbers two.1 h.1)

pub are_within : (rows : List OptionRow) (values : Text → List Text) (numbers : List (Option ℕ)) → are_rows rows ≡ true → AreGiven rows values numbers → AreWithin rows numbers
are_within rows values numbers good h = each_within rows values numbers (both (list_all is_row rows) _ good).0 h
