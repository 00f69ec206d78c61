-- The options of a command of `clap` with one value each: how they are found, and the rows of their uses.
use Rattle.std.proofs.Common.{◌≡◌, ◌||◌, ◌++◌, ◌<◌, ◌∙◌, ℕ, Bool, true, false, zero, suc, List, [], ◌∷◌, Option, Some, None, option_map, map, codes, length, refl, sym, ap, subst, inl, inr, ◌⊎◌, arith, Contains}
use Rattle.std.specs.Str.{bytes_eq}
use Rattle.std.proofs.lemmas.List.{append-nil}
use Rattle.std.proofs.lemmas.List.Folds.{list_any-append}
use Rattle.std.proofs.lemmas.Slice.Eq.{bytes_eq-Decides}
use Rattle.clap.specs.Words.{Row, Rule}
use Rattle.clap.specs.Kinds.{Kinds, or_else}
use Rattle.clap.specs.Simple.{Shape, new_shape}
use Rattle.clap.specs.Faults.{settle_fault, use_fault}
use Rattle.clap.specs.Walk.{Held, arg_by_id, arg_by_index, arg_by_long, at_row, has_row, reading_by, settled, used}
use Rattle.clap.specs.declared.builder.value_parser.ValueParser.TheVariants as vp
use Rattle.clap.specs.declared.parser.matches.ValueSource.TheVariants.{CommandLine}
use Rattle.difi_cmd.specs.LineOfWords.{IsOption, Item, Text, alone, apart, joined, option_of, value_of}
use Rattle.difi_cmd.specs.CommandOfOptions.{option_rule}

-- ---- the command

-- what stands alone has the first place
abbrev pub place_of : Text → Option ℕ
place_of [] = Some 1
place_of (first ∷ rest) = None

-- an option with one value, or a word that stands alone, as it is built
abbrev pub built_rule : Text → Rule
built_rule name = record (option_rule name) {
  index = place_of name;
  range = Some (record { start_inclusive = 1; end_inclusive = 1 });
  parser = Some vp.String;
}

abbrev pub built_shape : List Text → Shape
built_shape names = record (new_shape (codes "difi")) {
  rules = map built_rule names;
  disable_help_flag = true;
  disable_help_subcommand = true;
  is_built = true;
}

-- ---- finding an option

pub Contains-cases : (x y : Text) (ys : List Text) → Contains (y ∷ ys) x → (y ≡ x) ⊎ Contains ys x
Contains-cases x y ys (zero, lt, is) = inl is
Contains-cases x y ys (suc k, lt, is) = inr (k, omega arith, is)

pub same_text : (a : Text) → bytes_eq a a ≡ true
same_text a = (bytes_eq-Decides a a).1 refl

pub known_long : (names : List Text) (name : Text) → Contains names name → 0 < length name → arg_by_long (map built_rule names) name ≡ Some (built_rule name)
known_long [] name (k, lt, is) some = absurd (omega arith)
known_long ([] ∷ names) name has some = go (Contains-cases name [] names has) (λ h. known_long names name h some)
  where
    go : ([] ≡ name) ⊎ Contains names name → (Contains names name → arg_by_long (map built_rule names) name ≡ Some (built_rule name)) → arg_by_long (map built_rule names) name ≡ Some (built_rule name)
    go (inl same) rest = let e : length name ≡ 0 = ap length (sym same) in absurd (omega arith)
    go (inr later) rest = rest later
known_long ((x ∷ xs) ∷ names) name has some = go (bytes_eq (x ∷ xs) name) refl (Contains-cases name (x ∷ xs) names has) (λ h. known_long names name h some)
  where
    go : (t : Bool) → bytes_eq (x ∷ xs) name ≡ t → ((x ∷ xs) ≡ name) ⊎ Contains names name
        → (Contains names name → arg_by_long (map built_rule names) name ≡ Some (built_rule name)) → arg_by_long (map built_rule ((x ∷ xs) ∷ names)) name ≡ Some (built_rule name)
    go true e h rest = rw e (ap (λ (m : Text). Some (built_rule m)) ((bytes_eq-Decides (x ∷ xs) name).0 e))
    go false e (inl same) rest = let t : bytes_eq (x ∷ xs) name ≡ true = (bytes_eq-Decides (x ∷ xs) name).1 same in cc
    go false e (inr later) rest = rw e (rest later)

pub known_id : (names : List Text) (name : Text) → Contains names name → arg_by_id (map built_rule names) name ≡ Some (built_rule name)
known_id [] name (k, lt, is) = absurd (omega arith)
known_id (n ∷ names) name has = go (bytes_eq n name) refl (Contains-cases name n names has) (known_id names name)
  where
    go : (t : Bool) → bytes_eq n name ≡ t → (n ≡ name) ⊎ Contains names name
        → (Contains names name → arg_by_id (map built_rule names) name ≡ Some (built_rule name)) → arg_by_id (map built_rule (n ∷ names)) name ≡ Some (built_rule name)
    go true e h rest = rw e (ap (λ (m : Text). Some (built_rule m)) ((bytes_eq-Decides n name).0 e))
    go false e (inl same) rest = let t : bytes_eq n name ≡ true = (bytes_eq-Decides n name).1 same in cc
    go false e (inr later) rest = rw e (rest later)

behind_first : (first name : Text) (names : List Text) → IsOption names name → IsOption (first ∷ names) name
behind_first first name names ((k, lt, is), some) = ((suc k, omega arith, is), some)

pub found_long : (names : List Text) (name : Text) → (arg_by_long (map built_rule names) name ≡ None) ⊎ IsOption names name
found_long [] name = inl refl
found_long ([] ∷ names) name = go (found_long names name)
  where
    go : (arg_by_long (map built_rule names) name ≡ None) ⊎ IsOption names name → (arg_by_long (map built_rule ([] ∷ names)) name ≡ None) ⊎ IsOption ([] ∷ names) name
    go (inl none) = inl none
    go (inr later) = inr (behind_first [] name names later)
found_long ((x ∷ xs) ∷ names) name = go (bytes_eq (x ∷ xs) name) refl (found_long names name)
  where
    go : (t : Bool) → bytes_eq (x ∷ xs) name ≡ t → (arg_by_long (map built_rule names) name ≡ None) ⊎ IsOption names name
        → (arg_by_long (map built_rule ((x ∷ xs) ∷ names)) name ≡ None) ⊎ IsOption ((x ∷ xs) ∷ names) name
    go true e h = let same = (bytes_eq-Decides (x ∷ xs) name).0 e in inr ((0, omega arith, same), subst (λ (t : Text). 0 < length t) same (omega arith))
    go false e (inl none) = inl (rw e none)
    go false e (inr later) = inr (behind_first (x ∷ xs) name names later)

-- ---- finding the word that stands alone

pub known_alone : (names : List Text) → Contains names [] → arg_by_index (map built_rule names) 1 ≡ Some (built_rule [])
known_alone [] (k, lt, is) = absurd (omega arith)
known_alone ([] ∷ names) has = refl
known_alone ((x ∷ xs) ∷ names) has = go (Contains-cases [] (x ∷ xs) names has) (known_alone names)
  where
    go : ((x ∷ xs) ≡ []) ⊎ Contains names [] → (Contains names [] → arg_by_index (map built_rule names) 1 ≡ Some (built_rule [])) → arg_by_index (map built_rule names) 1 ≡ Some (built_rule [])
    go (inl same) rest = cc
    go (inr later) rest = rest later

pub found_alone : (names : List Text) → (arg_by_index (map built_rule names) 1 ≡ None) ⊎ Contains names []
found_alone [] = inl refl
found_alone ([] ∷ names) = inr (0, omega arith, refl)
found_alone ((x ∷ xs) ∷ names) = go (found_alone names)
  where
    go : (arg_by_index (map built_rule names) 1 ≡ None) ⊎ Contains names [] → (arg_by_index (map built_rule ((x ∷ xs) ∷ names)) 1 ≡ None) ⊎ Contains ((x ∷ xs) ∷ names) []
    go (inl none) = inl none
    go (inr (k, lt, is)) = inr (suc k, omega arith, is)

pub no_second : (names : List Text) → arg_by_index (map built_rule names) 2 ≡ None
no_second [] = refl
no_second ([] ∷ names) = no_second names
no_second ((x ∷ xs) ∷ names) = no_second names

-- ---- the rows of the items so far, the last of them first

abbrev pub row_for : Item → Row
row_for item = record {
  id = option_of item;
  values = value_of item ∷ [];
  count = None;
  source = Some CommandLine;
  reading = reading_by (built_rule (option_of item));
}

abbrev pub rows_for : List Item → List Row
rows_for [] = []
rows_for (item ∷ before) = rows_for before ++ row_for item ∷ []

-- no option stands twice among them
abbrev pub Once : List Item → Type 0
Once [] = Unit {0}
Once (item ∷ before) = (has_row (option_of item) (rows_for before) ≡ false) × Once before

pub absent : (name : Text) (change : Row → List Row) (missing rows : List Row) → has_row name rows ≡ false → at_row name change missing rows ≡ rows ++ missing
absent name change missing [] h = refl
absent name change missing (r ∷ rows) h = go (bytes_eq r.id name) refl (absent name change missing rows)
  where
    go : (t : Bool) → bytes_eq r.id name ≡ t → (has_row name rows ≡ false → at_row name change missing rows ≡ rows ++ missing) → at_row name change missing (r ∷ rows) ≡ (r ∷ rows) ++ missing
    go true e rest = let bad : true ≡ false = rw e at h in cc
    go false e rest = let later : has_row name rows ≡ false = rw e at h in rw e (ap (λ (rs : List Row). r ∷ rs) (rest later))

pub used_once : (item : Item) (before : List Item) → Once (item ∷ before)
    → used (built_rule (option_of item)) (value_of item ∷ []) (rows_for before) ≡ rows_for (item ∷ before)
used_once item before once = rw (absent (option_of item) _ [] (rows_for before) once.0, append-nil, absent (option_of item) _ _ (rows_for before) once.0) refl

pub neither_first : (a b : Bool) → (a || b) ≡ false → a ≡ false
neither_first true b h = h
neither_first false b h = refl

pub neither_second : (a b : Bool) → (a || b) ≡ false → b ≡ false
neither_second true b h = cc
neither_second false b h = h

pub none_first : (a b : Kinds) → or_else a b ≡ [] → (a ≡ []) × (b ≡ [])
none_first [] b h = (refl, h)
none_first (k ∷ a) b h = cc

-- one use of an option passes exactly where it was not used before
pub use_passes : (item : Item) (before : List Item) → Once before → use_fault false (built_rule (option_of item)) (value_of item ∷ []) (rows_for before) ≡ [] → Once (item ∷ before)
use_passes item before once h = go (has_row (option_of item) (rows_for before)) refl
  where
    go : (t : Bool) → has_row (option_of item) (rows_for before) ≡ t → Once (item ∷ before)
    go true e = let bad = rw e at h in cc
    go false e = (e, once)

pub once_passes : (item : Item) (before : List Item) → Once (item ∷ before) → use_fault false (built_rule (option_of item)) (value_of item ∷ []) (rows_for before) ≡ []
once_passes item before once = rw once.0 refl

-- ---- the place of the next word that stands alone

abbrev pub position_of : List Item → ℕ
position_of [] = 1
position_of (joined name value ∷ before) = position_of before
position_of (apart name value ∷ before) = position_of before
position_of (alone value ∷ before) = 2

pub position_cases : (items : List Item) → (position_of items ≡ 1) ⊎ (position_of items ≡ 2)
position_cases [] = inl refl
position_cases (joined name value ∷ before) = position_cases before
position_cases (apart name value ∷ before) = position_cases before
position_cases (alone value ∷ before) = inr refl

pub row_behind : (name : Text) (before : List Item) (item : Item) → has_row name (rows_for (item ∷ before)) ≡ (has_row name (rows_for before) || has_row name (row_for item ∷ []))
row_behind name before item = list_any-append (λ (r : Row). bytes_eq r.id name) (rows_for before) (row_for item ∷ [])

-- it is the first where none stands before
pub position_first : (items : List Item) → has_row [] (rows_for items) ≡ false → position_of items ≡ 1
position_first [] h = refl
position_first (joined name value ∷ before) h = position_first before (neither_first _ _ (sym (row_behind [] before (joined name value)) ∙ h))
position_first (apart name value ∷ before) h = position_first before (neither_first _ _ (sym (row_behind [] before (apart name value)) ∙ h))
position_first (alone value ∷ before) h = let bad : true ≡ false = neither_second (has_row [] (rows_for before)) true (sym (row_behind [] before (alone value)) ∙ h) in cc

-- ---- where the walk stands

-- an option that waits for its use at the next option or at the end
abbrev pub held_for : List Item → Option Item → Held
held_for before last = record {
  rows = rows_for before;
  pending = option_map (λ item. (option_of item, value_of item ∷ [])) last;
  skip = 0;
}

abbrev pub given : List Item → Option Item → List Item
given before None = before
given before (Some item) = item ∷ before

-- the items behind those before
abbrev pub after : List Item → List Item → List Item
after [] before = before
after (item ∷ items) before = after items (item ∷ before)

-- the option of the last is one of these
abbrev pub IsKnown : List Text → Option Item → Type 0
IsKnown names None = Unit {0}
IsKnown names (Some item) = Contains names (option_of item)

pub settles : (names : List Text) (before : List Item) (last : Option Item) → IsKnown names last → Once before
    → settle_fault (map built_rule names) false (held_for before last) ≡ [] → Once (given before last)
settles names before None known once h = once
settles names before (Some item) known once h = use_passes item before once (rw (known_id names (option_of item) known) at h)

pub settled_passes : (names : List Text) (before : List Item) (last : Option Item) → IsKnown names last → Once (given before last)
    → settle_fault (map built_rule names) false (held_for before last) ≡ []
settled_passes names before None known once = refl
settled_passes names before (Some item) known once = rw (known_id names (option_of item) known) (once_passes item before once)

pub settled_rows_are : (names : List Text) (before : List Item) (last : Option Item) → IsKnown names last → Once (given before last)
    → (settled (map built_rule names) (held_for before last)).rows ≡ rows_for (given before last)
settled_rows_are names before None known once = refl
settled_rows_are names before (Some item) known once = rw (known_id names (option_of item) known) (used_once item before once)
