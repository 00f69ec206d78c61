-- The values that items give options, by the rows of their uses.
use Rattle.std.proofs.Common.{◌≡◌, ◌≤◌, ◌||◌, ◌++◌, ◌∙◌, Bool, true, false, List, [], ◌∷◌, length, Option, Some, None, map, refl, sym, ap, subst, arith, Contains, All}
use Rattle.std.specs.Str.{bytes_eq}
use Rattle.std.proofs.lemmas.List.{append-nil, append_assoc}
use Rattle.std.proofs.lemmas.List.Elements.{All-head, All-tail}
use Rattle.std.proofs.lemmas.Slice.Eq.{bytes_eq-Decides}
use Rattle.clap.specs.Words.{Row, first_of}
use Rattle.clap.specs.Walk.{has_row}
use Rattle.difi_cmd.specs.LineOfWords.{Item, IsItem, Text, alone, apart, joined, option_of, value_list, value_of, values_of}
use Rattle.difi_cmd.proofs.ClapOptions.{Once, after, row_behind, row_for, rows_for, same_text}
use Rattle.difi_cmd.proofs.ClapWalk.{once_before}

-- the rows stand in the order of the items
pub rows_in_order : (items before : List Item) → rows_for (after items before) ≡ rows_for before ++ map row_for items
rows_in_order [] before = sym (append-nil (rows_for before))
rows_in_order (item ∷ items) before = rows_in_order items (item ∷ before) ∙ append_assoc (rows_for before) (row_for item ∷ []) (map row_for items)

or_true : (a b : Bool) → b ≡ true → (a || b) ≡ true
or_true true b h = refl
or_true false b h = h

or_false : (a b : Bool) → b ≡ false → (a || b) ≡ true → a ≡ true
or_false true b absent h = refl
or_false false b absent h = let bad : false ≡ true = sym absent ∙ h in cc

has_before : (name : Text) (item : Item) (before : List Item) → has_row name (rows_for before) ≡ true → has_row name (rows_for (item ∷ before)) ≡ true
has_before name item before h = row_behind name before item ∙ ap (λ (b : Bool). b || has_row name (row_for item ∷ [])) h

-- an option that stood before stands no more
none_left : (name : Text) (items before : List Item) → Once (after items before) → has_row name (rows_for before) ≡ true → values_of name items ≡ []
none_left name [] before once h = refl
none_left name (item ∷ items) before once h = go (bytes_eq (option_of item) name) refl (none_left name items (item ∷ before) once (has_before name item before h))
  where
    go : (t : Bool) → bytes_eq (option_of item) name ≡ t → values_of name items ≡ [] → values_of name (item ∷ items) ≡ []
    go true e rest =
        let same : option_of item ≡ name = (bytes_eq-Decides (option_of item) name).0 e in
        let absent : has_row name (rows_for before) ≡ false = subst (λ (n : Text). has_row n (rows_for before) ≡ false) same (once_before items (item ∷ before) once).0 in
        let bad : true ≡ false = sym h ∙ absent in
        cc
    go false e rest = rw e rest

first_value : (name : Text) (items before : List Item) → Once (after items before) → values_of name items ≡ value_list (first_of name (map row_for items))
first_value name [] before once = refl
first_value name (item ∷ items) before once =
    go (bytes_eq (option_of item) name) refl (first_value name items (item ∷ before) once) (λ h. none_left name items (item ∷ before) once h)
  where
    go : (t : Bool) → bytes_eq (option_of item) name ≡ t → values_of name items ≡ value_list (first_of name (map row_for items))
        → (has_row name (rows_for (item ∷ before)) ≡ true → values_of name items ≡ [])
        → values_of name (item ∷ items) ≡ value_list (first_of name (map row_for (item ∷ items)))
    go true e rest none =
        let here : has_row name (row_for item ∷ []) ≡ true = rw e refl in
        let stands : has_row name (rows_for (item ∷ before)) ≡ true = row_behind name before item ∙ or_true (has_row name (rows_for before)) _ here in
        rw e (ap (λ (vs : List Text). value_of item ∷ vs) (none stands))
    go false e rest none = rw e rest

-- where no option stands twice, the first value of an option is its value
pub value_is : (name : Text) (items : List Item) → Once (after items []) → values_of name items ≡ value_list (first_of name (rows_for (after items [])))
value_is name items once = first_value name items [] once ∙ ap (λ (rows : List Row). value_list (first_of name rows)) (sym (rows_in_order items []))

known_option : (names : List Text) (item : Item) → IsItem names item → Contains names (option_of item)
known_option names (joined name value) h = h.0
known_option names (apart name value) h = h.0.0
known_option names (alone value) h = h.0

no_more : (value : Text) (values : List Text) → length (value ∷ values) ≤ 1 → values ≡ []
no_more value [] h = refl
no_more value (other ∷ values) h = absurd (omega arith)

fewer : (name : Text) (item : Item) (items : List Item) → length (values_of name (item ∷ items)) ≤ 1 → length (values_of name items) ≤ 1
fewer name item items h = go (bytes_eq (option_of item) name) refl
  where
    go : (t : Bool) → bytes_eq (option_of item) name ≡ t → length (values_of name items) ≤ 1
    go true e = let k : length (value_of item ∷ values_of name items) ≤ 1 = rw e at h in omega arith
    go false e = rw e at h

-- no option stands twice where each has one value at most
once_items : (names : List Text) (items before : List Item) → All (IsItem names) items
    → ((name : Text) → Contains names name → length (values_of name items) ≤ 1)
    → ((name : Text) → Contains names name → has_row name (rows_for before) ≡ true → values_of name items ≡ [])
    → Once before → Once (after items before)
once_items names [] before known few gone once = once
once_items names (item ∷ items) before known few gone once =
    once_items names items (item ∷ before) (All-tail (IsItem names) item items known) (λ name has. fewer name item items (few name has)) later
    (here (has_row (option_of item) (rows_for before)) refl, once)
  where
    has : Contains names (option_of item)
    has = known_option names item (All-head (IsItem names) item items known)

    here : (t : Bool) → has_row (option_of item) (rows_for before) ≡ t → has_row (option_of item) (rows_for before) ≡ false
    here true e = let none = rw (same_text (option_of item)) at (gone (option_of item) has e) in cc
    here false e = e

    later : (name : Text) → Contains names name → has_row name (rows_for (item ∷ before)) ≡ true → values_of name items ≡ []
    later name among stands = split (bytes_eq (option_of item) name) refl
      where
        split : (t : Bool) → bytes_eq (option_of item) name ≡ t → values_of name items ≡ []
        split true e = no_more (value_of item) (values_of name items) (rw e at (few name among))
        split false e =
            let absent : has_row name (row_for item ∷ []) ≡ false = rw e refl in
            let earlier = or_false (has_row name (rows_for before)) _ absent (sym (row_behind name before item) ∙ stands) in
            rw e at (gone name among earlier)

short_list : (value : Option Text) → length (value_list value) ≤ 1
short_list None = omega arith
short_list (Some value) = omega arith

pub is_once : (names : List Text) (items : List Item) (value : Text → Option Text) → All (IsItem names) items
    → ((name : Text) → Contains names name → values_of name items ≡ value_list (value name)) → Once (after items [])
is_once names items value known values = once_items names items [] known
    (λ name has. subst (λ (vs : List Text). length vs ≤ 1) (sym (values name has)) (short_list (value name)))
    (λ name has none. let bad : false ≡ true = none in cc) tt
