-- A command of `clap` with options of one value each: where a parse fails, and what it gives.
use Rattle.std.proofs.Common.{◌≡◌, ◌&&◌, ◌∙◌, ℕ, Bool, true, false, not, List, [], ◌∷◌, drop, Option, None, map, fold, refl, sym, ap, subst, inl, inr, All}
use Rattle.std.specs.List.{list_all, list_any}
use Rattle.clap.specs.declared.error.Error.{Error}
use Rattle.clap.specs.declared.error.kind.ErrorKind.TheVariants.{OutOfMemory}
use Rattle.clap.specs.Words.{Row, Rule, fault_of, first_of, is_simple, is_simple_and_free, kind_of, matches_of}
use Rattle.clap.specs.Kinds.{HasKind, Kinds, or_else}
use Rattle.clap.specs.Simple.{Shape, built, filled_from}
use Rattle.clap.specs.Faults.{check_fault, default_fault, defaults_fault, level_fault, settle_fault, walk_fault}
use Rattle.clap.specs.Takes.{is_given}
use Rattle.clap.specs.Walk.{finished, has_row, is_early_multiple, nothing_held, settled, walk_from, walked, with_default}
use Rattle.clap.proofs.FaultLemmas.{leaf_fault}
use Rattle.clap.proofs.CutLemmas.{Lacks}
use Rattle.difi_cmd.specs.LineOfWords.{GiveValues, Text, has_no_name, is_one_alone, is_stray, value_list}
use Rattle.difi_cmd.specs.CommandOfOptions.{app, option_rule}
use Rattle.difi_cmd.proofs.ClapOptions.{built_rule, built_shape, held_for, none_first}
use Rattle.difi_cmd.proofs.ClapWalk.{Passes, complete, sound}
use Rattle.difi_cmd.proofs.ClapItems.{is_once, value_is}

-- ---- the command, as it is declared and as it is built

turned : (b : Bool) → not b ≡ true → b ≡ false
turned true h = cc
turned false h = refl

filled_named : (place : ℕ) (names : List Text) → list_any has_no_name names ≡ false → filled_from place (map option_rule names) ≡ map built_rule names
filled_named place [] h = refl
filled_named place ([] ∷ names) h = cc
filled_named place ((x ∷ xs) ∷ names) h = ap (λ (rules : List Rule). built_rule (x ∷ xs) ∷ rules) (filled_named place names h)

filled_is : (names : List Text) → is_one_alone names ≡ true → filled_from 1 (map option_rule names) ≡ map built_rule names
filled_is [] one = refl
filled_is ([] ∷ names) one = ap (λ (rules : List Rule). built_rule [] ∷ rules) (filled_named 2 names (turned _ one))
filled_is ((x ∷ xs) ∷ names) one = ap (λ (rules : List Rule). built_rule (x ∷ xs) ∷ rules) (filled_is names one)

built_top : (names : List Text) → is_one_alone names ≡ true → (built (app names)).top ≡ built_shape names
built_top names one = ap (λ (rules : List Rule). record (built_shape names) { rules = rules }) (filled_is names one)

declared_simple : (names : List Text) → list_all (λ a. a.is_simple) (map option_rule names) ≡ true
declared_simple [] = refl
declared_simple (name ∷ names) = declared_simple names

built_simple : (names : List Text) → list_all (λ a. a.is_simple) (map built_rule names) ≡ true
built_simple [] = refl
built_simple (name ∷ names) = built_simple names

built_free : (names : List Text) → list_all (λ a. a.is_free) (map built_rule names) ≡ true
built_free [] = refl
built_free (name ∷ names) = built_free names

no_early : (n : ℕ) (names : List Text) → list_any (is_early_multiple n) (map built_rule names) ≡ false
no_early n [] = refl
no_early n ([] ∷ names) = no_early n names
no_early n ((x ∷ xs) ∷ names) = no_early n names

pub is_simple_app : (names : List Text) → is_one_alone names ≡ true → is_simple (app names) ≡ true
is_simple_app names one = rw (declared_simple names, filled_is names one, built_simple names, no_early _ names) refl

pub is_free_app : (names : List Text) → is_one_alone names ≡ true → is_simple_and_free (app names) ≡ true
is_free_app names one = rw (is_simple_app names one, filled_is names one, built_free names) refl

-- ---- its faults

level_is : (names words : List Text) → is_one_alone names ≡ true → fault_of (app names) words ≡ level_fault (built_shape names) [] (held_for [] None) (drop 1 words) false []
level_is names words one = leaf_fault (built (app names)) nothing_held (drop 1 words) refl
    ∙ ap (λ (s : Shape). level_fault s [] (held_for [] None) (drop 1 words) false []) (built_top names one)

no_default : (rows : List Row) (name : Text) → default_fault rows (built_rule name) ≡ []
no_default rows name = go (has_row name rows) refl
  where
    go : (t : Bool) → has_row name rows ≡ t → default_fault rows (built_rule name) ≡ []
    go true e = rw e refl
    go false e = rw e refl

no_defaults : (rows : List Row) (names : List Text) → defaults_fault rows (map built_rule names) ≡ []
unfolding defaults_fault
no_defaults rows [] = refl
no_defaults rows (name ∷ names) = rw (no_default rows name) (no_defaults (with_default rows (built_rule name)) names)

none_required : (rows : List Row) (names : List Text) → list_any (λ a. a.required && not (is_given a.id rows)) (map built_rule names) ≡ false
none_required rows [] = refl
none_required rows (name ∷ names) = none_required rows names

-- the rest of a parse finds no fault
no_fault_behind : (rows more : List Row) (names : List Text) → or_else (defaults_fault rows (map built_rule names)) (check_fault (built_shape names) more false) ≡ []
no_fault_behind rows more names = rw (no_defaults rows names, none_required more names) refl

passes_from : (names words : List Text) → is_one_alone names ≡ true → fault_of (app names) words ≡ [] → Passes names (walk_from (held_for [] None)) (drop 1 words)
passes_from names words one h =
    let two = none_first _ _ (sym (level_is names words one) ∙ h) in
    record { on_the_way = two.0; at_the_end = (none_first _ _ two.1).0 }

both_empty : (a b : Kinds) → a ≡ [] → b ≡ [] → or_else a b ≡ []
both_empty a b e f = ap (λ (k : Kinds). or_else k b) e ∙ f

faultless : (names words : List Text) → is_one_alone names ≡ true → Passes names (walk_from (held_for [] None)) (drop 1 words) → fault_of (app names) words ≡ []
faultless names words one p =
    let end = (fold (walked (map built_rule names) []) (walk_from (held_for [] None)) (drop 1 words)).held in
    level_is names words one ∙ both_empty (walk_fault (built_shape names) [] (walk_from (held_for [] None)) (drop 1 words)) _ p.on_the_way
    (both_empty (settle_fault (map built_rule names) false end) _ p.at_the_end
    (no_fault_behind (settled (map built_rule names) end).rows (finished (map built_rule names) end) names))

-- without a fault, a parse fails for want of memory alone
pub only_memory : (kinds : Kinds) (error : Error) → kinds ≡ [] → HasKind kinds error → kind_of error ≡ OutOfMemory
only_memory [] error none (inl memory) = memory
only_memory [] error none (inr among) = elim among [ ]
only_memory (k ∷ kinds) error none h = cc

-- ---- its matches

kept : (rows : List Row) (name : Text) → with_default rows (built_rule name) ≡ rows
kept rows name = go (has_row name rows) refl
  where
    go : (t : Bool) → has_row name rows ≡ t → with_default rows (built_rule name) ≡ rows
    go true e = rw e refl
    go false e = rw e refl

all_kept : (rows : List Row) (names : List Text) → fold with_default rows (map built_rule names) ≡ rows
all_kept rows [] = refl
all_kept rows (name ∷ names) = ap (λ (rs : List Row). fold with_default rs (map built_rule names)) (kept rows name) ∙ all_kept rows names

rows_are : (names words : List Text) → is_one_alone names ≡ true → matches_of (app names) words ≡ (settled (map built_rule names) (fold (walked (map built_rule names) []) (walk_from (held_for [] None)) (drop 1 words)).held).rows
rows_are names words one =
    ap (λ (rules : List Rule). finished rules (fold (walked rules []) (walk_from (held_for [] None)) (drop 1 words)).held) (filled_is names one)
    ∙ all_kept (settled (map built_rule names) (fold (walked (map built_rule names) []) (walk_from (held_for [] None)) (drop 1 words)).held).rows names

-- where no word is stray, a parse without faults gives the options their values
pub gives : (names words : List Text) → is_one_alone names ≡ true → list_any is_stray (drop 1 words) ≡ false → fault_of (app names) words ≡ []
    → GiveValues names (drop 1 words) (λ name. first_of name (matches_of (app names) words))
gives names words one plain h =
    let r = sound names [] None (drop 1 words) tt tt plain (passes_from names words one h) in
    record {
      items = r.items;
      are_items = record { spelled = r.spelled; known = r.known };
      values = λ name has. value_is name r.items r.once ∙ ap (λ (rows : List Row). value_list (first_of name rows)) (sym (rows_are names words one ∙ r.rows));
    }

-- and where the words give the options values, a parse has no fault
pub no_fault : (names words : List Text) (value : Text → Option Text) → is_one_alone names ≡ true → All (Lacks 61) names → GiveValues names (drop 1 words) value → fault_of (app names) words ≡ []
no_fault names words value one good g =
    let passes = complete names good [] None g.items tt g.are_items.known (is_once names g.items value g.are_items.known g.values) in
    faultless names words one (subst (λ (ws : List Text). Passes names (walk_from (held_for [] None)) ws) (sym g.are_items.spelled) passes)
