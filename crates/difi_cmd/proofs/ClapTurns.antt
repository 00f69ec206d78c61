-- What `clap` makes of one word.
use Rattle.std.proofs.Common.{◌≡◌, ◌≢◌, ◌<◌, ◌==◌, ◌&&◌, ◌++◌, ◌∙◌, ℕ, Bool, true, false, zero, suc, List, [], ◌∷◌, length, Option, Some, None, map, codes, refl, sym, ap, ap₂, subst, inl, inr, ◌⊎◌, arith, All, Contains}
use Rattle.std.specs.Str.{bytes_eq}
use Rattle.std.proofs.lemmas.List.{append_assoc}
use Rattle.std.proofs.lemmas.List.Elements.{All-contains}
use Rattle.std.proofs.lemmas.Slice.Eq.{bytes_eq-Decides}
use Rattle.clap.specs.Words.{Row}
use Rattle.clap.specs.Kinds.{or_else}
use Rattle.clap.specs.Lexer.{long_of, name_and_value, short_of}
use Rattle.clap.proofs.CutLemmas.{Lacks}
use Rattle.clap.proofs.LexerLemmas.{name_and_value-at, name_and_value-without}
use Rattle.std.proofs.lemmas.Bool.Decides.{nat_tests}
use Rattle.clap.specs.Faults.{react_fault, settle_fault, turn_fault}
use Rattle.clap.specs.Walk.{Held, Waiting, Walk, arg_by_index, arg_by_long, idle, is_pending, option, positional, reacted, settled, walk_from, walked}
use Rattle.difi_cmd.specs.LineOfWords.{BeginsWithHyphen, IsOption, Text, is_stray}
use Rattle.difi_cmd.proofs.ClapOptions.{built_rule, built_shape, known_alone, known_id, known_long, same_text}

-- ---- the words of an option

abbrev pub IsName : Text → Type 0
IsName name = (0 < length name) × Lacks 61 name

-- an option's name is one where no name of the list has an `=`
pub name_of_option : (names : List Text) (name : Text) → All (Lacks 61) names → IsOption names name → IsName name
name_of_option names name good has = (has.1, All-contains (Lacks 61) names name good has.0)

abbrev pub dashes : Text
dashes = 45 ∷ 45 ∷ []

pub long_joined : (name value : Text) → IsName name → long_of (codes "--" ++ name ++ codes "=" ++ value) ≡ Some (name, Some value)
long_joined [] value h = absurd (omega arith)
long_joined (x ∷ xs) value h = ap (λ (t : Text). long_of (45 ∷ 45 ∷ t)) (append_assoc (x ∷ xs) (61 ∷ []) value) ∙ ap (λ (p : Text × Option Text). Some p) (name_and_value-at (x ∷ xs) value h.1)

pub long_apart : (name : Text) → IsName name → long_of (codes "--" ++ name) ≡ Some (name, None)
long_apart [] h = absurd (omega arith)
long_apart (x ∷ xs) h = ap (λ (p : Text × Option Text). Some p) (name_and_value-without (x ∷ xs) h.1)

pub Lacks-cons : (c x : ℕ) (xs : List ℕ) → x ≢ c → Lacks c xs → Lacks c (x ∷ xs)
Lacks-cons c x xs h rest zero lt = h
Lacks-cons c x xs h rest (suc i) lt = rest i (omega arith)

-- a text, cut at its first `=`
pub record Cut (text : Text) : Type 0 where
  pub name : Text
  pub value : Text
  pub parts : text ≡ name ++ 61 ∷ value
  pub lacks : Lacks 61 name

pub cut : (text : Text) → Cut text ⊎ Lacks 61 text
cut [] = inr (λ i lt. absurd (omega arith))
cut (x ∷ xs) = go (x == 61) refl (cut xs)
  where
    go : (t : Bool) → (x == 61) ≡ t → Cut xs ⊎ Lacks 61 xs → Cut (x ∷ xs) ⊎ Lacks 61 (x ∷ xs)
    go true e h = inl (record { name = []; value = xs; parts = ap (λ (n : ℕ). n ∷ xs) (grind (arith, nat_tests)); lacks = λ i lt. absurd (omega arith) })
    go false e (inl h) = let ne : x ≢ 61 = grind (arith, nat_tests) in
        inl (record { name = x ∷ h.name; value = h.value; parts = ap (λ (t : Text). x ∷ t) h.parts; lacks = Lacks-cons 61 x h.name ne h.lacks })
    go false e (inr h) = let ne : x ≢ 61 = grind (arith, nat_tests) in inr (Lacks-cons 61 x xs ne h)

-- what a word that is not stray may be
pub record IsJoined (word : Text) : Type 0 where
  pub name : Text
  pub value : Text
  pub spelled : word ≡ codes "--" ++ name ++ codes "=" ++ value
  pub read : long_of word ≡ Some (name, Some value)

pub record IsOpened (word : Text) : Type 0 where
  pub name : Text
  pub spelled : word ≡ codes "--" ++ name
  pub read : long_of word ≡ Some (name, None)

pub record IsPlainWord (word : Text) : Type 0 where
  pub no_long : long_of word ≡ None
  pub no_short : short_of word ≡ None
  pub no_dashes : bytes_eq word dashes ≡ false
  pub no_hyphen : BeginsWithHyphen word → ⊥

pub data WordCase (word : Text) : Type 0 where
  is_joined : IsJoined word → WordCase word
  is_opened : IsOpened word → WordCase word
  is_plain : IsPlainWord word → WordCase word

pub without_hyphen : (first : ℕ) (rest : Text) → (first == 45) ≡ false → IsPlainWord (first ∷ rest)
without_hyphen first rest e = record {
  no_long = rw e refl;
  no_short = rw e refl;
  no_dashes = rw e refl;
  no_hyphen = λ h. let t : true ≡ false = rw h at e in cc;
}

pub plain_from : (word : Text) → (BeginsWithHyphen word → ⊥) → IsPlainWord word
plain_from [] h = record { no_long = refl; no_short = refl; no_dashes = refl; no_hyphen = h }
plain_from (first ∷ rest) h = let ne : first ≢ 45 = h in without_hyphen first rest (grind (arith, nat_tests))

pub with_name : (third : ℕ) (rest : Text) → WordCase (45 ∷ 45 ∷ third ∷ rest)
with_name third rest = go (cut (third ∷ rest))
  where
    go : Cut (third ∷ rest) ⊎ Lacks 61 (third ∷ rest) → WordCase (45 ∷ 45 ∷ third ∷ rest)
    go (inl h) = is_joined (record {
      name = h.name;
      value = h.value;
      spelled = ap (λ (t : Text). 45 ∷ 45 ∷ t) (h.parts ∙ sym (append_assoc h.name (61 ∷ []) h.value));
      read = ap (λ (p : Text × Option Text). Some p) (ap name_and_value h.parts ∙ name_and_value-at h.name h.value h.lacks);
    })
    go (inr h) = is_opened (record {
      name = third ∷ rest;
      spelled = refl;
      read = ap (λ (p : Text × Option Text). Some p) (name_and_value-without (third ∷ rest) h);
    })

pub word_case : (word : Text) → is_stray word ≡ false → WordCase word
word_case [] h = is_plain (record { no_long = refl; no_short = refl; no_dashes = refl; no_hyphen = λ h. h })
word_case (first ∷ []) h = is_plain (without_hyphen first [] h)
word_case (first ∷ second ∷ []) h = is_plain (without_hyphen first (second ∷ []) h)
word_case (first ∷ second ∷ third ∷ rest) h = go (first == 45) (second == 45) refl refl
  where
    go : (a b : Bool) → (first == 45) ≡ a → (second == 45) ≡ b → WordCase (first ∷ second ∷ third ∷ rest)
    go false b e f = is_plain (without_hyphen first (second ∷ third ∷ rest) e)
    go true false e f = let bad : true ≡ false = rw (e, f) at h in cc
    go true true e f =
        let one : first ≡ 45 = grind (arith, nat_tests) in
        let two : second ≡ 45 = grind (arith, nat_tests) in
        subst WordCase (ap₂ (λ (x y : ℕ). x ∷ y ∷ third ∷ rest) (sym one) (sym two)) (with_name third rest)

pub long_no_dashes : (word : Text) (p : Text × Option Text) → long_of word ≡ Some p → bytes_eq word dashes ≡ false
long_no_dashes word p h = go (bytes_eq word dashes) refl
  where
    go : (t : Bool) → bytes_eq word dashes ≡ t → bytes_eq word dashes ≡ false
    go true e = let same : word ≡ dashes = (bytes_eq-Decides word dashes).0 e in let bad : None ≡ Some p = ap long_of (sym same) ∙ h in cc
    go false e = e

-- ---- one word

-- where the walk stands with this place for a word that stands alone
abbrev pub walk_at : ℕ → Held → Walk
walk_at position h = record (walk_from h) { position = position }

pub joined_turn : (names : List Text) (place : ℕ) (h : Held) (word name value : Text) → long_of word ≡ Some (name, Some value) → IsOption names name
    → (walked (map built_rule names) [] (walk_at place h) word ≡ walk_at place (reacted (map built_rule names) (built_rule name) (value ∷ []) h))
    × (turn_fault (built_shape names) [] (walk_at place h) word ≡ or_else (react_fault (map built_rule names) false (built_rule name) (value ∷ []) h) [])
unfolding walked
joined_turn names place h word name value long has =
    let dash = long_no_dashes word (name, Some value) long in
    (rw (dash, long, known_long names name has.0 has.1) refl, rw (dash, long, known_long names name has.0 has.1) refl)

-- where an option waits for its value
abbrev pub waits_for : Text → ℕ → List Row → Walk
waits_for name place rows = record (walk_at place (record { rows = rows; pending = Some (name, []); skip = 0 })) { waiting = option name }

pub opened_turn : (names : List Text) (place : ℕ) (h : Held) (word name : Text) → h.skip ≡ 0 → long_of word ≡ Some (name, None) → IsOption names name
    → (walked (map built_rule names) [] (walk_at place h) word ≡ record (walk_at place (record (settled (map built_rule names) h) { pending = Some (name, []) })) { waiting = option name })
    × (turn_fault (built_shape names) [] (walk_at place h) word ≡ or_else (settle_fault (map built_rule names) false h) [])
unfolding walked
opened_turn names place h word name skip long has =
    let dash = long_no_dashes word (name, None) long in
    (rw (dash, long, known_long names name has.0 has.1) refl, rw (dash, long, known_long names name has.0 has.1) refl)

pub unknown_turn : (names : List Text) (place : ℕ) (h : Held) (waiting : Waiting) (word name : Text) (value : Option Text) → long_of word ≡ Some (name, value)
    → arg_by_long (map built_rule names) name ≡ None → turn_fault (built_shape names) [] (record (walk_at place h) { waiting = waiting }) word ≡ [] → ⊥
unknown_turn names place h idle word name value long none e = let bad = rw (long_no_dashes word (name, value) long, long, none) at e in cc
unknown_turn names place h (option id) word name value long none e = let bad = rw (long_no_dashes word (name, value) long, long, none) at e in cc
unknown_turn names place h positional word name value long none e = let bad = rw (long_no_dashes word (name, value) long, long, none) at e in cc

-- a word that nothing takes
pub plain_turn : (names : List Text) (place : ℕ) (h : Held) (word : Text) → IsPlainWord word → arg_by_index (map built_rule names) place ≡ None
    → turn_fault (built_shape names) [] (walk_at place h) word ≡ [] → ⊥
plain_turn names place h word plain none e = let bad = rw (plain.no_dashes, plain.no_long, plain.no_short, none) at e in cc

never : (b : Bool) → (b && false) ≡ false
never true = refl
never false = refl

-- a word that stands alone, the first of them
pub alone_turn : (names : List Text) (h : Held) (word : Text) → IsPlainWord word → Contains names []
    → (walked (map built_rule names) [] (walk_at 1 h) word ≡ walk_at 2 (record (settled (map built_rule names) h) { pending = Some ([], word ∷ []) }))
    × (turn_fault (built_shape names) [] (walk_at 1 h) word ≡ settle_fault (map built_rule names) false h)
unfolding walked
alone_turn names h word plain has =
    let none = never (is_pending (built_rule []) h.pending) in
    (rw (plain.no_dashes, plain.no_long, plain.no_short, known_alone names has, none) refl, rw (plain.no_dashes, plain.no_long, plain.no_short, known_alone names has, none) refl)

pub value_turn : (names : List Text) (name word : Text) (place : ℕ) (rows : List Row) → Contains names name → IsPlainWord word
    → (walked (map built_rule names) [] (waits_for name place rows) word ≡ walk_at place (record { rows = rows; pending = Some (name, word ∷ []); skip = 0 }))
    × (turn_fault (built_shape names) [] (waits_for name place rows) word ≡ [])
unfolding walked
value_turn names name word place rows has plain =
    (rw (plain.no_dashes, plain.no_long, plain.no_short, known_id names name has, same_text name) refl, rw (plain.no_dashes, plain.no_long, plain.no_short) refl)

-- an option that waits gets no value from another
pub no_value_turn : (names : List Text) (name word other : Text) (value : Option Text) (place : ℕ) (rows : List Row) → Contains names name → IsOption names other
    → long_of word ≡ Some (other, value) → turn_fault (built_shape names) [] (waits_for name place rows) word ≡ [] → ⊥
no_value_turn names name word other (Some value) place rows has known long e =
    let bad = rw (long_no_dashes word (other, Some value) long, long, known_long names other known.0 known.1, known_id names name has) at e in cc
no_value_turn names name word other None place rows has known long e =
    let bad = rw (long_no_dashes word (other, None) long, long, known_long names other known.0 known.1, known_id names name has) at e in cc
