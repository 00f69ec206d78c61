-- What `clap` makes of all words: they pass exactly where they are items.
use Rattle.std.proofs.Common.{◌≡◌, ◌++◌, ◌∙◌, ◌⊎◌, ℕ, false, List, [], ◌∷◌, Option, Some, None, map, fold, codes, refl, sym, ap, ap₂, subst, inl, inr, Contains, All}
use Rattle.std.specs.List.{list_any, flat_map}
use Rattle.std.proofs.lemmas.List.Elements.{All-head, All-tail, All-nil, All-cons}
use Rattle.clap.specs.Words.{Row}
use Rattle.clap.proofs.CutLemmas.{Lacks}
use Rattle.clap.specs.Kinds.{Kinds, or_else}
use Rattle.clap.specs.Lexer.{long_of}
use Rattle.clap.specs.Faults.{settle_fault, turn_fault, use_fault, walk_fault}
use Rattle.clap.specs.Walk.{Walk, arg_by_index, idle, option, settled, used, walked}
use Rattle.difi_cmd.specs.LineOfWords.{BeginsWithHyphen, IsItem, IsOption, Item, Text, alone, apart, is_stray, joined, option_of, words_of_item}
use Rattle.difi_cmd.proofs.ClapOptions.{IsKnown, Once, after, built_rule, built_shape, found_alone, found_long, given, held_for, known_id, neither_first, neither_second, no_second, none_first, once_passes, position_cases, position_first, position_of, rows_for, settled_passes, settled_rows_are, settles, use_passes, used_once}
use Rattle.difi_cmd.proofs.ClapTurns.{IsJoined, IsName, IsOpened, IsPlainWord, WordCase, alone_turn, is_joined, is_opened, is_plain, joined_turn, long_apart, long_joined, name_of_option, no_value_turn, opened_turn, plain_from, plain_turn, unknown_turn, value_turn, waits_for, walk_at, word_case}

-- ---- all words

-- no fault comes on the way over the words, or at their end
pub record Passes (names : List Text) (w : Walk) (words : List Text) : Type 0 where
  pub on_the_way : walk_fault (built_shape names) [] w words ≡ []
  pub at_the_end : settle_fault (map built_rule names) false (fold (walked (map built_rule names) []) w words).held ≡ []

pub past_first : (names : List Text) (w : Walk) (word : Text) (words : List Text) → Passes names w (word ∷ words)
    → (turn_fault (built_shape names) [] w word ≡ []) × Passes names (walked (map built_rule names) [] w word) words
unfolding walk_fault
past_first names w word words p = let two = none_first _ _ p.on_the_way in (two.0, record { on_the_way = two.1; at_the_end = p.at_the_end })

pub with_first : (names : List Text) (w next : Walk) (word : Text) (words : List Text) → turn_fault (built_shape names) [] w word ≡ []
    → walked (map built_rule names) [] w word ≡ next → Passes names next words → Passes names w (word ∷ words)
unfolding walk_fault
with_first names w next word words turn is p =
    let q : Passes names (walked (map built_rule names) [] w word) words = subst (λ (v : Walk). Passes names v words) (sym is) p in
    record { on_the_way = ap (λ (k : Kinds). or_else k (walk_fault (built_shape names) [] (walked (map built_rule names) [] w word) words)) turn ∙ q.on_the_way; at_the_end = q.at_the_end }

-- the words are items with these rows
pub record Reads (names : List Text) (before : List Item) (w : Walk) (words : List Text) : Type 0 where
  pub items : List Item
  pub spelled : words ≡ flat_map words_of_item items
  pub known : All (IsItem names) items
  pub once : Once (after items before)
  pub rows : (settled (map built_rule names) (fold (walked (map built_rule names) []) w words).held).rows ≡ rows_for (after items before)

abbrev pub start : List Item → Option Item → Walk
start before last = walk_at (position_of (given before last)) (held_for before last)

pub joined_next : (names : List Text) (before : List Item) (last : Option Item) (word name value : Text) → IsKnown names last → IsOption names name
    → long_of word ≡ Some (name, Some value) → Once (joined name value ∷ given before last)
    → walked (map built_rule names) [] (start before last) word ≡ start (joined name value ∷ given before last) None
joined_next names before last word name value known has long once =
    let place = position_of (given before last) in
    let turn = joined_turn names place (held_for before last) word name value long has in
    turn.0 ∙ ap (λ (rows : List Row). walk_at place (record { rows = rows; pending = None; skip = 0 }))
    (ap (used (built_rule name) (value ∷ [])) (settled_rows_are names before last known once.1) ∙ used_once (joined name value) (given before last) once)

pub opened_next : (names : List Text) (before : List Item) (last : Option Item) (word name : Text) → IsKnown names last → IsOption names name
    → long_of word ≡ Some (name, None) → Once (given before last)
    → walked (map built_rule names) [] (start before last) word ≡ waits_for name (position_of (given before last)) (rows_for (given before last))
opened_next names before last word name known has long once =
    let place = position_of (given before last) in
    let turn = opened_turn names place (held_for before last) word name refl long has in
    turn.0 ∙ ap (waits_for name place) (settled_rows_are names before last known once)

-- a word that stands alone, where none stands before
pub alone_next : (names : List Text) (before : List Item) (last : Option Item) (word : Text) → IsKnown names last → Contains names [] → IsPlainWord word
    → position_of (given before last) ≡ 1 → Once (given before last)
    → (walked (map built_rule names) [] (start before last) word ≡ start (given before last) (Some (alone word)))
    × (turn_fault (built_shape names) [] (start before last) word ≡ settle_fault (map built_rule names) false (held_for before last))
alone_next names before last word known has plain first once =
    let held = held_for before last in
    let turn = alone_turn names held word plain has in
    let next = turn.0 ∙ ap (λ (rows : List Row). walk_at 2 (record { rows = rows; pending = Some ([], word ∷ []); skip = 0 })) (settled_rows_are names before last known once) in
    let there : Walk = start (given before last) (Some (alone word)) in (
      ap (λ (place : ℕ). walked (map built_rule names) [] (walk_at place held) word) first ∙ next,
      ap (λ (place : ℕ). turn_fault (built_shape names) [] (walk_at place held) word) first ∙ turn.1,
    )

pub joined_reads : (names : List Text) (before : List Item) (last : Option Item) (word : Text) (words : List Text) → Once before → IsKnown names last
    → IsJoined word → Passes names (start before last) (word ∷ words)
    → ((more : List Item) → Once more → Passes names (start more None) words → Reads names more (start more None) words)
    → Reads names (given before last) (start before last) (word ∷ words)
joined_reads names before last word words once known w p rest =
    let first = past_first names (start before last) word words p in
    let place = position_of (given before last) in
    elim (found_long names w.name) [
      | inl none ↦ absurd (unknown_turn names place (held_for before last) idle word w.name (Some w.value) w.read none first.0)
      | inr has ↦
          let turn = joined_turn names place (held_for before last) word w.name w.value w.read has in
          let react = none_first _ _ (sym turn.1 ∙ first.0) in
          let two = none_first _ _ react.0 in
          let item : Item = joined w.name w.value in
          let once1 = settles names before last known once two.0 in
          let rows = settled_rows_are names before last known once1 in
          let once2 : Once (item ∷ given before last) = use_passes item (given before last) once1
          (subst (λ (rs : List Row). use_fault false (built_rule w.name) (w.value ∷ []) rs ≡ []) rows two.1) in
          let next = joined_next names before last word w.name w.value known has w.read once2 in
          let r = rest (item ∷ given before last) once2 (subst (λ (v : Walk). Passes names v words) next first.1) in
          record {
            items = item ∷ r.items;
            spelled = ap₂ (λ (x : Text) (xs : List Text). x ∷ xs) w.spelled r.spelled;
            known = All-cons (IsItem names) item r.items has r.known;
            once = r.once;
            rows = ap (λ (v : Walk). (settled (map built_rule names) (fold (walked (map built_rule names) []) v words).held).rows) next ∙ r.rows;
          }
    ]

pub record Opened (names : List Text) (before : List Item) (last : Option Item) (word name : Text) (words : List Text) : Type 0 where
  pub has : IsOption names name
  pub once : Once (given before last)
  pub next : walked (map built_rule names) [] (start before last) word ≡ waits_for name (position_of (given before last)) (rows_for (given before last))
  pub passes : Passes names (waits_for name (position_of (given before last)) (rows_for (given before last))) words

pub opened_first : (names : List Text) (before : List Item) (last : Option Item) (word name : Text) (words : List Text) → Once before → IsKnown names last
    → long_of word ≡ Some (name, None) → Passes names (start before last) (word ∷ words) → Opened names before last word name words
opened_first names before last word name words once known long p =
    let first = past_first names (start before last) word words p in
    let place = position_of (given before last) in
    elim (found_long names name) [
      | inl none ↦ absurd (unknown_turn names place (held_for before last) idle word name None long none first.0)
      | inr has ↦
          let turn = opened_turn names place (held_for before last) word name refl long has in
          let settle = none_first _ _ (sym turn.1 ∙ first.0) in
          let once1 = settles names before last known once settle.0 in
          let next = opened_next names before last word name known has long once1 in
          record { has = has; once = once1; next = next; passes = subst (λ (v : Walk). Passes names v words) next first.1 }
    ]

-- an option that waits needs one more word
pub no_end : (names : List Text) (name : Text) (place : ℕ) (rows : List Row) → Contains names name → Passes names (waits_for name place rows) [] → ⊥
no_end names name place rows has p = let bad = rw (known_id names name has) at p.at_the_end in cc

no_option : (names : List Text) (name word other : Text) (value : Option Text) (place : ℕ) (rows : List Row) → Contains names name → long_of word ≡ Some (other, value)
    → turn_fault (built_shape names) [] (waits_for name place rows) word ≡ [] → ⊥
no_option names name word other value place rows has long e = elim (found_long names other) [
  | inl none ↦ unknown_turn names place (record { rows = rows; pending = Some (name, []); skip = 0 }) (option name) word other value long none e
  | inr known ↦ no_value_turn names name word other value place rows has known long e
]

pub opened_reads : (names : List Text) (before : List Item) (last : Option Item) (word second : Text) (words : List Text) → Once before → IsKnown names last
    → IsOpened word → WordCase second → Passes names (start before last) (word ∷ second ∷ words)
    → ((item : Item) → Contains names (option_of item) → Passes names (start (given before last) (Some item)) words → Reads names (item ∷ given before last) (start (given before last) (Some item)) words)
    → Reads names (given before last) (start before last) (word ∷ second ∷ words)
opened_reads names before last word second words once known w (is_joined v) p rest =
    let o = opened_first names before last word w.name (second ∷ words) once known w.read p in
    absurd (no_option names w.name second v.name (Some v.value) _ (rows_for (given before last)) o.has.0 v.read (past_first names _ second words o.passes).0)
opened_reads names before last word second words once known w (is_opened v) p rest =
    let o = opened_first names before last word w.name (second ∷ words) once known w.read p in
    absurd (no_option names w.name second v.name None _ (rows_for (given before last)) o.has.0 v.read (past_first names _ second words o.passes).0)
opened_reads names before last word second words once known w (is_plain v) p rest =
    let o = opened_first names before last word w.name (second ∷ words) once known w.read p in
    let place = position_of (given before last) in
    let turn = value_turn names w.name second place (rows_for (given before last)) o.has.0 v in
    let item : Item = apart w.name second in
    let two = past_first names (waits_for w.name place (rows_for (given before last))) second words o.passes in
    let r = rest item o.has.0 (subst (λ (x : Walk). Passes names x words) turn.0 two.1) in
    let next = ap (λ (x : Walk). walked (map built_rule names) [] x second) o.next ∙ turn.0 in
    record {
      items = item ∷ r.items;
      spelled = ap₂ (λ (x : Text) (xs : List Text). x ∷ second ∷ xs) w.spelled r.spelled;
      known = All-cons (IsItem names) item r.items (o.has, v.no_hyphen) r.known;
      once = r.once;
      rows = ap (λ (x : Walk). (settled (map built_rule names) (fold (walked (map built_rule names) []) x words).held).rows) next ∙ r.rows;
    }

pub alone_reads : (names : List Text) (before : List Item) (last : Option Item) (word : Text) (words : List Text) → Once before → IsKnown names last
    → IsPlainWord word → Passes names (start before last) (word ∷ words)
    → ((item : Item) → Once (given before last) → Contains names (option_of item) → Passes names (start (given before last) (Some item)) words
    → Reads names (item ∷ given before last) (start (given before last) (Some item)) words)
    → Reads names (given before last) (start before last) (word ∷ words)
alone_reads names before last word words once known w p rest = go (position_cases (given before last)) (found_alone names)
  where
    first : (turn_fault (built_shape names) [] (start before last) word ≡ []) × Passes names (walked (map built_rule names) [] (start before last) word) words
    first = past_first names (start before last) word words p

    none : arg_by_index (map built_rule names) (position_of (given before last)) ≡ None → ⊥
    none h = plain_turn names (position_of (given before last)) (held_for before last) word w h first.0

    go : (position_of (given before last) ≡ 1) ⊎ (position_of (given before last) ≡ 2) → (arg_by_index (map built_rule names) 1 ≡ None) ⊎ Contains names []
        → Reads names (given before last) (start before last) (word ∷ words)
    go (inr two) found = absurd (none (ap (arg_by_index (map built_rule names)) two ∙ no_second names))
    go (inl one) (inl h) = absurd (none (ap (arg_by_index (map built_rule names)) one ∙ h))
    go (inl one) (inr has) =
        let held = held_for before last in
        let turn = alone_turn names held word w has in
        let fault = ap (λ (place : ℕ). turn_fault (built_shape names) [] (walk_at place held) word) one ∙ turn.1 in
        let once1 = settles names before last known once (sym fault ∙ first.0) in
        let next = (alone_next names before last word known has w one once1).0 in
        let item : Item = alone word in
        let r = rest item once1 has (subst (λ (v : Walk). Passes names v words) next first.1) in
        record {
          items = item ∷ r.items;
          spelled = ap (λ (xs : List Text). word ∷ xs) r.spelled;
          known = All-cons (IsItem names) item r.items (has, w.no_hyphen) r.known;
          once = r.once;
          rows = ap (λ (v : Walk). (settled (map built_rule names) (fold (walked (map built_rule names) []) v words).held).rows) next ∙ r.rows;
        }

-- words that pass are items
pub sound : (names : List Text) (before : List Item) (last : Option Item) (words : List Text) → Once before → IsKnown names last → list_any is_stray words ≡ false
    → Passes names (start before last) words → Reads names (given before last) (start before last) words
sound names before last [] once known plain p =
    let g = settles names before last known once p.at_the_end in
    record { items = []; spelled = refl; known = All-nil (IsItem names); once = g; rows = settled_rows_are names before last known g }
sound names before last (word ∷ []) once known plain p = go (word_case word (neither_first _ _ plain))
    (λ more once2 q. sound names more None [] once2 tt refl q) (λ more item once2 has q. sound names more (Some item) [] once2 has refl q)
  where
    go : WordCase word → ((more : List Item) → Once more → Passes names (start more None) [] → Reads names more (start more None) [])
        → ((more : List Item) (item : Item) → Once more → Contains names (option_of item) → Passes names (start more (Some item)) [] → Reads names (item ∷ more) (start more (Some item)) [])
        → Reads names (given before last) (start before last) (word ∷ [])
    go (is_joined w) rest one = joined_reads names before last word [] once known w p rest
    go (is_opened w) rest one =
        let o = opened_first names before last word w.name [] once known w.read p in
        absurd (no_end names w.name _ (rows_for (given before last)) o.has.0 o.passes)
    go (is_plain w) rest one = alone_reads names before last word [] once known w p (λ item once2 has q. one (given before last) item once2 has q)
sound names before last (word ∷ second ∷ words) once known plain p =
    go (word_case word (neither_first _ _ plain)) (word_case second (neither_first _ _ (neither_second (is_stray word) _ plain)))
    (λ more once2 q. sound names more None (second ∷ words) once2 tt (neither_second (is_stray word) _ plain) q)
    (λ more item once2 has q. sound names more (Some item) (second ∷ words) once2 has (neither_second (is_stray word) _ plain) q)
    (λ more item once2 has q. sound names more (Some item) words once2 has (neither_second (is_stray second) _ (neither_second (is_stray word) _ plain)) q)
  where
    go : WordCase word → WordCase second
        → ((more : List Item) → Once more → Passes names (start more None) (second ∷ words) → Reads names more (start more None) (second ∷ words))
        → ((more : List Item) (item : Item) → Once more → Contains names (option_of item) → Passes names (start more (Some item)) (second ∷ words)
        → Reads names (item ∷ more) (start more (Some item)) (second ∷ words))
        → ((more : List Item) (item : Item) → Once more → Contains names (option_of item) → Passes names (start more (Some item)) words → Reads names (item ∷ more) (start more (Some item)) words)
        → Reads names (given before last) (start before last) (word ∷ second ∷ words)
    go (is_joined w) v one next two = joined_reads names before last word (second ∷ words) once known w p one
    go (is_opened w) v one next two =
        let o = opened_first names before last word w.name (second ∷ words) once known w.read p in
        opened_reads names before last word second words once known w v p (λ item has q. two (given before last) item o.once has q)
    go (is_plain w) v one next two = alone_reads names before last word (second ∷ words) once known w p (λ item once2 has q. next (given before last) item once2 has q)

pub once_before : (items before : List Item) → Once (after items before) → Once before
once_before [] before h = h
once_before (item ∷ items) before h = (once_before items (item ∷ before) h).1

pub joined_passes : (names : List Text) (before : List Item) (last : Option Item) (name value : Text) → IsKnown names last → IsOption names name → IsName name
    → Once (joined name value ∷ given before last) → turn_fault (built_shape names) [] (start before last) (codes "--" ++ name ++ codes "=" ++ value) ≡ []
joined_passes names before last name value known has good once =
    let turn = joined_turn names _ (held_for before last) (codes "--" ++ name ++ codes "=" ++ value) name value (long_joined name value good) has in
    let settle = settled_passes names before last known once.1 in
    let rows = settled_rows_are names before last known once.1 in
    let usage : use_fault false (built_rule name) (value ∷ []) (settled (map built_rule names) (held_for before last)).rows ≡ [] =
    subst (λ (rs : List Row). use_fault false (built_rule name) (value ∷ []) rs ≡ []) (sym rows) (once_passes (joined name value) (given before last) once) in
    turn.1 ∙ ap₂ (λ (a b : Kinds). or_else (or_else a b) []) settle usage

pub opened_passes : (names : List Text) (before : List Item) (last : Option Item) (name : Text) → IsKnown names last → IsOption names name → IsName name
    → Once (given before last) → turn_fault (built_shape names) [] (start before last) (codes "--" ++ name) ≡ []
opened_passes names before last name known has good once =
    (opened_turn names _ (held_for before last) (codes "--" ++ name) name refl (long_apart name good) has).1
    ∙ ap (λ (a : Kinds). or_else a []) (settled_passes names before last known once)

-- the words of items pass
pub complete : (names : List Text) → All (Lacks 61) names → (before : List Item) (last : Option Item) (items : List Item) → IsKnown names last → All (IsItem names) items
    → Once (after items (given before last)) → Passes names (start before last) (flat_map words_of_item items)
unfolding walk_fault
complete names good before last [] known all once = record { on_the_way = refl; at_the_end = settled_passes names before last known once }
complete names good before last (joined name value ∷ items) known all once =
    let item : Item = joined name value in
    let has : IsOption names name = All-head (IsItem names) item items all in
    let is_name = name_of_option names name good has in
    let once1 = once_before items (item ∷ given before last) once in
    let rest = complete names good (item ∷ given before last) None items tt (All-tail (IsItem names) item items all) once in
    with_first names (start before last) _ (codes "--" ++ name ++ codes "=" ++ value) (flat_map words_of_item items)
    (joined_passes names before last name value known has is_name once1)
    (joined_next names before last _ name value known has (long_joined name value is_name) once1) rest
complete names good before last (apart name value ∷ items) known all once =
    let item : Item = apart name value in
    let both : IsOption names name × (BeginsWithHyphen value → ⊥) = All-head (IsItem names) item items all in
    let is_name = name_of_option names name good both.0 in
    let once1 = once_before items (item ∷ given before last) once in
    let rest = complete names good (given before last) (Some item) items both.0.0 (All-tail (IsItem names) item items all) once in
    let turn = value_turn names name value (position_of (given before last)) (rows_for (given before last)) both.0.0 (plain_from value both.1) in
    with_first names (start before last) _ (codes "--" ++ name) (value ∷ flat_map words_of_item items)
    (opened_passes names before last name known both.0 is_name once1.1)
    (opened_next names before last _ name known both.0 (long_apart name is_name) once1.1)
    (with_first names _ _ value (flat_map words_of_item items) turn.1 turn.0 rest)
complete names good before last (alone value ∷ items) known all once =
    let item : Item = alone value in
    let both : Contains names [] × (BeginsWithHyphen value → ⊥) = All-head (IsItem names) item items all in
    let once1 = once_before items (item ∷ given before last) once in
    let rest = complete names good (given before last) (Some item) items both.0 (All-tail (IsItem names) item items all) once in
    let turn = alone_next names before last value known both.0 (plain_from value both.1) (position_first (given before last) once1.0) once1.1 in
    with_first names (start before last) _ value (flat_map words_of_item items) (turn.1 ∙ settled_passes names before last known once1.1) turn.0 rest
