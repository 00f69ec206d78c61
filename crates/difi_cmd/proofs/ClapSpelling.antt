-- How items are spelled: none of their words is stray, and no words are other items too.
use Rattle.std.proofs.Common.{◌≡◌, ◌≢◌, ◌==◌, ◌++◌, ◌∙◌, false, List, [], ◌∷◌, Option, Some, None, codes, refl, sym, ap, ap₂, subst, arith, Contains, All, unwrap_or}
use Rattle.std.specs.List.{list_any, flat_map}
use Rattle.std.proofs.lemmas.List.Elements.{All-head, All-tail}
use Rattle.clap.specs.Lexer.{long_of}
use Rattle.clap.proofs.CutLemmas.{Lacks}
use Rattle.std.proofs.lemmas.Bool.Decides.{nat_tests}
use Rattle.difi_cmd.specs.LineOfWords.{BeginsWithHyphen, IsItem, IsOption, Item, Text, alone, apart, is_stray, joined, words_of_item}
use Rattle.difi_cmd.proofs.ClapTurns.{IsName, long_apart, long_joined, name_of_option}

-- ---- how items are spelled

pub joined_is_not_stray : (name value : Text) → IsName name → is_stray (codes "--" ++ name ++ codes "=" ++ value) ≡ false
joined_is_not_stray [] value h = absurd (omega arith)
joined_is_not_stray (x ∷ xs) value h = refl

pub opened_is_not_stray : (name : Text) → IsName name → is_stray (codes "--" ++ name) ≡ false
opened_is_not_stray [] h = absurd (omega arith)
opened_is_not_stray (x ∷ xs) h = refl

pub plain_is_not_stray : (word : Text) → (BeginsWithHyphen word → ⊥) → is_stray word ≡ false
plain_is_not_stray [] h = refl
plain_is_not_stray (first ∷ []) h = let ne : first ≢ 45 = h in grind (arith, nat_tests)
plain_is_not_stray (first ∷ second ∷ []) h = let ne : first ≢ 45 = h in grind (arith, nat_tests)
plain_is_not_stray (first ∷ second ∷ third ∷ rest) h = let ne : first ≢ 45 = h in let e : (first == 45) ≡ false = grind (arith, nat_tests) in rw e refl

-- and none of them is stray
pub none_stray : (names : List Text) → All (Lacks 61) names → (items : List Item) → All (IsItem names) items → list_any is_stray (flat_map words_of_item items) ≡ false
none_stray names good [] all = refl
none_stray names good (joined name value ∷ items) all =
    let has : IsOption names name = All-head (IsItem names) (joined name value) items all in
    let rest = none_stray names good items (All-tail (IsItem names) (joined name value) items all) in
    rw (joined_is_not_stray name value (name_of_option names name good has)) rest
none_stray names good (alone value ∷ items) all =
    let both : Contains names [] × (BeginsWithHyphen value → ⊥) = All-head (IsItem names) (alone value) items all in
    let rest = none_stray names good items (All-tail (IsItem names) (alone value) items all) in
    rw (plain_is_not_stray value both.1) rest
none_stray names good (apart name value ∷ items) all =
    let both : IsOption names name × (BeginsWithHyphen value → ⊥) = All-head (IsItem names) (apart name value) items all in
    let rest = none_stray names good items (All-tail (IsItem names) (apart name value) items all) in
    rw (opened_is_not_stray name (name_of_option names name good both.0), plain_is_not_stray value both.1) rest

pub read_once : (word other n m : Text) (v w : Option Text) → long_of word ≡ Some (n, v) → long_of other ≡ Some (m, w) → word ≡ other → (n ≡ m) × (v ≡ w)
read_once word other n m v w h k same =
    let pair : (n, v) ≡ (m, w) = ap (λ (o : Option (Text × Option Text)). unwrap_or o ([], None)) (sym h ∙ (ap long_of same ∙ k)) in
    (ap (λ (p : Text × Option Text). p.0) pair, ap (λ (p : Text × Option Text). p.1) pair)

-- words are items in one way at most
pub one_spelling : (names : List Text) → All (Lacks 61) names → (items others : List Item) → All (IsItem names) items → All (IsItem names) others
    → flat_map words_of_item items ≡ flat_map words_of_item others → items ≡ others
one_spelling names good [] [] all also same = refl
one_spelling names good [] (joined n v ∷ others) all also same = cc
one_spelling names good [] (apart n v ∷ others) all also same = cc
one_spelling names good [] (alone v ∷ others) all also same = cc
one_spelling names good (alone v ∷ items) [] all also same = cc
one_spelling names good (joined n v ∷ items) [] all also same = cc
one_spelling names good (apart n v ∷ items) [] all also same = cc
one_spelling names good (joined n v ∷ items) (joined m w ∷ others) all also same =
    let has : IsOption names n = All-head (IsItem names) (joined n v) items all in
    let had : IsOption names m = All-head (IsItem names) (joined m w) others also in
    let word : codes "--" ++ n ++ codes "=" ++ v ≡ codes "--" ++ m ++ codes "=" ++ w = cc in
    let read = read_once _ _ n m (Some v) (Some w) (long_joined n v (name_of_option names n good has)) (long_joined m w (name_of_option names m good had)) word in
    let tail : flat_map words_of_item items ≡ flat_map words_of_item others = cc in
    let rest = one_spelling names good items others (All-tail (IsItem names) (joined n v) items all) (All-tail (IsItem names) (joined m w) others also) tail in
    let value : v ≡ w = let e : Some v ≡ Some w = read.1 in cc in
    ap₂ (λ (x : Item) (xs : List Item). x ∷ xs) (ap₂ (λ (x y : Text). joined x y) read.0 value) rest
one_spelling names good (joined n v ∷ items) (apart m w ∷ others) all also same =
    let has : IsOption names n = All-head (IsItem names) (joined n v) items all in
    let had : IsOption names m × (BeginsWithHyphen w → ⊥) = All-head (IsItem names) (apart m w) others also in
    let word : codes "--" ++ n ++ codes "=" ++ v ≡ codes "--" ++ m = cc in
    let read = read_once _ _ n m (Some v) (None) (long_joined n v (name_of_option names n good has)) (long_apart m (name_of_option names m good had.0)) word in
    cc
one_spelling names good (apart n v ∷ items) (joined m w ∷ others) all also same =
    let has : IsOption names n × (BeginsWithHyphen v → ⊥) = All-head (IsItem names) (apart n v) items all in
    let had : IsOption names m = All-head (IsItem names) (joined m w) others also in
    let word : codes "--" ++ n ≡ codes "--" ++ m ++ codes "=" ++ w = cc in
    let read = read_once _ _ n m (None) (Some w) (long_apart n (name_of_option names n good has.0)) (long_joined m w (name_of_option names m good had)) word in
    cc
one_spelling names good (apart n v ∷ items) (apart m w ∷ others) all also same =
    let has : IsOption names n × (BeginsWithHyphen v → ⊥) = All-head (IsItem names) (apart n v) items all in
    let had : IsOption names m × (BeginsWithHyphen w → ⊥) = All-head (IsItem names) (apart m w) others also in
    let word : codes "--" ++ n ≡ codes "--" ++ m = cc in
    let read = read_once _ _ n m (None) (None) (long_apart n (name_of_option names n good has.0)) (long_apart m (name_of_option names m good had.0)) word in
    let tail : flat_map words_of_item items ≡ flat_map words_of_item others = cc in
    let rest = one_spelling names good items others (All-tail (IsItem names) (apart n v) items all) (All-tail (IsItem names) (apart m w) others also) tail in
    let value : v ≡ w = cc in
    ap₂ (λ (x : Item) (xs : List Item). x ∷ xs) (ap₂ (λ (x y : Text). apart x y) read.0 value) rest
one_spelling names good (alone v ∷ items) (alone w ∷ others) all also same =
    let tail : flat_map words_of_item items ≡ flat_map words_of_item others = cc in
    let rest = one_spelling names good items others (All-tail (IsItem names) (alone v) items all) (All-tail (IsItem names) (alone w) others also) tail in
    let value : v ≡ w = cc in
    ap₂ (λ (x : Item) (xs : List Item). x ∷ xs) (ap (λ (x : Text). alone x) value) rest
one_spelling names good (alone v ∷ items) (joined m w ∷ others) all also same =
    let has : Contains names [] × (BeginsWithHyphen v → ⊥) = All-head (IsItem names) (alone v) items all in
    let word : v ≡ codes "--" ++ m ++ codes "=" ++ w = cc in
    absurd (has.1 (subst BeginsWithHyphen (sym word) refl))
one_spelling names good (alone v ∷ items) (apart m w ∷ others) all also same =
    let has : Contains names [] × (BeginsWithHyphen v → ⊥) = All-head (IsItem names) (alone v) items all in
    let word : v ≡ codes "--" ++ m = cc in
    absurd (has.1 (subst BeginsWithHyphen (sym word) refl))
one_spelling names good (joined n v ∷ items) (alone w ∷ others) all also same =
    let had : Contains names [] × (BeginsWithHyphen w → ⊥) = All-head (IsItem names) (alone w) others also in
    let word : codes "--" ++ n ++ codes "=" ++ v ≡ w = cc in
    absurd (had.1 (subst BeginsWithHyphen word refl))
one_spelling names good (apart n v ∷ items) (alone w ∷ others) all also same =
    let had : Contains names [] × (BeginsWithHyphen w → ⊥) = All-head (IsItem names) (alone w) others also in
    let word : codes "--" ++ n ≡ w = cc in
    absurd (had.1 (subst BeginsWithHyphen word refl))
