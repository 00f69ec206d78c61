-- Prologues of one kind among those of all kinds, which the first word tells.
use Rattle.std.proofs.Common.{◌≡◌, ℕ, suc, ◌<◌, ◌≤◌, List, ◌++◌, length, take, get_or, Bool, true, false, Ok, Err, refl, subst, sym, ap, ◌∙◌, arith}
use Rattle.std.proofs.lemmas.List.{get_or-take, length-take}
use Rattle.vrt_words.specs.Begins.{IsRefusedAt}
use Rattle.vrt_words.proofs.BeginLaws.{begun_words}
use Rattle.vrt_header.specs.Profile.{PacketProfile}
use Rattle.vrt_header.specs.Header.{is_command, IsKind, IsTimed, prologue_words}
use Rattle.vrt_header.specs.Prologue.{IsPrologue, IsPrologueOf}
use Rattle.vrt_header.proofs.PrologueLaws.{one_kind, one_prologue}
use Rattle.vrt_words.specs.declared.place.Place.{Place}
use Rattle.vrt_header.specs.declared.header.Kind.{Kind}
use Rattle.vrt_header.specs.declared.prologue.Prologue.{Prologue}

some_words : (timed : Bool) → 0 < prologue_words timed
some_words true = omega arith
some_words false = omega arith

-- a prologue with this first word has the kind that the word has
kind_told : (profile : PacketProfile) (kind : Kind) (p : Prologue) (words : List ℕ) (word : ℕ) → get_or words 0 0 ≡ word → IsKind kind word
    → IsPrologue profile p words → IsPrologueOf profile kind p words
kind_told profile kind p words word first told is = record {
  prologue = is;
  kind = one_kind p.header.kind kind word (subst (IsKind p.header.kind) first is.header.kind) told;
}

pub prologue_of_kind : (profile : PacketProfile) (kind : Kind) (p : Prologue) (words : List ℕ) (n : ℕ) → IsKind kind (get_or words 0 0)
    → IsPrologue profile p (take n words) → IsPrologueOf profile kind p (take n words)
prologue_of_kind profile kind p words n told is =
    let some : 0 < n = omega (arith, is.all, some_words p.header.timed, length-take n words) in
    kind_told profile kind p (take n words) (get_or words 0 0) (get_or-take n words 0 0 some) told is

pub refused_of_kind : (profile : PacketProfile) (kind : Kind) (words : List ℕ) (place : ℕ) → IsKind kind (get_or words 0 0)
    → IsRefusedAt (IsPrologue profile) words place → IsRefusedAt (IsPrologueOf profile kind) words place
refused_of_kind profile kind words place told at = record {
  within = at.within;
  before = λ u h.
      let b = at.before u h in
      let first : get_or (take (suc u) words ++ b.1.0) 0 0 ≡ get_or words 0 0 = begun_words u words b.1.0 0 (omega (arith, at.within)) (omega arith) in
      (b.0, (b.1.0, (b.1.1.0, kind_told profile kind b.0 (take (suc u) words ++ b.1.0) (get_or words 0 0) first told b.1.1.1)));
  here = λ there b. at.here there (b.0, (b.1.0, (b.1.1.0, b.1.1.1.prologue)));
}

-- a prologue's first word has its kind
pub kind_of_first : (profile : PacketProfile) (kind : Kind) (p : Prologue) (words : List ℕ) (n : ℕ) → IsPrologueOf profile kind p (take n words)
    → IsKind kind (get_or words 0 0)
kind_of_first profile kind p words n h =
    let some : 0 < n = omega (arith, h.prologue.all, some_words p.header.timed, length-take n words) in
    subst (λ (k : Kind). IsKind k (get_or words 0 0)) h.kind (subst (IsKind p.header.kind) (get_or-take n words 0 0 some) h.prologue.header.kind)

-- there is one in front of words at most
pub one_of_kind : (profile : PacketProfile) (kind : Kind) (a b : Prologue) (words : List ℕ) → IsPrologueOf profile kind a words
    → IsPrologueOf profile kind b words → a ≡ b
one_of_kind profile kind a b words p q = one_prologue profile a b words p.prologue q.prologue

-- where a reader's answer is the only one, it tells a place only of words that have none in front
pub none_in_front : (profile : PacketProfile) (kind : Kind) (words : List ℕ) (place : Place)
    → ((p : Prologue) (n : ℕ) → IsPrologueOf profile kind p (take n words) → Err place ≡ Ok p)
    → (p : Prologue) (n : ℕ) → ¬ IsPrologueOf profile kind p (take n words)
none_in_front profile kind words place only p n h = absurd (cc (only p n h))

-- ---- the packets of a stream, which are all timed

stream_timed : (tsi : ℕ) (kind : Kind) (timed : Bool) (word : ℕ) → IsTimed tsi kind timed word → is_command kind ≡ false → timed ≡ true
stream_timed tsi kind true word h e = refl
stream_timed tsi kind false word h e = absurd (cc (h.0))

-- they have seven words in front
pub timed_of_kind : (profile : PacketProfile) (kind : Kind) (p : Prologue) (words : List ℕ) → is_command kind ≡ false
    → IsPrologueOf profile kind p words → p.header.timed ≡ true
timed_of_kind profile kind p words e h =
    stream_timed profile.tsi p.header.kind p.header.timed (get_or words 0 0) h.prologue.header.time (ap is_command h.kind ∙ e)

pub seven_words : (profile : PacketProfile) (kind : Kind) (p : Prologue) (words : List ℕ) → is_command kind ≡ false
    → IsPrologueOf profile kind p words → length words ≡ 7
seven_words profile kind p words e h = h.prologue.all ∙ ap prologue_words (timed_of_kind profile kind p words e h)

pub seven_in_front : (profile : PacketProfile) (kind : Kind) (p : Prologue) (words : List ℕ) → is_command kind ≡ false
    → IsPrologueOf profile kind p (take (prologue_words p.header.timed) words) → IsPrologueOf profile kind p (take 7 words) × (7 ≤ length words)
seven_in_front profile kind p words e h =
    let n = prologue_words p.header.timed in
    let seven : n ≡ 7 = sym h.prologue.all ∙ seven_words profile kind p (take n words) e h in
    (subst (λ (m : ℕ). IsPrologueOf profile kind p (take m words)) seven h, omega (arith, h.prologue.all, length-take n words))
