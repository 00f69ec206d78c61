-- The words that spell a prologue of the command family are one list.
use Rattle.std.proofs.Common.{◌≡◌, ℕ, ◌+◌, ◌*◌, ◌^◌, ◌<◌, ◌≤◌, List, [], ◌∷◌, ◌++◌, length, take, drop, get_or, sym, ap, ◌∙◌, take-append-drop, length-append, append_assoc, subst, arith}
use Rattle.std.proofs.lemmas.List.{length-take-le, take_at}
use Rattle.vrt_words.specs.Words.{words_of, AreWords}
use Rattle.vrt_words.proofs.WordLaws.{words_of-take, AreWords-take, AreWords-drop}
use Rattle.vrt_words.specs.Begins.{IsDatagram}
use Rattle.vrt_header.specs.Profile.{PacketProfile}
use Rattle.vrt_header.specs.Header.{prologue_words}
use Rattle.vrt_header.proofs.SpellingLaws.{one_front}
use Rattle.cam_field.specs.Cam.{IsSpelled}
use Rattle.cam_field.proofs.CamLaws.{one_word}
use Rattle.cam_field.specs.Ident.{ident_words}
use Rattle.cam_field.specs.declared.modes.Role.{Role}
use Rattle.command_prologue.specs.CommandPrologue.{IsBehind, IsCommandPrologue, command_words}
use Rattle.command_prologue.specs.declared.prologue.CommandPrologue.{CommandPrologue}

-- the words behind the prologue that this mode word begins
abbrev pub words_behind : CommandPrologue → ℕ → List ℕ
words_behind front word = word ∷ front.message ∷ (ident_words front.controllee ++ ident_words front.controller)

-- any mode word that spells the same is the same
pub same_behind : (role : Role) (front : CommandPrologue) (words : List ℕ) (word : ℕ) → AreWords words → word < 2 ^ 32 → IsSpelled front.cam word
    → IsBehind role front words → words ≡ words_behind front word
same_behind role front words word fit small spelled h =
    let first : get_or words 0 0 ≡ h.mode_word = ap (λ xs. get_or xs 0 0) h.all in
    let same : h.mode_word ≡ word = one_word front.cam h.mode_word word (omega (arith, fit 0)) small h.mode.spelled.spelled spelled in
    h.all ∙ ap (words_behind front) same

pub one_behind_words : (role : Role) (front : CommandPrologue) (a b : List ℕ) → AreWords a → AreWords b → IsBehind role front a → IsBehind role front b → a ≡ b
one_behind_words role front a b fit fit' p q =
    let first : get_or b 0 0 ≡ q.mode_word = ap (λ xs. get_or xs 0 0) q.all in
    same_behind role front a q.mode_word fit (omega (arith, fit' 0)) q.mode.spelled.spelled p ∙ sym q.all

pub one_words : (profile : PacketProfile) (role : Role) (front : CommandPrologue) (a b : List ℕ) → AreWords a → AreWords b
    → IsCommandPrologue profile role front a → IsCommandPrologue profile role front b → a ≡ b
one_words profile role front a b fit fit' p q =
    let n = prologue_words front.prologue.header.timed in
    let start = one_front profile front.prologue (take n a) (take n b) (AreWords-take n a fit) (AreWords-take n b fit') p.prologue.prologue q.prologue.prologue in
    let rest = one_behind_words role front (drop n a) (drop n b) (AreWords-drop n a fit) (AreWords-drop n b fit') p.behind q.behind in
    sym (take-append-drop n a) ∙ ap (λ xs. xs ++ drop n a) start ∙ ap (λ xs. take n b ++ xs) rest ∙ take-append-drop n b

-- ---- words that are written one part after another

pub take_put : (m r : ℕ) (xs ys part rest : List ℕ) → m ≤ length ys → r ≡ m + length part → xs ≡ take m ys ++ (part ++ rest) → take r xs ≡ take m ys ++ part
take_put m r xs ys part rest there e same =
    ap (take r) (same ∙ sym (append_assoc (take m ys) part rest))
    ∙ take_at (take m ys ++ part) rest r (length-append (take m ys) part ∙ ap (λ n. n + length part) (length-take-le m ys there) ∙ sym e)

-- the parts in a row
pub row_of : (front : CommandPrologue) (start : List ℕ) (word : ℕ)
    → ((start ++ (word ∷ front.message ∷ [])) ++ ident_words front.controllee) ++ ident_words front.controller ≡ start ++ words_behind front word
row_of front start word =
    append_assoc (start ++ (word ∷ front.message ∷ [])) (ident_words front.controllee) (ident_words front.controller)
    ∙ append_assoc start (word ∷ front.message ∷ []) (ident_words front.controllee ++ ident_words front.controller)

-- and are the words of the prologue
pub row_words : (profile : PacketProfile) (role : Role) (front : CommandPrologue) (words start : List ℕ) (word : ℕ) → AreWords words → word < 2 ^ 32
    → IsSpelled front.cam word → IsCommandPrologue profile role front words → start ≡ take (prologue_words front.prologue.header.timed) words
    → start ++ words_behind front word ≡ words
row_words profile role front words start word fit small spelled h e =
    let n = prologue_words front.prologue.header.timed in
    ap (λ xs. xs ++ words_behind front word) e
    ∙ ap (λ xs. take n words ++ xs) (sym (same_behind role front (drop n words) word (AreWords-drop n words fit) small spelled h.behind))
    ∙ take-append-drop n words

pub named_sizes : (profile : PacketProfile) (role : Role) (front : CommandPrologue) (words : List ℕ) → IsCommandPrologue profile role front words
    → command_words front ≡ prologue_words front.prologue.header.timed + 2 + length (ident_words front.controllee) + length (ident_words front.controller)
named_sizes profile role front words h = omega (arith, h.behind.controllee.size, h.behind.controller.size)

-- bytes whose words in front are those of a packet have its datagram in front
pub datagram_in_front : {V : Type 0} (IsPacket : V → List ℕ → Type 0) (v : V) (bytes words : List ℕ) (n : ℕ) → 4 * n ≤ length bytes → IsPacket v words
    → length words ≡ n → take n (words_of bytes) ≡ words → IsDatagram IsPacket v (take (4 * n) bytes)
datagram_in_front IsPacket v bytes words n there is all e =
    let same : words_of (take (4 * n) bytes) ≡ words = words_of-take n bytes ∙ e in
    record {
      whole = length-take-le (4 * n) bytes there ∙ ap (λ i. 4 * i) (sym all) ∙ sym (ap (λ xs. 4 * length xs) same);
      packet = subst (IsPacket v) (sym same) is;
    }
