-- Laws of the prologue of the command family: words are one at most, and are refused in the prologue or behind it.
use Rattle.std.proofs.Common.{◌≡◌, ℕ, suc, ◌+◌, ◌-◌, ◌^◌, ◌<◌, ◌≤◌, ◌==◌, ◌⊎◌, inl, inr, Bool, true, false, List, [], ◌∷◌, ◌++◌, length, take, drop, get_or, Result, Ok, Err, IfOk, IfErr, take-add, add-zero, refl, sym, ap, ◌∙◌, subst, length-append, length-drop, take-append-drop, arith}
use Rattle.std.proofs.lemmas.Bool.{cases_lt}
use Rattle.std.proofs.lemmas.Bool.Decides.{nat_tests}
use Rattle.std.proofs.lemmas.Grind.{common_steps}
use Rattle.std.specs.List.{list_any}
use Rattle.std.proofs.lemmas.List.{length-take, length-take-le, take_at, drop_at, take_all, take_min, take-take, get_or-take, get_or-drop, get_or_append_left}
use Rattle.vrt_words.specs.Words.{AreWords}
use Rattle.vrt_words.specs.Begins.{IsRefusedAt}
use Rattle.vrt_header.specs.Profile.{PacketProfile}
use Rattle.vrt_header.specs.Header.{IsKind, IsHeader, is_size, prologue_words}
use Rattle.vrt_header.specs.Prologue.{IsPrologue, IsPrologueOf}
use Rattle.vrt_header.proofs.PrologueLaws.{one_header, one_prologue}
use Rattle.vrt_header.specs.declared.header.Kind.{Kind}
use Rattle.vrt_header.specs.declared.header.Kind.TheVariants as kinds
use Rattle.vrt_header.specs.declared.header.Header.{Header}
use Rattle.vrt_header.specs.declared.prologue.Prologue.{Prologue}
use Rattle.cam_field.specs.Cam.{IsSpelled, action_code, timing_code}
use Rattle.cam_field.proofs.CamLaws.{word_fits}
use Rattle.cam_field.specs.Spelling.{word_of_cam}
use Rattle.cam_field.proofs.PlainCam.{Naming, IsNaming, named_words, plain_cam, report_cam, each_role, each_report, each_size, is_named_size}
use Rattle.cam_field.specs.Ident.{is_named, is_uuid, ident_words, ident_size}
use Rattle.cam_field.specs.declared.cam.Cam.{Cam}
use Rattle.cam_field.specs.declared.ident.Ident.{Ident}
use Rattle.cam_field.specs.declared.ident.Ident.TheVariants as idents
use Rattle.cam_field.specs.declared.modes.Action.{Action}
use Rattle.cam_field.specs.declared.modes.Action.TheVariants as actions
use Rattle.cam_field.specs.declared.modes.Timing.{Timing}
use Rattle.cam_field.specs.declared.modes.Timing.TheVariants as timings
use Rattle.cam_field.specs.declared.modes.Role.{Role}
use Rattle.cam_field.specs.declared.modes.Role.TheVariants.{Control, Cancel, Ack}
use Rattle.command_prologue.specs.CommandPrologue.{kind_of, IsIdentity, identity_words, IsContentSize, IsMode, IsBehind, IsCommandPrologue, command_words}
use Rattle.vrt_words.specs.Growing.{AreGrown}
use Rattle.vrt_words.proofs.GrowingLaws.{refused_in_front, refused_behind, none_in_front}
use Rattle.command_prologue.proofs.FrontLaws.{length-behind, length-front}
use Rattle.command_prologue.specs.Steps.{IsBegun, IsCutAt, AreNamed}
use Rattle.vrt_words.specs.declared.place.Place.{Place}
use Rattle.command_prologue.specs.declared.prologue.CommandPrologue.{CommandPrologue}

-- ---- words are one prologue

one_ident : (a b : Ident) → is_named a ≡ is_named b → is_uuid a ≡ is_uuid b → ident_words a ≡ ident_words b → a ≡ b
one_ident idents.None idents.None p q e = refl
one_ident (idents.Word a) (idents.Word b) p q e = ap idents.Word (cc)
one_ident (idents.Uuid a) (idents.Uuid b) p q e = ap idents.Uuid e
one_ident a b p q e = absurd (cc)

pub one_identity : (named uuid : Bool) (a b : Ident) → IsIdentity named uuid a → IsIdentity named uuid b → ident_words a ≡ ident_words b → a ≡ b
one_identity named uuid a b p q e = one_ident a b (p.there ∙ sym q.there) (p.form ∙ sym q.form) e

same_front : (a b : CommandPrologue) → a.prologue ≡ b.prologue → a.cam ≡ b.cam → a.message ≡ b.message → a.controllee ≡ b.controllee → a.controller ≡ b.controller → a ≡ b
same_front a b p q r s t = grind arith

same_cam : (a b : Cam) → a.ce ≡ b.ce → a.ie ≡ b.ie → a.cr ≡ b.cr → a.ir ≡ b.ir → a.partial ≡ b.partial → a.warnings ≡ b.warnings → a.errors ≡ b.errors
    → a.action ≡ b.action → a.nk ≡ b.nk → a.v ≡ b.v → a.x ≡ b.x → a.s ≡ b.s → a.warned ≡ b.warned → a.erred ≡ b.erred → a.timing ≡ b.timing
    → a.in_part ≡ b.in_part → a.executed ≡ b.executed → a ≡ b
same_cam a b ce ie cr ir partial warnings errors action nk v x s warned erred timing in_part executed = grind arith

one_action : (a b : Action) → action_code a ≡ action_code b → a ≡ b
one_action actions.None actions.None e = refl
one_action actions.DryRun actions.DryRun e = refl
one_action actions.Execute actions.Execute e = refl
one_action a b e = absurd (omega arith)

one_timing : (a b : Timing) → timing_code a ≡ timing_code b → a ≡ b
one_timing timings.Now timings.Now e = refl
one_timing timings.At timings.At e = refl
one_timing timings.AtOrNow timings.AtOrNow e = refl
one_timing a b e = absurd (omega arith)

-- a word spells one mode word
pub one_cam : (a b : Cam) (word : ℕ) → IsSpelled a word → IsSpelled b word → a ≡ b
one_cam a b word p q =
    same_cam a b (p.ce ∙ sym q.ce) (p.ie ∙ sym q.ie) (p.cr ∙ sym q.cr) (p.ir ∙ sym q.ir) (p.partial ∙ sym q.partial) (p.warnings ∙ sym q.warnings)
    (p.errors ∙ sym q.errors) (one_action a.action b.action (sym p.action ∙ q.action)) (p.nk ∙ sym q.nk) (p.v ∙ sym q.v) (p.x ∙ sym q.x) (p.s ∙ sym q.s)
    (p.warned ∙ sym q.warned) (p.erred ∙ sym q.erred) (one_timing a.timing b.timing (sym p.timing ∙ q.timing)) (p.in_part ∙ sym q.in_part)
    (p.executed ∙ sym q.executed)

-- lists in a row, the first of them as long, are the same one by one
pub split_row : (a b x y : List ℕ) → length a ≡ length b → a ++ x ≡ b ++ y → (a ≡ b) × (x ≡ y)
split_row a b x y long e = (
  sym (take_at a x (length a) refl) ∙ ap (take (length a)) e ∙ take_at b y (length a) (sym long),
  sym (drop_at a x (length a) refl) ∙ ap (drop (length a)) e ∙ drop_at b y (length a) (sym long),
)

pub same_head : (a b : ℕ) (x y : List ℕ) → a ∷ x ≡ b ∷ y → (a ≡ b) × (x ≡ y)
same_head a b x y e = (cc, cc)

pub one_behind : (role : Role) (a b : CommandPrologue) (words : List ℕ) → a.prologue ≡ b.prologue → IsBehind role a words → IsBehind role b words → a ≡ b
one_behind role a b words same p q =
    let first = same_head p.mode_word q.mode_word (a.message ∷ (ident_words a.controllee ++ ident_words a.controller))
    (b.message ∷ (ident_words b.controllee ++ ident_words b.controller)) (sym p.all ∙ q.all) in
    let second = same_head a.message b.message (ident_words a.controllee ++ ident_words a.controller) (ident_words b.controllee ++ ident_words b.controller) first.1 in
    let cam : a.cam ≡ b.cam = one_cam a.cam b.cam p.mode_word p.mode.spelled.spelled (subst (IsSpelled b.cam) (sym first.0) q.mode.spelled.spelled) in
    let controllee : IsIdentity a.cam.ce a.cam.ie b.controllee = subst (λ (c : Cam). IsIdentity c.ce c.ie b.controllee) (sym cam) q.controllee in
    let controller : IsIdentity a.cam.cr a.cam.ir b.controller = subst (λ (c : Cam). IsIdentity c.cr c.ir b.controller) (sym cam) q.controller in
    let parts = split_row (ident_words a.controllee) (ident_words b.controllee) (ident_words a.controller) (ident_words b.controller)
    (p.controllee.size ∙ sym controllee.size) second.1 in
    same_front a b same cam second.0 (one_identity a.cam.ce a.cam.ie a.controllee b.controllee p.controllee controllee parts.0)
    (one_identity a.cam.cr a.cam.ir a.controller b.controller p.controller controller parts.1)

-- ---- words have one prologue in front

four_or_more : (timed : Bool) → 4 ≤ prologue_words timed
four_or_more true = omega arith
four_or_more false = omega arith

one_start : (profile : PacketProfile) (p q : Prologue) (front behind : List ℕ) → IsPrologue profile p front
    → IsPrologue profile q (take (prologue_words q.header.timed) (front ++ behind)) → (q ≡ p) × (prologue_words q.header.timed ≡ length front)
one_start profile p q front behind is is' =
    let n = prologue_words q.header.timed in
    let some = four_or_more q.header.timed in
    let there : 0 < length front = omega (arith, is.all, four_or_more p.header.timed) in
    let first : get_or (take n (front ++ behind)) 0 0 ≡ get_or front 0 0 =
    get_or-take n (front ++ behind) 0 0 (omega arith) ∙ get_or_append_left front behind 0 0 there in
    let header = one_header profile q.header p.header (get_or front 0 0) (subst (IsHeader profile q.header) first is'.header) is.header in
    let long : n ≡ length front = ap (λ (h : Header). prologue_words h.timed) header ∙ sym is.all in
    let same : take n (front ++ behind) ≡ front = take_at front behind n (sym long) in
    (one_prologue profile q p front (subst (IsPrologue profile q) same is') is, long)

pub one_command_prologue : (profile : PacketProfile) (role : Role) (a b : CommandPrologue) (words : List ℕ) → IsCommandPrologue profile role a words
    → IsCommandPrologue profile role b words → a ≡ b
one_command_prologue profile role a b words p q =
    let n = prologue_words a.prologue.header.timed in
    let row : take n words ++ drop n words ≡ words = take-append-drop n words in
    let start = one_start profile a.prologue b.prologue (take n words) (drop n words) p.prologue.prologue
    (subst (λ xs. IsPrologue profile b.prologue (take (prologue_words b.prologue.header.timed) xs)) (sym row) q.prologue.prologue) in
    let same : prologue_words b.prologue.header.timed ≡ n = start.1 ∙ p.prologue.prologue.all in
    one_behind role a b (drop n words) (sym start.0) p.behind (subst (λ m. IsBehind role b (drop m words)) same q.behind)

-- ---- some identities and some content go with each size

plain_mode : (role : Role) (p : Prologue) (naming : Naming) (content : ℕ) → IsNaming naming
    → p.header.size ≡ prologue_words p.header.timed + 2 + named_words naming + content
    → IsContentSize role (plain_cam role naming) content → identity_words (plain_cam role naming) ≡ named_words naming
    → IsMode role p (plain_cam role naming) (word_of_cam (plain_cam role naming))
plain_mode role p naming content named size allowed same = record {
  spelled = each_role role p.header.timed naming named;
  content = content;
  size = size ∙ ap (λ n. prologue_words p.header.timed + 2 + n + content) (sym same);
  allowed = allowed;
}

report_mode : (p : Prologue) (naming : Naming) (warned erred : Bool) (content : ℕ) → IsNaming naming
    → p.header.size ≡ prologue_words p.header.timed + 2 + named_words naming + content
    → IsContentSize Ack (report_cam naming warned erred) content
    → IsMode Ack p (report_cam naming warned erred) (word_of_cam (report_cam naming warned erred))
report_mode p naming warned erred content named size allowed = record {
  spelled = each_report p.header.timed naming warned erred named;
  content = content;
  size = size;
  allowed = allowed;
}

-- there is a mode word for the prologue
abbrev pub HasMode : Role → Prologue → Type 0
HasMode role p = (cam : Cam) × IsMode role p cam (word_of_cam cam)

-- identities of so many words
abbrev IdentitiesOf : ℕ → Type 0
IdentitiesOf n = (naming : Naming) × (IsNaming naming × (named_words naming ≡ n))

none_named : IdentitiesOf 0
none_named = each_size 0 refl

both_named : IdentitiesOf 8
both_named = each_size 8 refl

control_mode : (p : Prologue) → is_size kinds.Control p.header.timed p.header.size ≡ true → HasMode Control p
control_mode p h =
    let n = prologue_words p.header.timed in
    let least : n + 3 ≤ p.header.size = grind (arith, nat_tests) in
    let most : p.header.size ≤ n + 30 = grind (arith, nat_tests) in
    elim (cases_lt (n + 22) p.header.size) [
      | inl more ↦
          let names = both_named in
          (plain_cam Control names.0, plain_mode Control p names.0 (p.header.size - (n + 10)) names.1.0 (omega (arith, names.1.1)) (omega arith, omega arith) refl)
      | inr less ↦
          let names = none_named in
          (plain_cam Control names.0, plain_mode Control p names.0 (p.header.size - (n + 2)) names.1.0 (omega (arith, names.1.1)) (omega arith, omega arith) refl)
    ]

cancel_sizes : (n size : ℕ) → list_any (λ identities. size == n + 3 + identities) (0 ∷ 1 ∷ 2 ∷ 4 ∷ 5 ∷ 8 ∷ []) ≡ true
    → (is_named_size (size - (n + 3)) ≡ true) × (n + 3 ≤ size)
cancel_sizes n size h = (grind (arith, common_steps), grind (arith, common_steps))

cancel_mode : (p : Prologue) → is_size kinds.Cancel p.header.timed p.header.size ≡ true → HasMode Cancel p
cancel_mode p h =
    let n = prologue_words p.header.timed in
    let sizes = cancel_sizes n p.header.size h in
    let names = each_size (p.header.size - (n + 3)) sizes.0 in
    (plain_cam Cancel names.0, plain_mode Cancel p names.0 1 names.1.0 (omega (arith, names.1.1, sizes.1)) refl refl)

ack_mode : (p : Prologue) → is_size kinds.Ack p.header.timed p.header.size ≡ true → HasMode Ack p
ack_mode p h =
    let n = prologue_words p.header.timed in
    let least : n + 2 ≤ p.header.size = grind (arith, nat_tests) in
    let most : p.header.size ≤ n + 36 = grind (arith, nat_tests) in
    elim (cases_lt (n + 2) p.header.size) [
      | inl some ↦ elim (cases_lt (n + 22) p.header.size) [
        | inl more ↦
            let names = both_named in
            (report_cam names.0 true true, report_mode p names.0 true true (p.header.size - (n + 10)) names.1.0 (omega (arith, names.1.1)) (omega arith, omega arith))
        | inr less ↦
            let names = none_named in
            (plain_cam Ack names.0, plain_mode Ack p names.0 (p.header.size - (n + 2)) names.1.0 (omega (arith, names.1.1)) (omega arith, omega arith) refl)
      ]
      | inr none ↦
          let names = none_named in
          (report_cam names.0 false false, report_mode p names.0 false false 0 names.1.0 (omega (arith, names.1.1)) (omega arith, omega arith))
    ]

mode_of_size : (role : Role) (p : Prologue) → is_size (kind_of role) p.header.timed p.header.size ≡ true → HasMode role p
mode_of_size Control p h = control_mode p h
mode_of_size Cancel p h = cancel_mode p h
mode_of_size Ack p h = ack_mode p h

pub mode_there : (profile : PacketProfile) (role : Role) (p : Prologue) (words : List ℕ) → IsPrologueOf profile (kind_of role) p words → HasMode role p
mode_there profile role p words h =
    mode_of_size role p (subst (λ (k : Kind). is_size k p.header.timed p.header.size ≡ true) h.kind h.prologue.header.size_allowed)

-- ---- identities in words

abbrev pub ident_in : Bool → Bool → List ℕ → Ident
ident_in false uuid words = idents.None
ident_in true false words = idents.Word (get_or words 0 0)
ident_in true true words = idents.Uuid (take 4 words)

first_word : (words : List ℕ) → 1 ≤ length words → get_or words 0 0 ∷ [] ≡ take 1 words
first_word [] h = absurd (omega arith)
first_word (w ∷ words) h = refl

pub ident_there : (named uuid : Bool) (words : List ℕ) → (uuid ≡ true → named ≡ true) → ident_size named uuid ≤ length words
    → IsIdentity named uuid (ident_in named uuid words) × (ident_words (ident_in named uuid words) ≡ take (ident_size named uuid) words)
ident_there false false words p h = (record { there = refl; form = refl; size = refl }, refl)
ident_there false true words p h = absurd (cc (p refl))
ident_there true false words p h = (record { there = refl; form = refl; size = refl }, first_word words h)
ident_there true true words p h = (record { there = refl; form = refl; size = length-take-le 4 words h }, refl)

few_words : (named uuid : Bool) → ident_size named uuid ≤ 4
few_words false uuid = omega arith
few_words true false = omega arith
few_words true true = omega arith

-- the prologue that stands in these words
front_in : Prologue → Cam → ℕ → List ℕ → CommandPrologue
front_in p cam message words = record {
  prologue = p;
  cam = cam;
  message = message;
  controllee = ident_in cam.ce cam.ie words;
  controller = ident_in cam.cr cam.ir (drop (ident_size cam.ce cam.ie) words);
}

behind_in : (role : Role) (p : Prologue) (cam : Cam) (word message : ℕ) (words : List ℕ) → IsMode role p cam word → length words ≡ identity_words cam
    → IsBehind role (front_in p cam message words) (word ∷ message ∷ words)
unfolding front_in
behind_in role p cam word message words mode long =
    let m = ident_size cam.ce cam.ie in
    let n = ident_size cam.cr cam.ir in
    let rest = drop m words in
    let a = ident_there cam.ce cam.ie words mode.spelled.allowed.controllee (omega arith) in
    let b = ident_there cam.cr cam.ir rest mode.spelled.allowed.controller (omega (arith, length-drop m words)) in
    let whole : take n rest ≡ rest = take_all n rest (omega (arith, length-drop m words)) in
    let row : ident_words (ident_in cam.ce cam.ie words) ++ ident_words (ident_in cam.cr cam.ir rest) ≡ words =
    ap (λ xs. xs ++ ident_words (ident_in cam.cr cam.ir rest)) a.1 ∙ ap (λ xs. take m words ++ xs) (b.1 ∙ whole) ∙ take-append-drop m words in
    record {
      mode_word = word;
      mode = mode;
      controllee = a.0;
      controller = b.0;
      all = ap (λ xs. word ∷ message ∷ xs) (sym row);
    }

-- ---- what goes on behind the prologue

pub begun_by_behind : (role : Role) (front : CommandPrologue) (words rest : List ℕ) → IsBehind role front (words ++ rest) → IsBegun role front.prologue words
begun_by_behind role front [] rest h = tt
begun_by_behind role front (word ∷ words) rest h =
    let same : word ≡ h.mode_word = (same_head word h.mode_word (words ++ rest) (front.message ∷ (ident_words front.controllee ++ ident_words front.controller)) h.all).0 in
    (front.cam, (subst (IsMode role front.prologue front.cam) (sym same) h.mode, omega (arith, length-behind _ front (word ∷ (words ++ rest)) h, length-append words rest)))

pub begun_short : (role : Role) (p : Prologue) (words : List ℕ) → IsBegun role p words → length words ≤ 10
begun_short role p [] h = omega arith
begun_short role p (word ∷ words) h = omega (arith, h.1.1, few_words h.0.ce h.0.ie, few_words h.0.cr h.0.ir)

-- ---- what a reader finds behind the prologue

pub behind_read : (role : Role) (front : CommandPrologue) (words : List ℕ) → IsMode role front.prologue front.cam (get_or words 0 0)
    → 2 + identity_words front.cam ≤ length words → AreNamed front (drop 1 words) → IsBehind role front (take (2 + identity_words front.cam) words)
behind_read role front [] mode there named = absurd (omega arith)
behind_read role front (word ∷ []) mode there named = absurd (omega arith)
behind_read role front (word ∷ message ∷ words) mode there named =
    let m = ident_size front.cam.ce front.cam.ie in
    let n = ident_size front.cam.cr front.cam.ir in
    let two : 2 + (m + n) ≡ suc (suc (m + n)) = omega arith in
    let one : 1 + m ≡ suc m = omega arith in
    let controller : ident_words front.controller ≡ take n (drop m words) = named.controller_words ∙ ap (λ i. take n (drop i (message ∷ words))) one in
    let row : take (m + n) words ≡ ident_words front.controllee ++ ident_words front.controller =
    take-add m n words ∙ ap (λ xs. xs ++ take n (drop m words)) (sym named.controllee_words) ∙ ap (λ xs. ident_words front.controllee ++ xs) (sym controller) in
    record {
      mode_word = word;
      mode = mode;
      controllee = named.controllee;
      controller = named.controller;
      all = ap (λ i. take i (word ∷ message ∷ words)) two ∙ ap (λ xs. word ∷ message ∷ xs) row ∙ ap (λ x. word ∷ x ∷ (ident_words front.controllee ++ ident_words front.controller)) (sym named.message);
    }

pub cut_at_end : (role : Role) (p : Prologue) (words : List ℕ) → length words ≡ 0 → IsCutAt role p words 0
cut_at_end role p [] none = record {
  stopped = record { within = omega arith; begun = tt; here = λ h. absurd (omega arith) };
  unfinished = λ front n same h. absurd (omega (arith, length-behind _ front (take n []) h, length-take {A = ℕ} n []));
}
cut_at_end role p (word ∷ words) none = absurd (omega arith)

-- the mode word stands first
mode_word_first : (role : Role) (front : CommandPrologue) (words : List ℕ) (n : ℕ) (h : IsBehind role front (take n words)) → h.mode_word ≡ get_or words 0 0
mode_word_first role front words n h =
    let some : 0 < n = omega (arith, length-behind _ front (take n words) h, length-take n words) in
    sym (ap (λ xs. get_or xs 0 0) h.all) ∙ get_or-take n words 0 0 some

pub cut_at_mode : (role : Role) (p : Prologue) (words : List ℕ) → 0 < length words → ((cam : Cam) → ¬ IsMode role p cam (get_or words 0 0)) → IsCutAt role p words 0
cut_at_mode role p [] there none = absurd (omega arith)
cut_at_mode role p (word ∷ words) there none = record {
  stopped = record { within = omega arith; begun = tt; here = λ h begun. none begun.0 begun.1.0 };
  unfinished = λ front n same h.
      none front.cam (subst (λ (q : Prologue). IsMode role q front.cam word) same (subst (IsMode role front.prologue front.cam) (mode_word_first role front (word ∷ words) n h) h.mode));
}

pub cut_short : (role : Role) (p : Prologue) (cam : Cam) (words : List ℕ) → 0 < length words → IsMode role p cam (get_or words 0 0)
    → length words < 2 + identity_words cam → IsCutAt role p words (length words)
cut_short role p cam [] there mode short = absurd (omega arith)
cut_short role p cam (word ∷ words) there mode short = record {
  stopped = record {
    within = omega arith;
    begun = subst (IsBegun role p) (sym (take_all (length (word ∷ words)) (word ∷ words) (omega arith))) (cam, (mode, omega arith));
    here = λ h. absurd (omega arith);
  };
  unfinished = λ front n same h.
      let first = mode_word_first role front (word ∷ words) n h in
      let e = one_cam front.cam cam word (subst (IsSpelled front.cam) first h.mode.spelled.spelled) mode.spelled.spelled in
      absurd (omega (arith, length-behind _ front (take n (word ∷ words)) h, length-take n (word ∷ words), ap identity_words e));
}

module _ (profile : PacketProfile) (role : Role) where
  -- the words of a prologue are as many as it says
  pub command_length : (v : CommandPrologue) (words : List ℕ) → IsCommandPrologue profile role v words → length words ≡ command_words v
  command_length v words h = length-front profile role v words h

  -- a prologue in front of words has its parts from them
  front_told : (v : CommandPrologue) (m : ℕ) (words : List ℕ) → IsCommandPrologue profile role v (take m words)
      → (prologue_words v.prologue.header.timed < m) × (take m words ≡ take (command_words v) words)
      × IsPrologue profile v.prologue (take (prologue_words v.prologue.header.timed) words)
      × IsSpelled v.cam (get_or words (prologue_words v.prologue.header.timed) 0)
  front_told v m words h =
      let j = prologue_words v.prologue.header.timed in
      let long = command_length v (take m words) h in
      let cut = length-take m words in
      let less : j < m = omega arith in
      let same : take m words ≡ take (command_words v) words = sym (take_min m words) ∙ ap (λ n. take n words) (sym cut ∙ long) in
      let word : get_or words j 0 ≡ h.behind.mode_word =
      sym (get_or-drop j (take m words) 0 0 ∙ ap (λ n. get_or (take m words) n 0) (add-zero j) ∙ get_or-take m words j 0 less)
      ∙ ap (λ xs. get_or xs 0 0) h.behind.all in (
        less,
        same,
        subst (IsPrologue profile v.prologue) (take-take j m words (omega arith)) h.prologue.prologue,
        subst (IsSpelled v.cam) (sym word) h.behind.mode.spelled.spelled,
      )

  -- words have one in front
  pub one_in_front : (a b : CommandPrologue) (m n : ℕ) (words : List ℕ) → IsCommandPrologue profile role a (take m words) → IsCommandPrologue profile role b (take n words) → a ≡ b
  one_in_front a b m n words p q =
      let j = prologue_words a.prologue.header.timed in
      let k = prologue_words b.prologue.header.timed in
      let s = front_told a m words p in
      let t = front_told b n words q in
      let there : take j words ++ drop j words ≡ words = take-append-drop j words in
      let start = one_start profile a.prologue b.prologue (take j words) (drop j words) s.2 (subst (λ xs. IsPrologue profile b.prologue (take k xs)) (sym there) t.2) in
      let same : k ≡ j = start.1 ∙ s.2.all in
      let cam : b.cam ≡ a.cam = one_cam b.cam a.cam (get_or words j 0) (subst (λ i. IsSpelled b.cam (get_or words i 0)) same t.3) s.3 in
      let long : command_words b ≡ command_words a = ap (λ i. i + 2 + identity_words b.cam) same ∙ ap (λ (c : Cam). j + 2 + identity_words c) cam in
      let row : take n words ≡ take m words = t.1 ∙ ap (λ i. take i words) long ∙ sym s.1 in
      one_command_prologue profile role a b (take m words) p (subst (IsCommandPrologue profile role b) row q)

  whole_prologue : (p : Prologue) (cam : Cam) (word message : ℕ) (front words : List ℕ) → IsPrologueOf profile (kind_of role) p front → IsMode role p cam word
      → length words ≡ identity_words cam → (v : CommandPrologue) × IsCommandPrologue profile role v (front ++ (word ∷ message ∷ words))
  unfolding front_in
  whole_prologue p cam word message front words is mode long =
      let behind = word ∷ message ∷ words in
      let n = prologue_words p.header.timed in
      let there : take n (front ++ behind) ≡ front = take_at front behind n is.prologue.all in
      let rest : drop n (front ++ behind) ≡ behind = drop_at front behind n is.prologue.all in (
        front_in p cam message words,
        record {
          prologue = subst (IsPrologueOf profile (kind_of role) p) (sym there) is;
          behind = subst (IsBehind role (front_in p cam message words)) (sym rest) (behind_in role p cam word message words mode long);
        },
      )

  next_word : (p : Prologue) (front words : List ℕ) → IsPrologueOf profile (kind_of role) p front → AreWords words → IsBegun role p words
      → ((v : CommandPrologue) × IsCommandPrologue profile role v (front ++ words)) ⊎ ((x : ℕ) × ((x < 2 ^ 32) × IsBegun role p (words ++ x ∷ [])))
  next_word p front [] is fit begun =
      let mode = mode_there profile role p front is in
      inr (word_of_cam mode.0, (word_fits mode.0, (mode.0, (mode.1, omega arith))))
  next_word p front (word ∷ []) is fit begun = inr (0, (omega arith, (begun.0, (begun.1.0, omega arith))))
  next_word p front (word ∷ message ∷ words) is fit begun = elim (cases_lt (length words) (identity_words begun.0)) [
    | inl less ↦ inr (0, (omega arith, (begun.0, (begun.1.0, omega (arith, length-append words (0 ∷ []))))))
    | inr all ↦ inl (whole_prologue p begun.0 word message front words is begun.1.0 (omega (arith, begun.1.1)))
  ]

  sound_behind : (p : Prologue) (v : CommandPrologue) (front words rest : List ℕ) → IsPrologueOf profile (kind_of role) p front
      → IsCommandPrologue profile role v (front ++ (words ++ rest)) → IsBegun role p words
  sound_behind p v front words rest is whole =
      let start = one_start profile p v.prologue front (words ++ rest) is.prologue whole.prologue.prologue in
      let behind : drop (prologue_words v.prologue.header.timed) (front ++ (words ++ rest)) ≡ words ++ rest = drop_at front (words ++ rest) _ (sym start.1) in
      subst (λ (q : Prologue). IsBegun role q words) start.0 (begun_by_behind role v words rest (subst (IsBehind role v) behind whole.behind))

  grown : AreGrown (IsPrologueOf profile (kind_of role)) (IsCommandPrologue profile role) (IsBegun role) (λ p. 10)
  grown = record {
    front = λ v words h. (v.prologue, (prologue_words v.prologue.header.timed, h.prologue));
    sound = sound_behind;
    start = λ p front h. tt;
    next = next_word;
    bounded = λ p words h. begun_short role p words h;
  }

  -- a prologue that is refused, and one behind which a word is wrong or missing
  pub refused_in_prologue : (words : List ℕ) (place : ℕ) → IsRefusedAt (IsPrologueOf profile (kind_of role)) words place
      → ((p : Prologue) (n : ℕ) → ¬ IsPrologueOf profile (kind_of role) p (take n words))
      → IsRefusedAt (IsCommandPrologue profile role) words place × ((v : CommandPrologue) (n : ℕ) → ¬ IsCommandPrologue profile role v (take n words))
  refused_in_prologue words place at none = (
    refused_in_front (IsPrologueOf profile (kind_of role)) (IsCommandPrologue profile role) (IsBegun role) (λ p. 10) grown words place at none,
    none_in_front (IsPrologueOf profile (kind_of role)) (IsCommandPrologue profile role) (IsBegun role) (λ p. 10) grown words none,
  )

  pub refused_behind_prologue : (p : Prologue) (words : List ℕ) (k : ℕ) → AreWords words → prologue_words p.header.timed ≤ length words
      → IsPrologueOf profile (kind_of role) p (take (prologue_words p.header.timed) words) → IsCutAt role p (drop (prologue_words p.header.timed) words) k
      → IsRefusedAt (IsCommandPrologue profile role) words (prologue_words p.header.timed + k)
  refused_behind_prologue p words k fit inside is cut =
      refused_behind (IsPrologueOf profile (kind_of role)) (IsCommandPrologue profile role) (IsBegun role) (λ q. 10) grown p words (prologue_words p.header.timed) fit inside is k cut.stopped

  pub none_behind_prologue : (p : Prologue) (words : List ℕ) (k : ℕ) → prologue_words p.header.timed ≤ length words
      → IsPrologueOf profile (kind_of role) p (take (prologue_words p.header.timed) words) → IsCutAt role p (drop (prologue_words p.header.timed) words) k
      → (v : CommandPrologue) (n : ℕ) → ¬ IsCommandPrologue profile role v (take n words)
  none_behind_prologue p words k inside is cut v n h =
      let m = prologue_words p.header.timed in
      let j = prologue_words v.prologue.header.timed in
      let some = four_or_more v.prologue.header.timed in
      let some' = four_or_more p.header.timed in
      let within : j ≤ n = omega (arith, h.prologue.prologue.all, length-take j (take n words), length-take n words) in
      let first : get_or (take j (take n words)) 0 0 ≡ get_or words 0 0 =
      get_or-take j (take n words) 0 0 (omega arith) ∙ get_or-take n words 0 0 (omega arith) in
      let first' : get_or (take m words) 0 0 ≡ get_or words 0 0 = get_or-take m words 0 0 (omega arith) in
      let header = one_header profile v.prologue.header p.header (get_or words 0 0) (subst (IsHeader profile v.prologue.header) first h.prologue.prologue.header)
      (subst (IsHeader profile p.header) first' is.prologue.header) in
      let same : j ≡ m = ap (λ (x : Header). prologue_words x.timed) header in
      let e : n ≡ m + (n - m) = omega arith in
      let row : take n words ≡ take m words ++ take (n - m) (drop m words) = ap (λ i. take i words) e ∙ take-add m (n - m) words in
      let front : take j (take n words) ≡ take m words = ap (λ i. take i (take n words)) same ∙ take-take m n words (omega arith) in
      let start = one_prologue profile v.prologue p (take m words) (subst (IsPrologue profile v.prologue) front h.prologue.prologue) is.prologue in
      let behind : drop j (take n words) ≡ take (n - m) (drop m words) =
      ap (λ i. drop i (take n words)) same ∙ ap (drop m) row ∙ drop_at (take m words) (take (n - m) (drop m words)) m (length-take-le m words inside) in
      cut.unfinished v (n - m) start (subst (IsBehind role v) behind h.behind)

  -- the answer of a reader is the only one
  pub one_answer : (words : List ℕ) (result : Result CommandPrologue Place)
      → IfOk result (λ v. (n : ℕ) × IsCommandPrologue profile role v (take n words))
      → IfErr result (λ place. (v : CommandPrologue) (n : ℕ) → ¬ IsCommandPrologue profile role v (take n words))
      → (v : CommandPrologue) (n : ℕ) → IsCommandPrologue profile role v (take n words) → result ≡ Ok v
  one_answer words (Err place) ok none v n h = absurd (none v n h)
  one_answer words (Ok found) ok none v n h = ap Ok (one_in_front found v ok.0 n words ok.1 h)

  -- a prologue that is there, with what stands behind it
  pub prologue_inside : (p : Prologue) (words : List ℕ) → IsPrologueOf profile (kind_of role) p (take (prologue_words p.header.timed) words) → prologue_words p.header.timed ≤ length words
  prologue_inside p words is = omega (arith, is.prologue.all, length-take (prologue_words p.header.timed) words)

  pub whole_front : (p : Prologue) (front : CommandPrologue) (words : List ℕ) → IsPrologueOf profile (kind_of role) p (take (prologue_words p.header.timed) words)
      → front.prologue ≡ p → command_words front ≤ length words → IsBehind role front (take (2 + identity_words front.cam) (drop (prologue_words p.header.timed) words))
      → IsCommandPrologue profile role front (take (command_words front) words)
  whole_front p front words is same there behind =
      let n = prologue_words front.prologue.header.timed in
      let e : prologue_words p.header.timed ≡ n = ap (λ (q : Prologue). prologue_words q.header.timed) (sym same) in
      let j = 2 + identity_words front.cam in
      let sum : command_words front ≡ n + j = omega arith in
      let row : take (command_words front) words ≡ take n words ++ take j (drop n words) = ap (λ i. take i words) sum ∙ take-add n j words in
      let long : length (take n words) ≡ n = length-take-le n words (omega arith) in
      let first : take n (take (command_words front) words) ≡ take n words = ap (take n) row ∙ take_at (take n words) (take j (drop n words)) n long in
      let rest : drop n (take (command_words front) words) ≡ take j (drop n words) = ap (drop n) row ∙ drop_at (take n words) (take j (drop n words)) n long in
      record {
        prologue = subst (IsPrologueOf profile (kind_of role) front.prologue) (sym first)
            (subst (λ i. IsPrologueOf profile (kind_of role) front.prologue (take i words)) e (subst (λ (q : Prologue). IsPrologueOf profile (kind_of role) q (take (prologue_words p.header.timed) words)) (sym same) is));
        behind = subst (IsBehind role front) (sym rest) (subst (λ i. IsBehind role front (take j (drop i words))) e behind);
      }

  -- what begins with the words of one prologue has no other in front, and the rest stands behind it
  pub one_before : (a b : CommandPrologue) (front behind : List ℕ) → IsCommandPrologue profile role a front
      → IsCommandPrologue profile role b (take (command_words b) (front ++ behind)) → (b ≡ a) × (drop (command_words b) (front ++ behind) ≡ behind)
  one_before a b front behind p q =
      let all : take (length front) (front ++ behind) ≡ front = take_at front behind (length front) refl in
      let same : b ≡ a = one_in_front b a (command_words b) (length front) (front ++ behind) q (subst (IsCommandPrologue profile role a) (sym all) p) in
      let long : length front ≡ command_words b = command_length a front p ∙ ap command_words (sym same) in
      (same, drop_at front behind (command_words b) long)

  -- the size in the header leaves words that can stand behind it
  pub content_left : (v : CommandPrologue) (words : List ℕ) → IsCommandPrologue profile role v words
      → (content : ℕ) × ((v.prologue.header.size ≡ command_words v + content) × IsContentSize role v.cam content)
  content_left v words h = (h.behind.mode.content, (h.behind.mode.size, h.behind.mode.allowed))

  -- the header is that of a packet of the kind
  pub header_kind : (v : CommandPrologue) (n : ℕ) (words : List ℕ) → IsCommandPrologue profile role v (take n words) → IsKind (kind_of role) (get_or words 0 0)
  header_kind v n words h =
      let j = prologue_words v.prologue.header.timed in
      let some = four_or_more v.prologue.header.timed in
      let told = front_told v n words h in
      let first : get_or (take j (take n words)) 0 0 ≡ get_or words 0 0 =
      get_or-take j (take n words) 0 0 (omega arith) ∙ get_or-take n words 0 0 (omega (arith, told.0)) in
      subst (λ (k : Kind). IsKind k (get_or words 0 0)) h.prologue.kind (subst (IsKind v.prologue.header.kind) first h.prologue.prologue.header.kind)
