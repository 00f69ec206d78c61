-- Laws of how a content goes on: behind each of its words a packet has another one, or is whole.
use Rattle.std.proofs.Common.{◌≡◌, ℕ, suc, ◌+◌, ◌-◌, ◌*◌, ◌^◌, ◌<◌, ◌≤◌, ◌⊎◌, inl, inr, Bool, true, false, List, [], ◌∷◌, ◌++◌, length, take, drop, Option, Some, None, refl, sym, ap, ◌∙◌, subst, append-nil, length-append, length-drop, take-append-drop, arith}
use Rattle.std.proofs.lemmas.Bool.{cases_lt}
use Rattle.std.proofs.lemmas.List.{take_all}
use Rattle.vrt_words.specs.Words.{AreWords}
use Rattle.vrt_fields.specs.Field.{fields_in_order}
use Rattle.vrt_fields.specs.FieldSet.{FieldValues, IsFieldSet, IsFieldMask, mask_of, words_of_set, width_of_mask, number_in_mask}
use Rattle.vrt_fields.proofs.FieldSetLaws.{AllFit-IsFieldSet, fits_read, mask_read, words_read, mask_is_of_fields, width_is_of_fields}
use Rattle.vrt_fields.proofs.MaskLaws.{mask_of_width, mask_of_number}
use Rattle.vrt_fields.specs.Values.{values_in}
use Rattle.cam_field.specs.Cam.{IsForRole}
use Rattle.cam_field.specs.Spelling.{bit_of}
use Rattle.cam_field.specs.declared.cam.Cam.{Cam}
use Rattle.cam_field.specs.declared.modes.Role.TheVariants as roles
use Rattle.command_prologue.specs.CommandPrologue.{IsAnswerSize}
use Rattle.command_prologue.proofs.CommandPrologueLaws.{same_head}
use Rattle.command_prologue.specs.declared.prologue.CommandPrologue.{CommandPrologue}
use Rattle.ack_codec.specs.Responses.{AreResponses, listed_words}
use Rattle.ack_codec.proofs.ResponseLaws.{responses_under, responses_read, listed_read, length-listed_words, at_most_twelve}
use Rattle.ack_codec.specs.Ack.{front_of, kind_bit, AreAnnounced, report_words, IsState, IsContent}
use Rattle.ack_codec.specs.Steps.{left_of, IsBegunOne, IsBegunTwo, IsBegunReport, IsBegunKind, report_with}
use Rattle.ack_codec.specs.declared.responses.Responses.{Responses}
use Rattle.ack_codec.specs.declared.ack.Ack.{Ack}
use Rattle.ack_codec.specs.declared.ack.Ack.TheVariants.{V, X, S}
use Rattle.ack_codec.specs.declared.ack.AckState.{AckState}
use Rattle.ack_codec.proofs.ContentLaws.{kind_v, kind_x, announced_none, announced_some}

-- ---- what a packet goes on with

begun_one : (weight : ℕ → ℕ) (mask : ℕ) (listed words rest : List ℕ) → IsFieldMask mask → length listed ≡ weight mask → words ++ rest ≡ mask ∷ listed
    → IsBegunOne weight (length (words ++ rest)) words
begun_one weight mask listed [] rest only long e = omega (arith, ap length e)
begun_one weight mask listed (word ∷ words) rest only long e =
    let parts = same_head word mask (words ++ rest) listed e in
    let size : weight word ≡ length (words ++ rest) = ap weight parts.0 ∙ sym long ∙ sym (ap length parts.1) in
    (subst IsFieldMask (sym parts.0) only, (omega (arith, size), omega (arith, size, length-append words rest)))

begun_two : (a b : ℕ) (listed words rest : List ℕ) → IsFieldMask a → IsFieldMask b → length listed ≡ number_in_mask a + number_in_mask b
    → words ++ rest ≡ a ∷ b ∷ listed → IsBegunTwo (length (words ++ rest)) words
begun_two a b listed [] rest only only' long e = omega (arith, ap length e)
begun_two a b listed (first ∷ []) rest only only' long e =
    let parts = same_head first a rest (b ∷ listed) e in
    let size = ap number_in_mask parts.0 in
    let most = at_most_twelve b in
    (subst IsFieldMask (sym parts.0) only, (omega (arith, size, ap length e, long), omega (arith, size, ap length e, long, most)))
begun_two a b listed (first ∷ second ∷ words) rest only only' long e =
    let parts = same_head first a (second ∷ (words ++ rest)) (b ∷ listed) e in
    let parts' = same_head second b (words ++ rest) listed parts.1 in
    let size = ap number_in_mask parts.0 in
    let size' = ap number_in_mask parts'.0 in
    let all = ap length parts'.1 in (
      subst IsFieldMask (sym parts.0) only,
      (
        subst IsFieldMask (sym parts'.0) only',
        (omega (arith, size, size', all, long), omega (arith, size, size', all, long, length-append words rest)),
      ),
    )

begun_report : (warned erred : Bool) (w e : Option Responses) (words rest : List ℕ) → AreAnnounced warned w → AreAnnounced erred e
    → words ++ rest ≡ report_words w e → IsBegunReport warned erred (length (words ++ rest)) words
begun_report false false w e words rest p q same =
    let empty : words ++ rest ≡ [] = same ∙ ap (λ (o : Option Responses). report_words o e) (announced_none w p) ∙ ap (report_words None) (announced_none e q) in
    omega (arith, ap length empty, length-append words rest)
begun_report true false w e words rest p q same =
    let a = announced_some w p in
    let row : words ++ rest ≡ a.0.cif0 ∷ listed_words a.0 =
    same ∙ ap (λ (o : Option Responses). report_words o e) a.1.0 ∙ ap (report_words (Some a.0)) (announced_none e q) ∙ ap (λ xs. a.0.cif0 ∷ xs) (append-nil (listed_words a.0)) in
    begun_one number_in_mask a.0.cif0 (listed_words a.0) words rest a.1.1.mask (length-listed_words a.0 a.1.1) row
begun_report false true w e words rest p q same =
    let a = announced_some e q in
    let row : words ++ rest ≡ a.0.cif0 ∷ listed_words a.0 =
    same ∙ ap (λ (o : Option Responses). report_words o e) (announced_none w p) ∙ ap (report_words None) a.1.0 in
    begun_one number_in_mask a.0.cif0 (listed_words a.0) words rest a.1.1.mask (length-listed_words a.0 a.1.1) row
begun_report true true w e words rest p q same =
    let a = announced_some w p in
    let b = announced_some e q in
    let row : words ++ rest ≡ report_words (Some a.0) (Some b.0) =
    same ∙ ap (λ (o : Option Responses). report_words o e) a.1.0 ∙ ap (report_words (Some a.0)) b.1.0 in
    begun_two a.0.cif0 b.0.cif0 (listed_words a.0 ++ listed_words b.0) words rest a.1.1.mask b.1.1.mask
    (omega (arith, length-append (listed_words a.0) (listed_words b.0), length-listed_words a.0 a.1.1, length-listed_words b.0 b.1.1)) row

begun_state : (state : AckState) (words rest : List ℕ) → IsState state (words ++ rest) → IsBegunOne width_of_mask (length (words ++ rest)) words
begun_state state words rest h =
    begun_one width_of_mask (mask_of state.fields) (words_of_set state.fields) words rest (mask_is_of_fields state.fields h.fields)
    (sym (width_is_of_fields state.fields h.fields)) h.all

pub begun_content : (ack : Ack) (words rest : List ℕ) → IsForRole roles.Ack (front_of ack).cam → kind_bit ack ≡ true → IsContent ack (words ++ rest)
    → IsBegunKind (front_of ack).cam.s (front_of ack).cam.warned (front_of ack).cam.erred (length (words ++ rest)) words
begun_content (V report) words rest asked kind h =
    subst (λ (s : Bool). IsBegunKind s report.cam.warned report.cam.erred (length (words ++ rest)) words) (sym (kind_v report.cam asked kind).1)
    (begun_report report.cam.warned report.cam.erred report.warnings report.errors words rest h.warned h.erred h.all)
begun_content (X report) words rest asked kind h =
    subst (λ (s : Bool). IsBegunKind s report.cam.warned report.cam.erred (length (words ++ rest)) words) (sym (kind_x report.cam asked kind).1)
    (begun_report report.cam.warned report.cam.erred report.warnings report.errors words rest h.warned h.erred h.all)
begun_content (S state) words rest asked kind h =
    subst (λ (s : Bool). IsBegunKind s state.cam.warned state.cam.erred (length (words ++ rest)) words) (sym kind) (begun_state state words rest h)

-- ---- and what may come next

-- a mask of this weight
record MaskOf (weight : ℕ → ℕ) (n : ℕ) : Type 0 where
  mask : ℕ
  only : IsFieldMask mask
  below : mask < 2 ^ 32
  weighs : weight mask ≡ n

wide_mask : (n : ℕ) → n ≤ 19 → MaskOf width_of_mask n
wide_mask n h = let m = mask_of_width n h in record { mask = m.mask; only = m.only; below = omega (arith, m.below); weighs = m.wide }

mask_naming : (n : ℕ) → n ≤ 12 → MaskOf number_in_mask n
mask_naming n h = let m = mask_of_number n h in record { mask = m.mask; only = m.only; below = omega (arith, m.below); weighs = m.many }

-- the words go on with another one
abbrev pub GoesOn : (List ℕ → Type 0) → List ℕ → Type 0
GoesOn IsOn words = (x : ℕ) × ((x < 2 ^ 32) × IsOn (words ++ x ∷ []))

next_one : (weight : ℕ → ℕ) (size : ℕ) (words : List ℕ) → MaskOf weight (size - 1) → IsBegunOne weight size words
    → (length words ≡ size) ⊎ GoesOn (IsBegunOne weight size) words
next_one weight size [] some h = inr (some.mask, (some.below, (some.only, (omega (arith, some.weighs), omega arith))))
next_one weight size (mask ∷ words) some h = elim (cases_lt (length words) (weight mask)) [
  | inl less ↦ inr (0, (omega arith, (h.0, (h.1.0, omega (arith, length-append words (0 ∷ []))))))
  | inr all ↦ inl (omega (arith, h.1.0, h.1.1))
]

first_of_two : (size : ℕ) → 2 ≤ size → size ≤ 26 → GoesOn (IsBegunTwo size) []
first_of_two size least most = elim (cases_lt size 15) [
  | inl few ↦
      let m = mask_naming (size - 2) (omega arith) in
      (m.mask, (m.below, (m.only, (omega (arith, m.weighs), omega (arith, m.weighs)))))
  | inr more ↦
      let m = mask_naming 12 (omega arith) in
      (m.mask, (m.below, (m.only, (omega (arith, m.weighs), omega (arith, m.weighs)))))
]

next_two : (size : ℕ) (words : List ℕ) → size ≤ 26 → IsBegunTwo size words → (length words ≡ size) ⊎ GoesOn (IsBegunTwo size) words
next_two size [] most h = inr (first_of_two size h most)
next_two size (first ∷ []) most h =
    let m = mask_naming (size - (2 + number_in_mask first)) (omega (arith, h.1.1)) in
    inr (m.mask, (m.below, (h.0, (m.only, (omega (arith, m.weighs, h.1.0), omega arith)))))
next_two size (first ∷ second ∷ words) most h = elim (cases_lt (length words) (number_in_mask first + number_in_mask second)) [
  | inl less ↦ inr (0, (omega arith, (h.0, (h.1.0, (h.1.1.0, omega (arith, length-append words (0 ∷ [])))))))
  | inr all ↦ inl (omega (arith, h.1.1.0, h.1.1.1))
]

next_report : (warned erred : Bool) (size : ℕ) (words : List ℕ) → bit_of warned + bit_of erred ≤ size → size ≤ 13 * (bit_of warned + bit_of erred)
    → IsBegunReport warned erred size words → (length words ≡ size) ⊎ GoesOn (IsBegunReport warned erred size) words
next_report false false size words least most h = inl (omega arith)
next_report true false size words least most h = next_one number_in_mask size words (mask_naming (size - 1) (omega arith)) h
next_report false true size words least most h = next_one number_in_mask size words (mask_naming (size - 1) (omega arith)) h
next_report true true size words least most h = next_two size words (omega arith) h

pub next_kind : (s warned erred : Bool) (size : ℕ) (words : List ℕ) → IsAnswerSize s (bit_of warned + bit_of erred) size
    → IsBegunKind s warned erred size words → (length words ≡ size) ⊎ GoesOn (IsBegunKind s warned erred size) words
next_kind true warned erred size words allowed h = next_one width_of_mask size words (wide_mask (size - 1) (omega (arith, allowed.1))) h
next_kind false warned erred size words allowed h = next_report warned erred size words allowed.0 allowed.1 h

-- ---- each whole content is one

set_under : (mask : ℕ) (words : List ℕ) → AreWords words → IsFieldMask mask → width_of_mask mask ≡ length words
    → IsFieldSet (values_in mask fields_in_order words) × (mask ∷ words ≡ mask_of (values_in mask fields_in_order words) ∷ words_of_set (values_in mask fields_in_order words))
set_under mask words are only long =
    let set = values_in mask fields_in_order words in
    let same : mask_of set ≡ mask = mask_read mask fields_in_order words ∙ sym only in
    let row : words_of_set set ≡ words = words_read mask fields_in_order words are (omega (arith, long)) ∙ take_all (width_of_mask mask) words (omega (arith, long)) in
    (AllFit-IsFieldSet set (fits_read mask fields_in_order words are), ap (λ m. m ∷ words) (sym same) ∙ ap (λ xs. mask_of set ∷ xs) (sym row))

-- the responses in the first words, and those in the words behind them
listed_under : (mask : ℕ) (words : List ℕ) → number_in_mask mask ≤ length words → listed_words (responses_under mask words) ≡ take (number_in_mask mask) words
listed_under mask words there = listed_read mask fields_in_order words there

are_under : (mask : ℕ) (words : List ℕ) → IsFieldMask mask → AreResponses (responses_under mask words)
are_under mask words only = responses_read (responses_under mask words) words only refl

-- a report in whole words
abbrev pub ReportIn : Bool → Bool → List ℕ → Type 0
ReportIn warned erred words = (w : Option Responses) × ((e : Option Responses) × (AreAnnounced warned w × (AreAnnounced erred e × (words ≡ report_words w e))))

no_words : (words : List ℕ) → length words ≡ 0 → words ≡ []
no_words [] h = refl
no_words (word ∷ words) h = absurd (omega arith)

one_under : (mask : ℕ) (words : List ℕ) → number_in_mask mask ≡ length words → listed_words (responses_under mask words) ≡ words
one_under mask words long = listed_under mask words (omega (arith, long)) ∙ take_all (number_in_mask mask) words (omega (arith, long))

both_under : (a b : ℕ) (words : List ℕ) → number_in_mask a + number_in_mask b ≡ length words
    → listed_words (responses_under a words) ++ listed_words (responses_under b (drop (number_in_mask a) words)) ≡ words
both_under a b words long =
    let n = number_in_mask a in
    let rest = drop n words in
    let size = length-drop n words in
    ap (λ xs. xs ++ listed_words (responses_under b rest)) (listed_under a words (omega (arith, long)))
    ∙ ap (λ xs. take n words ++ xs) (one_under b rest (omega (arith, long, size)))
    ∙ take-append-drop n words

report_in : (warned erred : Bool) (size : ℕ) (words : List ℕ) → length words ≡ size → IsBegunReport warned erred size words
    → bit_of warned + bit_of erred ≤ size → ReportIn warned erred words
report_in false false size words all h least = (None, (None, (tt, (tt, no_words words h))))
report_in true false size [] all h least = absurd (omega arith)
report_in true false size (mask ∷ words) all h least =
    let r = responses_under mask words in
    let row = one_under mask words (omega (arith, h.1.0)) in
    (Some r, (None, (are_under mask words h.0, (tt, ap (λ xs. mask ∷ xs) (sym row ∙ sym (append-nil (listed_words r)))))))
report_in false true size [] all h least = absurd (omega arith)
report_in false true size (mask ∷ words) all h least =
    let r = responses_under mask words in
    let row = one_under mask words (omega (arith, h.1.0)) in
    (None, (Some r, (tt, (are_under mask words h.0, ap (λ xs. mask ∷ xs) (sym row)))))
report_in true true size [] all h least = absurd (omega arith)
report_in true true size (first ∷ []) all h least = absurd (omega arith)
report_in true true size (first ∷ second ∷ words) all h least =
    let row = both_under first second words (omega (arith, h.1.1.0)) in (
      Some (responses_under first words),
      (
        Some (responses_under second (drop (number_in_mask first) words)),
        (
          are_under first words h.0,
          (are_under second (drop (number_in_mask first) words) h.1.0, ap (λ xs. first ∷ second ∷ xs) (sym row)),
        ),
      ),
    )

abbrev pub state_of : CommandPrologue → FieldValues → AckState
state_of front fields = record {
  prologue = front.prologue;
  cam = front.cam;
  message = front.message;
  controllee = front.controllee;
  controller = front.controller;
  fields = fields;
}

-- an acknowledgement with this front
pub record AckWith (front : CommandPrologue) (words : List ℕ) : Type 0 where
  pub ack : Ack
  pub same : front_of ack ≡ front
  pub kind : kind_bit ack ≡ true
  pub content : IsContent ack words

content_report : (front : CommandPrologue) (words : List ℕ) → (front.cam.v ≡ true) ⊎ (front.cam.x ≡ true) → ReportIn front.cam.warned front.cam.erred words → AckWith front words
content_report front words (inl v) h = record {
  ack = V (report_with front h.0 h.1.0);
  same = refl;
  kind = v;
  content = record { warned = h.1.1.0; erred = h.1.1.1.0; all = h.1.1.1.1 };
}
content_report front words (inr x) h = record {
  ack = X (report_with front h.0 h.1.0);
  same = refl;
  kind = x;
  content = record { warned = h.1.1.0; erred = h.1.1.1.0; all = h.1.1.1.1 };
}

state_in : (front : CommandPrologue) (size : ℕ) (words : List ℕ) → front.cam.s ≡ true → AreWords words → length words ≡ size → 1 ≤ size
    → IsBegunOne width_of_mask size words → AckWith front words
state_in front size [] s fit all least h = absurd (omega arith)
state_in front size (mask ∷ words) s fit all least h =
    let set = set_under mask words (λ i. fit (suc i)) h.0 (omega (arith, h.1.0)) in
    record {
      ack = S (state_of front (values_in mask fields_in_order words));
      same = refl;
      kind = s;
      content = record { fields = set.0; all = set.1 };
    }

validated_or_executed : (cam : Cam) → IsForRole roles.Ack cam → cam.s ≡ false → (cam.v ≡ true) ⊎ (cam.x ≡ true)
validated_or_executed cam (inl a) e = inl a.kind.v
validated_or_executed cam (inr (inl b)) e = inr b.x
validated_or_executed cam (inr (inr c)) e = absurd (cc (c.kind.s))

pub content_of_kind : (front : CommandPrologue) (words : List ℕ) (s : Bool) → front.cam.s ≡ s → IsForRole roles.Ack front.cam
    → IsAnswerSize s (bit_of front.cam.warned + bit_of front.cam.erred) (left_of front) → AreWords words → length words ≡ left_of front
    → IsBegunKind s front.cam.warned front.cam.erred (left_of front) words → AckWith front words
content_of_kind front words true e asked allowed fit all h = state_in front (left_of front) words e fit all allowed.0 h
content_of_kind front words false e asked allowed fit all h =
    content_report front words (validated_or_executed front.cam asked e) (report_in front.cam.warned front.cam.erred (left_of front) words all h allowed.0)

pub begun_short : (s warned erred : Bool) (size : ℕ) (words : List ℕ) → IsBegunKind s warned erred size words → length words ≤ size
begun_short true warned erred size [] h = omega arith
begun_short true warned erred size (mask ∷ words) h = omega (arith, h.1.0, h.1.1)
begun_short false false false size words h = omega arith
begun_short false true false size [] h = omega arith
begun_short false true false size (mask ∷ words) h = omega (arith, h.1.0, h.1.1)
begun_short false false true size [] h = omega arith
begun_short false false true size (mask ∷ words) h = omega (arith, h.1.0, h.1.1)
begun_short false true true size [] h = omega arith
begun_short false true true size (first ∷ []) h = omega (arith, h.1.0)
begun_short false true true size (first ∷ second ∷ words) h = omega (arith, h.1.1.0, h.1.1.1)

pub begun_start : (s warned erred : Bool) (size : ℕ) → IsAnswerSize s (bit_of warned + bit_of erred) size → IsBegunKind s warned erred size []
begun_start true warned erred size allowed = allowed.0
begun_start false false false size allowed = omega arith
begun_start false true false size allowed = omega (arith, allowed.0)
begun_start false false true size allowed = omega (arith, allowed.0)
begun_start false true true size allowed = omega (arith, allowed.0)
