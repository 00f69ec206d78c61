-- Laws of context packets: the words determine them, and they are refused where a step goes wrong.
use Rattle.std.proofs.Common.{◌≡◌, ℕ, suc, ◌+◌, ◌-◌, ◌*◌, ◌^◌, ◌<◌, ◌≤◌, ◌==◌, List, [], ◌∷◌, ◌++◌, length, take, drop, get_or, inl, inr, refl, sym, ap, ◌∙◌, subst, length-append, length-drop, arith}
use Rattle.std.proofs.lemmas.Bool.{cases_lt}
use Rattle.std.proofs.lemmas.List.{take_at, take_all, get_or-append_right}
use Rattle.vrt_words.specs.Words.{words_of, bits, AreWords, AreBytes}
use Rattle.vrt_words.specs.Begins.{IsDatagram, IsRefusedAt, IsRefused}
use Rattle.vrt_words.proofs.WordLaws.{AreWords-test, length-words_of}
use Rattle.vrt_words.specs.Growing.{AreGrown, IsStoppedAt}
use Rattle.vrt_words.proofs.GrowingLaws.{refused_datagram, refused_datagram_in_front}
use Rattle.vrt_words.proofs.BeginLaws.{behind_front, length-behind, row_behind, one_more_before, one_more_last}
use Rattle.vrt_header.specs.Profile.{PacketProfile}
use Rattle.vrt_header.specs.Prologue.{IsPrologueOf}
use Rattle.vrt_header.proofs.KindLaws.{one_of_kind, seven_words}
use Rattle.vrt_header.specs.declared.header.Kind.TheVariants.{Context}
use Rattle.vrt_header.specs.declared.prologue.Prologue.{Prologue}
use Rattle.vrt_fields.specs.Format.{IsFormatFirst, IsFormatSecond}
use Rattle.vrt_fields.proofs.FormatLaws.{sixteen_bits_first}
use Rattle.difi_context.specs.Context.{IsContext, fields_bits}
use Rattle.difi_context.specs.Steps.{IsRight, IsWrongAt, IsBehind}
use Rattle.difi_context.specs.declared.context.ContextRec.{ContextRec}

same_context : (a b : ContextRec) → a.prologue ≡ b.prologue → a.changed ≡ b.changed → a.fields ≡ b.fields → a ≡ b
same_context a b p q r = grind arith

-- words spell one context
pub one_context : (profile : PacketProfile) (a b : ContextRec) (words : List ℕ) → IsContext profile a words → IsContext profile b words → a ≡ b
one_context profile a b words p q =
    same_context a b (one_of_kind profile Context a.prologue b.prologue (take 7 words) p.prologue q.prologue) (p.changed ∙ sym q.changed) (p.fields ∙ sym q.fields)

-- ---- what goes on behind the prologue

-- the words behind it with which a context may go on
pub record IsBegun (p : Prologue) (words : List ℕ) : Type 0 where
  pub cif0 : 0 < length words → bits (get_or words 0 0) 0 31 ≡ fields_bits
  pub rate_high : 12 < length words → get_or words 12 0 < 2 ^ 31
  pub rate_low : 13 < length words → 2 ^ 20 ≤ get_or words 12 0 * 2 ^ 32 + get_or words 13 0
  pub format_first : 18 < length words → IsFormatFirst (get_or words 18 0)
  pub format_second : 19 < length words → IsFormatSecond (get_or words 19 0)
  pub size : length words ≤ 20

-- words of a context behind its prologue, each right behind any in front of it
abbrev plain : List ℕ
plain = 0x7BB98000 ∷ 0 ∷ 0 ∷ 0 ∷ 0 ∷ 0 ∷ 0 ∷ 0 ∷ 0 ∷ 0 ∷ 0 ∷ 0 ∷ 0 ∷ 1048576 ∷ 0 ∷ 0 ∷ 0 ∷ 0 ∷ 0xA00003CF ∷ 0 ∷ []

AreWords-plain : AreWords plain
AreWords-plain = AreWords-test plain refl

next_begun : (p : Prologue) (words : List ℕ) → length words < 20 → IsBegun p words → IsBegun p (words ++ get_or plain (length words) 0 ∷ [])
next_begun p words less b =
    let x = get_or plain (length words) 0 in
    let xs = words ++ x ∷ [] in
    let long : length xs ≡ length words + 1 = length-append words (x ∷ []) in
    let kept : (j : ℕ) → j < length words → get_or xs j 0 ≡ get_or words j 0 = λ j h. one_more_before words x j h in
    let last : (j : ℕ) → j ≡ length words → get_or xs j 0 ≡ get_or plain j 0 = λ j e. one_more_last words x j e ∙ ap (λ n. get_or plain n 0) (sym e) in
    record {
      cif0 = λ h. elim (cases_lt 0 (length words)) [
        | inl old ↦ ap (λ w. bits w 0 31) (kept 0 old) ∙ b.cif0 old
        | inr new ↦ ap (λ w. bits w 0 31) (last 0 (omega arith))
      ];
      rate_high = λ h. elim (cases_lt 12 (length words)) [
        | inl old ↦ omega (arith, kept 12 old, b.rate_high old)
        | inr new ↦ omega (arith, last 12 (omega arith))
      ];
      rate_low = λ h. elim (cases_lt 13 (length words)) [
        | inl old ↦ omega (arith, kept 12 (omega arith), kept 13 old, b.rate_low old)
        | inr new ↦ omega (arith, last 13 (omega arith))
      ];
      format_first = λ h. elim (cases_lt 18 (length words)) [
        | inl old ↦ subst IsFormatFirst (sym (kept 18 old)) (b.format_first old)
        | inr new ↦ subst IsFormatFirst (sym (last 18 (omega arith))) sixteen_bits_first
      ];
      format_second = λ h. elim (cases_lt 19 (length words)) [
        | inl old ↦ kept 19 old ∙ b.format_second old
        | inr new ↦ last 19 (omega arith)
      ];
      size = omega arith;
    }

abbrev context_in : Prologue → List ℕ → ContextRec
context_in p words = record { prologue = p; changed = bits (get_or words 7 0) 31 1 == 1; fields = drop 8 words }

whole : (profile : PacketProfile) (p : Prologue) (front words : List ℕ) → IsPrologueOf profile Context p front → IsBegun p words → length words ≡ 20
    → IsContext profile (context_in p (front ++ words)) (front ++ words)
whole profile p front words is b all =
    let seven = seven_words profile Context p front refl is in
    let at : (j : ℕ) → get_or (front ++ words) (7 + j) 0 ≡ get_or words j 0 = λ j.
    let back : (7 + j) - 7 ≡ j = omega arith in
    get_or-append_right front words 7 (7 + j) 0 seven (omega arith) ∙ ap (λ n. get_or words n 0) back in
    record {
      all = length-append front words ∙ omega arith;
      prologue = subst (IsPrologueOf profile Context p) (sym (take_at front words 7 seven)) is;
      changed = refl;
      cif0 = ap (λ w. bits w 0 31) (at 0) ∙ b.cif0 (omega arith);
      fields = refl;
      rate = record { positive = omega (arith, at 12, b.rate_high (omega arith)); least = omega (arith, at 12, at 13, b.rate_low (omega arith)) };
      format_first = subst IsFormatFirst (sym (at 18)) (b.format_first (omega arith));
      format_second = at 19 ∙ b.format_second (omega arith);
    }

begun_front : (profile : PacketProfile) (p : Prologue) (v : ContextRec) (front words rest : List ℕ) → IsPrologueOf profile Context p front
    → IsContext profile v (front ++ (words ++ rest)) → IsBegun p words
begun_front profile p v front words rest is h =
    let seven = seven_words profile Context p front refl is in
    let at : (j : ℕ) → j < length words → get_or (front ++ (words ++ rest)) (7 + j) 0 ≡ get_or words j 0 = λ j lt. row_behind front words rest 7 j seven lt in
    record {
      cif0 = λ lt. ap (λ w. bits w 0 31) (sym (at 0 lt)) ∙ h.cif0;
      rate_high = λ lt. omega (arith, at 12 lt, h.rate.positive);
      rate_low = λ lt. omega (arith, at 12 (omega arith), at 13 lt, h.rate.least);
      format_first = λ lt. subst IsFormatFirst (at 18 lt) h.format_first;
      format_second = λ lt. sym (at 19 lt) ∙ h.format_second;
      size = omega (arith, seven, h.all, length-append front (words ++ rest), length-append words rest);
    }

pub grown : (profile : PacketProfile) → AreGrown (IsPrologueOf profile Context) (IsContext profile) IsBegun (λ p. 20)
grown profile = record {
  front = λ v words h. (v.prologue, (7, h.prologue));
  sound = begun_front profile;
  start = λ p front is. record {
    cif0 = λ h. absurd (omega arith);
    rate_high = λ h. absurd (omega arith);
    rate_low = λ h. absurd (omega arith);
    format_first = λ h. absurd (omega arith);
    format_second = λ h. absurd (omega arith);
    size = omega arith;
  };
  next = λ p front words is fits b. elim (cases_lt (length words) 20) [
    | inl less ↦ inr (get_or plain (length words) 0, (AreWords-plain (length words), next_begun p words less b))
    | inr all ↦ inl (context_in p (front ++ words), whole profile p front words is b (omega (arith, b.size)))
  ];
  bounded = λ p words b. b.size;
}

-- ---- refusals

-- a datagram with no prologue in front is refused where that is
pub front_refused : (profile : PacketProfile) (bytes : List ℕ) (place : ℕ) → IsRefusedAt (IsPrologueOf profile Context) (words_of bytes) place
    → ((p : Prologue) (n : ℕ) → ¬ IsPrologueOf profile Context p (take n (words_of bytes))) → IsRefused (IsContext profile) bytes place
front_refused profile bytes place at none =
    refused_datagram_in_front (IsPrologueOf profile Context) (IsContext profile) IsBegun (λ p. 20) (grown profile) bytes place at none

begun_of_right : (p : Prologue) (words : List ℕ) (k : ℕ) → 7 + k ≤ length words → IsRight words (7 + k) → IsBegun p (take k (drop 7 words))
begun_of_right p words k there r =
    let long = length-behind 7 k words there in
    let at : (j : ℕ) → j < k → get_or (take k (drop 7 words)) j 0 ≡ get_or words (7 + j) 0 = λ j lt. behind_front 7 k words j lt in
    record {
      cif0 = λ h. ap (λ w. bits w 0 31) (at 0 (omega arith)) ∙ r.cif0 (omega arith);
      rate_high = λ h. omega (arith, at 12 (omega arith), r.rate_high (omega arith));
      rate_low = λ h. omega (arith, at 12 (omega arith), at 13 (omega arith), r.rate_low (omega arith));
      format_first = λ h. subst IsFormatFirst (sym (at 18 (omega arith))) (r.format_first (omega arith));
      format_second = λ h. at 19 (omega arith) ∙ r.format_second (omega arith);
      size = omega (arith, r.size);
    }

right_of_begun : (p : Prologue) (words : List ℕ) (k : ℕ) → 7 + k ≤ length words → IsBegun p (take k (drop 7 words)) → IsRight words (7 + k)
right_of_begun p words k there b =
    let long = length-behind 7 k words there in
    let at : (j : ℕ) → j < k → get_or (take k (drop 7 words)) j 0 ≡ get_or words (7 + j) 0 = λ j lt. behind_front 7 k words j lt in
    record {
      cif0 = λ h. ap (λ w. bits w 0 31) (sym (at 0 (omega arith))) ∙ b.cif0 (omega arith);
      rate_high = λ h. omega (arith, at 12 (omega arith), b.rate_high (omega arith));
      rate_low = λ h. omega (arith, at 12 (omega arith), at 13 (omega arith), b.rate_low (omega arith));
      format_first = λ h. subst IsFormatFirst (at 18 (omega arith)) (b.format_first (omega arith));
      format_second = λ h. sym (at 19 (omega arith)) ∙ b.format_second (omega arith);
      size = omega (arith, b.size);
    }

stopped : (p : Prologue) (bytes : List ℕ) (k : ℕ) → IsWrongAt bytes (7 + k) → IsStoppedAt (IsBegun p) (drop 7 (words_of bytes)) k
stopped p bytes k wrong =
    let words = words_of bytes in
    let rest = length-drop 7 words in
    record {
      within = omega (arith, wrong.right.there, rest);
      begun = begun_of_right p words k wrong.right.there wrong.right.right;
      here = λ there b.
          let inside : 7 + k < length words = omega (arith, rest) in
          let next : 7 + suc k ≡ suc (7 + k) = omega arith in
          wrong.here inside (subst (IsRight words) next (right_of_begun p words (suc k) (omega arith) b));
    }

-- a datagram that goes wrong behind its prologue is refused there
pub behind_refused : (profile : PacketProfile) (p : Prologue) (bytes : List ℕ) (place : ℕ) → AreBytes bytes → IsPrologueOf profile Context p (take 7 (words_of bytes))
    → IsWrongAt bytes place → IsRefused (IsContext profile) bytes place
behind_refused profile p bytes place fits is wrong =
    let behind : 7 + (place - 7) ≡ place = omega (arith, wrong.behind) in
    let stop = stopped p bytes (place - 7) (subst (IsWrongAt bytes) (sym behind) wrong) in
    subst (IsRefused (IsContext profile) bytes) behind
    (refused_datagram (IsPrologueOf profile Context) (IsContext profile) IsBegun (λ p. 20) (grown profile) p bytes 7 (place - 7) fits
    (omega (arith, wrong.right.there, wrong.behind)) is stop
    (λ e v d. wrong.more (omega (arith, d.packet.all)) (d.whole ∙ ap (λ n. 4 * n) d.packet.all)))

-- a datagram that is right behind its prologue is a context
pub behind_found : (profile : PacketProfile) (v : ContextRec) (bytes : List ℕ) → IsPrologueOf profile Context v.prologue (take 7 (words_of bytes))
    → IsBehind v.changed bytes → v.fields ≡ take 19 (drop 8 (words_of bytes)) → IsDatagram (IsContext profile) v bytes
behind_found profile v bytes h behind fields =
    let words = words_of bytes in
    let count = length-words_of bytes in
    let all : length words ≡ 27 = omega (arith, count.0, count.1, behind.whole) in
    let right = behind.right.right in
    record {
      whole = behind.whole ∙ ap (λ n. 4 * n) (sym all);
      packet = record {
        all = all;
        prologue = h;
        changed = behind.change_told;
        cif0 = right.cif0 (omega arith);
        fields = fields ∙ take_all 19 (drop 8 words) (omega (arith, length-drop 8 words));
        rate = record { positive = right.rate_high (omega arith); least = right.rate_low (omega arith) };
        format_first = right.format_first (omega arith);
        format_second = right.format_second (omega arith);
      };
    }

-- a datagram is one context
pub one_datagram : (profile : PacketProfile) (a b : ContextRec) (bytes : List ℕ) → IsDatagram (IsContext profile) a bytes → IsDatagram (IsContext profile) b bytes → a ≡ b
one_datagram profile a b bytes p q = one_context profile a b (words_of bytes) p.packet q.packet
