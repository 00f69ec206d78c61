-- Where the content of an acknowledgement ends or goes wrong: at a mask, or where its length goes wrong.
use Rattle.std.proofs.Common.{Bool, true, false, None, ◌≡◌, ◌≢◌, ℕ, suc, ◌+◌, ◌-◌, ◌*◌, ◌<◌, ◌≤◌, List, [], ◌∷◌, ◌++◌, length, take, drop, get_or, min, refl, sym, ap, ◌∙◌, subst, length-drop, add-zero, take-append-drop, arith}
use Rattle.std.proofs.lemmas.List.{length-take, length-take-le, get_or-drop, drop_more, drop-drop, take_all, nil_from_length}
use Rattle.vrt_words.specs.Words.{words_of}
use Rattle.vrt_words.proofs.WordLaws.{length-words_of}
use Rattle.vrt_fields.specs.FieldSet.{IsFieldMask, number_in_mask}
use Rattle.cam_field.specs.Spelling.{bit_of}
use Rattle.command_prologue.specs.CommandPrologue.{IsAnswerSize}
use Rattle.vrt_words.specs.Growing.{IsStoppedAt}
use Rattle.vrt_words.specs.Sizes.{IsOtherSize}
use Rattle.ack_codec.specs.Steps.{IsBegunOne, IsBegunTwo, IsBegunNone, IsBegunReport, IsCutAt, IsMaskAt, AreReadAt}

-- ---- without a mask

stopped_none : (n : ℕ) (words : List ℕ) → IsStoppedAt (IsBegunNone n) words 0
stopped_none n words = record {
  within = omega arith;
  begun = refl;
  here = λ there begun. absurd (omega (arith, length-take-le 1 words there));
}

-- ---- one mask

stopped_mask : (weight : ℕ → ℕ) (n : ℕ) (words : List ℕ) → 1 ≤ n → ((mask : ℕ) → 0 < length words → mask ≡ get_or words 0 0 → IsFieldMask mask → 1 + weight mask ≢ n)
    → IsStoppedAt (IsBegunOne weight n) words 0
stopped_mask weight n [] some none = record { within = omega arith; begun = some; here = λ there begun. absurd (omega arith) }
stopped_mask weight n (word ∷ words) some none = record {
  within = omega arith;
  begun = some;
  here = λ there begun. none word (omega arith) refl begun.0 begun.1.0;
}

stopped_one : (weight : ℕ → ℕ) (n mask : ℕ) (words : List ℕ) (j : ℕ) → IsFieldMask mask → 1 + weight mask ≡ n → j ≤ length words → j ≤ weight mask
    → (j < length words → j ≡ weight mask) → IsStoppedAt (IsBegunOne weight n) (mask ∷ words) (suc j)
stopped_one weight n mask words j only size within most all = record {
  within = omega arith;
  begun = (only, (size, omega (arith, length-take j words)));
  here = λ there begun. absurd (omega (arith, begun.1.1, all (omega arith), length-take-le (suc j) words (omega arith)));
}

-- ---- two masks

stopped_first : (n : ℕ) (words : List ℕ) → 2 ≤ n
    → ((mask : ℕ) → 0 < length words → mask ≡ get_or words 0 0 → IsFieldMask mask → 2 + number_in_mask mask ≤ n → ¬ (n ≤ 14 + number_in_mask mask))
    → IsStoppedAt (IsBegunTwo n) words 0
stopped_first n [] some none = record { within = omega arith; begun = some; here = λ there begun. absurd (omega arith) }
stopped_first n (word ∷ words) some none = record {
  within = omega arith;
  begun = some;
  here = λ there begun. none word (omega arith) refl begun.0 begun.1.0 begun.1.1;
}

stopped_second : (n first : ℕ) (words : List ℕ) → IsFieldMask first → 2 + number_in_mask first ≤ n → n ≤ 14 + number_in_mask first
    → ((mask : ℕ) → 0 < length words → mask ≡ get_or words 0 0 → IsFieldMask mask → 2 + number_in_mask first + number_in_mask mask ≢ n)
    → IsStoppedAt (IsBegunTwo n) (first ∷ words) 1
stopped_second n first [] only least most none = record {
  within = omega arith;
  begun = (only, (least, most));
  here = λ there begun. absurd (omega arith);
}
stopped_second n first (word ∷ words) only least most none = record {
  within = omega arith;
  begun = (only, (least, most));
  here = λ there begun. none word (omega arith) refl begun.1.0 begun.1.1.0;
}

stopped_two : (n first second : ℕ) (words : List ℕ) (j : ℕ) → IsFieldMask first → IsFieldMask second → 2 + number_in_mask first + number_in_mask second ≡ n
    → j ≤ length words → j ≤ number_in_mask first + number_in_mask second → (j < length words → j ≡ number_in_mask first + number_in_mask second)
    → IsStoppedAt (IsBegunTwo n) (first ∷ second ∷ words) (suc (suc j))
stopped_two n first second words j only only' size within most all = record {
  within = omega arith;
  begun = (only, (only', (size, omega (arith, length-take j words))));
  here = λ there begun. absurd (omega (arith, begun.1.1.1, all (omega arith), length-take-le (suc j) words (omega arith)));
}

-- ---- in a datagram

mask_there : (words : List ℕ) (at mask : ℕ) → 0 < length (drop at words) → mask ≡ get_or (drop at words) 0 0 → IsFieldMask mask → IsMaskAt words at mask
mask_there words at mask there e only = record {
  there = omega (arith, length-drop at words);
  word = e ∙ get_or-drop at words 0 0 ∙ ap (λ i. get_or words i 0) (add-zero at);
  only = only;
}

-- the words from the mask on
from_mask : (words : List ℕ) (at mask : ℕ) → IsMaskAt words at mask → drop at words ≡ mask ∷ drop (at + 1) words
from_mask words at mask is = drop_more words at 0 is.there ∙ ap (λ w. w ∷ drop (at + 1) words) (sym is.word)

from_both : (words : List ℕ) (at first second : ℕ) → IsMaskAt words at first → IsMaskAt words (at + 1) second → drop at words ≡ first ∷ second ∷ drop (at + 1 + 1) words
from_both words at first second p q = from_mask words at first p ∙ ap (λ xs. first ∷ xs) (from_mask words (at + 1) second q)

module _ (at size : ℕ) (bytes : List ℕ) (inside : at ≤ length (words_of bytes)) (left : at ≤ size) where
  pub cut_none : (n place : ℕ) → at ≡ size → IsOtherSize size bytes place → IsCutAt (IsBegunNone n) at size bytes place
  cut_none n place e other = record {
    behind = 0;
    told = omega (arith, other.place_told);
    stopped = stopped_none n (drop at (words_of bytes));
    unfinished = λ h. other.other;
  }

  pub cut_mask : (weight : ℕ → ℕ) → at < size → ((mask : ℕ) → IsMaskAt (words_of bytes) at mask → 1 + weight mask ≢ size - at)
      → IsCutAt (IsBegunOne weight (size - at)) at size bytes at
  cut_mask weight some none = record {
    behind = 0;
    told = omega arith;
    stopped = stopped_mask weight (size - at) (drop at (words_of bytes)) (omega arith) (λ mask there e only. none mask (mask_there (words_of bytes) at mask there e only));
    unfinished = λ h e. absurd (omega (arith, length-words_of bytes));
  }

  pub cut_one : (weight : ℕ → ℕ) (mask place : ℕ) → IsMaskAt (words_of bytes) at mask → 1 + weight mask ≡ size - at → IsOtherSize size bytes place
      → IsCutAt (IsBegunOne weight (size - at)) at size bytes place
  cut_one weight mask place is wide other =
      let words = words_of bytes in
      let rest = length-drop (at + 1) words in
      let there = is.there in
      let j = place - suc at in
      let e : place ≡ min (length words) size = other.place_told in
      record {
        behind = suc j;
        told = omega arith;
        stopped = subst (λ xs. IsStoppedAt (IsBegunOne weight (size - at)) xs (suc j)) (sym (from_mask words at mask is))
            (stopped_one weight (size - at) mask (drop (at + 1) words) j is.only wide (omega arith) (omega arith) (λ h. omega arith));
        unfinished = λ h. other.other;
      }

  pub cut_first : 2 ≤ size - at → ((mask : ℕ) → IsMaskAt (words_of bytes) at mask → 2 + number_in_mask mask ≤ size - at → ¬ (size - at ≤ 14 + number_in_mask mask))
      → IsCutAt (IsBegunTwo (size - at)) at size bytes at
  cut_first some none = record {
    behind = 0;
    told = omega arith;
    stopped = stopped_first (size - at) (drop at (words_of bytes)) some (λ mask there e only. none mask (mask_there (words_of bytes) at mask there e only));
    unfinished = λ h e. absurd (omega (arith, length-words_of bytes));
  }

  pub cut_second : (first : ℕ) → IsMaskAt (words_of bytes) at first → 2 + number_in_mask first ≤ size - at → size - at ≤ 14 + number_in_mask first
      → ((mask : ℕ) → IsMaskAt (words_of bytes) (at + 1) mask → 2 + number_in_mask first + number_in_mask mask ≢ size - at)
      → IsCutAt (IsBegunTwo (size - at)) at size bytes (at + 1)
  cut_second first is least most none =
      let words = words_of bytes in
      let there = is.there in
      record {
        behind = 1;
        told = refl;
        stopped = subst (λ xs. IsStoppedAt (IsBegunTwo (size - at)) xs 1) (sym (from_mask words at first is))
            (stopped_second (size - at) first (drop (at + 1) words) is.only least most
            (λ mask more e only. none mask (mask_there words (at + 1) mask more e only)));
        unfinished = λ h e. absurd (omega (arith, length-words_of bytes));
      }

  pub cut_two : (first second place : ℕ) → IsMaskAt (words_of bytes) at first → IsMaskAt (words_of bytes) (at + 1) second
      → 2 + number_in_mask first + number_in_mask second ≡ size - at → IsOtherSize size bytes place → IsCutAt (IsBegunTwo (size - at)) at size bytes place
  cut_two first second place is is' sum other =
      let words = words_of bytes in
      let rest = length-drop (at + 1 + 1) words in
      let there = is'.there in
      let j = place - suc (suc at) in
      let e : place ≡ min (length words) size = other.place_told in
      record {
        behind = suc (suc j);
        told = omega arith;
        stopped = subst (λ xs. IsStoppedAt (IsBegunTwo (size - at)) xs (suc (suc j))) (sym (from_both words at first second is is'))
            (stopped_two (size - at) first second (drop (at + 1 + 1) words) j is.only is'.only sum (omega arith) (omega arith) (λ h. omega arith));
        unfinished = λ h. other.other;
      }

-- ---- a whole content

-- a mask and all the words behind it
pub whole_one : (words listed : List ℕ) (at mask n : ℕ) → IsMaskAt words at mask → length words ≡ at + 1 + n → listed ≡ take n (drop (at + 1) words)
    → drop at words ≡ mask ∷ listed
whole_one words listed at mask n is size e =
    let rest = length-drop (at + 1) words in
    from_mask words at mask is ∙ ap (λ xs. mask ∷ xs) (sym (take_all n (drop (at + 1) words) (omega arith)) ∙ sym e)

-- two masks, and all the words behind them in two parts
pub whole_two : (words a b : List ℕ) (at first second m n : ℕ) → IsMaskAt words at first → IsMaskAt words (at + 1) second → length words ≡ at + 2 + m + n
    → a ≡ take m (drop (at + 2) words) → b ≡ take n (drop (at + 2 + m) words) → drop at words ≡ first ∷ second ∷ (a ++ b)
whole_two words a b at first second m n is is' size e f =
    let rest = drop (at + 2) words in
    let two : at + 1 + 1 ≡ at + 2 = omega arith in
    let last = length-drop (at + 2 + m) words in
    let tail : b ≡ drop m rest = f ∙ take_all n (drop (at + 2 + m) words) (omega arith) ∙ sym (drop-drop m (at + 2) words) in
    from_both words at first second is is'
    ∙ ap (λ i. first ∷ second ∷ drop i words) two
    ∙ ap (λ xs. first ∷ second ∷ xs) (sym (take-append-drop m rest) ∙ ap (λ xs. xs ++ drop m rest) (sym e) ∙ ap (λ xs. a ++ xs) (sym tail))

-- where neither warnings nor errors are announced, no word is left
pub read_none : (warned erred : Bool) (at size : ℕ) (bytes : List ℕ) → warned ≡ false → erred ≡ false → at ≤ size
    → IsAnswerSize false (bit_of warned + bit_of erred) (size - at) → length bytes ≡ 4 * size → AreReadAt warned erred at size bytes None None
read_none true erred at size bytes e f inside allowed whole = absurd (cc)
read_none false true at size bytes e f inside allowed whole = absurd (cc)
read_none false false at size bytes e f inside allowed whole =
    let all = length-drop at (words_of bytes) in
    record {
      told_warnings = tt;
      told_errors = tt;
      all = nil_from_length (drop at (words_of bytes)) (omega (arith, allowed.1, length-words_of bytes));
      whole = whole;
    }

pub cut_unannounced : (warned erred : Bool) (at size : ℕ) (bytes : List ℕ) (place : ℕ) → warned ≡ false → erred ≡ false → at ≤ size → at ≤ length (words_of bytes)
    → IsAnswerSize false (bit_of warned + bit_of erred) (size - at) → IsOtherSize size bytes place
    → IsCutAt (IsBegunReport warned erred (size - at)) at size bytes place
cut_unannounced true erred at size bytes place e f inside there allowed other = absurd (cc)
cut_unannounced false true at size bytes place e f inside there allowed other = absurd (cc)
cut_unannounced false false at size bytes place e f inside there allowed other =
    cut_none at size bytes there inside (size - at) place (omega (arith, allowed.1)) other
