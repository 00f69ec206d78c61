-- How far a header has come, by its bytes and by its fields.
use Rattle.std.proofs.Common.{◌≡◌, ℕ, zero, suc, ◌+◌, ◌*◌, ◌<◌, ◌≤◌, inl, inr, Bool, true, false, List, ◌++◌, length, take, drop, sym, ap, ◌∙◌, subst, append_assoc, take-append-drop, take_all, take-add, append-nil, arith}
use Rattle.std.proofs.lemmas.Bool.{cases_order}
use Rattle.std.proofs.lemmas.List.{length-drop}
use Rattle.replay_form.specs.Numbers.{number_at}
use Rattle.replay_form.specs.HeadFields.{AreRight, IsHeadOpen, AreJudged, IsWholeHead, IsHeadWrongAt, is_second, field_count, head_size, route_size, most_routes}
use Rattle.replay_form.proofs.HeadLaws.{head_ranges, field_ends, last_ends}
use Rattle.replay_form.proofs.PrefixLaws.{right-append, among-append, wrong-append, size-append, count-append}
use Rattle.replay_form.specs.Taking.{IsHeadBegun, IsPartTaken, IsHeadWhole}

-- what is open is short
pub open_short : (bytes : List ℕ) (judged : ℕ) → IsHeadOpen bytes judged → length bytes < head_size bytes
open_short bytes judged open_ =
    let e = field_ends (is_second bytes) judged (number_at 36 4 bytes) open_.among in
    omega (arith, open_.missing, e)

-- what is judged and short is open, and what is judged and long is whole
pub judged_open : (bytes : List ℕ) (judged : ℕ) → AreJudged bytes judged (field_count bytes) → length bytes < head_size bytes → IsHeadOpen bytes judged
judged_open bytes judged j h =
    elim (cases_order judged (field_count bytes)) [
      | inl e ↦ absurd (let long = last_ends bytes (subst (AreRight bytes) e j.right) in omega arith)
      | inr (inl less) ↦ record { among = less; before = j.right; missing = j.missing less }
      | inr (inr more) ↦ absurd (omega (arith, j.within))
    ]

pub judged_whole : (bytes : List ℕ) (judged : ℕ) → AreJudged bytes judged (field_count bytes) → length bytes ≡ head_size bytes → IsWholeHead bytes
judged_whole bytes judged j h =
    elim (cases_order judged (field_count bytes)) [
      | inl e ↦ record { all = h; right = subst (AreRight bytes) e j.right }
      | inr (inl less) ↦ absurd (let short = open_short bytes judged (record { among = less; before = j.right; missing = j.missing less }) in omega arith)
      | inr (inr more) ↦ absurd (omega (arith, j.within))
    ]

fixed_short : (bytes : List ℕ) (judged : ℕ) → AreJudged bytes judged (field_count bytes) → judged < 58 → length bytes < 332
fixed_short bytes judged j h =
    let e = field_ends (is_second bytes) judged 0 (omega arith) in
    omega (arith, j.missing (omega arith), e)

-- where the part in front of the routes is there, it is judged
pub judged_fixed : (bytes : List ℕ) (judged : ℕ) → AreJudged bytes judged (field_count bytes) → 332 ≤ length bytes → 58 ≤ judged
judged_fixed bytes judged j h =
    elim (cases_order judged 58) [
      | inl e ↦ omega arith
      | inr (inl less) ↦ absurd (let short = fixed_short bytes judged j less in omega arith)
      | inr (inr more) ↦ omega arith
    ]

size_most : (second : Bool) (n : ℕ) → n ≤ most_routes second → 332 + route_size second * n ≤ 4428
size_most true n h = omega arith
size_most false n h = omega arith

-- a header has 256 routes at most
pub few_routes : (bytes : List ℕ) (judged : ℕ) → AreJudged bytes judged (field_count bytes) → 332 ≤ length bytes → head_size bytes ≤ 4428
few_routes bytes judged j h =
    let ranges = head_ranges bytes judged (judged_fixed bytes judged j h) j.right in
    size_most (is_second bytes) (number_at 36 4 bytes) ranges.routes.most

-- a part of the piece, and then the rest of it
pub all_of_piece : (old piece new : List ℕ) (n : ℕ) → new ≡ old ++ take n piece → new ++ drop n piece ≡ old ++ piece
all_of_piece old piece new n e =
    ap (λ xs. xs ++ drop n piece) e ∙ append_assoc old (take n piece) (drop n piece) ∙ ap (λ xs. old ++ xs) (take-append-drop n piece)

pub whole_piece : (old piece new : List ℕ) (n : ℕ) → new ≡ old ++ take n piece → n ≡ length piece → new ≡ old ++ piece
whole_piece old piece new n e h = e ∙ ap (λ xs. old ++ xs) (take_all n piece (omega arith))

-- what is wrong in a part of the piece is wrong in all of it
pub wrong_in_piece : (old piece new : List ℕ) (n offset : ℕ) → new ≡ old ++ take n piece → IsHeadWrongAt new offset → IsHeadWrongAt (old ++ piece) offset
wrong_in_piece old piece new n offset e wrong =
    subst (λ xs. IsHeadWrongAt xs offset) (all_of_piece old piece new n e) (wrong-append new (drop n piece) offset wrong)

-- where a header goes on, what was judged stays judged
pub record Resumes (new : List ℕ) (judged : ℕ) : Type 0 where
  pub right : AreRight new judged
  pub among : judged ≤ field_count new

pub open_resumes : (old more new : List ℕ) (judged : ℕ) → new ≡ old ++ more → IsHeadOpen old judged → Resumes new judged
open_resumes old more new judged e open_ =
    subst (λ xs. Resumes xs judged) (sym e) (record {
      right = right-append old more judged open_.before;
      among = let k = among-append old more judged open_.among open_.before in omega arith;
    })

pub begun_resumes : (old more new : List ℕ) (judged : ℕ) → new ≡ old ++ more → IsHeadBegun old judged → Resumes new judged
begun_resumes old more new judged e begun =
    subst (λ xs. Resumes xs judged) (sym e) (record {
      right = right-append old more judged begun.fields.right;
      among = let same = count-append old more (omega (arith, begun.there)) in let within = begun.fields.within in omega arith;
    })

-- the first part is there
pub begins : (old piece new : List ℕ) (n before judged : ℕ) → new ≡ old ++ take n piece → IsHeadOpen old before → (length old ≤ 332 → length new ≤ 332)
    → (332 ≤ length old → n ≡ 0) → 332 ≤ length new → AreJudged new judged (field_count new) → IsHeadBegun new judged
begins old piece new n before judged e open_ short none there fields = record {
  there = there;
  within = elim (cases_order (length old) 332) [
    | inl same ↦ (let k = short (omega arith) in omega arith)
    | inr (inl less) ↦ (let k = short (omega arith) in omega arith)
    | inr (inr more) ↦ (
        let zero_ : n ≡ 0 = none (omega arith) in
        let stays : new ≡ old = e ∙ ap (λ k. old ++ take k piece) zero_ ∙ append-nil old in
        let h : length old ≤ head_size old = (let k = open_short old before open_ in omega arith) in
        subst (λ xs. length xs ≤ head_size xs) (sym stays) h
        )
  ];
  fields = fields;
}

-- the sizes while the routes come
pub grown_size : (old more new : List ℕ) (judged : ℕ) → new ≡ old ++ more → IsHeadBegun old judged → head_size new ≡ head_size old
grown_size old more new judged e begun = ap head_size e ∙ size-append old more (omega (arith, begun.there))

-- two parts of a piece are one
pub two_parts : (old piece mid new : List ℕ) (m n : ℕ) → mid ≡ old ++ take m piece → new ≡ mid ++ take n (drop m piece) → new ≡ old ++ take (m + n) piece
two_parts old piece mid new m n e f =
    f ∙ ap (λ xs. xs ++ take n (drop m piece)) e ∙ append_assoc old (take m piece) (take n (drop m piece)) ∙ ap (λ xs. old ++ xs) (sym (take-add m n piece))

-- a header has 332 bytes at least
pub least_size : (bytes : List ℕ) → 332 ≤ head_size bytes
least_size bytes = omega arith

-- what the rest of a piece made of the routes
pub part_of_rest : (old piece rest mid new : List ℕ) (n judged : ℕ) → mid ≡ old ++ take n piece → rest ≡ drop n piece → IsPartTaken mid rest new judged → IsPartTaken old piece new judged
part_of_rest old piece rest mid new n judged e f taken = record {
  held = taken.held ∙ ap (λ xs. mid ++ xs) f ∙ all_of_piece old piece mid n e;
  goes_on = taken.goes_on;
}

pub whole_of_rest : (old piece rest mid new : List ℕ) (n count : ℕ) → n ≤ length piece → mid ≡ old ++ take n piece → rest ≡ drop n piece → IsHeadWhole mid rest new count → IsHeadWhole old piece new (n + count)
whole_of_rest old piece rest mid new n count h e f taken = record {
  few = omega (arith, taken.few, ap length f, length-drop n piece);
  held = two_parts old piece mid new n count e (taken.held ∙ ap (λ xs. mid ++ take count xs) f);
  whole = taken.whole;
}

-- an open header is not whole yet
pub head_takes_some : (old piece new : List ℕ) (count judged : ℕ) → IsHeadOpen old judged → IsHeadWhole old piece new count → 0 < count
head_takes_some old piece new zero judged open_ whole =
    let same : new ≡ old = whole.held ∙ append-nil old in
    let short = open_short old judged open_ in
    let long : length old ≡ head_size old = subst (λ xs. length xs ≡ head_size xs) same whole.whole.all in
    absurd (omega arith)
head_takes_some old piece new (suc n) judged open_ whole = omega arith
