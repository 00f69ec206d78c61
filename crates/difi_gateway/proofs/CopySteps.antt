-- A gateway stands for the same frames after a copy, with one release more that was given.
use Rattle.std.proofs.Common.{◌≡◌, inl, inr, ℕ, zero, suc, ◌+◌, ◌≤◌, Bool, List, [], ◌∷◌, ◌++◌, length, drop, sym, ap, ◌∙◌, subst, arith}
use Rattle.std.proofs.lemmas.Bool.{cases_lt}
use Rattle.std.proofs.lemmas.List.{append-nil}
use Rattle.replay_form.specs.declared.record_head.RecordHead.{RecordHead}
use Rattle.difi_gateway.specs.Contents.{Received}
use Rattle.difi_gateway.specs.Releases.{Release, copies}
use Rattle.difi_gateway.specs.State.{Gated, StandsFor, IsPlaced, EndsWith, packet_in, items_in, items_left, end_left, copies_left, releases_of}
use Rattle.difi_gateway.specs.Writing.{IsCopyWritten, number_of_copies}
use Rattle.difi_gateway.specs.Telling.{Telling}
use Rattle.difi_gateway.specs.Telling as telling
use Rattle.difi_gateway.proofs.WriteLemmas.{is_on, is_none}

-- what stands behind the first element that is left
drop_next : {X : Type 0} (n : ℕ) (xs : List X) (x : X) (ys : List X) → drop n xs ≡ x ∷ ys → drop (suc n) xs ≡ ys
drop_next zero xs x ys e = ap (drop 1) e
drop_next (suc n) [] x ys e = absurd (cc)
drop_next (suc n) (z ∷ zs) x ys e = drop_next n zs x ys e

pub one_behind : {X : Type 0} (n : ℕ) (xs : List X) (x : X) (ys : List X) → drop n xs ≡ x ∷ ys → drop (n + 1) xs ≡ ys
one_behind n xs x ys e =
    let next : n + 1 ≡ suc n = omega arith in
    ap (λ k. drop k xs) next ∙ drop_next n xs x ys e

pub within_next : {X : Type 0} (n : ℕ) (xs : List X) (x : X) (ys : List X) → drop n xs ≡ x ∷ ys → n + 1 ≤ length xs
within_next zero [] x ys e = absurd (cc)
within_next zero (z ∷ zs) x ys e = omega arith
within_next (suc n) [] x ys e = absurd (cc)
within_next (suc n) (z ∷ zs) x ys e = let h = within_next n zs x ys e in omega (arith, h)

module _ (old : Gated) (head : RecordHead) (received : List Received) (ended : Bool) (given : ℕ) (st : StandsFor old head received ended given) where
  abbrev behind : List Release
  behind = copies head.routes (items_left head received old st.left old.stage) ++ end_left head received old.stage

  -- where other copies are left
  module _ (t : Telling) (place : ℕ) (release : Release) where
    abbrev on : Gated
    on = record old { telling = t; place = place }

    told_on : EndsWith st.begun (items_in old.routes (packet_in old.empty) t) → IsPlaced old.routes t place
        → copies_left old ≡ release ∷ copies_left on → StandsFor on head received ended (given + 1)
    told_on now placed e =
        let rest : drop given (releases_of head received ended) ≡ release ∷ (copies_left on ++ behind) = st.rest ∙ ap (λ l. l ++ behind) e in
        record {
          is_of = record { values = st.is_of.values; profile = st.is_of.profile; max_words = st.is_of.max_words; routes = st.is_of.routes };
          contents = st.contents;
          fit = st.fit;
          taken = st.taken;
          ended_is = st.ended_is;
          left = st.left;
          binders = st.binders;
          buffers = st.buffers;
          begun = st.begun;
          items = st.items;
          now = now;
          placed = placed;
          counts = st.counts;
          few = within_next given (releases_of head received ended) release (copies_left on ++ behind) rest;
          rest = one_behind given (releases_of head received ended) release (copies_left on ++ behind) rest;
        }

  pub copy_kept : (bytes : List ℕ) (new : Gated) → IsCopyWritten bytes old new → StandsFor new head received ended (given + 1)
  copy_kept bytes new w = elim (cases_lt (old.place + 1) (number_of_copies old.routes old.telling)) [
    | inl lt ↦
        let e = is_on old new w.after lt in
        subst (λ (g : Gated). StandsFor g head received ended (given + 1)) (sym e)
        (told_on old.telling (old.place + 1) w.release st.now
        (subst (λ (g : Gated). IsPlaced g.routes g.telling g.place) e w.placed)
        (w.copies_are ∙ ap (λ (g : Gated). w.release ∷ copies_left g) e))
    | inr le ↦
        let e = is_none old new w.after le in
        subst (λ (g : Gated). StandsFor g head received ended (given + 1)) (sym e)
        (told_on telling.Nothing 0 w.release (record { before = st.begun; begun_is = sym (append-nil st.begun) }) tt
        (w.copies_are ∙ ap (λ (g : Gated). w.release ∷ copies_left g) e))
  ]
