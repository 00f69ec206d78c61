-- What a gateway stands for after one more frame.
use Rattle.std.proofs.Common.{◌≡◌, ◌⊎◌, inl, inr, ℕ, ◌+◌, ◌≤◌, false, List, [], ◌∷◌, ◌++◌, length, drop, refl, sym, ap, ◌∙◌, arith}
use Rattle.std.proofs.lemmas.List.{append-nil, append_assoc, length-append, length-drop, drop-append-le, drop_all}
use Rattle.std.proofs.lemmas.List.Sums.{sum_by-append}
use Rattle.std.proofs.ByRecursion.{All-append}
use Rattle.vrt_words.specs.Words.{AreBytes}
use Rattle.replay_form.specs.declared.record_head.RecordHead.{RecordHead}
use Rattle.sample_binder.specs.declared.out.Out.{Out}
use Rattle.difi_gateway.specs.Contents.{Received, IsReceived}
use Rattle.difi_gateway.specs.Told.{Item, told, told_by}
use Rattle.difi_gateway.specs.Releases.{Release, copies, counts_of, part_of}
use Rattle.difi_gateway.specs.State.{Gated, StandsFor, IsAtRest, IsOf, IsPlaced, AreBinders, AreBuffers, items_in, items_left, end_left, copies_left, packet_in, is_ended, bytes_taken}
use Rattle.difi_gateway.specs.Telling.{Telling}
use Rattle.difi_gateway.specs.declared.stage.Stage.TheVariants as stages
use Rattle.difi_gateway.proofs.Growth.{told-append, copies-append}

drop_nil : {X : Type 0} (n : ℕ) (xs : List X) → xs ≡ [] → drop n xs ≡ []
drop_nil {X} n xs e = drop_all n xs (omega (arith, ap (λ (l : List X). length l) e))

module _ (gate : Gated) (head : RecordHead) (received : List Received) (given : ℕ) (st : StandsFor gate head received false given) (rest : IsAtRest gate) where
  -- at rest nothing is left
  none_left : items_left head received gate st.left gate.stage ≡ []
  none_left = ap (items_left head received gate st.left) rest.stage

  no_copies : copies_left gate ≡ []
  no_copies = ap (λ (t : Telling). drop gate.place (copies gate.routes (items_in gate.routes (packet_in gate.empty) t))) rest.telling ∙ drop_nil gate.place [] refl

  pub all_given : drop given (part_of head received) ≡ []
  all_given =
      st.rest ∙ ap (λ l. l ++ (copies head.routes (items_left head received gate st.left gate.stage) ++ end_left head received gate.stage)) no_copies
      ∙ ap (λ l. copies head.routes l ++ end_left head received gate.stage) none_left ∙ ap (end_left head received) rest.stage

  pub begun_all : st.begun ≡ told head received
  begun_all = sym (append-nil st.begun) ∙ ap (λ l. st.begun ++ l) (sym none_left) ∙ st.items

  -- one more frame was taken: what is told now, and what its binder gives, is what is told of it
  pub record IsNext (r : Received) (new : Gated) (left : List Out) : Type 0 where
    pub is_of : IsOf head new
    pub content : IsReceived head r
    pub fit : AreBytes r.frame.datagram
    pub taken : new.taken ≡ gate.taken + bytes_taken r
    pub waits : (new.stage ≡ stages.Waiting) ⊎ ((index : ℕ) × (new.stage ≡ stages.Drawing index))
    pub binders : AreBinders head (received ++ r ∷ []) new.stage left new.binders
    pub buffers : AreBuffers head new.binders new.empty
    pub told_is : items_in new.routes (packet_in new.empty) new.telling ++ items_left head (received ++ r ∷ []) new left new.stage ≡ told_by head received r
    pub first : new.place ≡ 0
    pub placed : IsPlaced new.routes new.telling new.place
    pub counts : (begun : List Item) → gate.counts ≡ counts_of (length received) begun
        → new.counts ≡ counts_of (length received + 1) (begun ++ items_in new.routes (packet_in new.empty) new.telling)

  module _ (r : Received) (new : Gated) (left : List Out) (next : IsNext r new left) where
    abbrev now : List Item
    now = items_in new.routes (packet_in new.empty) new.telling

    abbrev later : List Item
    later = items_left head (received ++ r ∷ []) new left new.stage

    told_more : told head (received ++ r ∷ []) ≡ told head received ++ told_by head received r
    told_more = told-append head received (r ∷ []) ∙ ap (λ l. told head received ++ l) (append-nil (told_by head received r))

    part_more : part_of head (received ++ r ∷ []) ≡ part_of head received ++ copies head.routes (told_by head received r)
    part_more = ap (copies head.routes) told_more ∙ copies-append head.routes (told head received) (told_by head received r)

    not_ended : is_ended new.stage ≡ false
    not_ended = elim next.waits [ inl e ↦ ap is_ended e | inr p ↦ ap is_ended p.1 ]

    no_end : end_left head (received ++ r ∷ []) new.stage ≡ []
    no_end = elim next.waits [ inl e ↦ ap (end_left head (received ++ r ∷ [])) e | inr p ↦ ap (end_left head (received ++ r ∷ [])) p.1 ]

    given_is : length (part_of head received) ≤ given
    given_is = omega (arith, ap (λ (l : List Release). length l) all_given, length-drop given (part_of head received))

    left_to_give : drop given (part_of head (received ++ r ∷ [])) ≡ copies head.routes (told_by head received r)
    left_to_give =
        ap (drop given) part_more ∙ drop-append-le given (part_of head received) (copies head.routes (told_by head received r)) st.few
        ∙ ap (λ l. l ++ copies head.routes (told_by head received r)) all_given

    now_copies : copies head.routes now ≡ copies_left new
    now_copies = ap (λ routes. copies routes now) (sym next.is_of.routes) ∙ ap (λ n. drop n (copies new.routes now)) (sym next.first)

    copies_are : copies head.routes (told_by head received r) ≡ copies_left new ++ (copies head.routes later ++ end_left head (received ++ r ∷ []) new.stage)
    copies_are =
        ap (copies head.routes) (sym next.told_is) ∙ copies-append head.routes now later
        ∙ ap (λ (l : List Release). l ++ copies head.routes later) now_copies
        ∙ ap (λ (l : List Release). copies_left new ++ l) (sym (append-nil (copies head.routes later)) ∙ ap (λ l. copies head.routes later ++ l) (sym no_end))

    pub stands_next : StandsFor new head (received ++ r ∷ []) false given
    stands_next = record {
      is_of = next.is_of;
      contents = All-append (IsReceived head) received (r ∷ []) st.contents (next.content, tt);
      fit = All-append (λ (r : Received). AreBytes r.frame.datagram) received (r ∷ []) st.fit (next.fit, tt);
      taken = omega (arith, next.taken, st.taken, sum_by-append bytes_taken received (r ∷ []));
      ended_is = sym not_ended;
      left = left;
      binders = next.binders;
      buffers = next.buffers;
      begun = st.begun ++ now;
      items = append_assoc st.begun now later ∙ ap (λ l. st.begun ++ l) next.told_is ∙ ap (λ l. l ++ told_by head received r) begun_all ∙ sym told_more;
      now = record { before = st.begun; begun_is = refl };
      placed = next.placed;
      counts = next.counts st.begun st.counts ∙ ap (λ n. counts_of n (st.begun ++ now)) (omega (arith, length-append received (r ∷ [])));
      few = omega (arith, st.few, ap (λ (l : List Release). length l) part_more, length-append (part_of head received) (copies head.routes (told_by head received r)));
      rest = left_to_give ∙ copies_are;
    }
