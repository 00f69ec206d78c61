-- One step of a gateway to its next release record.
use Rattle.std.proofs.Common.{◌≡◌, inl, inr, ℕ, zero, suc, ◌+◌, ◌*◌, ◌≤◌, Bool, true, false, List, [], ◌∷◌, ◌++◌, length, drop, slice_get, slice_set, slice_index, ◌==◌, Option, Some, None, refl, sym, ap, ◌∙◌, subst, arith}
use Rattle.std.specs.Prelude.{sum}
use Rattle.std.specs.List.{AllByRecursion, sum_by}
use Rattle.std.proofs.lemmas.List.{length-drop}
use Rattle.std.proofs.lemmas.List.Sums.{sum_by-append, sum_by-cons}
use Rattle.vrt_fields.specs.Route.{AreRoutes}
use Rattle.replay_form.specs.declared.record_head.RecordHead.{RecordHead}
use Rattle.sample_binder.specs.declared.out.Out.{Out}
use Rattle.sample_binder.specs.declared.out.Out.TheVariants as out
use Rattle.release_form.specs.Release.{IsRecordOf}
use Rattle.release_form.specs.declared.shown.Shown.TheVariants as shown
use Rattle.difi_gateway.specs.Contents.{Received}
use Rattle.difi_gateway.specs.Told.{Item}
use Rattle.difi_gateway.specs.Releases.{Release, copies, counts_of, all_told, part_of, bound_samples, uncertain_samples, raw_packets, refused_frames, versions}
use Rattle.difi_gateway.specs.State.{Gated, StandsFor, IsNoneBehind, end_left, IsSound, IsWithin, is_drawn, is_ended, items_of, items_left, releases_of, copies_left, bytes_taken}
use Rattle.difi_gateway.specs.Drawing.{IsDrawn, IsGoneOn, IsEndTold, drawn_from}
use Rattle.difi_gateway.specs.Writing.{IsCopyWritten, IsEndWritten}
use Rattle.difi_gateway.specs.Written.{CanBeWritten}
use Rattle.difi_gateway.specs.Progress.{IsMoved, IsGiven, IsAllGiven, IsSettledAt}
use Rattle.difi_gateway.specs.declared.drawn.Drawn.{Drawn}
use Rattle.difi_gateway.specs.declared.drawn.Drawn.TheVariants as drawn
use Rattle.difi_gateway.specs.Telling as telling
use Rattle.difi_gateway.specs.declared.stage.Stage.{Stage}
use Rattle.difi_gateway.specs.declared.stage.Stage.TheVariants as stages
use Rattle.difi_gateway.proofs.DrawSteps.{draw_kept, form_2}
use Rattle.difi_gateway.proofs.StageSteps.{IsSpent, spent, wait_kept, over_kept, counts_all, end_is_left, no_copies}
use Rattle.difi_gateway.proofs.EndSteps.{end_kept, between_ended}
use Rattle.difi_gateway.proofs.CopySteps.{copy_kept}
use Rattle.difi_gateway.proofs.MoveLemmas.{drew_nothing}
use Rattle.difi_gateway.proofs.Growth.{out-append}
use Rattle.difi_gateway.proofs.FitLemmas.{part_fit, whole_fit}
use Rattle.difi_gateway.proofs.OnceLemmas.{part_once, whole_once}
use Rattle.difi_gateway.proofs.WritableItems.{out_writable}

-- ---- one thing drawn, or the next binder

module _ (old new : Gated) (head : RecordHead) (received : List Received) (ended : Bool) (given index : ℕ) (st : StandsFor old head received ended given)
    (quiet : old.telling ≡ telling.Nothing) where
  gone_stands : (s : Stage) → old.stage ≡ s → is_drawn s index → IsSpent old head received ended given index → IsGoneOn s old new → StandsFor new head received ended given
  gone_stands stages.Waiting e d s gone = absurd d
  gone_stands (stages.Drawing i) e d s gone =
      subst (λ (g : Gated). StandsFor g head received ended given) (sym gone)
      (wait_kept old head received ended given index s (e ∙ ap (λ n. stages.Drawing n) (sym d)))
  gone_stands (stages.Ending i) e d s gone =
      let is_true : ended ≡ true = st.ended_is ∙ ap is_ended e in
      let now : StandsFor new head received true given =
      end_kept old head received given (i + 1) (between_ended old head received given i (subst (λ b. IsSpent old head received b given i) is_true (subst (λ n. IsSpent old head received ended given n) d s)) e quiet) new gone in
      subst (λ b. StandsFor new head received b given) (sym is_true) now
  gone_stands stages.Over e d s gone = absurd d

  pub moved_stands : is_drawn old.stage index → IsMoved index old new → StandsFor new head received ended given
  moved_stands d (drawn.Packet, by) = draw_kept old new head received ended given index drawn.Packet st d quiet by
  moved_stands d (drawn.Run, by) = draw_kept old new head received ended given index drawn.Run st d quiet by
  moved_stands d (drawn.Nothing, by) =
      let same = drew_nothing index old by.0 by.1.0 in
      let s = spent old by.0 head received ended given index st d by.1.0 in
      gone_stands old.stage refl d s.0 (subst (λ (g : Gated). IsGoneOn g.stage g new) same by.1.1)

-- ---- what stays

-- the memory for buffers, what was taken, and whether the end was told
pub record IsSameWay (old new : Gated) : Type 0 where
  pub capacity : new.capacity ≡ old.capacity
  pub taken : new.taken ≡ old.taken
  pub ended : is_ended new.stage ≡ is_ended old.stage

drawn_same : (given : Option Out) (index : ℕ) (old : Gated) → IsSameWay old (drawn_from old index given)
drawn_same None index old = record { capacity = refl; taken = refl; ended = refl }
drawn_same (Some (out.Packet buf lost)) index old = record { capacity = refl; taken = refl; ended = refl }
drawn_same (Some (out.Run r)) index old = record { capacity = refl; taken = refl; ended = refl }

same_by : (result : Drawn) (index : ℕ) (old new : Gated) → IsDrawn index result old new → IsSameWay old new
same_by result index old new d =
    let s = drawn_same d.given index (record old { binders = slice_set old.binders index d.now }) in
    let e = d.after in
    record {
      capacity = ap (λ (g : Gated). g.capacity) e ∙ s.capacity;
      taken = ap (λ (g : Gated). g.taken) e ∙ s.taken;
      ended = ap (λ (g : Gated). is_ended g.stage) e ∙ s.ended;
    }

pub told_same : (n : ℕ) (old new : Gated) → is_ended old.stage ≡ true → IsEndTold n old new → IsSameWay old new
told_same n old new e (inl at) = record {
  capacity = ap (λ (g : Gated). g.capacity) at.after;
  taken = ap (λ (g : Gated). g.taken) at.after;
  ended = ap (λ (g : Gated). is_ended g.stage) at.after ∙ sym e;
}
told_same n old new e (inr behind) = record {
  capacity = ap (λ (g : Gated). g.capacity) behind.after;
  taken = ap (λ (g : Gated). g.taken) behind.after;
  ended = ap (λ (g : Gated). is_ended g.stage) behind.after ∙ sym e;
}

gone_same : (s : Stage) (old new : Gated) → old.stage ≡ s → IsGoneOn s old new → IsSameWay old new
gone_same stages.Waiting old new e gone = record { capacity = ap (λ (g : Gated). g.capacity) gone; taken = ap (λ (g : Gated). g.taken) gone; ended = ap (λ (g : Gated). is_ended g.stage) gone }
gone_same (stages.Drawing i) old new e gone = record {
  capacity = ap (λ (g : Gated). g.capacity) gone;
  taken = ap (λ (g : Gated). g.taken) gone;
  ended = ap (λ (g : Gated). is_ended g.stage) gone ∙ sym (ap is_ended e);
}
gone_same (stages.Ending i) old new e gone = told_same (i + 1) old new (ap is_ended e) gone
gone_same stages.Over old new e gone = record { capacity = ap (λ (g : Gated). g.capacity) gone; taken = ap (λ (g : Gated). g.taken) gone; ended = ap (λ (g : Gated). is_ended g.stage) gone }

pub moved_same : (index : ℕ) (old new : Gated) → IsMoved index old new → IsSameWay old new
moved_same index old new (drawn.Packet, by) = same_by drawn.Packet index old new by
moved_same index old new (drawn.Run, by) = same_by drawn.Run index old new by
moved_same index old new (drawn.Nothing, by) =
    let same = drew_nothing index old by.0 by.1.0 in
    gone_same old.stage old new refl (subst (λ (g : Gated). IsGoneOn g.stage g new) same by.1.1)

-- what is true of every gateway stays so
pub sound_kept : (old new : Gated) (given : ℕ) (w : IsSound old) → IsSameWay old new
    → StandsFor new w.head w.received (is_ended new.stage) given → IsWithin new.stage (length new.binders) → IsSound new
sound_kept old new given w same now within = record {
  head = w.head;
  received = w.received;
  given = given;
  stands = now;
  buffers = omega (arith, w.buffers, w.stands.buffers.all, now.buffers.all, same.capacity);
  small = omega (arith, w.small, same.taken);
  drawing = within;
}

-- ---- counts

taken_in_two : (received : List Received) → sum_by bytes_taken received ≡ length received + sum_by (λ (r : Received). length r.frame.datagram) received
taken_in_two [] = refl
taken_in_two (r ∷ received) =
    omega (arith, taken_in_two received, sum_by-cons bytes_taken r received, sum_by-cons (λ (r : Received). length r.frame.datagram) r received)

-- the counts are no more than the frames and bytes that were taken
pub record CountsFit (gate : Gated) : Type 0 where
  pub frames : slice_index gate.counts 0 ≤ gate.taken
  pub samples : slice_index gate.counts 1 + slice_index gate.counts 2 + slice_index gate.counts 3 ≤ gate.taken
  pub others : slice_index gate.counts 4 + slice_index gate.counts 6 ≤ gate.taken
  pub all : sum gate.counts ≤ 3 * gate.taken

module _ (gate : Gated) (head : RecordHead) (received : List Received) (ended : Bool) (given : ℕ) (st : StandsFor gate head received ended given) where
  valid : AreRoutes true head.routes
  valid = form_2 (head.form == 2) head.routes st.is_of.values.routes

  samples_fit : (b : Bool) → sum_by bound_samples (items_of head received b) + sum_by uncertain_samples (items_of head received b) + sum_by raw_packets (items_of head received b)
      ≤ sum_by (λ (r : Received). length r.frame.datagram) received
  samples_fit true = whole_fit head true received valid st.contents st.fit
  samples_fit false = part_fit head true received valid st.contents st.fit

  once_fit : (b : Bool) → sum_by refused_frames (items_of head received b) + sum_by versions (items_of head received b) ≤ length received
  once_fit true = whole_once head received
  once_fit false = part_once head received

  fewer : (f : Item → ℕ) → sum_by f st.begun ≤ sum_by f (items_of head received ended)
  fewer f = omega (arith, ap (sum_by f) st.items, sum_by-append f st.begun (items_left head received gate st.left gate.stage))

  pub counts_fit : CountsFit gate
  counts_fit =
      let two = taken_in_two received in
      let taken = st.taken in
      let at : (k : ℕ) → slice_index gate.counts k ≡ slice_index (counts_of (length received) st.begun) k = λ k. ap (λ l. slice_index l k) st.counts in
      let total : sum gate.counts ≡ sum (counts_of (length received) st.begun) = ap sum st.counts in
      record {
        frames = omega (arith, at 0, two, taken);
        samples = omega (arith, at 1, at 2, at 3, two, taken, samples_fit ended, fewer bound_samples, fewer uncertain_samples, fewer raw_packets);
        others = omega (arith, at 4, at 6, two, taken, once_fit ended, fewer refused_frames, fewer versions);
        all = omega (arith, total, two, taken, samples_fit ended, fewer bound_samples, fewer uncertain_samples, fewer raw_packets, once_fit ended, fewer refused_frames, fewer versions);
      }

-- ---- the releases that are left can be written

pub all_front : {X : Type 0} (P : X → Type 0) (a b : List X) → AllByRecursion P (a ++ b) → AllByRecursion P a
all_front P [] b h = tt
all_front P (x ∷ a) b h = (h.0, all_front P a b h.1)

all_behind : {X : Type 0} (P : X → Type 0) (n : ℕ) (xs : List X) → AllByRecursion P xs → AllByRecursion P (drop n xs)
all_behind P zero xs h = h
all_behind P (suc n) [] h = tt
all_behind P (suc n) (x ∷ xs) h = all_behind P n xs h.1

module _ (gate : Gated) (head : RecordHead) (received : List Received) (ended : Bool) (given : ℕ) (st : StandsFor gate head received ended given) where
  all_written : (b : Bool) → AllByRecursion CanBeWritten (releases_of head received b)
  all_written true = out_writable head received st.contents st.fit
  all_written false = all_front CanBeWritten (part_of head received) _ (subst (AllByRecursion CanBeWritten) (out-append head received) (out_writable head received st.contents st.fit))

  pub copies_written : AllByRecursion CanBeWritten (copies_left gate)
  copies_written =
      (all_front CanBeWritten (copies_left gate) _ (subst (AllByRecursion CanBeWritten) st.rest (all_behind CanBeWritten given (releases_of head received ended) (all_written ended))))

-- ---- the first copy that is left

first_dropped : {X : Type 0} (xs : List X) (n : ℕ) (x : X) (rest : List X) → drop n xs ≡ x ∷ rest → slice_get xs n ≡ Some x
first_dropped [] zero x rest e = absurd (cc)
first_dropped [] (suc n) x rest e = absurd (cc)
first_dropped {X} (y ∷ xs) zero x rest e = ap (λ (l : List X). slice_get l 0) e
first_dropped (y ∷ xs) (suc n) x rest e = first_dropped xs n x rest e

module _ (old new : Gated) (head : RecordHead) (received : List Received) (ended : Bool) (given : ℕ) (st : StandsFor old head received ended given) (bytes : List ℕ) where
  pub copy_given : IsCopyWritten bytes old new → IsGiven head received ended given bytes × StandsFor new head received ended (given + 1)
  copy_given w = (
    record {
      release = w.release;
      next = first_dropped (releases_of head received ended) given w.release _
          (st.rest ∙ ap (λ (l : List Release). l ++ (copies head.routes (items_left head received old st.left old.stage) ++ end_left head received old.stage)) w.copies_are);
      written = w.written;
    },
    copy_kept old head received ended given st bytes new w,
  )

  -- behind the last binder the counts are left
  pub end_given : (index : ℕ) → old.stage ≡ stages.Ending index → length old.binders ≤ index → old.telling ≡ telling.Nothing → IsEndWritten bytes old new
      → IsGiven head received ended given bytes × StandsFor new head received ended (given + 1)
  end_given index ending behind quiet w =
      let past : length head.routes ≤ index = omega (arith, behind, st.binders.all) in
      let none : st.left ≡ [] = (subst (λ s. IsNoneBehind s (length head.routes) st.left) ending st.binders.none_behind) past in
      let first : Release = record { shown = shown.End (counts_of (length received) (all_told head received)); payload = [] } in (
        record {
          release = first;
          next = first_dropped (releases_of head received ended) given first [] (end_is_left old head received ended given index st ending past none quiet);
          written = subst (λ counts. IsRecordOf (shown.End counts) [] bytes) (counts_all old head received ended given index st ending past none quiet) w.written;
        },
        subst (λ (g : Gated). StandsFor g head received ended (given + 1)) (sym w.after) (over_kept old head received ended given index st ending past none quiet),
      )

-- ---- nothing is left

pub settled_given : (gate : Gated) (head : RecordHead) (received : List Received) (ended : Bool) (given : ℕ) → StandsFor gate head received ended given → IsSettledAt gate
    → IsAllGiven head received ended given
settled_given gate head received ended given st settled =
    let none : copies_left gate ≡ [] = no_copies gate settled.telling in
    let nothing : drop given (releases_of head received ended) ≡ [] =
    st.rest ∙ ap (λ (l : List Release). l ++ (copies head.routes (items_left head received gate st.left gate.stage) ++ end_left head received gate.stage)) none
    ∙ elim settled.stage [
      | inl e ↦ ap (λ s. copies head.routes (items_left head received gate st.left s) ++ end_left head received s) e
      | inr e ↦ ap (λ s. copies head.routes (items_left head received gate st.left s) ++ end_left head received s) e
    ] in
    omega (arith, st.few, ap (λ (l : List Release). length l) nothing, length-drop given (releases_of head received ended))
