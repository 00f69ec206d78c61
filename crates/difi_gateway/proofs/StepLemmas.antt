-- What is true of every gateway stays so at each step, and what each step asks for.
use Rattle.std.proofs.Common.{◌≡◌, inl, inr, ℕ, ◌+◌, ◌<◌, ◌≤◌, ◌^◌, Bool, true, false, nat_lt, List, length, slice_get, slice_set, slice_index, Option, Some, None, refl, sym, ap, ◌∙◌, subst, arith}
use Rattle.std.proofs.lemmas.Bool.{cases_lt}
use Rattle.std.proofs.lemmas.Bool.Decides.{nat_tests}
use Rattle.std.proofs.lemmas.List.{length-set}
use Rattle.std.proofs.lemmas.Option.{slice_get_within}
use Rattle.vrt_fields.specs.declared.route.Route.{Route}
use Rattle.replay_form.specs.declared.record_head.RecordHead.{RecordHead}
use Rattle.sample_binder.specs.Binder.{BinderState}
use Rattle.sample_binder.specs.declared.out.Out.{Out}
use Rattle.sample_binder.specs.declared.out.Out.TheVariants as out
use Rattle.difi_gateway.specs.Calls.{calls}
use Rattle.difi_gateway.specs.Contents.{Received}
use Rattle.difi_gateway.specs.State.{Gated, StandsFor, IsSound, IsWithin, IsAtRest, IsIdle, IsBinder, calls_with, is_drawn, is_ended}
use Rattle.difi_gateway.specs.Drawing.{IsDrawn, IsGoneOn, IsEndTold, IsUntold, MayBeTold, MayGoOn, drawn_from}
use Rattle.difi_gateway.specs.Writing.{IsCopyWritten, IsEndWritten, number_of_copies}
use Rattle.difi_gateway.specs.Progress.{IsMoved, records_owed}
use Rattle.difi_gateway.specs.declared.drawn.Drawn.TheVariants as drawn
use Rattle.difi_gateway.specs.Telling as telling
use Rattle.difi_gateway.specs.declared.stage.Stage.{Stage}
use Rattle.difi_gateway.specs.declared.stage.Stage.TheVariants as stages
use Rattle.difi_gateway.proofs.WriteLemmas.{is_on, is_none}
use Rattle.difi_gateway.proofs.FitLemmas.{calls_not_told}
use Rattle.difi_gateway.proofs.ReadyLemmas.{route_by_place}
use Rattle.difi_gateway.proofs.EndSteps.{end_kept, between_waiting}
use Rattle.difi_gateway.proofs.MoveLemmas.{drew_nothing}
use Rattle.difi_gateway.proofs.AdvanceLemmas.{IsSameWay, moved_stands, moved_same, sound_kept, counts_fit, copy_given, end_given}
use Rattle.difi_gateway.proofs.NearLemmas.{moved_more}

-- ---- a copy

-- all but what is told and for which port stays
pub record IsSameBut (old new : Gated) : Type 0 where
  pub way : IsSameWay old new
  pub stage : new.stage ≡ old.stage
  pub binders : new.binders ≡ old.binders

pub copy_same : (bytes : List ℕ) (old new : Gated) → IsCopyWritten bytes old new → IsSameBut old new
copy_same bytes old new w = elim (cases_lt (old.place + 1) (number_of_copies old.routes old.telling)) [
  | inl lt ↦
      let e = is_on old new w.after lt in
      record {
        way = record { capacity = ap (λ (g : Gated). g.capacity) e; taken = ap (λ (g : Gated). g.taken) e; ended = ap (λ (g : Gated). is_ended g.stage) e };
        stage = ap (λ (g : Gated). g.stage) e;
        binders = ap (λ (g : Gated). g.binders) e;
      }
  | inr le ↦
      let e = is_none old new w.after le in
      record {
        way = record { capacity = ap (λ (g : Gated). g.capacity) e; taken = ap (λ (g : Gated). g.taken) e; ended = ap (λ (g : Gated). is_ended g.stage) e };
        stage = ap (λ (g : Gated). g.stage) e;
        binders = ap (λ (g : Gated). g.binders) e;
      }
]

module _ (old new : Gated) (w : IsSound old) where
  pub copy_sound : (bytes : List ℕ) → IsCopyWritten bytes old new → IsSound new
  copy_sound bytes c =
      let same = copy_same bytes old new c in
      let given = copy_given old new w.head w.received (is_ended old.stage) w.given w.stands bytes c in
      sound_kept old new (w.given + 1) w same.way
      (subst (λ b. StandsFor new w.head w.received b (w.given + 1)) (sym same.way.ended) given.1)
      (subst (λ s. IsWithin s (length new.binders)) (sym same.stage) (subst (λ (bs : List BinderState). IsWithin old.stage (length bs)) (sym same.binders) w.drawing))

  -- ---- the counts

  pub end_same : (bytes : List ℕ) (index : ℕ) → old.stage ≡ stages.Ending index → IsEndWritten bytes old new → IsSameWay old new
  end_same bytes index ending e = record {
    capacity = ap (λ (g : Gated). g.capacity) e.after;
    taken = ap (λ (g : Gated). g.taken) e.after;
    ended = ap (λ (g : Gated). is_ended g.stage) e.after ∙ sym (ap is_ended ending);
  }

  pub end_sound : (bytes : List ℕ) (index : ℕ) → old.stage ≡ stages.Ending index → length old.binders ≤ index → old.telling ≡ telling.Nothing → IsEndWritten bytes old new → IsSound new
  end_sound bytes index ending behind quiet e =
      let same = end_same bytes index ending e in
      let given = end_given old new w.head w.received (is_ended old.stage) w.given w.stands bytes index ending behind quiet e in
      sound_kept old new (w.given + 1) w same
      (subst (λ b. StandsFor new w.head w.received b (w.given + 1)) (sym same.ended) given.1)
      (subst (λ s. IsWithin s (length new.binders)) (sym (ap (λ (g : Gated). g.stage) e.after)) tt)

  -- ---- a move

  drawn_stage : (given : Option Out) (index : ℕ) (g : Gated) → (drawn_from g index given).stage ≡ g.stage
  drawn_stage None index g = refl
  drawn_stage (Some (out.Packet buf lost)) index g = refl
  drawn_stage (Some (out.Run r)) index g = refl

  drawn_length : (given : Option Out) (index : ℕ) (g : Gated) → (drawn_from g index given).binders ≡ g.binders
  drawn_length None index g = refl
  drawn_length (Some (out.Packet buf lost)) index g = refl
  drawn_length (Some (out.Run r)) index g = refl

  drawn_within : (result : _) (index : ℕ) → IsDrawn index result old new → IsWithin new.stage (length new.binders)
  drawn_within result index d =
      let mid = record old { binders = slice_set old.binders index d.now } in
      let stage : new.stage ≡ old.stage = ap (λ (g : Gated). g.stage) d.after ∙ drawn_stage d.given index mid in
      let number : length new.binders ≡ length old.binders =
      ap (λ (g : Gated). length g.binders) d.after ∙ ap (λ (bs : List BinderState). length bs) (drawn_length d.given index mid) ∙ length-set old.binders index d.now in
      subst (λ s. IsWithin s (length new.binders)) (sym stage) (subst (λ n. IsWithin old.stage n) (sym number) w.drawing)

  gone_within : (s : Stage) → old.stage ≡ s → IsGoneOn s old new → IsWithin new.stage (length new.binders)
  gone_within stages.Waiting e gone = subst (λ (g : Gated). IsWithin g.stage (length g.binders)) (sym gone) w.drawing
  gone_within (stages.Drawing i) e gone = subst (λ (g : Gated). IsWithin g.stage (length g.binders)) (sym gone) tt
  gone_within (stages.Ending i) e (inl at) = subst (λ (g : Gated). IsWithin g.stage (length g.binders)) (sym at.after) tt
  gone_within (stages.Ending i) e (inr behind) = subst (λ (g : Gated). IsWithin g.stage (length g.binders)) (sym behind.after) tt
  gone_within stages.Over e gone = subst (λ (g : Gated). IsWithin g.stage (length g.binders)) (sym gone) w.drawing

  moved_within : (index : ℕ) → IsMoved index old new → IsWithin new.stage (length new.binders)
  moved_within index (drawn.Packet, by) = drawn_within drawn.Packet index by
  moved_within index (drawn.Run, by) = drawn_within drawn.Run index by
  moved_within index (drawn.Nothing, by) =
      gone_within old.stage refl (subst (λ (g : Gated). IsGoneOn g.stage g new) (drew_nothing index old by.0 by.1.0) by.1.1)

  moved_now : (index : ℕ) → old.telling ≡ telling.Nothing → is_drawn old.stage index → IsMoved index old new → StandsFor new w.head w.received (is_ended old.stage) w.given
  moved_now index quiet d moved = moved_stands old new w.head w.received (is_ended old.stage) w.given index w.stands quiet d moved

  pub move_sound : (index : ℕ) → old.telling ≡ telling.Nothing → is_drawn old.stage index → IsMoved index old new → IsSound new
  move_sound index quiet d moved =
      let same = moved_same index old new moved in
      sound_kept old new w.given w same (subst (λ b. StandsFor new w.head w.received b w.given) (sym same.ended) (moved_now index quiet d moved)) (moved_within index moved)

  pub move_more : (index : ℕ) → old.telling ≡ telling.Nothing → is_drawn old.stage index → IsMoved index old new → records_owed new ≤ records_owed old
  move_more index quiet d moved =
      moved_more old new w.head w.received (is_ended old.stage) w.given index w.stands (moved_now index quiet d moved) w.small quiet d moved

  -- ---- the end is told

  pub told_sound : IsAtRest old → IsEndTold 0 old new → IsSound new
  told_sound rest told =
      let st : StandsFor old w.head w.received false w.given = subst (λ b. StandsFor old w.head w.received b w.given) (ap is_ended rest.stage) w.stands in
      let now = end_kept old w.head w.received w.given 0 (between_waiting old w.head w.received w.given st rest.stage rest.telling) new told in
      record {
        head = w.head;
        received = w.received;
        given = w.given;
        stands = subst (λ b. StandsFor new w.head w.received b w.given) now.ended_is now;
        buffers = omega (arith, w.buffers, st.buffers.all, now.buffers.all, same_capacity told);
        small = omega (arith, w.small, same_taken told);
        drawing = ending_within told;
      } where
        same_capacity : IsEndTold 0 old new → new.capacity ≡ old.capacity
        same_capacity (inl at) = ap (λ (g : Gated). g.capacity) at.after
        same_capacity (inr behind) = ap (λ (g : Gated). g.capacity) behind.after

        same_taken : IsEndTold 0 old new → new.taken ≡ old.taken
        same_taken (inl at) = ap (λ (g : Gated). g.taken) at.after
        same_taken (inr behind) = ap (λ (g : Gated). g.taken) behind.after

        ending_within : IsEndTold 0 old new → IsWithin new.stage (length new.binders)
        ending_within (inl at) = subst (λ (g : Gated). IsWithin g.stage (length g.binders)) (sym at.after) tt
        ending_within (inr behind) = subst (λ (g : Gated). IsWithin g.stage (length g.binders)) (sym behind.after) tt

-- ---- what is asked for

module _ (gate : Gated) (head : RecordHead) (received : List Received) (ended : Bool) (given : ℕ) (st : StandsFor gate head received ended given) where
  untold_by : (ended' : Bool) (number : ℕ) (bound : BinderState) → slice_get gate.binders number ≡ Some bound → ended' ≡ false
      → ((route : Route) → slice_get head.routes number ≡ Some route → IsIdle head (calls_with ended' (calls head route.stream received)) bound) → IsUntold bound
  untold_by ended' number bound p e idle =
      let route = route_by_place head.routes number (omega (arith, slice_get_within gate.binders number bound p, st.binders.all)) in
      let is = subst (λ b. IsIdle head (calls_with b (calls head route.0.stream received)) bound) e (idle route.0 route.1) in
      record { nothing = is.nothing; untold = is.stream.stands.is_told_too ∙ calls_not_told head route.0.stream received }

  not_itself : (k : ℕ) → nat_lt k k ≡ false
  not_itself k = grind (arith, nat_tests)

  pub may_go_on : (s : Stage) → gate.stage ≡ s → ((index : ℕ) → s ≡ stages.Ending index → index < length gate.binders) → MayGoOn s gate.binders
  may_go_on stages.Waiting e lt = tt
  may_go_on (stages.Drawing i) e lt = tt
  may_go_on (stages.Ending i) e lt = (
    lt i refl,
    λ bound p. untold_by (nat_lt (i + 1) (i + 1)) (i + 1) bound p (not_itself (i + 1))
        (λ route q. (subst (λ s. IsBinder head received s st.left (i + 1) route bound) e (st.binders.each (i + 1) route bound q p)).idle (λ same. omega (arith, same))),
  )
  may_go_on stages.Over e lt = tt

  pub may_go_behind : (index : ℕ) → gate.stage ≡ stages.Ending index → index < length gate.binders → MayGoOn gate.stage gate.binders
  may_go_behind index e lt =
      subst (λ s. MayGoOn s gate.binders) (sym e) (may_go_on (stages.Ending index) e (λ i f. subst (λ n. n < length gate.binders) (same_index index i f) lt)) where
        same_index : (a b : ℕ) → stages.Ending a ≡ stages.Ending b → a ≡ b
        same_index a b f = cc

  pub may_be_told : gate.stage ≡ stages.Waiting → MayBeTold 0 gate.binders
  may_be_told waits = λ bound p.
      untold_by (nat_lt 0 0) 0 bound p (not_itself 0)
      (λ route q. (subst (λ s. IsBinder head received s st.left 0 route bound) waits (st.binders.each 0 route bound q p)).idle (λ never. never))

  pub small_counts : gate.taken < 2 ^ 63 → (slice_index gate.counts 1 < 2 ^ 63) × ((slice_index gate.counts 2 < 2 ^ 63) × (slice_index gate.counts 3 < 2 ^ 63))
  small_counts small =
      let fit = counts_fit gate head received ended given st in
      (omega (arith, fit.samples, small), (omega (arith, fit.samples, small), omega (arith, fit.samples, small)))

pub told_stands : (old new : Gated) (head : RecordHead) (received : List Received) (given : ℕ) → StandsFor old head received false given → IsAtRest old → IsEndTold 0 old new
    → StandsFor new head received true given
told_stands old new head received given st rest told = end_kept old head received given 0 (between_waiting old head received given st rest.stage rest.telling) new told
