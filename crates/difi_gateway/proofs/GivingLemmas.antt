-- Drawing ahead, what is owed then, and the next release.
use Rattle.std.proofs.Common.{◌≡◌, ◌≢◌, ◌↔◌, inl, inr, ℕ, ◌+◌, ◌-◌, ◌<◌, ◌≤◌, ◌==◌, ◌^◌, Bool, true, false, List, ◌++◌, length, slice_index, Some, None, refl, sym, ap, ◌∙◌, subst, arith}
use Rattle.std.specs.Prelude.{IsTrue}
use Rattle.std.specs.List.{sum_by}
use Rattle.std.specs.Borrow.{Bor}
use Rattle.std.proofs.lemmas.List.{length-append, length-drop}
use Rattle.vrt_fields.specs.declared.route.Route.{Route}
use Rattle.vrt_fields.specs.Route.{AreRoutes}
use Rattle.replay_form.specs.declared.record_head.RecordHead.{RecordHead}
use Rattle.sample_binder.specs.Binder.{number_kept}
use Rattle.stream_routes.specs.Ports.{ports_at}
use Rattle.stream_routes.proofs.PortLaws.{ports_there}
use Rattle.difi_gateway.specs.Contents.{Received}
use Rattle.difi_gateway.specs.Releases.{Release, copies}
use Rattle.difi_gateway.specs.State.{Gated, StandsFor, IsSound, IsDrawnAhead, IsAtHalt, IsPlaced, copies_left, end_left, is_drawn, is_ended, items_in, items_left, packet_in, releases_of, stream_at}
use Rattle.difi_gateway.specs.Drawing.{MayGoOn}
use Rattle.difi_gateway.specs.Lent.{IsLeft}
use Rattle.difi_gateway.specs.Writing.{IsCopyWritten, IsEndWritten, number_of_copies}
use Rattle.difi_gateway.specs.Progress.{IsDrawnAt, IsMoved, IsNextGiven, IsNoneGiven, IsOnWay, IsOwing, IsSettledAt}
use Rattle.difi_gateway.specs.Telling.{Telling}
use Rattle.difi_gateway.specs.Telling as telling
use Rattle.difi_gateway.specs.declared.stage.Stage.{Stage}
use Rattle.difi_gateway.specs.declared.stage.Stage.TheVariants as stages
use Rattle.difi_gateway.proofs.DrawSteps.{form_2}
use Rattle.difi_gateway.proofs.WriteLemmas.{some_route, run_number, version_number}
use Rattle.difi_gateway.proofs.AdvanceLemmas.{copy_given, end_given, moved_same, moved_stands, settled_given}
use Rattle.difi_gateway.proofs.NearLemmas.{copy_less, end_less, placed_below}
use Rattle.difi_gateway.proofs.StepLemmas.{copy_same, copy_sound, end_same, end_sound, may_go_on, move_more, small_counts}

-- ---- drawing ahead

pub way_start : (gate : Gated) → IsOnWay gate gate
way_start gate = record { stands = λ head received ended given st. st; ended = refl; taken = refl; owed = omega arith }

pub way_moved : (start old new : Gated) (index : ℕ) → IsSound old → IsDrawnAt index old → IsMoved index old new → IsOnWay start old → IsOnWay start new
way_moved start old new index w at moved way =
    let same = moved_same index old new moved in record {
      stands = λ head received ended given st. moved_stands old new head received ended given index (way.stands head received ended given st) at.quiet at.drawn moved;
      ended = same.ended ∙ way.ended;
      taken = same.taken ∙ way.taken;
      owed = omega (arith, move_more old new w index at.quiet at.drawn moved, way.owed);
    }

-- what the next draw asks for
pub record MayDraw (index : ℕ) (gate : Gated) : Type 0 where
  pub room : length gate.empty + sum_by number_kept gate.binders ≤ gate.capacity
  pub bound : slice_index gate.counts 1 < 2 ^ 63
  pub uncertain : slice_index gate.counts 2 < 2 ^ 63
  pub raw : slice_index gate.counts 3 < 2 ^ 63
  pub next : MayGoOn gate.stage gate.binders

pub may_draw : (index : ℕ) (gate : Gated) → IsSound gate → IsDrawnAt index gate → MayDraw index gate
may_draw index gate w at =
    let counts = small_counts gate w.head w.received (is_ended gate.stage) w.given w.stands w.small in record {
      room = w.buffers;
      bound = counts.0;
      uncertain = counts.1.0;
      raw = counts.1.1;
      next = may_go_on gate w.head w.received (is_ended gate.stage) w.given w.stands gate.stage refl
          (λ i e. subst (λ n. n < length gate.binders) (subst (λ s. is_drawn s index) e at.drawn) at.within);
    }

-- ---- what is owed

-- drawn ahead it is settled, where nothing is told and it is not behind the end
pub settled_ahead : (gate : Gated) (s : Stage) → gate.stage ≡ s → gate.telling ≡ telling.Nothing → IsDrawnAhead gate → ((index : ℕ) → s ≡ stages.Ending index → ⊥) → IsSettledAt gate
settled_ahead gate stages.Waiting e quiet ahead other = record { telling = quiet; stage = inl e }
settled_ahead gate (stages.Drawing index) e quiet ahead other = absurd (subst (λ s. IsAtHalt s (length gate.binders)) e (ahead quiet))
settled_ahead gate (stages.Ending index) e quiet ahead other = absurd (other index refl)
settled_ahead gate stages.Over e quiet ahead other = record { telling = quiet; stage = inr e }

-- behind the end all binders have given
pub ending_ahead : (gate : Gated) (index : ℕ) → gate.stage ≡ stages.Ending index → gate.telling ≡ telling.Nothing → IsDrawnAhead gate → length gate.binders ≤ index
ending_ahead gate index e quiet ahead = subst (λ s. IsAtHalt s (length gate.binders)) e (ahead quiet)

-- so many copies are told of what is told
copies_told : (routes : List Route) (t : Telling) (place : ℕ) (packet : List ℕ) → AreRoutes true routes → IsPlaced routes t place
    → length (copies routes (items_in routes packet t)) ≡ number_of_copies routes t
copies_told routes telling.Nothing place packet valid placed = refl
copies_told routes (telling.Refused frame port refusal detail stamp) place packet valid placed = refl
copies_told routes (telling.Run index lost run) place packet valid placed =
    run_number routes index lost run (length (ports_at routes index)) (telling.Run index lost run)
    (ap (λ (l : List ℕ). length l) (sym (ports_there routes (stream_at routes index) index valid (some_route routes index placed.0)))) refl packet
copies_told routes (telling.Version index) place packet valid placed =
    version_number routes index (length (ports_at routes index)) (telling.Version index)
    (ap (λ (l : List ℕ). length l) (sym (ports_there routes (stream_at routes index) index valid (some_route routes index placed.0)))) refl packet

module _ (gate : Gated) (head : RecordHead) (received : List Received) (ended : Bool) (given : ℕ) (st : StandsFor gate head received ended given) where
  valid : AreRoutes true gate.routes
  valid = subst (AreRoutes true) (sym st.is_of.routes) (form_2 (head.form == 2) head.routes st.is_of.values.routes)

  abbrev later : List Release
  later = copies head.routes (items_left head received gate st.left gate.stage) ++ end_left head received gate.stage

  -- the releases that are left, by their number
  number_left : length (releases_of head received ended) - given ≡ length (copies_left gate) + length later
  number_left = sym (length-drop given (releases_of head received ended)) ∙ ap (λ (l : List Release). length l) st.rest ∙ length-append (copies_left gate) later

  some_told : gate.telling ≢ telling.Nothing → 0 < length (copies_left gate)
  some_told told =
      omega (
        arith,
        length-drop gate.place (copies gate.routes (items_in gate.routes (packet_in gate.empty) gate.telling)),
        copies_told gate.routes gate.telling gate.place (packet_in gate.empty) valid st.placed,
        placed_below gate.routes gate.telling gate.place st.placed told,
      )

  some_later : (index : ℕ) → gate.stage ≡ stages.Ending index → 0 < length later
  some_later index e =
      omega (
        arith,
        length-append (copies head.routes (items_left head received gate st.left gate.stage)) (end_left head received gate.stage),
        ap (λ s. length (end_left head received s)) e,
      )

  pub owing_left : IsOwing gate → given < length (releases_of head received ended)
  owing_left (inl told) = omega (arith, number_left, some_told told)
  owing_left (inr ending) = omega (arith, number_left, some_later ending.0 ending.1)

  pub owes_exactly : (result : Bool) → (IsTrue result → IsOwing gate) → (result ≡ false → IsSettledAt gate) → IsTrue result ↔ given < length (releases_of head received ended)
  owes_exactly true owing settled = (λ t. owing_left (owing t), λ lt. refl)
  owes_exactly false owing settled = (λ t. absurd (cc), λ lt. absurd (omega (arith, lt, settled_given gate head received ended given st (settled refl))))

-- ---- the next release

pub copy_next : (old new : Gated) (bytes : List ℕ) → IsSound old → old.telling ≢ telling.Nothing → IsCopyWritten bytes old new → IsNextGiven bytes old new
copy_next old new bytes w told c =
    let same = copy_same bytes old new c in record {
      next = λ head received ended given st. copy_given old new head received ended given st bytes c;
      ended = same.way.ended;
      taken = same.way.taken;
      less = copy_less old new bytes w.stands.placed told c;
      sound = copy_sound old new w bytes c;
    }

pub end_next : (old new : Gated) (bytes : List ℕ) (index : ℕ) → IsSound old → old.stage ≡ stages.Ending index → old.telling ≡ telling.Nothing → IsDrawnAhead old → IsEndWritten bytes old new
    → IsNextGiven bytes old new
end_next old new bytes index w ending quiet ahead e =
    let behind = ending_ahead old index ending quiet ahead in
    let same = end_same old new w bytes index ending e in record {
      next = λ head received ended given st. end_given old new head received ended given st bytes index ending behind quiet e;
      ended = same.ended;
      taken = same.taken;
      less = end_less old new bytes index ending quiet e;
      sound = end_sound old new w bytes index ending behind quiet e;
    }

pub next_ahead : (old mid new : Gated) (bytes : List ℕ) → IsNextGiven bytes old mid → IsOnWay mid new → IsSound new → IsNextGiven bytes old new
next_ahead old mid new bytes next way sound = record {
  next = λ head received ended given st.
      let n = next.next head received ended given st in
      (n.0, way.stands head received ended (given + 1) n.1);
  ended = way.ended ∙ next.ended;
  taken = way.taken ∙ next.taken;
  less = omega (arith, next.less, way.owed);
  sound = sound;
}

-- ---- what a gateway is once the record is let go

pub left_given : (old new : Gated) (bytes : List ℕ) (lent : Bor (List ℕ)) → IsNextGiven bytes old new → IsLeft (Some lent) old new
left_given old new bytes lent next = record {
  given = λ head received ended given st. (next.next head received ended given st).1;
  none = tt;
  rest = tt;
  ended = next.ended;
  taken = next.taken;
  less = next.less;
}

pub left_none : (old new : Gated) → IsNoneGiven old new → IsLeft None old new
left_none old new none = record {
  given = tt;
  none = λ head received ended given st. subst (λ (g : Gated). StandsFor g head received ended given) (sym none.same) st;
  rest = subst IsSettledAt (sym none.same) none.settled;
  ended = ap (λ (g : Gated). is_ended g.stage) none.same;
  taken = ap (λ (g : Gated). g.taken) none.same;
  less = tt;
}
