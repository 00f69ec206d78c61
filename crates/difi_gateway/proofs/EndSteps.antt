-- A gateway stands for the same frames, and the end, when the next binder was told it.
use Rattle.std.proofs.Common.{◌≡◌, inl, inr, ℕ, ◌+◌, ◌<◌, ◌≤◌, true, false, nat_lt, List, [], ◌∷◌, ◌++◌, length, drop, slice_get, slice_set, Some, refl, sym, ap, ◌∙◌, subst, arith}
use Rattle.std.specs.List.{AllByRecursion, sum_by}
use Rattle.std.proofs.lemmas.Bool.{cases_eq}
use Rattle.std.proofs.lemmas.Bool.Decides.{nat_tests}
use Rattle.std.proofs.lemmas.List.{append-nil, drop_all, drop-append-le, length-append, length-drop, length-set}
use Rattle.std.proofs.lemmas.List.Sums.{sum_by-set}
use Rattle.std.proofs.lemmas.Option.{slice_get_within, get_or_from_slice_get, same_Some}
use Rattle.vrt_fields.specs.declared.limits.Limits.{Limits}
use Rattle.vrt_fields.specs.declared.route.Route.{Route}
use Rattle.replay_form.specs.declared.record_head.RecordHead.{RecordHead}
use Rattle.stream_routes.specs.Ports.{IsRouteAt}
use Rattle.sample_binder.specs.Binder.{BinderState, number_kept}
use Rattle.sample_binder.specs.Calls.{Call, EndCall, outputs_of, given_by}
use Rattle.sample_binder.specs.Parts.{payload_of}
use Rattle.sample_binder.specs.Queue.{owed}
use Rattle.sample_binder.specs.declared.out.Out.{Out}
use Rattle.sample_binder.proofs.NextLemmas.{taken_within}
use Rattle.difi_gateway.specs.Calls.{calls}
use Rattle.difi_gateway.specs.Contents.{Received, IsReceived}
use Rattle.difi_gateway.specs.Datagrams.{HoldBytes}
use Rattle.difi_gateway.specs.Told.{Item, runs_from, runs_told, told, told_at_end}
use Rattle.difi_gateway.specs.Releases.{Release, copies, all_told, counts_of, part_of, out_of}
use Rattle.difi_gateway.specs.State.{Gated, StandsFor, IsOf, IsBinder, IsStream, IsIdle, AreBinders, AreBuffers, EndsWith, IsPlaced, calls_with, bytes_taken, stream_at, packet_in, items_in, items_left, told_at_end_of, end_left, end_release}
use Rattle.difi_gateway.specs.Drawing.{IsEnded, IsEndTold}
use Rattle.difi_gateway.specs.Telling.{Telling}
use Rattle.difi_gateway.specs.Telling as telling
use Rattle.difi_gateway.specs.declared.stage.Stage.{Stage}
use Rattle.difi_gateway.specs.declared.stage.Stage.TheVariants as stages
use Rattle.difi_gateway.proofs.DrawSteps.{drop_at, get_set_same, get_set_other}
use Rattle.difi_gateway.proofs.Growth.{end_releases, out-append}
use Rattle.difi_gateway.proofs.StageSteps.{IsSpent, no_copies}
use Rattle.difi_gateway.proofs.StreamRuns.{given_parts, parts_begin}
use Rattle.difi_gateway.proofs.WriteLemmas.{some_route}

-- no binder gives anything, and the first n of them were told the end
pub record IsBetween (old : Gated) (head : RecordHead) (received : List Received) (given n : ℕ) : Type 0 where
  pub is_of : IsOf head old
  pub contents : AllByRecursion (IsReceived head) received
  pub fit : HoldBytes received
  pub taken : old.taken ≡ sum_by bytes_taken received
  pub quiet : old.telling ≡ telling.Nothing
  pub all : length old.binders ≡ length head.routes
  pub each : (k : ℕ) (route : Route) (bound : BinderState) → slice_get head.routes k ≡ Some route → slice_get old.binders k ≡ Some bound
      → IsIdle head (calls_with (nat_lt k n) (calls head route.stream received)) bound
  pub buffers : AreBuffers head old.binders old.empty
  pub begun : List Item
  pub items : begun ++ told_at_end_of head received (drop n head.routes) ≡ all_told head received
  pub counts : old.counts ≡ counts_of (length received) begun
  pub few : given ≤ length (out_of head received)
  pub rest : drop given (out_of head received) ≡ copies head.routes (told_at_end_of head received (drop n head.routes)) ++ end_release head received

module _ (old : Gated) (head : RecordHead) (received : List Received) (given n : ℕ) (s : IsBetween old head received given n) where
  nothing_told : EndsWith s.begun (items_in old.routes (packet_in old.empty) old.telling)
  nothing_told = subst (λ (t : Telling). EndsWith s.begun (items_in old.routes (packet_in old.empty) t)) (sym s.quiet) (record { before = s.begun; begun_is = sym (append-nil s.begun) })

  nothing_placed : IsPlaced old.routes old.telling old.place
  nothing_placed = subst (λ (t : Telling). IsPlaced old.routes t old.place) (sym s.quiet) tt

  -- with these binders, of which this one gives
  module _ (binders : List BinderState) (left : List Out) where
    abbrev ending : Gated
    ending = record old { binders = binders; stage = stages.Ending n }

    end_stands : AreBinders head received (stages.Ending n) left binders → AreBuffers head binders old.empty
        → items_left head received ending left (stages.Ending n) ≡ told_at_end_of head received (drop n head.routes) → StandsFor ending head received true given
    end_stands are buffers e = record {
      is_of = record { values = s.is_of.values; profile = s.is_of.profile; max_words = s.is_of.max_words; routes = s.is_of.routes };
      contents = s.contents;
      fit = s.fit;
      taken = s.taken;
      ended_is = refl;
      left = left;
      binders = are;
      buffers = buffers;
      begun = s.begun;
      items = ap (λ l. s.begun ++ l) e ∙ s.items;
      now = nothing_told;
      placed = nothing_placed;
      counts = s.counts;
      few = s.few;
      rest =
          s.rest ∙ ap (λ l. copies head.routes l ++ end_release head received) (sym e)
          ∙ ap (λ l. l ++ (copies head.routes (items_left head received ending left (stages.Ending n)) ++ end_release head received)) (sym (no_copies ending s.quiet));
    }

  same_flag : (k : ℕ) → (k ≡ n → ⊥) → nat_lt k n ≡ nat_lt k (n + 1)
  same_flag k other = grind (arith, nat_tests)

  -- behind the last route
  end_behind : length old.binders ≤ n → StandsFor (record old { stage = stages.Ending n }) head received true given
  end_behind past =
      end_stands old.binders []
      (record {
        all = s.all;
        none_behind = λ behind. refl;
        each = λ k route bound r b.
            let lt = slice_get_within old.binders k bound b in
            let other : k ≡ n → ⊥ = λ e. omega (arith, e, lt, past) in
            record {
              drawn = λ d. absurd (other d);
              idle = λ no. subst (λ f. IsIdle head (calls_with f (calls head route.stream received)) bound) (same_flag k other) (s.each k route bound r b);
            };
      })
      s.buffers
      (ap (told_at_end_of head received) (drop_all (n + 1) head.routes (omega (arith, past, s.all)) ∙ sym (drop_all n head.routes (omega (arith, past, s.all)))))

  -- at a route
  module _ (was now : BinderState) (there : slice_get old.binders n ≡ Some was) (ended : IsEnded was now) where
    within : n < length old.binders
    within = slice_get_within old.binders n was there

    route_is : IsRouteAt head.routes (stream_at head.routes n) n
    route_is = some_route head.routes n (omega (arith, within, s.all))

    abbrev cs : List Call
    cs = calls head route_is.route.stream received

    idle : IsIdle head cs was
    idle =
        let off : nat_lt n n ≡ false = grind (arith, nat_tests) in
        subst (λ f. IsIdle head (calls_with f cs) was) off (s.each n route_is.route was route_is.there there)

    abbrev left : List Out
    left = drop idle.stream.taken (outputs_of head.limits (cs ++ EndCall ∷ []))

    all_taken : idle.stream.taken ≡ length (outputs_of head.limits cs)
    all_taken =
        let most = subst (λ (l : Limits). idle.stream.taken ≤ length (outputs_of l cs)) idle.stream.limits
        (taken_within was.limits was.contexts was.packets was.state was.told cs idle.stream.taken idle.stream.stands) in
        omega (arith, most, ap (λ (l : List Out). length l) idle.stream.left_is, length-drop idle.stream.taken (outputs_of head.limits cs))

    left_is : left ≡ given_by head.limits cs EndCall
    left_is = ap (λ k. drop k (outputs_of head.limits (cs ++ EndCall ∷ []))) all_taken

    stream_now : IsStream head (cs ++ EndCall ∷ []) left now
    stream_now = record {
      profile = ended.profile ∙ idle.stream.profile;
      limits = ended.limits ∙ idle.stream.limits;
      few = omega (arith, ended.count, idle.stream.few, length-append cs (EndCall ∷ []));
      kept = subst (λ (l : Limits). number_kept now ≤ l.data_window + 1 + l.pending) (sym ended.limits) (omega (arith, ended.kept, idle.stream.kept));
      taken = idle.stream.taken;
      stands = ended.stands cs idle.stream.taken idle.stream.stands;
      left_is = refl;
    }

    abbrev binders : List BinderState
    binders = slice_set old.binders n now

    at_index : (route : Route) (bound : BinderState) → slice_get head.routes n ≡ Some route → slice_get binders n ≡ Some bound → IsBinder head received (stages.Ending n) left n route bound
    at_index route bound r b =
        let on : nat_lt n (n + 1) ≡ true = grind (arith, nat_tests) in
        subst (λ (x : Route). IsBinder head received (stages.Ending n) left n x bound) (same_Some _ _ (sym route_is.there ∙ r))
        (subst (λ (x : BinderState). IsBinder head received (stages.Ending n) left n route_is.route x) (same_Some _ _ (sym (get_set_same old.binders n now within) ∙ b))
        (record { drawn = λ d. subst (λ f. IsStream head (calls_with f cs) left now) (sym on) stream_now; idle = λ no. absurd (no refl) }))

    there_within : n < length old.binders
    there_within = slice_get_within old.binders n was there

    binders_now : AreBinders head received (stages.Ending n) left binders
    binders_now = record {
      all = length-set old.binders n now ∙ s.all;
      none_behind = λ behind. absurd (omega (arith, behind, s.all, there_within));
      each = λ k route bound r b. elim (cases_eq k n) [
        | inl same ↦
            subst (λ i. IsBinder head received (stages.Ending n) left i route bound) (sym same)
            (at_index route bound (subst (λ i. slice_get head.routes i ≡ Some route) same r) (subst (λ i. slice_get binders i ≡ Some bound) same b))
        | inr other ↦ record {
          drawn = λ d. absurd (other d);
          idle = λ no. subst (λ f. IsIdle head (calls_with f (calls head route.stream received)) bound) (same_flag k other)
              (s.each k route bound r (sym (get_set_other old.binders n k now other) ∙ b));
        }
      ];
    }

    buffers_now : AreBuffers head binders old.empty
    buffers_now =
        let at = get_or_from_slice_get old.binders n was was there in
        let sums = sum_by-set number_kept old.binders n now was within in
        record { all = omega (arith, ended.kept, sums, ap (λ (b : BinderState). number_kept b) at, s.buffers.all); rooms = s.buffers.rooms }

    -- the outputs that the end adds begin with a packet
    runs_are : (lost : ℕ) (payload : List ℕ) → runs_from (stream_at old.routes n) lost payload left ≡ runs_told route_is.route.stream (given_by head.limits cs EndCall)
    runs_are lost payload =
        let parts = given_parts head.limits cs EndCall in
        let stream : stream_at old.routes n ≡ route_is.route.stream = ap (λ routes. stream_at routes n) s.is_of.routes ∙ sym route_is.stream_is in
        ap (λ i. runs_from i lost payload left) stream ∙ ap (runs_from route_is.route.stream lost payload) (left_is ∙ parts.outs_are)
        ∙ parts_begin route_is.route.stream lost payload parts.parts ∙ ap (runs_told route_is.route.stream) (sym parts.outs_are)

    end_at : StandsFor (record old { binders = binders; stage = stages.Ending n }) head received true given
    end_at =
        let more = told_at_end_of head received (drop (n + 1) head.routes) in
        end_stands binders left binders_now buffers_now
        (ap (λ l. l ++ more) (runs_are old.lost (payload_of (packet_in old.empty))) ∙ ap (told_at_end_of head received) (sym (drop_at head.routes n route_is.route route_is.there)))

  pub end_kept : (new : Gated) → IsEndTold n old new → StandsFor new head received true given
  end_kept new (inl at) = subst (λ (g : Gated). StandsFor g head received true given) (sym at.after) (end_at at.was at.now at.there at.ended)
  end_kept new (inr past) = subst (λ (g : Gated). StandsFor g head received true given) (sym past.after) (end_behind past.behind)

-- ---- before the first binder is told the end, and behind each

module _ (old : Gated) (head : RecordHead) (received : List Received) (given : ℕ) where
  -- it waits, and tells nothing
  module _ (st : StandsFor old head received false given) (waiting : old.stage ≡ stages.Waiting) (quiet : old.telling ≡ telling.Nothing) where
    no_items : items_left head received old st.left old.stage ≡ []
    no_items = ap (items_left head received old st.left) waiting

    none_owed : drop given (part_of head received) ≡ []
    none_owed =
        st.rest ∙ ap (λ l. l ++ (copies head.routes (items_left head received old st.left old.stage) ++ end_left head received old.stage)) (no_copies old quiet)
        ∙ ap (λ l. copies head.routes l ++ end_left head received old.stage) no_items ∙ ap (end_left head received) waiting

    begun_is : st.begun ≡ told head received
    begun_is = sym (append-nil st.begun) ∙ ap (λ l. st.begun ++ l) (sym no_items) ∙ st.items

    pub between_waiting : IsBetween old head received given 0
    between_waiting = record {
      is_of = st.is_of;
      contents = st.contents;
      fit = st.fit;
      taken = st.taken;
      quiet = quiet;
      all = st.binders.all;
      each = λ k route bound r b. (subst (λ (g : Stage). IsBinder head received g st.left k route bound) waiting (st.binders.each k route bound r b)).idle (λ d. d);
      buffers = st.buffers;
      begun = st.begun;
      items = ap (λ l. l ++ told_at_end head received) begun_is;
      counts = st.counts;
      few = omega (arith, st.few, ap (λ (l : List Release). length l) (out-append head received), length-append (part_of head received) (end_releases head received));
      rest =
          ap (drop given) (out-append head received) ∙ drop-append-le given (part_of head received) (end_releases head received) st.few
          ∙ ap (λ l. l ++ end_releases head received) none_owed;
    }

  -- the binder that gives owes nothing
  module _ (i : ℕ) (s : IsSpent old head received true given i) (ended : old.stage ≡ stages.Ending i) (quiet : old.telling ≡ telling.Nothing) where
    abbrev st : StandsFor old head received true given
    st = s.stands

    items_are : items_left head received old st.left old.stage ≡ told_at_end_of head received (drop (i + 1) head.routes)
    items_are = ap (λ (g : Stage). items_left head received old st.left g) ended ∙ ap (λ l. items_left head received old l (stages.Ending i)) s.none

    idle_at : (k : ℕ) (route : Route) (bound : BinderState) → slice_get old.binders k ≡ Some bound → IsBinder head received (stages.Ending i) [] k route bound
        → IsIdle head (calls_with (nat_lt k (i + 1)) (calls head route.stream received)) bound
    idle_at k route bound b is = elim (cases_eq k i) [
      | inl same ↦
          let one : s.was ≡ bound = same_Some _ _ (sym s.there ∙ subst (λ n. slice_get old.binders n ≡ Some bound) same b) in
          record { stream = is.drawn same; nothing = ap (λ (x : BinderState). owed x.state) (sym one) ∙ s.nothing }
      | inr other ↦ is.idle other
    ]

    pub between_ended : IsBetween old head received given (i + 1)
    between_ended = record {
      is_of = st.is_of;
      contents = st.contents;
      fit = st.fit;
      taken = st.taken;
      quiet = quiet;
      all = st.binders.all;
      each = λ k route bound r b. idle_at k route bound b
          (subst (λ (l : List Out). IsBinder head received (stages.Ending i) l k route bound) s.none
          (subst (λ (g : Stage). IsBinder head received g st.left k route bound) ended (st.binders.each k route bound r b)));
      buffers = st.buffers;
      begun = st.begun;
      items = ap (λ l. st.begun ++ l) (sym items_are) ∙ st.items;
      counts = st.counts;
      few = st.few;
      rest =
          st.rest ∙ ap (λ l. l ++ (copies head.routes (items_left head received old st.left old.stage) ++ end_left head received old.stage)) (no_copies old quiet)
          ∙ ap (λ l. copies head.routes l ++ end_left head received old.stage) items_are
          ∙ ap (λ l. copies head.routes (told_at_end_of head received (drop (i + 1) head.routes)) ++ l) (ap (end_left head received) ended);
    }
