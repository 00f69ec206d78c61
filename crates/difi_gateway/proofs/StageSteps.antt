-- A gateway goes on where the binder that gives owes nothing, and is done behind the last one.
use Rattle.std.proofs.Common.{◌≡◌, inl, inr, ℕ, ◌+◌, ◌≤◌, Bool, true, nat_lt, List, [], ◌++◌, length, drop, slice_get, slice_set, Option, Some, None, IfNone, refl, sym, ap, ◌∙◌, subst, arith}
use Rattle.std.proofs.lemmas.Bool.{cases_eq}
use Rattle.std.proofs.lemmas.Bool.Decides.{nat_tests}
use Rattle.std.proofs.lemmas.List.{append-nil, drop_all}
use Rattle.std.proofs.lemmas.Option.{slice_get_within, same_Some}
use Rattle.vrt_fields.specs.declared.route.Route.{Route}
use Rattle.replay_form.specs.declared.record_head.RecordHead.{RecordHead}
use Rattle.sample_binder.specs.Binder.{BinderState}
use Rattle.sample_binder.specs.Queue.{owed}
use Rattle.sample_binder.specs.declared.out.Out.{Out}
use Rattle.sample_binder.specs.declared.out.Out.TheVariants as out
use Rattle.release_form.specs.declared.shown.Shown.TheVariants as shown
use Rattle.difi_gateway.specs.Calls.{calls}
use Rattle.difi_gateway.specs.Contents.{Received}
use Rattle.difi_gateway.specs.Releases.{Release, copies, all_told, counts_of}
use Rattle.difi_gateway.specs.State.{Gated, StandsFor, IsBinder, IsIdle, calls_with, is_drawn, is_ended, packet_in, items_in, items_of, items_left, told_at_end_of, end_left, end_release, copies_left, releases_of}
use Rattle.difi_gateway.specs.Drawing.{IsDrawn, drawn_as, drawn_from}
use Rattle.difi_gateway.specs.declared.drawn.Drawn.TheVariants as drawn
use Rattle.difi_gateway.specs.Telling.{Telling}
use Rattle.difi_gateway.specs.Telling as telling
use Rattle.difi_gateway.specs.declared.stage.Stage.{Stage}
use Rattle.difi_gateway.specs.declared.stage.Stage.TheVariants as stages
use Rattle.difi_gateway.proofs.CopySteps.{one_behind, within_next}
use Rattle.difi_gateway.proofs.DrawSteps.{none_left, nothing_drawn}

-- the binder of this route owes nothing, and none of its outputs is left
pub record IsSpent (gate : Gated) (head : RecordHead) (received : List Received) (ended : Bool) (given index : ℕ) : Type 0 where
  pub stands : StandsFor gate head received ended given
  pub none : stands.left ≡ []
  pub was : BinderState
  pub there : slice_get gate.binders index ≡ Some was
  pub nothing : owed was.state ≡ []

none_given : (o : Option Out) → drawn.Nothing ≡ drawn_as o → o ≡ None
none_given None e = refl
none_given (Some (out.Packet buf lost)) e = absurd (cc)
none_given (Some (out.Run r)) e = absurd (cc)

-- where nothing was drawn
pub spent : (old new : Gated) (head : RecordHead) (received : List Received) (ended : Bool) (given index : ℕ)
    → StandsFor old head received ended given → is_drawn old.stage index → IsDrawn index drawn.Nothing old new → IsSpent old head received ended given index × (new ≡ old)
spent old new head received ended given index st d by =
    let e : by.given ≡ None = none_given by.given by.result_is in (
      record {
        stands = st;
        none = none_left old head received ended given st index by.was by.now d by.there by.given by.by e;
        was = by.was;
        there = by.there;
        nothing = subst (λ (g : Option Out). IfNone g (owed by.was.state ≡ [])) e by.by.nothing;
      },
      by.after ∙ ap (drawn_from (record old { binders = slice_set old.binders index by.now }) index) e
          ∙ nothing_drawn old head received ended given st index by.was by.now d by.there by.given by.by e,
    )

pub no_copies : (gate : Gated) → gate.telling ≡ telling.Nothing → copies_left gate ≡ []
no_copies gate e = ap (λ (t : Telling). drop gate.place (copies gate.routes (items_in gate.routes (packet_in gate.empty) t))) e ∙ drop_all gate.place [] (omega arith)

module _ (old : Gated) (head : RecordHead) (received : List Received) (ended : Bool) (given index : ℕ) (s : IsSpent old head received ended given index)
    (drawing : old.stage ≡ stages.Drawing index) where
  abbrev waiting : Gated
  waiting = record old { stage = stages.Waiting }

  abbrev st : StandsFor old head received ended given
  st = s.stands

  idle_at : (k : ℕ) (route : Route) (bound : BinderState) → slice_get head.routes k ≡ Some route → slice_get old.binders k ≡ Some bound
      → IsBinder head received (stages.Drawing index) [] k route bound → IsIdle head (calls_with (nat_lt k 0) (calls head route.stream received)) bound
  idle_at k route bound r b is = elim (cases_eq k index) [
    | inl same ↦
        let one : s.was ≡ bound = same_Some _ _ (sym s.there ∙ subst (λ n. slice_get old.binders n ≡ Some bound) same b) in
        record { stream = is.drawn same; nothing = ap (λ (x : BinderState). owed x.state) (sym one) ∙ s.nothing }
    | inr other ↦ is.idle other
  ]

  left_is : items_left head received old st.left old.stage ≡ []
  left_is = ap (λ (g : Stage). items_left head received old st.left g) drawing ∙ ap (λ l. items_left head received old l (stages.Drawing index)) s.none

  -- it waits again
  pub wait_kept : StandsFor waiting head received ended given
  wait_kept = record {
    is_of = record { values = st.is_of.values; profile = st.is_of.profile; max_words = st.is_of.max_words; routes = st.is_of.routes };
    contents = st.contents;
    fit = st.fit;
    taken = st.taken;
    ended_is = st.ended_is ∙ ap is_ended drawing;
    left = [];
    binders = record {
      all = st.binders.all;
      none_behind = tt;
      each = λ k route bound r b. record {
        drawn = λ d. absurd d;
        idle = λ no. idle_at k route bound r b
            (subst (λ (l : List Out). IsBinder head received (stages.Drawing index) l k route bound) s.none
            (subst (λ (g : Stage). IsBinder head received g st.left k route bound) drawing (st.binders.each k route bound r b)));
      };
    };
    buffers = st.buffers;
    begun = st.begun;
    items = ap (λ l. st.begun ++ l) (sym left_is) ∙ st.items;
    now = st.now;
    placed = st.placed;
    counts = st.counts;
    few = st.few;
    rest = st.rest ∙ ap (λ l. copies_left old ++ (copies head.routes l ++ end_left head received old.stage)) left_is ∙ ap (λ l. copies_left old ++ l) (ap (end_left head received) drawing);
  }

-- ---- the end

module _ (old : Gated) (head : RecordHead) (received : List Received) (ended : Bool) (given index : ℕ) (st : StandsFor old head received ended given)
    (ending : old.stage ≡ stages.Ending index) (behind : length head.routes ≤ index) (none : st.left ≡ []) (quiet : old.telling ≡ telling.Nothing) where
  abbrev over : Gated
  over = record old { stage = stages.Over }

  is_true : ended ≡ true
  is_true = st.ended_is ∙ ap is_ended ending

  nothing_left : items_left head received old st.left old.stage ≡ []
  nothing_left =
      ap (λ (g : Stage). items_left head received old st.left g) ending ∙ ap (λ l. items_left head received old l (stages.Ending index)) none
      ∙ ap (told_at_end_of head received) (drop_all (index + 1) head.routes (omega (arith, behind)))

  -- the counts are those of all that is told
  pub counts_all : old.counts ≡ counts_of (length received) (all_told head received)
  counts_all =
      st.counts
      ∙ ap (counts_of (length received)) (sym (append-nil st.begun) ∙ ap (λ l. st.begun ++ l) (sym nothing_left) ∙ st.items ∙ ap (items_of head received) is_true)

  -- they are left
  pub end_is_left : drop given (releases_of head received ended) ≡ end_release head received
  end_is_left =
      st.rest ∙ ap (λ l. l ++ (copies head.routes (items_left head received old st.left old.stage) ++ end_left head received old.stage)) (no_copies old quiet)
      ∙ ap (λ l. copies head.routes l ++ end_left head received old.stage) nothing_left ∙ ap (end_left head received) ending

  idle_over : (k : ℕ) (route : Route) (bound : BinderState) → slice_get head.routes k ≡ Some route → IsBinder head received (stages.Ending index) st.left k route bound
      → IsIdle head (calls_with (nat_lt k (length head.routes)) (calls head route.stream received)) bound
  idle_over k route bound r is =
      let lt = slice_get_within head.routes k route r in
      let test : nat_lt k (index + 1) ≡ nat_lt k (length head.routes) = grind (arith, nat_tests) in
      subst (λ b. IsIdle head (calls_with b (calls head route.stream received)) bound) test (is.idle (λ e. omega (arith, e, lt, behind)))

  -- all was told
  pub over_kept : StandsFor over head received ended (given + 1)
  over_kept =
      let first : Release = record { shown = shown.End (counts_of (length received) (all_told head received)); payload = [] } in
      record {
        is_of = record { values = st.is_of.values; profile = st.is_of.profile; max_words = st.is_of.max_words; routes = st.is_of.routes };
        contents = st.contents;
        fit = st.fit;
        taken = st.taken;
        ended_is = is_true;
        left = [];
        binders = record {
          all = st.binders.all;
          none_behind = tt;
          each = λ k route bound r b. record {
            drawn = λ d. absurd d;
            idle = λ no. idle_over k route bound r (subst (λ (g : Stage). IsBinder head received g st.left k route bound) ending (st.binders.each k route bound r b));
          };
        };
        buffers = st.buffers;
        begun = st.begun;
        items = ap (λ l. st.begun ++ l) (sym nothing_left) ∙ st.items;
        now = st.now;
        placed = st.placed;
        counts = st.counts;
        few = within_next given (releases_of head received ended) first [] end_is_left;
        rest = one_behind given (releases_of head received ended) first [] end_is_left ∙ sym (append-nil (copies_left over) ∙ no_copies over quiet);
      }
