-- A gateway stands for the same frames after its binder gave one output.
use Rattle.std.proofs.Common.{◌≡◌, inl, inr, ℕ, zero, suc, ◌+◌, ◌<◌, ◌≤◌, Bool, true, false, nat_lt, List, [], ◌∷◌, ◌++◌, length, drop, slice_get, slice_set, Option, Some, None, IfNone, OnSome, refl, sym, ap, ◌∙◌, subst, arith, append_assoc}
use Rattle.std.specs.List.{sum_by}
use Rattle.std.proofs.lemmas.Bool.{cases_eq}
use Rattle.std.proofs.lemmas.List.{append-nil, drop_more, drop_all, length-set, length-append, set-get_or, get_or-set_same}
use Rattle.std.proofs.lemmas.List.Sums.{sum_by-set, sum_by_push}
use Rattle.std.proofs.lemmas.Option.{slice_get_within, slice_get-get_or, get_or_from_slice_get, same_Some}
use Rattle.std.proofs.ByRecursion.{All-append}
use Rattle.vrt_words.specs.Buffer.{Buffer}
use Rattle.vrt_fields.specs.Route.{AreRoutes}
use Rattle.vrt_fields.specs.declared.limits.Limits.{Limits}
use Rattle.vrt_fields.specs.declared.route.Route.{Route}
use Rattle.replay_form.specs.declared.record_head.RecordHead.{RecordHead}
use Rattle.stream_routes.specs.Ports.{IsRouteAt, ports_at}
use Rattle.stream_routes.proofs.PortLaws.{routes_of_form_2, some_ports, ports_there}
use Rattle.sample_binder.specs.Binder as binder
use Rattle.sample_binder.specs.Binder.{BinderState, number_kept}
use Rattle.sample_binder.specs.Calls.{Call, outputs_of}
use Rattle.sample_binder.specs.Parts.{payload_of}
use Rattle.sample_binder.specs.declared.out.Out.{Out}
use Rattle.sample_binder.specs.declared.out.Out.TheVariants as out
use Rattle.sample_binder.specs.declared.out.Run.{Run}
use Rattle.sample_binder.specs.declared.out.Run.TheVariants as run
use Rattle.difi_gateway.specs.Calls.{calls}
use Rattle.difi_gateway.specs.Contents.{Received}
use Rattle.difi_gateway.specs.Told.{Item, RunItem, runs_from}
use Rattle.difi_gateway.specs.Releases.{copies, counts_of, bound_samples, uncertain_samples, raw_packets, refused_frames, versions}
use Rattle.difi_gateway.specs.State.{IsNoneBehind, Gated, StandsFor, EndsWith, IsBinder, IsStream, AreBinders, HasRoom, calls_with, number_ended, is_drawn, stream_at, packet_in, items_in, items_left, runs_left, told_at_end_of, end_left, copies_left, releases_of}
use Rattle.difi_gateway.specs.Drawing.{IsDrawn, IsGivenBy, packets_given, counted, drawn_from}
use Rattle.difi_gateway.specs.declared.drawn.Drawn.{Drawn}
use Rattle.difi_gateway.specs.Telling.{Telling}
use Rattle.difi_gateway.specs.Telling as telling
use Rattle.difi_gateway.specs.declared.stage.Stage.{Stage}
use Rattle.difi_gateway.specs.declared.stage.Stage.TheVariants as stages
use Rattle.difi_gateway.proofs.Growth.{copies-append}
use Rattle.difi_gateway.proofs.RoomLemmas.{given_room}
use Rattle.difi_gateway.proofs.WriteLemmas.{some_route}

-- ---- lists

pub drop_at : {X : Type 0} (xs : List X) (i : ℕ) (x : X) → slice_get xs i ≡ Some x → drop i xs ≡ x ∷ drop (i + 1) xs
drop_at {X} xs i x e =
    drop_more xs i x (slice_get_within xs i x e) ∙ ap (λ y. y ∷ drop (i + 1) xs) (get_or_from_slice_get xs i x x e)

drop_past : {X : Type 0} (xs : List X) (i : ℕ) → slice_get xs i ≡ None → drop i xs ≡ []
drop_past [] zero e = refl
drop_past [] (suc i) e = refl
drop_past (x ∷ xs) zero e = absurd (cc)
drop_past (x ∷ xs) (suc i) e = drop_past xs i e

pub get_set_same : {X : Type 0} (xs : List X) (i : ℕ) (y : X) → i < length xs → slice_get (slice_set xs i y) i ≡ Some y
get_set_same xs i y lt =
    slice_get-get_or (slice_set xs i y) i y (omega (arith, lt, length-set xs i y)) ∙ ap Some (get_or-set_same xs i y y lt)

pub get_set_other : {X : Type 0} (xs : List X) (i j : ℕ) (y : X) → (j ≡ i → ⊥) → slice_get (slice_set xs i y) j ≡ slice_get xs j
get_set_other [] zero j y other = refl
get_set_other [] (suc i) j y other = refl
get_set_other (x ∷ xs) zero zero y other = absurd (other refl)
get_set_other (x ∷ xs) zero (suc j) y other = refl
get_set_other (x ∷ xs) (suc i) zero y other = refl
get_set_other (x ∷ xs) (suc i) (suc j) y other = get_set_other xs i j y (λ e. other (ap suc e))

pub set_as_was : {X : Type 0} (xs : List X) (i : ℕ) (x : X) → slice_get xs i ≡ Some x → slice_set xs i x ≡ xs
set_as_was xs i x e = ap (slice_set xs i) (sym (get_or_from_slice_get xs i x x e)) ∙ set-get_or xs i x

packet_behind : (buffers : List Buffer) (buf : Buffer) → packet_in (buffers ++ buf ∷ []) ≡ buf.bytes
packet_behind [] buf = refl
packet_behind (a ∷ []) buf = refl
packet_behind (a ∷ b ∷ rest) buf = packet_behind (b ∷ rest) buf

-- ---- routes

pub form_2 : (second : Bool) (routes : List Route) → AreRoutes second routes → AreRoutes true routes
form_2 true routes h = h
form_2 false routes h = routes_of_form_2 routes h

some_port : (routes : List Route) (index : ℕ) → AreRoutes true routes → index < length routes → 0 < length (ports_at routes index)
some_port routes index h lt =
    let there = some_route routes index lt in
    omega (arith, some_ports routes (stream_at routes index) index h there, ap (λ (l : List ℕ). length l) (ports_there routes (stream_at routes index) index h there))

-- ---- the binder that gives

one_drawn : (stage : Stage) (k index : ℕ) → is_drawn stage k → is_drawn stage index → k ≡ index
one_drawn stages.Waiting k index a b = absurd a
one_drawn (stages.Drawing i) k index a b = a ∙ sym b
one_drawn (stages.Ending i) k index a b = a ∙ sym b
one_drawn stages.Over k index a b = absurd a

-- what is left by the runs that are left of its outputs
left_by_runs : (head : RecordHead) (received : List Received) (stage : Stage) (index : ℕ) (a b : Gated) (l m : List Out) (x : List Item) → is_drawn stage index
    → runs_left a index l ≡ x ++ runs_left b index m → items_left head received a l stage ≡ x ++ items_left head received b m stage
left_by_runs head received stages.Waiting index a b l m x d e = absurd d
left_by_runs head received (stages.Drawing i) index a b l m x d e = subst (λ n. runs_left a n l ≡ x ++ runs_left b n m) d e
left_by_runs head received (stages.Ending i) index a b l m x d e =
    let more = told_at_end_of head received (drop (i + 1) head.routes) in
    let runs = subst (λ n. runs_left a n l ≡ x ++ runs_left b n m) d e in
    ap (λ items. items ++ more) runs ∙ append_assoc x (runs_left b i m) more
left_by_runs head received stages.Over index a b l m x d e = absurd d

-- ---- counts

counts_on : (n : ℕ) (begun : List Item) (stream lost : ℕ) (r : Run) (payload : List ℕ)
    → counted r (counts_of n begun) ≡ counts_of n (begun ++ RunItem stream lost r payload ∷ [])
counts_on n begun stream lost (run.Bound stamp first number moment fields bits) payload =
    let item = RunItem stream lost (run.Bound stamp first number moment fields bits) payload in
    rw (sum_by_push bound_samples begun item) rw (sum_by_push uncertain_samples begun item) rw (sum_by_push raw_packets begun item)
    rw (sum_by_push refused_frames begun item) rw (sum_by_push versions begun item) (grind arith)
counts_on n begun stream lost (run.Uncertain reason stamp first number moment bits) payload =
    let item = RunItem stream lost (run.Uncertain reason stamp first number moment bits) payload in
    rw (sum_by_push bound_samples begun item) rw (sum_by_push uncertain_samples begun item) rw (sum_by_push raw_packets begun item)
    rw (sum_by_push refused_frames begun item) rw (sum_by_push versions begun item) (grind arith)
counts_on n begun stream lost (run.Raw reason stamp pad) payload =
    let item = RunItem stream lost (run.Raw reason stamp pad) payload in
    rw (sum_by_push bound_samples begun item) rw (sum_by_push uncertain_samples begun item) rw (sum_by_push raw_packets begun item)
    rw (sum_by_push refused_frames begun item) rw (sum_by_push versions begun item) (grind arith)

module _ (old : Gated) (head : RecordHead) (received : List Received) (ended : Bool) (given : ℕ) (st : StandsFor old head received ended given)
    (index : ℕ) (was now : BinderState) (drawn : is_drawn old.stage index) (there : slice_get old.binders index ≡ Some was) where
  within : index < length old.binders
  within = slice_get_within old.binders index was there

  within_routes : index < length head.routes
  within_routes = omega (arith, within, st.binders.all)

  route_is : IsRouteAt head.routes (stream_at head.routes index) index
  route_is = some_route head.routes index within_routes

  abbrev cs : List Call
  cs = calls_with (nat_lt index (number_ended (length head.routes) old.stage)) (calls head route_is.route.stream received)

  abbrev outs : List Out
  outs = outputs_of head.limits cs

  abbrev binders : List BinderState
  binders = slice_set old.binders index now

  stream : IsStream head cs st.left was
  stream = (st.binders.each index route_is.route was route_is.there there).drawn drawn

  at_index : (left : List Out) → IsStream head cs left now → (route : Route) (bound : BinderState) → slice_get head.routes index ≡ Some route → slice_get binders index ≡ Some bound
      → IsBinder head received old.stage left index route bound
  at_index left s route bound r b =
      subst (λ (x : Route). IsBinder head received old.stage left index x bound) (same_Some _ _ (sym route_is.there ∙ r))
      (subst (λ (x : BinderState). IsBinder head received old.stage left index route_is.route x) (same_Some _ _ (sym (get_set_same old.binders index now within) ∙ b))
      (record { drawn = λ d. s; idle = λ no. absurd (no drawn) }))

  there_within : index < length head.routes
  there_within = omega (arith, slice_get_within old.binders index was there, st.binders.all)

  not_behind : (s : Stage) (left : List Out) → is_drawn s index → IsNoneBehind s (length head.routes) left
  not_behind stages.Waiting left d = tt
  not_behind (stages.Drawing i) left d = tt
  not_behind (stages.Ending i) left d = λ behind. absurd (omega (arith, behind, d, there_within))
  not_behind stages.Over left d = tt

  binders_on : (left : List Out) → IsStream head cs left now → AreBinders head received old.stage left binders
  binders_on left s = record {
    all = length-set old.binders index now ∙ st.binders.all;
    none_behind = not_behind old.stage left drawn;
    each = λ k route bound r b. elim (cases_eq k index) [
      | inl same ↦
          subst (λ n. IsBinder head received old.stage left n route bound) (sym same)
          (at_index left s route bound (subst (λ n. slice_get head.routes n ≡ Some route) same r) (subst (λ n. slice_get binders n ≡ Some bound) same b))
      | inr other ↦
          let o = st.binders.each k route bound r (sym (get_set_other old.binders index k now other) ∙ b) in
          record { drawn = λ d. absurd (other (one_drawn old.stage k index d drawn)); idle = o.idle }
    ];
  }

  module _ (o : Option Out) (by : IsGivenBy o was now) where
    given_is : o ≡ slice_get outs stream.taken
    given_is = by.outs cs stream.taken stream.stands ∙ ap (λ (l : Limits). slice_get (outputs_of l cs) stream.taken) stream.limits

    left_on : (x : Out) → o ≡ Some x → st.left ≡ x ∷ drop (stream.taken + 1) outs
    left_on x e = stream.left_is ∙ drop_at outs stream.taken x (sym given_is ∙ e)

    -- where nothing is owed, nothing is left
    pub none_left : o ≡ None → st.left ≡ []
    none_left e = stream.left_is ∙ drop_past outs stream.taken (sym given_is ∙ e)

    stream_on : (x : Out) → o ≡ Some x → IsStream head cs (drop (stream.taken + 1) outs) now
    stream_on x e = record {
      profile = by.same.profile ∙ stream.profile;
      limits = by.same.limits ∙ stream.limits;
      few = omega (arith, by.count, stream.few);
      kept = subst (λ (l : Limits). number_kept now ≤ l.data_window + 1 + l.pending) (sym by.same.limits) (omega (arith, by.kept, stream.kept));
      taken = stream.taken + 1;
      stands = subst (λ (g : Option Out). OnSome g (binder.StandsFor now cs (stream.taken + 1))) e (by.stands cs stream.taken stream.stands);
      left_is = refl;
    }

    -- all buffers are there
    pub kept_sum : sum_by number_kept binders + packets_given o ≡ sum_by number_kept old.binders
    kept_sum =
        let at = get_or_from_slice_get old.binders index was was there in
        let sums = sum_by-set number_kept old.binders index now was within in
        omega (arith, by.kept, sums, ap (λ (b : BinderState). number_kept b) at)

    -- nothing was drawn
    pub nothing_drawn : o ≡ None → record old { binders = binders } ≡ old
    nothing_drawn e =
        let same : now ≡ was = subst (λ (g : Option Out). IfNone g (now ≡ was)) e by.none in
        ap (λ (l : List BinderState). record old { binders = l }) (ap (slice_set old.binders index) same ∙ set_as_was old.binders index was there)

    module _ (quiet : old.telling ≡ telling.Nothing) where
      no_copies : (gate : Gated) → gate.telling ≡ telling.Nothing → copies_left gate ≡ []
      no_copies gate e = ap (λ (t : Telling). drop gate.place (copies gate.routes (items_in gate.routes (packet_in gate.empty) t))) e ∙ drop_all gate.place [] (omega arith)

      left_all : drop given (releases_of head received ended) ≡ copies head.routes (items_left head received old st.left old.stage) ++ end_left head received old.stage
      left_all = st.rest ∙ ap (λ l. l ++ (copies head.routes (items_left head received old st.left old.stage) ++ end_left head received old.stage)) (no_copies old quiet)

      -- a packet was drawn
      module _ (buf : Buffer) (lost : ℕ) (e : o ≡ Some (out.Packet buf lost)) where
        abbrev with_packet : Gated
        with_packet = record old { binders = binders; empty = old.empty ++ buf ∷ []; lost = lost }

        abbrev rest : List Out
        rest = drop (stream.taken + 1) outs

        left_same : items_left head received old st.left old.stage ≡ items_left head received with_packet rest old.stage
        left_same =
            ap (λ l. items_left head received old l old.stage) (left_on (out.Packet buf lost) e)
            ∙ left_by_runs head received old.stage index old with_packet (out.Packet buf lost ∷ rest) rest [] drawn
            (ap (λ (bytes : List ℕ). runs_from (stream_at old.routes index) lost (payload_of bytes) rest) (sym (packet_behind old.empty buf)))

        packet_drawn : StandsFor with_packet head received ended given
        packet_drawn =
            let room = given_room head route_is.route.stream received (nat_lt index (number_ended (length head.routes) old.stage)) buf lost stream.taken st.contents st.fit (sym given_is ∙ e) in
            let given_one : packets_given o ≡ 1 = ap packets_given e in
            record {
              is_of = record { values = st.is_of.values; profile = st.is_of.profile; max_words = st.is_of.max_words; routes = st.is_of.routes };
              contents = st.contents;
              fit = st.fit;
              taken = st.taken;
              ended_is = st.ended_is;
              left = rest;
              binders = binders_on rest (stream_on (out.Packet buf lost) e);
              buffers = record {
                all = omega (arith, length-append old.empty (buf ∷ []), kept_sum, given_one, st.buffers.all);
                rooms = All-append (HasRoom head.max_words) old.empty (buf ∷ []) st.buffers.rooms (room, tt);
              };
              begun = st.begun;
              items = ap (λ l. st.begun ++ l) (sym left_same) ∙ st.items;
              now = subst (λ (t : Telling). EndsWith st.begun (items_in old.routes (packet_in (old.empty ++ buf ∷ [])) t)) (sym quiet) (record { before = st.begun; begun_is = sym (append-nil st.begun) });
              placed = st.placed;
              counts = st.counts;
              few = st.few;
              rest =
                  left_all ∙ ap (λ l. copies head.routes l ++ end_left head received old.stage) left_same
                  ∙ ap (λ l. l ++ (copies head.routes (items_left head received with_packet rest old.stage) ++ end_left head received old.stage)) (sym (no_copies with_packet quiet));
            }

      -- a run was drawn
      module _ (r : Run) (e : o ≡ Some (out.Run r)) where
        abbrev with_run : Gated
        with_run = record old { binders = binders; counts = counted r old.counts; telling = telling.Run index old.lost r; place = 0; lost = 0 }

        abbrev more : List Out
        more = drop (stream.taken + 1) outs

        abbrev item : Item
        item = RunItem (stream_at old.routes index) old.lost r (payload_of (packet_in old.empty))

        left_more : items_left head received old st.left old.stage ≡ item ∷ items_left head received with_run more old.stage
        left_more =
            ap (λ l. items_left head received old l old.stage) (left_on (out.Run r) e)
            ∙ left_by_runs head received old.stage index old with_run (out.Run r ∷ more) more (item ∷ []) drawn refl

        run_drawn : StandsFor with_run head received ended given
        run_drawn =
            let given_none : packets_given o ≡ 0 = ap packets_given e in
            let later = items_left head received with_run more old.stage in
            record {
              is_of = record { values = st.is_of.values; profile = st.is_of.profile; max_words = st.is_of.max_words; routes = st.is_of.routes };
              contents = st.contents;
              fit = st.fit;
              taken = st.taken;
              ended_is = st.ended_is;
              left = more;
              binders = binders_on more (stream_on (out.Run r) e);
              buffers = record { all = omega (arith, kept_sum, given_none, st.buffers.all); rooms = st.buffers.rooms };
              begun = st.begun ++ item ∷ [];
              items = append_assoc st.begun (item ∷ []) later ∙ ap (λ l. st.begun ++ l) (sym left_more) ∙ st.items;
              now = record { before = st.begun; begun_is = refl };
              placed = subst (λ routes. (index < length routes) × (0 < length (ports_at routes index))) (sym st.is_of.routes)
                  (within_routes, some_port head.routes index (form_2 _ head.routes st.is_of.values.routes) within_routes);
              counts = ap (counted r) st.counts ∙ counts_on (length received) st.begun (stream_at old.routes index) old.lost r (payload_of (packet_in old.empty));
              few = st.few;
              rest =
                  left_all ∙ ap (λ l. copies head.routes l ++ end_left head received old.stage) left_more
                  ∙ ap (λ l. l ++ end_left head received old.stage) (copies-append head.routes (item ∷ []) later)
                  ∙ append_assoc (copies head.routes (item ∷ [])) (copies head.routes later) (end_left head received old.stage)
                  ∙ ap (λ routes. copies routes (item ∷ []) ++ (copies head.routes later ++ end_left head received old.stage)) (sym st.is_of.routes);
            }

    -- the gateway stands for the same
    module _ (new : Gated) (after : new ≡ drawn_from (record old { binders = binders }) index o) (quiet : old.telling ≡ telling.Nothing) where
      by_output : (g : Option Out) → o ≡ g → StandsFor (drawn_from (record old { binders = binders }) index g) head received ended given
      by_output None e = subst (λ (x : Gated). StandsFor x head received ended given) (sym (nothing_drawn e)) st
      by_output (Some (out.Packet buf lost)) e = packet_drawn quiet buf lost e
      by_output (Some (out.Run r)) e = run_drawn quiet r e

      pub stands_drawn : StandsFor new head received ended given
      stands_drawn = subst (λ (x : Gated). StandsFor x head received ended given) (sym after) (by_output o refl)

-- a gateway that tells nothing stands for the same frames behind what it drew
pub draw_kept : (old new : Gated) (head : RecordHead) (received : List Received) (ended : Bool) (given index : ℕ) (result : Drawn)
    → StandsFor old head received ended given → is_drawn old.stage index → old.telling ≡ telling.Nothing → IsDrawn index result old new → StandsFor new head received ended given
draw_kept old new head received ended given index result st drawn quiet d =
    stands_drawn old head received ended given st index d.was d.now drawn d.there d.given d.by new d.after quiet
