-- How far it is to the next release record, and how many may be owed.
use Rattle.std.proofs.Common.{◌≡◌, ◌≢◌, ◌⊎◌, inl, inr, ℕ, ◌+◌, ◌-◌, ◌*◌, ◌<◌, ◌≤◌, ◌^◌, Bool, true, false, List, [], ◌∷◌, ◌++◌, length, slice_get, slice_set, ◌==◌, Option, Some, None, refl, sym, ap, ◌∙◌, subst, arith}
use Rattle.std.specs.Prelude.{sum}
use Rattle.std.specs.List.{AllByRecursion, sum_by}
use Rattle.std.proofs.lemmas.Bool.{cases_lt}
use Rattle.std.proofs.lemmas.List.{length-set}
use Rattle.std.proofs.lemmas.List.Sums.{sum_by-set}
use Rattle.std.proofs.lemmas.Option.{slice_get_within, get_or_from_slice_get}
use Rattle.vrt_fields.specs.declared.route.Route.{Route}
use Rattle.vrt_fields.specs.Route.{AreRoutes}
use Rattle.replay_form.specs.declared.record_head.RecordHead.{RecordHead}
use Rattle.sample_binder.specs.Binder.{BinderState, number_kept}
use Rattle.sample_binder.specs.declared.out.Out.{Out}
use Rattle.sample_binder.specs.declared.out.Out.TheVariants as out
use Rattle.sample_binder.specs.declared.out.Run.{Run}
use Rattle.sample_binder.specs.declared.out.Run.TheVariants as run
use Rattle.std.specs.Option.{option_map_or}
use Rattle.stream_routes.specs.Ports.{IsRouteAt, ports_at, ports_in}
use Rattle.stream_routes.proofs.PortLaws.{few_ports, ports_there}
use Rattle.sample_binder.specs.Parts.{payload_of}
use Rattle.difi_gateway.proofs.DrawSteps.{form_2}
use Rattle.difi_gateway.specs.Contents.{Received}
use Rattle.difi_gateway.specs.Told.{Item, RunItem, told}
use Rattle.difi_gateway.specs.Releases.{all_told, counts_of}
use Rattle.difi_gateway.specs.State.{Gated, StandsFor, IsPlaced, is_drawn, items_in, items_of, items_left, packet_in, stream_at}
use Rattle.difi_gateway.specs.Steps.{more}
use Rattle.difi_gateway.specs.Drawing.{IsDrawn, IsGoneOn, IsGivenBy, counted, drawn_as, drawn_from}
use Rattle.difi_gateway.specs.Writing.{IsCopyWritten, IsEndWritten, number_of_copies}
use Rattle.difi_gateway.specs.Written.{IsWritableItem}
use Rattle.difi_gateway.specs.Progress.{IsMoved, records_owed, may_be_told, owed_by_telling, owed_at_stage, steps_left, binders_left, one_where_nothing}
use Rattle.difi_gateway.specs.declared.drawn.Drawn.{Drawn}
use Rattle.difi_gateway.specs.declared.drawn.Drawn.TheVariants as drawn
use Rattle.difi_gateway.specs.Telling.{Telling}
use Rattle.difi_gateway.specs.Telling as telling
use Rattle.difi_gateway.specs.declared.stage.Stage.{Stage}
use Rattle.difi_gateway.specs.declared.stage.Stage.TheVariants as stages
use Rattle.difi_gateway.proofs.WriteLemmas.{is_on, is_none}
use Rattle.difi_gateway.proofs.MoveLemmas.{drew_nothing}
use Rattle.difi_gateway.proofs.AdvanceLemmas.{counts_fit, all_front}
use Rattle.difi_gateway.proofs.WritableItems.{all_writable}

-- ---- steps

-- what the binders keep, where one of them is another
sum_now : (binders : List BinderState) (index : ℕ) (was now : BinderState) → slice_get binders index ≡ Some was
    → sum_by number_kept (slice_set binders index now) + number_kept was ≡ sum_by number_kept binders + number_kept now
sum_now binders index was now there =
    omega (arith, sum_by-set number_kept binders index now was (slice_get_within binders index was there), ap number_kept (get_or_from_slice_get binders index was was there))

module _ (old : Gated) (index : ℕ) (was now : BinderState) (there : slice_get old.binders index ≡ Some was) (quiet : old.telling ≡ telling.Nothing) where
  abbrev mid : Gated
  mid = record old { binders = slice_set old.binders index now }

  same_left : binders_left (length (slice_set old.binders index now)) old.stage ≡ binders_left (length old.binders) old.stage
  same_left = ap (λ n. binders_left n old.stage) (length-set old.binders index now)

  packet_nearer : (buf : _) (lost : ℕ) → IsGivenBy (Some (out.Packet buf lost)) was now → steps_left (drawn_from mid index (Some (out.Packet buf lost))) < steps_left old
  packet_nearer buf lost by = omega (arith, by.kept, sum_now old.binders index was now there, same_left)

  run_nearer : (r : Run) → IsGivenBy (Some (out.Run r)) was now → steps_left (drawn_from mid index (Some (out.Run r))) < steps_left old
  run_nearer r by = omega (arith, by.kept, sum_now old.binders index was now there, same_left, ap one_where_nothing quiet)

gone_nearer : (old new : Gated) (index : ℕ) (s : Stage) → old.stage ≡ s → is_drawn s index → index < length old.binders → IsGoneOn s old new → steps_left new < steps_left old
gone_nearer old new index stages.Waiting e d lt gone = absurd d
gone_nearer old new index (stages.Drawing i) e d lt gone =
    let then_ : steps_left new ≡ steps_left (record old { stage = stages.Waiting }) = ap steps_left gone in
    let before : binders_left (length old.binders) old.stage ≡ 1 = ap (binders_left (length old.binders)) e in
    omega (arith, then_, before)
gone_nearer old new index (stages.Ending i) e d lt (inl at) =
    let then_ : steps_left new ≡ steps_left (record old { binders = slice_set old.binders (i + 1) at.now; stage = stages.Ending (i + 1) }) = ap steps_left at.after in
    let before : binders_left (length old.binders) old.stage ≡ length old.binders + 1 - i = ap (binders_left (length old.binders)) e in
    omega (arith, then_, before, d, lt, sum_now old.binders (i + 1) at.was at.now at.there, at.ended.kept, length-set old.binders (i + 1) at.now)
gone_nearer old new index (stages.Ending i) e d lt (inr behind) =
    let then_ : steps_left new ≡ steps_left (record old { stage = stages.Ending (i + 1) }) = ap steps_left behind.after in
    let before : binders_left (length old.binders) old.stage ≡ length old.binders + 1 - i = ap (binders_left (length old.binders)) e in
    omega (arith, then_, before, d, lt)
gone_nearer old new index stages.Over e d lt gone = absurd d

drawn_nearer : (result : Drawn) (given : Option Out) (old : Gated) (index : ℕ) (was now : BinderState) → slice_get old.binders index ≡ Some was → old.telling ≡ telling.Nothing
    → IsGivenBy given was now → result ≡ drawn_as given → result ≢ drawn.Nothing → steps_left (drawn_from (record old { binders = slice_set old.binders index now }) index given) < steps_left old
drawn_nearer result None old index was now there quiet by e some = absurd (some e)
drawn_nearer result (Some (out.Packet buf lost)) old index was now there quiet by e some = packet_nearer old index was now there quiet buf lost by
drawn_nearer result (Some (out.Run r)) old index was now there quiet by e some = run_nearer old index was now there quiet r by

by_nearer : (result : Drawn) (old new : Gated) (index : ℕ) → old.telling ≡ telling.Nothing → IsDrawn index result old new → result ≢ drawn.Nothing → steps_left new < steps_left old
by_nearer result old new index quiet d some =
    subst (λ (g : Gated). steps_left g < steps_left old) (sym d.after) (drawn_nearer result d.given old index d.was d.now d.there quiet d.by d.result_is some)

pub moved_nearer : (old new : Gated) (index : ℕ) → old.telling ≡ telling.Nothing → is_drawn old.stage index → index < length old.binders → IsMoved index old new → steps_left new < steps_left old
moved_nearer old new index quiet d lt (drawn.Packet, by) = by_nearer drawn.Packet old new index quiet by (λ e. cc)
moved_nearer old new index quiet d lt (drawn.Run, by) = by_nearer drawn.Run old new index quiet by (λ e. cc)
moved_nearer old new index quiet d lt (drawn.Nothing, by) =
    let same = drew_nothing index old by.0 by.1.0 in
    gone_nearer old new index old.stage refl d lt (subst (λ (g : Gated). IsGoneOn g.stage g new) same by.1.1)

-- ---- records that are owed

owed_at_most : (s : Stage) (t : Telling) (n : ℕ) → owed_by_telling s t n ≤ n
owed_at_most stages.Waiting telling.Nothing n = omega arith
owed_at_most (stages.Drawing i) telling.Nothing n = omega arith
owed_at_most (stages.Ending i) telling.Nothing n = omega arith
owed_at_most stages.Over telling.Nothing n = omega arith
owed_at_most s (telling.Refused frame port refusal detail stamp) n = omega arith
owed_at_most s (telling.Run index lost r) n = omega arith
owed_at_most s (telling.Version index) n = omega arith

owed_where_told : (s : Stage) (t : Telling) (n : ℕ) → t ≢ telling.Nothing → owed_by_telling s t n ≡ n
owed_where_told s telling.Nothing n told = absurd (told refl)
owed_where_told s (telling.Refused frame port refusal detail stamp) n told = refl
owed_where_told s (telling.Run index lost r) n told = refl
owed_where_told s (telling.Version index) n told = refl

pub placed_below : (routes : List Route) (t : Telling) (place : ℕ) → IsPlaced routes t place → t ≢ telling.Nothing → place < number_of_copies routes t
placed_below routes telling.Nothing place placed told = absurd (told refl)
placed_below routes (telling.Refused frame port refusal detail stamp) place placed told = omega (arith, placed)
placed_below routes (telling.Run index lost r) place placed told = placed.1
placed_below routes (telling.Version index) place placed told = placed.1

pub copy_less : (old new : Gated) (bytes : List ℕ) → IsPlaced old.routes old.telling old.place → old.telling ≢ telling.Nothing → IsCopyWritten bytes old new → records_owed new < records_owed old
copy_less old new bytes placed told w = by_place (cases_lt (old.place + 1) (number_of_copies old.routes old.telling)) where
  before : records_owed old ≡ may_be_told old
  before = owed_where_told old.stage old.telling (may_be_told old) told

  below : old.place < number_of_copies old.routes old.telling
  below = placed_below old.routes old.telling old.place placed told

  by_place : (old.place + 1 < number_of_copies old.routes old.telling) ⊎ (number_of_copies old.routes old.telling ≤ old.place + 1) → records_owed new < records_owed old
  by_place (inl lt) =
      let on : Gated = record old { place = old.place + 1 } in
      let most : records_owed on ≤ may_be_told on = owed_at_most on.stage on.telling (may_be_told on) in
      subst (λ (g : Gated). records_owed g < records_owed old) (sym (is_on old new w.after lt)) (omega (arith, before, below, lt, most))
  by_place (inr le) =
      let off : Gated = record old { telling = telling.Nothing; place = 0 } in
      let most : records_owed off ≤ may_be_told off = owed_at_most off.stage off.telling (may_be_told off) in
      subst (λ (g : Gated). records_owed g < records_owed old) (sym (is_none old new w.after le)) (omega (arith, before, below, most))

pub end_less : (old new : Gated) (bytes : List ℕ) (index : ℕ) → old.stage ≡ stages.Ending index → old.telling ≡ telling.Nothing → IsEndWritten bytes old new → records_owed new < records_owed old
end_less old new bytes index ending quiet w =
    let after : records_owed new ≡ 0 = ap records_owed w.after ∙ ap (λ t. owed_by_telling stages.Over t (may_be_told (record old { stage = stages.Over }))) quiet in
    let before : records_owed old ≡ may_be_told old =
    ap (λ t. owed_by_telling old.stage t (may_be_told old)) quiet ∙ ap (λ s. owed_at_stage s (may_be_told old)) ending in
    omega (arith, after, before)

-- ---- a run that was drawn is counted

-- a run that can be written has a sample, or is a whole packet
abbrev size_of_run : Run → ℕ
size_of_run (run.Bound stamp first number moment fields bits) = number
size_of_run (run.Uncertain reason stamp first number moment bits) = number
size_of_run (run.Raw reason stamp pad) = 1

some_in_run : (stream lost : ℕ) (r : Run) (payload : List ℕ) → IsWritableItem (RunItem stream lost r payload) → 1 ≤ size_of_run r
some_in_run stream lost (run.Bound stamp first number moment fields bits) payload h = h.1.obeys.indices.some
some_in_run stream lost (run.Uncertain reason stamp first number moment bits) payload h = h.1.obeys.indices.some
some_in_run stream lost (run.Raw reason stamp pad) payload h = omega arith

counted_more : (r : Run) (n : ℕ) (items : List Item) (counts : List ℕ) → counts ≡ counts_of n items → sum (counted r counts) ≡ sum counts + size_of_run r
counted_more (run.Bound stamp first number moment fields bits) n items counts e = subst (λ l. sum (more 1 number l) ≡ sum l + number) (sym e) (omega arith)
counted_more (run.Uncertain reason stamp first number moment bits) n items counts e = subst (λ l. sum (more 2 number l) ≡ sum l + number) (sym e) (omega arith)
counted_more (run.Raw reason stamp pad) n items counts e = subst (λ l. sum (more 3 1 l) ≡ sum l + 1) (sym e) (omega arith)

last_of_begun : (P : Item → Type 0) (before : List Item) (item : Item) (later : List Item) → AllByRecursion P ((before ++ item ∷ []) ++ later) → P item
last_of_begun P [] item later h = h.0
last_of_begun P (first ∷ before) item later h = last_of_begun P before item later h.1

told_first : (head : RecordHead) (received : List Received) (ended : Bool) → AllByRecursion IsWritableItem (all_told head received) → AllByRecursion IsWritableItem (items_of head received ended)
told_first head received true h = h
told_first head received false h = all_front IsWritableItem (told head received) _ h

-- what is told now can be written
now_writable : (gate : Gated) (head : RecordHead) (received : List Received) (ended : Bool) (given : ℕ) (st : StandsFor gate head received ended given) (item : Item)
    → items_in gate.routes (packet_in gate.empty) gate.telling ≡ item ∷ [] → IsWritableItem item
now_writable gate head received ended given st item e =
    let all = told_first head received ended (all_writable head received st.contents st.fit) in
    let begun : st.begun ≡ st.now.before ++ item ∷ [] = st.now.begun_is ∙ ap (λ items. st.now.before ++ items) e in
    last_of_begun IsWritableItem st.now.before item (items_left head received gate st.left gate.stage)
    (subst (AllByRecursion IsWritableItem) (sym st.items ∙ ap (λ items. items ++ items_left head received gate st.left gate.stage) begun) all)

some_or_none : (o : Option Route) → (o ≡ None) ⊎ ((route : Route) × (o ≡ Some route))
some_or_none None = inl refl
some_or_none (Some route) = inr (route, refl)

few_copies : (routes : List Route) (index : ℕ) → AreRoutes true routes → length (ports_at routes index) ≤ 4
few_copies routes index valid = elim (some_or_none (slice_get routes index)) [
  | inl none ↦ omega (arith, ap (λ (o : Option Route). length (option_map_or ports_in o [])) none)
  | inr some ↦
      let at : IsRouteAt routes some.0.stream index = record { route = some.0; there = some.1; stream_is = refl } in
      omega (arith, few_ports routes some.0.stream index valid at, ap (λ (l : List ℕ). length l) (ports_there routes some.0.stream index valid at))
]

module _ (old new : Gated) (head : RecordHead) (received : List Received) (ended : Bool) (given index : ℕ) (st : StandsFor old head received ended given) (now : StandsFor new head received ended given)
    (small : old.taken < 2 ^ 63) (quiet : old.telling ≡ telling.Nothing) (drawn_here : is_drawn old.stage index) where
  before : records_owed old ≡ may_be_told old
  before = ap (λ t. owed_by_telling old.stage t (may_be_told old)) quiet ∙ by_stage old.stage drawn_here where
    by_stage : (s : Stage) → is_drawn s index → owed_at_stage s (may_be_told old) ≡ may_be_told old
    by_stage stages.Waiting d = absurd d
    by_stage (stages.Drawing i) d = refl
    by_stage (stages.Ending i) d = refl
    by_stage stages.Over d = absurd d

  run_more : (r : Run) (binders : List BinderState) → new ≡ drawn_from (record old { binders = binders }) index (Some (out.Run r)) → records_owed new ≤ records_owed old
  run_more r binders e =
      let other = drawn_from (record old { binders = binders }) index (Some (out.Run r)) in
      let item = RunItem (stream_at old.routes index) old.lost r (payload_of (packet_in old.empty)) in
      let is : items_in new.routes (packet_in new.empty) new.telling ≡ item ∷ [] = ap (λ (g : Gated). items_in g.routes (packet_in g.empty) g.telling) e in
      let some = some_in_run (stream_at old.routes index) old.lost r (payload_of (packet_in old.empty)) (now_writable new head received ended given now item is) in
      let fit = (counts_fit new head received ended given now).all in
      let taken : new.taken ≡ old.taken = ap (λ (g : Gated). g.taken) e in
      let counts : sum new.counts ≡ sum old.counts + size_of_run r = ap (λ (g : Gated). sum g.counts) e ∙ counted_more r (length received) st.begun old.counts st.counts in
      let owed : records_owed new ≡ 1 + (8 * (2 ^ 70 - sum new.counts) + (length (ports_at old.routes index) - 0)) = owed_of e in
      let copies : length (ports_at old.routes index) ≤ 4 =
      few_copies old.routes index (subst (AreRoutes true) (sym st.is_of.routes) (form_2 (head.form == 2) head.routes st.is_of.values.routes)) in
      omega (arith, before, owed, counts, some, fit, taken, small, copies) where
        owed_of : {binders : List BinderState} → new ≡ drawn_from (record old { binders = binders }) index (Some (out.Run r))
            → records_owed new ≡ 1 + (8 * (2 ^ 70 - sum new.counts) + (length (ports_at old.routes index) - 0))
        owed_of {binders} e = subst (λ (g : Gated). records_owed g ≡ 1 + (8 * (2 ^ 70 - sum g.counts) + (length (ports_at old.routes index) - 0))) (sym e) refl

  gone_more : (s : Stage) → old.stage ≡ s → IsGoneOn s old new → records_owed new ≤ records_owed old
  gone_more stages.Waiting e gone = omega (arith, ap records_owed gone)
  gone_more (stages.Drawing i) e gone =
      let waiting = record old { stage = stages.Waiting } in
      omega (arith, ap records_owed gone, ap (λ t. owed_by_telling stages.Waiting t (may_be_told waiting)) quiet)
  gone_more (stages.Ending i) e (inl at) =
      let ending = record old { binders = slice_set old.binders (i + 1) at.now; stage = stages.Ending (i + 1) } in
      omega (arith, ap records_owed at.after, ap (λ t. owed_by_telling (stages.Ending (i + 1)) t (may_be_told ending)) quiet, before)
  gone_more (stages.Ending i) e (inr behind) =
      let ending = record old { stage = stages.Ending (i + 1) } in
      omega (arith, ap records_owed behind.after, ap (λ t. owed_by_telling (stages.Ending (i + 1)) t (may_be_told ending)) quiet, before)
  gone_more stages.Over e gone = omega (arith, ap records_owed gone)

  drawn_more : (given' : Option Out) (binders : List BinderState) → new ≡ drawn_from (record old { binders = binders }) index given' → records_owed new ≤ records_owed old
  drawn_more None binders e = omega (arith, ap records_owed e)
  drawn_more (Some (out.Packet buf lost)) binders e = omega (arith, ap records_owed e)
  drawn_more (Some (out.Run r)) binders e = run_more r binders e

  pub moved_more : IsMoved index old new → records_owed new ≤ records_owed old
  moved_more (drawn.Packet, by) = drawn_more by.given (slice_set old.binders index by.now) by.after
  moved_more (drawn.Run, by) = drawn_more by.given (slice_set old.binders index by.now) by.after
  moved_more (drawn.Nothing, by) =
      let same = drew_nothing index old by.0 by.1.0 in
      gone_more old.stage refl (subst (λ (g : Gated). IsGoneOn g.stage g new) same by.1.1)
