-- How many data packets a binder keeps: those that its window holds, and those that wait.
use Rattle.std.proofs.Common.{◌≡◌, ℕ, suc, ◌+◌, ◌≤◌, ◌&&◌, ◌||◌, not, nat_lt, Bool, true, false, cond, List, [], ◌∷◌, ◌++◌, length, drop, map, Option, Some, None, Result, Ok, is_none, refl, sym, ap, ◌∙◌, subst, arith, length-append, length-drop}
use Rattle.std.proofs.lemmas.Bool.Decides.{nat_tests}
use Rattle.std.proofs.lemmas.List.{length-take-le}
use Rattle.vrt_words.specs.Buffer.{Buffer}
use Rattle.vrt_time.specs.Time.{TimeStamp}
use Rattle.reorder_window.specs.declared.entry.Entry.{Entry}
use Rattle.reorder_window.specs.declared.arrival.Arrival.{Arrival}
use Rattle.reorder_window.specs.declared.arrival.Arrival.TheVariants as arrival
use Rattle.reorder_window.specs.State.{Holding, StandsFor}
use Rattle.reorder_window.specs.Window.{boundary, is_late, twin, in_place, accepted, number_held, held, released, releases, answer_above, answer_by, answer}
use Rattle.reorder_window.proofs.OrderLemmas.{twin-take, length-in_place}
use Rattle.reorder_window.proofs.WindowLemmas.{take-held, accepted-falling, accepted-more}
use Rattle.context_timeline.specs.State.{TimelineState}
use Rattle.sample_binder.specs.declared.arrive.Turned.{Turned}
use Rattle.sample_binder.specs.declared.out.Out.{Out}
use Rattle.sample_binder.specs.declared.out.Out.TheVariants as out
use Rattle.sample_binder.specs.Pending.{Pending}
use Rattle.sample_binder.specs.Arrivals.{released_list, releases_by, Takes}
use Rattle.sample_binder.specs.Binder.{ArePacketsSeen}
use Rattle.sample_binder.specs.Calls.{outcome}
use Rattle.sample_binder.specs.Outputs.{open_reason}
use Rattle.sample_binder.specs.Queue.{State, owed, queue_owes}
use Rattle.sample_binder.specs.Released.{queue_with}
use Rattle.sample_binder.specs.Due.{is_known}
use Rattle.sample_binder.specs.Left.{runs_left_of}
use Rattle.sample_binder.specs.Runs.{runs_of}
use Rattle.sample_binder.proofs.ArrivalLemmas.{length-in_order}
use Rattle.sample_binder.proofs.StateLemmas.{append_empty}

module _ {T : Type 0} where
  -- an arrival that is taken
  abbrev IsTaken : Arrival T → Type 0
  IsTaken arrival.Kept = Unit {0}
  IsTaken (arrival.Released stamp lost item) = Unit {0}
  IsTaken (arrival.Late stamp item) = ⊥
  IsTaken (arrival.Repeat item) = ⊥
  IsTaken (arrival.Conflict count item) = ⊥

  twin_taken : (same : T → T → Bool) (a b : Entry T) (t : Bool) → IsTaken (cond t (arrival.Repeat a.item) (arrival.Conflict b.count a.item)) → ⊥
  twin_taken same a b true h = h
  twin_taken same a b false h = h

  above_taken : (same : T → T → Bool) (a : Entry T) (o : Option (Entry T)) (after : List (Entry T)) → IsTaken (answer_above same a o after) → o ≡ None
  above_taken same a None after h = refl
  above_taken same a (Some b) after h = absurd (twin_taken same a b (same b.item a.item) h)

  late_taken : (same : T → T → Bool) (a : Entry T) (late : Bool) (stamp : TimeStamp) (o : Option (Entry T)) (after : List (Entry T))
      → IsTaken (cond late (arrival.Late stamp a.item) (answer_above same a o after)) → (late ≡ false) × (o ≡ None)
  late_taken same a true stamp o after h = absurd h
  late_taken same a false stamp o after h = (refl, above_taken same a o after h)

  -- it is not late, and none of its stamp is held
  by_taken : (same : T → T → Bool) (a : Entry T) (limit : Option TimeStamp) (o : Option (Entry T)) (after : List (Entry T)) → IsTaken (answer_by same a limit o after)
      → (is_late limit a ≡ false) × (o ≡ None)
  by_taken same a None o after h = (refl, above_taken same a o after h)
  by_taken same a (Some stamp) o after h = late_taken same a (is_late (Some stamp) a) stamp o after h

  -- so it is accepted
  accepted_taken : (same : T → T → Bool) (size : ℕ) (arrivals : List (Entry T)) (a : Entry T) → IsTaken (answer same size arrivals a)
      → length (accepted size (arrivals ++ a ∷ [])) ≡ suc (length (accepted size arrivals))
  accepted_taken same size arrivals a h =
      let xs = accepted size arrivals in
      let t = by_taken same a (boundary size xs) (twin a (held size arrivals 0)) (released size (arrivals ++ a ∷ []) 0) h in
      let alone : twin a xs ≡ None = sym (twin-take size a xs (accepted-falling size arrivals) t.0) ∙ ap (twin a) (sym (take-held size xs)) ∙ t.1 in
      let fresh : (not (is_late (boundary size xs) a) && is_none (twin a xs)) ≡ true = ap (λ b. not b && is_none (twin a xs)) t.0 ∙ ap is_none alone in
      ap length (accepted-more size arrivals a ∙ ap (λ b. cond b (in_place a xs) xs) fresh) ∙ length-in_place a xs

  -- those that are held and those that were released are those that were accepted
  held_and_released : (w : Holding T) (arrivals : List (Entry T)) → StandsFor w arrivals 0 → length w.held + length (releases w.size arrivals 0) ≡ length (accepted w.size arrivals)
  held_and_released w arrivals s =
      let xs = accepted w.size arrivals in
      let n = number_held w.size arrivals 0 in
      omega (arith, ap length s.held, length-take-le n xs (omega arith), length-in_order (drop n xs), length-drop n xs)

  ok_taken : (given : Arrival T) (r : Option (TimeStamp × ℕ × T)) → outcome given ≡ Ok r → IsTaken given
  ok_taken arrival.Kept r e = tt
  ok_taken (arrival.Released stamp lost item) r e = tt
  ok_taken (arrival.Late stamp item) r e = absurd (cc)
  ok_taken (arrival.Repeat item) r e = absurd (cc)
  ok_taken (arrival.Conflict count item) r e = absurd (cc)

  -- one that is taken is held, or another is released in its place
  pub one_more_held : (same : T → T → Bool) (old new : Holding T) (arrivals : List (Entry T)) (a : Entry T) (result : Result (Option (TimeStamp × ℕ × T)) (Turned × T)) (r : Option (TimeStamp × ℕ × T))
      → StandsFor old arrivals 0 → new.size ≡ old.size → Takes same old new arrivals a result → result ≡ Ok r → length new.held + length (released_list r) ≡ length old.held + 1
  one_more_held same old new arrivals a result r s size t e =
      let more = arrivals ++ a ∷ [] in
      let taken = ok_taken (answer same old.size arrivals a) r (sym t.answered ∙ e) in
      let gains : releases old.size more 0 ≡ releases old.size arrivals 0 ++ released_list r =
      t.given ∙ ap (λ (o : Result (Option (TimeStamp × ℕ × T)) (Turned × T)). releases old.size arrivals 0 ++ releases_by o) e in
      omega (
        arith,
        held_and_released old arrivals s,
        held_and_released new more t.stands,
        ap (λ n. length (releases n more 0)) size,
        ap (λ n. length (accepted n more)) size,
        accepted_taken same old.size arrivals a taken,
        ap length gains,
        length-append (releases old.size arrivals 0) (released_list r),
      )

-- the same of the window of a binder whose end was not told
pub one_more_seen : (same : Buffer → Buffer → Bool) (old new : Holding Buffer) (told : Bool) (a : Entry Buffer) (r : Option (TimeStamp × ℕ × Buffer)) → ArePacketsSeen old told → told ≡ false
    → ((arrivals : List (Entry Buffer)) → StandsFor old arrivals 0 → Takes same old new arrivals a (Ok r)) → new.size ≡ old.size
    → length new.held + length (released_list r) ≡ length old.held + 1
one_more_seen same old new told a r seen off takes size =
    let stands : StandsFor old seen.arrivals 0 = subst (λ d. StandsFor old seen.arrivals d) (seen.undrained off) seen.stands in
    one_more_held same old new seen.arrivals a (Ok r) r stands size (takes seen.arrivals stands) refl

pub one_release : (r : Option (TimeStamp × ℕ × Buffer)) → length (released_list r) ≤ 1
one_release None = omega arith
one_release (Some release) = omega arith

-- what a release adds to those that wait
pub length-queue_with : (queue : List Pending) (r : Option (TimeStamp × ℕ × Buffer)) → length (queue_with queue r) ≡ length queue + length (released_list r)
length-queue_with queue None = omega arith
length-queue_with queue (Some release) = length-append queue _

not_full : (known full ended : Bool) (owes rest : List Out) (x : Out) → cond (known || full || ended) ((x ∷ owes) ++ rest) [] ≡ [] → full ≡ false
not_full true full ended owes rest x e = absurd (cc)
not_full false true ended owes rest x e = absurd (cc)
not_full false false ended owes rest x e = refl

few_wait : (pending : ℕ) (line : TimelineState) (ended : Bool) (queue : List Pending) → queue_owes pending line ended queue ≡ [] → length queue ≤ pending
few_wait pending line ended [] e = omega arith
few_wait pending line ended (packet ∷ rest) e =
    let off = not_full (is_known line packet.shape) (nat_lt pending (length (packet ∷ rest))) ended (map out.Run (runs_of line (open_reason ended) packet.shape)) (queue_owes pending line ended rest) (out.Packet packet.buf packet.lost) e in
    grind (arith, nat_tests)

-- where nothing is owed, no more wait than may
pub few_where_nothing : (state : State) → owed state ≡ [] → length state.queue ≤ state.pending
few_where_nothing state e =
    few_wait state.pending state.line state.ended state.queue (append_empty (map out.Run (runs_left_of state.line (open_reason state.ended) state.leaving)) (queue_owes state.pending state.line state.ended state.queue) e).1
