-- Laws of outputs: one more event adds what the packets that wait then give.
use Rattle.std.proofs.Common.{◌≡◌, ◌⊎◌, ℕ, suc, zero, ◌+◌, ◌-◌, ◌<◌, ◌≤◌, ◌||◌, nat_lt, Bool, true, false, cond, List, [], ◌∷◌, ◌++◌, length, take, drop, slice_get, Option, Some, None, refl, sym, ap, ◌∙◌, inl, inr, arith, length-append, append_assoc}
use Rattle.std.proofs.lemmas.Bool.Decides.{nat_tests}
use Rattle.std.proofs.lemmas.List.{append-nil, take-append-le, take_all, length-drop}
use Rattle.context_timeline.specs.State.{TimelineState}
use Rattle.vrt_fields.specs.declared.limits.Limits.{Limits}
use Rattle.sample_binder.specs.Pending.{Pending}
use Rattle.sample_binder.proofs.Cases.{tested}
use Rattle.sample_binder.specs.Due.{may_leave, has_case, has_case_after, is_known, due}
use Rattle.sample_binder.proofs.DueLaws.{may_leave-below, may_leave-more, may_leave-none, may_leave-next, may_leave-same, may_leave-none_behind}
use Rattle.sample_binder.specs.Events.{Event, packets_of, has_ended, line_after}
use Rattle.sample_binder.specs.Outputs.{open_reason, packet_and_runs, leaves_after, leaves_at, leaves, outputs_of_first, outputs}
use Rattle.sample_binder.specs.Queue.{is_first_due, queue_owes}

some_or_none : (o : Option ℕ) → ((d : ℕ) × (o ≡ Some d)) ⊎ (o ≡ None)
some_or_none (Some d) = inl (d, refl)
some_or_none None = inr refl

pub more_wait : (j pending waiting : ℕ) → nat_lt (j + pending) (j + waiting) ≡ nat_lt pending waiting
more_wait j pending waiting = grind (arith, nat_tests)

-- what is at place j, if j are skipped
pub first_of : {X : Type 0} (j : ℕ) (xs : List X) (x : X) (rest : List X) → drop j xs ≡ x ∷ rest → (slice_get xs j ≡ Some x) × (drop (suc j) xs ≡ rest)
first_of zero [] x rest e = absurd (cc)
first_of zero (y ∷ xs) x rest e = let head : y ≡ x = cc in let tail : xs ≡ rest = cc in (ap Some head, tail)
first_of (suc j) [] x rest e = absurd (cc)
first_of (suc j) (y ∷ xs) x rest e = first_of j xs x rest e

module _ (limits : Limits) (events : List Event) where
  abbrev cases : ℕ → ℕ → Bool
  cases = has_case_after limits events

  abbrev from_when : ℕ → Option ℕ
  from_when = may_leave cases (length events)

  leaves_none : (j : ℕ) → from_when (suc j) ≡ None → leaves limits events j ≡ []
  leaves_none j e = ap (leaves_at limits events j) e

  -- the packets from one on that is not due give nothing
  outputs_stop : (m j : ℕ) → from_when (suc j) ≡ None → outputs_of_first limits events (j + m) ≡ outputs_of_first limits events j
  outputs_stop zero j e = let same : j + 0 ≡ j = omega arith in ap (outputs_of_first limits events) same
  outputs_stop (suc m) j e =
      let same : j + suc m ≡ suc (j + m) = omega arith in
      let next : suc j + m ≡ suc (j + m) = omega arith in
      let off : from_when (suc (j + m)) ≡ None = sym (ap from_when next) ∙ may_leave-none_behind cases (length events) m (suc j) e in
      ap (outputs_of_first limits events) same ∙ ap (λ xs. outputs_of_first limits events (j + m) ++ xs) (leaves_none (j + m) off)
      ∙ append-nil (outputs_of_first limits events (j + m)) ∙ outputs_stop m j e

  outputs_up_to : (n j : ℕ) → j ≤ n → from_when (suc j) ≡ None → outputs_of_first limits events n ≡ outputs_of_first limits events j
  outputs_up_to n j le e = let same : n ≡ j + (n - j) = omega arith in ap (outputs_of_first limits events) same ∙ outputs_stop (n - j) j e

  -- a packet is due only where those before it are
  due_before : (m j d : ℕ) → from_when (j + m) ≡ Some d → (k : ℕ) × (from_when j ≡ Some k)
  due_before m j d e = elim (some_or_none (from_when j)) [
    | inl found ↦ found
    | inr none ↦ absurd (cc (may_leave-none_behind cases (length events) m j none))
  ]

module _ (limits : Limits) (events : List Event) (event : Event) where
  abbrev more : List Event
  more = events ++ event ∷ []

  abbrev n : ℕ
  n = length events

  pub long : length more ≡ suc n
  long = length-append events (event ∷ []) ∙ omega arith

  same_front : (k : ℕ) → k < n → take (suc k) more ≡ take (suc k) events
  same_front k lt = take-append-le (suc k) events (event ∷ []) (omega arith)

  all_of_them : take (suc n) more ≡ more
  all_of_them = take_all (suc n) more (omega (arith, long))

  -- what one packet's case is before the new event, and at it
  case_before : (j k : ℕ) → k < n → has_case_after limits more j k ≡ has_case_after limits events j k
  case_before j k lt = ap (λ (es : List Event). has_case limits es j (slice_get (packets_of es) j)) (same_front k lt)

  case_at : (j : ℕ) → has_case_after limits more j n ≡ has_case limits more j (slice_get (packets_of more) j)
  case_at j = ap (λ (es : List Event). has_case limits es j (slice_get (packets_of es) j)) all_of_them

  pub old_when : (j : ℕ) → may_leave (has_case_after limits more) n j ≡ may_leave (has_case_after limits events) n j
  old_when j = may_leave-same (has_case_after limits more) n (has_case_after limits events) case_before j

  pub new_when : (j : ℕ) → may_leave (has_case_after limits more) (length more) j ≡ may_leave (has_case_after limits more) (suc n) j
  new_when j = ap (λ m. may_leave (has_case_after limits more) m j) long

  -- a packet that was due leaves as it did
  leaves_still : (j d : ℕ) → may_leave (has_case_after limits events) n (suc j) ≡ Some d → leaves limits more j ≡ leaves limits events j
  leaves_still j d e =
      let lt = may_leave-below (has_case_after limits events) n j d e in
      let still : due limits more j ≡ Some d = new_when (suc j) ∙ may_leave-more (has_case_after limits more) n (suc j) d (old_when (suc j) ∙ e) in
      ap (leaves_at limits more j) still
      ∙ ap (λ (es : List Event). leaves_after limits.kept es (slice_get (packets_of es) j)) (same_front d lt)
      ∙ sym (ap (leaves_at limits events j) e)

  outputs_still : (j d : ℕ) → may_leave (has_case_after limits events) n j ≡ Some d → outputs_of_first limits more j ≡ outputs_of_first limits events j
  outputs_still zero d e = refl
  outputs_still (suc j) d e =
      let same : j + 1 ≡ suc j = omega arith in
      let before = due_before limits events 1 j d (ap (may_leave (has_case_after limits events) n) same ∙ e) in
      ap (λ xs. xs ++ leaves limits more j) (outputs_still j before.0 before.1) ∙ ap (λ xs. outputs_of_first limits events j ++ xs) (leaves_still j d e)

  abbrev line : TimelineState
  line = line_after limits.kept more

  abbrev ended : Bool
  ended = has_ended more

  -- a packet that becomes due leaves as it does now
  leaves_now : (j : ℕ) (packet : Pending) → may_leave (has_case_after limits more) (suc n) (suc j) ≡ Some n → slice_get (packets_of more) j ≡ Some packet
      → leaves limits more j ≡ packet_and_runs line (open_reason ended) packet
  leaves_now j packet e f =
      ap (leaves_at limits more j) (new_when (suc j) ∙ e)
      ∙ ap (λ (es : List Event). leaves_after limits.kept es (slice_get (packets_of es) j)) all_of_them
      ∙ ap (leaves_after limits.kept more) f

  -- the case of a packet, by those that wait with it
  case_told : (j : ℕ) (packet : Pending) (waiting : ℕ) → slice_get (packets_of more) j ≡ Some packet → length (packets_of more) ≡ j + waiting
      → has_case_after limits more j n ≡ is_first_due limits.pending line ended packet.shape waiting
  case_told j packet waiting e f =
      case_at j ∙ ap (has_case limits more j) e
      ∙ ap (λ b. is_known line packet.shape || b || ended) (ap (λ m. nat_lt (j + limits.pending) m) f ∙ more_wait j limits.pending waiting)

  chosen_next : (j d : ℕ) (b : Bool) → may_leave (has_case_after limits more) n (suc j) ≡ None → may_leave (has_case_after limits more) (suc n) j ≡ Some d
      → has_case_after limits more j n ≡ b → may_leave (has_case_after limits more) (suc n) (suc j) ≡ cond b (Some n) None
  chosen_next j d b e f g = may_leave-next (has_case_after limits more) n j d e f ∙ ap (λ c. cond c (Some n) None) g

  -- from packet j on, which was not due before and may be due now, the packets give what they owe
  outputs_from : (queue : List Pending) (j d : ℕ) → drop j (packets_of more) ≡ queue → length (packets_of more) ≡ j + length queue
      → may_leave (has_case_after limits more) n (suc j) ≡ None → may_leave (has_case_after limits more) (suc n) j ≡ Some d
      → outputs_of_first limits more (j + length queue) ≡ outputs_of_first limits more j ++ queue_owes limits.pending line ended queue
  outputs_from [] j d e f g h =
      let same : j + 0 ≡ j = omega arith in
      ap (outputs_of_first limits more) same ∙ sym (append-nil (outputs_of_first limits more j))
  outputs_from (packet ∷ rest) j d e f g h =
      let here = first_of j (packets_of more) packet rest e in
      let told = case_told j packet (length (packet ∷ rest)) here.0 f in
      elim (tested (is_first_due limits.pending line ended packet.shape (length (packet ∷ rest)))) [
        | inl on ↦
            let now = chosen_next j d true g h (told ∙ on) in
            let count : j + length (packet ∷ rest) ≡ suc j + length rest = omega arith in
            let gives = leaves_now j packet now here.0 in
            let behind = outputs_from rest (suc j) n here.1 (f ∙ count) (may_leave-none (has_case_after limits more) n (suc j) g) now in
            ap (outputs_of_first limits more) count ∙ behind
            ∙ ap (λ xs. (outputs_of_first limits more j ++ xs) ++ queue_owes limits.pending line ended rest) gives
            ∙ append_assoc (outputs_of_first limits more j) (packet_and_runs line (open_reason ended) packet) (queue_owes limits.pending line ended rest)
            ∙ ap (λ b. outputs_of_first limits more j ++ cond b (packet_and_runs line (open_reason ended) packet ++ queue_owes limits.pending line ended rest) []) (sym on)
        | inr off ↦
            let now = chosen_next j d false g h (told ∙ off) in
            let stop = outputs_stop limits more (length (packet ∷ rest)) j (new_when (suc j) ∙ now) in
            stop ∙ sym (append-nil (outputs_of_first limits more j))
            ∙ ap (λ b. outputs_of_first limits more j ++ cond b (packet_and_runs line (open_reason ended) packet ++ queue_owes limits.pending line ended rest) []) (sym off)
      ]

  -- one more event adds what the packets then give that have not left, where none of them was due before
  pub outputs-more : (left d : ℕ) → left ≤ length (packets_of events) → length (packets_of events) ≤ length (packets_of more)
      → may_leave (has_case_after limits events) n left ≡ Some d → may_leave (has_case_after limits events) n (suc left) ≡ None
      → outputs limits more ≡ outputs limits events ++ queue_owes limits.pending line ended (drop left (packets_of more))
  outputs-more left d within grows e f =
      let queue = drop left (packets_of more) in
      let count : length (packets_of more) ≡ left + length queue = omega (arith, length-drop left (packets_of more)) in
      let here : may_leave (has_case_after limits more) (suc n) left ≡ Some d = may_leave-more (has_case_after limits more) n left d (old_when left ∙ e) in
      ap (outputs_of_first limits more) count
      ∙ outputs_from queue left d refl count (old_when (suc left) ∙ f) here
      ∙ ap (λ xs. xs ++ queue_owes limits.pending line ended queue) (outputs_still left d e ∙ sym (outputs_up_to limits events (length (packets_of events)) left within f))
