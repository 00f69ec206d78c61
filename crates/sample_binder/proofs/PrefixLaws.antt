-- What events give is the front of what they give with more events behind them.
use Rattle.std.proofs.Common.{◌≡◌, ◌⊎◌, ℕ, suc, zero, ◌≤◌, nat_le, ◌&&◌, Bool, false, List, [], ◌∷◌, ◌++◌, length, take, drop, Option, Some, None, refl, sym, ap, ◌∙◌, inl, inr, arith, length-append, append_assoc}
use Rattle.std.proofs.lemmas.Bool.Decides.{nat_tests}
use Rattle.std.proofs.lemmas.List.{append-nil, take-append-drop}
use Rattle.std.proofs.lemmas.Option.{slice_get_past}
use Rattle.vrt_fields.specs.declared.limits.Limits.{Limits}
use Rattle.sample_binder.specs.declared.out.Out.{Out}
use Rattle.sample_binder.specs.Due.{first_from, may_leave, has_case, has_case_after}
use Rattle.sample_binder.proofs.FirstLaws.{first_below-none}
use Rattle.sample_binder.specs.Events.{Event, ContextEvent, DataEvent, EndEvent, packets_of, has_ended, line_after}
use Rattle.sample_binder.specs.Outputs.{outputs}
use Rattle.sample_binder.proofs.OutputLaws.{outputs-more}
use Rattle.sample_binder.specs.Queue.{queue_owes}

packets-append : (xs ys : List Event) → packets_of (xs ++ ys) ≡ packets_of xs ++ packets_of ys
packets-append [] ys = refl
packets-append (ContextEvent context ∷ xs) ys = packets-append xs ys
packets-append (DataEvent packet ∷ xs) ys = ap (λ ps. packet ∷ ps) (packets-append xs ys)
packets-append (EndEvent ∷ xs) ys = packets-append xs ys

fewer : (events : List Event) (n : ℕ) → length (packets_of (take n events)) ≤ length (packets_of events)
fewer events n =
    omega (arith, ap (λ (es : List Event). length (packets_of es)) (take-append-drop n events), ap length (packets-append (take n events) (drop n events)), length-append (packets_of (take n events)) (packets_of (drop n events)))

-- a packet that was not released has no case
no_case_past : (limits : Limits) (events : List Event) (j e : ℕ) → length (packets_of events) ≤ j → has_case_after limits events j e ≡ false
no_case_past limits events j e past =
    ap (has_case limits (take (suc e) events) j) (slice_get_past (packets_of (take (suc e) events)) j (omega (arith, fewer events (suc e))))

never : (p : ℕ → Bool) (d : ℕ) → ((k : ℕ) → p k ≡ false) → (k : ℕ) → (nat_le d k && p k) ≡ false
never p d h k = let off = h k in grind (arith, nat_tests)

from_never : (p : ℕ → Bool) (n : ℕ) (o : Option ℕ) → ((k : ℕ) → p k ≡ false) → first_from p n o ≡ None
from_never p n None h = refl
from_never p n (Some d) h = first_below-none (λ e. nat_le d e && p e) n (λ k lt. never p d h k)

-- the first that is not due, where the one behind the last is not
pub record IsFirstLeft (passes : ℕ → ℕ → Bool) (n most : ℕ) : Type 0 where
  pub left : ℕ
  pub within : left ≤ most
  pub since : ℕ
  pub are_due : may_leave passes n left ≡ Some since
  pub not_due : may_leave passes n (suc left) ≡ None

some_or_none : (o : Option ℕ) → ((d : ℕ) × (o ≡ Some d)) ⊎ (o ≡ None)
some_or_none (Some d) = inl (d, refl)
some_or_none None = inr refl

first_left : (passes : ℕ → ℕ → Bool) (n most : ℕ) → may_leave passes n (suc most) ≡ None → IsFirstLeft passes n most
first_left passes n zero e = record { left = 0; within = omega arith; since = 0; are_due = refl; not_due = e }
first_left passes n (suc most) e = elim (some_or_none (may_leave passes n (suc most))) [
  | inl found ↦ record { left = suc most; within = omega arith; since = found.0; are_due = found.1; not_due = e }
  | inr none ↦
      let f = first_left passes n most none in
      record { left = f.left; within = omega (arith, f.within); since = f.since; are_due = f.are_due; not_due = f.not_due }
]

-- one more event adds something behind
pub one_more_owes : (limits : Limits) (events : List Event) (event : Event) → (left : ℕ)
    × (outputs limits (events ++ event ∷ []) ≡ outputs limits events ++ queue_owes limits.pending (line_after limits.kept (events ++ event ∷ [])) (has_ended (events ++ event ∷ [])) (drop left (packets_of (events ++ event ∷ []))))
one_more_owes limits events event =
    let passes = has_case_after limits events in
    let n = length events in
    let most = length (packets_of events) in
    let f = first_left passes n most (from_never (passes most) n (may_leave passes n most) (λ k. no_case_past limits events most k (omega arith))) in
    let grows : most ≤ length (packets_of (events ++ event ∷ [])) = omega (arith, ap length (packets-append events (event ∷ [])), length-append (packets_of events) (packets_of (event ∷ []))) in
    (f.left, outputs-more limits events event f.left f.since f.within grows f.are_due f.not_due)

one_more : (limits : Limits) (events : List Event) (event : Event) → (more : List Out) × (outputs limits (events ++ event ∷ []) ≡ outputs limits events ++ more)
one_more limits events event =
    let all = events ++ event ∷ [] in
    let o = one_more_owes limits events event in
    (queue_owes limits.pending (line_after limits.kept all) (has_ended all) (drop o.0 (packets_of all)), o.1)

pub outputs-prefix : (limits : Limits) (later events : List Event) → (more : List Out) × (outputs limits (events ++ later) ≡ outputs limits events ++ more)
outputs-prefix limits [] events = ([], ap (outputs limits) (append-nil events) ∙ sym (append-nil (outputs limits events)))
outputs-prefix limits (event ∷ later) events =
    let one = one_more limits events event in
    let rest = outputs-prefix limits later (events ++ event ∷ []) in
    (one.0 ++ rest.0, ap (outputs limits) (sym (append_assoc events (event ∷ []) later)) ∙ rest.1 ∙ ap (λ xs. xs ++ rest.0) one.1 ∙ append_assoc (outputs limits events) one.0 rest.0)
