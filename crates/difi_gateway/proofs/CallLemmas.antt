-- A packet that is given to a binder.
use Rattle.std.proofs.Common.{◌≡◌, ℕ, ◌+◌, ◌≤◌, List, [], ◌∷◌, ◌++◌, length, slice_get, slice_set, Option, Some, Result, Ok, Err, OnOk, OnErr, refl, sym, ap, ◌∙◌, subst, arith}
use Rattle.vrt_words.specs.Buffer.{Buffer}
use Rattle.difi_context.specs.declared.context.ContextRec.{ContextRec}
use Rattle.reorder_window.specs.Window.{answer}
use Rattle.sample_binder.specs.Binder as binder
use Rattle.sample_binder.specs.Binder.{BinderState, number_kept, SameBinder, without_packet, without_release}
use Rattle.sample_binder.specs.Calls.{Call, ContextCall, DataCall, context_arrivals, data_arrivals, context_entry, data_entry, outcome}
use Rattle.sample_binder.specs.declared.arrive.Turned.{Turned}
use Rattle.difi_gateway.specs.Told.{same_context, same_buffer, turned_of}
use Rattle.difi_gateway.specs.State.{Gated, IsKeptFew}
use Rattle.difi_gateway.specs.Steps.{IsCalled, IsGivenAt, IsDataGiven, turned_in, turned_with, with_back, called_with}
use Rattle.stream_routes.specs.Ports.{IsRouteAt}

in_packet : {R T : Type 0} (o : Result R (Turned × T)) → turned_in (without_packet o) ≡ turned_of o
in_packet (Ok released) = refl
in_packet (Err e) = refl

with_release : {R : Type 0} (o : Result R (Turned × Buffer)) → turned_with (without_release o) ≡ turned_of o
with_release (Ok released) = refl
with_release (Err e) = refl

module _ (rec : ContextRec) (old new : BinderState)
    (stands : (calls : List Call) (taken : ℕ) → binder.StandsFor old calls taken → binder.StandsFor new (calls ++ ContextCall rec ∷ []) taken)
    (same : SameBinder old new)
    (kept : number_kept new ≡ number_kept old) where
  few : IsKeptFew old → IsKeptFew new
  few f = subst (λ l. number_kept new ≤ l.data_window + 1 + l.pending) (sym same.limits) (omega (arith, f, kept))

  pub context_called : (r : Result (Unit {0}) Turned)
      → ((calls : List Call) (taken : ℕ) → binder.StandsFor old calls taken → r ≡ without_packet (outcome (answer same_context old.limits.context_window (context_arrivals calls) (context_entry rec))))
      → OnOk r (new.given ≡ old.given + 1) → OnErr r (new ≡ old)
      → IsCalled (ContextCall rec) (turned_in r) old new
  context_called (Ok done) answered given unchanged = record {
    same = same;
    stands = stands;
    answer = λ calls taken s. ap turned_in (answered calls taken s) ∙ in_packet (outcome (answer same_context old.limits.context_window (context_arrivals calls) (context_entry rec)));
    count = omega (arith, given);
    kept = omega (arith, kept);
    few = few;
    unchanged = search;
  }
  context_called (Err why) answered given unchanged = record {
    same = same;
    stands = stands;
    answer = λ calls taken s. ap turned_in (answered calls taken s) ∙ in_packet (outcome (answer same_context old.limits.context_window (context_arrivals calls) (context_entry rec)));
    count = omega (arith, ap (λ (b : BinderState). b.given) unchanged);
    kept = omega (arith, kept);
    few = few;
    unchanged = unchanged;
  }

module _ (buf : Buffer) (old new : BinderState)
    (stands : (calls : List Call) (taken : ℕ) → binder.StandsFor old calls taken → binder.StandsFor new (calls ++ DataCall buf ∷ []) taken)
    (same : SameBinder old new)
    (capped : number_kept new ≤ new.limits.data_window + 1 + new.limits.pending) where
  pub data_called : (r : Result (Unit {0}) (Turned × Buffer))
      → ((calls : List Call) (taken : ℕ) → binder.StandsFor old calls taken → r ≡ without_release (outcome (answer same_buffer old.limits.data_window (data_arrivals calls) (data_entry buf))))
      → OnOk r (number_kept new ≡ number_kept old + 1)
      → OnOk r (new.given ≡ old.given + 1) → OnErr r (new ≡ old)
      → IsCalled (DataCall buf) (turned_with r) old new
  data_called (Ok done) answered more given unchanged = record {
    same = same;
    stands = stands;
    answer = λ calls taken s. ap turned_with (answered calls taken s) ∙ with_release (outcome (answer same_buffer old.limits.data_window (data_arrivals calls) (data_entry buf)));
    count = omega (arith, given);
    kept = more;
    few = λ f. capped;
    unchanged = search;
  }
  data_called (Err why) answered more given unchanged = record {
    same = same;
    stands = stands;
    answer = λ calls taken s. ap turned_with (answered calls taken s) ∙ with_release (outcome (answer same_buffer old.limits.data_window (data_arrivals calls) (data_entry buf)));
    count = omega (arith, ap (λ (b : BinderState). b.given) unchanged);
    kept = omega (arith, ap (λ (b : BinderState). number_kept b) unchanged);
    few = λ f. capped;
    unchanged = unchanged;
  }

-- the buffers and the memory for them are as is said
same_gate : (old : Gated) (binders : List BinderState) (empty buffers : List Buffer) (capacity : ℕ) → empty ≡ buffers → capacity ≡ old.capacity
    → record old { binders = binders; empty = empty; capacity = capacity } ≡ record old { binders = binders; empty = buffers }
same_gate old binders empty buffers capacity e f =
    ap (λ (l : List Buffer). record old { binders = binders; empty = l; capacity = capacity }) e
    ∙ ap (λ n. record old { binders = binders; empty = buffers; capacity = n }) f

module _ (stream : ℕ) (bytes : List ℕ) (port : ℕ) (old new : Gated) (front : List Buffer) (last buf : Buffer) (turned : Option Turned) (index : ℕ) (was now : BinderState) where
  pub data_given : buf ≡ record last { bytes = bytes } → old.empty ≡ front ++ last ∷ [] → IsRouteAt old.routes stream index → slice_get old.binders index ≡ Some was
      → IsCalled (DataCall buf) turned was now
      → (empty : List Buffer) (capacity : ℕ) → empty ≡ with_back front turned buf → capacity ≡ old.capacity
      → new ≡ called_with (record old { binders = slice_set old.binders index now; empty = empty; capacity = capacity }) port (length bytes) index turned
      → IsDataGiven stream bytes port old new
  data_given e empties route there called empty capacity same room after = record {
    front = front;
    last = last;
    empties = empties;
    turned = turned;
    given = subst (λ (b : Buffer). IsGivenAt (DataCall b) port (length bytes) stream (with_back front turned b) turned old new) e
        (record {
          index = index;
          route = route;
          was = was;
          there = there;
          now = now;
          called = called;
          after = after ∙ ap (λ (g : Gated). called_with g port (length bytes) index turned) (same_gate old (slice_set old.binders index now) empty (with_back front turned buf) capacity same room);
        });
  }
