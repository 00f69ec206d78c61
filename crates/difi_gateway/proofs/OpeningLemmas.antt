-- A gateway that was opened stands for no frames.
use Rattle.std.proofs.Common.{◌≡◌, ℕ, zero, suc, ◌+◌, false, nat_lt, List, [], ◌∷◌, length, slice_get, Some, sum_by, refl, sym, ap, ◌∙◌, subst, arith, rules}
use Rattle.std.specs.List.{AllByRecursion}
use Rattle.std.proofs.lemmas.List.Sums.{sum_by-cons}
use Rattle.vrt_words.specs.Buffer.{Buffer}
use Rattle.vrt_fields.specs.declared.route.Route.{Route}
use Rattle.replay_form.specs.HeadValues.{AreHeadValues}
use Rattle.replay_form.specs.declared.record_head.RecordHead.{RecordHead}
use Rattle.sample_binder.specs.Binder.{BinderState, number_kept}
use Rattle.difi_gateway.specs.State.{Gated, IsBinder, IsIdle, IsAtHalt, IsAtRest, IsReady, IsSound, IsWithin, StandsFor, HasRoom, number_of_buffers, calls_with, is_ended}
use Rattle.difi_gateway.specs.Opened.{IsFresh, IsOpened, opened}
use Rattle.difi_gateway.specs.declared.stage.Stage.TheVariants as stages

all_at : {X : Type 0} (P : X → Type 0) (xs : List X) (k : ℕ) (x : X) → AllByRecursion P xs → slice_get xs k ≡ Some x → P x
all_at P [] k x all there = search rules
all_at P (y ∷ ys) zero x all there = search rules
all_at P (y ∷ ys) (suc k) x all there = all_at P ys k x all.1 there

-- fresh binders keep nothing
none_kept : (head : RecordHead) (binders : List BinderState) → AllByRecursion (IsFresh head.profile head.limits) binders → sum_by number_kept binders ≡ 0
none_kept head [] fresh = refl
none_kept head (bound ∷ binders) fresh = omega (arith, sum_by-cons number_kept bound binders, fresh.0.none_kept, none_kept head binders fresh.1)

none_below : (k : ℕ) → nat_lt k 0 ≡ false
none_below k = search rules

-- a fresh binder had no call
fresh_idle : (head : RecordHead) (bound : BinderState) → IsFresh head.profile head.limits bound → IsIdle head [] bound
fresh_idle head bound fresh = record {
  stream = record {
    profile = fresh.profile_is;
    limits = fresh.limits_are;
    few = omega (arith, fresh.given);
    kept = omega (arith, fresh.none_kept);
    taken = 0;
    stands = fresh.stands;
    left_is = refl;
  };
  nothing = fresh.nothing;
}

fresh_binder : (head : RecordHead) (k : ℕ) (route : Route) (bound : BinderState) → IsFresh head.profile head.limits bound
    → IsBinder head [] stages.Waiting [] k route bound
fresh_binder head k route bound fresh = record {
  drawn = λ none. search rules;
  idle = λ undrawn. subst (λ told. IsIdle head (calls_with told []) bound) (sym (none_below k)) (fresh_idle head bound fresh);
}

fresh_stands : (head : RecordHead) (binders : List BinderState) (empty : List Buffer) (capacity : ℕ) → AreHeadValues head
    → length binders ≡ length head.routes → AllByRecursion (IsFresh head.profile head.limits) binders
    → length empty ≡ number_of_buffers head → AllByRecursion (HasRoom head.max_words) empty
    → StandsFor (opened head binders empty capacity) head [] false 0
fresh_stands head binders empty capacity values all fresh number rooms = record {
  is_of = record { values = values; profile = refl; max_words = refl; routes = refl };
  contents = tt;
  fit = tt;
  taken = refl;
  ended_is = refl;
  left = [];
  binders = record {
    all = all;
    none_behind = tt;
    each = λ k route bound listed there. fresh_binder head k route bound (all_at _ binders k bound fresh there);
  };
  buffers = record {
    all = ap (λ kept. length empty + kept) (none_kept head binders fresh) ∙ omega (arith, number);
    rooms = rooms;
  };
  begun = [];
  items = refl;
  now = record { before = []; begun_is = refl };
  placed = tt;
  counts = refl;
  few = search rules;
  rest = refl;
}

pub opened_stands : (head : RecordHead) (gate : Gated) → AreHeadValues head → IsOpened head gate → StandsFor gate head [] false 0
opened_stands head gate values is =
    subst (λ g. StandsFor g head [] false 0) (sym is.is_opened)
    (fresh_stands head gate.binders gate.empty gate.capacity values is.all is.fresh is.number is.rooms)

pub opened_sound : (head : RecordHead) (gate : Gated) → AreHeadValues head → IsOpened head gate → IsSound gate
opened_sound head gate values is = record {
  head = head;
  received = [];
  given = 0;
  stands = subst (λ g. StandsFor g head [] (is_ended g.stage) 0) (sym is.is_opened)
      (fresh_stands head gate.binders gate.empty gate.capacity values is.all is.fresh is.number is.rooms);
  buffers = omega (arith, is.number, is.memory, none_kept head gate.binders is.fresh);
  small = omega (arith, ap (λ (g : Gated). g.taken) is.is_opened);
  drawing = subst (λ (g : Gated). IsWithin g.stage (length g.binders)) (sym is.is_opened) tt;
}

-- it waits, and tells nothing
pub opened_rests : (head : RecordHead) (gate : Gated) → IsOpened head gate → IsAtRest gate
opened_rests head gate is = record { stage = ap (λ (g : Gated). g.stage) is.is_opened; telling = ap (λ (g : Gated). g.telling) is.is_opened }

pub opened_ready : (head : RecordHead) (gate : Gated) → AreHeadValues head → IsOpened head gate → IsReady gate
opened_ready head gate values is = record {
  sound = opened_sound head gate values is;
  ahead = λ quiet. subst (λ s. IsAtHalt s (length gate.binders)) (sym (opened_rests head gate is).stage) tt;
}
