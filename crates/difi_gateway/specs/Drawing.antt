-- What a gateway draws from a binder, and how it goes on to the next one.
use Rattle.std.specs.Prelude.{◌≡◌, ◌⊎◌, ℕ, ◌+◌, ◌<◌, ◌≤◌, false, true, List, [], ◌∷◌, ◌++◌, length, slice_get, slice_set, Option, Some, None, IfNone, OnSome}
use Rattle.sample_binder.specs.Binder as binder
use Rattle.sample_binder.specs.Binder.{BinderState, number_kept}
use Rattle.sample_binder.specs.Calls.{Call, EndCall, outputs_of}
use Rattle.sample_binder.specs.Outputs.{packets_in}
use Rattle.sample_binder.specs.Queue.{owed}
use Rattle.sample_binder.specs.declared.out.Out.{Out}
use Rattle.sample_binder.specs.declared.out.Out.TheVariants as out
use Rattle.sample_binder.specs.declared.out.Run.{Run}
use Rattle.sample_binder.specs.declared.out.Run.TheVariants as run
use Rattle.difi_gateway.specs.State.{Gated}
use Rattle.difi_gateway.specs.Steps.{more}
use Rattle.difi_gateway.specs.declared.drawn.Drawn.{Drawn}
use Rattle.difi_gateway.specs.declared.drawn.Drawn.TheVariants as drawn
use Rattle.difi_gateway.specs.Telling as telling
use Rattle.difi_gateway.specs.declared.stage.Stage.{Stage}
use Rattle.difi_gateway.specs.declared.stage.Stage.TheVariants as stages

-- ---- one output of a binder

abbrev pub packets_given : Option Out → ℕ
packets_given None = 0
packets_given (Some given) = packets_in given

-- a binder gave its next output, or nothing is owed
pub record IsGivenBy (given : Option Out) (was now : BinderState) : Type 0 where
  pub same : binder.SameBinder was now
  pub count : now.given ≡ was.given
  pub outs : (calls : List Call) (taken : ℕ) → binder.StandsFor was calls taken → given ≡ slice_get (outputs_of was.limits calls) taken
  pub stands : (calls : List Call) (taken : ℕ) → binder.StandsFor was calls taken → OnSome given (binder.StandsFor now calls (taken + 1))
  pub kept : number_kept now + packets_given given ≡ number_kept was
  pub nothing : IfNone given (owed was.state ≡ [])
  pub none : IfNone given (now ≡ was)

abbrev pub drawn_as : Option Out → Drawn
drawn_as None = drawn.Nothing
drawn_as (Some (out.Packet buf lost)) = drawn.Packet
drawn_as (Some (out.Run run)) = drawn.Run

-- the samples of a run are counted, or a raw packet
abbrev pub counted : Run → List ℕ → List ℕ
counted (run.Bound stamp first number moment fields bits) counts = more 1 number counts
counted (run.Uncertain reason stamp first number moment bits) counts = more 2 number counts
counted (run.Raw reason stamp pad) counts = more 3 1 counts

-- the buffer of a packet is the last one that no binder keeps; a run is told, with the number lost before it
abbrev pub drawn_from : Gated → ℕ → Option Out → Gated
drawn_from old index None = old
drawn_from old index (Some (out.Packet buf lost)) = record old { empty = old.empty ++ buf ∷ []; lost = lost }
drawn_from old index (Some (out.Run run)) = record old {
  counts = counted run old.counts;
  telling = telling.Run index old.lost run;
  place = 0;
  lost = 0;
}

-- the binder of this route gave its next output, which is told, or nothing is owed
pub record IsDrawn (index : ℕ) (result : Drawn) (old new : Gated) : Type 0 where
  pub was : BinderState
  pub there : slice_get old.binders index ≡ Some was
  pub now : BinderState
  pub given : Option Out
  pub by : IsGivenBy given was now
  pub result_is : result ≡ drawn_as given
  pub after : new ≡ drawn_from (record old { binders = slice_set old.binders index now }) index given

-- ---- the end, binder by binder

-- nothing is owed, and the end was not told
pub record IsUntold (bound : BinderState) : Type 0 where
  pub nothing : owed bound.state ≡ []
  pub untold : bound.told ≡ false

-- the end was told to a binder
pub record IsEnded (was now : BinderState) : Type 0 where
  pub stands : (calls : List Call) (taken : ℕ) → binder.StandsFor was calls taken → binder.StandsFor now (calls ++ EndCall ∷ []) taken
  pub profile : now.profile ≡ was.profile
  pub limits : now.limits ≡ was.limits
  pub count : now.given ≡ was.given
  pub kept : number_kept now ≡ number_kept was
  pub told : now.told ≡ true

-- the binder of this route was told the end
pub record IsEndAt (index : ℕ) (old new : Gated) : Type 0 where
  pub was : BinderState
  pub there : slice_get old.binders index ≡ Some was
  pub now : BinderState
  pub ended : IsEnded was now
  pub after : new ≡ record old { binders = slice_set old.binders index now; stage = stages.Ending index }

-- there is no such route
pub record IsEndBehind (index : ℕ) (old new : Gated) : Type 0 where
  pub behind : length old.binders ≤ index
  pub after : new ≡ record old { stage = stages.Ending index }

abbrev pub IsEndTold : ℕ → Gated → Gated → Type 0
IsEndTold index old new = IsEndAt index old new ⊎ IsEndBehind index old new

-- a binder at this index can be told the end
abbrev pub MayBeTold : ℕ → List BinderState → Type 0
MayBeTold index binders = (bound : BinderState) → slice_get binders index ≡ Some bound → IsUntold bound

-- ---- the next binder

abbrev pub MayGoOn : Stage → List BinderState → Type 0
MayGoOn (stages.Ending index) binders = (index < length binders) × MayBeTold (index + 1) binders
MayGoOn stage binders = Unit {0}

-- the binder that gives owes nothing: the gateway waits again, or the next binder was told the end
abbrev pub IsGoneOn : Stage → Gated → Gated → Type 0
IsGoneOn stages.Waiting old new = new ≡ old
IsGoneOn (stages.Drawing index) old new = new ≡ record old { stage = stages.Waiting }
IsGoneOn (stages.Ending index) old new = IsEndTold (index + 1) old new
IsGoneOn stages.Over old new = new ≡ old
