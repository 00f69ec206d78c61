-- A gateway to which no frame was given.
use Rattle.std.specs.Prelude.{◌≡◌, ℕ, ◌≤◌, false, List, [], ◌∷◌, length}
use Rattle.std.specs.List.{AllByRecursion}
use Rattle.vrt_words.specs.Buffer.{Buffer}
use Rattle.vrt_header.specs.Profile.{PacketProfile}
use Rattle.vrt_fields.specs.declared.limits.Limits.{Limits}
use Rattle.replay_form.specs.declared.record_head.RecordHead.{RecordHead}
use Rattle.sample_binder.specs.Binder as binder
use Rattle.sample_binder.specs.Binder.{BinderState, number_kept}
use Rattle.sample_binder.specs.Queue.{owed}
use Rattle.difi_gateway.specs.State.{Gated, HasRoom, number_of_buffers}
use Rattle.difi_gateway.specs.Telling as telling
use Rattle.difi_gateway.specs.declared.stage.Stage.TheVariants as stages

-- a binder of this profile and these limits, to which nothing was given
pub record IsFresh (profile : PacketProfile) (limits : Limits) (bound : BinderState) : Type 0 where
  pub profile_is : bound.profile ≡ profile
  pub limits_are : bound.limits ≡ limits
  pub given : bound.given ≡ 0
  pub untold : bound.told ≡ false
  pub stands : binder.StandsFor bound [] 0
  pub nothing : owed bound.state ≡ []
  pub none_kept : number_kept bound ≡ 0

-- a gateway of these binders and buffers, with memory for so many: it waits for the first frame
abbrev pub opened : RecordHead → List BinderState → List Buffer → ℕ → Gated
opened head binders empty capacity = record {
  profile = head.profile;
  max_words = head.max_words;
  routes = head.routes;
  binders = binders;
  empty = empty;
  capacity = capacity;
  counts = 0 ∷ 0 ∷ 0 ∷ 0 ∷ 0 ∷ 0 ∷ 0 ∷ [];
  taken = 0;
  telling = telling.Nothing;
  place = 0;
  lost = 0;
  stage = stages.Waiting;
}

-- it has a fresh binder for each route, and all buffers are empty
pub record IsOpened (head : RecordHead) (gate : Gated) : Type 0 where
  pub is_opened : gate ≡ opened head gate.binders gate.empty gate.capacity
  pub all : length gate.binders ≡ length head.routes
  pub fresh : AllByRecursion (IsFresh head.profile head.limits) gate.binders
  pub number : length gate.empty ≡ number_of_buffers head
  pub rooms : AllByRecursion (HasRoom head.max_words) gate.empty
  pub memory : number_of_buffers head ≤ gate.capacity
