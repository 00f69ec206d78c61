-- The numbers of a header in the order of layout, as they are written.
use Rattle.std.specs.Prelude.{◌≡◌, ℕ, ◌+◌, ◌*◌, ◌<◌, ◌≤◌, ◌==◌, Bool, true, false, if◌then◌else◌, List, [], ◌∷◌, length, slice_index, get_or}
use Rattle.std.specs.Int.{w64, cast_unsigned}
use Rattle.vrt_words.specs.Words.{AreBytes}
use Rattle.vrt_fields.specs.declared.limit.Limit.{Limit}
use Rattle.vrt_fields.specs.declared.route.Route.{Route}
use Rattle.cam_field.specs.declared.ident.Ident.{Ident}
use Rattle.cam_field.specs.declared.ident.Ident.TheVariants as idents
use Rattle.replay_form.specs.Numbers.{number_at}
use Rattle.replay_form.specs.HeadFields.{first_magic, second_magic, route_at, route_size}
use Rattle.replay_form.specs.declared.record_head.RecordHead.{RecordHead}

-- the bytes of a header with these routes
abbrev pub size_of_head : RecordHead → ℕ
size_of_head head = 332 + route_size (head.form == 2) * length head.routes

abbrev pub magic_of : ℕ → ℕ
magic_of form = if form == 2 then second_magic else first_magic

abbrev pub identity_form : Ident → ℕ
identity_form idents.None = 0
identity_form (idents.Word word) = 1
identity_form (idents.Uuid words) = 2

-- four words; those that an identity does not have are 0
abbrev pub identity_words : Ident → List ℕ
identity_words idents.None = 0 ∷ 0 ∷ 0 ∷ 0 ∷ []
identity_words (idents.Word word) = word ∷ 0 ∷ 0 ∷ 0 ∷ []
identity_words (idents.Uuid words) = words

-- bytes with the numbers in front of the limits, and with those up to the identity
pub record IsHeadStart (head : RecordHead) (bytes : List ℕ) : Type 0 where
  pub fit : AreBytes bytes
  pub there : 332 ≤ length bytes
  pub magic : magic_of head.form ≡ number_at 0 8 bytes
  pub cid : head.profile.cid ≡ number_at 8 4 bytes
  pub tsi : head.profile.tsi ≡ number_at 12 4 bytes
  pub max_words : head.max_words ≡ number_at 16 4 bytes
  pub data_window : head.limits.data_window ≡ number_at 20 4 bytes
  pub context_window : head.limits.context_window ≡ number_at 24 4 bytes
  pub kept : head.limits.kept ≡ number_at 28 4 bytes
  pub pending : head.limits.pending ≡ number_at 32 4 bytes
  pub routes_told : length head.routes ≡ number_at 36 4 bytes
  pub identity_told : identity_form head.identity ≡ number_at 40 4 bytes

-- bytes with a bounds entry at its place
pub record IsLimitSpelled (limit : Limit) (bound : ℕ) (bytes : List ℕ) : Type 0 where
  pub fit : AreBytes bytes
  pub there : 332 ≤ length bytes
  pub flag : (if limit.settable then 1 else 0) ≡ number_at (136 + 28 * bound) 4 bytes
  pub step_told : limit.step ≡ number_at (140 + 28 * bound) 8 bytes
  pub least_told : cast_unsigned w64 limit.least ≡ number_at (148 + 28 * bound) 8 bytes
  pub greatest_told : cast_unsigned w64 limit.greatest ≡ number_at (156 + 28 * bound) 8 bytes

abbrev pub AreLimitsSpelled : List Limit → List ℕ → Type 0
AreLimitsSpelled bounds bytes = (k : ℕ) (other : Limit) → k < 7 → IsLimitSpelled (get_or bounds k other) k bytes

-- bytes with a route at its place
pub record IsFirstRoute (route : Route) (place : ℕ) (bytes : List ℕ) : Type 0 where
  pub fit : AreBytes bytes
  pub there : route_at false place + 8 ≤ length bytes
  pub stream : route.stream ≡ number_at (route_at false place) 4 bytes
  pub port : slice_index route.ports 0 ≡ number_at (route_at false place + 4) 2 bytes
  pub zero : 0 ≡ number_at (route_at false place + 6) 2 bytes

pub record IsSecondRoute (route : Route) (place : ℕ) (bytes : List ℕ) : Type 0 where
  pub fit : AreBytes bytes
  pub there : route_at true place + 16 ≤ length bytes
  pub stream : route.stream ≡ number_at (route_at true place) 4 bytes
  pub number : route.number ≡ number_at (route_at true place + 4) 2 bytes
  pub port0 : slice_index route.ports 0 ≡ number_at (route_at true place + 6) 2 bytes
  pub port1 : slice_index route.ports 1 ≡ number_at (route_at true place + 8) 2 bytes
  pub port2 : slice_index route.ports 2 ≡ number_at (route_at true place + 10) 2 bytes
  pub port3 : slice_index route.ports 3 ≡ number_at (route_at true place + 12) 2 bytes
  pub zero : 0 ≡ number_at (route_at true place + 14) 2 bytes

abbrev pub IsRouteSpelled : Bool → Route → ℕ → List ℕ → Type 0
IsRouteSpelled false route place bytes = IsFirstRoute route place bytes
IsRouteSpelled true route place bytes = IsSecondRoute route place bytes

abbrev pub AreRoutesSpelled : Bool → List Route → List ℕ → Type 0
AreRoutesSpelled second routes bytes = (k : ℕ) (other : Route) → k < length routes → IsRouteSpelled second (get_or routes k other) k bytes
