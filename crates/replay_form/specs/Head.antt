-- What a record's header says.
use Rattle.std.specs.Prelude.{◌≡◌, ℕ, zero, suc, ◌+◌, ◌*◌, ◌==◌, Bool, true, false, if◌then◌else◌, List, [], ◌∷◌, ◌++◌}
use Rattle.vrt_words.specs.Words.{AreBytes}
use Rattle.vrt_header.specs.Profile.{profile_of}
use Rattle.cam_field.specs.declared.ident.Ident.{Ident}
use Rattle.cam_field.specs.declared.ident.Ident.TheVariants as idents
use Rattle.vrt_fields.specs.declared.limits.Limits.{Limits}
use Rattle.vrt_fields.specs.declared.limit.Limit.{Limit}
use Rattle.vrt_fields.specs.declared.route.Route.{Route}
use Rattle.replay_form.specs.Numbers.{number_at, signed_at, AreNumbers}
use Rattle.replay_form.specs.HeadFields.{IsWholeHead, is_second, route_at, port_at}
use Rattle.replay_form.specs.declared.record_head.RecordHead.{RecordHead}

abbrev pub form_number : Bool → ℕ
form_number second = if second then 2 else 1

-- the windows, the contexts kept, and the packets that may wait
abbrev pub limits_in : List ℕ → Limits
limits_in bytes = record {
  data_window = number_at 20 4 bytes;
  context_window = number_at 24 4 bytes;
  kept = number_at 28 4 bytes;
  pending = number_at 32 4 bytes;
}

-- an identity by its form
abbrev pub IsIdentity : Ident → List ℕ → Type 0
IsIdentity idents.None bytes = number_at 40 4 bytes ≡ 0
IsIdentity (idents.Word word) bytes = (number_at 40 4 bytes ≡ 1) × (word ≡ number_at 44 4 bytes)
IsIdentity (idents.Uuid words) bytes = (number_at 40 4 bytes ≡ 2) × AreNumbers words 44 4 bytes

-- an entry of the bounds
abbrev pub limit_in : ℕ → List ℕ → Limit
limit_in bound bytes = record {
  settable = number_at (136 + 28 * bound) 4 bytes == 1;
  step = number_at (140 + 28 * bound) 8 bytes;
  least = signed_at (148 + 28 * bound) bytes;
  greatest = signed_at (156 + 28 * bound) bytes;
}

abbrev pub bounds_in : List ℕ → List Limit
bounds_in bytes =
    limit_in 0 bytes ∷ limit_in 1 bytes ∷ limit_in 2 bytes ∷ limit_in 3 bytes ∷ limit_in 4 bytes ∷ limit_in 5 bytes ∷ limit_in 6 bytes ∷ []

-- a route: in form 1 it has one port
abbrev pub ports_in : Bool → ℕ → List ℕ → List ℕ
ports_in false route bytes = number_at (port_at false route 0) 2 bytes ∷ 0 ∷ 0 ∷ 0 ∷ []
ports_in true route bytes =
    number_at (port_at true route 0) 2 bytes ∷ number_at (port_at true route 1) 2 bytes ∷ number_at (port_at true route 2) 2 bytes
    ∷ number_at (port_at true route 3) 2 bytes ∷ []

abbrev pub route_in : Bool → ℕ → List ℕ → Route
route_in second route bytes = record {
  stream = number_at (route_at second route) 4 bytes;
  ports = ports_in second route bytes;
  number = if second then number_at (route_at second route + 4) 2 bytes else 1;
}

-- the first n routes
abbrev pub routes_in : Bool → ℕ → List ℕ → List Route
routes_in second zero bytes = []
routes_in second (suc n) bytes = routes_in second n bytes ++ route_in second n bytes ∷ []

-- these bytes, and no others, are a header that says this
pub record IsHead (head : RecordHead) (bytes : List ℕ) : Type 0 where
  pub whole : IsWholeHead bytes
  pub form : head.form ≡ form_number (is_second bytes)
  pub profile : head.profile ≡ profile_of (number_at 8 4 bytes) (number_at 12 4 bytes)
  pub max_words : head.max_words ≡ number_at 16 4 bytes
  pub limits : head.limits ≡ limits_in bytes
  pub identity : IsIdentity head.identity bytes
  pub initial : AreNumbers head.initial 60 19 bytes
  pub bounds : head.bounds ≡ bounds_in bytes
  pub routes : head.routes ≡ routes_in (is_second bytes) (number_at 36 4 bytes) bytes

-- the header of some bytes
pub record IsSpelledHead (head : RecordHead) : Type 0 where
  pub bytes : List ℕ
  pub fit : AreBytes bytes
  pub says : IsHead head bytes
