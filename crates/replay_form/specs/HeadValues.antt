-- The rules of a header's values, whatever bytes say them.
use Rattle.std.specs.Prelude.{◌≡◌, ℕ, ◌<◌, ◌≤◌, ◌==◌, ◌⊎◌, List, length, get_or}
use Rattle.vrt_words.specs.Words.{AreWords}
use Rattle.vrt_header.specs.Profile.{IsProfile}
use Rattle.vrt_fields.specs.declared.field.Field.{Field}
use Rattle.vrt_fields.specs.declared.field.Field.TheVariants.{SampleRate}
use Rattle.vrt_fields.specs.FieldWords.{AreFields}
use Rattle.vrt_fields.specs.declared.limit.Limit.{Limit}
use Rattle.vrt_fields.specs.Limit.{limited_fields, IsLimit}
use Rattle.vrt_fields.specs.Route.{AreRoutes}
use Rattle.cam_field.specs.declared.ident.Ident.{Ident}
use Rattle.vrt_fields.specs.Limits.{AreLimits}
use Rattle.replay_form.specs.HeadFields.{IsRouteCount, most_pending}
use Rattle.replay_form.specs.HeadSpelling.{identity_words}
use Rattle.replay_form.specs.declared.record_head.RecordHead.{RecordHead}

-- the words of an identity are words
pub record AreIdentityWords (identity : Ident) : Type 0 where
  pub four : length (identity_words identity) ≡ 4
  pub fit : AreWords (identity_words identity)

-- the words of the initial fields, which are those of a context
pub record AreInitialWords (words : List ℕ) : Type 0 where
  pub all : length words ≡ 19
  pub fit : AreWords words
  pub fields : AreFields words

-- the field of which a bound is
abbrev pub limited_field : ℕ → Field
limited_field bound = get_or limited_fields bound SampleRate

-- the values of a header
pub record AreHeadValues (head : RecordHead) : Type 0 where
  pub form : (head.form ≡ 1) ⊎ (head.form ≡ 2)
  pub profile : IsProfile head.profile
  pub max_words_from : 43 ≤ head.max_words
  pub max_words_to : head.max_words ≤ 16376
  pub limits : AreLimits head.limits
  pub pending : head.limits.pending ≤ most_pending (head.form == 2)
  pub count : IsRouteCount (head.form == 2) head.max_words head.limits.data_window head.limits.pending (length head.routes)
  pub identity : AreIdentityWords head.identity
  pub initial : AreInitialWords head.initial
  pub bounds_all : length head.bounds ≡ 7
  pub bounds : (bound : ℕ) (other : Limit) → bound < 7 → IsLimit (limited_field bound) (get_or head.bounds bound other)
  pub routes : AreRoutes (head.form == 2) head.routes
