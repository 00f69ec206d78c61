-- The ranges of the numbers in the first part of a header that was judged.
use Rattle.std.specs.Prelude.{ℕ, ◌<◌, ◌≤◌, ◌^◌, List}
use Rattle.replay_form.specs.Numbers.{number_at}
use Rattle.replay_form.specs.HeadFields.{IsRouteCount, is_second, most_pending}

-- the numbers of the header's first part
pub record HeadRanges (bytes : List ℕ) : Type 0 where
  pub cid : number_at 8 4 bytes < 2 ^ 24
  pub tsi_from : 1 ≤ number_at 12 4 bytes
  pub tsi_to : number_at 12 4 bytes ≤ 3
  pub max_words_from : 43 ≤ number_at 16 4 bytes
  pub max_words_to : number_at 16 4 bytes ≤ 16376
  pub data_window : number_at 20 4 bytes ≤ 4096
  pub context_window : number_at 24 4 bytes ≤ 4096
  pub kept_from : 2 ≤ number_at 28 4 bytes
  pub kept_to : number_at 28 4 bytes ≤ 4096
  pub pending_from : 1 ≤ number_at 32 4 bytes
  pub pending_to : number_at 32 4 bytes ≤ most_pending (is_second bytes)
  pub routes : IsRouteCount (is_second bytes) (number_at 16 4 bytes) (number_at 20 4 bytes) (number_at 32 4 bytes) (number_at 36 4 bytes)
  pub identity_form : number_at 40 4 bytes ≤ 2
