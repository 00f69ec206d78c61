-- What the reader of records finds on its way.
use Rattle.std.specs.Prelude.{◌≡◌, ℕ, ◌+◌, ◌*◌, ◌≤◌, List, length, take, drop}
use Rattle.release_form.specs.Positions.{word}
use Rattle.sample_binder.specs.RunRules.{AreIndices}
use Rattle.release_form.specs.Layout.{IsPortAt, front_of}
use Rattle.release_form.specs.Release.{IsRelease}
use Rattle.release_form.specs.declared.shown.Shown.{Shown}

-- the bytes that a record has by its length, which stand first
pub record IsFirstRecord (first bytes : List ℕ) : Type 0 where
  pub within : length first ≤ length bytes
  pub front : first ≡ take (length first) bytes
  pub there : 8 ≤ length first
  pub length_is : word first 1 + 8 ≡ length first

-- all the bytes are a record that says this
abbrev pub IsReadAs : Shown → List ℕ → Type 0
IsReadAs shown bytes = IsRelease shown (drop (front_of shown) bytes) bytes

abbrev pub IsNoRecord : List ℕ → Type 0
IsNoRecord bytes = (shown : Shown) (part : List ℕ) → ¬ IsRelease shown part bytes

-- where a run comes from
pub record IsSource (stream port lost : ℕ) (bytes : List ℕ) : Type 0 where
  pub stream_is : stream ≡ word bytes 2
  pub port_is : IsPortAt port bytes 3
  pub lost_is : lost ≡ word bytes 4
  pub lost_most : lost ≤ 15

-- which samples a run has, and that they are all behind the front
pub record IsSpan (first number index front : ℕ) (bytes : List ℕ) : Type 0 where
  pub first_is : first ≡ word bytes index
  pub number_is : number ≡ word bytes (index + 1)
  pub indices : AreIndices first number
  pub whole : length bytes ≡ front + 4 * number
