-- Packets that a site sends, and how they are delivered.
use Rattle.std.specs.Prelude.{◌≡◌, ℕ, ◌+◌, ◌-◌, ◌%◌, ◌<◌, ◌≤◌, Bool, true, false, not, ◌||◌, ◌==◌, List, [], ◌∷◌, ◌++◌, map, length, filter, drop}
use Rattle.std.specs.List.{range_with_len}
use Rattle.vrt_time.specs.Time.{moment_of}
use Rattle.reorder_window.specs.declared.entry.Entry.{Entry}
use Rattle.reorder_window.specs.Window.{lost_before, accepted, number_held, released}

-- `packet k` is the k-th packet that was sent, of `total` counted from 0: the stamps rise, and the counts go on by one, modulo 16
pub record IsSent {T : Type 0} (start total : ℕ) (packet : ℕ → Entry T) : Type 0 where
  pub rising : (j k : ℕ) → j < k → k < total → moment_of (packet j).stamp < moment_of (packet k).stamp
  pub counted : (k : ℕ) → k < total → (packet k).count ≡ (start + k) % 16

-- whether a number is among these
abbrev pub occurs : ℕ → List ℕ → Bool
occurs k [] = false
occurs k (j ∷ rest) = j == k || occurs k rest

-- the numbers of the sent packets that arrive, in the order of their arrival, are a delivery within the size
pub record IsDelivery (size total : ℕ) (order : List ℕ) : Type 0 where
  pub sent : (k : ℕ) → occurs k order ≡ true → k < total
  -- the first place of a number is not after a number greater by more than the size
  pub near : (before after : List ℕ) (j k : ℕ) → order ≡ before ++ k ∷ after → occurs k before ≡ false → occurs j before ≡ true → j ≤ k + size
  -- between two that arrive, fewer than sixteen in a row do not
  pub gaps : (j k : ℕ) → occurs j order ≡ true → occurs k order ≡ true → j < k → (m : ℕ) × (j < m) × (m ≤ j + 16) × (occurs m order ≡ true)

-- all are below this number
abbrev pub AreLess : ℕ → List ℕ → Type 0
AreLess n [] = Unit {0}
AreLess n (j ∷ rest) = (j < n) × AreLess n rest

-- each is above all behind it
abbrev pub NumbersFall : List ℕ → Type 0
NumbersFall [] = Unit {0}
NumbersFall (k ∷ rest) = AreLess k rest × NumbersFall rest

-- these are the numbers that arrived, each once, the greatest first
pub record AreNumbersOf (arrived numbers : List ℕ) : Type 0 where
  pub fall : NumbersFall numbers
  pub inside : (k : ℕ) → occurs k numbers ≡ true → occurs k arrived ≡ true
  pub all : (k : ℕ) → occurs k arrived ≡ true → occurs k numbers ≡ true

-- how many numbers between these two are not among those that arrive
abbrev pub number_absent : List ℕ → ℕ → ℕ → ℕ
number_absent order j k = length (filter (λ m. not (occurs m order)) (range_with_len (j + 1) (k - j - 1)))

-- of the packets with these numbers, the one released last first: the number lost before each but the first is that of the absent ones between it and the one before
abbrev pub AreDistances : {T : Type 0} → (ℕ → Entry T) → List ℕ → List ℕ → Type 0
AreDistances packet order [] = Unit {0}
AreDistances packet order (k ∷ []) = Unit {0}
AreDistances packet order (k ∷ j ∷ rest) =
    (j < k) × (lost_before (packet k) (map packet (j ∷ rest)) ≡ number_absent order j k) × AreDistances packet order (j ∷ rest)

-- a part of a delivery has arrived, and so many draining calls took one: what is accepted and released of it, by one list of numbers
pub record IsTold {T : Type 0} (packet : ℕ → Entry T) (size : ℕ) (order before : List ℕ) (drained : ℕ) : Type 0 where
  -- those that arrived, the greatest first
  pub numbers : List ℕ
  pub arrived : AreNumbersOf before numbers
  pub are_accepted : accepted size (map packet before) ≡ map packet numbers
  -- those that were released, the one released last first
  pub behind : List ℕ
  pub are_behind : behind ≡ drop (number_held size (map packet before) drained) numbers
  pub are_released : released size (map packet before) drained ≡ map packet behind
  pub distances : AreDistances packet order behind
  -- whatever arrived below a released one was released
  pub whole : (j k : ℕ) → occurs k behind ≡ true → occurs j before ≡ true → j < k → occurs j behind ≡ true
