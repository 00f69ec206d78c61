-- Which packets a window accepts, holds and releases, and how it answers, by all arrivals so far.
use Rattle.std.specs.Prelude.{◌≡◌, ℕ, ◌+◌, ◌-◌, ◌%◌, ◌<◌, min, Bool, false, not, ◌&&◌, ◌==◌, nat_le, nat_lt, if◌then◌else◌, List, [], ◌∷◌, ◌++◌, length, take, drop, fold, find, Option, Some, None, is_none}
use Rattle.vrt_time.specs.Time.{TimeStamp, moment_of}
use Rattle.reorder_window.specs.declared.entry.Entry.{Entry}
use Rattle.reorder_window.specs.declared.arrival.Arrival.{Arrival}
use Rattle.reorder_window.specs.declared.arrival.Arrival.TheVariants.{Kept, Released, Late, Repeat, Conflict}

-- the number lost between a released packet and the next, by their counts, which are modulo 16
abbrev pub lost_between : ℕ → ℕ → ℕ
lost_between previous count = (count % 16 + 15 - previous % 16) % 16

module _ {T : Type 0} where
  -- all stamps are of moments below this
  abbrev pub AreBelow : ℕ → List (Entry T) → Type 0
  AreBelow n [] = Unit {0}
  AreBelow n (b ∷ rest) = (moment_of b.stamp < n) × AreBelow n rest

  -- each stamp is above all behind it
  abbrev pub AreFalling : List (Entry T) → Type 0
  AreFalling [] = Unit {0}
  AreFalling (b ∷ rest) = AreBelow (moment_of b.stamp) rest × AreFalling rest

  -- the stamp of the first packet
  abbrev pub first_stamp : List (Entry T) → Option TimeStamp
  first_stamp [] = None
  first_stamp (first ∷ rest) = Some first.stamp

  -- of packets whose stamps fall: the stamp of the (size + 1)-th greatest, where there are so many
  abbrev pub boundary : ℕ → List (Entry T) → Option TimeStamp
  boundary size packets = first_stamp (drop size packets)

  -- whether there is a boundary and the stamp is not above it
  abbrev pub is_late : Option TimeStamp → Entry T → Bool
  is_late None a = false
  is_late (Some stamp) a = nat_le (moment_of a.stamp) (moment_of stamp)

  -- the packet of the same stamp
  abbrev pub twin : Entry T → List (Entry T) → Option (Entry T)
  twin a packets = find (λ b. moment_of b.stamp == moment_of a.stamp) packets

  -- whether an arrival is accepted after these were
  abbrev pub is_accepted : ℕ → List (Entry T) → Entry T → Bool
  is_accepted size packets a = not (is_late (boundary size packets) a) && is_none (twin a packets)

  -- among packets whose stamps fall: in front of the first with a lower stamp
  abbrev pub in_place : Entry T → List (Entry T) → List (Entry T)
  in_place a [] = a ∷ []
  in_place a (b ∷ rest) = if nat_lt (moment_of b.stamp) (moment_of a.stamp) then a ∷ b ∷ rest else b ∷ in_place a rest

  -- the accepted ones with one more arrival
  abbrev pub with_arrival : ℕ → List (Entry T) → Entry T → List (Entry T)
  with_arrival size packets a = if is_accepted size packets a then in_place a packets else packets

  -- the accepted of a list of arrivals, the greatest stamp first
  unfoldable pub accepted : ℕ → List (Entry T) → List (Entry T)
  accepted size arrivals = fold (with_arrival size) [] arrivals

  -- how many are held after these arrivals, of which at most `size` are, and then so many draining calls that took one
  abbrev pub number_held : ℕ → List (Entry T) → ℕ → ℕ
  number_held size arrivals drained = min size (length (accepted size arrivals)) - drained

  -- the held: those of the greatest stamps, the greatest first
  abbrev pub held : ℕ → List (Entry T) → ℕ → List (Entry T)
  held size arrivals drained = take (number_held size arrivals drained) (accepted size arrivals)

  -- the released, the one released last first: the rest
  abbrev pub released : ℕ → List (Entry T) → ℕ → List (Entry T)
  released size arrivals drained = drop (number_held size arrivals drained) (accepted size arrivals)

  -- the number lost before a packet, where these were released before it, the last one first
  abbrev pub lost_before : Entry T → List (Entry T) → ℕ
  lost_before packet [] = 0
  lost_before packet (previous ∷ earlier) = lost_between previous.count packet.count

  -- the answer to an arrival whose stamp is that of a held packet
  abbrev pub answer_twin : (T → T → Bool) → Entry T → Entry T → Arrival T
  answer_twin same a b = if same b.item a.item then Repeat a.item else Conflict b.count a.item

  -- the answer to one that is accepted, by the released ones afterwards, the one released last first
  abbrev pub answer_accepted : List (Entry T) → Arrival T
  answer_accepted [] = Kept
  answer_accepted (least ∷ earlier) = Released least.stamp (lost_before least earlier) least.item

  -- the answer to one that is not late, by the held one of its stamp
  abbrev pub answer_above : (T → T → Bool) → Entry T → Option (Entry T) → List (Entry T) → Arrival T
  answer_above same a None after = answer_accepted after
  answer_above same a (Some b) after = answer_twin same a b

  -- the answer, by the boundary
  abbrev pub answer_by : (T → T → Bool) → Entry T → Option TimeStamp → Option (Entry T) → List (Entry T) → Arrival T
  answer_by same a None of_stamp after = answer_above same a of_stamp after
  answer_by same a (Some stamp) of_stamp after =
      if is_late (Some stamp) a then Late stamp a.item else answer_above same a of_stamp after

  -- the answer of a window of this size to an arrival after these
  abbrev pub answer : (T → T → Bool) → ℕ → List (Entry T) → Entry T → Arrival T
  answer same size arrivals a =
      answer_by same a (boundary size (accepted size arrivals)) (twin a (held size arrivals 0)) (released size (arrivals ++ a ∷ []) 0)

  -- what a released packet is given with: its stamp, the number lost before it, and what it carries
  abbrev pub release : Entry T → List (Entry T) → TimeStamp × ℕ × T
  release packet earlier = (packet.stamp, lost_before packet earlier, packet.item)

  -- the releases, in the order in which they are given, of packets of which the one released last stands first
  abbrev pub in_order : List (Entry T) → List (TimeStamp × ℕ × T)
  in_order [] = []
  in_order (packet ∷ earlier) = in_order earlier ++ release packet earlier ∷ []

  -- all releases after these arrivals and so many draining calls that took one
  abbrev pub releases : ℕ → List (Entry T) → ℕ → List (TimeStamp × ℕ × T)
  releases size arrivals drained = in_order (released size arrivals drained)

  -- what an answer adds to the releases
  abbrev pub released_by : Arrival T → List (TimeStamp × ℕ × T)
  released_by Kept = []
  released_by (Released stamp lost item) = (stamp, lost, item) ∷ []
  released_by (Late stamp item) = []
  released_by (Repeat item) = []
  released_by (Conflict count item) = []

-- one was put somewhere into a list, and all else is as it was
pub record IsPutInto {T : Type 0} (a : Entry T) (old new : List (Entry T)) : Type 0 where
  pub front : List (Entry T)
  pub back : List (Entry T)
  pub was : old ≡ front ++ back
  pub becomes : new ≡ front ++ a ∷ back
