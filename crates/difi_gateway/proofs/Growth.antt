-- More frames tell more, behind what was told.
use Rattle.std.proofs.Common.{◌≡◌, ℕ, List, [], ◌∷◌, ◌++◌, length, map, refl, sym, ap, ◌∙◌, subst, append_assoc}
use Rattle.std.proofs.lemmas.Grind.{flat_map-append}
use Rattle.std.proofs.lemmas.List.{append-nil}
use Rattle.std.specs.List.{AllByRecursion}
use Rattle.vrt_fields.specs.declared.route.Route.{Route}
use Rattle.replay_form.specs.FrameFields.{Frame}
use Rattle.replay_form.specs.declared.record_head.RecordHead.{RecordHead}
use Rattle.release_form.specs.declared.shown.Shown.TheVariants as shown
use Rattle.difi_gateway.specs.Contents.{Received, IsReceived, frame_of, AreReceived}
use Rattle.difi_gateway.specs.Told.{Item, told_by, told_from, told, told_at_end}
use Rattle.difi_gateway.specs.Releases.{Release, copies_of, copies, counts_of, part_of, all_told, out_of, AreRecordsOf, IsPartOf, IsOutOf}
use Rattle.difi_gateway.proofs.OneReading.{one_part}

-- ---- in releases

pub told_from-append : (head : RecordHead) (before a b : List Received) → told_from head before (a ++ b) ≡ told_from head before a ++ told_from head (before ++ a) b
told_from-append head before [] b = ap (λ rs. told_from head rs b) (sym (append-nil before))
told_from-append head before (r ∷ a) b =
    let here = before ++ r ∷ [] in
    ap (λ xs. told_by head before r ++ xs) (told_from-append head here a b ∙ ap (λ rs. told_from head here a ++ told_from head rs b) (append_assoc before (r ∷ []) a))
    ∙ sym (append_assoc (told_by head before r) (told_from head here a) (told_from head (before ++ r ∷ a) b))

pub told-append : (head : RecordHead) (received later : List Received) → told head (received ++ later) ≡ told head received ++ told_from head received later
told-append head received later = told_from-append head [] received later

pub copies-append : (routes : List Route) (a b : List Item) → copies routes (a ++ b) ≡ copies routes a ++ copies routes b
copies-append routes a b = flat_map-append (copies_of routes) a b

pub part-append : (head : RecordHead) (received later : List Received)
    → part_of head (received ++ later) ≡ part_of head received ++ copies head.routes (told_from head received later)
part-append head received later = ap (copies head.routes) (told-append head received later) ∙ copies-append head.routes (told head received) (told_from head received later)

-- what the end adds to the releases
abbrev pub end_releases : RecordHead → List Received → List Release
end_releases head received =
    copies head.routes (told_at_end head received)
    ++ record { shown = shown.End (counts_of (length received) (all_told head received)); payload = [] } ∷ []

pub out-append : (head : RecordHead) (received : List Received) → out_of head received ≡ part_of head received ++ end_releases head received
out-append head received =
    let last = record { shown = shown.End (counts_of (length received) (all_told head received)); payload = [] } ∷ [] in
    ap (λ rs. rs ++ last) (copies-append head.routes (told head received) (told_at_end head received))
    ∙ append_assoc (part_of head received) (copies head.routes (told_at_end head received)) last

-- ---- in bytes

-- bytes are a front that is this, and some more
pub record BeginsWith (Front : List ℕ → Type 0) (bytes : List ℕ) : Type 0 where
  pub front : List ℕ
  pub rest : List ℕ
  pub bytes_are : bytes ≡ front ++ rest
  pub is : Front front

pub records_begin : (xs ys : List Release) (bytes : List ℕ) → AreRecordsOf (xs ++ ys) bytes → BeginsWith (AreRecordsOf xs) bytes
records_begin [] ys bytes h = record { front = []; rest = bytes; bytes_are = refl; is = refl }
records_begin (x ∷ xs) ys bytes h =
    let b = records_begin xs ys h.1.0 h.1.1.1.0 in
    record {
      front = h.0 ++ b.front;
      rest = b.rest;
      bytes_are = h.1.1.1.1 ∙ ap (λ zs. h.0 ++ zs) b.bytes_are ∙ sym (append_assoc h.0 b.front b.rest);
      is = (h.0, (b.front, (h.1.1.0, (b.is, refl))));
    }

-- the first frames, and what they hold
pub record SplitsAt (head : RecordHead) (frames : List Frame) (received : List Received) : Type 0 where
  pub first : List Received
  pub rest : List Received
  pub all : received ≡ first ++ rest
  pub are : AreReceived head frames first

pub first_received : (head : RecordHead) (frames later : List Frame) (received : List Received) → frames ++ later ≡ map frame_of received → AllByRecursion (IsReceived head) received
    → SplitsAt head frames received
first_received head [] later received e h = record { first = []; rest = received; all = refl; are = record { frames_are = refl; contents = tt } }
first_received head (f ∷ frames) later [] e h = absurd (cc)
first_received head (f ∷ frames) later (r ∷ received) e h =
    let one : f ≡ frame_of r = cc in
    let more : frames ++ later ≡ map frame_of received = cc in
    let s = first_received head frames later received more h.1 in
    record {
      first = r ∷ s.first;
      rest = s.rest;
      all = ap (λ rs. r ∷ rs) s.all;
      are = record { frames_are = ap (λ g. g ∷ frames) one ∙ ap (λ gs. frame_of r ∷ gs) s.are.frames_are; contents = (h.0, s.are.contents) };
    }

pub part_begins : (head : RecordHead) (frames later : List Frame) (bytes : List ℕ) → IsPartOf head (frames ++ later) bytes → BeginsWith (IsPartOf head frames) bytes
part_begins head frames later bytes h =
    let s = first_received head frames later h.0 h.1.0.frames_are h.1.0.contents in
    let b = records_begin (part_of head s.first) (copies head.routes (told_from head s.first s.rest)) bytes
    (subst (λ rs. AreRecordsOf rs bytes) (ap (part_of head) s.all ∙ part-append head s.first s.rest) h.1.1) in
    record { front = b.front; rest = b.rest; bytes_are = b.bytes_are; is = (s.first, (s.are, b.is)) }

pub out_begins : (head : RecordHead) (frames : List Frame) (bytes : List ℕ) → IsOutOf head frames bytes → BeginsWith (IsPartOf head frames) bytes
out_begins head frames bytes h =
    let b = records_begin (part_of head h.0) (end_releases head h.0) bytes (subst (λ rs. AreRecordsOf rs bytes) (out-append head h.0) h.1.1) in
    record { front = b.front; rest = b.rest; bytes_are = b.bytes_are; is = (h.0, (h.1.0, b.is)) }

-- the bytes of more frames begin with those of the first of them
pub part_in_part : (head : RecordHead) (frames later : List Frame) (a b : List ℕ) → IsPartOf head frames a → IsPartOf head (frames ++ later) b
    → (rest : List ℕ) × (b ≡ a ++ rest)
part_in_part head frames later a b h g =
    let begun = part_begins head frames later b g in
    let same = one_part head frames begun.front a begun.is h in
    (begun.rest, begun.bytes_are ∙ ap (λ xs. xs ++ begun.rest) same)

-- and so do those with the end
pub part_in_out : (head : RecordHead) (frames later : List Frame) (a b : List ℕ) → IsPartOf head frames a → IsOutOf head (frames ++ later) b
    → (rest : List ℕ) × (b ≡ a ++ rest)
part_in_out head frames later a b h g =
    let begun = out_begins head (frames ++ later) b g in
    let more = part_in_part head frames later a begun.front h begun.is in
    (more.0 ++ begun.rest, begun.bytes_are ∙ ap (λ xs. xs ++ begun.rest) more.1 ∙ append_assoc a more.0 begun.rest)
