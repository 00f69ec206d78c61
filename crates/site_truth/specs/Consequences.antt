-- What follows for whoever reads the outputs.
use Rattle.std.specs.Prelude.{◌≡◌, ◌⊎◌, ℕ, ◌+◌, ◌-◌, ◌<◌, ◌≤◌, true, false, Bool, List, [], ◌∷◌, ◌++◌, slice_get, Some, IsOk}
use Rattle.vrt_words.specs.Buffer.{Buffer}
use Rattle.difi_context.specs.declared.context.ContextRec.{ContextRec}
use Rattle.reorder_window.specs.Delivery.{occurs}
use Rattle.reorder_window.specs.Window.{answer}
use Rattle.sample_binder.specs.declared.out.Out.{Out}
use Rattle.sample_binder.specs.declared.reason.Reason.{Reason}
use Rattle.sample_binder.specs.declared.out.Run.{Run}
use Rattle.sample_binder.specs.declared.out.Run.TheVariants.{Bound, Uncertain, Raw}
use Rattle.sample_binder.specs.Calls.{Call, context_arrivals, context_entry, data_arrivals, data_entry, outcome}
use Rattle.sample_binder.specs.Parts.{Part, outs_of}
use Rattle.site_truth.specs.Site.{IsInForce, DividesInto, context_moment, packet_moment, packet_stamp, packet_pad, sample_moment}
use Rattle.site_truth.specs.Delivered.{Delivery, buffer_of}
use Rattle.site_truth.specs.Truth.{IsHealed}

-- ---- each arrived sample once

-- a run tells this sample
abbrev pub Tells : Run → ℕ → Type 0
Tells (Bound stamp first number moment fields bits) m = (first ≤ m) × (m < first + number)
Tells (Uncertain reason stamp first number moment bits) m = (first ≤ m) × (m < first + number)
Tells (Raw reason stamp pad) m = ⊥

-- one of the runs does, and no other
pub record IsToldOnce (runs : List Run) (m : ℕ) : Type 0 where
  pub place : ℕ
  pub run : Run
  pub there : slice_get runs place ≡ Some run
  pub tells : Tells run m
  pub only : (other : ℕ) (another : Run) → slice_get runs other ≡ Some another → Tells another m → other ≡ place

-- it leaves whole
abbrev pub IsRawPart : Delivery → ℕ → Part → Type 0
IsRawPart delivery n part = (why : Reason) × (part.runs ≡ Raw why (packet_stamp delivery.site n) (packet_pad delivery.site n) ∷ [])

-- or each of its samples is told once
abbrev pub IsCutPart : Delivery → ℕ → Part → Type 0
IsCutPart delivery n part = (context : ℕ) × (number : ℕ) × IsInForce delivery.site (packet_moment delivery.site n) context
    × DividesInto delivery.site n context number × ((m : ℕ) → m < number → IsToldOnce part.runs m)

-- packet number n is one of the packets that leave, and no other of them is: it leaves whole, or each of its samples is told once
pub record LeavesOnce (delivery : Delivery) (outs : List Out) (n : ℕ) : Type 0 where
  pub parts : List Part
  pub outs_are : outs ≡ outs_of parts
  pub place : ℕ
  pub part : Part
  pub there : slice_get parts place ≡ Some part
  pub buf : part.buf ≡ buffer_of delivery n
  pub only : (other : ℕ) (another : Part) → slice_get parts other ≡ Some another → another.buf ≡ buffer_of delivery n → other ≡ place
  pub samples : IsRawPart delivery n part ⊎ IsCutPart delivery n part

-- ---- which samples are bound

-- a run tells this sample as bound
abbrev pub Binds : Run → ℕ → Type 0
Binds (Bound stamp first number moment fields bits) m = (first ≤ m) × (m < first + number)
Binds (Uncertain reason stamp first number moment bits) m = ⊥
Binds (Raw reason stamp pad) m = ⊥

-- sample m of packet number n is bound among the outputs
pub record IsBoundIn (delivery : Delivery) (outs : List Out) (n m : ℕ) : Type 0 where
  pub parts : List Part
  pub outs_are : outs ≡ outs_of parts
  pub place : ℕ
  pub part : Part
  pub there : slice_get parts place ≡ Some part
  pub buf : part.buf ≡ buffer_of delivery n
  pub at : ℕ
  pub run : Run
  pub run_there : slice_get part.runs at ≡ Some run
  pub binds : Binds run m

-- the context arrives, or is healed: it differs in nothing from the one before, which arrives
abbrev pub IsKnown : Delivery → ℕ → Type 0
IsKnown delivery k = (occurs k delivery.contexts ≡ true) ⊎ IsHealed delivery k

-- nothing that is sent is lost, and as many contexts and data packets as are sent may be kept and may wait
pub record IsUnlost (delivery : Delivery) : Type 0 where
  pub contexts : (k : ℕ) → k < delivery.site.contexts_sent → occurs k delivery.contexts ≡ true
  pub packets : (n : ℕ) → n < delivery.site.packets_sent → occurs n delivery.packets ≡ true
  pub kept : delivery.site.contexts_sent ≤ delivery.limits.kept
  pub pending : delivery.site.packets_sent ≤ delivery.limits.pending

-- a sample that is captured before the last context, of a packet that is stamped not before the first
pub record IsWithin (delivery : Delivery) (n context number m : ℕ) : Type 0 where
  pub sent : n < delivery.site.packets_sent
  pub in_force : IsInForce delivery.site (packet_moment delivery.site n) context
  pub divides : DividesInto delivery.site n context number
  pub sample : m < number
  pub from_first : context_moment delivery.site 0 ≤ packet_moment delivery.site n
  pub before_last : sample_moment delivery.site n context m < context_moment delivery.site (delivery.site.contexts_sent - 1)

-- ---- finality

-- a context that a call gives, by its number; where that arrives for the first time, the window takes it: it is neither late nor a
-- repeat nor in conflict with another
pub record IsContextTaken (delivery : Delivery) (same : ContextRec → ContextRec → Bool) (before : List Call) (rec : ContextRec) : Type 0 where
  pub earlier : List ℕ
  pub number : ℕ
  pub later : List ℕ
  pub order : delivery.contexts ≡ earlier ++ number ∷ later
  pub is_sent : rec ≡ delivery.site.context number
  pub is_taken : occurs number earlier ≡ false → IsOk (outcome (answer same delivery.limits.context_window (context_arrivals before) (context_entry rec)))

-- and a data packet
pub record IsPacketTaken (delivery : Delivery) (same : Buffer → Buffer → Bool) (before : List Call) (buf : Buffer) : Type 0 where
  pub earlier : List ℕ
  pub number : ℕ
  pub later : List ℕ
  pub order : delivery.packets ≡ earlier ++ number ∷ later
  pub is_sent : buf ≡ buffer_of delivery number
  pub is_taken : occurs number earlier ≡ false → IsOk (outcome (answer same delivery.limits.data_window (data_arrivals before) (data_entry buf)))
