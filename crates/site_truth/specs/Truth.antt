-- When the outputs of a stream are true of what its site sent.
use Rattle.std.specs.Prelude.{◌≡◌, ◌⊎◌, ℕ, ◌+◌, ◌<◌, ◌≤◌, true, false, List, [], ◌∷◌, length, slice_get, slice_index, Some}
use Rattle.vrt_time.specs.Time.{TimeStamp}
use Rattle.reorder_window.specs.Delivery.{occurs}
use Rattle.sample_binder.specs.declared.out.Out.{Out}
use Rattle.sample_binder.specs.declared.reason.Reason.{Reason}
use Rattle.sample_binder.specs.declared.out.Run.{Run}
use Rattle.sample_binder.specs.declared.out.Run.TheVariants.{Bound, Uncertain, Raw}
use Rattle.sample_binder.specs.Parts.{Part, outs_of, samples_of}
use Rattle.sample_binder.specs.Samples.{size_in}
use Rattle.site_truth.specs.Site.{IsInForce, fields_at, packet_stamp, packet_moment, packet_pad, DividesInto, sample_moment}
use Rattle.site_truth.specs.Delivered.{Delivery, buffer_of, AreInOrder, absent_before}
use Rattle.site_truth.specs.Cause.{Left, IsLeft, IsCause}

-- context number k is absent, its neighbours arrive, and the next one's change bit is clear: it has the fields of the one before
pub record IsHealed (delivery : Delivery) (k : ℕ) : Type 0 where
  pub before : ℕ
  pub next_to : before + 1 ≡ k
  pub before_arrived : occurs before delivery.contexts ≡ true
  pub after_arrived : occurs (k + 1) delivery.contexts ≡ true
  pub unchanged : (delivery.site.context (k + 1)).changed ≡ false
  pub same : fields_at delivery.site k ≡ fields_at delivery.site before

-- these are the fields of the context in force at t, which arrives or is healed
pub record AreInForce (delivery : Delivery) (t : ℕ) (fields : List ℕ) : Type 0 where
  pub context : ℕ
  pub in_force : IsInForce delivery.site t context
  pub fields_are : fields ≡ fields_at delivery.site context
  pub known : (occurs context delivery.contexts ≡ true) ⊎ IsHealed delivery context

-- a packet, the context in force at its stamp, and how many samples it has
pub record Sampled : Type 0 where
  pub packet : ℕ
  pub context : ℕ
  pub number : ℕ

-- a run of so many samples from this one on, the first of which was captured at this moment: by the rate and the item size in
-- force at the packet's stamp
pub record IsTimed (delivery : Delivery) (sampled : Sampled) (from : ℕ) (stamp : TimeStamp) (first number moment bits : ℕ) : Type 0 where
  pub stamp_is : stamp ≡ packet_stamp delivery.site sampled.packet
  pub first_is : first ≡ from
  pub some : 0 < number
  pub within : first + number ≤ sampled.number
  pub moment_is : moment ≡ sample_moment delivery.site sampled.packet sampled.context first
  pub bits_are : bits ≡ size_in (fields_at delivery.site sampled.context)

-- of each of these samples P is true at the moment at which it was captured
abbrev pub ForSamples : Delivery → Sampled → (ℕ → Type 0) → ℕ → ℕ → Type 0
ForSamples delivery sampled P first number =
    (m : ℕ) → first ≤ m → m < first + number → P (sample_moment delivery.site sampled.packet sampled.context m)

-- a run that begins with this sample: bound to the fields in force at each of its samples, or uncertain with the cause at each
abbrev pub IsTrueRun : Delivery → Left → Sampled → ℕ → Run → Type 0
IsTrueRun delivery left sampled from (Bound stamp first number moment fields bits) =
    IsTimed delivery sampled from stamp first number moment bits × ForSamples delivery sampled (λ t. AreInForce delivery t fields) first number
IsTrueRun delivery left sampled from (Uncertain reason stamp first number moment bits) =
    IsTimed delivery sampled from stamp first number moment bits × ForSamples delivery sampled (λ t. IsCause delivery left t reason) first number
IsTrueRun delivery left sampled from (Raw reason stamp pad) = ⊥

-- from this sample on the runs follow one another up to the last sample
abbrev pub AreTrueRuns : Delivery → Left → Sampled → ℕ → List Run → Type 0
AreTrueRuns delivery left sampled from [] = from ≡ sampled.number
AreTrueRuns delivery left sampled from (run ∷ rest) =
    IsTrueRun delivery left sampled from run × AreTrueRuns delivery left sampled (from + samples_of run) rest

-- packet number n leaves whole, as one run whose reason has its cause at the packet's stamp
pub record IsTrueRaw (delivery : Delivery) (left : Left) (n : ℕ) (runs : List Run) : Type 0 where
  pub reason : Reason
  pub runs_are : runs ≡ Raw reason (packet_stamp delivery.site n) (packet_pad delivery.site n) ∷ []
  pub cause : IsCause delivery left (packet_moment delivery.site n) reason

-- or it leaves in runs that cover its samples from the first to the last, each once
pub record IsTrueCut (delivery : Delivery) (left : Left) (n : ℕ) (runs : List Run) : Type 0 where
  pub context : ℕ
  pub in_force : IsInForce delivery.site (packet_moment delivery.site n) context
  pub number : ℕ
  pub divides : DividesInto delivery.site n context number
  pub runs_are : AreTrueRuns delivery left (record { packet = n; context = context; number = number }) 0 runs

-- the j-th of the packets that arrive, which are these in the order of sending, in its buffer, with the number that are absent
-- before it
pub record IsTruePart (delivery : Delivery) (contexts packets : List ℕ) (j : ℕ) (part : Part) : Type 0 where
  pub buf : part.buf ≡ buffer_of delivery (slice_index packets j)
  pub lost : part.lost ≡ absent_before delivery.packets packets j
  pub left : Left
  pub is_left : IsLeft delivery contexts j left
  pub runs : IsTrueRaw delivery left (slice_index packets j) part.runs ⊎ IsTrueCut delivery left (slice_index packets j) part.runs

-- the outputs are the packets that arrive, in the order of sending, each once, and each with what is true of it
pub record AreTrue (delivery : Delivery) (outs : List Out) : Type 0 where
  pub contexts : List ℕ
  pub contexts_arrived : AreInOrder delivery.contexts contexts
  pub packets : List ℕ
  pub packets_arrived : AreInOrder delivery.packets packets
  pub parts : List Part
  pub outs_are : outs ≡ outs_of parts
  pub once : length parts ≡ length packets
  pub each : (j : ℕ) (part : Part) → slice_get parts j ≡ Some part → IsTruePart delivery contexts packets j part
