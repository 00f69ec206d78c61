-- The reader of a capture is an intake.
use Rattle.std.proofs.Common.{◌≡◌, ℕ, ◌+◌, ◌≤◌, inl, inr, Bool, true, false, List, length, Option, Some, None, refl, sym, ◌∙◌, subst, arith}
use Rattle.std.specs.Prelude.{if◌then◌else◌}
use Rattle.replay_form.specs.Grammar.{HasWhole, IsLawful, AreReads}
use Rattle.replay_form.specs.declared.record_head.RecordHead.{RecordHead}
use Rattle.pcap_frames.specs.CaptureFields.{Captured}
use Rattle.pcap_frames.specs.CaptureGrammar.{HasNoFault, capture_grammar, capture_reads, whole_in}
use Rattle.pcap_frames.specs.Reading.{Reading, StandsIn, begun}
use Rattle.pcap_frames.specs.declared.stage.Stage.{Stage}
use Rattle.pcap_frames.specs.declared.stage.Stage.TheVariants as stages
use Rattle.pcap_frames.proofs.CaptureLaws.{capture_wrong-append}
use Rattle.pcap_frames.proofs.ReadingLaws.{sound_stands}

pub known : (started : Bool) (head : RecordHead) → started ≡ true → (if started then Some head else None) ≡ Some head
known true head e = refl
known false head e = cc

pub unknown : (started : Bool) (head : RecordHead) → started ≡ false → (if started then Some head else None) ≡ None
unknown true head e = cc
unknown false head e = refl

has_in : (stage : Stage) (before : ℕ) (reading : Reading) (taken : List ℕ) (records : List Captured) → StandsIn stage reading taken records
    → HasWhole capture_grammar (capture_reads before reading).head records taken
has_in stages.Header before reading taken records b =
    subst (λ (h : Option RecordHead). HasWhole capture_grammar h records taken) (sym (unknown reading.header.started reading.header.head b.started)) (b.none, inl b.part)
has_in stages.FileHead before reading taken records o =
    subst (λ (h : Option RecordHead). HasWhole capture_grammar h records taken) (sym (known reading.header.started reading.header.head o.started))
    (inl (o.none, record { rest = begun reading; headed = o.so_far.headed; behind = inl o.so_far.part }))
has_in (stages.Records form) before reading taken records o =
    subst (λ (h : Option RecordHead). HasWhole capture_grammar h records taken) (sym (known reading.header.started reading.header.head o.started))
    (inr (record { form = form; rest = begun reading; cut = o.so_far.cut; behind = inl o.so_far.part }))

sound_in : (stage : Stage) (reading : Reading) (taken : List ℕ) (records : List Captured) → StandsIn stage reading taken records → HasNoFault taken
sound_in stages.Header reading taken records b = inl b.part
sound_in stages.FileHead reading taken records o = inr (inl (reading.header.head, (begun reading, o.so_far)))
sound_in (stages.Records form) reading taken records o = inr (inr (reading.header.head, (form, (records, (begun reading, o.so_far)))))

within_in : (stage : Stage) (start more : ℕ) → whole_in stage start ≤ start + more
within_in stages.Header start more = omega arith
within_in stages.FileHead start more = omega arith
within_in (stages.Records form) start more = omega arith

pub are_reads : (before : ℕ) (reading : Reading) → AreReads capture_grammar (capture_reads before reading)
are_reads before reading = record {
  sound = λ taken records s. sound_in reading.stage reading taken records (sound_stands reading taken records s.0 s.1).staged;
  has = λ taken records s. has_in reading.stage before reading taken records (sound_stands reading taken records s.0 s.1).staged;
  within = within_in reading.stage reading.start (length (begun reading));
  one = λ taken captured other p q. p.1.0 ∙ sym q.1.0;
}

pub capture_lawful : IsLawful capture_grammar
capture_lawful = record { stays = λ bytes more offset w. (w.0, capture_wrong-append w.0 bytes more offset w.1) }
