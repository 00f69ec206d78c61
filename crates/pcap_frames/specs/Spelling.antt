-- Captured bytes that a record of a file can hold.
use Rattle.std.specs.Prelude.{◌≡◌, ◌%◌}
use Rattle.vrt_time.specs.Time.{TimeStamp}
use Rattle.pcap_frames.specs.CaptureFields.{unit_of}
use Rattle.pcap_frames.specs.declared.form.FileForm.{FileForm}

-- the time is whole in the unit of the form's fractions
abbrev pub IsWholeIn : FileForm → TimeStamp → Type 0
IsWholeIn form stamp = stamp.picos % unit_of form ≡ 0
