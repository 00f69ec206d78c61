-- What show tells of a packet, line by line, under the line of its frame.
use Rattle.std.specs.Prelude.{ℕ, Bool, true, false, List, [], ◌++◌, length, flat_map, codes}
use Rattle.std.specs.Fmt.{decimal}
use Rattle.vrt_words.specs.Words.{words_of, bits}
use Rattle.vrt_fields.specs.declared.field.Field.{Field}
use Rattle.vrt_fields.specs.Field.{fields_in_order}
use Rattle.vrt_fields.specs.NumberText.{hexadecimal}
use Rattle.vrt_fields.specs.Text.{field_text}
use Rattle.difi_data.specs.Data.{DataPacket}
use Rattle.difi_context.specs.Context.{field_of}
use Rattle.difi_context.specs.declared.context.ContextRec.{ContextRec}
use Rattle.difi_version.specs.declared.version.VersionRec.{VersionRec}
use Rattle.difi_texts.specs.CommandDetails.{control_details, cancel_details, ack_details}
use Rattle.difi_texts.specs.Prologue.{indented, common}
use Rattle.difi_packet.specs.Packet.{PacketValue, DataValue, ContextValue, VersionValue, ControlValue, CancelValue, AckValue}
use Rattle.difi_texts.specs.declared.lines.Listing.{Listing}
use Rattle.difi_texts.specs.declared.lines.Listing.TheVariants.{Check, Show}

-- the change indicator
abbrev pub changes : Bool → List ℕ
changes true = codes "changed yes"
changes false = codes "changed no"

abbrev pub field_line : ContextRec → Field → List ℕ
field_line rec field = indented (field_text field (field_of rec.fields field))

abbrev pub data_details : DataPacket → List ℕ
data_details packet =
    common packet.prologue ++ indented (codes "pad " ++ decimal packet.prologue.pad) ++ indented (codes "payload words " ++ decimal (length (words_of packet.payload)))

abbrev pub context_details : ContextRec → List ℕ
context_details rec = common rec.prologue ++ indented (changes rec.changed) ++ flat_map (field_line rec) fields_in_order

-- the version word: year, day, revision, type and ICD version
abbrev pub version : ℕ → List ℕ
version word =
    codes "year " ++ decimal (bits word 25 7) ++ codes " day " ++ decimal (bits word 16 9) ++ codes " revision " ++ decimal (bits word 10 6)
    ++ codes " type " ++ decimal (bits word 6 4) ++ codes " icd " ++ decimal (bits word 0 6)

abbrev pub version_details : VersionRec → List ℕ
version_details rec =
    common rec.prologue ++ indented (changes rec.changed) ++ indented (codes "spec " ++ hexadecimal rec.spec) ++ indented (version rec.version)

abbrev pub details : PacketValue → List ℕ
details (DataValue packet) = data_details packet
details (ContextValue rec) = context_details rec
details (VersionValue rec) = version_details rec
details (ControlValue packet) = control_details packet
details (CancelValue packet) = cancel_details packet
details (AckValue packet) = ack_details packet

-- what stands under the line of an accepted packet: check has nothing there
abbrev pub under : Listing → PacketValue → List ℕ
under Check value = []
under Show value = details value
