-- What show tells of a packet of the command family, line by line, under the line of its frame.
use Rattle.std.specs.Prelude.{ℕ, ◌^◌, ◌==◌, if◌then◌else◌, List, [], ◌++◌, flat_map, codes, slice_index, Option, Some, None}
use Rattle.vrt_fields.specs.declared.field.Field.{Field}
use Rattle.vrt_fields.specs.Field.{fields_in_order, bit_of}
use Rattle.vrt_fields.specs.FieldSet.{FieldValues, value_of, mask_of, bit_in, index_of}
use Rattle.vrt_fields.specs.NumberText.{hexadecimal}
use Rattle.vrt_fields.specs.Text.{field_text}
use Rattle.cam_field.specs.Spelling.{word_of_cam}
use Rattle.cam_field.specs.declared.ident.Ident.{Ident}
use Rattle.cam_field.specs.declared.ident.Ident.TheVariants as idents
use Rattle.command_prologue.specs.declared.prologue.CommandPrologue.{CommandPrologue}
use Rattle.command_codec.specs.Control as control
use Rattle.command_codec.specs.Cancel as cancel
use Rattle.command_codec.specs.declared.control.Control.{Control}
use Rattle.command_codec.specs.declared.cancel.Cancel.{Cancel}
use Rattle.ack_codec.specs.Ack.{front_of_report, front_of_state}
use Rattle.ack_codec.specs.declared.responses.Responses.{Responses}
use Rattle.ack_codec.specs.declared.ack.AckReport.{AckReport}
use Rattle.ack_codec.specs.declared.ack.AckState.{AckState}
use Rattle.ack_codec.specs.declared.ack.Ack.{Ack}
use Rattle.ack_codec.specs.declared.ack.Ack.TheVariants.{V, X, S}
use Rattle.difi_texts.specs.Prologue.{indented, common}

-- a line of a name and a word
abbrev pub word_line : List ℕ → ℕ → List ℕ
word_line name word = indented (name ++ hexadecimal word)

-- a word behind others
abbrev pub spaced : ℕ → List ℕ
spaced word = codes " " ++ hexadecimal word

-- an identity: none, one word, or the four words of a UUID
abbrev pub identity : Ident → List ℕ
identity idents.None = codes " none"
identity (idents.Word word) = spaced word
identity (idents.Uuid words) = flat_map spaced words

-- the mode word, the message identifier and the identities
abbrev pub command_lines : CommandPrologue → List ℕ
command_lines front =
    word_line (codes "cam ") (word_of_cam front.cam) ++ word_line (codes "message ") front.message
    ++ indented (codes "controllee" ++ identity front.controllee) ++ indented (codes "controller" ++ identity front.controller)

-- what packets of the family have in front
abbrev pub front_lines : CommandPrologue → List ℕ
front_lines front = common front.prologue ++ command_lines front

-- the line of a field, where it has a value
abbrev pub line_if : Option ℕ → Field → List ℕ
line_if None field = []
line_if (Some value) field = indented (field_text field value)

abbrev pub set_line : FieldValues → Field → List ℕ
set_line set field = line_if (value_of set field) field

-- a line for each field of a set
abbrev pub set_lines : FieldValues → List ℕ
set_lines set = flat_map (set_line set) fields_in_order

-- the values of a command, or that it is a query
abbrev pub content : Option FieldValues → List ℕ
content None = indented (codes "query")
content (Some set) = set_lines set

abbrev pub control_details : Control → List ℕ
control_details packet = front_lines (control.front_of packet) ++ word_line (codes "fields ") packet.asked ++ content packet.fields

abbrev pub cancel_details : Cancel → List ℕ
cancel_details packet = front_lines (cancel.front_of packet) ++ word_line (codes "fields ") packet.named

-- the line of a field that CIF0 lists: its bit, and what its response says
abbrev pub response_line : Responses → Field → List ℕ
response_line responses field =
    if bit_in responses.cif0 field == 1
    then indented (hexadecimal (2 ^ bit_of field) ++ spaced (slice_index responses.words (index_of field)))
    else []

-- the fields that met a warning or an error
abbrev pub response_lines : List ℕ → Option Responses → List ℕ
response_lines name None = []
response_lines name (Some responses) = word_line name responses.cif0 ++ flat_map (response_line responses) fields_in_order

abbrev pub report_details : AckReport → List ℕ
report_details report =
    front_lines (front_of_report report) ++ response_lines (codes "warnings ") report.warnings ++ response_lines (codes "errors ") report.errors

abbrev pub state_details : AckState → List ℕ
state_details state = front_lines (front_of_state state) ++ word_line (codes "fields ") (mask_of state.fields) ++ set_lines state.fields

abbrev pub ack_details : Ack → List ℕ
ack_details (V report) = report_details report
ack_details (X report) = report_details report
ack_details (S state) = state_details state
