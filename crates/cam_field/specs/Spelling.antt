-- The groups of bits between the unused ones of the control and acknowledge mode word, as numbers.
use Rattle.std.specs.Prelude.{ℕ, ◌+◌, ◌*◌, ◌^◌, Bool, true, false}
use Rattle.cam_field.specs.Cam.{action_code, timing_code}
use Rattle.cam_field.specs.declared.cam.Cam.{Cam}

abbrev pub bit_of : Bool → ℕ
bit_of true = 1
bit_of false = 0

-- bits 31 to 22
abbrev pub command_bits : Cam → ℕ
command_bits cam =
    bit_of cam.ce * 512 + bit_of cam.ie * 256 + bit_of cam.cr * 128 + bit_of cam.ir * 64 + bit_of cam.partial * 32 + bit_of cam.warnings * 16
    + bit_of cam.errors * 8 + action_code cam.action * 2 + bit_of cam.nk

-- bits 20 to 16
abbrev pub answer_bits : Cam → ℕ
answer_bits cam = bit_of cam.v * 16 + bit_of cam.x * 8 + bit_of cam.s * 4 + bit_of cam.warned * 2 + bit_of cam.erred

-- bits 14 to 10
abbrev pub outcome_bits : Cam → ℕ
outcome_bits cam = timing_code cam.timing * 4 + bit_of cam.in_part * 2 + bit_of cam.executed

abbrev pub word_of_cam : Cam → ℕ
word_of_cam cam = command_bits cam * 2 ^ 22 + answer_bits cam * 2 ^ 16 + outcome_bits cam * 2 ^ 10
