-- How long the variable part of a release record is, and the whole of it.
use Rattle.std.specs.Prelude.{◌≡◌, ℕ, ◌+◌, ◌*◌, ◌≤◌, ◌^◌}
use Rattle.sample_binder.specs.declared.out.Run.{Run}
use Rattle.sample_binder.specs.declared.out.Run.TheVariants.{Bound, Uncertain, Raw}
use Rattle.sample_binder.specs.RunRules.{AreWholeWords, GoesWithRun}
use Rattle.release_form.specs.Layout.{front_of}
use Rattle.release_form.specs.declared.shown.Shown.{Shown}
use Rattle.release_form.specs.declared.shown.Shown.TheVariants.{Run as ARun, Ack, Refused, Version, End}

-- the lengths that the variable part may have: a word for each sample, some words, the eleven of a version
-- packet, or none
abbrev pub HasRunLength : Run → ℕ → Type 0
HasRunLength (Bound stamp first number moment fields bits) part = part ≡ 4 * number
HasRunLength (Uncertain reason stamp first number moment bits) part = part ≡ 4 * number
HasRunLength (Raw reason stamp pad) part = AreWholeWords part

abbrev pub HasLength : Shown → ℕ → Type 0
HasLength (ARun stream port lost run) part = HasRunLength run part
HasLength (Ack port) part = AreWholeWords part
HasLength (Refused frame port reason detail stamp) part = part ≡ 0
HasLength (Version port) part = part ≡ 44
HasLength (End counts) part = part ≡ 0

-- so many bytes go with the value: the payload of a run of samples, and else the variable part itself
abbrev pub GoesWith : Shown → ℕ → Type 0
GoesWith (ARun stream port lost run) bytes = GoesWithRun run bytes
GoesWith (Ack port) bytes = AreWholeWords bytes
GoesWith (Refused frame port reason detail stamp) bytes = bytes ≡ 0
GoesWith (Version port) bytes = bytes ≡ 44
GoesWith (End counts) bytes = bytes ≡ 0

-- the length of the variable part that so many bytes give
abbrev pub run_part_size : Run → ℕ → ℕ
run_part_size (Bound stamp first number moment fields bits) payload = 4 * number
run_part_size (Uncertain reason stamp first number moment bits) payload = 4 * number
run_part_size (Raw reason stamp pad) payload = payload

abbrev pub part_size : Shown → ℕ → ℕ
part_size (ARun stream port lost run) bytes = run_part_size run bytes
part_size (Ack port) bytes = bytes
part_size (Refused frame port reason detail stamp) bytes = 0
part_size (Version port) bytes = bytes
part_size (End counts) bytes = 0

-- the length of the record
abbrev pub size_with : Shown → ℕ → ℕ
size_with shown bytes = front_of shown + part_size shown bytes

-- at most 2 ^ 32 bytes, where they are the variable part
abbrev pub IsRunBounded : Run → ℕ → Type 0
IsRunBounded (Bound stamp first number moment fields bits) bytes = Unit {0}
IsRunBounded (Uncertain reason stamp first number moment bits) bytes = Unit {0}
IsRunBounded (Raw reason stamp pad) bytes = bytes ≤ 2 ^ 32

abbrev pub IsBounded : Shown → ℕ → Type 0
IsBounded (ARun stream port lost run) bytes = IsRunBounded run bytes
IsBounded (Ack port) bytes = bytes ≤ 2 ^ 32
IsBounded (Refused frame port reason detail stamp) bytes = Unit {0}
IsBounded (Version port) bytes = bytes ≤ 2 ^ 32
IsBounded (End counts) bytes = Unit {0}
