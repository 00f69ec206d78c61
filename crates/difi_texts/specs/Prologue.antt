-- The lines of show that packets of each kind have in front.
use Rattle.std.specs.Prelude.{ℕ, List, ◌++◌, codes, Option, Some, None}
use Rattle.std.specs.Fmt.{decimal}
use Rattle.vrt_time.specs.Time.{TimeStamp}
use Rattle.vrt_header.specs.declared.prologue.Prologue.{Prologue}
use Rattle.vrt_fields.specs.NumberText.{padded_decimal}

-- a line under that of a frame
abbrev pub indented : List ℕ → List ℕ
indented text = codes "  " ++ text ++ codes "\n"

-- the stamp: whole seconds, and picoseconds in twelve digits
abbrev pub time : Option TimeStamp → List ℕ
time (Some stamp) = codes "time " ++ decimal stamp.seconds ++ codes " s " ++ padded_decimal 12 stamp.picos ++ codes " ps"
time None = codes "time none"

-- what packets of each kind have in front
abbrev pub common : Prologue → List ℕ
common prologue = indented (time prologue.stamp) ++ indented (codes "count " ++ decimal prologue.header.count)
