-- The command of `clap` that reads options of one value each.
use Rattle.std.specs.Prelude.{List, [], ◌∷◌, Option, None, Some, codes, map, true}
use Rattle.clap.specs.Words.{App, Rule, new_app, new_rule}
use Rattle.clap.specs.Simple.{new_shape}
use Rattle.clap.specs.declared.builder.action.ArgAction.TheVariants.{Set}
use Rattle.difi_cmd.specs.LineOfWords.{Text}

-- a word that stands alone has no long name
abbrev pub long_name : Text → Option Text
long_name [] = None
long_name (first ∷ rest) = Some (first ∷ rest)

-- an option with one value, or a word that stands alone
abbrev pub option_rule : Text → Rule
option_rule name = record (new_rule name) { long = long_name name; action = Some Set }

-- the command without options
abbrev pub bare : App
bare = record (new_app (codes "difi")) {
  top = record (new_shape (codes "difi")) { disable_help_flag = true };
}

-- the command with options of these names
abbrev pub app : List Text → App
app names = record bare { top = record bare.top { rules = map option_rule names } }
