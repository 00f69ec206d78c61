use Rattle.std.proofs.Common.{◌∙◌, ap, drop, map, string_bytes, sym}
use Rattle.std.specs.List.{list_any}
use Rattle.clap.proofs.WalkLemmas.{list_any-map}
use Rattle.difi_cmd.specs.LineOfWords.{is_stray}
use Rattle.difi_cmd.proofs.options.has_stray.Goals as goal

pub returns-in-Some : goal.returns-in-Some
returns-in-Some c = c.is_any_stray.ensures
    ∙ (list_any-map is_stray string_bytes c.in-Some.rest.now
    ∙ ap (λ words. list_any is_stray (drop 1 (map string_bytes words))) (sym c.in-Some.ensures.cases.0))
