use Rattle.std.proofs.Common.{◌∙◌, ap, drop, map, string_bytes, sym}
use Rattle.clap.specs.Words.{App, fault_of, first_of, found_of, is_simple, is_simple_and_free, matches_of}
use Rattle.clap.proofs.WalkLemmas.{first_value-rows}
use Rattle.difi_cmd.specs.LineOfWords.{names_of, option_rows}
use Rattle.difi_cmd.proofs.ClapCommand.{gives, is_free_app, is_simple_app, no_fault, only_memory}
use Rattle.difi_cmd.proofs.Numbers.{names_from, one_from, other_values}
use Rattle.difi_cmd.proofs.options.matches_of.Goals as goal

pub returns-in-Ok-try_get_matches_from-clause-given : goal.returns-in-Ok-try_get_matches_from-clause-given
returns-in-Ok-try_get_matches_from-clause-given c =
    let words = map string_bytes c.args.words.now in
    let names = names_of (option_rows c.args.rows.now) in
    let one = one_from (option_rows c.args.rows.now) c.requires.rows in
    let app_is = c.in-Ok.ensures in
    let faults = c.in-Ok-try_get_matches_from.ensures.kinds (ap is_simple_and_free app_is ∙ is_free_app names one) in
    let found = c.in-Ok-try_get_matches_from.ensures.matches (ap is_simple app_is ∙ is_simple_app names one) in
    let rows = found.0 ∙ ap (λ (a : App). matches_of a words) app_is in
    let given = gives names words one c.requires.plain (sym (ap (λ (a : App). fault_of a words) app_is) ∙ faults) in
    other_values names (drop 1 words) _ _ (λ name. sym (first_value-rows (found_of c.in-Ok-try_get_matches_from.matches) name ∙ ap (first_of name) rows)) given

pub returns : goal.returns
returns c = record {
  given = tt;
  usage = λ is value given.
      let words = map string_bytes c.args.words.now in
      let names = names_of (option_rows c.args.rows.now) in
      let one = one_from (option_rows c.args.rows.now) c.requires.rows in
      let app_is = c.in-Ok.ensures in
      let faults = c.in-Err.ensures.kinds (ap is_simple_and_free app_is ∙ is_free_app names one) in
      let none = ap (λ (a : App). fault_of a words) app_is ∙ no_fault names words value one (names_from (option_rows c.args.rows.now) c.requires.rows) given in
      c.in_default-kind.not-OutOfMemory (c.kind.ensures ∙ only_memory _ c.in-Err.error none faults);
}
