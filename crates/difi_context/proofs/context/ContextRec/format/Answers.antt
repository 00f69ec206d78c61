-- The format words of a context are in the rule, so the reader refuses neither.
use Rattle.std.proofs.Common.{◌≡◌, ℕ, ◌+◌, ◌∙◌, sym, ap, subst, get_or}
use Rattle.std.proofs.lemmas.List.{get_or-drop}
use Rattle.vrt_fields.specs.Format.{IsFormat, IsFormatFirst, format_of}
use Rattle.vrt_fields.proofs.FormatLaws.{IsFormat-format_of}
use Rattle.difi_context.proofs.context.ContextRec.format.Goals as goal

pub unreachable-requires : goal.unreachable-requires
unreachable-requires c =
    let fields = c.args.self.now.fields in
    let h = c.requires.spelled.packet in
    let at : (i : ℕ) → get_or fields i 0 ≡ get_or c.requires.spelled.words (8 + i) 0 = λ i. ap (λ xs. get_or xs i 0) h.fields ∙ get_or-drop 8 c.requires.spelled.words i 0 in
    let first = get_or fields 17 0 in
    let right : IsFormatFirst first = subst IsFormatFirst (sym (at 17)) h.format_first in
    let second : get_or fields 18 0 ≡ 0 = at 18 ∙ h.format_second in
    let format : IsFormat (format_of first) first (get_or fields 18 0) = subst (IsFormat (format_of first) first) (sym second) (IsFormat-format_of first right) in
    cc (c.in-Err.ensures.only (format_of first) format)
