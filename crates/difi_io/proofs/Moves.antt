-- What several writes in a row append.
use Rattle.std.specs.Prelude.{◌≡◌, ℕ, ◌+◌, List, Option, take, drop}
use Rattle.std.specs.Io.KnownBytes.{Appends}
use Rattle.std.proofs.Common.{◌∙◌, sym, ap, subst, ◌++◌}
use Rattle.std.proofs.Math.Seq.{take-add}
use Rattle.std.proofs.KnownBytes.{Appends-trans}

-- where the first `done` bytes were appended, a write that takes n of the rest makes them the first `done + n`
pub Appends-more : (start before now : Option (List ℕ)) (bytes rest : List ℕ) (done n : ℕ) → rest ≡ drop done bytes
    → Appends start before (take done bytes) → Appends before now (take n rest) → Appends start now (take (done + n) bytes)
Appends-more start before now bytes rest done n is first second =
    let whole = sym (take-add done n bytes ∙ ap (λ l. take done bytes ++ take n l) (sym is)) in
    subst (Appends start now) whole (Appends-trans start before now _ _ first second)
