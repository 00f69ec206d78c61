-- A record that stands first has the bytes that its length says, and says one thing.
use Rattle.std.proofs.Common.{sym, ap, subst, ◌≡◌, ◌∙◌, ℕ, List, length, ◌-◌, take, drop}
use Rattle.std.proofs.lemmas.List.{take_rest}
use Rattle.release_form.specs.Layout.{front_of}
use Rattle.release_form.specs.Release.{StandsFirst, IsPartOf, as_read}
use Rattle.release_form.proofs.ReleaseLaws.{read_first, none_first}
use Rattle.release_form.specs.declared.shown.Shown.{Shown}
use Rattle.release_form.proofs.Told.{if_none}
use Rattle.release_form.proofs.reading.decode.Goals as goal

pub returns-in_err-shown-clause-only : goal.returns-in_err-shown-clause-only
returns-in_err-shown-clause-only c = λ shown part size s.
    absurd (none_first c.in_ok-record.record.now c.args.bytes.now shown part size c.in_ok-record.ensures.found c.in_err-shown.ensures.none s)

pub returns-in_err-shown-clause-none : goal.returns-in_err-shown-clause-none
returns-in_err-shown-clause-none c =
    if_none _ ((shown : Shown) (part : List ℕ) (size : ℕ) → ¬ StandsFirst shown part size c.args.bytes.now)
    (λ shown part size s. none_first c.in_ok-record.record.now c.args.bytes.now shown part size c.in_ok-record.ensures.found c.in_err-shown.ensures.none s)

pub returns-in_err-shown-clause-again : goal.returns-in_err-shown-clause-again
returns-in_err-shown-clause-again c = λ shown payload size within r.
    let s : StandsFirst (as_read shown) r.part size c.args.bytes.now = record { within = within; release = r.release } in
    absurd (none_first c.in_ok-record.record.now c.args.bytes.now (as_read shown) r.part size c.in_ok-record.ensures.found c.in_err-shown.ensures.none s)

-- the rest behind the front
lent : (front : ℕ) (mine : Shown) (first part : List ℕ) → front ≡ front_of mine → drop (front_of mine) first ≡ part → take (length first - front) (drop front first) ≡ part
lent front mine first part e f = take_rest first front ∙ ap (λ n. drop n first) e ∙ f

pub returns-clause-only : goal.returns-clause-only
returns-clause-only c = λ shown part size s.
    let first = c.in_ok-record.record.now in
    let mine = c.in_ok-shown.shown in
    let same = read_first first c.args.bytes.now mine shown part size c.in_ok-record.ensures.found c.in_ok-shown.ensures.found s in
    (same.value_is, lent c.front_len.result mine first part c.front_len.ensures same.part_is, same.size_is)

pub returns-clause-again : goal.returns-clause-again
returns-clause-again c = λ shown payload size within r.
    let first = c.in_ok-record.record.now in
    let mine = c.in_ok-shown.shown in
    let s : StandsFirst (as_read shown) r.part size c.args.bytes.now = record { within = within; release = r.release } in
    let same = read_first first c.args.bytes.now mine (as_read shown) r.part size c.in_ok-record.ensures.found c.in_ok-shown.ensures.found s in
    (same.value_is, subst (IsPartOf shown payload) (sym (lent c.front_len.result mine first r.part c.front_len.ensures same.part_is)) r.part_is, same.size_is)
