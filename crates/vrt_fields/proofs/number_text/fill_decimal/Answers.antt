-- Each step moves the last digit of what is left to the front of what is written.
use Rattle.std.proofs.Common.{◌≡◌, ◌≤◌, ◌<◌, ◌+◌, ◌-◌, ◌/◌, ◌%◌, ◌^◌, ℕ, List, [], ◌∷◌, ◌++◌, length, drop, sym, ap, ◌∙◌, append_assoc, append-nil, length-append, arith}
use Rattle.std.proofs.Math.ListN.{set, length-set}
use Rattle.std.proofs.lemmas.List.{drop-set, drop_all}
use Rattle.std.proofs.lemmas.Fmt.{decimal_step, decimal_digit, decimal_nonempty, length-decimal-le}
use Rattle.std.specs.Fmt.{decimal}
use Rattle.vrt_fields.proofs.number_text.fill_decimal.Goals as goal

record Step (number rest start : ℕ) (into : List ℕ) : Type 0 where
  room : length (decimal (rest / 10)) ≤ start - 1
  text : decimal number ≡ decimal (rest / 10) ++ drop (start - 1) (set into (start - 1) (48 + rest % 10))

written : (start digit : ℕ) (into : List ℕ) → 1 ≤ start → start ≤ length into → drop (start - 1) (set into (start - 1) digit) ≡ digit ∷ drop start into
written start digit into some within =
    drop-set into (start - 1) digit (omega arith) ∙ ap (λ n. digit ∷ drop n into) (omega arith)

step : (number rest start : ℕ) (into : List ℕ) → 10 ≤ rest → rest < 2 ^ 64 → start ≤ length into → length (decimal rest) ≤ start
    → decimal number ≡ decimal rest ++ drop start into → Step number rest start into
step number rest start into more fits within room text =
    let front = decimal_step rest more fits in
    let digits : length (decimal rest) ≡ length (decimal (rest / 10)) + 1 =
    ap length front ∙ length-append (decimal (rest / 10)) ((48 + rest % 10) ∷ []) in
    record {
      room = omega arith;
      text = text ∙ ap (λ l. l ++ drop start into) front ∙ append_assoc (decimal (rest / 10)) ((48 + rest % 10) ∷ []) (drop start into)
          ∙ ap (λ l. decimal (rest / 10) ++ l) (sym (written start (48 + rest % 10) into (omega arith) within));
    }

pub loop-rest-init : goal.loop-rest-init
loop-rest-init c = record {
  size = c.told-into;
  within = omega arith;
  room = length-decimal-le 20 c.args.number (omega arith) (omega arith) (omega arith);
  fits = omega arith;
  text = sym (append-nil (decimal c.args.number)) ∙ ap (λ l. decimal c.args.number ++ l) (sym (drop_all 20 c.args.into.now (omega arith)));
}

pub overflow_sub-start : goal.overflow_sub-start
overflow_sub-start c =
    omega (arith, c.loop-rest.invariant.room, decimal_nonempty c.loop-rest.rest c.loop-rest.invariant.fits)

pub overflow_sub-start-2 : goal.overflow_sub-start-2
overflow_sub-start-2 c =
    omega (arith, c.loop-rest.invariant.room, decimal_nonempty c.loop-rest.rest c.loop-rest.invariant.fits)

pub loop-rest-preserved : goal.loop-rest-preserved
loop-rest-preserved c =
    let inv = c.loop-rest.invariant in
    let s : Step c.args.number c.loop-rest.rest c.loop-rest.start c.loop-rest.into =
    step c.args.number c.loop-rest.rest c.loop-rest.start c.loop-rest.into c.loop-rest-test.true inv.fits (omega arith) inv.room inv.text in record {
      size = length-set c.loop-rest.into (c.loop-rest.start - 1) (48 + c.loop-rest.rest % 10) ∙ inv.size;
      within = omega arith;
      room = s.room;
      fits = omega arith;
      text = s.text;
    }

pub returns-clause-text : goal.returns-clause-text
returns-clause-text c =
    let inv = c.loop-rest.invariant in
    let some : 1 ≤ c.loop-rest.start = omega (arith, inv.room, decimal_nonempty c.loop-rest.rest inv.fits) in
    written c.loop-rest.start (48 + c.loop-rest.rest) c.loop-rest.into some (omega arith)
    ∙ ap (λ l. l ++ drop c.loop-rest.start c.loop-rest.into) (sym (decimal_digit c.loop-rest.rest (omega arith)))
    ∙ sym inv.text
