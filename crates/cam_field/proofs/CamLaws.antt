-- Laws of the control and acknowledge mode word.
use Rattle.std.proofs.Common.{◌≡◌, ℕ, ◌/◌, ◌%◌, ◌<◌, ◌^◌, ◌==◌, Bool, true, false, sym, ◌∙◌, lit<, arith}
use Rattle.std.proofs.lemmas.Grind.{common_steps}
use Rattle.vrt_words.specs.Words.{bits}
use Rattle.cam_field.specs.Cam.{IsSpelled, action_code, timing_code}
use Rattle.cam_field.specs.Spelling.{bit_of, command_bits, answer_bits, outcome_bits, word_of_cam}
use Rattle.cam_field.specs.declared.cam.Cam.{Cam}
use Rattle.cam_field.specs.declared.modes.Action.{Action}
use Rattle.cam_field.specs.declared.modes.Action.TheVariants as actions
use Rattle.cam_field.specs.declared.modes.Timing.{Timing}
use Rattle.cam_field.specs.declared.modes.Timing.TheVariants.{Now, At, AtOrNow}

-- a set bit is 1
bit_told : (b : Bool) (n : ℕ) → n < 2 → b ≡ (n == 1) → bit_of b ≡ n
bit_told b n h e = grind (arith, common_steps)

told_bit : (b : Bool) (n : ℕ) → n ≡ bit_of b → b ≡ (n == 1)
told_bit true n e = grind (arith, common_steps)
told_bit false n e = grind (arith, common_steps)

bit_fits : (b : Bool) → bit_of b < 2
bit_fits true = lit< tt
bit_fits false = lit< tt

action_fits : (action : Action) → action_code action < 3
action_fits actions.None = lit< tt
action_fits actions.DryRun = lit< tt
action_fits actions.Execute = lit< tt

timing_fits : (timing : Timing) → timing_code timing < 3
timing_fits Now = lit< tt
timing_fits At = lit< tt
timing_fits AtOrNow = lit< tt

command_told : (cam : Cam) (word : ℕ) → word < 2 ^ 32 → IsSpelled cam word → command_bits cam ≡ word / 2 ^ 22
command_told cam word h p =
    omega (
      arith,
      bit_told cam.ce (bits word 31 1) (omega arith) p.ce,
      bit_told cam.ie (bits word 30 1) (omega arith) p.ie,
      bit_told cam.cr (bits word 29 1) (omega arith) p.cr,
      bit_told cam.ir (bits word 28 1) (omega arith) p.ir,
      bit_told cam.partial (bits word 27 1) (omega arith) p.partial,
      bit_told cam.warnings (bits word 26 1) (omega arith) p.warnings,
      bit_told cam.errors (bits word 25 1) (omega arith) p.errors,
      p.action,
      bit_told cam.nk (bits word 22 1) (omega arith) p.nk,
    )

answer_told : (cam : Cam) (word : ℕ) → IsSpelled cam word → answer_bits cam ≡ word / 2 ^ 16 % 2 ^ 6
answer_told cam word p =
    omega (
      arith,
      p.clear_21,
      bit_told cam.v (bits word 20 1) (omega arith) p.v,
      bit_told cam.x (bits word 19 1) (omega arith) p.x,
      bit_told cam.s (bits word 18 1) (omega arith) p.s,
      bit_told cam.warned (bits word 17 1) (omega arith) p.warned,
      bit_told cam.erred (bits word 16 1) (omega arith) p.erred,
    )

outcome_told : (cam : Cam) (word : ℕ) → IsSpelled cam word → outcome_bits cam ≡ word / 2 ^ 10 % 2 ^ 6
outcome_told cam word p =
    omega (
      arith,
      p.clear_15,
      p.timing,
      bit_told cam.in_part (bits word 11 1) (omega arith) p.in_part,
      bit_told cam.executed (bits word 10 1) (omega arith) p.executed,
    )

-- the one word that spells the CAM
pub word_told : (cam : Cam) (word : ℕ) → word < 2 ^ 32 → IsSpelled cam word → word_of_cam cam ≡ word
word_told cam word h p = omega (arith, command_told cam word h p, answer_told cam word p, outcome_told cam word p, p.clear_9)

pub one_word : (cam : Cam) (a b : ℕ) → a < 2 ^ 32 → b < 2 ^ 32 → IsSpelled cam a → IsSpelled cam b → a ≡ b
one_word cam a b g h p q = sym (word_told cam a g p) ∙ word_told cam b h q

-- what fits into its bits
command_fits : (cam : Cam) → command_bits cam < 2 ^ 10
command_fits cam = omega (arith, bit_fits cam.ce, bit_fits cam.ie, bit_fits cam.cr, bit_fits cam.ir, bit_fits cam.partial, bit_fits cam.warnings, bit_fits cam.errors, action_fits cam.action, bit_fits cam.nk)

answer_fits : (cam : Cam) → answer_bits cam < 2 ^ 5
answer_fits cam = omega (arith, bit_fits cam.v, bit_fits cam.x, bit_fits cam.s, bit_fits cam.warned, bit_fits cam.erred)

outcome_fits : (cam : Cam) → outcome_bits cam < 2 ^ 5
outcome_fits cam = omega (arith, timing_fits cam.timing, bit_fits cam.in_part, bit_fits cam.executed)

pub word_fits : (cam : Cam) → word_of_cam cam < 2 ^ 32
word_fits cam = omega (arith, command_fits cam, answer_fits cam, outcome_fits cam)

pub spelled : (cam : Cam) → IsSpelled cam (word_of_cam cam)
spelled cam = record {
  ce = told_bit cam.ce (bits (word_of_cam cam) 31 1) (omega (arith, answer_fits cam, outcome_fits cam, bit_fits cam.ce, bit_fits cam.ie, bit_fits cam.cr, bit_fits cam.ir, bit_fits cam.partial, bit_fits cam.warnings, bit_fits cam.errors, action_fits cam.action, bit_fits cam.nk));
  ie = told_bit cam.ie (bits (word_of_cam cam) 30 1) (omega (arith, answer_fits cam, outcome_fits cam, bit_fits cam.ce, bit_fits cam.ie, bit_fits cam.cr, bit_fits cam.ir, bit_fits cam.partial, bit_fits cam.warnings, bit_fits cam.errors, action_fits cam.action, bit_fits cam.nk));
  cr = told_bit cam.cr (bits (word_of_cam cam) 29 1) (omega (arith, answer_fits cam, outcome_fits cam, bit_fits cam.ce, bit_fits cam.ie, bit_fits cam.cr, bit_fits cam.ir, bit_fits cam.partial, bit_fits cam.warnings, bit_fits cam.errors, action_fits cam.action, bit_fits cam.nk));
  ir = told_bit cam.ir (bits (word_of_cam cam) 28 1) (omega (arith, answer_fits cam, outcome_fits cam, bit_fits cam.ce, bit_fits cam.ie, bit_fits cam.cr, bit_fits cam.ir, bit_fits cam.partial, bit_fits cam.warnings, bit_fits cam.errors, action_fits cam.action, bit_fits cam.nk));
  partial = told_bit cam.partial (bits (word_of_cam cam) 27 1) (omega (arith, answer_fits cam, outcome_fits cam, bit_fits cam.ce, bit_fits cam.ie, bit_fits cam.cr, bit_fits cam.ir, bit_fits cam.partial, bit_fits cam.warnings, bit_fits cam.errors, action_fits cam.action, bit_fits cam.nk));
  warnings = told_bit cam.warnings (bits (word_of_cam cam) 26 1) (omega (arith, answer_fits cam, outcome_fits cam, bit_fits cam.ce, bit_fits cam.ie, bit_fits cam.cr, bit_fits cam.ir, bit_fits cam.partial, bit_fits cam.warnings, bit_fits cam.errors, action_fits cam.action, bit_fits cam.nk));
  errors = told_bit cam.errors (bits (word_of_cam cam) 25 1) (omega (arith, answer_fits cam, outcome_fits cam, bit_fits cam.ce, bit_fits cam.ie, bit_fits cam.cr, bit_fits cam.ir, bit_fits cam.partial, bit_fits cam.warnings, bit_fits cam.errors, action_fits cam.action, bit_fits cam.nk));
  action = omega (arith, answer_fits cam, outcome_fits cam, bit_fits cam.ce, bit_fits cam.ie, bit_fits cam.cr, bit_fits cam.ir, bit_fits cam.partial, bit_fits cam.warnings, bit_fits cam.errors, action_fits cam.action, bit_fits cam.nk);
  nk = told_bit cam.nk (bits (word_of_cam cam) 22 1) (omega (arith, answer_fits cam, outcome_fits cam, bit_fits cam.ce, bit_fits cam.ie, bit_fits cam.cr, bit_fits cam.ir, bit_fits cam.partial, bit_fits cam.warnings, bit_fits cam.errors, action_fits cam.action, bit_fits cam.nk));
  clear_21 = omega (arith, command_fits cam, answer_fits cam, outcome_fits cam);
  v = told_bit cam.v (bits (word_of_cam cam) 20 1) (omega (arith, command_fits cam, outcome_fits cam, bit_fits cam.v, bit_fits cam.x, bit_fits cam.s, bit_fits cam.warned, bit_fits cam.erred));
  x = told_bit cam.x (bits (word_of_cam cam) 19 1) (omega (arith, command_fits cam, outcome_fits cam, bit_fits cam.v, bit_fits cam.x, bit_fits cam.s, bit_fits cam.warned, bit_fits cam.erred));
  s = told_bit cam.s (bits (word_of_cam cam) 18 1) (omega (arith, command_fits cam, outcome_fits cam, bit_fits cam.v, bit_fits cam.x, bit_fits cam.s, bit_fits cam.warned, bit_fits cam.erred));
  warned = told_bit cam.warned (bits (word_of_cam cam) 17 1) (omega (arith, command_fits cam, outcome_fits cam, bit_fits cam.v, bit_fits cam.x, bit_fits cam.s, bit_fits cam.warned, bit_fits cam.erred));
  erred = told_bit cam.erred (bits (word_of_cam cam) 16 1) (omega (arith, command_fits cam, outcome_fits cam, bit_fits cam.v, bit_fits cam.x, bit_fits cam.s, bit_fits cam.warned, bit_fits cam.erred));
  clear_15 = omega (arith, command_fits cam, answer_fits cam, outcome_fits cam);
  timing = omega (arith, command_fits cam, answer_fits cam, timing_fits cam.timing, bit_fits cam.in_part, bit_fits cam.executed);
  in_part = told_bit cam.in_part (bits (word_of_cam cam) 11 1) (omega (arith, command_fits cam, answer_fits cam, timing_fits cam.timing, bit_fits cam.in_part, bit_fits cam.executed));
  executed = told_bit cam.executed (bits (word_of_cam cam) 10 1) (omega (arith, command_fits cam, answer_fits cam, timing_fits cam.timing, bit_fits cam.in_part, bit_fits cam.executed));
  clear_9 = omega (arith, command_fits cam, answer_fits cam, outcome_fits cam);
}
