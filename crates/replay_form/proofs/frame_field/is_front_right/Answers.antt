-- The fields in front of the datagram, by their numbers.
use Rattle.std.proofs.Common.{◌≤◌, sym, ◌∙◌, arith}
use Rattle.replay_form.specs.FrameFields.{ArePicos}
use Rattle.replay_form.specs.Numbers.{number_at}
use Rattle.replay_form.proofs.TakingFrames.{front_right, front_told}
use Rattle.replay_form.proofs.frame_field.is_front_right.Goals as goal

pub returns-then-seconds : goal.returns-then-seconds
returns-then-seconds c = (
  λ h. absurd (cc),
  λ right. absurd (omega (arith, c.if-seconds.true, c.u32_at-seconds.ensures, c.seconds.ensures.number, (front_told c.args.last c.args.bytes.now right).seconds)),
)

pub returns-then-u16_at-ne0 : goal.returns-then-u16_at-ne0
returns-then-u16_at-ne0 c = (
  λ h. absurd (cc),
  λ right. absurd (c.if-u16_at-ne0.true (c.u16_at.ensures ∙ (front_told c.args.last c.args.bytes.now right).clear)),
)

pub returns-then-u32_at-gt65535 : goal.returns-then-u32_at-gt65535
returns-then-u32_at-gt65535 c = (
  λ h. absurd (cc),
  λ right. absurd (omega (arith, c.if-u32_at-gt65535.true, c.u32_at.ensures, (front_told c.args.last c.args.bytes.now right).short)),
)

pub returns : goal.returns
returns c =
    let bytes = c.args.bytes.now in (
      λ yes.
          let picos : ArePicos c.args.last (number_at 0 4 bytes) (number_at 4 8 bytes) =
          rw (sym c.u32_at-seconds.ensures, sym c.u64_at.ensures) (c.are_picos.ensures.0 yes) in
          let seconds : c.args.last.seconds ≤ number_at 0 4 bytes = omega (arith, c.if-seconds.false, c.u32_at-seconds.ensures, c.seconds.ensures.number) in
          let short : number_at 16 4 bytes ≤ 65535 = omega (arith, c.if-u32_at-gt65535.false, c.u32_at.ensures) in
          front_right c.args.last bytes c.requires seconds picos (sym c.u16_at.ensures ∙ c.if-u16_at-ne0.false) short,
      λ right. c.are_picos.ensures.1 (rw (c.u32_at-seconds.ensures, c.u64_at.ensures) (front_told c.args.last bytes right).picos),
    )
