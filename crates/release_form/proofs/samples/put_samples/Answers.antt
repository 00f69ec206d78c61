-- Where items have 16 bits, the bytes of the samples are those of the payload.
use Rattle.std.proofs.Common.{◌≡◌, ◌*◌, arith, ◌∙◌, ap, take, drop, length, subst, sym}
use Rattle.sample_unpack.specs.Samples.{LieWithin}
use Rattle.release_form.specs.Release.{AreSamples}
use Rattle.release_form.proofs.Sixteen.{copied}
use Rattle.release_form.proofs.samples.put_samples.Goals as goal

pub copy_samples-requires : goal.copy_samples-requires
copy_samples-requires c =
    let within = subst (λ b. LieWithin b c.args.first c.args.number (length c.args.payload.now)) c.if-bits-eq16.true c.requires.run.within in
    omega (arith, within (omega arith))

pub returns-then-bits-eq16 : goal.returns-then-bits-eq16
returns-then-bits-eq16 c =
    let payload = c.args.payload.now in
    let within = subst (λ b. LieWithin b c.args.first c.args.number (length payload)) c.if-bits-eq16.true c.requires.run.within in
    let part : c.copy_samples.new.into ≡ take (4 * c.args.number) (drop (4 * c.args.first) payload) =
    c.copy_samples.ensures ∙ ap (λ n. take n (drop (4 * c.args.first) payload)) c.requires.room in
    subst (λ xs. AreSamples c.args.bits c.args.first c.args.number payload xs) (sym part)
    (subst (λ b. AreSamples b c.args.first c.args.number payload (take (4 * c.args.number) (drop (4 * c.args.first) payload))) (sym c.if-bits-eq16.true)
    (copied c.args.first c.args.number payload within))
