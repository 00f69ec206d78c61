-- The reader stands for the bytes so far, and takes some more.
use Rattle.std.proofs.Common.{◌≡◌, ◌≤◌, ◌+◌, ◌-◌, ◌++◌, ◌∙◌, ℕ, List, length, take, drop, take-add, take-take, sym, ap, subst, arith}
use Rattle.std.proofs.lemmas.List.{length-drop, length-take-le}
use Rattle.pcap_frames.specs.Reading.{StandsFor, records_after}
use Rattle.pcap_frames.proofs.ReadingLaws.{step_sound, stands_size}
use Rattle.pcap_frames.proofs.tests.verdict_behind.Goals as goal

-- a piece of the bytes, from one place to another
piece_size : (at end : ℕ) (bytes : List ℕ) → end ≤ length bytes → length (take (end - at) (drop at bytes)) ≡ end - at
piece_size at end bytes h = length-take-le (end - at) (drop at bytes) (omega (arith, length-drop at bytes))

next_bytes : (at end count : ℕ) (bytes : List ℕ) → end ≤ length bytes → count ≤ length (take (end - at) (drop at bytes))
    → take at bytes ++ take count (take (end - at) (drop at bytes)) ≡ take (at + count) bytes
next_bytes at end count bytes h few =
    let size = piece_size at end bytes h in
    ap (λ xs. take at bytes ++ xs) (take-take count (end - at) (drop at bytes) (omega arith)) ∙ sym (take-add at count bytes)

pub feed-requires : goal.feed-requires
feed-requires c = λ sound.
    let at = c.loop-at.at in
    let bytes = c.args.bytes.now in
    let size = stands_size c.loop-at.reader (take at bytes) c.loop-at.invariant.stands.0 sound c.loop-at.invariant.stands.1 in
    let taken = length-take-le at bytes c.loop-at.invariant.within in
    let most : c.min-end.result ≤ length bytes = omega arith in
    let piece = piece_size at c.min-end.result bytes most in
    omega arith

pub loop-at-preserved : goal.loop-at-preserved
loop-at-preserved c =
    let at = c.loop-at.at in
    let bytes = c.args.bytes.now in
    let records = c.loop-at.invariant.stands.0 in
    let most : c.min-end.result ≤ length bytes = omega arith in
    let size = piece_size at c.min-end.result bytes most in
    let front = take c.in-Ok.step.0 (take (c.min-end.result - at) (drop at bytes)) in
    let few = c.in-Ok.ensures.few in record {
      within = omega arith;
      sound = step_sound c.loop-at.reader _ c.in-Ok.step.0 c.in-Ok.step.1 c.feed.new.self c.in-Ok.ensures.step;
      stands = (
        records_after c.in-Ok.step.1 records c.feed.new.self front,
        subst (λ xs. StandsFor c.feed.new.self xs (records_after c.in-Ok.step.1 records c.feed.new.self front)) (next_bytes at c.min-end.result c.in-Ok.step.0 bytes most few)
            (c.in-Ok.ensures.stands (take at bytes) records c.loop-at.invariant.stands.1),
      );
    }
