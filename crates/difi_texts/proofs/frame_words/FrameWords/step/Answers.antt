-- The last digit goes up, or all words are written.
use Rattle.std.proofs.Common.{◌+◌, ◌<◌, ◌^◌, sym, subst, codes}
use Rattle.difi_texts.proofs.NextNumber.{next_words}
use Rattle.difi_texts.proofs.frame_words.FrameWords.step.Goals as goal

pub invariant_of-self : goal.invariant_of-self
invariant_of-self c =
    let old = c.self.inside in
    let small : old.number + 1 < 2 ^ 64 = subst (λ n. n + 1 < 2 ^ 64) (sym c.self.view_is) c.requires in record {
      within = c.self.invariant.within;
      text = next_words old.number old.start (codes "frame ") old.words small c.self.told c.self.invariant.text c.if-self-lt57.true;
    }

pub invariant_of-self-else-self-lt57 : goal.invariant_of-self-else-self-lt57
invariant_of-self-else-self-lt57 c = record { within = c.put_words-self-inside.ensures.within; text = c.put_words-self-inside.ensures.text }
