-- Laws of records: more bytes, one more frame.
use Rattle.std.proofs.Common.{◌≡◌, ℕ, inl, inr, List, [], ◌∷◌, ◌++◌, refl, sym, ap, ◌∙◌, append_assoc, append-nil, length-append, arith}
use Rattle.vrt_time.specs.Time.{TimeStamp}
use Rattle.replay_form.specs.Head.{IsHead}
use Rattle.replay_form.specs.FrameFields.{Frame, IsFrame, IsFramePart}
use Rattle.replay_form.proofs.PrefixLaws.{wrong-append, frame_wrong-append}
use Rattle.replay_form.specs.Record.{AreFrames, last_stamp, first_stamp, IsCut, IsRecordWrongAt}
use Rattle.replay_form.specs.declared.record_head.RecordHead.{RecordHead}

-- one more frame
pub frames-snoc : (last : TimeStamp) (frames : List Frame) (frame : Frame) (body bytes : List ℕ) → AreFrames last frames body → IsFrame (last_stamp last frames) frame bytes
    → AreFrames last (frames ++ frame ∷ []) (body ++ bytes)
frames-snoc last [] frame body bytes none is =
    (bytes, ([], (ap (λ xs. xs ++ bytes) none ∙ sym (append-nil bytes), (is, refl))))
frames-snoc last (first ∷ frames) frame body bytes some is =
    let front = some.0 in
    let back = some.1.0 in
    (front, (back ++ bytes, (ap (λ xs. xs ++ bytes) some.1.1.0 ∙ append_assoc front back bytes, (some.1.1.1.0, frames-snoc first.stamp frames frame back bytes some.1.1.1.1 is))))

pub last_stamp-snoc : (last : TimeStamp) (frames : List Frame) (frame : Frame) → last_stamp last (frames ++ frame ∷ []) ≡ frame.stamp
last_stamp-snoc last [] frame = refl
last_stamp-snoc last (first ∷ frames) frame = last_stamp-snoc first.stamp frames frame

-- more bytes come behind the rest
pub cut-append : (head : RecordHead) (frames : List Frame) (rest bytes more : List ℕ) → IsCut head frames rest bytes → IsCut head frames (rest ++ more) (bytes ++ more)
cut-append head frames rest bytes more cut = record {
  header = cut.header;
  body = cut.body;
  whole = ap (λ xs. xs ++ more) cut.whole ∙ append_assoc cut.header (cut.body ++ rest) more ∙ ap (λ xs. cut.header ++ xs) (append_assoc cut.body rest more);
  says = cut.says;
  framed = cut.framed;
}

-- a rest that is a frame is one more
pub cut-frame : (head : RecordHead) (frames : List Frame) (frame : Frame) (rest bytes : List ℕ) → IsCut head frames rest bytes → IsFrame (last_stamp first_stamp frames) frame rest
    → IsCut head (frames ++ frame ∷ []) [] bytes
cut-frame head frames frame rest bytes cut is = record {
  header = cut.header;
  body = cut.body ++ rest;
  whole = cut.whole ∙ ap (λ xs. cut.header ++ xs) (sym (append-nil (cut.body ++ rest)));
  says = cut.says;
  framed = frames-snoc first_stamp frames frame cut.body rest cut.framed is;
}

-- a header alone
pub cut-head : (head : RecordHead) (bytes : List ℕ) → IsHead head bytes → IsCut head [] [] bytes
cut-head head bytes says = record {
  header = bytes;
  body = [];
  whole = sym (append-nil bytes);
  says = says;
  framed = refl;
}

-- in front of a frame nothing is wrong
pub nothing_open : (last : TimeStamp) → IsFramePart last []
nothing_open last = record {
  index = 0;
  among = omega arith;
  before = λ i h. absurd (omega arith);
  missing = omega arith;
}

-- what was wrong stays wrong, at the same place
pub record_wrong-append : (frames : List Frame) (bytes more : List ℕ) (offset : ℕ) → IsRecordWrongAt frames bytes offset → IsRecordWrongAt frames (bytes ++ more) offset
record_wrong-append frames bytes more offset (inl early) = inl (early.0, wrong-append bytes more offset early.1)
record_wrong-append frames bytes more offset (inr behind) = inr (record {
  head = behind.head;
  rest = behind.rest ++ more;
  cut = cut-append behind.head frames behind.rest bytes more behind.cut;
  place = behind.place;
  frame = frame_wrong-append (last_stamp first_stamp frames) behind.rest more behind.place behind.frame;
  told = omega (arith, behind.told, length-append behind.rest more, length-append bytes more);
})
