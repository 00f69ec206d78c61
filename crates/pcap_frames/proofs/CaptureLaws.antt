-- Laws of captures: more bytes, the head of the file, one more record.
use Rattle.std.proofs.Common.{◌≡◌, ℕ, inl, inr, List, [], ◌∷◌, ◌++◌, refl, sym, ap, ◌∙◌, append_assoc, append-nil, length-append, arith}
use Rattle.replay_form.specs.Head.{IsHead}
use Rattle.replay_form.specs.declared.record_head.RecordHead.{RecordHead}
use Rattle.replay_form.proofs.PrefixLaws.{wrong-append}
use Rattle.pcap_frames.specs.CaptureFields.{Captured, IsCaptured, IsFileHead, IsFilePart, IsRecordPart}
use Rattle.pcap_frames.specs.CaptureFile.{AreCaptured, IsHeaded, IsCut, IsCaptureWrongAt}
use Rattle.pcap_frames.specs.declared.form.FileForm.{FileForm}
use Rattle.pcap_frames.proofs.FieldLaws.{file_nothing, file_wrong-append, record_nothing, record_wrong-append, head_part}

-- one more record
pub records-snoc : (form : FileForm) (records : List Captured) (captured : Captured) (body bytes : List ℕ) → AreCaptured form records body → IsCaptured form captured bytes
    → AreCaptured form (records ++ captured ∷ []) (body ++ bytes)
records-snoc form [] captured body bytes none is =
    (bytes, ([], (ap (λ xs. xs ++ bytes) none ∙ sym (append-nil bytes), (is, refl))))
records-snoc form (first ∷ records) captured body bytes some is =
    let front = some.0 in
    let back = some.1.0 in
    (front, (back ++ bytes, (ap (λ xs. xs ++ bytes) some.1.1.0 ∙ append_assoc front back bytes, (some.1.1.1.0, records-snoc form records captured back bytes some.1.1.1.1 is))))

-- more bytes come behind the rest
pub headed-append : (head : RecordHead) (rest bytes more : List ℕ) → IsHeaded head rest bytes → IsHeaded head (rest ++ more) (bytes ++ more)
headed-append head rest bytes more h = record {
  header = h.header;
  whole = ap (λ xs. xs ++ more) h.whole ∙ append_assoc h.header rest more;
  says = h.says;
}

pub headed-as : (head : RecordHead) (rest other bytes : List ℕ) → rest ≡ other → IsHeaded head rest bytes → IsHeaded head other bytes
headed-as head rest other bytes e h = record { header = h.header; whole = h.whole ∙ ap (λ xs. h.header ++ xs) e; says = h.says }

pub cut-append : (head : RecordHead) (form : FileForm) (records : List Captured) (rest bytes more : List ℕ) → IsCut head form records rest bytes
    → IsCut head form records (rest ++ more) (bytes ++ more)
cut-append head form records rest bytes more cut = record {
  file = cut.file;
  body = cut.body;
  headed = headed-as head ((cut.file ++ (cut.body ++ rest)) ++ more) (cut.file ++ (cut.body ++ (rest ++ more))) (bytes ++ more)
      (append_assoc cut.file (cut.body ++ rest) more ∙ ap (λ xs. cut.file ++ xs) (append_assoc cut.body rest more))
      (headed-append head (cut.file ++ (cut.body ++ rest)) bytes more cut.headed);
  opened = cut.opened;
  framed = cut.framed;
}

-- a header alone, and a header with the head of a file
pub headed-head : (head : RecordHead) (bytes : List ℕ) → IsHead head bytes → IsHeaded head [] bytes
headed-head head bytes says = record { header = bytes; whole = sym (append-nil bytes); says = says }

pub cut-file : (head : RecordHead) (form : FileForm) (rest bytes : List ℕ) → IsHeaded head rest bytes → IsFileHead form rest → IsCut head form [] [] bytes
cut-file head form rest bytes headed opened = record {
  file = rest;
  body = [];
  headed = headed-as head rest (rest ++ []) bytes (sym (append-nil rest)) headed;
  opened = opened;
  framed = refl;
}

-- a rest that is a record is one more
pub cut-record : (head : RecordHead) (form : FileForm) (records : List Captured) (captured : Captured) (rest bytes : List ℕ) → IsCut head form records rest bytes
    → IsCaptured form captured rest → IsCut head form (records ++ captured ∷ []) [] bytes
cut-record head form records captured rest bytes cut is = record {
  file = cut.file;
  body = cut.body ++ rest;
  headed = headed-as head (cut.file ++ (cut.body ++ rest)) (cut.file ++ ((cut.body ++ rest) ++ [])) bytes
      (ap (λ xs. cut.file ++ xs) (sym (append-nil (cut.body ++ rest)))) cut.headed;
  opened = cut.opened;
  framed = records-snoc form records captured cut.body rest cut.framed is;
}

-- in front of the head of the file and of a record nothing is wrong
pub nothing_opened : IsFilePart []
nothing_opened = file_nothing [] (omega arith)

pub nothing_open : (form : FileForm) → IsRecordPart form []
nothing_open form = head_part form [] (omega arith) (record_nothing form [] (omega arith))

-- what was wrong stays wrong, at the same place
pub capture_wrong-append : (records : List Captured) (bytes more : List ℕ) (offset : ℕ) → IsCaptureWrongAt records bytes offset → IsCaptureWrongAt records (bytes ++ more) offset
capture_wrong-append records bytes more offset (inl (none, inl early)) = inl (none, inl (wrong-append bytes more offset early))
capture_wrong-append records bytes more offset (inl (none, inr file)) = inl (
  none,
  inr (record {
    head = file.head;
    rest = file.rest ++ more;
    headed = headed-append file.head file.rest bytes more file.headed;
    place = file.place;
    file = file_wrong-append file.rest more file.place file.file;
    told = omega (arith, file.told, length-append file.rest more, length-append bytes more);
  }),
)
capture_wrong-append records bytes more offset (inr behind) = inr (record {
  head = behind.head;
  form = behind.form;
  rest = behind.rest ++ more;
  cut = cut-append behind.head behind.form records behind.rest bytes more behind.cut;
  place = behind.place;
  frame = record_wrong-append behind.form behind.rest more behind.place behind.frame;
  told = omega (arith, behind.told, length-append behind.rest more, length-append bytes more);
})
