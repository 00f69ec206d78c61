-- Laws of the fields: which of them are right hangs on the bytes up to their ends alone.
use Rattle.std.proofs.Common.{◌≡◌, ℕ, zero, suc, ◌+◌, ◌<◌, ◌≤◌, Bool, true, false, List, ◌++◌, length, take, drop, refl, sym, ap, ◌∙◌, subst, length-append, take-append-drop, arith}
use Rattle.std.proofs.lemmas.List.{length-take-le}
use Rattle.pcap_frames.specs.Numbers.{number_in}
use Rattle.pcap_frames.specs.CaptureFields.{AreFileFields, IsFilePart, IsFileWrongAt, AreRecordFields, IsWholeRecord, IsRecordPart, IsRecordWrongAt, file_place, magic_of, record_size}
use Rattle.pcap_frames.specs.declared.form.FileForm.{FileForm}
use Rattle.pcap_frames.proofs.NumberLaws.{number_in-append, number_in-take}

-- ---- the head of the file

pub file_fields-append : (form : FileForm) (n : ℕ) (front back : List ℕ) → n ≤ length front → AreFileFields form n front → AreFileFields form n (front ++ back)
file_fields-append form n front back fit f = record {
  magic = λ h. number_in-append true 0 4 front back (omega arith) ∙ f.magic h;
  major = λ h. number_in-append form.big 4 2 front back (omega arith) ∙ f.major h;
  minor = λ h. number_in-append form.big 6 2 front back (omega arith) ∙ f.minor h;
  link = λ h. number_in-append form.big 20 4 front back (omega arith) ∙ f.link h;
}

pub file_fields-front : (form : FileForm) (n : ℕ) (front back : List ℕ) → n ≤ length front → AreFileFields form n (front ++ back) → AreFileFields form n front
file_fields-front form n front back fit f = record {
  magic = λ h. sym (number_in-append true 0 4 front back (omega arith)) ∙ f.magic h;
  major = λ h. sym (number_in-append form.big 4 2 front back (omega arith)) ∙ f.major h;
  minor = λ h. sym (number_in-append form.big 6 2 front back (omega arith)) ∙ f.minor h;
  link = λ h. sym (number_in-append form.big 20 4 front back (omega arith)) ∙ f.link h;
}

pub file_fields-less : (form : FileForm) (m n : ℕ) (bytes : List ℕ) → m ≤ n → AreFileFields form n bytes → AreFileFields form m bytes
file_fields-less form m n bytes fit f = record {
  magic = λ h. f.magic (omega arith);
  major = λ h. f.major (omega arith);
  minor = λ h. f.minor (omega arith);
  link = λ h. f.link (omega arith);
}

-- a field ends behind its beginning, and all end with the head
pub place_step : (index : ℕ) → index < 7 → file_place index < file_place (index + 1)
place_step zero h = omega arith
place_step (suc zero) h = omega arith
place_step (suc (suc zero)) h = omega arith
place_step (suc (suc (suc zero))) h = omega arith
place_step (suc (suc (suc (suc zero)))) h = omega arith
place_step (suc (suc (suc (suc (suc zero))))) h = omega arith
place_step (suc (suc (suc (suc (suc (suc zero)))))) h = omega arith
place_step (suc (suc (suc (suc (suc (suc (suc i))))))) h = absurd (omega arith)

-- what was wrong stays wrong, at the same place
pub file_wrong-append : (front back : List ℕ) (offset : ℕ) → IsFileWrongAt front offset → IsFileWrongAt (front ++ back) offset
file_wrong-append front back offset w =
    let step = place_step w.index w.among in record {
      index = w.index;
      among = w.among;
      place = w.place;
      form = w.form;
      before = file_fields-append w.form offset front back (omega (arith, w.place, w.there)) w.before;
      there = omega (arith, w.there, length-append front back);
      wrong = λ other f. w.wrong other (file_fields-front other (file_place (w.index + 1)) front back w.there f);
    }

-- a magic number has one form
bits_of_magic : (b n c m : Bool) → magic_of (record { big = b; nanos = n }) ≡ magic_of (record { big = c; nanos = m }) → (b ≡ c) × (n ≡ m)
bits_of_magic true true true true e = (refl, refl)
bits_of_magic true false true false e = (refl, refl)
bits_of_magic false true false true e = (refl, refl)
bits_of_magic false false false false e = (refl, refl)
bits_of_magic true true true false e = absurd (omega arith)
bits_of_magic true true false true e = absurd (omega arith)
bits_of_magic true true false false e = absurd (omega arith)
bits_of_magic true false true true e = absurd (omega arith)
bits_of_magic true false false true e = absurd (omega arith)
bits_of_magic true false false false e = absurd (omega arith)
bits_of_magic false true true true e = absurd (omega arith)
bits_of_magic false true true false e = absurd (omega arith)
bits_of_magic false true false false e = absurd (omega arith)
bits_of_magic false false true true e = absurd (omega arith)
bits_of_magic false false true false e = absurd (omega arith)
bits_of_magic false false false true e = absurd (omega arith)

form_with : Bool → Bool → FileForm
form_with big nanos = record { big = big; nanos = nanos }

pub one_form : (f g : FileForm) → magic_of f ≡ magic_of g → f ≡ g
unfolding form_with
one_form f g e =
    let same = bits_of_magic f.big f.nanos g.big g.nanos e in
    ap (λ b. form_with b f.nanos) same.0 ∙ ap (λ n. form_with g.big n) same.1

-- what is wrong with a head, by its numbers
pub magic_wrong : (bytes : List ℕ) → 4 ≤ length bytes → ((form : FileForm) → ¬ (number_in true 0 4 bytes ≡ magic_of form)) → IsFileWrongAt bytes 0
magic_wrong bytes there none = record {
  index = 0;
  among = omega arith;
  place = refl;
  form = form_with true true;
  before = record { magic = λ h. absurd (omega arith); major = λ h. absurd (omega arith); minor = λ h. absurd (omega arith); link = λ h. absurd (omega arith) };
  there = there;
  wrong = λ other f. none other (f.magic (omega arith));
}

pub field_wrong : (form : FileForm) (bytes : List ℕ) (index offset : ℕ) → index < 7 → offset ≡ file_place index → 4 ≤ offset → AreFileFields form offset bytes
    → file_place (index + 1) ≤ length bytes → ¬ AreFileFields form (file_place (index + 1)) bytes → IsFileWrongAt bytes offset
field_wrong form bytes index offset among place later before there wrong =
    let step = place_step index among in record {
      index = index;
      among = among;
      place = place;
      form = form;
      before = before;
      there = there;
      wrong = λ other f.
          let same : other ≡ form = one_form other form (sym (f.magic (omega arith)) ∙ before.magic later) in
          wrong (subst (λ (g : FileForm). AreFileFields g (file_place (index + 1)) bytes) same f);
    }

-- in front of the head nothing is wrong
pub file_nothing : (bytes : List ℕ) → length bytes < 4 → IsFilePart bytes
file_nothing bytes short = record {
  short = omega arith;
  form = form_with true true;
  right = record { magic = λ h. absurd (omega arith); major = λ h. absurd (omega arith); minor = λ h. absurd (omega arith); link = λ h. absurd (omega arith) };
}

-- ---- a record

pub record_fields-append : (form : FileForm) (n : ℕ) (front back : List ℕ) → n ≤ length front → AreRecordFields form n front → AreRecordFields form n (front ++ back)
record_fields-append form n front back fit f = record {
  fraction = λ h. (let e = number_in-append form.big 4 4 front back (omega arith) in omega (arith, e, f.fraction h));
  captured = λ h. (let e = number_in-append form.big 8 4 front back (omega arith) in omega (arith, e, f.captured h));
}

pub record_fields-front : (form : FileForm) (n : ℕ) (front back : List ℕ) → n ≤ length front → AreRecordFields form n (front ++ back) → AreRecordFields form n front
record_fields-front form n front back fit f = record {
  fraction = λ h. (let e = number_in-append form.big 4 4 front back (omega arith) in omega (arith, e, f.fraction h));
  captured = λ h. (let e = number_in-append form.big 8 4 front back (omega arith) in omega (arith, e, f.captured h));
}

-- with the head of the record there, no field is left
pub record_fields-to : (form : FileForm) (m n : ℕ) (bytes : List ℕ) → 12 ≤ m → AreRecordFields form m bytes → AreRecordFields form n bytes
record_fields-to form m n bytes there f = record { fraction = λ h. f.fraction (omega arith); captured = λ h. f.captured (omega arith) }

pub record_fields-less : (form : FileForm) (m n : ℕ) (bytes : List ℕ) → m ≤ n → AreRecordFields form n bytes → AreRecordFields form m bytes
record_fields-less form m n bytes fit f = record { fraction = λ h. f.fraction (omega arith); captured = λ h. f.captured (omega arith) }

pub record_size-append : (form : FileForm) (front back : List ℕ) → 12 ≤ length front → record_size form (front ++ back) ≡ record_size form front
record_size-append form front back h = ap (λ n. 16 + n) (number_in-append form.big 8 4 front back h)

pub record_wrong-append : (form : FileForm) (front back : List ℕ) (offset : ℕ) → IsRecordWrongAt form front offset → IsRecordWrongAt form (front ++ back) offset
record_wrong-append form front back offset w = record {
  index = w.index;
  among = w.among;
  place = w.place;
  before = record_fields-append form offset front back (omega (arith, w.there)) w.before;
  there = omega (arith, w.there, length-append front back);
  wrong = λ f. w.wrong (record_fields-front form (offset + 4) front back w.there f);
}

-- a record has 262,144 captured bytes at most
pub record_most : (form : FileForm) (n : ℕ) (bytes : List ℕ) → 12 ≤ n → AreRecordFields form n bytes → record_size form bytes ≤ 262160
record_most form n bytes there f = omega (arith, f.captured there)

-- in front of a record nothing is wrong
pub record_nothing : (form : FileForm) (bytes : List ℕ) → length bytes < 8 → AreRecordFields form (length bytes) bytes
record_nothing form bytes short = record { fraction = λ h. absurd (omega arith); captured = λ h. absurd (omega arith) }

-- what is short of a record's head, and right, is a part of a record
pub head_part : (form : FileForm) (bytes : List ℕ) → length bytes < 16 → AreRecordFields form (length bytes) bytes → IsRecordPart form bytes
head_part form bytes short right = record { short = omega arith; right = right }

-- with the head right, the captured bytes go on or are whole
pub captured_part : (form : FileForm) (bytes : List ℕ) → length bytes < record_size form bytes → AreRecordFields form 16 bytes → IsRecordPart form bytes
captured_part form bytes short right = record { short = short; right = record_fields-to form 16 (length bytes) bytes (omega arith) right }

pub captured_whole : (form : FileForm) (bytes : List ℕ) → length bytes ≡ record_size form bytes → AreRecordFields form 16 bytes → IsWholeRecord form bytes
captured_whole form bytes all right = record { there = omega arith; all = all; right = right }

-- a record that stands whole in front
pub whole_in_front : (form : FileForm) (bytes : List ℕ) → 16 ≤ length bytes → AreRecordFields form (length bytes) bytes → record_size form bytes ≤ length bytes
    → IsWholeRecord form (take (record_size form bytes) bytes)
whole_in_front form bytes there right fit =
    let n = record_size form bytes in
    let size : length (take n bytes) ≡ n = length-take-le n bytes fit in
    let captured = number_in-take form.big 8 4 n bytes (omega arith) in
    let fraction = number_in-take form.big 4 4 n bytes (omega arith) in
    record {
      there = omega arith;
      all = omega (arith, size, captured);
      right = record {
        fraction = λ h. omega (arith, fraction, right.fraction (omega arith));
        captured = λ h. omega (arith, captured, right.captured (omega arith));
      };
    }

-- a front that is a whole record: no field is wrong, and all of it is there
pub whole_told : (form : FileForm) (bytes : List ℕ) (n : ℕ) → IsWholeRecord form (take n bytes) → AreRecordFields form 16 bytes × (record_size form bytes ≡ length (take n bytes))
whole_told form bytes n whole =
    let all = take-append-drop n bytes in (
      subst (λ xs. AreRecordFields form 16 xs) all (record_fields-append form 16 (take n bytes) (drop n bytes) whole.there whole.right),
      sym (ap (record_size form) all) ∙ record_size-append form (take n bytes) (drop n bytes) (omega (arith, whole.there)) ∙ sym whole.all,
    )

pub whole_not_wrong : (form : FileForm) (bytes : List ℕ) (n offset : ℕ) → IsRecordWrongAt form bytes offset → ¬ IsWholeRecord form (take n bytes)
whole_not_wrong form bytes n offset wrong whole = wrong.wrong (record_fields-to form 16 (offset + 4) bytes (omega arith) (whole_told form bytes n whole).0)
