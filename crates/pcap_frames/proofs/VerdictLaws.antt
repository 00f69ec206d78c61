-- Bytes have one verdict: they are a capture, or wrong at one place, or end inside the header, the head of the file or a record.
use Rattle.std.proofs.Common.{◌≡◌, ◌⊎◌, ℕ, zero, suc, ◌+◌, ◌<◌, ◌≤◌, inl, inr, List, [], ◌∷◌, ◌++◌, length, take, drop, refl, sym, ap, ◌∙◌, subst, append_assoc, length-append, arith}
use Rattle.std.proofs.lemmas.Bool.{cases_order}
use Rattle.std.proofs.lemmas.List.{take_at, drop_at}
use Rattle.replay_form.specs.Head.{IsHead}
use Rattle.replay_form.specs.HeadFields.{head_size}
use Rattle.replay_form.specs.Standing.{HasNoHead}
use Rattle.replay_form.specs.declared.record_head.RecordHead.{RecordHead}
use Rattle.replay_form.proofs.OneHead.{one_head}
use Rattle.replay_form.proofs.PrefixLaws.{size-append}
use Rattle.replay_form.proofs.RecordLaws.{cut-head}
use Rattle.replay_form.proofs.VerdictLaws.{not_headless_later, record_stands}
use Rattle.replay_form.proofs.VerdictLaws.{one_place as one_header_place, wrong_not_inside as header_not_inside}
use Rattle.pcap_frames.specs.CaptureFields.{Captured, IsCaptured, IsFileHead, IsFilePart, IsFileWrongAt, IsRecordPart, IsRecordWrongAt, IsWholeRecord, captured_in, file_place, record_size}
use Rattle.pcap_frames.specs.CaptureFile.{AreCaptured, IsHeaded, IsCut, IsCapture, IsCaptureWrongAt, EndsInside}
use Rattle.pcap_frames.specs.CaptureGrammar.{HasNoFile, HasRecords}
use Rattle.pcap_frames.specs.declared.form.FileForm.{FileForm}
use Rattle.pcap_frames.proofs.CaptureLaws.{cut-append, cut-file, cut-record, nothing_open}
use Rattle.pcap_frames.proofs.FieldLaws.{file_fields-append, file_fields-less, one_form, place_step, record_fields-append, record_fields-less, record_fields-to, record_size-append}

-- ---- the head of the file

place_up : (i j : ℕ) → i ≤ j → j ≤ 7 → file_place i ≤ file_place j
place_up i zero h k = (let e : i ≡ 0 = omega arith in subst (λ n. file_place n ≤ file_place 0) (sym e) (omega arith))
place_up i (suc j) h k =
    elim (cases_order i (suc j)) [
      | inl e ↦ subst (λ n. file_place n ≤ file_place (suc j)) (sym e) (omega arith)
      | inr (inl less) ↦ (
          let below = place_up i j (omega arith) (omega arith) in
          let next : j + 1 ≡ suc j = omega arith in
          let step : file_place j < file_place (suc j) = subst (λ n. file_place j < file_place n) next (place_step j (omega arith)) in
          omega arith
          )
      | inr (inr more) ↦ absurd (omega arith)
    ]

file_not_part : (form : FileForm) (front back : List ℕ) → IsFileHead form front → IsFilePart (front ++ back) → ⊥
file_not_part form front back whole part = omega (arith, part.short, whole.all, length-append front back)

file_not_wrong : (form : FileForm) (front back : List ℕ) (offset : ℕ) → IsFileHead form front → IsFileWrongAt (front ++ back) offset → ⊥
file_not_wrong form front back offset whole wrong =
    let last = place_up (wrong.index + 1) 7 (omega (arith, wrong.among)) (omega arith) in
    let all = file_fields-append form 24 front back (omega (arith, whole.all)) whole.right in
    wrong.wrong form (file_fields-less form (file_place (wrong.index + 1)) 24 (front ++ back) last all)

file_part_not_wrong : (bytes : List ℕ) (offset : ℕ) → IsFilePart bytes → IsFileWrongAt bytes offset → ⊥
file_part_not_wrong bytes offset part wrong =
    wrong.wrong part.form (file_fields-less part.form (file_place (wrong.index + 1)) (length bytes) bytes wrong.there part.right)

file_wrong_below : (bytes : List ℕ) (a b : ℕ) (p : IsFileWrongAt bytes a) (q : IsFileWrongAt bytes b) → p.index < q.index → ⊥
file_wrong_below bytes a b p q less =
    let up = place_up (p.index + 1) q.index (omega arith) (omega (arith, q.among)) in
    p.wrong q.form (file_fields-less q.form (file_place (p.index + 1)) b bytes (omega (arith, q.place)) q.before)

one_file_wrong : (bytes : List ℕ) (a b : ℕ) → IsFileWrongAt bytes a → IsFileWrongAt bytes b → a ≡ b
one_file_wrong bytes a b p q =
    elim (cases_order p.index q.index) [
      | inl e ↦ p.place ∙ ap file_place e ∙ sym q.place
      | inr (inl less) ↦ absurd (file_wrong_below bytes a b p q less)
      | inr (inr more) ↦ absurd (file_wrong_below bytes b a q p more)
    ]

one_file_form : (f g : FileForm) (bytes : List ℕ) → IsFileHead f bytes → IsFileHead g bytes → f ≡ g
one_file_form f g bytes p q = one_form f g (sym (p.right.magic (omega arith)) ∙ q.right.magic (omega arith))

-- ---- a record

record_not_part : (form : FileForm) (front back : List ℕ) → IsWholeRecord form front → IsRecordPart form (front ++ back) → ⊥
record_not_part form front back whole part =
    let size = record_size-append form front back (omega (arith, whole.there)) in
    omega (arith, part.short, whole.all, size, length-append front back)

record_not_wrong : (form : FileForm) (front back : List ℕ) (offset : ℕ) → IsWholeRecord form front → IsRecordWrongAt form (front ++ back) offset → ⊥
record_not_wrong form front back offset whole wrong =
    let all = record_fields-append form 16 front back whole.there whole.right in
    wrong.wrong (record_fields-to form 16 (offset + 4) (front ++ back) (omega arith) all)

part_not_wrong : (form : FileForm) (bytes : List ℕ) (offset : ℕ) → IsRecordPart form bytes → IsRecordWrongAt form bytes offset → ⊥
part_not_wrong form bytes offset part wrong = wrong.wrong (record_fields-less form (offset + 4) (length bytes) bytes wrong.there part.right)

wrong_below : (form : FileForm) (bytes : List ℕ) (a b : ℕ) (p : IsRecordWrongAt form bytes a) (q : IsRecordWrongAt form bytes b) → p.index < q.index → ⊥
wrong_below form bytes a b p q less = p.wrong (record_fields-less form (a + 4) b bytes (omega (arith, p.place, q.place)) q.before)

one_wrong : (form : FileForm) (bytes : List ℕ) (a b : ℕ) → IsRecordWrongAt form bytes a → IsRecordWrongAt form bytes b → a ≡ b
one_wrong form bytes a b p q =
    elim (cases_order p.index q.index) [
      | inl e ↦ omega (arith, p.place, q.place)
      | inr (inl less) ↦ absurd (wrong_below form bytes a b p q less)
      | inr (inr more) ↦ absurd (wrong_below form bytes b a q p more)
    ]

-- ---- the cut

same_front : (a b x y : List ℕ) → length a ≡ length b → a ++ x ≡ b ++ y → (a ≡ b) × (x ≡ y)
same_front a b x y n e = (
  sym (take_at a x (length a) refl) ∙ ap (take (length a)) e ∙ take_at b y (length a) (sym n),
  sym (drop_at a x (length a) refl) ∙ ap (drop (length a)) e ∙ drop_at b y (length a) (sym n),
)

record_front : (form : FileForm) (a b x y : List ℕ) → IsWholeRecord form a → IsWholeRecord form b → a ++ x ≡ b ++ y → (a ≡ b) × (x ≡ y)
record_front form a b x y p q e =
    let s = record_size-append form a x (omega (arith, p.there)) in
    let t = record_size-append form b y (omega (arith, q.there)) in
    same_front a b x y (p.all ∙ sym s ∙ ap (record_size form) e ∙ t ∙ sym q.all) e

-- no whole record begins the rest
Rests : FileForm → List ℕ → Type 0
Rests form rest = (front back : List ℕ) → rest ≡ front ++ back → IsWholeRecord form front → ⊥

nothing_rests : (form : FileForm) → Rests form []
unfolding Rests
nothing_rests form front back e whole = omega (arith, ap length e, length-append front back, whole.there)

part_rests : (form : FileForm) (rest : List ℕ) → IsRecordPart form rest → Rests form rest
unfolding Rests
part_rests form rest part front back e whole = record_not_part form front back whole (subst (IsRecordPart form) e part)

wrong_rests : (form : FileForm) (rest : List ℕ) (offset : ℕ) → IsRecordWrongAt form rest offset → Rests form rest
unfolding Rests
wrong_rests form rest offset wrong front back e whole = record_not_wrong form front back offset whole (subst (λ xs. IsRecordWrongAt form xs offset) e wrong)

-- records and such a rest are cut in one way
records_one : (form : FileForm) (fs gs : List Captured) (b c r s : List ℕ) → AreCaptured form fs b → AreCaptured form gs c → b ++ r ≡ c ++ s
    → Rests form r → Rests form s → (fs ≡ gs) × (r ≡ s)
unfolding Rests
records_one form [] [] b c r s p q e x y = (refl, ap (λ xs. xs ++ r) (sym p) ∙ e ∙ ap (λ xs. xs ++ s) q)
records_one form [] (g ∷ gs) b c r s p q e x y =
    absurd (x q.0 (q.1.0 ++ s) (ap (λ xs. xs ++ r) (sym p) ∙ e ∙ ap (λ xs. xs ++ s) q.1.1.0 ∙ append_assoc q.0 q.1.0 s) q.1.1.1.0.whole)
records_one form (f ∷ fs) [] b c r s p q e x y =
    absurd (y p.0 (p.1.0 ++ r) (ap (λ xs. xs ++ s) (sym q) ∙ sym e ∙ ap (λ xs. xs ++ r) p.1.1.0 ∙ append_assoc p.0 p.1.0 r) p.1.1.1.0.whole)
records_one form (f ∷ fs) (g ∷ gs) b c r s p q e x y =
    let same = record_front form p.0 q.0 (p.1.0 ++ r) (q.1.0 ++ s) p.1.1.1.0.whole q.1.1.1.0.whole
    (sym (append_assoc p.0 p.1.0 r) ∙ ap (λ xs. xs ++ r) (sym p.1.1.0) ∙ e ∙ ap (λ xs. xs ++ s) q.1.1.0 ∙ append_assoc q.0 q.1.0 s) in
    let captured : f ≡ g = p.1.1.1.0.told ∙ ap (captured_in form) same.0 ∙ sym q.1.1.1.0.told in
    let later = records_one form fs gs p.1.0 q.1.0 r s p.1.1.1.1 q.1.1.1.1 same.1 x y in
    (ap (λ h. h ∷ fs) captured ∙ ap (λ hs. g ∷ hs) later.0, later.1)

-- a header that stands in front is one
headed_one : (h i : RecordHead) (r s bytes : List ℕ) → IsHeaded h r bytes → IsHeaded i s bytes → (h ≡ i) × (r ≡ s)
headed_one h i r s bytes p q =
    let e = sym p.whole ∙ q.whole in
    let a = size-append p.header r (omega (arith, p.says.whole.all)) in
    let b = size-append q.header s (omega (arith, q.says.whole.all)) in
    let same = same_front p.header q.header r s (p.says.whole.all ∙ sym a ∙ ap head_size e ∙ b ∙ sym q.says.whole.all) e in
    (one_head h i q.header (subst (IsHead h) same.0 p.says) q.says, same.1)

headed_not_none : (h : RecordHead) (r bytes : List ℕ) → IsHeaded h r bytes → HasNoHead bytes → ⊥
headed_not_none h r bytes headed none =
    not_headless_later h [] headed.header r (record_stands h [] headed.header (cut-head h headed.header headed.says)) (subst HasNoHead headed.whole none)

-- so are the head of the file and the records behind it
pub record IsOneCut (h i : RecordHead) (f g : FileForm) (fs gs : List Captured) (r s : List ℕ) : Type 0 where
  pub head : h ≡ i
  pub form : f ≡ g
  pub records : fs ≡ gs
  pub rest : r ≡ s

cut_one : (h i : RecordHead) (f g : FileForm) (fs gs : List Captured) (r s bytes : List ℕ) → IsCut h f fs r bytes → IsCut i g gs s bytes → Rests f r → Rests g s
    → IsOneCut h i f g fs gs r s
cut_one h i f g fs gs r s bytes p q x y =
    let headed = headed_one h i (p.file ++ (p.body ++ r)) (q.file ++ (q.body ++ s)) bytes p.headed q.headed in
    let same = same_front p.file q.file (p.body ++ r) (q.body ++ s) (p.opened.all ∙ sym q.opened.all) headed.1 in
    let form = one_file_form f g q.file (subst (IsFileHead f) same.0 p.opened) q.opened in
    let rest = records_one g fs gs p.body q.body r s (subst (λ (k : FileForm). AreCaptured k fs p.body) form p.framed) q.framed same.1
    (subst (λ (k : FileForm). Rests k r) form x) y in
    record { head = headed.0; form = form; records = rest.0; rest = rest.1 }

-- a header with no file behind it is no cut
opened_not_cut : (h i : RecordHead) (f : FileForm) (fs : List Captured) (r s bytes : List ℕ) → IsHeaded h r bytes → IsFilePart r → IsCut i f fs s bytes → ⊥
opened_not_cut h i f fs r s bytes headed part cut =
    let same = headed_one h i r (cut.file ++ (cut.body ++ s)) bytes headed cut.headed in
    file_not_part f cut.file (cut.body ++ s) cut.opened (subst IsFilePart same.1 part)

wrong_not_cut : (h i : RecordHead) (f : FileForm) (fs : List Captured) (r s bytes : List ℕ) (place : ℕ) → IsHeaded h r bytes → IsFileWrongAt r place → IsCut i f fs s bytes → ⊥
wrong_not_cut h i f fs r s bytes place headed wrong cut =
    let same = headed_one h i r (cut.file ++ (cut.body ++ s)) bytes headed cut.headed in
    file_not_wrong f cut.file (cut.body ++ s) place cut.opened (subst (λ xs. IsFileWrongAt xs place) same.1 wrong)

-- ---- the verdict: a capture has one header, one form and one list of records,
pub one_capture : (h i : RecordHead) (f g : FileForm) (fs gs : List Captured) (bytes : List ℕ) → IsCapture h f fs bytes → IsCapture i g gs bytes
    → (h ≡ i) × ((f ≡ g) × (fs ≡ gs))
one_capture h i f g fs gs bytes p q =
    let same = cut_one h i f g fs gs [] [] bytes p q (nothing_rests f) (nothing_rests g) in
    (same.head, (same.form, same.records))

-- is wrong nowhere, and ends nowhere inside;
pub capture_not_wrong : (h : RecordHead) (f : FileForm) (fs gs : List Captured) (bytes : List ℕ) (offset : ℕ) → IsCapture h f fs bytes → IsCaptureWrongAt gs bytes offset → ⊥
capture_not_wrong h f fs gs bytes offset p (inl (none, inl early)) = headed_not_none h _ bytes p.headed (inr (offset, early))
capture_not_wrong h f fs gs bytes offset p (inl (none, inr w)) = wrong_not_cut w.head h f fs w.rest [] bytes w.place w.headed w.file p
capture_not_wrong h f fs gs bytes offset p (inr w) =
    let same = cut_one h w.head f w.form fs gs [] w.rest bytes p w.cut (nothing_rests f) (wrong_rests w.form w.rest w.place w.frame) in
    part_not_wrong w.form w.rest w.place (subst (IsRecordPart w.form) same.rest (nothing_open w.form)) w.frame

pub capture_not_inside : (h : RecordHead) (f : FileForm) (fs : List Captured) (bytes : List ℕ) → IsCapture h f fs bytes → EndsInside bytes → ⊥
capture_not_inside h f fs bytes p (inl part) = headed_not_none h _ bytes p.headed (inl part)
capture_not_inside h f fs bytes p (inr (inl o)) = opened_not_cut o.0 h f fs o.1.0 [] bytes o.1.1.headed o.1.1.part p
capture_not_inside h f fs bytes p (inr (inr o)) =
    let open_ = o.1.1.1.1.1 in
    let same = cut_one h o.0 f o.1.0 fs o.1.1.0 [] o.1.1.1.0 bytes p open_.cut (nothing_rests f) (part_rests o.1.0 o.1.1.1.0 open_.part) in
    omega (arith, o.1.1.1.1.0, ap length same.rest)

-- what is wrong ends nowhere inside, and is wrong at one place
pub wrong_not_inside : (gs : List Captured) (bytes : List ℕ) (offset : ℕ) → IsCaptureWrongAt gs bytes offset → EndsInside bytes → ⊥
wrong_not_inside gs bytes offset (inl (none, inl early)) (inl part) = header_not_inside [] bytes offset (inl (refl, early)) (inl part)
wrong_not_inside gs bytes offset (inl (none, inl early)) (inr (inl o)) = headed_not_none o.0 o.1.0 bytes o.1.1.headed (inr (offset, early))
wrong_not_inside gs bytes offset (inl (none, inl early)) (inr (inr o)) = headed_not_none o.0 _ bytes o.1.1.1.1.1.cut.headed (inr (offset, early))
wrong_not_inside gs bytes offset (inl (none, inr w)) (inl part) = headed_not_none w.head w.rest bytes w.headed (inl part)
wrong_not_inside gs bytes offset (inl (none, inr w)) (inr (inl o)) =
    let same = headed_one o.0 w.head o.1.0 w.rest bytes o.1.1.headed w.headed in
    file_part_not_wrong w.rest w.place (subst IsFilePart same.1 o.1.1.part) w.file
wrong_not_inside gs bytes offset (inl (none, inr w)) (inr (inr o)) =
    wrong_not_cut w.head o.0 o.1.0 o.1.1.0 w.rest o.1.1.1.0 bytes w.place w.headed w.file o.1.1.1.1.1.cut
wrong_not_inside gs bytes offset (inr w) (inl part) = headed_not_none w.head _ bytes w.cut.headed (inl part)
wrong_not_inside gs bytes offset (inr w) (inr (inl o)) = opened_not_cut o.0 w.head w.form gs o.1.0 w.rest bytes o.1.1.headed o.1.1.part w.cut
wrong_not_inside gs bytes offset (inr w) (inr (inr o)) =
    let open_ = o.1.1.1.1.1 in
    let same = cut_one o.0 w.head o.1.0 w.form o.1.1.0 gs o.1.1.1.0 w.rest bytes open_.cut w.cut (part_rests o.1.0 o.1.1.1.0 open_.part)
    (wrong_rests w.form w.rest w.place w.frame) in
    part_not_wrong w.form w.rest w.place (subst (IsRecordPart w.form) same.rest (subst (λ (k : FileForm). IsRecordPart k o.1.1.1.0) same.form open_.part)) w.frame

pub one_place : (fs gs : List Captured) (bytes : List ℕ) (a b : ℕ) → IsCaptureWrongAt fs bytes a → IsCaptureWrongAt gs bytes b → a ≡ b
one_place fs gs bytes a b (inl (m, inl p)) (inl (n, inl q)) = one_header_place [] [] bytes a b (inl (refl, p)) (inl (refl, q))
one_place fs gs bytes a b (inl (m, inl p)) (inl (n, inr w)) = absurd (headed_not_none w.head w.rest bytes w.headed (inr (a, p)))
one_place fs gs bytes a b (inl (m, inl p)) (inr w) = absurd (headed_not_none w.head _ bytes w.cut.headed (inr (a, p)))
one_place fs gs bytes a b (inl (m, inr v)) (inl (n, inl q)) = absurd (headed_not_none v.head v.rest bytes v.headed (inr (b, q)))
one_place fs gs bytes a b (inl (m, inr v)) (inl (n, inr w)) =
    let same = headed_one w.head v.head w.rest v.rest bytes w.headed v.headed in
    let place = one_file_wrong v.rest v.place w.place v.file (subst (λ xs. IsFileWrongAt xs w.place) same.1 w.file) in
    omega (arith, v.told, w.told, ap length same.1)
one_place fs gs bytes a b (inl (m, inr v)) (inr w) = absurd (wrong_not_cut v.head w.head w.form gs v.rest w.rest bytes v.place v.headed v.file w.cut)
one_place fs gs bytes a b (inr v) (inl (n, inl q)) = absurd (headed_not_none v.head _ bytes v.cut.headed (inr (b, q)))
one_place fs gs bytes a b (inr v) (inl (n, inr w)) = absurd (wrong_not_cut w.head v.head v.form fs w.rest v.rest bytes w.place w.headed w.file v.cut)
one_place fs gs bytes a b (inr v) (inr w) =
    let same = cut_one w.head v.head w.form v.form gs fs w.rest v.rest bytes w.cut v.cut (wrong_rests w.form w.rest w.place w.frame) (wrong_rests v.form v.rest v.place v.frame) in
    let frame = subst (λ xs. IsRecordWrongAt v.form xs w.place) same.rest (subst (λ (k : FileForm). IsRecordWrongAt k w.rest w.place) same.form w.frame) in
    let place = one_wrong v.form v.rest v.place w.place v.frame frame in
    omega (arith, v.told, w.told, ap length same.rest)

-- what stands whole in bytes, as far as they go, is one header and one list of records, or no header
left_rests : (form : FileForm) (rest : List ℕ) → IsRecordPart form rest ⊎ ((place : ℕ) × IsRecordWrongAt form rest place) → Rests form rest
left_rests form rest (inl part) = part_rests form rest part
left_rests form rest (inr wrong) = wrong_rests form rest wrong.0 wrong.1

no_file_no_cut : (h i : RecordHead) (bytes : List ℕ) (none : HasNoFile h bytes) (f : FileForm) (fs : List Captured) (s : List ℕ) → IsCut i f fs s bytes → ⊥
no_file_no_cut h i bytes none f fs s cut =
    elim none.behind [
      | inl part ↦ opened_not_cut h i f fs none.rest s bytes none.headed part cut
      | inr wrong ↦ wrong_not_cut h i f fs none.rest s bytes wrong.0 none.headed wrong.1 cut
    ]

pub one_standing : (h i : RecordHead) (fs gs : List Captured) (bytes : List ℕ) → HasRecords h fs bytes → HasRecords i gs bytes → (h ≡ i) × (fs ≡ gs)
one_standing h i fs gs bytes (inl p) (inl q) = ((headed_one h i p.1.rest q.1.rest bytes p.1.headed q.1.headed).0, p.0 ∙ sym q.0)
one_standing h i fs gs bytes (inl p) (inr q) = absurd (no_file_no_cut h i bytes p.1 q.form gs q.rest q.cut)
one_standing h i fs gs bytes (inr p) (inl q) = absurd (no_file_no_cut i h bytes q.1 p.form fs p.rest p.cut)
one_standing h i fs gs bytes (inr p) (inr q) =
    let same = cut_one h i p.form q.form fs gs p.rest q.rest bytes p.cut q.cut (left_rests p.form p.rest p.behind) (left_rests q.form q.rest q.behind) in
    (same.head, same.records)

pub not_headless : (h : RecordHead) (fs : List Captured) (bytes : List ℕ) → HasRecords h fs bytes → ¬ HasNoHead bytes
not_headless h fs bytes (inl p) = headed_not_none h p.1.rest bytes p.1.headed
not_headless h fs bytes (inr p) = headed_not_none h _ bytes p.cut.headed

-- and all of a capture stands whole in its bytes
pub capture_stands : (h : RecordHead) (form : FileForm) (fs : List Captured) (bytes : List ℕ) → IsCapture h form fs bytes → HasRecords h fs bytes
capture_stands h form fs bytes p = inr (record { form = form; rest = []; cut = p; behind = inl (nothing_open form) })

-- ---- what is written is read again

pub file_read : (head : RecordHead) (form : FileForm) (header file : List ℕ) → IsHead head header → IsFileHead form file → IsCapture head form [] (header ++ file)
file_read head form header file says opened =
    cut-file head form file (header ++ file) (record { header = header; whole = refl; says = says }) opened

pub record_read : (head : RecordHead) (form : FileForm) (records : List Captured) (captured : Captured) (bytes back : List ℕ) → IsCapture head form records bytes
    → IsCaptured form captured back → IsCapture head form (records ++ captured ∷ []) (bytes ++ back)
record_read head form records captured bytes back p is =
    cut-record head form records captured back (bytes ++ back) (cut-append head form records [] bytes back p) is
