-- A number that is written at its offset.
use Rattle.vrt_words.proofs.WordLaws.{same_later}
use borrow.Rule.Slice.PartMut.{put_mid}
use Rattle.std.proofs.Common.{◌≡◌, ℕ, ◌+◌, ◌-◌, ◌*◌, ◌/◌, ◌%◌, ◌<◌, ◌≤◌, ◌^◌, Bool, true, false, if◌then◌else◌, List, ◌++◌, length, take, drop, sym, ap, ◌∙◌, subst, append_assoc, append-nil, length-append, arith}
use Rattle.std.proofs.lemmas.List.{drop_all, drop_at, drop-drop, length-drop, length-take-le, take_at, take_rest, take-append-le, take-take}
use Rattle.byteorder.specs.Endian.{big_from, little_from, big_bytes, little_bytes}
use Rattle.byteorder.specs.Numbers.{big_number-reads_back, little_number-reads_back}
use Rattle.pcap_frames.specs.Numbers.{number_in}
use Rattle.vrt_time.specs.Time.{TimeStamp, IsStamp}
use Rattle.pcap_frames.specs.CaptureFields.{Captured, IsCaptured, fraction_limit, unit_of}
use Rattle.pcap_frames.specs.Spelling.{IsWholeIn}
use Rattle.pcap_frames.specs.declared.form.FileForm.{FileForm}
use Rattle.pcap_frames.proofs.NumberLaws.{big_number, little_number, number_in-take, same_number}

-- what a write leaves: the bytes in front, those of the number, and the bytes behind
pub put_is : (w offset : ℕ) (spelled old new : List ℕ) → offset + w ≤ length old → new ≡ spelled ++ drop w (take (length old - offset) (drop offset old))
    → put_mid offset (length old - offset) old new ≡ take offset old ++ (spelled ++ drop (offset + w) old)
put_is w offset spelled old new h e =
    let none = drop_all (length old - offset) (drop offset old) (omega (arith, length-drop offset old)) in
    ap (λ xs. take offset old ++ (xs ++ drop (length old - offset) (drop offset old))) (e ∙ ap (λ xs. spelled ++ drop w xs) (take_rest old offset))
    ∙ ap (λ xs. take offset old ++ ((spelled ++ drop w (drop offset old)) ++ xs)) none
    ∙ ap (λ xs. take offset old ++ xs) (append-nil (spelled ++ drop w (drop offset old)))
    ∙ ap (λ xs. take offset old ++ (spelled ++ xs)) (drop-drop w offset old)

-- the number stands there,
pub big_there : (big : Bool) (w offset n : ℕ) (old new : List ℕ) → big ≡ true → offset + w ≤ length old → n < 256 ^ w
    → new ≡ take offset old ++ (big_bytes w n ++ drop (offset + w) old) → number_in big offset w new ≡ n
big_there big w offset n old new is h small e =
    sym (big_number big offset w new is)
    ∙ ap (big_from 0 w) (ap (drop offset) e ∙ drop_at (take offset old) (big_bytes w n ++ drop (offset + w) old) offset (length-take-le offset old (omega arith)))
    ∙ big_number-reads_back w n (drop (offset + w) old) small

pub little_there : (big : Bool) (w offset n : ℕ) (old new : List ℕ) → big ≡ false → offset + w ≤ length old → n < 256 ^ w
    → new ≡ take offset old ++ (little_bytes w n ++ drop (offset + w) old) → number_in big offset w new ≡ n
little_there big w offset n old new is h small e =
    sym (little_number big offset w new is)
    ∙ ap (little_from 0 w) (ap (drop offset) e ∙ drop_at (take offset old) (little_bytes w n ++ drop (offset + w) old) offset (length-take-le offset old (omega arith)))
    ∙ little_number-reads_back w n (drop (offset + w) old) small

-- and the bytes in front and behind stay
pub front_stays : (offset : ℕ) (old more new : List ℕ) → offset ≤ length old → new ≡ take offset old ++ more → (m : ℕ) → m ≤ offset → take m new ≡ take m old
front_stays offset old more new h e m fit =
    ap (take m) e ∙ take-append-le m (take offset old) more (omega (arith, length-take-le offset old h)) ∙ take-take m offset old fit

pub rest_stays : (w offset : ℕ) (spelled old new : List ℕ) → offset + w ≤ length old → length spelled ≡ w → new ≡ take offset old ++ (spelled ++ drop (offset + w) old)
    → (m : ℕ) → offset + w ≤ m → drop m new ≡ drop m old
rest_stays w offset spelled old new h size e m fit =
    let front = take offset old ++ spelled in
    let there : length front ≡ offset + w = omega (arith, length-append (take offset old) spelled, length-take-le offset old (omega arith)) in
    let at : drop (offset + w) new ≡ drop (offset + w) old =
    ap (drop (offset + w)) (e ∙ sym (append_assoc (take offset old) spelled (drop (offset + w) old))) ∙ drop_at front (drop (offset + w) old) (offset + w) there in
    same_later (offset + w) m new old fit at

-- ---- a record: its head, and what was captured

mid_is : (captured mid self : List ℕ) → self ≡ captured → 16 + length captured ≤ length mid
    → put_mid 16 (16 + length captured - 16) mid self ≡ take 16 mid ++ (captured ++ drop (16 + length captured) mid)
mid_is captured mid self after room =
    let n : 16 + length captured - 16 ≡ length captured = omega arith in
    ap (λ xs. take 16 mid ++ (xs ++ drop (16 + length captured - 16) (drop 16 mid))) after
    ∙ ap (λ k. take 16 mid ++ (captured ++ drop k (drop 16 mid))) n
    ∙ ap (λ xs. take 16 mid ++ (captured ++ xs)) (drop-drop (length captured) 16 mid)

-- what stands in front of the other bytes, and behind it
front_is : (captured mid final : List ℕ) → 16 ≤ length mid → final ≡ take 16 mid ++ (captured ++ drop (16 + length captured) mid)
    → take (16 + length captured) final ≡ take 16 mid ++ captured
front_is captured mid final there e =
    let front = take 16 mid ++ captured in
    let size : length front ≡ 16 + length captured = omega (arith, length-append (take 16 mid) captured, length-take-le 16 mid there) in
    ap (take (16 + length captured)) (e ∙ sym (append_assoc (take 16 mid) captured (drop (16 + length captured) mid)))
    ∙ take_at front (drop (16 + length captured) mid) (16 + length captured) size

rest_is : (captured mid final : List ℕ) → 16 ≤ length mid → final ≡ take 16 mid ++ (captured ++ drop (16 + length captured) mid)
    → drop (16 + length captured) final ≡ drop (16 + length captured) mid
rest_is captured mid final there e =
    let front = take 16 mid ++ captured in
    let size : length front ≡ 16 + length captured = omega (arith, length-append (take 16 mid) captured, length-take-le 16 mid there) in
    ap (drop (16 + length captured)) (e ∙ sym (append_assoc (take 16 mid) captured (drop (16 + length captured) mid)))
    ∙ drop_at front (drop (16 + length captured) mid) (16 + length captured) size

head_stays : (big : Bool) (offset : ℕ) (captured mid final : List ℕ) → offset + 4 ≤ 16 → 16 ≤ length mid
    → final ≡ take 16 mid ++ (captured ++ drop (16 + length captured) mid) → number_in big offset 4 final ≡ number_in big offset 4 mid
head_stays big offset captured mid final fit there e =
    same_number big offset 4 16 final mid fit (front_stays 16 mid (captured ++ drop (16 + length captured) mid) final there e 16 (omega arith))

-- a time that is whole in a unit, which divides a second
whole_units : (nanos : Bool) (picos : ℕ) → picos % (if nanos then 10 ^ 3 else 10 ^ 6) ≡ 0 → picos / (if nanos then 10 ^ 3 else 10 ^ 6) * (if nanos then 10 ^ 3 else 10 ^ 6) ≡ picos
whole_units true picos h = omega arith
whole_units false picos h = omega arith

below_second : (nanos : Bool) (picos : ℕ) → picos < 10 ^ 12 → picos / (if nanos then 10 ^ 3 else 10 ^ 6) < (if nanos then 10 ^ 9 else 10 ^ 6)
below_second true picos h = omega arith
below_second false picos h = omega arith

captured_as : TimeStamp → List ℕ → Captured
captured_as stamp bytes = record { stamp = stamp; bytes = bytes }

stamp_as : ℕ → ℕ → TimeStamp
stamp_as seconds picos = record { seconds = seconds; picos = picos }

-- the numbers of a head, with the captured bytes behind it, are a record
captured_written : (form : FileForm) (time : TimeStamp) (captured mid final : List ℕ) → IsStamp time → IsWholeIn form time → length captured ≤ 262144
    → 16 + length captured ≤ length mid → number_in form.big 0 4 mid ≡ time.seconds → number_in form.big 4 4 mid ≡ time.picos / unit_of form
    → number_in form.big 8 4 mid ≡ length captured → final ≡ take 16 mid ++ (captured ++ drop (16 + length captured) mid)
    → IsCaptured form (captured_as time captured) (take (16 + length captured) final)
unfolding captured_as stamp_as
captured_written form time captured mid final stamp whole most room seconds fraction size e =
    let n = 16 + length captured in
    let there : 16 ≤ length mid = omega arith in
    let bytes = take n final in
    let front = front_is captured mid final there e in
    let long : length bytes ≡ n = ap length front ∙ omega (arith, length-append (take 16 mid) captured, length-take-le 16 mid there) in
    let s : number_in form.big 0 4 bytes ≡ time.seconds = number_in-take form.big 0 4 n final (omega arith) ∙ head_stays form.big 0 captured mid final (omega arith) there e ∙ seconds in
    let f : number_in form.big 4 4 bytes ≡ time.picos / unit_of form =
    number_in-take form.big 4 4 n final (omega arith) ∙ head_stays form.big 4 captured mid final (omega arith) there e ∙ fraction in
    let l : number_in form.big 8 4 bytes ≡ length captured = number_in-take form.big 8 4 n final (omega arith) ∙ head_stays form.big 8 captured mid final (omega arith) there e ∙ size in
    let behind : drop 16 bytes ≡ captured = ap (drop 16) front ∙ drop_at (take 16 mid) captured 16 (length-take-le 16 mid there) in
    let picos : number_in form.big 4 4 bytes * unit_of form ≡ time.picos = ap (λ k. k * unit_of form) f ∙ whole_units form.nanos time.picos whole in
    record {
      whole = record {
        there = omega arith;
        all = omega arith;
        right = record {
          fraction = λ h. subst (λ k. k < fraction_limit form) (sym f) (below_second form.nanos time.picos stamp.picos_below);
          captured = λ h. omega arith;
        };
      };
      told = sym (ap (λ k. captured_as (stamp_as k (number_in form.big 4 4 bytes * unit_of form)) (drop 16 bytes)) s
          ∙ ap (λ k. captured_as (stamp_as time.seconds k) (drop 16 bytes)) picos
          ∙ ap (λ xs. captured_as (stamp_as time.seconds time.picos) xs) behind);
    }

pub record_written : (form : FileForm) (time : TimeStamp) (captured mid self : List ℕ) → IsStamp time → IsWholeIn form time → length captured ≤ 262144
    → 16 + length captured ≤ length mid → self ≡ captured → number_in form.big 0 4 mid ≡ time.seconds → number_in form.big 4 4 mid ≡ time.picos / unit_of form
    → number_in form.big 8 4 mid ≡ length captured
    → IsCaptured form (record { stamp = time; bytes = captured }) (take (16 + length captured) (put_mid 16 (16 + length captured - 16) mid self))
unfolding captured_as
record_written form time captured mid self stamp whole most room after seconds fraction size =
    captured_written form time captured mid (put_mid 16 (16 + length captured - 16) mid self) stamp whole most room seconds fraction size (mid_is captured mid self after room)

pub head_of_record : (big : Bool) (offset : ℕ) (captured mid self : List ℕ) → offset + 4 ≤ 16 → 16 + length captured ≤ length mid → self ≡ captured
    → number_in big offset 4 (put_mid 16 (16 + length captured - 16) mid self) ≡ number_in big offset 4 mid
head_of_record big offset captured mid self fit room after =
    head_stays big offset captured mid (put_mid 16 (16 + length captured - 16) mid self) fit (omega arith) (mid_is captured mid self after room)

pub behind_record : (captured mid self old : List ℕ) → 16 + length captured ≤ length mid → self ≡ captured → drop (16 + length captured) mid ≡ drop (16 + length captured) old
    → drop (16 + length captured) (put_mid 16 (16 + length captured - 16) mid self) ≡ drop (16 + length captured) old
behind_record captured mid self old room after same =
    rest_is captured mid (put_mid 16 (16 + length captured - 16) mid self) (omega arith) (mid_is captured mid self after room) ∙ same
