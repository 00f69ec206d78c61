-- The words and the variable part that are written are the record of the value.
use Rattle.std.proofs.Common.{◌≡◌, ℕ, ◌+◌, ◌-◌, ◌*◌, ◌/◌, ◌%◌, ◌^◌, ◌≤◌, ◌<◌, List, [], ◌∷◌, ◌++◌, length, take, drop, get_or, refl, sym, ap, ap₂, subst, ◌∙◌, Option, Some, None, IfSome, length-append, arith}
use Rattle.std.proofs.lemmas.List.{take_at, drop_at, length-take-le}
use Rattle.std.proofs.lemmas.Slice.{take-put_mid, drop-put_mid}
use borrow.Rule.Slice.PartMut.{put_mid}
use Rattle.vrt_words.specs.Words.{words_of}
use Rattle.vrt_words.proofs.WordLaws.{words_of-append, same_later}
use Rattle.vrt_time.specs.Time.{TimeStamp, IsStamp, stamp_of}
use Rattle.sample_binder.specs.declared.out.Run.{Run}
use Rattle.sample_binder.specs.declared.out.Run.TheVariants.{Bound, Uncertain, Raw}
use Rattle.release_form.specs.Positions.{word, double, quadruple}
use Rattle.release_form.specs.Rules.{Obeys}
use Rattle.release_form.specs.Layout.{IsLaidOut, IsLateStampAt, IsOfStream, IsPortAt, IsStampAt, kind_of, front_of}
use Rattle.sample_binder.specs.RunRules.{AreWholeWords}
use Rattle.release_form.specs.Sizes.{GoesWith, HasLength, part_size}
use Rattle.release_form.specs.Release.{IsRecordOf, IsPartOf, as_read, read_run}
use Rattle.release_form.specs.Front.{high_word, low_word, late_words, count_words, front_words, IsTyped, IsTypedRun}
use Rattle.release_form.specs.declared.shown.Shown.{Shown}
use Rattle.release_form.specs.declared.shown.Shown.TheVariants.{Run as ARun, Ack, Refused, Version, End}

-- ---- numbers of several words

pub double_laid : (n : ℕ) (bytes : List ℕ) (i : ℕ) → word bytes i ≡ high_word n → word bytes (i + 1) ≡ low_word n → n ≡ double bytes i
double_laid n bytes i h l = omega arith

quadruple_laid : (n : ℕ) (bytes : List ℕ) (i : ℕ) → word bytes i ≡ high_word (n / 2 ^ 64) → word bytes (i + 1) ≡ low_word (n / 2 ^ 64)
    → word bytes (i + 2) ≡ high_word (n % 2 ^ 64) → word bytes (i + 2 + 1) ≡ low_word (n % 2 ^ 64) → n ≡ quadruple bytes i
quadruple_laid n bytes i a b c d =
    let upper = double_laid (n / 2 ^ 64) bytes i a b in
    let lower = double_laid (n % 2 ^ 64) bytes (i + 2) c d in
    omega (arith, upper, lower)

stamp_laid : (stamp : TimeStamp) (bytes : List ℕ) (i : ℕ) → word bytes i ≡ stamp.seconds → word bytes (i + 1) ≡ high_word stamp.picos
    → word bytes (i + 1 + 1) ≡ low_word stamp.picos → IsStamp stamp → IsStampAt stamp bytes i
stamp_laid stamp bytes i s h l is =
    let picos = double_laid stamp.picos bytes (i + 1) h l in
    record { stamp_is = ap₂ stamp_of (sym s) picos; below = omega (arith, picos, is.picos_below) }

port_laid : (port : ℕ) (bytes : List ℕ) (i : ℕ) → word bytes i ≡ port → port < 2 ^ 16 → IsPortAt port bytes i
port_laid port bytes i e fits = record { port_is = sym e; fits = omega (arith, e, fits) }

-- ---- the positions

run_laid : (stream port lost : ℕ) (run : Run) (body : ℕ) (rest bytes : List ℕ) → words_of bytes ≡ front_words (ARun stream port lost run) body ++ rest
    → port < 2 ^ 16 → IsTypedRun run → IsOfStream stream port lost (read_run run) bytes
run_laid stream port lost (Bound stamp first number moment fields bits) body rest bytes e fits typed =
    let at = λ (i : ℕ). ap (λ ws. get_or ws i 0) e in
    record {
      stream_is = sym (at 2);
      port_is = port_laid port bytes 3 (at 3) fits;
      lost_is = sym (at 4);
      run_is = record {
        stamp_is = stamp_laid stamp bytes 5 (at 5) (at 6) (at 7) typed.0;
        first_is = sym (at 8);
        number_is = sym (at 9);
        moment_is = quadruple_laid moment bytes 10 (at 10) (at 11) (at 12) (at 13);
        fields_are = sym (ap (λ ws. take 19 (drop 14 ws)) e ∙ take_at fields rest 19 typed.1);
        sixteen = refl;
      };
    }
run_laid stream port lost (Uncertain reason stamp first number moment bits) body rest bytes e fits typed =
    let at = λ (i : ℕ). ap (λ ws. get_or ws i 0) e in
    record {
      stream_is = sym (at 2);
      port_is = port_laid port bytes 3 (at 3) fits;
      lost_is = sym (at 4);
      run_is = record {
        reason_is = record { number_is = sym (at 5); detail_is = sym (at 6) };
        stamp_is = stamp_laid stamp bytes 7 (at 7) (at 8) (at 9) typed;
        first_is = sym (at 10);
        number_is = sym (at 11);
        moment_is = quadruple_laid moment bytes 12 (at 12) (at 13) (at 14) (at 15);
        sixteen = refl;
      };
    }
run_laid stream port lost (Raw reason stamp pad) body rest bytes e fits typed =
    let at = λ (i : ℕ). ap (λ ws. get_or ws i 0) e in
    record {
      stream_is = sym (at 2);
      port_is = port_laid port bytes 3 (at 3) fits;
      lost_is = sym (at 4);
      run_is = record {
        reason_is = record { number_is = sym (at 5); detail_is = sym (at 6) };
        stamp_is = stamp_laid stamp bytes 7 (at 7) (at 8) (at 9) typed;
        pad_is = sym (at 10);
      };
    }

late_laid : (stamp : Option TimeStamp) (body h l port reason detail : ℕ) (rest bytes : List ℕ)
    → words_of bytes ≡ (5 ∷ body ∷ h ∷ l ∷ port ∷ reason ∷ detail ∷ late_words stamp) ++ rest → IfSome stamp IsStamp → IsLateStampAt stamp bytes 7
late_laid None body h l port reason detail rest bytes e typed =
    let at = λ (i : ℕ). ap (λ ws. get_or ws i 0) e in
    ap₂ stamp_of (at 7) (omega (arith, at 8, at 9))
late_laid (Some stamp) body h l port reason detail rest bytes e typed =
    let at = λ (i : ℕ). ap (λ ws. get_or ws i 0) e in
    stamp_laid stamp bytes 7 (at 7) (at 8) (at 9) typed

counts_laid : (counts : List ℕ) (rest bytes : List ℕ) (body : ℕ) → words_of bytes ≡ (7 ∷ body ∷ count_words counts) ++ rest → length counts ≡ 7 → IsLaidOut (End counts) bytes
counts_laid (a ∷ b ∷ c ∷ d ∷ f ∷ g ∷ h ∷ []) rest bytes body e count =
    let at = λ (i : ℕ). ap (λ ws. get_or ws i 0) e in
    let same : (n i : ℕ) → word bytes i ≡ high_word n → word bytes (i + 1) ≡ low_word n → n ≡ double bytes i = λ n i p q. double_laid n bytes i p q in
    cc (
      same a 2 (at 2) (at 3),
      same b 4 (at 4) (at 5),
      same c 6 (at 6) (at 7),
      same d 8 (at 8) (at 9),
      same f 10 (at 10) (at 11),
      same g 12 (at 12) (at 13),
      same h 14 (at 14) (at 15),
    )
counts_laid counts rest bytes body e count = absurd (omega (arith, count))

pub laid : (shown : Shown) (body : ℕ) (rest bytes : List ℕ) → words_of bytes ≡ front_words shown body ++ rest → IsTyped shown → IsLaidOut (as_read shown) bytes
laid (ARun stream port lost run) body rest bytes e typed = run_laid stream port lost run body rest bytes e typed.0 typed.1
laid (Ack port) body rest bytes e typed = port_laid port bytes 2 (ap (λ ws. get_or ws 2 0) e) typed
laid (Refused frame port reason detail stamp) body rest bytes e typed =
    let at = λ (i : ℕ). ap (λ ws. get_or ws i 0) e in
    record {
      frame_is = double_laid frame bytes 2 (at 2) (at 3);
      port_is = port_laid port bytes 4 (at 4) typed.0;
      reason_is = sym (at 5);
      detail_is = sym (at 6);
      stamp_is = late_laid stamp body (high_word frame) (low_word frame) port reason detail rest bytes e typed.1;
    }
laid (Version port) body rest bytes e typed = port_laid port bytes 2 (ap (λ ws. get_or ws 2 0) e) typed
laid (End counts) body rest bytes e typed = counts_laid counts rest bytes body e typed

-- ---- what is read is written with the same kind, front, rules and lengths

pub record ReadsSame (shown : Shown) : Type 0 where
  pub kind_is : kind_of (as_read shown) ≡ kind_of shown
  pub front_is : front_of (as_read shown) ≡ front_of shown
  pub obeys : Obeys shown → Obeys (as_read shown)
  pub part_length : (bytes part : ℕ) → GoesWith shown bytes → part ≡ part_size shown bytes → HasLength (as_read shown) part
  pub words : (n : ℕ) × (front_of shown ≡ 4 * n)

run_reads_same : (stream port lost : ℕ) (run : Run) → ReadsSame (ARun stream port lost run)
run_reads_same stream port lost (Bound stamp first number moment fields bits) = record {
  kind_is = refl;
  front_is = refl;
  obeys = λ o. o;
  part_length = λ bytes part g e. e;
  words = (33, refl);
}
run_reads_same stream port lost (Uncertain reason stamp first number moment bits) = record {
  kind_is = refl;
  front_is = refl;
  obeys = λ o. o;
  part_length = λ bytes part g e. e;
  words = (16, refl);
}
run_reads_same stream port lost (Raw reason stamp pad) = record {
  kind_is = refl;
  front_is = refl;
  obeys = λ o. o;
  part_length = λ bytes part g e. subst AreWholeWords (sym e) g;
  words = (11, refl);
}

pub reads_same : (shown : Shown) → ReadsSame shown
reads_same (ARun stream port lost run) = run_reads_same stream port lost run
reads_same (Ack port) = record { kind_is = refl; front_is = refl; obeys = λ o. o; part_length = λ bytes part g e. subst AreWholeWords (sym e) g; words = (3, refl) }
reads_same (Refused frame port reason detail stamp) = record { kind_is = refl; front_is = refl; obeys = λ o. o; part_length = λ bytes part g e. e; words = (10, refl) }
reads_same (Version port) = record { kind_is = refl; front_is = refl; obeys = λ o. o; part_length = λ bytes part g e. e ∙ g; words = (3, refl) }
reads_same (End counts) = record { kind_is = refl; front_is = refl; obeys = λ o. o; part_length = λ bytes part g e. e; words = (16, refl) }

-- the front and the part behind it
pub record_of : (shown : Shown) (payload part front : List ℕ) (body : ℕ) → length front ≡ front_of shown → words_of front ≡ front_words shown body → IsTyped shown
    → Obeys shown → GoesWith shown (length payload) → length part ≡ part_size shown (length payload) → IsPartOf shown payload part
    → body + 8 ≡ front_of shown + length part → IsRecordOf shown payload (front ++ part)
record_of shown payload part front body count words typed obeys given size is_part sized =
    let same = reads_same shown in
    let e : words_of (front ++ part) ≡ front_words shown body ++ words_of part =
    words_of-append same.words.0 front part (count ∙ same.words.1) ∙ ap (λ ws. ws ++ words_of part) words in
    let whole : length (front ++ part) ≡ front_of shown + length part = length-append front part ∙ ap (λ n. n + length part) count in
    record {
      part = part;
      part_is = is_part;
      release = record {
        kind_is = ap (λ ws. get_or ws 0 0) e ∙ sym same.kind_is;
        length_is = ap (λ ws. get_or ws 1 0 + 8) e ∙ sized ∙ sym whole;
        positions = laid shown body (words_of part) (front ++ part) e typed;
        obeys = same.obeys obeys;
        part_is = sym (drop_at front part (front_of (as_read shown)) (count ∙ sym same.front_is));
        whole = whole ∙ ap (λ n. n + length part) (sym same.front_is);
        part_length = same.part_length (length payload) (length part) given size;
      };
    }

-- what the writes leave
pub record_written : (shown : Shown) (payload part into : List ℕ) (front size body : ℕ) → front ≡ front_of shown → size ≡ front_of shown + part_size shown (length payload)
    → body ≡ size - 8 → 8 ≤ size → front ≤ length into → words_of (take (front_of shown) into) ≡ front_words shown body → IsTyped shown
    → Obeys shown → GoesWith shown (length payload) → length part ≡ part_size shown (length payload) → IsPartOf shown payload part
    → IsRecordOf shown payload (take size (put_mid front (size - front) into part))
record_written shown payload part into front size body f s b eight room words typed obeys given p is_part =
    let n : size ≡ front + length part = omega (arith, f, s, p) in
    let count : length (take front into) ≡ front_of shown = length-take-le front into room ∙ f in
    let w : words_of (take front into) ≡ front_words shown body = ap (λ i. words_of (take i into)) f ∙ words in
    subst (IsRecordOf shown payload) (sym (take-put_mid front (size - front) into part size n room))
    (record_of shown payload part (take front into) body count w typed obeys given p is_part (omega (arith, b, eight, n, f)))

pub behind_written : (into old part : List ℕ) (front size : ℕ) → front ≤ size → front ≤ length into → length part ≡ size - front → drop front into ≡ drop front old
    → drop size (put_mid front (size - front) into part) ≡ drop size old
behind_written into old part front size h room p e =
    drop-put_mid front (size - front) into part size (omega arith) room p ∙ same_later front size into old h e
