-- What a record of each kind says, by its words.
use Rattle.std.proofs.Common.{◌≡◌, ℕ, ◌+◌, ◌%◌, ◌≤◌, ◌≢◌, List, length, take, drop, refl, ◌∙◌, subst, length-drop, Option, Some, None, IfNone, arith}
use Rattle.vrt_words.specs.Words.{words_of}
use Rattle.vrt_time.specs.Time.{TimeStamp, capture_at}
use Rattle.vrt_fields.specs.declared.field.Field.TheVariants.{SampleRate}
use Rattle.difi_context.specs.Context.{field_of}
use Rattle.sample_binder.specs.declared.reason.Reason.{Reason}
use Rattle.sample_binder.specs.declared.out.Run.TheVariants.{Bound, Uncertain, Raw}
use Rattle.release_form.specs.Positions.{word, double, quadruple, stamp_at}
use Rattle.vrt_fields.specs.FieldWords.{AreFields}
use Rattle.release_form.specs.Rules.{ObeysRefused}
use Rattle.sample_binder.specs.Reasons.{IsReason, number_of}
use Rattle.release_form.specs.Refusals.{refusal_number}
use Rattle.release_form.specs.declared.refusal.Refusal.{Refusal}
use Rattle.release_form.specs.declared.refusal.Refusal.TheVariants.{Late}
use Rattle.release_form.specs.Layout.{IsLaidOut, IsLateStampAt, IsPortAt, IsStampAt}
use Rattle.release_form.specs.Release.{IsRelease}
use Rattle.release_form.specs.Steps.{IsReadAs, IsSource, IsSpan}
use Rattle.release_form.specs.declared.shown.Shown.{Shown}
use Rattle.release_form.specs.declared.shown.Shown.TheVariants.{Run as ARun, Ack, Refused, Version, End}

read_as : (shown other : Shown) (part bytes : List ℕ) → shown ≡ other → IsRelease shown part bytes → IsReadAs other bytes
read_as shown other part bytes e h =
    let g = subst (λ s. IsRelease s part bytes) e h in
    subst (λ p. IsRelease other p bytes) g.part_is g

pub if_none : {A : Type 0} (o : Option A) (P : Type 0) → P → IfNone o P
if_none None P h = h
if_none (Some x) P h = tt

pub reason_at : (reason : Reason) (number detail m n : ℕ) → number ≡ m → detail ≡ n → IsReason reason number detail → IsReason reason m n
reason_at reason number detail m n e f h = record { number_is = h.number_is ∙ e; detail_is = h.detail_is ∙ f; in_table = h.in_table }

-- bound samples
abbrev pub bound_at : List ℕ → Shown
bound_at bytes =
    ARun (word bytes 2) (word bytes 3) (word bytes 4)
    (Bound (stamp_at bytes 5) (word bytes 8) (word bytes 9) (quadruple bytes 10) (take 19 (drop 14 (words_of bytes))) 16)

pub bound_is : (shown : Shown) (part bytes : List ℕ) → word bytes 0 ≡ 1 → IsRelease shown part bytes → shown ≡ bound_at bytes
bound_is (ARun stream port lost (Bound stamp first number moment fields bits)) part bytes kind h =
    let p = h.positions in
    let r = p.run_is in
    cc (p.stream_is, p.port_is.port_is, p.lost_is, r.stamp_is.stamp_is, r.first_is, r.number_is, r.moment_is, r.fields_are, r.sixteen)
bound_is shown part bytes kind h = absurd (omega (arith, kind, h.kind_is))

pub read_bound_as : (shown : Shown) (part bytes : List ℕ) → word bytes 0 ≡ 1 → IsRelease shown part bytes → IsReadAs (bound_at bytes) bytes
read_bound_as shown part bytes kind h = read_as shown (bound_at bytes) part bytes (bound_is shown part bytes kind h) h

-- the three kinds of runs have a stream, a port and a number lost
pub run_source : (shown : Shown) (part bytes : List ℕ) → word bytes 0 ≤ 3 → IsRelease shown part bytes → IsSource (word bytes 2) (word bytes 3) (word bytes 4) bytes
run_source (ARun stream port lost run) part bytes kind h =
    let p = h.positions in
    record { stream_is = refl; port_is = record { port_is = refl; fits = p.port_is.fits }; lost_is = refl; lost_most = omega (arith, p.lost_is, h.obeys.0) }
run_source (Ack port) part bytes kind h = absurd (omega (arith, kind, h.kind_is))
run_source (Refused frame port reason detail stamp) part bytes kind h = absurd (omega (arith, kind, h.kind_is))
run_source (Version port) part bytes kind h = absurd (omega (arith, kind, h.kind_is))
run_source (End counts) part bytes kind h = absurd (omega (arith, kind, h.kind_is))

pub bound_span : (shown : Shown) (part bytes : List ℕ) → word bytes 0 ≡ 1 → IsRelease shown part bytes → IsSpan (word bytes 8) (word bytes 9) 8 132 bytes
bound_span shown part bytes kind h =
    let g = read_bound_as shown part bytes kind h in
    record { first_is = refl; number_is = refl; indices = g.obeys.1.indices; whole = omega (arith, g.whole, g.part_length) }

pub reads_bound : (stream port lost : ℕ) (stamp : TimeStamp) (first number moment : ℕ) (fields bytes : List ℕ)
    → word bytes 0 ≡ 1 → word bytes 1 + 8 ≡ length bytes → IsSource stream port lost bytes → IsStampAt stamp bytes 5 → IsSpan first number 8 132 bytes
    → moment ≡ quadruple bytes 10 → fields ≡ take 19 (drop 14 (words_of bytes)) → AreFields fields → moment ≡ capture_at stamp first (field_of fields SampleRate)
    → IsReadAs (ARun stream port lost (Bound stamp first number moment fields 16)) bytes
reads_bound stream port lost stamp first number moment fields bytes kind size source at span m f are captured = record {
  kind_is = kind;
  length_is = size;
  positions = record {
    stream_is = source.stream_is;
    port_is = source.port_is;
    lost_is = source.lost_is;
    run_is = record { stamp_is = at; first_is = span.first_is; number_is = span.number_is; moment_is = m; fields_are = f; sixteen = refl };
  };
  obeys = (source.lost_most, record { indices = span.indices; are_fields = are; captured = captured });
  part_is = refl;
  whole = omega (arith, span.whole, length-drop 132 bytes);
  part_length = omega (arith, span.whole, length-drop 132 bytes);
}

-- samples without a context
pub uncertain_span : (shown : Shown) (part bytes : List ℕ) → word bytes 0 ≡ 2 → IsRelease shown part bytes → IsSpan (word bytes 10) (word bytes 11) 10 64 bytes
uncertain_span (ARun stream port lost (Uncertain reason stamp first number moment bits)) part bytes kind h =
    let r = h.positions.run_is in
    let i = h.obeys.1.indices in
    record {
      first_is = refl;
      number_is = refl;
      indices = record { some = omega (arith, i.some, r.number_is); within = omega (arith, i.within, r.first_is, r.number_is) };
      whole = omega (arith, h.whole, h.part_length, r.number_is);
    }
uncertain_span shown part bytes kind h = absurd (omega (arith, kind, h.kind_is))

pub reads_uncertain : (stream port lost : ℕ) (reason : Reason) (stamp : TimeStamp) (first number moment : ℕ) (bytes : List ℕ)
    → word bytes 0 ≡ 2 → word bytes 1 + 8 ≡ length bytes → IsSource stream port lost bytes → IsReason reason (word bytes 5) (word bytes 6)
    → IsStampAt stamp bytes 7 → IsSpan first number 10 64 bytes → moment ≡ quadruple bytes 12 → 2 ≤ number_of reason → number_of reason ≤ 6
    → IsReadAs (ARun stream port lost (Uncertain reason stamp first number moment 16)) bytes
reads_uncertain stream port lost reason stamp first number moment bytes kind size source why at span m least most = record {
  kind_is = kind;
  length_is = size;
  positions = record {
    stream_is = source.stream_is;
    port_is = source.port_is;
    lost_is = source.lost_is;
    run_is = record {
      reason_is = record { number_is = why.number_is; detail_is = why.detail_is };
      stamp_is = at;
      first_is = span.first_is;
      number_is = span.number_is;
      moment_is = m;
      sixteen = refl;
    };
  };
  obeys = (source.lost_most, record { indices = span.indices; in_table = why.in_table; least = least; most = most });
  part_is = refl;
  whole = omega (arith, span.whole, length-drop 64 bytes);
  part_length = omega (arith, span.whole, length-drop 64 bytes);
}

-- a whole packet
pub reads_raw : (stream port lost : ℕ) (reason : Reason) (stamp : TimeStamp) (pad : ℕ) (bytes : List ℕ)
    → word bytes 0 ≡ 3 → word bytes 1 + 8 ≡ length bytes → IsSource stream port lost bytes → IsReason reason (word bytes 5) (word bytes 6)
    → IsStampAt stamp bytes 7 → pad ≡ word bytes 10 → number_of reason ≢ 6 → pad ≤ 31 → 48 ≤ length bytes → length bytes % 4 ≡ 0
    → IsReadAs (ARun stream port lost (Raw reason stamp pad)) bytes
reads_raw stream port lost reason stamp pad bytes kind size source why at p other most some whole = record {
  kind_is = kind;
  length_is = size;
  positions = record {
    stream_is = source.stream_is;
    port_is = source.port_is;
    lost_is = source.lost_is;
    run_is = record { reason_is = record { number_is = why.number_is; detail_is = why.detail_is }; stamp_is = at; pad_is = p };
  };
  obeys = (source.lost_most, record { in_table = why.in_table; whole_packet = other; pad_most = most });
  part_is = refl;
  whole = omega (arith, length-drop 44 bytes);
  part_length = record { some = omega (arith, length-drop 44 bytes); whole = omega (arith, length-drop 44 bytes) };
}

-- a frame is refused with a stamp, or without one
pub late_obeys : (frame reason : ℕ) (refusal : Refusal) (stamp : TimeStamp) → 1 ≤ frame → reason ≡ refusal_number refusal → refusal ≡ Late → ObeysRefused frame reason (Some stamp)
late_obeys frame reason refusal stamp counted number late = record { counted = counted; refusal = refusal; reason_is = number; late = (λ some. late, λ e. refl) }

pub other_obeys : (frame reason : ℕ) (refusal : Refusal) → 1 ≤ frame → reason ≡ refusal_number refusal → ¬ (refusal ≡ Late) → ObeysRefused frame reason None
other_obeys frame reason refusal counted number other = record { counted = counted; refusal = refusal; reason_is = number; late = (λ some. absurd (cc), λ e. absurd (other e)) }

-- a refused frame
pub reads_refused : (frame port reason detail : ℕ) (stamp : Option TimeStamp) (bytes : List ℕ)
    → word bytes 0 ≡ 5 → word bytes 1 + 8 ≡ length bytes → length bytes ≡ 40 → frame ≡ double bytes 2 → IsPortAt port bytes 4 → reason ≡ word bytes 5
    → detail ≡ word bytes 6 → IsLateStampAt stamp bytes 7 → ObeysRefused frame reason stamp → IsReadAs (Refused frame port reason detail stamp) bytes
reads_refused frame port reason detail stamp bytes kind size whole f p r d s obeys = record {
  kind_is = kind;
  length_is = size;
  positions = record { frame_is = f; port_is = p; reason_is = r; detail_is = d; stamp_is = s };
  obeys = obeys;
  part_is = refl;
  whole = omega (arith, length-drop 40 bytes);
  part_length = omega (arith, length-drop 40 bytes);
}

-- the end
pub reads_end : (counts bytes : List ℕ) → word bytes 0 ≡ 7 → word bytes 1 + 8 ≡ length bytes → length bytes ≡ 64 → IsLaidOut (End counts) bytes
    → IsReadAs (End counts) bytes
reads_end counts bytes kind size whole p = record {
  kind_is = kind;
  length_is = size;
  positions = p;
  obeys = tt;
  part_is = refl;
  whole = omega (arith, length-drop 64 bytes);
  part_length = omega (arith, length-drop 64 bytes);
}
