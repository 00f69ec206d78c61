-- The definitions at work: a small site, and a delivery of what it sends, that meet each premise.
use Rattle.std.proofs.Common.{◌≡◌, ℕ, suc, zero, ◌+◌, ◌*◌, ◌%◌, ◌^◌, ◌<◌, ◌≤◌, ◌==◌, ◌&&◌, nat_lt, Bool, true, false, List, [], ◌∷◌, ◌++◌, get_or, Some, None, refl, sym, ap, subst, inl, inr, arith}
use Rattle.std.proofs.lemmas.Bool.{false≢true}
use Rattle.std.proofs.lemmas.Bool.Decides.{nat_tests}
use Rattle.vrt_words.specs.Words.{word_of, bits, AreWords}
use Rattle.vrt_time.specs.Time.{stamp_of}
use Rattle.vrt_header.specs.Profile.{PacketProfile, profile_of}
use Rattle.vrt_header.specs.Header.{IsHeader}
use Rattle.vrt_header.specs.declared.header.Header.{Header}
use Rattle.vrt_header.specs.declared.header.Kind.{Kind}
use Rattle.vrt_header.specs.declared.header.Kind.TheVariants.{Data, Context}
use Rattle.vrt_header.specs.declared.prologue.Prologue.{Prologue}
use Rattle.vrt_fields.specs.declared.limits.Limits.{Limits}
use Rattle.difi_context.specs.Context.{IsSpelled, cif0_of}
use Rattle.difi_context.specs.declared.context.ContextRec.{ContextRec}
use Rattle.difi_data.specs.Data.{DataPacket}
use Rattle.reorder_window.specs.Delivery.{IsDelivery, occurs}
use Rattle.sample_binder.specs.Calls.{Call, ContextCall, DataCall, data_count}
use Rattle.sample_binder.specs.Given.{IsDataOf}
use Rattle.site_truth.specs.Site.{Site, IsSite, IsSteady}
use Rattle.site_truth.specs.Delivered.{Delivery, IsDelivered}
use Rattle.site_truth.proofs.ListLemmas.{occurs-cases, occurs-here, occurs-behind, place_among}

abbrev profile : PacketProfile
profile = profile_of 0x6A621E 1

-- 1,700,000,000 s
abbrev start : ℕ
start = 0x6553F100

-- 1 Hz, and items of 16 bits
abbrev fields : List ℕ
fields = 0 ∷ 0 ∷ 0 ∷ 0 ∷ 0 ∷ 0 ∷ 0 ∷ 0 ∷ 0 ∷ 0 ∷ 0 ∷ 0 ∷ 0x100000 ∷ 0 ∷ 0 ∷ 0 ∷ 0 ∷ 0xA00003CF ∷ 0 ∷ []

abbrev header_of : Kind → Bool → ℕ → ℕ → Header
header_of kind bit24 count size = record { kind = kind; bit25 = false; bit24 = bit24; timed = true; count = count; size = size }

abbrev prologue_at : Header → ℕ → Prologue
prologue_at header packet_class = record { header = header; stream = 1; pad = 0; information = 0; packet = packet_class; stamp = None }

-- context number k, two seconds after the one before, of which the first alone says that a field differs
abbrev is_first : ℕ → Bool
is_first zero = true
is_first (suc k) = false

abbrev context_prologue : ℕ → Prologue
context_prologue k = record (prologue_at (header_of Context true (k % 16) 27) 1) { stamp = Some (stamp_of (start + 2 * k) 0) }

abbrev context : ℕ → ContextRec
context k = record { prologue = context_prologue k; changed = is_first k; fields = fields }

-- data packet number n, one second after the one before, with one sample
abbrev packet : ℕ → List ℕ
packet n =
    0x18 ∷ (0x60 + n % 16) ∷ 0 ∷ 8 ∷ 0 ∷ 0 ∷ 0 ∷ 1 ∷ 0 ∷ 0x6A ∷ 0x62 ∷ 0x1E ∷ 0 ∷ 0 ∷ 0 ∷ 0
    ∷ 0x65 ∷ 0x53 ∷ 0xF1 ∷ n ∷ 0 ∷ 0 ∷ 0 ∷ 0 ∷ 0 ∷ 0 ∷ 0 ∷ 0 ∷ 0 ∷ 1 ∷ 0 ∷ 2 ∷ []

abbrev site : Site
site = record { context = context; contexts_sent = 3; packet = packet; packets_sent = 4 }

-- ---- the packets are in the grammar

abbrev all_below : ℕ → List ℕ → Bool
all_below n [] = true
all_below n (x ∷ xs) = nat_lt x n && all_below n xs

both : (b c : Bool) → (b && c) ≡ true → (b ≡ true) × (c ≡ true)
both true c e = (refl, e)
both false c e = absurd (false≢true e)

below : (n : ℕ) (xs : List ℕ) → 0 < n → all_below n xs ≡ true → (i : ℕ) → get_or xs i 0 < n
below n [] some e i = some
below n (x ∷ xs) some e zero = let p : nat_lt x n ≡ true = (both (nat_lt x n) (all_below n xs) e).0 in grind (arith, nat_tests)
below n (x ∷ xs) some e (suc i) = below n xs some (both (nat_lt x n) (all_below n xs) e).1 i

all_less : (n : ℕ) (xs : List ℕ) → 0 < n → all_below n xs ≡ true → (k : ℕ) → occurs k xs ≡ true → k < n
all_less n xs some e k there = let p = place_among k xs there in let r = below n xs some e p.0 in omega (arith, r, p.2)

occurs-front : (k : ℕ) (xs ys : List ℕ) → occurs k xs ≡ true → occurs k (xs ++ ys) ≡ true
occurs-front k [] ys e = absurd (false≢true e)
occurs-front k (x ∷ xs) ys e = elim (occurs-cases k x xs e) [
  | inl same ↦ subst (λ j. occurs k (j ∷ xs ++ ys) ≡ true) (sym same) (occurs-here k (xs ++ ys))
  | inr there ↦ occurs-behind k x (xs ++ ys) (occurs-front k xs ys there)
]

abbrev context_word : ℕ → ℕ
context_word k = 0x4960001B + k % 16 * 2 ^ 16

context_header : (k : ℕ) → k < 3 → IsHeader profile (header_of Context true (k % 16) 27) (context_word k)
context_header zero lt = record {
  kind = record { packet_type = refl; acknowledge = refl; bit25 = tt; bit24 = tt };
  class_there = refl;
  bit25 = refl;
  bit24 = refl;
  time = (refl, refl);
  count = refl;
  size = refl;
  size_allowed = refl;
}
context_header (suc zero) lt = record {
  kind = record { packet_type = refl; acknowledge = refl; bit25 = tt; bit24 = tt };
  class_there = refl;
  bit25 = refl;
  bit24 = refl;
  time = (refl, refl);
  count = refl;
  size = refl;
  size_allowed = refl;
}
context_header (suc (suc zero)) lt = record {
  kind = record { packet_type = refl; acknowledge = refl; bit25 = tt; bit24 = tt };
  class_there = refl;
  bit25 = refl;
  bit24 = refl;
  time = (refl, refl);
  count = refl;
  size = refl;
  size_allowed = refl;
}
context_header (suc (suc (suc k))) lt = absurd (omega arith)

context_word-fits : (k : ℕ) → k < 3 → context_word k < 2 ^ 32
context_word-fits zero lt = omega arith
context_word-fits (suc zero) lt = omega arith
context_word-fits (suc (suc zero)) lt = omega arith
context_word-fits (suc (suc (suc k))) lt = absurd (omega arith)

abbrev context_words : ℕ → Bool → List ℕ
context_words k changed = context_word k ∷ 1 ∷ 0x006A621E ∷ 1 ∷ (start + 2 * k) ∷ 0 ∷ 0 ∷ cif0_of changed ∷ fields

context_fits : (k : ℕ) (changed : Bool) → k < 3 → AreWords (context_words k changed)
context_fits k true lt zero = context_word-fits k lt
context_fits k true lt (suc (suc (suc (suc zero)))) = omega arith
context_fits k true lt (suc zero) = omega arith
context_fits k true lt (suc (suc zero)) = omega arith
context_fits k true lt (suc (suc (suc zero))) = omega arith
context_fits k true lt (suc (suc (suc (suc (suc i))))) = below (2 ^ 32) (0 ∷ 0 ∷ cif0_of true ∷ fields) (omega arith) refl i
context_fits k false lt zero = context_word-fits k lt
context_fits k false lt (suc (suc (suc (suc zero)))) = omega arith
context_fits k false lt (suc zero) = omega arith
context_fits k false lt (suc (suc zero)) = omega arith
context_fits k false lt (suc (suc (suc zero))) = omega arith
context_fits k false lt (suc (suc (suc (suc (suc i))))) = below (2 ^ 32) (0 ∷ 0 ∷ cif0_of false ∷ fields) (omega arith) refl i

abbrev tells_change : ℕ → Bool → ContextRec
tells_change k changed = record { prologue = context_prologue k; changed = changed; fields = fields }

context_is : (k : ℕ) (changed : Bool) → k < 3 → changed ≡ (bits (cif0_of changed) 31 1 == 1) → bits (cif0_of changed) 0 31 ≡ 0x7BB98000 → IsSpelled profile (tells_change k changed)
context_is k changed lt told cif0 = record {
  words = context_words k changed;
  are_words = context_fits k changed lt;
  packet = record {
    all = refl;
    prologue = record {
      prologue = record {
        all = refl;
        header = context_header k lt;
        stream = refl;
        class_word = record { pad = refl; clear = refl; cid = refl };
        pad = refl;
        class_allowed = (refl, refl);
        information = refl;
        packet = refl;
        stamp = (omega arith, refl);
      };
      kind = refl;
    };
    changed = told;
    cif0 = cif0;
    fields = refl;
    rate = record { positive = omega arith; least = omega arith };
    format_first = record { cartesian = refl; plain = refl; at_least_four = omega arith; at_most_sixteen = omega arith; no_gaps = refl; packing = inl refl };
    format_second = refl;
  };
}

spelled : (k : ℕ) → k < 3 → IsSpelled profile (context k)
spelled zero lt = context_is zero true lt refl refl
spelled (suc k) lt = context_is (suc k) false lt refl refl

abbrev packet_word : ℕ → ℕ
packet_word n = word_of 0x18 (0x60 + n % 16) 0 8

packet_header : (n : ℕ) → n < 4 → IsHeader profile (header_of Data false (n % 16) 8) (packet_word n)
packet_header zero lt = record {
  kind = record { packet_type = refl; acknowledge = refl; bit25 = tt; bit24 = refl };
  class_there = refl;
  bit25 = refl;
  bit24 = refl;
  time = (refl, refl);
  count = refl;
  size = refl;
  size_allowed = refl;
}
packet_header (suc zero) lt = record {
  kind = record { packet_type = refl; acknowledge = refl; bit25 = tt; bit24 = refl };
  class_there = refl;
  bit25 = refl;
  bit24 = refl;
  time = (refl, refl);
  count = refl;
  size = refl;
  size_allowed = refl;
}
packet_header (suc (suc zero)) lt = record {
  kind = record { packet_type = refl; acknowledge = refl; bit25 = tt; bit24 = refl };
  class_there = refl;
  bit25 = refl;
  bit24 = refl;
  time = (refl, refl);
  count = refl;
  size = refl;
  size_allowed = refl;
}
packet_header (suc (suc (suc zero))) lt = record {
  kind = record { packet_type = refl; acknowledge = refl; bit25 = tt; bit24 = refl };
  class_there = refl;
  bit25 = refl;
  bit24 = refl;
  time = (refl, refl);
  count = refl;
  size = refl;
  size_allowed = refl;
}
packet_header (suc (suc (suc (suc n)))) lt = absurd (omega arith)

abbrev packet_value : ℕ → DataPacket
packet_value n = record {
  prologue = record (prologue_at (header_of Data false (n % 16) 8) 0) { stamp = Some (stamp_of (word_of 0x65 0x53 0xF1 n) 0) };
  payload = 0 ∷ 1 ∷ 0 ∷ 2 ∷ [];
}

is_data : (n : ℕ) → n < 4 → IsDataOf profile (packet n)
is_data n lt = record {
  packet = packet_value n;
  datagram = record {
    whole = refl;
    packet = record {
      prologue = record {
        prologue = record {
          all = refl;
          header = packet_header n lt;
          stream = refl;
          class_word = record { pad = tt; clear = refl; cid = refl };
          pad = refl;
          class_allowed = (refl, refl);
          information = refl;
          packet = refl;
          stamp = (omega arith, refl);
        };
        kind = refl;
      };
      size = refl;
      octets = below (2 ^ 8) (0 ∷ 1 ∷ 0 ∷ 2 ∷ []) (omega arith) refl;
      whole = refl;
      payload = refl;
    };
  };
}

packet_counted : (n : ℕ) → n < 4 → data_count (packet n) ≡ (0 + n) % 16
packet_counted zero lt = refl
packet_counted (suc zero) lt = refl
packet_counted (suc (suc zero)) lt = refl
packet_counted (suc (suc (suc zero))) lt = refl
packet_counted (suc (suc (suc (suc n)))) lt = absurd (omega arith)

-- ---- the site

is_steady : (n : ℕ) → IsSteady site n
is_steady n = record {
  divides = λ k f. (1, refl);
  steady = λ k number m j f e lt g. record { rate = refl; format_first = refl; format_second = refl };
}

is_site : IsSite profile 43 site
is_site = record {
  first_context = 0;
  contexts = record { rising = λ j k lt within. omega arith; counted = λ k lt. ap (λ n. n % 16) (omega arith) };
  first_packet = 0;
  packets = record { rising = λ j k lt within. omega arith; counted = packet_counted };
  are_contexts = spelled;
  are_packets = is_data;
  most_of_context = λ some. omega arith;
  most_of_packet = λ n lt. omega arith;
  unchanged = λ k lt e. refl;
  are_steady = λ n lt. is_steady n;
}

-- ---- the delivery: context 1 and packet 2 are lost, packet 0 comes late, and packet 1 twice

abbrev limits : Limits
limits = record { data_window = 3; context_window = 2; kept = 2; pending = 1 }

abbrev data_call : ℕ → Call
data_call n = DataCall (record { room = 43; bytes = packet n })

abbrev delivery : Delivery
delivery = record {
  limits = limits;
  site = site;
  contexts = 0 ∷ 2 ∷ [];
  packets = 1 ∷ 0 ∷ 1 ∷ 3 ∷ [];
  room = 43;
  calls = ContextCall (context 0) ∷ data_call 1 ∷ data_call 0 ∷ data_call 1 ∷ ContextCall (context 2) ∷ data_call 3 ∷ [];
}

-- few numbers are delivered within a window that is as large
small : (size total : ℕ) (order : List ℕ) → 0 < total → total ≤ size + 1 → total ≤ 16 → all_below total order ≡ true → IsDelivery size total order
small size total order some within few e = record {
  sent = all_less total order some e;
  near = λ before after j k split first there.
      let r = all_less total order some e j (subst (λ xs. occurs j xs ≡ true) (sym split) (occurs-front j before (k ∷ after) there)) in omega (arith, r);
  gaps = λ j k a b lt. let r = all_less total order some e k b in (k, lt, omega (arith, r), b);
}

is_delivered : IsDelivered delivery
is_delivered = record {
  limits = record {
    data_window = omega arith;
    context_window = omega arith;
    least_kept = omega arith;
    most_kept = omega arith;
    least_pending = omega arith;
    most_pending = omega arith;
  };
  contexts = small 2 3 (0 ∷ 2 ∷ []) (omega arith) (omega arith) (omega arith) refl;
  packets = small 3 4 (1 ∷ 0 ∷ 1 ∷ 3 ∷ []) (omega arith) (omega arith) (omega arith) refl;
  contexts_given = refl;
  packets_given = refl;
  not_told = refl;
}
