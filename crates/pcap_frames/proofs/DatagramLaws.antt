-- Where an IPv4 packet begins, by the numbers behind one another.
use Rattle.std.proofs.Common.{◌≡◌, ◌⊎◌, ℕ, zero, suc, ◌+◌, ◌*◌, ◌<◌, ◌≤◌, inl, inr, List, sym, ap, ◌∙◌, refl, arith}
use Rattle.std.proofs.lemmas.Bool.{cases_order}
use Rattle.pcap_frames.specs.Datagrams.{HoldsDatagram, IsPacketAt, IsTag, UdpDatagram, datagram_at, datagram_size, header_size, number_at}

-- the EtherType of IPv4 is none of a tag
no_tag : (n : ℕ) → n ≡ 0x0800 → IsTag n → ⊥
no_tag n e (inl t) = omega arith
no_tag n e (inr t) = omega arith

-- a packet behind so many tags
pub packet_behind : (bytes : List ℕ) (tags start : ℕ) → tags ≤ 2 → start ≡ 14 + 4 * tags → ((i : ℕ) → i < tags → IsTag (number_at (12 + 4 * i) bytes))
    → number_at (12 + 4 * tags) bytes ≡ 0x0800 → IsPacketAt bytes start
packet_behind bytes tags start few place tagged packet = record { tags = tags; few = few; place = place; tagged = tagged; packet = packet }

one : (bytes : List ℕ) → IsTag (number_at 12 bytes) → (i : ℕ) → i < 1 → IsTag (number_at (12 + 4 * i) bytes)
one bytes tag zero h = tag
one bytes tag (suc i) h = absurd (omega arith)

two : (bytes : List ℕ) → IsTag (number_at 12 bytes) → IsTag (number_at 16 bytes) → (i : ℕ) → i < 2 → IsTag (number_at (12 + 4 * i) bytes)
two bytes tag next zero h = tag
two bytes tag next (suc zero) h = next
two bytes tag next (suc (suc i)) h = absurd (omega arith)

pub behind_one : (bytes : List ℕ) → IsTag (number_at 12 bytes) → number_at 16 bytes ≡ 0x0800 → IsPacketAt bytes 18
behind_one bytes tag packet = packet_behind bytes 1 18 (omega arith) refl (one bytes tag) packet

pub behind_two : (bytes : List ℕ) → IsTag (number_at 12 bytes) → IsTag (number_at 16 bytes) → number_at 20 bytes ≡ 0x0800 → IsPacketAt bytes 22
behind_two bytes tag next packet = packet_behind bytes 2 22 (omega arith) refl (two bytes tag next) packet

-- there is none where neither an EtherType of IPv4 nor a tag stands first, or behind one tag, and none behind three
none_at : (tags : ℕ) (bytes : List ℕ) → tags ≤ 2 → ((i : ℕ) → i < tags → IsTag (number_at (12 + 4 * i) bytes)) → number_at (12 + 4 * tags) bytes ≡ 0x0800
    → ¬ (number_at 12 bytes ≡ 0x0800) → ((IsTag (number_at 12 bytes) → ⊥) ⊎ ((number_at 16 bytes ≡ 0x0800 → ⊥) × ((IsTag (number_at 16 bytes) → ⊥) ⊎ (number_at 20 bytes ≡ 0x0800 → ⊥)))) → ⊥
none_at zero bytes few tagged packet first later = first packet
none_at (suc zero) bytes few tagged packet first (inl untagged) = untagged (tagged 0 (omega arith))
none_at (suc zero) bytes few tagged packet first (inr later) = later.0 packet
none_at (suc (suc zero)) bytes few tagged packet first (inl untagged) = untagged (tagged 0 (omega arith))
none_at (suc (suc zero)) bytes few tagged packet first (inr (second, inl untagged)) = untagged (tagged 1 (omega arith))
none_at (suc (suc zero)) bytes few tagged packet first (inr (second, inr third)) = third packet
none_at (suc (suc (suc n))) bytes few tagged packet first later = omega arith

pub no_packet : (bytes : List ℕ) (start : ℕ) → ¬ (number_at 12 bytes ≡ 0x0800)
    → ((IsTag (number_at 12 bytes) → ⊥) ⊎ ((number_at 16 bytes ≡ 0x0800 → ⊥) × ((IsTag (number_at 16 bytes) → ⊥) ⊎ (number_at 20 bytes ≡ 0x0800 → ⊥)))) → ¬ IsPacketAt bytes start
no_packet bytes start first later p = none_at p.tags bytes p.few p.tagged p.packet first later

-- a packet begins at one place
one_below : (bytes : List ℕ) (a b : ℕ) (p : IsPacketAt bytes a) (q : IsPacketAt bytes b) → p.tags < q.tags → ⊥
one_below bytes a b p q less = no_tag (number_at (12 + 4 * p.tags) bytes) p.packet (q.tagged p.tags less)

pub one_packet : (bytes : List ℕ) (a b : ℕ) → IsPacketAt bytes a → IsPacketAt bytes b → a ≡ b
one_packet bytes a b p q =
    elim (cases_order p.tags q.tags) [
      | inl e ↦ p.place ∙ ap (λ n. 14 + 4 * n) e ∙ sym q.place
      | inr (inl less) ↦ absurd (one_below bytes a b p q less)
      | inr (inr more) ↦ absurd (one_below bytes b a q p more)
    ]

-- so a frame holds one datagram
pub one_datagram : (d e : UdpDatagram) (bytes : List ℕ) → HoldsDatagram d bytes → HoldsDatagram e bytes → d ≡ e
one_datagram d e bytes p q =
    p.told ∙ ap (λ start. datagram_at bytes (start + header_size bytes start) (datagram_size bytes start)) (one_packet bytes p.start q.start p.packet q.packet) ∙ sym q.told
