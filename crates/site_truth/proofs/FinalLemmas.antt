-- No first arrival is turned away.
use Rattle.std.proofs.Common.{◌≡◌, ℕ, Bool, false, List, [], ◌∷◌, ◌++◌, map, IsOk, refl, sym, ap, ◌∙◌, subst}
use Rattle.vrt_words.specs.Buffer.{Buffer}
use Rattle.vrt_header.specs.Profile.{PacketProfile}
use Rattle.difi_context.specs.declared.context.ContextRec.{ContextRec}
use Rattle.reorder_window.specs.declared.entry.Entry.{Entry}
use Rattle.reorder_window.specs.Delivery.{IsSent, IsDelivery, occurs}
use Rattle.reorder_window.specs.Window.{released, answer, answer_accepted}
use Rattle.reorder_window.proofs.DeliveryLemmas.{final-answered}
use Rattle.sample_binder.specs.Calls.{Call, ContextCall, DataCall, context_entry, data_entry, context_arrivals, data_arrivals, outcome}
use Rattle.sample_binder.proofs.BinderLemmas.{context_arrivals-append, data_arrivals-append}
use Rattle.site_truth.specs.Site.{Site, IsSite, context_sent}
use Rattle.site_truth.specs.Delivered.{Delivery, IsDelivered, packet_arriving}
use Rattle.site_truth.specs.Consequences.{IsContextTaken, IsPacketTaken}

-- where the items of a list begin with some, so do the numbers
record AreCutAt {T : Type 0} (packet : ℕ → T) (order : List ℕ) (front : List T) (here : T) : Type 0 where
  pub earlier : List ℕ
  pub number : ℕ
  pub later : List ℕ
  pub are : order ≡ earlier ++ number ∷ later
  pub front_is : map packet earlier ≡ front
  pub here_is : packet number ≡ here

cut_at : {T : Type 0} (packet : ℕ → T) (order : List ℕ) (front : List T) (here : T) (rest : List T) → map packet order ≡ front ++ here ∷ rest → AreCutAt packet order front here
cut_at packet [] [] here rest e = absurd (cc)
cut_at packet [] (x ∷ xs) here rest e = absurd (cc)
cut_at packet (k ∷ ks) [] here rest e = record { earlier = []; number = k; later = ks; are = refl; front_is = refl; here_is = cc }
cut_at packet (k ∷ ks) (x ∷ xs) here rest e =
    let first : packet k ≡ x = cc in
    let behind : map packet ks ≡ xs ++ here ∷ rest = cc in
    let r = cut_at packet ks xs here rest behind in
    record {
      earlier = k ∷ r.earlier;
      number = r.number;
      later = r.later;
      are = ap (λ ns. k ∷ ns) r.are;
      front_is = ap (λ ys. packet k ∷ ys) r.front_is ∙ ap (λ y. y ∷ xs) first;
      here_is = r.here_is;
    }

accepted_taken : {T : Type 0} (after : List (Entry T)) → IsOk (outcome (answer_accepted after))
accepted_taken [] = refl
accepted_taken (least ∷ earlier) = refl

-- a first arrival is taken
first_taken : {T : Type 0} (start total size : ℕ) (packet : ℕ → Entry T) (order : List ℕ) (front : List (Entry T)) (here : Entry T) (same : T → T → Bool)
    → IsSent start total packet → IsDelivery size total order → (r : AreCutAt packet order front here) → occurs r.number r.earlier ≡ false → IsOk (outcome (answer same size front here))
first_taken {T} start total size packet order front here same s d r e =
    let final = final-answered start total size packet order r.earlier r.later r.number same s d r.are e in
    let taken : IsOk (outcome (answer same size (map packet r.earlier) (packet r.number))) =
    subst (λ a. IsOk (outcome a)) (sym final) (accepted_taken (released size (map packet r.earlier ++ packet r.number ∷ []) 0)) in
    subst (λ (x : Entry T). IsOk (outcome (answer same size front x))) r.here_is
    (subst (λ (xs : List (Entry T)). IsOk (outcome (answer same size xs (packet r.number)))) r.front_is taken)

module _ (profile : PacketProfile) (most : ℕ) (delivery : Delivery) (s : IsSite profile most delivery.site) (d : IsDelivered delivery) where
  abbrev site : Site
  site = delivery.site

  pub context_taken : (same : ContextRec → ContextRec → Bool) (before later : List Call) (rec : ContextRec) → delivery.calls ≡ before ++ ContextCall rec ∷ later
      → IsContextTaken delivery same before rec
  context_taken same before later rec e =
      let given : map (context_sent site) delivery.contexts ≡ context_arrivals before ++ context_entry rec ∷ context_arrivals later =
      sym d.contexts_given ∙ ap context_arrivals e ∙ context_arrivals-append before (ContextCall rec ∷ later) in
      let r = cut_at (context_sent site) delivery.contexts (context_arrivals before) (context_entry rec) (context_arrivals later) given in
      record {
        earlier = r.earlier;
        number = r.number;
        later = r.later;
        order = r.are;
        is_sent = sym (ap (λ (x : Entry ContextRec). x.item) r.here_is);
        is_taken = first_taken s.first_context site.contexts_sent delivery.limits.context_window (context_sent site) delivery.contexts (context_arrivals before) (context_entry rec) same s.contexts d.contexts r;
      }

  pub packet_taken : (same : Buffer → Buffer → Bool) (before later : List Call) (buf : Buffer) → delivery.calls ≡ before ++ DataCall buf ∷ later
      → IsPacketTaken delivery same before buf
  packet_taken same before later buf e =
      let given : map (packet_arriving delivery) delivery.packets ≡ data_arrivals before ++ data_entry buf ∷ data_arrivals later =
      sym d.packets_given ∙ ap data_arrivals e ∙ data_arrivals-append before (DataCall buf ∷ later) in
      let r = cut_at (packet_arriving delivery) delivery.packets (data_arrivals before) (data_entry buf) (data_arrivals later) given in
      let sent : IsSent s.first_packet site.packets_sent (packet_arriving delivery) = record { rising = s.packets.rising; counted = s.packets.counted } in
      record {
        earlier = r.earlier;
        number = r.number;
        later = r.later;
        order = r.are;
        is_sent = sym (ap (λ (x : Entry Buffer). x.item) r.here_is);
        is_taken = first_taken s.first_packet site.packets_sent delivery.limits.data_window (packet_arriving delivery) delivery.packets (data_arrivals before) (data_entry buf) same sent d.packets r;
      }
