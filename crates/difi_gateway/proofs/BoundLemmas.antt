-- Where nothing is lost, each sample between the first and the last context is bound in one record.
use Rattle.std.proofs.Common.{◌≡◌, ◌≢◌, ◌⊎◌, ℕ, zero, suc, ◌+◌, ◌<◌, ◌≤◌, Bool, true, false, cond, List, [], ◌∷◌, ◌++◌, length, filter, map, get_or, slice_get, Some, refl, sym, ap, ◌∙◌, subst, inl, inr, arith}
use Rattle.std.proofs.lemmas.Option.{same_Some, none-some}
use Rattle.vrt_words.specs.Buffer.{Buffer}
use Rattle.vrt_time.specs.Time.{moment_of}
use Rattle.vrt_fields.specs.Route.{AreRoutes}
use Rattle.replay_form.specs.declared.record_head.RecordHead.{RecordHead}
use Rattle.sample_binder.specs.Calls.{data_stamp}
use Rattle.sample_binder.specs.Parts.{Part, outs_of, samples_of}
use Rattle.sample_binder.specs.declared.out.Out.TheVariants as out
use Rattle.sample_binder.specs.declared.out.Run.{Run}
use Rattle.sample_binder.specs.declared.out.Run.TheVariants.{Bound, Uncertain, Raw}
use Rattle.site_truth.specs.Cause.{Left}
use Rattle.site_truth.specs.Consequences.{Binds, IsUnlost, IsWithin}
use Rattle.site_truth.specs.Delivered.{Delivery}
use Rattle.site_truth.specs.Site.{packet_moment, packet_stamp}
use Rattle.site_truth.specs.Truth.{AreTrueRuns, IsTrueRaw, IsTrueCut, IsTrueRun, Sampled}
use Rattle.site_truth.proofs.ConsequenceLemmas.{all_bound}
use Rattle.difi_gateway.specs.Contents.{Received}
use Rattle.difi_gateway.specs.Releases.{out_of}
use Rattle.difi_gateway.specs.StreamDelivered.{IsPortOf, IsStreamDelivered}
use Rattle.difi_gateway.specs.ToldOnce.{binds_sample, number_telling, tells_sample}
use Rattle.difi_gateway.specs.TrueText.{releases_for}
use Rattle.difi_gateway.proofs.ToldOnceLemmas.{inside, moments_differ, not_before, not_behind, one_passes, other_sample, others_fail, part_stamped, passing, run_stamp, within}
use Rattle.difi_gateway.proofs.TrueReleases.{releases_true, told_outs}

-- ---- outputs are the packets of one list

front : (rs ss : List Run) (ps qs : List Part) → map out.Run rs ++ outs_of ps ≡ map out.Run ss ++ outs_of qs → (rs ≡ ss) × (outs_of ps ≡ outs_of qs)
front [] [] ps qs e = (refl, e)
front [] (s ∷ ss) [] qs e = absurd (cc)
front [] (s ∷ ss) (p ∷ ps) qs e = absurd (cc)
front (r ∷ rs) [] ps [] e = absurd (cc)
front (r ∷ rs) [] ps (q ∷ qs) e = absurd (cc)
front (r ∷ rs) (s ∷ ss) ps qs e =
    let same : r ≡ s = cc in
    let rest : map out.Run rs ++ outs_of ps ≡ map out.Run ss ++ outs_of qs = cc in
    let f = front rs ss ps qs rest in
    (ap (λ x. x ∷ rs) same ∙ ap (λ xs. s ∷ xs) f.0, f.1)

same_part : (p q : Part) → p.buf ≡ q.buf → p.lost ≡ q.lost → p.runs ≡ q.runs → p ≡ q
same_part p q e f g = grind arith

one_parts : (ps qs : List Part) → outs_of ps ≡ outs_of qs → ps ≡ qs
one_parts [] [] e = refl
one_parts [] (q ∷ qs) e = absurd (cc)
one_parts (p ∷ ps) [] e = absurd (cc)
one_parts (p ∷ ps) (q ∷ qs) e =
    let all : out.Packet p.buf p.lost ∷ (map out.Run p.runs ++ outs_of ps) ≡ out.Packet q.buf q.lost ∷ (map out.Run q.runs ++ outs_of qs) = e in
    let buf : p.buf ≡ q.buf = cc in
    let lost : p.lost ≡ q.lost = cc in
    let rest : map out.Run p.runs ++ outs_of ps ≡ map out.Run q.runs ++ outs_of qs = cc in
    let f = front p.runs q.runs ps qs rest in
    ap (λ x. x ∷ ps) (same_part p q buf lost f.0) ∙ ap (λ xs. q ∷ xs) (one_parts ps qs f.1)

-- ---- one packet's runs

-- what tells a sample as bound tells it
untold_unbound : (moment m : ℕ) (run : Run) → tells_sample moment m run ≡ false → binds_sample moment m run ≡ false
untold_unbound moment m (Bound stamp first number at fields bits) e = e
untold_unbound moment m (Uncertain reason stamp first number at bits) e = refl
untold_unbound moment m (Raw reason stamp pad) e = refl

module _ (delivery : Delivery) (left : Left) (sampled : Sampled) where
  abbrev moment : ℕ
  moment = packet_moment delivery.site sampled.packet

  starts : (from m : ℕ) (r : Run) → IsTrueRun delivery left sampled from r → Binds r m → from ≤ m
  starts from m (Bound stamp first number at fields bits) h b = omega (arith, h.0.first_is, b.0)
  starts from m (Uncertain reason stamp first number at bits) h b = absurd b
  starts from m (Raw reason stamp pad) h b = absurd b

  binds_here : (from m : ℕ) (r : Run) → IsTrueRun delivery left sampled from r → Binds r m → binds_sample moment m r ≡ true
  binds_here from m (Bound stamp first number at fields bits) h b = within (moment_of stamp) moment first m number (ap moment_of h.0.stamp_is) b.0 b.1
  binds_here from m (Uncertain reason stamp first number at bits) h b = absurd b
  binds_here from m (Raw reason stamp pad) h b = absurd b

  ends_behind : (from m : ℕ) (r : Run) → IsTrueRun delivery left sampled from r → Binds r m → m < from + samples_of r
  ends_behind from m (Bound stamp first number at fields bits) h b = omega (arith, h.0.first_is, b.1)
  ends_behind from m (Uncertain reason stamp first number at bits) h b = absurd b
  ends_behind from m (Raw reason stamp pad) h b = absurd b

  later_from : (from m : ℕ) (runs : List Run) (i : ℕ) (r : Run) → AreTrueRuns delivery left sampled from runs → slice_get runs i ≡ Some r → Binds r m → from ≤ m
  later_from from m [] i r h e b = absurd (none-some _ e)
  later_from from m (x ∷ runs) zero r h e b = starts from m r (subst (IsTrueRun delivery left sampled from) (same_Some _ _ e) h.0) b
  later_from from m (x ∷ runs) (suc i) r h e b = let le = later_from (from + samples_of x) m runs i r h.1 e b in omega (arith, le)

  none_bound : (from m : ℕ) (runs : List Run) → AreTrueRuns delivery left sampled from runs → m < from → passing (binds_sample moment m) runs ≡ 0
  none_bound from m [] h lt = refl
  none_bound from m (run ∷ runs) h lt =
      let test = binds_sample moment m in
      ap (λ b. length (cond b (run ∷ filter test runs) (filter test runs))) (untold_unbound moment m run (not_before delivery left sampled from m run h.0 lt))
      ∙ none_bound (from + samples_of run) m runs h.1 (omega (arith, lt))

  one_bound : (from m : ℕ) (runs : List Run) (i : ℕ) (r : Run) → AreTrueRuns delivery left sampled from runs → slice_get runs i ≡ Some r → Binds r m
      → passing (binds_sample moment m) runs ≡ 1
  one_bound from m [] i r h e b = absurd (none-some _ e)
  one_bound from m (x ∷ runs) zero r h e b =
      let test = binds_sample moment m in
      let same : x ≡ r = same_Some _ _ e in
      let binds : Binds x m = subst (λ (y : Run). Binds y m) (sym same) b in
      ap (λ c. length (cond c (x ∷ filter test runs) (filter test runs))) (binds_here from m x h.0 binds)
      ∙ ap suc (none_bound (from + samples_of x) m runs h.1 (ends_behind from m x h.0 binds))
  one_bound from m (x ∷ runs) (suc i) r h e b =
      let test = binds_sample moment m in
      let le = later_from (from + samples_of x) m runs i r h.1 e b in
      ap (λ c. length (cond c (x ∷ filter test runs) (filter test runs))) (untold_unbound moment m x (not_behind delivery left sampled from m x h.0 le))
      ∙ one_bound (from + samples_of x) m runs i r h.1 e b

the_one : (x r : Run) (i : ℕ) → slice_get (x ∷ []) i ≡ Some r → x ≡ r
the_one x r zero e = same_Some _ _ e
the_one x r (suc i) e = absurd (none-some _ e)

one_in_part : (delivery : Delivery) (left : Left) (k m i : ℕ) (r : Run) (runs : List Run) → IsTrueRaw delivery left k runs ⊎ IsTrueCut delivery left k runs
    → slice_get runs i ≡ Some r → Binds r m → passing (binds_sample (packet_moment delivery.site k) m) runs ≡ 1
one_in_part delivery left k m i r runs (inl raw) e b =
    let same : Raw raw.reason _ _ ≡ r = the_one _ r i (sym (ap (λ rs. slice_get rs i) raw.runs_are) ∙ e) in
    absurd (subst (λ (x : Run). Binds x m) (sym same) b)
one_in_part delivery left k m i r runs (inr cut) e b =
    one_bound delivery left (record { packet = k; context = cut.context; number = cut.number }) 0 m runs i r cut.runs_are e b

-- ---- all records of a stream for one port

pub told_bound : (head : RecordHead) (second : Bool) (received : List Received) → AreRoutes second head.routes
    → (stream port : ℕ) (delivery : Delivery) → IsPortOf head.routes stream port → IsStreamDelivered head received stream delivery → IsUnlost delivery
    → (packet context number sample : ℕ) → IsWithin delivery packet context number sample
    → number_telling (binds_sample (packet_moment delivery.site packet) sample) (releases_for stream port (out_of head received)) ≡ 1
told_bound head second received routes stream port delivery p s u n context number m w =
    let t = releases_true head second received routes stream port delivery p s in
    let truth = t.are_true in
    let b = all_bound head.profile head.max_words delivery s.site s.delivered u n context number m w in
    let same : b.parts ≡ truth.parts = one_parts b.parts truth.parts (sym b.outs_are ∙ sym (told_outs head second received routes stream port delivery p s) ∙ truth.outs_are) in
    let there : slice_get truth.parts b.place ≡ Some b.part = ap (λ ps. slice_get ps b.place) (sym same) ∙ b.there in
    let is = truth.each b.place b.part there in
    let k = get_or truth.packets b.place 0 in
    let bytes : delivery.site.packet k ≡ delivery.site.packet n = ap (λ (x : Buffer). x.bytes) (sym is.buf ∙ b.buf) in
    let at : packet_moment delivery.site k ≡ packet_moment delivery.site n = ap (λ bs. moment_of (data_stamp bs)) bytes in
    let place : b.place < length truth.packets = omega (arith, inside truth.parts b.place b.part there, truth.once) in
    let test = binds_sample (packet_moment delivery.site n) m in
    let fails : (run : Run) → moment_of (run_stamp run) ≢ packet_moment delivery.site n → test run ≡ false = λ run other.
    untold_unbound (packet_moment delivery.site n) m run (other_sample (packet_moment delivery.site n) m run other) in
    let apart : (i : ℕ) (q : Part) → slice_get truth.parts i ≡ Some q → i ≢ b.place → moment_of (packet_stamp delivery.site (get_or truth.packets i 0)) ≢ packet_moment delivery.site n =
    λ i q e other equal.
    let lt : i < length truth.packets = omega (arith, inside truth.parts i q e, truth.once) in
    moments_differ head.profile head.max_words delivery s.site s.delivered truth.packets truth.packets_arrived i b.place lt place other (equal ∙ sym at) in
    ap (number_telling test) t.releases_are
    ∙ one_passes test stream port truth.parts b.place b.part there
    (λ i q e other. others_fail test (packet_moment delivery.site n) (packet_stamp delivery.site (get_or truth.packets i 0)) fails (apart i q e other) q.runs
    (part_stamped delivery truth.contexts truth.packets i q (truth.each i q e)))
    ∙ ap (λ moment. passing (binds_sample moment m) b.part.runs) (sym at)
    ∙ one_in_part delivery is.left k m b.at b.run b.part.runs is.runs b.run_there b.binds
