-- A frame that is refused changes no run of any stream.
use Rattle.std.proofs.Common.{◌≡◌, ◌⊎◌, ℕ, ◌+◌, ◌==◌, Bool, true, false, cond, List, [], ◌∷◌, ◌++◌, length, Option, Some, None, refl, sym, ap, ◌∙◌, inl, inr, append_assoc}
use Rattle.std.proofs.lemmas.List.{append-nil}
use Rattle.vrt_time.specs.Time.{TimeStamp}
use Rattle.vrt_fields.specs.Route.{AreRoutes}
use Rattle.vrt_fields.specs.declared.route.Route.{Route}
use Rattle.replay_form.specs.declared.record_head.RecordHead.{RecordHead}
use Rattle.release_form.specs.declared.refusal.Refusal.{Refusal}
use Rattle.release_form.specs.declared.refusal.Refusal.TheVariants.{NoRoute}
use Rattle.sample_binder.specs.Calls.{Call, EndCall, outputs_of, given_by}
use Rattle.sample_binder.specs.Parts.{payload_of}
use Rattle.sample_binder.specs.declared.out.Out.{Out}
use Rattle.sample_binder.specs.declared.out.Out.TheVariants as out
use Rattle.sample_binder.specs.declared.arrive.Turned.{Turned}
use Rattle.difi_gateway.specs.Contents.{Received}
use Rattle.difi_gateway.specs.Calls.{calls_by, calls}
use Rattle.difi_gateway.specs.Told.{Item, RefusedItem, RunItem, VersionItem, runs_from, runs_told, turned_away, is_listed, bound, called, told_by, told}
use Rattle.difi_gateway.specs.Releases.{all_told}
use Rattle.difi_gateway.specs.Isolation.{runs_of_stream}
use Rattle.difi_gateway.proofs.FitLemmas.{AreListed, listed_told, all_listed}
use Rattle.difi_gateway.proofs.StreamRuns.{true_or_false, equal_to, CallsIt, LeavesIt, calls_or_leaves, calls-append, turned_changes_nothing, told_runs, all_runs}

-- ---- a stream without a route has no run

no_run : (routes : List Route) (stream : ℕ) (items : List Item) → AreListed routes items → is_listed routes stream ≡ false → runs_of_stream stream items ≡ []
no_run routes stream [] h e = refl
no_run routes stream (RefusedItem frame port refusal detail stamp ∷ items) h e = no_run routes stream items h.1 e
no_run routes stream (VersionItem other packet ∷ items) h e = no_run routes stream items h.1 e
no_run routes stream (RunItem other lost run payload ∷ items) h e = elim (true_or_false (other == stream)) [
  | inl same ↦ let both : true ≡ false = sym h.0 ∙ ap (is_listed routes) (equal_to other stream same) ∙ e in absurd (cc)
  | inr apart ↦
      ap (λ b. cond b (RunItem other lost run payload ∷ runs_of_stream stream items) (runs_of_stream stream items)) apart ∙ no_run routes stream items h.1 e
]

pub unlisted_told : (head : RecordHead) (stream : ℕ) (received : List Received) → is_listed head.routes stream ≡ false → runs_of_stream stream (told head received) ≡ []
unlisted_told head stream received e = no_run head.routes stream (told head received) (listed_told head received) e

pub unlisted_all : (head : RecordHead) (stream : ℕ) (received : List Received) → is_listed head.routes stream ≡ false → runs_of_stream stream (all_told head received) ≡ []
unlisted_all head stream received e = no_run head.routes stream (all_told head received) (all_listed head received) e

-- ---- a refused packet was turned away

no_refusal : (stream lost : ℕ) (payload : List ℕ) (outs : List Out) (frame port : ℕ) (refusal : Refusal) (detail : ℕ) (stamp : Option TimeStamp)
    → runs_from stream lost payload outs ≡ RefusedItem frame port refusal detail stamp ∷ [] → ⊥
no_refusal stream lost payload [] frame port refusal detail stamp e = absurd (cc)
no_refusal stream lost payload (out.Packet buf number ∷ outs) frame port refusal detail stamp e = no_refusal stream number (payload_of buf.bytes) outs frame port refusal detail stamp e
no_refusal stream lost payload (out.Run run ∷ outs) frame port refusal detail stamp e = absurd (cc)

refusal_turned : (n p stream : ℕ) (given : List Out) (why : Option Turned) (frame port : ℕ) (refusal : Refusal) (detail : ℕ) (stamp : Option TimeStamp)
    → bound n p stream given why ≡ RefusedItem frame port refusal detail stamp ∷ [] → (t : Turned) × (why ≡ Some t)
refusal_turned n p stream given None frame port refusal detail stamp e = absurd (no_refusal stream 0 [] given frame port refusal detail stamp e)
refusal_turned n p stream given (Some t) frame port refusal detail stamp e = (t, refl)

-- ---- so the outputs are those without it

module _ (head : RecordHead) (stream : ℕ) (before later : List Received) (r : Received) (more : List Call) where
  with_it : outputs_of head.limits (calls head stream (before ++ r ∷ later) ++ more) ≡ outputs_of head.limits (calls head stream before ++ (calls_by head stream r ++ (calls head stream later ++ more)))
  with_it =
      let first = calls head stream before in
      let here = calls_by head stream r in
      let rest = calls head stream later in
      ap (outputs_of head.limits) (
      ap (λ cs. cs ++ more) (calls-append head stream before (r ∷ later))
      ∙ append_assoc first (here ++ rest) more
      ∙ ap (λ cs. first ++ cs) (append_assoc here rest more)
      )

  without_it : outputs_of head.limits (calls head stream before ++ (calls head stream later ++ more)) ≡ outputs_of head.limits (calls head stream (before ++ later) ++ more)
  without_it =
      let first = calls head stream before in
      let rest = calls head stream later in
      ap (outputs_of head.limits) (sym (append_assoc first rest more) ∙ ap (λ cs. cs ++ more) (sym (calls-append head stream before later)))

  same_outputs : is_listed head.routes stream ≡ true → (frame port : ℕ) (refusal : Refusal) (detail : ℕ) (stamp : Option TimeStamp)
      → told_by head before r ≡ RefusedItem frame port refusal detail stamp ∷ [] → CallsIt head stream before r ⊎ LeavesIt head stream before r
      → outputs_of head.limits (calls head stream (before ++ r ∷ later) ++ more) ≡ outputs_of head.limits (calls head stream (before ++ later) ++ more)
  same_outputs listed frame port refusal detail stamp e (inl c) =
      let n = length before + 1 in
      let p = r.frame.port in
      let first = calls head stream before in
      let behind = calls head stream later ++ more in
      let items = called head.limits n p stream first c.0 in
      let told_is = c.2 ∙ ap (λ b. cond b items (RefusedItem n p NoRoute stream None ∷ [])) listed in
      let t = refusal_turned n p stream (given_by head.limits first c.0) (turned_away head.limits first c.0) frame port refusal detail stamp (sym told_is ∙ e) in
      with_it ∙ ap (λ cs. outputs_of head.limits (first ++ (cs ++ behind))) c.1 ∙ turned_changes_nothing head.limits first behind c.0 t.0 t.1 ∙ without_it
  same_outputs listed frame port refusal detail stamp e (inr l) =
      let first = calls head stream before in
      let behind = calls head stream later ++ more in
      with_it ∙ ap (λ cs. outputs_of head.limits (first ++ (cs ++ behind))) l.0 ∙ without_it

-- ---- and so are the runs

module _ (head : RecordHead) (stream : ℕ) (before later : List Received) (r : Received) (frame port : ℕ) (refusal : Refusal) (detail : ℕ) (stamp : Option TimeStamp)
    (refused : told_by head before r ≡ RefusedItem frame port refusal detail stamp ∷ []) where
  abbrev with_frame : List Received
  with_frame = before ++ r ∷ later

  abbrev without_frame : List Received
  without_frame = before ++ later

  pub refused_part : runs_of_stream stream (told head with_frame) ≡ runs_of_stream stream (told head without_frame)
  refused_part = elim (true_or_false (is_listed head.routes stream)) [
    | inl listed ↦
        let a = calls head stream with_frame in
        let b = calls head stream without_frame in
        let same = same_outputs head stream before later r [] listed frame port refusal detail stamp refused (calls_or_leaves head stream before r) in
        told_runs head stream listed with_frame
        ∙ ap (runs_told stream) (ap (outputs_of head.limits) (sym (append-nil a)) ∙ same ∙ ap (outputs_of head.limits) (append-nil b))
        ∙ sym (told_runs head stream listed without_frame)
    | inr unlisted ↦ unlisted_told head stream with_frame unlisted ∙ sym (unlisted_told head stream without_frame unlisted)
  ]

  pub refused_whole : (second : Bool) → AreRoutes second head.routes → runs_of_stream stream (all_told head with_frame) ≡ runs_of_stream stream (all_told head without_frame)
  refused_whole second routes = elim (true_or_false (is_listed head.routes stream)) [
    | inl listed ↦
        let same = same_outputs head stream before later r (EndCall ∷ []) listed frame port refusal detail stamp refused (calls_or_leaves head stream before r) in
        all_runs head second stream with_frame routes listed ∙ ap (runs_told stream) same ∙ sym (all_runs head second stream without_frame routes listed)
    | inr unlisted ↦ unlisted_all head stream with_frame unlisted ∙ sym (unlisted_all head stream without_frame unlisted)
  ]
