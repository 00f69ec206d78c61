-- The copies of what is told, one by one.
use Rattle.std.proofs.Common.{◌≡◌, inl, inr, ℕ, suc, ◌+◌, ◌-◌, ◌<◌, ◌≤◌, min, true, false, nat_lt, cond, List, [], ◌∷◌, ◌++◌, length, take, drop, map, slice_get, Option, Some, refl, sym, ap, ◌∙◌, subst, arith}
use Rattle.std.specs.List.{AllByRecursion}
use Rattle.vrt_time.specs.Time.{TimeStamp}
use Rattle.std.proofs.lemmas.Bool.{cases_lt}
use Rattle.std.proofs.lemmas.Bool.Decides.{nat_tests}
use Rattle.std.proofs.lemmas.List.{append-nil, length-map, drop-map, drop_all, drop_more, take_all, length-drop}
use Rattle.std.proofs.lemmas.Option.{slice_get_within, slice_get-get_or, get_or_from_slice_get, same_Some, none-some}
use Rattle.vrt_words.specs.Buffer.{Buffer}
use Rattle.vrt_fields.specs.declared.route.Route.{Route}
use Rattle.sample_binder.specs.Parts.{payload_of}
use Rattle.sample_binder.specs.declared.out.Run.{Run}
use Rattle.release_form.specs.Refusals.{refusal_number}
use Rattle.release_form.specs.Release.{IsPushed}
use Rattle.release_form.specs.declared.refusal.Refusal.{Refusal}
use Rattle.release_form.specs.declared.shown.Shown.{Shown}
use Rattle.release_form.specs.declared.shown.Shown.TheVariants as shown
use Rattle.stream_routes.specs.Ports.{IsRouteAt, ports_of}
use Rattle.difi_gateway.specs.Releases.{Release, copies}
use Rattle.difi_gateway.specs.State.{Gated, packet_in, stream_in, stream_at, items_in, copies_left, IsPlaced}
use Rattle.difi_gateway.specs.Written.{CanBeWritten}
use Rattle.difi_gateway.specs.Writing.{Appends, IsNextCopy, number_of_copies, copies_behind, one_copy_on}
use Rattle.difi_gateway.specs.Telling.{Telling}
use Rattle.difi_gateway.specs.Telling as telling

-- ---- the packet that is told

pub payload_rest : (packet : List ℕ) (n : ℕ) → n ≡ min (length packet) 28 → take (length packet - n) (drop n packet) ≡ payload_of packet
payload_rest packet n e = elim (cases_lt (length packet) 28) [
  | inl short ↦
      let is : n ≡ length packet = omega (arith, e, short) in
      ap (λ k. take (length packet - k) (drop k packet)) is ∙ ap (take (length packet - length packet)) (drop_all (length packet) packet (omega arith)) ∙ take_all _ [] (omega arith)
      ∙ sym (drop_all 28 packet (omega (arith, short)))
  | inr long ↦
      let is : n ≡ 28 = omega (arith, e, long) in
      ap (λ k. take (length packet - k) (drop k packet)) is ∙ take_all (length packet - 28) (drop 28 packet) (omega (arith, length-drop 28 packet))
]

pub packet_last : (buffers : List Buffer) (buf : Buffer) → slice_get buffers (length buffers - 1) ≡ Some buf → buf.bytes ≡ packet_in buffers
packet_last [] buf e = absurd (none-some _ e)
packet_last (b ∷ []) buf e = ap (λ (x : Buffer). x.bytes) (sym (same_Some _ _ e))
packet_last (b ∷ c ∷ rest) buf e =
    let at : length (b ∷ c ∷ rest) - 1 ≡ suc (length (c ∷ rest) - 1) = omega arith in
    packet_last (c ∷ rest) buf (ap (slice_get (b ∷ c ∷ rest)) (sym at) ∙ e)

-- ---- the routes

pub route_in : (routes : List Route) (index : ℕ) (stream : ℕ) → IsRouteAt routes stream index → stream ≡ stream_at routes index
route_in routes index stream h = sym (ap stream_in h.there ∙ h.stream_is)

pub some_route : (routes : List Route) (index : ℕ) → index < length routes → IsRouteAt routes (stream_at routes index) index
some_route [] index lt = absurd (omega (arith, lt))
some_route (route ∷ routes) index lt =
    let there = slice_get-get_or (route ∷ routes) index route lt in
    record { route = _; there = there; stream_is = sym (ap stream_in there) }

-- ---- the next copy

next_of : {X : Type 0} (f : ℕ → X) (ports : List ℕ) (place port : ℕ) → slice_get ports place ≡ Some port
    → drop place (map f ports ++ []) ≡ f port ∷ drop (place + 1) (map f ports ++ [])
next_of {X} f ports place port e =
    let within : place < length ports = slice_get_within ports place port e in
    let first : drop place ports ≡ port ∷ drop (place + 1) ports =
    drop_more ports place 0 within ∙ ap (λ p. p ∷ drop (place + 1) ports) (get_or_from_slice_get ports place port 0 e) in
    ap (drop place) (append-nil (map f ports)) ∙ drop-map f place ports ∙ ap (map f) first
    ∙ ap (λ l. f port ∷ l) (sym (drop-map f (place + 1) ports) ∙ ap (drop (place + 1)) (sym (append-nil (map f ports))))

-- the next release is that, for what is told
abbrev IsNextOf : Gated → Shown → List ℕ → Telling → Type 0
IsNextOf gate said payload t =
    drop gate.place (copies gate.routes (items_in gate.routes (packet_in gate.empty) t))
    ≡ record { shown = said; payload = payload } ∷ drop (gate.place + 1) (copies gate.routes (items_in gate.routes (packet_in gate.empty) t))

module _ (gate : Gated) (index port : ℕ) (there : slice_get (ports_of gate.routes (stream_at gate.routes index)) gate.place ≡ Some port) where
  pub run_next : (stream lost : ℕ) (run : Run) → stream ≡ stream_at gate.routes index → gate.telling ≡ telling.Run index lost run
      → IsNextOf gate (shown.Run stream port lost run) (payload_of (packet_in gate.empty)) gate.telling
  run_next stream lost run same e =
      subst (λ (s : ℕ). IsNextOf gate (shown.Run s port lost run) (payload_of (packet_in gate.empty)) gate.telling) (sym same)
      (subst (λ (t : Telling). IsNextOf gate (shown.Run (stream_at gate.routes index) port lost run) (payload_of (packet_in gate.empty)) t) (sym e)
      (next_of (λ p. record { shown = shown.Run (stream_at gate.routes index) p lost run; payload = payload_of (packet_in gate.empty) })
      (ports_of gate.routes (stream_at gate.routes index)) gate.place port there))

  pub version_next : gate.telling ≡ telling.Version index → IsNextOf gate (shown.Version port) (packet_in gate.empty) gate.telling
  version_next e =
      subst (λ (t : Telling). IsNextOf gate (shown.Version port) (packet_in gate.empty) t) (sym e)
      (next_of (λ p. record { shown = shown.Version p; payload = packet_in gate.empty })
      (ports_of gate.routes (stream_at gate.routes index)) gate.place port there)

-- a refusal is written once
module _ (gate : Gated) (frame port : ℕ) (refusal : Refusal) (detail : ℕ) (stamp : Option TimeStamp) where
  abbrev refused_release : Release
  refused_release = record { shown = shown.Refused frame port (refusal_number refusal) detail stamp; payload = [] }

  refused_next : gate.telling ≡ telling.Refused frame port refusal detail stamp → IsPlaced gate.routes gate.telling gate.place
      → copies_left gate ≡ refused_release ∷ copies_behind gate
  refused_next e placed =
      let first : gate.place ≡ 0 = subst (λ (t : Telling). IsPlaced gate.routes t gate.place) e placed in
      subst (λ (t : Telling). drop gate.place (copies gate.routes (items_in gate.routes (packet_in gate.empty) t))
      ≡ refused_release ∷ drop (gate.place + 1) (copies gate.routes (items_in gate.routes (packet_in gate.empty) t))) (sym e)
      (subst (λ n. drop n (refused_release ∷ []) ≡ refused_release ∷ drop (n + 1) (refused_release ∷ [])) (sym first) refl)

  pub refused_first : gate.telling ≡ telling.Refused frame port refusal detail stamp → IsPlaced gate.routes gate.telling gate.place
      → AllByRecursion CanBeWritten (copies_left gate) → (before after : List ℕ) (number : ℕ) → number ≡ refusal_number refusal
      → IsPushed (shown.Refused frame port number detail stamp) [] before after → Appends (IsNextCopy gate) before after
  refused_first e placed can before after number is pushed =
      let next = refused_next e placed in
      let p : IsPushed (shown.Refused frame port (refusal_number refusal) detail stamp) [] before after =
      subst (λ n. IsPushed (shown.Refused frame port n detail stamp) [] before after) is pushed in
      let fits = (subst (AllByRecursion CanBeWritten) next can).0.fits in record {
        bytes = p.bytes;
        fit = p.fit;
        short = omega (arith, p.size_is, fits);
        behind = p.behind;
        is = record { release = refused_release; copies_are = next; written = p.is };
      }

-- ---- how many there are

abbrev pub HasCopies : List Route → ℕ → Telling → Type 0
HasCopies routes number t = (packet : List ℕ) → length (copies routes (items_in routes packet t)) ≡ number

number_of : {X : Type 0} (f : ℕ → X) (ports : List ℕ) → length (map f ports ++ []) ≡ length ports
number_of f ports = ap length (append-nil (map f ports)) ∙ length-map ports f

pub run_number : (routes : List Route) (index lost : ℕ) (run : Run) (number : ℕ) (t : Telling)
    → number ≡ length (ports_of routes (stream_at routes index)) → t ≡ telling.Run index lost run → HasCopies routes number t
run_number routes index lost run number t e same =
    subst (HasCopies routes number) (sym same) (λ packet. number_of _ (ports_of routes (stream_at routes index)) ∙ sym e)

pub version_number : (routes : List Route) (index : ℕ) (number : ℕ) (t : Telling)
    → number ≡ length (ports_of routes (stream_at routes index)) → t ≡ telling.Version index → HasCopies routes number t
version_number routes index number t e same =
    subst (HasCopies routes number) (sym same) (λ packet. number_of _ (ports_of routes (stream_at routes index)) ∙ sym e)

-- ---- one copy on

module _ (old new : Gated) (after : new ≡ one_copy_on old) where
  abbrev pub on : Gated
  on = record old { place = old.place + 1 }

  abbrev pub none : Gated
  none = record old { telling = telling.Nothing; place = 0 }

  pub is_on : old.place + 1 < number_of_copies old.routes old.telling → new ≡ on
  is_on lt =
      let test : nat_lt (old.place + 1) (number_of_copies old.routes old.telling) ≡ true = grind (arith, nat_tests) in
      after ∙ ap (λ b. cond b on none) test

  pub is_none : number_of_copies old.routes old.telling ≤ old.place + 1 → new ≡ none
  is_none le =
      let test : nat_lt (old.place + 1) (number_of_copies old.routes old.telling) ≡ false = grind (arith, nat_tests) in
      after ∙ ap (λ b. cond b on none) test

  pub copies_on : HasCopies old.routes (number_of_copies old.routes old.telling) old.telling → copies_left new ≡ copies_behind old
  copies_on number = elim (cases_lt (old.place + 1) (number_of_copies old.routes old.telling)) [
    | inl lt ↦ ap copies_left (is_on lt)
    | inr le ↦ ap copies_left (is_none le) ∙ sym (drop_all (old.place + 1) _ (omega (arith, le, number (packet_in old.empty))))
  ]

  next_placed : (routes : List Route) (t : Telling) (place : ℕ) → IsPlaced routes t place → place + 1 < number_of_copies routes t → IsPlaced routes t (place + 1)
  next_placed routes telling.Nothing place h lt = tt
  next_placed routes (telling.Refused frame port refusal detail stamp) place h lt = absurd (omega (arith, lt))
  next_placed routes (telling.Run index lost run) place h lt = (h.0, lt)
  next_placed routes (telling.Version index) place h lt = (h.0, lt)

  pub placed_on : IsPlaced old.routes old.telling old.place → IsPlaced new.routes new.telling new.place
  placed_on h = elim (cases_lt (old.place + 1) (number_of_copies old.routes old.telling)) [
    | inl lt ↦ subst (λ (g : Gated). IsPlaced g.routes g.telling g.place) (sym (is_on lt)) (next_placed old.routes old.telling old.place h lt)
    | inr le ↦ subst (λ (g : Gated). IsPlaced g.routes g.telling g.place) (sym (is_none le)) tt
  ]
