-- What replay tells of the header, of one frame more, of the releases that are owed, and of the end.
use Rattle.std.proofs.Common.{◌≡◌, ◌⊎◌, inl, inr, ℕ, zero, suc, ◌+◌, Bool, true, false, List, [], ◌∷◌, ◌++◌, length, drop, slice_get, Option, Some, None, refl, sym, ap, ◌∙◌, subst, append_assoc, append-nil, arith}
use Rattle.std.proofs.Math.Seq.{drop-nil}
use Rattle.std.proofs.lemmas.Option.{get_or_from_slice_get}
use Rattle.std.specs.Prelude.{◌<◌, ◌^◌, if◌then◌else◌, is_some, IsTrue}
use Rattle.vrt_words.specs.Words.{AreBytes}
use Rattle.vrt_time.specs.Time.{TimeStamp}
use Rattle.vrt_fields.specs.declared.route.Route.{Route}
use Rattle.replay_form.specs.FrameFields.{Frame}
use Rattle.replay_form.specs.Reading.{Reading, IsFrameIn, held_frame}
use Rattle.replay_form.specs.RecordGrammar.{record_grammar, record_reads}
use Rattle.replay_form.specs.declared.record_head.RecordHead.{RecordHead}
use Rattle.record_run.specs.Tells.{GoesOn, KeepsCount, CountsFrame, Puts, PutsEnd, IsSettled}
use Rattle.record_run.specs.Outcome.{Moves, IsOutcome}
use Rattle.record_run.specs.declared.status.Status.{Status}
use Rattle.record_run.proofs.Retold.{outcome_retold}
use Rattle.release_form.specs.Release.{IsRecordOf}
use Rattle.difi_gateway.specs.Contents.{Content, IsContent, Received}
use Rattle.difi_gateway.specs.Releases.{Release, AreRecordsOf, copies, part_of, out_of}
use Rattle.difi_gateway.specs.State.{Gated, StandsFor, IsAtRest, end_left, is_ended, items_in, items_left, packet_in, releases_of}
use Rattle.difi_gateway.specs.Writing.{Appends}
use Rattle.difi_gateway.specs.Progress.{IsAllGiven, IsGiven, IsNextGiven, IsNoneGiven, IsSettledAt, may_be_told, owed_by_telling, records_owed}
use Rattle.difi_gateway.specs.Replayed.{replay_of, replay_tells}
use Rattle.difi_gateway.specs.Replaying.{IsToldAt, IsToldBy, IsToldOpen, is_over, owed_by, taken_by, told_by_gateway}
use Rattle.difi_gateway.specs.Telling.{Telling}
use Rattle.difi_gateway.specs.Telling as telling
use Rattle.difi_gateway.specs.declared.stage.Stage.{Stage}
use Rattle.difi_gateway.specs.declared.stage.Stage.TheVariants as stages
use Rattle.difi_gateway.proofs.AdvanceLemmas.{settled_given}
use Rattle.difi_gateway.proofs.Growth.{end_releases, out-append, part-append}

-- ---- a release that was written

drop_here : {X : Type 0} (xs : List X) (n : ℕ) (x : X) → slice_get xs n ≡ Some x → drop n xs ≡ x ∷ drop (suc n) xs
drop_here [] zero x e = absurd (cc)
drop_here [] (suc n) x e = absurd (cc)
drop_here {X} (y ∷ xs) zero x e = ap (λ (z : X). z ∷ xs) (get_or_from_slice_get (y ∷ xs) 0 x x e)
drop_here (y ∷ xs) (suc n) x e = drop_here xs n x e

first_given : (releases : List Release) (given : ℕ) (release : Release) (bytes more : List ℕ) → slice_get releases given ≡ Some release → AreBytes bytes
    → IsRecordOf release.shown release.payload bytes → AreRecordsOf (drop (given + 1) releases) more → AreRecordsOf (drop given releases) (bytes ++ more)
first_given releases given release bytes more at fit is rest =
    let next : given + 1 ≡ suc given = omega arith in
    subst (λ rs. AreRecordsOf rs (bytes ++ more)) (sym (drop_here releases given release at))
    (bytes, (more, (record { fit = fit; is = is }, (subst (λ n. AreRecordsOf (drop n releases) more) next rest, refl))))

in_front : {X : Type 0} (xs ys : List X) (n : ℕ) (x : X) → slice_get xs n ≡ Some x → slice_get (xs ++ ys) n ≡ Some x
in_front [] ys n x e = absurd (cc)
in_front (z ∷ xs) ys zero x e = e
in_front (z ∷ xs) ys (suc n) x e = in_front xs ys n x e

-- the releases of frames stay with more frames behind them
abbrev pub Keeps : RecordHead → (RecordHead → List Received → List Release) → Type 0
Keeps head releases =
    (received later : List Received) (n : ℕ) (release : Release) → slice_get (part_of head received) n ≡ Some release → slice_get (releases head (received ++ later)) n ≡ Some release

part_keeps : (head : RecordHead) → Keeps head part_of
part_keeps head received later n release e =
    subst (λ rs. slice_get rs n ≡ Some release) (sym (part-append head received later)) (in_front (part_of head received) _ n release e)

out_keeps : (head : RecordHead) → Keeps head out_of
out_keeps head received later n release e =
    subst (λ rs. slice_get rs n ≡ Some release) (sym (out-append head (received ++ later)))
    (in_front (part_of head (received ++ later)) (end_releases head (received ++ later)) n release (part_keeps head received later n release e))

-- ---- what a call says

abbrev pub TakesFrame : TimeStamp → ℕ → List ℕ → Gated → Gated → Type 0
TakesFrame stamp port datagram old new =
    (head : RecordHead) (received : List Received) (given : ℕ) → StandsFor old head received false given
    → (content : Content) × IsContent head datagram content
    × StandsFor new head (received ++ record { frame = record { stamp = stamp; port = port; datagram = datagram }; content = content } ∷ []) false given

abbrev pub GivesNext : Gated → List ℕ → Gated → Type 0
GivesNext old bytes new =
    (head : RecordHead) (received : List Received) (ended : Bool) (given : ℕ) → StandsFor old head received ended given
    → IsGiven head received ended given bytes × StandsFor new head received ended (given + 1)

abbrev pub GivesNone : Gated → Gated → Type 0
GivesNone old new =
    (head : RecordHead) (received : List Received) (ended : Bool) (given : ℕ) → StandsFor old head received ended given
    → IsAllGiven head received ended given × StandsFor new head received ended given

abbrev pub TakesEnd : Gated → Gated → Type 0
TakesEnd old new = (head : RecordHead) (received : List Received) (given : ℕ) → StandsFor old head received false given → StandsFor new head received true given

-- ---- what the reader lends

head_is : (started : Bool) (head other : RecordHead) → started ≡ true → (if started then Some head else None) ≡ Some other → head ≡ other
head_is true head other e same = cc
head_is false head other e same = cc

-- ---- the header

none_so_far : (gateway : Option Gated) (answer : Bool) → answer ≡ is_some gateway → answer ≡ false → gateway ≡ None
none_so_far None answer is e = refl
none_so_far (Some it) answer is e = absurd (cc)

taken_none : (head : RecordHead) (new : Gated) → StandsFor new head [] false 0 → new.taken ≡ 0
taken_none head new stands = stands.taken

pub begun_keeps : (head : RecordHead) (inside old : Option Gated) (new : Gated) (answer : Bool) → inside ≡ old → answer ≡ is_some inside → answer ≡ false
    → StandsFor new head [] false 0 → KeepsCount (told_by_gateway old) (told_by_gateway (Some new))
begun_keeps head inside old new answer view is e stands =
    subst (λ (g : Option Gated). KeepsCount (told_by_gateway g) (told_by_gateway (Some new))) (sym (sym view ∙ none_so_far inside answer is e)) (record {
      count = taken_none head new stands;
      wants = refl;
      ended = sym stands.ended_is;
    })

begun_open : (releases : RecordHead → List Received → List Release) (head : RecordHead) (new : Gated) → StandsFor new head [] false 0 → (later : List Frame) (more : List ℕ)
    → IsToldBy releases (Some new) head later more → IsToldBy releases None head later more
begun_open releases head new stands later more p =
    let q : IsToldOpen releases new head later more = subst (λ (b : Bool). IsToldAt b releases new head later more) (sym stands.ended_is) p in
    q [] 0 stands

pub begun_on : (reader : Reading) (lent head : RecordHead) (inside old : Option Gated) (new : Gated) (answer : Bool) → inside ≡ old → answer ≡ is_some inside → answer ≡ false
    → (reader.started ≡ true) × (lent ≡ reader.head) → (record_reads reader).head ≡ Some head
    → StandsFor new lent [] false 0 → GoesOn head [] [] (told_by_gateway old) (told_by_gateway (Some new))
begun_on reader lent head inside old new answer view is e has known stands =
    let same : lent ≡ head = has.1 ∙ head_is reader.started reader.head head has.0 known in
    let at : StandsFor new head [] false 0 = subst (λ (h : RecordHead). StandsFor new h [] false 0) same stands in
    subst (λ (g : Option Gated). GoesOn head [] [] (told_by_gateway g) (told_by_gateway (Some new))) (sym (sym view ∙ none_so_far inside answer is e)) (record {
      part = begun_open part_of head new at;
      out = begun_open out_of head new at;
    })

-- ---- one frame more

frame_open : (releases : RecordHead → List Received → List Release) (head : RecordHead) (stamp : TimeStamp) (port : ℕ) (datagram : List ℕ) (old new : Gated) → TakesFrame stamp port datagram old new
    → (later : List Frame) (more : List ℕ) → IsToldOpen releases new head later more
    → IsToldOpen releases old head (record { stamp = stamp; port = port; datagram = datagram } ∷ later) more
frame_open releases head stamp port datagram old new takes later more p = λ received given stands.
    let t = takes head received given stands in
    let r : Received = record { frame = record { stamp = stamp; port = port; datagram = datagram }; content = t.0 } in
    let q = p (received ++ r ∷ []) given t.2 in (
      r ∷ q.0,
      (
        record { frames_are = ap (λ fs. r.frame ∷ fs) q.1.0.frames_are; contents = (t.1, q.1.0.contents) },
        subst (λ rs. AreRecordsOf (drop given (releases head rs)) more) (append_assoc received (r ∷ []) q.0) q.1.1,
      ),
    )

frame_at : (releases : RecordHead → List Received → List Release) (head : RecordHead) (stamp : TimeStamp) (port : ℕ) (datagram : List ℕ) (old new : Gated) → TakesFrame stamp port datagram old new
    → is_ended old.stage ≡ false → is_ended new.stage ≡ false → (later : List Frame) (more : List ℕ) → IsToldAt (is_ended new.stage) releases new head later more
    → IsToldAt (is_ended old.stage) releases old head (record { stamp = stamp; port = port; datagram = datagram } ∷ later) more
frame_at releases head stamp port datagram old new takes is now later more p =
    subst (λ (b : Bool). IsToldAt b releases old head (record { stamp = stamp; port = port; datagram = datagram } ∷ later) more) (sym is)
    (frame_open releases head stamp port datagram old new takes later more (subst (λ (b : Bool). IsToldAt b releases new head later more) now p))

pub frame_on : (reader : Reading) (bytes : List ℕ) (head : RecordHead) (frame : Frame) (stamp : TimeStamp) (port : ℕ) (datagram waiting : List ℕ) (old new : Gated)
    → (reader.whole ≡ true) × (held_frame reader bytes ≡ record { stamp = stamp; port = port; datagram = datagram }) → (record_reads reader).frame bytes frame
    → TakesFrame stamp port datagram old new → is_ended old.stage ≡ false → is_ended new.stage ≡ false
    → Puts head (frame ∷ []) waiting waiting (told_by_gateway (Some old)) (told_by_gateway (Some new))
frame_on reader bytes head frame stamp port datagram waiting old new has whole takes is now =
    let same : record { stamp = stamp; port = port; datagram = datagram } ≡ frame = sym has.1 ∙ sym whole.1.0 in
    subst (λ (f : Frame). Puts head (f ∷ []) waiting waiting (told_by_gateway (Some old)) (told_by_gateway (Some new))) same (record {
      text = [];
      put = sym (append-nil waiting);
      goes = record {
        part = frame_at part_of head stamp port datagram old new takes is now;
        out = frame_at out_of head stamp port datagram old new takes is now;
      };
    })

rest_at : (stage : Stage) (t : Telling) (n : ℕ) → owed_by_telling stage t (1 + n) ≡ 0 → is_ended stage ≡ false → (stage ≡ stages.Waiting) × (t ≡ telling.Nothing)
rest_at stages.Waiting telling.Nothing n e f = (refl, refl)
rest_at (stages.Drawing index) telling.Nothing n e f = absurd (omega (arith, e))
rest_at (stages.Ending index) telling.Nothing n e f = absurd (omega (arith, e))
rest_at stages.Over telling.Nothing n e f = absurd (cc)
rest_at stage (telling.Refused frame port refusal detail stamp) n e f = absurd (omega (arith, e))
rest_at stage (telling.Run index lost run) n e f = absurd (omega (arith, e))
rest_at stage (telling.Version index) n e f = absurd (omega (arith, e))

-- nothing is owed, and the end was not told
pub is_at_rest : (gate : Gated) → records_owed gate ≡ 0 → is_ended gate.stage ≡ false → IsAtRest gate
is_at_rest gate e f = let r = rest_at gate.stage gate.telling _ e f in record { stage = r.0; telling = r.1 }

-- the gateway of a teller whose header came
module _ (inside old : Option Gated) (gateway : Gated) (view : inside ≡ old) (is : inside ≡ Some gateway) where
  is_old : old ≡ Some gateway
  is_old = sym view ∙ is

  pub still_over : (ended : Bool) → is_over old ≡ ended → is_ended gateway.stage ≡ ended
  still_over ended e = subst (λ (g : Option Gated). is_over g ≡ ended) is_old e

  pub may_take : owed_by old ≡ 0 → is_over old ≡ false → IsAtRest gateway
  may_take owed e = is_at_rest gateway (subst (λ (g : Option Gated). owed_by g ≡ 0) is_old owed) (still_over false e)

  pub may_count : (reader : Reading) (bytes : List ℕ) (stamp : TimeStamp) (port : ℕ) (datagram : List ℕ)
      → (reader.whole ≡ true) × (held_frame reader bytes ≡ record { stamp = stamp; port = port; datagram = datagram })
      → IsFrameIn reader bytes → ((frame : Frame) → (record_reads reader).frame bytes frame → taken_by old + 1 + length frame.datagram < 2 ^ 63)
      → gateway.taken + 1 + length datagram < 2 ^ 63
  may_count reader bytes stamp port datagram has lies count =
      let size : length (held_frame reader bytes).datagram ≡ length datagram = ap (λ (f : Frame). length f.datagram) has.1 in
      let taken : taken_by old ≡ gateway.taken = ap taken_by is_old in
      omega (arith, count (held_frame reader bytes) (has.0, (refl, lies)), size, taken)

  pub one_counted : (reader : Reading) (bytes : List ℕ) (frame : Frame) (stamp : TimeStamp) (port : ℕ) (datagram : List ℕ) (new : Gated)
      → (reader.whole ≡ true) × (held_frame reader bytes ≡ record { stamp = stamp; port = port; datagram = datagram }) → (record_reads reader).frame bytes frame
      → new.taken ≡ gateway.taken + 1 + length datagram → is_over old ≡ false → is_ended new.stage ≡ false
      → CountsFrame (length frame.datagram) (told_by_gateway old) (told_by_gateway (Some new))
  one_counted reader bytes frame stamp port datagram new has whole taken e now =
      let size : length frame.datagram ≡ length datagram =
      ap (λ (f : Frame). length f.datagram) (whole.1.0 ∙ has.1) in
      let before : taken_by old ≡ gateway.taken = ap taken_by is_old in record {
        count = omega (arith, taken, size, before);
        wants = refl;
        ended = now ∙ sym e;
      }

  pub one_told : (reader : Reading) (bytes : List ℕ) (head : RecordHead) (frame : Frame) (stamp : TimeStamp) (port : ℕ) (datagram waiting : List ℕ) (new : Gated)
      → (reader.whole ≡ true) × (held_frame reader bytes ≡ record { stamp = stamp; port = port; datagram = datagram }) → (record_reads reader).frame bytes frame
      → TakesFrame stamp port datagram gateway new → is_over old ≡ false → is_ended new.stage ≡ false
      → Puts head (frame ∷ []) waiting waiting (told_by_gateway old) (told_by_gateway (Some new))
  one_told reader bytes head frame stamp port datagram waiting new has whole takes e now =
      subst (λ (g : Option Gated). Puts head (frame ∷ []) waiting waiting (told_by_gateway g) (told_by_gateway (Some new))) (sym is_old)
      (frame_on reader bytes head frame stamp port datagram waiting gateway new has whole takes (still_over false e) now)

-- ---- what is owed

next_at : (releases : RecordHead → List Received → List Release) (head : RecordHead) → Keeps head releases → (old : Gated) (bytes : List ℕ) (new : Gated) → AreBytes bytes → GivesNext old bytes new
    → (ended : Bool) (later : List Frame) (more : List ℕ) → IsToldAt ended releases new head later more → IsToldAt ended releases old head later (bytes ++ more)
next_at releases head keeps old bytes new fit gives false later more p = λ received given stands.
    let g = gives head received false given stands in
    let q = p received (given + 1) g.1 in (
      q.0,
      (q.1.0, first_given (releases head (received ++ q.0)) given g.0.release bytes more (keeps received q.0 given g.0.release g.0.next) fit g.0.written q.1.1),
    )
next_at releases head keeps old bytes new fit gives true later more p = λ none received given stands.
    let g = gives head received true given stands in
    first_given (out_of head received) given g.0.release bytes more g.0.next fit g.0.written (p none received (given + 1) g.1)

pub next_on : (head : RecordHead) (waiting waiting' : List ℕ) (old : Gated) (bytes : List ℕ) (new : Gated) → waiting' ≡ waiting ++ bytes → AreBytes bytes → GivesNext old bytes new
    → is_ended new.stage ≡ is_ended old.stage → Puts head [] waiting waiting' (told_by_gateway (Some old)) (told_by_gateway (Some new))
next_on head waiting waiting' old bytes new put fit gives same = record {
  text = bytes;
  put = put;
  goes = record {
    part = λ later more p. next_at part_of head (part_keeps head) old bytes new fit gives (is_ended old.stage) later more (subst (λ (b : Bool). IsToldAt b part_of new head later more) same p);
    out = λ later more p. next_at out_of head (out_keeps head) old bytes new fit gives (is_ended old.stage) later more (subst (λ (b : Bool). IsToldAt b out_of new head later more) same p);
  };
}

none_at : (releases : RecordHead → List Received → List Release) (head : RecordHead) (old new : Gated) → GivesNone old new → (ended : Bool) (later : List Frame) (more : List ℕ)
    → IsToldAt ended releases new head later more → IsToldAt ended releases old head later more
none_at releases head old new gives false later more p = λ received given stands. p received given (gives head received false given stands).1
none_at releases head old new gives true later more p = λ none received given stands. p none received given (gives head received true given stands).1

pub none_on : (head : RecordHead) (waiting : List ℕ) (old new : Gated) → GivesNone old new → is_ended new.stage ≡ is_ended old.stage
    → Puts head [] waiting waiting (told_by_gateway (Some old)) (told_by_gateway (Some new))
none_on head waiting old new gives same = record {
  text = [];
  put = sym (append-nil waiting);
  goes = record {
    part = λ later more p. none_at part_of head old new gives (is_ended old.stage) later more (subst (λ (b : Bool). IsToldAt b part_of new head later more) same p);
    out = λ later more p. none_at out_of head old new gives (is_ended old.stage) later more (subst (λ (b : Bool). IsToldAt b out_of new head later more) same p);
  };
}

-- ---- nothing is owed

no_copies : (place : ℕ) (routes : List Route) (packet : List ℕ) (t : Telling) → t ≡ telling.Nothing → drop place (copies routes (items_in routes packet t)) ≡ []
no_copies place routes packet t e = ap (λ (u : Telling). drop place (copies routes (items_in routes packet u))) e ∙ drop-nil place

none_behind : (head : RecordHead) (received : List Received) (gate : Gated) (left : _) (stage : Stage) → (stage ≡ stages.Waiting) ⊎ (stage ≡ stages.Over)
    → copies head.routes (items_left head received gate left stage) ++ end_left head received stage ≡ []
none_behind head received gate left stage (inl e) = ap (λ (s : Stage). copies head.routes (items_left head received gate left s) ++ end_left head received s) e
none_behind head received gate left stage (inr e) = ap (λ (s : Stage). copies head.routes (items_left head received gate left s) ++ end_left head received s) e

none_left : (gate : Gated) (head : RecordHead) (received : List Received) (ended : Bool) (given : ℕ) → IsSettledAt gate → StandsFor gate head received ended given
    → drop given (releases_of head received ended) ≡ []
none_left gate head received ended given settled stands =
    stands.rest
    ∙ ap (λ rs. rs ++ (copies head.routes (items_left head received gate stands.left gate.stage) ++ end_left head received gate.stage))
    (no_copies gate.place gate.routes (packet_in gate.empty) gate.telling settled.telling)
    ∙ none_behind head received gate stands.left gate.stage settled.stage

owed_none : (stage : Stage) (t : Telling) (number : ℕ) → t ≡ telling.Nothing → (stage ≡ stages.Waiting) ⊎ (stage ≡ stages.Over) → owed_by_telling stage t number ≡ 0
owed_none stage t number e (inl f) = ap (λ (u : Telling). owed_by_telling stage u number) e ∙ ap (λ (s : Stage). owed_by_telling s telling.Nothing number) f
owed_none stage t number e (inr f) = ap (λ (u : Telling). owed_by_telling stage u number) e ∙ ap (λ (s : Stage). owed_by_telling s telling.Nothing number) f

settled_part : (gate : Gated) → IsSettledAt gate → (head : RecordHead) (ended : Bool) → IsToldAt ended part_of gate head [] []
settled_part gate settled head false = λ received given stands. (
  [],
  (
    record { frames_are = refl; contents = tt },
    subst (λ rs. AreRecordsOf rs []) (sym (ap (λ (l : List Received). drop given (part_of head l)) (append-nil received) ∙ none_left gate head received false given settled stands)) refl,
  ),
)
settled_part gate settled head true = λ none received given stands. subst (λ rs. AreRecordsOf rs []) (sym (none_left gate head received true given settled stands)) refl

settled_out : (gate : Gated) → IsSettledAt gate → (head : RecordHead) (ended : Bool) → ended ≡ true → IsToldAt ended out_of gate head [] []
settled_out gate settled head false e = absurd (cc)
settled_out gate settled head true e = λ none received given stands. subst (λ rs. AreRecordsOf rs []) (sym (none_left gate head received true given settled stands)) refl

pub none_owed : (gateway : Gated) → IsSettledAt gateway → IsSettled (told_by_gateway (Some gateway))
none_owed gateway settled = record {
  started = refl;
  owed = owed_none gateway.stage gateway.telling (may_be_told gateway) settled.telling settled.stage;
  part = λ head. settled_part gateway settled head (is_ended gateway.stage);
  out = λ ended head. settled_out gateway settled head (is_ended gateway.stage) ended;
}

-- ---- the end

pub end_on : (head : RecordHead) (waiting : List ℕ) (old new : Gated) → TakesEnd old new → is_ended old.stage ≡ false → is_ended new.stage ≡ true
    → PutsEnd head waiting waiting (told_by_gateway (Some old)) (told_by_gateway (Some new))
end_on head waiting old new takes is now = record {
  text = [];
  put = sym (append-nil waiting);
  out = λ more p.
      let q = subst (λ (b : Bool). IsToldAt b out_of new head [] more) now p in
      subst (λ (b : Bool). IsToldAt b out_of old head [] more) (sym is) (λ received given stands. (
        [],
        (
          record { frames_are = refl; contents = tt },
          subst (λ (l : List Received). AreRecordsOf (drop given (out_of head l)) more) (sym (append-nil received)) (q refl received given (takes head received given stands)),
        ),
      ));
  ended = now;
}

-- ---- a release that is owed, and the end, of a teller whose header came

module _ (inside old : Option Gated) (gateway : Gated) (view : inside ≡ old) (is : inside ≡ Some gateway) where
  was : old ≡ Some gateway
  was = sym view ∙ is

  pub one_written : (head : RecordHead) (waiting waiting' bytes : List ℕ) (new : Gated) → waiting' ≡ waiting ++ bytes → AreBytes bytes → GivesNext gateway bytes new
      → is_ended new.stage ≡ is_ended gateway.stage → Puts head [] waiting waiting' (told_by_gateway old) (told_by_gateway (Some new))
  one_written head waiting waiting' bytes new put fit gives same =
      subst (λ (g : Option Gated). Puts head [] waiting waiting' (told_by_gateway g) (told_by_gateway (Some new))) (sym was) (next_on head waiting waiting' gateway bytes new put fit gives same)

  pub none_written : (head : RecordHead) (waiting : List ℕ) (new : Gated) → GivesNone gateway new
      → is_ended new.stage ≡ is_ended gateway.stage → Puts head [] waiting waiting (told_by_gateway old) (told_by_gateway (Some new))
  none_written head waiting new gives same =
      subst (λ (g : Option Gated). Puts head [] waiting waiting (told_by_gateway g) (told_by_gateway (Some new))) (sym was) (none_on head waiting gateway new gives same)

  -- the next release is put, if one is owed
  pub next_told : (head : RecordHead) (new : Gated) (waiting waiting' : List ℕ) (result : Bool) → (IsTrue result → Appends (λ bytes. IsNextGiven bytes gateway new) waiting waiting')
      → (result ≡ false → waiting' ≡ waiting) → (result ≡ false → IsNoneGiven gateway new) → Puts head [] waiting waiting' (told_by_gateway old) (told_by_gateway (Some new))
  next_told head new waiting waiting' true given same none =
      let p = given refl in
      one_written head waiting waiting' p.bytes new p.behind p.fit p.is.next p.is.ended
  next_told head new waiting waiting' false given same none =
      let n = none refl in
      subst (λ (w : List ℕ). Puts head [] waiting w (told_by_gateway old) (told_by_gateway (Some new))) (sym (same refl))
      (none_written head waiting new
      (λ h received ended given st. (settled_given gateway h received ended given st n.settled, subst (λ (g : Gated). StandsFor g h received ended given) (sym n.same) st))
      (ap (λ (g : Gated). is_ended g.stage) n.same))

  pub count_kept : (new : Gated) → new.taken ≡ gateway.taken → is_ended new.stage ≡ is_ended gateway.stage
      → KeepsCount (told_by_gateway old) (told_by_gateway (Some new))
  count_kept new taken same = subst (λ (g : Option Gated). KeepsCount (told_by_gateway g) (told_by_gateway (Some new))) (sym was) (record { count = taken; wants = refl; ended = same })

  pub less_owed : (new : Gated) → records_owed new < records_owed gateway → records_owed new < owed_by old
  less_owed new less = subst (λ (g : Option Gated). records_owed new < owed_by g) (sym was) less

  pub end_told : (head : RecordHead) (waiting : List ℕ) (new : Gated) → TakesEnd gateway new → is_over old ≡ false → is_ended new.stage ≡ true
      → PutsEnd head waiting waiting (told_by_gateway old) (told_by_gateway (Some new))
  end_told head waiting new takes e now =
      subst (λ (g : Option Gated). PutsEnd head waiting waiting (told_by_gateway g) (told_by_gateway (Some new))) (sym was)
      (end_on head waiting gateway new takes (subst (λ (g : Option Gated). is_over g ≡ false) was e) now)

-- ---- the run

-- before the header all of the record is told
pub all_told : (most : ℕ) (status : Status) (moves : Moves) (gateway : Option Gated) → gateway ≡ None
    → IsOutcome status (record { most = most; grammar = record_grammar; tells = told_by_gateway gateway }) moves → IsOutcome status (replay_of most) moves
all_told most status moves gateway first =
    outcome_retold most record_grammar (told_by_gateway gateway) replay_tells (record {
      part = λ head frames text p. subst (λ (g : Option Gated). IsToldBy part_of g head frames text) first p;
      out = λ head frames text p. subst (λ (g : Option Gated). IsToldBy out_of g head frames text) first p;
      wants = refl;
    }) status moves
