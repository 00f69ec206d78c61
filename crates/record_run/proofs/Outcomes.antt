-- Between two reads, and what a run comes to.
use Rattle.std.proofs.Common.{◌≡◌, ◌≢◌, ℕ, ◌+◌, ◌-◌, ◌<◌, ◌≤◌, ◌^◌, inl, inr, min, Bool, true, false, List, [], ◌++◌, length, take, Option, refl, sym, ap, ◌∙◌, subst, append-nil, length-append, take_all, arith}
use Rattle.std.specs.Prelude.{Result, Err, Some, None}
use Rattle.std.specs.Io.KnownBytes.{Consumes, IsAtEnd, Keeps, Appends}
use Rattle.std.proofs.KnownBytes.{Consumes-trans, Consumes-kept, Consumes-nil, Appends-nil}
use Rattle.std.proofs.Math.Seq.{take-append-add}
use Rattle.std.proofs.lemmas.List.{take-take, length-take-le, length-take}
use Rattle.std.proofs.lemmas.Bool.{cases_order}
use Rattle.difi_io.specs.Faults.{Rose}
use Rattle.record_run.specs.declared.status.Status.{Status}
use Rattle.record_run.specs.declared.status.Status.TheVariants.{Done, Usage, ReadFault, WriteFault, Memory, BadRecord, TooLong}
use Rattle.replay_form.specs.Grammar.{Grammar, Reads, HasWhole, IsFresh, AreReads}
use Rattle.record_run.specs.Tells.{Tells, GoesOn, IsSettled, HasBegun}
use Rattle.record_run.specs.Outcome.{Behaviour, Moves, IsPart, IsOutput, IsOutcome}
use Rattle.record_run.specs.Progress.{IsSent, IsCutOff}
use Rattle.record_run.specs.Steps.{Way, Sends, IsReady, IsGoing, HeadStays, IsFed, IsTakenAs, IsEnd, IsEndedAs}
use Rattle.record_run.proofs.Sent.{sent_whole, sent_cut}
use Rattle.record_run.proofs.Going.{sends_on}
use Rattle.record_run.proofs.Feeding.{fed_nothing, fed_on, told_on}

take_least : (more count : ℕ) (xs : List ℕ) → take more (take count xs) ≡ take (min count more) xs
take_least more count xs =
    elim (cases_order more count) [
      | inl same ↦ take-take more count xs (omega arith) ∙ ap (λ n. take n xs) (least more count (omega arith))
      | inr apart ↦ elim apart [
        | inl less ↦ take-take more count xs (omega arith) ∙ ap (λ n. take n xs) (least more count (omega arith))
        | inr over ↦ take_all more (take count xs) (omega (arith, length-take count xs)) ∙ ap (λ n. take n xs) (other more count (omega arith))
      ]
    ] where
      least : (more count : ℕ) → more ≤ count → more ≡ min count more
      least more count h = omega arith

      other : (more count : ℕ) → count ≤ more → count ≡ min count more
      other more count h = omega arith

-- the first bytes that may be judged, of those taken and those just read
judged : (taken piece : List ℕ) (most more count : ℕ) → length taken + more ≡ most → take most (taken ++ take count piece) ≡ taken ++ take (min count more) piece
judged taken piece most more count room =
    ap (λ n. take n (taken ++ take count piece)) (sym room) ∙ take-append-add taken (take count piece) more
    ∙ ap (λ l. taken ++ l) (take_least more count piece)

-- ---- a text that was begun with nothing on its way

pub record IsIdle (way : Way) : Type 0 where
  pub sound : way.failed ≡ false
  pub none : way.waiting ≡ []

sent_from : (text : List ℕ) (way way' : Way) → IsIdle way → Sends text way way' → IsSent way'.failed way.held way'.held way.faults way'.faults way'.waiting text
sent_from text way way' idle sends =
    sends way.held way.faults [] (subst (λ (f : Bool). IsSent f way.held way.held way.faults way.faults way.waiting []) (sym idle.sound)
    (subst (λ l. IsSent false way.held way.held way.faults way.faults l []) (sym idle.none) ([], (Appends-nil way.held, (refl, refl)))))

written_from : (text : List ℕ) (way way' : Way) → IsIdle way → IsIdle way' → Sends text way way' → Appends way.held way'.held text
written_from text way way' idle now sends =
    sent_whole way'.failed way.held way'.held way.faults way'.faults way'.waiting text now.sound now.none (sent_from text way way' idle sends)

faults_kept : (failed : Bool) (start held : Option (List ℕ)) (before now : ℕ) (waiting text : List ℕ) → failed ≡ false → IsSent failed start held before now waiting text → now ≡ before
faults_kept false start held before now waiting text e sent = sent.1.1.1
faults_kept true start held before now waiting text e sent = cc

kept_from : (text : List ℕ) (way way' : Way) → IsIdle way → IsIdle way' → Sends text way way' → way'.faults ≡ way.faults
kept_from text way way' idle now sends =
    faults_kept way'.failed way.held way'.held way.faults way'.faults way'.waiting text now.sound (sent_from text way way' idle sends)

cut_from : (text : List ℕ) (way way' : Way) → IsIdle way → way'.failed ≡ true → Sends text way way' → IsCutOff way.held way'.held way.faults way'.faults text
cut_from text way way' idle cut sends =
    sent_cut way'.failed way.held way'.held way.faults way'.faults way'.waiting text cut (sent_from text way way' idle sends)

-- ---- the text of the bytes

pub part_told : {H F : Type 0} (behaviour : Behaviour H F) (head : Option H) (frames : List F) (bytes text : List ℕ) (tells : Tells H F)
    → HasWhole behaviour.grammar head frames bytes → IsGoing head frames text behaviour.tells tells → (head ≢ None → IsSettled tells)
    → IsPart behaviour bytes text
part_told behaviour None frames bytes text tells has going settled = inl (has.1, going.1.0)
part_told behaviour (Some head) frames bytes text tells has going settled =
    inr (
      head,
      (
        frames,
        (
          has,
          subst (λ fs. behaviour.tells.part head fs text) (append-nil frames)
              (subst (behaviour.tells.part head (frames ++ [])) (append-nil text) (going.part [] [] ((settled (λ e. cc)).part head))),
        ),
      ),
    )

out_told : {H F : Type 0} (behaviour : Behaviour H F) (known : Option H) (head : H) (frames : List F) (text rest : List ℕ) (tells : Tells H F) → known ≡ Some head
    → IsGoing known frames text behaviour.tells tells → tells.out head [] rest → behaviour.tells.out head frames (text ++ rest)
out_told behaviour (Some known) head frames text rest tells e going out =
    let same : known ≡ head = cc in
    subst (λ fs. behaviour.tells.out head fs (text ++ rest)) (append-nil frames)
    ((subst (λ (h : _). GoesOn h frames text behaviour.tells tells) same going).out [] rest out)
out_told behaviour None head frames text rest tells e going out = cc

-- ---- between two reads

-- these bytes were read and told of, and so many more may be judged
pub record IsAtRead {H F : Type 0} (behaviour : Behaviour H F) (reads reads' : Reads H F) (tells' : Tells H F) (way way' : Way) (more : ℕ) (left left' : Option (List ℕ)) : Type 0 where
  pub taken : List ℕ
  pub consumed : Consumes left left' taken
  pub room : length taken + more ≡ behaviour.most
  pub most : behaviour.most ≤ 2 ^ 62
  pub begun : IsFresh reads
  pub clear : IsIdle way
  pub ready : IsReady reads' tells'
  pub wants : tells'.wants ≡ behaviour.tells.wants
  pub place : reads'.given ≡ length taken
  pub idle : IsIdle way'
  pub fed : IsFed taken reads reads' behaviour.tells tells' way way' [] []

-- no header is known
none_settled : {H : Type 0} {P : Type 0} (head : Option H) → head ≡ None → head ≢ None → P
none_settled head e some = absurd (some e)

pub begins : {H F : Type 0} (behaviour : Behaviour H F) (reads : Reads H F) (way : Way) (left : Option (List ℕ)) → behaviour.most ≤ 2 ^ 62 → IsFresh reads
    → HasBegun behaviour.tells → IsIdle way → IsAtRead behaviour reads reads behaviour.tells way way behaviour.most left left
begins behaviour reads way left most fresh begun idle = record {
  taken = [];
  consumed = Consumes-nil left;
  room = omega arith;
  most = most;
  begun = fresh;
  clear = idle;
  ready = record { open_ended = begun.open_ended; counted = omega (arith, begun.count); settled = none_settled reads.head fresh.head; standing = ([], ([], fresh.stands)) };
  wants = refl;
  place = fresh.given;
  idle = idle;
  fed = fed_nothing reads behaviour.tells way [] [] fresh.stands;
}

-- what source and sink did
abbrev pub moves_of : Option (List ℕ) → Option (List ℕ) → Way → Way → ℕ → ℕ → Moves
moves_of left left_now way way_now reads reads_now = record {
  left = left;
  left_now = left_now;
  held = way.held;
  held_now = way_now.held;
  reads = reads;
  reads_now = reads_now;
  writes = way.faults;
  writes_now = way_now.faults;
}

pub at_part : {H F : Type 0} (behaviour : Behaviour H F) (reads reads' : Reads H F) (tells' : Tells H F) (way way' : Way) (more : ℕ) (left left' : Option (List ℕ))
    → AreReads behaviour.grammar reads' → (at : IsAtRead behaviour reads reads' tells' way way' more left left') → IsPart behaviour at.taken at.fed.text
at_part behaviour reads reads' tells' way way' more left left' laws at =
    part_told behaviour reads'.head at.fed.later at.taken at.fed.text tells' (laws.has at.taken at.fed.later at.fed.stands) at.fed.going at.ready.settled

-- a read failed
pub read_failed : {H F : Type 0} (behaviour : Behaviour H F) (reads reads' : Reads H F) (tells' : Tells H F) (way way' : Way) (more : ℕ) (left left' left'' : Option (List ℕ)) (before now : ℕ)
    → AreReads behaviour.grammar reads' → IsAtRead behaviour reads reads' tells' way way' more left left' → Keeps left' left'' → Rose before now
    → IsOutcome ReadFault behaviour (moves_of left left'' way way' before now)
read_failed behaviour reads reads' tells' way way' more left left' left'' before now laws at keeps rose = record {
  bytes = at.taken;
  taken = Consumes-kept left left' left'' at.taken at.consumed keeps;
  few = omega (arith, at.room);
  text = at.fed.text;
  written = written_from at.fed.text way way' at.clear at.idle at.fed.sends;
  cause = record {
    rose = rose;
    kept = kept_from at.fed.text way way' at.clear at.idle at.fed.sends;
    within = omega (arith, at.room);
    sound = laws.sound at.taken at.fed.later at.fed.stands;
    part = at_part behaviour reads reads' tells' way way' more left left' laws at;
  };
}

-- the bytes that were just read, of which the first ones may be judged
module _ {H F : Type 0} (behaviour : Behaviour H F) (reads reads' reads'' : Reads H F) (tells' tells'' : Tells H F) (way way' way'' : Way) (more : ℕ) (left left' left'' : Option (List ℕ))
    (at : IsAtRead behaviour reads reads' tells' way way' more left left') (piece : List ℕ) (count : ℕ) (read : Consumes left' left'' (take count piece)) (few : count ≤ more + 1) where
  all_taken : Consumes left left'' (at.taken ++ take count piece)
  all_taken = Consumes-trans left left' left'' at.taken (take count piece) at.consumed read

  few_taken : length (at.taken ++ take count piece) ≤ behaviour.most + 1
  few_taken = omega (arith, at.room, few, length-append at.taken (take count piece), length-take count piece)

  are_judged : take behaviour.most (at.taken ++ take count piece) ≡ at.taken ++ take (min count more) piece
  are_judged = judged at.taken piece behaviour.most more count at.room

  -- a header was not known at the start
  no_head : HeadStays reads.head reads'.head
  no_head = subst (λ (h : Option _). HeadStays h reads'.head) (sym at.begun.head) tt

  -- no more are to come
  pub stopped : (status : Status) (before now : ℕ) → IsTakenAs behaviour.grammar (Err status) (take (min count more) piece) reads' reads'' tells' tells'' way' way'' at.taken at.fed.later
      → (status ≢ WriteFault → way''.failed ≡ false) → (status ≡ WriteFault → way''.failed ≡ true) → way''.waiting ≡ [] → now ≡ before
      → (status ≡ Memory → tells'.wants ≡ true → (reads'.head ≡ None) × (take count piece ≡ take (min count more) piece))
      → IsOutcome status behaviour (moves_of left left'' way way'' before now)
  stopped (BadRecord offset) before now told sound cut none kept memory =
      let all = told_on behaviour.grammar at.taken (take (min count more) piece) reads reads' behaviour.tells tells' tells'' way way' way'' [] [] no_head at.fed told.told in record {
        bytes = at.taken ++ take count piece;
        taken = all_taken;
        few = few_taken;
        text = all.text;
        written = written_from all.text way way'' at.clear (record { sound = sound (λ e. cc); none = none }) all.sends;
        cause = record {
          bad = inl (subst (λ l. behaviour.grammar.wrong l offset) (sym are_judged) told.wrong);
          part = subst (λ l. IsPart behaviour l all.text) (sym are_judged)
              (part_told behaviour all.head all.later (at.taken ++ take (min count more) piece) all.text tells'' all.has all.going all.settled);
        };
      }
  stopped WriteFault before now told sound cut none kept memory =
      let all = told_on behaviour.grammar at.taken (take (min count more) piece) reads reads' behaviour.tells tells' tells'' way way' way'' [] [] no_head at.fed told in
      let off = cut_from all.text way way'' at.clear (cut refl) all.sends in record {
        bytes = at.taken ++ take count piece;
        taken = all_taken;
        few = few_taken;
        text = take off.0 all.text;
        written = off.1.1.0;
        cause = record {
          rose = off.1.1.1;
          all = all.text;
          so_far = inl (subst (λ l. IsPart behaviour l all.text) (sym are_judged)
              (part_told behaviour all.head all.later (at.taken ++ take (min count more) piece) all.text tells'' all.has all.going all.settled));
          number = off.0;
          front = refl;
        };
      }
  stopped Memory before now told sound cut none kept memory =
      let quiet = memory refl told.wants in
      let nothing = nothing_told reads'.head at.fed.later at.fed.text behaviour.tells tells' quiet.0 at.fed.going in record {
        bytes = at.taken ++ take count piece;
        taken = all_taken;
        few = few_taken;
        text = [];
        written = subst (λ (w : Way). Appends way.held w.held []) (sym told.same) (subst (λ l. Appends way.held way'.held l) nothing (written_from at.fed.text way way' at.clear at.idle at.fed.sends));
        cause = record {
          reads = kept;
          writes = ap (λ (w : Way). w.faults) told.same ∙ kept_from at.fed.text way way' at.clear at.idle at.fed.sends;
          taken = inr (sym at.wants ∙ told.wants, subst (λ l. behaviour.grammar.header (at.taken ++ l)) (sym quiet.1) told.header);
          none = refl;
        };
      } where
        nothing_told : (head : Option H) (frames : List F) (text : List ℕ) (old new : Tells H F) → head ≡ None → IsGoing head frames text old new → text ≡ []
        nothing_told None frames text old new e going = going.1.0
        nothing_told (Some head) frames text old new e going = cc
  stopped Done before now told sound cut none kept memory = absurd told
  stopped Usage before now told sound cut none kept memory = absurd told
  stopped ReadFault before now told sound cut none kept memory = absurd told
  stopped TooLong before now told sound cut none kept memory = absurd told

  -- all that may be judged was taken
  pub fed_now : IsFed (take (min count more) piece) reads' reads'' tells' tells'' way' way'' at.taken at.fed.later → HeadStays reads'.head reads''.head
      → IsFed (at.taken ++ take (min count more) piece) reads reads'' behaviour.tells tells'' way way'' [] []
  fed_now fed stays =
      fed_on at.taken (take (min count more) piece) reads reads' reads'' behaviour.tells tells' tells'' way way' way'' [] [] stays at.fed fed

  -- there are too many
  pub too_many : (before now : ℕ) → AreReads behaviour.grammar reads'' → IsFed (take (min count more) piece) reads' reads'' tells' tells'' way' way'' at.taken at.fed.later
      → HeadStays reads'.head reads''.head → IsReady reads'' tells'' → IsIdle way'' → min count more < count → count ≤ length piece
      → IsOutcome TooLong behaviour (moves_of left left'' way way'' before now)
  too_many before now laws fed stays ready idle over there =
      let all = fed_now fed stays in record {
        bytes = at.taken ++ take count piece;
        taken = all_taken;
        few = few_taken;
        text = all.text;
        written = written_from all.text way way'' at.clear idle all.sends;
        cause = record {
          longer = record {
            more = omega (arith, at.room, length-append at.taken (take count piece), length-take-le count piece there);
            sound = subst behaviour.grammar.sound (sym are_judged) (laws.sound (at.taken ++ take (min count more) piece) all.later all.stands);
          };
          part = subst (λ l. IsPart behaviour l all.text) (sym are_judged)
              (part_told behaviour reads''.head all.later (at.taken ++ take (min count more) piece) all.text tells'' (laws.has (at.taken ++ take (min count more) piece) all.later all.stands) all.going ready.settled);
        };
      }

  -- more are to come
  pub at_next : IsFed (take (min count more) piece) reads' reads'' tells' tells'' way' way'' at.taken at.fed.later → HeadStays reads'.head reads''.head
      → IsReady reads'' tells'' → IsIdle way'' → tells''.wants ≡ tells'.wants → reads''.given ≡ reads'.given + length (take (min count more) piece)
      → count ≤ min count more → count ≤ length piece → IsAtRead behaviour reads reads'' tells'' way way'' (more - count) left left''
  at_next fed stays ready idle wants given all there =
      let same : min count more ≡ count = omega arith in record {
        taken = at.taken ++ take count piece;
        consumed = all_taken;
        room = omega (arith, at.room, length-append at.taken (take count piece), length-take-le count piece there);
        most = at.most;
        begun = at.begun;
        clear = at.clear;
        ready = ready;
        wants = wants ∙ at.wants;
        place = given ∙ omega (arith, at.place, ap (λ n. length (take n piece)) same, length-append at.taken (take count piece));
        idle = idle;
        fed = subst (λ n. IsFed (at.taken ++ take n piece) reads reads'' behaviour.tells tells'' way way'' [] []) same (fed_now fed stays);
      }

  -- the source told its end
  pub ended : (status : Status) (before now : ℕ) → AreReads behaviour.grammar reads' → count ≡ 0 → IsAtEnd left'' → IsEndedAs behaviour.grammar status reads' tells' way' way'' at.taken at.fed.later
      → (status ≢ WriteFault → way''.failed ≡ false) → (status ≡ WriteFault → way''.failed ≡ true) → way''.waiting ≡ []
      → IsOutcome status behaviour (moves_of left left'' way way'' before now)
  ended status before now laws nothing end told sound cut none = over status told sound cut where
    within : length at.taken ≤ behaviour.most
    within = omega (arith, at.room)

    consumed : Consumes left left'' at.taken
    consumed = subst (Consumes left left'') (ap (λ n. at.taken ++ take n piece) nothing ∙ append-nil at.taken) all_taken

    whole : take behaviour.most at.taken ≡ at.taken
    whole = take_all behaviour.most at.taken within

    output : (e : IsEnd behaviour.grammar reads' tells' way' way'' at.taken at.fed.later) → IsOutput behaviour at.taken (at.fed.text ++ e.text)
    output e = (e.head, (at.fed.later, (e.whole, out_told behaviour reads'.head e.head at.fed.later at.fed.text e.text tells' e.known at.fed.going e.out)))

    over : (status : Status) → IsEndedAs behaviour.grammar status reads' tells' way' way'' at.taken at.fed.later → (status ≢ WriteFault → way''.failed ≡ false)
        → (status ≡ WriteFault → way''.failed ≡ true) → IsOutcome status behaviour (moves_of left left'' way way'' before now)
    over Done e sound cut =
        let sends = sends_on at.fed.text e.text way way' way'' at.fed.sends e.sends in record {
          bytes = at.taken;
          taken = consumed;
          few = omega (arith, within);
          text = at.fed.text ++ e.text;
          written = written_from (at.fed.text ++ e.text) way way'' at.clear (record { sound = sound (λ e. cc); none = none }) sends;
          cause = record { at_end = end; within = within; output = output e };
        }
    over WriteFault e sound cut =
        let sends = sends_on at.fed.text e.text way way' way'' at.fed.sends e.sends in
        let off = cut_from (at.fed.text ++ e.text) way way'' at.clear (cut refl) sends in record {
          bytes = at.taken;
          taken = consumed;
          few = omega (arith, within);
          text = take off.0 (at.fed.text ++ e.text);
          written = off.1.1.0;
          cause = record { rose = off.1.1.1; all = at.fed.text ++ e.text; so_far = inr (within, (end, output e)); number = off.0; front = refl };
        }
    over (BadRecord offset) e sound cut = record {
      bytes = at.taken;
      taken = consumed;
      few = omega (arith, within);
      text = at.fed.text;
      written = subst (λ (w : Way). Appends way.held w.held at.fed.text) (sym e.same) (written_from at.fed.text way way' at.clear at.idle at.fed.sends);
      cause = record {
        bad = inr (within, (end, (e.inside, e.offset_is)));
        part = subst (λ l. IsPart behaviour l at.fed.text) (sym whole) (at_part behaviour reads reads' tells' way way' more left left' laws at);
      };
    }
    over Usage e sound cut = absurd e
    over ReadFault e sound cut = absurd e
    over Memory e sound cut = absurd e
    over TooLong e sound cut = absurd e

abbrev pub ends_with : Status → Result Unit Status
ends_with status = Err status

is_status : (a b : Status) → ends_with a ≡ ends_with b → a ≡ b
is_status a b e = cc

all_read : (piece : List ℕ) (within count more : ℕ) → within ≡ min count more → 0 < length (take within piece) → count ≤ 1 → take count piece ≡ take (min count more) piece
all_read piece within count more e some one =
    ap (λ n. take n piece) (omega (arith, e, one, some, length-take within piece))

-- the same with what came of the bytes that were given on, which are the first ones of those read
pub stopped_by : {H F : Type 0} (behaviour : Behaviour H F) (reads reads' reads'' : Reads H F) (tells' tells'' : Tells H F) (way way' way'' : Way) (more : ℕ) (left left' left'' : Option (List ℕ))
    → (at : IsAtRead behaviour reads reads' tells' way way' more left left') (piece : List ℕ) (count within : ℕ) → Consumes left' left'' (take count piece) → count ≤ more + 1
    → within ≡ min count more → (status : Status) (before now : ℕ)
    → IsTakenAs behaviour.grammar (ends_with status) (take within piece) reads' reads'' tells' tells'' way' way'' at.taken at.fed.later
    → (ends_with status ≢ ends_with WriteFault → way''.failed ≡ false) → (ends_with status ≡ ends_with WriteFault → way''.failed ≡ true) → way''.waiting ≡ [] → now ≡ before
    → (ends_with status ≡ ends_with Memory → (reads'.head ≡ None) × (0 < length (take within piece))) → (tells'.wants ≡ true → reads'.head ≡ None → count ≤ 1)
    → IsOutcome status behaviour (moves_of left left'' way way'' before now)
stopped_by behaviour reads reads' reads'' tells' tells'' way way' way'' more left left' left'' at piece count within read few e status before now told sound cut none kept memory one =
    stopped behaviour reads reads' reads'' tells' tells'' way way' way'' more left left' left'' at piece count read few status before now
    (subst (λ n. IsTakenAs behaviour.grammar (ends_with status) (take n piece) reads' reads'' tells' tells'' way' way'' at.taken at.fed.later) e told)
    (λ other. sound (λ same. other (is_status status WriteFault same))) (λ same. cut (ap ends_with same)) none kept
    (λ out wants. let m = memory (ap ends_with out) in (m.0, all_read piece within count more e m.1 (one wants m.0)))

pub fed_as : {H F : Type 0} (piece : List ℕ) (within count more : ℕ) (reads reads' : Reads H F) (tells tells' : Tells H F) (way way' : Way) (taken : List ℕ) (frames : List F)
    → within ≡ min count more → IsFed (take within piece) reads reads' tells tells' way way' taken frames → IsFed (take (min count more) piece) reads reads' tells tells' way way' taken frames
fed_as piece within count more reads reads' tells tells' way way' taken frames e fed =
    subst (λ n. IsFed (take n piece) reads reads' tells tells' way way' taken frames) e fed

pub memory_wants : {H F : Type 0} (grammar : Grammar H F) (status : Status) (bytes : List ℕ) (reads reads' : Reads H F) (tells tells' : Tells H F) (way way' : Way) (taken : List ℕ) (frames : List F)
    → status ≡ Memory → IsTakenAs grammar (ends_with status) bytes reads reads' tells tells' way way' taken frames → tells.wants ≡ true
memory_wants grammar Memory bytes reads reads' tells tells' way way' taken frames e told = told.wants
memory_wants grammar Done bytes reads reads' tells tells' way way' taken frames e told = cc
memory_wants grammar Usage bytes reads reads' tells tells' way way' taken frames e told = cc
memory_wants grammar ReadFault bytes reads reads' tells tells' way way' taken frames e told = cc
memory_wants grammar WriteFault bytes reads reads' tells tells' way way' taken frames e told = cc
memory_wants grammar (BadRecord offset) bytes reads reads' tells tells' way way' taken frames e told = cc
memory_wants grammar TooLong bytes reads reads' tells tells' way way' taken frames e told = cc
