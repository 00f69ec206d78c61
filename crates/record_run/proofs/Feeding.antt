-- Bytes that are fed, and what is told of them.
use Rattle.std.proofs.Common.{◌≡◌, ℕ, ◌+◌, ◌^◌, ◌<◌, ◌≤◌, List, [], ◌∷◌, ◌++◌, length, take, drop, refl, sym, ap, ◌∙◌, subst, append_assoc, append-nil, length-append, take-append-drop, take_all, arith}
use Rattle.std.specs.Prelude.{Result, Option, Some, None, Ok, Err, ◌==◌, true, false}
use Rattle.record_run.specs.declared.reading.Stop.{Stop}
use Rattle.record_run.specs.declared.reading.Stop.TheVariants as stops
use Rattle.replay_form.specs.Grammar.{Grammar, Reads, HasWhole, IsMore, IsHeadRead, IsFrameRead, IsWrong, TakesFront, AreReads}
use Rattle.record_run.specs.Tells.{Tells, GoesOn, IsSettled, PutsEnd}
use Rattle.record_run.specs.Steps.{Way, Sends, IsReady, IsGoing, HeadStays, IsPut, IsEnd, IsFed, IsTold, IsStopped, IsFedAs, IsFedOnce}
use Rattle.record_run.specs.Progress.{IsSent}
use Rattle.record_run.proofs.Going.{goes_nowhere, sends_nothing, sends_on, sends_put, sends_further, going_on}

pub head_stays : {H : Type 0} (old new : Option H) → new ≡ old → HeadStays old new
head_stays None new e = tt
head_stays (Some head) new e = e

pub stays_on : {H : Type 0} (a b c : Option H) → HeadStays a b → HeadStays b c → HeadStays a c
stays_on None b c p q = tt
stays_on (Some head) b c p q = subst (λ (h : Option _). HeadStays h c) p q

-- a header that was not known before is not known where none is known now
pub none_before : {H : Type 0} (a b : Option H) → HeadStays a b → b ≡ None → a ≡ None
none_before None b p e = refl
none_before (Some head) b p e = cc

-- nothing was told
pub going_nowhere : {H F : Type 0} (head : Option H) (tells : Tells H F) → IsGoing head [] [] tells tells
going_nowhere None tells = (refl, (refl, λ head. goes_nowhere head tells))
going_nowhere (Some head) tells = goes_nowhere head tells

-- ---- one call of the intake

pub more_fed : {H F : Type 0} (bytes : List ℕ) (count : ℕ) (reads reads' : Reads H F) (tells : Tells H F) (way : Way) (taken : List ℕ) (frames : List F)
    → IsMore bytes count reads reads' → reads.stands taken frames → IsFed (take count bytes) reads reads' tells tells way way taken frames
more_fed bytes count reads reads' tells way taken frames more stands = record {
  later = [];
  text = [];
  stands =
      let all : bytes ≡ take count bytes = sym (take_all count bytes (omega (arith, more.all))) in
      subst (λ fs. reads'.stands (taken ++ take count bytes) fs) (sym (append-nil frames))
      (subst (λ l. reads'.stands (taken ++ l) frames) all (more.stands taken frames stands));
  going = going_nowhere reads'.head tells;
  sends = sends_nothing way;
}

pub head_fed : {H F : Type 0} (grammar : Grammar H F) (bytes : List ℕ) (count : ℕ) (reads reads' : Reads H F) (tells tells' : Tells H F) (way way' : Way) (taken : List ℕ) (frames : List F)
    → IsHeadRead grammar bytes count reads reads' → reads.stands taken frames
    → ((head : H) → reads'.head ≡ Some head → (text : List ℕ) × (GoesOn head [] text tells tells' × Sends text way way'))
    → IsFed (take count bytes) reads reads' tells tells' way way' taken frames
head_fed grammar bytes count reads reads' tells tells' way way' taken frames read stands begun = record {
  later = [];
  text = (begun read.says read.head).0;
  stands = subst (reads'.stands (taken ++ take count bytes)) (sym (append-nil frames)) (read.stands taken frames stands);
  going = subst (λ (h : Option _). IsGoing h [] (begun read.says read.head).0 tells tells') (sym read.head) (begun read.says read.head).1.0;
  sends = (begun read.says read.head).1.1;
}

pub frame_fed : {H F : Type 0} (grammar : Grammar H F) (bytes : List ℕ) (count : ℕ) (reads reads' : Reads H F) (tells tells' : Tells H F) (way way' : Way) (taken : List ℕ) (frames : List F)
    → (read : IsFrameRead grammar bytes count reads reads') → reads.stands taken frames
    → ((text : List ℕ) × (GoesOn read.says (read.is ∷ []) text tells tells' × Sends text way way'))
    → IsFed (take count bytes) reads reads' tells tells' way way' taken frames
frame_fed grammar bytes count reads reads' tells tells' way way' taken frames read stands told = record {
  later = read.is ∷ [];
  text = told.0;
  stands = read.stands taken frames stands;
  going = subst (λ (h : Option _). IsGoing h (read.is ∷ []) told.0 tells tells') (sym read.head) told.1.0;
  sends = told.1.1;
}

-- of the frame that was read no more may be counted than the bytes that were given
pub counts_within : {H F : Type 0} (grammar : Grammar H F) (bytes : List ℕ) (count : ℕ) (reads reads' : Reads H F) (tells : Tells H F) (frame : F)
    → (read : IsFrameRead grammar bytes count reads reads') → reads'.frame (take count bytes) frame → AreReads grammar reads' → IsReady reads tells
    → TakesFront bytes count reads reads' → reads.given + length bytes < 2 ^ 63 → tells.count + 1 + grammar.size frame < 2 ^ 63
counts_within grammar bytes count reads reads' tells frame read whole so_far ready front small =
    let same : grammar.size frame ≡ grammar.size read.is = ap grammar.size (so_far.one (take count bytes) frame read.is whole read.frame) in
    omega (arith, same, read.whole, so_far.within, ready.counted, front.few, front.given, small)

pub wrong_fed : {H F : Type 0} (grammar : Grammar H F) (bytes : List ℕ) (offset : ℕ) (reads : Reads H F) (tells : Tells H F) (way : Way) (taken : List ℕ) (frames : List F)
    → IsWrong grammar bytes offset reads → IsReady reads tells → reads.stands taken frames → IsStopped grammar offset bytes reads tells tells way way taken frames
wrong_fed grammar bytes offset reads tells way taken frames wrong ready stands = record {
  wrong = wrong.wrong taken frames stands;
  told = record {
    later = [];
    text = [];
    head = reads.head;
    stays = head_stays reads.head reads.head refl;
    has = subst (λ fs. HasWhole grammar reads.head fs (taken ++ bytes)) (sym (append-nil frames)) (wrong.has taken frames stands);
    going = going_nowhere reads.head tells;
    settled = ready.settled;
    sends = sends_nothing way;
  };
}

-- ---- between two calls

-- ---- one call behind others

pub fed_nothing : {H F : Type 0} (reads : Reads H F) (tells : Tells H F) (way : Way) (taken : List ℕ) (frames : List F) → reads.stands taken frames
    → IsFed [] reads reads tells tells way way taken frames
fed_nothing reads tells way taken frames stands = record {
  later = [];
  text = [];
  stands = subst (reads.stands (taken ++ [])) (sym (append-nil frames)) (subst (λ l. reads.stands l frames) (sym (append-nil taken)) stands);
  going = going_nowhere reads.head tells;
  sends = sends_nothing way;
}

pub fed_on : {H F : Type 0} (front bytes : List ℕ) (a b c : Reads H F) (s t u : Tells H F) (way way' way'' : Way) (taken : List ℕ) (frames : List F)
    → HeadStays b.head c.head → (first : IsFed front a b s t way way' taken frames)
    → IsFed bytes b c t u way' way'' (taken ++ front) (frames ++ first.later) → IsFed (front ++ bytes) a c s u way way'' taken frames
fed_on front bytes a b c s t u way way' way'' taken frames stays first second = record {
  later = first.later ++ second.later;
  text = first.text ++ second.text;
  stands = subst (λ fs. c.stands (taken ++ (front ++ bytes)) fs) (append_assoc frames first.later second.later)
      (subst (λ l. c.stands l ((frames ++ first.later) ++ second.later)) (append_assoc taken front bytes) second.stands);
  going = going_on b.head c.head first.later second.later first.text second.text s t u stays first.going second.going;
  sends = sends_on first.text second.text way way' way'' first.sends second.sends;
}

pub next_fed : {H F : Type 0} (grammar : Grammar H F) (n : ℕ) (front rest : List ℕ) (a b c : Reads H F) (s t u : Tells H F) (way way' way'' : Way) (taken : List ℕ) (frames : List F)
    → HeadStays b.head c.head → (first : IsFed front a b s t way way' taken frames)
    → IsFedOnce grammar (Ok n) rest b c t u way' way'' (taken ++ front) (frames ++ first.later) → IsFed (front ++ take n rest) a c s u way way'' taken frames
next_fed grammar n front rest a b c s t u way way' way'' taken frames stays first once =
    fed_on front (take n rest) a b c s t u way way' way'' taken frames stays first
    (subst (λ k. IsFed (take k rest) b c t u way' way'' (taken ++ front) (frames ++ first.later)) (sym once.is) once.fed)

pub told_on : {H F : Type 0} (grammar : Grammar H F) (front bytes : List ℕ) (a b : Reads H F) (s t u : Tells H F) (way way' way'' : Way) (taken : List ℕ) (frames : List F)
    → HeadStays a.head b.head → (first : IsFed front a b s t way way' taken frames)
    → IsTold grammar bytes b t u way' way'' (taken ++ front) (frames ++ first.later) → IsTold grammar (front ++ bytes) a s u way way'' taken frames
told_on grammar front bytes a b s t u way way' way'' taken frames stays first second = record {
  later = first.later ++ second.later;
  text = first.text ++ second.text;
  head = second.head;
  stays = stays_on a.head b.head second.head stays second.stays;
  has = subst (λ fs. HasWhole grammar second.head fs (taken ++ (front ++ bytes))) (append_assoc frames first.later second.later)
      (subst (λ l. HasWhole grammar second.head ((frames ++ first.later) ++ second.later) l) (append_assoc taken front bytes) second.has);
  going = going_on b.head second.head first.later second.later first.text second.text s t u second.stays first.going second.going;
  settled = second.settled;
  sends = sends_on first.text second.text way way' way'' first.sends second.sends;
}

pub stopped_on : {H F : Type 0} (grammar : Grammar H F) (offset : ℕ) (front bytes : List ℕ) (a b : Reads H F) (s t u : Tells H F) (way way' way'' : Way) (taken : List ℕ) (frames : List F)
    → HeadStays a.head b.head → (first : IsFed front a b s t way way' taken frames)
    → IsStopped grammar offset bytes b t u way' way'' (taken ++ front) (frames ++ first.later) → IsStopped grammar offset (front ++ bytes) a s u way way'' taken frames
stopped_on grammar offset front bytes a b s t u way way' way'' taken frames stays first second = record {
  wrong = subst (λ l. grammar.wrong l offset) (append_assoc taken front bytes) second.wrong;
  told = told_on grammar front bytes a b s t u way way' way'' taken frames stays first second.told;
}

-- the bytes in front of the rest grow by those that were taken
pub split_on : (bytes front rest : List ℕ) (count : ℕ) → bytes ≡ front ++ rest → bytes ≡ (front ++ take count rest) ++ drop count rest
split_on bytes front rest count e =
    e ∙ ap (λ l. front ++ l) (sym (take-append-drop count rest)) ∙ sym (append_assoc front (take count rest) (drop count rest))

-- whatever bytes the intake stood for
abbrev pub AreFed : {H F : Type 0} → List ℕ → Reads H F → Reads H F → Tells H F → Tells H F → Way → Way → Type 0
AreFed {H} {F} front reads reads' tells tells' way way' =
    (taken : List ℕ) (frames : List F) → reads.stands taken frames → IsFed front reads reads' tells tells' way way' taken frames

-- a call that ends all
pub err_fed : {H F : Type 0} (grammar : Grammar H F) (stop : Stop) (front part rest bytes : List ℕ) (a b c : Reads H F) (s t u : Tells H F) (way way' way'' : Way) (taken : List ℕ) (frames : List F)
    → HeadStays a.head b.head → bytes ≡ front ++ rest → t.wants ≡ s.wants → (stop ≡ stops.Memory → t.wants ≡ true → (bytes ≡ front ++ part) × (way' ≡ way))
    → (first : IsFed front a b s t way way' taken frames)
    → IsFedAs {T = ℕ} grammar (Err stop) part rest b c t u way' way'' (taken ++ front) (frames ++ first.later)
    → IsFedAs {T = Unit} grammar (Err stop) bytes bytes a c s u way way'' taken frames
err_fed grammar (stops.Wrong offset) front part rest bytes a b c s t u way way' way'' taken frames stays split wants same first fed =
    subst (λ l. IsStopped grammar offset l a s u way way'' taken frames) (sym split)
    (stopped_on grammar offset front rest a b s t u way way' way'' taken frames stays first fed)
err_fed grammar stops.Memory front part rest bytes a b c s t u way way' way'' taken frames stays split wants same first fed =
    let all = same refl fed.wants in record {
      wants = sym wants ∙ fed.wants;
      header = subst grammar.header (append_assoc taken front part ∙ ap (λ l. taken ++ l) (sym all.0)) fed.header;
      same = fed.same ∙ all.1;
    }

pub some_bytes : (bytes : List ℕ) → false ≡ (length bytes == 0) → 0 < length bytes
some_bytes [] e = absurd (cc)
some_bytes (b ∷ bytes) e = omega arith

-- where one byte was there, it was taken
pub one_taken : (bytes front rest : List ℕ) (count : ℕ) → bytes ≡ front ++ rest → length bytes ≤ 1 → 0 < count → count ≤ length rest → bytes ≡ front ++ take count rest
one_taken bytes front rest count split one some few =
    split ∙ ap (λ l. front ++ l) (sym (take_all count rest (omega (arith, ap length split, length-append front rest, one, some, few))))

-- why a call ends all
abbrev pub ends_all : Stop → Result ℕ Stop
ends_all stop = Err stop

-- the end was told behind what was told, and all that was owed with it
pub end_told : {H F : Type 0} (grammar : Grammar H F) (reads : Reads H F) (tells tells' tells'' : Tells H F) (way way' way'' : Way) (taken : List ℕ) (frames : List F)
    → (head : H) × (reads.head ≡ Some head) × grammar.whole head frames taken
    → ((head : H) → PutsEnd head way.waiting way'.waiting tells tells') → way' ≡ record way { waiting = way'.waiting }
    → IsPut tells' tells'' way' way'' → IsSettled tells''
    → (way''' : Way) → ((start : Option (List ℕ)) (before : ℕ) (all : List ℕ) → IsSent way''.failed start way''.held before way''.faults way''.waiting all
    → IsSent way'''.failed start way'''.held before way'''.faults way'''.waiting all)
    → IsEnd grammar reads tells way way''' taken frames
end_told grammar reads tells tells' tells'' way way' way'' taken frames whole ends same put none way''' sent =
    let e = ends whole.0 in
    let p = put.told whole.0 in
    let rest : tells'.out whole.0 [] p.0 = subst (tells'.out whole.0 []) (append-nil p.0) (p.1.0.out [] [] (none.out (put.keeps.ended ∙ e.ended) whole.0)) in record {
      head = whole.0;
      known = whole.1;
      whole = whole.2;
      text = e.text ++ p.0;
      out = e.out p.0 rest;
      sends = sends_further (e.text ++ p.0) way way'' way'''
          (sends_on e.text p.0 way way' way'' (subst (Sends e.text way) (sym same) (sends_put e.text way.failed way.waiting way'.waiting way.held way.faults e.put)) p.1.1) sent;
    }

abbrev pub ends_with : Stop → Result Unit Stop
ends_with stop = Err stop

-- the same for a call that tells how many bytes it took
pub same_end : (stop other : Stop) → ends_with stop ≡ ends_with other → ends_all stop ≡ ends_all other
same_end stop other e = ap ends_all (same e) where
  same : ends_with stop ≡ ends_with other → stop ≡ other
  same e = cc

-- what was told is on its way, and some of it was sent since
pub told_further : {H F : Type 0} (grammar : Grammar H F) (bytes : List ℕ) (reads : Reads H F) (tells tells' : Tells H F) (way way' way'' : Way) (taken : List ℕ) (frames : List F)
    → ((start : Option (List ℕ)) (before : ℕ) (all : List ℕ) → IsSent way'.failed start way'.held before way'.faults way'.waiting all
    → IsSent way''.failed start way''.held before way''.faults way''.waiting all)
    → IsTold grammar bytes reads tells tells' way way' taken frames → IsTold grammar bytes reads tells tells' way way'' taken frames
told_further grammar bytes reads tells tells' way way' way'' taken frames sent told = record {
  later = told.later;
  text = told.text;
  head = told.head;
  stays = told.stays;
  has = told.has;
  going = told.going;
  settled = told.settled;
  sends = sends_further told.text way way' way'' told.sends sent;
}

-- a field is wrong
pub wrong_at : {H F : Type 0} (grammar : Grammar H F) (stop : Stop) (offset : ℕ) (front bytes : List ℕ) (reads reads' : Reads H F) (tells tells' : Tells H F) (way way' : Way) (taken : List ℕ) (frames : List F)
    → stop ≡ stops.Wrong offset → IsFedAs grammar (ends_with stop) front bytes reads reads' tells tells' way way' taken frames → IsStopped grammar offset bytes reads tells tells' way way' taken frames
wrong_at grammar (stops.Wrong place) offset front bytes reads reads' tells tells' way way' taken frames e fed =
    subst (λ n. IsStopped grammar n bytes reads tells tells' way way' taken frames) (same e) fed where
      same : stops.Wrong place ≡ stops.Wrong offset → place ≡ offset
      same e = cc
wrong_at grammar stops.Memory offset front bytes reads reads' tells tells' way way' taken frames e fed = cc
