-- What was told in two steps was told in one.
use Rattle.std.proofs.Common.{◌≡◌, ℕ, List, [], ◌++◌, refl, sym, ap, ◌∙◌, subst, append_assoc, append-nil, arith}
use Rattle.std.specs.Prelude.{Option, Some, None}
use Rattle.record_run.specs.Tells.{Tells, GoesOn, KeepsCount, CountsFrame, Puts}
use Rattle.record_run.specs.Progress.{IsSent}
use Rattle.record_run.specs.Steps.{Way, Sends, IsPut, IsGoing, HeadStays}
use Rattle.record_run.proofs.Sent.{sent_more}

pub goes_nowhere : {H F : Type 0} (head : H) (tells : Tells H F) → GoesOn head [] [] tells tells
goes_nowhere head tells = record { part = λ later more p. p; out = λ later more p. p }

pub goes_on : {H F : Type 0} (head : H) (fs gs : List F) (text more : List ℕ) (a b c : Tells H F)
    → GoesOn head fs text a b → GoesOn head gs more b c → GoesOn head (fs ++ gs) (text ++ more) a c
goes_on head fs gs text more a b c first second = record {
  part = λ later rest p. subst (λ l. a.part head l ((text ++ more) ++ rest)) (sym (append_assoc fs gs later))
      (subst (a.part head (fs ++ (gs ++ later))) (sym (append_assoc text more rest)) (first.part (gs ++ later) (more ++ rest) (second.part later rest p)));
  out = λ later rest p. subst (λ l. a.out head l ((text ++ more) ++ rest)) (sym (append_assoc fs gs later))
      (subst (a.out head (fs ++ (gs ++ later))) (sym (append_assoc text more rest)) (first.out (gs ++ later) (more ++ rest) (second.out later rest p)));
}

pub sends_nothing : (way : Way) → Sends [] way way
sends_nothing way = λ start before all s. subst (IsSent way.failed start way.held before way.faults way.waiting) (sym (append-nil all)) s

pub sends_on : (text more : List ℕ) (a b c : Way) → Sends text a b → Sends more b c → Sends (text ++ more) a c
sends_on text more a b c first second = λ start before all s.
    subst (IsSent c.failed start c.held before c.faults c.waiting) (append_assoc all text more) (second start before (all ++ text) (first start before all s))

-- a text that was put behind what waits
pub sends_put : (text : List ℕ) (failed : _) (waiting waiting' : List ℕ) (held : Option (List ℕ)) (faults : ℕ) → waiting' ≡ waiting ++ text
    → Sends text (record { failed = failed; waiting = waiting; held = held; faults = faults }) (record { failed = failed; waiting = waiting'; held = held; faults = faults })
sends_put text failed waiting waiting' held faults is = λ start before all s.
    subst (λ l. IsSent failed start held before faults l (all ++ text)) (sym is) (sent_more failed start held before faults waiting all text s)

pub going_on : {H F : Type 0} (first second : Option H) (fs gs : List F) (text more : List ℕ) (a b c : Tells H F) → HeadStays first second
    → IsGoing first fs text a b → IsGoing second gs more b c → IsGoing second (fs ++ gs) (text ++ more) a c
going_on None None fs gs text more a b c stays p q =
    (ap (λ l. l ++ gs) p.0 ∙ q.0, (ap (λ l. l ++ more) p.1.0 ∙ q.1.0, λ head. goes_on head [] [] [] [] a b c (p.1.1 head) (q.1.1 head)))
going_on None (Some head) fs gs text more a b c stays p q =
    subst (λ l. GoesOn head (l ++ gs) (text ++ more) a c) (sym p.0)
    (subst (λ l. GoesOn head gs (l ++ more) a c) (sym p.1.0) (goes_on head [] gs [] more a b c (p.1.1 head) q))
going_on (Some head) None fs gs text more a b c stays p q = cc
going_on (Some head) (Some other) fs gs text more a b c stays p q =
    goes_on other fs gs text more a b c (subst (λ (h : _). GoesOn h fs text a b) (same stays) p) q where
      same : Some other ≡ Some head → head ≡ other
      same e = cc

-- a text on its way, of which some was sent since
pub sends_further : (text : List ℕ) (a b c : Way) → Sends text a b → ((start : Option (List ℕ)) (before : ℕ) (all : List ℕ)
    → IsSent b.failed start b.held before b.faults b.waiting all → IsSent c.failed start c.held before c.faults c.waiting all) → Sends text a c
sends_further text a b c sends sent = λ start before all s. sent start before (all ++ text) (sends start before all s)

pub keeps_on : {H F : Type 0} (a b c : Tells H F) → KeepsCount a b → KeepsCount b c → KeepsCount a c
keeps_on a b c p q = record { count = q.count ∙ p.count; wants = q.wants ∙ p.wants; ended = q.ended ∙ p.ended }

-- and nothing more was counted
pub counts_on : {H F : Type 0} (size : ℕ) (a b c : Tells H F) → CountsFrame size a b → KeepsCount b c → CountsFrame size a c
counts_on size a b c p q = record {
  count = omega (arith, p.count, q.count);
  wants = q.wants ∙ p.wants;
  ended = q.ended ∙ p.ended;
}

pub put_nothing : {H F : Type 0} (tells : Tells H F) (way : Way) → IsPut tells tells way way
put_nothing tells way = record {
  keeps = record { count = refl; wants = refl; ended = refl };
  told = λ head. ([], (goes_nowhere head tells, sends_nothing way));
}

-- what a teller put, behind what it put before, of which some was sent since
pub put_next : {H F : Type 0} (start now tells : Tells H F) (way way' way'' : Way) (waiting : List ℕ) → IsPut start now way way'
    → ((start : Option (List ℕ)) (before : ℕ) (all : List ℕ) → IsSent way'.failed start way'.held before way'.faults way'.waiting all
    → IsSent way''.failed start way''.held before way''.faults way''.waiting all)
    → KeepsCount now tells → ((head : H) → Puts head [] way''.waiting waiting now tells) → IsPut start tells way (record way'' { waiting = waiting })
put_next start now tells way way' way'' waiting put sent keeps puts = record {
  keeps = keeps_on start now tells put.keeps keeps;
  told = λ head.
      let t = put.told head in
      let p = puts head in (
        t.0 ++ p.text,
        (
          goes_on head [] [] t.0 p.text start now tells t.1.0 p.goes,
          sends_on t.0 p.text way way'' (record way'' { waiting = waiting }) (sends_further t.0 way way' way'' t.1.1 sent)
              (sends_put p.text way''.failed way''.waiting waiting way''.held way''.faults p.put),
        ),
      );
}
