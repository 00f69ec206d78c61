-- The comparison of two contexts says whether they are the same.
use Rattle.std.proofs.Common.{◌≡◌, ℕ, Bool, true, false, ◌&&◌, ◌==◌, List, Option, Some, None, refl, sym, ap, subst, ◌∙◌, arith}
use Rattle.std.specs.Bool.{Decides, beq}
use Rattle.std.specs.Cmp.{booleans_Decides}
use Rattle.std.specs.Option.{option_eq}
use Rattle.std.specs.Str.{bytes_eq}
use Rattle.std.proofs.lemmas.Bool.{and_parts}
use Rattle.std.proofs.lemmas.Bool.Decides.{Decides-eqb}
use Rattle.std.proofs.lemmas.Slice.Eq.{bytes_eq-Decides}
use Rattle.vrt_time.specs.Time.{TimeStamp}
use Rattle.vrt_time.specs.contracts.stamp.StampPartialEq.TheImpl as stamps
use Rattle.vrt_header.specs.declared.header.Kind.{Kind}
use Rattle.vrt_header.specs.declared.header.Kind.TheVariants.{Data, Context, Version, Control, Cancel, Ack}
use Rattle.vrt_header.specs.declared.header.Header.{Header}
use Rattle.vrt_header.specs.declared.prologue.Prologue.{Prologue}
use Rattle.vrt_header.specs.contracts.header.KindPartialEq.TheImpl as kinds
use Rattle.vrt_header.specs.contracts.header.HeaderPartialEq.TheImpl as headers
use Rattle.vrt_header.specs.contracts.prologue.ProloguePartialEq.TheImpl as prologues
use Rattle.difi_context.specs.declared.context.ContextRec.{ContextRec}
use Rattle.difi_context.specs.contracts.context.ContextRecPartialEq.TheImpl as contexts
use Rattle.reorder_window.specs.SameContext.{IsSameContext}

both : {P Q : Type 0} (p q : Bool) → Decides p P → Decides q Q → Decides (p && q) (P × Q)
both p q d e = (λ h. let a = and_parts p q h in (d.0 a.0, e.0 a.1), λ h. rw (d.1 h.0) (e.1 h.1))

kind_same : (a b : Kind) → kinds.eq-value.it a b ≡ true → a ≡ b
kind_same Data Data h = refl
kind_same Context Context h = refl
kind_same Version Version h = refl
kind_same Control Control h = refl
kind_same Cancel Cancel h = refl
kind_same Ack Ack h = refl
kind_same a b h = cc

kind_itself : (a : Kind) → kinds.eq-value.it a a ≡ true
kind_itself Data = refl
kind_itself Context = refl
kind_itself Version = refl
kind_itself Control = refl
kind_itself Cancel = refl
kind_itself Ack = refl

kinds_decide : (a b : Kind) → Decides (kinds.eq-value.it a b) (a ≡ b)
kinds_decide a b = (kind_same a b, λ e. subst (λ (k : Kind). kinds.eq-value.it a k ≡ true) e (kind_itself a))

same_header : (a b : Header) → a.kind ≡ b.kind → a.bit25 ≡ b.bit25 → a.bit24 ≡ b.bit24 → a.timed ≡ b.timed → a.count ≡ b.count → a.size ≡ b.size → a ≡ b
same_header a b p q r s t u = grind arith

headers_decide : (a b : Header) → Decides (headers.eq-value.it a b) (a ≡ b)
headers_decide a b =
    let parts = both (kinds.eq-value.it a.kind b.kind) (beq a.bit25 b.bit25 && (beq a.bit24 b.bit24 && (beq a.timed b.timed && (a.count == b.count && a.size == b.size))))
    (kinds_decide a.kind b.kind) (both (beq a.bit25 b.bit25) (beq a.bit24 b.bit24 && (beq a.timed b.timed && (a.count == b.count && a.size == b.size)))
    (booleans_Decides a.bit25 b.bit25) (both (beq a.bit24 b.bit24) (beq a.timed b.timed && (a.count == b.count && a.size == b.size))
    (booleans_Decides a.bit24 b.bit24) (both (beq a.timed b.timed) (a.count == b.count && a.size == b.size)
    (booleans_Decides a.timed b.timed) (both (a.count == b.count) (a.size == b.size) (Decides-eqb a.count b.count) (Decides-eqb a.size b.size))))) in
    (λ h. let p = parts.0 h in same_header a b p.0 p.1.0 p.1.1.0 p.1.1.1.0 p.1.1.1.1.0 p.1.1.1.1.1, λ e. parts.1 (ap (λ (x : Header). x.kind) e, (ap (λ (x : Header). x.bit25) e, (ap (λ (x : Header). x.bit24) e, (ap (λ (x : Header). x.timed) e, (ap (λ (x : Header). x.count) e, ap (λ (x : Header). x.size) e))))))

same_stamp : (a b : TimeStamp) → a.seconds ≡ b.seconds → a.picos ≡ b.picos → a ≡ b
same_stamp a b p q = grind arith

stamps_decide : (a b : TimeStamp) → Decides (stamps.eq-value.it a b) (a ≡ b)
stamps_decide a b =
    let parts = both (a.seconds == b.seconds) (a.picos == b.picos) (Decides-eqb a.seconds b.seconds) (Decides-eqb a.picos b.picos) in
    (λ h. let p = parts.0 h in same_stamp a b p.0 p.1, λ e. parts.1 (ap (λ (x : TimeStamp). x.seconds) e, ap (λ (x : TimeStamp). x.picos) e))

-- the equality of stamps that may be there is decided
options_decide : (a b : Option TimeStamp) → Decides (option_eq stamps.eq-value.it a b) (a ≡ b)
options_decide None None = (λ h. refl, λ e. refl)
options_decide None (Some b) = (λ h. cc, λ e. cc)
options_decide (Some a) None = (λ h. cc, λ e. cc)
options_decide (Some a) (Some b) =
    let d = stamps_decide a b in
    (λ h. ap (λ (s : TimeStamp). Some s) (d.0 h), λ e. d.1 (some_same a b e))
  where
    some_same : (a b : TimeStamp) → Some a ≡ Some b → a ≡ b
    some_same a b e = cc

same_prologue : (a b : Prologue) → a.header ≡ b.header → a.stream ≡ b.stream → a.pad ≡ b.pad → a.information ≡ b.information → a.packet ≡ b.packet → a.stamp ≡ b.stamp → a ≡ b
same_prologue a b p q r s t u = grind arith

prologues_decide : (a b : Prologue) → Decides (prologues.eq-value.it a b) (a ≡ b)
prologues_decide a b =
    let stamp : Bool = option_eq stamps.eq-value.it a.stamp b.stamp in
    let parts = both (headers.eq-value.it a.header b.header) (a.stream == b.stream && (a.pad == b.pad && (a.information == b.information && (a.packet == b.packet && stamp))))
    (headers_decide a.header b.header) (both (a.stream == b.stream) (a.pad == b.pad && (a.information == b.information && (a.packet == b.packet && stamp)))
    (Decides-eqb a.stream b.stream) (both (a.pad == b.pad) (a.information == b.information && (a.packet == b.packet && stamp))
    (Decides-eqb a.pad b.pad) (both (a.information == b.information) (a.packet == b.packet && stamp)
    (Decides-eqb a.information b.information) (both (a.packet == b.packet) stamp (Decides-eqb a.packet b.packet) (options_decide a.stamp b.stamp))))) in
    (λ h. let p = parts.0 h in same_prologue a b p.0 p.1.0 p.1.1.0 p.1.1.1.0 p.1.1.1.1.0 p.1.1.1.1.1, λ e. parts.1 (ap (λ (x : Prologue). x.header) e, (ap (λ (x : Prologue). x.stream) e, (ap (λ (x : Prologue). x.pad) e, (ap (λ (x : Prologue). x.information) e, (ap (λ (x : Prologue). x.packet) e, ap (λ (x : Prologue). x.stamp) e))))))

pub contexts_decide : (a b : ContextRec) → Decides (contexts.eq-value.it a b) (IsSameContext a b)
contexts_decide a b =
    let parts = both (prologues.eq-value.it a.prologue b.prologue) (beq a.changed b.changed && bytes_eq a.fields b.fields)
    (prologues_decide a.prologue b.prologue) (both (beq a.changed b.changed) (bytes_eq a.fields b.fields)
    (booleans_Decides a.changed b.changed) (bytes_eq-Decides a.fields b.fields)) in
    (λ h. let p = parts.0 h in record { prologue = p.0; changed = p.1.0; fields = p.1.1 }, λ s. parts.1 (s.prologue, (s.changed, s.fields)))
