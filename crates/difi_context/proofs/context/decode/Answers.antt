-- The prologue's place is that of the context, and so is the place behind it; what is right is the one context.
use Rattle.std.proofs.Common.{refl, ap, Ok, arith}
use Rattle.vrt_words.specs.Words.{words_of}
use Rattle.vrt_words.proofs.WordLaws.{words_of-words}
use Rattle.vrt_header.specs.declared.header.Kind.TheVariants.{Context}
use Rattle.vrt_header.proofs.KindLaws.{seven_in_front, none_in_front}
use Rattle.difi_context.proofs.ContextLaws.{front_refused, behind_refused, behind_found, one_datagram}
use Rattle.difi_context.proofs.context.decode.Goals as goal

pub check_behind-requires : goal.check_behind-requires
check_behind-requires c = (seven_in_front c.args.profile Context c.in-Ok.prologue (words_of c.args.bytes.now) refl c.in-Ok.ensures.found).1

pub returns-in-Err-clause-refused : goal.returns-in-Err-clause-refused
returns-in-Err-clause-refused c =
    front_refused c.args.profile c.args.bytes.now c.in-Err.place.word c.in-Err.ensures.refused
    (none_in_front c.args.profile Context (words_of c.args.bytes.now) c.in-Err.place c.in-Err.ensures.only)

pub returns-in-Err-clause-only : goal.returns-in-Err-clause-only
returns-in-Err-clause-only c = λ rec d. absurd ((returns-in-Err-clause-refused c).no_packet rec d)

pub returns-in-Err-check_behind-clause-refused : goal.returns-in-Err-check_behind-clause-refused
returns-in-Err-check_behind-clause-refused c =
    let front = seven_in_front c.args.profile Context c.in-Ok.prologue (words_of c.args.bytes.now) refl c.in-Ok.ensures.found in
    behind_refused c.args.profile c.in-Ok.prologue c.args.bytes.now c.in-Err-check_behind.place.word (λ i. omega (arith, c.type_inv.bytes i)) front.0 c.in-Err-check_behind.ensures.refused

pub returns-in-Err-check_behind-clause-only : goal.returns-in-Err-check_behind-clause-only
returns-in-Err-check_behind-clause-only c = λ rec d. absurd ((returns-in-Err-check_behind-clause-refused c).no_packet rec d)

pub returns-clause-found : goal.returns-clause-found
returns-clause-found c =
    let front = seven_in_front c.args.profile Context c.in-Ok.prologue (words_of c.args.bytes.now) refl c.in-Ok.ensures.found in
    behind_found c.args.profile _ c.args.bytes.now front.0 c.in-Ok-check_behind.ensures.found c.read_words.ensures

pub returns-clause-only : goal.returns-clause-only
returns-clause-only c = λ rec d. ap Ok (one_datagram c.args.profile _ rec c.args.bytes.now (returns-clause-found c) d)

pub returns-clause-allowed : goal.returns-clause-allowed
returns-clause-allowed c =
    let d = returns-clause-found c in
    record { words = words_of c.args.bytes.now; are_words = words_of-words c.args.bytes.now (λ i. omega (arith, c.type_inv.bytes i)); packet = d.packet }

pub returns-clause-grammar : goal.returns-clause-grammar
returns-clause-grammar c = record { profile = c.args.profile; spelled = returns-clause-allowed c }
