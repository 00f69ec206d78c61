-- The content of an acknowledgement fits its size.
use Rattle.std.proofs.Common.{◌≡◌, ℕ, ◌+◌, ◌*◌, ◌≤◌, Bool, true, false, List, ◌++◌, length, take, drop, Option, Some, None, refl, sym, ap, ◌∙◌, subst, length-append, length-drop, arith}
use Rattle.std.proofs.lemmas.List.{length-take}
use Rattle.vrt_header.specs.Profile.{PacketProfile}
use Rattle.vrt_fields.specs.Field.{fields_in_order}
use Rattle.vrt_fields.specs.FieldSet.{mask_of}
use Rattle.vrt_fields.proofs.FieldSetLaws.{width_is_of_fields}
use Rattle.vrt_fields.proofs.Steps.{width_most, all_widths}
use Rattle.cam_field.specs.Cam.{IsForRole}
use Rattle.cam_field.specs.Spelling.{bit_of}
use Rattle.cam_field.specs.declared.modes.Role.TheVariants as roles
use Rattle.command_prologue.specs.CommandPrologue.{masks_in, IsAnswerSize, IsContentSize, IsCommandPrologue, command_words}
use Rattle.command_prologue.proofs.FrontLaws.{length-front, front_with_room}
use Rattle.ack_codec.specs.Ack.{front_of, kind_bit, AreAnnounced, mask_words, response_words, report_words, IsContent, IsAck}
use Rattle.ack_codec.specs.declared.responses.Responses.{Responses}
use Rattle.ack_codec.specs.declared.ack.Ack.{Ack}
use Rattle.ack_codec.specs.declared.ack.Ack.TheVariants.{V, X, S}
use Rattle.ack_codec.proofs.ResponseLaws.{length-listed_words, at_most_twelve}
use Rattle.ack_codec.proofs.ContentLaws.{kind_v, kind_x}

-- a mask that is announced has at most twelve responses
announced : (b : Bool) (told : Option Responses) → AreAnnounced b told → (length (mask_words told) ≡ bit_of b) × (length (response_words told) ≤ 12 * bit_of b)
announced false None h = (refl, omega arith)
announced true (Some responses) h = (refl, omega (arith, length-listed_words responses h, at_most_twelve responses.cif0))
announced true None h = absurd h
announced false (Some responses) h = absurd h

report_fits : (warned erred : Bool) (warnings errors : Option Responses) → AreAnnounced warned warnings → AreAnnounced erred errors
    → IsAnswerSize false (bit_of warned + bit_of erred) (length (report_words warnings errors))
report_fits warned erred warnings errors p q =
    let w = announced warned warnings p in
    let e = announced erred errors q in
    let all = length-append (mask_words warnings) (mask_words errors ++ (response_words warnings ++ response_words errors)) in
    let more = length-append (mask_words errors) (response_words warnings ++ response_words errors) in
    let rest = length-append (response_words warnings) (response_words errors) in
    (omega (arith, w.0, e.0, all, more, rest), omega (arith, w.0, w.1, e.0, e.1, all, more, rest))

content_fits : (ack : Ack) (words : List ℕ) → IsForRole roles.Ack (front_of ack).cam → kind_bit ack ≡ true → IsContent ack words
    → IsContentSize roles.Ack (front_of ack).cam (length words)
content_fits (V report) words asked kind h =
    subst (λ s. IsAnswerSize s (masks_in report.cam) (length words)) (sym (kind_v report.cam asked kind).1)
    (subst (λ n. IsAnswerSize false (masks_in report.cam) n) (sym (ap length h.all)) (report_fits report.cam.warned report.cam.erred report.warnings report.errors h.warned h.erred))
content_fits (X report) words asked kind h =
    subst (λ s. IsAnswerSize s (masks_in report.cam) (length words)) (sym (kind_x report.cam asked kind).1)
    (subst (λ n. IsAnswerSize false (masks_in report.cam) n) (sym (ap length h.all)) (report_fits report.cam.warned report.cam.erred report.warnings report.errors h.warned h.erred))
content_fits (S state) words asked kind h =
    subst (λ s. IsAnswerSize s (masks_in state.cam) (length words)) (sym kind)
    (omega (arith, ap length h.all), omega (arith, ap length h.all, width_is_of_fields state.fields h.fields, width_most (mask_of state.fields) fields_in_order, all_widths))

-- so the words in front leave room for it
pub sized : (profile : PacketProfile) (ack : Ack) (words : List ℕ) → IsAck profile ack words
    → IsCommandPrologue profile roles.Ack (front_of ack) (take (command_words (front_of ack)) words)
sized profile ack words h =
    let m = command_words (front_of ack) in
    let front = length-front profile roles.Ack (front_of ack) (take m words) h.front in
    let all : length words ≡ m + length (drop m words) = omega (arith, front, length-take m words, length-drop m words) in
    front_with_room profile roles.Ack (front_of ack) (take m words) (length (drop m words)) h.front (h.size ∙ all)
    (content_fits ack (drop m words) h.front.behind.mode.allowed.asked h.kind h.content)
