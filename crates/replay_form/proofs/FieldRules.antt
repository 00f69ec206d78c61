-- The rule of a field sees the bytes up to its end alone.
use Rattle.std.proofs.Common.{ℕ, ◌+◌, ◌*◌, ◌-◌, Bool, true, false, List, sym, ◌∙◌, arith}
use Rattle.replay_form.proofs.NumberLaws.{number_at-take}
use Rattle.replay_form.specs.HeadFields.{IsRight, IsRightIn, route_at, port_at}
use Rattle.replay_form.specs.declared.head_field.HeadField.{HeadField}
use Rattle.replay_form.specs.declared.head_field.HeadField.TheVariants.{Magic, Cid, Tsi, MaxWords, DataWindow, ContextWindow, Kept, Pending, Routes, IdentityForm, Identity, Initial, Flag, Step, Least, Greatest, Stream, Number, Port, Zero}

pub right_up_to : (second : Bool) (field : HeadField) (bytes : List ℕ) → IsRightIn second field bytes → IsRight second field bytes
right_up_to second Magic bytes right = rw (number_at-take (0) 8 (8) bytes (omega arith)) right
right_up_to second Cid bytes right = rw (number_at-take (8) 4 (12) bytes (omega arith)) right
right_up_to second Tsi bytes right = rw (number_at-take (12) 4 (16) bytes (omega arith)) right
right_up_to second MaxWords bytes right = rw (number_at-take (16) 4 (20) bytes (omega arith)) right
right_up_to second DataWindow bytes right = rw (number_at-take (20) 4 (24) bytes (omega arith)) right
right_up_to second ContextWindow bytes right = rw (number_at-take (24) 4 (28) bytes (omega arith)) right
right_up_to second Kept bytes right = rw (number_at-take (28) 4 (32) bytes (omega arith)) right
right_up_to second Pending bytes right = rw (number_at-take (32) 4 (36) bytes (omega arith)) right
right_up_to second Routes bytes right = rw (number_at-take (16) 4 (40) bytes (omega arith), number_at-take (20) 4 (40) bytes (omega arith), number_at-take (32) 4 (40) bytes (omega arith), number_at-take (36) 4 (40) bytes (omega arith)) right
right_up_to second IdentityForm bytes right = rw (number_at-take (40) 4 (44) bytes (omega arith)) right
right_up_to second Identity bytes right = rw (number_at-take (40) 4 (60) bytes (omega arith), number_at-take (44) 4 (60) bytes (omega arith), number_at-take (48) 4 (60) bytes (omega arith), number_at-take (52) 4 (60) bytes (omega arith), number_at-take (56) 4 (60) bytes (omega arith)) right
right_up_to second (Initial word) bytes right = rw (number_at-take (56 + 4 * word) 4 (60 + 4 * word + 4) bytes (omega arith), number_at-take (60 + 4 * word) 4 (60 + 4 * word + 4) bytes (omega arith)) right
right_up_to second (Flag bound) bytes right = rw (number_at-take (136 + 28 * bound) 4 (136 + 28 * bound + 4) bytes (omega arith)) right
right_up_to second (Step bound) bytes right = rw (number_at-take (136 + 28 * bound) 4 (140 + 28 * bound + 8) bytes (omega arith), number_at-take (140 + 28 * bound) 8 (140 + 28 * bound + 8) bytes (omega arith)) right
right_up_to second (Least bound) bytes right = rw (number_at-take (136 + 28 * bound) 4 (148 + 28 * bound + 8) bytes (omega arith), number_at-take (140 + 28 * bound) 8 (148 + 28 * bound + 8) bytes (omega arith), number_at-take (148 + 28 * bound) 8 (148 + 28 * bound + 8) bytes (omega arith)) right
right_up_to second (Greatest bound) bytes right = rw (number_at-take (136 + 28 * bound) 4 (156 + 28 * bound + 8) bytes (omega arith), number_at-take (140 + 28 * bound) 8 (156 + 28 * bound + 8) bytes (omega arith), number_at-take (148 + 28 * bound) 8 (156 + 28 * bound + 8) bytes (omega arith), number_at-take (156 + 28 * bound) 8 (156 + 28 * bound + 8) bytes (omega arith)) right
right_up_to true (Stream route) bytes right = rw (number_at-take (route_at true (route - 1)) 4 (route_at true route + 4) bytes (omega arith), number_at-take (route_at true route) 4 (route_at true route + 4) bytes (omega arith)) right
right_up_to true (Number route) bytes right = rw (number_at-take (route_at true route + 4) 2 (route_at true route + 4 + 2) bytes (omega arith)) right
right_up_to true (Zero route) bytes right = rw (number_at-take (route_at true route + 14) 2 (route_at true route + 14 + 2) bytes (omega arith)) right
right_up_to false (Stream route) bytes right = rw (number_at-take (route_at false (route - 1)) 4 (route_at false route + 4) bytes (omega arith), number_at-take (route_at false route) 4 (route_at false route + 4) bytes (omega arith)) right
right_up_to false (Number route) bytes right = rw (number_at-take (route_at false route + 4) 2 (route_at false route + 4 + 2) bytes (omega arith)) right
right_up_to false (Zero route) bytes right = rw (number_at-take (route_at false route + 6) 2 (route_at false route + 6 + 2) bytes (omega arith)) right
right_up_to false (Port route place) bytes right = tt
right_up_to true (Port route place) bytes right =
    let end = port_at true route place + 2 in
    let number = number_at-take (route_at true route + 4) 2 end bytes (omega arith) in
    let here = number_at-take (port_at true route place) 2 end bytes (omega arith) in (
      λ h earlier k e. right.0 (omega arith) earlier k (sym (number_at-take (port_at true route earlier) 2 end bytes (omega arith)) ∙ e ∙ here),
      λ h. here ∙ right.1 (omega arith),
    )

pub right_here : (second : Bool) (field : HeadField) (bytes : List ℕ) → IsRight second field bytes → IsRightIn second field bytes
right_here second Magic bytes right = rw (number_at-take (0) 8 (8) bytes (omega arith)) at right
right_here second Cid bytes right = rw (number_at-take (8) 4 (12) bytes (omega arith)) at right
right_here second Tsi bytes right = rw (number_at-take (12) 4 (16) bytes (omega arith)) at right
right_here second MaxWords bytes right = rw (number_at-take (16) 4 (20) bytes (omega arith)) at right
right_here second DataWindow bytes right = rw (number_at-take (20) 4 (24) bytes (omega arith)) at right
right_here second ContextWindow bytes right = rw (number_at-take (24) 4 (28) bytes (omega arith)) at right
right_here second Kept bytes right = rw (number_at-take (28) 4 (32) bytes (omega arith)) at right
right_here second Pending bytes right = rw (number_at-take (32) 4 (36) bytes (omega arith)) at right
right_here second Routes bytes right = rw (number_at-take (16) 4 (40) bytes (omega arith), number_at-take (20) 4 (40) bytes (omega arith), number_at-take (32) 4 (40) bytes (omega arith), number_at-take (36) 4 (40) bytes (omega arith)) at right
right_here second IdentityForm bytes right = rw (number_at-take (40) 4 (44) bytes (omega arith)) at right
right_here second Identity bytes right = rw (number_at-take (40) 4 (60) bytes (omega arith), number_at-take (44) 4 (60) bytes (omega arith), number_at-take (48) 4 (60) bytes (omega arith), number_at-take (52) 4 (60) bytes (omega arith), number_at-take (56) 4 (60) bytes (omega arith)) at right
right_here second (Initial word) bytes right = rw (number_at-take (56 + 4 * word) 4 (60 + 4 * word + 4) bytes (omega arith), number_at-take (60 + 4 * word) 4 (60 + 4 * word + 4) bytes (omega arith)) at right
right_here second (Flag bound) bytes right = rw (number_at-take (136 + 28 * bound) 4 (136 + 28 * bound + 4) bytes (omega arith)) at right
right_here second (Step bound) bytes right = rw (number_at-take (136 + 28 * bound) 4 (140 + 28 * bound + 8) bytes (omega arith), number_at-take (140 + 28 * bound) 8 (140 + 28 * bound + 8) bytes (omega arith)) at right
right_here second (Least bound) bytes right = rw (number_at-take (136 + 28 * bound) 4 (148 + 28 * bound + 8) bytes (omega arith), number_at-take (140 + 28 * bound) 8 (148 + 28 * bound + 8) bytes (omega arith), number_at-take (148 + 28 * bound) 8 (148 + 28 * bound + 8) bytes (omega arith)) at right
right_here second (Greatest bound) bytes right = rw (number_at-take (136 + 28 * bound) 4 (156 + 28 * bound + 8) bytes (omega arith), number_at-take (140 + 28 * bound) 8 (156 + 28 * bound + 8) bytes (omega arith), number_at-take (148 + 28 * bound) 8 (156 + 28 * bound + 8) bytes (omega arith), number_at-take (156 + 28 * bound) 8 (156 + 28 * bound + 8) bytes (omega arith)) at right
right_here true (Stream route) bytes right = rw (number_at-take (route_at true (route - 1)) 4 (route_at true route + 4) bytes (omega arith), number_at-take (route_at true route) 4 (route_at true route + 4) bytes (omega arith)) at right
right_here true (Number route) bytes right = rw (number_at-take (route_at true route + 4) 2 (route_at true route + 4 + 2) bytes (omega arith)) at right
right_here true (Zero route) bytes right = rw (number_at-take (route_at true route + 14) 2 (route_at true route + 14 + 2) bytes (omega arith)) at right
right_here false (Stream route) bytes right = rw (number_at-take (route_at false (route - 1)) 4 (route_at false route + 4) bytes (omega arith), number_at-take (route_at false route) 4 (route_at false route + 4) bytes (omega arith)) at right
right_here false (Number route) bytes right = rw (number_at-take (route_at false route + 4) 2 (route_at false route + 4 + 2) bytes (omega arith)) at right
right_here false (Zero route) bytes right = rw (number_at-take (route_at false route + 6) 2 (route_at false route + 6 + 2) bytes (omega arith)) at right
right_here false (Port route place) bytes right = tt
right_here true (Port route place) bytes right =
    let end = port_at true route place + 2 in
    let number = number_at-take (route_at true route + 4) 2 end bytes (omega arith) in
    let here = number_at-take (port_at true route place) 2 end bytes (omega arith) in (
      λ h earlier k e. right.0 (omega arith) earlier k (number_at-take (port_at true route earlier) 2 end bytes (omega arith) ∙ e ∙ sym here),
      λ h. sym here ∙ right.1 (omega arith),
    )
