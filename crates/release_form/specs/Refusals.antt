-- The table of the refusals of a frame.
use Rattle.std.specs.Prelude.{ℕ}
use Rattle.release_form.specs.declared.refusal.Refusal.{Refusal}
use Rattle.release_form.specs.declared.refusal.Refusal.TheVariants.{TooLarge, Malformed, NoRoute, Late, Repeat, Conflict, NotAddressed, Reused, ScheduleFull, Answer}

abbrev pub refusal_number : Refusal → ℕ
refusal_number TooLarge = 1
refusal_number Malformed = 2
refusal_number NoRoute = 3
refusal_number Late = 4
refusal_number Repeat = 5
refusal_number Conflict = 6
refusal_number NotAddressed = 7
refusal_number Reused = 8
refusal_number ScheduleFull = 9
refusal_number Answer = 10
