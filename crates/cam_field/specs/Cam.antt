-- The control and acknowledge mode word, one line for each of its fields, and what each kind of packet asks of it.
use Rattle.std.specs.Prelude.{◌≡◌, ℕ, ◌==◌, ◌⊎◌, Bool, true, false}
use Rattle.vrt_words.specs.Words.{bits}
use Rattle.cam_field.specs.declared.modes.Action.{Action}
use Rattle.cam_field.specs.declared.modes.Action.TheVariants as actions
use Rattle.cam_field.specs.declared.modes.Timing.{Timing}
use Rattle.cam_field.specs.declared.modes.Timing.TheVariants.{Now, At, AtOrNow}
use Rattle.cam_field.specs.declared.modes.Role.{Role}
use Rattle.cam_field.specs.declared.modes.Role.TheVariants.{Control, Cancel, Ack}
use Rattle.cam_field.specs.declared.cam.Cam.{Cam}

-- the codes of the action; 11 is none
abbrev pub action_code : Action → ℕ
action_code actions.None = 0
action_code actions.DryRun = 1
action_code actions.Execute = 2

-- the codes of the timing; 011 to 111 are none
abbrev pub timing_code : Timing → ℕ
timing_code Now = 0
timing_code At = 1
timing_code AtOrNow = 2

-- what the word says, from its highest bit down
pub record IsSpelled (cam : Cam) (word : ℕ) : Type 0 where
  pub ce : cam.ce ≡ (bits word 31 1 == 1)
  pub ie : cam.ie ≡ (bits word 30 1 == 1)
  pub cr : cam.cr ≡ (bits word 29 1 == 1)
  pub ir : cam.ir ≡ (bits word 28 1 == 1)
  pub partial : cam.partial ≡ (bits word 27 1 == 1)
  pub warnings : cam.warnings ≡ (bits word 26 1 == 1)
  pub errors : cam.errors ≡ (bits word 25 1 == 1)
  pub action : bits word 23 2 ≡ action_code cam.action
  pub nk : cam.nk ≡ (bits word 22 1 == 1)
  pub clear_21 : bits word 21 1 ≡ 0
  pub v : cam.v ≡ (bits word 20 1 == 1)
  pub x : cam.x ≡ (bits word 19 1 == 1)
  pub s : cam.s ≡ (bits word 18 1 == 1)
  pub warned : cam.warned ≡ (bits word 17 1 == 1)
  pub erred : cam.erred ≡ (bits word 16 1 == 1)
  pub clear_15 : bits word 15 1 ≡ 0
  pub timing : bits word 12 3 ≡ timing_code cam.timing
  pub in_part : cam.in_part ≡ (bits word 11 1 == 1)
  pub executed : cam.executed ≡ (bits word 10 1 == 1)
  pub clear_9 : bits word 0 10 ≡ 0

-- nothing is executed yet
pub record IsUnexecuted (cam : Cam) : Type 0 where
  pub in_part : cam.in_part ≡ false
  pub executed : cam.executed ≡ false

-- a cancellation acts at once, and asks for an acknowledgement of the execution at most
pub record IsCancelling (cam : Cam) : Type 0 where
  pub v : cam.v ≡ false
  pub s : cam.s ≡ false
  pub timing : cam.timing ≡ Now
  pub unexecuted : IsUnexecuted cam

-- exactly these of the three bits are set
pub record IsOfKind (validated executed told : Bool) (cam : Cam) : Type 0 where
  pub v : cam.v ≡ validated
  pub x : cam.x ≡ executed
  pub s : cam.s ≡ told

-- an acknowledgement of the validation, which executes nothing
pub record IsValidation (cam : Cam) : Type 0 where
  pub kind : IsOfKind true false false cam
  pub unexecuted : IsUnexecuted cam

-- an acknowledgement of the execution
abbrev pub IsExecution : Cam → Type 0
IsExecution cam = IsOfKind false true false cam

-- an answer to a query of the state, which has no warnings and no errors
pub record IsState (cam : Cam) : Type 0 where
  pub kind : IsOfKind false false true cam
  pub warned : cam.warned ≡ false
  pub erred : cam.erred ≡ false
  pub unexecuted : IsUnexecuted cam

-- what the kind of packet asks; all other bits are free there
abbrev pub IsForRole : Role → Cam → Type 0
IsForRole Control cam = IsUnexecuted cam
IsForRole Cancel cam = IsCancelling cam
IsForRole Ack cam = IsValidation cam ⊎ (IsExecution cam ⊎ IsState cam)

-- The form of an identity is told only where there is one, and a time only where the packet has one.
pub record IsAllowed (role : Role) (timed : Bool) (cam : Cam) : Type 0 where
  pub controllee : cam.ie ≡ true → cam.ce ≡ true
  pub controller : cam.ir ≡ true → cam.cr ≡ true
  pub time : timed ≡ false → cam.timing ≡ Now
  pub asked : IsForRole role cam

-- a packet of this role, timed or not, can have the word, which says this
pub record IsCam (role : Role) (timed : Bool) (cam : Cam) (word : ℕ) : Type 0 where
  pub spelled : IsSpelled cam word
  pub allowed : IsAllowed role timed cam
