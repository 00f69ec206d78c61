-- For each role, and for each pair of identities that a packet can name, there is a mode word that asks for no more.
use Rattle.std.specs.Prelude.{◌≡◌, ℕ, ◌+◌, Bool, true, false, ◌==◌, [], ◌∷◌}
use Rattle.std.specs.List.{list_any}
use Rattle.std.proofs.Common.{◌⊎◌, inl, inr, refl, sym, arith}
use Rattle.std.proofs.lemmas.Grind.{common_steps}
use Rattle.cam_field.specs.Cam.{IsCam}
use Rattle.cam_field.proofs.CamLaws.{spelled}
use Rattle.cam_field.specs.Ident.{ident_size}
use Rattle.cam_field.specs.Spelling.{word_of_cam}
use Rattle.cam_field.specs.declared.cam.Cam.{Cam}
use Rattle.cam_field.specs.declared.modes.Action.TheVariants as actions
use Rattle.cam_field.specs.declared.modes.Timing.TheVariants.{Now}
use Rattle.cam_field.specs.declared.modes.Role.{Role}
use Rattle.cam_field.specs.declared.modes.Role.TheVariants.{Control, Cancel, Ack}

-- which identities are named, and in which form
pub record Naming : Type 0 where
  pub ce : Bool
  pub ie : Bool
  pub cr : Bool
  pub ir : Bool

-- only an identity that is named has a form
pub record IsNaming (naming : Naming) : Type 0 where
  pub controllee : naming.ie ≡ true → naming.ce ≡ true
  pub controller : naming.ir ≡ true → naming.cr ≡ true

-- the words of both
abbrev pub named_words : Naming → ℕ
named_words naming = ident_size naming.ce naming.ie + ident_size naming.cr naming.ir

-- names these, and says nothing else
abbrev pub silent_cam : Naming → Cam
silent_cam naming = record {
  ce = naming.ce;
  ie = naming.ie;
  cr = naming.cr;
  ir = naming.ir;
  partial = false;
  warnings = false;
  errors = false;
  action = actions.None;
  nk = false;
  v = false;
  x = false;
  s = false;
  warned = false;
  erred = false;
  timing = Now;
  in_part = false;
  executed = false;
}

-- an answer to a query
abbrev pub state_cam : Naming → Cam
state_cam naming = record (silent_cam naming) { s = true }

-- an acknowledgement of the validation, with warnings and errors or without
abbrev pub report_cam : Naming → Bool → Bool → Cam
report_cam naming warned erred = record (silent_cam naming) { v = true; warned = warned; erred = erred }

abbrev pub plain_cam : Role → Naming → Cam
plain_cam Control naming = silent_cam naming
plain_cam Cancel naming = silent_cam naming
plain_cam Ack naming = state_cam naming

-- a packet of each role can have it, timed or not
pub each_role : (role : Role) (timed : Bool) (naming : Naming) → IsNaming naming → IsCam role timed (plain_cam role naming) (word_of_cam (plain_cam role naming))
each_role Control timed naming named = record {
  spelled = spelled (silent_cam naming);
  allowed = record {
    controllee = named.controllee;
    controller = named.controller;
    time = λ _. refl;
    asked = record { in_part = refl; executed = refl };
  };
}
each_role Cancel timed naming named = record {
  spelled = spelled (silent_cam naming);
  allowed = record {
    controllee = named.controllee;
    controller = named.controller;
    time = λ _. refl;
    asked = record { v = refl; s = refl; timing = refl; unexecuted = record { in_part = refl; executed = refl } };
  };
}
each_role Ack timed naming named = record {
  spelled = spelled (state_cam naming);
  allowed = record {
    controllee = named.controllee;
    controller = named.controller;
    time = λ _. refl;
    asked = inr (inr (record {
      kind = record { v = refl; x = refl; s = refl };
      warned = refl;
      erred = refl;
      unexecuted = record { in_part = refl; executed = refl };
    }));
  };
}

pub each_report : (timed : Bool) (naming : Naming) (warned erred : Bool) → IsNaming naming
    → IsCam Ack timed (report_cam naming warned erred) (word_of_cam (report_cam naming warned erred))
each_report timed naming warned erred named = record {
  spelled = spelled (report_cam naming warned erred);
  allowed = record {
    controllee = named.controllee;
    controller = named.controller;
    time = λ _. refl;
    asked = inl (record {
      kind = record { v = refl; x = refl; s = refl };
      unexecuted = record { in_part = refl; executed = refl };
    });
  };
}

-- the numbers of words that two identities can have
abbrev pub is_named_size : ℕ → Bool
is_named_size n = list_any (λ size. n == size) (0 ∷ 1 ∷ 2 ∷ 4 ∷ 5 ∷ 8 ∷ [])

-- one of the numbers of words that two identities can have
IsNamedSize : ℕ → Type 0
IsNamedSize n = (n ≡ 0) ⊎ ((n ≡ 1) ⊎ ((n ≡ 2) ⊎ ((n ≡ 4) ⊎ ((n ≡ 5) ⊎ (n ≡ 8)))))

named_size : (n : ℕ) → is_named_size n ≡ true → IsNamedSize n
unfolding IsNamedSize
named_size n h = grind (arith, common_steps)

abbrev naming_of : Bool → Bool → Bool → Bool → Naming
naming_of ce ie cr ir = record { ce = ce; ie = ie; cr = cr; ir = ir }

is_naming : (ce ie cr ir : Bool) → (ie ≡ true → ce ≡ true) → (ir ≡ true → cr ≡ true) → IsNaming (naming_of ce ie cr ir)
is_naming ce ie cr ir p q = record { controllee = p; controller = q }

-- and for each of them there are two
pub each_size : (n : ℕ) → is_named_size n ≡ true → (naming : Naming) × (IsNaming naming × (named_words naming ≡ n))
unfolding IsNamedSize
each_size n h =
    elim (named_size n h) [
      | inl e ↦ (naming_of false false false false, (is_naming false false false false (λ k. k) (λ k. k), sym e))
      | inr (inl e) ↦ (naming_of true false false false, (is_naming true false false false (λ _. refl) (λ k. k), sym e))
      | inr (inr (inl e)) ↦ (naming_of true false true false, (is_naming true false true false (λ _. refl) (λ _. refl), sym e))
      | inr (inr (inr (inl e))) ↦ (naming_of true true false false, (is_naming true true false false (λ _. refl) (λ k. k), sym e))
      | inr (inr (inr (inr (inl e)))) ↦ (naming_of true true true false, (is_naming true true true false (λ _. refl) (λ _. refl), sym e))
      | inr (inr (inr (inr (inr e)))) ↦ (naming_of true true true true, (is_naming true true true true (λ _. refl) (λ _. refl), sym e))
    ]
