-- When a context that arrives is a repeat of one that is held.
use Rattle.std.specs.Prelude.{◌≡◌}
use Rattle.difi_context.specs.declared.context.ContextRec.{ContextRec}

-- their prologues, change indicators and fields are the same
pub record IsSameContext (a b : ContextRec) : Type 0 where
  pub prologue : a.prologue ≡ b.prologue
  pub changed : a.changed ≡ b.changed
  pub fields : a.fields ≡ b.fields
