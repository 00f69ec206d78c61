-- What two clauses say of one answer.
use Rattle.std.specs.Prelude.{Result, Ok, Err, IfOk, IfErr, OnErr}

pub ok_both : {T E : Type 0} (P Q R : T → Type 0) → ((x : T) → P x → Q x → R x) → (result : Result T E) → IfOk result P → IfOk result Q → IfOk result R
ok_both P Q R f (Ok x) p q = f x p q
ok_both P Q R f (Err e) p q = tt

pub err_both : {T E : Type 0} (P R : E → Type 0) (Q : Type 0) → ((e : E) → P e → Q → R e) → (result : Result T E) → IfErr result P → OnErr result Q → IfErr result R
err_both P R Q f (Ok x) p q = tt
err_both P R Q f (Err e) p q = f e p q
