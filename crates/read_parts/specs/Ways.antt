-- The cases of the code's answers exclude each other, and a refusal that is handed on is the refusal that came.
use Rattle.std.specs.Prelude.{ℕ, ◌≡◌, Result, Ok, Err, IsErrAnd}
use Rattle.std.proofs.Common.{ap, ◌∙◌, arith}
use Rattle.std.proofs.lemmas.Result.{err_from_is_err_and}

pub ok_not_err : {A E : Type 0} {value : A} {error : E} → Ok value ≡ Err error → ⊥
ok_not_err e = let z : ◌≡◌ {A = ℕ} 0 1 = cc in omega arith

-- What `?` returns where it ends the function.
pub handed_on : {A E : Type 0} {r : Result A E} {error : E} → IsErrAnd r (λ e. e ≡ error) → r ≡ Err error
handed_on {r} h = let w = err_from_is_err_and r h in w.1 ∙ ap Err w.2
