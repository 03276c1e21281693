-- The module at a position of a list, and those after it.
use Rattle.std.specs.Prelude.{ℕ, zero, suc, ◌+◌, ◌<◌, ◌≡◌, refl, List, [], ◌∷◌, length, drop}
use Rattle.std.proofs.Common.{ap, ◌∙◌, arith, suc-add}
use Rattle.meaning.specs.Syntax.{Module}

pub record Here (ms : List Module) (k : ℕ) : Type 0 where
  pub m : Module
  pub later : List Module
  pub here : drop k ms ≡ m ∷ later
  pub after : drop (k + 1) ms ≡ later

pub here-at : (ms : List Module) (k : ℕ) → k < length ms → Here ms k
here-at [] k h = absurd (omega (arith, h))
here-at (m ∷ ms) zero h = record { m = m; later = ms; here = refl; after = refl }
here-at (m ∷ ms) (suc k) h =
    let p = here-at ms k (omega arith) in
    record { m = p.m; later = p.later; here = p.here; after = ap (λ (n : ℕ). drop n (m ∷ ms)) (suc-add k 1) ∙ p.after }
