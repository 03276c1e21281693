-- No gate takes more than four arguments.
use Rattle.std.specs.Prelude.{ℕ, zero, suc, ◌≤◌, ◌≡◌, refl, List, [], ◌∷◌, map, get_or}
use Rattle.std.proofs.Common.{arith}
use Rattle.meaning.specs.Gates.{Gate, gate, gates}
use Rattle.meaning.specs.Figures.{largest}

within-largest :
    (gs : List Gate) (kind : ℕ) (other : Gate) → other.arity ≡ 0 → (get_or gs kind other).arity ≤ largest (map (λ g. g.arity) gs)
unfolding largest
within-largest [] kind other none = omega arith
within-largest (g ∷ gs) zero other none = omega arith
within-largest (g ∷ gs) (suc kind) other none = omega (arith, within-largest gs kind other none)

pub arity-within : (kind : ℕ) → (gate kind).arity ≤ 4
unfolding gate gates largest
arity-within kind = within-largest gates kind _ refl
