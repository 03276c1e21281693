-- Nets with a sign between any two.
use Rattle.std.specs.Prelude.{ℕ, List, [], ◌∷◌, ◌++◌}
use Rattle.meaning.specs.Layout.{each}
use Rattle.meaning.specs.Ndl.{net_text}

-- A net with the sign in front.
abbrev pub signed : (sign net : ℕ) → List ℕ
signed sign net = sign ∷ net_text net

unfoldable pub apart : (sign : ℕ) (nets : List ℕ) → List ℕ
apart sign [] = []
apart sign (net ∷ nets) = net_text net ++ each (signed sign) nets
