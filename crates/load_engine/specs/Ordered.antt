-- The modules of a file stand in its image one behind the other.
use Rattle.std.specs.Prelude.{ℕ, zero, suc, ◌+◌, ◌≤◌, ◌<◌, ◌≡◌, List, [], ◌∷◌, length, get_or, take, drop}
use Rattle.std.proofs.Common.{ap, arith, length-append}
use Rattle.meaning.specs.Syntax.{Module}
use Rattle.meaning.specs.Layout.{each, module_numbers}
use Rattle.image.specs.Resolved.{resolve}
use Rattle.image.specs.ResolvedLayout.{start_of, length-of-resolve, start-of-resolved}
use Rattle.load_engine.specs.Loads.{Ordered}

-- Modules whose numbers begin one behind the other end before a later one begins.
behind-another :
    (rs : List Module) (j k : ℕ) {m : Module} {later : List Module}
    → drop j rs ≡ m ∷ later
    → j < k
    → length (each module_numbers (take j rs)) + length (module_numbers m) ≤ length (each module_numbers (take k rs))
unfolding each
behind-another [] zero k e less = let never : ◌≡◌ {A = ℕ} 0 1 = cc in absurd (omega arith)
behind-another [] (suc j) k e less = let never : ◌≡◌ {A = ℕ} 0 1 = cc in absurd (omega arith)
behind-another (r ∷ rs) zero zero e less = absurd (omega arith)
behind-another (r ∷ rs) zero (suc k) {m} e less =
    let same : r ≡ m = cc in
    omega (arith, length-append (module_numbers r) (each module_numbers (take k rs)), ap (λ (n : Module). length (module_numbers n)) same)
behind-another (r ∷ rs) (suc j) zero e less = absurd (omega arith)
behind-another (r ∷ rs) (suc j) (suc k) e less =
    omega (
      arith,
      behind-another rs j k e (omega arith),
      length-append (module_numbers r) (each module_numbers (take j rs)),
      length-append (module_numbers r) (each module_numbers (take k rs)),
    )

pub ordered : {starts : List ℕ} (ms : List Module) → ((k : ℕ) → k < length ms → get_or starts k 0 ≡ start_of ms k) → Ordered starts (resolve ms)
unfolding start_of
ordered ms begin =
    record {
      ends = λ j k e less inside.
          let count = length-of-resolve ms in
          omega (
            arith,
            behind-another (resolve ms) j k e less,
            start-of-resolved ms j,
            start-of-resolved ms k,
            begin j (omega arith),
            begin k (omega arith),
          );
    }
