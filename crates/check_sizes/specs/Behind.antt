-- The module at a position of a file that keeps rules 6 to 16, and the modules behind it.
use Rattle.std.specs.Prelude.{ℕ, zero, suc, ◌+◌, ◌<◌, ◌≡◌, refl, List, [], ◌∷◌, length, drop}
use Rattle.std.proofs.Common.{sym, ap, ◌∙◌, arith, add-zero, zero-add, add-suc, suc-add, add-one, length-drop, drop-drop}
use Rattle.meaning.specs.Syntax.{Module}
use Rattle.image.specs.Resolved.{refer_to}
use Rattle.image.specs.Fitting.{ModuleFits, Fits, none, some}
use Rattle.image.specs.Positions.{nothing-at}
use Rattle.image.specs.Referring.{Refers, refers-whole, refers-behind}
use Rattle.check_sizes.specs.Measured.{At}

-- Every position below the length has its module.
pub record Here (ms : List Module) (k : ℕ) : Type 0 where
  pub m : Module
  pub later : List Module
  pub at : At ms k m later

pub here : (ms : List Module) (k : ℕ) → k < length ms → Here ms k
here [] k h = absurd (omega arith)
here (m ∷ ms) zero h = record { m = m; later = ms; at = refl }
here (m ∷ ms) (suc k) h = let there = here ms k (omega arith) in record { m = there.m; later = there.later; at = there.at }

module _ (ms : List Module) (k : ℕ) {m : Module} {later : List Module} (e : At ms k m later) where
  pub inside : k < length ms
  inside = omega (arith, ap length e, length-drop k ms)

  -- The modules behind it, and a position among them.
  pub behind : drop (k + 1) ms ≡ later
  behind = sym (drop-drop 1 k ms) ∙ ap (drop 1) e

  pub further : (j : ℕ) {n : Module} {rest : List Module} → At later j n rest → At ms (k + 1 + j) n rest
  further j there = sym (drop-drop j (k + 1) ms) ∙ ap (drop j) behind ∙ there

-- What the rules say of the module, and how references to those behind it are renumbered.
pub record Ruled (refer : ℕ → ℕ) (position : ℕ) (m : Module) (later : List Module) : Type 0 where
  pub fits : ModuleFits m later
  pub rest : Fits later
  pub refers : Refers refer (position + 1) later

ruled-from :
    {refer : ℕ → ℕ} {position : ℕ} {ms : List Module} (k : ℕ) {m : Module} {later : List Module}
    → Fits ms
    → Refers refer position ms
    → At ms k m later
    → Ruled refer (position + k) m later
ruled-from k none refers e = absurd (nothing-at k e)
ruled-from {position = position} zero {m} {later} (some {m = first} {later = rest} ok fits) refers e =
    let same : first ≡ m = cc in
    let behind : rest ≡ later = cc in
    rw (add-zero position, ← same, ← behind)
    (record { fits = ok; rest = fits; refers = rw (add-one position) (refers-behind ok refers) })
ruled-from {position = position} (suc k) (some ok fits) refers e =
    rw (add-suc position k, ← suc-add position k) (ruled-from k fits (refers-behind ok refers) e)

pub ruled : {ms : List Module} (k : ℕ) {m : Module} {later : List Module} → Fits ms → At ms k m later → Ruled (refer_to ms) k m later
ruled k fits e = rw (zero-add k) at (ruled-from k fits (refers-whole fits) e)
