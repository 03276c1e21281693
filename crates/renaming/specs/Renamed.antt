-- Files that differ in their numbers only: the nets of each module are renamed one-to-one, and so are the modules; gates keep their numbers.
use Rattle.std.specs.Prelude.{ℕ, ◌≡◌, true, false, List, [], ◌∷◌, map, eqb}
use Rattle.meaning.specs.Syntax.{Occurrence, Module}
use Rattle.meaning.specs.Gates.{is_gate}

-- Two numbers become the same exactly if they are.
pub record OneToOne (f : ℕ → ℕ) : Type 0 where
  pub tells : (x y : ℕ) → eqb (f x) (f y) ≡ eqb x y

-- And a gate stays itself; a module becomes none.
pub record KeepsGates (f : ℕ → ℕ) : Type 0 where
  pub one : OneToOne f
  pub gates : (n : ℕ) → is_gate n ≡ true → f n ≡ n
  pub modules : (n : ℕ) → is_gate n ≡ false → is_gate (f n) ≡ false

abbrev pub rename_occurrence : (net number : ℕ → ℕ) → Occurrence → Occurrence
rename_occurrence net number o = record { drives = map net o.drives; refers = number o.refers; takes = map net o.takes }

abbrev pub rename_module : (net number : ℕ → ℕ) → Module → Module
rename_module net number m =
    record {
      number = number m.number;
      inputs = map net m.inputs;
      outputs = map net m.outputs;
      occurrences = map (rename_occurrence net number) m.occurrences;
    }

-- The modules of one list under other numbers, each with a renaming of nets of its own.
pub data Renamed (number : ℕ → ℕ) : List Module → List Module → Type 0 where
  none : Renamed number [] []
  more : {m : Module} {ms ns : List Module} (net : ℕ → ℕ) → OneToOne net → Renamed number ms ns
      → Renamed number (m ∷ ms) (rename_module net number m ∷ ns)
