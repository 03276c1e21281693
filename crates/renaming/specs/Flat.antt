-- A module under another number, and where references are placed. That a flattened module is the same under other numbers, but for the
-- module's own, is in proofs/Flat.antt.
use Rattle.std.specs.Prelude.{ℕ, ◌≡◌}
use Rattle.std.proofs.Math.Path.{refl}
use mathlib.Core.List.{List}
use Rattle.meaning.specs.Syntax.{Module}
use Rattle.meaning.specs.Flattening.{Board, Placed, Placing, place_gate, place_referred, Walked}
use Rattle.renaming.specs.Renamed.{KeepsGates}
use Rattle.renaming.specs.Searches.{Alike, referred}
use Rattle.renaming.specs.Runs.{rename_env}
use Rattle.renaming.specs.Figures.{Same}

-- A module under another number.
abbrev pub under : (number : ℕ) → Module → Module
under number m = record { number = number; inputs = m.inputs; outputs = m.outputs; occurrences = m.occurrences }

pub record Places (f g : List ℕ → Board → Placed) : Type 0 where
  pub on : (nets : List ℕ) (board : Board) → g nets board ≡ f nets board

abbrev pub walked : (net : ℕ → ℕ) → Walked → Walked
walked net w = record { env = rename_env net w.env; board = w.board }

module _ {number : ℕ → ℕ} (keeps : KeepsGates number) where
  module _ {l l' : Placing} (later : Alike Places number l l') where
    pub referred-placed : (n : ℕ) (nets : List ℕ) (board : Board) → place_referred l' (number n) nets board ≡ place_referred l n nets board
    referred-placed n nets board = referred keeps Same (λ kind. place_gate kind nets board) {l = λ k. l k nets board} {l' = λ k. l' k nets board} (λ kind. refl) (record { at = λ k. (later.at k).on nets board }) n
