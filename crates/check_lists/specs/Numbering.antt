-- Which module a number means: one more than the position of the first module that has it, 0 where none has. And the first module
-- whose number stands on a later module too.
use Rattle.std.specs.Prelude.{ℕ, zero, suc, ◌+◌, ◌<◌, ◌≤◌, ◌≡◌, cond, List, [], ◌∷◌, eqb, length, get_or}
use Rattle.meaning.specs.Syntax.{Module}
use Rattle.meaning.specs.Boxlist.{assoc, is_box}
use Rattle.check_lists.specs.Filed.{At}

-- A place, counted from 1 with 0 for none, in a list that has so many entries in front.
abbrev pub shifted : ℕ → ℕ → ℕ
shifted k zero = 0
shifted k (suc j) = suc (k + j)

unfoldable pub first_of : ℕ → List Module → ℕ
first_of x [] = 0
first_of x (m ∷ ms) = cond (eqb x m.number) 1 (shifted 1 (first_of x ms))

-- The position of the first module whose number stands on a later one; the count of modules where there is none.
unfoldable pub first_repeat : List Module → ℕ
first_repeat [] = 0
first_repeat (m ∷ ms) = cond (is_box (assoc m.number ms)) 0 (suc (first_repeat ms))

-- A table indexed by number.
pub record Numbered (first : List ℕ) (ms : List Module) : Type 0 where
  pub place : (x : ℕ) → get_or first x 0 ≡ first_of x ms

-- Tables indexed by position: every module's number,
pub record Naming (names : List ℕ) (ms : List Module) : Type 0 where
  pub name : (k : ℕ) (m : Module) (later : List Module) → At ms k m later → get_or names k 0 ≡ m.number
  pub listed : length ms ≤ length names

-- and its counts of inputs and of outputs.
pub record Ported (inputs outputs : List ℕ) (ms : List Module) : Type 0 where
  pub taken : (k : ℕ) (m : Module) (later : List Module) → At ms k m later → get_or inputs k 0 ≡ length m.inputs
  pub driven : (k : ℕ) (m : Module) (later : List Module) → At ms k m later → get_or outputs k 0 ≡ length m.outputs
  pub inputs_listed : length ms ≤ length inputs
  pub outputs_listed : length ms ≤ length outputs

-- All modules of a file are in the tables, and the first repeat is known.
pub record Entered (ms : List Module) (first names inputs outputs : List ℕ) (repeated : ℕ) : Type 0 where
  pub numbered : Numbered first ms
  pub named : Naming names ms
  pub ported : Ported inputs outputs ms
  pub repeats : repeated ≡ first_repeat ms

-- What looking up a reference in the module at position k asks: the tables know the modules of a file, no module up to k has a number
-- that stands on a later one, and the number is an index of the table.
pub record Referable (first inputs outputs : List ℕ) (k number : ℕ) : Type 0 where
  pub ms : List Module
  pub numbered : Numbered first ms
  pub ported : Ported inputs outputs ms
  pub unrepeated : k < first_repeat ms
  pub index : number < length first
