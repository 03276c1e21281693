-- Which of two files is meant, by number and by name.
use Rattle.std.specs.Prelude.{ℕ, cond, eqb}
use Rattle.refusals.specs.Refused.{refusal_at}
use Rattle.two_files.specs.declared.Which.{Which}
use Rattle.two_files.specs.declared.Which.TheVariants.{Neither, Group, House}
use Rattle.two_files.specs.declared.ShelfRefusal.{ShelfRefusal}

-- The definition's number of each: 1 the group's, 2 the house's, 0 neither.
abbrev pub which_number : Which → ℕ
which_number Neither = 0
which_number Group = 1
which_number House = 2

abbrev pub which_of : ℕ → Which
which_of which = cond (eqb which 1) Group (cond (eqb which 2) House Neither)

-- A refusal by the definition's numbers.
abbrev pub refusal_of : (which number place : ℕ) → ShelfRefusal
refusal_of which number place = record { which = which_of which; refusal = refusal_at number place }
