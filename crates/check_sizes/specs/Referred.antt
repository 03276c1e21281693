-- The sums over a module's occurrences in the image, by tables of the later modules' figures, are its figures in the file: the image
-- has 16 plus its position for each module that is referred to, and there the tables have what the file says of its number.
use Rattle.std.specs.Prelude.{ℕ, suc, ◌+◌, ◌-◌, ◌≤◌, ◌≡◌, cond, List, get_or, drop}
use Rattle.std.proofs.Common.{sym, ap, ◌∙◌, arith}
use Rattle.meaning.specs.Syntax.{Occurrence, Module}
use Rattle.meaning.specs.Gates.{is_gate}
use Rattle.meaning.specs.Boxlist.{box, assoc}
use Rattle.laws.specs.WellFormed.{Reference, to_gate, to_module}
use Rattle.laws.specs.Standing.{stands, number_of}
use Rattle.image.specs.Resolved.{position_of, refer_to}
use Rattle.image.specs.Fitting.{Fits}
use Rattle.image.specs.Searching.{Search}
use Rattle.image.specs.Positions.{found_at}
use Rattle.image.specs.Referring.{Refers, refer_no_gate}
use Rattle.image.specs.OwnNumbers.{says-own}
use Rattle.image.specs.ResolvedFigures.{SameReferred}
use Rattle.check_sizes.specs.Measured.{At}
use Rattle.check_sizes.specs.Behind.{further, ruled}
use Rattle.check_sizes.specs.Walks.{entry}

module _ {ms : List Module} (fits : Fits ms) (k : ℕ) {m : Module} {later : List Module} (e : At ms k m later) where
  -- Where a number that the later modules have is in the image, and what a search says of it.
  position : (x : ℕ) {n : Module} → assoc x later ≡ box n → refer_to ms x - 16 ≡ k + 1 + position_of x later
  position x {n} found = omega (arith, (ruled k fits e).refers.modules x n found)

  says-found :
      {C : Type 0} {f : List Module → ℕ → C} {own : Module → List Module → C}
      → Search f own
      → (x : ℕ) {n : Module}
      → assoc x later ≡ box n
      → f later x ≡ own n (drop (suc (position_of x later)) later)
  says-found {f = f} search x {n} found =
      ap (f later) (number_of (stands x later found)) ∙ says-own search (ruled k fits e).rest (position_of x later) (found_at x later found)

  -- A table that has such figures of the later modules has them where the image refers to.
  module _
      {f : List Module → ℕ → ℕ} {own : Module → List Module → ℕ} (search : Search f own)
      (table : List ℕ)
      (tabled : (j : ℕ) (n : Module) (rest : List Module) → k + 1 ≤ j → At ms j n rest → get_or table j 0 ≡ own n rest) where
    entry_found : (x : ℕ) {n : Module} → assoc x later ≡ box n → entry table (refer_to ms x) ≡ f later x
    entry_found x {n} found =
        ap (λ (i : ℕ). get_or table i 0) (position x found)
        ∙ tabled (k + 1 + position_of x later) n (drop (suc (position_of x later)) later) (omega arith)
        (further ms k e (position_of x later) (found_at x later found))
        ∙ sym (says-found search x found)

    pub same-referred : SameReferred (refer_to ms) later (f later) (entry table)
    same-referred = record { same = same }
      where
        refers : Refers (refer_to ms) (k + 1) later
        refers = (ruled k fits e).refers

        same :
            (of_gate : ℕ → ℕ) (o : Occurrence)
            → Reference later o
            → cond (is_gate (refer_to ms o.refers)) (of_gate (refer_to ms o.refers)) (entry table (refer_to ms o.refers))
            ≡ cond (is_gate o.refers) (of_gate o.refers) (f later o.refers)
        same of_gate o (to_gate h arity drives) = rw (refers.gates o.refers h, h)
        same of_gate o (to_module n h found takes drives) =
            rw (refer_no_gate refers o.refers n found, h) (entry_found o.refers found)
