-- `run_walk::gate::of_two` meets its contract: the two that are read are the values at the slots. Assumes nothing.
use Prim.Native.Nat.{ℕ, ◌+◌, ◌<◌}
use mathlib.Core.List.{List, [], ◌∷◌, map}
use mathlib.Core.Path.{◌≡◌, sym, ap, ap₂, ◌∙◌}
use native.Mathlib.Omega.{arith}
use native.Mathlib.Nat.{zero-add}
use borrow.Author.Rules.{rules}
use lib.ListN.{length, get_or}
use Rattle.meaning.specs.Values.{value, code}
use Rattle.gates.specs.Folds.{result_of}
use Rattle.image.specs.Slots.{values_at}
use Rattle.image.specs.Reading.{values-here, values-end}
use Rattle.run_walk.proofs.gate.of_two.Statement.{statement}
use Rattle.run_walk.proofs.gate.of_two.Tie as tie

-- Where the function began, from behind the first slot.
abbrev began : tie.After-entry → tie.Start
began c = c.before.before.before

first-inside : (c : tie.After-entry) → c.entry.result < length c.args.scratch.now
first-inside c =
    omega (arith, c.requires.0.slots c.args.from (omega arith) (omega (arith, c.requires.1)), c.entry.ensures)

-- And from behind the second.
abbrev first : tie.After-entry-2 → tie.After-entry
first c = c.before.before

second-inside : (c : tie.After-entry-2) → c.entry-2.result < length c.args.scratch.now
second-inside c =
    omega (arith, c.requires.0.slots (c.args.from + 1) (omega arith) (omega (arith, c.requires.1)), c.entry-2.ensures)

-- Two values stand at the slots.
two-values :
    (image : List ℕ) (from to : ℕ) (scratch : List ℕ) → to ≡ from + 2 → to < length image + 1 → {i j : ℕ} → i ≡ get_or image from 0
    → j ≡ get_or image (from + 1) 0 → get_or scratch i 0 ∷ get_or scratch j 0 ∷ [] ≡ values_at 0 image from to 0 scratch
two-values image from to scratch two inside {i} {j} e f =
    sym
    (values-here 0 image from to 0 scratch (omega arith) (omega arith)
    ∙ ap₂ (λ (x : ℕ) (xs : List ℕ). x ∷ xs) (ap (λ (n : ℕ). get_or scratch n 0) (zero-add (get_or image from 0) ∙ sym e))
    (values-here 0 image (from + 1) to 0 scratch (omega arith) (omega arith)
    ∙ ap₂ (λ (x : ℕ) (xs : List ℕ). x ∷ xs) (ap (λ (n : ℕ). get_or scratch n 0) (zero-add (get_or image (from + 1) 0) ∙ sym f))
    (values-end 0 image (from + 1 + 1) to 0 scratch (omega arith))))

returns : tie.Need-returns
returns c =
    let given = c.args in
    c.result.ensures
    ∙ ap (λ (xs : List ℕ). code (result_of given.rule (map value xs)))
    (two-values given.image.now given.from given.to given.scratch.now c.requires.1 (omega (arith, c.requires.0.inside))
    c.entry.ensures c.entry-2.ensures)

pub of_two_spec : {M : Type 1} → statement M
of_two_spec =
    tie.close
    (tie.spec
    (λ c κs. omega (arith, c.requires.0.inside, c.requires.1))
    (λ c. let h = first-inside c in omega arith)
    (λ c. first-inside c.before)
    (λ c. omega arith)
    (λ c κs. omega (arith, c.requires.0.inside, c.requires.1))
    (λ c. let h = second-inside c in omega arith)
    (λ c. second-inside c.before)
    (λ c κs. search rules)
    returns)
