-- What a count says of a file and of its rewriting: gates grow by exactly two for each of the four gates that is reached, and delay grows
-- to at most twice.
use Rattle.std.specs.Prelude.{ℕ, ◌+◌, ◌*◌, ◌≤◌, ◌≡◌, refl, Bool, true, false, cond, eqb}
use Rattle.std.proofs.Math.Path.{ap}
use mathlib.Core.List.{List}
use native.Mathlib.Omega.{arith}
use Rattle.std.proofs.Math.ListN.{get_or}
use Rattle.meaning.specs.Syntax.{Module}
use Rattle.meaning.specs.Figures.{gate_count, kind_count, tally, delay}
use Rattle.meaning.specs.Calls.{Figures, answer, Written, counting}
use Rattle.meaning.specs.Withdrawn.{withdrawn, rewrite_file}
use Rattle.laws.specs.Runs.{only-counted}
use Rattle.laws.specs.Figures.Weights.{weights_together}
use Rattle.laws.specs.Withdrawn.Kinds.{Four, nand4, or4, and4, nor4, four-told}
use Rattle.laws.specs.Withdrawn.Fresh.{neither_true}
use Rattle.laws.specs.Withdrawn.Counts.{four_weight, fours_reached, gates_grow}
use Rattle.laws.specs.Withdrawn.Delay.{at-most-twice}
use Rattle.laws.specs.Withdrawn.Answered.{Rewritten, new-reads}

-- The four gates that are reached are those of the four kinds in the tally.
abbrev weights : ℕ → ℕ → ℕ
weights i kind = cond (eqb i 0) (four_weight kind) (cond (eqb kind i) 1 0)

abbrev Summed : (ℕ → ℕ) → Type 0
Summed f = f 0 ≡ f 4 + (f 7 + (f 12 + f 15))

pub fours-by-kind :
    (ms : List Module) (number : ℕ)
    → fours_reached ms number ≡ kind_count 4 ms number + (kind_count 7 ms number + (kind_count 12 ms number + kind_count 15 ms number))
unfolding fours_reached kind_count withdrawn
fours-by-kind ms number =
    weights_together weights Summed ms number
    (record { none = refl; both = λ f g p q. omega arith; one = λ kind gate. go kind (withdrawn kind) refl })
  where
    four : {kind : ℕ} → Four kind → Summed (λ i. weights i kind)
    four nand4 = refl
    four or4 = refl
    four and4 = refl
    four nor4 = refl

    go : (kind : ℕ) (b : Bool) → withdrawn kind ≡ b → Summed (λ i. weights i kind)
    go kind true e = four (four-told kind e)
    go kind false e =
        let one = neither_true (eqb kind 4) _ e in
        let two = neither_true (eqb kind 7) _ one.1 in
        let three = neither_true (eqb kind 12) _ two.1 in
        rw (one.0, two.0, three.0, three.1)

-- The four-input gates that a count's tally has.
abbrev pub fours_in : Figures → ℕ
fours_in f = get_or f.tally 4 0 + (get_or f.tally 7 0 + (get_or f.tally 12 0 + get_or f.tally 15 0))

-- Two counts of one number, on a file and on its rewriting.
module _ {file : List ℕ} {w : Written} (r : Rewritten file w) (number scratch scratch' : ℕ) (old new : Figures)
    (counted : counting file number scratch ≡ answer old) (recounted : counting w.bytes number scratch' ≡ answer new)
  where
    pub counts_grow : (new.gates ≡ old.gates + 2 * fours_in old) × (new.delay ≤ 2 * old.delay)
    unfolding tally
    counts_grow =
        let before = only-counted file number scratch old counted in
        let after = only-counted w.bytes number scratch' new recounted in
        let same : before.0 ≡ r.ms = cc (before.2.reads, r.reads) in
        let same' : after.0 ≡ rewrite_file r.ms = cc (after.2.reads, new-reads r) in
        let in_old : (f : List Module → ℕ) → f before.0 ≡ f r.ms = λ f. ap f same in
        let in_new : (f : List Module → ℕ) → f after.0 ≡ f (rewrite_file r.ms) = λ f. ap f same' in
        let kinds : (kind : ℕ) → kind_count kind before.0 number ≡ kind_count kind r.ms number = λ kind. in_old (λ l. kind_count kind l number) in (
          omega (
            arith,
            ap (λ (f : Figures). f.gates) before.3,
            ap (λ (f : Figures). f.gates) after.3,
            ap (λ (f : Figures). get_or f.tally 4 0) before.3,
            ap (λ (f : Figures). get_or f.tally 7 0) before.3,
            ap (λ (f : Figures). get_or f.tally 12 0) before.3,
            ap (λ (f : Figures). get_or f.tally 15 0) before.3,
            in_old (λ l. gate_count l number),
            in_new (λ l. gate_count l number),
            kinds 4,
            kinds 7,
            kinds 12,
            kinds 15,
            fours-by-kind r.ms number,
            gates_grow r.ms number,
          ),
          omega (
            arith,
            ap (λ (f : Figures). f.delay) before.3,
            ap (λ (f : Figures). f.delay) after.3,
            in_old (λ l. delay l number),
            in_new (λ l. delay l number),
            at-most-twice r.accepted number,
          ),
        )
