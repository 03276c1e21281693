-- A module is refused with one of rules 6 to 16, never with 17, which is about sizes.
use Prim.Native.Nat.{ℕ, suc, ◌≤◌}
use mathlib.Core.Path.{◌≡◌}
use mathlib.Core.Bool.{Bool, true, false}
use mathlib.Core.List.{List, [], ◌∷◌, ◌++◌}
use native.Mathlib.Omega.{arith}
use Rattle.meaning.specs.Syntax.{Occurrence, Module}
use Rattle.meaning.specs.Verdict.{Verdict, good, refused, keep, and_then, occurrence_verdict, body_verdict, module_verdict, modules_verdict}

record Low (v : Verdict) : Type 0 where
  low : (rule place : ℕ) → v ≡ refused rule place → rule ≤ 16

low-good : Low good
low-good = record { low = λ rule place e. absurd (cc) }

keep-low : (number place : ℕ) (kept : Bool) {next : Verdict} → number ≤ 16 → Low next → Low (keep number place kept next)
keep-low number place true h l = l
keep-low number place false h l = record { low = λ rule at e. let same : number ≡ rule = cc in omega (arith, same, h) }

then-low : (v : Verdict) {next : Verdict} → Low v → Low next → Low (and_then v next)
then-low good l n = n
then-low (refused number place) l n = l

body-low : (p : ℕ) (os : List Occurrence) (signals : List ℕ) (later : List Module) → Low (body_verdict p os signals later)
unfolding body_verdict occurrence_verdict
body-low p [] signals later = low-good
body-low p (o ∷ os) signals later =
    then-low (occurrence_verdict p o signals later)
    (keep-low 11 p _ (omega arith) (keep-low 12 p _ (omega arith) (keep-low 13 p _ (omega arith) (keep-low 14 p _ (omega arith) low-good))))
    (body-low p os (o.drives ++ signals) later)

module-low : (p : ℕ) (m : Module) (later : List Module) → Low (module_verdict p m later)
unfolding module_verdict
module-low p m later =
    keep-low 6 p _ (omega arith)
    (keep-low 7 p _ (omega arith)
    (keep-low 8 p _ (omega arith)
    (keep-low 9 p _ (omega arith)
    (keep-low 10 p _ (omega arith)
    (then-low (body_verdict p m.occurrences m.inputs later) (body-low p m.occurrences m.inputs later)
    (keep-low 15 p _ (omega arith) (keep-low 16 p _ (omega arith) low-good)))))))

pub rule-low : (p : ℕ) (m : Module) (later : List Module) {rule place : ℕ} → module_verdict p m later ≡ refused rule place → rule ≤ 16
rule-low p m later e = (module-low p m later).low _ _ e

modules-low : (p : ℕ) (ms : List Module) → Low (modules_verdict p ms)
unfolding modules_verdict
modules-low p [] = low-good
modules-low p (m ∷ later) = then-low (module_verdict p m later) (module-low p m later) (modules-low (suc p) later)

-- Nor is a list of modules.
pub rules-low : (p : ℕ) (ms : List Module) {rule place : ℕ} → modules_verdict p ms ≡ refused rule place → rule ≤ 16
rules-low p ms e = (modules-low p ms).low _ _ e
