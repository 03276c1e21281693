-- No text is refused with number 0: reading says 25 or 26.
use Rattle.std.specs.Prelude.{ℕ, ◌≡◌, List}
use Rattle.std.proofs.Common.{arith}
use Rattle.meaning.specs.Calls.{Decision, refusal}
use Rattle.meaning.specs.ListForm.{ListedModule}
use Rattle.meaning.specs.ListCall.{reading}
use Rattle.laws.specs.Texts.Outcome.{Read, lists, wrong, too_much, read_right}

read-numbered : {text : List ℕ} {d : Decision (List ListedModule)} {number place : ℕ} → Read text d → d ≡ refusal number place → number ≡ 0 → ⊥
read-numbered (lists l) e z = absurd (cc)
read-numbered (wrong at never) e z = let same : ◌≡◌ {A = ℕ} 25 0 = cc in omega (arith, same)
read-numbered (too_much goes) e z = let same : ◌≡◌ {A = ℕ} 26 0 = cc in omega (arith, same)

pub refusal-numbered : (text : List ℕ) {number place : ℕ} → reading text ≡ refusal number place → number ≡ 0 → ⊥
refusal-numbered text e = read-numbered (read_right text) e
