-- A file that is refused with 11 to 14 has at the refusal's place a module whose first occurrence at fault is the one that is found.
use Prim.Native.Nat.{ℕ, suc, ◌+◌, ◌≤◌}
use Rattle.std.proofs.Common.{arith, ◌∙◌, ap}
use Rattle.std.specs.Prelude.{◌≡◌, true, false, not, drop}
use Rattle.std.proofs.Math.Path.{refl}
use Rattle.std.proofs.Math.Bool.{Bool}
use mathlib.Core.List.{List, [], ◌∷◌}
use Rattle.meaning.specs.Syntax.{Module}
use Rattle.meaning.specs.Boxlist.{disjoint, duplicates, subset, assoc, is_box}
use Rattle.meaning.specs.Limits.{driven, number_ok, nets_ok, size_ok}
use Rattle.meaning.specs.Verdict.{Verdict, good, refused, keep, and_then, body_verdict, module_verdict, modules_verdict, sizes_verdict, file_verdict}
use Rattle.text_faults.specs.Faults.{first_fault, fault_at}
use Rattle.text_faults.specs.Breaking.{FirstOf, FirstAt}
use Rattle.text_faults.specs.First.{body_fault}

-- A number of the rules on occurrences.
abbrev pub OfOccurrences : ℕ → Type 0
OfOccurrences number = (11 ≤ number) × (number ≤ 14)

-- A rule of another number is kept.
kept : {number p : ℕ} (k place : ℕ) (b : Bool) (next : Verdict) → ¬ (number ≡ k) → keep k place b next ≡ refused number p → next ≡ refused number p
kept k place true next other e = e
kept {number} k place false next other e = absurd (other (cc))

not_good : {number p : ℕ} → ¬ (good ≡ refused number p)
not_good e = let z : ◌≡◌ {A = ℕ} 0 1 = cc in omega arith

module _ (number p : ℕ) (n : OfOccurrences number) where
  -- Of a module's rules it is one on an occurrence.
  in_body : (place : ℕ) (m : Module) (later : List Module) → module_verdict place m later ≡ refused number p
      → body_verdict place m.occurrences m.inputs later ≡ refused number p
  unfolding module_verdict
  in_body place m later e =
      go (body_verdict place m.occurrences m.inputs later)
      (kept 10 place (disjoint m.inputs m.outputs) _ (λ q. omega arith)
      (kept 9 place (not (duplicates m.outputs)) _ (λ q. omega arith)
      (kept 8 place (not (duplicates m.inputs)) _ (λ q. omega arith)
      (kept 7 place (not (is_box (assoc m.number later))) _ (λ q. omega arith)
      (kept 6 place (number_ok m) _ (λ q. omega arith) e)))))
    where
      outputs : Bool
      outputs = subset m.outputs (driven m.occurrences)

      go : (v : Verdict) → and_then v (keep 15 place outputs (keep 16 place (nets_ok m) good)) ≡ refused number p → v ≡ refused number p
      go (refused k q) e = e
      go good e = absurd (not_good (kept 16 place (nets_ok m) good (λ q. omega arith) (kept 15 place outputs _ (λ q. omega arith) e)))

  -- Sizes are refused with 17 only.
  not_size : (place : ℕ) (ms : List Module) → ¬ (sizes_verdict place ms ≡ refused number p)
  unfolding sizes_verdict
  not_size place [] e = not_good e
  not_size place (m ∷ later) e = go (sizes_verdict (suc place) later) (not_size (suc place) later) e
    where
      go : (v : Verdict) → ¬ (v ≡ refused number p) → ¬ (and_then v (keep 17 place (size_ok m later) good) ≡ refused number p)
      go (refused k q) f e = f e
      go good f e = not_good (kept 17 place (size_ok m later) good (λ q. omega arith) e)

  -- Some modules in front of these.
  record Behind (place : ℕ) (ms : List Module) : Type 0 where
    j : ℕ
    is : p ≡ place + j
    m : Module
    later : List Module
    at : drop j ms ≡ m ∷ later
    first : FirstOf 0 p m.occurrences m.inputs later number (first_fault 0 m.occurrences m.inputs later)

  in_modules : (place : ℕ) (ms : List Module) → modules_verdict place ms ≡ refused number p → Behind place ms
  unfolding modules_verdict
  in_modules place [] e = absurd (not_good e)
  in_modules place (m ∷ later) e = go (module_verdict place m later) refl e (in_modules (suc place) later)
    where
      go : (v : Verdict) → module_verdict place m later ≡ v → and_then v (modules_verdict (suc place) later) ≡ refused number p
          → (modules_verdict (suc place) later ≡ refused number p → Behind (suc place) later) → Behind place (m ∷ later)
      go (refused k q) is e further =
          let found = body_fault 0 place m.occurrences m.inputs later number p (in_body place m later (is ∙ e)) in
          record {
            j = 0;
            is = omega (arith, found.0);
            m = m;
            later = later;
            at = refl;
            first = rw found.0 found.1;
          }
      go good is e further =
          let b = further e in
          record { j = suc b.j; is = omega (arith, b.is); m = b.m; later = b.later; at = b.at; first = b.first }

  pub first-fault : (ms : List Module) → file_verdict ms ≡ refused number p → FirstAt ms number p (fault_at (drop p ms))
  unfolding file_verdict
  first-fault ms e = located (in_modules 0 ms (go (modules_verdict 0 ms) e))
    where
      go : (v : Verdict) → and_then v (sizes_verdict 0 ms) ≡ refused number p → v ≡ refused number p
      go (refused k q) e = e
      go good e = absurd (not_size 0 ms e)

      located : Behind 0 ms → FirstAt ms number p (fault_at (drop p ms))
      located b =
          let same : p ≡ b.j = omega (arith, b.is) in
          let at : drop p ms ≡ b.m ∷ b.later = ap (λ k. drop k ms) same ∙ b.at in
          record { m = b.m; later = b.later; at = at; first = rw at b.first }
