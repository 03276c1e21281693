-- What `load_steps::largest` meets: a larger entry is taken at each turn, and none is ahead at the end. Assumes nothing.
use Prim.Native.Nat.{ℕ, ◌+◌, ◌-◌, ◌≤◌, ◌<◌, max}
use mathlib.Core.Path.{◌≡◌, sym, ap, ◌∙◌}
use mathlib.Core.List.{List, ◌∷◌}
use native.Mathlib.Omega.{arith}
use native.Mathlib.Numerals.{add-one}
use lib.ListN.{length, get_or, take, drop}
use lib.Seq.{drop-cons, drop-length, get_or-take, length-take-le}
use Rattle.meaning.specs.Figures.{largest}
use Rattle.load_steps.proofs.largest.Goals as goal

module _ (scratch : List ℕ) (count : ℕ) (fits : count ≤ length scratch) where
  ahead : (i : ℕ) → i < count → drop i (take count scratch) ≡ get_or scratch i 0 ∷ drop (i + 1) (take count scratch)
  ahead i less =
      drop-cons (take count scratch) i 0 (omega (arith, length-take-le count scratch fits))
      ∙ rw (add-one i, get_or-take count scratch i 0 less)

  next : (i most most' : ℕ) → i < count → most' ≡ max most (get_or scratch i 0)
      → max most (largest (drop i (take count scratch))) ≡ largest (take count scratch)
      → max most' (largest (drop (i + 1) (take count scratch))) ≡ largest (take count scratch)
  unfolding largest
  next i most most' less e inv = omega (arith, e, rw (ahead i less) at inv)

  past : drop count (take count scratch) ≡ drop (length (take count scratch)) (take count scratch)
  past = ap (λ (n : ℕ). drop n (take count scratch)) (sym (length-take-le count scratch fits))

  over :
      (i most : ℕ)
      → i ≡ count
      → max most (largest (drop i (take count scratch))) ≡ largest (take count scratch)
      → most ≡ largest (take count scratch)
  unfolding largest
  over i most e inv = omega (arith, rw (e, past, drop-length) at inv)

pub loop-i-preserved : goal.loop-i-preserved
loop-i-preserved c =
    next _ _ c.requires c.loop-i.i c.loop-i.most _ c.loop-i-test.true c.larger-most.ensures c.loop-i.invariant

pub returns : goal.returns
returns c = over _ _ c.requires c.loop-i.i _ (omega arith) c.loop-i.invariant
