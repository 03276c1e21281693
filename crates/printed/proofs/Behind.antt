-- Places that some numbers are given, with those without a place behind them, are a renaming of all numbers.
use Rattle.std.specs.Prelude.{ℕ, ◌+◌, ◌≤◌, ◌<◌, ◌≡◌, Bool, cond}
use Rattle.std.proofs.Common.{arith, sym, ◌∙◌}
use Rattle.std.proofs.Math.Path.{refl, ap}
use Rattle.std.proofs.Math.Bool.{true, false}
use Rattle.std.proofs.Math.Dec.{eqb}
use borrow.Author.Tests.{ltb-true, ltb-false, le-ltb}
use Rattle.meaning.specs.Gates.{is_gate}
use Rattle.renaming.specs.Renamed.{OneToOne, KeepsGates}
use Rattle.printed.specs.Behind.{behind_all, behind_gates, Places, same_test, differ}

module _ {knows : ℕ → Bool} {place : ℕ → ℕ} {count : ℕ} (p : Places knows place count) where
  pub behind-one : OneToOne (behind_all knows place count)
  unfolding behind_all
  behind-one = record { tells = λ x y. go x y (knows x) refl (knows y) refl }
    where
      go : (x y : ℕ) (a : Bool) → knows x ≡ a → (b : Bool) → knows y ≡ b → eqb (cond a (place x) (count + x)) (cond b (place y) (count + y)) ≡ eqb x y
      go x y true e true f = same_test (place x) (place y) x y (p.apart x y e f) (λ h. ap place h)
      go x y true e false f =
          let low : place x < count = p.below x e in
          same_test (place x) (count + y) x y (λ h. absurd (omega arith)) (λ h. absurd (differ p x y e f h))
      go x y false e true f =
          let low : place y < count = p.below y f in
          same_test (count + x) (place y) x y (λ h. absurd (omega arith)) (λ h. absurd (differ p y x f e (sym h)))
      go x y false e false f = same_test (count + x) (count + y) x y (λ h. omega arith) (λ h. ap (λ (n : ℕ). count + n) h)

  pub gates-kept : KeepsGates (behind_gates knows place count)
  unfolding behind_gates
  gates-kept =
      record {
        one = record { tells = λ x y. go x y (is_gate x) refl (is_gate y) refl };
        gates = λ n e. rw e;
        modules = λ n e. rw e (le-ltb (16 + behind_all knows place count n) 16 (omega arith));
      }
    where
      go : (x y : ℕ) (a : Bool) → is_gate x ≡ a → (b : Bool) → is_gate y ≡ b
          → eqb (cond a x (16 + behind_all knows place count x)) (cond b y (16 + behind_all knows place count y)) ≡ eqb x y
      go x y true e true f = refl
      go x y true e false f =
          let low : x < 16 = ltb-true x 16 e in
          let high : 16 ≤ y = ltb-false y 16 f in
          same_test x (16 + behind_all knows place count y) x y (λ h. absurd (omega arith)) (λ h. absurd (omega arith))
      go x y false e true f =
          let low : y < 16 = ltb-true y 16 f in
          let high : 16 ≤ x = ltb-false x 16 e in
          same_test (16 + behind_all knows place count x) y x y (λ h. absurd (omega arith)) (λ h. absurd (omega arith))
      go x y false e false f =
          same_test (16 + behind_all knows place count x) (16 + behind_all knows place count y) (behind_all knows place count x) (behind_all knows place count y)
          (λ h. omega arith) (λ h. omega arith)
          ∙ behind-one.tells x y
