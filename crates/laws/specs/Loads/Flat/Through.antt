-- The load that a net has through signals: of the signals that stand for the net, each adds its own load. `stands x` is the net that
-- the signal x stands for.
use Rattle.std.specs.Prelude.{ℕ, ◌+◌, ◌≡◌, Bool, length}
use Rattle.std.proofs.Math.Path.{refl, sym}
use Rattle.std.proofs.Common.{ap, ap₂, ◌∙◌}
use Rattle.std.proofs.Math.Bool.{true, false, cond}
use mathlib.Core.List.{List, [], ◌∷◌, ◌++◌, map}
use native.Mathlib.Omega.{arith}
use Rattle.std.proofs.Math.Dec.{eqb}
use borrow.Author.Tests.{eqb-true, eqb-false, eq-eqb, ne_eqb}
use Rattle.meaning.specs.Members.{◌∈◌, Twice, again, further}
use Rattle.meaning.specs.Evaluation.{Env, look, look_all, pairs}
use Rattle.meaning.specs.Loads.{places_load}
use Rattle.laws.specs.Members.{here, there, in-none, same_in}
use Rattle.laws.specs.Loads.Places.{none-either_way}

unfoldable pub through : (stands load : ℕ → ℕ) (signals : List ℕ) (net : ℕ) → ℕ
through stands load [] net = 0
through stands load (x ∷ xs) net = cond (eqb net (stands x)) (load x) 0 + through stands load xs net

-- A signal stands for the net, or none does.
pub data Someone (stands : ℕ → ℕ) (signals : List ℕ) (net : ℕ) : Type 0 where
  someone : (x : ℕ) → x ∈ signals → net ≡ stands x → Someone stands signals net
  noone : ((x : ℕ) → x ∈ signals → ¬ (net ≡ stands x)) → Someone stands signals net

pub seek : (stands : ℕ → ℕ) (signals : List ℕ) (net : ℕ) → Someone stands signals net
seek stands [] net = noone (λ x i. absurd (in-none i))
seek stands (x ∷ xs) net = go (eqb net (stands x)) refl (seek stands xs net)
  where
    neither :
        ¬ (net ≡ stands x)
        → ((y : ℕ) → y ∈ xs → ¬ (net ≡ stands y))
        → (y : ℕ)
        → y ∈ (x ∷ xs)
        → ¬ (net ≡ stands y)
    neither first rest y (here e) = rw e first
    neither first rest y (there i) = rest y i

    go : (b : Bool) → eqb net (stands x) ≡ b → Someone stands xs net → Someone stands (x ∷ xs) net
    go true e rest = someone x (here refl) (eqb-true net (stands x) e)
    go false e (someone y i same) = someone y (there i) same
    go false e (noone out) = noone (neither (eqb-false net (stands x) e) out)

module _ (stands : ℕ → ℕ) (net : ℕ) where
  pub through-both :
      (f g : ℕ → ℕ) (xs : List ℕ)
      → through stands (λ x. f x + g x) xs net ≡ through stands f xs net + through stands g xs net
  unfolding through
  through-both f g [] = omega arith
  through-both f g (x ∷ xs) = omega (arith, go (eqb net (stands x)), through-both f g xs)
    where
      go : (b : Bool) → cond b (f x + g x) 0 ≡ cond b (f x) 0 + cond b (g x) 0
      go true = refl
      go false = omega arith

  pub through-append :
      (load : ℕ → ℕ) (xs ys : List ℕ)
      → through stands load (xs ++ ys) net ≡ through stands load xs net + through stands load ys net
  unfolding through
  through-append load [] ys = omega arith
  through-append load (x ∷ xs) ys = omega (arith, through-append load xs ys)

  -- None of the signals stands for the net, or none of them has a load.
  pub through-away : (load : ℕ → ℕ) (xs : List ℕ) → ((x : ℕ) → x ∈ xs → ¬ (net ≡ stands x)) → through stands load xs net ≡ 0
  unfolding through
  through-away load [] away = refl
  through-away load (x ∷ xs) away =
      rw (ne_eqb net (stands x) (away x (here refl))) (omega (arith, through-away load xs (λ y i. away y (there i))))

  pub through-idle : (load : ℕ → ℕ) (xs : List ℕ) → ((x : ℕ) → x ∈ xs → load x ≡ 0) → through stands load xs net ≡ 0
  unfolding through
  through-idle load [] idle = refl
  through-idle load (x ∷ xs) idle =
      rw (idle x (here refl)) (omega (arith, none-either_way (eqb net (stands x)), through-idle load xs (λ y i. idle y (there i))))

  -- What a place adds to the load of the signal that stands at it.
  pub through-place :
      (t l : ℕ) (xs : List ℕ)
      → ¬ (Twice xs)
      → t ∈ xs
      → through stands (λ x. cond (eqb x t) l 0) xs net ≡ cond (eqb net (stands t)) l 0
  unfolding through
  through-place t l [] once i = absurd (in-none i)
  through-place t l (x ∷ xs) once i = go (eqb x t) refl i (through-place t l xs (λ u. once (further u)))
    where
      go :
          (b : Bool)
          → eqb x t ≡ b
          → t ∈ (x ∷ xs)
          → (t ∈ xs → through stands (λ x. cond (eqb x t) l 0) xs net ≡ cond (eqb net (stands t)) l 0)
          → cond (eqb net (stands x)) (cond b l 0) 0 + through stands (λ x. cond (eqb x t) l 0) xs net
          ≡ cond (eqb net (stands t)) l 0
      go true e i rest =
          let same : x ≡ t = eqb-true x t e in
          let others : through stands (λ x. cond (eqb x t) l 0) xs net ≡ 0
          = through-idle _ xs (λ y j. rw (ne_eqb y t (λ k. once (again (same_in (same ∙ sym k) j))))) in
          rw same (omega (arith, others))
      go false e (here same) rest = absurd (eqb-false x t e (sym same))
      go false e (there j) rest = omega (arith, none-either_way (eqb net (stands x)), rest j)

-- Loads of places, added up over the signals or over the nets that the signals at the places stand for.
pub through-places :
    (env : Env ℕ) (net : ℕ) (takes loads xs : List ℕ)
    → ¬ (Twice xs)
    → ((t : ℕ) → t ∈ takes → t ∈ xs)
    → through (λ x. look 0 x env) (λ x. places_load x takes loads) xs net ≡ places_load net (look_all 0 takes env) loads
unfolding places_load look_all
through-places env net [] loads xs once bound = through-idle _ net _ xs (λ x i. refl)
through-places env net (t ∷ ts) [] xs once bound = through-idle _ net _ xs (λ x i. refl)
through-places env net (t ∷ ts) (l ∷ ls) xs once bound =
    let stands : ℕ → ℕ = λ x. look 0 x env in
    omega (
      arith,
      through-both stands net (λ x. cond (eqb x t) l 0) (λ x. places_load x ts ls) xs,
      through-place stands net t l xs once (bound t (here refl)),
      through-places env net ts ls xs once (λ u i. bound u (there i)),
    )

-- The same signals may stand for the same nets in two ways.
pub through_same :
    (stands stands' load : ℕ → ℕ) (xs : List ℕ) (net : ℕ)
    → ((x : ℕ) → x ∈ xs → stands x ≡ stands' x)
    → through stands load xs net ≡ through stands' load xs net
unfolding through
through_same stands stands' load [] net same = refl
through_same stands stands' load (x ∷ xs) net same =
    rw (same x (here refl), through_same stands stands' load xs net (λ y i. same y (there i)))

-- A signal that stands for its net alone.
pub through-alone :
    (stands load : ℕ → ℕ) (xs : List ℕ) (t : ℕ)
    → ¬ (Twice xs)
    → t ∈ xs
    → ((x : ℕ) → x ∈ xs → stands t ≡ stands x → t ≡ x)
    → through stands load xs (stands t) ≡ load t
unfolding through
through-alone stands load [] t once i alone = absurd (in-none i)
through-alone stands load (x ∷ xs) t once i alone =
    go (eqb (stands t) (stands x)) refl i
    (λ j. through-alone stands load xs t (λ u. once (further u)) j (λ y k. alone y (there k)))
  where
    go :
        (b : Bool)
        → eqb (stands t) (stands x) ≡ b
        → t ∈ (x ∷ xs)
        → (t ∈ xs → through stands load xs (stands t) ≡ load t)
        → cond b (load x) 0 + through stands load xs (stands t) ≡ load t
    go true e i rest =
        let same : t ≡ x = alone x (here refl) (eqb-true (stands t) (stands x) e) in
        let others : through stands load xs (stands t) ≡ 0
        = through-away stands (stands t) load xs
        (λ y j k. once (again (same_in (sym same ∙ alone y (there j) k) j))) in
        omega (arith, others, ap load same)
    go false e (here same) rest = absurd (eqb-false (stands t) (stands x) e (ap stands same))
    go false e (there j) rest = omega (arith, rest j)

-- Signals that stand for the nets that they are given.
pub through-given :
    (load : ℕ → ℕ) (xs nets : List ℕ) (net : ℕ)
    → ¬ (Twice xs)
    → length xs ≡ length nets
    → through (λ x. look 0 x (pairs 0 xs nets)) load xs net ≡ places_load net nets (map load xs)
unfolding through places_load look pairs
through-given load [] [] net once count = refl
through-given load [] (n ∷ nets) net once count = absurd (omega arith)
through-given load (x ∷ xs) [] net once count = absurd (omega arith)
through-given load (x ∷ xs) (n ∷ nets) net once count =
    let first : look 0 x (pairs 0 (x ∷ xs) (n ∷ nets)) ≡ n = rw (eq-eqb x x refl) in
    ap₂ {C = ℕ} ◌+◌
    (ap (λ (k : ℕ). cond (eqb net k) (load x) 0) first)
    (through_same _ _ load xs net (λ y i. rw (ne_eqb y x (λ e. once (again (same_in (sym e) i)))))
    ∙ through-given load xs nets net (λ t. once (further t)) (omega arith))
