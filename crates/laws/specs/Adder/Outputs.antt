-- The outputs of the written adder are the chain of full adders over its inputs, for values of any kind and whatever a gate makes of
-- them: the sum on known bits, the delay and how early a sum is known all follow from this one law.
use Rattle.std.specs.Prelude.{◌≡◌, length, take}
use Rattle.std.proofs.Math.Path.{refl, ap}
use Rattle.std.proofs.Common.{ap₂, ◌∙◌, zero-add, add-one, arith, length-append, take_at, drop_at, take_all}
use mathlib.Core.List.{List, [], ◌∷◌, ◌++◌}
use Prim.Native.Nat.{ℕ, zero, suc, ◌+◌, ◌*◌, ◌<◌, ◌≤◌}
use Rattle.meaning.specs.Evaluation.{Env, Meaning, look, look_all, pairs, walk, run_module, run}
use Rattle.meaning.specs.Adder.{up_from, adder_cells, ripple_adder, full_adder, half_adder, adder}
use Rattle.laws.specs.Adder.Ripple.{ripple, full_sum, full_carry}
use Rattle.laws.specs.Adder.Nets.{look-here, look-past, look_all-below, look-pairs, look_all-pairs}

-- The net of the last carry of so many cells: the one before them where there are none.
unfoldable pub last_carry : (carry before count : ℕ) → ℕ
last_carry carry before zero = before
last_carry carry before (suc n) = last_carry (suc carry) carry n

-- For a list of later modules whose module 17 gives a sum and a carry, whatever they are.
module _ {A : Type 0} (none : A) (gate_meaning later : Meaning A) (sum carry : A → A → A → A)
    (full : (x y z : A) → later 17 (x ∷ y ∷ z ∷ []) ≡ sum x y z ∷ carry x y z ∷ []) where
  -- The environment after the first of some cells.
  abbrev after_cell : (a b s k before : ℕ) → Env A → Env A
  after_cell a b s k before env =
      record { net = s; value = sum (look none a env) (look none b env) (look none before env) }
      ∷ record { net = k; value = carry (look none a env) (look none b env) (look none before env) }
      ∷ env

  walk-cell :
      (a b s k before n : ℕ) (env : Env A)
      → walk none gate_meaning later (adder_cells a b s k before (suc n)) env
      ≡ walk none gate_meaning later (adder_cells (suc a) (suc b) (suc s) (suc k) k n) (after_cell a b s k before env)
  unfolding walk adder_cells look_all pairs
  walk-cell a b s k before n env =
      ap
      (λ (vs : List A). walk none gate_meaning later (adder_cells (suc a) (suc b) (suc s) (suc k) k n) (pairs none (s ∷ k ∷ []) vs ++ env))
      (full (look none a env) (look none b env) (look none before env))

  cell-keeps :
      (a b s k before : ℕ) (env : Env A)
      → s < k
      → (net : ℕ)
      → net < s
      → look none net (after_cell a b s k before env) ≡ look none net env
  cell-keeps a b s k before env order net below = look-past none net s _ _ (omega arith) ∙ look-past none net k _ _ (omega arith)

  -- Nets below those that the cells drive keep their values.
  pub cells-keep :
      (a b s k before n : ℕ) (env : Env A)
      → s + n ≤ k
      → (net : ℕ)
      → net < s
      → look none net (walk none gate_meaning later (adder_cells a b s k before n) env) ≡ look none net env
  unfolding walk adder_cells
  cells-keep a b s k before zero env order net below = refl
  cells-keep a b s k before (suc n) env order net below =
      ap (look none net) (walk-cell a b s k before n env)
      ∙ cells-keep (suc a) (suc b) (suc s) (suc k) k n (after_cell a b s k before env) (omega arith) net (omega arith)
      ∙ cell-keeps a b s k before env (omega arith) net below

  -- The nets of the sums and of the last carry hold the chain over what a's nets, b's nets and the carry before held.
  pub cells-outputs :
      (a b s k before n : ℕ) (env : Env A)
      → a + n ≤ s
      → b + n ≤ s
      → s + n ≤ k
      → look_all none (up_from s n ++ (last_carry k before n ∷ [])) (walk none gate_meaning later (adder_cells a b s k before n) env)
      ≡ ripple sum carry (look none before env) (look_all none (up_from a n) env) (look_all none (up_from b n) env)
  unfolding walk adder_cells look_all up_from last_carry ripple
  cells-outputs a b s k before zero env a-below b-below order = refl
  cells-outputs a b s k before (suc n) env a-below b-below order =
      let env' = after_cell a b s k before env in
      let keeps = cell-keeps a b s k before env (omega arith) in
      let carried : look none k env' ≡ carry (look none a env) (look none b env) (look none before env) =
      look-past none k s _ _ (omega arith) ∙ look-here none k _ env
      in
      rw (walk-cell a b s k before n env)
      (ap₂ ◌∷◌
      (cells-keep (suc a) (suc b) (suc s) (suc k) k n env' (omega arith) s (omega arith) ∙ look-here none s _ _)
      (rw (
        carried,
        look_all-below none s (suc a) n env env' (omega arith) keeps,
        look_all-below none s (suc b) n env env' (omega arith) keeps,
      )
      at (cells-outputs (suc a) (suc b) (suc s) (suc k) k n env' (omega arith) (omega arith) (omega arith))))

last_carry-suc : (carry before n : ℕ) → last_carry carry before (suc n) ≡ carry + n
unfolding last_carry
last_carry-suc carry before zero = omega arith
last_carry-suc carry before (suc n) = last_carry-suc (suc carry) carry n ∙ omega arith

-- The last output of the adder is its last carry, at width 0 the carry in.
last_carry-adder : (n : ℕ) → last_carry (3 * n + 1) 0 n ≡ 4 * n
unfolding last_carry
last_carry-adder zero = refl
last_carry-adder (suc n) = last_carry-suc (3 * suc n + 1) 0 n ∙ omega arith

-- Where each gate gives one value, whatever it is.
module _ {A : Type 0} (gate_result : ℕ → List A → A) where
  abbrev pub one_output : Meaning A
  one_output kind vs = gate_result kind vs ∷ []

  pub full-adder-outputs :
      (none x y z : A)
      → run none one_output (full_adder ∷ half_adder ∷ []) 17 (x ∷ y ∷ z ∷ [])
      ≡ full_sum gate_result x y z ∷ full_carry gate_result x y z ∷ []
  unfolding run run_module walk look look_all pairs
  full-adder-outputs none x y z = refl

  -- What the inputs of the adder hold: the carry in, a's values, b's values.
  module _ (none : A) (n : ℕ) (c : A) (xs ys : List A) (xs-fits : length xs ≡ n) (ys-fits : length ys ≡ n) where
    abbrev inputs_env : Env A
    inputs_env = pairs none (up_from 0 (2 * n + 1)) (c ∷ (xs ++ ys))

    fits : length (xs ++ ys) ≡ n + n
    fits = rw (length-append xs ys, xs-fits, ys-fits)

    carry_in : look none 0 inputs_env ≡ c
    carry_in = look-pairs none 0 0 (2 * n + 1) (c ∷ (xs ++ ys)) (omega arith)

    a-inputs : look_all none (up_from 1 n) inputs_env ≡ xs
    a-inputs = look_all-pairs none 0 1 n (2 * n + 1) (c ∷ (xs ++ ys)) (omega arith) (omega (arith, fits)) ∙ take_at xs ys n xs-fits

    b-inputs : look_all none (up_from (n + 1) n) inputs_env ≡ ys
    b-inputs =
        rw (add-one n, ← zero-add (suc n))
        (look_all-pairs none 0 (suc n) n (2 * n + 1) (c ∷ (xs ++ ys)) (omega arith) (omega (arith, fits))
        ∙ ap (take n) (drop_at xs ys n xs-fits)
        ∙ take_all n ys (omega arith))

    -- The outputs of the written adder are the chain over them.
    pub adder-outputs :
        run none one_output (adder n) 18 (c ∷ (xs ++ ys)) ≡ ripple (full_sum gate_result) (full_carry gate_result) c xs ys
    unfolding run run_module adder ripple_adder
    adder-outputs =
        rw (last_carry-adder n, carry_in, a-inputs, b-inputs)
        at (cells-outputs
        none
        one_output
        (run none one_output (full_adder ∷ half_adder ∷ []))
        (full_sum gate_result)
        (full_carry gate_result)
        (full-adder-outputs none)
        1
        (n + 1)
        (2 * n + 1)
        (3 * n + 1)
        0
        n
        inputs_env
        (omega arith)
        (omega arith)
        (omega arith))
