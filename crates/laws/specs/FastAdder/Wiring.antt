-- The check lets the look-ahead's occurrences pass, whatever the shape: by one induction over trees, each takes only nets that are
-- there and drives one that is not.
use Rattle.std.specs.Prelude.{ℕ, ◌+◌, ◌≤◌, ◌≡◌, true}
use mathlib.Core.List.{List, [], ◌∷◌, ◌++◌, append_assoc}
use Rattle.std.proofs.Common.{arith}
use Rattle.meaning.specs.Syntax.{Occurrence}
use Rattle.meaning.specs.Boxlist.{member}
use Rattle.meaning.specs.FastAdder.{Tree, leaf, node, leaves, Step, over_one, over_two, p_net, behind_one, behind_two, passes, makes, ahead, chain}
use Rattle.laws.specs.FastAdder.Runs.{Runs, ends, next}
use Rattle.laws.specs.FastAdder.Passing.{carriers, one_ok, two_ok, passes-ok, makes-ok, node-ran}
use Rattle.laws.specs.FastAdder.Signals.{width, Ready, Ran, Over, over_tree, OverTwo, over-two}

module _ (n : ℕ) where
  -- A node's occurrences in front of others.
  pub regroup :
      (x y z : Tree) (s : ℕ) (rest : List Occurrence)
      → ahead n (node x y z) s ++ rest
      ≡ ahead n x s
      ++ (behind_one n x s
      ∷ (ahead n y (s + leaves x)
      ++ (behind_two n x y s
      ∷ (ahead n z (s + leaves x + leaves y) ++ (passes n x y z s ∷ makes n x y z s ∷ rest)))))
  unfolding ahead
  regroup x y z s rest = simp append_assoc

  -- What is proved of a tree: its occurrences pass where those after them do, with the nets that are there then.
  module _ (Final : List ℕ → Type 0) where
    abbrev AheadRuns : Tree → Type 0
    AheadRuns t =
        (s past : ℕ) (signals : List ℕ) (rest : List Occurrence)
        → s + leaves t ≤ past
        → past ≤ n
        → Ready n s past signals
        → ((new : List ℕ) → Ran n t s signals new → Runs carriers Final new rest)
        → Runs carriers Final signals (ahead n t s ++ rest)

    over-one-runs :
        (x : Tree) → AheadRuns x
        → (s past : ℕ) (signals : List ℕ) (rest : List Occurrence)
        → s + leaves x ≤ past
        → past ≤ n
        → Ready n s past signals
        → ((new : List ℕ) → Over n x s past signals new → Runs carriers Final new rest)
        → Runs carriers Final signals (ahead n x s ++ (behind_one n x s ∷ rest))
    over-one-runs x run-x s past signals rest fits most ready then =
        run-x s past signals _ fits most ready (λ new ran.
        next (one_ok n fits most ready ran) (then _ (over_tree n fits most ready ran)))

    over-two-runs :
        (x y : Tree) → AheadRuns x → AheadRuns y
        → (s past : ℕ) (signals : List ℕ) (rest : List Occurrence)
        → s + leaves x + leaves y ≤ past
        → past ≤ n
        → Ready n s past signals
        → ((new : List ℕ) → OverTwo n x y s past signals new → Runs carriers Final new rest)
        → Runs carriers Final signals
        (ahead n x s ++ (behind_one n x s ∷ (ahead n y (s + leaves x) ++ (behind_two n x y s ∷ rest))))
    over-two-runs x y run-x run-y s past signals rest fits most ready then =
        over-one-runs x run-x s past signals _ (omega arith) most ready (λ mid over.
        run-y (s + leaves x) past mid _ fits most over.ready (λ new ran.
        next (two_ok n fits most over ran) (then _ (over-two n fits most over ran))))

    ahead-runs : (t : Tree) → AheadRuns t
    unfolding ahead leaves p_net
    ahead-runs leaf s past signals rest fits most ready then =
        then signals
        (record {
          adds = record { kept = λ net held. held; spared = λ net s' out. out };
          carries = λ i low. ready.carries i (omega arith);
          has_p = ready.bit_p s (omega arith);
          has_g = ready.bit_g s (omega arith);
        })
    ahead-runs (node x y z) s past signals rest fits most ready then =
        rw (regroup x y z s rest)
        (over-two-runs x y (ahead-runs x) (ahead-runs y) s past signals _ (omega arith) most ready (λ mid over.
        ahead-runs z (s + leaves x + leaves y) past mid _ (omega arith) most over.ready (λ new ran.
        next (passes-ok n (omega arith) most ready over ran)
        (next (makes-ok n (omega arith) most ready over ran)
        (then _ (node-ran n (omega arith) most ready over ran))))))

    -- The steps of a chain, up to the carry behind the last bit.
    pub chain_runs :
        (steps : List Step) (s : ℕ) (signals : List ℕ)
        → s + width steps ≡ n
        → Ready n s n signals
        → ((new : List ℕ) → ((i : ℕ) → i ≤ n → member i new ≡ true) → Final new)
        → Runs carriers Final signals (chain n steps s)
    unfolding chain width
    chain_runs [] s signals whole ready then = ends (then signals (λ i low. ready.carries i (omega arith)))
    chain_runs (over_one x ∷ steps) s signals whole ready then =
        over-one-runs x (ahead-runs x) s n signals _ (omega arith) (omega arith) ready (λ new over.
        chain_runs steps (s + leaves x) new (omega arith) over.ready then)
    chain_runs (over_two x y ∷ steps) s signals whole ready then =
        over-two-runs x y (ahead-runs x) (ahead-runs y) s n signals _ (omega arith) (omega arith) ready (λ new over.
        chain_runs steps (s + leaves x + leaves y) new (omega arith) over.ready then)
