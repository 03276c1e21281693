-- The counter has gates of one and two inputs only, at every width.
use Rattle.std.specs.Prelude.{ℕ, zero, suc, ◌+◌, ◌-◌, ◌^◌, ◌≤◌, ◌<◌, Bool, true, false, List, [], ◌∷◌, length}
use Rattle.std.proofs.Common.{arith, lit≤}
use Rattle.meaning.specs.Lists.{All, none, more}
use Rattle.meaning.specs.Syntax.{Occurrence}
use Rattle.meaning.specs.Gates.{gate, gates}
use Rattle.meaning.specs.Counter.{choose, block_number, join_block, block, blocks, digits, join_parts, counter_module, counter}
use Rattle.laws.specs.Counter.Every.{all_both}

pub record Narrow (o : Occurrence) : Type 0 where
  pub narrow : o.refers < 16 → (gate o.refers).arity ≤ 2

-- A reference to a block is one to B-NOT or to no gate.
block-narrow : (drives takes : List ℕ) (j : ℕ) → Narrow (record { drives = drives; refers = block_number j; takes = takes })
unfolding block_number gate gates
block-narrow drives takes zero = record { narrow = λ is_gate. lit≤ tt }
block-narrow drives takes (suc j) = record { narrow = λ is_gate. absurd (omega arith) }

choose-narrow : (e h l a o n : ℕ) → All Narrow (choose e h l a o n)
unfolding choose gate gates
choose-narrow e h l a o zero = none
choose-narrow e h l a o (suc n) =
    more (record { narrow = λ is_gate. lit≤ tt })
    (more (record { narrow = λ is_gate. lit≤ tt })
    (choose-narrow e (suc h) (suc l) (suc a) (suc o) n))

parts-narrow : (j bits count below : ℕ) (ds : List Bool) → All Narrow (join_parts j bits count below ds)
unfolding join_parts
parts-narrow j bits count below [] = none
parts-narrow j bits count below (false ∷ ds) = parts-narrow (suc j) bits count below ds
parts-narrow j bits count below (true ∷ ds) =
    more (block-narrow _ _ j)
    (all_both (choose-narrow _ _ _ _ _ count) (parts-narrow (suc j) (bits + 2 ^ j) (suc j) (below + count + count + count) ds))

join-narrow : (i : ℕ) → All Narrow (block i).occurrences
unfolding block join_block gate gates
join-narrow zero = more (record { narrow = λ is_gate. lit≤ tt }) (more (record { narrow = λ is_gate. lit≤ tt }) none)
join-narrow (suc j) =
    more (block-narrow _ _ (suc j))
    (more (block-narrow _ _ (suc j))
    (all_both (choose-narrow _ _ _ _ _ (suc j))
    (more (record { narrow = λ is_gate. lit≤ tt }) (more (record { narrow = λ is_gate. lit≤ tt }) none))))

blocks-narrow : (k : ℕ) → All (λ m. All Narrow m.occurrences) (blocks k)
unfolding blocks
blocks-narrow zero = none
blocks-narrow (suc i) = more (join-narrow i) (blocks-narrow i)

pub counter-narrow : (n : ℕ) → All (λ m. All Narrow m.occurrences) (counter n)
unfolding counter counter_module
counter-narrow n = more (parts-narrow 0 0 0 n (digits n)) (blocks-narrow (length (digits n) - 1))
