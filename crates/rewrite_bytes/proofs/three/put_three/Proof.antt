-- `rewrite_bytes::three::put_three` meets its contract: the eighteen numbers are those of the three gates. Assumes nothing.
use Prim.Native.Nat.{ℕ}
use mathlib.Core.Path.{◌≡◌, ap}
use mathlib.Core.List.{List, [], ◌∷◌}
use native.Mathlib.Omega.{arith}
use borrow.Author.Rules.{rules}
use lib.ListN.{length}
use Rattle.meaning.specs.Lists.{All, none, more}
use Rattle.meaning.specs.Ceilings.{Small}
use Rattle.meaning.specs.Layout.{each, number_bytes, occurrence_numbers}
use Rattle.meaning.specs.Withdrawn.{pair_kind, two_kind, three_gates}
use Rattle.laws.specs.Lists.{each-of-each}
use Rattle.laws.specs.Written.{occurrence_bytes}
use Rattle.laws.specs.Withdrawn.Kinds.{Four, nand4, or4, and4, nor4}
use Rattle.rewrite_bytes.specs.Bodies.{gate_of}
use Rattle.rewrite_bytes.specs.declared.three.Gate.{Gate}
use Rattle.rewrite_bytes.proofs.three.put_three.Statement.{statement}
use Rattle.rewrite_bytes.proofs.three.put_three.Tie as tie

-- The numbers of the three gates.
abbrev numbers_of : (g : Gate) (first second pair two : ℕ) → List ℕ
numbers_of g first second pair two =
    1 ∷ first ∷ pair ∷ 2 ∷ g.a ∷ g.b ∷ 1 ∷ second ∷ pair ∷ 2 ∷ g.c ∷ g.d ∷ 1 ∷ g.net ∷ two ∷ 2 ∷ first ∷ second ∷ []

bytes-are :
    (g : Gate) (first second pair two : ℕ)
    → pair ≡ pair_kind g.kind
    → two ≡ two_kind g.kind
    → each number_bytes (numbers_of g first second pair two) ≡ each occurrence_bytes (three_gates first second (gate_of g))
unfolding three_gates each occurrence_numbers
bytes-are g first second pair two is_pair is_two =
    rw (is_pair, is_two) (each-of-each number_bytes occurrence_numbers (three_gates first second (gate_of g)))

kinds-small : {kind : ℕ} → Four kind → Small (pair_kind kind) × Small (two_kind kind)
unfolding pair_kind two_kind
kinds-small nand4 = (omega arith, omega arith)
kinds-small or4 = (omega arith, omega arith)
kinds-small and4 = (omega arith, omega arith)
kinds-small nor4 = (omega arith, omega arith)

all_small :
    (g : Gate) (first second pair two : ℕ)
    → Four g.kind
    → pair ≡ pair_kind g.kind
    → two ≡ two_kind g.kind
    → Small first
    → Small second
    → Small g.net
    → All Small (g.a ∷ g.b ∷ g.c ∷ g.d ∷ [])
    → All Small (numbers_of g first second pair two)
all_small g first second pair two four is_pair is_two s_first s_second s_net (more s_a (more s_b (more s_c (more s_d none)))) =
    let s_pair : Small pair = omega (arith, (kinds-small four).0, is_pair) in
    let s_two : Small two = omega (arith, (kinds-small four).1, is_two) in
    let one : Small 1 = omega arith in
    let pairs : Small 2 = omega arith in
    more one (more s_first (more s_pair (more pairs (more s_a (more s_b
    (more one (more s_second (more s_pair (more pairs (more s_c (more s_d
    (more one (more s_net (more s_two (more pairs (more s_first (more s_second none)))))))))))))))))

put-list-requires : tie.Need-put_list-requires
put-list-requires c κs =
    let p = c.requires in
    let same = bytes-are c.args.gate c.args.first c.args.second _ _ c.pair_kind-pair.ensures c.two_kind-two.ensures in (
      all_small c.args.gate c.args.first c.args.second _ _ p.four c.pair_kind-pair.ensures c.two_kind-two.ensures
          p.small_first p.small_second p.net p.takes,
      record { fits = omega (arith, ap length same, p.room) },
    )

returns : tie.Need-returns
returns c =
    rw (bytes-are c.args.gate c.args.first c.args.second _ _ c.pair_kind-pair.ensures c.two_kind-two.ensures) at c.put_list.ensures

pub put_three_spec : {M : Type 1} → statement M
put_three_spec =
    tie.close
    (tie.spec
    (λ c κs. tt)
    (λ c κs. tt)
    (λ c. search rules)
    put-list-requires
    (λ c. search rules)
    returns)
