-- One part of module 32, run on any values: a block above what stands so far, and the row that chooses between their counts.
use Rattle.std.specs.Prelude.{ℕ, suc, ◌+◌, ◌-◌, ◌^◌, ◌≤◌, ◌≡◌, List, [], ◌∷◌, ◌++◌, length, take, drop}
use Rattle.std.proofs.Common.{◌∙◌, append_assoc, arith, length-append, length-take, length-drop, take-append-drop}
use Rattle.meaning.specs.Evaluation.{Env, Meaning, look, look_all, pairs, apply}
use Rattle.meaning.specs.Adder.{up_from}
use Rattle.meaning.specs.Counter.{block_number}
use Rattle.laws.specs.Adder.Nets.{length-up_from}
use Rattle.laws.specs.Counter.Nets.{before, behind, Holds, Keeps, holds_at, holds-one, holds-right, holds-both, holds_kept, keeps-both, keeps-within, keeps_given, holds-given, look-row, pairs-append}
use Rattle.laws.specs.Counter.Law.{Law, single, chosen, chosen-append, length-chosen}
use Rattle.laws.specs.Counter.Choice.{ran, choose-keeps-row, choose-holds}
use Rattle.laws.specs.Counter.Blocks.{Answered, MeansBlock}

module _ {A : Type 0} (none : A) {gate_result : ℕ → List A → A} (law : Law gate_result) where
  -- What stands so far: the counter over the lowest bits answers on a row of nets.
  pub record Stands (count below : ℕ) (lows : List A) (env : Env A) : Type 0 where
    pub outs : List A
    pub held : Holds none env below outs
    pub answer : law.Counter count lows outs

  -- The block drives two rows: the count bits that are chosen from, and those above them, which with "empty" lie on the nets of the
  -- new count.
  module _ (later : Meaning A) (j bits count below : ℕ) where
    abbrev high : ℕ
    high = below + count

    abbrev ands : ℕ
    ands = high + count

    abbrev ors : ℕ
    ors = ands + count

    abbrev driven : (his rest : List A) → Env A → Env A
    driven his rest env = pairs none (up_from high count) his ++ (pairs none (up_from (ors + count) (suc j - count)) rest ++ env)

    abbrev pub after_part : Env A → Env A
    after_part env =
        ran none gate_result later (ors + j) high below ands ors count
        (pairs none (up_from high count ++ up_from (ors + count) (suc j - count))
        (apply (single gate_result) later (block_number j) (look_all none (up_from bits (2 ^ j)) env))
        ++ env)

    drive_two-rows : (his rest : List A) (env : Env A) → length his ≡ count
        → pairs none (up_from high count ++ up_from (ors + count) (suc j - count)) (his ++ rest) ++ env ≡ driven his rest env
    drive_two-rows his rest env n =
        rw (
          pairs-append none (up_from high count) (up_from (ors + count) (suc j - count)) his rest
              (length-up_from high count ∙ omega arith),
          append_assoc,
        )

    keeps-driven : (his rest : List A) (env : Env A) → count ≤ j → Keeps none high (ors + suc j) env (driven his rest env)
    keeps-driven his rest env short =
        keeps-both
        (keeps-within high (ors + suc j) (omega arith) (omega arith) (keeps_given (ors + count) (suc j - count) rest env))
        (keeps-within high (ors + suc j) (omega arith) (omega arith) (keeps_given high count his _))

    holds-high : (his rest : List A) (env : Env A) → length his ≡ count → Holds none (driven his rest env) high his
    holds-high his rest env n = holds-given _ high count his n

    holds-rest : (his rest : List A) (env : Env A) → count ≤ j → length rest ≡ suc j - count
        → Holds none (driven his rest env) (ors + count) rest
    holds-rest his rest env short n =
        holds_kept (keeps_given high count his _) (behind (omega arith)) (holds-given env (ors + count) (suc j - count) rest n)

    -- The bits chosen, and the rest of the block's count bits after them.
    holds-part : (env : Env A) (ws his rest : List A) (e : A) → length ws ≡ count → length his ≡ count
        → length his + length rest ≡ j → Holds none env below ws
        → Holds none (ran none gate_result later (ors + j) high below ands ors count (driven his (rest ++ (e ∷ [])) env)) ors
        (chosen gate_result e (his ++ rest) ws ++ (e ∷ []))
    holds-part env ws his rest e nw nh nr held =
        let first = driven his (rest ++ (e ∷ [])) env in
        let tail = holds-rest his (rest ++ (e ∷ [])) env (omega arith) (omega (arith, length-append rest (e ∷ []))) in
        let is-empty : look none (ors + j) first ≡ e = holds-one (holds_at (omega arith) (holds-right rest (e ∷ []) tail)) in
        rw (chosen-append gate_result e his rest ws (omega arith), append_assoc)
        (holds-both (chosen gate_result e his ws) (rest ++ (e ∷ []))
        (rw nh at
        (choose-holds none gate_result later (ors + j) high below ands ors first e his ws (omega arith) is-empty
        (behind (omega arith)) (holds-high his (rest ++ (e ∷ [])) env nh) (omega arith)
        (holds_kept (keeps-driven his (rest ++ (e ∷ [])) env (omega arith)) (before (omega arith)) held) (omega arith) (omega arith)))
        (holds_at (omega (arith, length-chosen gate_result e his ws))
        (holds_kept (choose-keeps-row none gate_result later count (ors + j) high below ands ors first (omega arith)) (behind (omega arith)) tail)))

    module _ (lows xs : List A) (env : Env A) (means : MeansBlock none law later j) (full : length xs ≡ 2 ^ j) (short : count ≤ j)
        (held : Holds none env bits xs) where
      abbrev answered : Answered none law j xs (apply (single gate_result) later (block_number j) xs)
      answered = means.gives xs full

      abbrev his : List A
      his = take count answered.bits

      abbrev rest : List A
      rest = drop count answered.bits

      abbrev empty : A
      empty = answered.empty

      bits-count : length answered.bits ≡ j
      bits-count = law.block-count answered.answers

      his-count : length his ≡ count
      his-count = omega (arith, length-take count answered.bits, bits-count)

      split : answered.bits ++ (empty ∷ []) ≡ his ++ (rest ++ (empty ∷ []))
      split = rw (← append_assoc his rest (empty ∷ []), take-append-drop count answered.bits)

      part-is : after_part env ≡ ran none gate_result later (ors + j) high below ands ors count (driven his (rest ++ (empty ∷ [])) env)
      part-is = rw (look-row (2 ^ j) full held, answered.are, split, drive_two-rows his (rest ++ (empty ∷ [])) env his-count)

      pub keeps-part : Keeps none high (ors + suc j) env (after_part env)
      keeps-part =
          rw part-is
          (keeps-both (keeps-driven his (rest ++ (empty ∷ [])) env short)
          (keeps-within high (ors + suc j) (omega arith) (omega arith)
          (choose-keeps-row none gate_result later count (ors + j) high below ands ors (driven his (rest ++ (empty ∷ [])) env) (omega arith))))

      pub part : Stands count below lows env → Stands (suc j) ors (lows ++ xs) (after_part env)
      part stands =
          record {
            outs = chosen gate_result empty answered.bits stands.outs ++ (empty ∷ []);
            held =
                rw part-is
                (rw (take-append-drop count answered.bits) at
                (holds-part env stands.outs his rest empty (law.counter-count stands.answer) his-count
                (omega (arith, his-count, length-drop count answered.bits, bits-count)) stands.held));
            answer = law.above short full stands.answer answered.answers;
          }
