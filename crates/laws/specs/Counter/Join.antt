-- The block of two halves, run on any values: what its outputs hold in terms of what its halves answer.
use Prim.Native.Nat.{ℕ, suc, ◌+◌, ◌*◌, ◌^◌, ◌<◌}
use Rattle.std.specs.Prelude.{◌≡◌, List, [], ◌∷◌, ◌++◌, length}
use Rattle.std.proofs.Math.Path.{refl}
use Rattle.std.proofs.Common.{◌∙◌, arith, length-append}
use Rattle.std.proofs.Math.Seq.{append_snoc}
use Rattle.meaning.specs.Evaluation.{Env, Meaning, look, look_all, pairs, apply, walk}
use Rattle.meaning.specs.Adder.{up_from}
use Rattle.meaning.specs.Counter.{AND, XOR, gate_on, choose, block_number, join_block}
use Rattle.laws.specs.Adder.Nets.{look-here, look-past}
use Rattle.laws.specs.Counter.Nets.{before, Holds, end, value, Keeps, holds_at, holds-one, holds-left, holds-right, holds-both, holds_kept, keeps_given, keeps_bound, holds-driven, walk-append}
use Rattle.laws.specs.Counter.Law.{single, chosen, length-chosen, both_empty, top_bit}
use Rattle.laws.specs.Counter.Choice.{ran, choose-keeps-row, choose-holds}

module _ {A : Type 0} (none : A) (gate_result : ℕ → List A → A) (later : Meaning A) where
  -- The last two gates of a block, after its other count bits.
  top-holds : (top high low : ℕ) (env : Env A) {first : ℕ} (bits : List A) {eh el : A}
      → high < top → low < top → look none high env ≡ eh → look none low env ≡ el
      → Holds none env first bits → first + length bits ≡ top
      → Holds none (walk none (single gate_result) later (gate_on (suc top) AND high low ∷ gate_on top XOR high (suc top) ∷ []) env) first
      (bits ++ (top_bit gate_result eh el ∷ []) ++ (both_empty gate_result eh el ∷ []))
  unfolding walk pairs look_all
  top-holds top high low env bits {eh} {el} hf lf he le held ends =
      let empty = gate_result AND (look none high env ∷ look none low env ∷ []) in
      let first : Env A = record { net = suc top; value = empty } ∷ env in
      let bit = gate_result XOR (look none high first ∷ look none (suc top) first ∷ []) in
      let kept : Keeps none top (suc (suc top)) env (record { net = top; value = bit } ∷ first) =
      keeps_bound top bit (omega arith) (omega arith)
      (keeps_bound (suc top) empty (omega arith) (omega arith) (record { kept = λ net o. refl }))
      in
      let empty-is : look none (suc top) first ≡ both_empty gate_result eh el = cc (look-here none (suc top) empty env) in
      let bit_is : bit ≡ top_bit gate_result eh el = cc (look-past none high (suc top) empty env (λ e. omega arith)) in
      rw (append_snoc bits (top_bit gate_result eh el) (both_empty gate_result eh el ∷ []))
      (holds-both bits (top_bit gate_result eh el ∷ both_empty gate_result eh el ∷ []) (holds_kept kept (before (omega arith)) held)
      (holds_at (omega arith)
      (value (look-here none top bit first ∙ bit_is)
      (value (look-past none (suc top) top bit first (λ e. omega arith) ∙ empty-is) end))))

  -- Two halves, and what the block of level j answers of each: its count bits, and last whether it is empty.
  pub record Halves (j : ℕ) (xs ys ls hs : List A) (el eh : A) : Type 0 where
    pub low_bits : length xs ≡ 2 ^ j
    pub high_bits : length ys ≡ 2 ^ j
    pub low-answer : apply (single gate_result) later (block_number j) xs ≡ ls ++ (el ∷ [])
    pub high-answer : apply (single gate_result) later (block_number j) ys ≡ hs ++ (eh ∷ [])
    pub low_count : length ls ≡ j
    pub high-count : length hs ≡ j

  -- The block's environment after its low half, its high half and the row that chooses.
  module _ (j : ℕ) (env : Env A) where
    abbrev low : ℕ
    low = 2 * 2 ^ j

    abbrev high : ℕ
    high = low + suc j

    abbrev ands : ℕ
    ands = high + suc j

    abbrev ors : ℕ
    ors = ands + j

    abbrev first : Env A
    first =
        pairs none (up_from low (suc j)) (apply (single gate_result) later (block_number j) (look_all none (up_from 0 (2 ^ j)) env)) ++ env

    abbrev second : Env A
    second =
        pairs none (up_from high (suc j))
        (apply (single gate_result) later (block_number j) (look_all none (up_from (2 ^ j) (2 ^ j)) first))
        ++ first

    abbrev third : Env A
    third = ran none gate_result later (high + j) high low ands ors j second

    keeps-third : Keeps none ands (ors + j) second third
    keeps-third = choose-keeps-row none gate_result later j (high + j) high low ands ors second (omega arith)

    module _ {xs ys ls hs : List A} {el eh : A} (halves : Halves j xs ys ls hs el eh) (inputs : Holds none env 0 (xs ++ ys)) where
      low_first : Holds none first low (ls ++ (el ∷ []))
      low_first =
          holds-driven (single gate_result) later (block_number j) low (2 ^ j) (suc j) (holds-left xs ys inputs) halves.low_bits
          halves.low-answer
          (omega (arith, length-append ls (el ∷ [])))

      ys_first : Holds none first (2 ^ j) ys
      ys_first =
          holds_kept (keeps_given low (suc j) _ env) (before (omega arith)) (holds_at (omega arith) (holds-right xs ys inputs))

      high-second : Holds none second high (hs ++ (eh ∷ []))
      high-second =
          holds-driven (single gate_result) later (block_number j) high (2 ^ j) (suc j) ys_first halves.high_bits
          halves.high-answer
          (omega (arith, length-append hs (eh ∷ [])))

      low_second : Holds none second low (ls ++ (el ∷ []))
      low_second = holds_kept (keeps_given high (suc j) _ first) (before (omega (arith, length-append ls (el ∷ [])))) low_first

      high-empty : look none (high + j) second ≡ eh
      high-empty = holds-one (holds_at (omega arith) (holds-right hs (eh ∷ []) high-second))

      low-empty : look none (low + j) second ≡ el
      low-empty = holds-one (holds_at (omega arith) (holds-right ls (el ∷ []) low_second))

      chosen-third : Holds none third ors (chosen gate_result eh hs ls)
      chosen-third =
          rw halves.high-count at
          (choose-holds none gate_result later (high + j) high low ands ors second eh hs ls (omega arith) high-empty
          (before (omega arith)) (holds-left hs (eh ∷ []) high-second) (omega arith) (holds-left ls (el ∷ []) low_second)
          (omega arith) (omega arith))

      pub join-walk : Holds none (walk none (single gate_result) later (join_block j).occurrences env) ors
          (chosen gate_result eh hs ls ++ (top_bit gate_result eh el ∷ []) ++ (both_empty gate_result eh el ∷ []))
      unfolding join_block walk pairs look_all
      join-walk =
          rw (walk-append none (single gate_result) later (choose (high + j) high low ands ors j))
          (top-holds (ors + j) (high + j) (low + j) third (chosen gate_result eh hs ls) (omega arith) (omega arith)
          (keeps-third.kept (high + j) (before (omega arith)) ∙ high-empty)
          (keeps-third.kept (low + j) (before (omega arith)) ∙ low-empty)
          chosen-third
          (omega (arith, length-chosen gate_result eh hs ls)))
