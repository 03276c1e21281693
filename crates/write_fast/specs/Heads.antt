-- The bytes of module 40 in front of its occurrences.
use Rattle.std.specs.Prelude.{ℕ, ◌+◌, ◌*◌, List, [], ◌∷◌, ◌++◌}
use Rattle.meaning.specs.Layout.{each, number_bytes}
use Rattle.meaning.specs.Adder.{up_from}
use Rattle.write_pieces.specs.Heads.{head_numbers}

abbrev pub head_bytes : ℕ → List ℕ
head_bytes n =
    each number_bytes (head_numbers 40 (0 ∷ up_from (n + 1) (2 * n)) (up_from (5 * n + 1) n ++ (n ∷ [])) (3 * n + 1))
