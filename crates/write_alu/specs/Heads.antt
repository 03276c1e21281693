-- The bytes of module 48 in front of its occurrences.
use Rattle.std.specs.Prelude.{ℕ, ◌+◌, ◌*◌, List, ◌++◌}
use Rattle.meaning.specs.Layout.{each, number_bytes}
use Rattle.meaning.specs.Adder.{up_from}
use Rattle.meaning.specs.Alu.{b_net, out_net}
use Rattle.write_pieces.specs.Heads.{head_numbers}

abbrev pub head_bytes : (n copied : ℕ) → List ℕ
head_bytes n copied =
    each number_bytes
    (head_numbers 48 (up_from 0 (n + 1) ++ up_from (b_net n) (n + 4)) (up_from (out_net n) (n + 2)) (2 * n + 4 + 6 * copied))
