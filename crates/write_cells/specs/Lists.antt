-- The numbers of the cell of a bit, one by one.
use Rattle.std.specs.Prelude.{ℕ, ◌+◌, List, [], ◌∷◌}
use Rattle.meaning.specs.Alu.{p_net, g_net, q_net, b_net, lines_of}

-- Six nets from one on, and more.
abbrev pub six_from : (s : ℕ) (rest : List ℕ) → List ℕ
six_from s rest = s ∷ (s + 1) ∷ (s + 2) ∷ (s + 3) ∷ (s + 4) ∷ (s + 5) ∷ rest

-- With its lines from one on, and with its own.
abbrev pub cell_with : (n i lines : ℕ) → List ℕ
cell_with n i lines = 3 ∷ (p_net n + i) ∷ (g_net n + i) ∷ (q_net n + i) ∷ 50 ∷ 9 ∷ (1 + i) ∷ (2 + i) ∷ (b_net n + i) ∷ six_from lines []

abbrev pub cell_list : (n copied i : ℕ) → List ℕ
cell_list n copied i = cell_with n i (lines_of n copied i)
