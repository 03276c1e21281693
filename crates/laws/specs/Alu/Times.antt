-- When the control lines of the ALU arrive, and p, g and q of each cell, by unit delay.
use Rattle.std.specs.Prelude.{ℕ, zero, suc, ◌+◌, ◌*◌, ◌-◌, ◌<◌, ◌≤◌, min, ◌≡◌, true, List, [], ◌∷◌, replicate}
use Rattle.std.proofs.Common.{◌∙◌, arith, ne_eqb}
use Rattle.std.proofs.Math.Decide.{ℕ_discrete}
use Rattle.meaning.specs.Boxlist.{member}
use Rattle.meaning.specs.Evaluation.{Env, look, look_all}
use Rattle.meaning.specs.Figures.{largest}
use Rattle.meaning.specs.Counter.{XOR, OR}
use Rattle.meaning.specs.FastAdder.{AND3, steps}
use Rattle.meaning.specs.Alu.{NAND, NAND3, b_net, op_net, carry_net, p_net, g_net, q_net, flip_net, shifted_in, lines_net}
use Rattle.laws.specs.FastAdder.Times.{unit}
use Rattle.laws.specs.Alu.Signals.{inputs, low-input, high-input}
use Rattle.laws.specs.Alu.Lines.{Comes, as_it-is, buffered}
use Rattle.laws.specs.Alu.Nets.{Nets}

-- Nets that are there from the start.
from_start :
    (env : Env ℕ) (listed : List ℕ) (m : ℕ) → look_all 0 listed env ≡ replicate m 0
    → (x : ℕ) → member x listed ≡ true → look 0 x env ≡ 0
unfolding look_all member
from_start env [] m held x there = cc
from_start env (y ∷ listed) zero held x there = let never : ◌≡◌ {A = ℕ} 0 1 = cc in absurd (omega arith)
from_start env (y ∷ listed) (suc m) held x there = go (ℕ_discrete x y) (from_start env listed m (cc) x)
  where
    go : Dec (x ≡ y) → (member x listed ≡ true → look 0 x env ≡ 0) → look 0 x env ≡ 0
    go (yes same) further = let here : look 0 y env ≡ 0 = cc in rw same here
    go (no other) further = further (rw (ne_eqb x y other) at there)

-- A gate of two or three arguments that are there before a time.
pub by_two : (kind t a b : ℕ) → a < t → b < t → unit kind (a ∷ b ∷ []) ≤ t
unfolding largest
by_two kind t a b a-by b-by = omega arith

by_three : (kind t a b c : ℕ) → a < t → b < t → c < t → unit kind (a ∷ b ∷ c ∷ []) ≤ t
unfolding largest
by_three kind t a b c a-by b-by c-by = omega arith

-- A line comes to a cell as it is, or one later where there are copies.
comes_by : {copied line v : ℕ} → Comes unit copied line v → v ≤ line + min 1 copied
unfolding largest
comes_by as_it-is = omega arith
comes_by (buffered some) = omega arith

module _ (n copied : ℕ) (some : 1 ≤ n) (ns : Nets 0 unit n copied (steps n) (replicate (2 * n + 5) 0)) where
  abbrev at : ℕ → ℕ
  at net = look 0 net ns.env

  abbrev late : ℕ
  late = min 1 copied

  low-at : (x : ℕ) → x ≤ n → at x ≡ 0
  low-at x low = from_start ns.env (inputs n) (2 * n + 5) ns.given x (low-input n x low)

  high-at : (x : ℕ) → n + 2 ≤ x → x < 2 * n + 6 → at x ≡ 0
  high-at x low high = from_start ns.env (inputs n) (2 * n + 5) ns.given x (high-input n x low high)

  -- The control.
  pub record Lines : Type 0 where
    pub negate : at (lines_net n) ≡ 1
    pub ones : at (suc (lines_net n)) ≡ 2
    pub generate : at (suc (suc (lines_net n))) ≡ 3
    pub pass_p : at (suc (suc (suc (lines_net n)))) ≡ 3
    pub pass_and : at (suc (suc (suc (suc (lines_net n))))) ≡ 2
    pub shift : at (suc (suc (suc (suc (suc (lines_net n)))))) ≡ 2
    pub carry : at (carry_net n) ≡ 4
    pub shifted : at (shifted_in n) ≡ 3
    pub flip : at (flip_net n) ≡ 4

  pub lines : Lines
  unfolding largest
  lines =
      let c = low-at 0 (omega arith) in
      let lowest = low-at 1 some in
      let highest = low-at n (omega arith) in
      let o0 = high-at (op_net n) (omega arith) (omega arith) in
      let o1 = high-at (suc (op_net n)) (omega arith) (omega arith) in
      let o2 = high-at (suc (suc (op_net n))) (omega arith) (omega arith) in
      let o3 = high-at (suc (suc (suc (op_net n)))) (omega arith) (omega arith) in
      let control = ns.control in
      record {
        negate = control.negate ∙ rw (o1, o2);
        ones = control.ones ∙ rw (o1, o2, o3);
        generate = control.generate ∙ rw (o0, o1, o2, o3);
        pass_p = control.pass_p ∙ rw (o0, o1, o2, o3);
        pass_and = control.pass_and ∙ rw (o0, o1, o2, o3);
        shift = control.shift ∙ rw (o0, o1, o2, o3);
        carry = control.carry ∙ rw (c, o0, o1, o2, o3);
        shifted = control.shifted ∙ rw (c, highest, o0, o1);
        flip = control.flip ∙ rw (lowest, o0, o1, o2, o3);
      }

  -- A cell.
  next-at : (i : ℕ) → i < n → at (2 + i) ≤ 3
  next-at i low = go (ℕ_discrete (2 + i) (shifted_in n))
    where
      go : Dec (2 + i ≡ shifted_in n) → at (2 + i) ≤ 3
      go (yes top) = rw top (omega (arith, lines.shifted))
      go (no inside) = omega (arith, low-at (2 + i) (omega arith))

  pub record CellBy (i : ℕ) : Type 0 where
    pub p : at (p_net n + i) ≤ 4 + late
    pub g : at (g_net n + i) ≤ 4 + late
    pub q : at (q_net n + i) ≤ 6 + late

  pub cell-by : (i : ℕ) → i < n → CellBy i
  cell-by i low =
      let cell = ns.cells_hold i low in
      let a = low-at (1 + i) (omega arith) in
      let b = high-at (b_net n + i) (omega arith) (omega arith) in
      let negate = comes_by cell.comes_negate in
      let ones = comes_by cell.comes_ones in
      let generate = comes_by cell.comes_generate in
      let pass_p = comes_by cell.comes_pass_p in
      let pass_and = comes_by cell.comes_pass_and in
      let shift = comes_by cell.comes_shift in
      let x = unit XOR (at (1 + i) ∷ cell.negate ∷ []) in
      let y = unit OR (at (b_net n + i) ∷ cell.ones ∷ []) in
      let p = unit XOR (x ∷ y ∷ []) in
      let u = unit NAND (p ∷ cell.pass_p ∷ []) in
      let v = unit NAND3 (x ∷ y ∷ cell.pass_and ∷ []) in
      let w = unit NAND (at (2 + i) ∷ cell.shift ∷ []) in
      let x-by : x ≤ 2 + late = by_two XOR (2 + late) _ _ (omega arith) (omega (arith, lines.negate)) in
      let y-by : y ≤ 3 + late = by_two OR (3 + late) _ _ (omega arith) (omega (arith, lines.ones)) in
      let p-by : p ≤ 4 + late = by_two XOR (4 + late) x y (omega arith) (omega arith) in
      let g-by : unit AND3 (x ∷ y ∷ cell.generate ∷ []) ≤ 4 + late =
      by_three AND3 (4 + late) x y cell.generate (omega arith) (omega arith) (omega (arith, lines.generate))
      in
      let u-by : u ≤ 5 + late = by_two NAND (5 + late) p cell.pass_p (omega arith) (omega (arith, lines.pass_p)) in
      let v-by : v ≤ 5 + late =
      by_three NAND3 (5 + late) x y cell.pass_and (omega arith) (omega arith) (omega (arith, lines.pass_and))
      in
      let w-by : w ≤ 5 + late =
      by_two NAND (5 + late) (at (2 + i)) cell.shift (omega (arith, next-at i low)) (omega (arith, lines.shift))
      in
      record {
        p = rw cell.p p-by;
        g = rw cell.g g-by;
        q = rw cell.q (by_three NAND3 (6 + late) u v w (omega arith) (omega arith) (omega arith));
      }
