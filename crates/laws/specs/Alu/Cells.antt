-- The control, the copies of its lines and the cells by the equations that they satisfy, in an environment that satisfies them. For
-- values of any kind and whatever gates make of them.
use Prim.Native.Nat.{ℕ, zero, suc, ◌+◌, ◌*◌, ◌-◌, ◌/◌, ◌<◌, ◌≤◌, min}
use Rattle.std.specs.Prelude.{◌≡◌, List, [], ◌∷◌, ◌++◌}
use Rattle.std.proofs.Common.{sym, subst, ◌∙◌, append_assoc}
use Rattle.std.proofs.Math.Nat.{add-zero}
use Rattle.std.proofs.Math.Decide.{ℕ_discrete}
use native.Mathlib.Omega.{arith}
use Rattle.meaning.specs.Lists.{All}
use Rattle.meaning.specs.Syntax.{Occurrence}
use Rattle.meaning.specs.Evaluation.{Env, look, look_all}
use Rattle.meaning.specs.Adder.{up_from}
use Rattle.meaning.specs.FastAdder.{Step}
use Rattle.meaning.specs.Alu.{shifted_in, b_net, op_net, carry_net, p_net, g_net, q_net, flip_net, lines_net, lines_of, BUF, copy_row, copies, controlled, cell_at, cells}
use Rattle.laws.specs.FastAdder.Equations.{Satisfied}
use Rattle.laws.specs.FastAdder.Looks.{first, after}
use Rattle.laws.specs.Alu.Occurrences.{after_alu}
use Rattle.laws.specs.Alu.Lines.{negate_line, ones_line, generate_line, pass_pline, pass_and_line, shift_line, carry_line, shifted_line, flip_line, control-gives, cell_p, cell_g, cell_q, cell-gives, Comes, as_it-is, buffered}

module _ {A : Type 0} (unset : A) (gate_result : ℕ → List A → A) (n copied : ℕ) (steps : List Step) where
  module _ (env : Env A) where
    abbrev pub at : ℕ → A
    at net = look unset net env

    abbrev Holds : Occurrence → Type 0
    Holds = Satisfied unset gate_result (after_alu n steps) env

    -- What the control makes of its inputs.
    abbrev Line : ((c lowest highest o0 o1 o2 o3 : A) → A) → A
    Line f =
        f (at 0) (at 1) (at n) (at (op_net n)) (at (suc (op_net n))) (at (suc (suc (op_net n)))) (at (suc (suc (suc (op_net n)))))

    pub record Control : Type 0 where
      pub negate : at (lines_net n) ≡ Line (negate_line gate_result)
      pub ones : at (suc (lines_net n)) ≡ Line (ones_line gate_result)
      pub generate : at (suc (suc (lines_net n))) ≡ Line (generate_line gate_result)
      pub pass_p : at (suc (suc (suc (lines_net n)))) ≡ Line (pass_pline gate_result)
      pub pass_and : at (suc (suc (suc (suc (lines_net n))))) ≡ Line (pass_and_line gate_result)
      pub shift : at (suc (suc (suc (suc (suc (lines_net n)))))) ≡ Line (shift_line gate_result)
      pub carry : at (carry_net n) ≡ Line (carry_line gate_result)
      pub shifted : at (shifted_in n) ≡ Line (shifted_line gate_result)
      pub flip : at (flip_net n) ≡ Line (flip_line gate_result)

    pub control-holds : Holds (controlled n) → Control
    unfolding look_all up_from
    control-holds h =
        let all = h.equation ∙ control-gives gate_result _ _ _ _ _ _ _ unset _ in
        record {
          negate = cc all;
          ones = cc all;
          generate = cc all;
          pass_p = cc all;
          pass_and = cc all;
          shift = cc all;
          carry = cc all;
          shifted = cc all;
          flip = cc all;
        }

    -- Copies of the lines.
    copy-row :
        (net take count : ℕ) (rest : List Occurrence)
        → All Holds (copy_row net take count ++ rest)
        → ((j : ℕ) → j < count → at (net + j) ≡ gate_result BUF (at (take + j) ∷ [])) × All Holds rest
    unfolding copy_row look_all
    copy-row net take zero rest h = (λ j low. absurd (omega arith), h)
    copy-row net take (suc count) rest h =
        let (later, rest-h) = copy-row (suc net) (suc take) count rest (after h) in
        (go (cc (first h).equation) later, rest-h)
      where
        go :
            at net ≡ gate_result BUF (at take ∷ [])
            → ((j : ℕ) → j < count → at (suc net + j) ≡ gate_result BUF (at (suc take + j) ∷ []))
            → (j : ℕ) → j < suc count → at (net + j) ≡ gate_result BUF (at (take + j) ∷ [])
        go here later zero low = rw (add-zero net, add-zero take) here
        go here later (suc j) low =
            let on : (x : ℕ) → suc x + j ≡ x + suc j = λ x. omega arith in
            rw (on net, on take) at (later j (omega arith))

    abbrev pub Copies : (lines net count : ℕ) → Type 0
    Copies lines net count =
        (m j : ℕ) → m < count → j < 6 → at (net + 6 * m + j) ≡ gate_result BUF (at (lines + j) ∷ [])

    pub copies_hold :
        (lines net count : ℕ) (rest : List Occurrence)
        → All Holds (copies lines net count ++ rest)
        → Copies lines net count × All Holds rest
    unfolding copies
    copies_hold lines net zero rest h = (λ m j low six. absurd (omega arith), h)
    copies_hold lines net (suc count) rest h =
        let (here, after-here) =
        copy-row net lines 6 _ (rw (append_assoc (copy_row net lines 6) (copies lines (net + 6) count) rest) at h)
        in
        let (later, rest-h) = copies_hold lines (net + 6) count rest after-here in
        (go here later, rest-h)
      where
        go :
            ((j : ℕ) → j < 6 → at (net + j) ≡ gate_result BUF (at (lines + j) ∷ []))
            → Copies lines (net + 6) count
            → Copies lines net (suc count)
        go here later zero j low six = let on : net + 6 * zero + j ≡ net + j = omega arith in rw on (here j six)
        go here later (suc m) j low six =
            let on : net + 6 + 6 * m + j ≡ net + 6 * suc m + j = omega arith in
            rw on at (later m j (omega arith) six)

    line_comes :
        Copies (lines_net n) (lines_net n + 6) copied
        → (i j : ℕ) → j < 6
        → (line net : ℕ) → line ≡ lines_net n + j → net ≡ lines_of n copied i + j
        → Comes gate_result copied (at line) (at net)
    line_comes held i j six line net at-line at-net = rw (at-line, at-net) (go (min copied (i / 8 + 1)) (omega arith))
      where
        go : (m : ℕ) → m ≤ copied → Comes gate_result copied (at (lines_net n + j)) (at (lines_net n + 6 * m + j))
        go zero low =
            let on : lines_net n + j ≡ lines_net n + 6 * zero + j = omega arith in
            subst (λ (net : ℕ). Comes gate_result copied (at (lines_net n + j)) (at net)) on as_it-is
        go (suc m) low =
            let on : lines_net n + 6 + 6 * m + j ≡ lines_net n + 6 * suc m + j = omega arith in
            subst (λ (v : A). Comes gate_result copied (at (lines_net n + j)) v) (sym (rw on at (held m j (omega arith) six))) (buffered (omega arith))

    -- The cell of a bit, with the lines as they come to it.
    pub record Cell (i : ℕ) : Type 0 where
      pub negate : A
      pub ones : A
      pub generate : A
      pub pass_p : A
      pub pass_and : A
      pub shift : A
      pub comes_negate : Comes gate_result copied (at (lines_net n)) negate
      pub comes_ones : Comes gate_result copied (at (suc (lines_net n))) ones
      pub comes_generate : Comes gate_result copied (at (suc (suc (lines_net n)))) generate
      pub comes_pass_p : Comes gate_result copied (at (suc (suc (suc (lines_net n))))) pass_p
      pub comes_pass_and : Comes gate_result copied (at (suc (suc (suc (suc (lines_net n)))))) pass_and
      pub comes_shift : Comes gate_result copied (at (suc (suc (suc (suc (suc (lines_net n))))))) shift
      pub p : at (p_net n + i)
          ≡ cell_p gate_result (at (1 + i)) (at (2 + i)) (at (b_net n + i)) negate ones generate pass_p pass_and shift
      pub g : at (g_net n + i)
          ≡ cell_g gate_result (at (1 + i)) (at (2 + i)) (at (b_net n + i)) negate ones generate pass_p pass_and shift
      pub q : at (q_net n + i)
          ≡ cell_q gate_result (at (1 + i)) (at (2 + i)) (at (b_net n + i)) negate ones generate pass_p pass_and shift

    cell_holds : Copies (lines_net n) (lines_net n + 6) copied → (i : ℕ) → Holds (cell_at n copied i) → Cell i
    unfolding look_all up_from
    cell_holds held i h =
        let l = lines_of n copied i in
        let all = h.equation ∙ cell-gives gate_result _ _ _ _ _ _ _ _ _ unset _ in
        record {
          negate = at l;
          ones = at (suc l);
          generate = at (suc (suc l));
          pass_p = at (suc (suc (suc l)));
          pass_and = at (suc (suc (suc (suc l))));
          shift = at (suc (suc (suc (suc (suc l)))));
          comes_negate = line_comes held i 0 (omega arith) _ _ (omega arith) (omega arith);
          comes_ones = line_comes held i 1 (omega arith) _ _ (omega arith) (omega arith);
          comes_generate = line_comes held i 2 (omega arith) _ _ (omega arith) (omega arith);
          comes_pass_p = line_comes held i 3 (omega arith) _ _ (omega arith) (omega arith);
          comes_pass_and = line_comes held i 4 (omega arith) _ _ (omega arith) (omega arith);
          comes_shift = line_comes held i 5 (omega arith) _ _ (omega arith) (omega arith);
          p = cc all;
          g = cc all;
          q = cc all;
        }

    pub cells-hold :
        Copies (lines_net n) (lines_net n + 6) copied
        → (i count : ℕ) (rest : List Occurrence)
        → All Holds (cells n copied i count ++ rest)
        → ((k : ℕ) → i ≤ k → k < i + count → Cell k) × All Holds rest
    unfolding cells
    cells-hold held i zero rest h = (λ k low high. absurd (omega arith), h)
    cells-hold held i (suc count) rest h =
        let (later, rest-h) = cells-hold held (suc i) count rest (after h) in
        (λ k low high. go (cell_holds held i (first h)) later k low high (ℕ_discrete i k), rest-h)
      where
        go : Cell i → ((k : ℕ) → suc i ≤ k → k < suc i + count → Cell k) → (k : ℕ) → i ≤ k → k < i + suc count → Dec (i ≡ k) → Cell k
        go here later k low high (yes same) = rw same at here
        go here later k low high (no further) = later k (omega arith) (omega arith)
