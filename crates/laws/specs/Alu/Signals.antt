-- Which nets of module 48 are there, from the control on, when some copies of the lines and the cells of some bits have run.
use Rattle.std.specs.Prelude.{ℕ, zero, suc, ◌+◌, ◌*◌, ◌<◌, ◌≤◌, ◌≡◌, refl, true, false, List, [], ◌∷◌, ◌++◌}
use Rattle.std.proofs.Common.{append_assoc, arith}
use Rattle.std.proofs.Math.Decide.{ℕ_discrete, dec_lt}
use Rattle.meaning.specs.Boxlist.{member, disjoint}
use Rattle.meaning.specs.Adder.{up_from}
use Rattle.meaning.specs.Alu.{shifted_in, b_net, carry_net, p_net, g_net, q_net, out_net, flip_net, lines_net, controlled, cell_at}
use Rattle.laws.specs.Adder.Distinct.{member-cons, member-of-run, not_of-run}
use Rattle.laws.specs.FastAdder.Runs.{behind, not_behind}
use Rattle.laws.specs.FastAdder.GateRows.{Added, run-added}

pub disjoint-after-run :
    (first n : ℕ) (xs ys : List ℕ)
    → ((y : ℕ) → first ≤ y → y < first + n → member y ys ≡ false)
    → disjoint (up_from first n ++ xs) ys ≡ disjoint xs ys
unfolding disjoint up_from
disjoint-after-run first zero xs ys apart = refl
disjoint-after-run first (suc n) xs ys apart =
    rw (apart first (omega arith) (omega arith))
    (disjoint-after-run (suc first) n xs ys (λ y low high. apart y (omega arith) (omega arith)))

module _ (n : ℕ) where
  abbrev pub inputs : List ℕ
  inputs = up_from 0 (n + 1) ++ up_from (b_net n) (n + 4)

  pub low-input : (x : ℕ) → x ≤ n → member x inputs ≡ true
  low-input x low = (run-added 0 (n + 1) (up_from (b_net n) (n + 4))).added x (omega arith) (omega arith)

  pub high-input : (x : ℕ) → n + 2 ≤ x → x < 2 * n + 6 → member x inputs ≡ true
  high-input x low high =
      (run-added 0 (n + 1) (up_from (b_net n) (n + 4))).kept x (member-of-run x (b_net n) (n + 4) low (omega arith))

  pub no_input :
      (x : ℕ)
      → ((y : ℕ) → y ≤ n → x ≡ y → ⊥)
      → ((y : ℕ) → n + 2 ≤ y → y < 2 * n + 6 → x ≡ y → ⊥)
      → member x inputs ≡ false
  no_input x not_low not-high =
      (run-added 0 (n + 1) (up_from (b_net n) (n + 4))).other x (λ y least most. not_low y (omega arith))
      (not_of-run x (b_net n) (n + 4) (λ y least most. not-high y least (omega arith)))

  -- So many copies, and so many cells.
  pub record Ready (copied i : ℕ) (signals : List ℕ) : Type 0 where
    pub low : (x : ℕ) → x < 2 * n + 7 → member x signals ≡ true
    pub lines : (x : ℕ) → 7 * n + 9 ≤ x → x < 7 * n + 16 + 6 * copied → member x signals ≡ true
    pub has_p : (x : ℕ) → p_net n ≤ x → x < p_net n + i → member x signals ≡ true
    pub has_g : (x : ℕ) → g_net n ≤ x → x < g_net n + i → member x signals ≡ true
    pub has_q : (x : ℕ) → q_net n ≤ x → x < q_net n + i → member x signals ≡ true
    pub no_carry : (x : ℕ) → 2 * n + 7 ≤ x → x < p_net n → member x signals ≡ false
    pub no_p : (x : ℕ) → p_net n + i ≤ x → x < g_net n → member x signals ≡ false
    pub no_g : (x : ℕ) → g_net n + i ≤ x → x < q_net n → member x signals ≡ false
    pub no_q : (x : ℕ) → q_net n + i ≤ x → x < out_net n → member x signals ≡ false
    pub no_out : (x : ℕ) → out_net n ≤ x → x < flip_net n → member x signals ≡ false
    pub no_copy : (x : ℕ) → 7 * n + 16 + 6 * copied ≤ x → member x signals ≡ false

  -- After the control: its last three outputs, and the lines.
  abbrev three : List ℕ
  three = carry_net n ∷ shifted_in n ∷ flip_net n ∷ inputs

  controlled-nets : (controlled n).drives ++ inputs ≡ up_from (lines_net n) 6 ++ three
  controlled-nets = append_assoc (up_from (lines_net n) 6) (carry_net n ∷ shifted_in n ∷ flip_net n ∷ []) inputs

  in_three : (x : ℕ) → x < 2 * n + 7 → member x three ≡ true
  in_three x low = go (ℕ_discrete x (carry_net n)) (ℕ_discrete x (shifted_in n)) (dec_lt x (n + 1))
    where
      input : member x inputs ≡ true → member x three ≡ true
      input held = behind x (carry_net n) _ (behind x (shifted_in n) _ (behind x (flip_net n) inputs held))

      go : Dec (x ≡ carry_net n) → Dec (x ≡ shifted_in n) → Dec (x < n + 1) → member x three ≡ true
      go (yes same) d e = member-cons x (carry_net n) _ (λ other. absurd (other same))
      go (no carry) (yes same) e =
          behind x (carry_net n) _ (member-cons x (shifted_in n) _ (λ other. absurd (other same)))
      go (no carry) (no shifted) (yes a) = input (low-input x (omega arith))
      go (no carry) (no shifted) (no b) = input (high-input x (omega arith) (omega arith))

  not_three : (x : ℕ) → 2 * n + 7 ≤ x → (x ≡ flip_net n → ⊥) → member x three ≡ false
  not_three x high flip =
      not_behind x (carry_net n) _ (omega arith)
      (not_behind x (shifted_in n) _ (omega arith)
      (not_behind x (flip_net n) inputs flip (no_input x (λ y most. omega arith) (λ y least most. omega arith))))

  pub ready-first : Ready 0 0 ((controlled n).drives ++ inputs)
  ready-first =
      rw controlled-nets
      (let lines = run-added (lines_net n) 6 three in
      let none : (x : ℕ) → 2 * n + 7 ≤ x → (x < flip_net n) → member x (up_from (lines_net n) 6 ++ three) ≡ false =
      λ x low high. lines.other x (λ y least most. omega arith) (not_three x low (omega arith))
      in
      record {
        low = λ x below. lines.kept x (in_three x below);
        lines = λ x least most. at-flip x least most (ℕ_discrete x (flip_net n));
        has_p = λ x least most. absurd (omega arith);
        has_g = λ x least most. absurd (omega arith);
        has_q = λ x least most. absurd (omega arith);
        no_carry = λ x least most. none x least (omega arith);
        no_p = λ x least most. none x (omega arith) (omega arith);
        no_g = λ x least most. none x (omega arith) (omega arith);
        no_q = λ x least most. none x (omega arith) (omega arith);
        no_out = λ x least most. none x (omega arith) most;
        no_copy = λ x least. lines.other x (λ y low high. omega arith) (not_three x (omega arith) (omega arith));
      })
    where
      at-flip :
          (x : ℕ) → 7 * n + 9 ≤ x → x < 7 * n + 16 + 6 * 0 → Dec (x ≡ flip_net n)
          → member x (up_from (lines_net n) 6 ++ three) ≡ true
      at-flip x least most (yes same) =
          (run-added (lines_net n) 6 three).kept x
          (behind x (carry_net n) _ (behind x (shifted_in n) _ (member-cons x (flip_net n) inputs (λ other. absurd (other same)))))
      at-flip x least most (no other) = (run-added (lines_net n) 6 three).added x (omega arith) (omega arith)

  -- After the copies.
  pub ready-copied :
      {copied : ℕ} {old new : List ℕ} → Ready 0 0 old → Added (lines_net n + 6) (6 * copied) old new → Ready copied 0 new
  ready-copied {copied} {old} {new} ready copies =
      record {
        low = λ x below. copies.kept x (ready.low x below);
        lines = λ x least most. go x least most (dec_lt x (7 * n + 16));
        has_p = λ x least most. absurd (omega arith);
        has_g = λ x least most. absurd (omega arith);
        has_q = λ x least most. absurd (omega arith);
        no_carry = λ x least most. copies.other x (λ y low high. omega arith) (ready.no_carry x least most);
        no_p = λ x least most. copies.other x (λ y low high. omega arith) (ready.no_p x least most);
        no_g = λ x least most. copies.other x (λ y low high. omega arith) (ready.no_g x least most);
        no_q = λ x least most. copies.other x (λ y low high. omega arith) (ready.no_q x least most);
        no_out = λ x least most. copies.other x (λ y low high. omega arith) (ready.no_out x least most);
        no_copy = λ x least. copies.other x (λ y low high. omega arith) (ready.no_copy x (omega arith));
      }
    where
      go : (x : ℕ) → 7 * n + 9 ≤ x → x < 7 * n + 16 + 6 * copied → Dec (x < 7 * n + 16) → member x new ≡ true
      go x least most (yes first) = copies.kept x (ready.lines x least (omega arith))
      go x least most (no copy) = copies.added x (omega arith) (omega arith)

  -- After one more cell.
  module _ {copied i : ℕ} {signals : List ℕ} (ready : Ready copied i signals) (more : i < n) where
    abbrev new : List ℕ
    new = (cell_at n copied i).drives ++ signals

    kept : (x : ℕ) → member x signals ≡ true → member x new ≡ true
    kept x held = behind x (p_net n + i) _ (behind x (g_net n + i) _ (behind x (q_net n + i) signals held))

    other :
        (x : ℕ) → (x ≡ p_net n + i → ⊥) → (x ≡ g_net n + i → ⊥) → (x ≡ q_net n + i → ⊥) → member x signals ≡ false
        → member x new ≡ false
    other x not-p not-g not-q out =
        not_behind x (p_net n + i) _ not-p (not_behind x (g_net n + i) _ not-g (not_behind x (q_net n + i) signals not-q out))

    with_p : (x : ℕ) → p_net n ≤ x → x < p_net n + suc i → Dec (x ≡ p_net n + i) → member x new ≡ true
    with_p x least most (yes same) = member-cons x (p_net n + i) _ (λ other. absurd (other same))
    with_p x least most (no further) = kept x (ready.has_p x least (omega arith))

    with_g : (x : ℕ) → g_net n ≤ x → x < g_net n + suc i → Dec (x ≡ g_net n + i) → member x new ≡ true
    with_g x least most (yes same) =
        behind x (p_net n + i) _ (member-cons x (g_net n + i) _ (λ other. absurd (other same)))
    with_g x least most (no further) = kept x (ready.has_g x least (omega arith))

    with_q : (x : ℕ) → q_net n ≤ x → x < q_net n + suc i → Dec (x ≡ q_net n + i) → member x new ≡ true
    with_q x least most (yes same) =
        behind x (p_net n + i) _ (behind x (g_net n + i) _ (member-cons x (q_net n + i) _ (λ other. absurd (other same))))
    with_q x least most (no further) = kept x (ready.has_q x least (omega arith))

    pub ready-cell : Ready copied (suc i) new
    ready-cell =
        record {
          low = λ x below. kept x (ready.low x below);
          lines = λ x least most. kept x (ready.lines x least most);
          has_p = λ x least most. with_p x least most (ℕ_discrete x (p_net n + i));
          has_g = λ x least most. with_g x least most (ℕ_discrete x (g_net n + i));
          has_q = λ x least most. with_q x least most (ℕ_discrete x (q_net n + i));
          no_carry = λ x least most. other x (omega arith) (omega arith) (omega arith) (ready.no_carry x least most);
          no_p = λ x least most. other x (omega arith) (omega arith) (omega arith) (ready.no_p x (omega arith) most);
          no_g = λ x least most. other x (omega arith) (omega arith) (omega arith) (ready.no_g x (omega arith) most);
          no_q = λ x least most. other x (omega arith) (omega arith) (omega arith) (ready.no_q x (omega arith) most);
          no_out = λ x least most. other x (omega arith) (omega arith) (omega arith) (ready.no_out x least most);
          no_copy = λ x least. other x (omega arith) (omega arith) (omega arith) (ready.no_copy x least);
        }
