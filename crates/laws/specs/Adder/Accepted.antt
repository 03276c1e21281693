-- The check accepts the written adder: its nets are numbered apart, each cell uses only what is there before it and drives what is
-- not, and the outputs are driven.
use Rattle.std.specs.Prelude.{◌≡◌, refl, true, false, List, [], ◌∷◌, ◌++◌, ℕ, zero, suc, ◌+◌, ◌*◌, ◌<◌, ◌≤◌}
use Rattle.std.proofs.Common.{arith}
use borrow.Author.Tests.{ne_eqb, le-leb}
use Rattle.meaning.specs.Syntax.{Module}
use Rattle.meaning.specs.Gates.{gate, gates}
use Rattle.meaning.specs.Boxlist.{member, disjoint, duplicates, subset, assoc, arity_okp}
use Rattle.meaning.specs.Limits.{driven, net_count, body_size, expanded_size}
use Rattle.meaning.specs.Verdict.{good, occurrence_verdict, body_verdict, module_verdict, modules_verdict, sizes_verdict, file_verdict}
use Rattle.meaning.specs.Adder.{up_from, adder_cells, ripple_adder, full_adder, half_adder, adder}
use Rattle.laws.specs.Adder.Distinct.{member-cons, member-append, member-of-run, not_of-run, duplicates-after-run, duplicates-of-run, disjoint-run, subset-after-run}
use Rattle.laws.specs.Adder.Figures.{adder-nets, adder-size}

-- The modules behind the first.
abbrev tail : List Module
tail = full_adder ∷ half_adder ∷ []

tail-accepted : modules_verdict 1 tail ≡ good
unfolding modules_verdict module_verdict body_verdict occurrence_verdict duplicates disjoint subset member arity_okp assoc gate gates driven net_count
tail-accepted = refl

tail-small : sizes_verdict 1 tail ≡ good
unfolding sizes_verdict expanded_size body_size
tail-small = refl

-- What some cells need of the nets that are inputs or driven before them.
record Ready (a b s k before n : ℕ) (signals : List ℕ) : Type 0 where
  a_held : (x : ℕ) → a ≤ x → x < a + n → member x signals ≡ true
  b_held : (x : ℕ) → b ≤ x → x < b + n → member x signals ≡ true
  before_held : member before signals ≡ true
  sums_fresh : (x : ℕ) → s ≤ x → x < s + n → member x signals ≡ false
  carries_fresh : (x : ℕ) → k ≤ x → x < k + n → member x signals ≡ false
  order : s + n ≤ k

held-behind : (x s k : ℕ) (signals : List ℕ) → member x signals ≡ true → member x (s ∷ k ∷ signals) ≡ true
held-behind x s k signals held = member-cons x s (k ∷ signals) (λ other. member-cons x k signals (λ another. held))

fresh-behind :
    (x s k : ℕ) (signals : List ℕ)
    → (x ≡ s → ⊥)
    → (x ≡ k → ⊥)
    → member x signals ≡ false
    → member x (s ∷ k ∷ signals) ≡ false
unfolding member
fresh-behind x s k signals other another fresh = rw (ne_eqb x s other, ne_eqb x k another) fresh

-- After the first cell the rest have it too.
ready-rest :
    {a b s k before n : ℕ} {signals : List ℕ}
    → Ready a b s k before (suc n) signals
    → Ready (suc a) (suc b) (suc s) (suc k) k n (s ∷ k ∷ signals)
ready-rest {s = s} {k = k} {signals = signals} r =
    record {
      a_held = λ x low high. held-behind x s k signals (r.a_held x (omega arith) (omega arith));
      b_held = λ x low high. held-behind x s k signals (r.b_held x (omega arith) (omega arith));
      before_held = member-cons k s (k ∷ signals) (λ other. member-cons k k signals (λ another. absurd (another refl)));
      sums_fresh = λ x low high.
          fresh-behind x s k signals (omega arith) (omega arith) (r.sums_fresh x (omega arith) (omega arith));
      carries_fresh = λ x low high.
          fresh-behind x s k signals (omega arith) (omega arith) (r.carries_fresh x (omega arith) (omega arith));
      order = omega arith;
    }

cells-accepted :
    (place a b s k before n : ℕ) (signals : List ℕ)
    → Ready a b s k before n signals
    → body_verdict place (adder_cells a b s k before n) signals tail ≡ good
unfolding body_verdict occurrence_verdict adder_cells duplicates disjoint subset arity_okp assoc member
cells-accepted place a b s k before zero signals r = refl
cells-accepted place a b s k before (suc n) signals r =
    rw (
      ne_eqb s k (omega arith),
      r.sums_fresh s (omega arith) (omega arith),
      r.carries_fresh k (omega arith) (omega arith),
      r.a_held a (omega arith) (omega arith),
      r.b_held b (omega arith) (omega arith),
      r.before_held,
    )
    (cells-accepted place (suc a) (suc b) (suc s) (suc k) k n (s ∷ k ∷ signals) (ready-rest r))

-- The nets that some cells drive: their sums and their carries.
data Drives (s k n x : ℕ) : Type 0 where
  sum : s ≤ x → x < s + n → Drives s k n x
  carry : k ≤ x → x < k + n → Drives s k n x

drives-rest : (s k n x : ℕ) → Drives s k (suc n) x → (x ≡ s → ⊥) → (x ≡ k → ⊥) → Drives (suc s) (suc k) n x
drives-rest s k n x (sum low high) other another = sum (omega arith) (omega arith)
drives-rest s k n x (carry low high) other another = carry (omega arith) (omega arith)

drives-none : (s k x : ℕ) → Drives s k 0 x → ⊥
drives-none s k x (sum low high) = omega arith
drives-none s k x (carry low high) = omega arith

cells_drive : (a b s k before n x : ℕ) → Drives s k n x → member x (driven (adder_cells a b s k before n)) ≡ true
unfolding driven adder_cells
cells_drive a b s k before zero x h = absurd (drives-none s k x h)
cells_drive a b s k before (suc n) x h =
    let rest = driven (adder_cells (suc a) (suc b) (suc s) (suc k) k n) in
    member-cons x s (k ∷ rest) (λ other. member-cons x k rest (λ another.
    cells_drive (suc a) (suc b) (suc s) (suc k) k n x (drives-rest s k n x h other another)))

module _ (n : ℕ) (some : 1 ≤ n) where
  inputs-ready : Ready 1 (n + 1) (2 * n + 1) (3 * n + 1) 0 n (up_from 0 (2 * n + 1))
  inputs-ready =
      record {
        a_held = λ x low high. member-of-run x 0 (2 * n + 1) (omega arith) (omega arith);
        b_held = λ x low high. member-of-run x 0 (2 * n + 1) (omega arith) (omega arith);
        before_held = member-of-run 0 0 (2 * n + 1) (omega arith) (omega arith);
        sums_fresh = λ x low high. not_of-run x 0 (2 * n + 1) (λ y least most. omega arith);
        carries_fresh = λ x low high. not_of-run x 0 (2 * n + 1) (λ y least most. omega arith);
        order = omega arith;
      }

  abbrev outputs : List ℕ
  outputs = up_from (2 * n + 1) n ++ ((4 * n) ∷ [])

  outputs-distinct : duplicates outputs ≡ false
  unfolding duplicates member
  outputs-distinct = duplicates-after-run (2 * n + 1) n ((4 * n) ∷ []) (λ y low high. rw (ne_eqb y (4 * n) (omega arith)))

  inputs_apart : disjoint (up_from 0 (2 * n + 1)) outputs ≡ true
  unfolding member
  inputs_apart =
      disjoint-run 0 (2 * n + 1) outputs (λ y low high.
      rw (
        member-append y (up_from (2 * n + 1) n) ((4 * n) ∷ []),
        not_of-run y (2 * n + 1) n (λ x least most. omega arith),
        ne_eqb y (4 * n) (omega arith),
      ))

  outputs-driven : subset outputs (driven (adder_cells 1 (n + 1) (2 * n + 1) (3 * n + 1) 0 n)) ≡ true
  unfolding subset
  outputs-driven =
      let nets = driven (adder_cells 1 (n + 1) (2 * n + 1) (3 * n + 1) 0 n) in
      let drives = cells_drive 1 (n + 1) (2 * n + 1) (3 * n + 1) 0 n in
      rw (
        subset-after-run (2 * n + 1) n ((4 * n) ∷ []) nets (λ y low high. drives y (sum low high)),
        drives (4 * n) (carry (omega arith) (omega arith)),
      )

  module _ (most : n ≤ 64) where
    first-accepted : module_verdict 0 (ripple_adder n) tail ≡ good
    unfolding module_verdict ripple_adder assoc
    first-accepted =
        rw (
          duplicates-of-run 0 (2 * n + 1),
          outputs-distinct,
          inputs_apart,
          cells-accepted 0 1 (n + 1) (2 * n + 1) (3 * n + 1) 0 n (up_from 0 (2 * n + 1)) inputs-ready,
          outputs-driven,
          le-leb (net_count (ripple_adder n)) 4096 (omega (arith, adder-nets n)),
        )

    -- The check accepts the written adder of each width from 1 to 64.
    pub adder-accepted : file_verdict (adder n) ≡ good
    unfolding file_verdict modules_verdict sizes_verdict expanded_size adder ripple_adder
    adder-accepted =
        rw (
          first-accepted,
          tail-accepted,
          tail-small,
          le-leb (expanded_size (adder n) 18) 65535 (omega (arith, adder-size n)),
        )
