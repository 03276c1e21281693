-- The propagate-generate adder is within the ceilings, so reading its bytes gives it back, and the check accepts them.
use Prim.Native.Nat.{ℕ, zero, suc, ◌+◌, ◌*◌, ◌≤◌}
use Rattle.std.specs.Prelude.{◌≡◌, refl}
use Rattle.std.proofs.Common.{ap, ◌∙◌}
use mathlib.Core.List.{List, [], ◌∷◌, ◌++◌}
use native.Mathlib.Omega.{arith}
use Rattle.std.proofs.Math.Dec.{lit≤}
use Rattle.std.proofs.Math.ListN.{length-append}
use Rattle.meaning.specs.Lists.{All, none, more}
use Rattle.meaning.specs.Layout.{each, number_bytes, occurrence_numbers, module_numbers, file_numbers, encode}
use Rattle.meaning.specs.Reading.{most_nets, holds, read}
use Rattle.meaning.specs.Ceilings.{Small, most_number, NetsWithin, OccurrenceWithin, ModuleWithin, Within}
use Rattle.meaning.specs.Verdict.{good, verdict, verdict_of}
use Rattle.meaning.specs.Adder.{up_from}
use Rattle.meaning.specs.FastAdder.{Tree, leaf, node, leaves, Step, over_one, over_two, p_net, g_net, gate_row, behind_one, behind_two, passes, makes, ahead, chain, lookahead, fast_module, fast_adder_over, steps, fast_adder}
use Rattle.laws.specs.RoundTrip.{round_trip}
use Rattle.laws.specs.Adder.Nets.{length-up_from}
use Rattle.laws.specs.WithinTests.{small_number, few_nets, small_occurrence, small_module, small_file, file-within}
use Rattle.laws.specs.FastAdder.Signals.{width}
use Rattle.laws.specs.FastAdder.Passing.{carriers}
use Rattle.laws.specs.FastAdder.Accepted.{fast_adder-accepted}
use Rattle.laws.specs.FastAdder.Shape.{steps-width}
use Rattle.laws.specs.FastAdder.Figures.{chain_length, fast_length}
use Rattle.laws.specs.FastAdder.Numbers.{fast_adder-bytes}

pub all_both : {A : Type 0} {P : A → Type 0} {xs ys : List A} → All P xs → All P ys → All P (xs ++ ys)
all_both none rest = rest
all_both (more p ps) rest = more p (all_both ps rest)

-- An occurrence that drives one net.
pub single :
    (net refers : ℕ) (takes : List ℕ) → Small net → Small refers → NetsWithin takes
    → OccurrenceWithin (record { drives = net ∷ []; refers = refers; takes = takes })
single net refers takes low small nets =
    record { drives = record { count = lit≤ tt; numbers = more low none }; refers = small; takes = nets }

pub small-run : (first n : ℕ) → first + n ≤ suc most_number → All Small (up_from first n)
unfolding up_from
small-run first zero low = none
small-run first (suc n) low = more {x = first} (omega arith) (small-run (suc first) n (omega arith))

module _ (n : ℕ) (most : n ≤ 64) where
  -- Every net of the look-ahead is small.
  small-p : (t : Tree) (s : ℕ) → s + leaves t ≤ n → Small (p_net n t s)
  unfolding p_net leaves
  small-p leaf s low = omega arith
  small-p (node x y z) s low = omega arith

  small-g : (t : Tree) (s : ℕ) → s + leaves t ≤ n → Small (g_net n t s)
  unfolding p_net leaves
  small-g leaf s low = omega arith
  small-g (node x y z) s low = omega arith

  one-within : (x : Tree) (s : ℕ) → s + leaves x ≤ n → OccurrenceWithin (behind_one n x s)
  one-within x s low =
      single (s + leaves x) 42 _ (omega arith) (lit≤ tt)
      (record { count = lit≤ tt; numbers = more {x = s} (omega arith) (more (small-p x s low) (more (small-g x s low) none)) })

  two-within : (x y : Tree) (s : ℕ) → s + leaves x + leaves y ≤ n → OccurrenceWithin (behind_two n x y s)
  two-within x y s low =
      single (s + leaves x + leaves y) 43 _ (omega arith) (lit≤ tt)
      (record {
        count = lit≤ tt;
        numbers =
            more {x = s} (omega arith)
            (more (small-p x s (omega arith))
            (more (small-g x s (omega arith))
            (more (small-p y (s + leaves x) low) (more (small-g y (s + leaves x) low) none))));
      })

  module _ (x y z : Tree) (s : ℕ) (low : s + leaves x + leaves y + leaves z ≤ n) where
    abbrev sy : ℕ
    sy = s + leaves x

    abbrev sz : ℕ
    sz = sy + leaves y

    passes-within : OccurrenceWithin (passes n x y z s)
    unfolding leaves
    passes-within =
        single (p_net n (node x y z) s) 11 _ (small-p (node x y z) s (omega arith)) (lit≤ tt)
        (record {
          count = lit≤ tt;
          numbers = more (small-p x s (omega arith)) (more (small-p y sy (omega arith)) (more (small-p z sz low) none));
        })

    makes-within : OccurrenceWithin (makes n x y z s)
    unfolding leaves
    makes-within =
        single (g_net n (node x y z) s) 43 _ (small-g (node x y z) s (omega arith)) (lit≤ tt)
        (record {
          count = lit≤ tt;
          numbers =
              more (small-g x s (omega arith))
              (more (small-p y sy (omega arith))
              (more (small-g y sy (omega arith)) (more (small-p z sz low) (more (small-g z sz low) none))));
        })

  ahead_within : (t : Tree) (s : ℕ) → s + leaves t ≤ n → All OccurrenceWithin (ahead n t s)
  unfolding ahead leaves
  ahead_within leaf s low = none
  ahead_within (node x y z) s low =
      let sy = s + leaves x in
      let sz = sy + leaves y in
      all_both (ahead_within x s (omega arith))
      (more (one-within x s (omega arith))
      (all_both (ahead_within y sy (omega arith))
      (more (two-within x y s (omega arith))
      (all_both (ahead_within z sz (omega arith))
      (more (passes-within x y z s (omega arith)) (more (makes-within x y z s (omega arith)) none))))))

  chain-within : (steps : List Step) (s : ℕ) → s + width steps ≤ n → All OccurrenceWithin (chain n steps s)
  unfolding chain width
  chain-within [] s low = none
  chain-within (over_one x ∷ steps) s low =
      all_both (ahead_within x s (omega arith))
      (more (one-within x s (omega arith)) (chain-within steps (s + leaves x) (omega arith)))
  chain-within (over_two x y ∷ steps) s low =
      all_both (ahead_within x s (omega arith))
      (more (one-within x s (omega arith))
      (all_both (ahead_within y (s + leaves x) (omega arith))
      (more (two-within x y s (omega arith)) (chain-within steps (s + leaves x + leaves y) (omega arith)))))

  pub row_within :
      (kind net a b count : ℕ) → Small kind → net + count ≤ suc most_number → a + count ≤ suc most_number → b + count ≤ suc most_number
      → All OccurrenceWithin (gate_row kind net a b count)
  unfolding gate_row
  row_within kind net a b zero small on-net on-a on-b = none
  row_within kind net a b (suc count) small on-net on-a on-b =
      more
      (single net kind (a ∷ b ∷ []) (omega arith) small
      (record { count = lit≤ tt; numbers = more {x = a} (omega arith) (more {x = b} (omega arith) none) }))
      (row_within kind (suc net) (suc a) (suc b) count small (omega arith) (omega arith) (omega arith))

  -- A row, and the carry in and two rows.
  pub run-within : (first count : ℕ) → count ≤ most_nets → first + count ≤ suc most_number → NetsWithin (up_from first count)
  run-within first count few low =
      record { count = omega (arith, length-up_from first count); numbers = small-run first count low }

  pub wide-within : (carry first : ℕ) → Small carry → first + 2 * n ≤ suc most_number → NetsWithin (carry ∷ up_from first (2 * n))
  wide-within carry first small low =
      record { count = omega (arith, length-up_from first (2 * n)); numbers = more small (small-run first (2 * n) low) }

  module _ (steps : List Step) (whole : width steps ≡ n) where
    pub lookahead-within : ModuleWithin (lookahead n steps)
    unfolding lookahead
    lookahead-within =
        record {
          number = lit≤ tt;
          inputs = wide-within 0 (n + 1) (lit≤ tt) (omega arith);
          outputs = run-within 1 n (omega arith) (omega arith);
          count = omega (arith, chain_length n steps whole);
          occurrences = chain-within steps 0 (omega arith);
        }

    first-within : ModuleWithin (fast_module n)
    unfolding fast_module
    first-within =
        record {
          number = lit≤ tt;
          inputs = wide-within 0 (n + 1) (lit≤ tt) (omega arith);
          outputs =
              record {
                count = omega (arith, length-append (up_from (5 * n + 1) n) (n ∷ []), length-up_from (5 * n + 1) n);
                numbers = all_both (small-run (5 * n + 1) n (omega arith)) (more {x = n} (omega arith) none);
              };
          count = omega (arith, fast_length n steps whole);
          occurrences =
              all_both (row_within 9 (3 * n + 1) (n + 1) (2 * n + 1) n (lit≤ tt) (omega arith) (omega arith) (omega arith))
              (all_both (row_within 10 (4 * n + 1) (n + 1) (2 * n + 1) n (lit≤ tt) (omega arith) (omega arith) (omega arith))
              (more (record { drives = run-within 1 n (omega arith) (omega arith); refers = lit≤ tt; takes = wide-within 0 (3 * n + 1) (lit≤ tt) (omega arith) })
              (row_within 9 (5 * n + 1) (3 * n + 1) 0 n (lit≤ tt) (omega arith) (omega arith) (omega arith))));
        }

pub carriers-within : All ModuleWithin carriers
unfolding
    small_file small_module small_occurrence few_nets small_number encode file_numbers module_numbers occurrence_numbers each number_bytes
carriers-within = (file-within carriers refl).modules.modules

pub fast_adder-within : (n : ℕ) → n ≤ 64 → Within (fast_adder n)
unfolding fast_adder fast_adder_over
fast_adder-within n most =
    let whole = steps-width n in
    record {
      modules =
          record {
            count = lit≤ tt;
            modules = more (first-within n most (steps n) whole) (more (lookahead-within n most (steps n) whole) carriers-within);
          };
      bytes = omega (arith, fast_adder-bytes n);
    }

pub fast_adder-read-back : (n : ℕ) → n ≤ 64 → read (encode (fast_adder n)) ≡ holds (fast_adder n)
fast_adder-read-back n most = round_trip (fast_adder n) (fast_adder-within n most)

-- The check accepts the written file of each width from 1 to 64.
pub fast_adder-file-accepted : (n : ℕ) → 1 ≤ n → n ≤ 64 → verdict (encode (fast_adder n)) ≡ good
unfolding verdict
fast_adder-file-accepted n least most = ap verdict_of (fast_adder-read-back n most) ∙ fast_adder-accepted n least most
