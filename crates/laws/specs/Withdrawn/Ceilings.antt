-- A rewritten file that keeps the ceilings can be written and read.
use Rattle.std.specs.Prelude.{ℕ, zero, suc, ◌+◌, ◌≤◌, ◌≡◌, Bool, true, false, cond, List, [], ◌∷◌, ◌++◌, leb, length}
use Rattle.std.proofs.Common.{arith, leb-true}
use Rattle.std.proofs.lemmas.List.{length-map}
use Rattle.meaning.specs.Lists.{All, none, more}
use Rattle.meaning.specs.Syntax.{Occurrence, Module}
use Rattle.meaning.specs.Boxlist.{member}
use Rattle.meaning.specs.Reading.{most_occurrences, most_bytes}
use Rattle.meaning.specs.Ceilings.{Small, NetsWithin, OccurrenceWithin, ModuleWithin, Within}
use Rattle.meaning.specs.Layout.{encode}
use Rattle.meaning.specs.Adder.{up_from}
use Rattle.meaning.specs.Withdrawn.{pair_kind, two_kind, three_gates, rewrite_body, without, unused, mentioned, rewrite_module, rewrite_file, occurrences_ok}
use Rattle.laws.specs.Tests.{and_both}
use Rattle.laws.specs.WellFormed.{Accepted}
use Rattle.laws.specs.Withdrawn.Kinds.{Four, nand4, or4, and4, nor4, four_is}
use Rattle.laws.specs.Withdrawn.Suits.{on_four, Suits, over, kept, replaced}
use Rattle.laws.specs.Withdrawn.Enough.{module_suits}

-- The new nets are numbers of a file.
small-run : (first n : ℕ) → first + n ≤ 16384 → All Small (up_from first n)
unfolding up_from
small-run first zero h = none
small-run first (suc n) h = more {x = first} (omega arith) (small-run (suc first) n (omega arith))

small-without : (others : List ℕ) {xs : List ℕ} → All Small xs → All Small (without others xs)
unfolding without
small-without others none = none
small-without others (more {x = x} {xs = xs} small rest) = go (member x others) (small-without others rest)
  where
    go : (b : Bool) → All Small (without others xs) → All Small (cond b (without others xs) (x ∷ without others xs))
    go true h = h
    go false h = more small h

pub small-unused : (m : Module) → All Small (unused m)
unfolding unused
small-unused m = small-without (mentioned m) (small-run 0 16384 (omega arith))

pair_small : {kind : ℕ} → Four kind → Small (pair_kind kind) × Small (two_kind kind)
unfolding pair_kind two_kind
pair_small nand4 = (omega arith, omega arith)
pair_small or4 = (omega arith, omega arith)
pair_small and4 = (omega arith, omega arith)
pair_small nor4 = (omega arith, omega arith)

one-net : (x : ℕ) → Small x → NetsWithin (x ∷ [])
one-net x small = record { count = omega arith; numbers = more small none }

two-nets : (x y : ℕ) → Small x → Small y → NetsWithin (x ∷ y ∷ [])
two-nets x y small less = record { count = omega arith; numbers = more small (more less none) }

three-within :
    (x y : ℕ) (drives : List ℕ) (kind a b c d : ℕ) {os : List Occurrence}
    → Four kind
    → Small x
    → Small y
    → NetsWithin drives
    → All Small (a ∷ b ∷ c ∷ d ∷ [])
    → All OccurrenceWithin os
    → All OccurrenceWithin (three_gates x y (on_four drives kind a b c d) ++ os)
unfolding three_gates
three-within x y drives kind a b c d four small_x small_y within (more of_a (more of_b (more of_c (more of_d none)))) rest =
    more (record { drives = one-net x small_x; refers = (pair_small four).0; takes = two-nets a b of_a of_b })
    (more (record { drives = one-net y small_y; refers = (pair_small four).0; takes = two-nets c d of_c of_d })
    (more (record { drives = within; refers = (pair_small four).1; takes = two-nets x y small_x small_y })
    rest))

body-within :
    {used fresh : List ℕ} {os : List Occurrence}
    → Suits used fresh os
    → All Small fresh
    → All OccurrenceWithin os
    → All OccurrenceWithin (rewrite_body fresh os)
unfolding rewrite_body
body-within over small none = none
body-within (kept stays drives takes suits) small (more own within) = rw stays (more own (body-within suits small within))
body-within (replaced {x = x} {y = y} {drives = nets} {kind = kind} {a = a} {b = b} {c = c} {d = d} four drives takes suits)
    (more small_x (more small_y small)) (more own within) =
    rw (four_is four).gone
    (three-within x y nets kind a b c d four small_x small_y own.drives own.takes.numbers (body-within suits small within))

modules-within : {ms : List Module} → Accepted ms → All ModuleWithin ms → occurrences_ok (rewrite_file ms) ≡ true → All ModuleWithin (rewrite_file ms)
unfolding rewrite_file rewrite_module occurrences_ok
modules-within Accepted.none none few = none
modules-within (Accepted.some {m = m} ok rest) (more own within) few =
    let both = and_both (leb (length (rewrite_module m).occurrences) most_occurrences) _ few in
    more
    (record {
      number = own.number;
      inputs = own.inputs;
      outputs = own.outputs;
      count = leb-true _ most_occurrences both.0;
      occurrences = body-within (module_suits ok) (small-unused m) own.occurrences;
    })
    (modules-within rest within both.1)

pub within-after :
    {ms : List Module}
    → Accepted ms
    → Within ms
    → occurrences_ok (rewrite_file ms) ≡ true
    → length (encode (rewrite_file ms)) ≤ most_bytes
    → Within (rewrite_file ms)
unfolding rewrite_file
within-after {ms} accepted within few short =
    record {
      modules =
          record {
            count = rw (length-map ms rewrite_module) within.modules.count;
            modules = modules-within accepted within.modules.modules few;
          };
      bytes = short;
    }
