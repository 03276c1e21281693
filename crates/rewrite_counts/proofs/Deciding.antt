-- One module more decided: what the verdict on the modules from a position on is, by the module there.
use Prim.Native.Nat.{ℕ, zero, suc, ◌+◌, ◌*◌, ◌≤◌, ◌<◌}
use mathlib.Core.Path.{◌≡◌, refl}
use mathlib.Core.Bool.{Bool, true, false, cond, ◌||◌}
use mathlib.Core.List.{List, [], ◌∷◌}
use native.Mathlib.Omega.{arith}
use native.Mathlib.Nat.{add-zero, add-suc, suc-add}
use native.Mathlib.Numerals.{add-one}
use borrow.Author.Tests.{le-leb, lt-leb, eq-eqb}
use lib.ListN.{length, drop, drop_of_length-le}
use Rattle.meaning.specs.Syntax.{Occurrence, Module}
use Rattle.meaning.specs.Limits.{net_count, body_size, expanded_size, most_module_nets, most_size}
use Rattle.meaning.specs.Figures.{body_weight, gate_weight}
use Rattle.meaning.specs.Reading.{most_occurrences}
use Rattle.meaning.specs.Verdict.{good, refused, sizes_verdict}
use Rattle.meaning.specs.Withdrawn.{withdrawn, any_withdrawn, withdrawn_verdict, unused, rewrite_module, rewrite_file, occurrences_ok, nets_verdict}
use Rattle.laws.specs.Withdrawn.Suits.{fours}
use Rattle.laws.specs.Withdrawn.Counts.{four_weight, fours_reached, occurrences_grow, nets_grow, size-grows}
use Rattle.open_finding.specs.Here.{Here}

some-used : (os : List Occurrence) → 0 < fours os → any_withdrawn os ≡ true
unfolding fours any_withdrawn
some-used [] h = absurd (omega arith)
some-used (o ∷ os) h = go (withdrawn o.refers) h (some-used os)
  where
    go : (b : Bool) → 0 < cond b 1 0 + fours os → (0 < fours os → any_withdrawn os ≡ true) → (b || any_withdrawn os) ≡ true
    go true h rest = refl
    go false h rest = rest (omega arith)

none-used : (os : List Occurrence) → fours os ≡ 0 → any_withdrawn os ≡ false
unfolding fours any_withdrawn
none-used [] h = refl
none-used (o ∷ os) h = go (withdrawn o.refers) h (none-used os)
  where
    go : (b : Bool) → cond b 1 0 + fours os ≡ 0 → (fours os ≡ 0 → any_withdrawn os ≡ false) → (b || any_withdrawn os) ≡ false
    go true h rest = absurd (omega arith)
    go false h rest = rest (omega arith)

module _ {ms : List Module} {k : ℕ} (h : Here ms k) where
  pub user_here : 0 < fours h.m.occurrences → withdrawn_verdict k (drop k ms) ≡ refused 28 k
  unfolding withdrawn_verdict
  user_here some = rw (h.here, some-used h.m.occurrences some)

  pub no_user_here : fours h.m.occurrences ≡ 0 → withdrawn_verdict k (drop k ms) ≡ withdrawn_verdict (k + 1) (drop (k + 1) ms)
  unfolding withdrawn_verdict
  no_user_here none = rw (h.after, add-one k, h.here, none-used h.m.occurrences none)

  pub many-here : most_occurrences < length h.m.occurrences + 2 * fours h.m.occurrences → occurrences_ok (rewrite_file (drop k ms)) ≡ false
  unfolding occurrences_ok rewrite_file rewrite_module
  many-here many =
      rw (
        h.here,
        lt-leb (length (rewrite_module h.m).occurrences) most_occurrences (omega (arith, occurrences_grow (unused h.m) h.m.occurrences)),
      )

  pub few-here :
      length h.m.occurrences + 2 * fours h.m.occurrences ≤ most_occurrences
      → occurrences_ok (rewrite_file (drop k ms)) ≡ occurrences_ok (rewrite_file (drop (k + 1) ms))
  unfolding occurrences_ok rewrite_file rewrite_module
  few-here few =
      rw (
        h.after,
        h.here,
        le-leb (length (rewrite_module h.m).occurrences) most_occurrences (omega (arith, occurrences_grow (unused h.m) h.m.occurrences)),
      )

  pub crowded-here : most_module_nets < net_count h.m + 2 * fours h.m.occurrences → nets_verdict k (rewrite_file (drop k ms)) ≡ refused 16 k
  unfolding nets_verdict rewrite_file
  crowded-here many = rw (h.here, lt-leb (net_count (rewrite_module h.m)) most_module_nets (omega (arith, nets_grow h.m)))

  pub uncrowded_here :
      net_count h.m + 2 * fours h.m.occurrences ≤ most_module_nets
      → nets_verdict k (rewrite_file (drop k ms)) ≡ nets_verdict (k + 1) (rewrite_file (drop (k + 1) ms))
  unfolding nets_verdict rewrite_file
  uncrowded_here few =
      rw (h.after, add-one k, h.here, le-leb (net_count (rewrite_module h.m)) most_module_nets (omega (arith, nets_grow h.m)))

  -- Its size in the new file.
  new-size :
      body_size (expanded_size (rewrite_file h.later)) (rewrite_module h.m).occurrences
      ≡ body_size (expanded_size h.later) h.m.occurrences + 2 * body_weight four_weight (fours_reached h.later) h.m.occurrences
  unfolding expanded_size rewrite_file rewrite_module fours_reached gate_weight
  new-size = rw (eq-eqb h.m.number h.m.number refl) at (size-grows (h.m ∷ h.later) h.m.number)

  abbrev sum : ℕ
  sum = body_size (expanded_size h.later) h.m.occurrences + 2 * body_weight four_weight (fours_reached h.later) h.m.occurrences

  module _ (behind : sizes_verdict (k + 1) (rewrite_file (drop (k + 1) ms)) ≡ good) where
    pub large-here : most_size < sum → sizes_verdict k (rewrite_file (drop k ms)) ≡ refused 17 k
    unfolding sizes_verdict rewrite_file
    large-here large =
        rw (
          h.here,
          rw (h.after, add-one k) at behind,
          lt-leb (body_size (expanded_size (rewrite_file h.later)) (rewrite_module h.m).occurrences) most_size (omega (arith, new-size)),
        )

    pub small-here : sum ≤ most_size → sizes_verdict k (rewrite_file (drop k ms)) ≡ good
    unfolding sizes_verdict rewrite_file
    small-here small =
        rw (
          h.here,
          rw (h.after, add-one k) at behind,
          le-leb (body_size (expanded_size (rewrite_file h.later)) (rewrite_module h.m).occurrences) most_size (omega (arith, new-size)),
        )

-- A refusal of the modules from a position on is that of the whole.
pub large-whole :
    (place k : ℕ) (ms : List Module) {number at : ℕ} → sizes_verdict (place + k) (rewrite_file (drop k ms)) ≡ refused number at
    → sizes_verdict place (rewrite_file ms) ≡ refused number at
unfolding sizes_verdict rewrite_file
large-whole place zero ms e = rw (add-zero place) at e
large-whole place (suc k) [] e = e
large-whole place (suc k) (m ∷ ms) e = rw (large-whole (suc place) k ms (rw (add-suc place k, ← suc-add place k) at e))

-- Behind the last module all is decided.
module _ (ms : List Module) (k : ℕ) (end : length ms ≤ k) where
  pub no_user_left : withdrawn_verdict k (drop k ms) ≡ good
  unfolding withdrawn_verdict
  no_user_left = rw (drop_of_length-le ms end)

  pub few-left : occurrences_ok (rewrite_file (drop k ms)) ≡ true
  unfolding occurrences_ok rewrite_file
  few-left = rw (drop_of_length-le ms end)

  pub uncrowded_left : nets_verdict k (rewrite_file (drop k ms)) ≡ good
  unfolding nets_verdict rewrite_file
  uncrowded_left = rw (drop_of_length-le ms end)

  pub small-left : sizes_verdict k (rewrite_file (drop k ms)) ≡ good
  unfolding sizes_verdict rewrite_file
  small-left = rw (drop_of_length-le ms end)
