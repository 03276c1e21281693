-- Which number stands at a place, by the bytes that stand there.
use Prim.Native.Nat.{ℕ, suc, ◌+◌, ◌*◌, ◌-◌, ◌≤◌, ◌<◌}
use mathlib.Core.Path.{◌≡◌, ◌∙◌}
use mathlib.Core.Bool.{cond, ◌||◌}
use mathlib.Core.List.{List, [], ◌∷◌}
use native.Mathlib.Numerals.{add-one, add-two}
use native.Mathlib.Omega.{arith}
use borrow.Author.Tests.{lt-ltb, le-ltb, le-leb, lt-leb, eq-eqb, ne_eqb}
use lib.Dec.{leb, eqb}
use lib.ListN.{length, drop, get_or, drop_of_length-le}
use lib.Seq.{drop-cons}
use Rattle.meaning.specs.Reading.{got, refused, read_number, second_group}

module _ (bytes : List ℕ) (at : ℕ) where
  -- The byte at the place, and the one behind it.
  abbrev pub first : ℕ
  first = get_or bytes at 0

  abbrev pub second : ℕ
  second = get_or bytes (at + 1) 0

  pub no_byte : length bytes ≤ at → read_number at (drop at bytes) ≡ refused 2 at
  unfolding read_number
  no_byte h = rw (drop_of_length-le bytes h)

  pub one_byte : at < length bytes → first < 128 → read_number at (drop at bytes) ≡ got first (at + 1) (drop (at + 1) bytes)
  unfolding read_number
  one_byte h f = rw (drop-cons bytes at 0 h, lt-ltb first 128 f, add-one)

  pub cut_off : at < length bytes → 128 ≤ first → length bytes ≤ at + 1 → read_number at (drop at bytes) ≡ refused 2 (at + 1)
  unfolding read_number second_group
  cut_off h f e =
      let none : drop (suc at) bytes ≡ [] = let l : length bytes ≤ suc at = omega arith in drop_of_length-le bytes l in
      rw (drop-cons bytes at 0 h, le-ltb first 128 f, none, add-one)

  module _ (h : at + 1 < length bytes) (f : 128 ≤ first) where
    two_bytes : read_number at (drop at bytes)
        ≡ cond (eqb second 0 || leb 128 second) (refused 3 at) (got (first - 128 + 128 * second) (at + 2) (drop (at + 2) bytes))
    unfolding read_number second_group
    two_bytes =
        let here : at < length bytes = omega arith in
        let behind : drop (suc at) bytes ≡ second ∷ drop (suc (suc at)) bytes = rw add-one (drop-cons bytes (suc at) 0 (omega arith)) in
        rw (drop-cons bytes at 0 here, le-ltb first 128 f, behind, add-two)

    pub second-zero : second ≡ 0 → read_number at (drop at bytes) ≡ refused 3 at
    second-zero z = two_bytes ∙ rw (eq-eqb second 0 z)

    pub second-high : (second ≡ 0 → ⊥) → 128 ≤ second → read_number at (drop at bytes) ≡ refused 3 at
    second-high z l = two_bytes ∙ rw (ne_eqb second 0 z, le-leb 128 second l)

    pub second-good : (second ≡ 0 → ⊥) → second < 128
        → read_number at (drop at bytes) ≡ got (first - 128 + 128 * second) (at + 2) (drop (at + 2) bytes)
    second-good z l = two_bytes ∙ rw (ne_eqb second 0 z, lt-leb 128 second l)
