-- A list that has an entry for each number of the image has the room of every module: the file stands there whole, one module behind the
-- other.
use Prim.Native.Nat.{ℕ, ◌+◌, ◌-◌, ◌≤◌}
use mathlib.Core.Path.{◌≡◌, refl, sym, ap, ◌∙◌}
use mathlib.Core.List.{List, [], ◌∷◌, ◌++◌}
use native.Mathlib.Omega.{arith}
use lib.ListN.{length, take, drop, length-append, length-drop, take-append-drop}
use Rattle.meaning.specs.Syntax.{Module}
use Rattle.meaning.specs.Layout.{each, module_numbers}
use Rattle.laws.specs.Lists.{each_append}
use Rattle.laws.specs.RoomBound.{room-numbers}
use Rattle.image.specs.Resolved.{refer_to}
use Rattle.image.specs.Shapes.{length-of-resolved_module}
use Rattle.image.specs.ResolvedLayout.{start_of}
use Rattle.open_finding.specs.Standing.{Held, Standing}
use Rattle.open_finding.specs.declared.Site.{Site}

module _ {image starts nets : List ℕ} {ms : List Module} (h : Held image starts nets ms) where
  parts : (k : ℕ) → each module_numbers ms ≡ each module_numbers (take k ms) ++ each module_numbers (drop k ms)
  parts k = ap (each module_numbers) (sym (take-append-drop k ms)) ∙ each_append module_numbers (take k ms) (drop k ms)

  -- The last module ends in the image.
  behind-last : (k : ℕ) (l : List Module) → drop k ms ≡ l → length l ≡ 1 → length (each module_numbers ms) ≤ length image
  unfolding each start_of
  behind-last k [] e one = absurd (omega arith)
  behind-last k (m ∷ []) e one =
      omega (
        arith,
        (h.shelved.standing k e).within,
        h.starts_are k (omega (arith, ap length e, length-drop k ms)),
        length-of-resolved_module (refer_to ms) k m,
        ap length (parts k),
        length-append (each module_numbers (take k ms)) (each module_numbers (drop k ms)),
        ap (λ (l : List Module). length (each module_numbers l)) e,
        length-append (module_numbers m) [],
      )
  behind-last k (m ∷ other ∷ rest) e one = absurd (omega arith)

pub loads-roomy :
    {image starts nets : List ℕ} {site : Site} (loads : List ℕ) → Standing image starts nets site → length image ≤ length loads
    → site.room ≤ length loads
loads-roomy {site = site} loads s long =
    let last = length s.ms - 1 in
    omega (
      arith,
      s.room_is,
      room-numbers s.ms site.number,
      behind-last s.held last (drop last s.ms) refl
          (omega (arith, length-drop last s.ms, ap length s.found.here, length-drop site.position s.ms)),
    )
