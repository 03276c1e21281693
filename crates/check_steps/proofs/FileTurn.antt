-- The turn of the module at position k, where the check has come to the position behind it: what its check asks, and how far the check of
-- the file has come then.
use Prim.Native.Nat.{ℕ, ◌+◌, ◌-◌, ◌*◌, ◌<◌, ◌≤◌}
use mathlib.Core.Path.{◌≡◌, refl, sym, subst₂}
use mathlib.Core.Bool.{Bool, true, false}
use mathlib.Core.List.{List, ◌++◌}
use native.Mathlib.Omega.{arith}
use borrow.Author.Tests.{lt-ltb}
use lib.ListN.{length, get_or, take, drop, set}
use Rattle.check_sizes.specs.Kept.{Keepable, Kept}
use Rattle.check_modules.specs.Modules.{ModuleReady, ModuleChecked}
use Rattle.std.specs.Prelude.{Result, Ok, Err}
use Rattle.refusals.specs.Refused.{refusal_at}
use Rattle.check_steps.specs.Found.{Found, over_of}
use Rattle.check_steps.specs.Going.{FileWalk, Reached, Gone, end_before}
use Rattle.check_modules.specs.declared.modules.Measured.{Measured}
use Rattle.check_steps.specs.FileParts.{modules-few}
use Rattle.check_steps.proofs.FileWalk.{module_ready, start-low, part-bounds}
use Rattle.check_steps.proofs.FileSteps.{walk-broken, keepable, walk_kept, walk-over}

module _
    {numbers starts : List ℕ} {modules k : ℕ} {found : Found} {first inputs outputs slots nets sizes rooms : List ℕ}
    (b : Reached numbers starts modules k found first inputs outputs slots nets sizes rooms)
    {end : ℕ} (ends : end ≡ end_before starts numbers modules (k + 1)) where
  abbrev base : ℕ
  base = 65536 * (modules - k)

  abbrev start : ℕ
  start = get_or starts k 0

  abbrev part : List ℕ
  part = take (end - start) (drop start numbers)

  walk :
      FileWalk b.numbers₀ starts modules b.found₀ first inputs outputs b.slots₀ b.nets₀ b.sizes₀ b.rooms₀
      numbers slots nets sizes rooms found end base (k + 1)
  walk =
      subst₂
      (λ (e s : ℕ).
      FileWalk b.numbers₀ starts modules b.found₀ first inputs outputs b.slots₀ b.nets₀ b.sizes₀ b.rooms₀
      numbers slots nets sizes rooms found e s (k + 1))
      (sym ends)
      (omega (arith, b.inside))
      b.walk

  pub few : (k < modules) × (modules ≤ 128)
  few = (b.inside, modules-few b.ready)

  pub start-below : start ≤ 65535
  start-below = start-low b.ready walk k refl

  pub bounds : (start ≤ end) × (end ≤ length numbers)
  bounds = part-bounds b.ready walk k refl

  pub ready : ModuleReady part k first inputs outputs slots base sizes rooms
  ready = module_ready b.ready walk k refl

  pub nets-long : k < length nets
  nets-long = omega (arith, b.inside, b.ready.nets_long, b.walk.bounded.nets_kept)

  module _
      {piece slots' : List ℕ} {r : Result Measured ℕ} (c : ModuleChecked part k first inputs outputs base sizes rooms piece slots' r)
      (piece_kept : length piece ≡ length part) (slots_kept : length slots' ≡ length slots) where
    abbrev numbers' : List ℕ
    numbers' = take start numbers ++ (piece ++ drop (end - start) (drop start numbers))

    -- The modules in front of it end where it starts.
    gone :
        {nets' sizes' rooms' : List ℕ} {found' : Found}
        → FileWalk b.numbers₀ starts modules b.found₀ first inputs outputs b.slots₀ b.nets₀ b.sizes₀ b.rooms₀
        numbers' slots' nets' sizes' rooms' found' start (base + 65536) k
        → Gone b numbers' slots' nets' sizes' rooms' found'
    gone {nets'} {sizes'} {rooms'} {found'} =
        subst₂
        (λ (e s : ℕ).
        FileWalk b.numbers₀ starts modules b.found₀ first inputs outputs b.slots₀ b.nets₀ b.sizes₀ b.rooms₀
        numbers' slots' nets' sizes' rooms' found' e s k)
        (sym (rw (lt-ltb k modules b.inside)))
        (omega (arith, b.inside))

    pub gone-broken : (rule : ℕ) → r ≡ Err rule → Gone b numbers' slots' nets sizes rooms (Err (refusal_at rule k))
    gone-broken rule same = gone (walk-broken b.ready walk k refl c piece_kept slots_kept rule same)

    module _ (measured : Measured) (same : r ≡ Ok measured) where
      pub may_keep : Keepable measured.nets measured.sums k sizes rooms
      may_keep = keepable b.ready walk k refl c piece_kept slots_kept measured same

      module _ {sizes' rooms' : List ℕ} {within : Bool} (kept : Kept measured.nets measured.sums k sizes rooms sizes' rooms' within) where
        pub gone-kept : within ≡ true → Gone b numbers' slots' (set nets k measured.nets) sizes' rooms' found
        gone-kept low = gone (walk_kept b.ready walk k refl c piece_kept slots_kept measured same kept low)

        pub gone-over : within ≡ false → Gone b numbers' slots' (set nets k measured.nets) sizes' rooms' (over_of found k)
        gone-over high = gone (walk-over b.ready walk k refl c piece_kept slots_kept measured same kept high)
