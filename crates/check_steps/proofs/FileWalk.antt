-- The check of a file's modules, from the last to the first: what holds before each turn, for every file that the numbers can be.
use Prim.Native.Nat.{ℕ, ◌+◌, ◌-◌, ◌≤◌, ◌<◌}
use mathlib.Core.Path.{◌≡◌, sym, ap, subst, ◌∙◌}
use mathlib.Core.List.{List}
use native.Mathlib.Omega.{arith}
use lib.ListN.{length, get_or, take, drop}
use Rattle.meaning.specs.Layout.{file_numbers, module_numbers}
use Rattle.nets.specs.Slots.{Below}
use Rattle.nets.specs.Bounds.{below-part}
use Rattle.image.specs.Stands.{stands-part}
use Rattle.image.specs.ResolvedLayout.{start_of, stands-at-start}
use Rattle.check_sizes.specs.Behind.{Here, here}
use Rattle.check_lists.specs.Scene.{Scene}
use Rattle.check_modules.specs.Modules.{ModuleReady}
use Rattle.check_steps.specs.Found.{Found, EachReady}
use Rattle.check_lists.specs.Later.{repeat_inside}
use Rattle.check_steps.specs.FileParts.{part-inside, own-part, modules-few}
use Rattle.check_steps.specs.Going.{Going, FileWalk}

module _ {numbers₀ starts : List ℕ} {modules : ℕ} {found₀ : Found} {first inputs outputs slots₀ nets₀ sizes₀ rooms₀ : List ℕ}
    (ready : EachReady numbers₀ starts modules found₀ first inputs outputs slots₀ nets₀ sizes₀ rooms₀)
  where
    module _
        {numbers slots nets sizes rooms : List ℕ} {found : Found} {end base k : ℕ}
        (w : FileWalk numbers₀ starts modules found₀ first inputs outputs slots₀ nets₀ sizes₀ rooms₀ numbers slots nets sizes rooms found end base k)
        (j : ℕ) (next : j + 1 ≡ k) where
      abbrev Ready : Type 0
      Ready = EachReady numbers₀ starts modules found₀ first inputs outputs slots₀ nets₀ sizes₀ rooms₀

      -- The module whose turn it is.
      pub there : (e : Ready) → Here e.ms j
      there e = here e.ms j (omega (arith, w.bounded.inside, e.unrepeated, repeat_inside e.ms))

      abbrev pub scene : Ready → Scene first inputs outputs j
      scene e =
          record {
            ms = e.ms;
            m = (there e).m;
            later = (there e).later;
            here = (there e).at;
            numbered = e.numbered;
            ported = e.ported;
            unrepeated = omega (arith, w.bounded.inside, e.unrepeated);
            few = e.few;
          }

      pub listed : j < length starts
      listed = omega (arith, w.bounded.inside, ready.listed)

      pub left : j < modules
      left = omega (arith, w.bounded.inside)

      abbrev pub start : ℕ
      start = get_or starts j 0

      abbrev pub part : List ℕ
      part = take (end - start) (drop start numbers)

      pub going-there : (e : Ready) → Going e.ms (j + 1) end found numbers nets sizes rooms
      going-there e = subst (λ (i : ℕ). Going e.ms i end found numbers nets sizes rooms) (sym next) (w.going e)

      pub part-is : (e : Ready) → part ≡ module_numbers (there e).m
      part-is e = own-part e.ms j (there e).at (going-there e).tail (going-there e).numbers_are (e.starts_are j left) (going-there e).reached

      pub start-low : start ≤ 65535
      start-low = omega (arith, ready.starts_are j left, (stands-at-start ready.ms j (there ready).at).within, ready.short)

      pub part-bounds : (start ≤ end) × (end ≤ length numbers)
      part-bounds =
          let g = going-there ready in
          part-inside ready.ms j (there ready).at g.tail g.numbers_are (ready.starts_are j left) g.reached

      part-of-file : part ≡ take (length (module_numbers (there ready).m)) (drop (start_of ready.ms j) (file_numbers ready.ms))
      part-of-file = part-is ready ∙ sym (stands-part (stands-at-start ready.ms j (there ready).at))

      below-own : (bound : ℕ) → Below bound (file_numbers ready.ms) → Below bound part
      below-own bound low =
          subst (Below bound) (sym part-of-file) (below-part (start_of ready.ms j) (length (module_numbers (there ready).m)) low)

      pub module_ready : ModuleReady part j first inputs outputs slots base sizes rooms
      module_ready =
          let b = w.bounded in
          let few = modules-few ready in
          record {
            scene = scene ready;
            own = part-is ready;
            indexes =
                record {
                  in_first = below-own (length first) ready.indexes.in_first;
                  in_slots = subst (λ (n : ℕ). Below n part) (sym b.slots_kept) (below-own (length slots₀) ready.indexes.in_slots);
                };
            figured =
                record {
                  sizes_long = omega (arith, b.sizes_kept, ready.figured.sizes_long);
                  rooms_long = omega (arith, b.rooms_kept, ready.figured.rooms_long);
                  small = b.small;
                };
            earlier = b.earlier;
            short =
                omega (
                  arith,
                  ready.short,
                  (stands-at-start ready.ms j (there ready).at).within,
                  ap length (part-is ready),
                );
            based = omega (arith, b.based, few);
          }
