-- Where the check of a file's modules begins, behind the last one, and where it ends, with no module left.
use Prim.Native.Nat.{ℕ, ◌-◌, ◌*◌, ◌≤◌}
use mathlib.Core.Path.{◌≡◌, refl, sym, ap, subst, subst₂, ◌∙◌}
use mathlib.Core.List.{List, [], ◌∷◌, append-nil}
use native.Mathlib.Omega.{arith}
use borrow.Author.Tests.{le-ltb}
use lib.ListN.{length, drop_of_length-le}
use Rattle.meaning.specs.Syntax.{Module}
use Rattle.meaning.specs.Layout.{each, module_numbers, file_numbers}
use Rattle.meaning.specs.Verdict.{file_verdict}
use Rattle.nets.specs.Bounds.{below_more}
use Rattle.image.specs.Resolved.{resolve}
use Rattle.image.specs.ResolvedLayout.{length-of-resolve}
use Rattle.image.specs.Fitting.{good-fits}
use Rattle.check_sizes.specs.Behind.{inside}
use Rattle.check_sizes.specs.Measuring.{tabled-none}
use Rattle.std.specs.Prelude.{Ok, Err}
use Rattle.check_steps.specs.Found.{Found, EachReady, broken, over}
use Rattle.check_steps.specs.Going.{front, Done, Going, FileWalk, end_before, base_of}
use Rattle.check_steps.specs.FileParts.{front-taken, length-of-front, modules-few}
use Rattle.check_files.specs.Files.{FoundIs, EachFound}

-- Behind the last module nothing is left to do.
done_none : (ms : List Module) (k : ℕ) (nets sizes rooms : List ℕ) → length ms ≤ k → Done ms k [] nets sizes rooms
unfolding each
done_none ms k nets sizes rooms h =
    record {
      image = ap (each module_numbers) (sym (drop_of_length-le (resolve ms) {i = k} (omega (arith, length-of-resolve ms))));
      counted = λ j m later from e. absurd (omega (arith, inside ms j e));
      tabled = λ fits. tabled-none k ms sizes rooms h;
    }

-- All modules are done.
going-ends : {ms : List Module} {end : ℕ} (found : Found) {numbers nets sizes rooms : List ℕ} → Going ms 0 end found numbers nets sizes rooms
    → FoundIs found ms numbers nets sizes rooms
unfolding file_verdict file_numbers front each
going-ends {ms} (Ok tt) g =
    let d = g.done refl in
    let fits = good-fits 0 ms g.judged.0 in
    record {
      accepted = rw g.judged.0 (g.judged.1 fits);
      image =
          g.numbers_are
          ∙ ap (λ (l : List ℕ). length ms ∷ l) d.image
          ∙ ap (λ (n : ℕ). n ∷ each module_numbers (resolve ms)) (sym (length-of-resolve ms));
      counted = record { count = λ k m later e. d.counted k m later (omega arith) e };
      tabled = d.tabled fits;
    }
going-ends {ms} (Err r) g =
    elim g.judged [
      | broken low b ↦ rw b
      | over is good size ↦ rw (good, is) (size (good-fits 0 ms good))
    ]

module _ {numbers₀ starts : List ℕ} {modules : ℕ} {found₀ : Found} {first inputs outputs slots₀ nets₀ sizes₀ rooms₀ : List ℕ}
    (ready : EachReady numbers₀ starts modules found₀ first inputs outputs slots₀ nets₀ sizes₀ rooms₀)
  where
    walk_begins :
        FileWalk numbers₀ starts modules found₀ first inputs outputs slots₀ nets₀ sizes₀ rooms₀ numbers₀ slots₀ nets₀ sizes₀ rooms₀ found₀
        (length numbers₀) 65536 modules
    walk_begins =
        record {
          bounded =
              record {
                inside = omega arith;
                numbers_kept = refl;
                slots_kept = refl;
                nets_kept = refl;
                sizes_kept = refl;
                rooms_kept = refl;
                based = omega arith;
                earlier = ready.low_slots;
                small = ready.figured.small;
                low = below_more (65536 * (129 - modules)) (omega (arith, modules-few ready)) ready.low_rooms;
              };
          going = λ e.
              let are : numbers₀ ≡ front e.ms modules = e.front ∙ front-taken e.ms modules in
              record {
                tail = [];
                reached = ap length are ∙ length-of-front e.ms modules;
                numbers_are = are ∙ sym (append-nil (front e.ms modules));
                judged = e.behind.judged;
                done = λ fine. done_none e.ms modules nets₀ sizes₀ rooms₀ (omega (arith, e.behind.none fine));
              };
        }

-- Behind the last module nothing is done yet.
pub walk_none :
    {numbers starts : List ℕ} {modules k : ℕ} {found : Found} {first inputs outputs slots nets sizes rooms : List ℕ}
    → EachReady numbers starts modules found first inputs outputs slots nets sizes rooms → k ≤ modules → modules ≤ k
    → FileWalk numbers starts modules found first inputs outputs slots nets sizes rooms numbers slots nets sizes rooms found
    (end_before starts numbers modules k) (base_of modules k) k
walk_none {numbers} {starts} {modules} {k} {found} {first} {inputs} {outputs} {slots} {nets} {sizes} {rooms} ready inside end =
    rw (le-ltb k modules end)
    (subst₂
    (λ (s j : ℕ). FileWalk numbers starts modules found first inputs outputs slots nets sizes rooms numbers slots nets sizes rooms found (length numbers) s j)
    (omega arith)
    (omega arith)
    (walk_begins ready))

-- No module is left.
pub walk_ends :
    {numbers₀ starts : List ℕ} {modules : ℕ} {found₀ : Found} {first inputs outputs slots₀ nets₀ sizes₀ rooms₀ : List ℕ}
    {numbers slots nets sizes rooms : List ℕ} {found : Found} {end base k : ℕ}
    → FileWalk numbers₀ starts modules found₀ first inputs outputs slots₀ nets₀ sizes₀ rooms₀ numbers slots nets sizes rooms found end base k
    → k ≤ 0
    → EachFound numbers₀ starts modules found₀ first inputs outputs slots₀ nets₀ sizes₀ rooms₀ numbers nets sizes rooms found
walk_ends {numbers = numbers} {nets = nets} {sizes = sizes} {rooms = rooms} {found = found} {end = end} {k = k} w h =
    let none : k ≡ 0 = omega (arith, h) in
    record { finds = λ e. going-ends found (subst (λ (i : ℕ). Going e.ms i end found numbers nets sizes rooms) none (w.going e)) }
