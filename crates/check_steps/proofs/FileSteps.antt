-- A turn of the check of a file's modules: the module breaks a rule, or it is fine and its size within the limit, or above.
use Prim.Native.Nat.{ℕ, ◌+◌, ◌-◌, ◌*◌, ◌≤◌, ◌<◌}
use mathlib.Core.Path.{◌≡◌, refl, sym, subst, ◌∙◌}
use mathlib.Core.Bool.{Bool, true, false}
use mathlib.Core.List.{List, ◌++◌}
use native.Mathlib.Omega.{arith}
use borrow.Author.Tests.{leb-true, leb-false}
use borrow.Rule.Slice.PartMut.{same_len_mid}
use lib.ListN.{length, get_or, take, drop, set, length-set}
use Rattle.meaning.specs.Syntax.{Module}
use Rattle.meaning.specs.Limits.{most_size}
use Rattle.meaning.specs.Verdict.{module_verdict}
use Rattle.laws.specs.Bounds.{largest-within}
use Rattle.nets.specs.Slots.{Below}
use Rattle.nets.specs.Bounds.{below_more, below_set}
use Rattle.image.specs.Fitting.{module_good}
use Rattle.check_sizes.specs.Walks.{entry}
use Rattle.check_sizes.specs.Kept.{Keepable, Kept}
use Rattle.check_sizes.specs.declared.Sums.{Sums}
use Rattle.check_lists.specs.Filed.{At}
use Rattle.check_bodies.specs.Bodies.{resolved_body}
use Rattle.check_modules.specs.Modules.{ModuleChecked, Checks}
use Rattle.std.specs.Prelude.{Result, Ok, Err}
use Rattle.refusals.specs.Refused.{refusal_at}
use Rattle.check_steps.specs.Found.{Found, EachReady, Judges, over_of}
use Rattle.check_modules.specs.declared.modules.Measured.{Measured}
use Rattle.check_lists.specs.Later.{repeat_inside}
use Rattle.check_steps.specs.FileParts.{replaced, modules-few}
use Rattle.check_steps.specs.Going.{Done, Going, Bounded, FileWalk}
use Rattle.check_steps.proofs.Going.{judged-broken, judged-kept, judged-over, done_more, over_not_fine}
use Rattle.check_steps.proofs.FileWalk.{there, scene, left, part, part-is, going-there}

module _
    {numbers₀ starts : List ℕ} {modules : ℕ} {found₀ : Found} {first inputs outputs slots₀ nets₀ sizes₀ rooms₀ : List ℕ}
    (ready : EachReady numbers₀ starts modules found₀ first inputs outputs slots₀ nets₀ sizes₀ rooms₀)
    {numbers slots nets sizes rooms : List ℕ} {found : Found} {end base k : ℕ}
    (w : FileWalk numbers₀ starts modules found₀ first inputs outputs slots₀ nets₀ sizes₀ rooms₀ numbers slots nets sizes rooms found end base k)
    (j : ℕ) (next : j + 1 ≡ k) {piece slots' : List ℕ} {r : Result Measured ℕ}
    (c : ModuleChecked (part ready w j next) j first inputs outputs base sizes rooms piece slots' r)
  where
    abbrev Ready : Type 0
    Ready = EachReady numbers₀ starts modules found₀ first inputs outputs slots₀ nets₀ sizes₀ rooms₀

    -- The module whose turn it is, and how far the check has come behind it.
    abbrev m : Ready → Module
    m e = (there ready w j next e).m

    abbrev later : Ready → List Module
    later e = (there ready w j next e).later

    at : (e : Ready) → At e.ms j (m e) (later e)
    at e = (there ready w j next e).at

    abbrev behind : (e : Ready) → Going e.ms (j + 1) end found numbers nets sizes rooms
    behind e = going-there ready w j next e

    abbrev numbers' : List ℕ
    numbers' = take (get_or starts j 0) numbers ++ (piece ++ drop (end - get_or starts j 0) (drop (get_or starts j 0) numbers))

    -- What the check of the module says in each file.
    said :
        {r' : Result Measured ℕ} → r ≡ r' → (e : Ready)
        → Checks r' (module_verdict j (m e) (later e)) e.ms (m e) j sizes rooms piece
    said same e =
        subst
        (λ (x : Result Measured ℕ). Checks x (module_verdict j (m e) (later e)) e.ms (m e) j sizes rooms piece)
        same (c.checks (scene ready w j next e) (part-is ready w j next e))

    -- The parts of the next turn's facts.
    module _ (piece_kept : length piece ≡ length (part ready w j next)) (slots_kept : length slots' ≡ length slots) where
      bounded-next :
          {nets' sizes' rooms' : List ℕ}
          → length nets' ≡ length nets → length sizes' ≡ length sizes → length rooms' ≡ length rooms
          → Below 65536 sizes' → Below (65536 * (129 - j)) rooms'
          → Bounded modules numbers₀ slots₀ nets₀ sizes₀ rooms₀ numbers' slots' nets' sizes' rooms' (base + 65536) j
      bounded-next nets_kept sizes_kept rooms_kept small low =
          let b = w.bounded in
          record {
            inside = omega (arith, b.inside);
            numbers_kept = same_len_mid (get_or starts j 0) (end - get_or starts j 0) numbers piece piece_kept ∙ b.numbers_kept;
            slots_kept = slots_kept ∙ b.slots_kept;
            nets_kept = nets_kept ∙ b.nets_kept;
            sizes_kept = sizes_kept ∙ b.sizes_kept;
            rooms_kept = rooms_kept ∙ b.rooms_kept;
            based = omega (arith, b.based, b.inside);
            earlier = c.low;
            small = small;
            low = low;
          }

      higher : Below (65536 * (129 - j)) rooms
      higher = below_more (65536 * (129 - j)) (omega arith) w.bounded.low

      going_next :
          (e : Ready) {found' : Found} {nets' sizes' rooms' : List ℕ} → Judges found' j e.ms
          → (found' ≡ Ok tt → Done e.ms j (piece ++ (behind e).tail) nets' sizes' rooms')
          → Going e.ms j (get_or starts j 0) found' numbers' nets' sizes' rooms'
      going_next e judged done =
          let g = behind e in
          let starts-here = e.starts_are j (left ready w j next) in
          record {
            tail = piece ++ g.tail;
            reached = starts-here;
            numbers_are = replaced e.ms j (at e) g.tail g.numbers_are starts-here g.reached piece;
            judged = judged;
            done = done;
          }

      -- It breaks a rule.
      pub walk-broken :
          (rule : ℕ) → r ≡ Err rule
          → FileWalk numbers₀ starts modules found₀ first inputs outputs slots₀ nets₀ sizes₀ rooms₀ numbers' slots' nets sizes rooms
          (Err (refusal_at rule j)) (get_or starts j 0) (base + 65536) j
      walk-broken rule same =
          record {
            bounded = bounded-next {nets' = nets} {sizes' = sizes} {rooms' = rooms} refl refl refl w.bounded.small higher;
            going = λ e.
                going_next e (judged-broken e.ms j (at e) (said same e))
                (λ fine. absurd (cc));
          }

      -- It is fine, with so many nets and these sums.
      module _ (measured : Measured) (same : r ≡ Ok measured) where
        abbrev own : ℕ
        own = measured.nets

        abbrev sums : Sums
        sums = measured.sums

        own-few : own ≤ 4096
        own-few =
            let s = said same ready in
            omega (arith, s.1.count, (module_good j (m ready) (later ready) s.0).nets)

        room-low : sums.room < 65536 * (129 - k)
        room-low =
            let largest = largest-within (entry rooms) (65536 * (129 - k) - 1) (λ x. omega (arith, w.bounded.low.below (x - 16)))
            (resolved_body ready.ms (m ready) (m ready).occurrences) in
            omega (arith, (said same ready).1.summed.roomed, largest, w.bounded.inside, modules-few ready)

        inside : (j < length nets) × (j < length sizes) × (j < length rooms)
        inside =
            let here = left ready w j next in
            let all = repeat_inside ready.ms in
            let b = w.bounded in (
              omega (arith, b.nets_kept, ready.nets_long),
              omega (arith, b.sizes_kept, ready.figured.sizes_long, ready.unrepeated),
              omega (arith, b.rooms_kept, ready.figured.rooms_long, ready.unrepeated),
            )

        pub keepable : Keepable own sums j sizes rooms
        keepable = record { in_sizes = inside.1; in_rooms = inside.2; fits = omega (arith, own-few, room-low, w.bounded.inside, modules-few ready) }

        module _ {sizes' rooms' : List ℕ} {within : Bool} (kept : Kept own sums j sizes rooms sizes' rooms' within) where
          -- Its size is within the limit.
          pub walk_kept :
              within ≡ true
              → FileWalk numbers₀ starts modules found₀ first inputs outputs slots₀ nets₀ sizes₀ rooms₀ numbers' slots' (set nets j own) sizes' rooms'
              found (get_or starts j 0) (base + 65536) j
          walk_kept low =
              let small : sums.size ≤ most_size = leb-true sums.size most_size (sym kept.answer ∙ low) in
              let stored = kept.kept low in
              rw (stored.0, stored.1)
              (record {
                bounded =
                    bounded-next (length-set nets j own) (length-set sizes j sums.size) (length-set rooms j (own + sums.room))
                    (below_set j sums.size inside.1 (omega (arith, small)) w.bounded.small)
                    (below_set j (own + sums.room) inside.2 (omega (arith, own-few, room-low, w.bounded.inside, modules-few ready)) higher);
                going = λ e.
                    let s = said same e in
                    let g = behind e in
                    going_next e (judged-kept e.ms j (at e) s.0 s.1 found g.done g.judged small)
                    (λ fine. done_more e.ms j (at e) s.0 s.1 inside.0 inside.1 inside.2 (g.done fine));
              })

          -- Its size is above.
          pub walk-over :
              within ≡ false
              → FileWalk numbers₀ starts modules found₀ first inputs outputs slots₀ nets₀ sizes₀ rooms₀ numbers' slots' (set nets j own) sizes' rooms'
              (over_of found j) (get_or starts j 0) (base + 65536) j
          walk-over high =
              let large : most_size < sums.size = leb-false sums.size most_size (sym kept.answer ∙ high) in
              let same_tables = kept.left high in
              rw (same_tables.0, same_tables.1)
              (record {
                bounded = bounded-next (length-set nets j own) refl refl w.bounded.small higher;
                going = λ e.
                    let s = said same e in
                    let g = behind e in
                    going_next e (judged-over e.ms j (at e) s.0 s.1 found g.done g.judged large)
                    (λ fine. absurd (over_not_fine found j fine));
              })
