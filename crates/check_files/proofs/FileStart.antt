-- The numbering of a file's modules makes the check ready of those in front of the first repeat, which are all where no number repeats. And
-- what the check found of those is what the file comes to.
use Prim.Native.Nat.{ℕ, ◌≤◌}
use mathlib.Core.Path.{◌≡◌, sym, ap, subst, ◌∙◌}
use mathlib.Core.List.{List, ◌++◌, append-nil}
use native.Mathlib.Omega.{arith}
use lib.ListN.{length, take, drop, drop_of_length-le}
use lib.Seq.{length-take-le}
use Rattle.meaning.specs.Syntax.{Module}
use Rattle.meaning.specs.Layout.{file_numbers}
use Rattle.nets.specs.Slots.{Below}
use Rattle.image.specs.Resolved.{resolve}
use Rattle.image.specs.ResolvedLayout.{start_of, length-of-image}
use Rattle.check_lists.specs.Filed.{Filed, Countable}
use Rattle.check_lists.specs.Numbering.{Entered}
use Rattle.std.specs.Prelude.{Ok, Err}
use Rattle.check_steps.specs.Found.{Found, Laidout, Repeating, Known, EachReady}
use Rattle.check_files.specs.Files.{EachFound, FoundIs, FileReady, FileFound}
use Rattle.check_steps.specs.Going.{end_before}
use Rattle.check_steps.specs.FileParts.{filed-of, end-is-start, start-inside}
use Rattle.check_lists.specs.Later.{repeat_inside}

module _
    {numbers starts : List ℕ} {modules : ℕ} {first slots names nets sizes rooms : List ℕ}
    (ready : FileReady numbers starts modules first slots names nets sizes rooms) where
  pub countable : {inputs outputs : List ℕ} → 128 ≤ length inputs → 128 ≤ length outputs → Countable numbers starts modules first names inputs outputs
  countable inputs_long outputs_long =
      let l = ready.laidout in
      record {
        ms = ready.ms;
        filed = filed-of l;
        counted = l.all;
        indexed = ready.indexes.in_first;
        clear = ready.clear_first;
        names_long = ready.names_long;
        inputs_long = omega (arith, l.all, l.few);
        outputs_long = omega (arith, l.all, l.few);
      }

  -- What numbering says of every file that the numbers can be.
  module _
      {first' names' inputs outputs : List ℕ} {repeated : ℕ}
      (said : (ms : List Module) → Filed numbers starts ms → modules ≡ length ms → Entered ms first' names' inputs outputs repeated) where
    abbrev entered : (ms : List Module) → Laidout numbers starts modules ms → Entered ms first' names' inputs outputs repeated
    entered ms l = said ms (filed-of l) l.all

    abbrev pub repeating : (ms : List Module) → Laidout numbers starts modules ms → Repeating numbers starts modules repeated
    repeating ms l = record { ms = ms; laidout = l; repeats = (entered ms l).repeats; short = ready.short }

    -- What is known of the modules from the first repeat on, and where those in front of it end.
    module _
        {found : Found} {end : ℕ} (kept : length first' ≡ length first)
        (known : (b : Repeating numbers starts modules repeated) → Known found repeated b.ms)
        (ends : end ≡ end_before starts numbers modules repeated) (ms : List Module) (l : Laidout numbers starts modules ms) where
      within : repeated ≤ modules
      within = omega (arith, (entered ms l).repeats, repeat_inside ms, l.all)

      end_is : end ≡ start_of ms repeated
      end_is = ends ∙ end-is-start l repeated

      pub end-inside : end ≤ length numbers
      end-inside = omega (arith, end_is, start-inside ms repeated, ap length l.numbers_are)

      pub each-ready : EachReady (take end numbers) starts repeated found first' inputs outputs slots nets sizes rooms
      each-ready =
          let x = entered ms l in
          record {
            ms = ms;
            front = ap (λ (n : ℕ). take n numbers) end_is ∙ ap (take (start_of ms repeated)) l.numbers_are;
            starts_are = λ j h. l.starts_are j (omega (arith, within, l.all));
            listed = omega (arith, within, l.all, l.listed);
            few = l.few;
            numbered = x.numbered;
            ported = x.ported;
            unrepeated = x.repeats;
            behind = known (repeating ms l);
            indexes =
                record {
                  in_first = subst (λ (n : ℕ). Below n (file_numbers ms)) (sym kept) (subst (Below (length first)) l.numbers_are ready.indexes.in_first);
                  in_slots = subst (Below (length slots)) l.numbers_are ready.indexes.in_slots;
                };
            short = omega (arith, ready.short, ap length l.numbers_are);
            nets_long = omega (arith, within, ready.nets_long);
            figured =
                record {
                  sizes_long = omega (arith, l.all, ready.laidout.all, ready.figured.sizes_long);
                  rooms_long = omega (arith, l.all, ready.laidout.all, ready.figured.rooms_long);
                  small = ready.figured.small;
                };
            low_slots = ready.low_slots;
            low_rooms = ready.low_rooms;
          }

      -- An image is as long as its file, so where the part became one nothing is behind it.
      pub file-found :
          {r : Found} {part nets' sizes' rooms' : List ℕ} → length part ≡ length (take end numbers)
          → EachFound (take end numbers) starts repeated found first' inputs outputs slots nets sizes rooms part nets' sizes' rooms' r
          → FileFound r ms (part ++ drop end numbers) names' nets' sizes' rooms'
      unfolding each-ready
      file-found {r} {part} {nets'} {sizes'} {rooms'} part_kept checked =
          record { outcome = whole r (checked.finds each-ready); named = (entered ms l).named }
        where
          all : part ≡ file_numbers (resolve ms) → length numbers ≤ end
          all is =
              omega (arith, ap length is, length-of-image ms, ap length l.numbers_are, part_kept, length-take-le end numbers end-inside)

          image : part ≡ file_numbers (resolve ms) → part ++ drop end numbers ≡ file_numbers (resolve ms)
          image is = ap (λ (xs : List ℕ). part ++ xs) (drop_of_length-le numbers (all is)) ∙ append-nil part ∙ is

          whole : (r : Found) → FoundIs r ms part nets' sizes' rooms' → FoundIs r ms (part ++ drop end numbers) nets' sizes' rooms'
          whole (Ok fine) o = record { accepted = o.accepted; image = image o.image; counted = o.counted; tabled = o.tabled }
          whole (Err r) o = o
