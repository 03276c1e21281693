-- The walk over all occurrences of a module, turn by turn: what holds before each, and what its ways out say.
use Prim.Native.Nat.{ℕ, ◌+◌, ◌≤◌, ◌<◌}
use mathlib.Core.Path.{◌≡◌, refl, sym, ap, subst, ◌∙◌}
use mathlib.Core.List.{List, ◌++◌}
use native.Mathlib.Omega.{arith}
use lib.ListN.{length, length-append, length-map}
use Rattle.meaning.specs.Syntax.{Occurrence}
use Rattle.meaning.specs.Layout.{each, occurrence_numbers}
use Rattle.meaning.specs.Verdict.{occurrence_verdict, body_verdict}
use Rattle.nets.specs.Slots.{Knows, Below}
use Rattle.image.specs.Stands.{Stands}
use Rattle.image.specs.Pieces.{occurrence-at}
use Rattle.image.specs.Resolved.{refer_to, slot_in, resolve_occurrence}
use Rattle.check_sizes.specs.Walks.{no_sums}
use Rattle.check_sizes.specs.declared.Sums.{Sums}
use Rattle.check_lists.specs.Scene.{Scene}
use Rattle.check_bodies.specs.Occurrences.{Placed, StepReady, Advanced, Stepped, Steps}
use Rattle.check_bodies.specs.Bodies.{BodyReady, Walks, BodyChecked}
use Rattle.check_bodies.specs.declared.occurrences.Walked.{Walked}
use Rattle.std.specs.Prelude.{Result, Ok, Err}
use Rattle.check_bodies.proofs.OccurrenceParts.{one_below, occurrences-few}
use Rattle.check_bodies.proofs.Summing.{summed-small}
use Rattle.check_bodies.proofs.Progress.{Progress, Current, nets, begin, current, stop, finish}
use Rattle.check_bodies.proofs.OneMore.{advance}

-- A scene whose occurrences, so many, stand at the place where the walk begins, with a table that knows its inputs.
pub record Course (numbers first inputs outputs slots : List ℕ) (base k from count width : ℕ) : Type 0 where
  pub scene : Scene first inputs outputs k
  pub stands : Stands numbers from (each occurrence_numbers scene.m.occurrences)
  pub all : count ≡ length scene.m.occurrences
  pub knows : Knows slots base scene.m.inputs
  pub wide : width ≡ length scene.m.inputs

-- Before turn i: places fit, no list has changed its length, no slot is above those of the base, and on every such course the walk has
-- come this far.
pub record Walking
    (first inputs outputs : List ℕ) (base k from count width : ℕ) (sizes rooms numbers₀ slots₀ numbers slots : List ℕ) (at filled i : ℕ)
    (sums : Sums) : Type 0 where
  pub placed : Placed numbers base at filled
  pub numbers_long : length numbers ≡ length numbers₀
  pub slots_long : length slots ≡ length slots₀
  pub low : Below (base + 65536) slots₀ → Below (base + 65536) slots
  pub progress :
      (g : Course numbers₀ first inputs outputs slots₀ base k from count width)
      → Progress g.scene.ms g.scene.m g.scene.later k from i count at filled base sizes rooms sums numbers₀ numbers slots

module _ {numbers₀ first inputs outputs slots₀ : List ℕ} {base k from count width : ℕ} {sizes rooms : List ℕ} where
  -- What the answer says of every course.
  answered :
      {numbers' slots' : List ℕ} {r : Result Walked ℕ}
      → ((g : Course numbers₀ first inputs outputs slots₀ base k from count width)
      → Walks r (body_verdict k g.scene.m.occurrences g.scene.m.inputs g.scene.later) k g.scene.ms g.scene.m
      numbers₀ from base sizes rooms numbers' slots')
      → (Below (base + 65536) slots₀ → Below (base + 65536) slots')
      → BodyChecked numbers₀ first inputs outputs slots₀ base k from count width sizes rooms numbers' slots' r
  answered f low =
      record {
        walks = λ s stands all knows wide. f (record { scene = s; stands = stands; all = all; knows = knows; wide = wide });
        low = low;
      }

  module _ (h : BodyReady numbers₀ first inputs outputs slots₀ base k from count width sizes rooms) where
    abbrev own : Course numbers₀ first inputs outputs slots₀ base k from count width
    own = record { scene = h.scene; stands = h.stands; all = h.all; knows = h.knows; wide = h.wide }

    -- Before the first turn.
    pub walk_begins :
        {sums : Sums} → sums ≡ no_sums
        → Walking first inputs outputs base k from count width sizes rooms numbers₀ slots₀ numbers₀ slots₀ from width 0 sums
    walk_begins nothing =
        record {
          placed = h.placed;
          numbers_long = refl;
          slots_long = refl;
          low = λ l. l;
          progress = λ g.
              begin g.scene.ms g.scene.m g.scene.later k from count width base sizes rooms numbers₀ slots₀
              g.stands g.all g.knows g.wide nothing;
        }

    module _
        {numbers slots : List ℕ} {at filled i : ℕ} {sums : Sums}
        (w : Walking first inputs outputs base k from count width sizes rooms numbers₀ slots₀ numbers slots at filled i sums)
      where
        -- Behind the last turn.
        pub walk_ends :
            count ≤ i → BodyChecked numbers₀ first inputs outputs slots₀ base k from count width sizes rooms numbers slots (Ok (record { next = at; nets = filled; sums = sums }))
        walk_ends e = answered (λ g. finish (w.progress g) e w.placed.behind) w.low

        module _ (more : i < count) where
          -- The occurrence whose turn it is.
          abbrev here : (g : Course numbers₀ first inputs outputs slots₀ base k from count width) → Current (w.progress g)
          here g = current (w.progress g) more

          -- It is there to be checked. The sum of sizes fits, since an occurrence has three numbers at least and adds 65,536 at most.
          pub step-ready : StepReady numbers first inputs outputs slots base k at filled sizes rooms sums
          step-ready =
              record {
                scene = h.scene;
                placed = w.placed;
                o = o;
                stands = (here own).stands;
                nets = nets p;
                knows = p.knows;
                wide = p.wide;
                indexes =
                    record {
                      in_first = among h.indexes.in_first;
                      in_slots = subst (λ (n : ℕ). Below n (occurrence_numbers o)) (sym w.slots_long) (among h.indexes.in_slots);
                    };
                figured = h.figured;
                fits =
                    omega (
                      arith,
                      summed-small sizes rooms h.figured.small p.summed,
                      length-map p.finished (resolve_occurrence (slot_in h.scene.m) (refer_to h.scene.ms)),
                      p.passed,
                      more,
                      h.all,
                      occurrences-few h.scene.m.occurrences,
                      h.stands.within,
                      h.placed.short,
                    );
              }
            where
              p : Progress h.scene.ms h.scene.m h.scene.later k from i count at filled base sizes rooms sums numbers₀ numbers slots
              p = w.progress own

              o : Occurrence
              o = (here own).o

              among : {bound : ℕ} → Below bound (each occurrence_numbers h.scene.m.occurrences) → Below bound (occurrence_numbers o)
              among {bound} low =
                  one_below p.finished o (here own).rest
                  (subst (λ (l : List Occurrence). Below bound (each occurrence_numbers l))
                  (p.whole ∙ ap (λ (l : List Occurrence). p.finished ++ l) (here own).is)
                  low)

          module _ {numbers' slots' : List ℕ} {r : Result Walked ℕ}
              (step : Stepped numbers first inputs outputs slots base k at filled sizes rooms sums numbers' slots' r)
            where
              -- What a step says of it on a course.
              abbrev Said : Course numbers₀ first inputs outputs slots₀ base k from count width → Result Walked ℕ → Type 0
              Said g q =
                  Steps q (occurrence_verdict k (here g).o (w.progress g).signals g.scene.later) k g.scene.ms (here g).o
                  (nets (w.progress g)) numbers at base sizes rooms sums numbers' slots'

              said : {q : Result Walked ℕ} → r ≡ q → (g : Course numbers₀ first inputs outputs slots₀ base k from count width) → Said g q
              said e g =
                  let p = w.progress g in
                  subst (Said g) e
                  (step.steps g.scene (here g).o (nets p) p.signals (here g).stands p.knows p.wide p.same)

              low-still : Below (base + 65536) slots₀ → Below (base + 65536) slots'
              low-still l = step.low (w.low l)

              -- It breaks a rule.
              pub walk-stops :
                  {rule : ℕ} → r ≡ Err rule
                  → BodyChecked numbers₀ first inputs outputs slots₀ base k from count width sizes rooms numbers' slots' (Err rule)
              walk-stops {rule} e = answered (λ g. stop (w.progress g) (here g) rule (said e g)) low-still

              -- It is fine: the next turn.
              pub walk-goes-on :
                  {walked : Walked} → r ≡ Ok walked
                  → length numbers' ≡ length numbers → length slots' ≡ length slots
                  → Walking first inputs outputs base k from count width sizes rooms numbers₀ slots₀ numbers' slots' walked.next walked.nets (i + 1) walked.sums
              walk-goes-on {walked} e numbers_long slots_long =
                  record {
                    placed =
                        record {
                          behind = behind (said e own).1;
                          based = w.placed.based;
                          short = omega (arith, w.placed.short);
                        };
                    numbers_long = numbers_long ∙ w.numbers_long;
                    slots_long = slots_long ∙ w.slots_long;
                    low = low-still;
                    progress = λ g. advance (w.progress g) (here g) (said e g).0 g.stands.within (said e g).1;
                  }
                where
                  behind :
                      Advanced own.scene.ms (here own).o (nets (w.progress own)) numbers at base sizes rooms sums numbers' slots'
                      walked.next walked.nets walked.sums
                      → walked.nets ≤ walked.next
                  behind a =
                      let before = w.placed.behind in
                      let wide = (w.progress own).wide in
                      let long = (occurrence-at (here own).o (here own).stands).long in
                      omega (arith, a.behind, a.count, length-append (nets (w.progress own)) (here own).o.drives)
