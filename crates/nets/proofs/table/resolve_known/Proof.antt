-- `nets::table::resolve_known` meets its contract. The loop's invariant: the slots of the nets before place i are in their places, and
-- the list has none but `nets` just if it has from place i on. Assumes nothing.
use Rattle.std.proofs.Common.{◌≡◌, ℕ, ◌+◌, ◌-◌, ◌%◌, ◌^◌, ◌<◌, ◌≤◌, List, ◌++◌, length, get_or, drop, set, sym, refl, ◌∙◌, ap₂, arith, length-set, get_or-set_other, rules}
use Rattle.meaning.specs.Boxlist.{subset}
use Rattle.nets.specs.Slots.{slot_of, Knows}
use Rattle.nets.specs.Walks.{subset-here, subset-end}
use Rattle.nets.specs.Fronts.{front-whole, front-short}
use Rattle.nets.specs.Writing.{replaced, replaced-next, replaced-all}
use Rattle.nets.specs.Tables.{Resolved, slot_in_front, front_below, front_above}
use Rattle.nets.proofs.table.resolve_known.Statement.{statement}
use Rattle.nets.proofs.table.resolve_known.Tie as tie

-- Where the table knows `more` behind `nets`.
record Resolving (nets more list₀ list : List ℕ) (i : ℕ) : Type 0 where
  left : subset list₀ nets ≡ subset (drop i list₀) nets
  written : list ≡ replaced (λ (x : ℕ). slot_of x (nets ++ more)) list₀ i

record Passed (list₀ table : List ℕ) (base limit : ℕ) (list : List ℕ) (i : ℕ) : Type 0 where
  within : i ≤ length list₀
  kept : length list ≡ length list₀
  ahead : (j : ℕ) → i ≤ j → get_or list j 0 ≡ get_or list₀ j 0
  resolving : (nets more : List ℕ) → Knows table base (nets ++ more) → limit ≡ length nets → Resolving nets more list₀ list i

module _ {nets more list₀ list : List ℕ} {i : ℕ} (r : Resolving nets more list₀ list i) where
  -- Behind the last net all were known.
  resolved : i ≤ length list₀ → length list₀ ≤ i → Resolved nets more list₀ list i
  resolved within end =
      record {
        front = front-whole (omega arith) (sym (r.left ∙ subset-end list₀ i end nets));
        written = λ e. r.written ∙ replaced-all (λ (x : ℕ). slot_of x (nets ++ more)) list₀ i end;
      }

  module _
      (here : i < length list₀) {table : List ℕ} {base limit : ℕ} (k : Knows table base (nets ++ more)) (between : limit ≡ length nets)
      (high : base + limit ≤ 2 ^ 32) (slot : ℕ) (small : slot < 2 ^ 32)
      (counted : (slot + base) % 2 ^ 32 ≡ get_or table (get_or list₀ i 0) 0) where
    -- The net at i has no slot below the limit.
    met : limit ≤ slot → Resolved nets more list₀ list i
    met above =
        record {
          front =
              front-short here
              (sym (r.left ∙ rw (subset-here list₀ i here nets, front_above nets more k between high (get_or list₀ i 0) slot small counted above)));
          written = λ e. absurd (omega arith);
        }

    -- It has one, which takes its place.
    resolve-one : slot < limit → Resolving nets more list₀ (set list i slot) (i + 1)
    resolve-one below =
        let known = front_below nets more k between high (get_or list₀ i 0) slot small counted below in
        record {
          left = r.left ∙ rw (subset-here list₀ i here nets, known);
          written =
              ap₂ (λ (ys : List ℕ) (s : ℕ). set ys i s) r.written
              (slot_in_front nets more k between high (get_or list₀ i 0) slot small counted known)
              ∙ replaced-next (λ (x : ℕ). slot_of x (nets ++ more)) list₀ i here;
        }

abbrev invariant-loop : tie.invariant-loop-i
invariant-loop list₀ table base limit i₀ list i = Passed list₀ table base limit list i

abbrev decreases-loop : tie.decreases-loop-i
decreases-loop list₀ table base limit i₀ list i = length list₀ - i

loop-holds : tie.Need-loop-i-init invariant-loop decreases-loop
loop-holds c =
    record {
      within = omega arith;
      kept = refl;
      ahead = λ j h. refl;
      resolving = λ nets more k e. record { left = refl; written = refl };
    }

cast-wrapping-sub-u32 : tie.Need-overflow_cast-list invariant-loop decreases-loop
cast-wrapping-sub-u32 c = omega (arith, c.slice_known-in-loop-i-1.given c.loop-i.i)

mul-wrapping-sub-u32-2 : tie.Need-offset_bounds-table-list invariant-loop decreases-loop
mul-wrapping-sub-u32-2 c = omega (arith, c.slice_known-in-loop-i-1.given c.loop-i.i)

-- The net at i is the one that the list had there at first, an index of the table.
shared-slice-read-wrapping-sub-u32 : tie.Need-bounds-table-list invariant-loop decreases-loop
shared-slice-read-wrapping-sub-u32 c =
    omega (arith, c.loop-i.invariant.ahead c.loop-i.i (omega arith), c.requires.in_table.below c.loop-i.i)

returns : tie.Need-returns-then-limit-above invariant-loop decreases-loop
returns c nets more k e =
    let inv = c.loop-i.invariant in
    met (inv.resolving nets more k e) (omega arith) k e (omega arith) c.wrapping_sub_u32-above.result (omega arith)
    (rw (← inv.ahead c.loop-i.i (omega arith)) c.wrapping_sub_u32-above.ensures)
    c.if-limit-above.true

loop-again : tie.Need-loop-i-preserved invariant-loop decreases-loop
loop-again c =
    let i = c.loop-i.i in
    let inv = c.loop-i.invariant in
    record {
      within = omega arith;
      kept = simp length-set inv.kept;
      ahead = λ j h.
          get_or-set_other c.loop-i.list i j c.wrapping_sub_u32-above.result 0 (λ e. omega arith) ∙ inv.ahead j (omega arith);
      resolving = λ nets more k e.
          resolve-one (inv.resolving nets more k e) (omega arith) k e (omega arith) c.wrapping_sub_u32-above.result (omega arith)
          (rw (← inv.ahead i (omega arith)) c.wrapping_sub_u32-above.ensures)
          c.if-limit-above.false;
    }

returns-2 : tie.Need-returns invariant-loop decreases-loop
returns-2 c nets more k e = resolved (c.loop-i.invariant.resolving nets more k e) (omega arith) (omega arith)

pub resolve_known_spec : {M : Type 1} → statement M
resolve_known_spec =
    tie.close
    (tie.spec
    invariant-loop
    decreases-loop
    loop-holds
    (λ c. omega arith)
    (λ c. omega arith)
    cast-wrapping-sub-u32
    mul-wrapping-sub-u32-2
    shared-slice-read-wrapping-sub-u32
    (λ c κs. search rules)
    (λ c. c.loop-i.invariant.kept)
    returns
    (λ c. omega arith)
    (λ c. omega arith)
    (λ c. omega arith)
    (λ c. omega arith)
    (λ c. omega arith)
    loop-again
    (λ c. c.loop-i.invariant.kept)
    returns-2)
