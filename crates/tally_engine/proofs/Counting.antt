-- How far counting the gates of a module has come: what is counted and what the occurrences ahead add are the module's tally. So no sum
-- on the way is above the tally, which the expanded size bounds.
use Prim.Native.Nat.{ℕ, ◌+◌, ◌-◌, ◌≤◌, ◌<◌}
use mathlib.Core.Path.{◌≡◌, refl, ap, sym, ◌∙◌}
use mathlib.Core.Bool.{Bool, true, false, cond}
use mathlib.Core.List.{List, [], ◌∷◌}
use native.Mathlib.Omega.{arith}
use borrow.Author.Tests.{ltb-true}
use lib.Dec.{eqb}
use lib.ListN.{length, get_or, replicate, get_or-replicate}
use lib.Seq.{ext_get_or}
use Rattle.meaning.specs.Syntax.{Occurrence, Module}
use Rattle.meaning.specs.Gates.{is_gate}
use Rattle.meaning.specs.Limits.{body_size, expanded_size, most_size}
use Rattle.meaning.specs.Figures.{body_weight, kind_count, tally}
use Rattle.meaning.specs.Adder.{up_from}
use Rattle.laws.specs.Bounds.{weight_size}
use Rattle.image.specs.Searching.{gate_weight-search, expanded_size-search}
use Rattle.image.specs.Entries.{mapped}
use Rattle.image.specs.Places.{HeaderOf}
use Rattle.image.specs.Scenes.{in_starts, says_here}
use Rattle.image.specs.Walking.{Ahead, all-ahead, Turn, at-gate as gate-there, target, called, file-says, is_module}
use Rattle.image.specs.declared.places.Header.{Header}
use Rattle.image.specs.declared.places.Place.{Place}
use Rattle.tally_engine.specs.Tallies.{one_of, Addable, Added, Countable}
use Rattle.tally_engine.specs.Rows.{Kept, Tallying}

-- What an occurrence adds to the count of a kind.
abbrev share_of : List Module → Occurrence → (kind : ℕ) → ℕ
share_of later o kind = cond (is_gate o.refers) (one_of o.refers kind) (kind_count kind later o.refers)

-- What several add.
abbrev shares_of : List Module → List Occurrence → (kind : ℕ) → ℕ
shares_of later os kind = body_weight (λ gate. one_of gate kind) (kind_count kind later) os

pub record Counting {image starts : List ℕ} {k : ℕ} (s : Countable image starts k) (at left : ℕ) (counts : List ℕ) : Type 0 where
  pub rest : List Occurrence
  pub filled : ℕ
  pub ahead : Ahead image s.scene.m s.scene.later at left filled rest
  pub counted :
      (kind : ℕ) → kind < 16 → get_or counts kind 0 + shares_of s.scene.later rest kind ≡ kind_count kind s.rs (16 + k)
  pub sized : body_size (expanded_size s.scene.later) rest ≤ most_size
  pub long : length counts ≡ 16

-- The count of a kind stands at its place in the tally.
count-of-kind : (rs : List Module) (number kind : ℕ) → kind < 16 → get_or (tally rs number) kind 0 ≡ kind_count kind rs number
unfolding tally up_from
count-of-kind rs number kind less =
    let place : 0 + kind ≡ kind = omega arith in
    mapped (λ kind. kind_count kind rs number) 0 16 kind less ∙ ap (λ (i : ℕ). kind_count i rs number) place

module _ {image starts : List ℕ} {k : ℕ} (s : Countable image starts k) where
  -- Nothing is counted yet.
  pub none-counted :
      {h : Header} {counts : List ℕ}
      → HeaderOf image (get_or starts k 0) s.scene.m h
      → counts ≡ replicate 16 0
      → Counting s (h.to + 1) h.count counts
  unfolding kind_count
  none-counted header zeros =
      record {
        rest = s.scene.m.occurrences;
        filled = _;
        ahead = all-ahead s.scene header;
        counted = λ kind less.
            omega (
              arith,
              ap (λ (l : List ℕ). get_or l kind 0) zeros,
              get_or-replicate {A = ℕ} 16 kind 0 0 less,
              says_here s.scene (gate_weight-search (λ gate. one_of gate kind)),
            );
        sized = omega (arith, says_here s.scene expanded_size-search, s.size);
        long = ap length zeros;
      }

  one_at_most : (b : Bool) → cond b 1 0 ≤ 1
  one_at_most true = omega arith
  one_at_most false = omega arith

  -- No kind has more gates than there are visits.
  within : (kind : ℕ) → kind_count kind s.rs (16 + k) ≤ most_size
  unfolding kind_count
  within kind =
      let counted = weight_size (λ gate. one_of gate kind) (λ gate. one_at_most (eqb gate kind)) s.rs (16 + k) in
      omega (arith, s.size)

  -- One turn: the counts can be made larger by what the occurrence adds, and they go on behind it.
  module _
      {at left : ℕ} {counts : List ℕ} (c : Counting s at left counts) {place : Place}
      (t : Turn image s.scene.m s.scene.later at left c.filled c.rest place)
    where
      pub record Step (more : ℕ → ℕ) : Type 0 where
        pub addable : Addable counts more
        pub next : {counts' : List ℕ} → Added counts more counts' → Counting s place.to (left - 1) counts'

      step : (more : ℕ → ℕ) → ((kind : ℕ) → kind < 16 → more kind ≡ share_of s.scene.later t.o kind) → Step more
      unfolding body_weight body_size
      step more share =
          record {
            addable = record { fits = λ kind less. omega (arith, split kind less, within kind) };
            next = λ added.
                record {
                  rest = t.os;
                  filled = _;
                  ahead = t.next;
                  counted = λ kind less. omega (arith, split kind less, added.sum kind less);
                  sized = omega (arith, rw t.is at c.sized);
                  long = added.long;
                };
          }
        where
          split :
              (kind : ℕ)
              → kind < 16
              → get_or counts kind 0 + (more kind + shares_of s.scene.later t.os kind) ≡ kind_count kind s.rs (16 + k)
          split kind less = omega (arith, rw t.is at (c.counted kind less), share kind less)

      -- A gate adds one of its kind.
      pub record AtGate : Type 0 where
        pub below : place.refers < 16
        pub step : Step (one_of place.refers)

      pub at-gate : is_gate place.refers ≡ true → AtGate
      at-gate gate =
          record {
            below = ltb-true place.refers 16 gate;
            step =
                step (one_of place.refers) (λ kind less. rw (gate-there t gate).is (ap (λ (n : ℕ). one_of n kind) t.read.refers));
          }

      -- A module adds its tally, whether that is kept or counted now.
      pub record AtModule : Type 0 where
        pub after : k < place.refers - 16
        pub inside : place.refers - 16 < length starts
        pub step : {inner : List ℕ} → inner ≡ tally s.rs (16 + (place.refers - 16)) → Step (λ kind. get_or inner kind 0)

      pub sub-size : (no_gate : is_gate place.refers ≡ false) → expanded_size s.rs (16 + (place.refers - 16)) ≤ most_size
      unfolding body_size
      sub-size no_gate =
          omega (
            arith,
            rw (t.is, is_module s.scene t no_gate) at c.sized,
            file-says s.scene t no_gate expanded_size-search,
          )

      abbrev pub tallying :
          is_gate place.refers ≡ false
          → {rows : List ℕ} {filled : List Bool}
          → Kept s.rs rows filled
          → Tallying image starts (place.refers - 16) rows filled
      tallying no_gate kept =
          record {
            countable = record { rs = s.rs; nets = s.nets; scene = called s.scene t no_gate; size = sub-size no_gate };
            kept = kept;
          }

      pub at_module : is_gate place.refers ≡ false → AtModule
      unfolding kind_count
      at_module no_gate =
          let own = is_module s.scene t no_gate in
          record {
            after = (target s.scene t no_gate).after;
            inside = in_starts (called s.scene t no_gate);
            step = λ {inner} is.
                step (λ kind. get_or inner kind 0)
                (λ kind less.
                rw own
                (ap (λ (l : List ℕ). get_or l kind 0) is
                ∙ count-of-kind s.rs (16 + (place.refers - 16)) kind less
                ∙ sym (file-says s.scene t no_gate (gate_weight-search (λ gate. one_of gate kind)))));
          }

  -- With no occurrence left it is the tally.
  pub all-counted : {at left : ℕ} {counts : List ℕ} → left ≡ 0 → Counting s at left counts → counts ≡ tally s.rs (16 + k)
  unfolding body_weight tally
  all-counted {counts = counts} over c =
      ext_get_or 0 counts (tally s.rs (16 + k)) c.long (λ kind less. same kind (omega (arith, c.long)))
    where
      nothing : (rest : List Occurrence) → length rest ≡ 0 → (kind : ℕ) → shares_of s.scene.later rest kind ≡ 0
      nothing [] e kind = refl
      nothing (o ∷ os) e kind = absurd (omega arith)

      same : (kind : ℕ) → kind < 16 → get_or counts kind 0 ≡ get_or (tally s.rs (16 + k)) kind 0
      same kind less =
          omega (
            arith,
            c.counted kind less,
            nothing c.rest (omega (arith, c.ahead.many)) kind,
            count-of-kind s.rs (16 + k) kind less,
          )
