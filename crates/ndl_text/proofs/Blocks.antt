-- How far a file's modules are told: the blocks that stand and those left, and where the numbers left stand.
use Prim.Native.Nat.{ℕ, suc, ◌+◌, ◌≤◌, ◌<◌}
use mathlib.Core.Path.{◌≡◌, refl, sym, subst}
use mathlib.Core.List.{List, [], ◌∷◌, ◌++◌}
use native.Mathlib.Omega.{arith}
use lib.ListN.{length}
use Rattle.meaning.specs.Lists.{All, more}
use Rattle.meaning.specs.Syntax.{Module}
use Rattle.meaning.specs.Ceilings.{ModuleWithin}
use Rattle.meaning.specs.Layout.{each, module_numbers}
use Rattle.meaning.specs.Ndl.{module_text}
use Rattle.bytes_out.specs.Filled.{Put}
use Rattle.bytes_out.specs.Laying.{Laying}
use Rattle.write_pieces.specs.Laying.{laying-start, laying-left, laying-more, laying-all, room-first}
use Rattle.image.specs.Stands.{Stands, stands-front, stands-skip}
use Rattle.ndl_text.specs.declared.occurrences.Pen.{Pen}
use Rattle.ndl_text.specs.Standing.{Lines, ModuleTold, ModulesTold}

pub record Blocks {names numbers : List ℕ} {from count : ℕ} {out : List ℕ} {at : ℕ} (t : ModulesTold names numbers from count out at)
    (i : ℕ) (after : List ℕ) (pen : Pen) : Type 0 where
  pub left : List Module
  pub within : All ModuleWithin left
  pub some : i + length left ≡ length t.ms
  pub stands : Stands numbers pen.from (each module_numbers left)
  pub laid : Laying (each (module_text names) t.ms) (each (module_text names) left) out at after pen.at

module _ {names numbers : List ℕ} {from count : ℕ} {out : List ℕ} {at : ℕ} (t : ModulesTold names numbers from count out at) where
  abbrev whole : List ℕ
  whole = each (module_text names) t.ms

  pub blocks_start : (pen : Pen) → pen.from ≡ from → pen.at ≡ at → Blocks t 0 out pen
  blocks_start pen e f =
      record {
        left = t.ms;
        within = t.within;
        some = omega arith;
        stands = subst (λ (n : ℕ). Stands numbers n (each module_numbers t.ms)) (sym e) t.stands;
        laid = subst (λ (n : ℕ). Laying whole whole out at out n) (sym f) (laying-start t.room);
      }

  -- At the end all is told.
  pub blocks-all : {i : ℕ} {after : List ℕ} {pen : Pen} → Blocks t i after pen → count ≤ i → Put whole out at after pen.at
  unfolding each
  blocks-all {i} {after} {pen} b end = go b.left b.some b.laid
    where
      go : (left : List Module) → i + length left ≡ length t.ms → Laying whole (each (module_text names) left) out at after pen.at
          → Put whole out at after pen.at
      go [] some laid = laying-all laid refl
      go (m ∷ left) some laid = absurd (omega (arith, t.all))

  -- A module that is left, with those behind it.
  record Next (i : ℕ) (after : List ℕ) (pen : Pen) : Type 0 where
    m : Module
    rest : List Module
    within : ModuleWithin m
    withins : All ModuleWithin rest
    some : i + suc (length rest) ≡ length t.ms
    stands : Stands numbers pen.from (module_numbers m ++ each module_numbers rest)
    laid : Laying whole (module_text names m ++ each (module_text names) rest) out at after pen.at

  next : {i : ℕ} {after : List ℕ} {pen : Pen} → Blocks t i after pen → i < count → Next i after pen
  unfolding each
  next {i} {after} {pen} b more_left = go b.left b.within b.some b.stands b.laid
    where
      go : (left : List Module) → All ModuleWithin left → i + length left ≡ length t.ms
          → Stands numbers pen.from (each module_numbers left)
          → Laying whole (each (module_text names) left) out at after pen.at
          → Next i after pen
      go [] w some stands laid = absurd (omega (arith, t.all))
      go (m ∷ left) (more w ws) some stands laid =
          record { m = m; rest = left; within = w; withins = ws; some = some; stands = stands; laid = laid }

  told_of : {i : ℕ} {after : List ℕ} {pen : Pen} → Next i after pen → ModuleTold names numbers pen.from after pen.at
  told_of n =
      record {
        m = n.m;
        stands = stands-front (each module_numbers n.rest) n.stands;
        within = n.within;
        long = t.long;
        room = room-first (each (module_text names) n.rest) (laying-left n.laid);
      }

  -- Where one is left it can be told,
  pub next-told : {i : ℕ} {after : List ℕ} {pen : Pen} → Blocks t i after pen → i < count → ModuleTold names numbers pen.from after pen.at
  next-told b more_left = told_of (next b more_left)

  -- and then one more is told.
  pub blocks_more : {i : ℕ} {after : List ℕ} {pen : Pen} → Blocks t i after pen → i < count → {later : List ℕ} {pen' : Pen}
      → ((u : ModuleTold names numbers pen.from after pen.at)
      → Lines (module_text names u.m) (module_numbers u.m) pen.from after pen.at later pen')
      → Blocks t (i + 1) later pen'
  unfolding told_of
  blocks_more {i} {after} {pen} b more_left {later} {pen'} told =
      let n = next b more_left in
      let lines : Lines (module_text names n.m) (module_numbers n.m) pen.from after pen.at later pen' = told (told_of n) in
      record {
        left = n.rest;
        within = n.withins;
        some = omega (arith, n.some);
        stands = subst (λ (k : ℕ). Stands numbers k (each module_numbers n.rest)) (sym lines.next) (stands-skip (module_numbers n.m) n.stands);
        laid = laying-more n.laid (module_text names n.m) (each (module_text names) n.rest) refl lines.put;
      }
