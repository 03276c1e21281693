-- The loads that are kept: at first none, and looked up.
use Prim.Native.Nat.{ℕ, ◌+◌, ◌-◌, ◌≤◌, ◌<◌}
use mathlib.Core.Path.{◌≡◌, refl}
use mathlib.Core.List.{List}
use native.Mathlib.Omega.{arith}
use lib.ListN.{length, get_or, replicate}
use Rattle.meaning.specs.Syntax.{Module}
use Rattle.meaning.specs.Figures.{room}
use Rattle.image.specs.Entries.{all_alike}
use Rattle.load_engine.specs.Loads.{Loadable, LoadsKept, Workable, Loaded}
use Rattle.load_engine.proofs.Loading.{moved}

-- At first nothing is kept.
pub none_kept : {image starts : List ℕ} (rs : List Module) {loads : List ℕ} → length image ≤ length loads → LoadsKept image starts rs loads (replicate 128 0)
none_kept rs long =
    record {
      long = long;
      largest = λ j here some. absurd (omega (arith, all_alike {A = ℕ} 128 j 0));
      there = λ j here some. absurd (omega (arith, all_alike {A = ℕ} 128 j 0));
    }

abbrev pub none-worked :
    {image starts nets : List ℕ} {k entries : ℕ} {loads : List ℕ}
    → Loadable image starts nets k entries
    → length image ≤ length loads
    → Workable image starts nets k entries loads (replicate 128 0)
none-worked s long = record { loadable = s; kept = none_kept s.rs long }

-- The same module in other entries that are enough.
abbrev pub work-moved :
    {image starts nets : List ℕ} {k entries entries' : ℕ} {loads known : List ℕ} (s : Workable image starts nets k entries loads known)
    → room s.loadable.rs (16 + k) ≤ entries'
    → Workable image starts nets k entries' loads known
work-moved s enough = record { loadable = moved s.loadable enough; kept = s.kept }

-- What is kept of a module is the answer.
pub looked_up :
    {image starts nets : List ℕ} {k entries : ℕ} {loads known scratch : List ℕ} {kept : ℕ} (s : Workable image starts nets k entries loads known)
    → kept ≡ get_or known k 0
    → 0 < kept
    → Loaded image starts s.loadable.rs s.loadable.scene.m k (kept - 1) scratch scratch loads known
looked_up {k = k} s is some =
    let here = s.loadable.scene.here in
    record {
      largest = omega (arith, s.kept.largest k here (omega arith));
      there = s.kept.there k here (omega arith);
      kept = s.kept;
      behind = refl;
    }
