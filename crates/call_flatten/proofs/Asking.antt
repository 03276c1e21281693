-- Refusals 24 and 21 in their order, and how the call goes on where neither is given.
use Rattle.std.specs.Prelude.{Result, Err}
use Rattle.refusals.specs.Refused.{refusal_at}
use Rattle.refusals.specs.declared.Refusal.{Refusal}
use Prim.Native.Nat.{ℕ, ◌<◌, ◌≤◌}
use mathlib.Core.Path.{refl}
use mathlib.Core.List.{List}
use native.Mathlib.Omega.{arith}
use lib.ListN.{length}
use borrow.Author.Tests.{le-leb, lt-leb}
use Rattle.meaning.specs.Figures.{room}
use Rattle.meaning.specs.Calls.{flat_file, fitting, flattening_on}
use Rattle.answers.specs.Settled.{Settles}
use Rattle.open_finding.specs.Standing.{Standing}
use Rattle.open_finding.specs.declared.Site.{Site}
use Rattle.call_flatten.proofs.Measured.{flat_nets}

module _ {image starts nets : List ℕ} {site : Site} (s : Standing image starts nets site) (scratch out : List ℕ) where
  abbrev Flattens : (scratch' out' : List ℕ) → Result ℕ Refusal → Type 0
  Flattens = Settles (flattening_on site.number (length scratch) (length out) s.ms s.found.m) scratch out

  pub asks-many : 4096 < flat_nets s → Flattens scratch out (Err (refusal_at 24 0))
  asks-many many = rw (lt-leb (flat_nets s) 4096 many) (record { answered = record { is = refl; out = refl }; scratched = refl })

  module _ (few : flat_nets s ≤ 4096) where
    pub asks-narrow : length scratch < site.room → Flattens scratch out (Err (refusal_at 21 0))
    asks-narrow narrow =
        rw (le-leb (flat_nets s) 4096 few, lt-leb (room s.ms site.number) (length scratch) (omega (arith, s.room_is)))
        (record { answered = record { is = refl; out = refl }; scratched = refl })

    pub asks-on :
        {scratch' out' : List ℕ} {result : Result ℕ Refusal}
        → site.room ≤ length scratch
        → Settles (fitting (flat_file s.ms site.number s.found.m) site.room (length out)) scratch out scratch' out' result
        → Flattens scratch' out' result
    asks-on enough answered = rw (le-leb (flat_nets s) 4096 few, ← s.room_is, le-leb site.room (length scratch) enough) answered
