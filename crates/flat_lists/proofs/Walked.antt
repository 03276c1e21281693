-- The walk of a module that can be placed, and the bytes that it leaves: the gates of the flattened file, and behind them what stands in
-- front of them there.
use Rattle.std.specs.Prelude.{Result}
use Rattle.refusals.specs.declared.Refusal.{Refusal}
use Prim.Native.Nat.{ℕ, ◌-◌, ◌≤◌}
use mathlib.Core.Path.{◌≡◌, sym, ap, ap₂, subst, ◌∙◌}
use mathlib.Core.List.{List, ◌++◌, append_assoc}
use native.Mathlib.Omega.{arith}
use lib.ListN.{length, take, drop, length-append}
use lib.Seq.{take_at, drop_at}
use Rattle.meaning.specs.Syntax.{Module}
use Rattle.meaning.specs.Calls.{flat_file, fitting}
use Rattle.bytes_out.specs.Puts.{front-within}
use Rattle.flat_engine.specs.Flat.{gates_of, front_of, flat_of, Flattenable, Flattened}
use Rattle.flat_engine.specs.FlatBytes.{parts-of-flat}
use Rattle.flat_engine.specs.declared.Ends.{Ends}
use Rattle.answers.specs.Settled.{Settles}
use Rattle.open_finding.specs.declared.Site.{Site}
use Rattle.flat_lists.specs.Placeable.{Placeable}
use Rattle.flat_ending.specs.Order.{front_first}
use Rattle.flat_lists.proofs.Engine.{flattenable}

module _ {image starts nets : List ℕ} {site : Site} {entries bytes bytes' : List ℕ} {ends : Ends}
    (done :
    (f : Flattenable image starts nets site.position site.number entries bytes)
    → Flattened f.ms site.number f.m bytes bytes' ends)
    (p : Placeable image starts nets site (length entries) (length bytes)) where
  abbrev flat : Module
  flat = flat_of p.here.ms site.number p.here.found.m

  walked : Flattened p.here.ms site.number p.here.found.m bytes bytes' ends
  walked = done (flattenable p)

  pub whole-within : ends.whole ≤ length bytes'
  whole-within = front-within walked.filled

  pub gates-within : ends.gates ≤ ends.whole
  gates-within = omega (arith, walked.gates, walked.filled.size, length-append (gates_of flat) (front_of flat))

  -- In the order of the file they are the flattened file, and what is answered with them is answered with it.
  parts : front_first bytes' ends.gates ends.whole ≡ flat_file p.here.ms site.number p.here.found.m
  parts =
      let gates = gates_of flat in
      let front = front_of flat in
      let rest = drop ends.whole bytes in
      let held = walked.filled.holds ∙ append_assoc gates front rest in
      ap₂ ◌++◌
      (ap (λ (l : List ℕ). take (ends.whole - ends.gates) (drop ends.gates l)) held
      ∙ ap (take (ends.whole - ends.gates)) (drop_at gates (front ++ rest) ends.gates (sym walked.gates))
      ∙ take_at front rest (ends.whole - ends.gates) (omega (arith, walked.gates, walked.filled.size, length-append gates front)))
      (ap (take ends.gates) held ∙ take_at gates (front ++ rest) ends.gates (sym walked.gates))
      ∙ sym (parts-of-flat p.here.ms site.number p.here.found.m)

  pub parts_flatten :
      {scratch out scratch' out' : List ℕ} {result : Result ℕ Refusal}
      → Settles (fitting (front_first bytes' ends.gates ends.whole) site.room (length out)) scratch out scratch' out' result
      → Settles (fitting (flat_file p.here.ms site.number p.here.found.m) site.room (length out)) scratch out scratch' out' result
  parts_flatten {scratch} {out} {scratch'} {out'} {result} answered =
      subst (λ (file : List ℕ). Settles (fitting file site.room (length out)) scratch out scratch' out' result) parts answered
