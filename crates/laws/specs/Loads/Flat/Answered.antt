-- Wherever flattening answers, a count of the bytes that it writes tells the largest load that a count of the file tells, where each has
-- the scratch that it needs.
use Rattle.std.specs.Prelude.{ℕ, ◌+◌, ◌≤◌, ◌≡◌, List, [], ◌∷◌, length}
use Rattle.std.proofs.Common.{◌∙◌, arith, le-leb}
use Rattle.meaning.specs.Ceilings.{Bytes}
use Rattle.meaning.specs.Figures.{gate_count, room}
use Rattle.meaning.specs.Calls.{Written, Figures, answer, flattening, figures_on, counting_on, counting}
use Rattle.laws.specs.Calls.{asked_here}
use Rattle.laws.specs.Demands.FlatRuns.{flattens, counted-here}

pub flattening-keeps-load :
    (file : List ℕ) (number scratch out : ℕ) (w : Written)
    → Bytes file
    → flattening file number scratch out ≡ answer w
    → (counted : ℕ) (figures : Figures)
    → counting file number counted ≡ answer figures
    → (scratch' : ℕ)
    → figures.inputs + figures.gates ≤ scratch'
    → (figures' : Figures) × (counting w.bytes number scratch' ≡ answer figures') × (figures'.load ≡ figures.load)
unfolding counting
flattening-keeps-load file number scratch out w bytes h counted figures count scratch' roomy =
    let all = flattens file number scratch out w bytes h in
    let flat = all.flat in
    let is = counted-here counted figures all.here count in
    let inputs : figures.inputs ≡ length all.m.inputs = rw is in
    let gates : figures.gates ≡ gate_count all.ms number = rw is in
    let fits : room (flat ∷ []) number ≤ scratch' = omega (arith, all.same.rooms) in (
      figures_on number (flat ∷ []) flat,
      asked_here (counting_on number scratch') all.there ∙ rw (le-leb (room (flat ∷ []) number) scratch' fits),
      rw is all.same.loads,
    )
