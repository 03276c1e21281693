-- The tally of a module that a call found: it can be counted where it stands, and what is answered of its position is meant of its number.
use Rattle.std.specs.Prelude.{ℕ, ◌+◌, ◌<◌, ◌^◌, ◌≡◌, List}
use Rattle.std.proofs.Common.{sym, subst}
use Rattle.meaning.specs.Figures.{gate_count, tally}
use Rattle.laws.specs.Figures.Tally.{total}
use Rattle.open_finding.specs.Standing.{Standing, accepted}
use Rattle.open_finding.specs.OnImage.{scene}
use Rattle.open_finding.specs.declared.Site.{Site}
use Rattle.tally_engine.specs.Tallies.{Countable}
use Rattle.tally_engine.specs.Answers as answers

module _ {image starts nets : List ℕ} {site : Site} (s : Standing image starts nets site) where
  pub countable : Countable image starts site.position
  countable =
      subst (Countable image starts) s.found.placed
      (answers.countable (accepted s.held) (scene s).imaged site.number s.found.m s.found.found)

  pub tally-is :
      {counts : List ℕ} → ((e : Countable image starts site.position) → counts ≡ tally e.rs (16 + site.position))
      → counts ≡ tally s.ms site.number
  tally-is {counts} answer =
      answers.tallied (accepted s.held) (scene s).imaged site.number s.found.m s.found.found
      (subst (λ (p : ℕ). (e : Countable image starts p) → counts ≡ tally e.rs (16 + p)) (sym s.found.placed) answer)

  module _ {counts : List ℕ} (same : counts ≡ tally s.ms site.number) where
    pub tally-fits : total counts < 2 ^ 32
    tally-fits = rw same (answers.tally-fits (accepted s.held) site.number)

    pub gates-are : {gates : ℕ} → gates ≡ total counts → gates ≡ gate_count s.ms site.number
    gates-are = answers.gates-counted s.ms site.number same
