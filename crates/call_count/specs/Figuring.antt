-- What working out the figures of a module answers.
use Rattle.std.specs.Prelude.{ℕ, ◌≡◌, List}
use Rattle.meaning.specs.Syntax.{Module}
use Rattle.meaning.specs.Figures.{room}
use Rattle.meaning.specs.Calls.{figures_on}
use Rattle.meaning.specs.Family.{family_delay}
use Rattle.run_engine.specs.Calls.{cleared}
use Rattle.call_count.specs.Answers.{figures_of}
use Rattle.call_count.specs.declared.counts.Figures.{Figures}

pub record Figured (ms : List Module) (number : ℕ) (m : Module) (family scratch scratch' : List ℕ) (result : Figures) : Type 0 where
  pub is : result ≡ figures_of (record { figures = figures_on number ms m; family_delay = family_delay family ms number })
  pub clean : scratch' ≡ cleared (room ms number) scratch
