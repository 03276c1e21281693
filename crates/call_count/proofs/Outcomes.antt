-- What a count comes to at each of its ends.
use Prim.Native.Nat.{ℕ, ◌≤◌, ◌<◌}
use mathlib.Core.Path.{◌≡◌, refl, ap, ◌∙◌}
use mathlib.Core.List.{List, ◌++◌}
use native.Mathlib.Omega.{arith}
use borrow.Author.Tests.{le-leb, lt-leb}
use lib.ListN.{length, drop, replicate, length-replicate}
use lib.Seq.{drop_at}
use Rattle.std.specs.Prelude.{Ok, Err}
use Rattle.refusals.specs.Refused.{refusal_at}
use Rattle.meaning.specs.Figures.{room}
use Rattle.meaning.specs.Calls.{Figures as Meant, figures_on}
use Rattle.meaning.specs.Family.{family_delay, summary_on}
use Rattle.run_engine.specs.Calls.{cleared}
use Rattle.open_finding.specs.Standing.{Standing}
use Rattle.open_finding.specs.declared.Site.{Site}
use Rattle.call_count.specs.Answers.{Counts, figures_of}
use Rattle.call_count.specs.Figuring.{Figured}
use Rattle.call_count.specs.declared.counts.Figures.{Figures}

-- Clearing the same entries twice is clearing them once.
cleared-twice : (n : ℕ) (scratch : List ℕ) → cleared n (cleared n scratch) ≡ cleared n scratch
cleared-twice n scratch =
    ap (λ (l : List ℕ). replicate n 0 ++ l) (drop_at (replicate n 0) (drop n scratch) n (length-replicate n 0))

module _ {image starts nets : List ℕ} {site : Site} (s : Standing image starts nets site) (family scratch : List ℕ) where
  -- 21: scratch has fewer entries than room.
  pub short-counts :
      length scratch < site.room → Counts (summary_on family site.number (length scratch) s.ms s.found.m) scratch scratch (Err (refusal_at 21 0))
  short-counts short =
      rw (lt-leb (room s.ms site.number) (length scratch) (omega (arith, s.room_is))) (record { is = refl; scratch = refl })

  -- The figures are the answer.
  pub answer-counts :
      {scratch' : List ℕ} → site.room ≤ length scratch → (figures : Figures)
      → Figured s.ms site.number s.found.m family scratch scratch' figures
      → Counts (summary_on family site.number (length scratch) s.ms s.found.m) scratch scratch' (Ok figures)
  answer-counts enough figures f =
      rw (le-leb (room s.ms site.number) (length scratch) (omega (arith, s.room_is)))
      (record { is = ap Ok f.is; scratch = f.clean })

module _ {image starts nets : List ℕ} {site : Site} (s : Standing image starts nets site) (scratch : List ℕ) where
  -- Scratch is cleared by the walk for the delays, and again by that for tally and load.
  pub scratch-is :
      {scratch' scratch'' : List ℕ} → scratch' ≡ cleared site.room scratch → scratch'' ≡ cleared site.room scratch'
      → scratch'' ≡ cleared (room s.ms site.number) scratch
  scratch-is first second =
      second ∙ ap (cleared site.room) first ∙ cleared-twice site.room scratch ∙ ap (λ (n : ℕ). cleared n scratch) s.room_is

-- All figures together.
module _ {image starts nets : List ℕ} {site : Site} (s : Standing image starts nets site) (family : List ℕ) where
  abbrev meant : Meant
  meant = figures_on site.number s.ms s.found.m

  pub figures-are :
      {inputs outputs gates delay load by_family : ℕ} {counts : List ℕ}
      → inputs ≡ meant.inputs
      → outputs ≡ meant.outputs
      → counts ≡ meant.tally
      → gates ≡ meant.gates
      → delay ≡ meant.delay
      → load ≡ meant.load
      → by_family ≡ family_delay family s.ms site.number
      → ◌≡◌ {A = Figures}
      (record {
        inputs = inputs;
        outputs = outputs;
        tally = record { counts = counts };
        gates = gates;
        size = site.size;
        room = site.room;
        delay = delay;
        load = load;
        family = by_family;
      })
      (figures_of (record { figures = meant; family_delay = family_delay family s.ms site.number }))
  figures-are a b c d e f g = rw (a, b, c, d, e, f, g, s.size_is, s.room_is)
