-- From an accepted file to its tallies: its image meets what counting asks, and what is answered of a module's position is the tally of
-- the module's number in the file.
use Rattle.std.specs.Prelude.{ℕ, ◌+◌, ◌<◌, ◌^◌, ◌≡◌, List, map}
use Rattle.std.proofs.Common.{ap, ◌∙◌, arith}
use Rattle.std.proofs.Math.Path.{fun_ext}
use Rattle.meaning.specs.Syntax.{Module}
use Rattle.meaning.specs.Boxlist.{box, assoc}
use Rattle.meaning.specs.Figures.{gate_count, kind_count, tally}
use Rattle.meaning.specs.Adder.{up_from}
use Rattle.laws.specs.WellFormed.{Accepted}
use Rattle.laws.specs.Acceptable.{size-within}
use Rattle.laws.specs.Bounds.{gates-within}
use Rattle.laws.specs.Figures.Tally.{total, total-of-tally}
use Rattle.image.specs.Resolved.{position_of, resolve}
use Rattle.image.specs.Fitting.{Fits, accepted-fits}
use Rattle.image.specs.ResolvedFigures.{expanded_size-resolved, gate_weight-resolved}
use Rattle.image.specs.Imaged.{Imaged}
use Rattle.image.specs.Scenes.{found-scene}
use Rattle.tally_engine.specs.Tallies.{one_of, Countable}

-- Resolution keeps the tally.
tally-resolved :
    {ms : List Module} → Fits ms → (number : ℕ) (m : Module) → assoc number ms ≡ box m
    → tally (resolve ms) (16 + position_of number ms) ≡ tally ms number
unfolding tally kind_count up_from
tally-resolved fits number m found =
    ap (λ (count : ℕ → ℕ). map count (up_from 0 16)) (fun_ext (λ kind. gate_weight-resolved fits number m found (λ gate. one_of gate kind)))

module _
    {image starts nets : List ℕ} {ms : List Module} (accepted : Accepted ms) (imaged : Imaged image starts nets (resolve ms))
    (number : ℕ) (m : Module) (found : assoc number ms ≡ box m) where
  pub countable : Countable image starts (position_of number ms)
  countable =
      record {
        rs = resolve ms;
        nets = nets;
        scene = found-scene ms imaged number found;
        size = omega (arith, expanded_size-resolved (accepted-fits accepted) number m found, size-within accepted number);
      }

  pub tallied :
      {counts : List ℕ}
      → ((s : Countable image starts (position_of number ms)) → counts ≡ tally s.rs (16 + position_of number ms))
      → counts ≡ tally ms number
  unfolding countable
  tallied answer = answer countable ∙ tally-resolved (accepted-fits accepted) number m found

-- The sum of the tally: it fits, and it is the gate count.
pub tally-fits : {ms : List Module} → Accepted ms → (number : ℕ) → total (tally ms number) < 2 ^ 32
tally-fits {ms} accepted number = omega (arith, total-of-tally ms number, gates-within accepted number)

pub gates-counted :
    (ms : List Module) (number : ℕ) {counts : List ℕ} {gates : ℕ}
    → counts ≡ tally ms number
    → gates ≡ total counts
    → gates ≡ gate_count ms number
gates-counted ms number tallied summed = summed ∙ ap total tallied ∙ total-of-tally ms number
