-- Bounds on the figures of an accepted list of modules that number types need. Those of gates, one kind of gate and room stand in
-- Bounds.antt, that of load in Loads/Bounds.antt.
use Rattle.std.specs.Prelude.{ℕ, ◌*◌, ◌≤◌, ◌≡◌, List, [], ◌∷◌, map}
use Rattle.std.proofs.Common.{le_trans, mul-le-mul_left, arith}
use Rattle.meaning.specs.Lists.{All, none, more}
use Rattle.meaning.specs.Syntax.{Module}
use Rattle.meaning.specs.Boxlist.{box, assoc}
use Rattle.meaning.specs.Limits.{most_module_nets, most_size}
use Rattle.meaning.specs.Reading.{most_modules}
use Rattle.meaning.specs.Ceilings.{ModuleWithin, Within}
use Rattle.meaning.specs.Figures.{tally, kind_count, room, delay_by, delay}
use Rattle.meaning.specs.Adder.{up_from}
use Rattle.laws.specs.WellFormed.{Accepted}
use Rattle.laws.specs.Bounds.{gates-within, kinds_within, room_within}
use Rattle.laws.specs.Standing.{stands, holds-standing}
use Rattle.laws.specs.Figures.Delay.{delay-below-gates, delay_by-below-gates}

pub tally-within : {ms : List Module} → Accepted ms → (number : ℕ) → All (λ n. n ≤ most_size) (tally ms number)
unfolding tally up_from
tally-within {ms} a number = each (up_from 0 16)
  where
    each : (kinds : List ℕ) → All (λ n. n ≤ most_size) (map (λ kind. kind_count kind ms number) kinds)
    each [] = none
    each (kind ∷ kinds) = more (kinds_within kind a number) (each kinds)

pub delay-within : {ms : List Module} → Accepted ms → (number : ℕ) → delay ms number ≤ most_size
delay-within {ms} a number = omega (arith, delay-below-gates ms number, gates-within a number)

-- With gates whose delays are at most `most`.
pub delay_by-within :
    {ms : List Module} (delays : ℕ → ℕ) (most : ℕ)
    → ((kind : ℕ) → delays kind ≤ most)
    → Accepted ms
    → (number : ℕ)
    → delay_by delays ms number ≤ most * most_size
delay_by-within {ms} delays most fast a number =
    le_trans (delay_by-below-gates delays most fast ms number) (mul-le-mul_left most (gates-within a number))

-- A file within the ceilings has few modules, and a module of it few inputs and outputs.
pub room-of-file : {ms : List Module} → Within ms → Accepted ms → (number : ℕ) → room ms number ≤ most_module_nets * most_modules
room-of-file {ms} w a number = le_trans (room_within a number) (mul-le-mul_left most_module_nets w.modules.count)

pub found_within : {ms : List Module} (number : ℕ) (m : Module) → Within ms → assoc number ms ≡ box m → ModuleWithin m
found_within {ms} number m w found = holds-standing w.modules.modules (stands number ms found)
