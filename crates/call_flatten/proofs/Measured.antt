-- How many nets a module has when it is flat, and which lists are long enough for it.
use Prim.Native.Nat.{ℕ, ◌+◌, ◌*◌, ◌≤◌}
use mathlib.Core.List.{List}
use native.Mathlib.Nat.{le_refl}
use native.Mathlib.Omega.{arith}
use lib.ListN.{length}
use Rattle.meaning.specs.Limits.{most_size}
use Rattle.meaning.specs.Reading.{most_nets}
use Rattle.meaning.specs.Figures.{gate_count}
use Rattle.meaning.specs.Calls.{flat_file}
use Rattle.laws.specs.Acceptable.{size-within}
use Rattle.laws.specs.Bounds.{weight_size}
use Rattle.laws.specs.Flatten.Bytes.{bytes-of-flat}
use Rattle.laws.specs.RoomBound.{room-of-bytes}
use Rattle.open_finding.specs.Standing.{Standing, accepted, module_within}
use Rattle.open_finding.specs.declared.Site.{Site}
use Rattle.flat_lists.specs.Placeable.{Placeable}

module _ {image starts nets : List ℕ} {site : Site} (s : Standing image starts nets site) where
  -- Inputs plus gates.
  abbrev pub flat_nets : ℕ
  flat_nets = length s.found.m.inputs + gate_count s.ms site.number

  -- Each gate is one of the visits that the expanded size counts, and there are at most 192 inputs.
  pub gates-low : gate_count s.ms site.number ≤ site.size
  unfolding gate_count
  gates-low = omega (arith, s.size_is, weight_size (λ kind. 1) (λ kind. le_refl 1) s.ms site.number)

  pub size_low : site.size ≤ most_size
  size_low = omega (arith, s.size_is, size-within (accepted s.held) site.number)

  pub inputs-low : length s.found.m.inputs ≤ most_nets
  inputs-low = (module_within s).inputs.count

  pub room-low : site.room ≤ 65535
  room-low = omega (arith, s.room_is, room-of-bytes s.held.within site.number)

  -- At most 13 bytes for each net, two for each output, and nine more.
  pub bytes_low : {places : ℕ} → 9 + 2 * most_nets + 13 * flat_nets ≤ places → length (flat_file s.ms site.number s.found.m) ≤ places
  unfolding flat_file
  bytes_low enough =
      omega (arith, bytes-of-flat s.ms site.number s.found.m s.held.good s.found.found, (module_within s).outputs.count)

  -- A module of small size and room is placed in short lists, any other in long ones.
  pub few-small : site.size ≤ 832 → flat_nets ≤ 1024
  few-small small = omega (arith, gates-low, inputs-low)

  abbrev pub small_placeable : site.size ≤ 832 → site.room ≤ 1024 → Placeable image starts nets site 1024 13705
  small_placeable small narrow =
      record { here = s; few = omega (arith, few-small small); enough = narrow; long = bytes_low (omega (arith, few-small small)) }

  abbrev pub long_placeable : {entries : ℕ} → site.room ≤ entries → flat_nets ≤ 4096 → Placeable image starts nets site entries 53641
  long_placeable enough few = record { here = s; few = few; enough = enough; long = bytes_low (omega arith) }
