-- Which lists of modules the check accepts: those for which BOXLIST-OKP of document 000 holds and which keep our own three limits.
use Rattle.std.specs.Prelude.{◌≤◌, ◌≡◌, true, List}
use Rattle.meaning.specs.Syntax.{Module}
use Rattle.meaning.specs.Members.{◌∈◌}
use Rattle.meaning.specs.Boxlist.{boxlist_okp}
use Rattle.meaning.specs.Limits.{net_count, expanded_size, most_module_nets, most_size}

pub record Acceptable (ms : List Module) : Type 0 where
  pub well_formed : boxlist_okp ms ≡ true
  pub numbers : (m : Module) → m ∈ ms → 16 ≤ m.number
  pub nets : (m : Module) → m ∈ ms → net_count m ≤ most_module_nets
  pub sizes : (m : Module) → m ∈ ms → expanded_size ms m.number ≤ most_size
