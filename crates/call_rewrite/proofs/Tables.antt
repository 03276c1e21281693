-- The tables that deciding the ceilings asks, from the file in the image and the counts of its four gates.
use Prim.Native.Nat.{ℕ, ◌+◌, ◌≤◌, ◌<◌, zero-le}
use Rattle.std.specs.Prelude.{Option, None, Some}
use mathlib.Core.Path.{◌≡◌, sym, ap, ◌∙◌}
use mathlib.Core.Bool.{Bool, true, false, cond}
use mathlib.Core.List.{List, ◌∷◌}
use native.Mathlib.Omega.{arith}
use lib.ListN.{length, get_or, drop, length-drop, length-map}
use Rattle.meaning.specs.Syntax.{Module}
use Rattle.meaning.specs.Limits.{net_count, most_module_nets, most_size}
use Rattle.meaning.specs.Figures.{body_weight}
use Rattle.meaning.specs.Reading.{most_occurrences, most_modules}
use Rattle.meaning.specs.Layout.{module_numbers}
use Rattle.meaning.specs.Verdict.{sizes_verdict}
use Rattle.meaning.specs.Calls.{refusal}
use Rattle.meaning.specs.Withdrawn.{withdrawn, occurrences_ok, nets_verdict, rewritten}
use Rattle.laws.specs.Acceptable.{size-within}
use Rattle.laws.specs.Standing.{stands, keeps-rules}
use Rattle.laws.specs.Bounds.{weight_size}
use Rattle.laws.specs.Figures.Bounds.{found_within}
use Rattle.laws.specs.Withdrawn.Counts.{four_weight, fours_reached}
use Rattle.image.specs.Resolved.{resolve_module, refer_to, resolve_occurrence, slot_in, resolve}
use Rattle.image.specs.ResolvedLayout.{length-of-resolve}
use Rattle.image.specs.ResolvedFigures.{gate_weight-resolved}
use Rattle.image.specs.Searching.{expanded_size-search, gate_weight-search}
use Rattle.image.specs.OwnNumbers.{Own, own-number, says-own}
use Rattle.image.specs.Stands.{Stands}
use Rattle.open_finding.specs.Here.{here-at}
use Rattle.open_finding.specs.Standing.{accepted, fits}
use Rattle.rewrite_counts.specs.Fours.{Countable, Counted}
use Rattle.rewrite_counts.specs.Ceilings.{Entry, OwnTable, Peopled, Netted, Sized, verdict_by}
use Rattle.call_rewrite.specs.Standing.{Stood, countable, own-table}
use Rattle.call_rewrite.specs.Growing.{Grown, finished}

one_at_most : (b : Bool) → cond b 1 0 ≤ 1
one_at_most true = omega arith
one_at_most false = omega arith

module _ {image starts nets sizes : List ℕ} {modules long : ℕ} (g : Grown image starts nets sizes modules long) where
  abbrev pub stood : Stood image starts modules
  stood = record { ms = g.ms; nets = nets; held = g.held; all = g.all }

  abbrev pub growable : {reached : ℕ} → most_modules ≤ reached → Countable image starts modules long reached
  growable wide = countable stood g.own_long wide

  module _ (k : ℕ) (m : Module) (later : List Module) (here : drop k g.ms ≡ m ∷ later) where
    own-here : Own g.ms k m
    own-here = own-number (fits g.held) k here

    pub few-here : length m.occurrences ≤ most_occurrences
    few-here = (found_within m.number m g.held.within own-here.found).count

    pub nets-here : net_count m ≤ most_module_nets
    nets-here = (keeps-rules (accepted g.held) (stands m.number g.ms own-here.found)).1.nets

    pub stands_here : (r : Module) × Stands image (get_or starts k 0) (module_numbers r) × (length r.occurrences ≡ length m.occurrences)
    unfolding resolve_module
    stands_here =
        (resolve_module (refer_to g.ms) k m, g.held.shelved.standing k here, length-map m.occurrences (resolve_occurrence (slot_in m) (refer_to g.ms)))

  module _ {own reached : List ℕ} (wide : most_modules ≤ length own) (counted : Counted (resolve g.ms) 0 own reached) where
    abbrev table : OwnTable own modules
    table = own-table stood wide counted

    abbrev pub peopled : Peopled image starts own modules
    peopled = record { table = table; started = g.held.shelved.started; stands = stands_here; few = few-here }

    abbrev pub netted : Netted nets own modules
    netted =
        record { table = table; long = g.held.shelved.tabled; entry = λ k m later here. g.held.shelved.counted k here; few = nets-here }

    pub reach_here : Entry g.ms reached (λ m later. body_weight four_weight (fours_reached later) m.occurrences)
    unfolding fours_reached
    reach_here k m later here =
        let o = own-here k m later here in
        counted.tabled.entry k zero-le (omega (arith, ap length here, length-drop k g.ms, length-of-resolve g.ms))
        ∙ ap (λ (j : ℕ). fours_reached (resolve g.ms) (16 + j)) (sym o.placed)
        ∙ gate_weight-resolved (fits g.held) m.number m o.found four_weight
        ∙ says-own (gate_weight-search four_weight) (fits g.held) k here

    pub low-here : (k : ℕ) → k < length g.ms → (get_or sizes k 0 ≤ most_size) × (get_or reached k 0 ≤ most_size)
    unfolding fours_reached
    low-here k low =
        let h = here-at g.ms k low in
        let size = g.sizes_are k h.m h.later h.here ∙ sym (says-own expanded_size-search (fits g.held) k h.here) in
        let reach = reach_here k h.m h.later h.here ∙ sym (says-own (gate_weight-search four_weight) (fits g.held) k h.here) in
        let within = size-within (accepted g.held) h.m.number in
        let light = weight_size four_weight (λ kind. one_at_most (withdrawn kind)) g.ms h.m.number in
        (omega arith, omega arith)

    abbrev pub sized : Sized sizes reached modules
    sized =
        record {
          ms = g.ms;
          all = g.all;
          sizes_long = g.sizes_long;
          reached_long = omega (arith, counted.tabled.long, length-of-resolve g.ms);
          size = g.sizes_are;
          reach = reach_here;
          low = low-here;
        }

-- What the three tests come to.
module _ (new : List Module) (out : ℕ) where
  pub too_many : occurrences_ok new ≡ false → rewritten out new ≡ refusal 4 0
  too_many e = rw e

  module _ (few : occurrences_ok new ≡ true) where
    pub crowded : {place : ℕ} {kept : Option ℕ} → nets_verdict 0 new ≡ verdict_by 16 kept → kept ≡ Some place → rewritten out new ≡ refusal 16 place
    crowded {place} e is = let v = e ∙ ap (verdict_by 16) is in rw (few, v)

    module _ {first : Option ℕ} (nets : nets_verdict 0 new ≡ verdict_by 16 first) (all : first ≡ None) where
      pub large : {place : ℕ} {kept : Option ℕ} → sizes_verdict 0 new ≡ verdict_by 17 kept → kept ≡ Some place → rewritten out new ≡ refusal 17 place
      large {place} e is =
          let n = nets ∙ ap (verdict_by 16) all in
          let v = e ∙ ap (verdict_by 17) is in
          rw (few, n, v)

      pub kept-all : {kept : Option ℕ} → sizes_verdict 0 new ≡ verdict_by 17 kept → kept ≡ None → rewritten out new ≡ finished new out
      kept-all e is =
          let n = nets ∙ ap (verdict_by 16) all in
          let v = e ∙ ap (verdict_by 17) is in
          rw (few, n, v)
