-- What a printed text lists is within the ceilings of reading.
use Rattle.std.specs.Prelude.{◌≤◌, List, [], ◌∷◌, map, length}
use Rattle.std.proofs.Common.{arith}
use Rattle.std.proofs.lemmas.List.{length-map}
use Rattle.meaning.specs.Lists.{All, none, more}
use Rattle.meaning.specs.Syntax.{Occurrence, Module}
use Rattle.meaning.specs.Ceilings.{OccurrenceWithin, ModuleWithin, ModulesWithin}
use Rattle.meaning.specs.ListForm.{Name}
use Rattle.meaning.specs.ListNumbers.{entered, each_name, apart_from_gates, mentions_of, mentions}
use Rattle.meaning.specs.ListLimits.{OccurrenceFits, ModuleFits, ListFits}
use Rattle.printed.specs.Listed.{listed_occurrence, listed_module, listed}
use Rattle.printed.specs.Few.{few-entered, called_from, called-count}
use Rattle.printed.specs.ReadBack.{NoGate}
use Rattle.printed.specs.Fits.{all_append, all_found, nets-fit, name-short, short-named, nets-few, ModuleName, apart-found, module_number, referred-number}

occurrences-fit : (os : List Occurrence) → All OccurrenceWithin os → All OccurrenceFits (map listed_occurrence os)
occurrences-fit [] none = none
occurrences-fit (o ∷ os) (more w ws) =
    more (record { drives = nets-fit o.drives w.drives; refers = name-short o.refers w.refers; takes = nets-fit o.takes w.takes })
    (occurrences-fit os ws)

modules-fit : (ms : List Module) → All ModuleWithin ms → All ModuleFits (listed ms)
modules-fit [] none = none
modules-fit (m ∷ ms) (more w ws) =
    more {x = listed_module m}
    (record {
      name = short-named m.number w.number;
      inputs = nets-fit m.inputs w.inputs;
      outputs = nets-fit m.outputs w.outputs;
      count = rw length-map w.count;
      occurrences = occurrences-fit m.occurrences w.occurrences;
      nets = nets-few m w;
    })
    (modules-fit ms ws)

references_called : (os : List Occurrence) → All OccurrenceWithin os → All ModuleName (map (λ c. c.refers) (map listed_occurrence os))
references_called [] none = none
references_called (o ∷ os) (more w ws) = more (referred-number o.refers w.refers) (references_called os ws)

mentions-called : (ms : List Module) → All ModuleWithin ms → All NoGate ms → All ModuleName (each_name mentions_of (listed ms))
unfolding each_name
mentions-called [] none none = none
mentions-called (m ∷ ms) (more w ws) (more high highs) =
    all_append (more (λ h. module_number m.number w.number high) (references_called m.occurrences w.occurrences))
    (mentions-called ms ws highs)

names-few : (ms : List Module) → All ModuleWithin ms → All NoGate ms → length (entered [] (mentions (listed ms))) ≤ 16368
unfolding mentions
names-few ms w high =
    let said : List Name = each_name mentions_of (listed ms) in
    omega (
      arith,
      few-entered (apart_from_gates said) (called_from 77 16 16368)
          (λ a h. let r = apart-found a said h in all_found (mentions-called ms w high) a r.0 r.1),
      called-count 77 16 16368,
    )

pub listed-fits : (ms : List Module) → ModulesWithin ms → All NoGate ms → ListFits (listed ms)
listed-fits ms w high = record { count = rw length-map w.count; modules = modules-fit ms w.modules; names = names-few ms w.modules high }
