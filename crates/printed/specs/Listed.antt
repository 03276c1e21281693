-- The lists that a printed text writes: a file's modules, with names in the place of numbers.
use Rattle.std.specs.Prelude.{List, map}
use Rattle.meaning.specs.Syntax.{Occurrence, Module}
use Rattle.meaning.specs.Ndl.{net_text}
use Rattle.meaning.specs.ListForm.{ListedOccurrence, ListedModule}
use Rattle.meaning.specs.ListPrint.{module_name, name_of}

abbrev pub listed_occurrence : Occurrence → ListedOccurrence
listed_occurrence o = record { drives = map net_text o.drives; refers = name_of o.refers; takes = map net_text o.takes }

abbrev pub listed_module : Module → ListedModule
listed_module m =
    record {
      name = module_name m.number;
      inputs = map net_text m.inputs;
      outputs = map net_text m.outputs;
      occurrences = map listed_occurrence m.occurrences;
    }

abbrev pub listed : List Module → List ListedModule
listed ms = map listed_module ms
