-- What a printed text is read to are the file's modules under other numbers: nets by first appearance in each module, modules from 16 by
-- first mention.
use Rattle.std.specs.Prelude.{◌≡◌}
use Rattle.std.proofs.Math.Path.{refl, subst}
use Rattle.std.proofs.Common.{sym}
use mathlib.Core.List.{List, [], ◌∷◌, ◌++◌, map}
use Rattle.meaning.specs.Lists.{All, none, more}
use Rattle.meaning.specs.Syntax.{Occurrence, Module}
use Rattle.meaning.specs.Ceilings.{OccurrenceWithin, ModuleWithin}
use Rattle.meaning.specs.Ndl.{net_text}
use Rattle.meaning.specs.ListForm.{Name}
use Rattle.meaning.specs.ListNumbers.{position, entered, each_name, occurrence_nets, nets_of, mentions_of, mentions, number_among, numbered_occurrence, numbered_module, numbered}
use Rattle.meaning.specs.ListPrint.{module_name, name_of}
use Rattle.laws.specs.Texts.Shelved.{Inside, in_left, in_right, in_head, in_tail}
use Rattle.renaming.specs.Renamed.{KeepsGates, rename_occurrence, rename_module, Renamed}
use Rattle.renaming.specs.Renamed as renaming
use Rattle.printed.specs.Listed.{listed_occurrence, listed_module, listed}
use Rattle.printed.proofs.Behind.{behind-one, gates-kept}
use Rattle.printed.specs.Numbers.{places, rename_net, rename_number}
use Rattle.printed.proofs.Numbers.{nets_renamed, module_renamed, name_renamed}
use Rattle.printed.specs.ReadBack.{NoGate, numbers_of, mentioned-known, referred-known, net-entered, renumber}

module _ (mentioned nets : List Name) where
  occurrences_renamed : (os : List Occurrence) → All OccurrenceWithin os
      → Inside (map (λ c. c.refers) (map listed_occurrence os)) mentioned → Inside (each_name occurrence_nets (map listed_occurrence os)) nets
      → map (numbered_occurrence (numbers_of mentioned) nets) (map listed_occurrence os) ≡ map (rename_occurrence (rename_net nets) (rename_number (numbers_of mentioned))) os
  unfolding each_name
  occurrences_renamed [] none names inside = refl
  occurrences_renamed (o ∷ os) (more w ws) names inside =
      let rest : map (numbered_occurrence (numbers_of mentioned) nets) (map listed_occurrence os) ≡ map (rename_occurrence (rename_net nets) (rename_number (numbers_of mentioned))) os =
      occurrences_renamed os ws (λ a h. names a (in_tail a (name_of o.refers) _ h)) (λ a h. inside a (in_right a (map net_text o.drives ++ map net_text o.takes) _ h)) in
      let drives : map (λ a. position a nets) (map net_text o.drives) ≡ map (rename_net nets) o.drives =
      nets_renamed nets o.drives w.drives.numbers
      (λ a h. inside a (in_left a (map net_text o.drives ++ map net_text o.takes) _ (in_left a (map net_text o.drives) (map net_text o.takes) h))) in
      let takes : map (λ a. position a nets) (map net_text o.takes) ≡ map (rename_net nets) o.takes =
      nets_renamed nets o.takes w.takes.numbers
      (λ a h. inside a (in_left a (map net_text o.drives ++ map net_text o.takes) _ (in_right a (map net_text o.drives) (map net_text o.takes) h))) in
      let refers : number_among (numbers_of mentioned) (name_of o.refers) ≡ rename_number (numbers_of mentioned) o.refers =
      name_renamed (numbers_of mentioned) o.refers w.refers
      (referred-known mentioned o.refers (names (name_of o.refers) (in_head (name_of o.refers) _))) in
      cc (drives, refers, takes, rest)

module _ (mentioned : List Name) where
  one_renamed : (m : Module) → ModuleWithin m → NoGate m → Inside (mentions_of (listed_module m)) mentioned
      → numbered_module (numbers_of mentioned) (listed_module m)
      ≡ rename_module (rename_net (entered [] (nets_of (listed_module m)))) (rename_number (numbers_of mentioned)) m
  unfolding numbered_module nets_of
  one_renamed m w high names =
      let nets : List Name = entered [] (nets_of (listed_module m)) in
      let number : number_among (numbers_of mentioned) (module_name m.number) ≡ rename_number (numbers_of mentioned) m.number =
      module_renamed (numbers_of mentioned) m.number w.number high
      (mentioned-known mentioned m.number (names (module_name m.number) (in_head (module_name m.number) _))) in
      let inputs : map (λ a. position a nets) (map net_text m.inputs) ≡ map (rename_net nets) m.inputs =
      nets_renamed nets m.inputs w.inputs.numbers (λ a h. net-entered mentioned m a (in_left a (map net_text m.inputs) _ h)) in
      let outputs : map (λ a. position a nets) (map net_text m.outputs) ≡ map (rename_net nets) m.outputs =
      nets_renamed nets m.outputs w.outputs.numbers
      (λ a h. net-entered mentioned m a (in_right a (map net_text m.inputs) _ (in_left a (map net_text m.outputs) _ h))) in
      let occurrences : map (numbered_occurrence (numbers_of mentioned) nets) (map listed_occurrence m.occurrences)
      ≡ map (rename_occurrence (rename_net nets) (rename_number (numbers_of mentioned))) m.occurrences =
      occurrences_renamed mentioned nets m.occurrences w.occurrences
      (λ a h. names a (in_tail a (module_name m.number) _ h))
      (λ a h. net-entered mentioned m a (in_right a (map net_text m.inputs) _ (in_right a (map net_text m.outputs) _ h))) in
      cc (number, inputs, outputs, occurrences)

  modules_renamed : (ms : List Module) → All ModuleWithin ms → All NoGate ms → Inside (each_name mentions_of (listed ms)) mentioned
      → Renamed (rename_number (numbers_of mentioned)) ms (map (numbered_module (numbers_of mentioned)) (listed ms))
  unfolding each_name
  modules_renamed [] none none names = renaming.none
  modules_renamed (m ∷ ms) (more w ws) (more high highs) names =
      subst (λ (k : Module). Renamed (rename_number (numbers_of mentioned)) (m ∷ ms) (k ∷ map (numbered_module (numbers_of mentioned)) (listed ms)))
      (sym (one_renamed m w high (λ a h. names a (in_left a (mentions_of (listed_module m)) _ h))))
      (renaming.more (rename_net (entered [] (nets_of (listed_module m)))) (behind-one (places 78 (entered [] (nets_of (listed_module m)))))
      (modules_renamed ms ws highs (λ a h. names a (in_right a (mentions_of (listed_module m)) _ h))))

pub renumber-keeps : (ms : List Module) → KeepsGates (renumber ms)
unfolding renumber
renumber-keeps ms = gates-kept (places 77 (entered [] (mentions (listed ms))))

pub read_back : (ms : List Module) → All ModuleWithin ms → All NoGate ms → Renamed (renumber ms) ms (numbered (listed ms))
unfolding renumber numbered mentions
read_back ms w high = modules_renamed (each_name mentions_of (listed ms)) ms w high (λ a h. h)
