-- `evaluate` meets its contract: the values are loaded, the outputs are read off the frame, and scratch is cleared. Assumes nothing.
use Rattle.std.proofs.Common.{◌++◌, List, ℕ, length, drop, arith, sym, ap, ◌∙◌}
use Rattle.std.proofs.Math.Path.{subst}
use Rattle.meaning.specs.Ceilings.{Bytes}
use Rattle.run_walk.specs.Valuing.{value_work}
use Rattle.image.specs.Scenes.{in_starts, module_stands, module_there}
use Rattle.run_engine.proofs.Entering.{entries-bytes}
use Rattle.run_engine.proofs.Answers as answers
use Rattle.run_engine.proofs.evaluate.Goals as goal

pub module-header-requires : goal.module-header-requires
module-header-requires c =
    let scene = c.requires.callable.scene in
    record { starts_in_bounds = in_starts scene; module_there = module_there scene }

pub load-requires : goal.load-requires
load-requires c =
    let e = c.requires in
    omega (arith, e.fed, answers.inputs-fit e.callable, answers.needed-given e.callable, e.callable.enough)

pub run_module-requires : goal.run_module-requires
run_module-requires c =
    let e = c.requires in
    answers.runnable e.callable (answers.values-fed e.callable c.args.values.now e.fed c.load.ensures)

pub give-requires : goal.give-requires
give-requires c =
    let a = c.args in
    let e = c.requires in
    let call = e.callable in
    let fed = answers.values-fed call a.values.now e.fed c.load.ensures in
    let run = c.run_module.ensures (answers.runnable call fed) in
    let header = c.module-header.ensures call.scene.m (module_stands call.scene) in
    record {
      readable = answers.outputs-readable call fed value_work run header c.run_module.auto.scratch;
      bytes =
          subst Bytes (sym (answers.outputs-read call fed value_work run header))
          (answers.answers-bytes call.rs a.k (entries-bytes a.values.now));
      room = omega (arith, answers.outputs-counted call fed value_work run header, e.fits);
    }

pub returns : goal.returns
returns c e =
    let a = c.args in
    let call = e.callable in
    let fed = answers.values-fed call a.values.now e.fed c.load.ensures in
    let run = c.run_module.ensures (answers.runnable call fed) in
    let header = c.module-header.ensures call.scene.m (module_stands call.scene) in
    record {
      outputs =
          c.give.ensures
          ∙ ap (λ (l : List ℕ). l ++ drop (length l) a.out.now) (answers.outputs-read call fed value_work run header);
      clean = answers.leaves-clean call fed value_work run c.clear.ensures;
    }
