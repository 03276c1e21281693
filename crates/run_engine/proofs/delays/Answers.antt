-- `delays` meets its contract: the run starts from zeros in both lists, the latest are those of the outputs, and scratch is cleared. Assumes
-- nothing.
use Rattle.std.proofs.Common.{arith, ap, ◌∙◌}
use Rattle.meaning.specs.Figures.{largest}
use Rattle.meaning.specs.Family.{delay_in}
use Rattle.image.specs.Scenes.{in_starts, module_stands, module_there}
use Rattle.run_times.specs.Times.{one_each, times_work}
use Rattle.run_engine.proofs.Answers as answers
use Rattle.run_engine.proofs.delays.Goals as goal

pub module-header-requires : goal.module-header-requires
module-header-requires c =
    let scene = c.requires.callable.scene in
    record { starts_in_bounds = in_starts scene; module_there = module_there scene }

-- The header is that of any module that can be called in either list.
pub clear-requires : goal.clear-requires
clear-requires c =
    let e = c.requires.callable in
    let header = c.module-header.ensures e.scene.m (module_stands e.scene) in
    omega (arith, header.inputs, answers.inputs-fit e, answers.needed-given e, e.enough)

pub clear-requires-2 : goal.clear-requires-2
clear-requires-2 c =
    let e = c.requires.callable_2 in
    let header = c.module-header.ensures e.scene.m (module_stands e.scene) in
    omega (arith, header.inputs, answers.inputs-fit e, answers.needed-given e, e.enough)

pub run_module-requires : goal.run_module-requires
run_module-requires c =
    let one = c.requires.callable in
    let other = c.requires.callable_2 in
    record {
      runnable = answers.runnable one (answers.zeros-fed one (c.module-header.ensures one.scene.m (module_stands one.scene)) c.clear.ensures);
      runnable_2 =
          answers.runnable other (answers.zeros-fed other (c.module-header.ensures other.scene.m (module_stands other.scene)) c.clear-2.ensures);
    }

pub latest-latest-requires : goal.latest-latest-requires
latest-latest-requires c =
    let one = c.requires.callable in
    let other = c.requires.callable_2 in
    let header = c.module-header.ensures one.scene.m (module_stands one.scene) in
    let header' = c.module-header.ensures other.scene.m (module_stands other.scene) in
    let fed = answers.zeros-fed one header c.clear.ensures in
    let fed' = answers.zeros-fed other header' c.clear-2.ensures in
    record {
      readable =
          answers.outputs-readable one fed (times_work one_each) (c.run_module.ensures.unit (answers.runnable one fed)) header c.run_module.auto.units;
      readable_2 =
          answers.outputs-readable other fed' (times_work (delay_in c.args.family.delays)) (c.run_module.ensures.family (answers.runnable other fed')) header'
          c.run_module.auto.others;
    }

pub clear-requires-3 : goal.clear-requires-3
clear-requires-3 c =
    let e = c.requires.callable in
    let fed = answers.zeros-fed e (c.module-header.ensures e.scene.m (module_stands e.scene)) c.clear.ensures in
    omega (arith, c.run_module.auto.units, answers.fed-size e fed, e.enough)

pub returns : goal.returns
returns c =
    record {
      unit = λ e.
          let header = c.module-header.ensures e.scene.m (module_stands e.scene) in
          let fed = answers.zeros-fed e header c.clear.ensures in
          c.latest-latest.ensures.unit
          ∙ ap largest (answers.outputs-read e fed (times_work one_each) (c.run_module.ensures.unit (answers.runnable e fed)) header);
      family = λ e.
          let header = c.module-header.ensures e.scene.m (module_stands e.scene) in
          let fed = answers.zeros-fed e header c.clear-2.ensures in
          c.latest-latest.ensures.family
          ∙ ap largest
          (answers.outputs-read e fed (times_work (delay_in c.args.family.delays)) (c.run_module.ensures.family (answers.runnable e fed)) header);
      cleared =
          let e = c.requires.callable in
          let fed = answers.zeros-fed e (c.module-header.ensures e.scene.m (module_stands e.scene)) c.clear.ensures in
          answers.leaves-clean e fed (times_work one_each) (c.run_module.ensures.unit (answers.runnable e fed)) c.clear-3.ensures;
    }
