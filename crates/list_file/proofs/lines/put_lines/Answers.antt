-- A module's line goes behind those that stand there.
use Rattle.std.proofs.Common.{arith, refl, ◌∙◌}
use Rattle.open_finding.specs.Here.{here-at}
use Rattle.list_file.proofs.Sheets.{in_lists, stands_here, line-here}
use Rattle.list_file.proofs.LinesPut.{none, low, room, part-long, more, all-put}
use Rattle.list_file.proofs.lines.put_lines.Goals as goal

pub loop-position-init : goal.loop-position-init
loop-position-init c = λ s. none s.file c.args.family.delays s.opened.ms _

pub bounds-names-position : goal.bounds-names-position
bounds-names-position c = (in_lists c.requires.opened c.loop-position-test.true).0

pub site_at-site-requires : goal.site_at-site-requires
site_at-site-requires c = (in_lists c.requires.opened c.loop-position-test.true).1

pub overflow_add-end : goal.overflow_add-end
overflow_add-end c = omega (arith, low (c.loop-position.invariant c.requires) c.requires c.loop-position-test.true)

pub slice_bounds-put_line-end : goal.slice_bounds-put_line-end
slice_bounds-put_line-end c = room (c.loop-position.invariant c.requires) c.requires c.loop-position-test.true

pub put_line-at-requires : goal.put_line-at-requires
put_line-at-requires c =
    let given = c.requires in
    let here = here-at given.opened.ms c.loop-position.position (omega (arith, given.opened.all, c.loop-position-test.true)) in
    record {
      standing = stands_here given.opened here c.site_at-site.ensures;
      image_in_bounds = omega (arith, given.loads_long);
      scratch_len = c.loop-position.auto.scratch ∙ given.lent;
      longest_line_in_bounds = omega (arith, part-long (c.loop-position.invariant given) given c.loop-position-test.true);
    }

pub overflow_add-at : goal.overflow_add-at
overflow_add-at c =
    let given = c.requires in
    let sofar = c.loop-position.invariant given in
    let here = here-at given.opened.ms c.loop-position.position (omega (arith, given.opened.all, c.loop-position-test.true)) in
    omega (
      arith,
      (line-here given.opened here c.site_at-site.ensures c.args.family.delays c.put_line-at.ensures).inside,
      part-long sofar given c.loop-position-test.true,
      low sofar given c.loop-position-test.true,
    )

pub loop-position-preserved : goal.loop-position-preserved
loop-position-preserved c =
    λ s.
    let sofar = c.loop-position.invariant s in
    let here = here-at s.opened.ms c.loop-position.position (omega (arith, s.opened.all, c.loop-position-test.true)) in
    more sofar here _ refl (room sofar s c.loop-position-test.true)
    (line-here s.opened here c.site_at-site.ensures c.args.family.delays c.put_line-at.ensures)

pub returns : goal.returns
returns c s = all-put (c.loop-position.invariant s) (omega (arith, s.opened.all))
