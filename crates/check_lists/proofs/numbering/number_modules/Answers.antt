-- The tables are filled from the last module to the first.
use Rattle.std.proofs.Common.{ℕ, ◌≡◌, ◌+◌, ◌-◌, ◌≤◌, ◌<◌, List, length, get_or, inl, inr, arith, subst, refl, ◌∙◌}
use Rattle.meaning.specs.Syntax.{Module}
use Rattle.meaning.specs.Layout.{module_numbers}
use Rattle.image.specs.Stands.{Stands}
use Rattle.image.specs.Pieces.{module_at}
use Rattle.check_sizes.specs.Behind.{here}
use Rattle.check_lists.specs.Filed.{Countable}
use Rattle.check_lists.specs.Places.{inputs-stand}
use Rattle.check_lists.proofs.Filling.{Known, known-none, known_more, known-all}
use Rattle.check_lists.proofs.numbering.number_modules.Goals as goal
use Rattle.check_lists.proofs.numbering.number_modules.Goals.{then-first-x-ne0, else-first-x-ne0}

-- What is known of the module at position k of a file that can be numbered.
record Readable (numbers starts : List ℕ) (k : ℕ) : Type 0 where
  m : Module
  stands : Stands numbers (get_or starts k 0) (module_numbers m)
  end : get_or starts k 0 + 4 + length m.inputs ≤ length numbers

readable :
    {numbers starts : List ℕ} {modules : ℕ} {first names inputs outputs : List ℕ}
    → Countable numbers starts modules first names inputs outputs → (k : ℕ) → 0 < k → k ≤ modules
    → Readable numbers starts (k - 1)
readable c k some within =
    let p = here c.ms (k - 1) (omega (arith, c.counted)) in
    let s = c.filed.standing (k - 1) p.m p.later p.at in
    record { m = p.m; stands = s; end = omega (arith, (module_at p.m s).end) }

pub loop-k-init : goal.loop-k-init
loop-k-init c = λ ms f e. known-none ms c.args.modules e c.requires.clear

pub entry-x-requires : goal.entry-x-requires
entry-x-requires c = let h = readable c.requires c.loop-k.k c.loop-k-test.true (omega arith) in omega (arith, h.end)

pub offset_bounds-numbers-s : goal.offset_bounds-numbers-s
offset_bounds-numbers-s c = let h = readable c.requires c.loop-k.k c.loop-k-test.true (omega arith) in omega (arith, h.end)

pub bounds-numbers-s : goal.bounds-numbers-s
bounds-numbers-s c = let h = readable c.requires c.loop-k.k c.loop-k-test.true (omega arith) in omega (arith, h.end)

pub overflow_add-inputs : goal.overflow_add-inputs
overflow_add-inputs c = let h = readable c.requires c.loop-k.k c.loop-k-test.true (omega arith) in omega (arith, h.end)

pub offset_bounds-numbers-s-in-loop-k : goal.offset_bounds-numbers-s-in-loop-k
offset_bounds-numbers-s-in-loop-k c = let h = readable c.requires c.loop-k.k c.loop-k-test.true (omega arith) in omega (arith, h.end)

pub bounds-numbers-s-in-loop-k : goal.bounds-numbers-s-in-loop-k
bounds-numbers-s-in-loop-k c = let h = readable c.requires c.loop-k.k c.loop-k-test.true (omega arith) in omega (arith, h.end)

pub overflow_add-s : goal.overflow_add-s
overflow_add-s c = let h = readable c.requires c.loop-k.k c.loop-k-test.true (omega arith) in omega (arith, h.end)

pub list_end-requires : goal.list_end-requires
list_end-requires c =
    let h = readable c.requires c.loop-k.k c.loop-k-test.true (omega arith) in
    record { list = h.m.inputs; stands = inputs-stand h.m h.stands }

pub offset_bounds-numbers-list_end : goal.offset_bounds-numbers-list_end
offset_bounds-numbers-list_end c =
    let h = readable c.requires c.loop-k.k c.loop-k-test.true (omega arith) in
    omega (arith, h.end, c.list_end.ensures h.m.inputs (inputs-stand h.m h.stands))

pub bounds-numbers-list_end : goal.bounds-numbers-list_end
bounds-numbers-list_end c =
    let h = readable c.requires c.loop-k.k c.loop-k-test.true (omega arith) in
    omega (arith, h.end, c.list_end.ensures h.m.inputs (inputs-stand h.m h.stands))

pub loop-k-preserved : goal.loop-k-preserved
loop-k-preserved c =
    let l = c.loop-k in
    let back : l.k ≡ l.k - 1 + 1 = omega arith in
    λ ms f e.
    let p = here ms (l.k - 1) (omega (arith, e)) in
    let s = f.standing (l.k - 1) p.m p.later p.at in
    let q = module_at p.m s in
    let behind = subst (λ (n : ℕ). Known ms n l.first l.names l.inputs l.outputs l.repeated) back (l.invariant ms f e) in
    known_more p behind
    (c.entry-x.ensures ∙ q.number)
    q.number
    (q.input_count _ refl)
    (q.output_count _ (c.list_end.ensures p.m.inputs (inputs-stand p.m s) ∙ omega arith))
    (omega (arith, c.entry-x.ensures, c.requires.indexed.below (get_or c.args.starts.now (l.k - 1) 0)))
    (omega (arith, c.requires.names_long))
    (omega (arith, c.requires.inputs_long))
    (omega (arith, c.requires.outputs_long))
    (elim c.if-first-x-ne0.branch [
      | then-first-x-ne0 w ↦ inl (w.if-first-x-ne0.true, w.repeated-is)
      | else-first-x-ne0 w ↦ inr (w.if-first-x-ne0.false, w.repeated-is)
    ])

pub returns : goal.returns
returns c ms f e =
    let l = c.loop-k in
    let p = c.requires in
    let done : l.k ≡ 0 = omega arith in
    known-all
    (subst (λ (n : ℕ). Known ms n l.first l.names l.inputs l.outputs l.repeated) done (l.invariant ms f e))
    (omega (arith, p.names_long, e))
    (omega (arith, p.inputs_long, e))
    (omega (arith, p.outputs_long, e))
