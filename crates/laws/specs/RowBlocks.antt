-- A block of rows is its rows, each run alone. Where the block is answered, each part of the bytes is what evaluation writes for that row;
-- where it is refused with 20, the row that holds the value is, and none before it; where with 21, each is. A block of one row is
-- evaluation itself, refusals and all, and with no rows nothing is written.
use Rattle.std.specs.Prelude.{ℕ, ◌+◌, ◌-◌, ◌*◌, ◌≤◌, ◌<◌, ◌≡◌, refl, Bool, true, false, eqb, leb, length}
use Rattle.std.proofs.Common.{sym, ◌∙◌, arith, one-mul, take_all}
use Rattle.std.proofs.Math.Path.{ap}
use mathlib.Core.List.{List, [], append-nil, map}
use borrow.Author.Tests.{eq-eqb, ne_eqb, eqb-true, le-leb, lt-leb, leb-true}
use Rattle.std.proofs.lemmas.List.{length-map}
use Rattle.meaning.specs.Values.{value, code}
use Rattle.meaning.specs.Syntax.{Module}
use Rattle.meaning.specs.Boxlist.{box, assoc}
use Rattle.meaning.specs.Layout.{each}
use Rattle.meaning.specs.Evaluation.{evaluate}
use Rattle.meaning.specs.Figures.{room, output_count}
use Rattle.meaning.specs.Calls.{Decision, refusal, answer, demand, first_above, Written, evaluation_on, evaluation}
use Rattle.meaning.specs.Rows.{most_rows, rows_of, row_outputs, rows_evaluation_on, rows_evaluation}
use Rattle.laws.specs.OutputCount.{length-of-evaluate}
use Rattle.laws.specs.FirstAbove.{first-of-rest, none_in_front, first_in_front}
use Rattle.laws.specs.RowParts.{part, part-within, length-of-part, length-of-rows, part-of-rows}
use Rattle.laws.specs.Calls.{ModuleOf, same_answer, demand-met, demand-alike, module_met, asked_here, asked-alike}

-- A module gives as many values for a row as it has outputs.
pub length-of-row :
    (ms : List Module) (number : ℕ) {m : Module} → assoc number ms ≡ box m → (row : List ℕ)
    → length (row_outputs ms number row) ≡ length m.outputs
length-of-row ms number found row =
    length-map (evaluate ms number (map value row)) code ∙ length-of-evaluate ms number (map value row) ∙ ap output_count found

-- A module of an accepted file, and a block that has the right count of values: neither 1 to 18 nor 27 nor 19 applies.
pub record Counted (file : List ℕ) (number rows : ℕ) (values : List ℕ) : Type 0 where
  pub ms : List Module
  pub m : Module
  pub here : ModuleOf file number ms m
  pub few : rows ≤ most_rows
  pub fed : length values ≡ rows * length m.inputs

module _ {file : List ℕ} {number rows : ℕ} {values : List ℕ} (b : Counted file number rows values) where
  abbrev inputs : ℕ
  inputs = length b.m.inputs

  abbrev row : ℕ → List ℕ
  row i = part inputs i values

  module _ (scratch out : ℕ) where
    -- What is left to decide for the block, and for a row alone.
    block-counted :
        rows_evaluation file number rows values scratch out
        ≡ demand 20 (first_above values) (eqb (first_above values) (length values))
        (demand 21 0 (leb (room b.ms number) scratch)
        (demand 22 0 (leb (rows * length b.m.outputs) out)
        (answer (record { bytes = each (row_outputs b.ms number) (rows_of rows inputs values); cleared = room b.ms number }))))
    unfolding rows_evaluation
    block-counted =
        asked_here (rows_evaluation_on number rows values scratch out) b.here
        ∙ rw (le-leb rows most_rows b.few, eq-eqb (length values) (rows * inputs) b.fed)

    row-counted :
        (i : ℕ) → i < rows
        → evaluation file number (row i) scratch out
        ≡ demand 20 (first_above (row i)) (eqb (first_above (row i)) (length (row i)))
        (demand 21 0 (leb (room b.ms number) scratch)
        (demand 22 0 (leb (length b.m.outputs) out)
        (answer (record { bytes = row_outputs b.ms number (row i); cleared = room b.ms number }))))
    unfolding evaluation
    row-counted i inside =
        asked_here (evaluation_on number (row i) scratch out) b.here
        ∙ rw (eq-eqb (length (row i)) inputs (length-of-part inputs values b.fed inside))

    -- 20: the value stands in a row, which is refused for it at its own index,
    pub value-of-row :
        (i : ℕ) → i < rows → i * inputs ≤ first_above values → first_above values < i * inputs + inputs
        → (rows_evaluation file number rows values scratch out ≡ refusal 20 (first_above values))
        × (evaluation file number (row i) scratch out ≡ refusal 20 (first_above values - i * inputs))
    value-of-row i inside after before =
        let there = first-of-rest (i * inputs) values after in
        let own : first_above (row i) ≡ first_above values - i * inputs =
        first_in_front inputs _ (omega (arith, there)) ∙ omega (arith, there) in
        let long = length-of-part inputs values b.fed inside in (
          block-counted
              ∙ rw (ne_eqb (first_above values) (length values) (λ e. omega (arith, e, b.fed, part-within inputs inside))),
          row-counted i inside
              ∙ rw (ne_eqb (first_above (row i)) (length (row i)) (λ e. omega (arith, e, own, long)), own),
        )

    -- A row before it has no such value,
    none-of-row : (i : ℕ) → i * inputs + inputs ≤ first_above values → first_above (row i) ≡ length (row i)
    none-of-row i before = none_in_front inputs _ (omega (arith, first-of-rest (i * inputs) values (omega arith)))

    -- and is decided by 21 and 22 alone.
    pub row_before :
        (i : ℕ) → i < rows → i * inputs + inputs ≤ first_above values
        → evaluation file number (row i) scratch out
        ≡ demand 21 0 (leb (room b.ms number) scratch)
        (demand 22 0 (leb (length b.m.outputs) out)
        (answer (record { bytes = row_outputs b.ms number (row i); cleared = room b.ms number })))
    row_before i inside before = row-counted i inside ∙ rw (eq-eqb (first_above (row i)) (length (row i)) (none-of-row i before))

    module _ (small : first_above values ≡ length values) where
      all-before : (i : ℕ) → i < rows → i * inputs + inputs ≤ first_above values
      all-before i inside = omega (arith, small, b.fed, part-within inputs inside)

      -- 21: the block and each of its rows.
      pub scratch-of-rows :
          scratch < room b.ms number
          → (rows_evaluation file number rows values scratch out ≡ refusal 21 0)
          × ((i : ℕ) → i < rows → evaluation file number (row i) scratch out ≡ refusal 21 0)
      scratch-of-rows short = (
        block-counted ∙ rw (eq-eqb (first_above values) (length values) small, lt-leb (room b.ms number) scratch short),
        λ i inside. row_before i inside (all-before i inside) ∙ rw (lt-leb (room b.ms number) scratch short),
      )

      module _ (roomy : room b.ms number ≤ scratch) where
        -- What is written,
        abbrev pub writes : Written
        writes = record { bytes = each (row_outputs b.ms number) (rows_of rows inputs values); cleared = room b.ms number }

        -- 22: all output rows count.
        pub out-of-rows :
            out < rows * length b.m.outputs → rows_evaluation file number rows values scratch out ≡ refusal 22 0
        out-of-rows short =
            block-counted
            ∙ rw (
              eq-eqb (first_above values) (length values) small,
              le-leb (room b.ms number) scratch roomy,
              lt-leb (rows * length b.m.outputs) out short,
            )

        pub answered : rows * length b.m.outputs ≤ out → rows_evaluation file number rows values scratch out ≡ answer writes
        answered fits =
            block-counted
            ∙ rw (
              eq-eqb (first_above values) (length values) small,
              le-leb (room b.ms number) scratch roomy,
              le-leb (rows * length b.m.outputs) out fits,
            )

        pub length-of-bytes : length writes.bytes ≡ rows * length b.m.outputs
        length-of-bytes =
            length-of-rows (row_outputs b.ms number) (length b.m.outputs) (length-of-row b.ms number b.here.found) rows inputs values

        -- and each row of it is what running that row alone gives.
        pub row-alone :
            (i : ℕ) → i < rows → length b.m.outputs ≤ out
            → evaluation file number (row i) scratch out
            ≡ answer (record { bytes = part (length b.m.outputs) i writes.bytes; cleared = writes.cleared })
        row-alone i inside enough =
            row_before i inside (all-before i inside)
            ∙ rw (le-leb (room b.ms number) scratch roomy, le-leb (length b.m.outputs) out enough)
            (ap (λ (l : List ℕ). answer (record { bytes = l; cleared = room b.ms number }))
            (sym
            (part-of-rows (row_outputs b.ms number) (length b.m.outputs) (length-of-row b.ms number b.here.found) rows inputs i values
            inside)))

-- With no rows nothing is written.
pub no_rows :
    (file : List ℕ) (number : ℕ) (values : List ℕ) (scratch out : ℕ) (w : Written)
    → rows_evaluation file number 0 values scratch out ≡ answer w
    → w.bytes ≡ []
unfolding rows_evaluation rows_of each
no_rows file number values scratch out w h =
    let k = module_met file number h in
    let few = demand-met 27 0 (leb 0 most_rows) k.answered in
    let fed = demand-met 19 0 (eqb (length values) (0 * length k.m.inputs)) few.answered in
    let small = demand-met 20 (first_above values) (eqb (first_above values) (length values)) fed.answered in
    let space = demand-met 21 0 (leb (room k.ms number) scratch) small.answered in
    let long = demand-met 22 0 (leb (0 * length k.m.outputs) out) space.answered in
    ap (λ (v : Written). v.bytes) (sym (same_answer long.answered))

-- One row is evaluation.
module _ (number : ℕ) (values : List ℕ) (scratch out : ℕ) (ms : List Module) (m : Module) where
  one-output :
      length values ≡ length m.inputs
      → each (row_outputs ms number) (rows_of 1 (length m.inputs) values) ≡ row_outputs ms number values
  unfolding each rows_of
  one-output e = append-nil _ ∙ ap (row_outputs ms number) (take_all (length m.inputs) values (omega (arith, e)))

  pub one-row-on : rows_evaluation_on number 1 values scratch out ms m ≡ evaluation_on number values scratch out ms m
  one-row-on =
      rw (one-mul (length m.inputs), one-mul (length m.outputs))
      (demand-alike 19 0 (eqb (length values) (length m.inputs))
      (λ fed.
      ap
      (λ (bytes : List ℕ).
      demand 20 (first_above values) (eqb (first_above values) (length values))
      (demand 21 0 (leb (room ms number) scratch)
      (demand 22 0 (leb (length m.outputs) out) (answer (record { bytes = bytes; cleared = room ms number })))))
      (one-output (eqb-true _ _ fed))))

pub one-row :
    (file : List ℕ) (number : ℕ) (values : List ℕ) (scratch out : ℕ)
    → rows_evaluation file number 1 values scratch out ≡ evaluation file number values scratch out
unfolding rows_evaluation evaluation
one-row file number values scratch out = asked-alike file number (one-row-on number values scratch out)
