-- A block's turn among all rows: it can be run, and its outputs stand behind those of the blocks before it.
use Rattle.std.specs.Prelude.{ℕ, ◌+◌, ◌*◌, ◌≤◌, List, ◌≡◌, length, take, drop}
use Rattle.std.proofs.Common.{sym, ap, ap₂, ◌∙◌, add-mul, mul-le-mul_right, arith}
use Rattle.meaning.specs.Rows.{row_outputs, rows_of}
use Rattle.meaning.specs.Layout.{each}
use Rattle.laws.specs.RowParts.{part}
use Rattle.laws.specs.RowBlocks.{length-of-row}
use Rattle.image.specs.Laid.{laid}
use Rattle.open_finding.specs.declared.Site.{Site}
use Rattle.run_rows.specs.Joined.{joined, joined-laid, joined_same, joined-rows}
use Rattle.run_rows.specs.Running.{BlockRuns, RowsRun, row_from}

module _
    {image starts nets : List ℕ} {site : Site} {rows : ℕ} {values : List ℕ} {entries out : ℕ}
    (s : RowsRun image starts nets site rows values entries out)
  where
    abbrev inputs : ℕ
    inputs = length s.standing.found.m.inputs

    abbrev outputs : ℕ
    outputs = length s.standing.found.m.outputs

    -- What each row gives.
    abbrev pub row_gives : ℕ → List ℕ
    row_gives i = row_outputs s.standing.ms site.number (part inputs i values)

    module _ (done some : ℕ) (upto : done + some ≤ rows) {own-inputs own-outputs : ℕ} (ins : own-inputs ≡ inputs) (outs : own-outputs ≡ outputs) where
      pub read-there : done * own-inputs + some * inputs ≤ length values
      read-there = omega (arith, ap (λ (n : ℕ). done * n) ins, add-mul done some inputs, mul-le-mul_right inputs upto, s.fed)

      pub write-there : done * own-outputs + some * outputs ≤ out
      write-there = omega (arith, ap (λ (n : ℕ). done * n) outs, add-mul done some outputs, mul-le-mul_right outputs upto, s.fits)

      abbrev pub turn-runs :
          some ≤ 256 → {entries' out' : ℕ} → entries' ≡ entries → out' ≡ out
          → BlockRuns image starts nets site values (done * own-inputs) some entries' (done * own-outputs) out'
      turn-runs few same size =
          record {
            standing = s.standing;
            there = read-there;
            few = few;
            roomy = omega (arith, s.roomy, same);
            fits = omega (arith, write-there, size);
          }

      own_row : (r : ℕ) → row_from inputs values (done * own-inputs) r ≡ part inputs (done + r) values
      own_row r =
          let place : done * own-inputs + r * inputs ≡ (done + r) * inputs = omega (arith, ap (λ (n : ℕ). done * n) ins, add-mul done r inputs) in
          ap (λ (n : ℕ). take inputs (drop n values)) place

      pub turn_more :
          (out₀ : List ℕ) {out₁ out₂ : List ℕ} → length out₀ ≡ out
          → out₁ ≡ laid out₀ 0 (joined row_gives done)
          → out₂ ≡ laid out₁ (done * own-outputs) (joined (λ r. row_outputs s.standing.ms site.number (row_from inputs values (done * own-inputs) r)) some)
          → out₂ ≡ laid out₀ 0 (joined row_gives (done + some))
      turn_more out₀ long before now =
          now
          ∙ ap₂ (λ (l m : List ℕ). laid l (done * own-outputs) m) before
          (joined_same (λ r. ap (row_outputs s.standing.ms site.number) (own_row r)) some)
          ∙ joined-laid row_gives outputs (λ i. length-of-row s.standing.ms site.number s.standing.found.found (part inputs i values)) out₀ 0 done some
          (omega (arith, mul-le-mul_right outputs upto, s.fits, long))
          (omega (arith, ap (λ (n : ℕ). done * n) outs))

    pub all-given :
        (out₀ : List ℕ) {out₁ : List ℕ} {done : ℕ} → done ≡ rows
        → out₁ ≡ laid out₀ 0 (joined row_gives done)
        → out₁ ≡ laid out₀ 0 (each (row_outputs s.standing.ms site.number) (rows_of rows inputs values))
    all-given out₀ all is =
        is
        ∙ ap (λ (n : ℕ). laid out₀ 0 (joined row_gives n)) all
        ∙ ap (laid out₀ 0) (sym (joined-rows (row_outputs s.standing.ms site.number) rows inputs values))
