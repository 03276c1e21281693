-- `take_part` meets its contract: the rows of the word are there, and are packed as any 64.
use Rattle.std.proofs.Common.{ℕ, ◌≡◌, min, arith}
use Rattle.lanes.specs.Blocks.{part-whole, part-packed}
use Rattle.lanes.proofs.rows.take_part.Goals as goal

-- The rows before the word, and those up to its end.
before : (count end : ℕ) {n : ℕ} → n ≡ min count end → n ≡ min end count
before count end is = omega (arith, is)

pub take_word-requires : goal.take_word-requires
take_word-requires c = (
  part-whole c.requires.0 (before _ _ c.min-start.ensures) (before _ _ c.min-end.ensures),
  part-whole c.requires.1 (before _ _ c.min-start.ensures) (before _ _ c.min-end.ensures),
)

pub returns : goal.returns
returns c = (
  part-packed c.requires.0 (before _ _ c.min-start.ensures) (before _ _ c.min-end.ensures) c.take_word.ensures.0,
  part-packed c.requires.1 (before _ _ c.min-start.ensures) (before _ _ c.min-end.ensures) c.take_word.ensures.1,
)
