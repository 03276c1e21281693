use mathlib.Core.Path.{refl}
use native.Mathlib.Omega.{arith}
use Rattle.text_reader.specs.Atoming.{atom-within, atom-some, name_numberable, name-refused, name-turned, name_naming}
use Rattle.text_reader.proofs.turns.turn_name.Goals as goal

pub slice_bounds-number-count : goal.slice_bounds-number-count
slice_bounds-number-count c = let l : _ = atom-some _ _ _ _ _ _ _ c.requires.short in omega arith

pub slice_bounds-number-start : goal.slice_bounds-number-start
slice_bounds-number-start c = let l : _ = atom-some _ _ _ _ _ _ _ c.requires.short in omega arith

pub slice_bounds-number-end : goal.slice_bounds-number-end
slice_bounds-number-end c = atom-within _ _ _ _ _ _ _ c.requires.short

pub number-given-requires : goal.number-given-requires
number-given-requires c =
    name_numberable _ _ _ _ _ _ _ c.requires.short _ refl

pub returns-then-x-ge16384 : goal.returns-then-x-ge16384
returns-then-x-ge16384 c =
    rw c.at.ensures
    (name-refused _ _ _ _ _ _ _ c.requires.short _ refl c.requires.named _ _ _ c.number-given.ensures (omega arith))

pub put_name-marks-requires : goal.put_name-marks-requires
put_name-marks-requires c =
    name_naming _ _ _ _ _ _ _ c.requires.short _ refl

pub grown-requires : goal.grown-requires
grown-requires c =
    let l : _ = c.requires.short.atom.here.reading.dict.names-most in omega arith

pub returns : goal.returns
returns c =
    name-turned _ _ _ _ _ _ _ c.requires.short _ refl c.requires.named _ _ _ c.number-given.ensures (omega arith) _ _ _ c.put_name-marks.auto.numbers c.put_name-marks.ensures c.grown.ensures
