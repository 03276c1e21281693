use mathlib.Core.Path.{refl}
use native.Mathlib.Omega.{arith}
use Rattle.text_reader.specs.Atoming.{atom-within, atom-some, net_numberable, net-there, net-full, net_netting, net-refused, net-turned}
use Rattle.text_reader.proofs.turns.turn_net.Goals as goal

pub offset_bounds-numbers-list : goal.offset_bounds-numbers-list
offset_bounds-numbers-list c = let l : _ = net-there _ _ _ _ _ _ _ c.requires.short _ refl c.requires.netted in omega arith

pub bounds-numbers-list : goal.bounds-numbers-list
bounds-numbers-list c =
    net-there _ _ _ _ _ _ _ c.requires.short _ refl c.requires.netted

pub returns-then-numbers-list-ge192 : goal.returns-then-numbers-list-ge192
returns-then-numbers-list-ge192 c =
    rw c.at.ensures
    (net-full _ _ _ _ _ _ _ c.requires.short _ refl c.requires.netted c.if-numbers-list-ge192.true)

pub slice_bounds-number-count : goal.slice_bounds-number-count
slice_bounds-number-count c =
    let l : _ = atom-some _ _ _ _ _ _ _ c.requires.short in omega arith

pub slice_bounds-number-start : goal.slice_bounds-number-start
slice_bounds-number-start c =
    let l : _ = atom-some _ _ _ _ _ _ _ c.requires.short in omega arith

pub slice_bounds-number-end : goal.slice_bounds-number-end
slice_bounds-number-end c =
    atom-within _ _ _ _ _ _ _ c.requires.short

pub number-given-requires : goal.number-given-requires
number-given-requires c =
    net_numberable _ _ _ _ _ _ _ c.requires.short _ refl

pub returns-then-x-ge16384 : goal.returns-then-x-ge16384
returns-then-x-ge16384 c =
    rw c.at-then-x-ge16384.ensures
    (net-refused _ _ _ _ _ _ _ c.requires.short _ refl c.requires.netted _ _ _ c.number-given.ensures (omega arith))

pub put_net-marks-requires : goal.put_net-marks-requires
put_net-marks-requires c =
    net_netting _ _ _ _ _ _ _ c.requires.short _ refl c.requires.netted (omega arith)

pub grown-requires : goal.grown-requires
grown-requires c =
    let l : _ = c.requires.short.atom.here.reading.dict.nets-most in omega arith

pub returns : goal.returns
returns c =
    net-turned _ _ _ _ _ _ _ c.requires.short _ refl c.requires.netted _ _ _ c.number-given.ensures (omega arith) (omega arith) _ _ _ c.put_net-marks.auto.numbers c.put_net-marks.ensures c.grown.ensures
