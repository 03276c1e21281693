-- In a turn the module stands in the numbers and in the file, and there is room for it; it is copied, or put anew.
use Rattle.std.proofs.Common.{ℕ, ◌≡◌, ◌+◌, ◌≤◌, ◌<◌, List, length, get_or, drop, ap, ◌∙◌, arith, length-append, zero-le}
use lib.ListN.{length-replicate, drop_of_length-le}
use Rattle.meaning.specs.Syntax.{Module}
use Rattle.meaning.specs.Layout.{each, number_bytes, encode}
use Rattle.meaning.specs.Withdrawn.{rewrite_module, rewrite_file}
use Rattle.laws.specs.Written.{module_bytes}
use Rattle.laws.specs.Withdrawn.Suits.{fours}
use Rattle.bytes_out.specs.Puts.{put-more}
use Rattle.write_pieces.specs.Laying.{laying-start, laying-room, laying-more, laying-all}
use Rattle.image.specs.Entries.{all_alike}
use Rattle.open_finding.specs.Here.{Here, here-at}
use Rattle.rewrite_bytes.specs.Modules.{ModuleWritable, Part, Rewritable}
use Rattle.rewrite_bytes.proofs.Modules.{next_module, kept-part, suited-here, older-now, file-long}
use Rattle.rewrite_bytes.proofs.files.put_file.Goals as goal
use Rattle.rewrite_bytes.proofs.files.put_file.Goals.{In-loop-k, then-own-k-eq0, else-own-k-eq0}

-- The count, and the modules behind it.
file_length :
    (ms : List Module) (modules : ℕ) → modules ≡ length ms
    → length (encode (rewrite_file ms)) ≡ length (number_bytes modules) + length (each module_bytes (rewrite_file ms))
unfolding rewrite_file
file_length ms modules all = ap length (file-long ms modules all) ∙ length-append (number_bytes modules) (each module_bytes (rewrite_file ms))

pub overflow_cast-modules : goal.overflow_cast-modules
overflow_cast-modules c = omega (arith, c.requires.all, c.requires.few)

pub put-at-requires : goal.put-at-requires
put-at-requires c =
    let s = c.requires in
    (omega (arith, s.all, s.few), omega (arith, s.room, file_length s.ms c.args.modules s.all))

pub loop-k-init : goal.loop-k-init
loop-k-init c = (
  length-replicate {A = ℕ} 16384 0,
  (λ x. omega (arith, all_alike {A = ℕ} 16384 x 0)),
  λ s. laying-start (record { fits = omega (arith, s.room, file_length s.ms c.args.modules s.all, c.put-at.ensures.place, c.put-at.auto.out) }),
)

module _
    (c : In-loop-k)
    (s : Rewritable c.args.file.now c.args.numbers.now c.args.starts.now c.args.offsets.now c.args.modules c.args.own.now (length c.args.out.now))
  where
    -- The module whose turn it is.
    inside : c.loop-k.k < length s.ms
    inside = omega (arith, c.loop-k-test.true, s.all)

    here : Here s.ms c.loop-k.k
    here = here-at s.ms c.loop-k.k inside

    -- There is room for it.
    room : c.loop-k.at + length (module_bytes (rewrite_module here.m)) ≤ length c.loop-k.out
    room =
        let l = c.loop-k.invariant.2 s in
        let r = laying-room l (module_bytes (rewrite_module here.m)) (each module_bytes (rewrite_file (drop (c.loop-k.k + 1) s.ms))) (next_module here) in
        omega (arith, r.0, r.1)

    -- Its bytes in the file, and how many of the four gates it has.
    part : Part c.args.file.now c.args.offsets.now c.loop-k.k here.m
    part = s.parts c.loop-k.k here.m here.later here.here

    owned : get_or c.args.own.now c.loop-k.k 0 ≡ fours here.m.occurrences
    owned = s.owned c.loop-k.k here.m here.later here.here

    abbrev writable :
        ModuleWritable c.args.numbers.now (get_or c.args.starts.now c.loop-k.k 0) (get_or c.args.own.now c.loop-k.k 0) c.loop-k.table
        (c.loop-k.k + 1) c.loop-k.out c.loop-k.at
    writable =
        record {
          there =
              record {
                m = here.m;
                stands = s.stands c.loop-k.k here.m here.later here.here;
                small = s.small;
                wide = c.loop-k.invariant.0;
                older = c.loop-k.invariant.1;
              };
          suited = suited-here here s.suited;
          owned = owned;
          room = room;
        }

    few : c.loop-k.k < 128
    few = omega (arith, inside, s.few)

    in_offsets : c.loop-k.k + 1 < length c.args.offsets.now
    in_offsets = omega (arith, inside, s.offsets_long)

    ends : get_or c.args.offsets.now c.loop-k.k 0 ≤ get_or c.args.offsets.now (c.loop-k.k + 1) 0
    ends = omega (arith, part.next)

    in_file : get_or c.args.offsets.now (c.loop-k.k + 1) 0 ≤ length c.args.file.now
    in_file = omega (arith, part.next, part.stands.within)

pub bounds-offsets-k : goal.bounds-offsets-k
bounds-offsets-k c = omega (arith, in_offsets (goal.at.bounds-offsets-k c).In-loop-k c.requires)

pub slice_bounds-copy-count : goal.slice_bounds-copy-count
slice_bounds-copy-count c = ends (goal.at.slice_bounds-copy-count c).In-loop-k c.requires

pub slice_bounds-copy-start : goal.slice_bounds-copy-start
slice_bounds-copy-start c =
    let turn = (goal.at.slice_bounds-copy-start c).In-loop-k in
    omega (arith, ends turn c.requires, in_file turn c.requires)

pub slice_bounds-copy-end : goal.slice_bounds-copy-end
slice_bounds-copy-end c = in_file (goal.at.slice_bounds-copy-end c).In-loop-k c.requires

pub copy-at-requires : goal.copy-at-requires
copy-at-requires c =
    let s = c.requires in
    let turn = (goal.at.copy-at-requires c).In-loop-k in
    let m = (here turn s).m in
    let none : fours m.occurrences ≡ 0 = omega (arith, owned turn s) in
    omega (arith, ap length (kept-part m (part turn s) none), room turn s)

pub overflow_cast-k : goal.overflow_cast-k
overflow_cast-k c = omega (arith, few (goal.at.overflow_cast-k c).In-loop-k c.requires)

pub put_module-at-requires : goal.put_module-at-requires
put_module-at-requires c = writable (goal.at.put_module-at-requires c).In-loop-k c.requires

pub loop-k-preserved : goal.loop-k-preserved
loop-k-preserved c =
    let turn = (goal.at.loop-k-preserved c).In-loop-k in
    elim c.if-own-k-eq0.branch [
      | then-own-k-eq0 w ↦
          rw (w.at-is, w.out-is, w.table-is) (
            c.loop-k.invariant.0,
            (λ x. omega (arith, c.loop-k.invariant.1 x)),
            λ s.
                let m = (here turn s).m in
                let none : fours m.occurrences ≡ 0 = omega (arith, owned turn s, w.if-own-k-eq0.true) in
                laying-more (c.loop-k.invariant.2 s) (module_bytes (rewrite_module m)) _ (next_module (here turn s))
                (rw (kept-part m (part turn s) none) at w.copy-at.ensures),
          )
      | else-own-k-eq0 w ↦
          rw (w.at-is, w.out-is, w.table-is) (
            w.put_module-at.auto.table ∙ c.loop-k.invariant.0,
            older-now _ (w.put_module-at.ensures (writable turn c.requires)).1,
            λ s.
                laying-more (c.loop-k.invariant.2 s) (module_bytes (rewrite_module (here turn s).m)) _ (next_module (here turn s))
                (w.put_module-at.ensures (writable turn s)).0,
          )
    ]

pub returns : goal.returns
unfolding each rewrite_file
returns c s =
    let none = drop_of_length-le s.ms {i = c.loop-k.k} (omega (arith, s.all)) in
    rw (file-long s.ms c.args.modules s.all)
    (put-more c.put-at.ensures zero-le
    (laying-all (c.loop-k.invariant.2 s) (ap (λ (ms : List Module). each module_bytes (rewrite_file ms)) none)))
