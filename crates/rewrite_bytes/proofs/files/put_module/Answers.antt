-- What stands in front of the count of occurrences as it is, the new count, and the occurrences rewritten.
use Rattle.std.proofs.Common.{ℕ, ◌≡◌, ◌+◌, ◌*◌, ◌-◌, List, ◌++◌, length, take, drop, refl, ◌∙◌, arith}
use Rattle.meaning.specs.Layout.{each, number_bytes}
use Rattle.meaning.specs.Withdrawn.{mentioned, unused, rewrite_body, rewrite_module}
use Rattle.laws.specs.Written.{occurrence_bytes, module_bytes}
use Rattle.laws.specs.Withdrawn.Suits.{fours}
use Rattle.bytes_out.specs.Filled.{Put}
use Rattle.bytes_out.specs.Laying.{Laying, laying-start}
use Rattle.write_pieces.specs.Laying.{laying-room, laying-left, laying-more, laying-last}
use Rattle.image.specs.Places.{HeaderOf}
use Rattle.rewrite_bytes.specs.Bodies.{Roomy}
use Rattle.rewrite_bytes.specs.Modules.{ModuleWritable}
use Rattle.rewrite_bytes.proofs.Marking.{part_small}
use Rattle.rewrite_bytes.proofs.Modules.{front, parts, front-part, module-bytes}
use Rattle.rewrite_bytes.proofs.files.put_module.Goals as goal
use Rattle.rewrite_bytes.proofs.files.put_module.Goals.{After-module_at-header}

pub mark_module-requires : goal.mark_module-requires
mark_module-requires c = c.requires.there

pub module_at-header-requires : goal.module_at-header-requires
module_at-header-requires c = let s = c.requires in record { m = s.there.m; stands = s.there.stands }

module _
    (c : After-module_at-header)
    (s : ModuleWritable c.args.numbers.now c.args.start c.args.own c.args.table.now c.args.stamp c.args.out.now c.args.to)
  where
    header : HeaderOf c.args.numbers.now c.args.start s.there.m c.module_at-header.result
    header = c.module_at-header.ensures s.there.m s.there.stands

    long : c.module_at-header.result.to - c.args.start ≡ 3 + length s.there.m.inputs + length s.there.m.outputs
    long = omega (arith, header.from, header.to)

    -- What is left behind the front, and behind the count.
    abbrev count : ℕ
    count = length s.there.m.occurrences + 2 * fours s.there.m.occurrences

    abbrev body : List ℕ
    body = each occurrence_bytes (rewrite_body (unused s.there.m) s.there.m.occurrences)

    abbrev whole : List ℕ
    whole = module_bytes (rewrite_module s.there.m)

    begun : Laying whole whole c.args.out.now c.args.to c.args.out.now c.args.to
    begun = laying-start s.room

    part : take (c.module_at-header.result.to - c.args.start) (drop c.args.start c.args.numbers.now) ≡ front s.there.m
    part = front-part s.there.m s.there.stands _ long

    same_count : c.module_at-header.result.count + 2 * c.args.own ≡ count
    same_count = omega (arith, header.count, s.owned)

pub offset_bounds-numbers-start : goal.offset_bounds-numbers-start
offset_bounds-numbers-start c =
    let s = c.requires in
    let h = header (goal.at.offset_bounds-numbers-start c).After-module_at-header s in
    omega (arith, (parts s.there.m s.there.stands).end, h.from, h.to)

pub slice_bounds-put_list-count : goal.slice_bounds-put_list-count
slice_bounds-put_list-count c =
    let h = header (goal.at.slice_bounds-put_list-count c).After-module_at-header c.requires in
    omega (arith, h.from, h.to)

pub slice_bounds-put_list-start : goal.slice_bounds-put_list-start
slice_bounds-put_list-start c =
    let h = header (goal.at.slice_bounds-put_list-start c).After-module_at-header c.requires in
    omega (arith, h.from, h.to)

pub slice_bounds-put_list-end : goal.slice_bounds-put_list-end
slice_bounds-put_list-end c =
    let s = c.requires in
    let h = header (goal.at.slice_bounds-put_list-end c).After-module_at-header s in
    omega (arith, (parts s.there.m s.there.stands).end, h.from, h.to)

pub put_list-front-requires : goal.put_list-front-requires
put_list-front-requires c =
    let s = c.requires in
    let at = (goal.at.put_list-front-requires c).After-module_at-header in
    let room = laying-room (begun at s) (each number_bytes (front s.there.m)) (number_bytes (count at s) ++ body at s) (module-bytes s.there.m) in (
      part_small (c.module_at-header.result.to - c.args.start) c.args.start s.there.small,
      record { fits = rw (part at s) (omega (arith, room.1)) },
    )

-- Behind the front, and behind the new count.
module _
    (c : After-module_at-header)
    (s : ModuleWritable c.args.numbers.now c.args.start c.args.own c.args.table.now c.args.stamp c.args.out.now c.args.to)
    {out : List ℕ}
    {to : ℕ}
    (put : Put (each number_bytes (take (c.module_at-header.result.to - c.args.start) (drop c.args.start c.args.numbers.now))) c.args.out.now c.args.to out to)
  where
    fronted : Laying (whole c s) (number_bytes (count c s) ++ body c s) c.args.out.now c.args.to out to
    fronted =
        laying-more (begun c s) (each number_bytes (front s.there.m)) (number_bytes (count c s) ++ body c s) (module-bytes s.there.m)
        (rw (part c s) at put)

    counted :
        {out' : List ℕ} {to' : ℕ} → Put (number_bytes (c.module_at-header.result.count + 2 * c.args.own)) out to out' to'
        → Laying (whole c s) (body c s) c.args.out.now c.args.to out' to'
    counted put' = laying-more fronted (number_bytes (count c s)) (body c s) refl (rw (same_count c s) at put')

pub overflow_mul-count : goal.overflow_mul-count
overflow_mul-count c =
    let s = c.requires in
    omega (arith, same_count (goal.at.overflow_mul-count c).After-module_at-header s, s.suited.few)

pub overflow_add-count : goal.overflow_add-count
overflow_add-count c =
    let s = c.requires in
    omega (arith, same_count (goal.at.overflow_add-count c).After-module_at-header s, s.suited.few)

pub overflow_cast-count : goal.overflow_cast-count
overflow_cast-count c =
    let s = c.requires in
    omega (arith, same_count (goal.at.overflow_cast-count c).After-module_at-header s, s.suited.few)

pub put-counted-requires : goal.put-counted-requires
put-counted-requires c =
    let s = c.requires in
    let at = (goal.at.put-counted-requires c).After-module_at-header in
    let room = laying-room (fronted at s c.put_list-front.ensures) (number_bytes (count at s)) (body at s) refl in
    rw (same_count at s) (omega (arith, s.suited.few), omega (arith, room.0, room.1))

pub overflow_add-body : goal.overflow_add-body
overflow_add-body c =
    let s = c.requires in
    let h = header (goal.at.overflow_add-body c).After-module_at-header s in
    omega (arith, (parts s.there.m s.there.stands).end, h.from, h.to)

roomy :
    (c : After-module_at-header)
    (s : ModuleWritable c.args.numbers.now c.args.start c.args.own c.args.table.now c.args.stamp c.args.out.now c.args.to)
    {out : List ℕ}
    {to : ℕ}
    → Laying (whole c s) (body c s) c.args.out.now c.args.to out to
    → Roomy c.args.numbers.now (c.module_at-header.result.to + 1) c.module_at-header.result.count c.mark_module.new.table c.args.stamp (length out) to
unfolding unused
roomy c s l =
    let h = header c s in
    record {
      w =
          record {
            os = s.there.m.occurrences;
            used = mentioned s.there.m;
            stands = h.body;
            many = h.count;
            suits = s.suited.suits;
            single = s.suited.single;
            small = s.there.small;
            long = c.mark_module.auto.table ∙ s.there.wide;
            stamped = c.mark_module.ensures s.there;
          };
      room = (laying-left l).fits;
    }

pub put_body-requires : goal.put_body-requires
put_body-requires c =
    let s = c.requires in
    let at = (goal.at.put_body-requires c).After-module_at-header in
    roomy at s (counted at s c.put_list-front.ensures c.put-counted.ensures)

pub returns : goal.returns
unfolding unused roomy
returns c s =
    let at = (goal.at.returns c).After-module_at-header in
    let l = counted at s c.put_list-front.ensures c.put-counted.ensures in
    (laying-last (c.put_body.ensures (roomy at s l)) l, c.mark_module.ensures s.there)
