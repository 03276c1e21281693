-- After so many words the table is that of their shelves.
use Prim.Native.Nat.{ℕ, ◌+◌, ◌*◌, ◌-◌, ◌≤◌}
use mathlib.Core.Path.{◌≡◌, refl, sym, ap, ◌∙◌}
use mathlib.Core.List.{List, map}
use native.Mathlib.Omega.{arith}
use lib.ListN.{length, take, drop, replicate, length-drop, length-replicate}
use lib.Seq.{length-take-le, length_front}
use Rattle.meaning.specs.Filing.{shelf_of, word_count, words_from}
use Rattle.laws.specs.Filing.Tables.{add_each}
use Rattle.filing.proofs.Tallying.{roomy-table, block_more, all_blocks}
use Rattle.filing.proofs.sequences.add_blocks.Statement.{statement}
use Rattle.filing.proofs.sequences.add_blocks.Tie as tie

record Going (sequence : List ℕ) (n words : ℕ) (bits values outputs : ℕ) (table : List ℕ) (done : ℕ) : Type 0 where
  until : done ≤ words
  all : words ≡ word_count n (length sequence)
  bits-long : bits ≡ 2078
  values-long : values ≡ 32768
  outputs-long : outputs ≡ 6144
  counted : table ≡ add_each (map shelf_of (words_from done n sequence)) (replicate 33 0)

abbrev invariant-loop : tie.invariant-loop-done
invariant-loop file sequence letters bits₀ values₀ outputs₀ table₀ words done₀ bits values outputs table done =
    Going sequence letters words (length bits) (length values) (length outputs) table done

abbrev decreases-loop : tie.decreases-loop-done
decreases-loop file sequence letters bits₀ values₀ outputs₀ table₀ words done₀ bits values outputs table done = words - done

-- What is known of a turn.
record Turn (bases n words done some : ℕ) : Type 0 where
  one : 1 ≤ some
  most : some ≤ 1024
  within : done + some ≤ words
  letters : (1 ≤ n) × (n ≤ 16)
  short : bases ≤ 65535
  end : done + (some + n - 1) ≤ bases

turn : (c : tie.After-block_of-some invariant-loop decreases-loop)
    → (let l = c.loop-done in let a = c.args in Turn (length a.sequence.now) a.letters c.count_words-words.result l.done c.block_of-some.result)
turn c =
    let l = c.loop-done in
    let taken = c.loop-done-test.true in
    let b = c.block_of-some.ensures in
    record {
      one = b.0;
      most = b.1;
      within = omega (arith, b.2, taken);
      letters = (c.requires.word.some, c.requires.word.few);
      short = c.requires.short;
      end = omega (arith, b.0, b.2, taken, l.invariant.all, c.requires.word.some);
    }

count-words-requires : tie.Need-count_words-words-requires invariant-loop decreases-loop
count-words-requires c κs = c.requires.short

loop-holds : tie.Need-loop-done-init invariant-loop decreases-loop
unfolding add_each words_from
loop-holds c =
    record {
      until = omega arith;
      all = c.count_words-words.ensures;
      bits-long = c.requires.bits-long;
      values-long = c.requires.values-long;
      outputs-long = c.requires.outputs-long;
      counted = c.requires.empty;
    }

sub-block-of : tie.Need-overflow_sub-words invariant-loop decreases-loop
sub-block-of c = omega (arith, c.loop-done.invariant.until)

block-of-requires : tie.Need-block_of-some-requires invariant-loop decreases-loop
block-of-requires c κs = omega (arith, c.loop-done-test.true)

add-end : tie.Need-overflow_add-end invariant-loop decreases-loop
add-end c = let t = turn c in omega (arith, t.within, c.loop-done.invariant.all, t.short)

add-end-2 : tie.Need-overflow_add-end-in-loop-done invariant-loop decreases-loop
add-end-2 c = let t = turn c in omega (arith, t.within, c.loop-done.invariant.all, t.short, t.letters.1)

sub-end : tie.Need-overflow_sub-end invariant-loop decreases-loop
sub-end c = let t = turn c in omega (arith, t.one, t.letters.0)

mul-used : tie.Need-overflow_mul-used invariant-loop decreases-loop
mul-used c = let t = turn c in omega (arith, t.most)

sub-add-words : tie.Need-slice_bounds-add_words-count invariant-loop decreases-loop
sub-add-words c = let t = turn c in omega (arith, t.one, t.letters.0)

part-add-words-start : tie.Need-slice_bounds-add_words-start invariant-loop decreases-loop
part-add-words-start c = let t = turn c in omega (arith, t.one, t.letters.0)

part-add-words-end : tie.Need-slice_bounds-add_words-end invariant-loop decreases-loop
part-add-words-end c = let t = turn c in omega (arith, t.end, t.one, t.letters.0)

slice-relend-prefix-add-words : tie.Need-slice_bounds-add_words-end-in-loop-done invariant-loop decreases-loop
slice-relend-prefix-add-words c =
    let t = turn c.before.before in
    omega (arith, t.most, c.loop-done.invariant.values-long)

slice-aggregate-add-words : tie.Need-slice_bounds-add_words-end-in-loop-done-2 invariant-loop decreases-loop
slice-aggregate-add-words c =
    let l = c.loop-done in
    sym (length-take-le (c.block_of-some.result * 32) l.values (omega (arith, (turn c.before.before.before).most, l.invariant.values-long)))

-- The part of the sequence that a block takes.
part-long : {bases n words done some : ℕ} → Turn bases n words done some → (sequence : List ℕ) → length sequence ≡ bases
    → length (take (done + some + n - 1 - done) (drop done sequence)) + 1 ≡ some + n
part-long {n = n} {done = done} {some = some} t sequence is =
    let long = length-take-le (done + some + n - 1 - done) (drop done sequence)
    (omega (arith, length-drop done sequence, t.end, t.one, t.letters.0, is)) in
    omega (arith, long, t.one, t.letters.0)

add-words-requires : tie.Need-add_words-requires invariant-loop decreases-loop
add-words-requires c κs =
    let l = c.loop-done in
    let t = turn c.before.before.before.before.before in
    let some = c.block_of-some.result in
    let room : some * 32 ≤ length l.values = omega (arith, t.most, l.invariant.values-long) in (
      record {
        written = c.requires.written;
        layable =
            record {
              some = t.letters.0;
              few = t.letters.1;
              count = some;
              one = t.one;
              most = t.most;
              words = part-long t c.args.sequence.now refl;
              long = omega (arith, t.most, l.invariant.bits-long);
              whole = length-take-le (some * 32) l.values room;
            };
        fits = omega (arith, t.most, l.invariant.outputs-long);
      },
      roomy-table c.args.sequence.now c.args.letters l.done l.table
          (omega (arith, l.invariant.until, l.invariant.all, t.short, t.letters.0)) l.invariant.counted,
    )

-- Where a block was added, from behind it.
abbrev added : tie.After-slice_known-in-loop-done-4-1 invariant-loop decreases-loop → tie.After-add_words invariant-loop decreases-loop
added c = c.before.before.before.before.before.before.before.before

add_done : tie.Need-overflow_add-done invariant-loop decreases-loop
add_done c =
    let t = turn c.before.before.before.before.before.before.before.before.before.before.before.before.before.before in
    omega (arith, t.within, c.loop-done.invariant.all, t.short)

loop-less : tie.Need-loop-done-smaller invariant-loop decreases-loop
loop-less c = let t = turn c.before.before.before.before.before.before.before.before.before.before.before.before.before.before in omega (arith, t.one, t.within)

loop-again : tie.Need-loop-done-preserved invariant-loop decreases-loop
loop-again c =
    let l = c.loop-done in
    let t = turn c.before.before.before.before.before.before.before.before.before.before.before.before.before.before in
    let some = c.block_of-some.result in
    let letters = c.args.letters in
    record {
      until = t.within;
      all = l.invariant.all;
      bits-long = c.add_words.auto.bits ∙ l.invariant.bits-long;
      values-long =
          length_front l.values c.add_words.new.values (some * 32) c.add_words.auto.values ∙ l.invariant.values-long;
      outputs-long = c.add_words.auto.outputs ∙ l.invariant.outputs-long;
      counted =
          block_more c.args.sequence.now l.table (replicate 33 0) letters l.done some (l.done + some + letters - 1 - l.done)
          t.letters.0 (omega (arith, t.one, t.letters.0)) (omega (arith, t.end, t.one, t.letters.0)) l.invariant.counted _
          c.add_words.ensures;
    }

same_length : tie.Need-shape_of-bits invariant-loop decreases-loop
same_length c = omega (arith, c.loop-done.invariant.bits-long, c.requires.bits-long)

same-length-2 : tie.Need-shape_of-values invariant-loop decreases-loop
same-length-2 c = omega (arith, c.loop-done.invariant.values-long, c.requires.values-long)

same-length-3 : tie.Need-shape_of-outputs invariant-loop decreases-loop
same-length-3 c = omega (arith, c.loop-done.invariant.outputs-long, c.requires.outputs-long)

same-length-4 : tie.Need-shape_of-table invariant-loop decreases-loop
same-length-4 c =
    let l = c.loop-done in
    let roomy = roomy-table c.args.sequence.now c.args.letters l.done l.table
    (omega (arith, l.invariant.until, l.invariant.all, c.requires.short, c.requires.word.some)) l.invariant.counted in
    roomy.whole ∙ sym (ap length c.requires.empty ∙ length-replicate {A = ℕ} 33 0)

returns : tie.Need-returns invariant-loop decreases-loop
returns c =
    let l = c.loop-done in (
      l.invariant.all,
      all_blocks c.args.sequence.now l.table c.args.letters l.done
          (omega (arith, l.invariant.until, l.invariant.all, c.loop-done-test.false)) l.invariant.counted,
    )

pub add_blocks_spec : {M : Type 1} → statement M
add_blocks_spec =
    tie.close
    (tie.spec
    invariant-loop
    decreases-loop
    count-words-requires
    loop-holds
    sub-block-of
    block-of-requires
    add-end
    add-end-2
    sub-end
    mul-used
    sub-add-words
    part-add-words-start
    part-add-words-end
    slice-relend-prefix-add-words
    slice-aggregate-add-words
    add-words-requires
    add_done
    loop-less
    loop-again
    same_length
    same-length-2
    same-length-3
    same-length-4
    returns)
