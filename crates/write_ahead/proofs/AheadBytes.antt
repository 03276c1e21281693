-- The bytes of module 41 as they are laid: its lists, then its occurrences, and last the count that stands in front of them.
use Prim.Native.Nat.{ℕ, ◌+◌, ◌*◌, ◌-◌, ◌<◌, ◌≤◌}
use native.Mathlib.Numerals.{add-one}
use native.Mathlib.Omega.{arith}
use mathlib.Core.Path.{◌≡◌}
use mathlib.Core.List.{List, [], ◌∷◌, ◌++◌, append_assoc}
use lib.ListN.{length, take, drop, get_or, set}
use lib.Seq.{take-suc, set_at, length-take-le}
use borrow.Author.Tests.{lt-ltb}
use Rattle.meaning.specs.Layout.{each, list_numbers, occurrence_numbers, module_numbers, number_bytes}
use Rattle.meaning.specs.Adder.{up_from}
use Rattle.meaning.specs.FastAdder.{spine, chain, cut, height, steps, lookahead}
use Rattle.laws.specs.Lists.{each_append}
use Rattle.laws.specs.FastAdder.Shape.{height_tall, steps-width}
use Rattle.laws.specs.FastAdder.Counting.{ones, twos}
use Rattle.laws.specs.FastAdder.Figures.{chain_length, some-step}
use Rattle.bytes_out.specs.Filled.{Put}
use Rattle.bytes_out.specs.Laying.{Laying}
use Rattle.write_pieces.specs.Rooms.{Room}
use Rattle.write_pieces.specs.Laying.{laying-none, laying-length, laying-left, laying-put, laying-last, room-first}
use Rattle.write_trees.specs.declared.Tree.TheVariants.{Spine}
use Rattle.write_trees.proofs.Heights.{few-leaves}
use Rattle.write_ahead.specs.Carries.{bytes_of}
use Rattle.write_ahead.specs.Laid.{Chainable, ChainLaid}
use Rattle.write_ahead.specs.declared.chain.Steps.{Steps}
use Rattle.write_ahead.proofs.Chains.{laid-few}

-- A number that is stored in front of what was put behind its place.
put_in_front : (x : ℕ) {ys before after : List ℕ} {at next : ℕ} → at < length before → Put ys before (at + 1) after next
    → Put (x ∷ ys) before at (set after at x) next
put_in_front x {ys} {before} {after} {at} {next} inside p =
    record {
      place = omega (arith, p.place);
      holds =
          rw (p.holds, add-one, take-suc before at 0 inside, append_assoc)
          (set_at (take at before) (get_or before at 0) (ys ++ drop next before) x at (length-take-le at before (omega arith)));
    }

-- How many occurrences there are.
abbrev count : ℕ → ℕ
count n = length (chain n (steps n) 0)

count-of-trees : (n : ℕ) → count n + (ones (steps n) + 2 * twos (steps n)) ≡ 2 * n
count-of-trees n = omega (arith, chain_length n (steps n) (steps-width n))

one_byte : (n : ℕ) → 1 ≤ n → n ≤ 64 → number_bytes (count n) ≡ count n ∷ []
unfolding number_bytes
one_byte n some most =
    let small : count n < 128 =
    omega (arith, count-of-trees n, some-step (steps n) (omega (arith, steps-width n))) in
    rw (lt-ltb (count n) 128 small)

abbrev pub input_bytes : ℕ → List ℕ
input_bytes n = each number_bytes (41 ∷ list_numbers (0 ∷ up_from (n + 1) (2 * n)))

abbrev pub output_bytes : ℕ → List ℕ
output_bytes n = each number_bytes (list_numbers (up_from 1 n))

bytes-of-lists : (c : ℕ) (xs ys zs : List ℕ)
    → each number_bytes (41 ∷ (xs ++ (ys ++ (c ∷ zs))))
    ≡ each number_bytes (41 ∷ xs) ++ (each number_bytes ys ++ (number_bytes c ++ each number_bytes zs))
unfolding each
bytes-of-lists c xs ys zs = simp (each_append, append_assoc)

bytes-of-lookahead : (n : ℕ) → 1 ≤ n → n ≤ 64
    → input_bytes n ++ (output_bytes n ++ (count n ∷ bytes_of (chain n (steps n) 0)))
    ≡ each number_bytes (module_numbers (lookahead n (steps n)))
unfolding lookahead module_numbers
bytes-of-lookahead n some most =
    rw (
      bytes-of-lists (count n) (list_numbers (0 ∷ up_from (n + 1) (2 * n))) (list_numbers (up_from 1 n)) (each occurrence_numbers (chain n (steps n) 0)),
      one_byte n some most,
    )

module _
    {n at : ℕ} {before : List ℕ} (some : 1 ≤ n) (most : n ≤ 64)
    (room : Room (each number_bytes (module_numbers (lookahead n (steps n)))) before at)
  where
    abbrev whole : List ℕ
    whole = each number_bytes (module_numbers (lookahead n (steps n)))

    all_left : Laying whole (input_bytes n ++ (output_bytes n ++ (count n ∷ bytes_of (chain n (steps n) 0)))) before at before at
    all_left = laying-none before at (bytes-of-lookahead n some most) room.fits

    pub inputs-room : Room (input_bytes n) before at
    inputs-room = room-first _ (laying-left all_left)

    module _ {one : List ℕ} {next : ℕ} (first : Put (input_bytes n) before at one next) where
      pub outputs-room : Room (output_bytes n) one next
      outputs-room = room-first _ (laying-left (laying-put first all_left))

      module _ {two : List ℕ} {place : ℕ} (second : Put (output_bytes n) one next two place) where
        rest-left : Laying whole (count n ∷ bytes_of (chain n (steps n) 0)) before at two place
        rest-left = laying-put second (laying-put first all_left)

        pub place-within : place < length before
        place-within = omega (arith, (laying-left rest-left).fits, laying-length rest-left)

        module _ {h : ℕ} (is : h ≡ height n) (low : h ≤ 5) where
          same-steps : cut n (spine 0 h) ≡ steps n
          unfolding steps
          same-steps = rw is

          pub chain_able : Chainable n (Spine 0 h) n 0 two (place + 1)
          chain_able =
              record {
                narrow = most;
                sound = omega arith;
                few = few-leaves h low;
                more = rw is (height_tall n);
                within = omega arith;
                room = rw same-steps (omega (arith, (laying-left rest-left).fits));
              }

          module _ {three : List ℕ} {r : Steps} (third : ChainLaid n (Spine 0 h) n 0 two (place + 1) three r) where
            pub trees-within : r.trees ≤ 2 * n
            trees-within = omega (arith, laid-few chain_able third)

            counted : 2 * n - r.trees ≡ count n
            counted = omega (arith, count-of-trees n, rw same-steps at third.trees)

            pub lookahead-put : Put whole before at (set three place (2 * n - r.trees)) r.at
            lookahead-put =
                laying-last
                (rw counted
                (put_in_front (count n) (omega (arith, place-within, laying-length rest-left)) (rw same-steps at third.put)))
                rest-left
