-- A list written as a file has it, behind its count: in a turn of the loop the slot of the i-th net is in the scratch, and the net there
-- is the i-th.
use Prim.Native.Nat.{ℕ, ◌+◌, ◌-◌, ◌≤◌, ◌<◌}
use native.Mathlib.Omega.{arith}
use mathlib.Core.Path.{◌≡◌, sym, ap, ◌∙◌}
use mathlib.Core.List.{List}
use lib.ListN.{length, get_or, length-append}
use Rattle.meaning.specs.Layout.{each, number_bytes}
use Rattle.laws.specs.Written.{nets_bytes, bytes-of-nets}
use Rattle.bytes_out.specs.Filled.{Put}
use Rattle.bytes_out.specs.Puts.{put-more, length-put}
use Rattle.bytes_out.specs.Writing.{Writing, writing-none}
use Rattle.image.specs.Reading.{length-of-values, value-at}
use Rattle.flat_bytes.specs.Slots.{Listable, nets_at}

pub record Turn (image : List ℕ) (from to : ℕ) (scratch : List ℕ) (i slot : ℕ) : Type 0 where
  pub more : i < length (nets_at image from to scratch)
  pub inside : slot < length scratch
  pub value : get_or scratch slot 0 ≡ get_or (nets_at image from to scratch) i 0

module _
    {image : List ℕ} {from to : ℕ} {scratch before : List ℕ} {at : ℕ} (able : Listable image from to scratch before at)
  where
    abbrev nets : List ℕ
    nets = nets_at image from to scratch

    pub count-of-nets : length (nets_at image from to scratch) ≡ to - from
    count-of-nets = length-of-values 0 image from to 0 scratch able.readable.inside

    -- The count, then the nets.
    parts : length (nets_bytes nets) ≡ length (number_bytes (to - from)) + length (each number_bytes nets)
    parts =
        ap length (bytes-of-nets nets)
        ∙ length-append (number_bytes (length nets)) (each number_bytes nets)
        ∙ ap (λ (n : ℕ). length (number_bytes n) + length (each number_bytes nets)) count-of-nets

    pub count_room : at + length (number_bytes (to - from)) ≤ length before
    count_room = omega (arith, able.room, parts)

    -- Behind the count.
    module _ {counted : List ℕ} {behind : ℕ} (first : Put (number_bytes (to - from)) before at counted behind) where
      pub counted-long : length counted ≡ length before
      counted-long = length-put first (omega (arith, able.room)) (omega (arith, count_room, first.place))

      pub none_written : Writing (nets_at image from to scratch) counted behind counted behind 0
      none_written = writing-none nets counted behind (omega (arith, able.room, parts, first.place, counted-long))

      pub whole :
          {after : List ℕ} {end : ℕ}
          → Put (each number_bytes (nets_at image from to scratch)) counted behind after end
          → Put (nets_bytes (nets_at image from to scratch)) before at after end
      whole second =
          rw (bytes-of-nets nets, count-of-nets) (put-more first (omega (arith, able.room)) second)

    pub turn : {i slot : ℕ} → i < to - from → slot ≡ get_or image (from + i) 0 → Turn image from to scratch i slot
    turn {i} {slot} h e =
        record {
          more = omega (arith, count-of-nets);
          inside = omega (arith, able.readable.slots (from + i) (omega arith) (omega arith));
          value = ap (λ (s : ℕ). get_or scratch s 0) e ∙ sym (value-at 0 image from to scratch i h able.readable.inside);
        }
