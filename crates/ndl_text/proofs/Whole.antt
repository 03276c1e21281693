-- A whole file told from its numbers: the count of modules, then the modules; the first lines, the blocks and the last lines.
use Prim.Native.Nat.{ℕ, ◌+◌, ◌≤◌, ◌<◌}
use mathlib.Core.Path.{◌≡◌}
use mathlib.Core.List.{List, ◌∷◌, ◌++◌}
use native.Mathlib.Omega.{arith}
use lib.ListN.{length, get_or}
use Rattle.meaning.specs.Layout.{each, module_numbers, file_numbers}
use Rattle.meaning.specs.Ndl.{module_text, compile_lines, end_lines, ndl_text}
use Rattle.bytes_out.specs.Filled.{Put}
use Rattle.bytes_out.specs.Laying.{Laying}
use Rattle.write_pieces.specs.Laying.{laying-start, laying-left, laying-put, laying-last, room-first}
use Rattle.image.specs.Stands.{Stands, stands-whole, stands-head, stands-tail}
use Rattle.ndl_text.specs.Standing.{ModulesTold, FileTold}

module _ {names numbers out : List ℕ} (t : FileTold names numbers out) where
  pub whole : Stands numbers 0 (length t.ms ∷ each module_numbers t.ms)
  unfolding file_numbers
  whole = stands-whole t.is

  -- The first number counts the modules.
  pub count-is : get_or numbers 0 0 ≡ length t.ms
  count-is = stands-head whole

  pub some_number : 0 < length numbers
  some_number = omega (arith, whole.within)

  abbrev blocks : List ℕ
  blocks = each (module_text names) t.ms

  pub front-room : length compile_lines ≤ length out
  unfolding ndl_text
  front-room = omega (arith, (room-first {xs = compile_lines} (blocks ++ end_lines) t.room).fits)

  -- Behind the first lines the blocks are left, and then the last lines.
  module _ {first : List ℕ} {at : ℕ} (front : Put compile_lines out 0 first at) where
    pub laid : Laying (ndl_text names t.ms) (blocks ++ end_lines) out 0 first at
    unfolding ndl_text
    laid = laying-put {rest = blocks ++ end_lines} front (laying-start t.room)

    abbrev pub blocks-told : ModulesTold names numbers 1 (get_or numbers 0 0) first at
    blocks-told =
        record {
          ms = t.ms;
          all = count-is;
          few = t.within.count;
          stands = stands-tail whole;
          within = t.within.modules;
          long = t.long;
          room = room-first {xs = blocks} end_lines (laying-left laid);
        }

    module _ {second : List ℕ} {next : ℕ} (middle : Put blocks first at second next) where
      last-laid : Laying (ndl_text names t.ms) end_lines out 0 second next
      last-laid = laying-put {rest = end_lines} middle laid

      pub last-room : next + length end_lines ≤ length second
      last-room = (laying-left last-laid).fits

      pub all_told : {third : List ℕ} {end : ℕ} → Put end_lines second next third end → Put (ndl_text names t.ms) out 0 third end
      all_told last = laying-last last last-laid
