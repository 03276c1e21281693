-- A whole file told from its numbers: the count of modules, then the modules, between brackets.
use Prim.Native.Nat.{ℕ, ◌+◌, ◌≤◌, ◌<◌}
use mathlib.Core.Path.{◌≡◌}
use mathlib.Core.List.{List, [], ◌∷◌, ◌++◌}
use native.Mathlib.Omega.{arith}
use lib.ListN.{length, get_or}
use Rattle.meaning.specs.Layout.{each, module_numbers, file_numbers}
use Rattle.meaning.specs.ListPrint.{parted, module_break, module_list, list_text}
use Rattle.bytes_out.specs.Filled.{Put}
use Rattle.bytes_out.specs.Laying.{Laying}
use Rattle.write_pieces.specs.Laying.{laying-start, laying-left, laying-put, laying-last, room-first}
use Rattle.image.specs.Stands.{Stands, stands-whole, stands-head, stands-tail}
use Rattle.print_lines.specs.Standing.{ModulesTold, FileTold}

module _ {numbers out : List ℕ} (t : FileTold numbers out) where
  pub whole : Stands numbers 0 (length t.ms ∷ each module_numbers t.ms)
  unfolding file_numbers
  whole = stands-whole t.is

  -- The first number counts the modules.
  pub count-is : get_or numbers 0 0 ≡ length t.ms
  count-is = stands-head whole

  pub some_number : 0 < length numbers
  some_number = omega (arith, whole.within)

  abbrev modules : List ℕ
  modules = parted module_break module_list t.ms

  abbrev end : List ℕ
  end = 41 ∷ 10 ∷ []

  pub front-room : 1 ≤ length out
  unfolding list_text
  front-room = omega (arith, (room-first {xs = 40 ∷ []} (modules ++ end) t.room).fits)

  -- Behind the bracket the modules are left, and then the end.
  module _ {first : List ℕ} {at : ℕ} (front : Put (40 ∷ []) out 0 first at) where
    pub laid : Laying (list_text t.ms) (modules ++ end) out 0 first at
    unfolding list_text
    laid = laying-put {rest = modules ++ end} front (laying-start t.room)

    abbrev pub modules-told : ModulesTold numbers 1 (get_or numbers 0 0) first at
    modules-told =
        record {
          entries = t.ms;
          all = count-is;
          stands = stands-tail whole;
          within = t.within.modules;
          room = room-first {xs = modules} end (laying-left laid);
        }

    module _ {second : List ℕ} {next : ℕ} (middle : Put modules first at second next) where
      last-laid : Laying (list_text t.ms) end out 0 second next
      last-laid = laying-put {rest = end} middle laid

      pub last-room : next + length end ≤ length second
      last-room = (laying-left last-laid).fits

      pub all_told : {third : List ℕ} {place : ℕ} → Put end second next third place → Put (list_text t.ms) out 0 third place
      all_told last = laying-last last last-laid
