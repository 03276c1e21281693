-- Long lists are space for any file, and there is a load for each number of the image.
use borrow.Author.Rules.{rules}
use native.Mathlib.Nat.{le_refl}
use Rattle.read_parts.specs.Exact.{bytes-all}
use Rattle.open_file.specs.Spaces.{any-space}
use Rattle.list_file.proofs.list.Statement.{statement}
use Rattle.list_file.proofs.list.Tie as tie

list-in-requires : tie.Need-list_in-requires
list-in-requires c κs =
    (any-space _ (bytes-all _ (λ i. (c.shared_slice_known-1.given i).fits)), (le_refl _, (search rules, search rules)))

pub list_spec : {M : Type 1} → statement M
list_spec =
    tie.close
    (tie.spec
    (λ c. search rules)
    (λ c. search rules)
    (λ c. search rules)
    (λ c. search rules)
    (λ c. search rules)
    (λ c. search rules)
    (λ c. search rules)
    (λ c. search rules)
    (λ c. search rules)
    (λ c. search rules)
    list-in-requires
    (λ c. search rules))
