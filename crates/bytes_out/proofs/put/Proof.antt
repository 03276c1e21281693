-- `encoder::put` meets its contract: a number below 128 is stored as one byte, any other as two, low group first. Assumes nothing.
use Prim.Native.Nat.{◌+◌, ◌%◌, ◌/◌, ◌≤◌}
use borrow.Author.Rules.{rules}
use native.Mathlib.Numerals.{add-one}
use native.Mathlib.Omega.{arith}
use mathlib.Core.Path.{◌≡◌}
use mathlib.Core.List.{[], ◌∷◌}
use lib.ListN.{length, length-set}
use Rattle.meaning.specs.Layout.{number_bytes}
use Rattle.laws.specs.Written.{bytes-of-low, bytes-of-high}
use Rattle.bytes_out.proofs.Filling.{put_stores}
use Rattle.bytes_out.proofs.put.Statement.{statement}
use Rattle.bytes_out.proofs.put.Tie as tie

-- The bytes of the number in each arm, and that there is room for them.
low-bytes : (c : tie.Then-n-lt128) → number_bytes c.args.n ≡ c.args.n ∷ []
low-bytes c = bytes-of-low c.args.n (omega arith)

low-room : (c : tie.Then-n-lt128) → c.args.at + 1 ≤ length c.args.out.now
low-room c = rw (low-bytes c) at c.requires.1

high-bytes : (c : tie.Else-n-lt128)
    → number_bytes c.args.n ≡ (128 + c.args.n % 128) ∷ (c.args.n / 128) ∷ []
high-bytes c = bytes-of-high c.args.n (omega arith)

high-room : (c : tie.Else-n-lt128) → c.args.at + 2 ≤ length c.args.out.now
high-room c = rw (high-bytes c) at c.requires.1

slice-write-out : tie.Need-bounds-out-at
slice-write-out c = omega (arith, low-room c)

slice-write-out-2 : tie.Need-bounds-out-at-else-n-lt128
slice-write-out-2 c = omega (arith, high-room c)

slice-write-out-3 : tie.Need-bounds-out-at-else-n-lt128-2
slice-write-out-3 c = simp length-set (omega (arith, high-room c))

returns : tie.Need-returns-then-n-lt128
returns c =
    rw (low-bytes c)
    (put_stores (c.args.n ∷ []) c.args.out.now c.args.at (low-room c))

returns-2 : tie.Need-returns-else-n-lt128
returns-2 c =
    rw (high-bytes c, add-one)
    (put_stores ((128 + c.args.n % 128) ∷ (c.args.n / 128) ∷ [])
    c.args.out.now
    c.args.at
    (high-room c))

pub put_spec : {M : Type 1} → statement M
put_spec =
    tie.close
    (tie.spec
    (λ c. search rules)
    slice-write-out
    (λ c. search rules)
    (λ c. search rules)
    (λ c. search rules)
    slice-write-out-2
    (λ c. search rules)
    (λ c. search rules)
    slice-write-out-3
    (λ c. search rules)
    (λ c. search rules)
    returns
    (λ c. search rules)
    returns-2)
