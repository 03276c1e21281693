-- The new file is at most three times as long as the file: one of the four gates has eight bytes or more, and at most fourteen come with
-- the gates in its place.
use Prim.Native.Nat.{ℕ, ◌+◌, ◌*◌, ◌≤◌, ◌<◌}
use mathlib.Core.Path.{◌≡◌, ap, ◌∙◌}
use mathlib.Core.List.{List, [], ◌∷◌, ◌++◌}
use native.Mathlib.Omega.{arith}
use lib.ListN.{length, length-append}
use Rattle.meaning.specs.Syntax.{Occurrence, Module}
use Rattle.meaning.specs.Layout.{each, number_bytes, encode}
use Rattle.meaning.specs.Withdrawn.{pair_kind, two_kind, three_gates, rewrite_body, unused, rewrite_module, rewrite_file}
use Rattle.laws.specs.Lists.{each_append}
use Rattle.laws.specs.WellFormed.{Accepted}
use Rattle.laws.specs.Written.{nets_bytes, occurrence_bytes, module_bytes, some_byte, bytes-of-nets, bytes-of-occurrence, bytes-of_module, bytes-of-file}
use Rattle.laws.specs.Adder.Bytes.{most-count, low_count}
use Rattle.laws.specs.Withdrawn.Kinds.{Four, nand4, or4, and4, nor4, four_is}
use Rattle.laws.specs.Withdrawn.Suits.{on_four, Suits, over, kept, replaced}
use Rattle.laws.specs.Withdrawn.Enough.{module_suits}

-- The bytes of an occurrence, and of lists of nets of one, two and four.
long-occurrence : (o : Occurrence)
    → length (occurrence_bytes o) ≡ length (nets_bytes o.drives) + (length (number_bytes o.refers) + length (nets_bytes o.takes))
long-occurrence o =
    ap length (bytes-of-occurrence o)
    ∙ length-append (nets_bytes o.drives) _
    ∙ ap (λ (n : ℕ). length (nets_bytes o.drives) + n) (length-append (number_bytes o.refers) (nets_bytes o.takes))

long-more : (x : ℕ) (xs : List ℕ) → length (each number_bytes (x ∷ xs)) ≡ length (number_bytes x) + length (each number_bytes xs)
unfolding each
long-more x xs = length-append (number_bytes x) (each number_bytes xs)

long-none : length (each number_bytes []) ≡ 0
unfolding each
long-none = omega arith

long-one : (x : ℕ) → length (nets_bytes (x ∷ [])) ≡ 1 + length (number_bytes x)
long-one x = simp long-more (omega (arith, low_count 1 (omega arith), long-none))

long-two : (x y : ℕ) → length (nets_bytes (x ∷ y ∷ [])) ≡ 1 + length (number_bytes x) + length (number_bytes y)
long-two x y = simp long-more (omega (arith, low_count 2 (omega arith), long-none))

long-four : (a b c d : ℕ)
    → length (nets_bytes (a ∷ b ∷ c ∷ d ∷ []))
    ≡ 1 + length (number_bytes a) + length (number_bytes b) + length (number_bytes c) + length (number_bytes d)
long-four a b c d = simp long-more (omega (arith, low_count 4 (omega arith), long-none))

low_kinds : {kind : ℕ} → Four kind → (kind < 128) × (pair_kind kind < 128) × (two_kind kind < 128)
unfolding pair_kind two_kind
low_kinds nand4 = (omega arith, omega arith, omega arith)
low_kinds or4 = (omega arith, omega arith, omega arith)
low_kinds and4 = (omega arith, omega arith, omega arith)
low_kinds nor4 = (omega arith, omega arith, omega arith)

module _ {kind : ℕ} (four : Four kind) (x y : ℕ) (drives : List ℕ) (a b c d : ℕ) where
  pair-long : (net p q : ℕ)
      → length (occurrence_bytes (record { drives = net ∷ []; refers = pair_kind kind; takes = p ∷ q ∷ [] }))
      ≡ 3 + length (number_bytes net) + length (number_bytes p) + length (number_bytes q)
  pair-long net p q =
      omega (
        arith,
        long-occurrence (record { drives = net ∷ []; refers = pair_kind kind; takes = p ∷ q ∷ [] }),
        long-one net,
        long-two p q,
        low_count (pair_kind kind) (low_kinds four).1,
      )

  three-long : length (each occurrence_bytes (three_gates x y (on_four drives kind a b c d))) ≤ 3 * length (occurrence_bytes (on_four drives kind a b c d))
  unfolding three_gates each
  three-long =
      omega (
        arith,
        length-append (occurrence_bytes (record { drives = x ∷ []; refers = pair_kind kind; takes = a ∷ b ∷ [] })) (occurrence_bytes (record { drives = y ∷ []; refers = pair_kind kind; takes = c ∷ d ∷ [] }) ++ (occurrence_bytes (record { drives = drives; refers = two_kind kind; takes = x ∷ y ∷ [] }) ++ [])),
        length-append (occurrence_bytes (record { drives = y ∷ []; refers = pair_kind kind; takes = c ∷ d ∷ [] })) (occurrence_bytes (record { drives = drives; refers = two_kind kind; takes = x ∷ y ∷ [] }) ++ []),
        length-append (occurrence_bytes (record { drives = drives; refers = two_kind kind; takes = x ∷ y ∷ [] })) [],
        pair-long x a b,
        pair-long y c d,
        long-occurrence (record { drives = drives; refers = two_kind kind; takes = x ∷ y ∷ [] }),
        long-two x y,
        low_count (two_kind kind) (low_kinds four).2,
        long-occurrence (on_four drives kind a b c d),
        long-four a b c d,
        low_count kind (low_kinds four).0,
        most-count x,
        most-count y,
        some_byte a,
        some_byte b,
        some_byte c,
        some_byte d,
        bytes-of-drives,
      )
    where
      bytes-of-drives : 1 ≤ length (nets_bytes drives)
      bytes-of-drives = omega (arith, ap length (bytes-of-nets drives), length-append (number_bytes (length drives)) (each number_bytes drives), some_byte (length drives))

body-long : {used fresh : List ℕ} {os : List Occurrence} → Suits used fresh os
    → length (each occurrence_bytes (rewrite_body fresh os)) ≤ 3 * length (each occurrence_bytes os)
unfolding rewrite_body each
body-long over = omega arith
body-long (kept {fresh = fresh} {o = o} {os = os} stays drives takes rest) =
    rw stays
    (omega (
      arith,
      length-append (occurrence_bytes o) (each occurrence_bytes (rewrite_body fresh os)),
      length-append (occurrence_bytes o) (each occurrence_bytes os),
      body-long rest,
    ))
body-long (replaced {fresh = fresh} {x = x} {y = y} {drives = nets} {kind = kind} {a = a} {b = b} {c = c} {d = d} {os = os} four drives takes rest) =
    let o = on_four nets kind a b c d in
    rw ((four_is four).gone, each_append occurrence_bytes (three_gates x y o) (rewrite_body fresh os))
    (omega (
      arith,
      length-append (each occurrence_bytes (three_gates x y o)) (each occurrence_bytes (rewrite_body fresh os)),
      length-append (occurrence_bytes o) (each occurrence_bytes os),
      three-long four x y nets a b c d,
      body-long rest,
    ))

-- Number, inputs and outputs stay, and the count has at most two bytes.
parts-long : (m : Module)
    → length (module_bytes m)
    ≡ length (number_bytes m.number)
    + (length (nets_bytes m.inputs)
    + (length (nets_bytes m.outputs) + (length (number_bytes (length m.occurrences)) + length (each occurrence_bytes m.occurrences))))
parts-long m = ap length (bytes-of_module m) ∙ simp length-append

module_long : (m : Module) {used : List ℕ} → Suits used (unused m) m.occurrences → length (module_bytes (rewrite_module m)) ≤ 3 * length (module_bytes m)
unfolding rewrite_module
module_long m suits =
    omega (
      arith,
      parts-long (rewrite_module m),
      parts-long m,
      most-count (length (rewrite_body (unused m) m.occurrences)),
      some_byte (length m.occurrences),
      body-long suits,
    )

modules-long : {ms : List Module} → Accepted ms → length (each module_bytes (rewrite_file ms)) ≤ 3 * length (each module_bytes ms)
unfolding rewrite_file each
modules-long Accepted.none = omega arith
modules-long (Accepted.some {m = m} {later = later} ok rest) =
    omega (
      arith,
      length-append (module_bytes (rewrite_module m)) (each module_bytes (rewrite_file later)),
      length-append (module_bytes m) (each module_bytes later),
      module_long m (module_suits ok),
      modules-long rest,
    )

pub file-long : {ms : List Module} → Accepted ms → length (encode (rewrite_file ms)) ≤ 3 * length (encode ms)
file-long {ms} accepted =
    omega (
      arith,
      ap length (bytes-of-file (rewrite_file ms)),
      ap length (bytes-of-file ms),
      length-append (number_bytes (length (rewrite_file ms))) (each module_bytes (rewrite_file ms)),
      length-append (number_bytes (length ms)) (each module_bytes ms),
      most-count (length (rewrite_file ms)),
      some_byte (length ms),
      modules-long accepted,
    )
