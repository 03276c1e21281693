-- Where each module of a file begins in its bytes, with the file's length behind the last.
use Rattle.std.specs.Prelude.{ℕ, ◌≤◌, ◌<◌, ◌≡◌, List, ◌∷◌, length, get_or, set}
use Rattle.std.proofs.Common.{sym, ap, ◌∙◌, arith, get_or-set_same, get_or-set_other}
use Rattle.std.proofs.Math.Decide.{dec_lt}
use Rattle.std.proofs.Math.Seq.{take-length}
use Rattle.meaning.specs.Syntax.{Module}
use Rattle.meaning.specs.Layout.{each, number_bytes, module_numbers, file_numbers, encode}
use Rattle.meaning.specs.Ceilings.{Encodes}
use Rattle.read_file.specs.Held.{in_front}

pub begins_with_end :
    {file : List ℕ} (places : List ℕ) {ms : List Module} {modules : ℕ}
    → ((k : ℕ) → k < length ms → get_or places k 0 ≡ length (each number_bytes (in_front ms k)))
    → Encodes file ms
    → modules ≡ length ms
    → modules < length places
    → (k : ℕ)
    → k ≤ length ms
    → get_or (set places modules (length file)) k 0 ≡ length (each number_bytes (in_front ms k))
unfolding encode file_numbers
begins_with_end {file} places {ms} {modules} begin encodes all room k within = go (dec_lt k modules)
  where
    ends : length file ≡ length (each number_bytes (in_front ms (length ms)))
    ends =
        ap length (sym encodes.encoded)
        ∙ ap (λ (l : List Module). length (each number_bytes (length ms ∷ each module_numbers l))) (sym (take-length ms))

    go : Dec (k < modules) → get_or (set places modules (length file)) k 0 ≡ length (each number_bytes (in_front ms k))
    go (yes h) = get_or-set_other places modules k (length file) 0 (λ same. omega arith) ∙ begin k (omega arith)
    go (no h) =
        let last : k ≡ length ms = omega arith in
        ap (λ (i : ℕ). get_or (set places modules (length file)) i 0) (last ∙ sym all)
        ∙ get_or-set_same places modules (length file) 0 room
        ∙ ends
        ∙ ap (λ (i : ℕ). length (each number_bytes (in_front ms i))) (sym last)
