-- A file read byte by byte: which step a kind of byte is, and one byte more of a block.
use Rattle.std.proofs.Common.{◌≡◌, ℕ, ◌+◌, ◌<◌, List, [], ◌∷◌, length, get_or, take, sym, ap, ◌∙◌, add-one, take-suc}
use lib.Seq.{take-nil}
use Rattle.fasta.specs.Steps.{kind_of, State, behind, stepped, steps, Front}
use Rattle.fasta.specs.Whole.{in_blocks}
use Rattle.fasta.specs.declared.lines.Line.{Line}
use Rattle.fasta.specs.declared.lines.Kind.{Kind}

pub step_of : (n : ℕ) (s : State) (byte : ℕ) {line : Line} {found kind : Kind} → line ≡ s.line → found ≡ kind_of line byte → found ≡ kind
    → stepped n s byte ≡ behind n s byte kind
step_of n s byte same is told = ap (behind n s byte) (ap (λ (l : Line). kind_of l byte) (sym same) ∙ sym is ∙ told)

pub no_front : (buffer : List ℕ) → Front [] buffer 0
no_front buffer =
    record {
      stands = sym (take-nil {A = ℕ} (length buffer));
      count = sym (ap length (take-nil {A = ℕ} (length buffer)));
    }

pub one_more : (n : ℕ) (s : State) (bytes : List ℕ) (i : ℕ) → i < length bytes
    → stepped n (steps n s (take i bytes)) (get_or bytes i 0) ≡ steps n s (take (i + 1) bytes)
unfolding steps
one_more n s bytes i inside =
    sym (ap (λ (k : ℕ). steps n s (take k bytes)) (add-one i)
    ∙ ap (steps n s) (take-suc bytes i 0 inside)
    ∙ in_blocks n s (take i bytes) (get_or bytes i 0 ∷ []))
