-- The bytes of a flattened file: what stands in front of the gates, then the gates.
use Rattle.std.specs.Prelude.{◌≡◌, List, [], ◌∷◌, ◌++◌, ℕ}
use Rattle.std.proofs.Common.{◌∙◌, append_assoc, append-nil}
use Rattle.meaning.specs.Syntax.{Module}
use Rattle.meaning.specs.Layout.{each, encode}
use Rattle.meaning.specs.Calls.{flat_file}
use Rattle.laws.specs.Written.{bytes-of_module, bytes-of-file}
use Rattle.flat_engine.specs.Flat.{gates_of, front_of, flat_of}

bytes-of-one : (f : Module) → encode (f ∷ []) ≡ front_of f ++ gates_of f
unfolding each
bytes-of-one f = bytes-of-file (f ∷ []) ∙ rw (bytes-of_module f) (simp (append_assoc, append-nil))

pub parts-of-flat :
    (ms : List Module) (number : ℕ) (m : Module)
    → flat_file ms number m ≡ front_of (flat_of ms number m) ++ gates_of (flat_of ms number m)
unfolding flat_file
parts-of-flat ms number m = bytes-of-one (flat_of ms number m)
