-- What flattening gives under another number. That files which differ in their numbers only answer alike is in proofs/Calls.antt.
use Rattle.std.specs.Prelude.{ℕ, ◌+◌, List, [], ◌∷◌, leb, length}
use Rattle.meaning.specs.Syntax.{Module}
use Rattle.meaning.specs.Figures.{gate_count, room}
use Rattle.meaning.specs.Layout.{encode}
use Rattle.meaning.specs.Flattening.{flat_module}
use Rattle.meaning.specs.Calls.{Decision, Written, demand, fitting}
use Rattle.renaming.specs.Flat.{under}

-- Flattening, with another number on the module that is written: it alone can change the bytes, and so 22.
abbrev pub flattening_under : (other number scratch out : ℕ) (ms : List Module) → Module → Decision Written
flattening_under other number scratch out ms m =
    demand 24 0 (leb (length m.inputs + gate_count ms number) 4096)
    (demand 21 0 (leb (room ms number) scratch)
    (fitting (encode (under other (flat_module ms number (length m.inputs)) ∷ [])) (room ms number) out))
