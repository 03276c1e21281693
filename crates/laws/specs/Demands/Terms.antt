-- Words of the demands that the definitions have no name for.
use Rattle.std.specs.Prelude.{ℕ, ◌≡◌, Bool, List, map, length}
use Rattle.std.proofs.Math.Option.{some}
use Rattle.std.proofs.Math.ListN.{get_elem?}
use Rattle.meaning.specs.Syntax.{Module}
use Rattle.meaning.specs.Boxlist.{box, assoc}
use Rattle.meaning.specs.Ceilings.{Encodes}
use Rattle.meaning.specs.Heval.{pairlist, heval}
use Rattle.meaning.specs.Adder.{bit, binary, adder}
use Rattle.meaning.specs.Counter.{counter}
use Rattle.meaning.specs.Calls.{Decision, refusal, answer, Written}

-- A call is answered.
abbrev pub Answered : {R : Type 0} → Decision R → Type 0
Answered {R} decision = (r : R) × (decision ≡ answer r)

-- The output bytes of a run, or its refusal.
abbrev pub outputs : Decision Written → Decision (List ℕ)
outputs (refusal number place) = refusal number place
outputs (answer w) = answer w.bytes

-- Brock and Hunt's hierarchical value: HEVAL of the module of a number, in the list of modules whose encoding the file is, with the
-- module's inputs bound to bits.
pub record HevalGives (file : List ℕ) (number : ℕ) (bits values : List Bool) : Type 0 where
  pub ms : List Module
  pub m : Module
  pub encodes : Encodes file ms
  pub found : assoc number ms ≡ box m
  pub gives : heval ms number m.inputs (pairlist m.inputs bits) ≡ values

-- Bytes that are HEVAL's values, each 0 or 1.
pub record HevalBytes (file : List ℕ) (number : ℕ) (bits : List Bool) (bytes : List ℕ) : Type 0 where
  pub values : List Bool
  pub given : HevalGives file number bits values
  pub are : bytes ≡ map bit values

-- A run is answered by so many known bits that read, low first, as a number.
pub record RunReads (run : Decision Written) (count number : ℕ) : Type 0 where
  pub written : Written
  pub answered : run ≡ answer written
  pub bits : List Bool
  pub are : written.bytes ≡ map bit bits
  pub counted : length bits ≡ count
  pub reads : binary bits ≡ number

-- The two writers.
pub data Writer : (ℕ → List Module) → Type 0 where
  adders : Writer adder
  counters : Writer counter

-- The second list has each 0 and each 1 of the first at the same place.
abbrev pub KeepsKnown : (first second : List ℕ) → Type 0
KeepsKnown first second = (i : ℕ) (b : Bool) → get_elem? first i ≡ some (bit b) → get_elem? second i ≡ some (bit b)
