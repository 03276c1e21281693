-- What holds between two parts, and what a turn makes of it.
use Rattle.std.specs.Prelude.{Result, Ok, Err, ℕ, ◌+◌, ◌*◌, ◌≤◌, ◌<◌, ◌≡◌, true, false, cond, List, eqb, length, drop, take, get_or}
use Rattle.meaning.specs.Layout.{file_numbers}
use Rattle.meaning.specs.Calls.{Decision, refusal, answer}
use Rattle.meaning.specs.ListForm.{Name, ListedModule, letter, Kind.sign as sign_kind, opening, kind_of}
use Rattle.meaning.specs.ListNumbers.{numbered}
use Rattle.meaning.specs.ListCall.{word, reading, most_text}
use Rattle.text_modes.specs.Modes.{mode_after}
use Rattle.text_modes.specs.Kinds.{byte_kind}
use Rattle.text_modes.specs.declared.ByteKind.{ByteKind}
use Rattle.text_modes.specs.declared.ByteKind.TheVariants.{Letter, Space}
use Rattle.text_desk.specs.Desk.{is_name}
use Rattle.text_desk.specs.Paper.{desk_of}
use Rattle.refusals.specs.declared.Refusal.{Refusal}
use Rattle.refusals.specs.Refused.{refusal_at}
use Rattle.text_reader.specs.declared.turns.State.{State}
use Rattle.text_reader.specs.declared.turns.Turn.{Turn}
use Rattle.text_reader.specs.Parse.{Parse}
use Rattle.text_reader.specs.Dict.{Dict}

-- The state in a mode; `)` that ends a module (mode 16) brings a root.
abbrev pub in_mode : State → ℕ → State
in_mode s mode = record { mode = mode; marks = s.marks; names = s.names; nets = s.nets; root = s.root; count = s.count }

abbrev pub rooted : State → ℕ → State
rooted s mode = record { mode = mode; marks = s.marks; names = s.names; nets = 0; root = s.count; count = s.count + 1 }

abbrev pub closed : State → ℕ → State
closed s mode = cond (eqb s.mode 16) (rooted s mode) (in_mode s mode)

-- The lists are long enough.
pub record Rooms (text : List ℕ) (i at count : ℕ) (numbers tree : List ℕ) : Type 0 where
  pub within : i ≤ length text
  pub at_most : at ≤ 2 * i
  pub count_most : count ≤ i + 128
  pub numbers-room : 2 * length text + 2 ≤ length numbers
  pub tree_room : 4 * (length text + 128) ≤ length tree
  pub text-most : length text ≤ most_text

pub record Reading (text : List ℕ) (i : ℕ) (s : State) (numbers tree : List ℕ) : Type 0 where
  pub known : List Name
  pub heard : List Name
  pub parse : Parse text i s.mode (desk_of numbers s.marks) known heard
  pub dict : Dict tree s.names s.nets s.root s.count known heard
  pub rooms : Rooms text i s.marks.at s.count numbers tree

pub record Turnable (text : List ℕ) (i : ℕ) (s : State) (numbers tree : List ℕ) : Type 0 where
  pub reading : Reading text i s numbers tree
  pub inside : i < length text

-- Where reading goes on behind a part: a state again, further in the text.
pub record GoesOn (text : List ℕ) (i : ℕ) (turn : Turn) (numbers tree : List ℕ) : Type 0 where
  pub on : Reading text turn.next turn.state numbers tree
  pub further : i < turn.next

-- A turn goes on, or it has met what the text is refused for. No refusal has number 0.
abbrev pub Turned : (text : List ℕ) (i : ℕ) → Result Turn Refusal → (numbers tree : List ℕ) → Type 0
Turned text i (Ok turn) numbers tree = GoesOn text i turn numbers tree
Turned text i (Err refused) numbers tree = (refused.place ≡ i) × (reading text ≡ refusal refused.number refused.place) × (refused.number ≡ 0 → ⊥)

pub record Openable (text : List ℕ) (i mode : ℕ) (s : State) (numbers tree : List ℕ) : Type 0 where
  pub here : Turnable text i s numbers tree
  pub is : kind_of (get_or text i 0) ≡ sign_kind opening
  pub leads : mode ≡ mode_after s.mode 1
  pub fine : mode < 18

pub record SignAt (text : List ℕ) (i : ℕ) (part : ByteKind) (s : State) (numbers tree : List ℕ) : Type 0 where
  pub here : Turnable text i s numbers tree
  pub is : part ≡ byte_kind (kind_of (get_or text i 0))
  pub no_letter : part ≡ Letter → ⊥
  pub no_space : part ≡ Space → ⊥

pub record AtomAt (text : List ℕ) (i : ℕ) (s : State) (numbers tree : List ℕ) : Type 0 where
  pub here : Turnable text i s numbers tree
  pub is : kind_of (get_or text i 0) ≡ letter

pub record ShortAtom (text : List ℕ) (i end mode : ℕ) (s : State) (numbers tree : List ℕ) : Type 0 where
  pub atom : AtomAt text i s numbers tree
  pub ends : end ≡ i + length (word (drop i text))
  pub short : end ≤ i + 32
  pub leads : mode ≡ mode_after s.mode 4
  pub fine : mode < 18

pub record NameAt (text : List ℕ) (i end mode : ℕ) (s : State) (numbers tree : List ℕ) : Type 0 where
  pub short : ShortAtom text i end mode s numbers tree
  pub named : is_name s.mode ≡ true

pub record NetAt (text : List ℕ) (i end mode : ℕ) (s : State) (numbers tree : List ℕ) : Type 0 where
  pub short : ShortAtom text i end mode s numbers tree
  pub netted : is_name s.mode ≡ false

-- What the reader asks of its lists, and what it gives: the file's numbers, or the refusal.
pub record Readable (text numbers tree : List ℕ) : Type 0 where
  pub blank : (k : ℕ) → get_or tree k 0 ≡ 0
  pub numbers-room : 2 * length text + 2 ≤ length numbers
  pub tree_room : 4 * (length text + 128) ≤ length tree
  pub text-most : length text ≤ most_text

abbrev pub ReadAs : Decision (List ListedModule) → (numbers : List ℕ) → Result ℕ Refusal → Type 0
ReadAs (refusal number place) numbers r = (r ≡ Err (refusal_at number place)) × (number ≡ 0 → ⊥)
ReadAs (answer ms) numbers r = (count : ℕ) × (r ≡ Ok count) × (take count numbers ≡ file_numbers (numbered ms)) × (count ≤ length numbers)

pub record Reads (text numbers : List ℕ) (r : Result ℕ Refusal) : Type 0 where
  pub right : ReadAs (reading text) numbers r
