-- What stands on the desk at each stage. The numbers are those of the file of what was read, whatever names become known later; so they
-- are said for all lists of names and nets behind those known.
use Rattle.std.specs.Prelude.{ℕ, suc, ◌+◌, ◌≤◌, ◌≡◌, List, [], ◌∷◌, ◌++◌, map, length}
use Rattle.meaning.specs.Layout.{file_numbers}
use Rattle.meaning.specs.ListForm.{Name, ListedOccurrence, ListedModule}
use Rattle.meaning.specs.ListReader.{Stage, list_due, modules, name_due, inputs_due, inputs, outputs_due, outputs, body_due, body, drives_due, drives, call_due, refers_due, takes, occurrence_end, module_end, Stand, start, at, finished, astray, ◌and◌}
use Rattle.meaning.specs.ListNumbers.{gate_names, entered, each_name, occurrence_nets, mentions_of, number_among, numbered}
use Rattle.laws.specs.Texts.Numbering.{Behind}
use Rattle.laws.specs.Texts.Sheets.{heading, ports, with_nets, with_body, called, sheet}
use Rattle.text_desk.specs.Desk.{Desk}

abbrev mentioned_in : List ListedModule → Name → List ListedOccurrence → List Name
mentioned_in ms n cs = each_name mentions_of ms ++ (n ∷ map (λ c. c.refers) cs)

-- The modules mentioned so far, and the nets of the module that is being read, as they stand in the text.
abbrev pub mentioned_at : Stage → List Name
mentioned_at list_due = []
mentioned_at (modules ms) = each_name mentions_of ms
mentioned_at (name_due ms) = each_name mentions_of ms
mentioned_at (inputs_due ms n) = mentioned_in ms n []
mentioned_at (inputs ms n i) = mentioned_in ms n []
mentioned_at (outputs_due ms n i) = mentioned_in ms n []
mentioned_at (outputs ms n i o) = mentioned_in ms n []
mentioned_at (body_due ms n i o) = mentioned_in ms n []
mentioned_at (body ms n i o cs) = mentioned_in ms n cs
mentioned_at (drives_due ms n i o cs) = mentioned_in ms n cs
mentioned_at (drives ms n i o cs d) = mentioned_in ms n cs
mentioned_at (call_due ms n i o cs d) = mentioned_in ms n cs
mentioned_at (refers_due ms n i o cs d) = mentioned_in ms n cs
mentioned_at (takes ms n i o cs d r t) = mentioned_in ms n cs and r
mentioned_at (occurrence_end ms n i o cs d r t) = mentioned_in ms n cs and r
mentioned_at (module_end ms n i o cs) = mentioned_in ms n cs

abbrev pub nets_at : Stage → List Name
nets_at list_due = []
nets_at (modules ms) = []
nets_at (name_due ms) = []
nets_at (inputs_due ms n) = []
nets_at (inputs ms n i) = i
nets_at (outputs_due ms n i) = i
nets_at (outputs ms n i o) = i ++ o
nets_at (body_due ms n i o) = i ++ o
nets_at (body ms n i o cs) = i ++ (o ++ each_name occurrence_nets cs)
nets_at (drives_due ms n i o cs) = i ++ (o ++ each_name occurrence_nets cs)
nets_at (drives ms n i o cs d) = (i ++ (o ++ each_name occurrence_nets cs)) ++ d
nets_at (call_due ms n i o cs d) = (i ++ (o ++ each_name occurrence_nets cs)) ++ d
nets_at (refers_due ms n i o cs d) = (i ++ (o ++ each_name occurrence_nets cs)) ++ d
nets_at (takes ms n i o cs d r t) = (i ++ (o ++ (each_name occurrence_nets cs ++ d))) ++ t
nets_at (occurrence_end ms n i o cs d r t) = (i ++ (o ++ (each_name occurrence_nets cs ++ d))) ++ t
nets_at (module_end ms n i o cs) = i ++ (o ++ each_name occurrence_nets cs)

module _ (names nets : List Name) where
  -- Where the count of the list of nets stands that is being read.
  abbrev pub ListAt : Stage → ℕ → Type 0
  ListAt list_due l = Unit
  ListAt (modules ms) l = Unit
  ListAt (name_due ms) l = Unit
  ListAt (inputs_due ms n) l = l ≡ length (heading names nets ms n)
  ListAt (inputs ms n i) l = l ≡ length (heading names nets ms n)
  ListAt (outputs_due ms n i) l = Unit
  ListAt (outputs ms n i o) l = l ≡ length (with_nets names nets (heading names nets ms n) i)
  ListAt (body_due ms n i o) l = Unit
  ListAt (body ms n i o cs) l = Unit
  ListAt (drives_due ms n i o cs) l = Unit
  ListAt (drives ms n i o cs d) l = l ≡ length (with_body names nets (ports names nets ms n i o) (suc (length cs)) cs)
  ListAt (call_due ms n i o cs d) l = Unit
  ListAt (refers_due ms n i o cs d) l = Unit
  ListAt (takes ms n i o cs d r t) l =
      l ≡ length (with_nets names nets (with_body names nets (ports names nets ms n i o) (suc (length cs)) cs) d and number_among names r)
  ListAt (occurrence_end ms n i o cs d r t) l = Unit
  ListAt (module_end ms n i o cs) l = Unit

  -- Where the count of occurrences stands.
  abbrev pub BodyAt : Stage → ℕ → Type 0
  BodyAt list_due b = Unit
  BodyAt (modules ms) b = Unit
  BodyAt (name_due ms) b = Unit
  BodyAt (inputs_due ms n) b = Unit
  BodyAt (inputs ms n i) b = Unit
  BodyAt (outputs_due ms n i) b = Unit
  BodyAt (outputs ms n i o) b = Unit
  BodyAt (body_due ms n i o) b = Unit
  BodyAt (body ms n i o cs) b = b ≡ length (ports names nets ms n i o)
  BodyAt (drives_due ms n i o cs) b = b ≡ length (ports names nets ms n i o)
  BodyAt (drives ms n i o cs d) b = b ≡ length (ports names nets ms n i o)
  BodyAt (call_due ms n i o cs d) b = b ≡ length (ports names nets ms n i o)
  BodyAt (refers_due ms n i o cs d) b = b ≡ length (ports names nets ms n i o)
  BodyAt (takes ms n i o cs d r t) b = b ≡ length (ports names nets ms n i o)
  BodyAt (occurrence_end ms n i o cs d r t) b = b ≡ length (ports names nets ms n i o)
  BodyAt (module_end ms n i o cs) b = Unit

pub record Laid (names nets : List Name) (s : Stage) (d : Desk) : Type 0 where
  pub numbers : d.numbers ≡ sheet names nets s
  pub list : ListAt names nets s d.list
  pub body : BodyAt names nets s d.body

-- `known` are the gates and the modules mentioned, `heard` the module's nets.
pub record On (s : Stage) (d : Desk) (known heard : List Name) : Type 0 where
  pub names : known ≡ entered gate_names (mentioned_at s)
  pub nets : heard ≡ entered [] (nets_at s)
  pub laid : (ns ls : List Name) → Behind known (gate_names ++ ns) → Behind heard ls → Laid ns ls s d

pub record Empty (d : Desk) (known heard : List Name) : Type 0 where
  pub numbers : d.numbers ≡ []
  pub names : known ≡ gate_names
  pub nets : heard ≡ []

abbrev pub Stands : Stand → Desk → (known heard : List Name) → Type 0
Stands start d known heard = Empty d known heard
Stands (at s) d known heard = On s d known heard
Stands (finished ms) d known heard = d.numbers ≡ file_numbers (numbered ms)
Stands astray d known heard = Unit
