-- What the gates of a flattened module look like: each drives the next number, on as many nets below it as its kind takes.
-- Placing a module of an accepted list on such a board gives such a board.
use Rattle.std.specs.Prelude.{ℕ, suc, ◌+◌, ◌<◌, ◌≡◌, refl, true, length}
use mathlib.Core.List.{List, [], ◌∷◌, ◌++◌, map, Forall₂}
use Rattle.std.proofs.Common.{arith}
use Rattle.meaning.specs.Syntax.{Occurrence, Module}
use Rattle.meaning.specs.Gates.{is_gate, gate}
use Rattle.meaning.specs.Members.{◌∈◌}
use Rattle.meaning.specs.Limits.{driven, body_size}
use Rattle.meaning.specs.Figures.{body_weight, largest_referred}
use Rattle.meaning.specs.Flattening.{Board, place}
use Rattle.meaning.specs.Adder.{up_from}
use Rattle.laws.specs.WellFormed.{Accepted}
use Rattle.laws.specs.Members.{here, there, in-none}
use Rattle.laws.specs.Standing.{Stands}
use Rattle.laws.specs.Flatten.Walk.{Gates, place-shows}

-- A gate that drives this net.
pub record GateAt (net : ℕ) (o : Occurrence) : Type 0 where
  pub drives : o.drives ≡ net ∷ []
  pub kind : is_gate o.refers ≡ true
  pub arity : (gate o.refers).arity ≡ length o.takes
  pub below : (x : ℕ) → x ∈ o.takes → x < net

-- Gates that drive the nets from the first to before the next, in order.
pub data Wired : (first : ℕ) → List Occurrence → (next : ℕ) → Type 0 where
  done : {n : ℕ} → Wired n [] n
  more : {n k : ℕ} {o : Occurrence} {os : List Occurrence} → GateAt n o → Wired (suc n) os k → Wired n (o ∷ os) k

wired-then : {n k : ℕ} {o : Occurrence} {os : List Occurrence} → Wired n os k → GateAt k o → Wired n (os ++ (o ∷ [])) (suc k)
wired-then done g = more g done
wired-then (more h rest) g = more h (wired-then rest g)

-- Setting down a gate on nets of the board keeps it so. Values do not matter here: a net is on the board, and that is all.
abbrev Built : (first : ℕ) → Board → Type 0
Built first b = Wired first b.gates b.next

abbrev OnBoard : Board → ℕ → Unit {0} → Type 0
OnBoard b net v = net < b.next

on-board : (b : Board) {nets : List ℕ} {vs : List (Unit {0})} → Forall₂ (OnBoard b) nets vs → (x : ℕ) → x ∈ nets → x < b.next
on-board b Forall₂.nil x i = absurd (in-none i)
on-board b (Forall₂.cons l ls) x (here e) = omega arith
on-board b (Forall₂.cons l ls) x (there i) = on-board b ls x i

all-on-board :
    (b : Board) (nets : List ℕ) → ((x : ℕ) → x ∈ nets → x < b.next) → Forall₂ (OnBoard b) nets (map (λ net. tt) nets)
all-on-board b [] below = Forall₂.nil
all-on-board b (x ∷ nets) below = Forall₂.cons (below x (here refl)) (all-on-board b nets (λ y i. below y (there i)))

gates-wired : (first : ℕ) → Gates tt (λ kind vs. tt) (Built first) OnBoard
gates-wired first =
    record {
      shows = λ kind {nets} {vs} b g arity rs.
          record {
            kept =
                record {
                  fine = λ w. wired-then w (record { drives = refl; kind = g; arity = arity; below = on-board b rs });
                  nets = λ net v l. omega arith;
                };
            outputs = Forall₂.cons {a = b.next} (omega arith) Forall₂.nil;
          };
    }

pub place-wired :
    {ms : List Module} {number : ℕ} {m : Module} {nets : List ℕ} (first : ℕ) (b : Board)
    → Accepted ms
    → Stands number m ms
    → length nets ≡ length m.inputs
    → ((x : ℕ) → x ∈ nets → x < b.next)
    → Wired first b.gates b.next
    → Wired first (place ms number nets b).board.gates (place ms number nets b).board.next
place-wired {number = number} {nets = nets} first b accepted stands count below w =
    let modules = place-shows tt (λ kind vs. tt) (Built first) OnBoard (gates-wired first) accepted in
    (modules.shows number stands b count (all-on-board b nets below)).kept.fine w

-- How many they are, and what they drive.
pub next-of-wired : {n k : ℕ} {os : List Occurrence} → Wired n os k → k ≡ n + length os
next-of-wired done = omega arith
next-of-wired (more g rest) = omega (arith, next-of-wired rest)

pub driven-of-wired : {n k : ℕ} {os : List Occurrence} → Wired n os k → driven os ≡ up_from n (length os)
unfolding driven up_from
driven-of-wired done = refl
driven-of-wired (more g rest) = rw (g.drives, driven-of-wired rest)

-- Each of them counts as one gate and as one visit.
pub size-of-wired : {n k : ℕ} {os : List Occurrence} (later : ℕ → ℕ) → Wired n os k → body_size later os ≡ length os
unfolding body_size
size-of-wired later done = refl
size-of-wired later (more g rest) = rw g.kind (omega (arith, size-of-wired later rest))

pub count-of-wired : {n k : ℕ} {os : List Occurrence} (later : ℕ → ℕ) → Wired n os k → body_weight (λ kind. 1) later os ≡ length os
unfolding body_weight
count-of-wired later done = refl
count-of-wired later (more g rest) = rw g.kind (omega (arith, count-of-wired later rest))

-- They refer to no module.
pub none-referred : {n k : ℕ} {os : List Occurrence} (later : ℕ → ℕ) → Wired n os k → largest_referred later os ≡ 0
unfolding largest_referred
none-referred later done = refl
none-referred later (more g rest) = rw g.kind (omega (arith, none-referred later rest))
