-- The search for a module by its number.
use Prim.Native.Nat.{ℕ, ◌+◌, ◌≤◌, ◌<◌}
use native.Mathlib.Omega.{arith}
use mathlib.Core.Path.{◌≡◌, refl, sym, subst, ◌∙◌, ap}
use Rattle.std.specs.Prelude.{Option, Some, None}
use mathlib.Core.Bool.{true, false}
use mathlib.Core.List.{List, []}
use lib.Dec.{eqb}
use lib.ListN.{length, get_or, drop, drop_of_length-le}
use borrow.Author.Tests.{eq-eqb, ne_eqb}
use Rattle.meaning.specs.Syntax.{Module}
use Rattle.meaning.specs.Layout.{module_numbers}
use Rattle.meaning.specs.Boxlist.{assoc, Found, box, F, submodule_okp, arity_okp}
use Rattle.meaning.specs.Gates.{is_gate, gate}
use Rattle.image.specs.Stands.{Stands}
use Rattle.image.specs.Places.{ModuleThere}
use Rattle.image.specs.Pieces.{ModuleAt, module_at}
use Rattle.check_sizes.specs.Behind.{here, behind, inside as behind-inside}
use Rattle.check_lists.specs.Filed.{At}
use Rattle.fault_parts.specs.Asked.{Placed, Finds, none, some}

pub record Seeking {numbers starts : List ℕ} {modules : ℕ} (p : Placed numbers starts modules) (from number j : ℕ) : Type 0 where
  pub few : j ≤ modules
  pub is : assoc number (drop from p.ms) ≡ assoc number (drop j p.ms)

module _ {numbers starts : List ℕ} {modules : ℕ} (p : Placed numbers starts modules) (j : ℕ) (l : j < modules) where
  pub inside : j < length p.ms
  inside = omega (arith, p.counted)

  abbrev pub m : Module
  m = (here p.ms j inside).m

  abbrev pub later : List Module
  later = (here p.ms j inside).later

  pub at : At p.ms j m later
  at = (here p.ms j inside).at

  pub stands : Stands numbers (get_or starts j 0) (module_numbers m)
  stands = p.filed.standing j m later at

  pub in_starts : j < length starts
  in_starts = omega (arith, inside, p.filed.listed)

  pub module_here : ModuleAt numbers (get_or starts j 0) m
  module_here = module_at m stands

module _ {numbers starts : List ℕ} {modules : ℕ} (p : Placed numbers starts modules) (from number j : ℕ) (s : Seeking p from number j) where
  pub seek_hit : (l : j < modules) → get_or numbers (get_or starts j 0) 0 ≡ number → Finds p.ms (assoc number (drop from p.ms)) (Some j)
  unfolding assoc
  seek_hit l e =
      let own : number ≡ (m p j l).number = sym e ∙ (module_here p j l).number in
      rw (s.is, at p j l, eq-eqb number (m p j l).number own) (some (at p j l))

  pub seek-on : (l : j < modules) → (get_or numbers (get_or starts j 0) 0 ≡ number → ⊥) → Seeking p from number (j + 1)
  unfolding assoc
  seek-on l n =
      record {
        few = omega arith;
        is =
            s.is
            ∙ (rw (at p j l, ne_eqb number (m p j l).number (λ e. n ((module_here p j l).number ∙ sym e))) refl)
            ∙ ap (assoc number) (sym (behind p.ms j (at p j l)));
      }

  pub seek-none : modules ≤ j → Finds p.ms (assoc number (drop from p.ms)) None
  unfolding assoc
  seek-none l =
      let beyond : length p.ms ≤ j = omega (arith, p.counted) in
      let past : drop j p.ms ≡ [] = drop_of_length-le p.ms beyond in
      rw (s.is, past) none

-- What a search came to.
pub missed : {ms : List Module} {f : Found} {r : Option ℕ} → Finds ms f r → r ≡ None → f ≡ F
missed none e = refl
missed (some at) e = absurd (cc)

pub record Hit (ms : List Module) (f : Found) (r : ℕ) : Type 0 where
  pub m : Module
  pub later : List Module
  pub at : At ms r m later
  pub is : f ≡ box m

pub hit : {ms : List Module} {f : Found} {r : Option ℕ} {j : ℕ} → Finds ms f r → r ≡ Some j → Hit ms f j
hit none e = absurd (cc)
hit {ms} {j = j} (some {r = r} {m = m} {later = later} at) e =
    let same : r ≡ j = cc in
    record { m = m; later = later; at = subst (λ (k : ℕ). At ms k m later) same at; is = refl }

-- The module that was met, where it stands.
module _ {numbers starts : List ℕ} {modules : ℕ} (p : Placed numbers starts modules) {f : Found} {r : ℕ} (h : Hit p.ms f r) where
  pub hit_in : r < length starts
  hit_in = omega (arith, behind-inside p.ms r h.at, p.filed.listed)

  pub hit-stands : Stands numbers (get_or starts r 0) (module_numbers h.m)
  hit-stands = p.filed.standing r h.m h.later h.at

  pub hit-there : ModuleThere numbers (get_or starts r 0)
  hit-there = record { m = h.m; stands = hit-stands }

-- Whether its counts fit.
module _ (m : Module) (takes drives : List ℕ) (taken driven : ℕ) (t : taken ≡ length takes) (d : driven ≡ length drives) where
  pub unfit : (inputs : ℕ) → inputs ≡ length m.inputs → (taken ≡ inputs → ⊥) → false ≡ submodule_okp (box m) takes drives
  unfit inputs i n = rw (ne_eqb (length takes) (length m.inputs) (λ e. n (t ∙ e ∙ sym i)))

  pub fit : (inputs outputs : ℕ) → inputs ≡ length m.inputs → outputs ≡ length m.outputs → taken ≡ inputs
      → eqb driven outputs ≡ submodule_okp (box m) takes drives
  fit inputs outputs i o e = rw (eq-eqb (length takes) (length m.inputs) (sym t ∙ e ∙ i), d, o)

-- What an occurrence refers to, a gate or a module.
module _ (number : ℕ) (takes drives : List ℕ) (later : List Module) where
  pub gate-unfit : is_gate number ≡ true → ((gate number).arity ≡ length takes → ⊥) → false ≡ arity_okp number takes drives later
  unfolding arity_okp
  gate-unfit g n = rw (g, ne_eqb (gate number).arity (length takes) n)

  pub gate-fit : is_gate number ≡ true → (gate number).arity ≡ length takes → (driven : ℕ) → driven ≡ length drives
      → eqb 1 driven ≡ arity_okp number takes drives later
  unfolding arity_okp
  gate-fit g e driven d = rw (g, eq-eqb (gate number).arity (length takes) e, d)

  pub module_fit : is_gate number ≡ false → submodule_okp (assoc number later) takes drives ≡ arity_okp number takes drives later
  unfolding arity_okp
  module_fit g = rw g
