-- An occurrence that becomes its part of the image: what stands in its place once the nets that it drives are learnt, once those that it
-- takes are found, and once its reference is written.
use Prim.Native.Nat.{ℕ, ◌+◌, ◌≤◌}
use mathlib.Core.Path.{◌≡◌, sym, ap, ap₂, ◌∙◌}
use mathlib.Core.Bool.{true}
use mathlib.Core.List.{List, ◌∷◌, ◌++◌, map}
use native.Mathlib.Omega.{arith}
use lib.ListN.{length, get_or, set, length-append, length-map}
use Rattle.meaning.specs.Syntax.{Occurrence, Module}
use Rattle.meaning.specs.Layout.{list_numbers, occurrence_numbers}
use Rattle.meaning.specs.Boxlist.{subset}
use Rattle.nets.specs.Slots.{Knows, slot_of}
use Rattle.check_lists.specs.Lists.{apart}
use Rattle.image.specs.Stands.{Stands}
use Rattle.image.specs.Laid.{laid}
use Rattle.image.specs.Pieces.{length-of-occurrence}
use Rattle.image.specs.Resolved.{refer_to}
use Rattle.check_sizes.specs.Walks.{plus}
use Rattle.check_sizes.specs.declared.Sums.{Sums}
use Rattle.check_bodies.specs.Occurrences.{Advanced}
use Rattle.check_bodies.proofs.Laying.{lay_between, lay_around}

-- The slots of some nets, behind their count, among the nets that are known with those that the occurrence drives.
abbrev pub slots-of : (nets : List ℕ) → Occurrence → (list : List ℕ) → List ℕ
slots-of nets o list = list_numbers (map (λ (x : ℕ). slot_of x (nets ++ o.drives)) list)

-- What is known of an occurrence where the nets that it drives are new: all that were counted are learnt, and behind their slots it stands as
-- it was.
pub record Driven (numbers : List ℕ) (base at driven learnt : ℕ) (slots' numbers' : List ℕ) (o : Occurrence) (nets : List ℕ) : Type 0 where
  pub counted : driven ≡ length o.drives
  pub passed : learnt ≡ length o.drives
  pub stands : Stands numbers at (occurrence_numbers o)
  pub new : true ≡ apart o.drives nets
  pub knows : Knows slots' base (nets ++ o.drives)
  pub lies : numbers' ≡ laid numbers at (slots-of nets o o.drives)
  pub behind : Stands numbers' (at + 1 + learnt) (o.refers ∷ list_numbers o.takes)

-- And where those that it takes were known: their slots lie behind, and its reference stands between.
pub record Taken (numbers : List ℕ) (at learnt taken written : ℕ) (numbers'' : List ℕ) (o : Occurrence) (nets : List ℕ) : Type 0 where
  pub counted : taken ≡ length o.takes
  pub passed : written ≡ length o.takes
  pub known : true ≡ subset o.takes nets
  pub lies :
      numbers'' ≡ laid (laid numbers at (slots-of nets o o.drives)) (at + 1 + learnt + 1) (slots-of nets o o.takes)
  pub refers : get_or numbers'' (at + 1 + learnt) 0 ≡ o.refers

module _
    {numbers : List ℕ} {base at driven learnt taken written : ℕ} {slots' numbers' numbers'' : List ℕ} {o : Occurrence} {nets : List ℕ}
    (n : Driven numbers base at driven learnt slots' numbers' o nets) (m : Taken numbers at learnt taken written numbers'' o nets)
  where
    drives-long : at + 1 + learnt ≡ at + length (slots-of nets o o.drives)
    drives-long = omega (arith, length-map o.drives (λ (x : ℕ). slot_of x (nets ++ o.drives)))

    takes-long : at + 1 + learnt + 1 + length (slots-of nets o o.takes) ≤ length numbers
    takes-long = omega (arith, n.stands.within, length-of-occurrence o, length-map o.takes (λ (x : ℕ). slot_of x (nets ++ o.drives)))

    -- Between the slots its number in the image is there already, or is stored.
    pub there_already :
        {to : ℕ} → to ≡ o.refers → numbers'' ≡ laid numbers at (slots-of nets o o.drives ++ (to ∷ slots-of nets o o.takes))
    there_already {to} e =
        m.lies
        ∙ lay_around numbers at (slots-of nets o o.drives) (at + 1 + learnt) to (slots-of nets o o.takes) drives-long takes-long
        (ap (λ (im : List ℕ). get_or im (at + 1 + learnt) 0) (sym m.lies) ∙ m.refers ∙ sym e)

    pub stored :
        {to number : ℕ} → to ≡ number
        → set numbers'' (at + 1 + learnt) number ≡ laid numbers at (slots-of nets o o.drives ++ (to ∷ slots-of nets o o.takes))
    stored {to} e =
        ap₂ (λ (im : List ℕ) (y : ℕ). set im (at + 1 + learnt) y) m.lies (sym e)
        ∙ lay_between numbers at (slots-of nets o o.drives) (at + 1 + learnt) to (slots-of nets o o.takes) drives-long takes-long

-- It is fine: its reference in the image stands between the slots, and is in the sums.
pub advanced :
    {numbers : List ℕ} {base at driven learnt taken written filled : ℕ} {slots' numbers' numbers'' image : List ℕ} {o : Occurrence} {nets : List ℕ}
    (ms : List Module) {sizes rooms : List ℕ} {sums sums' : Sums}
    → Driven numbers base at driven learnt slots' numbers' o nets → Taken numbers at learnt taken written numbers'' o nets → filled ≡ length nets
    → image ≡ laid numbers at (slots-of nets o o.drives ++ (refer_to ms o.refers ∷ slots-of nets o o.takes))
    → sums' ≡ plus sizes rooms sums (refer_to ms o.refers)
    → Advanced ms o nets numbers at base sizes rooms sums image slots' (at + 1 + learnt + 1 + 1 + written) (filled + driven) sums'
unfolding occurrence_numbers
advanced {o = o} {nets = nets} ms n m count lies summed =
    record {
      bound = sym m.known;
      behind = omega (arith, length-of-occurrence o);
      count = omega (arith, length-append nets o.drives);
      knows = n.knows;
      written = lies;
      summed = summed;
    }
