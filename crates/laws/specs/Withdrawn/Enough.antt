-- A module that passes the check can be rewritten with the numbers unused in it: they are enough, since what it mentions are its inputs and
-- the nets that it drives, at most 4,096.
use Rattle.std.specs.Prelude.{ℕ, ◌+◌, ◌*◌, ◌≤◌, ◌⊎◌, ◌≡◌, refl, Bool, true, false, cond, List, [], ◌∷◌, ◌++◌, length}
use Rattle.std.proofs.Common.{inl, inr, true≢false, arith, length-append}
use Rattle.meaning.specs.Syntax.{Occurrence, Module}
use Rattle.meaning.specs.Members.{◌∈◌}
use Rattle.meaning.specs.Boxlist.{member}
use Rattle.meaning.specs.Limits.{driven, net_count}
use Rattle.meaning.specs.Adder.{up_from}
use Rattle.meaning.specs.Withdrawn.{withdrawn, body_nets, mentioned, unused}
use Rattle.laws.specs.Tests.{is_true}
use Rattle.laws.specs.Members.{here, there, in-none, in_left, in_right, in_either, member-tells, member_in, subset_in}
use Rattle.laws.specs.WellFormed.{Reference, to_gate, to_module, Body, done, step, ModuleOk}
use Rattle.laws.specs.Adder.Nets.{length-up_from}
use Rattle.laws.specs.Adder.Distinct.{duplicates-of-run}
use Rattle.laws.specs.Withdrawn.Kinds.{four-told, four_is}
use Rattle.laws.specs.Withdrawn.Fresh.{Unused, unused-without, enough-left}
use Rattle.laws.specs.Withdrawn.Suits.{fours, Among, none, more, Suits, suits}

-- Every net that a module mentions is one of its inputs or of the nets that it drives.
signals_cover :
    {later : List Module} {signals : List ℕ} {os : List Occurrence}
    → Body later signals os
    → (x : ℕ)
    → member x (body_nets os) ≡ true
    → member x (signals ++ driven os) ≡ true
unfolding body_nets driven
signals_cover {signals = signals} done x e = absurd (in-none (member_in x [] e))
signals_cover {later} {signals} (step {o = o} {os = os} ok rest) x e = at (in_either o.drives (member_in x _ e)) (signals_cover rest x)
  where
    into : x ∈ (signals ++ (o.drives ++ driven os)) → member x (signals ++ (o.drives ++ driven os)) ≡ true
    into i = is_true (member-tells x _) (λ out. out i)

    swap : (x ∈ ((o.drives ++ signals) ++ driven os)) → x ∈ (signals ++ (o.drives ++ driven os))
    swap i = outer (in_either (o.drives ++ signals) i)
      where
        inner : (x ∈ o.drives) ⊎ (x ∈ signals) → x ∈ (signals ++ (o.drives ++ driven os))
        inner (inl k) = in_right signals (in_left (driven os) k)
        inner (inr k) = in_left (o.drives ++ driven os) k

        outer : (x ∈ (o.drives ++ signals)) ⊎ (x ∈ driven os) → x ∈ (signals ++ (o.drives ++ driven os))
        outer (inl k) = inner (in_either o.drives k)
        outer (inr k) = in_right signals (in_right o.drives k)

    later-on : (x ∈ o.takes) ⊎ (x ∈ body_nets os) → (member x (body_nets os) ≡ true → member x ((o.drives ++ signals) ++ driven os) ≡ true)
        → member x (signals ++ (o.drives ++ driven os)) ≡ true
    later-on (inl k) further = into (in_left (o.drives ++ driven os) (subset_in o.takes signals ok.bound k))
    later-on (inr k) further = into (swap (member_in x _ (further (is_true (member-tells x _) (λ out. out k)))))

    at : (x ∈ o.drives) ⊎ (x ∈ (o.takes ++ body_nets os)) → (member x (body_nets os) ≡ true → member x ((o.drives ++ signals) ++ driven os) ≡ true)
        → member x (signals ++ (o.drives ++ driven os)) ≡ true
    at (inl k) further = into (in_right signals (in_left (driven os) k))
    at (inr k) further = later-on (in_either o.takes k) further

-- Each of the four gates drives a net.
fours-driven : {later : List Module} {signals : List ℕ} {os : List Occurrence} → Body later signals os → fours os ≤ length (driven os)
unfolding fours driven
fours-driven done = omega arith
fours-driven {later} (step {o = o} {os = os} ok rest) = go (withdrawn o.refers) refl ok.reference (fours-driven rest)
  where
    go : (b : Bool) → withdrawn o.refers ≡ b → Reference later o → fours os ≤ length (driven os) → cond b 1 0 + fours os ≤ length (o.drives ++ driven os)
    go false is reference below = omega (arith, length-append o.drives (driven os))
    go true is (to_gate h arity single) below = omega (arith, length-append o.drives (driven os))
    go true is (to_module m h found t d) below =
        let one = (four_is (four-told o.refers is)).is_one in
        let no : true ≡ false = cc in
        absurd (true≢false no)

mentioned_cover : {m : Module} {later : List Module} → ModuleOk m later → (x : ℕ) → member x (mentioned m) ≡ true
    → member x (m.inputs ++ driven m.occurrences) ≡ true
unfolding mentioned
mentioned_cover {m} ok x e = at (in_either m.inputs (member_in x _ e))
  where
    into : x ∈ (m.inputs ++ driven m.occurrences) → member x (m.inputs ++ driven m.occurrences) ≡ true
    into i = is_true (member-tells x _) (λ out. out i)

    inside : (x ∈ m.outputs) ⊎ (x ∈ body_nets m.occurrences) → member x (m.inputs ++ driven m.occurrences) ≡ true
    inside (inl k) = into (in_right m.inputs (subset_in m.outputs _ ok.outputs_driven k))
    inside (inr k) = signals_cover ok.body x (is_true (member-tells x _) (λ out. out k))

    at : (x ∈ m.inputs) ⊎ (x ∈ (m.outputs ++ body_nets m.occurrences)) → member x (m.inputs ++ driven m.occurrences) ≡ true
    at (inl k) = into (in_left (driven m.occurrences) k)
    at (inr k) = inside (in_either m.outputs k)

-- The numbers unused in a module that passes the check are enough for all that are replaced.
pub enough-unused : {m : Module} {later : List Module} → ModuleOk m later → 2 * fours m.occurrences ≤ length (unused m)
unfolding unused net_count
enough-unused {m} ok =
    omega (
      arith,
      enough-left (mentioned m) (m.inputs ++ driven m.occurrences) (up_from 0 16384) (mentioned_cover ok) (duplicates-of-run 0 16384),
      length-up_from 0 16384,
      length-append m.inputs (driven m.occurrences),
      ok.nets,
      fours-driven ok.body,
    )

pub unused-apart : (m : Module) → Unused (mentioned m) (unused m)
unfolding unused
unused-apart m = unused-without (mentioned m) (up_from 0 16384) (duplicates-of-run 0 16384)

-- All nets of a list are among the nets of a list that has them.
among-all : (xs used : List ℕ) → ((x : ℕ) → x ∈ xs → x ∈ used) → Among used xs
among-all [] used h = none
among-all (x ∷ xs) used h = more (is_true (member-tells x used) (λ out. out (h x (here refl)))) (among-all xs used (λ y i. h y (there i)))

pub outputs-among : (m : Module) → Among (mentioned m) m.outputs
unfolding mentioned
outputs-among m = among-all m.outputs _ (λ x i. in_right m.inputs (in_left (body_nets m.occurrences) i))

pub inputs-among : (m : Module) → Among (mentioned m) m.inputs
unfolding mentioned
inputs-among m = among-all m.inputs _ (λ x i. in_left (m.outputs ++ body_nets m.occurrences) i)

-- A module that passes the check can be rewritten with the numbers unused in it.
pub module_suits : {m : Module} {later : List Module} → ModuleOk m later → Suits (mentioned m) (unused m) m.occurrences
unfolding mentioned
module_suits {m} ok =
    suits (mentioned m) (unused m) ok.body
    (among-all (body_nets m.occurrences) _ (λ x i. in_right m.inputs (in_right m.outputs i)))
    (enough-unused ok)
