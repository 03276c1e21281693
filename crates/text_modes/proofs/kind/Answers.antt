-- Each arm has its bytes' kind: literals by their numbers, the rest by ranges.
use Rattle.std.proofs.Common.{arith, rules, refl}
use Rattle.laws.specs.Texts.Below.{all_below}
use Rattle.meaning.specs.ListForm.{kind_of}
use Rattle.text_modes.specs.declared.ByteKind.TheVariants.{Stray, Letter}
use Rattle.text_modes.proofs.Bytes.{within, stray_below, space_at}
use Rattle.text_modes.proofs.kind.Goals as goal

pub returns-in-39 : goal.returns-in-39
unfolding kind_of
returns-in-39 c = rw c.in-39.is

pub returns-in-40 : goal.returns-in-40
unfolding kind_of
returns-in-40 c = rw c.in-40.is

pub returns-in-41 : goal.returns-in-41
unfolding kind_of
returns-in-41 c = rw c.in-41.is

pub returns-in-32 : goal.returns-in-32
returns-in-32 c = space_at _ c.in-32.is

pub returns-in_default : goal.returns-in_default
returns-in_default c =
    stray_below _ (omega arith) (search rules) (λ e. omega arith) (λ e. omega arith) (λ e. omega arith) (λ e. omega arith)

pub returns-in_default-2 : goal.returns-in_default-2
returns-in_default-2 c = within Stray 58 7 (unfold kind_of all_below in refl) (omega arith) (omega arith)

pub returns-in_default-3 : goal.returns-in_default-3
returns-in_default-3 c = within Stray 91 6 (unfold kind_of all_below in refl) (omega arith) (omega arith)

pub returns-in_default-4 : goal.returns-in_default-4
returns-in_default-4 c = within Stray 123 133 (unfold kind_of all_below in refl) (omega arith) (omega arith)

pub returns-in-45 : goal.returns-in-45
returns-in-45 c = within Letter 45 1 (unfold kind_of all_below in refl) (omega arith) (omega arith)

pub returns-in-45-2 : goal.returns-in-45-2
returns-in-45-2 c = within Letter 48 10 (unfold kind_of all_below in refl) (omega arith) (omega arith)

pub returns-in-45-3 : goal.returns-in-45-3
returns-in-45-3 c = within Letter 65 26 (unfold kind_of all_below in refl) (omega arith) (omega arith)

pub returns-in-45-4 : goal.returns-in-45-4
returns-in-45-4 c = within Letter 97 26 (unfold kind_of all_below in refl) (omega arith) (omega arith)
