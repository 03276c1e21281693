-- How many bytes numbers take, and that a file's numbers are small.
use Rattle.std.specs.Prelude.{ℕ, ◌+◌, ◌*◌, ◌≤◌, ◌<◌, ◌/◌, ◌%◌, ◌≡◌, refl, Bool, true, false, cond, List, [], ◌∷◌, ◌++◌, ltb, length, take, get_or}
use Rattle.std.proofs.Common.{add-one, arith, ◌∙◌, ap, append-nil, length-append, take-suc, take_all}
use Rattle.meaning.specs.Lists.{All, none, more}
use Rattle.meaning.specs.Syntax.{Occurrence, Module}
use Rattle.meaning.specs.Layout.{each, list_numbers, occurrence_numbers, module_numbers, file_numbers, number_bytes}
use Rattle.meaning.specs.Ceilings.{Small, NetsWithin, OccurrenceWithin, ModuleWithin, ModulesWithin}
use Rattle.laws.specs.Lists.{each_append}
use Rattle.text_file.specs.Filing.{bytes_in}

one_size : (n : ℕ) → length (number_bytes n) ≡ bytes_in n
unfolding number_bytes
one_size n = go (ltb n 128)
  where
    go : (t : Bool) → length (cond t (n ∷ []) ((128 + n % 128) ∷ (n / 128) ∷ [])) ≡ cond t 1 2
    go true = refl
    go false = refl

few_bytes : (n : ℕ) → bytes_in n ≤ 2
few_bytes n = go (ltb n 128)
  where
    go : (t : Bool) → cond t 1 2 ≤ 2
    go true = omega arith
    go false = omega arith

-- The loop that adds them up.
pub record Sizing (numbers : List ℕ) (all i : ℕ) : Type 0 where
  pub few : i ≤ length numbers
  pub is : all ≡ length (each number_bytes (take i numbers))
  pub most : all ≤ 2 * i

pub sizing_first : (numbers : List ℕ) → Sizing numbers 0 0
unfolding each
sizing_first numbers = record { few = omega arith; is = refl; most = omega arith }

pub sizing_next : (numbers : List ℕ) (all i w : ℕ) → i < length numbers → w ≡ bytes_in (get_or numbers i 0) → Sizing numbers all i
    → Sizing numbers (all + w) (i + 1)
unfolding each
sizing_next numbers all i w l e s =
    let is : all ≡ length (each number_bytes (take i numbers)) = s.is in
    let most : all ≤ 2 * i = s.most in
    let small : bytes_in (get_or numbers i 0) ≤ 2 = few_bytes (get_or numbers i 0) in
    let one : length (number_bytes (get_or numbers i 0)) ≡ bytes_in (get_or numbers i 0) = one_size (get_or numbers i 0) in
    let cut : take (i + 1) numbers ≡ take i numbers ++ (get_or numbers i 0 ∷ []) = ap (λ k. take k numbers) (add-one i) ∙ take-suc numbers i 0 l in
    let split : each number_bytes (take (i + 1) numbers) ≡ each number_bytes (take i numbers) ++ number_bytes (get_or numbers i 0)
    = ap (each number_bytes) cut ∙ each_append number_bytes (take i numbers) (get_or numbers i 0 ∷ [])
    ∙ ap (λ b. each number_bytes (take i numbers) ++ b) (append-nil (number_bytes (get_or numbers i 0))) in
    let sum : length (each number_bytes (take (i + 1) numbers)) ≡ length (each number_bytes (take i numbers)) + length (number_bytes (get_or numbers i 0))
    = ap length split ∙ length-append (each number_bytes (take i numbers)) (number_bytes (get_or numbers i 0)) in
    record { few = omega arith; is = omega arith; most = omega arith }

pub sizing_last : (numbers : List ℕ) (all i : ℕ) → length numbers ≤ i → Sizing numbers all i → all ≡ length (each number_bytes numbers)
sizing_last numbers all i l s = s.is ∙ ap (λ xs. length (each number_bytes xs)) (take_all i numbers l)

-- At most two bytes a number.
pub twice : (numbers : List ℕ) → length (each number_bytes numbers) ≤ 2 * length numbers
unfolding each
twice [] = omega arith
twice (n ∷ numbers) =
    let rest : _ = twice numbers in
    let one : length (number_bytes n) ≡ bytes_in n = one_size n in
    let small : bytes_in n ≤ 2 = few_bytes n in
    let sum : _ = length-append (number_bytes n) (each number_bytes numbers) in
    omega arith

-- A file's numbers are small.
all_append : {xs ys : List ℕ} → All Small xs → All Small ys → All Small (xs ++ ys)
all_append none ys = ys
all_append (more x xs) ys = more x (all_append xs ys)

list-small : (nets : List ℕ) → NetsWithin nets → All Small (list_numbers nets)
list-small nets w = let c : length nets ≤ 192 = w.count in let l : Small (length nets) = omega arith in more l w.numbers

occurrence-small : (o : Occurrence) → OccurrenceWithin o → All Small (occurrence_numbers o)
unfolding occurrence_numbers
occurrence-small o w = all_append (list-small o.drives w.drives) (more w.refers (list-small o.takes w.takes))

occurrences-small : (os : List Occurrence) → All OccurrenceWithin os → All Small (each occurrence_numbers os)
unfolding each
occurrences-small [] none = none
occurrences-small (o ∷ os) (more w ws) = all_append (occurrence-small o w) (occurrences-small os ws)

module_small : (m : Module) → ModuleWithin m → All Small (module_numbers m)
unfolding module_numbers
module_small m w =
    let c : length m.occurrences ≤ 4096 = w.count in
    let l : Small (length m.occurrences) = omega arith in
    more w.number
    (all_append (list-small m.inputs w.inputs)
    (all_append (list-small m.outputs w.outputs)
    (more l (occurrences-small m.occurrences w.occurrences))))

modules-small : (ms : List Module) → All ModuleWithin ms → All Small (each module_numbers ms)
unfolding each
modules-small [] none = none
modules-small (m ∷ ms) (more w ws) = all_append (module_small m w) (modules-small ms ws)

pub file-small : (ms : List Module) → ModulesWithin ms → All Small (file_numbers ms)
unfolding file_numbers
file-small ms w = let c : length ms ≤ 128 = w.count in let l : Small (length ms) = omega arith in more l (modules-small ms w.modules)

pub width_few : (n w : ℕ) → w ≡ bytes_in n → w ≤ 2
width_few n w e = let l : bytes_in n ≤ 2 = few_bytes n in omega arith
