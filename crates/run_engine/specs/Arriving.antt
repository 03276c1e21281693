-- What `delays` answers on the resolved file is the module's delay by the delays of its gates. Arrivals in scratch stay at the latest that an
-- entry can hold, so each is the smaller of that and the true one; and the delay of an accepted file's module is far below it.
use Prim.Native.Nat.{ℕ, zero, suc, ◌+◌, ◌≤◌, min}
use Rattle.std.specs.Prelude.{◌≡◌, refl, length}
use Rattle.std.proofs.Common.{sym, ◌∙◌, arith}
use Rattle.std.proofs.Math.Path.{ap}
use mathlib.Core.List.{List, ◌∷◌, map, Forall₂}
use Rattle.std.proofs.Math.ListN.{replicate}
use Rattle.std.proofs.lemmas.List.{length-replicate}
use Rattle.meaning.specs.Syntax.{Module}
use Rattle.meaning.specs.Boxlist.{box, assoc}
use Rattle.meaning.specs.Evaluation.{run}
use Rattle.meaning.specs.Figures.{largest, gate_arrival, arrivals, input_count, delay_by}
use Rattle.laws.specs.WellFormed.{Accepted}
use Rattle.laws.specs.Related.{Respects}
use Rattle.laws.specs.Figures.Bounds.{delay_by-within}
use Rattle.image.specs.Resolved.{position_of, refer_to, resolve_module, resolve}
use Rattle.image.specs.Shapes.{inputs-of-resolved}
use Rattle.image.specs.Fitting.{accepted-fits}
use Rattle.image.specs.FramesMean.{frames_mean}
use Rattle.run_walk.specs.Work.{meaning_of}
use Rattle.run_times.specs.Times.{latest, arrival, times_work}
use Rattle.run_engine.specs.Calls.{answers, Delayed}
use Rattle.run_engine.specs.Mapped.{Mapped, is_mapped, run-mapped}

abbrev capped : ℕ → ℕ
capped time = min time latest

largest-capped : {xs ys : List ℕ} → Forall₂ (Mapped capped) xs ys → largest xs ≡ capped (largest ys)
unfolding largest
largest-capped Forall₂.nil = refl
largest-capped (Forall₂.cons {l₁ = xs} {l₂ = ys} e rest) = omega (arith, e, largest-capped rest)

zeros-capped : (n : ℕ) → map capped (replicate n 0) ≡ replicate n 0
zeros-capped zero = refl
zeros-capped (suc n) = ap (λ (l : List ℕ). 0 ∷ l) (zeros-capped n)

module _ (lasts : ℕ → ℕ) where
  gate-capped : (kind : ℕ) {xs ys : List ℕ} → Forall₂ (Mapped capped) xs ys → arrival (lasts kind) xs ≡ capped (lasts kind + largest ys)
  gate-capped kind related = omega (arith, largest-capped related)

  gates-capped : Respects (Mapped capped) (meaning_of (times_work lasts)) (gate_arrival lasts)
  gates-capped = record { keeps = λ number related. Forall₂.cons (gate-capped number related) Forall₂.nil }

  -- Capped arrivals are the smaller of the true ones and the cap, whatever the list.
  pub arrivals-capped :
      (ms : List Module) (number : ℕ) (times : List ℕ)
      → run 0 (meaning_of (times_work lasts)) ms number (map capped times) ≡ map capped (arrivals lasts ms number times)
  unfolding arrivals
  arrivals-capped = run-mapped capped 0 gates-capped

  module _
      {ms : List Module} (small : (kind : ℕ) → lasts kind ≤ 255) (accepted : Accepted ms) (number : ℕ) (m : Module)
      (found : assoc number ms ≡ box m)
    where
      -- The module of a number, at its position in the resolved file.
      pub delayed :
          (n : ℕ)
          → n ≡ length m.inputs
          → largest (answers (times_work lasts) (resolve ms) (position_of number ms) (replicate n 0)) ≡ delay_by lasts ms number
      unfolding delay_by
      delayed n count =
          ap largest
          (frames_mean 0 (meaning_of (times_work lasts)) (λ kind xs h. refl) (accepted-fits accepted) number m found zeros (length-replicate n 0 ∙ count)
          ∙ ap (run 0 (meaning_of (times_work lasts)) ms number) (sym (zeros-capped n))
          ∙ arrivals-capped ms number zeros)
          ∙ largest-capped (is_mapped capped (arrivals lasts ms number zeros))
          ∙ omega (arith, delay-is, delay_by-within lasts 255 small accepted number)
        where
          zeros : List ℕ
          zeros = replicate n 0

          delay-is : delay_by lasts ms number ≡ largest (arrivals lasts ms number zeros)
          delay-is = ap (λ (k : ℕ). largest (arrivals lasts ms number (replicate k 0))) (ap input_count found ∙ sym count)

      -- What is promised of the answer, said of the file.
      pub delay-means :
          {r : ℕ}
          → Delayed lasts (resolve ms) (resolve_module (refer_to ms) (position_of number ms) m) (position_of number ms) r
          → r ≡ delay_by lasts ms number
      delay-means answered =
          let p = position_of number ms in
          answered ∙ delayed (length (resolve_module (refer_to ms) p m).inputs) (inputs-of-resolved (refer_to ms) p m)
