-- A file stands in the image: said of its modules as they are resolved, which is what every walk over the image asks, and of the file
-- itself, which is what the check leaves.
use Rattle.std.specs.Prelude.{ℕ, ◌≤◌, ◌≡◌, refl, List, [], ◌∷◌, length, get_or, drop}
use Rattle.std.proofs.Common.{sym, ap, subst, ◌∙◌, arith, length-drop}
use Rattle.meaning.specs.Syntax.{Module}
use Rattle.meaning.specs.Layout.{module_numbers}
use Rattle.meaning.specs.Limits.{net_count}
use Rattle.image.specs.Stands.{Stands}
use Rattle.image.specs.Frames.{FramesOk}
use Rattle.image.specs.Resolved.{refer_to, resolve_module, resolve}
use Rattle.image.specs.Fitting.{Fits}
use Rattle.image.specs.Shapes.{net_count-of-resolved}
use Rattle.image.specs.ResolvedLayout.{resolved-at, length-of-resolve}
use Rattle.image.specs.ResolvedOk.{resolved-ok}

-- Each module stands at its start, and a table has how many nets each has.
pub record Imaged (image starts nets : List ℕ) (rs : List Module) : Type 0 where
  pub frames : FramesOk 0 rs
  pub standing :
      (k : ℕ) {m : Module} {later : List Module} → drop k rs ≡ m ∷ later → Stands image (get_or starts k 0) (module_numbers m)
  pub counted : (k : ℕ) {m : Module} {later : List Module} → drop k rs ≡ m ∷ later → get_or nets k 0 ≡ net_count m
  pub started : length rs ≤ length starts
  pub tabled : length rs ≤ length nets

-- The modules of a file stand there resolved.
pub record Shelved (image starts nets : List ℕ) (ms : List Module) : Type 0 where
  pub standing :
      (k : ℕ) {m : Module} {later : List Module}
      → drop k ms ≡ m ∷ later
      → Stands image (get_or starts k 0) (module_numbers (resolve_module (refer_to ms) k m))
  pub counted : (k : ℕ) {m : Module} {later : List Module} → drop k ms ≡ m ∷ later → get_or nets k 0 ≡ net_count m
  pub started : length ms ≤ length starts
  pub tabled : length ms ≤ length nets

-- A module of the resolved file is a module of the file, resolved.
record Origin (ms : List Module) (k : ℕ) (r : Module) : Type 0 where
  m : Module
  later : List Module
  here : drop k ms ≡ m ∷ later
  same : r ≡ resolve_module (refer_to ms) k m

origin : (ms : List Module) (k : ℕ) {r : Module} {rest : List Module} → drop k (resolve ms) ≡ r ∷ rest → Origin ms k r
origin ms k {r} e = go (drop k ms) refl
  where
    go : (l : List Module) → drop k ms ≡ l → Origin ms k r
    go [] none =
        absurd (omega (arith, ap length e, ap length none, length-drop k (resolve ms), length-drop k ms, length-of-resolve ms))
    go (m ∷ later) there =
        let resolved = resolved-at ms k there in
        record { m = m; later = later; here = there; same = cc }

pub imaged : {image starts nets : List ℕ} {ms : List Module} → Fits ms → Shelved image starts nets ms → Imaged image starts nets (resolve ms)
imaged {image} {starts} {nets} {ms} fits s =
    record {
      frames = resolved-ok fits;
      standing = λ k e.
          let o = origin ms k e in
          subst (λ (r : Module). Stands image (get_or starts k 0) (module_numbers r)) (sym o.same) (s.standing k o.here);
      counted = λ k e.
          let o = origin ms k e in
          s.counted k o.here ∙ sym (net_count-of-resolved (refer_to ms) k o.m) ∙ ap net_count (sym o.same);
      started = omega (arith, s.started, length-of-resolve ms);
      tabled = omega (arith, s.tabled, length-of-resolve ms);
    }
