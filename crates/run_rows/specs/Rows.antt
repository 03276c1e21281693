-- Each row of a block means what the row means alone: what is packed is related to the row, the walk keeps that, and what is given is read
-- off the same lane.
use Rattle.std.specs.Prelude.{ℕ, zero, suc, ◌+◌, ◌-◌, ◌*◌, ◌/◌, ◌%◌, ◌≤◌, ◌<◌, ◌≡◌, refl, length, get_or, take, drop}
use mathlib.Core.List.{List, [], ◌∷◌, map, Forall₂}
use Rattle.std.proofs.Common.{sym, ap, ap₂, subst, subst₂, ◌∙◌, suc-mul, mul-le-mul_right, arith, length-drop, get_or-take, get_or-drop, length-take-le}
use Rattle.std.proofs.lemmas.List.{length-map}
use Rattle.meaning.specs.Values.{Val, un, value}
use Rattle.meaning.specs.Evaluation.{evaluate}
use Rattle.meaning.specs.Figures.{room, output_count}
use Rattle.laws.specs.OutputCount.{length-of-evaluate}
use Rattle.image.specs.Resolved.{refer_to, resolve, position_of}
use Rattle.image.specs.ResolvedFigures.{room-resolved}
use Rattle.image.specs.Frames.{run_frames}
use Rattle.image.specs.Searching.{room-search}
use Rattle.image.specs.Shapes.{inputs-of-resolved, outputs-of-resolved}
use Rattle.image.specs.Scenes.{frame-ok, says_here}
use Rattle.image.specs.Slots.{values_at}
use Rattle.image.specs.Reading.{values-stand, readable-stands}
use Rattle.image.specs.Walking.{needed}
use Rattle.image.specs.Calling.{inputs-within}
use Rattle.image.specs.Places.{HeaderOf}
use Rattle.image.specs.declared.places.Header.{Header}
use Rattle.lanes.specs.Entries.{Holds}
use Rattle.lanes.specs.Blocks.{Block, Taken}
use Rattle.run_walk.specs.Work.{meaning_of}
use Rattle.run_walk.specs.Running.{Runnable, Ran}
use Rattle.run_walk.specs.Outputs.{outputs-are}
use Rattle.run_wide.specs.Wide.{rows_work}
use Rattle.run_wide.specs.WideMeans.{wide-means}
use Rattle.open_finding.specs.Standing.{Standing, accepted, fits, module_within}
use Rattle.open_finding.specs.OnImage.{scene, at_position}
use Rattle.open_finding.specs.declared.Site.{Site}
use Rattle.run_rows.specs.Running.{row_from, BlockRuns}
use Rattle.run_rows.specs.Giving.{Giveable}

-- Lists of one length are related where their entries are,
by_entries :
    {A B : Type 0} {R : A → B → Type 0} (d : A) (e : B) (xs : List A) (ys : List B)
    → length xs ≡ length ys
    → ((j : ℕ) → j < length xs → R (get_or xs j d) (get_or ys j e))
    → Forall₂ R xs ys
by_entries d e [] [] same h = Forall₂.nil
by_entries d e [] (y ∷ ys) same h = absurd (omega (arith, same))
by_entries d e (x ∷ xs) [] same h = absurd (omega (arith, same))
by_entries d e (x ∷ xs) (y ∷ ys) same h =
    Forall₂.cons (h 0 (omega arith)) (by_entries d e xs ys (omega (arith, same)) (λ j k. h (suc j) (omega arith)))

-- and so are the entries of related lists.
pub entries-of :
    {A B : Type 0} {R : A → B → Type 0} (d : A) (e : B) {xs : List A} {ys : List B}
    → Forall₂ R xs ys
    → (j : ℕ) → j < length ys → R (get_or xs j d) (get_or ys j e)
entries-of d e Forall₂.nil j h = absurd (omega arith)
entries-of d e (Forall₂.cons r rs) zero h = r
entries-of d e (Forall₂.cons r rs) (suc j) h = entries-of d e rs j (omega arith)

get_d_map : (vs : List ℕ) (j : ℕ) → j < length vs → get_or (map value vs) j un ≡ value (get_or vs j 0)
get_d_map [] j h = absurd (omega arith)
get_d_map (v ∷ vs) zero h = refl
get_d_map (v ∷ vs) (suc j) h = get_d_map vs j (omega arith)

module _
    {image starts nets : List ℕ} {site : Site} {values : List ℕ} {from count entries at out : ℕ}
    (b : BlockRuns image starts nets site values from count entries at out)
  where
    abbrev pub s : Standing image starts nets site
    s = b.standing

    abbrev pub inputs : ℕ
    inputs = length s.found.m.inputs

    abbrev pub outputs : ℕ
    outputs = length s.found.m.outputs

    abbrev pub row : ℕ → List ℕ
    row = row_from inputs values from

    row-long : (r : ℕ) → r < count → length (row r) ≡ inputs
    row-long r h =
        length-take-le inputs (drop (from + r * inputs) values)
        (omega (arith, length-drop (from + r * inputs) values, b.there, suc-mul r inputs, mul-le-mul_right inputs h))

    pub needed-there : needed (scene s).m (scene s).later ≤ entries
    needed-there =
        omega
        (arith, says_here (scene s) room-search, at_position s room (room-resolved (fits s.held) site.number s.found.m s.found.found), s.room_is, b.roomy)

    inputs-kept : length (scene s).m.inputs ≡ inputs
    inputs-kept = inputs-of-resolved (refer_to s.ms) site.position s.found.m

    inputs-there : inputs ≤ entries
    inputs-there = omega (arith, inputs-within (scene s).m, needed-there, inputs-kept)

    module _ {h : Header} (header : HeaderOf image (get_or starts site.position 0) (scene s).m h) where
      inputs_are : h.inputs ≡ inputs
      inputs_are = header.inputs ∙ inputs-kept

      pub outputs-counted : h.to - h.from ≡ outputs
      outputs-counted = omega (arith, header.to, outputs-of-resolved (refer_to s.ms) site.position s.found.m)

      pub packs : {list : List (List ℕ)} → length list ≡ entries → Block values h.inputs from count list
      packs long =
          rw inputs_are
          (record { there = b.there; few = b.few; narrow = (module_within s).inputs.count; long = omega (arith, inputs-there, long) })

      module _ {list taken : List (List ℕ)} (long : length list ≡ entries) (t : Taken values h.inputs from count list taken) where
        abbrev pub runs : Runnable image starts nets site.position taken
        runs = record { rs = resolve s.ms; scene = scene s; enough = omega (arith, needed-there, long, t.size) }

        -- What is packed is the row, in its lane.
        row-packed : (r : ℕ) → r < count → Forall₂ (Holds (r / 64) (r % 64)) (take inputs taken) (map value (row r))
        row-packed r k' =
            by_entries [] un (take inputs taken) (map value (row r)) same
            (λ j k.
            let here : j < inputs = omega (arith, k, front) in
            let at-input : j < h.inputs = omega (arith, inputs_are) in
            subst₂ (λ (x : List ℕ) (v : Val). Holds (r / 64) (r % 64) x v) (sym (get_or-take inputs taken j [] here)) (sym (read j here))
            (subst (λ (n : ℕ). Holds (r / 64) (r % 64) (get_or taken j []) (value (get_or values (from + r * n + j) 0))) inputs_are (t.at r k' j at-input)))
          where
            front : length (take inputs taken) ≡ inputs
            front = length-take-le inputs taken (omega (arith, inputs-there, long, t.size))

            whole : length (row r) ≡ inputs
            whole = row-long r k'

            same : length (take inputs taken) ≡ length (map value (row r))
            same = front ∙ sym (length-map (row r) value ∙ whole)

            read : (j : ℕ) → j < inputs → get_or (map value (row r)) j un ≡ value (get_or values (from + r * inputs + j) 0)
            read j k =
                get_d_map (row r) j (omega (arith, whole))
                ∙ ap value (get_or-take inputs (drop (from + r * inputs) values) j 0 k ∙ get_or-drop (from + r * inputs) values j 0)

        module _ {ran : List (List ℕ)} (result : Ran rows_work (scene s).m (scene s).later taken ran) (kept : length ran ≡ length taken) where
          -- What stands at the outputs' slots is the row's own answer, in its lane.
          abbrev pub outs : List (List ℕ)
          outs = values_at [] image h.from h.to 0 ran

          pub outs-are : outs ≡ run_frames [] (meaning_of rows_work) (resolve s.ms) (16 + position_of site.number s.ms) (take inputs taken)
          outs-are =
              values-stand h.from header.outputs header.to [] 0 ran
              ∙ outputs-are {work = rows_work} (scene s) result
              ∙ ap₂ (λ (p n : ℕ). run_frames [] (meaning_of rows_work) (resolve s.ms) (16 + p) (take n taken)) (sym s.found.placed) inputs-kept

          pub row-answered :
              (r : ℕ) → r < count
              → Forall₂ (Holds (r / 64) (r % 64)) outs (evaluate s.ms site.number (map value (row r)))
          row-answered r k =
              subst (λ (l : List (List ℕ)). Forall₂ (Holds (r / 64) (r % 64)) l (evaluate s.ms site.number (map value (row r)))) (sym outs-are)
              (wide-means (omega (arith, b.few)) (omega arith) (accepted s.held) site.number s.found.m s.found.found
              (length-take-le inputs taken (omega (arith, inputs-there, long, t.size))) (row-packed r k))

          pub answer-long : (r : ℕ) → length (evaluate s.ms site.number (map value (row r))) ≡ h.to - h.from
          answer-long r =
              length-of-evaluate s.ms site.number (map value (row r)) ∙ ap output_count s.found.found ∙ sym outputs-counted

          abbrev pub gives : Giveable image h.from h.to ran count at out
          gives =
              record {
                readable =
                    readable-stands h.from header.outputs header.to 0 (length ran) (frame-ok (scene s)).answered
                    (omega (arith, needed-there, kept, t.size, long));
                narrow = omega (arith, outputs-counted, (module_within s).outputs.count);
                few = b.few;
                room = omega (arith, ap (λ (n : ℕ). count * n) outputs-counted, b.fits);
                values = λ r. evaluate s.ms site.number (map value (row r));
                many = answer-long;
                holds = λ r k j within. entries-of [] un (row-answered r k) j (omega (arith, answer-long r));
              }
