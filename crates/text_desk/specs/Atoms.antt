-- What an atom does to the desk: the name of a module comes with the count of the list that follows it; a net raises its list's count.
use Prim.Native.Nat.{ℕ, suc, ◌+◌}
use Rattle.std.proofs.Common.{arith, ◌∙◌, length-append}
use Rattle.std.specs.Prelude.{◌≡◌, refl, Bool, true, false, not, ◌&&◌, ◌||◌, leb}
use Rattle.std.proofs.Math.Path.{sym, ap}
use mathlib.Core.List.{List, [], ◌∷◌, ◌++◌, map, append-nil, append_assoc}
use Rattle.std.proofs.Math.ListN.{length, get_or, set}
use Rattle.std.proofs.Math.Seq.{get_or-append_seam}
use Rattle.meaning.specs.ListForm.{Name, ListedOccurrence, ListedModule, Part, sign, atom}
use Rattle.meaning.specs.ListReader.{Stage, list_due, modules, name_due, inputs_due, inputs, outputs_due, outputs, body_due, body, drives_due, drives, call_due, refers_due, takes, occurrence_end, module_end, Stand, start, at, finished, astray, next, ◌and◌, is_astray}
use Rattle.meaning.specs.ListNumbers.{gate_names, among, position, entered, each_name, occurrence_nets, mentions_of, number_among}
use Rattle.meaning.specs.ListCall.{over_at, too_long}
use Rattle.laws.specs.Texts.Numbering.{Behind, behind-behind, entered-behind, entered-append}
use Rattle.laws.specs.Texts.Sheets.{done, heading, ports, with_nets, with_body, sheet, net-laid}
use Rattle.text_modes.specs.Modes.{mode_of}
use Rattle.text_desk.specs.Desk.{Desk, raised, is_name, with_name, with_net}
use Rattle.text_desk.specs.Known.{number_is, position_later, entered-known, nets-full, names-full}
use Rattle.text_desk.specs.On.{mentioned_at, nets_at, ListAt, BodyAt, Laid, On, Stands}
use Rattle.text_desk.specs.Closing.{names_at, laid-now}

not-false : {A : Type 0} → false ≡ true → A
not-false e = absurd (let z : ◌≡◌ {A = ℕ} 0 1 = cc in omega arith)

not-true : {A : Type 0} → true ≡ false → A
not-true e = absurd (let z : ◌≡◌ {A = ℕ} 0 1 = cc in omega arith)

module _ (d : Desk) (known heard : List Name) (a : Name) (x : ℕ) where
  -- A module's name.
  module _ (is : x ≡ position a (entered known (a ∷ []))) where
    name-number : (ns : List Name) → Behind (entered known (a ∷ [])) (gate_names ++ ns) → x ≡ number_among ns a
    name-number ns b = is ∙ sym (position_later a (entered known (a ∷ [])) (gate_names ++ ns) (entered-known known a) b) ∙ number_is ns a

    name-laid : (ns ls : List Name) (xs : List ℕ) → x ≡ number_among ns a → d.numbers ≡ xs
        → d.numbers ++ (x ∷ 0 ∷ []) ≡ with_nets ns ls (xs and number_among ns a) []
    unfolding with_nets
    name-laid ns ls xs e h =
        ap (λ l. l ++ (x ∷ 0 ∷ [])) h ∙ ap (λ k. xs ++ (k ∷ 0 ∷ [])) e ∙ sym (append_assoc xs (number_among ns a ∷ []) (0 ∷ []))

    name-place : (xs : List ℕ) (k : ℕ) → d.numbers ≡ xs → length d.numbers + 1 ≡ length (xs and k)
    name-place xs k h = ap (λ l. length l + 1) h ∙ sym (length-append xs (k ∷ []))

    name_module : (ms : List ListedModule) → On (name_due ms) d known heard
        → On (inputs_due ms a) (with_name x d) (entered known (a ∷ [])) heard
    unfolding sheet
    name_module ms o =
        record {
          names = ap (λ l. entered l (a ∷ [])) o.names ∙ sym (entered-append gate_names (each_name mentions_of ms) (a ∷ []));
          nets = o.nets;
          laid = λ ns ls b c.
              let h : Laid ns ls (name_due ms) d = o.laid ns ls (behind-behind (entered-behind known (a ∷ [])) b) c in
              record {
                numbers = name-laid ns ls (suc (length ms) ∷ done ns ls ms) (name-number ns b) h.numbers;
                list = name-place (suc (length ms) ∷ done ns ls ms) (number_among ns a) h.numbers;
                body = tt;
              };
        }

    name-call : (ms : List ListedModule) (n : Name) (i o : List Name) (cs : List ListedOccurrence) (ds : List Name)
        → On (refers_due ms n i o cs ds) d known heard
        → On (takes ms n i o cs ds a []) (with_name x d) (entered known (a ∷ [])) heard
    unfolding sheet
    name-call ms n i o cs ds on =
        record {
          names = ap (λ l. entered l (a ∷ [])) on.names ∙ sym (entered-append gate_names (mentioned_at (refers_due ms n i o cs ds)) (a ∷ []));
          nets = on.nets ∙ ap (entered []) same;
          laid = λ ns ls b c.
              let h : Laid ns ls (refers_due ms n i o cs ds) d = on.laid ns ls (behind-behind (entered-behind known (a ∷ [])) b) c in
              record {
                numbers = name-laid ns ls (before ns ls) (name-number ns b) h.numbers;
                list = name-place (before ns ls) (number_among ns a) h.numbers;
                body = h.body;
              };
        }
      where
        before : (ns ls : List Name) → List ℕ
        before ns ls = with_nets ns ls (with_body ns ls (ports ns ls ms n i o) (suc (length cs)) cs) ds

        same : nets_at (refers_due ms n i o cs ds) ≡ nets_at (takes ms n i o cs ds a [])
        same = simp (append_assoc, append-nil)

    pub name-on : (s : Stage) → is_name (mode_of (at s)) ≡ true → On s d known heard
        → Stands (next s (atom a)) (with_name x d) (entered known (a ∷ [])) heard
    unfolding next
    name-on list_due e o = not-false e
    name-on (modules ms) e o = not-false e
    name-on (name_due ms) e o = name_module ms o
    name-on (inputs_due ms n) e o = not-false e
    name-on (inputs ms n i) e o = not-false e
    name-on (outputs_due ms n i) e o = not-false e
    name-on (outputs ms n i os) e o = not-false e
    name-on (body_due ms n i os) e o = not-false e
    name-on (body ms n i os cs) e o = not-false e
    name-on (drives_due ms n i os cs) e o = not-false e
    name-on (drives ms n i os cs ds) e o = not-false e
    name-on (call_due ms n i os cs ds) e o = not-false e
    name-on (refers_due ms n i os cs ds) e o = name-call ms n i os cs ds o
    name-on (takes ms n i os cs ds r t) e o = not-false e
    name-on (occurrence_end ms n i os cs ds r t) e o = not-false e
    name-on (module_end ms n i os cs) e o = not-false e

  -- A net.
  module _ (is : x ≡ position a (entered heard (a ∷ []))) where
    net-put : (ns ls : List Name) (xs : List ℕ) (l : List Name) → Behind (entered heard (a ∷ [])) ls
        → d.numbers ≡ with_nets ns ls xs l → d.list ≡ length xs → raised d.numbers d.list ++ (x ∷ []) ≡ with_nets ns ls xs (l and a)
    unfolding with_nets
    net-put ns ls xs l b h at-list =
        let number : x ≡ position a ls = is ∙ sym (position_later a (entered heard (a ∷ [])) ls (entered-known heard a) b) in
        let count : get_or d.numbers d.list 0 ≡ length l
        = ap (λ k. get_or k d.list 0) h ∙ ap (λ q. get_or (with_nets ns ls xs l) q 0) at-list
        ∙ get_or-append_seam xs (length l) (map (λ c. position c ls) l) 0 in
        ap (λ k. set d.numbers d.list (k + 1) ++ (x ∷ [])) count
        ∙ ap (λ k. set k d.list (length l + 1) ++ (x ∷ [])) h
        ∙ ap (λ q. set (with_nets ns ls xs l) q (length l + 1) ++ (x ∷ [])) at-list
        ∙ ap (λ k. set (with_nets ns ls xs l) (length xs) (length l + 1) ++ (k ∷ [])) number
        ∙ sym (net-laid ns ls xs l a)

    more-nets : (before after : List Name) → heard ≡ entered [] before → before and a ≡ after → entered heard (a ∷ []) ≡ entered [] after
    more-nets before after e same =
        ap (λ l. entered l (a ∷ [])) e ∙ sym (entered-append [] before (a ∷ [])) ∙ ap (entered []) same

    later : (ls : List Name) → Behind (entered heard (a ∷ [])) ls → Behind heard ls
    later ls c = behind-behind (entered-behind heard (a ∷ [])) c

    module _ (ms : List ListedModule) (n : Name) (i : List Name) where
      net-input : On (inputs ms n i) d known heard → On (inputs ms n (i and a)) (with_net x d) known (entered heard (a ∷ []))
      unfolding sheet
      net-input on =
          record {
            names = on.names;
            nets = more-nets i (i and a) on.nets refl;
            laid = λ ns ls b c.
                let h : Laid ns ls (inputs ms n i) d = on.laid ns ls b (later ls c) in
                record { numbers = net-put ns ls (heading ns ls ms n) i c h.numbers h.list; list = h.list; body = tt };
          }

      module _ (o : List Name) where
        net-output : On (outputs ms n i o) d known heard → On (outputs ms n i (o and a)) (with_net x d) known (entered heard (a ∷ []))
        unfolding sheet
        net-output on =
            record {
              names = on.names;
              nets = more-nets (i ++ o) (i ++ (o and a)) on.nets (append_assoc i o (a ∷ []));
              laid = λ ns ls b c.
                  let h : Laid ns ls (outputs ms n i o) d = on.laid ns ls b (later ls c) in
                  record { numbers = net-put ns ls (with_nets ns ls (heading ns ls ms n) i) o c h.numbers h.list; list = h.list; body = tt };
            }

        module _ (cs : List ListedOccurrence) (ds : List Name) where
          net-driven : On (drives ms n i o cs ds) d known heard → On (drives ms n i o cs (ds and a)) (with_net x d) known (entered heard (a ∷ []))
          unfolding sheet
          net-driven on =
              record {
                names = on.names;
                nets = more-nets (nets_at (drives ms n i o cs ds)) (nets_at (drives ms n i o cs (ds and a))) on.nets (append_assoc (i ++ (o ++ each_name occurrence_nets cs)) ds (a ∷ []));
                laid = λ ns ls b c.
                    let h : Laid ns ls (drives ms n i o cs ds) d = on.laid ns ls b (later ls c) in
                    record {
                      numbers = net-put ns ls (with_body ns ls (ports ns ls ms n i o) (suc (length cs)) cs) ds c h.numbers h.list;
                      list = h.list;
                      body = h.body;
                    };
              }

          net-taken : (r : Name) (t : List Name) → On (takes ms n i o cs ds r t) d known heard
              → On (takes ms n i o cs ds r (t and a)) (with_net x d) known (entered heard (a ∷ []))
          unfolding sheet
          net-taken r t on =
              record {
                names = on.names;
                nets = more-nets (nets_at (takes ms n i o cs ds r t)) (nets_at (takes ms n i o cs ds r (t and a))) on.nets
                    (append_assoc (i ++ (o ++ (each_name occurrence_nets cs ++ ds))) t (a ∷ []));
                laid = λ ns ls b c.
                    let h : Laid ns ls (takes ms n i o cs ds r t) d = on.laid ns ls b (later ls c) in
                    record {
                      numbers = net-put ns ls
                          (with_nets ns ls (with_body ns ls (ports ns ls ms n i o) (suc (length cs)) cs) ds and number_among ns r) t c h.numbers h.list;
                      list = h.list;
                      body = h.body;
                    };
              }

    pub net-on : (s : Stage) → is_name (mode_of (at s)) ≡ false → On s d known heard
        → Stands (next s (atom a)) (with_net x d) known (entered heard (a ∷ []))
    unfolding next
    net-on list_due e o = tt
    net-on (modules ms) e o = tt
    net-on (name_due ms) e o = not-true e
    net-on (inputs_due ms n) e o = tt
    net-on (inputs ms n i) e o = net-input ms n i o
    net-on (outputs_due ms n i) e o = tt
    net-on (outputs ms n i os) e o = net-output ms n i os o
    net-on (body_due ms n i os) e o = tt
    net-on (body ms n i os cs) e o = tt
    net-on (drives_due ms n i os cs) e o = tt
    net-on (drives ms n i os cs ds) e o = net-driven ms n i os cs ds o
    net-on (call_due ms n i os cs ds) e o = tt
    net-on (refers_due ms n i os cs ds) e o = not-true e
    net-on (takes ms n i os cs ds r t) e o = net-taken ms n i os cs ds r t o
    net-on (occurrence_end ms n i os cs ds r t) e o = tt
    net-on (module_end ms n i os cs) e o = tt
