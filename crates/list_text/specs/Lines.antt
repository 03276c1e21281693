-- Lines of the listing in a buffer.
use Rattle.std.specs.Prelude.{ℕ, List}
use Rattle.meaning.specs.Family.{Summary}
use Rattle.list_text.specs.declared.Counts.{Counts}

-- Ten numbers of at most twenty digits, nine spaces and a line feed.
abbrev pub longest_line : ℕ
longest_line = 210

-- The figures of a line, with a tally, of which a line says nothing.
abbrev pub figures_of : Counts → List ℕ → Summary
figures_of c tally =
    record {
      figures =
          record {
            inputs = c.inputs;
            outputs = c.outputs;
            tally = tally;
            gates = c.gates;
            size = c.size;
            room = c.room;
            delay = c.delay;
            load = c.load;
          };
      family_delay = c.family;
    }
