-- What the tables of `src/` stand for.
use Rattle.ucon_state.specs.declared.layout.Layout.{Layout}
use Rattle.ucon_state.specs.declared.tables.Tables.{Tables as Kept}
use Rattle.ucon_state.specs.Stored.{Stored}

-- the lists that the tables hold
abbrev pub lists_of : Kept → Stored
lists_of t = record {
  subjects = t.subjects.entries;
  objects = t.objects.entries;
  cells = t.cells.items;
  variables = t.variables.items;
  tick = t.tick;
  acts = t.acts.entries;
  sessions = t.sessions.items;
}

-- the tables with their entities and values laid so
abbrev pub with_layout : Layout → Stored → Stored
with_layout l t = record t { subjects = l.subjects.entries; objects = l.objects.entries; cells = l.cells.items; variables = l.variables.items }
