-- What undoing gives.
use Rattle.std.specs.Prelude.{◌-◌, List, [], ◌∷◌, length, take, slice_set}
use Rattle.indexmap.specs.Layout.{set_value_at}
use Rattle.ucon_base.specs.declared.value.Side.TheVariants as sides
use Rattle.ucon_model.specs.Checked.{checked_policy}
use Rattle.ucon_model.specs.Plain.{PlainPolicy}
use Rattle.ucon_state.specs.Views.{with_layout}
use Rattle.ucon_state.specs.declared.change.Undo.{Undo}
use Rattle.ucon_state.specs.declared.change.Undo.TheVariants.{Changed, Replaced}
use Rattle.ucon_state.specs.declared.change.Change.{Change}
use Rattle.ucon_state.specs.declared.change.Change.TheVariants.{Entity, Cell, Variable, Tick, Act, Moment, Session, Moved}
use Rattle.ucon_state.specs.Stored.{Stored, with_moved}

-- a list without its last item
abbrev pub front : {X : Type 0} → List X → List X
front xs = take (length xs - 1) xs

-- The tables before a change: what was added last is taken away, with the cells behind the first so many, and what was written over
-- is written back.
abbrev pub undone : Change → Stored → Stored
undone (Entity sides.Subject cells) t = record t { subjects = front t.subjects; cells = take cells t.cells }
undone (Entity sides.Object cells) t = record t { objects = front t.objects; cells = take cells t.cells }
undone (Cell cell before) t = record t { cells = slice_set t.cells cell before }
undone (Variable position before) t = record t { variables = slice_set t.variables position before }
undone (Tick before) t = record t { tick = before }
undone Act t = record t { acts = front t.acts }
undone (Moment position before) t = record t { acts = set_value_at t.acts position before }
undone Session t = record t { sessions = front t.sessions }
undone (Moved position state start) t = with_moved t position state start

-- ---- changes of the tables, and policies that were replaced

-- the tables before
abbrev pub tables_before : Undo → Stored → Stored
tables_before (Changed c) t = undone c t
tables_before (Replaced b) t = with_layout b.value.layout t

-- the policy before
abbrev pub policy_before : Undo → PlainPolicy → PlainPolicy
policy_before (Changed c) P = P
policy_before (Replaced b) P = checked_policy b.value.planned.checked

-- the tables before all of these, the oldest of which is the first: the newest is undone first
abbrev pub all_undone : List Undo → Stored → Stored
all_undone [] t = t
all_undone (u ∷ changes) t = tables_before u (all_undone changes t)

-- the policy before all of these
abbrev pub policy_undone : List Undo → PlainPolicy → PlainPolicy
policy_undone [] P = P
policy_undone (u ∷ changes) P = policy_before u (policy_undone changes P)
