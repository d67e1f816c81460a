-- The work after a command's own actions, read off the trace after them.
use Rattle.std.specs.Prelude.{List, [], ◌∷◌, false}
use Rattle.std.specs.List.{list_any}
use Rattle.std.specs.Option.{option_map_or}
use Rattle.ucon_model.specs.declared.command.Command.{Command}
use Rattle.ucon_model.specs.declared.command.Command.TheVariants.{Set, Env, Tick, Beat, End, Amend}
use Rattle.ucon_model.specs.declared.policy.When.TheVariants.{Before, During, AfterEnd}
use Rattle.ucon_model.specs.declared.reply.Head.{Head}
use Rattle.ucon_model.specs.declared.reply.Head.TheVariants as heads
use Rattle.ucon_model.specs.Plain.{PlainPolicy}
use Rattle.ucon_model.specs.Action.{Trace}
use Rattle.ucon_model.specs.Readings.{in_force, session}
use Rattle.ucon_model.specs.Reach.{Location, attribute_of, variable_of, is_by_tick, readers, session_targets, timed_of}
use Rattle.ucon_model.specs.Work.{Work, everybody, joined, nobody, only}

-- whom a head tells to be permitted
abbrev pub permitted_by : Head → Work
permitted_by (heads.Permitted n) = only n
permitted_by head = nobody

-- where the updates before the usage write, of the session that a head tells to be permitted
abbrev pub permit_locations : PlainPolicy → Trace → Head → List Location
permit_locations P T (heads.Permitted n) = session_targets P T n Before
permit_locations P T head = []

-- where a command writes, and where the updates write that it runs, but for those before a usage
abbrev pub command_locations : PlainPolicy → Trace → Command → List Location
command_locations P T (Set side name attr v) = attribute_of side name attr ∷ []
command_locations P T (Env name v) = variable_of name ∷ []
command_locations P T (Beat n) = session_targets P T n During
command_locations P T (End n) = session_targets P T n AfterEnd
command_locations P T c = []

-- whether the tick decides over a part of what session n's right reads
abbrev pub is_timed : PlainPolicy → Trace → Work
is_timed P T n = option_map_or (λ row. list_any is_by_tick (timed_of (in_force P T) row)) (session T n) false

-- whom else a command concerns: those over whom the tick decides, if it moves the tick, and everybody if it replaces the policy
abbrev pub concerned_by : PlainPolicy → Trace → Command → Work
concerned_by P T (Tick t) = is_timed P T
concerned_by P T (Amend a) = everybody
concerned_by P T c = nobody

-- The work after own actions, by the command and the head of its reply. It has who is permitted, who reads where they wrote, and over whom the
-- tick decides if it moved. It has everybody if the policy was replaced.
abbrev pub work_afterwards : PlainPolicy → Trace → Command → Head → Work
work_afterwards P T c head =
    joined (permitted_by head) (joined (readers P T (permit_locations P T head))
    (joined (readers P T (command_locations P T c)) (concerned_by P T c)))
