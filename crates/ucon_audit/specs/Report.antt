-- The state after a history as JSON (RFC 8259).
use Rattle.std.specs.Prelude.{ℕ, zero, suc, pos, List, [], ◌∷◌, ◌++◌, codes, length, map, filter, Option, Some, None, option_map, unwrap_or}
use Rattle.serde_json.specs.Data.{Data, number, unsigned, string, array, object, Members, no_members, member, put}
use Rattle.serde_json.specs.Find.{of_integer}
use Rattle.serde_json.specs.View.{items_of}
use Rattle.serde_json.specs.Written.{compact_text}
use Rattle.ucon_base.specs.declared.value.Side.{Side}
use Rattle.ucon_base.specs.declared.value.Side.TheVariants as sides
use Rattle.ucon_base.specs.declared.value.Value.{Value}
use Rattle.ucon_base.specs.declared.value.Value.TheVariants.{Int, Text, Set}
use Rattle.ucon_model.specs.declared.policy.AttrDecl.{AttrDecl}
use Rattle.ucon_model.specs.declared.policy.EnvDecl.{EnvDecl}
use Rattle.ucon_model.specs.declared.session.SessionRow.{SessionRow}
use Rattle.ucon_model.specs.Plain.{Bytes, PlainPolicy}
use Rattle.ucon_model.specs.Readings.{same_side}
use Rattle.ucon_model.specs.History.{History, trace}
use Rattle.ucon_model.specs.Spelling.{state_word}
use Rattle.ucon_state.specs.Held.{Held, held_after}

-- an integer is a number, a text a string, a set an array of strings in its order
abbrev pub value_tree : Value → Data
value_tree (Int n) = number (of_integer n)
value_tree (Text t) = string t
value_tree (Set ts) = array (items_of (map (λ t. string t) ts))

-- ---- what has names: its keys stand in the order of their bytes, however they are put

-- these members with what a name has, put at the name
abbrev pub with_member : Bytes → Option Data → Members → Members
with_member name None ms = ms
with_member name (Some d) ms = put name d ms

-- these members with what each of these names has
abbrev pub with_members : (Bytes → Option Data) → List Bytes → Members → Members
with_members has [] ms = ms
with_members has (name ∷ names) ms = with_members has names (with_member name (has name) ms)

-- these members with the values that an entity has of these declarations, as far as they are of its side
abbrev pub with_attributes : Held → Side → Bytes → List AttrDecl → Members → Members
with_attributes h side name ds ms =
    with_members (λ attr. option_map value_tree (h.attribute side name attr)) (map (λ d. d.name) (filter (λ d. same_side side d.side) ds)) ms

-- the attributes of an entity
abbrev pub entity_tree : Held → Side → Bytes → Data
entity_tree h side name = object (with_attributes h side name h.policy.attrs no_members)

-- the entities of a side
abbrev pub entities_tree : Held → Side → Data
entities_tree h side = object (with_members (λ name. Some (entity_tree h side name)) (h.names side) no_members)

-- these members with the values of the variables that are so declared
abbrev pub with_variables : Held → List EnvDecl → Members → Members
with_variables h ds ms = with_members (λ name. option_map value_tree (h.variable name)) (map (λ d. d.name) ds) ms

-- the variables
abbrev pub env_tree : Held → Data
env_tree h = object (with_variables h h.policy.envs no_members)

-- ---- what has an order

-- an act with its moment, which each act has that was done
abbrev pub act_tree : Held → Bytes × Bytes × Bytes → Data
act_tree h a =
    object (member (codes "action") (string a.1)
    (member (codes "at") (number (of_integer (unwrap_or (h.moment a.0 a.1 a.2) (pos 0))))
    (member (codes "object") (string a.2)
    (member (codes "subject") (string a.0) no_members))))

-- the acts
abbrev pub acts_tree : Held → Data
acts_tree h = array (items_of (map (act_tree h) h.acts))

-- session n
abbrev pub session_tree : ℕ → SessionRow → Data
session_tree n row =
    object (member (codes "caller") (number (unsigned row.caller.0))
    (member (codes "number") (number (unsigned n))
    (member (codes "object") (string row.object)
    (member (codes "right") (string row.right)
    (member (codes "start") (number (of_integer row.start))
    (member (codes "state") (string (state_word row.state))
    (member (codes "subject") (string row.subject) no_members)))))))

-- with session n behind these, if it is there
abbrev pub with_session : List Data → ℕ → Option SessionRow → List Data
with_session ds n None = ds
with_session ds n (Some row) = ds ++ session_tree n row ∷ []

-- the sessions 1 to n
abbrev pub sessions_to : (ℕ → Option SessionRow) → ℕ → List Data
sessions_to row zero = []
sessions_to row (suc n) = with_session (sessions_to row n) (suc n) (row (suc n))

-- the sessions
abbrev pub sessions_tree : Held → Data
sessions_tree h = array (items_of (sessions_to h.session h.sessions))

-- ---- all of it

-- what is there after so many entries
abbrev pub tree_of : ℕ → Held → Data
tree_of entries h =
    object (member (codes "acts") (acts_tree h)
    (member (codes "entries") (number (unsigned entries))
    (member (codes "env") (env_tree h)
    (member (codes "objects") (entities_tree h sides.Object)
    (member (codes "sessions") (sessions_tree h)
    (member (codes "subjects") (entities_tree h sides.Subject)
    (member (codes "tick") (number (of_integer h.tick)) no_members)))))))

-- the state after a history that began under a policy
abbrev pub tree : PlainPolicy → History → Data
tree P H = tree_of (length H) (held_after P (trace P H))

-- JSON without blanks, as a line
abbrev pub line_of : Data → Bytes
line_of d = compact_text d ++ 10 ∷ []
