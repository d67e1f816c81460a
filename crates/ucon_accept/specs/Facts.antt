-- What a predicate reads to be decided on a session.
use Rattle.std.specs.Prelude.{Bool, true, false, ◌||◌, List, [], ◌∷◌, ◌++◌, map, unwrap_or, if◌then◌else◌}
use Rattle.ucon_model.specs.declared.formula.Form.{Form}
use Rattle.ucon_model.specs.declared.formula.Form.TheVariants.{Done, Within, Every}
use Rattle.ucon_model.specs.declared.formula.Obligation.{Obligation}
use Rattle.ucon_model.specs.declared.formula.Ref.{Ref}
use Rattle.ucon_model.specs.declared.session.SessionRow.{SessionRow}
use Rattle.ucon_model.specs.Places.{distinct, formula_places}
use Rattle.ucon_model.specs.Plain.{Bytes, PlainFormula, both, either, negation, compare, lasts, PlainTest, authorisation, duty, condition}
use Rattle.ucon_model.specs.Truth.{Readings, read_or_zero}
use Rattle.ucon_accept.specs.declared.explanation.Fact.{Fact}
use Rattle.ucon_accept.specs.declared.explanation.Fact.TheVariants.{Value, Moment, Tick}

-- what a place holds for a session
abbrev pub value_fact : Readings → SessionRow → Ref → Fact
value_fact R row place = Value place (read_or_zero (R.at row place))

-- the tick at which an act was last done
abbrev pub moment_fact : Readings → Bytes → Bytes → Bytes → Fact
moment_fact R s a o = Moment s a o (R.done_at s a o)

-- the act that an obligation asks for; without a name of its own it means the session's subject or object
abbrev pub act_fact : Readings → SessionRow → Obligation → Fact
act_fact R row o = moment_fact R (unwrap_or o.by_subject row.subject) o.action (unwrap_or o.on_object row.object)

-- the present tick, if it is asked for
abbrev pub tick_fact : Readings → Bool → List Fact
tick_fact R asked = if asked then Tick R.now ∷ [] else []

-- whether an act may be too long ago
abbrev pub is_timed : Form → Bool
is_timed Done = false
is_timed (Within n) = true
is_timed (Every n) = true

-- whether a formula asks how long the usage has lasted; no well typed one does before a usage
abbrev pub asks_tick : PlainFormula → Bool
asks_tick (both f g) = asks_tick f || asks_tick g
asks_tick (either f g) = asks_tick f || asks_tick g
asks_tick (negation f) = asks_tick f
asks_tick (compare op a b) = false
asks_tick (lasts n) = true

-- each place in the order of its first reading with what it holds, and then the tick, if the formula asks for it
abbrev pub formula_facts : Readings → SessionRow → PlainFormula → List Fact
formula_facts R row f = map (value_fact R row) (distinct (formula_places f)) ++ tick_fact R (asks_tick f)

-- the facts that a test reads: of an obligation the act, and then the tick if the act may be too long ago
abbrev pub test_facts : Readings → SessionRow → PlainTest → List Fact
test_facts R row (authorisation f) = formula_facts R row f
test_facts R row (duty o) = act_fact R row o ∷ tick_fact R (is_timed o.form)
test_facts R row (condition f) = formula_facts R row f
