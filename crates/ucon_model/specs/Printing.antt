-- The plain printing of a policy: one item a line, with the brackets that its grouping needs and no others.
use Rattle.std.specs.Prelude.{ℕ, Bool, true, false, nat_lt, List, [], ◌∷◌, ◌++◌, Option, Some, None, codes}
use Rattle.std.specs.List.{flat_map}
use Rattle.std.specs.Fmt.{signed_decimal}
use Rattle.ucon_base.specs.Spelling.{side_word, quoted}
use Rattle.ucon_base.specs.declared.value.Kind.{Kind}
use Rattle.ucon_base.specs.declared.value.Kind.TheVariants as kinds
use Rattle.ucon_base.specs.declared.value.Value.{Value}
use Rattle.ucon_base.specs.declared.value.Value.TheVariants as values
use Rattle.ucon_model.specs.declared.formula.Op.{Op}
use Rattle.ucon_model.specs.declared.formula.Op.TheVariants as ops
use Rattle.ucon_model.specs.declared.formula.Ref.{Ref}
use Rattle.ucon_model.specs.declared.formula.Ref.TheVariants as refs
use Rattle.ucon_model.specs.declared.formula.Form.{Form}
use Rattle.ucon_model.specs.declared.formula.Form.TheVariants as forms
use Rattle.ucon_model.specs.declared.formula.Obligation.{Obligation}
use Rattle.ucon_model.specs.declared.policy.AttrDecl.{AttrDecl}
use Rattle.ucon_model.specs.declared.policy.EnvDecl.{EnvDecl}
use Rattle.ucon_model.specs.declared.policy.Phase.{Phase}
use Rattle.ucon_model.specs.declared.policy.Phase.TheVariants as phases
use Rattle.ucon_model.specs.declared.policy.When.{When}
use Rattle.ucon_model.specs.declared.policy.When.TheVariants as whens
use Rattle.ucon_model.specs.Plain.{Bytes, PlainExpr, lit, read, plus, minus, times, size, PlainFormula, both, either, negation, compare, lasts}
use Rattle.ucon_model.specs.Plain.{PlainTest, authorisation, duty, condition, PlainPredicate, PlainUpdate, PlainRight, PlainPolicy}

-- these bytes, if the test holds
abbrev pub only_if : Bool → Bytes → Bytes
only_if true bytes = bytes
only_if false bytes = []

-- ---- literals and places

-- a text behind the first
abbrev pub further_text : Bytes → Bytes
further_text t = codes ", " ++ quoted t

abbrev pub set_printing : List Bytes → Bytes
set_printing [] = codes "{}"
set_printing (t ∷ ts) = codes "{" ++ quoted t ++ flat_map further_text ts ++ codes "}"

abbrev pub literal_printing : Value → Bytes
literal_printing (values.Int n) = signed_decimal n
literal_printing (values.Text t) = quoted t
literal_printing (values.Set ts) = set_printing ts

abbrev pub place_printing : Ref → Bytes
place_printing (refs.Subject name) = codes "s." ++ name
place_printing (refs.Object name) = codes "o." ++ name
place_printing (refs.Env name) = codes "env." ++ name

-- ---- expressions and formulas

-- An expression. Its place asks it to bind so strongly at the least: 0 lets a sum stand there, 1 a product, 2 what has no
-- operator. A right operand's place asks one more than the operator's own strength, since chains group to the left.
abbrev pub expr_printing : ℕ → PlainExpr → Bytes
expr_printing least (lit v) = literal_printing v
expr_printing least (read place) = place_printing place
expr_printing least (plus a b) =
    only_if (nat_lt 0 least) (codes "(") ++ expr_printing 0 a ++ codes " + " ++ expr_printing 1 b ++ only_if (nat_lt 0 least) (codes ")")
expr_printing least (minus a b) =
    only_if (nat_lt 0 least) (codes "(") ++ expr_printing 0 a ++ codes " - " ++ expr_printing 1 b ++ only_if (nat_lt 0 least) (codes ")")
expr_printing least (times a b) =
    only_if (nat_lt 1 least) (codes "(") ++ expr_printing 1 a ++ codes " * " ++ expr_printing 2 b ++ only_if (nat_lt 1 least) (codes ")")
expr_printing least (size a) = codes "size(" ++ expr_printing 0 a ++ codes ")"

-- an operator, with a blank on each side
abbrev pub op_printing : Op → Bytes
op_printing ops.Eq = codes " = "
op_printing ops.Ne = codes " != "
op_printing ops.Lt = codes " < "
op_printing ops.Le = codes " <= "
op_printing ops.Gt = codes " > "
op_printing ops.Ge = codes " >= "
op_printing ops.Member = codes " in "

-- A formula. Its place asks it to bind so strongly at the least: 0 lets an `or` stand there, 1 an `and`, 2 neither.
abbrev pub formula_printing : ℕ → PlainFormula → Bytes
formula_printing least (either f g) =
    only_if (nat_lt 0 least) (codes "[ ") ++ formula_printing 0 f ++ codes " or " ++ formula_printing 1 g ++ only_if (nat_lt 0 least) (codes " ]")
formula_printing least (both f g) =
    only_if (nat_lt 1 least) (codes "[ ") ++ formula_printing 1 f ++ codes " and " ++ formula_printing 2 g ++ only_if (nat_lt 1 least) (codes " ]")
formula_printing least (negation f) = codes "not " ++ formula_printing 2 f
formula_printing least (compare op a b) = expr_printing 0 a ++ op_printing op ++ expr_printing 0 b
formula_printing least (lasts n) = codes "lasts " ++ signed_decimal n

-- ---- attributes and variables

abbrev pub kind_printing : Kind → Bytes
kind_printing (kinds.Int low high) = codes "int " ++ signed_decimal low ++ codes ".." ++ signed_decimal high
kind_printing kinds.Text = codes "text"
kind_printing kinds.Set = codes "set"

-- what stands behind the name of an attribute or a variable
abbrev pub declared_printing : Kind → Value → Bytes
declared_printing kind start = codes " : " ++ kind_printing kind ++ codes " = " ++ literal_printing start ++ codes ";" ++ 10 ∷ []

abbrev pub attr_printing : AttrDecl → Bytes
attr_printing a = codes "attr " ++ side_word a.side ++ codes " " ++ a.name ++ declared_printing a.kind a.start

abbrev pub env_printing : EnvDecl → Bytes
env_printing v = codes "env " ++ v.name ++ declared_printing v.kind v.start

-- ---- predicates and updates

abbrev pub form_printing : Form → Bytes
form_printing forms.Done = codes "done "
form_printing (forms.Within n) = codes "within " ++ signed_decimal n ++ codes " "
form_printing (forms.Every n) = codes "every " ++ signed_decimal n ++ codes " "

-- by whom, or on what
abbrev pub party_printing : Bytes → Option Bytes → Bytes
party_printing word None = []
party_printing word (Some name) = word ++ quoted name

abbrev pub duty_printing : Obligation → Bytes
duty_printing o = form_printing o.form ++ o.action ++ party_printing (codes " by ") o.by_subject ++ party_printing (codes " on ") o.on_object

abbrev pub letter_printing : PlainTest → Bytes
letter_printing (authorisation f) = codes "a "
letter_printing (duty o) = codes "b "
letter_printing (condition f) = codes "c "

abbrev pub test_printing : PlainTest → Bytes
test_printing (authorisation f) = formula_printing 0 f
test_printing (duty o) = duty_printing o
test_printing (condition f) = formula_printing 0 f

abbrev pub phase_printing : Phase → Bytes
phase_printing phases.Pre = codes "  pre "
phase_printing phases.Ongoing = codes "  on "

abbrev pub predicate_printing : PlainPredicate → Bytes
predicate_printing p = phase_printing p.phase ++ letter_printing p.test ++ p.label ++ codes ": " ++ test_printing p.test ++ codes ";" ++ 10 ∷ []

abbrev pub when_printing : When → Bytes
when_printing whens.Before = codes "  before "
when_printing whens.During = codes "  during "
when_printing whens.AfterEnd = codes "  after_end "
when_printing whens.AfterRevoke = codes "  after_revoke "

abbrev pub update_printing : PlainUpdate → Bytes
update_printing u = when_printing u.when ++ side_word u.side ++ codes "." ++ u.attr ++ codes " = " ++ expr_printing 0 u.value ++ codes ";" ++ 10 ∷ []

-- ---- rights and policies

abbrev pub right_printing : PlainRight → Bytes
right_printing r =
    codes "right " ++ r.name ++ codes " {" ++ 10 ∷ []
    ++ flat_map predicate_printing r.preds ++ flat_map update_printing r.updates ++ codes "}" ++ 10 ∷ []

-- the text of a policy, its items in the order of its lists
abbrev pub policy_printing : PlainPolicy → Bytes
policy_printing p = flat_map attr_printing p.attrs ++ flat_map env_printing p.envs ++ flat_map right_printing p.rights
