-- Printed policies.
use Rattle.std.specs.Prelude.{◌≡◌, refl, pos, negsuc, [], ◌∷◌, ◌++◌, codes, Some, None}
use Rattle.std.specs.Fmt.{digits}
use Rattle.ucon_base.specs.declared.value.Side.TheVariants as sides
use Rattle.ucon_base.specs.declared.value.Kind.TheVariants as kinds
use Rattle.ucon_base.specs.declared.value.Value.TheVariants as values
use Rattle.ucon_model.specs.declared.formula.Op.TheVariants as ops
use Rattle.ucon_model.specs.declared.formula.Ref.TheVariants as refs
use Rattle.ucon_model.specs.declared.formula.Form.TheVariants as forms
use Rattle.ucon_model.specs.declared.policy.Phase.TheVariants as phases
use Rattle.ucon_model.specs.declared.policy.When.TheVariants as whens
use Rattle.ucon_model.specs.Plain.{Bytes, PlainExpr, lit, read, plus, minus, times, size, PlainFormula, both, either, negation, compare, lasts, authorisation, duty, condition, PlainPolicy}
use Rattle.ucon_model.specs.Printing.{expr_printing, formula_printing, policy_printing}

-- a right without items
no_items : policy_printing (record { attrs = []; envs = []; rights = record { name = codes "r"; preds = []; updates = [] } ∷ [] }) ≡ codes "right r {" ++ 10 ∷ codes "}" ++ 10 ∷ []
no_items = refl

abbrev n : Bytes → PlainExpr
n name = read (refs.Subject name)

abbrev a : PlainExpr
a = n (codes "a")

abbrev b : PlainExpr
b = n (codes "b")

abbrev c : PlainExpr
c = n (codes "c")

-- ---- expressions: chains group to the left, and need brackets on the right

to_the_left : expr_printing 0 (minus (minus a b) c) ≡ codes "s.a - s.b - s.c"
to_the_left = refl

right_of_minus : expr_printing 0 (minus a (minus b c)) ≡ codes "s.a - (s.b - s.c)"
right_of_minus = refl

sum_right_of_plus : expr_printing 0 (plus a (plus b c)) ≡ codes "s.a + (s.b + s.c)"
sum_right_of_plus = refl

product_right_of_minus : expr_printing 0 (minus a (times b c)) ≡ codes "s.a - s.b * s.c"
product_right_of_minus = refl

right_of_times : expr_printing 0 (times a (times b c)) ≡ codes "s.a * (s.b * s.c)"
right_of_times = refl

left_of_times : expr_printing 0 (times (times a b) c) ≡ codes "s.a * s.b * s.c"
left_of_times = refl

sum_left_of_times : expr_printing 0 (times (plus a b) (minus b c)) ≡ codes "(s.a + s.b) * (s.b - s.c)"
sum_left_of_times = refl

negative_number : expr_printing 0 (minus (read (refs.Env (codes "hour"))) (lit (values.Int (negsuc 4)))) ≡ codes "env.hour - -5"
unfolding digits
negative_number = refl

size_of_sum : expr_printing 0 (size (plus (read (refs.Object (codes "tags"))) (lit (values.Text (codes "a b"))))) ≡ codes "size(o.tags + " ++ 34 ∷ codes "a b" ++ 34 ∷ codes ")"
size_of_sum = refl

a_set : expr_printing 0 (lit (values.Set (codes "a" ∷ codes "b" ∷ []))) ≡ codes "{" ++ 34 ∷ codes "a" ++ 34 ∷ codes ", " ++ 34 ∷ codes "b" ++ 34 ∷ codes "}"
a_set = refl

-- ---- formulas

abbrev f : PlainFormula
f = compare ops.Eq a b

abbrev g : PlainFormula
g = compare ops.Le b c

abbrev h : PlainFormula
h = lasts (pos 10)

or_under_and : formula_printing 0 (both (either f g) h) ≡ codes "[ s.a = s.b or s.b <= s.c ] and lasts 10"
unfolding digits
or_under_and = refl

and_under_or : formula_printing 0 (either (both f g) (both g h)) ≡ codes "s.a = s.b and s.b <= s.c or s.b <= s.c and lasts 10"
unfolding digits
and_under_or = refl

right_of_or : formula_printing 0 (either f (either g h)) ≡ codes "s.a = s.b or [ s.b <= s.c or lasts 10 ]"
unfolding digits
right_of_or = refl

right_of_and : formula_printing 0 (both f (both g h)) ≡ codes "s.a = s.b and [ s.b <= s.c and lasts 10 ]"
unfolding digits
right_of_and = refl

nested_not : formula_printing 0 (negation (negation (both f (negation (either g h))))) ≡ codes "not not [ s.a = s.b and not [ s.b <= s.c or lasts 10 ] ]"
unfolding digits
nested_not = refl

-- ---- a whole policy

abbrev line : Bytes → Bytes
line bytes = bytes ++ 10 ∷ []

abbrev whole : PlainPolicy
whole = record {
  attrs =
      record { side = sides.Subject; name = codes "credit"; kind = kinds.Int (negsuc 0) (pos 1000); start = values.Int (pos 0) }
      ∷ record { side = sides.Object; name = codes "tags"; kind = kinds.Set; start = values.Set [] } ∷ [];
  envs = record { name = codes "mode"; kind = kinds.Text; start = values.Text (codes "on") } ∷ [];
  rights = record {
    name = codes "play";
    preds =
        record { phase = phases.Pre; label = codes "funds"; test = authorisation (compare ops.Ge (n (codes "credit")) (lit (values.Int (pos 5)))) }
        ∷ record { phase = phases.Ongoing; label = codes "ads"; test = duty (record { form = forms.Every (pos 30); action = codes "click"; by_subject = Some (codes "ann"); on_object = None }) }
        ∷ record { phase = phases.Pre; label = codes "sign"; test = duty (record { form = forms.Done; action = codes "sign"; by_subject = None; on_object = Some (codes "door") }) }
        ∷ record { phase = phases.Pre; label = codes "late"; test = condition (compare ops.Member (lit (values.Text (codes "x"))) (lit (values.Set []))) } ∷ [];
    updates =
        record { when = whens.Before; side = sides.Subject; attr = codes "credit"; value = minus (n (codes "credit")) (lit (values.Int (pos 5))) }
        ∷ record { when = whens.AfterRevoke; side = sides.Object; attr = codes "users"; value = lit (values.Int (pos 0)) } ∷ [];
  } ∷ [];
}

abbrev between_quotes : Bytes → Bytes
between_quotes t = 34 ∷ t ++ 34 ∷ []

a_whole_policy : policy_printing whole ≡
    line (codes "attr s credit : int -1..1000 = 0;")
    ++ line (codes "attr o tags : set = {};")
    ++ line (codes "env mode : text = " ++ between_quotes (codes "on") ++ codes ";")
    ++ line (codes "right play {")
    ++ line (codes "  pre a funds: s.credit >= 5;")
    ++ line (codes "  on b ads: every 30 click by " ++ between_quotes (codes "ann") ++ codes ";")
    ++ line (codes "  pre b sign: done sign on " ++ between_quotes (codes "door") ++ codes ";")
    ++ line (codes "  pre c late: " ++ between_quotes (codes "x") ++ codes " in {};")
    ++ line (codes "  before s.credit = s.credit - 5;")
    ++ line (codes "  after_revoke o.users = 0;")
    ++ line (codes "}")
unfolding digits
a_whole_policy = refl
