-- How the logic stores plain policies, so that one may stand in what a value of `src/` stands for. An expression and a formula are stored as the
-- list of their parts, operands first, which a stack gives back.
use Rattle.std.specs.Prelude.{◌≡◌, ◌==◌, ℕ, ℤ, pos, Bool, true, false, List, [], ◌∷◌, ◌++◌, refl, if◌then◌else◌}
use Rattle.std.proofs.Common.{◌⊎◌, inl, inr, ap, ◌∙◌}
use Rattle.std.specs.Coded.{Coded, code_by, coded_list, coded_ℕ, coded_ℤ, coded×, coded⊎}
use Rattle.ucon_base.specs.contracts.value.Side as side_row
use Rattle.ucon_base.specs.contracts.value.Value as value_row
use Rattle.ucon_base.specs.declared.value.Side.{Side}
use Rattle.ucon_base.specs.declared.value.Value.{Value}
use Rattle.ucon_base.specs.declared.value.Value.TheVariants as values
use Rattle.ucon_model.specs.contracts.formula.Obligation as duty_row
use Rattle.ucon_model.specs.contracts.formula.Op as op_row
use Rattle.ucon_model.specs.contracts.formula.Ref as place_row
use Rattle.ucon_model.specs.contracts.policy.AttrDecl as attr_row
use Rattle.ucon_model.specs.contracts.policy.EnvDecl as env_row
use Rattle.ucon_model.specs.contracts.policy.Phase as phase_row
use Rattle.ucon_model.specs.contracts.policy.When as when_row
use Rattle.ucon_model.specs.declared.formula.Obligation.{Obligation}
use Rattle.ucon_model.specs.declared.formula.Op.{Op}
use Rattle.ucon_model.specs.declared.formula.Ref.{Ref}
use Rattle.ucon_model.specs.declared.policy.AttrDecl.{AttrDecl}
use Rattle.ucon_model.specs.declared.policy.EnvDecl.{EnvDecl}
use Rattle.ucon_model.specs.declared.policy.Phase.{Phase}
use Rattle.ucon_model.specs.declared.policy.When.{When}
use Rattle.ucon_model.specs.Plain.{Bytes, PlainExpr, lit, read, plus, minus, times, size, PlainFormula, both, either, negation, compare, lasts}
use Rattle.ucon_model.specs.Plain.{PlainTest, authorisation, duty, condition, PlainPredicate, PlainUpdate, PlainRight, PlainPolicy, Amendment}

abbrev bytes_code : Coded Bytes
bytes_code = coded_list coded_ℕ

-- ---- expressions

-- a value, a place, or an operator by its number: a sum, a difference, a product, a size
abbrev ExprPart : Type 0
ExprPart = Value ⊎ (Ref ⊎ ℕ)

abbrev operator : ℕ → ExprPart
operator n = inr (inr n)

-- the operands' parts stand before their operator
abbrev expr_parts : PlainExpr → List ExprPart
expr_parts (lit v) = inl v ∷ []
expr_parts (read place) = inr (inl place) ∷ []
expr_parts (plus a b) = expr_parts a ++ (expr_parts b ++ (operator 0 ∷ []))
expr_parts (minus a b) = expr_parts a ++ (expr_parts b ++ (operator 1 ∷ []))
expr_parts (times a b) = expr_parts a ++ (expr_parts b ++ (operator 2 ∷ []))
expr_parts (size a) = expr_parts a ++ (operator 3 ∷ [])

-- two operands, of which the second lies on top
abbrev join_exprs : ℕ → PlainExpr → PlainExpr → PlainExpr
join_exprs n a b = if n == 0 then plus a b else if n == 1 then minus a b else times a b

abbrev put_operator : Bool → ℕ → List PlainExpr → List PlainExpr
put_operator true n (a ∷ stack) = size a ∷ stack
put_operator false n (b ∷ a ∷ stack) = join_exprs n a b ∷ stack
put_operator one n stack = stack

abbrev put_expr : ExprPart → List PlainExpr → List PlainExpr
put_expr (inl v) stack = lit v ∷ stack
put_expr (inr (inl place)) stack = read place ∷ stack
put_expr (inr (inr n)) stack = put_operator (n == 3) n stack

abbrev put_exprs : List ExprPart → List PlainExpr → List PlainExpr
put_exprs [] stack = stack
put_exprs (p ∷ ps) stack = put_exprs ps (put_expr p stack)

-- what lies on top
abbrev expr_from : List PlainExpr → PlainExpr
expr_from [] = lit (values.Text [])
expr_from (e ∷ stack) = e

put_exprs-append : (ps qs : List ExprPart) (stack : List PlainExpr) → put_exprs (ps ++ qs) stack ≡ put_exprs qs (put_exprs ps stack)
put_exprs-append [] qs stack = refl
put_exprs-append (p ∷ ps) qs stack = put_exprs-append ps qs (put_expr p stack)

-- what the parts of two operands and their operator put
two_put : (a b c : PlainExpr) (n : ℕ) (stack : List PlainExpr) → put_exprs (expr_parts a) stack ≡ a ∷ stack
    → put_exprs (expr_parts b) (a ∷ stack) ≡ b ∷ a ∷ stack
    → put_operator (n == 3) n (b ∷ a ∷ stack) ≡ c ∷ stack → put_exprs (expr_parts a ++ (expr_parts b ++ (operator n ∷ []))) stack ≡ c ∷ stack
two_put a b c n stack first second joined =
    put_exprs-append (expr_parts a) (expr_parts b ++ (operator n ∷ [])) stack ∙ ap (put_exprs (expr_parts b ++ (operator n ∷ []))) first
    ∙ put_exprs-append (expr_parts b) (operator n ∷ []) (a ∷ stack) ∙ ap (put_exprs (operator n ∷ [])) second ∙ joined

expr_put : (e : PlainExpr) (stack : List PlainExpr) → put_exprs (expr_parts e) stack ≡ e ∷ stack
expr_put (lit v) stack = refl
expr_put (read place) stack = refl
expr_put (plus a b) stack = two_put a b (plus a b) 0 stack (expr_put a stack) (expr_put b (a ∷ stack)) refl
expr_put (minus a b) stack = two_put a b (minus a b) 1 stack (expr_put a stack) (expr_put b (a ∷ stack)) refl
expr_put (times a b) stack = two_put a b (times a b) 2 stack (expr_put a stack) (expr_put b (a ∷ stack)) refl
expr_put (size a) stack = put_exprs-append (expr_parts a) (operator 3 ∷ []) stack ∙ ap (put_exprs (operator 3 ∷ [])) (expr_put a stack)

abbrev expr_of_parts : List ExprPart → PlainExpr
expr_of_parts ps = expr_from (put_exprs ps [])

pub expr_back : (e : PlainExpr) → expr_of_parts (expr_parts e) ≡ e
expr_back e = ap expr_from (expr_put e [])

abbrev expr_code : Coded PlainExpr
expr_code =
    code_by (List ExprPart) (coded_list (coded⊎ (value_row.the_row).coded (coded⊎ (place_row.the_row).coded coded_ℕ)))
    expr_parts expr_of_parts expr_back

-- ---- formulas

-- a comparison, a `lasts`, or a connective by its number: and, or, not
abbrev FormulaPart : Type 0
FormulaPart = (Op × (PlainExpr × PlainExpr)) ⊎ (ℤ ⊎ ℕ)

abbrev connective : ℕ → FormulaPart
connective n = inr (inr n)

-- the parts of what it connects stand before a connective
abbrev formula_parts : PlainFormula → List FormulaPart
formula_parts (both f g) = formula_parts f ++ (formula_parts g ++ (connective 0 ∷ []))
formula_parts (either f g) = formula_parts f ++ (formula_parts g ++ (connective 1 ∷ []))
formula_parts (negation f) = formula_parts f ++ (connective 2 ∷ [])
formula_parts (compare op a b) = inl (op, (a, b)) ∷ []
formula_parts (lasts n) = inr (inl n) ∷ []

abbrev join_formulas : ℕ → PlainFormula → PlainFormula → PlainFormula
join_formulas n f g = if n == 0 then both f g else either f g

abbrev put_connective : Bool → ℕ → List PlainFormula → List PlainFormula
put_connective true n (f ∷ stack) = negation f ∷ stack
put_connective false n (g ∷ f ∷ stack) = join_formulas n f g ∷ stack
put_connective one n stack = stack

abbrev put_formula : FormulaPart → List PlainFormula → List PlainFormula
put_formula (inl c) stack = compare c.0 c.1.0 c.1.1 ∷ stack
put_formula (inr (inl n)) stack = lasts n ∷ stack
put_formula (inr (inr n)) stack = put_connective (n == 2) n stack

abbrev put_formulas : List FormulaPart → List PlainFormula → List PlainFormula
put_formulas [] stack = stack
put_formulas (p ∷ ps) stack = put_formulas ps (put_formula p stack)

-- what lies on top
abbrev formula_from : List PlainFormula → PlainFormula
formula_from [] = lasts (pos 0)
formula_from (f ∷ stack) = f

put_formulas-append : (ps qs : List FormulaPart) (stack : List PlainFormula) → put_formulas (ps ++ qs) stack ≡ put_formulas qs (put_formulas ps stack)
put_formulas-append [] qs stack = refl
put_formulas-append (p ∷ ps) qs stack = put_formulas-append ps qs (put_formula p stack)

both_put : (f g h : PlainFormula) (n : ℕ) (stack : List PlainFormula) → put_formulas (formula_parts f) stack ≡ f ∷ stack
    → put_formulas (formula_parts g) (f ∷ stack) ≡ g ∷ f ∷ stack → put_connective (n == 2) n (g ∷ f ∷ stack) ≡ h ∷ stack
    → put_formulas (formula_parts f ++ (formula_parts g ++ (connective n ∷ []))) stack ≡ h ∷ stack
both_put f g h n stack first second joined =
    put_formulas-append (formula_parts f) (formula_parts g ++ (connective n ∷ [])) stack
    ∙ ap (put_formulas (formula_parts g ++ (connective n ∷ []))) first
    ∙ put_formulas-append (formula_parts g) (connective n ∷ []) (f ∷ stack) ∙ ap (put_formulas (connective n ∷ [])) second ∙ joined

formula_put : (f : PlainFormula) (stack : List PlainFormula) → put_formulas (formula_parts f) stack ≡ f ∷ stack
formula_put (both f g) stack = both_put f g (both f g) 0 stack (formula_put f stack) (formula_put g (f ∷ stack)) refl
formula_put (either f g) stack = both_put f g (either f g) 1 stack (formula_put f stack) (formula_put g (f ∷ stack)) refl
formula_put (negation f) stack =
    put_formulas-append (formula_parts f) (connective 2 ∷ []) stack ∙ ap (put_formulas (connective 2 ∷ [])) (formula_put f stack)
formula_put (compare op a b) stack = refl
formula_put (lasts n) stack = refl

abbrev formula_of_parts : List FormulaPart → PlainFormula
formula_of_parts ps = formula_from (put_formulas ps [])

pub formula_back : (f : PlainFormula) → formula_of_parts (formula_parts f) ≡ f
formula_back f = ap formula_from (formula_put f [])

abbrev formula_code : Coded PlainFormula
formula_code =
    code_by (List FormulaPart) (coded_list (coded⊎ (coded× (op_row.the_row).coded (coded× expr_code expr_code)) (coded⊎ coded_ℤ coded_ℕ)))
    formula_parts formula_of_parts formula_back

-- ---- rights

abbrev test_parts : PlainTest → PlainFormula ⊎ (Obligation ⊎ PlainFormula)
test_parts (authorisation f) = inl f
test_parts (duty o) = inr (inl o)
test_parts (condition f) = inr (inr f)

abbrev test_from : PlainFormula ⊎ (Obligation ⊎ PlainFormula) → PlainTest
test_from (inl f) = authorisation f
test_from (inr (inl o)) = duty o
test_from (inr (inr f)) = condition f

pub test_back : (t : PlainTest) → test_from (test_parts t) ≡ t
test_back (authorisation f) = refl
test_back (duty o) = refl
test_back (condition f) = refl

abbrev test_code : Coded PlainTest
test_code =
    code_by (PlainFormula ⊎ (Obligation ⊎ PlainFormula)) (coded⊎ formula_code (coded⊎ (duty_row.the_row).coded formula_code))
    test_parts test_from test_back

abbrev predicate_code : Coded PlainPredicate
predicate_code =
    code_by (Phase × (Bytes × PlainTest)) (coded× (phase_row.the_row).coded (coded× bytes_code test_code))
    (λ p. (p.phase, (p.label, p.test))) (λ p. record { phase = p.0; label = p.1.0; test = p.1.1 }) (λ _. refl)

abbrev update_code : Coded PlainUpdate
update_code =
    code_by (When × (Side × (Bytes × PlainExpr))) (coded× (when_row.the_row).coded (coded× (side_row.the_row).coded (coded× bytes_code expr_code)))
    (λ u. (u.when, (u.side, (u.attr, u.value)))) (λ p. record { when = p.0; side = p.1.0; attr = p.1.1.0; value = p.1.1.1 }) (λ _. refl)

abbrev right_code : Coded PlainRight
right_code =
    code_by (Bytes × (List PlainPredicate × List PlainUpdate)) (coded× bytes_code (coded× (coded_list predicate_code) (coded_list update_code)))
    (λ r. (r.name, (r.preds, r.updates))) (λ p. record { name = p.0; preds = p.1.0; updates = p.1.1 }) (λ _. refl)

-- ---- policies

abbrev policy_code : Coded PlainPolicy
policy_code =
    code_by (List AttrDecl × (List EnvDecl × List PlainRight))
    (coded× (coded_list (attr_row.the_row).coded) (coded× (coded_list (env_row.the_row).coded) (coded_list right_code)))
    (λ p. (p.attrs, (p.envs, p.rights))) (λ p. record { attrs = p.0; envs = p.1.0; rights = p.1.1 }) (λ _. refl)

-- an amendment is stored as the pair of its text and its policy
abbrev pub amendment_code : Coded Amendment
amendment_code =
    code_by (Bytes × PlainPolicy) (coded× bytes_code policy_code) (λ a. (a.text, a.policy)) (λ p. record { text = p.0; policy = p.1 }) (λ _. refl)
