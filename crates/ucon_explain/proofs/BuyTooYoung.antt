-- A try that is denied by its second predicate: every predicate before the usage has its line, and the verdict is by the first condition or
-- authorisation that is false.
use Rattle.std.proofs.Common.{◌≡◌, [], ◌∷◌, ◌++◌, false, refl}
use Rattle.std.specs.Prelude.{ℕ, pos, codes, Some, None}
use Rattle.ucon_base.specs.declared.value.Side.TheVariants.{Subject}
use Rattle.ucon_base.specs.declared.value.Kind.TheVariants as kinds
use Rattle.ucon_base.specs.declared.value.Value.TheVariants as values
use Rattle.ucon_model.specs.declared.formula.Form.TheVariants.{Done}
use Rattle.ucon_model.specs.declared.formula.Op.TheVariants.{Ge}
use Rattle.ucon_model.specs.declared.formula.Ref.TheVariants as refs
use Rattle.ucon_model.specs.declared.policy.Phase.TheVariants.{Pre}
use Rattle.ucon_model.specs.declared.reply.Refusal.TheVariants.{NoSubject}
use Rattle.ucon_model.specs.declared.session.Verdict.TheVariants.{Deny}
use Rattle.ucon_model.specs.Action.{Trace, object, subject}
use Rattle.ucon_model.specs.Plain.{Bytes, PlainPolicy, PlainExpr, lit, read, compare, authorisation, duty, condition}
use Rattle.ucon_accept.specs.declared.explanation.Fact.TheVariants as facts
use Rattle.ucon_accept.specs.declared.explanation.Factor.TheVariants.{Authorisation, Obligation, Condition}
use Rattle.ucon_accept.specs.Explanation.{PlainExplanation}
use Rattle.ucon_explain.specs.Text.{explanation_spelling}
use Rattle.ucon_accept.specs.Trying.{explanation, try_refusal}

abbrev int : ℕ → PlainExpr
int n = lit (values.Int (pos n))

-- `attr s age : int 0..150 = 0; env hour : int 0..23 = 9;
-- right buy { pre b sign: done sign_up; pre c late: env.hour >= 10; pre a adult: s.age >= 18; }`
abbrev purchase : PlainPolicy
purchase = record {
  attrs = record { side = Subject; name = codes "age"; kind = kinds.Int (pos 0) (pos 150); start = values.Int (pos 0) } ∷ [];
  envs = record { name = codes "hour"; kind = kinds.Int (pos 0) (pos 23); start = values.Int (pos 9) } ∷ [];
  rights = record {
    name = codes "buy";
    preds = record { phase = Pre; label = codes "sign"; test = duty (record { form = Done; action = codes "sign_up"; by_subject = None; on_object = None }) }
        ∷ record { phase = Pre; label = codes "late"; test = condition (compare Ge (read (refs.Env (codes "hour"))) (int 10)) }
        ∷ record { phase = Pre; label = codes "adult"; test = authorisation (compare Ge (read (refs.Subject (codes "age"))) (int 18)) } ∷ [];
    updates = [];
  } ∷ [];
}

abbrev shop : Trace
shop = object (codes "x") ∷ subject (codes "a") ∷ []

abbrev why_not : PlainExplanation
why_not = record {
  subject = codes "a";
  right = codes "buy";
  object = codes "x";
  whys = record { pred = 0; label = codes "sign"; factor = Obligation; truth = false; reads = facts.Moment (codes "a") (codes "sign_up") (codes "x") None ∷ [] }
      ∷ record { pred = 1; label = codes "late"; factor = Condition; truth = false; reads = facts.Value (refs.Env (codes "hour")) (values.Int (pos 9)) ∷ [] }
      ∷ record { pred = 2; label = codes "adult"; factor = Authorisation; truth = false; reads = facts.Value (refs.Subject (codes "age")) (values.Int (pos 0)) ∷ [] } ∷ [];
  verdict = Deny (codes "late");
}

denied_by_the_hour : explanation purchase shop (codes "a") (codes "buy") (codes "x") ≡ why_not
denied_by_the_hour = refl

nobody_is_refused : try_refusal purchase shop (codes "a") (codes "buy") (codes "x") ≡ None
nobody_is_refused = refl

nobody_of_that_name : try_refusal purchase shop (codes "b") (codes "buy") (codes "x") ≡ Some NoSubject
nobody_of_that_name = refl

abbrev line : Bytes → Bytes
line words = words ++ 10 ∷ []

-- the first line alone with the verdict, as it is printed; numbers are left to a test
abbrev unsigned : PlainExplanation
unsigned = record why_not {
  whys = record { pred = 0; label = codes "sign"; factor = Obligation; truth = false; reads = facts.Moment (codes "a") (codes "sign_up") (codes "x") None ∷ [] } ∷ [];
}

printed : explanation_spelling unsigned
    ≡ line (codes "pre sign b false") ++ (line (codes "  act a sign_up x never") ++ line (codes "verdict deny late"))
printed = refl
