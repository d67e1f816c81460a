-- What an explanation says, over what can be read of a session.
use Rattle.std.specs.Prelude.{ℕ, ◌+◌, Bool, List, [], ◌∷◌, map, if◌then◌else◌}
use Rattle.std.specs.Option.{option_map_or}
use Rattle.ucon_model.specs.declared.session.SessionRow.{SessionRow}
use Rattle.ucon_model.specs.declared.session.Verdict.{Verdict}
use Rattle.ucon_model.specs.Decision.{ongoing, right_named, verdict}
use Rattle.ucon_model.specs.Plain.{Bytes, PlainTest, authorisation, duty, condition, PlainPredicate, PlainPolicy}
use Rattle.ucon_model.specs.Truth.{Readings, truth}
use Rattle.ucon_accept.specs.declared.explanation.Explanation.{Explanation}
use Rattle.ucon_accept.specs.declared.explanation.Fact.{Fact}
use Rattle.ucon_accept.specs.declared.explanation.Factor.{Factor}
use Rattle.ucon_accept.specs.declared.explanation.Factor.TheVariants.{Authorisation, Obligation, Condition}
use Rattle.ucon_accept.specs.declared.explanation.Why.{Why}
use Rattle.ucon_accept.specs.Facts.{test_facts}

-- ---- explanations without the room that their rows have left

-- a line: a predicate by its number among all of its right, its label, what it decides by, its truth, and the facts that it reads
pub record PlainWhy : Type 0 where
  pub pred : ℕ
  pub label : Bytes
  pub factor : Factor
  pub truth : Bool
  pub reads : List Fact

-- a try of a right by a subject on an object, a line for each predicate before the usage, and the verdict
pub record PlainExplanation : Type 0 where
  pub subject : Bytes
  pub right : Bytes
  pub object : Bytes
  pub whys : List PlainWhy
  pub verdict : Verdict

abbrev pub why_of : Why → PlainWhy
why_of w = record { pred = w.pred; label = w.label; factor = w.factor; truth = w.truth; reads = w.reads.items }

abbrev pub explanation_of : Explanation → PlainExplanation
explanation_of e = record { subject = e.subject; right = e.right; object = e.object; whys = map why_of e.whys.items; verdict = e.verdict }

-- ---- what there is to say

-- what a test decides by
abbrev pub factor_of : PlainTest → Factor
factor_of (authorisation f) = Authorisation
factor_of (duty o) = Obligation
factor_of (condition f) = Condition

-- the line on the predicate with this number
abbrev pub line : Readings → SessionRow → ℕ → PlainPredicate → PlainWhy
line R row i p = record {
  pred = i;
  label = p.label;
  factor = factor_of p.test;
  truth = truth R row p.test;
  reads = test_facts R row p.test;
}

-- the lines on those of these predicates that are before the usage; the first has this number
abbrev pub lines_from : Readings → SessionRow → ℕ → List PlainPredicate → List PlainWhy
lines_from R row i [] = []
lines_from R row i (p ∷ ps) = if ongoing p then lines_from R row (i + 1) ps else line R row i p ∷ lines_from R row (i + 1) ps

-- the lines on a session's right
abbrev pub lines : PlainPolicy → Readings → SessionRow → List PlainWhy
lines P R row = option_map_or (λ right. lines_from R row 0 right.preds) (right_named P.rights row.right) []

-- the explanation of session n, whose row this is
abbrev pub explained : PlainPolicy → Readings → ℕ → SessionRow → PlainExplanation
explained P R n row = record {
  subject = row.subject;
  right = row.right;
  object = row.object;
  whys = lines P R row;
  verdict = verdict P R n;
}
