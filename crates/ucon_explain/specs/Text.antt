-- How an explanation is printed, and what is printed of a try.
use Rattle.std.specs.Prelude.{ℤ, Bool, true, false, List, [], ◌∷◌, ◌++◌, Option, Some, None, codes}
use Rattle.std.specs.Option.{option_map_or}
use Rattle.std.specs.Fmt.{signed_decimal}
use Rattle.ucon_base.specs.Spelling.{value_spelling}
use Rattle.ucon_model.specs.declared.formula.Ref.{Ref}
use Rattle.ucon_model.specs.declared.formula.Ref.TheVariants.{Subject, Object, Env}
use Rattle.ucon_model.specs.declared.session.Verdict.{Verdict}
use Rattle.ucon_model.specs.declared.session.Verdict.TheVariants.{Permit, Deny, Wait}
use Rattle.ucon_model.specs.declared.reply.Refusal.{Refusal}
use Rattle.ucon_model.specs.Action.{Trace}
use Rattle.ucon_model.specs.Plain.{Bytes, PlainPolicy}
use Rattle.ucon_model.specs.Spelling.{refusal_words}
use Rattle.ucon_accept.specs.Trying.{explanation, try_refusal}
use Rattle.ucon_accept.specs.declared.explanation.Fact.{Fact}
use Rattle.ucon_accept.specs.declared.explanation.Fact.TheVariants.{Value, Moment, Tick}
use Rattle.ucon_accept.specs.declared.explanation.Factor.{Factor}
use Rattle.ucon_accept.specs.declared.explanation.Factor.TheVariants.{Authorisation, Obligation, Condition}
use Rattle.ucon_accept.specs.Explanation.{PlainExplanation, PlainWhy}

-- ---- words

-- what a predicate decides by, as a policy writes it
abbrev pub factor_word : Factor → Bytes
factor_word Authorisation = codes "a"
factor_word Obligation = codes "b"
factor_word Condition = codes "c"

abbrev pub truth_word : Bool → Bytes
truth_word true = codes "true"
truth_word false = codes "false"

-- a place, as a policy writes it
abbrev pub place_spelling : Ref → Bytes
place_spelling (Subject attr) = codes "s." ++ attr
place_spelling (Object attr) = codes "o." ++ attr
place_spelling (Env name) = codes "env." ++ name

-- the tick at which an act was last done, or `never`
abbrev pub moment_spelling : Option ℤ → Bytes
moment_spelling None = codes "never"
moment_spelling (Some m) = signed_decimal m

-- ---- lines; each ends with a newline

-- `read PLACE VALUE`, `act SUBJECT ACTION OBJECT MOMENT` or `tick T`
abbrev pub fact_spelling : Fact → Bytes
fact_spelling (Value place v) = codes "  read " ++ place_spelling place ++ 32 ∷ value_spelling v ++ 10 ∷ []
fact_spelling (Moment s a o m) = codes "  act " ++ s ++ 32 ∷ a ++ 32 ∷ o ++ 32 ∷ moment_spelling m ++ 10 ∷ []
fact_spelling (Tick t) = codes "  tick " ++ signed_decimal t ++ 10 ∷ []

abbrev pub facts_spelling : List Fact → Bytes
facts_spelling [] = []
facts_spelling (f ∷ fs) = fact_spelling f ++ facts_spelling fs

-- `pre LABEL KIND TRUTH`, and the facts below it
abbrev pub why_spelling : PlainWhy → Bytes
why_spelling w = codes "pre " ++ w.label ++ 32 ∷ factor_word w.factor ++ 32 ∷ truth_word w.truth ++ 10 ∷ facts_spelling w.reads

abbrev pub whys_spelling : List PlainWhy → Bytes
whys_spelling [] = []
whys_spelling (w ∷ ws) = why_spelling w ++ whys_spelling ws

abbrev pub verdict_spelling : Verdict → Bytes
verdict_spelling Permit = codes "verdict permit" ++ 10 ∷ []
verdict_spelling (Deny label) = codes "verdict deny " ++ label ++ 10 ∷ []
verdict_spelling (Wait label) = codes "verdict wait " ++ label ++ 10 ∷ []

-- the lines on the predicates, and the verdict
abbrev pub explanation_spelling : PlainExplanation → Bytes
explanation_spelling e = whys_spelling e.whys ++ verdict_spelling e.verdict

-- ---- of a try

-- a refusal's words as a line
abbrev pub refusal_line : Refusal → Bytes
refusal_line x = refusal_words x ++ 10 ∷ []

-- what is printed of a try after a trace: the line of its refusal, or if it isn't refused its explanation
abbrev pub try_spelling : PlainPolicy → Trace → Bytes → Bytes → Bytes → Bytes
try_spelling P T s r o = option_map_or refusal_line (try_refusal P T s r o) (explanation_spelling (explanation P T s r o))
