-- Duties, predicates, updates and rights are read as they are printed.
use Rattle.std.proofs.Common.{◌≡◌, ℕ, pos, negsuc, ◌<◌, ◌≤◌, Bool, true, false, ◌||◌, ◌&&◌, eqb, [], ◌∷◌, ◌++◌, Option, Some, None, decimal, refl, sym, subst, arith, append_assoc, ◌⊎◌, inl, inr}
use Rattle.std.specs.Prelude.{codes, nat_le, ⊤}
use Rattle.std.specs.List.{list_all}
use Rattle.std.proofs.lemmas.Bool.{and_parts, and_from, le-leb, leb-true, eqb-true, ne_eqb}
use Rattle.ucon_base.specs.NameBytes.{is_name, is_letter, is_word_byte}
use Rattle.ucon_base.specs.TextBytes.{is_text_byte}
use Rattle.ucon_base.specs.Spelling.{quoted, side_word}
use Rattle.ucon_base.specs.declared.value.Side.{Side}
use Rattle.ucon_model.specs.declared.formula.Form.{Form as DutyForm}
use Rattle.ucon_model.specs.declared.formula.Form.TheVariants as forms
use Rattle.ucon_model.specs.declared.formula.Obligation.{Obligation}
use Rattle.ucon_model.specs.declared.policy.Phase.{Phase}
use Rattle.ucon_model.specs.declared.policy.Phase.TheVariants as phases
use Rattle.ucon_model.specs.declared.policy.When.{When}
use Rattle.ucon_model.specs.declared.policy.When.TheVariants as whens
use Rattle.ucon_model.specs.Plain.{Bytes, PlainExpr, PlainTest, authorisation, duty, condition, PlainPredicate, PlainUpdate}
use Rattle.ucon_model.specs.Printing.{expr_printing, formula_printing, form_printing, party_printing, duty_printing, letter_printing, test_printing, phase_printing, predicate_printing, when_printing, update_printing}
use Rattle.ucon_base.specs.Tokens.{a_text, a_symbol, colon, semicolon, dot, equal_sign}
use Rattle.ucon_model.specs.Forms.{as_token, word, text, symbol, item, beyond, Form, nothing, one_of, before, and_then, mapped, either_of}
use Rattle.ucon_model.specs.Grammar.{SideCount, of_side, count_side, side_token, PhaseCount, of_phase, count_phase, phase_token, WhenCount, of_when, count_when, when_token, expr_of_depth}
use Rattle.ucon_model.specs.Grammar as grammar
use Rattle.ucon_print.specs.Printable.{IsName, IsDutyForm, IsParty, IsDuty, IsTest, IsPredicate, IsUpdate}
use Rattle.ucon_print.proofs.Lexing.{IsWord, IsText}
use Rattle.ucon_print.proofs.Lexing as lexing
use Rattle.ucon_print.proofs.Pieces.{Ends, Any, Puts, puts_both, Printed, not_beyond, nothing_printed, one_printed, before_printed, and_then_printed, mapped_printed, left_printed, right_printed, same_printed, depth_printed, weaker, in_row_3, in_row_4, in_row_7, in_row_8}
use Rattle.ucon_print.proofs.Literals.{AtWord, word_of_name, name_printed, name_begins, number_printed, blank_puts, colon_puts, semicolon_puts, dot_puts}
use Rattle.ucon_print.proofs.Expressions.{in_places, whole}
use Rattle.ucon_print.proofs.Formulas.{framed_word, formula_printed}
use Rattle.ucon_print.proofs.Lexing.{Lexes, nothing_left}
use Rattle.ucon_print.proofs.Declarations.{word_blank, indented, blank_behind, closing, framed_equal, side_puts, word_a, word_b, word_c, by_word, on_word, pre_word, done_word, within_word, every_word, before_word, during_word, after_end_word, after_revoke_word}

-- ---- names as texts

or_true : (p q r : Bool) → (p || q || r) ≡ true → (p ≡ true) ⊎ ((q ≡ true) ⊎ (r ≡ true))
or_true true q r e = inl refl
or_true false true r e = inr (inl refl)
or_true false false true e = inr (inr refl)
or_true false false false e = absurd cc

from_bounds : (b : ℕ) → 48 ≤ b → b ≤ 126 → is_text_byte b ≡ true
from_bounds b low high =
    let first = le-leb 32 b (omega arith) in
    let last = le-leb b 126 high in
    let other = ne_eqb b 34 (λ e. omega arith) in
    rw (first, last, other) refl

text_byte : (b : ℕ) → is_word_byte b ≡ true → is_text_byte b ≡ true
text_byte b is = by_kind (or_true (is_letter b) (nat_le 48 b && nat_le b 57) (eqb b 95) is)
  where
    by_kind : (is_letter b ≡ true) ⊎ (((nat_le 48 b && nat_le b 57) ≡ true) ⊎ (eqb b 95 ≡ true)) → is_text_byte b ≡ true
    by_kind (inl letter) =
        let parts = and_parts (nat_le 97 b) (nat_le b 122) letter in
        let low = leb-true 97 b parts.0 in let high = leb-true b 122 parts.1 in
        from_bounds b (omega arith) (omega arith)
    by_kind (inr (inl digit)) =
        let parts = and_parts (nat_le 48 b) (nat_le b 57) digit in
        let low = leb-true 48 b parts.0 in let high = leb-true b 57 parts.1 in
        from_bounds b (omega arith) (omega arith)
    by_kind (inr (inr line)) = let same = eqb-true b 95 line in from_bounds b (omega arith) (omega arith)

text_bytes : (bs : Bytes) → list_all is_word_byte bs ≡ true → list_all is_text_byte bs ≡ true
text_bytes [] all = refl
text_bytes (b ∷ bs) all =
    let parts = and_parts (is_word_byte b) (list_all is_word_byte bs) all in
    and_from (is_text_byte b) (list_all is_text_byte bs) (text_byte b parts.0) (text_bytes bs parts.1)

name_text_puts : (name : Bytes) → IsName name → Puts Any (quoted name) (a_text name ∷ [])
name_text_puts name named =
    let is = word_of_name name named in
    let good : IsText name = record { bytes = text_bytes name is.bytes; short = omega (arith, is.short) } in
    record { lexes = λ rest more e l. lexing.text name rest more good l }

-- ---- duties

abbrev with_party : Bytes → Form (Option Bytes)
with_party w = before (grammar.keyword w) (mapped (λ t. Some t) grammar.a_named_text)

party_printed : (w : Bytes) → IsWord w → (o : Option Bytes) → IsParty o → Printed Ends (grammar.a_party w) o (party_printing (32 ∷ (w ++ 32 ∷ [])) o)
party_printed w is None named = right_printed Ends (with_party w) (nothing None) None [] (nothing_printed Ends None)
party_printed w is (Some name) named =
    let framed = 32 ∷ (w ++ 32 ∷ []) in
    left_printed Ends (with_party w) (nothing None) (Some name) (framed ++ quoted name)
    (before_printed Ends Any (word w) None (mapped (λ t. Some t) grammar.a_named_text) (Some name) framed (quoted name) refl (framed_word w is)
    (mapped_printed Ends (λ t. Some t) grammar.a_named_text name (quoted name)
    (weaker Any Ends grammar.a_named_text name (quoted name) (one_printed Any text (λ t. None) (λ t. is_name t ≡ true) name (quoted name) (name_text_puts name named) refl named) (λ rest e. tt)))
    (λ rest e. tt))

party_ends : (w : Bytes) (o : Option Bytes) (rest : Bytes) → Ends rest → Ends (party_printing (32 ∷ w) o ++ rest)
party_ends w None rest e = e
party_ends w (Some name) rest e = refl

abbrev done_form : Form DutyForm
done_form = before (grammar.keyword (codes "done")) (nothing forms.Done)

abbrev within_form : Form DutyForm
within_form = before (grammar.keyword (codes "within")) (mapped (λ n. forms.Within n) grammar.a_number)

abbrev every_form : Form DutyForm
every_form = before (grammar.keyword (codes "every")) (mapped (λ n. forms.Every n) grammar.a_number)

form_printed : (f : DutyForm) → IsDutyForm f → Printed Any grammar.a_duty_form f (form_printing f)
form_printed forms.Done is =
    left_printed Any done_form (either_of within_form every_form) forms.Done (codes "done ")
    (before_printed Any Any (word (codes "done")) None (nothing forms.Done) forms.Done (codes "done ") [] refl (word_blank (codes "done") done_word) (nothing_printed Any forms.Done) (λ rest e. tt))
form_printed (forms.Within (negsuc n)) is = absurd is
form_printed (forms.Within (pos n)) is =
    let f = forms.Within (pos n) in let bs = decimal n ++ codes " " in
    right_printed Any done_form (either_of within_form every_form) f (form_printing f)
    (left_printed Any within_form every_form f (form_printing f)
    (same_printed Any within_form f (codes "within " ++ bs) (form_printing f) (in_row_3 (codes "within ") (decimal n) (codes " "))
    (before_printed Any Any (word (codes "within")) None (mapped (λ n. forms.Within n) grammar.a_number) f (codes "within ") bs refl (word_blank (codes "within") within_word)
    (blank_behind (mapped (λ n. forms.Within n) grammar.a_number) f (decimal n) (mapped_printed Ends (λ n. forms.Within n) grammar.a_number (pos n) (decimal n) (number_printed n is)))
    (λ rest e. tt))))
form_printed (forms.Every (negsuc n)) is = absurd is
form_printed (forms.Every (pos n)) is =
    let f = forms.Every (pos n) in let bs = decimal n ++ codes " " in
    right_printed Any done_form (either_of within_form every_form) f (form_printing f)
    (right_printed Any within_form every_form f (form_printing f)
    (same_printed Any every_form f (codes "every " ++ bs) (form_printing f) (in_row_3 (codes "every ") (decimal n) (codes " "))
    (before_printed Any Any (word (codes "every")) None (mapped (λ n. forms.Every n) grammar.a_number) f (codes "every ") bs refl (word_blank (codes "every") every_word)
    (blank_behind (mapped (λ n. forms.Every n) grammar.a_number) f (decimal n) (mapped_printed Ends (λ n. forms.Every n) grammar.a_number (pos n) (decimal n) (number_printed n is)))
    (λ rest e. tt))))

abbrev duty_made : DutyForm → Bytes → Option Bytes → Option Bytes → Obligation
duty_made form action by on = record { form = form; action = action; by_subject = by; on_object = on }

abbrev behind_by : DutyForm → Bytes → Option Bytes → Form Obligation
behind_by form action by = mapped (λ on. duty_made form action by on) (grammar.a_party (codes "on"))

abbrev behind_action : DutyForm → Bytes → Form Obligation
behind_action form action = and_then (grammar.a_party (codes "by")) (behind_by form action)

abbrev behind_form : DutyForm → Form Obligation
behind_form form = and_then grammar.a_name (behind_action form)

duty_printed : (o : Obligation) → IsDuty o → Printed Ends grammar.a_duty o (duty_printing o)
duty_printed o is =
    let by = party_printing (codes " by ") o.by_subject in
    let on = party_printing (codes " on ") o.on_object in
    same_printed Ends grammar.a_duty o (form_printing o.form ++ (o.action ++ (by ++ on))) (duty_printing o) (in_row_4 (form_printing o.form) o.action by on)
    (and_then_printed Ends Any grammar.a_duty_form behind_form o.form o (form_printing o.form) (o.action ++ (by ++ on)) (form_printed o.form is.form)
    (and_then_printed Ends Ends grammar.a_name (behind_action o.form) o.action o o.action (by ++ on) (name_printed o.action is.action)
    (and_then_printed Ends Ends (grammar.a_party (codes "by")) (behind_by o.form o.action) o.by_subject o by on (party_printed (codes "by") by_word o.by_subject is.by_subject)
    (mapped_printed Ends (λ on. duty_made o.form o.action o.by_subject on) (grammar.a_party (codes "on")) o.on_object on (party_printed (codes "on") on_word o.on_object is.on_object))
    (λ rest e. party_ends (codes "on ") o.on_object rest e))
    (λ rest e. subst Ends (sym (append_assoc by on rest)) (party_ends (codes "by ") o.by_subject (on ++ rest) (party_ends (codes "on ") o.on_object rest e))))
    (λ rest e. tt))

-- ---- predicates

abbrev behind_test : Phase → Bytes → PlainTest → Form PlainPredicate
behind_test phase label test = before (grammar.sign semicolon) (nothing (record { phase = phase; label = label; test = test }))

abbrev behind_label : Phase → Form PlainTest → Bytes → Form PlainPredicate
behind_label phase T label = before (grammar.sign colon) (and_then T (behind_test phase label))

colon_blank : Puts Any (codes ": ") (a_symbol colon ∷ [])
colon_blank = puts_both Any Any (58 ∷ []) (32 ∷ []) (a_symbol colon ∷ []) [] colon_puts blank_puts (λ rest e. tt)

abbrev predicate_made : Phase → Bytes → PlainTest → PlainPredicate
predicate_made phase label test = record { phase = phase; label = label; test = test }

abbrev label_printing : Bytes → Bytes → Bytes
label_printing label bs = label ++ (codes ": " ++ (bs ++ (59 ∷ 10 ∷ [])))

labelled_printed : (phase : Phase) (T : Form PlainTest) (label : Bytes) (test : PlainTest) (bs : Bytes) → IsName label → Printed Ends T test bs → Printed Any (grammar.labelled phase T) (predicate_made phase label test) (label_printing label bs)
labelled_printed phase T label test bs named p =
    let x = predicate_made phase label test in
    let tail = bs ++ (59 ∷ 10 ∷ []) in
    and_then_printed Any Ends grammar.a_name (behind_label phase T) label x label (codes ": " ++ tail) (name_printed label named)
    (before_printed Any Any (symbol colon) None (and_then T (behind_test phase label)) x (codes ": ") tail refl colon_blank
    (and_then_printed Any Ends T (behind_test phase label) test x bs (59 ∷ 10 ∷ []) p (closing semicolon 59 semicolon_puts x) (λ rest e. refl))
    (λ rest e. tt))
    (λ rest e. refl)

abbrev authorisations : Form PlainTest
authorisations = mapped (λ f. authorisation f) grammar.a_formula

abbrev duties : Form PlainTest
duties = mapped (λ o. duty o) grammar.a_duty

abbrev conditions : Form PlainTest
conditions = mapped (λ f. condition f) grammar.a_formula

abbrev of_a : Phase → Form PlainPredicate
of_a phase = before (grammar.keyword (codes "a")) (grammar.labelled phase authorisations)

abbrev of_b : Phase → Form PlainPredicate
of_b phase = before (grammar.keyword (codes "b")) (grammar.labelled phase duties)

abbrev of_c : Phase → Form PlainPredicate
of_c phase = before (grammar.keyword (codes "c")) (grammar.labelled phase conditions)

abbrev behind_phase : Phase → Form PlainPredicate
behind_phase phase = either_of (of_a phase) (either_of (of_b phase) (of_c phase))

test_printed : (phase : Phase) (label : Bytes) (test : PlainTest) → IsName label → IsTest test → Printed Any (behind_phase phase) (predicate_made phase label test) (letter_printing test ++ label_printing label (test_printing test))
test_printed phase label (authorisation f) named is =
    let x = predicate_made phase label (authorisation f) in
    let bs = label_printing label (formula_printing 0 f) in
    left_printed Any (of_a phase) (either_of (of_b phase) (of_c phase)) x (codes "a " ++ bs)
    (before_printed Any Any (word (codes "a")) None (grammar.labelled phase authorisations) x (codes "a ") bs refl (word_blank (codes "a") word_a)
    (labelled_printed phase authorisations label (authorisation f) (formula_printing 0 f) named (mapped_printed Ends (λ f. authorisation f) grammar.a_formula f (formula_printing 0 f) (formula_printed f is.0 is.1)))
    (λ rest e. tt))
test_printed phase label (duty o) named is =
    let x = predicate_made phase label (duty o) in
    let bs = label_printing label (duty_printing o) in
    right_printed Any (of_a phase) (either_of (of_b phase) (of_c phase)) x (codes "b " ++ bs)
    (left_printed Any (of_b phase) (of_c phase) x (codes "b " ++ bs)
    (before_printed Any Any (word (codes "b")) None (grammar.labelled phase duties) x (codes "b ") bs refl (word_blank (codes "b") word_b)
    (labelled_printed phase duties label (duty o) (duty_printing o) named (mapped_printed Ends (λ o. duty o) grammar.a_duty o (duty_printing o) (duty_printed o is)))
    (λ rest e. tt)))
test_printed phase label (condition f) named is =
    let x = predicate_made phase label (condition f) in
    let bs = label_printing label (formula_printing 0 f) in
    right_printed Any (of_a phase) (either_of (of_b phase) (of_c phase)) x (codes "c " ++ bs)
    (right_printed Any (of_b phase) (of_c phase) x (codes "c " ++ bs)
    (before_printed Any Any (word (codes "c")) None (grammar.labelled phase conditions) x (codes "c ") bs refl (word_blank (codes "c") word_c)
    (labelled_printed phase conditions label (condition f) (formula_printing 0 f) named (mapped_printed Ends (λ f. condition f) grammar.a_formula f (formula_printing 0 f) (formula_printed f is.0 is.1)))
    (λ rest e. tt)))

phase_puts : (p : Phase) → Puts Any (phase_printing p) (as_token (phase_token p) ∷ [])
phase_puts phases.Pre = indented (codes "pre") pre_word
phase_puts phases.Ongoing = indented (codes "on") on_word

pub predicate_printed : (n : PhaseCount) (p : PlainPredicate) → of_phase n p.phase < 16 → IsPredicate p → Printed Any (grammar.a_pred n) p (predicate_printing p)
predicate_printed n p less is =
    let bs = letter_printing p.test ++ label_printing p.label (test_printing p.test) in
    same_printed Any (grammar.a_pred n) p (phase_printing p.phase ++ bs) (predicate_printing p) (in_row_7 (phase_printing p.phase) (letter_printing p.test) p.label (codes ": ") (test_printing p.test) (codes ";") (10 ∷ []))
    (and_then_printed Any Any (one_of phase_token (λ phase. beyond item 16 (of_phase n phase)) (λ phase. ⊤)) behind_phase p.phase p (phase_printing p.phase) bs
    (one_printed Any phase_token (λ phase. beyond item 16 (of_phase n phase)) (λ phase. ⊤) p.phase (phase_printing p.phase) (phase_puts p.phase) (not_beyond item 16 (of_phase n p.phase) less) tt)
    (test_printed p.phase p.label p.test is.label is.test)
    (λ rest e. tt))

-- ---- updates

when_puts : (w : When) → Puts Any (when_printing w) (as_token (when_token w) ∷ [])
when_puts whens.Before = indented (codes "before") before_word
when_puts whens.During = indented (codes "during") during_word
when_puts whens.AfterEnd = indented (codes "after_end") after_end_word
when_puts whens.AfterRevoke = indented (codes "after_revoke") after_revoke_word

abbrev update_made : When → Side → Bytes → PlainExpr → PlainUpdate
update_made when side attr value = record { when = when; side = side; attr = attr; value = value }

abbrev behind_value : When → Side → Bytes → PlainExpr → Form PlainUpdate
behind_value when side attr value = before (grammar.sign semicolon) (nothing (update_made when side attr value))

abbrev behind_attr : When → Side → Bytes → Form PlainUpdate
behind_attr when side attr = before (grammar.sign equal_sign) (and_then grammar.an_expr (behind_value when side attr))

abbrev behind_side : When → Side → Form PlainUpdate
behind_side when side = before (grammar.sign dot) (and_then grammar.a_name (behind_attr when side))

abbrev behind_when : When → Form PlainUpdate
behind_when when = and_then grammar.a_side (behind_side when)

pub update_printed : (n : WhenCount) (u : PlainUpdate) → of_when n u.when < 16 → IsUpdate u → Printed Any (grammar.an_update n) u (update_printing u)
update_printed n u less is =
    let value = expr_printing 0 u.value in
    let behind_name = codes " = " ++ (value ++ (59 ∷ 10 ∷ [])) in
    let behind = codes "." ++ (u.attr ++ behind_name) in
    same_printed Any (grammar.an_update n) u (when_printing u.when ++ (side_word u.side ++ behind)) (update_printing u) (in_row_8 (when_printing u.when) (side_word u.side) (codes ".") u.attr (codes " = ") value (codes ";") (10 ∷ []))
    (and_then_printed Any Any (one_of when_token (λ when. beyond item 16 (of_when n when)) (λ when. ⊤)) behind_when u.when u (when_printing u.when) (side_word u.side ++ behind)
    (one_printed Any when_token (λ when. beyond item 16 (of_when n when)) (λ when. ⊤) u.when (when_printing u.when) (when_puts u.when) (not_beyond item 16 (of_when n u.when) less) tt)
    (and_then_printed Any Ends grammar.a_side (behind_side u.when) u.side u (side_word u.side) behind
    (one_printed Ends side_token (λ side. None) (λ side. ⊤) u.side (side_word u.side) (side_puts u.side) refl tt)
    (before_printed Any AtWord (symbol dot) None (and_then grammar.a_name (behind_attr u.when u.side)) u (codes ".") (u.attr ++ behind_name) refl dot_puts
    (and_then_printed Any Ends grammar.a_name (behind_attr u.when u.side) u.attr u u.attr behind_name (name_printed u.attr is.attr)
    (before_printed Any Any (symbol equal_sign) None (and_then grammar.an_expr (behind_value u.when u.side u.attr)) u (codes " = ") (value ++ (59 ∷ 10 ∷ [])) refl framed_equal
    (and_then_printed Any Ends grammar.an_expr (behind_value u.when u.side u.attr) u.value u value (59 ∷ 10 ∷ [])
    (depth_printed Ends (λ depth. expr_of_depth depth 32) 32 u.value value (whole u.value (in_places u.value is.value) 32 32 is.levels is.levels))
    (closing semicolon 59 semicolon_puts u)
    (λ rest e. refl))
    (λ rest e. tt))
    (λ rest e. refl))
    (λ rest e. subst AtWord (sym (append_assoc u.attr behind_name rest)) (name_begins u.attr (behind_name ++ rest) is.attr)))
    (λ rest e. refl))
    (λ rest e. tt))
