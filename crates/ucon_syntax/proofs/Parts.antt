-- Attributes, variables, predicates and updates keep to their forms.
use Rattle.std.specs.Prelude.{⊤}
use Rattle.std.proofs.Common.{◌≡◌, Bool, true, false, cond, inl, inr, List, [], drop, Some, None, Result, Ok, Err, codes, refl}
use Rattle.ucon_base.specs.declared.value.Side.{Side}
use Rattle.ucon_base.specs.declared.value.Kind.TheVariants as kinds
use Rattle.ucon_model.specs.declared.formula.Form.TheVariants as forms
use Rattle.ucon_model.specs.declared.policy.AttrDecl.{AttrDecl}
use Rattle.ucon_model.specs.declared.policy.EnvDecl.{EnvDecl}
use Rattle.ucon_model.specs.declared.policy.Phase.{Phase}
use Rattle.ucon_model.specs.declared.policy.When.{When}
use Rattle.ucon_model.specs.Plain.{Bytes, PlainTest, authorisation, duty, condition, PlainPredicate, PlainUpdate}
use Rattle.ucon_base.specs.Tokens.{Token, a_symbol, colon, semicolon, dot, dots, equal_sign}
use Rattle.ucon_model.specs.Forms.{item, beyond, Form, nothing, one_of, before, and_then, mapped, either_of}
use Rattle.ucon_model.specs.Grammar.{keyword, sign, a_name, a_number, an_int, a_literal, an_expr, a_formula, a_kind, side_token, SideCount, of_side, count_side, an_attr, a_party, a_duty_form, a_duty, phase_token, PhaseCount, of_phase, count_phase, labelled, a_pred, when_token, WhenCount, of_when, count_when, a_side, an_update}
use Rattle.ucon_token.specs.declared.stop.Cause.TheVariants.{Unexpected}
use Rattle.ucon_token.specs.Tokens.{first, is_word}
use Rattle.ucon_token.specs.Reading.{Halt, Reads, ◌>>=◌, expect, taken, name_at, number_at}
use Rattle.ucon_syntax.specs.declared.room.Room.{Room}
use Rattle.ucon_syntax.specs.declared.starts.KindWord.TheVariants as kind_words
use Rattle.ucon_syntax.specs.declared.starts.TestSort.{TestSort}
use Rattle.ucon_syntax.specs.declared.starts.TestSort.TheVariants as sorts
use Rattle.ucon_syntax.specs.declared.starts.DutyWord.TheVariants as duties
use Rattle.ucon_syntax.specs.Starts.{side_of, phase_of, when_of, kind_word, test_sort, duty_word, name_in}
use Rattle.ucon_token.specs.Literals.{literal_at}
use Rattle.ucon_syntax.specs.Expressions.{expr_at}
use Rattle.ucon_syntax.specs.Items.{side_number, phase_number, when_number, take, range_at, kind_from, kind_at, attr_at, env_at, form_from, form_at, some_name, party_at, duty_at, test_from, pred_at, update_at}
use Rattle.ucon_syntax.proofs.Keeping.{Meets, Example}
use Rattle.ucon_syntax.proofs.Local.{Runs, andthen, takes}
use Rattle.ucon_syntax.proofs.Sound.{Sound, Anything, sound_retree, sound_same, sound_ending, sound_nothing, sound_mapped, sound_meeting, sound_then, sound_before, sound_either}
use Rattle.ucon_syntax.proofs.Words.{symbol_tests, word_tests, sound_name, sound_number, sound_named_text}
use Rattle.ucon_syntax.proofs.Values.{when_taken, sound_int, sound_literal}
use Rattle.ucon_syntax.proofs.Factors.{sound_expr}
use Rattle.ucon_syntax.proofs.Units.{sound_formula, semicolon_ends}
use Rattle.ucon_syntax.proofs.Rooms.{side_room, phase_room, when_room, sound_side, sound_counted_side, sound_counted_phase, sound_counted_when, counted_runs}

abbrev took : Bool → List Token → Result (List Token) Halt
took b ts = cond b (Ok (drop 1 ts)) (Err (Unexpected, ts))

-- ---- kinds

kind_split : (a b c : Bool) (ts : List Token) → kind_from (cond a (Some kind_words.Int) (cond b (Some kind_words.Text) (cond c (Some kind_words.Set) None))) ts ≡ cond a (took a ts >>= range_at) (cond b (took b ts >>= λ r. Ok (kinds.Text, r)) (took c ts >>= λ r. Ok (kinds.Set, r)))
kind_split true b c ts = refl
kind_split false true c ts = refl
kind_split false false true ts = refl
kind_split false false false ts = refl

sound_range : {P : Type 0} → Sound P (and_then (an_int) (λ low. before (sign dots) (mapped (λ high. kinds.Int low high) an_int))) Anything range_at
unfolding range_at
sound_range = sound_then sound_int (λ low. sound_before (symbol_tests dots) (sound_mapped (λ high. kinds.Int low high) sound_int))

others_than_int : (s : (either_of (before (keyword (codes "text")) (nothing kinds.Text)) (before (keyword (codes "set")) (nothing kinds.Set))).Written) → Meets (λ t. is_word t (codes "int") ≡ false) ((either_of (before (keyword (codes "text")) (nothing kinds.Text)) (before (keyword (codes "set")) (nothing kinds.Set))).tokens s) Anything
unfolding is_word
others_than_int (inl s) = refl
others_than_int (inr s) = refl

sound_kind : {P : Type 0} → Sound P a_kind Anything kind_at
unfolding kind_at kind_word is_word
sound_kind =
    sound_same kind_at (λ ts. kind_split (is_word (first ts) (codes "int")) (is_word (first ts) (codes "text")) (is_word (first ts) (codes "set")) ts)
    (sound_either (λ t. is_word t (codes "int")) (λ s proper. refl) (λ s proper. others_than_int s) (sound_before (word_tests (codes "int")) sound_range)
    (sound_either (λ t. is_word t (codes "text")) (λ s proper. refl) (λ s proper. refl) (sound_before (word_tests (codes "text")) (sound_nothing kinds.Text)) (sound_before (word_tests (codes "set")) (sound_nothing kinds.Set))))

-- ---- attributes and variables

abbrev attr_rest : Side × Room → Form (AttrDecl × Room)
attr_rest side =
    and_then a_name (λ name. before (sign colon) (and_then a_kind (λ kind. before (sign equal_sign) (and_then a_literal (λ start.
    before (sign semicolon) (nothing (record { side = side.0; name = name; kind = kind; start = start }, side.1)))))))

attr_behind : {P : Type 0} (side : Side × Room) → Sound P (attr_rest side) Anything (λ ts. name_at ts >>= λ name. expect colon name.1 >>= λ b. kind_at b >>= λ kind. expect equal_sign kind.1 >>= λ c. literal_at c >>= λ start. expect semicolon start.1 >>= λ d. Ok ((record { side = side.0; name = name.0; kind = kind.0; start = start.0 }, side.1), d))
attr_behind side =
    sound_then sound_name (λ name. sound_before (symbol_tests colon)
    (sound_then sound_kind (λ kind. sound_before (symbol_tests equal_sign) (sound_then sound_literal (λ start. sound_before (symbol_tests semicolon)
    (sound_nothing (record { side = side.0; name = name; kind = kind; start = start }, side.1)))))))

-- what stands behind the word for its side
abbrev pub attr_tail : Side → Form AttrDecl
attr_tail side =
    and_then a_name (λ name. before (sign colon) (and_then a_kind (λ kind. before (sign equal_sign) (and_then a_literal (λ start.
    before (sign semicolon) (nothing (record { side = side; name = name; kind = kind; start = start })))))))

abbrev attr_form : SideCount → Form (AttrDecl × Room)
attr_form n = before (keyword (codes "attr")) (and_then {A = Side × Room} (mapped (λ side. (side, side_room (count_side n side))) (one_of side_token (λ side. beyond item 16 (of_side n side)) (λ side. ⊤))) attr_rest)

attr_read : {P : Type 0} (n : SideCount) → Sound P (attr_form n) Anything (attr_at (side_room n))
unfolding attr_at
attr_read n = sound_before (word_tests (codes "attr")) (sound_then (sound_counted_side n) attr_behind)

pub attr_runs : (room : Room) → Runs (attr_at room)
unfolding attr_at
attr_runs room = takes (λ t. is_word t (codes "attr")) (andthen (counted_runs (λ side. take (side_number side)) room side_of) (λ side. (attr_behind {P = ⊤} side).runs))

pub sound_attr : {P : Type 0} (n : SideCount) → Sound P (mapped (λ a. (a, side_room (count_side n a.side))) (an_attr n)) Anything (attr_at (side_room n))
sound_attr n = attr_read n

abbrev pub env_rest : Form EnvDecl
env_rest =
    and_then a_name (λ name. before (sign colon) (and_then a_kind (λ kind. before (sign equal_sign) (and_then a_literal (λ start.
    before (sign semicolon) (nothing (record { name = name; kind = kind; start = start })))))))

pub sound_env : {P : Type 0} → Sound P (before (keyword (codes "env")) env_rest) Anything env_at
unfolding env_at
sound_env =
    sound_before (word_tests (codes "env")) (sound_then sound_name (λ name. sound_before (symbol_tests colon)
    (sound_then sound_kind (λ kind. sound_before (symbol_tests equal_sign) (sound_then sound_literal (λ start. sound_before (symbol_tests semicolon)
    (sound_nothing (record { name = name; kind = kind; start = start }))))))))

-- ---- duties

form_split : (a b c : Bool) (ts : List Token) → form_from (cond a (Some duties.Done) (cond b (Some duties.Within) (cond c (Some duties.Every) None))) ts ≡ cond a (took a ts >>= λ r. Ok (forms.Done, r)) (cond b (took b ts >>= λ r. number_at r >>= λ n. Ok (forms.Within n.0, n.1)) (took c ts >>= λ r. number_at r >>= λ n. Ok (forms.Every n.0, n.1)))
form_split true b c ts = refl
form_split false true c ts = refl
form_split false false true ts = refl
form_split false false false ts = refl

others_than_done : (s : (either_of (before (keyword (codes "within")) (mapped (λ n. forms.Within n) a_number)) (before (keyword (codes "every")) (mapped (λ n. forms.Every n) a_number))).Written) → Meets (λ t. is_word t (codes "done") ≡ false) ((either_of (before (keyword (codes "within")) (mapped (λ n. forms.Within n) a_number)) (before (keyword (codes "every")) (mapped (λ n. forms.Every n) a_number))).tokens s) Anything
unfolding is_word
others_than_done (inl s) = refl
others_than_done (inr s) = refl

sound_duty_form : {P : Type 0} → Sound P a_duty_form Anything form_at
unfolding form_at duty_word is_word
sound_duty_form =
    sound_same form_at (λ ts. form_split (is_word (first ts) (codes "done")) (is_word (first ts) (codes "within")) (is_word (first ts) (codes "every")) ts)
    (sound_either (λ t. is_word t (codes "done")) (λ s proper. refl) (λ s proper. others_than_done s) (sound_before (word_tests (codes "done")) (sound_nothing forms.Done))
    (sound_either (λ t. is_word t (codes "within")) (λ s proper. refl) (λ s proper. refl) (sound_before (word_tests (codes "within")) (sound_mapped (λ n. forms.Within n) sound_number)) (sound_before (word_tests (codes "every")) (sound_mapped (λ n. forms.Every n) sound_number))))

sound_party : {P : Type 0} (w : Bytes) → Sound P (a_party w) (λ t. is_word t w ≡ false) (party_at w)
unfolding party_at
sound_party w =
    sound_same (party_at w) (λ ts. when_taken (is_word (first ts) w) ts (λ ts. some_name (name_in (first ts)) ts) (Ok (None, ts)))
    (sound_either (λ t. is_word t w) (λ s proper. (word_tests w).again) (λ s proper. λ t e. e) (sound_ending (λ t. is_word t w ≡ false) (λ t e. tt) (sound_before (word_tests w) sound_named_text)) (sound_ending (λ t. is_word t w ≡ false) (λ t e. tt) (sound_nothing None)))

abbrev duty_ends : Token → Type 0
duty_ends t = (is_word t (codes "by") ≡ false) × (is_word t (codes "on") ≡ false)

on_first : (s : (a_party (codes "on")).Written) → Meets (λ t. is_word t (codes "by") ≡ false) ((a_party (codes "on")).tokens s) duty_ends
unfolding is_word
on_first (inl s) = refl
on_first (inr s) = λ t e. e.0

sound_duty : {P : Type 0} → Sound P a_duty duty_ends duty_at
unfolding duty_at
sound_duty =
    sound_then sound_duty_form (λ form. sound_then sound_name (λ action. sound_meeting (sound_party (codes "by")) (λ by.
    sound_mapped (λ on. record { form = form; action = action; by_subject = by; on_object = on }) (sound_ending duty_ends (λ t e. e.1) (sound_party (codes "on")))) (λ by s proper. on_first s)))

-- ---- predicates

test_split : {B : Type 0} (next : TestSort → Reads B) (a b c : Bool) (ts : List Token) → (taken (cond a (Some sorts.A) (cond b (Some sorts.B) (cond c (Some sorts.C) None))) ts >>= λ s. next s.0 s.1) ≡ cond a (took a ts >>= next sorts.A) (cond b (took b ts >>= next sorts.B) (took c ts >>= next sorts.C))
test_split next true b c ts = refl
test_split next false true c ts = refl
test_split next false false true ts = refl
test_split next false false false ts = refl

-- what stands behind the word for its sort, with the room that is left
abbrev labelled_with : Phase × Room → Form PlainTest → Form (PlainPredicate × Room)
labelled_with phase a_test =
    and_then a_name (λ label. before (sign colon) (and_then a_test (λ test.
    before (sign semicolon) (nothing (record { phase = phase.0; label = label; test = test }, phase.1)))))

sound_labelled : {P : Type 0} {X : Form PlainTest} {E : Token → Type 0} {p : Reads PlainTest} (phase : Phase × Room) → E (a_symbol semicolon) → Sound P X E p
    → Sound P (labelled_with phase X) Anything (λ ts. name_at ts >>= λ label. expect colon label.1 >>= λ a. p a >>= λ test. expect semicolon test.1 >>= λ b. Ok ((record { phase = phase.0; label = label.0; test = test.0 }, phase.1), b))
sound_labelled phase ends x =
    sound_then sound_name (λ label. sound_before (symbol_tests colon) (sound_meeting x (λ test. sound_before (symbol_tests semicolon)
    (sound_nothing (record { phase = phase.0; label = label; test = test }, phase.1))) (λ test s proper. ends)))

abbrev sorted : Phase × Room → Form (PlainPredicate × Room)
sorted phase =
    either_of (before (keyword (codes "a")) (labelled_with phase (mapped (λ f. authorisation f) a_formula)))
    (either_of (before (keyword (codes "b")) (labelled_with phase (mapped (λ o. duty o) a_duty)))
    (before (keyword (codes "c")) (labelled_with phase (mapped (λ f. condition f) a_formula))))

abbrev behind_sort : Phase × Room → TestSort → Reads (PlainPredicate × Room)
behind_sort phase sort ts = name_at ts >>= λ label. expect colon label.1 >>= λ a. test_from sort a >>= λ test. expect semicolon test.1 >>= λ b. Ok ((record { phase = phase.0; label = label.0; test = test.0 }, phase.1), b)

others_than_a : (phase : Phase × Room) (s : (either_of (before (keyword (codes "b")) (labelled_with phase (mapped (λ o. duty o) a_duty))) (before (keyword (codes "c")) (labelled_with phase (mapped (λ f. condition f) a_formula)))).Written) → Meets (λ t. is_word t (codes "a") ≡ false) ((either_of (before (keyword (codes "b")) (labelled_with phase (mapped (λ o. duty o) a_duty))) (before (keyword (codes "c")) (labelled_with phase (mapped (λ f. condition f) a_formula)))).tokens s) Anything
unfolding is_word
others_than_a phase (inl s) = refl
others_than_a phase (inr s) = refl

duty_semicolon : duty_ends (a_symbol semicolon)
unfolding is_word
duty_semicolon = (refl, refl)

sound_sorted : {P : Type 0} (phase : Phase × Room) → Sound P (sorted phase) Anything (λ ts. taken (test_sort (first ts)) ts >>= λ s. behind_sort phase s.0 s.1)
unfolding test_sort is_word
sound_sorted phase =
    sound_same (λ ts. taken (test_sort (first ts)) ts >>= λ s. behind_sort phase s.0 s.1) (λ ts. test_split (behind_sort phase) (is_word (first ts) (codes "a")) (is_word (first ts) (codes "b")) (is_word (first ts) (codes "c")) ts)
    (sound_either (λ t. is_word t (codes "a")) (λ s proper. refl) (λ s proper. others_than_a phase s) (sound_before (word_tests (codes "a")) (sound_labelled phase semicolon_ends (sound_mapped (λ f. authorisation f) sound_formula)))
    (sound_either (λ t. is_word t (codes "b")) (λ s proper. refl) (λ s proper. refl) (sound_before (word_tests (codes "b")) (sound_labelled phase duty_semicolon (sound_mapped (λ o. duty o) sound_duty)))
    (sound_before (word_tests (codes "c")) (sound_labelled phase semicolon_ends (sound_mapped (λ f. condition f) sound_formula)))))

abbrev pred_form : PhaseCount → Form (PlainPredicate × Room)
pred_form n = and_then {A = Phase × Room} (mapped (λ phase. (phase, phase_room (count_phase n phase))) (one_of phase_token (λ phase. beyond item 16 (of_phase n phase)) (λ phase. ⊤))) sorted

pred_read : {P : Type 0} (n : PhaseCount) → Sound P (pred_form n) Anything (pred_at (phase_room n))
unfolding pred_at
pred_read n = sound_then (sound_counted_phase n) sound_sorted

-- what is written stands for the same predicate, whatever its sort
pred_tree : (n : PhaseCount) (s : (a_pred n).Written) → ((a_pred n).tree s, phase_room (count_phase n ((a_pred n).tree s).phase)) ≡ (pred_form n).tree s
pred_tree n (phase, inl s) = refl
pred_tree n (phase, inr (inl s)) = refl
pred_tree n (phase, inr (inr s)) = refl

pub pred_phase : (n : PhaseCount) (s : (a_pred n).Written) → ((a_pred n).tree s).phase ≡ s.0
pred_phase n (phase, inl s) = refl
pred_phase n (phase, inr (inl s)) = refl
pred_phase n (phase, inr (inr s)) = refl

pub sound_pred : {P : Type 0} (n : PhaseCount) → Sound P (mapped (λ p. (p, phase_room (count_phase n p.phase))) (a_pred n)) Anything (pred_at (phase_room n))
sound_pred n = sound_retree {X = pred_form n} (λ s. ((a_pred n).tree s, phase_room (count_phase n ((a_pred n).tree s).phase))) (pred_tree n) (pred_read n)

pub pred_runs : (room : Room) → Runs (pred_at room)
unfolding pred_at
pred_runs room = andthen (counted_runs (λ phase. take (phase_number phase)) room phase_of) (λ phase. (sound_sorted {P = ⊤} phase).runs)

-- what stands behind the word for its phase
abbrev pub pred_rest : Phase → Form PlainPredicate
pred_rest phase =
    either_of (before (keyword (codes "a")) (labelled phase (mapped (λ f. authorisation f) a_formula)))
    (either_of (before (keyword (codes "b")) (labelled phase (mapped (λ o. duty o) a_duty)))
    (before (keyword (codes "c")) (labelled phase (mapped (λ f. condition f) a_formula))))

pub pred_example : (phase : Phase) → Example (pred_rest phase)
pred_example phase = let e = (sound_sorted {P = ⊤} (phase, record { left = [] })).example tt in record { written = e.written; proper = e.proper }

-- ---- updates

abbrev update_rest : When × Room → Form (PlainUpdate × Room)
update_rest when =
    and_then a_side (λ side. before (sign dot) (and_then a_name (λ attr. before (sign equal_sign) (and_then an_expr (λ value.
    before (sign semicolon) (nothing (record { when = when.0; side = side; attr = attr; value = value }, when.1)))))))

update_behind : {P : Type 0} (when : When × Room) → Sound P (update_rest when) Anything (λ ts. taken (side_of (first ts)) ts >>= λ side. expect dot side.1 >>= λ a. name_at a >>= λ attr. expect equal_sign attr.1 >>= λ b. expr_at 32 b >>= λ value. expect semicolon value.1 >>= λ c. Ok ((record { when = when.0; side = side.0; attr = attr.0; value = value.0 }, when.1), c))
update_behind when =
    sound_then sound_side (λ side. sound_before (symbol_tests dot) (sound_then sound_name (λ attr. sound_before (symbol_tests equal_sign)
    (sound_meeting sound_expr (λ value. sound_before (symbol_tests semicolon) (sound_nothing (record { when = when.0; side = side; attr = attr; value = value }, when.1))) (λ value s proper. semicolon_ends.0.0)))))

abbrev update_form : WhenCount → Form (PlainUpdate × Room)
update_form n = and_then {A = When × Room} (mapped (λ when. (when, when_room (count_when n when))) (one_of when_token (λ when. beyond item 16 (of_when n when)) (λ when. ⊤))) update_rest

update_read : {P : Type 0} (n : WhenCount) → Sound P (update_form n) Anything (update_at (when_room n))
unfolding update_at
update_read n = sound_then (sound_counted_when n) update_behind

pub sound_update : {P : Type 0} (n : WhenCount) → Sound P (mapped (λ u. (u, when_room (count_when n u.when))) (an_update n)) Anything (update_at (when_room n))
sound_update n = update_read n

pub update_runs : (room : Room) → Runs (update_at room)
unfolding update_at
update_runs room = andthen (counted_runs (λ when. take (when_number when)) room when_of) (λ when. (update_behind {P = ⊤} when).runs)

-- what stands behind the word for its phase
abbrev pub plain_rest : When → Form PlainUpdate
plain_rest when =
    and_then a_side (λ side. before (sign dot) (and_then a_name (λ attr. before (sign equal_sign) (and_then an_expr (λ value.
    before (sign semicolon) (nothing (record { when = when; side = side; attr = attr; value = value })))))))

pub update_example : (when : When) → Example (plain_rest when)
update_example when = let e = (update_behind {P = ⊤} (when, record { left = [] })).example tt in record { written = e.written; proper = e.proper }
