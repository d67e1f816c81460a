-- What the parts of a right, and of a policy, tell of the whole.
use Rattle.std.proofs.Common.{◌≡◌, ◌∙◌, sym, ap, subst, ℕ, ◌+◌, List, [], length, Option, Some, None, arith}
use Rattle.std.specs.Prelude.{option_map, Result, MatchResult}
use Rattle.std.specs.Option.{option_or}
use Rattle.ucon_model.specs.declared.policy.AttrDecl.{AttrDecl}
use Rattle.ucon_model.specs.declared.policy.EnvDecl.{EnvDecl}
use Rattle.ucon_model.specs.Plain.{PlainPredicate, PlainUpdate, PlainRight, PlainPolicy}
use Rattle.ucon_model.specs.Typing.{TypeFault, attr_fault, env_fault, heading_fault, predicate_fault, update_fault, first_fault_of, one_item, items_of, whole_fault, right_fault, type_fault}
use Rattle.ucon_check.specs.declared.fault.CheckFault.{CheckFault}
use Rattle.ucon_check.specs.Numbers.{told_number}
use Rattle.ucon_check.specs.Told.{told, Answers}
use Rattle.ucon_check.proofs.Telling.{told_rest, answers_first, list_told, told_again}
use Rattle.ucon_check.proofs.Alike.{env_alike, predicate_alike, update_alike, right_alike}

-- faults that are told alike are answered alike
pub answers_alike : {T : Type 0} (a b : Option TypeFault) (r : Result T CheckFault) → option_map told a ≡ option_map told b → Answers a r → Answers b r
answers_alike {T} a b r e h = subst (λ (g : Option CheckFault). MatchResult r (λ (x : T). g ≡ None) (λ f. g ≡ Some f)) e h

-- behind a part without a fault, an answer of the next part is one of the whole
answers_second : (a b c : Option TypeFault) (g : Option CheckFault) (e : CheckFault) → option_map told a ≡ None → g ≡ option_map told b → g ≡ Some e
    → option_map told (option_or a (option_or b c)) ≡ Some e
answers_second a b c g e none is h = told_rest a (option_or b c) none ∙ answers_first b c e (sym is ∙ h)

-- ---- a right

-- its predicates from a told number on
preds_told : (P : PlainPolicy) (n : ℕ) (r : PlainRight) (first : ℕ) (preds : List PlainPredicate) → first ≡ told_number (n + 1) → preds ≡ r.preds
    → option_map told (first_fault_of one_item (predicate_fault P) [] first preds) ≡ option_map told (first_fault_of one_item (predicate_fault P) [] (n + 1) r.preds)
preds_told P n r first preds is same =
    rw (is, same) (list_told one_item (predicate_fault P) (predicate_alike P) [] (told_number (n + 1)) (n + 1) r.preds (told_again (n + 1)))

number_behind : (n k first second : ℕ) → first ≡ told_number (n + 1) → second ≡ told_number (first + k) → told_number second ≡ told_number (n + 1 + k)
number_behind n k first second a b = omega arith

updates_told : (P : PlainPolicy) (n : ℕ) (r : PlainRight) (first second : ℕ) (preds : List PlainPredicate) (updates : List PlainUpdate)
    → first ≡ told_number (n + 1) → second ≡ told_number (first + length preds) → preds ≡ r.preds → updates ≡ r.updates
    → option_map told (first_fault_of one_item (update_fault P) [] second updates)
    ≡ option_map told (first_fault_of one_item (update_fault P) [] (n + 1 + length r.preds) r.updates)
updates_told P n r first second preds updates a b same same' =
    rw (← same)
    (rw same' (list_told one_item (update_fault P) (update_alike P) [] second (n + 1 + length preds) r.updates (number_behind n (length preds) first second a b)))

pub preds_of_right : (P : PlainPolicy) (before : List PlainRight) (n : ℕ) (r : PlainRight) (first : ℕ) (preds : List PlainPredicate) (e : CheckFault)
    → first ≡ told_number (n + 1) → preds ≡ r.preds → option_map told (heading_fault before n r) ≡ None
    → option_map told (first_fault_of one_item (predicate_fault P) [] first preds) ≡ Some e → option_map told (right_fault P before n r) ≡ Some e
preds_of_right P before n r first preds e is same none h =
    answers_second (heading_fault before n r) (first_fault_of one_item (predicate_fault P) [] (n + 1) r.preds)
    (option_or (first_fault_of one_item (update_fault P) [] (n + 1 + length r.preds) r.updates) (whole_fault r))
    (option_map told (first_fault_of one_item (predicate_fault P) [] first preds)) e none (preds_told P n r first preds is same) h

pub updates_of_right : (P : PlainPolicy) (before : List PlainRight) (n : ℕ) (r : PlainRight) (first second : ℕ) (preds : List PlainPredicate)
    (updates : List PlainUpdate) (e : CheckFault)
    → first ≡ told_number (n + 1) → second ≡ told_number (first + length preds) → preds ≡ r.preds → updates ≡ r.updates
    → option_map told (heading_fault before n r) ≡ None → option_map told (first_fault_of one_item (predicate_fault P) [] first preds) ≡ None
    → option_map told (first_fault_of one_item (update_fault P) [] second updates) ≡ Some e → option_map told (right_fault P before n r) ≡ Some e
updates_of_right P before n r first second preds updates e is is' same same' none none' h =
    rw (told_rest (heading_fault before n r)
    (option_or (first_fault_of one_item (predicate_fault P) [] (n + 1) r.preds)
    (option_or (first_fault_of one_item (update_fault P) [] (n + 1 + length r.preds) r.updates) (whole_fault r))) none)
    (answers_second (first_fault_of one_item (predicate_fault P) [] (n + 1) r.preds)
    (first_fault_of one_item (update_fault P) [] (n + 1 + length r.preds) r.updates) (whole_fault r)
    (option_map told (first_fault_of one_item (update_fault P) [] second updates)) e (sym (preds_told P n r first preds is same) ∙ none')
    (updates_told P n r first second preds updates is is' same same') h)

pub whole_of_right : (P : PlainPolicy) (before : List PlainRight) (n : ℕ) (r : PlainRight) (first second : ℕ) (preds : List PlainPredicate)
    (updates : List PlainUpdate)
    → first ≡ told_number (n + 1) → second ≡ told_number (first + length preds) → preds ≡ r.preds → updates ≡ r.updates
    → option_map told (heading_fault before n r) ≡ None → option_map told (first_fault_of one_item (predicate_fault P) [] first preds) ≡ None
    → option_map told (first_fault_of one_item (update_fault P) [] second updates) ≡ None
    → option_map told (whole_fault r) ≡ option_map told (right_fault P before n r)
whole_of_right P before n r first second preds updates is is' same same' none none' none'' =
    let A = heading_fault before n r in
    let B = first_fault_of one_item (predicate_fault P) [] (n + 1) r.preds in
    let C = first_fault_of one_item (update_fault P) [] (n + 1 + length r.preds) r.updates in
    sym (told_rest A (option_or B (option_or C (whole_fault r))) none
    ∙ told_rest B (option_or C (whole_fault r)) (sym (preds_told P n r first preds is same) ∙ none')
    ∙ told_rest C (whole_fault r) (sym (updates_told P n r first second preds updates is is' same same') ∙ none''))

-- ---- a policy

attrs_told : (P : PlainPolicy) (attrs : List AttrDecl) → attrs ≡ P.attrs
    → option_map told (first_fault_of one_item attr_fault [] 1 attrs) ≡ option_map told (first_fault_of one_item attr_fault [] 1 P.attrs)
attrs_told P attrs same = ap (λ ds. option_map told (first_fault_of one_item attr_fault [] 1 ds)) same

envs_told : (P : PlainPolicy) (first : ℕ) (attrs : List AttrDecl) (envs : List EnvDecl) → attrs ≡ P.attrs → envs ≡ P.envs
    → first ≡ told_number (1 + length attrs)
    → option_map told (first_fault_of one_item env_fault [] first envs) ≡ option_map told (first_fault_of one_item env_fault [] (1 + length P.attrs) P.envs)
envs_told P first attrs envs same same' is =
    rw (← same) (rw (is, same') (list_told one_item env_fault env_alike [] (told_number (1 + length attrs)) (1 + length attrs) P.envs (told_again (1 + length attrs))))

rights_behind : (k l k' l' first second : ℕ) → k ≡ k' → l ≡ l' → first ≡ told_number (1 + k) → second ≡ told_number (first + l)
    → told_number second ≡ told_number (1 + k' + l')
rights_behind k l k' l' first second a b c d = omega arith

rights_told : (P : PlainPolicy) (first second : ℕ) (attrs : List AttrDecl) (envs : List EnvDecl) (rights : List PlainRight)
    → attrs ≡ P.attrs → envs ≡ P.envs → rights ≡ P.rights → first ≡ told_number (1 + length attrs) → second ≡ told_number (first + length envs)
    → option_map told (first_fault_of items_of (right_fault P) [] second rights)
    ≡ option_map told (first_fault_of items_of (right_fault P) [] (1 + length P.attrs + length P.envs) P.rights)
rights_told P first second attrs envs rights same same' same'' is is' =
    ap (λ rs. option_map told (first_fault_of items_of (right_fault P) [] second rs)) same''
    ∙ list_told items_of (right_fault P) (right_alike P) [] second (1 + length P.attrs + length P.envs) P.rights
    (rights_behind (length attrs) (length envs) (length P.attrs) (length P.envs) first second (ap length same) (ap length same') is is')

pub attrs_of_policy : (P : PlainPolicy) (attrs : List AttrDecl) (e : CheckFault) → attrs ≡ P.attrs
    → option_map told (first_fault_of one_item attr_fault [] 1 attrs) ≡ Some e → option_map told (type_fault P) ≡ Some e
unfolding type_fault
attrs_of_policy P attrs e same h =
    answers_first (first_fault_of one_item attr_fault [] 1 P.attrs)
    (option_or (first_fault_of one_item env_fault [] (1 + length P.attrs) P.envs)
    (first_fault_of items_of (right_fault P) [] (1 + length P.attrs + length P.envs) P.rights)) e
    (sym (attrs_told P attrs same) ∙ h)

pub envs_of_policy : (P : PlainPolicy) (first : ℕ) (attrs : List AttrDecl) (envs : List EnvDecl) (e : CheckFault) → attrs ≡ P.attrs → envs ≡ P.envs
    → first ≡ told_number (1 + length attrs) → option_map told (first_fault_of one_item attr_fault [] 1 attrs) ≡ None
    → option_map told (first_fault_of one_item env_fault [] first envs) ≡ Some e → option_map told (type_fault P) ≡ Some e
unfolding type_fault
envs_of_policy P first attrs envs e same same' is none h =
    answers_second (first_fault_of one_item attr_fault [] 1 P.attrs) (first_fault_of one_item env_fault [] (1 + length P.attrs) P.envs)
    (first_fault_of items_of (right_fault P) [] (1 + length P.attrs + length P.envs) P.rights)
    (option_map told (first_fault_of one_item env_fault [] first envs)) e (sym (attrs_told P attrs same) ∙ none) (envs_told P first attrs envs same same' is) h

pub rights_of_policy : (P : PlainPolicy) (first second : ℕ) (attrs : List AttrDecl) (envs : List EnvDecl) (rights : List PlainRight)
    → attrs ≡ P.attrs → envs ≡ P.envs → rights ≡ P.rights → first ≡ told_number (1 + length attrs) → second ≡ told_number (first + length envs)
    → option_map told (first_fault_of one_item attr_fault [] 1 attrs) ≡ None → option_map told (first_fault_of one_item env_fault [] first envs) ≡ None
    → option_map told (first_fault_of items_of (right_fault P) [] second rights) ≡ option_map told (type_fault P)
unfolding type_fault
rights_of_policy P first second attrs envs rights same same' same'' is is' none none' =
    let A = first_fault_of one_item attr_fault [] 1 P.attrs in
    let B = first_fault_of one_item env_fault [] (1 + length P.attrs) P.envs in
    let C = first_fault_of items_of (right_fault P) [] (1 + length P.attrs + length P.envs) P.rights in
    rights_told P first second attrs envs rights same same' same'' is is'
    ∙ sym (told_rest A (option_or B C) (sym (attrs_told P attrs same) ∙ none)
    ∙ told_rest B C (sym (envs_told P first attrs envs same same' is) ∙ none'))
