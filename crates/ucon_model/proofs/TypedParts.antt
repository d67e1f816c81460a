-- What a well typed policy's declarations, predicates and updates are.
use Rattle.std.proofs.Common.{◌≡◌, refl, ℕ, ◌+◌, Bool, true, false, cond, List, [], ◌∷◌, ◌++◌, length}
use Rattle.std.specs.Prelude.{Option, Some, None, is_none, is_some, find}
use Rattle.std.specs.List.{list_any}
use Rattle.std.specs.Option.{option_or}
use Rattle.ucon_base.specs.declared.value.Side.{Side}
use Rattle.ucon_model.specs.declared.policy.AttrDecl.{AttrDecl}
use Rattle.ucon_model.specs.declared.policy.EnvDecl.{EnvDecl}
use Rattle.ucon_model.specs.Plain.{Bytes, PlainPredicate, PlainUpdate, PlainRight, PlainPolicy}
use Rattle.ucon_model.specs.Readings.{declared_attr, declared_env}
use Rattle.ucon_model.specs.Decision.{right_named}
use Rattle.ucon_base.specs.Elements.{Each}
use Rattle.ucon_model.specs.Places.{test_places, update_places}
use Rattle.ucon_model.specs.Typing.{TypeFault, undeclared, name_if, is_variable, is_wrong_reader, is_label_taken, is_typed_start, is_typed_test, is_typed_update, item_fault, attr_fault, env_fault, heading_fault, predicate_fault, update_fault, first_fault_of, one_item, items_of, whole_fault, right_fault, type_fault, IsTyped}

-- ---- no fault in a part

none_from : {T : Type 0} (o : Option T) → is_none o ≡ true → o ≡ None
none_from None h = refl
none_from (Some x) h = absurd cc

first_none : {T : Type 0} (a b : Option T) → option_or a b ≡ None → a ≡ None
first_none None b h = refl
first_none (Some x) b h = h

rest_none : {T : Type 0} (a b : Option T) → option_or a b ≡ None → b ≡ None
rest_none None b h = h
rest_none (Some x) b h = absurd cc

typed_item : (n : ℕ) (again unknown : Option Bytes) (wrong typed : Bool) → item_fault n again unknown wrong typed ≡ None → typed ≡ true
typed_item n (Some name) unknown wrong typed h = absurd cc
typed_item n None (Some name) wrong typed h = absurd cc
typed_item n None None true typed h = absurd cc
typed_item n None None false false h = absurd cc
typed_item n None None false true h = refl

start_of_attr : (before : List AttrDecl) (n : ℕ) (d : AttrDecl) → attr_fault before n d ≡ None → is_typed_start d.kind d.start ≡ true
start_of_attr before n d h = typed_item n (name_if (is_some (declared_attr before d.side d.name)) d.name) None false (is_typed_start d.kind d.start) h

start_of_env : (before : List EnvDecl) (n : ℕ) (d : EnvDecl) → env_fault before n d ≡ None → is_typed_start d.kind d.start ≡ true
start_of_env before n d h = typed_item n (name_if (is_some (declared_env before d.name)) d.name) None false (is_typed_start d.kind d.start) h

test_of_predicate : (P : PlainPolicy) (before : List PlainPredicate) (n : ℕ) (p : PlainPredicate) → predicate_fault P before n p ≡ None → is_typed_test P p.test ≡ true
test_of_predicate P before n p h =
    typed_item n (name_if (is_label_taken before p.label) p.label) (undeclared P (test_places p.test)) (is_wrong_reader p) (is_typed_test P p.test) h

value_of_update : (P : PlainPolicy) (before : List PlainUpdate) (n : ℕ) (u : PlainUpdate) → update_fault P before n u ≡ None → is_typed_update P u ≡ true
value_of_update P before n u h =
    typed_item n None (undeclared P (update_places u)) (list_any is_variable (update_places u)) (is_typed_update P u) h

-- where a list has no fault, no item of it has one
each_without : {T : Type 0} (size : T → ℕ) (fault : List T → ℕ → T → Option TypeFault) (Q : T → Type 0)
    → ((before : List T) (n : ℕ) (x : T) → fault before n x ≡ None → Q x)
    → (before : List T) (n : ℕ) (xs : List T) → first_fault_of size fault before n xs ≡ None → Each Q xs
each_without size fault Q from before n [] h = tt
each_without size fault Q from before n (x ∷ xs) h = (
  from before n x (first_none (fault before n x) (first_fault_of size fault (before ++ x ∷ []) (n + size x) xs) h),
  each_without size fault Q from (before ++ x ∷ []) (n + size x) xs
      (rest_none (fault before n x) (first_fault_of size fault (before ++ x ∷ []) (n + size x) xs) h),
)

found_here : {T : Type 0} (Q : T → Type 0) (b : Bool) (x y : T) (o : Option T) → Q y → (o ≡ Some x → Q x) → cond b (Some y) o ≡ Some x → Q x
found_here Q true x y o here there is = let same : y ≡ x = cc in rw (← same) here
found_here Q false x y o here there is = there is

-- what is found is one of them
pub each_found : {T : Type 0} (Q : T → Type 0) (p : T → Bool) (xs : List T) (x : T) → Each Q xs → find p xs ≡ Some x → Q x
each_found Q p [] x h is = absurd cc
each_found Q p (y ∷ ys) x h is = found_here Q (p y) x y (find p ys) h.0 (each_found Q p ys x h.1) is

-- ---- the parts

-- the parts of a right without a fault
record IsTypedRight (P : PlainPolicy) (r : PlainRight) : Type 0 where
  preds : Each (λ p. is_typed_test P p.test ≡ true) r.preds
  updates : Each (λ u. is_typed_update P u ≡ true) r.updates

typed_right : (P : PlainPolicy) (before : List PlainRight) (n : ℕ) (r : PlainRight) → right_fault P before n r ≡ None → IsTypedRight P r
typed_right P before n r h =
    let A = heading_fault before n r in
    let B = first_fault_of one_item (predicate_fault P) [] (n + 1) r.preds in
    let C = first_fault_of one_item (update_fault P) [] (n + 1 + length r.preds) r.updates in
    let behind = rest_none A (option_or B (option_or C (whole_fault r))) h in
    record {
      preds = each_without one_item (predicate_fault P) (λ p. is_typed_test P p.test ≡ true) (test_of_predicate P) [] (n + 1) r.preds
          (first_none B (option_or C (whole_fault r)) behind);
      updates = each_without one_item (update_fault P) (λ u. is_typed_update P u ≡ true) (value_of_update P) [] (n + 1 + length r.preds) r.updates
          (first_none C (whole_fault r) (rest_none B (option_or C (whole_fault r)) behind));
    }

-- the parts of a policy without a fault
record IsTypedPolicy (P : PlainPolicy) : Type 0 where
  attrs : Each (λ d. is_typed_start d.kind d.start ≡ true) P.attrs
  envs : Each (λ d. is_typed_start d.kind d.start ≡ true) P.envs
  rights : Each (IsTypedRight P) P.rights

typed_policy : (P : PlainPolicy) → IsTyped P → IsTypedPolicy P
unfolding type_fault
typed_policy P typed =
    let A = first_fault_of one_item attr_fault [] 1 P.attrs in
    let B = first_fault_of one_item env_fault [] (1 + length P.attrs) P.envs in
    let C = first_fault_of items_of (right_fault P) [] (1 + length P.attrs + length P.envs) P.rights in
    let none : option_or A (option_or B C) ≡ None = none_from (type_fault P) typed in
    let behind = rest_none A (option_or B C) none in
    record {
      attrs = each_without one_item attr_fault (λ d. is_typed_start d.kind d.start ≡ true) start_of_attr [] 1 P.attrs (first_none A (option_or B C) none);
      envs = each_without one_item env_fault (λ d. is_typed_start d.kind d.start ≡ true) start_of_env [] (1 + length P.attrs) P.envs (first_none B C behind);
      rights = each_without items_of (right_fault P) (IsTypedRight P) (typed_right P) [] (1 + length P.attrs + length P.envs) P.rights (rest_none B C behind);
    }

pub typed_attr : (P : PlainPolicy) → IsTyped P → (side : Side) (attr : Bytes) (d : AttrDecl) → declared_attr P.attrs side attr ≡ Some d → is_typed_start d.kind d.start ≡ true
typed_attr P typed side attr d is = each_found (λ d. is_typed_start d.kind d.start ≡ true) _ P.attrs d (typed_policy P typed).attrs is

pub typed_env : (P : PlainPolicy) → IsTyped P → (name : Bytes) (d : EnvDecl) → declared_env P.envs name ≡ Some d → is_typed_start d.kind d.start ≡ true
typed_env P typed name d is = each_found (λ d. is_typed_start d.kind d.start ≡ true) _ P.envs d (typed_policy P typed).envs is

pub typed_predicates : (P : PlainPolicy) → IsTyped P → (name : Bytes) (r : PlainRight) → right_named P.rights name ≡ Some r → Each (λ p. is_typed_test P p.test ≡ true) r.preds
typed_predicates P typed name r is = (each_found (IsTypedRight P) _ P.rights r (typed_policy P typed).rights is).preds

pub typed_updates : (P : PlainPolicy) → IsTyped P → (name : Bytes) (r : PlainRight) → right_named P.rights name ≡ Some r → Each (λ u. is_typed_update P u ≡ true) r.updates
typed_updates P typed name r is = (each_found (IsTypedRight P) _ P.rights r (typed_policy P typed).rights is).updates
