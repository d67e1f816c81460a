-- The faults of the items are told alike at numbers that are told alike.
use Rattle.std.proofs.Common.{◌≡◌, ◌∙◌, sym, ap, refl, ℕ, ◌+◌, true, false, [], length, Option, None}
use Rattle.std.specs.Prelude.{option_map, is_some}
use Rattle.std.specs.List.{list_any}
use Rattle.std.specs.Option.{option_or}
use Rattle.ucon_model.specs.Plain.{PlainRight, PlainPolicy}
use Rattle.ucon_model.specs.Readings.{declared_attr, declared_env}
use Rattle.ucon_model.specs.Decision.{right_named}
use Rattle.ucon_model.specs.Places.{test_places, update_places}
use Rattle.ucon_model.specs.Typing.{TypeFault, undeclared, name_if, is_variable, is_wrong_reader, is_typed_test, is_typed_update, is_typed_start, attr_fault, env_fault, heading_fault, is_label_taken, predicate_fault, update_fault, first_fault_of, one_item, whole_fault, right_fault}
use Rattle.ucon_check.specs.Numbers.{told_number}
use Rattle.ucon_check.specs.Told.{told}
use Rattle.ucon_check.proofs.Telling.{told-or, IsToldAlike, item_told, list_told, later_alike}

pub attr_alike : IsToldAlike attr_fault
attr_alike before n m d e =
    item_told n m (name_if (is_some (declared_attr before d.side d.name)) d.name) None false (is_typed_start d.kind d.start) e

pub env_alike : IsToldAlike env_fault
env_alike before n m d e =
    item_told n m (name_if (is_some (declared_env before d.name)) d.name) None false (is_typed_start d.kind d.start) e

heading_alike : IsToldAlike heading_fault
heading_alike before n m r e = item_told n m (name_if (is_some (right_named before r.name)) r.name) None false true e

pub predicate_alike : (P : PlainPolicy) → IsToldAlike (predicate_fault P)
predicate_alike P before n m p e =
    item_told n m (name_if (is_label_taken before p.label) p.label) (undeclared P (test_places p.test)) (is_wrong_reader p) (is_typed_test P p.test) e

pub update_alike : (P : PlainPolicy) → IsToldAlike (update_fault P)
update_alike P before n m u e =
    item_told n m None (undeclared P (update_places u)) (list_any is_variable (update_places u)) (is_typed_update P u) e

-- one or another, both told alike
or_alike : (a b c d : Option TypeFault) → option_map told a ≡ option_map told b → option_map told c ≡ option_map told d
    → option_map told (option_or a c) ≡ option_map told (option_or b d)
or_alike a b c d first rest =
    told-or a c ∙ ap (λ o. option_or o (option_map told c)) first ∙ ap (λ o. option_or (option_map told b) o) rest ∙ sym (told-or b d)

-- a right's predicates from item n + 1 on
pub preds_alike : (P : PlainPolicy) (n m : ℕ) (r : PlainRight) → told_number n ≡ told_number m
    → option_map told (first_fault_of one_item (predicate_fault P) [] n r.preds) ≡ option_map told (first_fault_of one_item (predicate_fault P) [] m r.preds)
preds_alike P n m r e = list_told one_item (predicate_fault P) (predicate_alike P) [] n m r.preds e

pub updates_alike : (P : PlainPolicy) (n m : ℕ) (r : PlainRight) → told_number n ≡ told_number m
    → option_map told (first_fault_of one_item (update_fault P) [] n r.updates) ≡ option_map told (first_fault_of one_item (update_fault P) [] m r.updates)
updates_alike P n m r e = list_told one_item (update_fault P) (update_alike P) [] n m r.updates e

pub right_alike : (P : PlainPolicy) → IsToldAlike (right_fault P)
right_alike P before n m r e =
    or_alike (heading_fault before n r) (heading_fault before m r)
    (option_or (first_fault_of one_item (predicate_fault P) [] (n + 1) r.preds)
    (option_or (first_fault_of one_item (update_fault P) [] (n + 1 + length r.preds) r.updates) (whole_fault r)))
    (option_or (first_fault_of one_item (predicate_fault P) [] (m + 1) r.preds)
    (option_or (first_fault_of one_item (update_fault P) [] (m + 1 + length r.preds) r.updates) (whole_fault r)))
    (heading_alike before n m r e)
    (or_alike (first_fault_of one_item (predicate_fault P) [] (n + 1) r.preds) (first_fault_of one_item (predicate_fault P) [] (m + 1) r.preds)
    (option_or (first_fault_of one_item (update_fault P) [] (n + 1 + length r.preds) r.updates) (whole_fault r))
    (option_or (first_fault_of one_item (update_fault P) [] (m + 1 + length r.preds) r.updates) (whole_fault r))
    (preds_alike P (n + 1) (m + 1) r (later_alike n m 1 e))
    (or_alike (first_fault_of one_item (update_fault P) [] (n + 1 + length r.preds) r.updates)
    (first_fault_of one_item (update_fault P) [] (m + 1 + length r.preds) r.updates) (whole_fault r) (whole_fault r)
    (updates_alike P (n + 1 + length r.preds) (m + 1 + length r.preds) r (later_alike (n + 1) (m + 1) (length r.preds) (later_alike n m 1 e)))
    refl))
