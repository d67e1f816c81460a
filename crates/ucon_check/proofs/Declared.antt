-- What is declared where no fault was found.
use Rattle.std.proofs.Common.{◌≡◌, ap, refl, ℕ, ◌+◌, Bool, true, false, List, [], ◌∷◌, ◌++◌, Option, None, Some, is_some, inl, inr}
use Rattle.std.specs.Prelude.{option_map, filter}
use Rattle.std.specs.List.{flat_map}
use Rattle.std.specs.Option.{option_or}
use Rattle.std.proofs.lemmas.Bool.{cases_Bool, true≢false}
use Rattle.ucon_model.specs.declared.formula.Ref.{Ref}
use Rattle.ucon_model.specs.declared.policy.AttrDecl.{AttrDecl}
use Rattle.ucon_model.specs.declared.policy.EnvDecl.{EnvDecl}
use Rattle.ucon_model.specs.Plain.{Bytes, PlainPredicate, PlainPolicy}
use Rattle.ucon_model.specs.Decision.{ongoing}
use Rattle.ucon_model.specs.Places.{test_places}
use Rattle.ucon_model.specs.Typing.{TypeFault, is_declared, undeclared, name_if, is_typed_start, is_label_taken, is_wrong_reader, is_typed_test, item_fault, attr_fault, env_fault, predicate_fault, first_fault_of, one_item}
use Rattle.ucon_check.specs.Counted.{IsOnce, attr_stands, env_stands}
use Rattle.ucon_check.specs.Told.{told}

none_parts : (a b : Option TypeFault) → option_map told (option_or a b) ≡ None → (a ≡ None) × (option_map told b ≡ None)
none_parts None b h = (refl, h)
none_parts (Some f) b h = absurd (true≢false (ap is_some h))

-- what has no fault does not stand twice, and all its names are declared
once_if : (n : ℕ) (stood : Bool) (name : Bytes) (unknown : Option Bytes) (wrong typed : Bool) → item_fault n (name_if stood name) unknown wrong typed ≡ None → stood ≡ false
once_if n false name unknown wrong typed h = refl
once_if n true name unknown wrong typed h = absurd (true≢false (ap is_some h))

known_if : (n : ℕ) (again unknown : Option Bytes) (wrong typed : Bool) → item_fault n again unknown wrong typed ≡ None → unknown ≡ None
known_if n (Some name) unknown wrong typed h = absurd (true≢false (ap is_some h))
known_if n None (Some name) wrong typed h = absurd (true≢false (ap is_some h))
known_if n None None wrong typed h = refl

pub attrs_once : (before : List AttrDecl) (n : ℕ) (attrs : List AttrDecl) → option_map told (first_fault_of one_item attr_fault before n attrs) ≡ None → IsOnce attr_stands before attrs
attrs_once before n [] h = tt
attrs_once before n (d ∷ ds) h =
    let parts = none_parts (attr_fault before n d) (first_fault_of one_item attr_fault (before ++ d ∷ []) (n + 1) ds) h in
    (once_if n (attr_stands before d) d.name None false (is_typed_start d.kind d.start) parts.0, attrs_once (before ++ d ∷ []) (n + 1) ds parts.1)

pub envs_once : (before : List EnvDecl) (n : ℕ) (envs : List EnvDecl) → option_map told (first_fault_of one_item env_fault before n envs) ≡ None → IsOnce env_stands before envs
envs_once before n [] h = tt
envs_once before n (d ∷ ds) h =
    let parts = none_parts (env_fault before n d) (first_fault_of one_item env_fault (before ++ d ∷ []) (n + 1) ds) h in
    (once_if n (env_stands before d) d.name None false (is_typed_start d.kind d.start) parts.0, envs_once (before ++ d ∷ []) (n + 1) ds parts.1)

both_known : (P : PlainPolicy) (xs ys : List Ref) → undeclared P xs ≡ None → undeclared P ys ≡ None → undeclared P (xs ++ ys) ≡ None
both_known P [] ys h h' = h'
both_known P (x ∷ xs) ys h h' =
    elim (cases_Bool (is_declared P x)) [
      | inl is ↦ rw is (both_known P xs ys (rw is at h) h')
      | inr isnt ↦ absurd (true≢false (ap is_some (rw isnt at h)))
    ]

pub preds_known : (P : PlainPolicy) (before : List PlainPredicate) (n : ℕ) (preds : List PlainPredicate)
    → option_map told (first_fault_of one_item (predicate_fault P) before n preds) ≡ None → undeclared P (flat_map (λ p. test_places p.test) (filter ongoing preds)) ≡ None
preds_known P before n [] h = refl
preds_known P before n (p ∷ ps) h =
    let parts = none_parts (predicate_fault P before n p) (first_fault_of one_item (predicate_fault P) (before ++ p ∷ []) (n + 1) ps) h in
    let here : undeclared P (test_places p.test) ≡ None =
    known_if n (name_if (is_label_taken before p.label) p.label) (undeclared P (test_places p.test)) (is_wrong_reader p) (is_typed_test P p.test) parts.0 in
    let rest = preds_known P (before ++ p ∷ []) (n + 1) ps parts.1 in
    elim (cases_Bool (ongoing p)) [
      | inl is ↦ rw is (both_known P (test_places p.test) (flat_map (λ q. test_places q.test) (filter ongoing ps)) here rest)
      | inr isnt ↦ rw isnt rest
    ]
