-- The item that a first fault names is one of the policy's.
use Rattle.std.proofs.Common.{◌≡◌, refl, inl, inr, ℕ, ◌+◌, ◌≤◌, Bool, true, false, cond, List, [], ◌∷◌, ◌++◌, length, arith}
use Rattle.std.specs.Prelude.{◌⊎◌, Option, Some, None, is_some, not, nat_lt}
use Rattle.std.specs.Option.{option_or}
use Rattle.std.specs.List.{list_any}
use Rattle.ucon_model.specs.declared.policy.AttrDecl.{AttrDecl}
use Rattle.ucon_model.specs.declared.policy.EnvDecl.{EnvDecl}
use Rattle.ucon_model.specs.Plain.{Bytes, PlainPredicate, PlainUpdate, PlainRight, PlainPolicy}
use Rattle.ucon_model.specs.Readings.{declared_attr, declared_env}
use Rattle.ucon_model.specs.Decision.{right_named}
use Rattle.ucon_model.specs.Places.{test_places, update_places, places_read}
use Rattle.ucon_model.specs.Cores.{is_core}
use Rattle.ucon_model.specs.Typing.{TypeFault, twice, no_name, wrong_reader, wrong_kind, not_core, too_many_cells, undeclared, name_if, is_variable, is_wrong_reader, is_label_taken, is_typed_start, is_typed_test, is_typed_update, item_fault, attr_fault, env_fault, heading_fault, predicate_fault, update_fault, first_fault_of, one_item, items_of, whole_fault, right_fault, type_fault, items_in, item_count, NamesItem}

wider : (a b c d : ℕ) (f : TypeFault) → c ≤ a → b ≤ d → NamesItem a b f → NamesItem c d f
wider a b c d (twice name n) low high h = (omega (arith, h.0), omega (arith, h.1))
wider a b c d (no_name name n) low high h = (omega (arith, h.0), omega (arith, h.1))
wider a b c d (wrong_reader n) low high h = (omega (arith, h.0), omega (arith, h.1))
wider a b c d (wrong_kind n) low high h = (omega (arith, h.0), omega (arith, h.1))
wider a b c d (not_core r) low high h = tt
wider a b c d (too_many_cells r count) low high h = tt

item_named : (n : ℕ) (again unknown : Option Bytes) (wrong typed : Bool) (f : TypeFault) → item_fault n again unknown wrong typed ≡ Some f → NamesItem n (n + 1) f
item_named n (Some name) unknown wrong typed f h = let is : twice name n ≡ f = cc in rw (← is) (omega arith, omega arith)
item_named n None (Some name) wrong typed f h = let is : no_name name n ≡ f = cc in rw (← is) (omega arith, omega arith)
item_named n None None true typed f h = let is : wrong_reader n ≡ f = cc in rw (← is) (omega arith, omega arith)
item_named n None None false false f h = let is : wrong_kind n ≡ f = cc in rw (← is) (omega arith, omega arith)
item_named n None None false true f h = absurd cc

-- the one or the other
either_some : {T : Type 0} (a b : Option T) (x : T) → option_or a b ≡ Some x → (a ≡ Some x) ⊎ (b ≡ Some x)
either_some None b x h = inr h
either_some (Some y) b x h = inl h

-- where each item's fault names an item within it, so does the first fault of a list
list_named : {T : Type 0} (size : T → ℕ) (fault : List T → ℕ → T → Option TypeFault)
    → ((before : List T) (n : ℕ) (x : T) (f : TypeFault) → fault before n x ≡ Some f → NamesItem n (n + size x) f)
    → (before : List T) (n : ℕ) (xs : List T) (f : TypeFault) → first_fault_of size fault before n xs ≡ Some f → NamesItem n (n + items_in size xs) f
list_named size fault within before n [] f h = absurd cc
list_named size fault within before n (x ∷ xs) f h =
    elim (either_some (fault before n x) (first_fault_of size fault (before ++ x ∷ []) (n + size x) xs) f h) [
      | inl here ↦ wider n (n + size x) n (n + (size x + items_in size xs)) f (omega arith) (omega arith) (within before n x f here)
      | inr behind ↦ wider (n + size x) (n + size x + items_in size xs) n (n + (size x + items_in size xs)) f (omega arith) (omega arith)
          (list_named size fault within (before ++ x ∷ []) (n + size x) xs f behind)
    ]

ones : {T : Type 0} (xs : List T) → items_in one_item xs ≡ length xs
ones [] = refl
ones (x ∷ xs) = omega (arith, ones xs)

attr_named : (before : List AttrDecl) (n : ℕ) (d : AttrDecl) (f : TypeFault) → attr_fault before n d ≡ Some f → NamesItem n (n + 1) f
attr_named before n d f h = item_named n (name_if (is_some (declared_attr before d.side d.name)) d.name) None false (is_typed_start d.kind d.start) f h

env_named : (before : List EnvDecl) (n : ℕ) (d : EnvDecl) (f : TypeFault) → env_fault before n d ≡ Some f → NamesItem n (n + 1) f
env_named before n d f h = item_named n (name_if (is_some (declared_env before d.name)) d.name) None false (is_typed_start d.kind d.start) f h

predicate_named : (P : PlainPolicy) (before : List PlainPredicate) (n : ℕ) (p : PlainPredicate) (f : TypeFault) → predicate_fault P before n p ≡ Some f → NamesItem n (n + 1) f
predicate_named P before n p f h =
    item_named n (name_if (is_label_taken before p.label) p.label) (undeclared P (test_places p.test)) (is_wrong_reader p) (is_typed_test P p.test) f h

update_named : (P : PlainPolicy) (before : List PlainUpdate) (n : ℕ) (u : PlainUpdate) (f : TypeFault) → update_fault P before n u ≡ Some f → NamesItem n (n + 1) f
update_named P before n u f h = item_named n None (undeclared P (update_places u)) (list_any is_variable (update_places u)) (is_typed_update P u) f h

-- a right as a whole names no item
whole_by : (core many : Bool) (name : Bytes) (count a b : ℕ) (f : TypeFault)
    → cond core (Some (not_core name)) (cond many (Some (too_many_cells name count)) None) ≡ Some f → NamesItem a b f
whole_by true many name count a b f h = let is : not_core name ≡ f = cc in rw (← is) tt
whole_by false true name count a b f h = let is : too_many_cells name count ≡ f = cc in rw (← is) tt
whole_by false false name count a b f h = absurd cc

right_named_item : (P : PlainPolicy) (before : List PlainRight) (n : ℕ) (r : PlainRight) (f : TypeFault) → right_fault P before n r ≡ Some f → NamesItem n (n + items_of r) f
right_named_item P before n r f h =
    let A = heading_fault before n r in
    let B = first_fault_of one_item (predicate_fault P) [] (n + 1) r.preds in
    let C = first_fault_of one_item (update_fault P) [] (n + 1 + length r.preds) r.updates in
    let D = whole_fault r in
    elim (either_some A (option_or B (option_or C D)) f h) [
      | inl a ↦ wider n (n + 1) n (n + items_of r) f (omega arith) (omega arith)
          (item_named n (name_if (is_some (right_named before r.name)) r.name) None false true f a)
      | inr bcd ↦ elim (either_some B (option_or C D) f bcd) [
        | inl b ↦ wider (n + 1) (n + 1 + items_in one_item r.preds) n (n + items_of r) f (omega arith) (omega (arith, ones r.preds))
            (list_named one_item (predicate_fault P) (predicate_named P) [] (n + 1) r.preds f b)
        | inr cd ↦ elim (either_some C D f cd) [
          | inl c ↦ wider (n + 1 + length r.preds) (n + 1 + length r.preds + items_in one_item r.updates) n (n + items_of r) f (omega arith) (omega (arith, ones r.updates))
              (list_named one_item (update_fault P) (update_named P) [] (n + 1 + length r.preds) r.updates f c)
          | inr d ↦ whole_by (not (is_core r)) (nat_lt 32 (length (places_read r))) r.name (length (places_read r)) n (n + items_of r) f d
        ]
      ]
    ]

-- the first fault names one of the policy's items, if it names one
pub fault_names_item : (P : PlainPolicy) (f : TypeFault) → type_fault P ≡ Some f → NamesItem 1 (1 + item_count P) f
unfolding type_fault
fault_names_item P f h =
    let A = first_fault_of one_item attr_fault [] 1 P.attrs in
    let B = first_fault_of one_item env_fault [] (1 + length P.attrs) P.envs in
    let C = first_fault_of items_of (right_fault P) [] (1 + length P.attrs + length P.envs) P.rights in
    elim (either_some A (option_or B C) f h) [
      | inl a ↦ wider 1 (1 + items_in one_item P.attrs) 1 (1 + item_count P) f (omega arith) (omega (arith, ones P.attrs))
          (list_named one_item attr_fault attr_named [] 1 P.attrs f a)
      | inr bc ↦ elim (either_some B C f bc) [
        | inl b ↦ wider (1 + length P.attrs) (1 + length P.attrs + items_in one_item P.envs) 1 (1 + item_count P) f (omega arith) (omega (arith, ones P.envs))
            (list_named one_item env_fault env_named [] (1 + length P.attrs) P.envs f b)
        | inr c ↦ wider (1 + length P.attrs + length P.envs) (1 + length P.attrs + length P.envs + items_in items_of P.rights) 1 (1 + item_count P) f
            (omega arith) (omega arith)
            (list_named items_of (right_fault P) (right_named_item P) [] (1 + length P.attrs + length P.envs) P.rights f c)
      ]
    ]
