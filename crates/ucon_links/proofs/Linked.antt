-- Linked nodes of one list: parts, reads and writes.
use Rattle.std.specs.Prelude.{⊤}
use Rattle.std.proofs.Common.{◌≡◌, ◌≢◌, ℕ, suc, List, [], ◌∷◌, ◌++◌, set, Some, None, Option, slice_get, refl, sym, ap, ◌∙◌}
use Rattle.ucon_links.specs.declared.table.Node.{Node}
use Rattle.ucon_links.specs.Lists.{first_or, last_or, IsAbsent, IsDistinct}
use Rattle.ucon_links.specs.Layout.{IsLinked, listed_node}
use Rattle.ucon_links.specs.OneList.{ids}
use Rattle.ucon_links.specs.Table.{changed}
use Rattle.ucon_links.proofs.Cells.{slice_get-set_other, some_same, tag_of, KeepsOthers, HasTag, IsOther, changed-other, changed-same}

-- no node of the first part stands in the second
abbrev pub IsApart : List (ℕ × ℕ) → List (ℕ × ℕ) → Type 0
IsApart [] ys = ⊤
IsApart (x ∷ xs) ys = IsAbsent x.0 (ids ys) × IsApart xs ys

-- the node there, if there is one, stands in no place of the list
abbrev pub IsOutside : Option ℕ → List (ℕ × ℕ) → Type 0
IsOutside None xs = ⊤
IsOutside (Some node) xs = IsAbsent node (ids xs)

pub absent_parts : (node : ℕ) (xs ys : List (ℕ × ℕ)) → IsAbsent node (ids (xs ++ ys)) → IsAbsent node (ids xs) × IsAbsent node (ids ys)
absent_parts node [] ys absent = (tt, absent)
absent_parts node (x ∷ xs) ys absent = let rest = absent_parts node xs ys absent.1 in ((absent.0, rest.0), rest.1)

pub absent_append : (node : ℕ) (xs ys : List (ℕ × ℕ)) → IsAbsent node (ids xs) → IsAbsent node (ids ys) → IsAbsent node (ids (xs ++ ys))
absent_append node [] ys first second = second
absent_append node (x ∷ xs) ys first second = (first.0, absent_append node xs ys first.1 second)

pub record Parts (xs ys : List (ℕ × ℕ)) : Type 0 where
  pub front : IsDistinct (ids xs)
  pub back : IsDistinct (ids ys)
  pub apart : IsApart xs ys

pub distinct_parts : (xs ys : List (ℕ × ℕ)) → IsDistinct (ids (xs ++ ys)) → Parts xs ys
distinct_parts [] ys distinct = record { front = tt; back = distinct; apart = tt }
distinct_parts (x ∷ xs) ys distinct =
    let rest = distinct_parts xs ys distinct.1 in
    let absent = absent_parts x.0 xs ys distinct.0 in
    record { front = (absent.0, rest.front); back = rest.back; apart = (absent.1, rest.apart) }

pub distinct_append : (xs ys : List (ℕ × ℕ)) → Parts xs ys → IsDistinct (ids (xs ++ ys))
distinct_append [] ys parts = parts.back
distinct_append (x ∷ xs) ys parts =
    (absent_append x.0 xs ys parts.front.0 parts.apart.0, distinct_append xs ys (record { front = parts.front.1; back = parts.back; apart = parts.apart.1 }))

-- without the first node of the second part
pub apart_tail : (xs : List (ℕ × ℕ)) (y : ℕ × ℕ) (ys : List (ℕ × ℕ)) → IsApart xs (y ∷ ys) → IsApart xs ys
apart_tail [] y ys apart = tt
apart_tail (x ∷ xs) y ys apart = (apart.0.1, apart_tail xs y ys apart.1)

pub apart_cons : (xs : List (ℕ × ℕ)) (y : ℕ × ℕ) (ys : List (ℕ × ℕ)) → IsAbsent y.0 (ids xs) → IsApart xs ys → IsApart xs (y ∷ ys)
apart_cons [] y ys absent apart = tt
apart_cons (x ∷ xs) y ys absent apart = ((λ e. absent.0 (sym e), apart.0), apart_cons xs y ys absent.1 apart.1)

pub apart_head : (xs : List (ℕ × ℕ)) (y : ℕ × ℕ) (ys : List (ℕ × ℕ)) → IsApart xs (y ∷ ys) → IsAbsent y.0 (ids xs)
apart_head [] y ys apart = tt
apart_head (x ∷ xs) y ys apart = (λ e. apart.0.0 (sym e), apart_head xs y ys apart.1)

pub last_outside : (before : Option ℕ) (xs ys : List (ℕ × ℕ)) → IsOutside before ys → IsApart xs ys → IsOutside (last_or before xs) ys
last_outside before [] ys outside apart = outside
last_outside before (x ∷ xs) ys outside apart = last_outside (Some x.0) xs ys apart.0 apart.1

pub first_outside : (xs ys : List (ℕ × ℕ)) → IsApart xs ys → IsOutside (first_or None ys) xs
first_outside xs [] apart = tt
first_outside xs (y ∷ ys) apart = apart_head xs y ys apart

pub last_is_other : (node : ℕ) (before : Option ℕ) (xs : List (ℕ × ℕ)) → IsOther node before → IsAbsent node (ids xs) → IsOther node (last_or before xs)
last_is_other node before [] other absent = other
last_is_other node before (x ∷ xs) other absent = last_is_other node (Some x.0) xs (λ e. absent.0 (sym e)) absent.1

pub first_is_other : (node : ℕ) (xs : List (ℕ × ℕ)) → IsAbsent node (ids xs) → IsOther node (first_or None xs)
first_is_other node [] absent = tt
first_is_other node (x ∷ xs) absent = λ e. absent.0 (sym e)

pub first_or-append : (after : Option ℕ) (xs ys : List (ℕ × ℕ)) → first_or after (xs ++ ys) ≡ first_or (first_or after ys) xs
first_or-append after [] ys = refl
first_or-append after (x ∷ xs) ys = refl

module _ (nodes : List Node) (list : ℕ) where
  pub linked_append : (before : Option ℕ) (xs ys : List (ℕ × ℕ)) (after : Option ℕ) → IsLinked nodes list before xs (first_or after ys) → IsLinked nodes list (last_or before xs) ys after → IsLinked nodes list before (xs ++ ys) after
  linked_append before [] ys after first second = second
  linked_append before (x ∷ xs) ys after first second =
      (first.0 ∙ ap (λ next. Some (listed_node list before x next)) (sym (first_or-append after xs ys)), linked_append (Some x.0) xs ys after first.1 second)

  pub linked_front : (before : Option ℕ) (xs ys : List (ℕ × ℕ)) (after : Option ℕ) → IsLinked nodes list before (xs ++ ys) after → IsLinked nodes list before xs (first_or after ys)
  linked_front before [] ys after linked = tt
  linked_front before (x ∷ xs) ys after linked =
      (linked.0 ∙ ap (λ next. Some (listed_node list before x next)) (first_or-append after xs ys), linked_front (Some x.0) xs ys after linked.1)

  pub linked_back : (before : Option ℕ) (xs ys : List (ℕ × ℕ)) (after : Option ℕ) → IsLinked nodes list before (xs ++ ys) after → IsLinked nodes list (last_or before xs) ys after
  linked_back before [] ys after linked = linked
  linked_back before (x ∷ xs) ys after linked = linked_back (Some x.0) xs ys after linked.1

  -- a node with another tag is another node
  pub linked_absent : (before : Option ℕ) (xs : List (ℕ × ℕ)) (after : Option ℕ) (at : ℕ) (node : Node) → IsLinked nodes list before xs after → slice_get nodes at ≡ Some node → tag_of node ≢ suc (suc list) → IsAbsent at (ids xs)
  linked_absent before [] after at node linked there differs = tt
  linked_absent before (x ∷ xs) after at node linked there differs =
      (λ e. differs (ap tag_of (some_same (sym there ∙ sym (ap (slice_get nodes) e) ∙ linked.0))), linked_absent (Some x.0) xs after at node linked.1 there differs)

  pub last_has_tag : (before : Option ℕ) (xs : List (ℕ × ℕ)) (after : Option ℕ) → HasTag (suc (suc list)) nodes before → IsLinked nodes list before xs after → HasTag (suc (suc list)) nodes (last_or before xs)
  last_has_tag before [] after tagged linked = tagged
  last_has_tag before (x ∷ xs) after tagged linked =
      last_has_tag (Some x.0) xs after (listed_node list before x (first_or after xs), linked.0, refl) linked.1

  pub first_has_tag : (before : Option ℕ) (xs : List (ℕ × ℕ)) (after : Option ℕ) → IsLinked nodes list before xs after → HasTag (suc (suc list)) nodes (first_or None xs)
  first_has_tag before [] after linked = tt
  first_has_tag before (x ∷ xs) after linked = (listed_node list before x (first_or after xs), linked.0, refl)

-- a table that keeps these nodes keeps them linked
pub linked_kept : (old new : List Node) (list : ℕ) (before : Option ℕ) (xs : List (ℕ × ℕ)) (after : Option ℕ) (tag : ℕ) → KeepsOthers tag old new → suc (suc list) ≢ tag → IsLinked old list before xs after → IsLinked new list before xs after
linked_kept old new list before [] after tag keeps differs linked = tt
linked_kept old new list before (x ∷ xs) after tag keeps differs linked =
    (keeps.kept x.0 _ linked.0 differs, linked_kept old new list (Some x.0) xs after tag keeps differs linked.1)

pub linked_write : (nodes : List Node) (list : ℕ) (before : Option ℕ) (xs : List (ℕ × ℕ)) (after : Option ℕ) (at : ℕ) (new : Node) → IsAbsent at (ids xs) → IsLinked nodes list before xs after → IsLinked (set nodes at new) list before xs after
linked_write nodes list before [] after at new absent linked = tt
linked_write nodes list before (x ∷ xs) after at new absent linked =
    (slice_get-set_other nodes at x.0 new absent.0 ∙ linked.0, linked_write nodes list (Some x.0) xs after at new absent.1 linked.1)

outside_other : (at : Option ℕ) (x : ℕ × ℕ) (xs : List (ℕ × ℕ)) → IsOutside at (x ∷ xs) → IsOther x.0 at × IsOutside at xs
outside_other None x xs outside = (tt, tt)
outside_other (Some at) x xs outside = outside

pub linked_changed : (change : Node → Node) (nodes : List Node) (list : ℕ) (before : Option ℕ) (xs : List (ℕ × ℕ)) (after : Option ℕ) (at : Option ℕ) → IsOutside at xs → IsLinked nodes list before xs after → IsLinked (changed change nodes at) list before xs after
linked_changed change nodes list before [] after at outside linked = tt
linked_changed change nodes list before (x ∷ xs) after at outside linked =
    let parts = outside_other at x xs outside in
    (changed-other change nodes at x.0 parts.0 ∙ linked.0, linked_changed change nodes list (Some x.0) xs after at parts.1 linked.1)

-- the last node names another one after it
pub linked_next : (nodes : List Node) (list : ℕ) (before : Option ℕ) (xs : List (ℕ × ℕ)) (after next : Option ℕ) → IsDistinct (ids xs) → IsLinked nodes list before xs after → IsLinked (changed (λ node. record node { next = next }) nodes (last_or None xs)) list before xs next
linked_next nodes list before [] after next distinct linked = tt
linked_next nodes list before (x ∷ []) after next distinct linked =
    (changed-same (λ node. record node { next = next }) nodes x.0 (listed_node list before x after) linked.0, tt)
linked_next nodes list before (x ∷ y ∷ ys) after next distinct linked = (
  changed-other (λ node. record node { next = next }) nodes (last_or None (y ∷ ys)) x.0 (last_is_other x.0 None (y ∷ ys) tt distinct.0) ∙ linked.0,
  linked_next nodes list (Some x.0) (y ∷ ys) after next distinct.1 linked.1,
)

-- the first node names another one before it
pub linked_previous : (nodes : List Node) (list : ℕ) (before : Option ℕ) (xs : List (ℕ × ℕ)) (after previous : Option ℕ) → IsDistinct (ids xs) → IsLinked nodes list before xs after → IsLinked (changed (λ node. record node { previous = previous }) nodes (first_or None xs)) list previous xs after
linked_previous nodes list before [] after previous distinct linked = tt
linked_previous nodes list before (x ∷ xs) after previous distinct linked = (
  changed-same (λ node. record node { previous = previous }) nodes x.0 (listed_node list before x (first_or after xs)) linked.0,
  linked_changed (λ node. record node { previous = previous }) nodes list (Some x.0) xs after (Some x.0) distinct.0 linked.1,
)
