-- Reads of the node table after a write.
use Rattle.std.specs.Prelude.{⊤}
use Rattle.std.proofs.Common.{◌≡◌, ◌≢◌, ℕ, zero, suc, List, [], ◌∷◌, length, set, Some, None, Option, option_map, slice_get, refl, sym, ap, ◌∙◌, subst, arith, length-set}
use Rattle.ucon_links.specs.declared.table.Node.{Node}
use Rattle.ucon_links.specs.declared.table.State.{State}
use Rattle.ucon_links.specs.declared.table.State.TheVariants.{Listed, Hidden, Spare}
use Rattle.ucon_links.specs.Table.{put_at, changed}

module _ {X : Type 0} where
  pub slice_get-set_same : (xs : List X) (i : ℕ) (old new : X) → slice_get xs i ≡ Some old → slice_get (set xs i new) i ≡ Some new
  slice_get-set_same [] i old new there = cc
  slice_get-set_same (x ∷ xs) zero old new there = refl
  slice_get-set_same (x ∷ xs) (suc i) old new there = slice_get-set_same xs i old new there

  pub slice_get-set_other : (xs : List X) (i j : ℕ) (new : X) → j ≢ i → slice_get (set xs i new) j ≡ slice_get xs j
  slice_get-set_other [] i j new other = refl
  slice_get-set_other (x ∷ xs) zero zero new other = absurd (other refl)
  slice_get-set_other (x ∷ xs) zero (suc j) new other = refl
  slice_get-set_other (x ∷ xs) (suc i) zero new other = refl
  slice_get-set_other (x ∷ xs) (suc i) (suc j) new other = slice_get-set_other xs i j new (λ e. other (ap suc e))

-- which list a node stands in, or which stack: two nodes with different tags are two nodes
abbrev pub state_tag : ℕ → State → ℕ
state_tag list Listed = suc (suc list)
state_tag list (Hidden below) = 1
state_tag list (Spare below) = 0

abbrev pub tag_of : Node → ℕ
tag_of node = state_tag node.list node.state

pub some_same : {X : Type 0} {a b : X} → Some a ≡ Some b → a ≡ b
some_same e = cc

pub one_is_no_list : (list : ℕ) → 1 ≢ suc (suc list)
one_is_no_list list e = omega arith

pub zero_is_no_list : (list : ℕ) → 0 ≢ suc (suc list)
zero_is_no_list list e = omega arith

-- every node with another tag stays as it is
pub record KeepsOthers (tag : ℕ) (old new : List Node) : Type 0 where
  pub kept : (at : ℕ) (node : Node) → slice_get old at ≡ Some node → tag_of node ≢ tag → slice_get new at ≡ Some node

pub keeps_then : {tag : ℕ} {a b c : List Node} → KeepsOthers tag a b → KeepsOthers tag b c → KeepsOthers tag a c
keeps_then first second = record { kept = λ at node there other. second.kept at node (first.kept at node there other) other }

-- the node there, if there is one, has this tag
abbrev pub HasTag : ℕ → List Node → Option ℕ → Type 0
HasTag tag nodes None = ⊤
HasTag tag nodes (Some at) = (node : Node) × (slice_get nodes at ≡ Some node) × (tag_of node ≡ tag)

pub keeps_write : (tag : ℕ) (nodes : List Node) (at : ℕ) (new : Node) → HasTag tag nodes (Some at) → KeepsOthers tag nodes (set nodes at new)
keeps_write tag nodes at new tagged =
    record {
      kept = λ other node there differs.
          slice_get-set_other nodes at other new (λ e. differs (ap tag_of (some_same (sym there ∙ ap (slice_get nodes) e ∙ tagged.1)) ∙ tagged.2)) ∙ there;
    }

-- the node there, if there is one, is another
abbrev pub IsOther : ℕ → Option ℕ → Type 0
IsOther node None = ⊤
IsOther node (Some other) = node ≢ other

pub changed_at : (change : Node → Node) (nodes : List Node) (at : ℕ) (node : Node) → slice_get nodes at ≡ Some node → changed change nodes (Some at) ≡ set nodes at (change node)
changed_at change nodes at node there = ap (λ found. put_at nodes at (option_map change found)) there

put_at-other : (nodes : List Node) (at : ℕ) (found : Option Node) (node : ℕ) → node ≢ at → slice_get (put_at nodes at found) node ≡ slice_get nodes node
put_at-other nodes at None node other = refl
put_at-other nodes at (Some n) node other = slice_get-set_other nodes at node n other

pub changed-other : (change : Node → Node) (nodes : List Node) (at : Option ℕ) (node : ℕ) → IsOther node at → slice_get (changed change nodes at) node ≡ slice_get nodes node
changed-other change nodes None node other = refl
changed-other change nodes (Some at) node other = put_at-other nodes at (option_map change (slice_get nodes at)) node other

pub changed-same : (change : Node → Node) (nodes : List Node) (at : ℕ) (node : Node) → slice_get nodes at ≡ Some node → slice_get (changed change nodes (Some at)) at ≡ Some (change node)
changed-same change nodes at node there = rw (changed_at change nodes at node there) (slice_get-set_same nodes at node (change node) there)

pub keeps_changed : (change : Node → Node) (tag : ℕ) (nodes : List Node) (at : Option ℕ) → HasTag tag nodes at → KeepsOthers tag nodes (changed change nodes at)
keeps_changed change tag nodes None tagged = record { kept = λ at node there other. there }
keeps_changed change tag nodes (Some at) tagged =
    subst (KeepsOthers tag nodes) (sym (changed_at change nodes at tagged.0 tagged.1)) (keeps_write tag nodes at (change tagged.0) tagged)

length-put_at : (nodes : List Node) (at : ℕ) (found : Option Node) → length (put_at nodes at found) ≡ length nodes
length-put_at nodes at None = refl
length-put_at nodes at (Some n) = length-set nodes at n

pub length-changed : (change : Node → Node) (nodes : List Node) (at : Option ℕ) → length (changed change nodes at) ≡ length nodes
length-changed change nodes None = refl
length-changed change nodes (Some at) = length-put_at nodes at (option_map change (slice_get nodes at))
