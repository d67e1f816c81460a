-- All lists after a node left one of them or came into it.
use Rattle.std.proofs.Common.{◌≡◌, ◌≢◌, ℕ, suc, ◌+◌, ◌<◌, List, [], ◌∷◌, ◌++◌, map, length, set, sum_by, Some, None, Option, slice_get, refl, sym, ap, ◌∙◌, subst, arith, length-append, length-set, ◌^◌}
use Rattle.std.proofs.lemmas.List.{map-set, get_or-set_same, get_or-set_other}
use Rattle.std.proofs.lemmas.List.Sums.{sum_by-set}
use Rattle.std.proofs.lemmas.Bool.Decides.{eqb_tells}
use Rattle.std.proofs.Math.Seq.{map-set_same}
use Rattle.std.proofs.Common.{inl, inr}
use Rattle.ucon_links.specs.declared.table.Node.{Node}
use Rattle.ucon_links.specs.Lists.{first_or, last_or, list_at}
use Rattle.ucon_links.specs.Layout.{IsList, HoldsLists, listed_node}
use Rattle.ucon_links.specs.Table.{with_first}
use Rattle.ucon_links.proofs.Cells.{tag_of}
use Rattle.ucon_links.proofs.Linked.{linked_kept, linked_write, linked_absent}
use Rattle.ucon_links.proofs.Moves.{joined_over, joined_round, left, came}

-- where a node stands before, no first node changes
with_first-some : (firsts : List (Option ℕ)) (list before : ℕ) (xs : List (ℕ × ℕ)) (next : Option ℕ) → with_first firsts list (last_or (Some before) xs) next ≡ firsts
with_first-some firsts list before [] next = refl
with_first-some firsts list before (x ∷ xs) next = with_first-some firsts list x.0 xs next

pub heads_set : (firsts : List (Option ℕ)) (lists : List (List (ℕ × ℕ))) (list : ℕ) (front old new : List (ℕ × ℕ)) → firsts ≡ map (first_or None) lists → list_at lists list ≡ front ++ old → with_first firsts list (last_or None front) (first_or None new) ≡ map (first_or None) (set lists list (front ++ new))
heads_set firsts lists list [] old new heads there =
    ap (λ all. set all list (first_or None new)) heads ∙ sym (map-set (first_or None) lists list new)
heads_set firsts lists list (x ∷ front) old new heads there =
    with_first-some firsts list x.0 front (first_or None new) ∙ heads
    ∙ sym (map-set_same (first_or None) lists list (x ∷ front ++ new) [] (sym (ap (first_or None) there)))

-- one list is another, and the others stay
each_set : (nodes : List Node) (lists : List (List (ℕ × ℕ))) (list : ℕ) (xs : List (ℕ × ℕ)) → list < length lists → IsList nodes list xs → ((other : ℕ) → other ≢ list → IsList nodes other (list_at lists other)) → (other : ℕ) → IsList nodes other (list_at (set lists list xs) other)
each_set nodes lists list xs within this others other =
    elim (eqb_tells other list) [
      | inl same ↦
          subst (λ at. IsList nodes at (list_at (set lists list xs) at)) (sym same.1)
          (subst (IsList nodes list) (sym (get_or-set_same lists list xs [] within)) this)
      | inr differs ↦ subst (IsList nodes other) (sym (get_or-set_other lists list other xs [] differs.1)) (others other differs.1)
    ]

pub lists_left : (nodes : List Node) (firsts : List (Option ℕ)) (lists : List (List (ℕ × ℕ))) (list : ℕ) (front back : List (ℕ × ℕ)) (x : ℕ × ℕ) (new : Node) → list < length lists → list_at lists list ≡ front ++ x ∷ back → HoldsLists nodes firsts lists → HoldsLists (set (joined_over nodes front back) x.0 new) (with_first firsts list (last_or None front) (first_or None back)) (set lists list (front ++ back))
lists_left nodes firsts lists list front back x new within there holds =
    let gone = left nodes list front back x new (subst (IsList nodes list) there (holds.each list)) in
    record {
      heads = heads_set firsts lists list front (x ∷ back) back holds.heads there;
      count_fits = subst (λ count. count < 2 ^ 32) (sym (length-set lists list (front ++ back))) holds.count_fits;
      each = each_set _ lists list (front ++ back) within gone.is_list (λ other differs.
          record {
            linked = linked_kept nodes _ other None (list_at lists other) None (suc (suc list)) gone.keeps (λ e. differs (omega arith)) (holds.each other).linked;
            distinct = (holds.each other).distinct;
          });
    }

pub lists_came : (nodes : List Node) (firsts : List (Option ℕ)) (lists : List (List (ℕ × ℕ))) (list : ℕ) (front back : List (ℕ × ℕ)) (x : ℕ × ℕ) (old : Node) → list < length lists → list_at lists list ≡ front ++ back → slice_get nodes x.0 ≡ Some old → ((other : ℕ) → tag_of old ≢ suc (suc other)) → HoldsLists nodes firsts lists → HoldsLists (set (joined_round nodes front back x.0) x.0 (listed_node list (last_or None front) x (first_or None back))) (with_first firsts list (last_or None front) (Some x.0)) (set lists list (front ++ x ∷ back))
lists_came nodes firsts lists list front back x old within there found unlisted holds =
    let new = listed_node list (last_or None front) x (first_or None back) in
    let come = came nodes list front back x old found (unlisted list) (subst (IsList nodes list) there (holds.each list)) in
    record {
      heads = heads_set firsts lists list front back (x ∷ back) holds.heads there;
      count_fits = subst (λ count. count < 2 ^ 32) (sym (length-set lists list (front ++ x ∷ back))) holds.count_fits;
      each = each_set _ lists list (front ++ x ∷ back) within come.is_list (λ other differs.
          let linked = (holds.each other).linked in
          record {
            linked = linked_write (joined_round nodes front back x.0) other None (list_at lists other) None x.0 new
                (linked_absent nodes other None (list_at lists other) None x.0 old linked found (unlisted other))
                (linked_kept nodes _ other None (list_at lists other) None (suc (suc list)) come.keeps (λ e. differs (omega arith)) linked);
            distinct = (holds.each other).distinct;
          });
    }

-- no listed node is written
pub lists_write : (nodes : List Node) (firsts : List (Option ℕ)) (lists : List (List (ℕ × ℕ))) (at : ℕ) (old new : Node) → slice_get nodes at ≡ Some old → ((other : ℕ) → tag_of old ≢ suc (suc other)) → HoldsLists nodes firsts lists → HoldsLists (set nodes at new) firsts lists
lists_write nodes firsts lists at old new found unlisted holds = record {
  heads = holds.heads;
  count_fits = holds.count_fits;
  each = λ list.
      let linked = (holds.each list).linked in
      record {
        linked = linked_write nodes list None (list_at lists list) None at new (linked_absent nodes list None (list_at lists list) None at old linked found (unlisted list)) linked;
        distinct = (holds.each list).distinct;
      };
}

pub counted_set : (lists : List (List (ℕ × ℕ))) (list : ℕ) (front old new : List (ℕ × ℕ)) → list < length lists → list_at lists list ≡ front ++ old → sum_by length (set lists list (front ++ new)) + length old ≡ sum_by length lists + length new
counted_set lists list front old new within there =
    let change = sum_by-set length lists list (front ++ new) [] within in
    let before = ap length there ∙ length-append front old in
    let after = length-append front new in
    omega arith
