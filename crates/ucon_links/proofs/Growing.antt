-- More room and more lists.
use Rattle.std.proofs.Common.{◌≡◌, ℕ, zero, suc, ◌+◌, ◌*◌, ◌-◌, ◌^◌, ◌<◌, ◌≤◌, List, [], ◌∷◌, ◌++◌, map, length, take, replicate, sum_by, Some, None, Option, slice_get, refl, sym, ap, ◌∙◌, subst, arith, length-append}
use Rattle.std.proofs.lemmas.List.{map-append, take_all, length-replicate}
use Rattle.std.proofs.lemmas.List.Sums.{sum_by-append}
use Rattle.std.proofs.lemmas.List.Folds.{sum_by-replicate}
use Rattle.ucon_links.specs.declared.table.Node.{Node}
use Rattle.ucon_links.specs.Lists.{Lists, first_or, list_at}
use Rattle.ucon_links.specs.Layout.{IsList, Holds, spare_node}
use Rattle.ucon_links.proofs.Cells.{KeepsOthers}
use Rattle.ucon_links.proofs.Linked.{linked_kept}
use Rattle.ucon_links.proofs.Stacks.{hidden_kept, in_lists_more, spare_kept, stack_absent_past}

slice_get-push : (nodes : List Node) (new : Node) (at : ℕ) (node : Node) → slice_get nodes at ≡ Some node → slice_get (nodes ++ new ∷ []) at ≡ Some node
slice_get-push [] new at node there = let no : ⊥ = cc in absurd no
slice_get-push (x ∷ nodes) new zero node there = there
slice_get-push (x ∷ nodes) new (suc at) node there = slice_get-push nodes new at node there

slice_get-last : (nodes : List Node) (new : Node) → slice_get (nodes ++ new ∷ []) (length nodes) ≡ Some new
slice_get-last [] new = refl
slice_get-last (x ∷ nodes) new = slice_get-last nodes new

keeps_push : (tag : ℕ) (nodes : List Node) (new : Node) → KeepsOthers tag nodes (nodes ++ new ∷ [])
keeps_push tag nodes new = record { kept = λ at node there other. slice_get-push nodes new at node there }

-- one more spare node
pub adds_spare : (nodes : List Node) (firsts : List (Option ℕ)) (newest unused : Option ℕ) (v : Lists) (spares : List ℕ) → Holds nodes firsts newest unused v spares → suc (length nodes) < 2 ^ 32 - 1 → Holds (nodes ++ spare_node unused ∷ []) firsts newest (Some (length nodes)) (record v { spare = v.spare + 1 }) (length nodes ∷ spares)
adds_spare nodes firsts newest unused v spares holds fits =
    let more = nodes ++ spare_node unused ∷ [] in
    let size : length more ≡ suc (length nodes) = omega (arith, length-append nodes (spare_node unused ∷ [])) in
    record {
      listed = record {
        heads = holds.listed.heads;
        count_fits = holds.listed.count_fits;
        each = λ list. record {
          linked = linked_kept nodes more list None (list_at v.lists list) None 0 (keeps_push 0 nodes (spare_node unused)) (λ e. omega arith) (holds.listed.each list).linked;
          distinct = (holds.listed.each list).distinct;
        };
      };
      hidden = hidden_kept nodes more newest (length v.lists) v.hidden 0 (keeps_push 0 nodes (spare_node unused)) (λ e. omega arith) holds.hidden;
      spare = record {
        stack = (unused, refl, slice_get-last nodes (spare_node unused), (spare_kept nodes more unused spares 1 (keeps_push 1 nodes (spare_node unused)) (λ e. omega arith) holds.spare).stack);
        distinct = (stack_absent_past (λ node. node) (λ below node. spare_node below) nodes unused spares (length nodes) (le_self (length nodes)) holds.spare.stack, holds.spare.distinct);
      };
      spare_count = suc_one (length spares) v.spare holds.spare_count;
      counted = one_more (sum_by length v.lists + length v.hidden) v.spare (length nodes) holds.counted ∙ sym size;
      fits = subst (λ count. count < 2 ^ 32 - 1) (sym size) fits;
    }
  where
    le_self : (n : ℕ) → n ≤ n
    le_self n = omega arith

    suc_one : (a b : ℕ) → a ≡ b → suc a ≡ b + 1
    suc_one a b e = omega arith

    one_more : (a b c : ℕ) → a + b ≡ c → a + (b + 1) ≡ suc c
    one_more a b c e = omega arith

-- an empty list, and no list, hold the same nodes
list_at-empty : (n list : ℕ) → list_at (replicate n []) list ≡ []
list_at-empty zero list = refl
list_at-empty (suc n) zero = refl
list_at-empty (suc n) (suc list) = list_at-empty n list

list_at-more : (lists : List (List (ℕ × ℕ))) (n list : ℕ) → list_at (lists ++ replicate n []) list ≡ list_at lists list
list_at-more [] n list = list_at-empty n list
list_at-more (xs ∷ lists) n zero = refl
list_at-more (xs ∷ lists) n (suc list) = list_at-more lists n list

firsts_of_empty : (n : ℕ) → map (first_or None) (replicate n []) ≡ replicate n None
firsts_of_empty zero = refl
firsts_of_empty (suc n) = ap (λ firsts. None ∷ firsts) (firsts_of_empty n)

length-empty : (lists : List (List (ℕ × ℕ))) (n : ℕ) → length (lists ++ replicate n []) ≡ length lists + n
length-empty lists n = length-append lists (replicate n []) ∙ ap (λ count. length lists + count) (length-replicate n [])

-- more empty lists
pub adds_lists : (nodes : List Node) (firsts : List (Option ℕ)) (newest unused : Option ℕ) (v : Lists) (spares : List ℕ) (n : ℕ) → Holds nodes firsts newest unused v spares → length v.lists + n < 2 ^ 32 → Holds nodes (firsts ++ replicate n None) newest unused (record v { lists = v.lists ++ replicate n [] }) spares
adds_lists nodes firsts newest unused v spares n holds fits =
    let size = length-append v.lists (replicate n []) in
    let same : sum_by length (v.lists ++ replicate n []) ≡ sum_by length v.lists = sum_by-append length v.lists (replicate n []) ∙ none_more (sum_by length v.lists) n _ (sum_by-replicate length n []) in
    record {
      listed = record {
        heads = ap (λ all. all ++ replicate n None) holds.listed.heads ∙ ap (λ all. map (first_or None) v.lists ++ all) (sym (firsts_of_empty n)) ∙ sym (map-append (first_or None) v.lists (replicate n []));
        count_fits = subst (λ count. count < 2 ^ 32) (sym (length-empty v.lists n)) fits;
        each = λ list. subst (IsList nodes list) (sym (list_at-more v.lists n list)) (holds.listed.each list);
      };
      hidden = record {
        stack = holds.hidden.stack;
        distinct = holds.hidden.distinct;
        in_lists = in_lists_more (length v.lists) (length (v.lists ++ replicate n [])) v.hidden (omega (arith, size)) holds.hidden.in_lists;
      };
      spare = holds.spare;
      spare_count = holds.spare_count;
      counted = ap (λ count. count + length v.hidden + v.spare) same ∙ holds.counted;
      fits = holds.fits;
    }
  where
    none_more : (a n b : ℕ) → b ≡ n * 0 → a + b ≡ a
    none_more a n b e = omega arith

pub resized : (firsts : List (Option ℕ)) (total size n : ℕ) → total ≡ size + n → size ≡ length firsts → take total firsts ++ replicate (total - size) None ≡ firsts ++ replicate n None
resized firsts total size n total_is size_is =
    let count : total - size ≡ n = omega arith in
    ap (λ front. front ++ replicate (total - size) None) (take_all total firsts (omega arith)) ∙ ap (λ k. firsts ++ replicate k None) count
