-- Each move of an inbox keeps its rule.
use Rattle.std.proofs.Common.{◌≡◌, ◌≢◌, ℕ, zero, suc, Bool, true, false, true≢false, List, [], ◌∷◌, ◌++◌, length, map, set, sym, refl, ap, ◌∙◌, subst, ⊎_elim, append_assoc}
use mathlib.Core.Option.{some, some-ne-none}
use lib.ListN.{get_elem?}
use Rattle.crossbeam_channel.specs.Fifo.{Pushes, Pops, Forks, Merges, Learns}
use Rattle.atomic_table.proofs.Lists.{at_set, at_snoc}
use Rattle.ucon_client.specs.declared.item.Item.{Item}
use Rattle.ucon_client.specs.declared.item.Item.TheVariants.{Line, End}
use Rattle.ucon_client.specs.declared.rule.Told.{Told}
use Rattle.ucon_client.specs.declared.rule.Known.{Known}
use Rattle.ucon_client.specs.Inbox.{nothing, told_after, end_word, items}
use Rattle.ucon_client.specs.Rule.{known, Fits, InOrder}

at_end : {A : Type 0} (l : List A) (a b : A) (j : ℕ) → get_elem? l j ≢ some b → get_elem? (l ++ a ∷ []) j ≡ some b → j ≡ length l
at_end [] a b zero n e = refl
at_end [] a b (suc j) n e = absurd (some-ne-none b (sym e))
at_end (x ∷ xs) a b zero n e = absurd (n e)
at_end (x ∷ xs) a b (suc j) n e = ap suc (at_end xs a b j n e)

module _ {T : Type 0} where
  -- an item more stands behind the others
  line_more : (xs : List T) (x : T) → items (record { lines = xs ++ x ∷ []; ended = false }) ≡ items (record { lines = xs; ended = false }) ++ Line x ∷ []
  line_more [] x = refl
  line_more (y ∷ ys) x = ap (λ l. Line y ∷ l) (line_more ys x)

  end_more : (xs : List T) → items (record { lines = xs; ended = true }) ≡ items (record { lines = xs; ended = false }) ++ End ∷ []
  end_more [] = refl
  end_more (y ∷ ys) = ap (λ l. Line y ∷ l) (end_more ys)

  one_more : (xs : List T) (ended : Bool) (x : Item T) → ended ≡ false → items (told_after (record { lines = xs; ended = ended }) x) ≡ items (record { lines = xs; ended = ended }) ++ x ∷ []
  one_more xs false (Line x) e = line_more xs x
  one_more xs false End e = end_more xs
  one_more xs true x e = absurd (true≢false e)

  item_more : (t : Told T) (x : Item T) → t.ended ≡ false → items (told_after t x) ≡ items t ++ x ∷ []
  item_more t x e = one_more t.lines t.ended x e

  abbrev AtEachPass : (ℕ → Known T → Type 0) → List (Known T) → Type 0
  AtEachPass F views = (pass : ℕ) (v : Known T) → get_elem? views pass ≡ some v → F pass v

  each_set : (F : ℕ → Known T → Type 0) (views : List (Known T)) (pass : ℕ) (w : Known T) → F pass w → ((j : ℕ) (u : Known T) → j ≢ pass → get_elem? views j ≡ some u → F j u) → AtEachPass F (set views pass w)
  each_set F views pass w mine others j u e = ⊎_elim (λ (x : (j ≡ pass) × (w ≡ u)). subst (λ (y : ℕ × Known T). F y.0 y.1) (λ i. (sym x.0 i, x.1 i)) mine)
      (λ (x : (j ≢ pass) × (get_elem? views j ≡ some u)). others j u x.0 x.1) (at_set views pass j w u e)

  pub begins : InOrder {T = T} [] (known true true nothing nothing ∷ [])
  begins = (0, 0, nothing, nothing, refl, each_set (Fits 0 0 nothing nothing) (known true true nothing nothing ∷ []) 0 (known true true nothing nothing) ((λ _. (refl, refl)), λ _. (refl, refl)) (λ j u other e. absurd (other (at_end [] _ u j (λ x. some-ne-none u (sym x)) e))))

  pub feeds : (n pass : ℕ) (v : Known T) (x : Item T) → v.feeds ≡ true → v.fed.ended ≡ false → Pushes InOrder n pass v x (λ w. w ≡ record v { fed = told_after v.fed x })
  feeds n pass v x may going held views _ h at =
      let w : Known T = record v { fed = told_after v.fed x } in
      let mine = h.5 pass v at in
      let same : v.fed ≡ h.2 = (mine.0 may).1 in
      let fed = told_after h.2 x in (
        w,
        (
          h.0,
          h.1,
          fed,
          h.3,
          item_more h.2 x (ap (λ (t : Told T). t.ended) (sym same) ∙ going) ∙ (ap (λ l. l ++ x ∷ []) h.4 ∙ append_assoc (items h.3) held (x ∷ [])),
          each_set (Fits h.0 h.1 fed h.3) views pass w ((λ _. ((mine.0 may).0, ap (λ t. told_after t x) same)), mine.1)
              (λ j u other e. ((λ p. absurd (other (((h.5 j u e).0 p).0 ∙ sym (mine.0 may).0))), (h.5 j u e).1)),
        ),
        refl,
      )

  pub takes : (pass : ℕ) (v : Known T) → v.takes ≡ true → v.taken.ended ≡ false → Pops InOrder pass v (λ x w. w ≡ record v { taken = told_after v.taken x })
  takes pass v may going x held views h at =
      let w : Known T = record v { taken = told_after v.taken x } in
      let mine = h.5 pass v at in
      let same : v.taken ≡ h.3 = (mine.1 may).1 in
      let taken = told_after h.3 x in (
        w,
        (
          h.0,
          h.1,
          h.2,
          taken,
          h.4 ∙ (sym (append_assoc (items h.3) (x ∷ []) held) ∙ ap (λ l. l ++ held) (sym (item_more h.3 x (ap (λ (t : Told T). t.ended) (sym same) ∙ going)))),
          each_set (Fits h.0 h.1 h.2 taken) views pass w (mine.0, λ _. ((mine.1 may).0, ap (λ t. told_after t x) same))
              (λ j u other e. ((h.5 j u e).0, λ p. absurd (other (((h.5 j u e).1 p).0 ∙ sym (mine.1 may).0)))),
        ),
        refl,
      )

  pub forks : (pass : ℕ) (v : Known T) → v.feeds ≡ true → v.takes ≡ true → Forks InOrder pass v (known true false v.fed nothing) (known false true nothing v.taken)
  forks pass v a b held views h at =
      let l : Known T = known true false v.fed nothing in
      let r : Known T = known false true nothing v.taken in
      let mine = h.5 pass v at in
      let vs : List (Known T) = set views pass l in
      let Old : ℕ → Known T → Type 0 = λ j u. (u.feeds ≡ true → (j ≡ h.0) × (u.fed ≡ h.2)) × (u.takes ≢ true) in
      let old : AtEachPass Old vs = each_set Old views pass l ((λ _. mine.0 a), λ p. true≢false (sym p)) (λ j u other e. ((h.5 j u e).0, λ p. other (((h.5 j u e).1 p).0 ∙ sym (mine.1 b).0))) in (
        h.0,
        length vs,
        h.2,
        h.3,
        h.4,
        λ j u e. ⊎_elim (λ x. ((old j u x).0, λ p. absurd ((old j u x).1 p)))
            (λ (is : r ≡ u). ((λ p. absurd (true≢false (sym (ap (λ (y : Known T). y.feeds) is ∙ p)))), λ p. (at_end vs r u j (λ x. (old j u x).1 p) e, ap (λ (y : Known T). y.taken) (sym is) ∙ (mine.1 b).1))) (at_snoc vs r u j e),
      )

  pub merges : (pass : ℕ) (v : Known T) (other : ℕ) (u : Known T) → v.feeds ≡ true → u.takes ≡ true → Merges InOrder pass v other u (known true true v.fed u.taken) (known false false nothing nothing)
  merges pass v other u a b held views h at two at' =
      let both : Known T = known true true v.fed u.taken in
      let mine = h.5 pass v at in
      let vs : List (Known T) = set views pass both in
      let was : get_elem? views other ≡ some u = ⊎_elim (λ x. absurd (two x.0)) (λ x. x.1) (at_set views pass other both u at') in
      let theirs = (h.5 other u was).1 b in
      let Now : ℕ → Known T → Type 0 = λ j y. j ≢ other → Fits h.0 pass h.2 h.3 j y in
      let now : AtEachPass Now vs = each_set Now views pass both (λ _. ((λ _. mine.0 a), λ _. (refl, theirs.1))) (λ j y _ e apart. ((h.5 j y e).0, λ p. absurd (apart (((h.5 j y e).1 p).0 ∙ sym theirs.0)))) in
      (h.0, pass, h.2, h.3, h.4, each_set (Fits h.0 pass h.2 h.3) vs other (known false false nothing nothing) ((λ p. absurd (true≢false (sym p))), λ p. absurd (true≢false (sym p))) (λ j y apart e. now j y e apart))

  pub totals : (pass : ℕ) (v : Known T) → v.feeds ≡ true → v.takes ≡ true → Learns InOrder pass v (λ held. items v.fed ≡ items v.taken ++ held)
  totals pass v a b held views h at =
      let mine = h.5 pass v at in
      ap items (mine.0 a).1 ∙ (h.4 ∙ ap (λ l. items l ++ held) (sym (mine.1 b).1))

  -- lines that begin a list of lines, whatever ends the two
  pub beginning : (xs ys : List T) (a b : Bool) (held : List (Item T)) → map Line xs ++ end_word a ≡ (map Line ys ++ end_word b) ++ held → (rest : List T) × (xs ≡ ys ++ rest)
  beginning xs [] a b held e = (xs, refl)
  beginning [] (y ∷ ys) true b held e = absurd (cc e)
  beginning [] (y ∷ ys) false b held e = absurd (cc e)
  beginning (x ∷ xs) (y ∷ ys) a b held e = let r = beginning xs ys a b held (cc e) in (r.0, cc (e, r.1))

  same_lines : (xs ys : List T) (a : Bool) (held : List (Item T)) → map Line xs ++ end_word a ≡ (map Line ys ++ end_word true) ++ held → (xs ≡ ys) × (a ≡ true)
  same_lines [] [] true held e = (refl, refl)
  same_lines [] [] false held e = absurd (cc e)
  same_lines (x ∷ xs) [] a held e = absurd (cc e)
  same_lines [] (y ∷ ys) true held e = absurd (cc e)
  same_lines [] (y ∷ ys) false held e = absurd (cc e)
  same_lines (x ∷ xs) (y ∷ ys) a held e = let r = same_lines xs ys a held (cc e) in (cc (e, r.0), r.1)

  -- where the end word was taken, that was all
  pub whole : (t u : Told T) (held : List (Item T)) → items t ≡ items u ++ held → u.ended ≡ true → t ≡ u
  whole t u held e p =
      let r = same_lines t.lines u.lines t.ended held (e ∙ ap (λ (b : Bool). (map Line u.lines ++ end_word b) ++ held) p) in
      λ i. record { lines = r.0 i; ended = (r.1 ∙ sym p) i }
