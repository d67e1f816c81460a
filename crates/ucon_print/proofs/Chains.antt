-- Chains as they are printed, one operand more at a time.
use Rattle.std.proofs.Common.{◌≡◌, ℕ, suc, ◌+◌, ◌<◌, List, [], ◌∷◌, ◌++◌, length, None, refl, sym, ap, ◌∙◌, subst, arith, length-append, append_assoc}
use Rattle.std.proofs.lemmas.List.{append-nil}
use Rattle.ucon_model.specs.Plain.{Bytes}
use Rattle.ucon_model.specs.Forms.{Terminal, as_token, operand, Marked, beyond, Form, further_tokens, further_tree, AreProper, chain, bare, IsClean}
use Rattle.ucon_print.proofs.Pieces.{Any, Puts, puts_both, Printed, bare_append, clean_append, not_beyond}

-- a chain of so many operands
pub record Chained {O A : Type 0} (E : Bytes → Type 0) (token : O → Terminal) (join : O → A → A → A) (X : Form A) (x : A) (n : ℕ) (bs : Bytes) : Type 0 where
  pub first : X.Written
  pub others : List (O × X.Written)
  pub size : suc (length others) ≡ n
  pub tree : further_tree join X (X.tree first) others ≡ x
  pub proper : X.IsProper first × AreProper X others
  pub clean : IsClean (X.tokens first ++ further_tokens token X 1 others)
  pub puts : Puts E bs (bare (X.tokens first ++ further_tokens token X 1 others))

module _ {O A : Type 0} (token : O → Terminal) (join : O → A → A → A) (X : Form A) where
  pub chained_printed : (E : Bytes → Type 0) (x : A) (n : ℕ) (bs : Bytes) → Chained E token join X x n bs → Printed E (chain token join X) x bs
  chained_printed E x n bs c = record { written = (c.first, c.others); tree = c.tree; proper = c.proper; clean = c.clean; puts = c.puts }

  pub same_chained : (E : Bytes → Type 0) (x : A) (m n : ℕ) (bs cs : Bytes) → m ≡ n → bs ≡ cs → Chained E token join X x m bs → Chained E token join X x n cs
  same_chained E x m n bs cs e f c = record { first = c.first; others = c.others; size = c.size ∙ e; tree = c.tree; proper = c.proper; clean = c.clean; puts = subst (λ z. Puts E z (bare (X.tokens c.first ++ further_tokens token X 1 c.others))) f c.puts }

  pub chain_one : (E : Bytes → Type 0) (x : A) (bs : Bytes) → Printed E X x bs → Chained E token join X x 1 bs
  chain_one E x bs p = record {
    first = p.written;
    others = [];
    size = refl;
    tree = p.tree;
    proper = (p.proper, tt);
    clean = subst IsClean (sym (append-nil (X.tokens p.written))) p.clean;
    puts = subst (λ z. Puts E bs (bare z)) (sym (append-nil (X.tokens p.written))) p.puts;
  }

  tree_more : (all : A) (os : List (O × X.Written)) (o : O) (w : X.Written) → further_tree join X all (os ++ (o, w) ∷ []) ≡ join o (further_tree join X all os) (X.tree w)
  tree_more all [] o w = refl
  tree_more all (q ∷ os) o w = tree_more (join q.0 all (X.tree q.1)) os o w

  proper_more : (os : List (O × X.Written)) (o : O) (w : X.Written) → AreProper X os → X.IsProper w → AreProper X (os ++ (o, w) ∷ [])
  proper_more [] o w all one = (one, tt)
  proper_more (q ∷ os) o w all one = (all.0, proper_more os o w all.1 one)

  tokens_more : (m : ℕ) (os : List (O × X.Written)) (o : O) (w : X.Written) → m + length os < 32 → further_tokens token X m (os ++ (o, w) ∷ []) ≡ further_tokens token X m os ++ (token o, None) ∷ X.tokens w
  tokens_more m [] o w less = let free = not_beyond operand 32 m (omega arith) in rw free (ap (λ z. (token o, None) ∷ z) (append-nil (X.tokens w)))
  tokens_more m (q ∷ os) o w less =
      ap (λ z. (token q.0, beyond operand 32 m) ∷ z)
      (ap (λ z. X.tokens q.1 ++ z) (tokens_more (suc m) os o w (omega arith))
      ∙ sym (append_assoc (X.tokens q.1) (further_tokens token X (suc m) os) ((token o, None) ∷ X.tokens w)))

  pub chain_more : (F E : Bytes → Type 0) (x y : A) (n : ℕ) (o : O) (bs ws cs : Bytes) → Chained F token join X x n bs → n < 32 → Puts Any ws (as_token (token o) ∷ []) → ((rest : Bytes) → F (ws ++ rest)) → Printed E X y cs → Chained E token join X (join o x y) (suc n) (bs ++ (ws ++ cs))
  chain_more F E x y n o bs ws cs c less op begins p =
      let old : List Marked = X.tokens c.first ++ further_tokens token X 1 c.others in
      let new : List Marked = (token o, None) ∷ X.tokens p.written in
      let others : List (O × X.Written) = c.others ++ (o, p.written) ∷ [] in
      let whole : X.tokens c.first ++ further_tokens token X 1 others ≡ old ++ new =
      ap (λ z. X.tokens c.first ++ z) (tokens_more 1 c.others o p.written (omega (arith, c.size)))
      ∙ sym (append_assoc (X.tokens c.first) (further_tokens token X 1 c.others) new) in
      record {
        first = c.first;
        others = others;
        size = omega (arith, c.size, length-append c.others ((o, p.written) ∷ []));
        tree = tree_more (X.tree c.first) c.others o p.written ∙ ap (λ z. join o z (X.tree p.written)) c.tree ∙ ap (λ z. join o x z) p.tree;
        proper = (c.proper.0, proper_more c.others o p.written c.proper.1 p.proper);
        clean = subst IsClean (sym whole) (clean_append old new c.clean p.clean);
        puts = subst (λ z. Puts E (bs ++ (ws ++ cs)) (bare z)) (sym whole)
            (subst (λ z. Puts E (bs ++ (ws ++ cs)) z) (sym (bare_append old new))
            (puts_both F E bs (ws ++ cs) (bare old) (bare new) c.puts
            (puts_both Any E ws cs (as_token (token o) ∷ []) (bare (X.tokens p.written)) op p.puts (λ rest e. tt))
            (λ rest e. subst F (sym (append_assoc ws cs rest)) (begins (cs ++ rest)))));
      }
