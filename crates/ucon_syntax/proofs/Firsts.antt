-- The first mark, and lists of marks beside lists of tokens.
use Rattle.std.proofs.Common.{◌≡◌, ◌<◌, suc, ◌⊎◌, inl, inr, List, [], ◌∷◌, ◌++◌, length, length-append, drop, Option, Some, None, refl, sym, ap, ◌∙◌, arith}
use Rattle.ucon_base.specs.Tokens.{Token}
use Rattle.ucon_model.specs.Forms.{Terminal, word, number, text, symbol, as_token, Limit, Marked, bare, IsClean}
use Rattle.ucon_model.specs.Spells.{flaw_in}

head_or : Marked → List Marked → Marked
head_or d [] = d
head_or d (m ∷ ms) = m

pub record SameMark (f g : List Marked) (t u : Terminal) (l k : Limit) : Type 0 where
  pub fronts : f ≡ g
  pub terminals : t ≡ u
  pub limits : l ≡ k

some_is : (l k : Limit) → (let o : Option Limit = Some l in o) ≡ Some k → l ≡ k
some_is l k e = cc

some_none : {Q : Type 0} (l : Limit) → (let o : Option Limit = Some l in o) ≡ None → Q
some_none l e = absurd cc

-- the first mark of a list is the only first one
pub same_mark : (f g : List Marked) (t u : Terminal) (l k : Limit) (ms ns : List Marked) → IsClean f → IsClean g → f ++ (t, Some l) ∷ ms ≡ g ++ (u, Some k) ∷ ns → SameMark f g t u l k
unfolding head_or
same_mark [] [] t u l k ms ns cf cg e =
    let h = ap (head_or (t, None)) e in
    record { fronts = refl; terminals = ap (λ (m : Marked). m.0) h; limits = some_is l k (ap (λ (m : Marked). m.1) h) }
same_mark [] ((v, None) ∷ g) t u l k ms ns cf cg e = let h = ap (head_or (t, None)) e in some_none l (ap (λ (m : Marked). m.1) h)
same_mark [] ((v, Some j) ∷ g) t u l k ms ns cf cg e = absurd cg
same_mark ((v, None) ∷ f) [] t u l k ms ns cf cg e = let h = ap (head_or (t, None)) e in some_none k (sym (ap (λ (m : Marked). m.1) h))
same_mark ((v, Some j) ∷ f) g t u l k ms ns cf cg e = absurd cf
same_mark ((v, None) ∷ f) ((w, None) ∷ g) t u l k ms ns cf cg e =
    let h : v ≡ w = ap (λ (m : Marked). m.0) (ap (head_or (t, None)) e) in
    let s = same_mark f g t u l k ms ns cf cg (ap (drop 1) e) in
    record { fronts = ap (λ (x : Terminal). (x, None) ∷ f) h ∙ ap (λ (x : List Marked). (w, None) ∷ x) s.fronts; terminals = s.terminals; limits = s.limits }
same_mark ((v, None) ∷ f) ((w, Some j) ∷ g) t u l k ms ns cf cg e = absurd cg

-- a mark stands behind what is clean
pub mark_behind : (front behind g : List Marked) (t : Terminal) (l : Limit) (more : List Marked) → IsClean front → front ++ behind ≡ g ++ (t, Some l) ∷ more → length more < length behind
unfolding head_or
mark_behind [] behind g t l more c e = omega (arith, ap length e, length-append g ((t, Some l) ∷ more))
mark_behind ((v, None) ∷ front) behind [] t l more c e = let h = ap (head_or (t, None)) e in some_none l (sym (ap (λ (m : Marked). m.1) h))
mark_behind ((v, None) ∷ front) behind (n ∷ g) t l more c e = mark_behind front behind g t l more c (ap (drop 1) e)
mark_behind ((v, Some j) ∷ front) behind g t l more c e = absurd c

pub length-bare : (ms : List Marked) → length (bare ms) ≡ length ms
length-bare [] = refl
length-bare (m ∷ ms) = ap suc (length-bare ms)

-- marked tokens whose bare ones come apart
pub record Split (ms : List Marked) (a b : List Token) : Type 0 where
  pub front : List Marked
  pub behind : List Marked
  pub whole : ms ≡ front ++ behind
  pub first : bare front ≡ a
  pub last : bare behind ≡ b

first_or : Token → List Token → Token
first_or d [] = d
first_or d (t ∷ ts) = t

pub split_bare : (ms : List Marked) (a b : List Token) → bare ms ≡ a ++ b → Split ms a b
unfolding first_or
split_bare ms [] b e = record { front = []; behind = ms; whole = refl; first = refl; last = e }
split_bare [] (t ∷ a) b e = absurd (omega (arith, ap length e))
split_bare (m ∷ ms) (t ∷ a) b e =
    let s = split_bare ms a b (ap (drop 1) e) in
    record { front = m ∷ s.front; behind = s.behind; whole = ap (λ (x : List Marked). m ∷ x) s.whole; first = ap (λ (x : Token). x ∷ bare s.front) (ap (first_or t) e) ∙ ap (λ (x : List Token). t ∷ x) s.first; last = s.last }

terminal_plain : (t : Terminal) → flaw_in (as_token t) ≡ None
terminal_plain (word n) = refl
terminal_plain (number n) = refl
terminal_plain (text n) = refl
terminal_plain (symbol n) = refl

-- the grammar names no token with a flaw
pub bare_plain : (ms : List Marked) (a : List Token) (t : Token) (b : List Token) → bare ms ≡ a ++ t ∷ b → flaw_in t ≡ None
unfolding first_or
bare_plain [] [] t b e = absurd (omega (arith, ap length e))
bare_plain [] (u ∷ a) t b e = absurd (omega (arith, ap length e))
bare_plain (m ∷ ms) [] t b e = ap flaw_in (sym (ap (first_or t) e)) ∙ terminal_plain m.0
bare_plain (m ∷ ms) (u ∷ a) t b e = bare_plain ms a t b (ap (drop 1) e)

-- where two lists of tokens that go on alike come apart
pub record Inside (used pre rest left : List Token) : Type 0 where
  pub token : Token
  pub more : List Token
  pub within : used ≡ pre ++ token ∷ more
  pub left_is : left ≡ token ∷ (more ++ rest)

pub record Behind (rest left : List Token) : Type 0 where
  pub between : List Token
  pub same : rest ≡ between ++ left

pub apart : (used rest pre left : List Token) → used ++ rest ≡ pre ++ left → Inside used pre rest left ⊎ Behind rest left
unfolding first_or
apart [] rest pre left e = inr (record { between = pre; same = e })
apart (t ∷ used) rest [] left e = inl (record { token = t; more = used; within = refl; left_is = sym e })
apart (t ∷ used) rest (u ∷ pre) left e = go (apart used rest pre left (ap (drop 1) e))
  where
    go : Inside used pre rest left ⊎ Behind rest left → Inside (t ∷ used) (u ∷ pre) rest left ⊎ Behind rest left
    go (inl i) = inl (record { token = i.token; more = i.more; within = ap (λ (x : Token). x ∷ used) (ap (first_or t) e) ∙ ap (λ (x : List Token). u ∷ x) i.within; left_is = i.left_is })
    go (inr b) = inr b
