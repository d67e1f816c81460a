-- A policy that a text spells is of names and values.
use Rattle.std.proofs.Common.{◌≡◌, ℕ, zero, suc, ◌+◌, ◌<◌, ◌≤◌, inl, inr, Bool, true, false, List, [], ◌∷◌, ◌++◌, length, take, Some, None, refl, sym, ap, subst, arith, nat_lt, le-leb, cond}
use Rattle.std.specs.Prelude.{ℤ, pos, negsuc, neg_ℤ, nat_le, IsTrue, ⊤}
use Rattle.std.specs.List.{list_all}
use Rattle.std.proofs.lemmas.Bool.{and_from}
use Rattle.std.proofs.lemmas.Bool.Decides.{nat_tests}
use Rattle.std.proofs.lemmas.Int.{ints}
use Rattle.ucon_base.specs.Elements.{Each, each_parts}
use Rattle.ucon_base.specs.NameBytes.{is_name}
use Rattle.ucon_base.specs.Numbers.{InRange}
use Rattle.ucon_base.specs.Spelling.{IsValue}
use Rattle.ucon_base.specs.TextBytes.{is_text}
use Rattle.ucon_base.specs.Tokens.{Token, star}
use Rattle.ucon_base.specs.Value.{is_rising}
use Rattle.ucon_base.specs.declared.value.Kind.{Kind}
use Rattle.ucon_base.specs.declared.value.Kind.TheVariants as kinds
use Rattle.ucon_base.specs.declared.value.Value.TheVariants as values
use Rattle.ucon_model.specs.declared.policy.AttrDecl.{AttrDecl}
use Rattle.ucon_model.specs.declared.policy.EnvDecl.{EnvDecl}
use Rattle.ucon_model.specs.Plain.{Bytes, PlainExpr, lit, read, plus, minus, times, size, PlainRight, PlainPolicy}
use Rattle.ucon_model.specs.Forms.{Terminal, as_token, item, Marked, beyond, Form, Items, items_tokens, items_tree, AreProperItems, IsClean, bare, further_tokens, further_tree, AreProper, chain, symbol, text}
use Rattle.ucon_model.specs.Grammar.{a_policy, a_kind, a_literal, some_texts, more_texts, an_int, an_attr, an_env, a_right, an_update, an_expr, SideCount, count_side, WhenCount, count_when, SumSign, sum_token, sum_tree, adding, subtracting, expr_of_depth, expr_with, term_with, factor_with, one_less, attrs, envs, preds, updates}
use Rattle.ucon_model.specs.Spells.{Spells}
use Rattle.ucon_store.proofs.Spelled.Tokens.{IsNumber, IsProper, tokens_proper}

-- ---- what a policy is of

abbrev pub IsKind : Kind → Type 0
IsKind (kinds.Int low high) = InRange low × InRange high
IsKind k = ⊤

pub record IsAttr (d : AttrDecl) : Type 0 where
  pub name : IsTrue (is_name d.name)
  pub kind : IsKind d.kind
  pub start : IsValue d.start

pub record IsEnv (d : EnvDecl) : Type 0 where
  pub name : IsTrue (is_name d.name)
  pub start : IsValue d.start

-- each literal is a value
abbrev pub IsOfValues : PlainExpr → Type 0
IsOfValues (lit v) = IsValue v
IsOfValues (read place) = ⊤
IsOfValues (plus a b) = IsOfValues a × IsOfValues b
IsOfValues (minus a b) = IsOfValues a × IsOfValues b
IsOfValues (times a b) = IsOfValues a × IsOfValues b
IsOfValues (size a) = IsOfValues a

abbrev pub HasValues : PlainRight → Type 0
HasValues r = Each (λ u. IsOfValues u.value) r.updates

pub record IsOfNames (P : PlainPolicy) : Type 0 where
  pub attrs : Each IsAttr P.attrs
  pub envs : Each IsEnv P.envs
  pub rights : Each HasValues P.rights

-- ---- tokens that may stand and pass no limit

abbrev IsFine : Marked → Type 0
IsFine (t, None) = IsProper (as_token t)
IsFine (t, Some limit) = ⊥

fine_by : (ms : List Marked) → Each IsProper (bare ms) → IsClean ms → Each IsFine ms
fine_by [] h clean = tt
fine_by ((t, None) ∷ ms) h clean = (h.0, fine_by ms h.1 clean)
fine_by ((t, Some limit) ∷ ms) h clean = absurd clean

-- what is written is fine and allowed, and so is what it stands for
abbrev Stands : {A : Type 0} → Form A → (A → Type 0) → Type 0
Stands X Q = (s : X.Written) → Each IsFine (X.tokens s) → X.IsProper s → Q (X.tree s)

-- ---- literals

number_in : (n : ℤ) → IsNumber n → InRange n
number_in (pos n) few = record { low = omega (arith, ints); high = omega (arith, ints, few) }
number_in (negsuc n) few = absurd few

negative_in : (n : ℤ) → IsNumber n → InRange (neg_ℤ n)
negative_in (pos n) few = record { low = omega (arith, ints, few); high = omega (arith, ints) }
negative_in (negsuc n) few = absurd few

int_stands : Stands an_int InRange
int_stands (inl n) h proper = negative_in n h.1.0
int_stands (inr n) h proper = number_in n h.0

not_beyond : (t : Terminal) (n : ℕ) → IsFine (t, beyond item 64 n) → n < 64
not_beyond t n h = by (nat_lt n 64) refl h
  where
    by : (b : Bool) → nat_lt n 64 ≡ b → IsFine (t, cond b None (Some item)) → n < 64
    by true e k = grind (arith, nat_tests)
    by false e k = absurd k

fine_beyond : (t : Terminal) (n : ℕ) → IsFine (t, beyond item 64 n) → IsProper (as_token t)
fine_beyond t n h = by (nat_lt n 64) h
  where
    by : (b : Bool) → IsFine (t, cond b None (Some item)) → IsProper (as_token t)
    by true k = k
    by false k = absurd k

-- texts behind so many
texts_stand : (n : ℕ) (ts : List Bytes) (rest : List Marked) → n ≤ 64 → Each IsFine (more_texts n ts ++ rest) → (list_all is_text ts ≡ true) × (n + length ts ≤ 64)
texts_stand n [] rest few h = (refl, omega (arith, few))
texts_stand n (t ∷ ts) rest few h =
    let lt = not_beyond (text t) n h.1.0 in
    let later = texts_stand (suc n) ts rest (omega (arith, lt)) h.1.1 in
    (and_from (is_text t) (list_all is_text ts) (fine_beyond (text t) n h.1.0) later.0, omega (arith, later.1))

take_all : {X : Type 0} (n : ℕ) (xs : List X) → length xs ≤ n → take n xs ≡ xs
take_all zero [] h = refl
take_all zero (x ∷ xs) h = absurd (omega (arith, h))
take_all (suc n) [] h = refl
take_all {X} (suc n) (x ∷ xs) h = ap (λ (l : List X). x ∷ l) (take_all n xs (omega (arith, h)))

some_stand : Stands some_texts (λ ts. IsValue (values.Set ts))
some_stand s h proper =
    let rest = texts_stand 1 s.1 _ (omega arith) h.1 in
    let ts : List Bytes = s.0 ∷ s.1 in
    let short : length ts ≤ 64 = omega (arith, rest.1) in
    let rising : is_rising ts ≡ true = subst (λ (l : List Bytes). is_rising l ≡ true) (take_all 64 ts short) proper in
    (and_from (nat_le (length ts) 64) (is_rising ts) (le-leb (length ts) 64 short) rising, and_from (is_text s.0) (list_all is_text s.1) h.0 rest.0)

literal_stands : Stands a_literal IsValue
literal_stands (inl n) h proper = int_stands n h proper
literal_stands (inr (inl t)) h proper = h.0
literal_stands (inr (inr (inl s))) h proper = (refl, refl)
literal_stands (inr (inr (inr s))) h proper = some_stand s h.1 proper

-- ---- expressions

split_fine : (xs ys : List Marked) → Each IsFine (xs ++ ys) → Each IsFine xs × Each IsFine ys
split_fine xs ys h = each_parts IsFine xs ys h

further_stand : {O : Type 0} (token : O → Terminal) (join : O → PlainExpr → PlainExpr → PlainExpr) (X : Form PlainExpr)
    → ((o : O) (a b : PlainExpr) → IsOfValues a → IsOfValues b → IsOfValues (join o a b)) → Stands X IsOfValues
    → (n : ℕ) (all : PlainExpr) → IsOfValues all → (os : List (O × X.Written)) → Each IsFine (further_tokens token X n os) → AreProper X os
    → IsOfValues (further_tree join X all os)
further_stand token join X joins one n all first [] h proper = first
further_stand token join X joins one n all first (o ∷ os) h proper =
    let parts = split_fine (X.tokens o.1) (further_tokens token X (suc n) os) h.1 in
    further_stand token join X joins one (suc n) (join o.0 all (X.tree o.1)) (joins o.0 all (X.tree o.1) first (one o.1 parts.0 proper.0)) os parts.1 proper.1

chain_stands : {O : Type 0} (token : O → Terminal) (join : O → PlainExpr → PlainExpr → PlainExpr) (X : Form PlainExpr)
    → ((o : O) (a b : PlainExpr) → IsOfValues a → IsOfValues b → IsOfValues (join o a b)) → Stands X IsOfValues → Stands (chain token join X) IsOfValues
chain_stands token join X joins one s h proper =
    let parts = split_fine (X.tokens s.0) (further_tokens token X 1 s.1) h in
    further_stand token join X joins one 1 (X.tree s.0) (one s.0 parts.0 proper.0) s.1 parts.1 proper.1

sums_join : (o : SumSign) (a b : PlainExpr) → IsOfValues a → IsOfValues b → IsOfValues (sum_tree o a b)
sums_join adding a b p q = (p, q)
sums_join subtracting a b p q = (p, q)

factor_stands : (room : ℕ) (inner : Form PlainExpr) → Stands inner IsOfValues → Stands (factor_with room inner) IsOfValues
factor_stands room inner one (inl s) h proper = literal_stands s h proper
factor_stands room inner one (inr (inl s)) h proper = tt
factor_stands room inner one (inr (inr (inl s))) h proper = tt
factor_stands room inner one (inr (inr (inr (inl s)))) h proper = tt
factor_stands room inner one (inr (inr (inr (inr (inl s))))) h proper = one s.0 (split_fine (inner.tokens s.0) _ h.1.1).0 proper.0
factor_stands room inner one (inr (inr (inr (inr (inr s))))) h proper = one s.0 (split_fine (inner.tokens s.0) _ h.1).0 proper.0

expr_stands_with : (X : Form PlainExpr) → Stands X IsOfValues → Stands (expr_with X) IsOfValues
expr_stands_with X one =
    chain_stands sum_token sum_tree (term_with X) sums_join
    (chain_stands (λ (o : ⊤). symbol star) (λ o a b. times a b) X (λ o a b p q. (p, q)) one)

depth_stands : (depth room : ℕ) → Stands (expr_of_depth depth room) IsOfValues
depth_stands zero room = expr_stands_with _ (factor_stands room _ (λ s. absurd s))
depth_stands (suc depth) room = expr_stands_with _ (factor_stands room _ (depth_stands depth (one_less room)))

-- ---- items

kind_stands : Stands a_kind IsKind
kind_stands (inl s) h proper =
    let parts = split_fine (an_int.tokens s.0) _ h.1 in
    (int_stands s.0 parts.0 proper.0, int_stands s.1 parts.1.1 proper.1)
kind_stands (inr (inl s)) h proper = tt
kind_stands (inr (inr s)) h proper = tt

attr_stands : (n : SideCount) → Stands (an_attr n) IsAttr
attr_stands n s h proper =
    let behind = h.1.1 in
    let kind = split_fine (a_kind.tokens s.1.1.0) _ behind.1.1 in
    let start = split_fine (a_literal.tokens s.1.1.1.0) _ kind.1.1 in
    record { name = behind.0; kind = kind_stands s.1.1.0 kind.0 proper.1.1.0; start = literal_stands s.1.1.1.0 start.0 proper.1.1.1.0 }

env_stands : (n : ℕ) → Stands (an_env n) IsEnv
env_stands n s h proper =
    let kind = split_fine (a_kind.tokens s.1.0) _ h.1.1.1 in
    let start = split_fine (a_literal.tokens s.1.1.0) _ kind.1.1 in
    record { name = h.1.0; start = literal_stands s.1.1.0 start.0 proper.1.1.0 }

update_stands : (n : WhenCount) → Stands (an_update n) (λ u. IsOfValues u.value)
update_stands n s h proper =
    let value = split_fine (an_expr.tokens s.1.1.1.0) _ h.1.1.1.1.1 in
    depth_stands s.1.1.1.0.0 32 s.1.1.1.0.1 value.0 proper.1.1.1.0

-- what holds of each item's tree holds of the list
items_stand : {N A : Type 0} (each : N → Form A) (count : N → A → N) (Q : A → Type 0) → ((n : N) → Stands (each n) Q)
    → (k : ℕ) (n : N) (s : Items each count k n) → Each IsFine (items_tokens each count k n s) → AreProperItems each count k n s
    → Each Q (items_tree each count k n s)
items_stand each count Q one zero n s h proper = tt
items_stand each count Q one (suc k) n s h proper =
    let parts = split_fine ((each n).tokens s.0) (items_tokens each count k (count n ((each n).tree s.0)) s.1) h in
    (one n s.0 parts.0 proper.0, items_stand each count Q one k (count n ((each n).tree s.0)) s.1 parts.1 proper.1)

right_stands : (n : ℕ) → Stands (a_right n) HasValues
right_stands n s h proper =
    let behind = split_fine (preds.tokens s.1.0) _ h.1.1.1 in
    let own = split_fine (updates.tokens s.1.1.0) _ behind.1 in
    items_stand an_update (λ n u. count_when n u.when) (λ u. IsOfValues u.value) update_stands s.1.1.0.0
    (record { before_usage = 0; during_usage = 0; after_end = 0; after_revoke = 0 }) s.1.1.0.1 own.0 proper.1.1.0

policy_stands : Stands a_policy IsOfNames
policy_stands s h proper =
    let first = split_fine (attrs.tokens s.0) _ h in
    let second = split_fine (envs.tokens s.1.0) _ first.1 in
    record {
      attrs = items_stand an_attr (λ n a. count_side n a.side) IsAttr attr_stands s.0.0 (record { subject = 0; object = 0 }) s.0.1 first.0 proper.0;
      envs = items_stand an_env (λ n v. suc n) IsEnv env_stands s.1.0.0 0 s.1.0.1 second.0 proper.1.0;
      rights = items_stand a_right (λ n r. suc n) HasValues right_stands s.1.1.0 0 s.1.1.1 second.1 proper.1.1;
    }

-- a policy that a text spells is of names and values
pub spelled_names : (bytes : Bytes) (P : PlainPolicy) → Spells bytes P → IsOfNames P
spelled_names bytes P spells =
    let spelled = spells.spelled in
    let proper : Each IsProper (bare (a_policy.tokens spelled.written)) = subst (λ (ts : List Token). Each IsProper ts) (sym spelled.tokens) (tokens_proper bytes) in
    subst IsOfNames spelled.tree (policy_stands spelled.written (fine_by (a_policy.tokens spelled.written) proper spelled.clean) spelled.proper)
