-- Chains keep to their form.
use Rattle.std.proofs.Common.{◌≡◌, ℕ, zero, suc, ◌+◌, Bool, true, false, cond, inl, inr, List, [], ◌∷◌, ◌++◌, drop, Option, Some, None, Result, Ok, Err, refl, sym, ap, ◌∙◌, append_assoc, arith, nat_lt}
use Rattle.ucon_base.specs.Tokens.{Token}
use Rattle.ucon_model.specs.Forms.{Terminal, as_token, Limit, operand, Marked, beyond, Form, further_tokens, further_tree, AreProper, further, chain}
use Rattle.ucon_model.specs.Spells.{Stands}
use Rattle.ucon_token.specs.declared.stop.Cause.TheVariants.{TooMany}
use Rattle.ucon_token.specs.Tokens.{first}
use Rattle.ucon_token.specs.Reading.{Halt, Reads, ◌>>=◌}
use Rattle.ucon_syntax.specs.Chains.{Operators, more}
use Rattle.ucon_syntax.specs.Chains as chains
use Rattle.ucon_syntax.proofs.Marks.{clean_append, clean_head, not_beyond, is_beyond}
use Rattle.ucon_syntax.proofs.Steps.{halted, outcome, bind_ok, bind_err, pair_is, chosen, two_texts}
use Rattle.ucon_syntax.proofs.Keeping.{Found, Stopped, Example, Finds, Outcome, Again, Meets}
use Rattle.ucon_syntax.proofs.Local.{Runs, gives, halts, past, by_first, andthen, either_way}
use Rattle.ucon_syntax.proofs.Outcomes.{over_more, followed, in_sequence, outcome_as, outcome_behind}
use Rattle.ucon_syntax.proofs.Sound.{Sound, sound_meeting, at_halt}

-- the operators of a chain are these, and operands end before them
pub record Chaining {O A : Type 0} (token : O → Terminal) (join : O → A → A → A) (ops : Operators A) (E : Token → Type 0) : Type 0 where
  pub goes_is : (ts : List Token) → ops.goes_on (first ts) ≡ true → (o : O) × (ts ≡ as_token (token o) ∷ drop 1 ts)
  pub goes_again : (o : O) → ops.goes_on (as_token (token o)) ≡ true
  pub joins : (o : O) (a b : A) → ops.join (as_token (token o)) a b ≡ join o a b
  pub late_is : (ts : List Token) → ops.is_late (first ts) ≡ true → (o : O) × (u : Token) × (ts ≡ u ∷ drop 1 ts) × Stands operand (token o) u
  pub late_again : (o : O) (u : Token) → Stands operand (token o) u → ops.is_late u ≡ true
  pub between : (o : O) (u : Token) → Stands operand (token o) u → E u

-- no operator of the chain follows
abbrev pub Ends : {A : Type 0} → (Token → Type 0) → Operators A → Token → Type 0
Ends E ops t = E t × (ops.goes_on t ≡ false) × (ops.is_late t ≡ false)

abbrev err_of : (B : Type 0) → Halt → Result (B × List Token) Halt
err_of B h = Err h

err_is : {B : Type 0} (h k : Halt) → err_of B h ≡ Err k → h ≡ k
err_is h k e = cc

further_found : {O A : Type 0} {token : O → Terminal} {join : O → A → A → A} {ops : Operators A} {X : Form A} {E : Token → Type 0} {p : Reads A} (k : Chaining token join ops E) (x : Finds X p) (n before : ℕ) → n + before ≡ 32 → (all : A) (ts : List Token) (y : A) (rest : List Token) → more ops p n all ts ≡ Ok (y, rest) → Found (further token join X before all) ts y rest
unfolding more
further_found {A = A} {ops = ops} k x zero before is all ts y rest e =
    elim (chosen (ops.is_late (first ts)) (Err (TooMany, ts)) (outcome all ts) (outcome y rest) e) [
      | inl (b, z) ↦ absurd cc
      | inr (b, z) ↦ let q = pair_is {A = A} z in record { written = []; text = q.1; tree = q.0; proper = tt; clean = tt }
    ]
further_found {A = A} {token = token} {join = join} {ops = ops} {X = X} {p = p} k x (suc n) before is all ts y rest e =
    elim (chosen (ops.goes_on (first ts)) (p (drop 1 ts) >>= λ next. more ops p n (ops.join (first ts) all next.0) next.1) (outcome all ts) (outcome y rest) e) [
      | inl (b, z) ↦
          let a = bind_ok (p (drop 1 ts)) (λ next. more ops p n (ops.join (first ts) all next.0) next.1) (y, rest) z in
          let o = k.goes_is ts b in
          let f = x.found (drop 1 ts) a.0.0 a.0.1 a.1 in
          let r = further_found k x n (suc before) (omega (arith, is)) (ops.join (first ts) all a.0.0) a.0.1 y rest a.2 in
          let step : join o.0 all (X.tree f.written) ≡ ops.join (first ts) all a.0.0 = ap (join o.0 all) f.tree ∙ sym (k.joins o.0 all a.0.0) ∙ ap (λ (t : Token). ops.join t all a.0.0) (sym (ap first o.1)) in
          record {
            written = (o.0, f.written) ∷ r.written;
            text = o.1 ∙ ap (λ (l : List Token). as_token (token o.0) ∷ l) (two_texts (X.tokens f.written) (further_tokens token X (suc before) r.written) (drop 1 ts) a.0.1 rest f.text r.text);
            tree = ap (λ (v : A). further_tree join X v r.written) step ∙ r.tree;
            proper = (f.proper, r.proper);
            clean = clean_head (token o.0) (beyond operand 32 before) (X.tokens f.written ++ further_tokens token X (suc before) r.written) (not_beyond operand 32 before (omega (arith, is))) (clean_append (X.tokens f.written) (further_tokens token X (suc before) r.written) f.clean r.clean);
          }
      | inr (b, z) ↦ let q = pair_is {A = A} z in record { written = []; text = q.1; tree = q.0; proper = tt; clean = tt }
    ]

further_stopped : {O A : Type 0} {token : O → Terminal} {join : O → A → A → A} {ops : Operators A} {X : Form A} {E : Token → Type 0} {p : Reads A} (k : Chaining token join ops E) (x : Finds X p) (example : Example X) (n before : ℕ) → n + before ≡ 32 → (all : A) (ts : List Token) (h : Halt) → more ops p n all ts ≡ Err h → Stopped (further token join X before all) ts h
unfolding more
further_stopped {A = A} {token = token} {join = join} {ops = ops} {X = X} k x example zero before is all ts h e =
    elim (chosen (ops.is_late (first ts)) (Err (TooMany, ts)) (outcome all ts) (err_of A h) e) [
      | inl (b, z) ↦
          let l = k.late_is ts b in
          at_halt (further token join X before all) ts (halted TooMany ts) h (err_is {B = A} (halted TooMany ts) h z) (record {
            written = (l.0, example.written) ∷ [];
            front = [];
            behind = (token l.0, beyond operand 32 before) ∷ (X.tokens example.written ++ []);
            whole = refl;
            text = refl;
            proper = (example.proper, tt);
            clean = tt;
            over = inr (record { limit = operand; last = token l.0; more = X.tokens example.written ++ []; token = l.1; after = drop 1 ts; is_behind = ap (λ (o : Option Limit). (token l.0, o) ∷ (X.tokens example.written ++ [])) (is_beyond operand 32 before (omega (arith, is))); is_rest = l.2; stands = l.3; cause = refl });
          })
      | inr (b, z) ↦ absurd cc
    ]
further_stopped {A = A} {token = token} {join = join} {ops = ops} {X = X} {p = p} k x example (suc n) before is all ts h e =
    elim (chosen (ops.goes_on (first ts)) (p (drop 1 ts) >>= λ next. more ops p n (ops.join (first ts) all next.0) next.1) (outcome all ts) (err_of A h) e) [
      | inl (b, z) ↦
          let o = k.goes_is ts b in
          let head : beyond operand 32 before ≡ None = not_beyond operand 32 before (omega (arith, is)) in
          elim (bind_err (p (drop 1 ts)) (λ next. more ops p n (ops.join (first ts) all next.0) next.1) h z) [
            | inl v ↦
                let f = x.stopped (drop 1 ts) h v in
                record {
                  written = (o.0, f.written) ∷ [];
                  front = (token o.0, beyond operand 32 before) ∷ f.front;
                  behind = f.behind ++ [];
                  whole = ap (λ (l : List Marked). (token o.0, beyond operand 32 before) ∷ l) (ap (λ (l : List Marked). l ++ []) f.whole ∙ append_assoc f.front f.behind []);
                  text = o.1 ∙ ap (λ (l : List Token). as_token (token o.0) ∷ l) f.text;
                  proper = (f.proper, tt);
                  clean = clean_head (token o.0) (beyond operand 32 before) f.front head f.clean;
                  over = over_more h.0 f.behind [] h.1 f.over;
                }
            | inr (a, v, w) ↦
                let f = x.found (drop 1 ts) a.0 a.1 v in
                let r = further_stopped k x example n (suc before) (omega (arith, is)) (ops.join (first ts) all a.0) a.1 h w in
                record {
                  written = (o.0, f.written) ∷ r.written;
                  front = (token o.0, beyond operand 32 before) ∷ (X.tokens f.written ++ r.front);
                  behind = r.behind;
                  whole = ap (λ (l : List Marked). (token o.0, beyond operand 32 before) ∷ l) (ap (λ (l : List Marked). X.tokens f.written ++ l) r.whole ∙ sym (append_assoc (X.tokens f.written) r.front r.behind));
                  text = o.1 ∙ ap (λ (l : List Token). as_token (token o.0) ∷ l) (two_texts (X.tokens f.written) r.front (drop 1 ts) a.1 h.1 f.text r.text);
                  proper = (f.proper, r.proper);
                  clean = clean_head (token o.0) (beyond operand 32 before) (X.tokens f.written ++ r.front) head (clean_append (X.tokens f.written) r.front f.clean r.clean);
                  over = r.over;
                }
          ]
      | inr (b, z) ↦ absurd cc
    ]

pub mark_is : (l : Limit) (b : Bool) (m : Limit) → (let o : Option Limit = cond b None (Some l) in o) ≡ Some m → m ≡ l
mark_is l true m e = absurd cc
mark_is l false m e = cc

meets_mark : (E F : Token → Type 0) (t : Terminal) (o : Option Limit) (ms : List Marked) → ((m : Limit) (u : Token) → o ≡ Some m → Stands m t u → E u) → E (as_token t) → Meets E ((t, o) ∷ ms) F
meets_mark E F t None ms f x = x
meets_mark E F t (Some l) ms f x = λ u s. f l u refl s

as_operand : (m : Limit) (t : Terminal) (u : Token) → m ≡ operand → Stands m t u → Stands operand t u
as_operand m t u e s = rw (← e) s

meets_further : {O A : Type 0} {token : O → Terminal} {join : O → A → A → A} {ops : Operators A} {E : Token → Type 0} (k : Chaining token join ops E) (X : Form A) (n : ℕ) (ms : List (O × X.Written)) → Meets E (further_tokens token X n ms) (Ends E ops)
meets_further k X n [] = λ t f. f.0
meets_further {token = token} {ops = ops} {E = E} k X n (o ∷ ms) =
    meets_mark E (Ends E ops) (token o.0) (beyond operand 32 n) (X.tokens o.1 ++ further_tokens token X (suc n) ms) (λ m u e s. k.between o.0 u (as_operand m (token o.0) u (mark_is operand (nat_lt n 32) m e) s)) (k.between o.0 (as_token (token o.0)) (inl refl))

late_stop : {A : Type 0} (b : Bool) (x y : A) → b ≡ true → cond b x y ≡ x
late_stop b x y e = rw e refl

further_again : {O A : Type 0} {token : O → Terminal} {join : O → A → A → A} {ops : Operators A} {X : Form A} {E : Token → Type 0} {p : Reads A} (k : Chaining token join ops E) (x : Again X E p) (n before : ℕ) → n + before ≡ 32 → (all : A) (ms : List (O × X.Written)) → AreProper X ms → Outcome (further_tokens token X before ms) (further_tree join X all ms) (Ends E ops) (more ops p n all)
unfolding more
further_again k x zero before is all [] proper = inl (record { clean = tt; on = λ rest e. rw e.2 refl })
further_again {token = token} {ops = ops} {X = X} k x zero before is all (o ∷ ms) proper = inr (record {
  front = [];
  last = token o.0;
  limit = operand;
  behind = X.tokens o.1 ++ further_tokens token X (suc before) ms;
  whole = ap (λ (l : Option Limit). (token o.0, l) ∷ (X.tokens o.1 ++ further_tokens token X (suc before) ms)) (is_beyond operand 32 before (omega (arith, is)));
  clean = tt;
  stops = λ t r st. late_stop (ops.is_late t) (Err (TooMany, t ∷ r)) (outcome all (t ∷ r)) (k.late_again o.0 t st);
})
further_again k x (suc n) before is all [] proper = inl (record { clean = tt; on = λ rest e. rw e.1 refl })
further_again {A = A} {token = token} {join = join} {ops = ops} {X = X} {E = E} {p = p} k x (suc n) before is all (o ∷ ms) proper =
    let t = as_token (token o.0) in
    let joined : ops.join t all (X.tree o.1) ≡ join o.0 all (X.tree o.1) = k.joins o.0 all (X.tree o.1) in
    let q : A → Reads A = λ y. more ops p n (ops.join t all y) in
    let rest = further_tokens token X (suc before) ms in
    let inner : Outcome (X.tokens o.1 ++ rest) (further_tree join X (ops.join t all (X.tree o.1)) ms) (Ends E ops) (followed p q) = in_sequence (X.tokens o.1) rest (X.tree o.1) (further_tree join X (ops.join t all (X.tree o.1)) ms) E (Ends E ops) p q (x.again o.1 proper.0) (λ clean. further_again k x n (suc before) (omega (arith, is)) (ops.join t all (X.tree o.1)) ms proper.1) (meets_further k X (suc before) ms) in
    outcome_as ((token o.0, beyond operand 32 before) ∷ (X.tokens o.1 ++ rest)) (further_tree join X (ops.join t all (X.tree o.1)) ms) (further_tree join X (join o.0 all (X.tree o.1)) ms) (Ends E ops) (more ops p (suc n) all) (ap (λ (v : A). further_tree join X v ms) joined)
    (outcome_behind (token o.0) (beyond operand 32 before) (X.tokens o.1 ++ rest) (further_tree join X (ops.join t all (X.tree o.1)) ms) (Ends E ops) (followed p q) (more ops p (suc n) all) (not_beyond operand 32 before (omega (arith, is))) (λ ts. late_stop (ops.goes_on t) (p ts >>= λ next. more ops p n (ops.join t all next.0) next.1) (outcome all (t ∷ ts)) (k.goes_again o.0)) inner)

further_runs : {A : Type 0} (ops : Operators A) (p : Reads A) → Runs p → (n : ℕ) (all : A) → Runs (more ops p n all)
unfolding more
further_runs ops p x zero all = by_first ops.is_late (λ b ts. cond b (Err (TooMany, ts)) (Ok (all, ts))) (λ b. either_way (λ ts. Err (TooMany, ts)) (λ ts. Ok (all, ts)) (halts TooMany) (gives all) b)
further_runs {A} ops p x (suc n) all = by_first (λ t. t) (λ t ts. cond (ops.goes_on t) (p (drop 1 ts) >>= λ next. more ops p n (ops.join t all next.0) next.1) (Ok (all, ts))) (λ t. either_way (λ ts. p (drop 1 ts) >>= λ next. more ops p n (ops.join t all next.0) next.1) (λ ts. Ok (all, ts)) (past (andthen x (λ next. further_runs ops p x n (ops.join t all next)))) (gives all) (ops.goes_on t))

sound_further : {O A P : Type 0} {token : O → Terminal} {join : O → A → A → A} {ops : Operators A} {X : Form A} {E : Token → Type 0} {p : Reads A} → Chaining token join ops E → Sound P X E p → (all : A) → Sound P (further token join X 1 all) (Ends E ops) (more ops p 31 all)
sound_further {ops = ops} {p = p} k x all = record {
  finds = λ holds. record { found = further_found k (x.finds holds) 31 1 refl all; stopped = further_stopped k (x.finds holds) (x.example holds) 31 1 refl all };
  again = record { again = λ ms proper. further_again k x.again 31 1 refl all ms proper };
  runs = further_runs ops p x.runs 31 all;
  example = λ holds. record { written = []; proper = tt };
}

pub sound_chain : {O A P : Type 0} {token : O → Terminal} {join : O → A → A → A} {ops : Operators A} {X : Form A} {E : Token → Type 0} {p : Reads A} → Chaining token join ops E → Sound P X E p → Sound P (chain token join X) (Ends E ops) (chains.chain ops p)
sound_chain {X = X} k x = sound_meeting x (λ all. sound_further k x all) (λ all ms proper. meets_further k X 1 ms)
