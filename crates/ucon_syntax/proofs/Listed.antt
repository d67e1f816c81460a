-- Lists of items keep to their form.
use Rattle.std.proofs.Common.{◌≡◌, ℕ, zero, suc, Bool, true, false, cond, inl, inr, List, [], ◌∷◌, ◌++◌, drop, Some, Result, Ok, Err, refl, sym, ap, ◌∙◌, append_assoc, subst}
use Rattle.ucon_base.specs.Tokens.{Token}
use Rattle.ucon_model.specs.Forms.{Terminal, as_token, Limit, Marked, Form, mapped, listed, Items, items_tokens, items_tree, AreProperItems, bare, IsClean}
use Rattle.ucon_model.specs.Spells.{Stands}
use Rattle.ucon_token.specs.declared.stop.Cause.TheVariants.{TooMany}
use Rattle.ucon_token.specs.Tokens.{first}
use Rattle.ucon_token.specs.Reading.{Halt, Reads, ◌>>=◌}
use Rattle.ucon_syntax.specs.Lists.{items_at}
use Rattle.ucon_syntax.proofs.Marks.{clean_append}
use Rattle.ucon_syntax.proofs.Steps.{halted, outcome, bind_ok, bind_err, pair_is, chosen, two_texts}
use Rattle.ucon_syntax.proofs.Keeping.{cause_of, Found, Stopped, Outcome, meets_any}
use Rattle.ucon_syntax.proofs.Local.{Runs, gives, halts, by_first, andthen, either_way}
use Rattle.ucon_syntax.proofs.Outcomes.{Led, led_meets, led_append, over_more, followed, in_sequence, outcome_mapped, outcome_when}
use Rattle.ucon_syntax.proofs.Sound.{Sound, Anything, at_halt}

-- the first token is one too many
pub record Over {A : Type 0} (X : Form A) (s : X.Written) : Type 0 where
  pub last : Terminal
  pub limit : Limit
  pub more : List Marked
  pub whole : X.tokens s ≡ (last, Some limit) ∷ more
  pub cause : cause_of limit ≡ TooMany

-- where there is no more room, an item that begins here begins with a token that is one too many
pub record OverAt {A : Type 0} (X : Form A) (ts : List Token) : Type 0 where
  pub written : X.Written
  pub proper : X.IsProper written
  pub last : Terminal
  pub limit : Limit
  pub more : List Marked
  pub whole : X.tokens written ≡ (last, Some limit) ∷ more
  pub cause : cause_of limit ≡ TooMany
  pub text : ts ≡ as_token last ∷ drop 1 ts

-- what a list of items asks: so many more may be read where so many were counted
pub record Listing {N A S : Type 0} (P : Type 0) (form : N → Form A) (count : N → A → N) (room : N → S) (begins : Token → Bool) (item : S → Reads (A × S)) (Fits : ℕ → N → Type 0) : Type 0 where
  pub sound : (f : ℕ) (n : N) → Fits (suc f) n → Sound P (mapped (λ a. (a, room (count n a))) (form n)) Anything (item (room n))
  pub runs : (r : S) → Runs (item r)
  pub led : (n : N) (s : (form n).Written) → (form n).IsProper s → Led (λ t. begins t ≡ true) ((form n).tokens s)
  pub next : (f : ℕ) (n : N) (s : (form n).Written) → Fits (suc f) n → IsClean ((form n).tokens s) → Fits f (count n ((form n).tree s))
  pub full : (n : N) (s : (form n).Written) → Fits 0 n → Over (form n) s
  pub full_at : (n : N) (ts : List Token) → Fits 0 n → begins (first ts) ≡ true → OverAt (form n) ts

abbrev err_of : (B : Type 0) → Halt → Result (B × List Token) Halt
err_of B h = Err h

err_is : {B : Type 0} (h k : Halt) → err_of B h ≡ Err k → h ≡ k
err_is h k e = cc

items_found : {N A S P : Type 0} {form : N → Form A} {count : N → A → N} {room : N → S} {begins : Token → Bool} {item : S → Reads (A × S)} {Fits : ℕ → N → Type 0} (k : Listing P form count room begins item Fits) (holds : P) (f : ℕ) (n : N) → Fits f n → (ts : List Token) (xs : List A) (rest : List Token) → items_at begins item f (room n) ts ≡ Ok (xs, rest) → Found (listed form count n) ts xs rest
unfolding items_at
items_found {A = A} {begins = begins} k holds zero n fits ts xs rest e =
    elim (chosen (begins (first ts)) (Err (TooMany, ts)) (outcome [] ts) (outcome xs rest) e) [
      | inl (b, z) ↦ absurd cc
      | inr (b, z) ↦ let q = pair_is {A = List A} z in record { written = (0, tt); text = q.1; tree = q.0; proper = tt; clean = tt }
    ]
items_found {N} {A} {S} {form = form} {count = count} {room = room} {begins = begins} {item = item} k holds (suc f) n fits ts xs rest e =
    elim (chosen (begins (first ts)) (item (room n) ts >>= λ x. items_at begins item f x.0.1 x.1 >>= λ xs. outcome (x.0.0 ∷ xs.0) xs.1) (outcome [] ts) (outcome xs rest) e) [
      | inl (b, z) ↦
          let a = bind_ok (item (room n) ts) (λ x. items_at begins item f x.0.1 x.1 >>= λ xs. outcome (x.0.0 ∷ xs.0) xs.1) (xs, rest) z in
          let d = bind_ok (items_at begins item f a.0.0.1 a.0.1) (λ xs. outcome (a.0.0.0 ∷ xs.0) xs.1) (xs, rest) a.2 in
          let last = pair_is {A = List A} d.2 in
          let g = (((k.sound f n fits).finds holds)).found ts a.0.0 a.0.1 a.1 in
          let one : (form n).tree g.written ≡ a.0.0.0 = ap (λ (v : A × S). v.0) g.tree in
          let left : room (count n ((form n).tree g.written)) ≡ a.0.0.1 = ap (λ (v : A × S). v.1) g.tree in
          let goes : items_at begins item f (room (count n ((form n).tree g.written))) a.0.1 ≡ Ok (d.0.0, d.0.1) = ap (λ (v : S). items_at begins item f v a.0.1) left ∙ d.1 in
          let r = items_found k holds f (count n ((form n).tree g.written)) (k.next f n g.written fits g.clean) a.0.1 d.0.0 d.0.1 goes in
          let more = items_tokens form count r.written.0 (count n ((form n).tree g.written)) r.written.1 in
          record {
            written = (suc r.written.0, (g.written, r.written.1));
            text = two_texts ((form n).tokens g.written) more ts a.0.1 rest g.text (r.text ∙ ap (λ (l : List Token). bare more ++ l) last.1);
            tree = ap (λ (v : A). v ∷ items_tree form count r.written.0 (count n ((form n).tree g.written)) r.written.1) one ∙ ap (λ (v : List A). a.0.0.0 ∷ v) r.tree ∙ last.0;
            proper = (g.proper, r.proper);
            clean = clean_append ((form n).tokens g.written) more g.clean r.clean;
          }
      | inr (b, z) ↦ let q = pair_is {A = List A} z in record { written = (0, tt); text = q.1; tree = q.0; proper = tt; clean = tt }
    ]

items_stopped : {N A S P : Type 0} {form : N → Form A} {count : N → A → N} {room : N → S} {begins : Token → Bool} {item : S → Reads (A × S)} {Fits : ℕ → N → Type 0} (k : Listing P form count room begins item Fits) (holds : P) (f : ℕ) (n : N) → Fits f n → (ts : List Token) (h : Halt) → items_at begins item f (room n) ts ≡ Err h → Stopped (listed form count n) ts h
unfolding items_at
items_stopped {A = A} {form = form} {count = count} {begins = begins} k holds zero n fits ts h e =
    elim (chosen (begins (first ts)) (Err (TooMany, ts)) (outcome [] ts) (err_of (List A) h) e) [
      | inl (b, z) ↦
          let o = k.full_at n ts fits b in
          at_halt (listed form count n) ts (halted TooMany ts) h (err_is {B = List A} (halted TooMany ts) h z) (record {
            written = (1, (o.written, tt));
            front = [];
            behind = (form n).tokens o.written ++ [];
            whole = refl;
            text = refl;
            proper = (o.proper, tt);
            clean = tt;
            over = inr (record { limit = o.limit; last = o.last; more = o.more ++ []; token = as_token o.last; after = drop 1 ts; is_behind = ap (λ (l : List Marked). l ++ []) o.whole; is_rest = o.text; stands = inl refl; cause = o.cause });
          })
      | inr (b, z) ↦ absurd cc
    ]
items_stopped {N} {A} {S} {form = form} {count = count} {room = room} {begins = begins} {item = item} k holds (suc f) n fits ts h e =
    elim (chosen (begins (first ts)) (item (room n) ts >>= λ x. items_at begins item f x.0.1 x.1 >>= λ xs. outcome (x.0.0 ∷ xs.0) xs.1) (outcome [] ts) (err_of (List A) h) e) [
      | inl (b, z) ↦ elim (bind_err (item (room n) ts) (λ x. items_at begins item f x.0.1 x.1 >>= λ xs. outcome (x.0.0 ∷ xs.0) xs.1) h z) [
        | inl v ↦
            let g = ((k.sound f n fits).finds holds).stopped ts h v in
            record {
              written = (1, (g.written, tt));
              front = g.front;
              behind = g.behind ++ [];
              whole = ap (λ (l : List Marked). l ++ []) g.whole ∙ append_assoc g.front g.behind [];
              text = g.text;
              proper = (g.proper, tt);
              clean = g.clean;
              over = over_more h.0 g.behind [] h.1 g.over;
            }
        | inr (a, v, w) ↦ elim (bind_err (items_at begins item f a.0.1 a.1) (λ xs. outcome (a.0.0 ∷ xs.0) xs.1) h w) [
          | inl u ↦
              let g = ((k.sound f n fits).finds holds).found ts a.0 a.1 v in
              let left : room (count n ((form n).tree g.written)) ≡ a.0.1 = ap (λ (v : A × S). v.1) g.tree in
              let goes : items_at begins item f (room (count n ((form n).tree g.written))) a.1 ≡ Err h = ap (λ (v : S). items_at begins item f v a.1) left ∙ u in
              let r = items_stopped k holds f (count n ((form n).tree g.written)) (k.next f n g.written fits g.clean) a.1 h goes in
              record {
                written = (suc r.written.0, (g.written, r.written.1));
                front = (form n).tokens g.written ++ r.front;
                behind = r.behind;
                whole = ap (λ (l : List Marked). (form n).tokens g.written ++ l) r.whole ∙ sym (append_assoc ((form n).tokens g.written) r.front r.behind);
                text = two_texts ((form n).tokens g.written) r.front ts a.1 h.1 g.text r.text;
                proper = (g.proper, r.proper);
                clean = clean_append ((form n).tokens g.written) r.front g.clean r.clean;
                over = r.over;
              }
          | inr (d, u, i) ↦ absurd cc
        ]
      ]
      | inr (b, z) ↦ absurd cc
    ]

none_begin : {A : Type 0} (b : Bool) (x y : A) → b ≡ false → cond b x y ≡ y
none_begin b x y e = rw e refl

over_stop : {B : Type 0} (b : Bool) (y : Result (B × List Token) Halt) (l : Limit) (ts : List Token) → b ≡ true → cause_of l ≡ TooMany → cond b (Err (TooMany, ts)) y ≡ Err (cause_of l, ts)
over_stop b y l ts e c = rw (e, c) refl

led_at : (E : Token → Type 0) (ms : List Marked) (last : Terminal) (limit : Limit) (more : List Marked) → ms ≡ (last, Some limit) ∷ more → Led E ms → (t : Token) → Stands limit last t → E t
led_at E ms last limit more e x t s = (let P : List Marked → Type 0 = λ l. Led E l in subst P e x) t s

items_again : {N A S P : Type 0} {form : N → Form A} {count : N → A → N} {room : N → S} {begins : Token → Bool} {item : S → Reads (A × S)} {Fits : ℕ → N → Type 0} (k : Listing P form count room begins item Fits) (f : ℕ) (m : ℕ) (n : N) → Fits f n → (s : Items form count m n) → AreProperItems form count m n s → Outcome (items_tokens form count m n s) (items_tree form count m n s) (λ t. begins t ≡ false) (items_at begins item f (room n))
unfolding items_at
items_again {begins = begins} k zero zero n fits s proper = inl (record { clean = tt; on = λ rest e. rw e refl })
items_again {begins = begins} k (suc f) zero n fits s proper = inl (record { clean = tt; on = λ rest e. rw e refl })
items_again {A = A} {form = form} {count = count} {begins = begins} k zero (suc m) n fits s proper =
    let o = k.full n s.0 fits in
    let more = items_tokens form count m (count n ((form n).tree s.0)) s.1 in
    inr (record {
      front = [];
      last = o.last;
      limit = o.limit;
      behind = o.more ++ more;
      whole = ap (λ (l : List Marked). l ++ more) o.whole;
      clean = tt;
      stops = λ t r st. over_stop {B = List A} (begins t) (outcome [] (t ∷ r)) o.limit (t ∷ r) (led_at (λ u. begins u ≡ true) ((form n).tokens s.0) o.last o.limit o.more o.whole (k.led n s.0 proper.0) t st) o.cause;
    })
items_again {N} {A} {S} {form = form} {count = count} {room = room} {begins = begins} {item = item} k (suc f) (suc m) n fits s proper =
    let a = (form n).tokens s.0 in
    let x = (form n).tree s.0 in
    let more = items_tokens form count m (count n x) s.1 in
    let trees = items_tree form count m (count n x) s.1 in
    let E : Token → Type 0 = λ t. begins t ≡ false in
    let q : A × S → Reads (List A) = λ y ts. items_at begins item f y.1 ts >>= λ xs. outcome (y.0 ∷ xs.0) xs.1 in
    outcome_when begins (a ++ more) (x ∷ trees) E (followed (item (room n)) q) (λ ts. outcome [] ts) (led_meets (λ t. begins t ≡ true) (a ++ more) E (led_append (λ t. begins t ≡ true) a more (k.led n s.0 proper.0)))
    (in_sequence a more (x, room (count n x)) (x ∷ trees) Anything E (item (room n)) q ((k.sound f n fits).again.again s.0 proper.0) (λ clean. outcome_mapped (λ xs. x ∷ xs) more trees E (items_at begins item f (room (count n x))) (items_again k f m (count n x) (k.next f n s.0 fits clean) s.1 proper.1)) (meets_any more E))

items_runs : {A S : Type 0} (begins : Token → Bool) (item : S → Reads (A × S)) → ((r : S) → Runs (item r)) → (f : ℕ) (r : S) → Runs (items_at begins item f r)
unfolding items_at
items_runs {A} begins item x zero r = by_first begins (λ b ts. cond b (Err (TooMany, ts)) (outcome [] ts)) (λ b. either_way (λ ts. Err (TooMany, ts)) (λ ts. outcome [] ts) (halts TooMany) (gives []) b)
items_runs {A} begins item x (suc f) r =
    by_first begins (λ b ts. cond b (item r ts >>= λ x. items_at begins item f x.0.1 x.1 >>= λ xs. outcome (x.0.0 ∷ xs.0) xs.1) (outcome [] ts))
    (λ b. either_way (λ ts. item r ts >>= λ x. items_at begins item f x.0.1 x.1 >>= λ xs. outcome (x.0.0 ∷ xs.0) xs.1) (λ ts. outcome [] ts) (andthen (x r) (λ y. andthen (items_runs begins item x f y.1) (λ xs. gives (y.0 ∷ xs)))) (gives []) b)

pub sound_listed : {N A S P : Type 0} {form : N → Form A} {count : N → A → N} {room : N → S} {begins : Token → Bool} {item : S → Reads (A × S)} {Fits : ℕ → N → Type 0} → Listing P form count room begins item Fits → (f : ℕ) (n : N) → Fits f n → Sound P (listed form count n) (λ t. begins t ≡ false) (items_at begins item f (room n))
sound_listed {room = room} {begins = begins} {item = item} k f n fits = record {
  finds = λ holds. record { found = items_found k holds f n fits; stopped = items_stopped k holds f n fits };
  again = record { again = λ s proper. items_again k f s.0 n fits s.1 proper };
  runs = items_runs begins item k.runs f (room n);
  example = λ holds. record { written = (0, tt); proper = tt };
}
