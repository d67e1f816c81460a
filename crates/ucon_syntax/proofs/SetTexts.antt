-- The texts of a set keep to their form.
use Rattle.std.proofs.Common.{◌≡◌, ℕ, zero, suc, ◌+◌, ◌≤◌, Bool, true, false, cond, ◌⊎◌, inl, inr, List, [], ◌∷◌, ◌++◌, length, length-append, take, drop, Option, Some, None, Result, Ok, Err, refl, sym, ap, ◌∙◌, append_assoc, arith}
use Rattle.std.proofs.lemmas.Bool.{and_parts}
use Rattle.std.proofs.lemmas.List.{take_all}
use Rattle.std.proofs.Math.Seq.{take-append-add, take-append_seam}
use Rattle.std.specs.Cmp.{nat_cmp_is}
use Rattle.std.specs.declared.cmp.Ordering.TheVariants.{Less, Equal}
use Rattle.std.specs.Ordering.{nat_cmp, is_lt}
use Rattle.std.specs.Cmp.Lexicographic.{slice_cmp}
use Rattle.ucon_base.specs.Value.{is_rising}
use Rattle.ucon_model.specs.Plain.{Bytes}
use Rattle.ucon_base.specs.Tokens.{Token, a_text, a_symbol, comma, close_curly}
use Rattle.ucon_model.specs.Forms.{text, Limit, item, Marked, beyond, Form, nothing, before, either_of, bare}
use Rattle.ucon_model.specs.Grammar.{sign, more_texts}
use Rattle.ucon_model.specs.Grammar as grammar
use Rattle.ucon_model.specs.Spells.{Stands}
use Rattle.ucon_token.specs.declared.stop.Cause.TheVariants.{Unexpected, TooMany}
use Rattle.ucon_token.specs.Tokens.{first, is_symbol, text_of}
use Rattle.ucon_token.specs.Reading.{Halt, ◌>>=◌, expect}
use Rattle.ucon_token.specs.Literals.{member_from, member_at, behind_member, one_too_many, texts_at, set_at}
use Rattle.ucon_syntax.proofs.Marks.{clean_head, not_beyond, is_beyond}
use Rattle.ucon_syntax.proofs.Steps.{halted, outcome, bind_ok, bind_err, ok_is, pair_is, chosen}
use Rattle.ucon_syntax.proofs.Keeping.{Found, Stopped, Outcome}
use Rattle.ucon_syntax.proofs.Local.{Runs, gives, halts, past, by_first, andthen, either_way, takes}
use Rattle.ucon_syntax.proofs.Sound.{Sound, Anything, at_halt, stops_here, sound_same, sound_nothing, sound_before, sound_either, taking_ok, taking_stops}
use Rattle.ucon_syntax.proofs.Words.{is_symbol_is, symbol_tests, text_of_is}

-- ---- rising lists

rising_front : (xs ys : List Bytes) → is_rising (xs ++ ys) ≡ true → is_rising xs ≡ true
rising_front [] ys h = refl
rising_front (x ∷ []) ys h = refl
rising_front (x ∷ y ∷ xs) ys h = let parts = and_parts (is_lt (slice_cmp nat_cmp x y)) (is_rising ((y ∷ xs) ++ ys)) h in rw parts.0 (rising_front (y ∷ xs) ys parts.1)

below_longer : (t : Bytes) → slice_cmp nat_cmp t (t ++ 97 ∷ []) ≡ Less
below_longer [] = refl
below_longer (b ∷ t) = let same : nat_cmp b b ≡ Equal = sym (nat_cmp_is b b Equal refl) in rw same (below_longer t)

-- a text above all of these
above : List Bytes → Bytes
above [] = []
above (t ∷ []) = t ++ 97 ∷ []
above (t ∷ u ∷ us) = above (u ∷ us)

rising_above : (ts : List Bytes) → is_rising ts ≡ true → is_rising (ts ++ above ts ∷ []) ≡ true
unfolding above
rising_above [] h = refl
rising_above (t ∷ []) h = let less = below_longer t in rw less refl
rising_above (t ∷ u ∷ us) h = let parts = and_parts (is_lt (slice_cmp nat_cmp t u)) (is_rising (u ∷ us)) h in rw parts.0 (rising_above (u ∷ us) parts.1)

-- among the first 64
one_rises : (ts : List Bytes) (t : Bytes) (us : List Bytes) (n : ℕ) → length ts + suc n ≡ 64 → is_rising (take 64 (ts ++ t ∷ us)) ≡ true → is_rising (ts ++ t ∷ []) ≡ true
one_rises ts t us n is h =
    let long : length (ts ++ t ∷ []) + n ≡ 64 = omega (arith, is, length-append ts (t ∷ [])) in
    let same : take 64 (ts ++ t ∷ us) ≡ (ts ++ t ∷ []) ++ take n us = ap (λ k. take k (ts ++ t ∷ us)) (sym long) ∙ ap (take (length (ts ++ t ∷ []) + n)) (sym (append_assoc ts (t ∷ []) us)) ∙ take-append-add (ts ++ t ∷ []) us n in
    rising_front (ts ++ t ∷ []) (take n us) (ap is_rising (sym same) ∙ h)

all_rise : (ts : List Bytes) → length ts ≤ 64 → is_rising ts ≡ true → is_rising (take 64 ts) ≡ true
all_rise ts le h = ap is_rising (take_all 64 ts le) ∙ h

-- behind 64
full_rises : (ts us : List Bytes) → length ts ≡ 64 → is_rising ts ≡ true → is_rising (take 64 (ts ++ us)) ≡ true
full_rises ts us is h = ap is_rising (ap (λ k. take k (ts ++ us)) (sym is) ∙ take-append_seam ts us) ∙ h

-- ---- one text

-- the texts behind these, of which there are so many
abbrev members : ℕ → List Bytes → Form (List Bytes)
members k ts = record {
  Written = Bytes × List Bytes;
  tokens = λ s. (text s.0, beyond item 64 k) ∷ (more_texts (suc k) s.1 ++ sign close_curly ∷ []);
  tree = λ s. ts ++ s.0 ∷ s.1;
  IsProper = λ s. is_rising (take 64 (ts ++ s.0 ∷ s.1)) ≡ true;
}

abbrev err_of : (B : Type 0) → Halt → Result (B × List Token) Halt
err_of B h = Err h

err_is : {B : Type 0} (h k : Halt) → err_of B h ≡ Err k → h ≡ k
err_is h k e = cc

record Member (us : List Bytes) (ts : List Token) (x : List Bytes × List Token) : Type 0 where
  pub one : Bytes
  pub text : ts ≡ a_text one ∷ x.1
  pub longer : x.0 ≡ us ++ one ∷ []
  pub rises : is_rising (us ++ one ∷ []) ≡ true

member_ok : (us : List Bytes) (ts : List Token) (x : List Bytes × List Token) (o : Option Bytes) → text_of (first ts) ≡ o → member_from us o ts ≡ Ok x → Member us ts x
member_ok us ts x None is e = absurd cc
member_ok us ts x (Some t) is e =
    elim (chosen (is_rising (us ++ t ∷ [])) (outcome (us ++ t ∷ []) (drop 1 ts)) (Err (Unexpected, ts)) (Ok x) e) [
      | inl (b, z) ↦ let q = ok_is (us ++ t ∷ [], drop 1 ts) x z in record { one = t; text = text_of_is ts t is ∙ ap (λ (p : List Bytes × List Token). a_text t ∷ p.1) q; longer = ap (λ (p : List Bytes × List Token). p.0) (sym q); rises = b }
      | inr (b, z) ↦ absurd cc
    ]

member_err : (us : List Bytes) (ts : List Token) (h : Halt) (o : Option Bytes) → member_from us o ts ≡ Err h → halted Unexpected ts ≡ h
member_err us ts h None e = err_is {B = List Bytes} (halted Unexpected ts) h e
member_err us ts h (Some t) e =
    elim (chosen (is_rising (us ++ t ∷ [])) (outcome (us ++ t ∷ []) (drop 1 ts)) (Err (Unexpected, ts)) (err_of (List Bytes) h) e) [
      | inl (b, z) ↦ absurd cc
      | inr (b, z) ↦ err_is {B = List Bytes} (halted Unexpected ts) h z
    ]

late_err : (ts : List Token) (o : Option Bytes) (h : Halt) → one_too_many o ts ≡ Err h → ((o ≡ None) × (halted Unexpected ts ≡ h)) ⊎ ((t : Bytes) × (o ≡ Some t) × (halted TooMany ts ≡ h))
late_err ts None h e = inl (refl, err_is {B = List Bytes} (halted Unexpected ts) h e)
late_err ts (Some t) h e = inr (t, refl, err_is {B = List Bytes} (halted TooMany ts) h e)

late_ok : {Q : Type 0} (ts : List Token) (o : Option Bytes) (x : List Bytes × List Token) → one_too_many o ts ≡ Ok x → Q
late_ok ts None x e = absurd cc
late_ok ts (Some t) x e = absurd cc

-- ---- all texts

texts_found : (n k : ℕ) (us : List Bytes) → n + k ≡ 64 → length us ≡ k → (ts : List Token) (xs : List Bytes) (rest : List Token) → texts_at n us ts ≡ Ok (xs, rest) → Found (members k us) ts xs rest
unfolding texts_at member_at
texts_found zero k us is long ts xs rest e = late_ok ts (text_of (first ts)) (xs, rest) e
texts_found (suc n) k us is long ts xs rest e =
    let b = bind_ok (member_from us (text_of (first ts)) ts) (λ more. behind_member (texts_at n more.0) more.0 more.1) (xs, rest) e in
    let m = member_ok us ts b.0 (text_of (first ts)) refl b.1 in
    let mark : beyond item 64 k ≡ None = not_beyond item 64 k (omega (arith, is)) in
    elim (chosen (is_symbol (first b.0.1) comma) (texts_at n b.0.0 (drop 1 b.0.1)) (expect close_curly b.0.1 >>= λ after. outcome b.0.0 after) (outcome xs rest) b.2) [
      | inl (c, z) ↦
          let goes : texts_at n (us ++ m.one ∷ []) (drop 1 b.0.1) ≡ Ok (xs, rest) = ap (λ (v : List Bytes). texts_at n v (drop 1 b.0.1)) (sym m.longer) ∙ z in
          let g = texts_found n (suc k) (us ++ m.one ∷ []) (omega (arith, is)) (omega (arith, long, length-append us (m.one ∷ []))) (drop 1 b.0.1) xs rest goes in
          let same : us ++ m.one ∷ g.written.0 ∷ g.written.1 ≡ (us ++ m.one ∷ []) ++ g.written.0 ∷ g.written.1 = sym (append_assoc us (m.one ∷ []) (g.written.0 ∷ g.written.1)) in
          record {
            written = (m.one, g.written.0 ∷ g.written.1);
            text = m.text ∙ ap (λ (l : List Token). a_text m.one ∷ l) (is_symbol_is b.0.1 comma c ∙ ap (λ (l : List Token). a_symbol comma ∷ l) g.text);
            tree = same ∙ g.tree;
            proper = ap (λ (l : List Bytes). is_rising (take 64 l)) same ∙ g.proper;
            clean = clean_head (text m.one) (beyond item 64 k) (more_texts (suc k) (g.written.0 ∷ g.written.1) ++ sign close_curly ∷ []) mark g.clean;
          }
      | inr (c, z) ↦
          let d = bind_ok (expect close_curly b.0.1) (λ after. outcome b.0.0 after) (xs, rest) z in
          let last = pair_is {A = List Bytes} d.2 in
          record {
            written = (m.one, []);
            text = m.text ∙ ap (λ (l : List Token). a_text m.one ∷ l) (taking_ok b.0.1 d.0 (symbol_tests close_curly) d.1 ∙ ap (λ (l : List Token). a_symbol close_curly ∷ l) last.1);
            tree = sym m.longer ∙ last.0;
            proper = all_rise (us ++ m.one ∷ []) (omega (arith, is, long, length-append us (m.one ∷ []))) m.rises;
            clean = clean_head (text m.one) (beyond item 64 k) (sign close_curly ∷ []) mark tt;
          }
    ]

texts_stopped : (n k : ℕ) (us : List Bytes) → n + k ≡ 64 → length us ≡ k → is_rising us ≡ true → (ts : List Token) (h : Halt) → texts_at n us ts ≡ Err h → Stopped (members k us) ts h
unfolding texts_at member_at
texts_stopped zero k us is long rises ts h e =
    elim (late_err ts (text_of (first ts)) h e) [
      | inl (o, z) ↦ stops_here (members k us) ts h z (record { written = ([], []); proper = full_rises us ([] ∷ []) (omega (arith, is, long)) rises })
      | inr (t, o, z) ↦ at_halt (members k us) ts (halted TooMany ts) h z (record {
        written = (t, []);
        front = [];
        behind = (text t, beyond item 64 k) ∷ sign close_curly ∷ [];
        whole = refl;
        text = refl;
        proper = full_rises us (t ∷ []) (omega (arith, is, long)) rises;
        clean = tt;
        over = inr (record { limit = item; last = text t; more = sign close_curly ∷ []; token = a_text t; after = drop 1 ts; is_behind = ap (λ (o : Option Limit). (text t, o) ∷ sign close_curly ∷ []) (is_beyond item 64 k (omega (arith, is))); is_rest = text_of_is ts t o; stands = inl refl; cause = refl });
      })
    ]
texts_stopped (suc n) k us is long rises ts h e =
    let mark : beyond item 64 k ≡ None = not_beyond item 64 k (omega (arith, is)) in
    elim (bind_err (member_from us (text_of (first ts)) ts) (λ more. behind_member (texts_at n more.0) more.0 more.1) h e) [
      | inl z ↦ stops_here (members k us) ts h (member_err us ts h (text_of (first ts)) z) (record { written = (above us, []); proper = all_rise (us ++ above us ∷ []) (omega (arith, is, long, length-append us (above us ∷ []))) (rising_above us rises) })
      | inr (b, z, v) ↦
          let m = member_ok us ts b (text_of (first ts)) refl z in
          elim (chosen (is_symbol (first b.1) comma) (texts_at n b.0 (drop 1 b.1)) (expect close_curly b.1 >>= λ after. outcome b.0 after) (err_of (List Bytes) h) v) [
            | inl (c, w) ↦
                let goes : texts_at n (us ++ m.one ∷ []) (drop 1 b.1) ≡ Err h = ap (λ (v : List Bytes). texts_at n v (drop 1 b.1)) (sym m.longer) ∙ w in
                let g = texts_stopped n (suc k) (us ++ m.one ∷ []) (omega (arith, is)) (omega (arith, long, length-append us (m.one ∷ []))) m.rises (drop 1 b.1) h goes in
                let same : us ++ m.one ∷ g.written.0 ∷ g.written.1 ≡ (us ++ m.one ∷ []) ++ g.written.0 ∷ g.written.1 = sym (append_assoc us (m.one ∷ []) (g.written.0 ∷ g.written.1)) in
                record {
                  written = (m.one, g.written.0 ∷ g.written.1);
                  front = (text m.one, beyond item 64 k) ∷ sign comma ∷ g.front;
                  behind = g.behind;
                  whole = ap (λ (l : List Marked). (text m.one, beyond item 64 k) ∷ sign comma ∷ l) g.whole;
                  text = m.text ∙ ap (λ (l : List Token). a_text m.one ∷ l) (is_symbol_is b.1 comma c ∙ ap (λ (l : List Token). a_symbol comma ∷ l) g.text);
                  proper = ap (λ (l : List Bytes). is_rising (take 64 l)) same ∙ g.proper;
                  clean = clean_head (text m.one) (beyond item 64 k) (sign comma ∷ g.front) mark g.clean;
                  over = g.over;
                }
            | inr (c, w) ↦ elim (bind_err (expect close_curly b.1) (λ after. outcome b.0 after) h w) [
              | inl y ↦ at_halt (members k us) ts (halted Unexpected b.1) h (taking_stops (is_symbol (first b.1) close_curly) b.1 h y) (record {
                written = (m.one, []);
                front = (text m.one, beyond item 64 k) ∷ [];
                behind = sign close_curly ∷ [];
                whole = refl;
                text = m.text;
                proper = all_rise (us ++ m.one ∷ []) (omega (arith, is, long, length-append us (m.one ∷ []))) m.rises;
                clean = clean_head (text m.one) (beyond item 64 k) [] mark tt;
                over = inl refl;
              })
              | inr (a, y, u) ↦ absurd cc
            ]
          ]
    ]

-- ---- and again

text_on : (us : List Bytes) (t : Bytes) (ts : List Token) → is_rising (us ++ t ∷ []) ≡ true → member_at us (a_text t ∷ ts) ≡ Ok (us ++ t ∷ [], ts)
unfolding member_at text_of
text_on us t ts h = rw h refl

after_text : (n : ℕ) (us : List Bytes) (t : Bytes) (ts : List Token) → is_rising (us ++ t ∷ []) ≡ true → texts_at (suc n) us (a_text t ∷ ts) ≡ behind_member (texts_at n (us ++ t ∷ [])) (us ++ t ∷ []) ts
unfolding texts_at
after_text n us t ts h = let on = text_on us t ts h in rw on refl

late_text : (us : List Bytes) (t : Bytes) (u : Token) (ts : List Token) → Stands item (text t) u → texts_at 0 us (u ∷ ts) ≡ Err (TooMany, u ∷ ts)
unfolding texts_at text_of
late_text us t u ts (inl e) = rw e refl
late_text us t u ts (inr e) = absurd e

texts_again : (n k : ℕ) (us : List Bytes) → n + k ≡ 64 → length us ≡ k → (t : Bytes) (more : List Bytes) → is_rising (take 64 (us ++ t ∷ more)) ≡ true → Outcome ((members k us).tokens (t, more)) (us ++ t ∷ more) Anything (texts_at n us)
unfolding is_symbol
texts_again zero k us is long t more proper = inr (record {
  front = [];
  last = text t;
  limit = item;
  behind = more_texts (suc k) more ++ sign close_curly ∷ [];
  whole = ap (λ (o : Option Limit). (text t, o) ∷ (more_texts (suc k) more ++ sign close_curly ∷ [])) (is_beyond item 64 k (omega (arith, is)));
  clean = tt;
  stops = λ u r s. late_text us t u r s;
})
texts_again (suc n) k us is long t [] proper =
    let rises = one_rises us t [] n (omega (arith, is, long)) proper in
    inl (record {
      clean = clean_head (text t) (beyond item 64 k) (sign close_curly ∷ []) (not_beyond item 64 k (omega (arith, is))) tt;
      on = λ rest e. after_text n us t (a_symbol close_curly ∷ rest) rises;
    })
texts_again (suc n) k us is long t (u ∷ more) proper =
    let rises = one_rises us t (u ∷ more) n (omega (arith, is, long)) proper in
    let same : us ++ t ∷ u ∷ more ≡ (us ++ t ∷ []) ++ u ∷ more = sym (append_assoc us (t ∷ []) (u ∷ more)) in
    let mark : beyond item 64 k ≡ None = not_beyond item 64 k (omega (arith, is)) in
    elim (texts_again n (suc k) (us ++ t ∷ []) (omega (arith, is)) (omega (arith, long, length-append us (t ∷ []))) u more (ap (λ (l : List Bytes). is_rising (take 64 l)) (sym same) ∙ proper)) [
      | inl g ↦ inl (record {
        clean = clean_head (text t) (beyond item 64 k) (more_texts (suc k) (u ∷ more) ++ sign close_curly ∷ []) mark g.clean;
        on = λ rest e. after_text n us t (a_symbol comma ∷ (bare ((members (suc k) (us ++ t ∷ [])).tokens (u, more)) ++ rest)) rises ∙ g.on rest e ∙ ap (λ (l : List Bytes). outcome l rest) (sym same);
      })
      | inr g ↦ inr (record {
        front = (text t, beyond item 64 k) ∷ sign comma ∷ g.front;
        last = g.last;
        limit = g.limit;
        behind = g.behind;
        whole = ap (λ (l : List Marked). (text t, beyond item 64 k) ∷ sign comma ∷ l) g.whole;
        clean = clean_head (text t) (beyond item 64 k) (sign comma ∷ g.front) mark g.clean;
        stops = λ v r s. after_text n us t (a_symbol comma ∷ (bare g.front ++ v ∷ r)) rises ∙ g.stops v r s;
      })
    ]

member_runs : (us : List Bytes) → Runs (member_at us)
unfolding member_at
member_runs us = by_first text_of (member_from us) each
  where
    each : (o : Option Bytes) → Runs (member_from us o)
    each None = halts Unexpected
    each (Some t) = either_way (λ ts. outcome (us ++ t ∷ []) (drop 1 ts)) (λ ts. Err (Unexpected, ts)) (past (gives (us ++ t ∷ []))) (halts Unexpected) (is_rising (us ++ t ∷ []))

texts_runs : (n : ℕ) (us : List Bytes) → Runs (texts_at n us)
unfolding texts_at
texts_runs zero us = by_first text_of one_too_many each
  where
    each : (o : Option Bytes) → Runs (one_too_many o)
    each None = halts Unexpected
    each (Some t) = halts TooMany
texts_runs (suc n) us = andthen (member_runs us) (λ more. by_first (λ t. is_symbol t comma) (λ b ts. cond b (texts_at n more (drop 1 ts)) (expect close_curly ts >>= λ after. outcome more after)) (λ b. either_way (λ ts. texts_at n more (drop 1 ts)) (λ ts. expect close_curly ts >>= λ after. outcome more after) (past (texts_runs n more)) (takes (λ t. is_symbol t close_curly) (gives more)) b))

sound_texts : {P : Type 0} → Sound P grammar.some_texts Anything (texts_at 64 [])
sound_texts = record {
  finds = λ holds. record {
    found = λ ts xs rest e. let f = texts_found 64 0 [] refl refl ts xs rest e in record { written = f.written; text = f.text; tree = f.tree; proper = f.proper; clean = f.clean };
    stopped = λ ts h e. let f = texts_stopped 64 0 [] refl refl refl ts h e in record { written = f.written; front = f.front; behind = f.behind; whole = f.whole; text = f.text; proper = f.proper; clean = f.clean; over = f.over };
  };
  again = record { again = λ s proper. texts_again 64 0 [] refl refl s.0 s.1 proper };
  runs = texts_runs 64 [];
  example = λ holds. record { written = ([], []); proper = refl };
}

closes : (b : Bool) (ts : List Token) → (let r : Result (List Bytes × List Token) Halt = cond b (Ok ([], drop 1 ts)) (texts_at 64 [] ts) in r) ≡ cond b ((let r : Result (List Token) Halt = cond b (Ok (drop 1 ts)) (Err (Unexpected, ts)) in r) >>= λ after. outcome [] after) (texts_at 64 [] ts)
closes true ts = refl
closes false ts = refl

pub sound_set_body : {P : Type 0} → Sound P (either_of (before (sign close_curly) (nothing [])) grammar.some_texts) Anything set_at
unfolding set_at is_symbol
sound_set_body = sound_same set_at (λ ts. closes (is_symbol (first ts) close_curly) ts) (sound_either (λ t. is_symbol t close_curly) (λ s proper. refl) (λ s proper. refl) (sound_before (symbol_tests close_curly) (sound_nothing [])) sound_texts)
