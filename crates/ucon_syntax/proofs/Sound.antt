-- A reader keeps to a form of the grammar, and how that passes from parts to the whole.
use Rattle.std.specs.Prelude.{⊤}
use Rattle.std.proofs.Common.{◌≡◌, ℕ, Bool, true, false, cond, inl, inr, List, [], ◌∷◌, ◌++◌, drop, Option, Some, None, Result, Ok, Err, refl, sym, ap, ◌∙◌, append_assoc, subst}
use Rattle.ucon_base.specs.Tokens.{Token}
use Rattle.ucon_model.specs.Forms.{Terminal, as_token, Limit, Marked, clear, Form, nothing, no_form, one_of, before, and_then, mapped, either_of, at_any_depth, bare}
use Rattle.ucon_model.specs.Spells.{Stands}
use Rattle.ucon_token.specs.declared.stop.Cause.TheVariants.{Unexpected}
use Rattle.ucon_token.specs.Tokens.{first}
use Rattle.ucon_token.specs.Reading.{Halt, Reads, ◌>>=◌, taken}
use Rattle.ucon_syntax.proofs.Marks.{clean_append, clean_head}
use Rattle.ucon_syntax.proofs.Steps.{halted, outcome, bind_ok, bind_err, pair_is, chosen, two_texts}
use Rattle.ucon_syntax.proofs.Keeping.{cause_of, Found, Stopped, Example, Finds, Outcome, Again, Meets, meets_any}
use Rattle.ucon_syntax.proofs.Local.{Runs, gives, halts, past, by_first, andthen, either_way, taking, takes, runs_same}
use Rattle.ucon_syntax.proofs.Outcomes.{over_more, followed, in_sequence, outcome_as, outcome_same, outcome_ending, outcome_mapped, outcome_when, outcome_unless, outcome_behind}

-- Under the premise each outcome is of the form; and what is written is read again, whatever the premise.
pub record Sound {A : Type 0} (P : Type 0) (X : Form A) (E : Token → Type 0) (reads : Reads A) : Type 0 where
  pub finds : P → Finds X reads
  pub again : Again X E reads
  pub runs : Runs reads
  pub example : P → Example X

abbrev pub Anything : Token → Type 0
Anything t = ⊤

pub at_halt : {A : Type 0} (X : Form A) (ts : List Token) (h k : Halt) → h ≡ k → Stopped X ts h → Stopped X ts k
at_halt X ts h k e s = let P : Halt → Type 0 = λ z. Stopped X ts z in subst P e s

pub stopped_at : {A : Type 0} (X : Form A) (ts us : List Token) (h : Halt) → ts ≡ us → Stopped X us h → Stopped X ts h
stopped_at X ts us h e s = record { written = s.written; front = s.front; behind = s.behind; whole = s.whole; text = e ∙ s.text; proper = s.proper; clean = s.clean; over = s.over }

-- nothing fits at the first token
pub stops_here : {A : Type 0} (X : Form A) (ts : List Token) (h : Halt) → halted Unexpected ts ≡ h → Example X → Stopped X ts h
stops_here X ts h e x = at_halt X ts (halted Unexpected ts) h e (record { written = x.written; front = []; behind = X.tokens x.written; whole = refl; text = refl; proper = x.proper; clean = tt; over = inl refl })

-- the same reader, written in another way
pub sound_same : {A P : Type 0} {X : Form A} {E : Token → Type 0} {p : Reads A} (q : Reads A) → ((ts : List Token) → q ts ≡ p ts) → Sound P X E p → Sound P X E q
sound_same {A} {P} {X} {E} {p} q same x = record {
  finds = λ holds. record {
    found = λ ts y rest e. (x.finds holds).found ts y rest (sym (same ts) ∙ e);
    stopped = λ ts h e. (x.finds holds).stopped ts h (sym (same ts) ∙ e);
  };
  again = record { again = λ s proper. outcome_same (X.tokens s) (X.tree s) E p q same (x.again.again s proper) };
  runs = runs_same same x.runs;
  example = x.example;
}

-- where less may follow
pub sound_ending : {A P : Type 0} {X : Form A} {E : Token → Type 0} {p : Reads A} (F : Token → Type 0) → ((t : Token) → F t → E t) → Sound P X E p → Sound P X F p
sound_ending {A} {P} {X} {E} {p} F enough x = record {
  finds = x.finds;
  again = record { again = λ s proper. outcome_ending (X.tokens s) (X.tree s) E F p enough (x.again.again s proper) };
  runs = x.runs;
  example = x.example;
}

pub sound_nothing : {A P : Type 0} (x : A) → Sound P (nothing x) Anything (λ ts. Ok (x, ts))
sound_nothing {A} x = record {
  finds = λ holds. record {
    found = λ ts y rest e. let p = pair_is {A = A} e in record { written = tt; text = p.1; tree = p.0; proper = tt; clean = tt };
    stopped = λ ts h e. absurd cc;
  };
  again = record { again = λ s proper. inl (record { clean = tt; on = λ rest e. refl }) };
  runs = gives x;
  example = λ holds. record { written = tt; proper = tt };
}

pub sound_mapped : {A B P : Type 0} {X : Form A} {E : Token → Type 0} {p : Reads A} (f : A → B) → Sound P X E p → Sound P (mapped f X) E (λ ts. p ts >>= λ x. Ok (f x.0, x.1))
sound_mapped {A} {B} {P} {X} {E} {p} f x = record {
  finds = λ holds. record {
    found = λ ts y rest e.
        let a = bind_ok (p ts) (λ x. Ok (f x.0, x.1)) (y, rest) e in
        let g = (x.finds holds).found ts a.0.0 a.0.1 a.1 in
        let last = pair_is {A = B} a.2 in
        record { written = g.written; text = g.text ∙ ap (λ (r : List Token). bare (X.tokens g.written) ++ r) last.1; tree = ap f g.tree ∙ last.0; proper = g.proper; clean = g.clean };
    stopped = λ ts h e. elim (bind_err (p ts) (λ x. Ok (f x.0, x.1)) h e) [
      | inl y ↦ let g = (x.finds holds).stopped ts h y in record { written = g.written; front = g.front; behind = g.behind; whole = g.whole; text = g.text; proper = g.proper; clean = g.clean; over = g.over }
      | inr (a, y, z) ↦ absurd cc
    ];
  };
  again = record { again = λ s proper. outcome_mapped f (X.tokens s) (X.tree s) E p (x.again.again s proper) };
  runs = andthen x.runs (λ y. gives (f y));
  example = λ holds. record { written = (x.example holds).written; proper = (x.example holds).proper };
}

-- a form and then another, which may follow it
pub sound_meeting : {A B P : Type 0} {X : Form A} {Y : A → Form B} {E F : Token → Type 0} {p : Reads A} {q : A → Reads B} → Sound P X E p → ((x : A) → Sound P (Y x) F (q x)) → ((x : A) (s : (Y x).Written) → (Y x).IsProper s → Meets E ((Y x).tokens s) F) → Sound P (and_then X Y) F (followed p q)
sound_meeting {A} {B} {P} {X} {Y} {E} {F} {p} {q} x y meets = record {
  finds = λ holds. record {
    found = λ ts z rest e.
        let a = bind_ok (p ts) (λ z. q z.0 z.1) (z, rest) e in
        let f = (x.finds holds).found ts a.0.0 a.0.1 a.1 in
        let goes : q (X.tree f.written) a.0.1 ≡ Ok (z, rest) = ap (λ (v : A). q v a.0.1) f.tree ∙ a.2 in
        let g = ((y (X.tree f.written)).finds holds).found a.0.1 z rest goes in
        record {
          written = (f.written, g.written);
          text = two_texts (X.tokens f.written) ((Y (X.tree f.written)).tokens g.written) ts a.0.1 rest f.text g.text;
          tree = g.tree;
          proper = (f.proper, g.proper);
          clean = clean_append (X.tokens f.written) ((Y (X.tree f.written)).tokens g.written) f.clean g.clean;
        };
    stopped = λ ts h e. elim (bind_err (p ts) (λ z. q z.0 z.1) h e) [
      | inl z ↦
          let f = (x.finds holds).stopped ts h z in
          let more = (y (X.tree f.written)).example holds in
          record {
            written = (f.written, more.written);
            front = f.front;
            behind = f.behind ++ (Y (X.tree f.written)).tokens more.written;
            whole = ap (λ (l : List Marked). l ++ (Y (X.tree f.written)).tokens more.written) f.whole ∙ append_assoc f.front f.behind ((Y (X.tree f.written)).tokens more.written);
            text = f.text;
            proper = (f.proper, more.proper);
            clean = f.clean;
            over = over_more h.0 f.behind ((Y (X.tree f.written)).tokens more.written) h.1 f.over;
          }
      | inr (a, z, v) ↦
          let f = (x.finds holds).found ts a.0 a.1 z in
          let goes : q (X.tree f.written) a.1 ≡ Err h = ap (λ (v : A). q v a.1) f.tree ∙ v in
          let g = ((y (X.tree f.written)).finds holds).stopped a.1 h goes in
          record {
            written = (f.written, g.written);
            front = X.tokens f.written ++ g.front;
            behind = g.behind;
            whole = ap (λ (l : List Marked). X.tokens f.written ++ l) g.whole ∙ sym (append_assoc (X.tokens f.written) g.front g.behind);
            text = two_texts (X.tokens f.written) g.front ts a.1 h.1 f.text g.text;
            proper = (f.proper, g.proper);
            clean = clean_append (X.tokens f.written) g.front f.clean g.clean;
            over = g.over;
          }
    ];
  };
  again = record { again = λ s proper. in_sequence (X.tokens s.0) ((Y (X.tree s.0)).tokens s.1) (X.tree s.0) ((Y (X.tree s.0)).tree s.1) E F p q (x.again.again s.0 proper.0) (λ clean. (y (X.tree s.0)).again.again s.1 proper.1) (meets (X.tree s.0) s.1 proper.1) };
  runs = andthen x.runs (λ z. (y z).runs);
  example = λ holds. let e = x.example holds in let f = (y (X.tree e.written)).example holds in record { written = (e.written, f.written); proper = (e.proper, f.proper) };
}

-- where anything may follow the first
pub sound_then : {A B P : Type 0} {X : Form A} {Y : A → Form B} {F : Token → Type 0} {p : Reads A} {q : A → Reads B} → Sound P X Anything p → ((x : A) → Sound P (Y x) F (q x)) → Sound P (and_then X Y) F (followed p q)
sound_then {A} {B} {P} {X} {Y} {F} x y = sound_meeting x y (λ z s proper. meets_any ((Y z).tokens s) F)

-- ---- single tokens

-- the test is whether it is this token
pub record Tests (t : Terminal) (test : Token → Bool) : Type 0 where
  pub is : (ts : List Token) → test (first ts) ≡ true → ts ≡ as_token t ∷ drop 1 ts
  pub again : test (as_token t) ≡ true

taking_cases : (b : Bool) (ts rest : List Token) → (let r : Result (List Token) Halt = cond b (Ok (drop 1 ts)) (Err (Unexpected, ts)) in r) ≡ Ok rest → (b ≡ true) × (drop 1 ts ≡ rest)
taking_cases true ts rest e = (refl, cc)
taking_cases false ts rest e = absurd cc

pub taking_stops : (b : Bool) (ts : List Token) (h : Halt) → (let r : Result (List Token) Halt = cond b (Ok (drop 1 ts)) (Err (Unexpected, ts)) in r) ≡ Err h → halted Unexpected ts ≡ h
taking_stops true ts h e = absurd cc
taking_stops false ts h e = cc

pub taking_ok : {t : Terminal} {test : Token → Bool} (ts rest : List Token) → Tests t test → taking test ts ≡ Ok rest → ts ≡ as_token t ∷ rest
taking_ok {t} {test} ts rest k e = let h = taking_cases (test (first ts)) ts rest e in k.is ts h.0 ∙ ap (λ (r : List Token). as_token t ∷ r) h.1

taking_on : {A : Type 0} (test : Token → Bool) (next : Reads A) (t : Token) (ts : List Token) → test t ≡ true → (taking test (t ∷ ts) >>= next) ≡ next ts
taking_on test next t ts e = rw e refl

pub sound_before : {A P : Type 0} {X : Form A} {E : Token → Type 0} {next : Reads A} {t : Terminal} {test : Token → Bool} → Tests t test → Sound P X E next → Sound P (before (clear t) X) E (λ ts. taking test ts >>= λ after. next after)
sound_before {A} {P} {X} {E} {next} {t} {test} k x = record {
  finds = λ holds. record {
    found = λ ts y rest e.
        let a = bind_ok (taking test ts) next (y, rest) e in
        let f = (x.finds holds).found a.0 y rest a.2 in
        record { written = f.written; text = taking_ok ts a.0 k a.1 ∙ ap (λ (r : List Token). as_token t ∷ r) f.text; tree = f.tree; proper = f.proper; clean = f.clean };
    stopped = λ ts h e. elim (bind_err (taking test ts) next h e) [
      | inl y ↦ stops_here (before (clear t) X) ts h (taking_stops (test (first ts)) ts h y) (record { written = (x.example holds).written; proper = (x.example holds).proper })
      | inr (a, y, z) ↦
          let f = (x.finds holds).stopped a h z in
          record {
            written = f.written;
            front = clear t ∷ f.front;
            behind = f.behind;
            whole = ap (λ (l : List Marked). clear t ∷ l) f.whole;
            text = taking_ok ts a k y ∙ ap (λ (r : List Token). as_token t ∷ r) f.text;
            proper = f.proper;
            clean = f.clean;
            over = f.over;
          }
    ];
  };
  again = record { again = λ s proper. outcome_behind t None (X.tokens s) (X.tree s) E next (λ ts. taking test ts >>= λ after. next after) refl (λ ts. taking_on test next (as_token t) ts k.again) (x.again.again s proper) };
  runs = takes test x.runs;
  example = λ holds. record { written = (x.example holds).written; proper = (x.example holds).proper };
}

-- a token that passes a limit
abbrev pub barred : {A : Type 0} → Limit → (Token → Bool) → Reads A
barred limit test ts = cond (test (first ts)) (Err (cause_of limit, ts)) (Err (Unexpected, ts))

pub sound_barred : {A P : Type 0} {X : Form A} {E : Token → Type 0} {t : Terminal} {test : Token → Bool} (limit : Limit) → Tests t test → ((u : Token) → Stands limit t u → test u ≡ true) → (P → Example X) → Sound P (before (t, Some limit) X) E (barred limit test)
sound_barred {A} {P} {X} {E} {t} {test} limit k stands x = record {
  finds = λ holds. record {
    found = λ ts y rest e. elim (chosen (test (first ts)) (Err (cause_of limit, ts)) (Err (Unexpected, ts)) (outcome y rest) e) [
      | inl (b, z) ↦ absurd cc
      | inr (b, z) ↦ absurd cc
    ];
    stopped = λ ts h e. elim (chosen (test (first ts)) (Err (cause_of limit, ts)) (Err (Unexpected, ts)) (failed h) e) [
      | inl (b, z) ↦ at_halt (before (t, Some limit) X) ts (halted (cause_of limit) ts) h (failure_is (halted (cause_of limit) ts) h z) (record {
        written = (x holds).written;
        front = [];
        behind = (t, Some limit) ∷ X.tokens (x holds).written;
        whole = refl;
        text = refl;
        proper = (x holds).proper;
        clean = tt;
        over = inr (record { limit = limit; last = t; more = X.tokens (x holds).written; token = as_token t; after = drop 1 ts; is_behind = refl; is_rest = k.is ts b; stands = inl refl; cause = refl });
      })
      | inr (b, z) ↦ stops_here (before (t, Some limit) X) ts h (failure_is (halted Unexpected ts) h z) (record { written = (x holds).written; proper = (x holds).proper })
    ];
  };
  again = record { again = λ s proper. inr (record { front = []; last = t; limit = limit; behind = X.tokens s; whole = refl; clean = tt; stops = λ u r st. bars u r (stands u st) }) };
  runs = by_first test (λ b ts. cond b (Err (cause_of limit, ts)) (Err (Unexpected, ts))) (λ b. either_way (λ ts. Err (cause_of limit, ts)) (λ ts. Err (Unexpected, ts)) (halts (cause_of limit)) (halts Unexpected) b);
  example = λ holds. record { written = (x holds).written; proper = (x holds).proper };
}
  where
    failed : Halt → Result (A × List Token) Halt
    failed h = Err h

    failure_is : (h k : Halt) → (let a : Result (A × List Token) Halt = Err h in a) ≡ Err k → h ≡ k
    failure_is h k e = cc

    bars : (u : Token) (r : List Token) → test u ≡ true → barred {A = A} limit test (u ∷ r) ≡ Err (cause_of limit, u ∷ r)
    bars u r e = rw e refl

-- the token tells which it is, of those that are allowed
pub record Picks {B : Type 0} (token : B → Terminal) (passes : B → Option Limit) (IsAllowed : B → Type 0) (pick : Token → Option B) : Type 0 where
  pub is : (ts : List Token) (b : B) → pick (first ts) ≡ Some b → ts ≡ as_token (token b) ∷ drop 1 ts
  pub allowed : (t : Token) (b : B) → pick t ≡ Some b → IsAllowed b
  pub again : (b : B) → IsAllowed b → pick (as_token (token b)) ≡ Some b
  pub alone : (b : B) (l : Limit) → passes b ≡ Some l → (u : Token) → Stands l (token b) u → u ≡ as_token (token b)
  pub one : B
  pub one_allowed : IsAllowed one

abbrev pub unless_passed : {B : Type 0} → Option Limit → B → Reads B
unless_passed None b ts = Ok (b, drop 1 ts)
unless_passed (Some l) b ts = Err (cause_of l, ts)

abbrev pub picked : {B : Type 0} → (B → Option Limit) → Option B → Reads B
picked passes None ts = Err (Unexpected, ts)
picked passes (Some b) ts = unless_passed (passes b) b ts

abbrev err_of : (B : Type 0) → Halt → Result (B × List Token) Halt
err_of B h = Err h

err_is : {B : Type 0} (h k : Halt) → err_of B h ≡ Err k → h ≡ k
err_is h k e = cc

passed_found : {B : Type 0} {token : B → Terminal} {passes : B → Option Limit} {IsAllowed : B → Type 0} {pick : Token → Option B} (k : Picks token passes IsAllowed pick) (ts : List Token) (x b : B) (rest : List Token) (o : Option Limit) → pick (first ts) ≡ Some b → passes b ≡ o → unless_passed o b ts ≡ Ok (x, rest) → Found (one_of token passes IsAllowed) ts x rest
passed_found {B} {token} {passes} k ts x b rest None is e z =
    let p = pair_is {A = B} z in
    record { written = b; text = k.is ts b is ∙ ap (λ (r : List Token). as_token (token b) ∷ r) p.1; tree = p.0; proper = k.allowed (first ts) b is; clean = clean_head (token b) (passes b) [] e tt }
passed_found k ts x b rest (Some l) is e z = absurd cc

picked_found : {B : Type 0} {token : B → Terminal} {passes : B → Option Limit} {IsAllowed : B → Type 0} {pick : Token → Option B} (k : Picks token passes IsAllowed pick) (ts : List Token) (x : B) (rest : List Token) (o : Option B) → pick (first ts) ≡ o → picked passes o ts ≡ Ok (x, rest) → Found (one_of token passes IsAllowed) ts x rest
picked_found k ts x rest None is z = absurd cc
picked_found {passes = passes} k ts x rest (Some b) is z = passed_found k ts x b rest (passes b) is refl z

passed_stopped : {B : Type 0} {token : B → Terminal} {passes : B → Option Limit} {IsAllowed : B → Type 0} {pick : Token → Option B} (k : Picks token passes IsAllowed pick) (ts : List Token) (b : B) (h : Halt) (o : Option Limit) → pick (first ts) ≡ Some b → passes b ≡ o → unless_passed o b ts ≡ Err h → Stopped (one_of token passes IsAllowed) ts h
passed_stopped k ts b h None is e z = absurd cc
passed_stopped {B} {token} {passes} {IsAllowed} k ts b h (Some l) is e z = at_halt (one_of token passes IsAllowed) ts (halted (cause_of l) ts) h (err_is {B = B} (halted (cause_of l) ts) h z) (record {
  written = b;
  front = [];
  behind = (token b, passes b) ∷ [];
  whole = refl;
  text = refl;
  proper = k.allowed (first ts) b is;
  clean = tt;
  over = inr (record { limit = l; last = token b; more = []; token = as_token (token b); after = drop 1 ts; is_behind = ap (λ (o : Option Limit). (token b, o) ∷ []) e; is_rest = k.is ts b is; stands = inl refl; cause = refl });
})

picked_stopped : {B : Type 0} {token : B → Terminal} {passes : B → Option Limit} {IsAllowed : B → Type 0} {pick : Token → Option B} (k : Picks token passes IsAllowed pick) (ts : List Token) (h : Halt) (o : Option B) → pick (first ts) ≡ o → picked passes o ts ≡ Err h → Stopped (one_of token passes IsAllowed) ts h
picked_stopped {B} {token} {passes} {IsAllowed} k ts h None is z = stops_here (one_of token passes IsAllowed) ts h (err_is {B = B} (halted Unexpected ts) h z) (record { written = k.one; proper = k.one_allowed })
picked_stopped {passes = passes} k ts h (Some b) is z = passed_stopped k ts b h (passes b) is refl z

picked_on : {B : Type 0} (passes : B → Option Limit) (pick : Token → Option B) (t : Token) (ts : List Token) (b : B) (o : Option Limit) → pick t ≡ Some b → passes b ≡ o → picked passes (pick t) (t ∷ ts) ≡ unless_passed o b (t ∷ ts)
picked_on passes pick t ts b o e f = ap (λ z. picked passes z (t ∷ ts)) e ∙ ap (λ (z : Option Limit). unless_passed z b (t ∷ ts)) f

picked_again : {B : Type 0} {token : B → Terminal} {passes : B → Option Limit} {IsAllowed : B → Type 0} {pick : Token → Option B} (k : Picks token passes IsAllowed pick) (b : B) (o : Option Limit) → passes b ≡ o → IsAllowed b → Outcome ((token b, passes b) ∷ []) b Anything (λ ts. picked passes (pick (first ts)) ts)
picked_again {B} {token} {passes} {pick = pick} k b None e allowed = inl (record { clean = clean_head (token b) (passes b) [] e tt; on = λ rest f. picked_on passes pick (as_token (token b)) rest b None (k.again b allowed) e })
picked_again {B} {token} {passes} {pick = pick} k b (Some l) e allowed = inr (record {
  front = [];
  last = token b;
  limit = l;
  behind = [];
  whole = ap (λ (o : Option Limit). (token b, o) ∷ []) e;
  clean = tt;
  stops = λ u r st. let same = k.alone b l e u st in picked_on passes pick u r b (Some l) (ap pick same ∙ k.again b allowed) e;
})

pub sound_picked : {B P : Type 0} {token : B → Terminal} {passes : B → Option Limit} {IsAllowed : B → Type 0} {pick : Token → Option B} → Picks token passes IsAllowed pick → Sound P (one_of token passes IsAllowed) Anything (λ ts. picked passes (pick (first ts)) ts)
sound_picked {B} {P} {token} {passes} {IsAllowed} {pick} k = record {
  finds = λ holds. record {
    found = λ ts x rest e. picked_found k ts x rest (pick (first ts)) refl e;
    stopped = λ ts h e. picked_stopped k ts h (pick (first ts)) refl e;
  };
  again = record { again = λ b allowed. picked_again k b (passes b) refl allowed };
  runs = by_first pick (picked passes) each;
  example = λ holds. record { written = k.one; proper = k.one_allowed };
}
  where
    by_mark : (o : Option Limit) (b : B) → Runs (unless_passed o b)
    by_mark None b = past (gives b)
    by_mark (Some l) b = halts (cause_of l)

    each : (o : Option B) → Runs (picked passes o)
    each None = halts Unexpected
    each (Some b) = record { program = (by_mark (passes b) b).program; same = (by_mark (passes b) b).same }

taken_is : {B : Type 0} (o : Option B) (ts : List Token) → taken o ts ≡ picked (λ b. None) o ts
taken_is None ts = refl
taken_is (Some b) ts = refl

pub sound_taken : {B P : Type 0} {token : B → Terminal} {IsAllowed : B → Type 0} {pick : Token → Option B} → Picks token (λ b. None) IsAllowed pick → Sound P (one_of token (λ b. None) IsAllowed) Anything (λ ts. taken (pick (first ts)) ts)
sound_taken {B} {pick = pick} k = sound_same (λ ts. taken (pick (first ts)) ts) (λ ts. taken_is (pick (first ts)) ts) (sound_picked k)

-- ---- one form or the other, by a test of the first token

pub sound_either : {A P : Type 0} {X Y : Form A} {E : Token → Type 0} {p q : Reads A} (test : Token → Bool) → ((s : X.Written) → X.IsProper s → Meets (λ t. test t ≡ true) (X.tokens s) E) → ((s : Y.Written) → Y.IsProper s → Meets (λ t. test t ≡ false) (Y.tokens s) E) → Sound P X E p → Sound P Y E q → Sound P (either_of X Y) E (λ ts. cond (test (first ts)) (p ts) (q ts))
sound_either {A} {P} {X} {Y} {E} {p} {q} test one other x y = record {
  finds = λ holds. record {
    found = λ ts z rest e. elim (chosen (test (first ts)) (p ts) (q ts) (outcome z rest) e) [
      | inl (b, f) ↦ let g = (x.finds holds).found ts z rest f in record { written = inl g.written; text = g.text; tree = g.tree; proper = g.proper; clean = g.clean }
      | inr (b, f) ↦ let g = (y.finds holds).found ts z rest f in record { written = inr g.written; text = g.text; tree = g.tree; proper = g.proper; clean = g.clean }
    ];
    stopped = λ ts h e. elim (chosen (test (first ts)) (p ts) (q ts) (err_of A h) e) [
      | inl (b, f) ↦ let g = (x.finds holds).stopped ts h f in record { written = inl g.written; front = g.front; behind = g.behind; whole = g.whole; text = g.text; proper = g.proper; clean = g.clean; over = g.over }
      | inr (b, f) ↦ let g = (y.finds holds).stopped ts h f in record { written = inr g.written; front = g.front; behind = g.behind; whole = g.whole; text = g.text; proper = g.proper; clean = g.clean; over = g.over }
    ];
  };
  again = record { again = again };
  runs = by_first test (λ b ts. cond b (p ts) (q ts)) (λ b. either_way p q x.runs y.runs b);
  example = λ holds. record { written = inl (x.example holds).written; proper = (x.example holds).proper };
}
  where
    again : (s : (either_of X Y).Written) → (either_of X Y).IsProper s → Outcome ((either_of X Y).tokens s) ((either_of X Y).tree s) E (λ ts. cond (test (first ts)) (p ts) (q ts))
    again (inl s) proper = outcome_when test (X.tokens s) (X.tree s) E p q (one s proper) (x.again.again s proper)
    again (inr s) proper = outcome_unless test (Y.tokens s) (Y.tree s) E p q (other s proper) (y.again.again s proper)

-- ---- depth

pub sound_at_any_depth : {A : Type 0} {P : ℕ → Type 0} {X : ℕ → Form A} {E : Token → Type 0} {p : Reads A} (depth : ℕ) → P depth → ((d : ℕ) → Sound (P d) (X d) E p) → {Q : Type 0} → Sound Q (at_any_depth X) E p
sound_at_any_depth {A} {P} {X} {E} {p} depth holds x {Q} = record {
  finds = λ q. record {
    found = λ ts y rest e. let f = ((x depth).finds holds).found ts y rest e in record { written = (depth, f.written); text = f.text; tree = f.tree; proper = f.proper; clean = f.clean };
    stopped = λ ts h e. let f = ((x depth).finds holds).stopped ts h e in record { written = (depth, f.written); front = f.front; behind = f.behind; whole = f.whole; text = f.text; proper = f.proper; clean = f.clean; over = f.over };
  };
  again = record { again = λ s proper. (x s.0).again.again s.1 proper };
  runs = (x depth).runs;
  example = λ q. record { written = (depth, ((x depth).example holds).written); proper = ((x depth).example holds).proper };
}

pub sound_no_form : {A P : Type 0} {E : Token → Type 0} {p : Reads A} → (P → ⊥) → Runs p → Sound P no_form E p
sound_no_form nothing_holds runs = record {
  finds = λ holds. absurd (nothing_holds holds);
  again = record { again = λ s proper. absurd s };
  runs = runs;
  example = λ holds. absurd (nothing_holds holds);
}

-- under a stronger premise
pub sound_under : {A P Q : Type 0} {X : Form A} {E : Token → Type 0} {p : Reads A} → (Q → P) → Sound P X E p → Sound Q X E p
sound_under f x = record { finds = λ q. x.finds (f q); again = x.again; runs = x.runs; example = λ q. x.example (f q) }

-- standing for the same
pub sound_retree : {A P : Type 0} {X : Form A} {E : Token → Type 0} {p : Reads A} (tree : X.Written → A) → ((s : X.Written) → tree s ≡ X.tree s) → Sound P X E p → Sound P (record { Written = X.Written; tokens = X.tokens; tree = tree; IsProper = X.IsProper }) E p
sound_retree {A} {P} {X} {E} {p} tree same x = record {
  finds = λ holds. record {
    found = λ ts y rest e. let f = (x.finds holds).found ts y rest e in record { written = f.written; text = f.text; tree = same f.written ∙ f.tree; proper = f.proper; clean = f.clean };
    stopped = λ ts h e. let f = (x.finds holds).stopped ts h e in record { written = f.written; front = f.front; behind = f.behind; whole = f.whole; text = f.text; proper = f.proper; clean = f.clean; over = f.over };
  };
  again = record { again = λ s proper. outcome_as (X.tokens s) (X.tree s) (tree s) E p (sym (same s)) (x.again.again s proper) };
  runs = x.runs;
  example = λ holds. record { written = (x.example holds).written; proper = (x.example holds).proper };
}
