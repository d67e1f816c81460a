-- What is found in a file, record by record.
use Rattle.std.proofs.Common.{◌≡◌, ◌≢◌, ℕ, ◌+◌, ◌≤◌, ◌<◌, Bool, true, false, List, [], ◌∷◌, ◌++◌, length, take, Option, Some, None, refl, sym, ap, ◌∙◌, subst, arith}
use Rattle.std.specs.Prelude.{nat_lt, option_map, unwrap_or, if◌then◌else◌}
use Rattle.ucon_journal.specs.Found as journal
use Rattle.ucon_model.specs.Found.{Finding, Takes, damaged, first_gate, found_behind, found_in, found_on, fresh, holds, next_gate, taken}
use Rattle.ucon_model.specs.History.{History}
use Rattle.ucon_model.specs.Payload.{most_payload}
use Rattle.ucon_model.specs.Plain.{Bytes, PlainPolicy}
use Rattle.ucon_store.specs.Found.{IsFoundAs, Tells, finding_by, found, found_by}
use Rattle.ucon_store.specs.Points.{has_points, is_point, point_taken, takes_with}
use Rattle.ucon_syntax.specs.Policies.{accepted}
use Rattle.ucon_audit.specs.declared.chain.Chain.{Chain}
use Rattle.ucon_audit.specs.declared.head.Kept.{Kept}
use Rattle.ucon_audit.specs.Checking.{IsUpTo}
use Rattle.ucon_audit.specs.Head.{IsChain}

-- what the law on payloads says
abbrev pub OneByOne : Type 0
OneByOne = (reads : Bytes → Option PlainPolicy) (takes : Takes) (front rest : List Bytes)
    → found_in reads takes (front ++ rest) ≡ found_on reads takes (found_in reads takes front) (length front) rest

-- ---- the whole file, by the payloads that count

by_payloads : (takes : Takes) (f : journal.Found) (p : Bytes) (ps : List Bytes) → journal.payloads_found f ≡ p ∷ ps
    → finding_by accepted takes f ≡ found_in accepted takes (journal.payloads_found f)
by_payloads takes journal.Fresh p ps is = absurd (cc is)
by_payloads takes journal.NotJournal p ps is = absurd (cc is)
by_payloads takes (journal.Holds payloads gate) p ps is = refl

-- where a record counts
pub found_counted : (file : Bytes) (p : Bytes) (ps : List Bytes) → journal.counted file ≡ p ∷ ps
    → found file ≡ found_in accepted (takes_with (has_points file)) (journal.counted file)
unfolding found_by
found_counted file p ps is = by_payloads (takes_with (has_points file)) (journal.found file) p ps is

by_none : (takes : Takes) (f : journal.Found) → f ≢ journal.NotJournal → journal.payloads_found f ≡ [] → finding_by accepted takes f ≡ fresh
by_none takes journal.Fresh isnt none = refl
by_none takes journal.NotJournal isnt none = absurd (isnt refl)
by_none takes (journal.Holds payloads gate) isnt none = ap (found_in accepted takes) none

-- where none does, in a journal
pub found_fresh : (file : Bytes) → journal.found file ≢ journal.NotJournal → journal.counted file ≡ [] → found file ≡ fresh
unfolding found_by
found_fresh file isnt none = by_none (takes_with (has_points file)) (journal.found file) isnt none

pub fresh_found : (text file : Bytes) → found file ≡ fresh → IsFoundAs text file []
fresh_found text file is = subst (λ (f : Finding). Tells f text []) (sym is) refl

pub holds_found : (text : Bytes) (P : PlainPolicy) (H : History) (gate : ℕ) (file : Bytes) → found file ≡ holds text P H gate → IsFoundAs text file H
holds_found text P H gate file is = subst (λ (f : Finding). Tells f text H) (sym is) (refl, refl)

-- ---- a payload that is too long

long_yes : (n : ℕ) → 16777215 < n → nat_lt most_payload n ≡ true
long_yes n less = grind arith

short_no : (n : ℕ) → n ≤ 16777215 → nat_lt most_payload n ≡ false
short_no n le = grind arith

either : (b : Bool) (x y : Option History) → x ≡ None → y ≡ None → (if b then x else y) ≡ None
either true x y p q = p
either false x y p q = q

long_step : (P : PlainPolicy) (H : History) (payload : Bytes) → 16777215 < length payload → taken accepted P H payload ≡ None
unfolding taken
long_step P H payload long = rw (long_yes (length payload) long) refl

long_point : (text : Bytes) (P : PlainPolicy) (H : History) (payload : Bytes) → 16777215 < length payload → point_taken text P H payload ≡ None
unfolding point_taken
long_point text P H payload long = rw (long_yes (length payload) long) refl

pub long_wrong : (points : Bool) (text : Bytes) (P : PlainPolicy) (H : History) (payload : Bytes) → 16777215 < length payload
    → takes_with points text P H payload ≡ None
long_wrong true text P H payload long = either (is_point payload) _ _ (long_point text P H payload long) (long_step P H payload long)
long_wrong false text P H payload long = long_step P H payload long

-- ---- one record more

module _ (one_by_one : OneByOne) (takes : Takes) (text : Bytes) (P : PlainPolicy) (H : History) (front : List Bytes) (gate : ℕ)
    (is : found_in accepted takes front ≡ holds text P H gate) where
  found_further : (rest : List Bytes) → found_in accepted takes (front ++ rest) ≡ found_behind takes text P H (length front) gate rest
  found_further rest = one_by_one accepted takes front rest ∙ ap (λ f. found_on accepted takes f (length front) rest) is

  with_right : (p : Bytes) (G : History) → takes text P H p ≡ Some G → found_in accepted takes (front ++ p ∷ []) ≡ holds text P G (next_gate gate p)
  with_right p G right =
      found_further (p ∷ [])
      ∙ ap (λ o. unwrap_or (option_map (λ later. holds text P later (next_gate gate p)) o) (damaged (length front) gate)) right

  with_wrong : (p : Bytes) (ps : List Bytes) → takes text P H p ≡ None → found_in accepted takes (front ++ p ∷ ps) ≡ damaged (length front) gate
  with_wrong p ps wrong =
      found_further (p ∷ ps)
      ∙ ap (λ o. unwrap_or (option_map (λ later. found_behind takes text P later (length front + 1) (next_gate gate p) ps) o) (damaged (length front) gate)) wrong

one_further : (front : List Bytes) (p : Bytes) (rest : List Bytes) → front ++ p ∷ rest ≡ (front ++ p ∷ []) ++ rest
one_further [] p rest = refl
one_further (q ∷ front) p rest = ap (λ (l : List Bytes). q ∷ l) (one_further front p rest)

some_there : (front : List Bytes) (p : Bytes) (rest : List Bytes) → (q : Bytes) × (qs : List Bytes) × (front ++ p ∷ rest ≡ q ∷ qs)
some_there [] p rest = (p, rest, refl)
some_there (q ∷ front) p rest = (q, front ++ p ∷ rest, refl)

module _ (one_by_one : OneByOne) (kept : Option Kept) (text : Bytes) (P : PlainPolicy) (H : History) (chain : Chain) (gate : ℕ) (file : Bytes)
    (up_to : IsUpTo kept text P H chain gate file) (points : Bool) (kind : has_points file ≡ points) (payload : Bytes) where
  -- a record that is right: the records up to the next gate
  pub one_more : (G : History) (new : Chain) (next : ℕ) → journal.payloads_from file gate ≡ payload ∷ journal.payloads_from file next
      → next ≡ next_gate gate payload → takes_with points text P H payload ≡ Some G
      → ((magic : Bytes) (payloads : List Bytes) → IsChain kept magic payloads chain → IsChain kept magic (payloads ++ payload ∷ []) new)
      → IsUpTo kept text P G new next file
  one_more G new next are at right added = record {
    front = up_to.front ++ payload ∷ [];
    are = up_to.are ∙ (ap (λ (l : List Bytes). up_to.front ++ l) are ∙ one_further up_to.front payload (journal.payloads_from file next));
    found = with_right one_by_one (takes_with (has_points file)) text P H up_to.front gate up_to.found payload G
        (ap (λ b. takes_with b text P H payload) kind ∙ right) ∙ ap (holds text P G) (sym at);
    chained = added (take 8 file) up_to.front up_to.chained;
  }

  -- one that is wrong is found as damaged
  pub one_wrong : (rest : List Bytes) → journal.payloads_from file gate ≡ payload ∷ rest → takes_with points text P H payload ≡ None
      → found file ≡ damaged chain.records gate
  one_wrong rest are wrong =
      let all : journal.counted file ≡ up_to.front ++ payload ∷ rest = up_to.are ∙ ap (λ (l : List Bytes). up_to.front ++ l) are in
      let some = some_there up_to.front payload rest in
      found_counted file some.0 some.1 (all ∙ some.2)
      ∙ (ap (found_in accepted (takes_with (has_points file))) all
      ∙ (with_wrong one_by_one (takes_with (has_points file)) text P H up_to.front gate up_to.found payload rest (ap (λ b. takes_with b text P H payload) kind ∙ wrong)
      ∙ ap (λ n. damaged n gate) (sym up_to.chained.records)))

-- ---- record 0

first_right : (takes : Takes) (text : Bytes) (P : PlainPolicy) → length text ≤ 16777215 → accepted text ≡ Some P
    → found_in accepted takes (text ∷ []) ≡ holds text P [] (next_gate first_gate text)
first_right takes text P short is = rw (short_no (length text) short, is) refl

first_none : (b : Bool) (o : Option PlainPolicy) → o ≡ None → (if b then None else o) ≡ None
first_none true o is = refl
first_none false o is = is

-- the records up to the gate behind record 0
pub first_up_to : (kept : Option Kept) (text : Bytes) (P : PlainPolicy) (chain : Chain) (gate : ℕ) (file : Bytes) → length text ≤ 16777215 → accepted text ≡ Some P
    → gate ≡ 13 + length text → journal.counted file ≡ text ∷ journal.payloads_from file gate → IsChain kept (take 8 file) (text ∷ []) chain
    → IsUpTo kept text P [] chain gate file
first_up_to kept text P chain gate file short accepts at are chained = record {
  front = text ∷ [];
  are = are;
  found = first_right (takes_with (has_points file)) text P short accepts ∙ ap (holds text P []) (omega (arith, at));
  chained = chained;
}

-- a text that is no policy's
pub first_refused : (text : Bytes) (rest : List Bytes) (file : Bytes) → journal.counted file ≡ text ∷ rest → accepted text ≡ None → found file ≡ damaged 0 first_gate
first_refused text rest file are none =
    found_counted file text rest are
    ∙ (ap (found_in accepted (takes_with (has_points file))) are
    ∙ ap (λ o. unwrap_or (option_map (λ P. found_behind (takes_with (has_points file)) text P [] 1 (next_gate first_gate text) rest) o) (damaged 0 first_gate))
    (first_none (nat_lt most_payload (length text)) (accepted text) none))

-- or one that is too long
pub first_long : (text : Bytes) (rest : List Bytes) (file : Bytes) → journal.counted file ≡ text ∷ rest → 16777215 < length text → found file ≡ damaged 0 first_gate
first_long text rest file are long =
    found_counted file text rest are
    ∙ (ap (found_in accepted (takes_with (has_points file))) are
    ∙ ap (λ b. unwrap_or (option_map (λ P. found_behind (takes_with (has_points file)) text P [] 1 (next_gate first_gate text) rest) (if b then None else accepted text)) (damaged 0 first_gate))
    (long_yes (length text) long))

-- ---- all records

-- where no record is left, the file is found as the history that the records up to the gate gave
pub all_found : (kept : Option Kept) (text : Bytes) (P : PlainPolicy) (H : History) (chain : Chain) (gate : ℕ) (file : Bytes) → IsUpTo kept text P H chain gate file
    → journal.payloads_from file gate ≡ [] → (found file ≡ holds text P H gate) × IsChain kept (take 8 file) (journal.counted file) chain
all_found kept text P H chain gate file up_to none = by_front up_to.front refl
  where
    all : journal.counted file ≡ up_to.front
    all = up_to.are ∙ (ap (λ (l : List Bytes). up_to.front ++ l) none ∙ append_nil up_to.front)
      where
        append_nil : (l : List Bytes) → l ++ [] ≡ l
        append_nil [] = refl
        append_nil (p ∷ l) = ap (λ (m : List Bytes). p ∷ m) (append_nil l)

    nothing_held : found_in accepted (takes_with (has_points file)) [] ≡ holds text P H gate → ⊥
    nothing_held is = cc is

    by_front : (front : List Bytes) → up_to.front ≡ front → (found file ≡ holds text P H gate) × IsChain kept (take 8 file) (journal.counted file) chain
    by_front [] is = absurd (nothing_held (ap (found_in accepted (takes_with (has_points file))) (sym is) ∙ up_to.found))
    by_front (p ∷ ps) is = (
      found_counted file p ps (all ∙ is) ∙ (ap (found_in accepted (takes_with (has_points file))) all ∙ up_to.found),
      subst (λ (l : List Bytes). IsChain kept (take 8 file) l chain) (sym all) up_to.chained,
    )
