-- A step's record is no checkpoint.
use Rattle.std.proofs.Common.{◌≡◌, ℕ, ◌+◌, ◌<◌, true, false, Bool, List, [], ◌∷◌, ◌++◌, ⊎_elim, refl, sym, ap, ◌∙◌, arith}
use Rattle.std.proofs.lemmas.Bool.Decides.{Decides-eqb}
use Rattle.std.proofs.lemmas.Fmt.{decimal_is_IsNumeral}
use Rattle.std.proofs.lemmas.Slice.Eq.{starts_is}
use Rattle.std.proofs.lemmas.Str.Parse.{digit_from_value}
use Rattle.std.specs.Prelude.{codes, drop, if◌then◌else◌}
use Rattle.std.specs.Fmt.{decimal}
use Rattle.std.specs.Str.{bytes_eq}
use Rattle.std.specs.Str.Parse.{AllDigits}
use Rattle.ucon_base.specs.Elements.{Each}
use Rattle.ucon_journal.specs.Found.{counted}
use Rattle.ucon_journal.specs.JournalBytes.{magic}
use Rattle.ucon_model.specs.declared.command.Entry.{Entry}
use Rattle.ucon_model.specs.Action.{Trace}
use Rattle.ucon_model.specs.Block.{after, reply as reply_to}
use Rattle.ucon_model.specs.CommandLine.{command_spelling}
use Rattle.ucon_model.specs.History.{History, changes, trace_from}
use Rattle.ucon_model.specs.Payload.{payload_spelling, told}
use Rattle.ucon_model.specs.Plain.{Bytes, PlainPolicy}
use Rattle.ucon_model.specs.Spelling.{reply_spelling}
use Rattle.ucon_store.specs.Points.{has_points, is_point, places_behind, places_in, point_places}
use Rattle.ucon_store.specs.Batched.{changing_after, payloads_after}
use Rattle.ucon_store.specs.Steps.{AddsTogether, step_payload}

-- digits and a space begin no checkpoint
digits_begin : (ds text rest : Bytes) → AllDigits 10 ds → ds ++ 32 ∷ text ≡ 112 ∷ rest → ⊥
digits_begin [] text rest all e = let same : ◌≡◌ {A = ℕ} 32 112 = cc e in omega (arith, same)
digits_begin (d ∷ ds) text rest all e =
    let same : d ≡ 112 = cc e in
    let range = digit_from_value d all.0 in
    omega (arith, same, range)

digits_unpointed : (ds text : Bytes) → AllDigits 10 ds → (b : Bool) → is_point (ds ++ 32 ∷ text) ≡ b → b ≡ false
digits_unpointed ds text all true is =
    let whole : ds ++ 32 ∷ text ≡ codes "point " ++ drop 6 (ds ++ 32 ∷ text) = (starts_is Decides-eqb (ds ++ 32 ∷ text) (codes "point ") true (sym is)).0 refl in
    absurd (digits_begin ds text (codes "oint " ++ drop 6 (ds ++ 32 ∷ text)) all whole)
digits_unpointed ds text all false is = refl

pub step_unpointed : (P : PlainPolicy) (T : Trace) (H : History) (e : Entry) → e.caller.0 < 64 → is_point (step_payload P T H e) ≡ false
step_unpointed P T H e few =
    digits_unpointed (decimal e.caller.0) (command_spelling e.command ++ 10 ∷ reply_spelling (reply_to P (trace_from P T H) e.caller e.command))
    (decimal_is_IsNumeral e.caller.0 (omega (arith, few))).0.1 (is_point (step_payload P T H e)) refl

-- the same behind a trace alone
pub told_unpointed : (P : PlainPolicy) (T : Trace) (e : Entry) → e.caller.0 < 64 → is_point (payload_spelling (told e (reply_to P T e.caller e.command))) ≡ false
told_unpointed P T e few = step_unpointed P T [] e few

-- records of steps are no checkpoints
pub steps_unpointed : (P : PlainPolicy) (T : Trace) (lines : List Entry) → Each (λ e. e.caller.0 < 64) lines
    → Each (λ p. is_point p ≡ false) (payloads_after P T (changing_after P T lines))
steps_unpointed P T [] few = tt
steps_unpointed P T (e ∷ lines) few =
    by (changes (reply_to P T e.caller e.command)) (steps_unpointed P (after P T e.caller e.command) lines few.1) (steps_unpointed P T lines few.1)
  where
    by : (b : Bool) → Each (λ p. is_point p ≡ false) (payloads_after P (after P T e.caller e.command) (changing_after P (after P T e.caller e.command) lines))
        → Each (λ p. is_point p ≡ false) (payloads_after P T (changing_after P T lines))
        → Each (λ p. is_point p ≡ false) (payloads_after P T (if b then e ∷ changing_after P (after P T e.caller e.command) lines else changing_after P T lines))
    by true with_it without = (told_unpointed P T e few.0, with_it)
    by false with_it without = without

none_behind : (added : List Bytes) → Each (λ p. is_point p ≡ false) added → (k : ℕ) → places_behind k added ≡ []
none_behind [] steps k = refl
none_behind (p ∷ added) steps k = ap (λ (b : Bool). if b then k ∷ places_behind k added else places_behind (k + 1) added) steps.0 ∙ none_behind added steps.1 (k + 1)

module _ (added : List Bytes) (steps : Each (λ p. is_point p ≡ false) added) where
  same_here : (k : ℕ) (q : Bytes) (ps : List Bytes) (b : Bool) → ((n : ℕ) → places_behind n (ps ++ added) ≡ places_behind n ps)
      → (if b then k ∷ places_behind k (ps ++ added) else places_behind (k + 1) (ps ++ added))
      ≡ (if b then k ∷ places_behind k ps else places_behind (k + 1) ps)
  same_here k q ps true next = ap (λ (l : List ℕ). k ∷ l) (next k)
  same_here k q ps false next = next (k + 1)

  same_behind : (ps : List Bytes) (k : ℕ) → places_behind k (ps ++ added) ≡ places_behind k ps
  same_behind [] k = none_behind added steps k
  same_behind (q ∷ ps) k = same_here k q ps (is_point q) (same_behind ps)

  none_in : (ps : List Bytes) → Each (λ p. is_point p ≡ false) ps → places_in ps ≡ []
  none_in [] each = refl
  none_in (text ∷ ps) each = none_behind ps each.1 0

  same_in : (ps : List Bytes) → places_in (ps ++ added) ≡ places_in ps
  same_in [] = none_in added steps
  same_in (text ∷ ps) = same_behind ps 0

  pub places_unpointed : (file c : Bytes) → AddsTogether added file c → point_places c ≡ point_places file
  places_unpointed file c adds =
      let kind : has_points c ≡ has_points file = ap (λ (m : Bytes). bytes_eq m (magic 2)) adds.magic in
      let there : places_in (counted c) ≡ places_in (counted file) =
      ⊎_elim (λ (same : counted c ≡ counted file). ap places_in same)
      (λ (more : counted c ≡ counted file ++ added). ap places_in more ∙ same_in (counted file)) adds.payloads in
      λ i. if kind i then there i else []
