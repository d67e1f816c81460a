-- Where the checkpoints of a journal stand.
use Rattle.std.proofs.Common.{◌≡◌, ℕ, ◌+◌, Bool, true, false, List, [], ◌∷◌, ◌++◌, length, Option, Some, None, Ok, Err, refl, sym, ap, ◌∙◌, arith, length-append}
use Rattle.std.specs.Prelude.{Result, option_map, option_and_then, unwrap_or, nat_lt, if◌then◌else◌}
use Rattle.std.specs.Result.{result_ok}
use Rattle.std.specs.Str.{bytes_eq}
use Rattle.std.proofs.lemmas.Slice.Eq.{bytes_eq-Decides}
use Rattle.ucon_model.specs.Found.{damaged, holds, first_gate, next_gate, found_behind, found_in, is_next_step, policy_taken, taken, with_step}
use Rattle.ucon_model.specs.History.{History}
use Rattle.ucon_model.specs.Payload.{most_payload, payload_read, Told, entry_told}
use Rattle.ucon_model.specs.Plain.{Bytes, PlainPolicy}
use Rattle.ucon_syntax.specs.Policies.{accepted}
use Rattle.ucon_store.specs.Opened.{steps_among}
use Rattle.ucon_store.specs.Points.{checkpoint, is_point, places_behind, places_in, point_taken, steps_and_points}

-- ---- one record

next_longer : (H later : History) (t : Told) (b : Bool) → (if b then Some (H ++ entry_told t ∷ []) else None) ≡ Some later → length later ≡ length H + 1
next_longer H later t true h = let is : H ++ entry_told t ∷ [] ≡ later = cc h in omega (arith, ap (λ (l : History). length l) is, length-append H (entry_told t ∷ []))
next_longer H later t false h = absurd (cc h)

told_longer : (P : PlainPolicy) (H later : History) (r : Result Told ℕ) → option_and_then (with_step P H) (result_ok r) ≡ Some later → length later ≡ length H + 1
told_longer P H later (Ok t) h = next_longer H later t (is_next_step P H t) h
told_longer P H later (Err place) h = absurd (cc h)

fits_longer : (P : PlainPolicy) (H later : History) (r : Result Told ℕ) (b : Bool) → (if b then None else option_and_then (with_step P H) (result_ok r)) ≡ Some later → length later ≡ length H + 1
fits_longer P H later r true h = absurd (cc h)
fits_longer P H later r false h = told_longer P H later r h

-- a step is an entry more
pub step_longer : (P : PlainPolicy) (H later : History) (payload : Bytes) → taken accepted P H payload ≡ Some later → length later ≡ length H + 1
unfolding taken
step_longer P H later payload h = fits_longer P H later (payload_read accepted payload) (nat_lt most_payload (length payload)) h

same_point : (payload text : Bytes) (H later : History) (b : Bool) → bytes_eq payload text ≡ b → (if b then Some H else None) ≡ Some later → (later ≡ H) × (payload ≡ text)
same_point payload text H later true is h = (let e : H ≡ later = cc h in sym e, (bytes_eq-Decides payload text).0 is)
same_point payload text H later false is h = absurd (cc h)

fits_point : (payload text : Bytes) (H later : History) (b : Bool) → (if b then None else if bytes_eq payload text then Some H else None) ≡ Some later → (later ≡ H) × (payload ≡ text)
fits_point payload text H later true h = absurd (cc h)
fits_point payload text H later false h = same_point payload text H later (bytes_eq payload text) refl h

-- a checkpoint is none
pub point_stays : (text : Bytes) (P : PlainPolicy) (H later : History) (payload : Bytes) → point_taken text P H payload ≡ Some later → (later ≡ H) × (payload ≡ checkpoint text P H)
unfolding point_taken
point_stays text P H later payload h = fits_point payload (checkpoint text P H) H later (nat_lt most_payload (length payload)) h

-- ---- all records

abbrev more_by : Bool → ℕ → ℕ
more_by b n = if b then n else n + 1

length_by : (text : Bytes) (P : PlainPolicy) (H later : History) (payload : Bytes) (n : ℕ) (b : Bool) → (if b then point_taken text P H payload else taken accepted P H payload) ≡ Some later
    → length later + n ≡ length H + more_by b n
length_by text P H later payload n true h = omega (arith, ap (λ (l : History). length l) (point_stays text P H later payload h).0)
length_by text P H later payload n false h = omega (arith, step_longer P H later payload h)

module _ (text : Bytes) (P : PlainPolicy) (found_text : Bytes) (Q : PlainPolicy) (G : History) (end : ℕ) where
  abbrev Finds : History → ℕ → ℕ → List Bytes → Type 0
  Finds H number gate payloads = found_behind (steps_and_points accepted) text P H number gate payloads ≡ holds found_text Q G end

  first_taken : (H : History) (number gate : ℕ) (payload : Bytes) (payloads : List Bytes)
      → ((later : History) → Finds later (number + 1) (next_gate gate payload) payloads → length G ≡ length later + steps_among payloads)
      → (o : Option History) → steps_and_points accepted text P H payload ≡ o
      → unwrap_or (option_map (λ later. found_behind (steps_and_points accepted) text P later (number + 1) (next_gate gate payload) payloads) o) (damaged number gate) ≡ holds found_text Q G end
      → length G ≡ length H + steps_among (payload ∷ payloads)
  first_taken H number gate payload payloads next None is h = absurd (cc h)
  first_taken H number gate payload payloads next (Some later) is h = next later h ∙ length_by text P H later payload (steps_among payloads) (is_point payload) is

  -- an entry for each record that is no checkpoint
  pub entries_counted : (payloads : List Bytes) (H : History) (number gate : ℕ) → Finds H number gate payloads → length G ≡ length H + steps_among payloads
  entries_counted [] H number gate h = let is : holds text P H gate ≡ holds found_text Q G end = h in let same : H ≡ G = cc is in omega (arith, ap (λ (l : History). length l) same)
  entries_counted (payload ∷ payloads) H number gate h =
      first_taken H number gate payload payloads (λ later. entries_counted payloads later (number + 1) (next_gate gate payload)) (steps_and_points accepted text P H payload) refl h

-- with a checkpoint more behind
place_here : (before : ℕ) (payload point : Bytes) (payloads : List Bytes) (b : Bool)
    → ((k : ℕ) → places_behind k (payloads ++ point ∷ []) ≡ places_behind k payloads ++ (k + steps_among payloads) ∷ [])
    → (if b then before ∷ places_behind before (payloads ++ point ∷ []) else places_behind (before + 1) (payloads ++ point ∷ []))
    ≡ (if b then before ∷ places_behind before payloads else places_behind (before + 1) payloads) ++ (before + more_by b (steps_among payloads)) ∷ []
place_here before payload point payloads true next = ap (λ (l : List ℕ). before ∷ l) (next before)
place_here before payload point payloads false next =
    next (before + 1) ∙ ap (λ (k : ℕ). places_behind (before + 1) payloads ++ k ∷ []) (let e : before + 1 + steps_among payloads ≡ before + (steps_among payloads + 1) = omega arith in e)

places_behind-more : (point : Bytes) → is_point point ≡ true → (payloads : List Bytes) (before : ℕ)
    → places_behind before (payloads ++ point ∷ []) ≡ places_behind before payloads ++ (before + steps_among payloads) ∷ []
places_behind-more point is [] before =
    ap (λ (b : Bool). if b then before ∷ [] else []) is ∙ ap (λ (k : ℕ). k ∷ []) (let e : before ≡ before + 0 = omega arith in e)
places_behind-more point is (payload ∷ payloads) before = place_here before payload point payloads (is_point payload) (places_behind-more point is payloads)

module _ (point : Bytes) (is : is_point point ≡ true) (text : Bytes) (P : PlainPolicy) (H : History) (gate : ℕ) where
  by_policy : (first : Bytes) (payloads : List Bytes) (o : Option PlainPolicy)
      → unwrap_or (option_map (λ Q. found_behind (steps_and_points accepted) first Q [] 1 (next_gate first_gate first) payloads) o) (damaged 0 first_gate) ≡ holds text P H gate
      → places_in (first ∷ payloads ++ point ∷ []) ≡ places_in (first ∷ payloads) ++ length H ∷ []
  by_policy first payloads None h = absurd (cc h)
  by_policy first payloads (Some Q) h =
      let count = entries_counted first Q text P H gate payloads [] 1 (next_gate first_gate first) h in
      places_behind-more point is payloads 0 ∙ ap (λ (k : ℕ). places_behind 0 payloads ++ k ∷ []) (let e : 0 + steps_among payloads ≡ length H = omega (arith, count) in e)

  -- a checkpoint behind the records of a history stands behind all entries
  pub place_added : (payloads : List Bytes) → found_in accepted (steps_and_points accepted) payloads ≡ holds text P H gate → places_in (payloads ++ point ∷ []) ≡ places_in payloads ++ length H ∷ []
  place_added [] h = absurd (cc h)
  place_added (first ∷ payloads) h = by_policy first payloads (policy_taken accepted first) h
