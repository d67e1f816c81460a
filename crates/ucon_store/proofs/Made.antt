-- What is found in the journal of a history with checkpoints.
use Rattle.std.proofs.Common.{◌≡◌, ℕ, suc, ◌+◌, ◌-◌, ◌≤◌, ◌<◌, Bool, true, false, List, [], ◌∷◌, ◌++◌, length, take, drop, Option, Some, None, refl, sym, ap, ◌∙◌, subst, arith, take-append-drop}
use Rattle.std.specs.Prelude.{⊤, nat_lt, option_map, unwrap_or, if◌then◌else◌}
use Rattle.std.proofs.Math.Seq.{take-add}
use Rattle.std.proofs.lemmas.List.{append-nil, append_assoc, length-append, length-take-le}
use Rattle.ucon_base.specs.Elements.{Each, each_append, each_parts}
use Rattle.ucon_command.specs.Payloads.{AreOfClients}
use Rattle.ucon_journal.specs.Found as journal
use Rattle.ucon_journal.specs.JournalBytes.{AreShort, IsVersion, journal_bytes}
use Rattle.ucon_model.specs.declared.command.Entry.{Entry}
use Rattle.ucon_model.specs.CommandLine.{IsCommand}
use Rattle.ucon_model.specs.Found.{Finding, damaged, first_gate, found_behind, found_in, found_on, gate_behind, holds, next_gate, only_steps, payloads_behind, payloads_of, policy_taken, taken}
use Rattle.ucon_model.specs.History.{History, IsProper, IsProperFrom, said}
use Rattle.ucon_model.specs.Payload.{most_payload, payload_spelling, told}
use Rattle.ucon_model.specs.Plain.{Bytes, PlainPolicy}
use Rattle.ucon_syntax.specs.Policies.{accepted}
use Rattle.ucon_store.specs.Found.{found}
use Rattle.ucon_store.specs.Made.{ArePlaces, between, pointed_behind, pointed_payloads}
use Rattle.ucon_store.specs.Points.{checkpoint, has_points, is_point, places_behind, places_in, point_places, point_taken, steps_and_points}
use Rattle.ucon_store.proofs.Journals.{found_as_read, last_is, short}
use Rattle.ucon_store.proofs.Pointed.{point_begins, point_here}
use Rattle.ucon_store.proofs.Versions.{long_refused, point_untaken, steps_taken}

-- ---- histories and their beginnings

-- what `AreOfClients` says of each entry
abbrev IsOfClient : Entry → Type 0
IsOfClient e = (e.caller.0 < 64) × IsCommand e.command

proper_front : (P : PlainPolicy) (H front rest : History) → IsProperFrom P H (front ++ rest) → IsProperFrom P H front
proper_front P H [] rest h = tt
proper_front P H (e ∷ front) rest h = (h.0, proper_front P (H ++ e ∷ []) front rest h.1)

-- the payload of an entry behind others
abbrev payload_of : PlainPolicy → History → Entry → Bytes
payload_of P H e = payload_spelling (told e (said P H e.caller e.command))

payloads_behind-append : (P : PlainPolicy) (H front rest : History) → payloads_behind P H (front ++ rest) ≡ payloads_behind P H front ++ payloads_behind P (H ++ front) rest
payloads_behind-append P H [] rest = ap (λ (K : History). payloads_behind P K rest) (sym (append-nil H))
payloads_behind-append P H (e ∷ front) rest =
    ap (λ (l : List Bytes). payload_of P H e ∷ l)
    (payloads_behind-append P (H ++ e ∷ []) front rest
    ∙ ap (λ (K : History). payloads_behind P (H ++ e ∷ []) front ++ payloads_behind P K rest) (append_assoc H (e ∷ []) front))

gate_behind-append : (gate : ℕ) (front rest : List Bytes) → gate_behind gate (front ++ rest) ≡ gate_behind (gate_behind gate front) rest
gate_behind-append gate [] rest = refl
gate_behind-append gate (payload ∷ front) rest = gate_behind-append (next_gate gate payload) front rest

-- ---- each step of a proper history is taken

-- the payloads of these entries behind others are taken as they
abbrev AreTaken : PlainPolicy → History → History → Type 0
AreTaken P H [] = ⊤
AreTaken P H (e ∷ rest) = (taken accepted P H (payload_of P H e) ≡ Some (H ++ e ∷ [])) × AreTaken P (H ++ e ∷ []) rest

-- what the law on payloads that are found one by one says, and the one on proper histories
abbrev pub OneByOne : Type 0
OneByOne = (front rest : List Bytes)
    → found_in accepted (only_steps accepted) (front ++ rest) ≡ found_on accepted (only_steps accepted) (found_in accepted (only_steps accepted) front) (length front) rest

module _ (one : OneByOne) (text : Bytes) (P : PlainPolicy)
    (finds : (H : History) → AreOfClients H → IsProper P H → found_in accepted (only_steps accepted) (payloads_of text P H) ≡ holds text P H (gate_behind first_gate (payloads_of text P H))) where
  last_taken : (H later : History) (number gate end : ℕ) (payload : Bytes) (o : Option History) → taken accepted P H payload ≡ o
      → unwrap_or (option_map (λ G. holds text P G (next_gate gate payload)) o) (damaged number gate) ≡ holds text P later end
      → taken accepted P H payload ≡ Some later
  last_taken H later number gate end payload None is h = absurd (cc h)
  last_taken H later number gate end payload (Some G) is h = is ∙ ap (λ (K : History). Some K) (let same : G ≡ later = cc h in same)

  one_taken : (H : History) (e : Entry) → AreOfClients (H ++ e ∷ []) → IsProper P (H ++ e ∷ []) → taken accepted P H (payload_of P H e) ≡ Some (H ++ e ∷ [])
  one_taken H e clients proper =
      let front = payloads_of text P H in
      let payload = payload_of P H e in
      let gate = gate_behind first_gate front in
      let before = finds H (each_parts IsOfClient H (e ∷ []) clients).0 (proper_front P [] H (e ∷ []) proper) in
      let whole : payloads_of text P (H ++ e ∷ []) ≡ front ++ payload ∷ [] = ap (λ (l : List Bytes). text ∷ l) (payloads_behind-append P [] H (e ∷ [])) in
      last_taken H (H ++ e ∷ []) (length front) gate (gate_behind first_gate (payloads_of text P (H ++ e ∷ []))) payload (taken accepted P H payload) refl
      (sym (ap (λ (f : Finding). found_on accepted (only_steps accepted) f (length front) (payload ∷ [])) before)
      ∙ (sym (one front (payload ∷ [])) ∙ (ap (found_in accepted (only_steps accepted)) (sym whole) ∙ finds (H ++ e ∷ []) clients proper)))

  are_taken : (H rest : History) → AreOfClients (H ++ rest) → IsProper P (H ++ rest) → AreTaken P H rest
  are_taken H [] clients proper = tt
  are_taken H (e ∷ rest) clients proper =
      let same : H ++ e ∷ rest ≡ (H ++ e ∷ []) ++ rest = sym (append_assoc H (e ∷ []) rest) in
      let of_clients : AreOfClients ((H ++ e ∷ []) ++ rest) = subst (λ (K : History). AreOfClients K) same clients in
      let is_proper : IsProper P ((H ++ e ∷ []) ++ rest) = subst (λ (K : History). IsProper P K) same proper in (
        one_taken H e (each_parts IsOfClient (H ++ e ∷ []) rest of_clients).0 (proper_front P [] (H ++ e ∷ []) rest is_proper),
        are_taken (H ++ e ∷ []) rest of_clients is_proper,
      )

-- ---- over the payloads of entries

module _ (text : Bytes) (P : PlainPolicy) where
  -- what is found behind entries that are taken is what is found behind more of them
  over_entries : (H rest : History) (number gate : ℕ) (more : List Bytes) → AreTaken P H rest
      → found_behind (steps_and_points accepted) text P H number gate (payloads_behind P H rest ++ more)
      ≡ found_behind (steps_and_points accepted) text P (H ++ rest) (number + length rest) (gate_behind gate (payloads_behind P H rest)) more
  over_entries H [] number gate more are =
      ap (λ (K : History). found_behind (steps_and_points accepted) text P K number gate more) (sym (append-nil H))
      ∙ ap (λ (n : ℕ). found_behind (steps_and_points accepted) text P (H ++ []) n gate more) (let e : number ≡ number + 0 = omega arith in e)
  over_entries H (e ∷ rest) number gate more are =
      let payload = payload_of P H e in
      let later = H ++ e ∷ [] in
      ap (λ (o : Option History). unwrap_or (option_map (λ K. found_behind (steps_and_points accepted) text P K (number + 1) (next_gate gate payload) (payloads_behind P later rest ++ more)) o) (damaged number gate))
      (steps_taken true text P H later payload are.0)
      ∙ (over_entries later rest (number + 1) (next_gate gate payload) more are.1
      ∙ (ap (λ (K : History). found_behind (steps_and_points accepted) text P K (number + 1 + length rest) (gate_behind (next_gate gate payload) (payloads_behind P later rest)) more) (append_assoc H (e ∷ []) rest)
      ∙ ap (λ (n : ℕ). found_behind (steps_and_points accepted) text P (H ++ e ∷ rest) n (gate_behind (next_gate gate payload) (payloads_behind P later rest)) more)
      (let same : number + 1 + length rest ≡ number + suc (length rest) = omega arith in same)))

  -- and a checkpoint changes nothing
  over_point : (H : History) (number gate : ℕ) (more : List Bytes) → length (checkpoint text P H) ≤ most_payload
      → found_behind (steps_and_points accepted) text P H number gate (checkpoint text P H ∷ more)
      ≡ found_behind (steps_and_points accepted) text P H (number + 1) (next_gate gate (checkpoint text P H)) more
  over_point H number gate more fits =
      let payload = checkpoint text P H in
      ap (λ (o : Option History). unwrap_or (option_map (λ K. found_behind (steps_and_points accepted) text P K (number + 1) (next_gate gate payload) more) o) (damaged number gate))
      (ap (λ (b : Bool). if b then point_taken text P H payload else taken accepted P H payload) (point_begins text P H) ∙ point_here text P H payload refl fits)

-- none of them begins as a checkpoint
no_point : (P : PlainPolicy) (H later : History) (payload : Bytes) (b : Bool) → is_point payload ≡ b → taken accepted P H payload ≡ Some later → b ≡ false
no_point P H later payload true is takes = absurd (let no : None ≡ Some later = sym (point_untaken P H payload is) ∙ takes in cc no)
no_point P H later payload false is takes = refl

places_over : (P : PlainPolicy) (H rest : History) (before : ℕ) (more : List Bytes) → AreTaken P H rest
    → places_behind before (payloads_behind P H rest ++ more) ≡ places_behind (before + length rest) more
places_over P H [] before more are = ap (λ (n : ℕ). places_behind n more) (let e : before ≡ before + 0 = omega arith in e)
places_over P H (e ∷ rest) before more are =
    let payload = payload_of P H e in
    let others = payloads_behind P (H ++ e ∷ []) rest ++ more in
    ap (λ (b : Bool). if b then before ∷ places_behind before others else places_behind (before + 1) others) (no_point P H (H ++ e ∷ []) payload (is_point payload) refl are.0)
    ∙ (places_over P (H ++ e ∷ []) rest (before + 1) more are.1
    ∙ ap (λ (n : ℕ). places_behind n more) (let same : before + 1 + length rest ≡ before + suc (length rest) = omega arith in same))

-- each is short enough for a record
taken_fits : (P : PlainPolicy) (H later : History) (payload : Bytes) (b : Bool) → nat_lt most_payload (length payload) ≡ b → taken accepted P H payload ≡ Some later → length payload ≤ most_payload
taken_fits P H later payload true is takes =
    absurd (let no : None ≡ Some later = sym (long_refused false payload P H payload (above most_payload (length payload) is)) ∙ takes in cc no)
  where
    above : (m n : ℕ) → nat_lt m n ≡ true → m < n
    above m n is = grind arith
taken_fits P H later payload false is takes = below most_payload (length payload) is
  where
    below : (m n : ℕ) → nat_lt m n ≡ false → n ≤ m
    below m n is = grind arith

entries_fit : (P : PlainPolicy) (H rest : History) → AreTaken P H rest → Each (λ p. length p ≤ most_payload) (payloads_behind P H rest)
entries_fit P H [] are = tt
entries_fit P H (e ∷ rest) are = (taken_fits P H (H ++ e ∷ []) (payload_of P H e) (nat_lt most_payload (length (payload_of P H e))) refl are.0, entries_fit P (H ++ e ∷ []) rest are.1)

-- ---- place by place

module _ (text : Bytes) (P : PlainPolicy) (H : History)
    (all_taken : (front rest : History) → AreOfClients (front ++ rest) → IsProper P (front ++ rest) → AreTaken P front rest) (clients : AreOfClients H) (proper : IsProper P H) where
  abbrev Fit : List ℕ → Type 0
  Fit places = Each (λ place. length (checkpoint text P (take place H)) ≤ most_payload) places

  -- the first entries, up to one place and then up to another
  up_to : (before place : ℕ) → before ≤ place → take before H ++ between before place H ≡ take place H
  up_to before place le = sym (take-add before (place - before) H) ∙ ap (λ (n : ℕ). take n H) (let e : before + (place - before) ≡ place = omega (arith, le) in e)

  between_taken : (before place : ℕ) → before ≤ place → AreTaken P (take before H) (between before place H)
  between_taken before place le =
      let up = up_to before place le in
      let whole : take place H ++ drop place H ≡ H = take-append-drop place H in
      let of_clients : AreOfClients (take place H ++ drop place H) = subst (λ (K : History). AreOfClients K) (sym whole) clients in
      let is_proper : IsProper P (take place H ++ drop place H) = subst (λ (K : History). IsProper P K) (sym whole) proper in
      all_taken (take before H) (between before place H)
      (subst (λ (K : History). AreOfClients K) (sym up) (each_parts IsOfClient (take place H) (drop place H) of_clients).0)
      (subst (λ (K : History). IsProper P K) (sym up) (proper_front P [] (take place H) (drop place H) is_proper))

  rest_taken : (before : ℕ) → AreTaken P (take before H) (drop before H)
  rest_taken before =
      let whole : take before H ++ drop before H ≡ H = take-append-drop before H in
      all_taken (take before H) (drop before H) (subst (λ (K : History). AreOfClients K) (sym whole) clients) (subst (λ (K : History). IsProper P K) (sym whole) proper)

  length-between : (before place : ℕ) → before ≤ place → place ≤ length H → before + length (between before place H) ≡ place
  length-between before place le within =
      omega (
        arith,
        le,
        within,
        length-append (take before H) (between before place H),
        ap (λ (l : History). length l) (up_to before place le),
        length-take-le place H within,
        length-take-le before H (let low : before ≤ length H = omega (arith, le, within) in low),
      )

  found_at : (places : List ℕ) (before number gate : ℕ) → ArePlaces before (length H) places → Fit places
      → found_behind (steps_and_points accepted) text P (take before H) number gate (pointed_behind text P H before places) ≡ holds text P H (gate_behind gate (pointed_behind text P H before places))
  found_at [] before number gate are fit =
      let payloads = payloads_behind P (take before H) (drop before H) in
      ap (found_behind (steps_and_points accepted) text P (take before H) number gate) (sym (append-nil payloads))
      ∙ (over_entries text P (take before H) (drop before H) number gate [] (rest_taken before)
      ∙ ap (λ (K : History). holds text P K (gate_behind gate payloads)) (take-append-drop before H))
  found_at (place ∷ places) before number gate are fit =
      let front = payloads_behind P (take before H) (between before place H) in
      let point = checkpoint text P (take place H) in
      let others = pointed_behind text P H place places in
      let reached = gate_behind gate front in
      let n = number + length (between before place H) in
      over_entries text P (take before H) (between before place H) number gate (point ∷ others) (between_taken before place are.0)
      ∙ (ap (λ (K : History). found_behind (steps_and_points accepted) text P K n reached (point ∷ others)) (up_to before place are.0)
      ∙ (over_point text P (take place H) n reached others fit.0
      ∙ (found_at places place (n + 1) (next_gate reached point) are.2 fit.1
      ∙ ap (holds text P H) (sym (gate_behind-append gate front (point ∷ others))))))

  places_at : (places : List ℕ) (before : ℕ) → ArePlaces before (length H) places → places_behind before (pointed_behind text P H before places) ≡ places
  places_at [] before are =
      let payloads = payloads_behind P (take before H) (drop before H) in
      ap (places_behind before) (sym (append-nil payloads)) ∙ places_over P (take before H) (drop before H) before [] (rest_taken before)
  places_at (place ∷ places) before are =
      let point = checkpoint text P (take place H) in
      let others = pointed_behind text P H place places in
      places_over P (take before H) (between before place H) before (point ∷ others) (between_taken before place are.0)
      ∙ (ap (λ (n : ℕ). places_behind n (point ∷ others)) (length-between before place are.0 are.1)
      ∙ (ap (λ (b : Bool). if b then place ∷ places_behind place others else places_behind (place + 1) others) (point_begins text P (take place H))
      ∙ ap (λ (l : List ℕ). place ∷ l) (places_at places place are.2)))

  payloads_fit : (places : List ℕ) (before : ℕ) → ArePlaces before (length H) places → Fit places → Each (λ p. length p ≤ most_payload) (pointed_behind text P H before places)
  payloads_fit [] before are fit = entries_fit P (take before H) (drop before H) (rest_taken before)
  payloads_fit (place ∷ places) before are fit =
      each_append (λ p. length p ≤ most_payload) (payloads_behind P (take before H) (between before place H)) (checkpoint text P (take place H) ∷ pointed_behind text P H place places)
      (entries_fit P (take before H) (between before place H) (between_taken before place are.0)) (fit.0, payloads_fit places place are.2 fit.1)

-- ---- the whole file

-- the policy's text is taken as record 0
policy_is : (text : Bytes) (P : PlainPolicy) (b : Bool) → nat_lt most_payload (length text) ≡ b → b ≡ false → accepted text ≡ Some P → policy_taken accepted text ≡ Some P
policy_is text P b is short accepts = ap (λ (x : Bool). if x then None else accepted text) (is ∙ short) ∙ accepts

not_above : (m n : ℕ) → n ≤ m → nat_lt m n ≡ false
not_above m n le = grind arith

module _ (gates : (v : ℕ) (p : Bytes) (ps : List Bytes) → IsVersion v → AreShort (p ∷ ps) → journal.found (journal_bytes v (p ∷ ps)) ≡ journal.Holds (p ∷ ps) (length (journal_bytes v (p ∷ ps)) - 1))
    (counts : (v : ℕ) (ps : List Bytes) → IsVersion v → AreShort ps → journal.counted (journal_bytes v ps) ≡ ps) (one : OneByOne) (text : Bytes) (P : PlainPolicy) (H : History)
    (accepts : accepted text ≡ Some P)
    (finds : (G : History) → AreOfClients G → IsProper P G → found_in accepted (only_steps accepted) (payloads_of text P G) ≡ holds text P G (gate_behind first_gate (payloads_of text P G)))
    (fits : Each (λ payload. length payload ≤ most_payload) (payloads_of text P H)) (clients : AreOfClients H) (proper : IsProper P H) (places : List ℕ)
    (are : ArePlaces 0 (length H) places) (fit : Each (λ place. length (checkpoint text P (take place H)) ≤ most_payload) places) where
  abbrev payloads : List Bytes
  payloads = pointed_payloads text P H places

  abbrev file : Bytes
  file = journal_bytes 2 payloads

  all : (front rest : History) → AreOfClients (front ++ rest) → IsProper P (front ++ rest) → AreTaken P front rest
  all = are_taken one text P finds

  all_short : AreShort payloads
  all_short = short payloads (fits.0, payloads_fit text P H all clients proper places 0 are fit)

  second : IsVersion 2
  second = (omega arith, omega arith)

  kind : has_points file ≡ true
  kind = refl

  found_payloads : found_in accepted (steps_and_points accepted) payloads ≡ holds text P H (gate_behind first_gate payloads)
  found_payloads =
      ap (λ (o : Option PlainPolicy). unwrap_or (option_map (λ Q. found_behind (steps_and_points accepted) text Q [] 1 (next_gate first_gate text) (pointed_behind text P H 0 places)) o) (damaged 0 first_gate))
      (policy_is text P (nat_lt most_payload (length text)) refl (not_above most_payload (length text) fits.0) accepts)
      ∙ found_at text P H all clients proper places 0 1 (next_gate first_gate text) are fit

  pub journal_with_points_found : (found file ≡ holds text P H (length file - 1)) × (point_places file ≡ places)
  journal_with_points_found = (
    found_as_read file payloads (length file - 1) (gates 2 text (pointed_behind text P H 0 places) second all_short)
        ∙ (found_payloads ∙ ap (holds text P H) (last_is 2 payloads)),
    ap (λ (l : List Bytes). places_in l) (counts 2 payloads second all_short) ∙ places_at text P H all clients proper places 0 are,
  )
