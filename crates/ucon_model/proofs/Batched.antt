-- Payloads that are taken one after the other, and lines that are run one after the other.
use Rattle.std.proofs.Common.{◌≡◌, ℕ, ◌+◌, Bool, true, false, List, [], ◌∷◌, ◌++◌, length, Option, Some, refl, sym, ap, ◌∙◌, subst, append_assoc}
use Rattle.std.proofs.lemmas.List.{append-nil}
use Rattle.std.specs.Prelude.{option_map, unwrap_or, if◌then◌else◌}
use Rattle.ucon_model.specs.declared.command.Entry.{Entry}
use Rattle.ucon_model.specs.Found.{Takes, Finding, damaged, holds, next_gate, gate_behind, found_behind, found_in, found_on, only_steps, payloads_behind, TakesSteps}
use Rattle.ucon_model.specs.History.{History, said, changes, grown, serial}
use Rattle.ucon_model.specs.Payload.{payload_spelling, told}
use Rattle.ucon_model.specs.Plain.{Bytes, PlainPolicy}
use Rattle.ucon_model.specs.Batches.{AreTaken, changing, grown_all}
use Rattle.ucon_model.proofs.FoundOn.{found_in-append}

pub found_taken : (takes : Takes) (text : Bytes) (P : PlainPolicy) (H later : History) (number gate : ℕ) (payloads : List Bytes)
    → AreTaken takes text P H payloads later → found_behind takes text P H number gate payloads ≡ holds text P later (gate_behind gate payloads)
found_taken takes text P H later number gate [] are = ap (λ (G : History). holds text P G gate) are
found_taken takes text P H later number gate (payload ∷ payloads) are =
    ap (λ (o : Option History). unwrap_or (option_map (λ (G : History). found_behind takes text P G (number + 1) (next_gate gate payload) payloads) o) (damaged number gate)) are.1
    ∙ found_taken takes text P are.0 later (number + 1) (next_gate gate payload) payloads are.2

pub found_together : (reads : Bytes → Option PlainPolicy) (takes : Takes) (front rest : List Bytes) (text : Bytes) (P : PlainPolicy) (H later : History) (gate : ℕ)
    → found_in reads takes front ≡ holds text P H gate → AreTaken takes text P H rest later → found_in reads takes (front ++ rest) ≡ holds text P later (gate_behind gate rest)
found_together reads takes front rest text P H later gate is are =
    found_in-append reads takes rest front ∙ (ap (λ (f : Finding). found_on reads takes f (length front) rest) is ∙ found_taken takes text P H later (length front) gate rest are)

pub taken_more : (takes : Takes) (text : Bytes) (P : PlainPolicy) (H mid later : History) (payloads : List Bytes) (payload : Bytes)
    → AreTaken takes text P H payloads mid → takes text P mid payload ≡ Some later → AreTaken takes text P H (payloads ++ payload ∷ []) later
taken_more takes text P H mid later [] payload are next = (later, subst (λ (G : History). takes text P G payload ≡ Some later) (sym are) next, refl)
taken_more takes text P H mid later (first ∷ payloads) payload are next = (are.0, are.1, taken_more takes text P are.0 mid later payloads payload are.2 next)

pub taken_as : (reads : Bytes → Option PlainPolicy) (takes : Takes) (text : Bytes) (P : PlainPolicy) (H later : History) (payloads : List Bytes)
    → TakesSteps reads takes → AreTaken (only_steps reads) text P H payloads later → AreTaken takes text P H payloads later
taken_as reads takes text P H later [] steps are = are
taken_as reads takes text P H later (payload ∷ payloads) steps are =
    (are.0, steps text P H are.0 payload are.1, taken_as reads takes text P are.0 later payloads steps are.2)

-- ---- lines

pub serial_more : (P : PlainPolicy) (H : History) (lines : List Entry) (e : Entry)
    → serial P H (lines ++ e ∷ []) ≡ serial P H lines ++ (length (grown P (grown_all P H lines) e), said P (grown_all P H lines) e.caller e.command) ∷ []
serial_more P H [] e = refl
serial_more P H (first ∷ lines) e = ap (λ l. (length (grown P H first), said P H first.caller first.command) ∷ l) (serial_more P (grown P H first) lines e)

pub grown_more : (P : PlainPolicy) (H : History) (lines : List Entry) (e : Entry) → grown_all P H (lines ++ e ∷ []) ≡ grown P (grown_all P H lines) e
grown_more P H [] e = refl
grown_more P H (first ∷ lines) e = grown_more P (grown P H first) lines e

by_reply : (P : PlainPolicy) (H : History) (first : Entry) (lines : List Entry) (b : Bool)
    → grown_all P (H ++ first ∷ []) lines ≡ (H ++ first ∷ []) ++ changing P (H ++ first ∷ []) lines → grown_all P H lines ≡ H ++ changing P H lines
    → grown_all P (if b then H ++ first ∷ [] else H) lines ≡ H ++ (if b then first ∷ changing P (H ++ first ∷ []) lines else changing P H lines)
by_reply P H first lines true more same = more ∙ append_assoc H (first ∷ []) (changing P (H ++ first ∷ []) lines)
by_reply P H first lines false more same = same

pub grown_changing : (P : PlainPolicy) (H : History) (lines : List Entry) → grown_all P H lines ≡ H ++ changing P H lines
grown_changing P H [] = sym (append-nil H)
grown_changing P H (first ∷ lines) =
    by_reply P H first lines (changes (said P H first.caller first.command)) (grown_changing P (H ++ first ∷ []) lines) (grown_changing P H lines)

pub spelled_more : (P : PlainPolicy) (H entries : History) (e : Entry)
    → payloads_behind P H (entries ++ e ∷ []) ≡ payloads_behind P H entries ++ payload_spelling (told e (said P (H ++ entries) e.caller e.command)) ∷ []
spelled_more P H [] e = ap (λ (G : History). payload_spelling (told e (said P G e.caller e.command)) ∷ []) (sym (append-nil H))
spelled_more P H (first ∷ entries) e =
    let after = H ++ first ∷ [] in
    ap (λ (l : List Bytes). payload_spelling (told first (said P H first.caller first.command)) ∷ l)
    (spelled_more P after entries e
    ∙ ap (λ (G : History). payloads_behind P after entries ++ payload_spelling (told e (said P G e.caller e.command)) ∷ []) (append_assoc H (first ∷ []) entries))
