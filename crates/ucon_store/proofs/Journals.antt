-- What is found in the journal of a history.
use Rattle.std.proofs.Common.{◌≡◌, ℕ, ◌+◌, ◌-◌, ◌≤◌, List, [], ◌∷◌, length, ap, ◌∙◌, arith}
use Rattle.std.specs.Int.{w32, to_be_bytes}
use Rattle.std.proofs.lemmas.List.{length-append}
use Rattle.ucon_base.specs.Elements.{Each}
use Rattle.ucon_journal.specs.Found as journal
use Rattle.ucon_journal.specs.JournalBytes.{AreShort, IsVersion, journal_bytes, record_bytes, records}
use Rattle.ucon_model.specs.Found.{found_in, first_gate, gate_behind, holds, next_gate, payloads_behind, payloads_of}
use Rattle.ucon_model.specs.History.{History}
use Rattle.ucon_model.specs.Payload.{most_payload}
use Rattle.ucon_model.specs.Plain.{Bytes, PlainPolicy}
use Rattle.ucon_syntax.specs.Policies.{accepted}
use Rattle.ucon_store.specs.Found.{finding_of, found, found_by}
use Rattle.ucon_store.proofs.Finding.{takes_of}

length-record : (p : Bytes) → length (record_bytes p) ≡ 5 + length p
length-record p = omega (arith, length-append (1 ∷ to_be_bytes w32 (length p)) p)

-- the gate behind payloads stands behind their records
gate_is : (gate : ℕ) (ps : List Bytes) → gate_behind gate ps ≡ gate + length (records ps)
gate_is gate [] = omega arith
gate_is gate (p ∷ ps) = omega (arith, gate_is (next_gate gate p) ps, length-append (record_bytes p) (records ps), length-record p)

-- and in the journal of the payloads it is the last byte
pub last_is : (version : ℕ) (ps : List Bytes) → gate_behind first_gate ps ≡ length (journal_bytes version ps) - 1
last_is version ps = omega (arith, gate_is first_gate ps, length-append (records ps) (0 ∷ []))

pub short : (ps : List Bytes) → Each (λ p. length p ≤ most_payload) ps → AreShort ps
short [] h = tt
short (p ∷ ps) h = (omega (arith, h.0), short ps h.1)

pub found_as_read : (file : Bytes) (payloads : List Bytes) (gate : ℕ) → journal.found file ≡ journal.Holds payloads gate → found file ≡ found_in accepted (takes_of file) payloads
unfolding found_by
found_as_read file payloads gate is = ap (finding_of (takes_of file)) is

pub journal_found : ((v : ℕ) (p : Bytes) (ps : List Bytes) → IsVersion v → AreShort (p ∷ ps) → journal.found (journal_bytes v (p ∷ ps)) ≡ journal.Holds (p ∷ ps) (length (journal_bytes v (p ∷ ps)) - 1))
    → (version : ℕ) (text : Bytes) (P : PlainPolicy) (H : History) → IsVersion version → Each (λ p. length p ≤ most_payload) (payloads_of text P H)
    → found_in accepted (takes_of (journal_bytes version (payloads_of text P H))) (payloads_of text P H) ≡ holds text P H (gate_behind first_gate (payloads_of text P H))
    → found (journal_bytes version (payloads_of text P H)) ≡ holds text P H (length (journal_bytes version (payloads_of text P H)) - 1)
journal_found back version text P H is fits finds =
    let payloads = payloads_of text P H in
    found_as_read (journal_bytes version payloads) payloads (length (journal_bytes version payloads) - 1) (back version text (payloads_behind P [] H) is (short payloads fits))
    ∙ (finds ∙ ap (holds text P H) (last_is version payloads))
