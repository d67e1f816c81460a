-- The bytes of a batch, which wait to be added together.
use Rattle.std.proofs.Common.{◌≡◌, ◌≢◌, ℕ, ◌<◌, ◌^◌, List, [], ◌∷◌, ◌++◌, length, refl, sym, ◌∙◌, ap, subst, arith, append_assoc, length-append, w32}
use Rattle.std.specs.Int.{to_be_bytes}
use Rattle.std.proofs.lemmas.List.{append-nil}
use Rattle.ucon_base.specs.Elements.{each_append}
use Rattle.ucon_journal.specs.JournalBytes.{record_bytes, records, batch_bytes, AreShort}
use Rattle.ucon_journal.specs.Found.{payloads_after}
use Rattle.ucon_journal.proofs.Records.{records-append, payloads_after-records}

-- behind an open gate it is the records of its payloads
pub open_batch : (ps : List (List ℕ)) → ps ≢ [] → 1 ∷ batch_bytes ps ≡ records ps ++ 0 ∷ []
open_batch [] some = absurd (some refl)
open_batch (p ∷ ps) some = refl

pub length-batch : (ps : List (List ℕ)) → ps ≢ [] → length (batch_bytes ps) ≡ length (records ps)
length-batch ps some = omega (arith, ap length (open_batch ps some), length-append (records ps) (0 ∷ []))

-- which are read back
pub batch_read : (ps : List (List ℕ)) → AreShort ps → payloads_after 0 (1 ∷ batch_bytes ps) ≡ ps
batch_read [] short = refl
batch_read (p ∷ ps) short = payloads_after-records (p ∷ ps) (0 ∷ []) short (omega arith) ∙ append-nil (p ∷ ps)

pub batch_is : (bytes : List ℕ) (ps : List (List ℕ)) → AreShort ps → bytes ≡ batch_bytes ps → payloads_after 0 (1 ∷ bytes) ≡ ps
batch_is bytes ps short is = ap (λ (l : List ℕ). payloads_after 0 (1 ∷ l)) is ∙ batch_read ps short

-- so the bytes are those of the payloads that are read in them
pub batch_from : (bytes : List ℕ) (ps : List (List ℕ)) → AreShort ps → bytes ≡ batch_bytes ps
    → (bytes ≡ batch_bytes (payloads_after 0 (1 ∷ bytes))) × AreShort (payloads_after 0 (1 ∷ bytes))
batch_from bytes ps short is = subst (λ (qs : List (List ℕ)). (bytes ≡ batch_bytes qs) × AreShort qs) (sym (batch_is bytes ps short is)) (is, short)

-- one payload more
pub short_more : (ps : List (List ℕ)) (p : List ℕ) → AreShort ps → length p < 2 ^ 32 → AreShort (ps ++ p ∷ [])
short_more ps p all one = each_append (λ (q : List ℕ). length q < 2 ^ 32) ps (p ∷ []) all (one, tt)

-- the last gate is opened, if there is one, and the record's bytes stand behind it
pub batch_put : (ps : List (List ℕ)) (p old opened new : List ℕ) → old ≡ batch_bytes ps → (old ≡ [] → opened ≡ [])
    → ((front : List ℕ) → old ≡ front ++ 0 ∷ [] → opened ≡ front ++ 1 ∷ [])
    → new ≡ opened ++ to_be_bytes w32 (length p) ++ p ++ 0 ∷ [] → new ≡ batch_bytes (ps ++ p ∷ [])
batch_put [] p old opened new is none some made =
    let bytes = to_be_bytes w32 (length p) in
    made ∙ ap (λ (l : List ℕ). l ++ bytes ++ p ++ 0 ∷ []) (none is) ∙ ap (λ (l : List ℕ). l ++ 0 ∷ []) (sym (append-nil (bytes ++ p)))
batch_put (q ∷ qs) p old opened new is none some made =
    let bytes = to_be_bytes w32 (length p) in
    let front = to_be_bytes w32 (length q) ++ q ++ records qs in
    let behind : front ++ (1 ∷ []) ++ bytes ++ p ≡ front ++ record_bytes p =
    ap (λ (l : List ℕ). l ++ p) (append_assoc front (1 ∷ []) bytes) ∙ append_assoc front (1 ∷ bytes) p in
    let all : front ++ record_bytes p ≡ to_be_bytes w32 (length q) ++ q ++ records (qs ++ p ∷ []) =
    append_assoc (to_be_bytes w32 (length q) ++ q) (records qs) (record_bytes p)
    ∙ ap (λ (l : List ℕ). to_be_bytes w32 (length q) ++ q ++ l) (ap (λ (l : List ℕ). records qs ++ l) (sym (append-nil (record_bytes p))) ∙ sym (records-append qs (p ∷ []))) in
    made ∙ ap (λ (l : List ℕ). l ++ bytes ++ p ++ 0 ∷ []) (some front is) ∙ ap (λ (l : List ℕ). l ++ 0 ∷ []) (behind ∙ all)
