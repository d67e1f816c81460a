-- A file that is opened as a journal.
use Rattle.std.proofs.Common.{◌≡◌, inl, inr, ℕ, ◌+◌, ◌-◌, ◌<◌, ◌≤◌, false, refl, cond, nat_le, Some, None, List, [], ◌∷◌, ◌++◌, length, take, drop, sym, ◌∙◌, ap, arith, append_assoc, length-append, length-drop, take-append-drop}
use Rattle.std.proofs.lemmas.List.{append-nil, drop_all}
use Rattle.std.proofs.lemmas.Option.{same_Some}
use Rattle.std.specs.Prelude.{bytes_eq, is_some}
use Rattle.std.proofs.lemmas.Bool.{cases_Bool, le-leb, lt-leb, leb-true, leb-false}
use Rattle.std.proofs.lemmas.Slice.Eq.{bytes_eq-Decides}
use Rattle.ucon_disk.specs.Disk.{overwritten}
use Rattle.ucon_journal.specs.JournalBytes.{IsVersion, newest, magic, record_bytes, records, journal_bytes, AreShort}
use Rattle.ucon_journal.specs.Found.{Fresh, NotJournal, Holds, found, version_told, payloads_after, payloads_from, payloads_found, counted, StandsAt}
use Rattle.ucon_journal.specs.Opened.{opened}
use Rattle.ucon_journal.proofs.Records.{reads_none, payloads_after-records}
use Rattle.ucon_journal.proofs.Files.{told-magic, counted-magic}

-- at most 9 bytes have no record
pub counted-short : (c : List ℕ) → length c ≤ 9 → counted c ≡ []
counted-short c short = ap (λ b. payloads_found (cond b Fresh (cond (is_some (version_told c)) (Holds (payloads_from c 8) (8 + length (records (payloads_from c 8)))) NotJournal))) (le-leb (length c) 9 short)

pub version_told-known : (bytes : List ℕ) (version : ℕ) → version_told bytes ≡ Some version → IsVersion version × (take 8 bytes ≡ magic version)
version_told-known bytes version told = elim (cases_Bool (bytes_eq (take 8 bytes) (magic 2))) [
  | inl second ↦
      let is : version ≡ 2 = same_Some _ _ (sym told ∙ ap (λ b. cond b (Some 2) (cond (bytes_eq (take 8 bytes) (magic 1)) (Some 1) None)) second) in
      ((omega (arith, is), omega (arith, is)), (bytes_eq-Decides (take 8 bytes) (magic 2)).0 second ∙ ap magic (sym is))
  | inr other ↦
      let rest : cond (bytes_eq (take 8 bytes) (magic 1)) (Some 1) None ≡ Some version = sym (ap (λ b. cond b (Some 2) (cond (bytes_eq (take 8 bytes) (magic 1)) (Some 1) None)) other) ∙ told in
      elim (cases_Bool (bytes_eq (take 8 bytes) (magic 1))) [
        | inl first ↦
            let is : version ≡ 1 = same_Some _ _ (sym rest ∙ ap (λ b. cond b (Some 1) None) first) in
            ((omega (arith, is), omega (arith, is)), (bytes_eq-Decides (take 8 bytes) (magic 1)).0 first ∙ ap magic (sym is))
        | inr neither ↦ let none : None ≡ Some version = sym (ap (λ b. cond b (Some 1) None) neither) ∙ rest in absurd (cc none)
      ]
]

-- what stands at a gate stands at the first one too, before which there is no record
pub stands_first : (file : List ℕ) (version gate : ℕ) (ps : List (List ℕ)) → StandsAt file version gate ps → StandsAt file version 8 []
stands_first file version gate ps stands = record {
  front = [];
  rest = stands.front ++ stands.rest;
  known = stands.known;
  is = stands.is ∙ append_assoc (magic version) stands.front stands.rest;
  place = omega arith;
  size = refl;
  some = omega (arith, length-append stands.front stands.rest, stands.some);
  reads = reads_none;
}

-- so does what begins with a magic and is longer
pub magic_stands : (file : List ℕ) (version : ℕ) → version_told file ≡ Some version → 8 < length file → StandsAt file version 8 []
magic_stands file version told long =
    let known = version_told-known file version told in
    record {
      front = [];
      rest = drop 8 file;
      known = known.0;
      is = sym (take-append-drop 8 file) ∙ ap (λ (l : List ℕ). l ++ drop 8 file) known.1;
      place = omega arith;
      size = refl;
      some = omega (arith, length-drop 8 file, long);
      reads = reads_none;
    }

-- what is opened stands at the first gate
pub opened_stands : (file : List ℕ) (version : ℕ) → version_told (opened file) ≡ Some version → StandsAt (opened file) version 8 []
opened_stands file version told = magic_stands (opened file) version told (elim (cases_Bool (nat_le (length file) 9)) [
  | inl e ↦ omega (arith, ap (λ b. length (cond b (journal_bytes newest []) file)) e)
  | inr e ↦ omega (arith, ap (λ b. length (cond b (journal_bytes newest []) file)) e, leb-false (length file) 9 e)
])

-- opening makes of at most 9 bytes what a new journal makes of them, written over them
pub opened-short : (file : List ℕ) → length file ≤ 9 → overwritten 0 (journal_bytes newest []) file ≡ opened file
opened-short file short =
    ap (λ (l : List ℕ). journal_bytes newest [] ++ l) (drop_all 9 file short) ∙ sym (ap (λ b. cond b (journal_bytes newest []) file) (le-leb (length file) 9 short))

-- which are a journal, whose making was stopped
pub found-short : (file : List ℕ) → length file ≤ 9 → found file ≡ Fresh
found-short file short = ap (λ b. cond b Fresh (cond (is_some (version_told file)) (Holds (payloads_from file 8) (8 + length (records (payloads_from file 8)))) NotJournal)) (le-leb (length file) 9 short)

pub counted-opened : (file : List ℕ) → counted (opened file) ≡ counted file
counted-opened file = elim (cases_Bool (nat_le (length file) 9)) [
  | inl e ↦ ap (λ b. counted (cond b (journal_bytes newest []) file)) e ∙ sym (counted-short file (leb-true (length file) 9 e))
  | inr e ↦ ap (λ b. counted (cond b (journal_bytes newest []) file)) e
]

-- what was written is found
payloads_behind_magic : (ps : List (List ℕ)) → AreShort ps → payloads_after 0 (records ps ++ 0 ∷ []) ≡ ps
payloads_behind_magic ps short = payloads_after-records ps (0 ∷ []) short (omega arith) ∙ append-nil ps

pub counted-journal_bytes : (v : ℕ) (ps : List (List ℕ)) → IsVersion v → AreShort ps → counted (journal_bytes v ps) ≡ ps
counted-journal_bytes v ps known short = ap counted (append_assoc (magic v) (records ps) (0 ∷ [])) ∙ counted-magic v (records ps ++ 0 ∷ []) known ∙ payloads_behind_magic ps short

pub version_told-journal_bytes : (v : ℕ) (ps : List (List ℕ)) → IsVersion v → version_told (journal_bytes v ps) ≡ Some v
version_told-journal_bytes v ps known = ap version_told (append_assoc (magic v) (records ps) (0 ∷ [])) ∙ told-magic v (records ps ++ 0 ∷ []) known

pub found-journal_bytes : (v : ℕ) (p : List ℕ) (ps : List (List ℕ)) → IsVersion v → AreShort (p ∷ ps) → found (journal_bytes v (p ∷ ps)) ≡ Holds (p ∷ ps) (length (journal_bytes v (p ∷ ps)) - 1)
found-journal_bytes v p ps known short =
    let all = journal_bytes v (p ∷ ps) in
    let size : length all ≡ 8 + length (records (p ∷ ps)) + 1 = omega (arith, length-append (magic v ++ records (p ∷ ps)) (0 ∷ []), length-append (magic v) (records (p ∷ ps))) in
    let long : nat_le (length all) 9 ≡ false = lt-leb (length all) 9 (omega (arith, size, length-append (record_bytes p) (records ps))) in
    let read : payloads_from all 8 ≡ p ∷ ps = payloads_behind_magic (p ∷ ps) short in
    let place : 8 + length (records (p ∷ ps)) ≡ length all - 1 = omega (arith, size) in
    let held = Holds (payloads_from all 8) (8 + length (records (payloads_from all 8))) in
    ap (λ b. cond b Fresh (cond (is_some (version_told all)) held NotJournal)) long
    ∙ ap (λ o. cond (is_some o) held NotJournal) (version_told-journal_bytes v (p ∷ ps) known)
    ∙ ap (λ (qs : List (List ℕ)). Holds qs (8 + length (records qs))) read
    ∙ ap (λ k. Holds (p ∷ ps) k) place
