-- What is found in a file, by its bytes up to a gate and behind it.
use Rattle.std.proofs.Common.{◌≡◌, ◌≢◌, ◌⊎◌, inl, inr, ℕ, ◌+◌, ◌-◌, ◌<◌, ◌≤◌, Bool, true, false, cond, nat_le, Some, List, [], ◌∷◌, ◌++◌, length, take, drop, refl, sym, ◌∙◌, ap, subst, arith, append_assoc, length-append, length-take, length-drop, take-append-drop}
use Rattle.std.specs.Prelude.{is_some}
use Rattle.std.proofs.lemmas.Bool.{cases_Bool, cases_eq, leb-true}
use Rattle.std.proofs.lemmas.List.{take-take, take_at, drop_at, drop_all, drop-take, append-nil}
use Rattle.ucon_disk.specs.Disk.{overwritten, Torn, Shortened}
use Rattle.ucon_journal.specs.JournalBytes.{IsVersion, magic, records}
use Rattle.ucon_journal.specs.Found.{Fresh, NotJournal, Holds, found, version_told, payloads_after, payloads_from, payloads_found, counted, StandsAt}
use Rattle.ucon_journal.specs.Opened.{StillHolds}
use Rattle.ucon_journal.proofs.Records.{payloads_after-one, payloads_after-none, counts-none, counts-front}

versions : (version : ℕ) → IsVersion version → (version ≡ 1) ⊎ (version ≡ 2)
versions version known = elim (cases_eq version 1) [
  | inl first ↦ inl first
  | inr other ↦ inr (omega (arith, known, other))
]

-- a magic tells its version
pub told-magic : (version : ℕ) (body : List ℕ) → IsVersion version → version_told (magic version ++ body) ≡ Some version
told-magic version body known = elim (versions version known) [
  | inl first ↦ subst (λ v. version_told (magic v ++ body) ≡ Some v) (sym first) refl
  | inr second ↦ subst (λ v. version_told (magic v ++ body) ≡ Some v) (sym second) refl
]

-- behind the magic, what is found is what counts from the first gate on
pub counted-magic : (version : ℕ) (body : List ℕ) → IsVersion version → counted (magic version ++ body) ≡ payloads_after 0 body
counted-magic version body known =
    let file = magic version ++ body in
    let held = Holds (payloads_from file 8) (8 + length (records (payloads_from file 8))) in
    let shown = λ (short marked : Bool). payloads_found (cond short Fresh (cond marked held NotJournal)) in
    elim (cases_Bool (nat_le (length file) 9)) [
      | inl e ↦ ap (λ b. shown b (is_some (version_told file))) e ∙ sym (payloads_after-one body (omega (arith, leb-true (length file) 9 e, length-append (magic version) body)))
      | inr e ↦ ap (λ b. shown b (is_some (version_told file))) e ∙ ap (λ o. shown false (is_some o)) (told-magic version body known)
    ]

-- and the file is a journal
pub is_journal-magic : (version : ℕ) (body : List ℕ) → IsVersion version → found (magic version ++ body) ≢ NotJournal
is_journal-magic version body known foreign =
    let file = magic version ++ body in
    let held = Holds (payloads_from file 8) (8 + length (records (payloads_from file 8))) in
    let shown = λ (short marked : Bool). cond short Fresh (cond marked held NotJournal) in
    let marked : found file ≡ shown (nat_le (length file) 9) true = ap (λ o. shown (nat_le (length file) 9) (is_some o)) (told-magic version body known) in
    elim (cases_Bool (nat_le (length file) 9)) [
      | inl e ↦ let fresh : Fresh ≡ NotJournal = sym (marked ∙ ap (λ b. shown b true) e) ∙ foreign in cc fresh
      | inr e ↦ let holds : held ≡ NotJournal = sym (marked ∙ ap (λ b. shown b true) e) ∙ foreign in cc holds
    ]

module _ (file : List ℕ) (version gate : ℕ) (ps : List (List ℕ)) (stands : StandsAt file version gate ps) where
  front-size : length (magic version ++ stands.front) ≡ gate
  front-size = omega (arith, length-append (magic version) stands.front, stands.place)

  whole : file ≡ magic version ++ (stands.front ++ stands.rest)
  whole = stands.is ∙ append_assoc (magic version) stands.front stands.rest

  pub begins : take 8 file ≡ magic version
  begins = ap (λ (l : List ℕ). take 8 l) whole

  pub version_told-stands : version_told file ≡ Some version
  version_told-stands = ap version_told whole ∙ told-magic version (stands.front ++ stands.rest) stands.known

  pub is_journal-stands : found file ≢ NotJournal
  is_journal-stands foreign = is_journal-magic version (stands.front ++ stands.rest) stands.known (sym (ap found whole) ∙ foreign)

  pub take-gate : take gate file ≡ magic version ++ stands.front
  take-gate = ap (λ (l : List ℕ). take gate l) stands.is ∙ take_at (magic version ++ stands.front) stands.rest gate front-size

  pub drop-gate : drop gate file ≡ stands.rest
  drop-gate = ap (λ (l : List ℕ). drop gate l) stands.is ∙ drop_at (magic version ++ stands.front) stands.rest gate front-size

  pub gate_within : gate < length file
  gate_within = omega (arith, ap length stands.is, length-append (magic version ++ stands.front) stands.rest, front-size, stands.some)

  -- another file that is the same up to the gate
  pub stands_like : (c : List ℕ) → take gate c ≡ take gate file → gate < length c → StandsAt c version gate ps
  stands_like c same long = record {
    front = stands.front;
    rest = drop gate c;
    known = stands.known;
    is = sym (take-append-drop gate c) ∙ ap (λ (l : List ℕ). l ++ drop gate c) (same ∙ take-gate);
    place = stands.place;
    size = stands.size;
    some = omega (arith, length-drop gate c, long);
    reads = stands.reads;
  }

  pub counted-stands : counted file ≡ ps ++ payloads_from file gate
  counted-stands =
      ap counted whole
      ∙ counted-magic version (stands.front ++ stands.rest) stands.known
      ∙ stands.reads stands.rest stands.some
      ∙ ap (λ (l : List ℕ). ps ++ payloads_after 0 l) (sym drop-gate)

-- a file that is the same up to the gate still holds the payloads before it, and what counts behind it
pub holds_like : (file : List ℕ) (version gate : ℕ) (ps : List (List ℕ)) → StandsAt file version gate ps → (c : List ℕ) → take gate c ≡ take gate file → gate < length c
    → (qs : List (List ℕ)) → ps ++ payloads_from c gate ≡ qs → StillHolds file qs c
holds_like file version gate ps stands c same long qs behind =
    let there = stands_like file version gate ps stands c same long in
    record {
      magic = begins c version gate ps there ∙ sym (begins file version gate ps stands);
      journal = is_journal-stands c version gate ps there;
      payloads = counted-stands c version gate ps there ∙ behind;
    }

-- the same, where nothing counts behind the gate
pub holds_alone : (file : List ℕ) (version gate : ℕ) (ps : List (List ℕ)) → StandsAt file version gate ps → (c : List ℕ) → take gate c ≡ take gate file → gate < length c → payloads_from c gate ≡ [] → StillHolds file ps c
holds_alone file version gate ps stands c same long none = holds_like file version gate ps stands c same long ps (ap (λ (qs : List (List ℕ)). ps ++ qs) none ∙ append-nil ps)

-- where reading has ended
module _ (file : List ℕ) (version gate : ℕ) (ps : List (List ℕ)) (stands : StandsAt file version gate ps) (ended : payloads_from file gate ≡ []) where
  long : gate < length file
  long = gate_within file version gate ps stands

  -- any cut behind the gate keeps what is found
  pub cut_same : (c : List ℕ) → Shortened (gate + 1) file c → StillHolds file ps c
  cut_same c short =
      let size : gate + 1 ≤ length c = omega (arith, short.no_shorter, long) in
      let same : take gate c ≡ take gate file = ap (λ (l : List ℕ). take gate l) (sym short.front) ∙ take-take gate (length c) file (omega arith) in
      let m = length c - gate in
      let there : gate + m ≡ length c = omega arith in
      let tail : drop gate c ≡ take m (drop gate file) = ap (λ (l : List ℕ). drop gate l) (sym short.front ∙ ap (λ k. take k file) (sym there)) ∙ drop-take gate m file in
      let none = ap (λ (l : List ℕ). payloads_after 0 l) tail ∙ payloads_after-none (take m (drop gate file)) (counts-front (drop gate file) m (counts-none (drop gate file) ended)) in
      holds_alone file version gate ps stands c same (omega arith) none

  length-cut : length (take (gate + 1) file) ≡ gate + 1
  length-cut = omega (arith, length-take (gate + 1) file, long)

  same-cut : take gate (take (gate + 1) file) ≡ take gate file
  same-cut = take-take gate (gate + 1) file (omega arith)

  -- nor does a torn gate at the end
  pub shut_same : (c : List ℕ) → Torn gate 1 (take (gate + 1) file) c → StillHolds file ps c
  shut_same c torn = holds_alone file version gate ps stands c (torn.before ∙ same-cut) (omega (arith, torn.no_shorter, length-cut)) (payloads_after-one (drop gate c) (omega (arith, length-drop gate c, torn.no_longer, length-cut)))

  pub shut_file : overwritten gate (0 ∷ []) (take (gate + 1) file) ≡ take gate file ++ 0 ∷ []
  shut_file =
      ap (λ (l : List ℕ). l ++ (0 ∷ []) ++ drop (gate + 1) (take (gate + 1) file)) same-cut
      ∙ ap (λ (l : List ℕ). take gate file ++ (0 ∷ []) ++ l) (drop_all (gate + 1) (take (gate + 1) file) (omega (arith, length-cut)))
      ∙ append-nil (take gate file ++ 0 ∷ [])

-- the file with a closed gate and nothing behind it
module _ (file : List ℕ) (version gate : ℕ) (ps : List (List ℕ)) (stands : StandsAt file version gate ps) where
  length-front : length (take gate file) ≡ gate
  length-front = omega (arith, length-take gate file, gate_within file version gate ps stands)

  same-front : (tail : List ℕ) → take gate (take gate file ++ tail) ≡ take gate file
  same-front tail = take_at (take gate file) tail gate length-front

  pub drop-front : (tail : List ℕ) → drop gate (take gate file ++ tail) ≡ tail
  drop-front tail = drop_at (take gate file) tail gate length-front

  pub stands_closed : StandsAt (take gate file ++ 0 ∷ []) version gate ps
  stands_closed = stands_like file version gate ps stands (take gate file ++ 0 ∷ []) (same-front (0 ∷ [])) (omega (arith, length-append (take gate file) (0 ∷ []), length-front))

  pub counted-closed : counted (take gate file ++ 0 ∷ []) ≡ ps
  counted-closed = counted-stands (take gate file ++ 0 ∷ []) version gate ps stands_closed ∙ ap (λ (l : List ℕ). ps ++ payloads_after 0 l) (drop-front (0 ∷ [])) ∙ append-nil ps
