-- What counts behind a gate.
use Rattle.std.proofs.Common.{◌≡◌, ◌≢◌, inl, inr, ℕ, zero, suc, ◌+◌, ◌-◌, ◌^◌, ◌<◌, ◌≤◌, true, false, cond, List, [], ◌∷◌, ◌++◌, length, get_or, take, drop, refl, sym, ◌∙◌, ap, arith, append_assoc, length-append, length-take, w32}
use Rattle.std.specs.List.{sum_by}
use Rattle.std.specs.Int.{to_be_bytes, from_be_bytes}
use Rattle.std.proofs.lemmas.Bool.{cases_Bool, and_parts, and_from, eqb-true, eq-eqb, ltb-true, lt-ltb, both_ways, true≢false}
use Rattle.std.proofs.lemmas.List.Sums.{sum_by-cons}
use Rattle.std.proofs.lemmas.List.{take-take, take_at, drop_at, drop-drop, drop-take, get_or-take}
use Rattle.std.proofs.lemmas.Nat.{from_be_bytes-to_be_bytes_4}
use Rattle.ucon_journal.specs.JournalBytes.{record_bytes, records, AreShort}
use Rattle.ucon_journal.specs.Found.{length_told, counts, payload_at, payloads_after, ReadsAs}

-- how long records are
pub length-records : (ps : List (List ℕ)) → length (records ps) ≡ sum_by (λ p. 5 + length p) ps
length-records [] = refl
length-records (p ∷ ps) = omega (arith, length-append p (records ps), length-records ps, sum_by-cons (λ (q : List ℕ). 5 + length q) p ps)

pub length-records-append : (ps : List (List ℕ)) (p : List ℕ) → length (records (ps ++ p ∷ [])) ≡ length (records ps) + 5 + length p
length-records-append [] p = omega (arith, length-append (record_bytes p) [], length-append (1 ∷ to_be_bytes w32 (length p)) p)
length-records-append (q ∷ ps) p = omega (arith, length-append (record_bytes q) (records ps), length-append (record_bytes q) (records (ps ++ p ∷ [])), length-records-append ps p)

pub records-append : (ps qs : List (List ℕ)) → records (ps ++ qs) ≡ records ps ++ records qs
records-append [] qs = refl
records-append (p ∷ ps) qs = ap (λ (l : List ℕ). record_bytes p ++ l) (records-append ps qs) ∙ sym (append_assoc (record_bytes p) (records ps) (records qs))

pub payloads_after-skip : (n : ℕ) (xs : List ℕ) → payloads_after n xs ≡ payloads_after 0 (drop n xs)
payloads_after-skip zero xs = refl
payloads_after-skip (suc n) [] = refl
payloads_after-skip (suc n) (x ∷ xs) = payloads_after-skip n xs

drop-5 : (n x : ℕ) (rest : List ℕ) → drop (4 + n) rest ≡ drop (5 + n) (x ∷ rest)
drop-5 n x rest = let e : suc (4 + n) ≡ 5 + n = omega arith in ap (λ m. drop m (x ∷ rest)) e

-- a record that counts, and then what is behind it
pub payloads_after-more : (bytes : List ℕ) → counts bytes ≡ true → payloads_after 0 bytes ≡ payload_at bytes ∷ payloads_after 0 (drop (5 + length_told bytes) bytes)
payloads_after-more [] e = absurd (true≢false (sym e))
payloads_after-more (x ∷ rest) e =
    let n = length_told (x ∷ rest) in
    ap (λ b. cond b (payload_at (x ∷ rest) ∷ payloads_after (4 + n) rest) []) e
    ∙ ap (λ (ps : List (List ℕ)). payload_at (x ∷ rest) ∷ ps) (payloads_after-skip (4 + n) rest ∙ ap (λ (l : List ℕ). payloads_after 0 l) (drop-5 n x rest))

pub payloads_after-none : (bytes : List ℕ) → counts bytes ≡ false → payloads_after 0 bytes ≡ []
payloads_after-none [] e = refl
payloads_after-none (x ∷ rest) e = ap (λ b. cond b (payload_at (x ∷ rest) ∷ payloads_after (4 + length_told (x ∷ rest)) rest) []) e

-- where there is none, the record doesn't count
pub counts-none : (bytes : List ℕ) → payloads_after 0 bytes ≡ [] → counts bytes ≡ false
counts-none bytes none = elim (cases_Bool (counts bytes)) [
  | inl e ↦ absurd (cc (payloads_after-more bytes e, none))
  | inr e ↦ e
]

pub counts_within : (bytes : List ℕ) → counts bytes ≡ true → 5 + length_told bytes < length bytes
counts_within bytes e = ltb-true (5 + length_told bytes) (length bytes) (and_parts _ _ e).1

counts_gate : (bytes : List ℕ) → counts bytes ≡ true → get_or bytes 0 0 ≡ 1
counts_gate bytes e = eqb-true (get_or bytes 0 0) 1 (and_parts _ _ e).0

pub counts_from : (bytes : List ℕ) → get_or bytes 0 0 ≡ 1 → 5 + length_told bytes < length bytes → counts bytes ≡ true
counts_from bytes gate within = and_from _ _ (eq-eqb (get_or bytes 0 0) 1 gate) (lt-ltb (5 + length_told bytes) (length bytes) within)

-- the first five bytes tell the length
told_by_front : (m : ℕ) (xs : List ℕ) → 5 ≤ m → length_told (take m xs) ≡ length_told xs
told_by_front m xs le =
    let size : 1 + (m - 1) ≡ m = omega arith in
    ap (λ (l : List ℕ). from_be_bytes w32 (take 4 l)) (ap (λ k. drop 1 (take k xs)) (sym size) ∙ drop-take 1 (m - 1) xs)
    ∙ ap (λ (l : List ℕ). from_be_bytes w32 l) (take-take 4 (m - 1) (drop 1 xs) (omega arith))

payload_by_front : (m : ℕ) (xs : List ℕ) → 5 + length_told xs ≤ m → payload_at (take m xs) ≡ payload_at xs
payload_by_front m xs le =
    let size : 5 + (m - 5) ≡ m = omega arith in
    let n = length_told xs in
    (λ i. take (told_by_front m xs (omega (arith, le)) i) (drop 5 (take m xs)))
    ∙ ap (λ (l : List ℕ). take n l) (ap (λ k. drop 5 (take k xs)) (sym size) ∙ drop-take 5 (m - 5) xs)
    ∙ take-take n (m - 5) (drop 5 xs) (omega (arith, le))

gate_by_front : (m : ℕ) (xs : List ℕ) → 0 < m → get_or (take m xs) 0 0 ≡ get_or xs 0 0
gate_by_front m xs some = get_or-take m xs 0 0 some

-- a front part of bytes whose record doesn't count has none that does
pub counts-front : (tail : List ℕ) (m : ℕ) → counts tail ≡ false → counts (take m tail) ≡ false
counts-front tail m none = elim (cases_Bool (counts (take m tail))) [
  | inl e ↦
      let within : 5 + length_told (take m tail) < length (take m tail) = counts_within (take m tail) e in
      let long : 5 ≤ m = omega (arith, within, length-take m tail) in
      let told = told_by_front m tail long in
      let whole = counts_from tail (sym (gate_by_front m tail (omega arith)) ∙ counts_gate (take m tail) e) (omega (arith, within, told, length-take m tail)) in
      absurd (both_ways (counts tail) none whole)
  | inr e ↦ e
]

pub counts-closed : (rest : List ℕ) → payloads_after 0 (0 ∷ rest) ≡ []
counts-closed rest = payloads_after-none (0 ∷ rest) refl

pub payloads_after-one : (bytes : List ℕ) → length bytes ≤ 5 → payloads_after 0 bytes ≡ []
payloads_after-one bytes short = elim (cases_Bool (counts bytes)) [
  | inl e ↦ absurd (omega (arith, counts_within bytes e, short))
  | inr e ↦ payloads_after-none bytes e
]

pub reads_none : ReadsAs [] []
reads_none rest some = refl

append_one : {X : Type 0} (xs : List X) (x : X) (rest : List X) → xs ++ x ∷ rest ≡ (xs ++ x ∷ []) ++ rest
append_one xs x rest = sym (append_assoc xs (x ∷ []) rest)

-- one record more, as it was read
pub reads_more : (front tail : List ℕ) (ps : List (List ℕ)) → ReadsAs front ps → counts tail ≡ true → ReadsAs (front ++ take (5 + length_told tail) tail) (ps ++ payload_at tail ∷ [])
reads_more front tail ps reads e rest some =
    let n = length_told tail in
    let within : 5 + n < length tail = counts_within tail e in
    let head = take (5 + n) tail in
    let size : length head ≡ 5 + n = omega (arith, length-take (5 + n) tail, within) in
    let all = head ++ rest in
    let same : take (5 + n) all ≡ head = take_at head rest (5 + n) size in
    let told : length_told all ≡ n = sym (told_by_front (5 + n) all (omega arith)) ∙ ap length_told same ∙ told_by_front (5 + n) tail (omega arith) in
    let gate : get_or all 0 0 ≡ 1 = sym (gate_by_front (5 + n) all (omega arith)) ∙ ap (λ (l : List ℕ). get_or l 0 0) same ∙ gate_by_front (5 + n) tail (omega arith) ∙ counts_gate tail e in
    let counted : counts all ≡ true = counts_from all gate (omega (arith, told, size, some, length-append head rest)) in
    let paid : payload_at all ≡ payload_at tail = sym (payload_by_front (5 + n) all (omega (arith, told))) ∙ ap payload_at same ∙ payload_by_front (5 + n) tail (omega arith) in
    let left : drop (5 + length_told all) all ≡ rest = ap (λ k. drop (5 + k) all) told ∙ drop_at head rest (5 + n) size in
    ap (λ (l : List ℕ). payloads_after 0 l) (append_assoc front head rest)
    ∙ reads all (omega (arith, some, length-append head rest))
    ∙ ap (λ (qs : List (List ℕ)). ps ++ qs) (payloads_after-more all counted ∙ (λ i. paid i ∷ payloads_after 0 (left i)))
    ∙ append_one ps (payload_at tail) (payloads_after 0 rest)

-- a record as it is written
pub payloads_after-record : (p rest : List ℕ) → length p < 2 ^ 32 → 0 < length rest → payloads_after 0 (record_bytes p ++ rest) ≡ p ∷ payloads_after 0 rest
payloads_after-record p rest short some =
    let all = record_bytes p ++ rest in
    let told : length_told all ≡ length p = from_be_bytes-to_be_bytes_4 (length p) short in
    let counted : counts all ≡ true = counts_from all refl (omega (arith, told, some, length-append p rest)) in
    let paid : payload_at all ≡ p = ap (λ k. take k (p ++ rest)) told ∙ take_at p rest (length p) refl in
    let left : drop (5 + length_told all) all ≡ rest = ap (λ k. drop (5 + k) all) told ∙ sym (drop-drop (length p) 5 all) ∙ drop_at p rest (length p) refl in
    payloads_after-more all counted ∙ (λ i. paid i ∷ payloads_after 0 (left i))

pub payloads_after-records : (ps : List (List ℕ)) (rest : List ℕ) → AreShort ps → 0 < length rest → payloads_after 0 (records ps ++ rest) ≡ ps ++ payloads_after 0 rest
payloads_after-records [] rest short some = refl
payloads_after-records (p ∷ ps) rest short some =
    ap (λ (l : List ℕ). payloads_after 0 l) (append_assoc (record_bytes p) (records ps) rest)
    ∙ payloads_after-record p (records ps ++ rest) short.0 (omega (arith, some, length-append (records ps) rest))
    ∙ ap (λ (qs : List (List ℕ)). p ∷ qs) (payloads_after-records ps rest short.1 some)

-- more records behind others
pub reads_records : (front : List ℕ) (ps qs : List (List ℕ)) → ReadsAs front ps → AreShort qs → ReadsAs (front ++ records qs) (ps ++ qs)
reads_records front ps qs reads short rest some =
    ap (λ (l : List ℕ). payloads_after 0 l) (append_assoc front (records qs) rest)
    ∙ reads (records qs ++ rest) (omega (arith, some, length-append (records qs) rest))
    ∙ ap (λ (rs : List (List ℕ)). ps ++ rs) (payloads_after-records qs rest short some)
    ∙ sym (append_assoc ps qs (payloads_after 0 rest))

pub counts-shut : (gate : ℕ) (rest : List ℕ) → gate ≢ 1 → payloads_after 0 (gate ∷ rest) ≡ []
counts-shut gate rest closed = elim (cases_Bool (counts (gate ∷ rest))) [
  | inl e ↦ absurd (closed (counts_gate (gate ∷ rest) e))
  | inr e ↦ payloads_after-none (gate ∷ rest) e
]
