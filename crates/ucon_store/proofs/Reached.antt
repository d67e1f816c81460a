-- Straight to the last checkpoint, behind the records before it.
use Rattle.std.proofs.Common.{◌≡◌, inl, inr, ℕ, ◌+◌, Bool, cond, List, [], ◌∷◌, ◌++◌, length, Option, Some, None, refl, sym, ap, ◌∙◌, arith, length-append}
use Rattle.std.proofs.lemmas.Bool.{cases_Bool}
use Rattle.std.specs.Prelude.{nat_lt, IfSome}
use Rattle.ucon_journal.specs.Found.{payloads_from, LeadTo}
use Rattle.ucon_journal.specs.JournalBytes.{records}
use Rattle.ucon_model.specs.Found.{gate_behind, next_gate}
use Rattle.ucon_model.specs.Payload.{most_payload}
use Rattle.ucon_model.specs.Plain.{Bytes}
use Rattle.ucon_store.specs.declared.record_fault.RecordFault.{RecordFault}
use Rattle.ucon_store.specs.declared.record_fault.RecordFault.TheVariants as faults
use Rattle.ucon_store.specs.declared.walking.LastPoint.{LastPoint}
use Rattle.ucon_store.specs.Parted.{Parted, first_long}
use Rattle.ucon_store.specs.Reaching.{CanBePassed, IsTaken, IsUnpassed, IsUpTo}
use Rattle.ucon_store.specs.Walking.{HasLong}

-- ---- a record that can be passed

-- it is passed unless the disk fails or memory is wanting
pub passed_unless : (fault : RecordFault) (o : Option Bytes) (number gate before now : ℕ) → IfSome o (CanBePassed number gate) → HasLong fault o number gate before now
    → IsUnpassed fault o before now
passed_unless (faults.Damaged long place) o number gate before now can h = (told o can h.0, h.1)
  where
    told : (o : Option Bytes) → IfSome o (CanBePassed number gate) → IfSome o (λ bytes. first_long number gate (payloads_from bytes gate) ≡ Some (long, place))
        → o ≡ None
    told None can h = refl
    told (Some file) can h = let no : None ≡ Some (long, place) = sym can.1 ∙ h in absurd (cc no)
passed_unless faults.DiskFault o number gate before now can h = h
passed_unless (faults.NoMemory e) o number gate before now can h = h

-- and it is there
pub passed_there : (o : Option Bytes) (number gate : ℕ) → IfSome o (CanBePassed number gate) → IfSome o (λ file. payloads_from file gate ≡ []) → o ≡ None
passed_there None number gate can none = refl
passed_there (Some file) number gate can none = absurd (can.0 none)

-- ---- one record

heads : (x y : Bytes) (xs ys : List Bytes) → x ∷ xs ≡ y ∷ ys → x ≡ y
heads x y xs ys h = cc h

tails : (x y : Bytes) (xs ys : List Bytes) → x ∷ xs ≡ y ∷ ys → xs ≡ ys
tails x y xs ys h = cc h

module _ (last : LastPoint) (p : Parted) (number gate next : ℕ) (file payload : Bytes) (more : payloads_from file gate ≡ payload ∷ payloads_from file next)
    (on : next ≡ gate + 5 + length payload) where
  -- the checkpoint
  pub taken_at : IsUpTo last p number gate file → number ≡ last.number → IsTaken last p payload next file
  taken_at u is = by u.rest u.are u.count u.place
    where
      by : (rest : List Bytes) → payloads_from file gate ≡ rest ++ p.point ∷ p.behind → number + length rest ≡ last.number → gate_behind gate rest ≡ last.place → IsTaken last p payload next file
      by (r ∷ rest) are count place = absurd (omega (arith, count, is))
      by [] are count place =
          let same : payload ≡ p.point = heads payload p.point (payloads_from file next) p.behind (sym more ∙ are) in record {
            is = same;
            behind = tails payload p.point (payloads_from file next) p.behind (sym more ∙ are);
            place = on ∙ (λ i. place i + 5 + length (same i));
          }

-- ---- the records before the checkpoint

-- a gate behind records, by their bytes
gates : (gate : ℕ) (ps : List Bytes) → gate_behind gate ps ≡ gate + length (records ps)
gates gate [] = omega arith
gates gate (p ∷ ps) = gates (next_gate gate p) ps ∙ omega (arith, length-append p (records ps))

-- where none of some records is too long, none behind the first of them is
short_behind : (number gate : ℕ) (rest later : List Bytes) → first_long number gate (rest ++ later) ≡ None → first_long (number + length rest) (gate_behind gate rest) later ≡ None
short_behind number gate [] later none =
    let same : number + 0 ≡ number = omega arith in
    ap (λ (n : ℕ). first_long n gate later) same ∙ none
short_behind number gate (r ∷ rest) later none = elim (cases_Bool (nat_lt most_payload (length r))) [
  | inl e ↦
      let no : Some (number, gate) ≡ None = sym (ap (λ (b : Bool). cond b (Some (number, gate)) (first_long (number + 1) (next_gate gate r) (rest ++ later))) e) ∙ none in
      absurd (cc no)
  | inr e ↦
      let on : first_long (number + 1) (next_gate gate r) (rest ++ later) ≡ None =
      sym (ap (λ (b : Bool). cond b (Some (number, gate)) (first_long (number + 1) (next_gate gate r) (rest ++ later))) e) ∙ none in
      let count : number + length (r ∷ rest) ≡ (number + 1) + length rest = omega arith in
      ap (λ (n : ℕ). first_long n (gate_behind (next_gate gate r) rest) later) count ∙ short_behind (number + 1) (next_gate gate r) rest later on
]

module _ (last : LastPoint) (p : Parted) (first : ℕ) (file : Bytes) (u : IsUpTo last p 1 first file) where
  leads : LeadTo file first u.rest last.place (p.point ∷ p.behind)
  leads = record { are = u.are; place = sym u.place ∙ gates first u.rest }

  -- so it stands at its gate, and no record is too long from there on
  gone_to : payloads_from file last.place ≡ p.point ∷ p.behind → IsUpTo last p last.number last.place file
  gone_to are = record {
    rest = [];
    are = are;
    count = omega arith;
    place = refl;
    short = (λ i. first_long (sym u.count i) (sym u.place i) (are i)) ∙ short_behind 1 first u.rest (p.point ∷ p.behind) (sym (ap (first_long 1 first) u.are) ∙ u.short);
  }

-- ---- where the disk tells

module _ (last : LastPoint) where
  pub leads_told : (o : Option Bytes) (first : ℕ) → IfSome o (λ file. (p : Parted) × IsUpTo last p 1 first file)
      → IfSome o (λ file. (ps : List Bytes) × (qs : List Bytes) × LeadTo file first ps last.place qs)
  leads_told None first there = tt
  leads_told (Some file) first there = (there.1.rest, there.0.point ∷ there.0.behind, leads last there.0 first file there.1)

  pub gone_told : (o : Option Bytes) (first : ℕ) → IfSome o (λ file. (ps qs : List Bytes) → LeadTo file first ps last.place qs → payloads_from file last.place ≡ qs)
      → IfSome o (λ file. (p : Parted) → IsUpTo last p 1 first file → IsUpTo last p last.number last.place file)
  gone_told None first left = tt
  gone_told (Some file) first left = λ p u. gone_to last p first file u (left u.rest (p.point ∷ p.behind) (leads last p first file u))

  pub taken_more : (o : Option Bytes) (number first gate next : ℕ) (payload : Bytes) → IfSome o (λ file. (p : Parted) → IsUpTo last p 1 first file → IsUpTo last p number gate file)
      → IfSome o (λ file. payloads_from file gate ≡ payload ∷ payloads_from file next) → next ≡ gate + 5 + length payload → number ≡ last.number
      → IfSome o (λ file. (p : Parted) → IsUpTo last p 1 first file → IsTaken last p payload next file)
  taken_more None number first gate next payload upto more on is = tt
  taken_more (Some file) number first gate next payload upto more on is =
      λ p u. taken_at last p number gate next file payload more on (upto p u) is

  not_empty : (rest front : List Bytes) (x : Bytes) (xs : List Bytes) → rest ≡ front ++ x ∷ xs → rest ≡ [] → ⊥
  not_empty rest [] x xs is none = let no : x ∷ xs ≡ [] = sym is ∙ none in absurd (cc no)
  not_empty rest (r ∷ front) x xs is none = let no : r ∷ (front ++ x ∷ xs) ≡ [] = sym is ∙ none in absurd (cc no)

  -- each record up to the checkpoint can be passed
  pub can_be_passed : (o : Option Bytes) (number first gate : ℕ) → IfSome o (λ file. (p : Parted) × IsUpTo last p 1 first file)
      → IfSome o (λ file. (p : Parted) → IsUpTo last p 1 first file → IsUpTo last p number gate file) → IfSome o (CanBePassed number gate)
  can_be_passed None number first gate there upto = tt
  can_be_passed (Some file) number first gate there upto =
      let u = upto there.0 there.1 in
      (not_empty (payloads_from file gate) u.rest there.0.point there.0.behind u.are, u.short)
