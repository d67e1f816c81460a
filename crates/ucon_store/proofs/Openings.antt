-- What opening leaves in a file, and what its records say.
use Rattle.std.proofs.Common.{◌≡◌, ◌≢◌, ◌⊎◌, ⊎_elim, inl, inr, ℕ, ◌+◌, ◌≤◌, List, [], ◌∷◌, ◌++◌, length, Bool, Option, Some, None, refl, sym, ap, ◌∙◌, subst, false, true, arith}
use Rattle.std.specs.Prelude.{nat_lt, option_map, unwrap_or, if◌then◌else◌, IfSome, MatchBool}
use Rattle.std.specs.Str.{bytes_eq}
use Rattle.ucon_model.specs.Plain.{Bytes, PlainPolicy}
use Rattle.ucon_model.specs.History.{History}
use Rattle.ucon_model.specs.Payload.{most_payload}
use Rattle.ucon_model.specs.Found.{Finding, fresh, damaged, Takes, policy_taken, next_gate, first_gate, found_behind, found_in}
use Rattle.ucon_journal.specs.Found as journal
use Rattle.ucon_journal.specs.Journal.{told_payloads}
use Rattle.ucon_journal.specs.JournalBytes.{magic}
use Rattle.ucon_journal.specs.Opened.{StillHolds}
use Rattle.ucon_syntax.specs.Policies.{accepted}
use Rattle.ucon_store.specs.Found.{finding_of, found, Holds, Tells, IsFoundAs, found_by}
use Rattle.ucon_store.specs.Keeping.{IsSameKind}
use Rattle.ucon_store.specs.Opened as seeing
use Rattle.ucon_store.specs.Opened.{Seen, Sees, SeesIn, seen_after}
use Rattle.ucon_store.specs.Opening.{IsForeign, Opens}
use Rattle.ucon_store.specs.Points.{has_points, takes_with}
use Rattle.ucon_store.proofs.Finding.{hold_counted, takes_of}

-- ---- records, one by one

long_no : (m n : ℕ) → n ≤ m → nat_lt m n ≡ false
long_no m n le = grind arith

-- record 0
policy_short : (text : Bytes) → length text ≤ most_payload → policy_taken accepted text ≡ accepted text
policy_short text short = ap (λ b. if b then None else accepted text) (long_no most_payload (length text) short)

pub policy_right : (takes : Takes) (text : Bytes) (P : PlainPolicy) (payloads : List Bytes) → length text ≤ most_payload → accepted text ≡ Some P
    → found_in accepted takes (text ∷ payloads) ≡ found_behind takes text P [] 1 (next_gate first_gate text) payloads
policy_right takes text P payloads short accepts =
    ap (λ o. unwrap_or (option_map (λ Q. found_behind takes text Q [] 1 (next_gate first_gate text) payloads) o) (damaged 0 first_gate)) (policy_short text short ∙ accepts)

-- a later record
pub step_right : (takes : Takes) (text : Bytes) (P : PlainPolicy) (H later : History) (number gate : ℕ) (payload : Bytes) (payloads : List Bytes) → takes text P H payload ≡ Some later
    → found_behind takes text P H number gate (payload ∷ payloads) ≡ found_behind takes text P later (number + 1) (next_gate gate payload) payloads
step_right takes text P H later number gate payload payloads is =
    ap (λ o. unwrap_or (option_map (λ h. found_behind takes text P h (number + 1) (next_gate gate payload) payloads) o) (damaged number gate)) is

pub step_wrong : (takes : Takes) (text : Bytes) (P : PlainPolicy) (H : History) (number gate : ℕ) (payload : Bytes) (payloads : List Bytes) → takes text P H payload ≡ None
    → found_behind takes text P H number gate (payload ∷ payloads) ≡ damaged number gate
step_wrong takes text P H number gate payload payloads is =
    ap (λ o. unwrap_or (option_map (λ h. found_behind takes text P h (number + 1) (next_gate gate payload) payloads) o) (damaged number gate)) is

-- ---- what is found in the bytes

by_count : (takes : Takes) (f : journal.Found) → f ≢ journal.NotJournal → finding_of takes f ≡ found_in accepted takes (journal.payloads_found f)
by_count takes journal.Fresh is = refl
by_count takes journal.NotJournal is = absurd (is refl)
by_count takes (journal.Holds payloads gate) is = refl

-- in a journal, what is found is what the payloads say that count
pub found_counted : (file : Bytes) → journal.found file ≢ journal.NotJournal → found file ≡ found_in accepted (takes_of file) (journal.counted file)
unfolding found_by
found_counted file is = by_count (takes_of file) (journal.found file) is

pub found_fresh : (file : Bytes) → journal.found file ≢ journal.NotJournal → journal.counted file ≡ [] → found file ≡ fresh
found_fresh file is none = found_counted file is ∙ ap (found_in accepted (takes_of file)) none

-- ---- what opening may make of them

-- where there is no record, opening sees none
pub sees_fresh : (file : Bytes) (seen : Seen) → journal.counted file ≡ [] → found file ≡ fresh → Sees file seen → seen ≡ seeing.fresh
sees_fresh file seen none is sees =
    let here : SeesIn (has_points file) [] (found file) seen = subst (λ (l : List Bytes). SeesIn (has_points file) l (found file) seen) none sees in
    here ∙ ap (seen_after 0 []) is

pub not_foreign : (text file : Bytes) → journal.counted file ≡ [] → found file ≡ fresh → (seen : Seen) → Sees file seen → IsForeign seen text → ⊥
not_foreign text file none is seen sees foreign =
    let no : IsForeign seeing.fresh text = subst (λ (s : Seen). IsForeign s text) (sees_fresh file seen none is sees) foreign in no

pub same_opens : (text file c : Bytes) → found c ≡ found file → ((seen : Seen) → Sees file seen → IsForeign seen text → c ≡ file)
    → journal.counted c ≡ journal.counted file → IsSameKind file c → Opens text file c
same_opens text file c is untouched records kind =
    record { same = λ H h. subst (λ (f : Finding). Tells f text H) (sym is) h; untouched = untouched; records = inl records; kind = kind }

pub itself_opens : (text file c : Bytes) → c ≡ file → Opens text file c
itself_opens text file c is = same_opens text file c (ap found is) (λ _ _ _. is) (ap journal.counted is) (λ long. ap has_points is)

-- a file with the same magic is of the same kind
pub kind_held : (file : Bytes) (held : List Bytes) (c : Bytes) → StillHolds file held c → has_points c ≡ has_points file
kind_held file held c still = ap (λ (front : Bytes). bytes_eq front (magic 2)) still.magic

-- a journal is mended in which nothing foreign is seen
pub found_mended : (file c : Bytes) → journal.found file ≢ journal.NotJournal → StillHolds file (journal.counted file) c → found c ≡ found file
found_mended file c is still =
    let kind : has_points c ≡ has_points file = ap (λ (front : Bytes). bytes_eq front (magic 2)) still.magic in
    found_counted c still.journal
    ∙ ((λ i. found_in accepted (takes_with (kind i)) (still.payloads i)) ∙ sym (found_counted file is))

pub mended_opens : (text file c : Bytes) → journal.found file ≢ journal.NotJournal → ((seen : Seen) → Sees file seen → IsForeign seen text → ⊥)
    → StillHolds file (journal.counted file) c → Opens text file c
mended_opens text file c is home still = same_opens text file c (found_mended file c is still) (λ seen sees foreign. absurd (home seen sees foreign))
    still.payloads (λ long. kind_held file (journal.counted file) c still)

-- a journal without a record is mended, or gets record 0
pub made_opens : (text file c : Bytes) → journal.counted file ≡ [] → found file ≡ fresh → IsFoundAs text c []
    → (journal.counted c ≡ []) ⊎ (journal.counted c ≡ text ∷ []) → has_points c ≡ has_points file → Opens text file c
made_opens text file c none is found_so records kind = record {
  same = λ G h. let none : Tells fresh text G = subst (λ (f : Finding). Tells f text G) is h in subst (IsFoundAs text c) (sym none) found_so;
  untouched = λ seen sees foreign. absurd (not_foreign text file none is seen sees foreign);
  records = ⊎_elim (λ nothing. inl (nothing ∙ sym none)) (λ made. inr (none, made)) records;
  kind = λ long. kind;
}

pub fresh_found : (text c : Bytes) → found c ≡ fresh → IsFoundAs text c []
fresh_found text c is = subst (λ (f : Finding). Tells f text []) (sym is) refl

-- the file with the policy alone
pub policy_holds : (text : Bytes) (P : PlainPolicy) (c : Bytes) → length text ≤ most_payload → accepted text ≡ Some P → journal.counted c ≡ text ∷ [] → Holds text P [] c
policy_holds text P c short accepts is = hold_counted text P [] (next_gate first_gate text) c (ap (found_in accepted (takes_of c)) is ∙ policy_right (takes_of c) text P [] short accepts)

-- what a call of the journal tells of more records
module _ (o : Option Bytes) (A B : Bytes → Type 0) where
  pub more_told : (b : Bool) → b ≡ true → IfSome o (λ file. MatchBool b (A file) (B file)) → IfSome o A
  more_told true is h = h
  more_told false is h = absurd (cc is)

  pub none_told : (b : Bool) → b ≡ false → IfSome o (λ file. MatchBool b (A file) (B file)) → IfSome o B
  none_told true is h = absurd (cc is)
  none_told false is h = h

-- a file that got record 0 alone holds the policy
pub holds_made : (text : Bytes) (P : PlainPolicy) (o m n : Option Bytes) (shut grown : Bytes → Bytes) → length text ≤ most_payload → accepted text ≡ Some P
    → IfSome o (λ file. (journal.counted file ≡ []) × (journal.found file ≢ journal.NotJournal)) → m ≡ option_map shut o → told_payloads m ≡ told_payloads o
    → n ≡ option_map grown m → IfSome m (λ file. told_payloads n ≡ told_payloads m ++ text ∷ []) → IfSome n (Holds text P [])
holds_made text P o m None shut grown short accepts empty is same now added = tt
holds_made text P o None (Some c) shut grown short accepts empty is same now added = absurd (cc now)
holds_made text P None (Some file) (Some c) shut grown short accepts empty is same now added = absurd (cc is)
holds_made text P (Some file) (Some mended) (Some c) shut grown short accepts empty is same now added =
    policy_holds text P c short accepts (added ∙ ap (λ (l : List Bytes). l ++ text ∷ []) (same ∙ empty.0))
