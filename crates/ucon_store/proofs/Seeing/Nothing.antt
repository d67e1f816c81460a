-- Opening sees no record, or no journal, exactly where that is found.
use Rattle.std.proofs.Common.{◌≡◌, ◌∙◌, inl, inr, ℕ, ◌+◌, Bool, true, false, List, [], ◌∷◌, Option, Some, None, refl, sym, ap, subst}
use Rattle.std.specs.Prelude.{◌↔◌, option_map, unwrap_or}
use Rattle.std.proofs.lemmas.Bool.{false≢true}
use Rattle.ucon_model.specs.Action.{Trace}
use Rattle.ucon_model.specs.Found as model
use Rattle.ucon_model.specs.Found.{Finding, Takes, first_gate, next_gate, found_behind, found_in, policy_taken}
use Rattle.ucon_model.specs.History.{History}
use Rattle.ucon_model.specs.Plain.{Bytes, PlainPolicy}
use Rattle.ucon_journal.specs.Found as journal
use Rattle.ucon_syntax.specs.Policies.{accepted}
use Rattle.ucon_store.specs.Found.{finding_of, found, found_by}
use Rattle.ucon_store.specs.Opened as opened
use Rattle.ucon_store.specs.Opened.{Parted, Seen, Sees, SeesFrom, SeesIn, SeesPast, first_long, parted_with, seen_after, steps_after, steps_among}
use Rattle.ucon_store.specs.Points.{has_points, takes_with}

-- a record is told of
abbrev pub is_told : Finding → Bool
is_told (model.holds text P H gate) = true
is_told (model.damaged number place) = true
is_told f = false

told_behind : (takes : Takes) (text : Bytes) (P : PlainPolicy) (payloads : List Bytes) (H : History) (number gate : ℕ) → is_told (found_behind takes text P H number gate payloads) ≡ true
told_behind takes text P [] H number gate = refl
told_behind takes text P (payload ∷ payloads) H number gate = by (takes text P H payload) (λ later. told_behind takes text P payloads later (number + 1) (next_gate gate payload))
  where
    by : (o : Option History) → ((later : History) → is_told (found_behind takes text P later (number + 1) (next_gate gate payload) payloads) ≡ true)
        → is_told (unwrap_or (option_map (λ later. found_behind takes text P later (number + 1) (next_gate gate payload) payloads) o) (model.damaged number gate)) ≡ true
    by None rest = refl
    by (Some later) rest = rest later

told_in : (takes : Takes) (text : Bytes) (payloads : List Bytes) → is_told (found_in accepted takes (text ∷ payloads)) ≡ true
told_in takes text payloads = by (policy_taken accepted text)
  where
    by : (o : Option PlainPolicy)
        → is_told (unwrap_or (option_map (λ P. found_behind takes text P [] 1 (next_gate first_gate text) payloads) o) (model.damaged 0 first_gate)) ≡ true
    by None = refl
    by (Some P) = told_behind takes text P payloads [] 1 (next_gate first_gate text)

-- without one no payload counts
untold : (takes : Takes) (f : journal.Found) → is_told (finding_of takes f) ≡ false → journal.payloads_found f ≡ []
untold takes journal.Fresh h = refl
untold takes journal.NotJournal h = refl
untold takes (journal.Holds [] gate) h = refl
untold takes (journal.Holds (text ∷ payloads) gate) h = absurd (false≢true (sym h ∙ told_in takes text payloads))

pub found_untold : (file : Bytes) → is_told (found file) ≡ false → journal.counted file ≡ []
unfolding found_by
found_untold file h = untold (takes_with (has_points file)) (journal.found file) h

-- so what was found is seen
pub seen_untold : (file : Bytes) → is_told (found file) ≡ false → Sees file (seen_after 0 [] (found file))
seen_untold file h = subst (λ (payloads : List Bytes). SeesIn (has_points file) payloads (found file) (seen_after 0 [] (found file))) (sym (found_untold file h)) refl

-- ---- and back

abbrev is_seen : Seen → Bool
is_seen (opened.holds text entries there gate) = true
is_seen (opened.damaged number place) = true
is_seen s = false

seen_told : (entries : ℕ) (T : Trace) (f : Finding) → is_told f ≡ true → is_seen (seen_after entries T f) ≡ true
seen_told entries T (model.holds text P H gate) h = refl
seen_told entries T (model.damaged number place) h = refl
seen_told entries T f h = absurd (false≢true h)

unseen_from : (text : Bytes) (p : Parted) (s : Seen) → is_seen s ≡ false → SeesFrom text p s → ⊥
unseen_from text p s h (inl damaged) = false≢true (sym h ∙ ap is_seen damaged.1)
unseen_from text p s h (inr holds) =
    let P : PlainPolicy = holds.0 in
    let T : Trace = holds.1 in
    false≢true (sym h ∙ ap is_seen holds.3
    ∙ seen_told (steps_among p.before) T _ (told_behind (steps_after T) text P p.behind [] _ _))

unseen_past : (long : Option (ℕ × ℕ)) (text : Bytes) (policy : Option PlainPolicy) (o : Option Parted) (f : Finding) (s : Seen) → is_seen s ≡ false → SeesPast long text policy o f s
    → s ≡ seen_after 0 [] f
unseen_past (Some long) text policy o f s h is = absurd (false≢true (sym h ∙ ap is_seen is))
unseen_past None text None o f s h is = absurd (false≢true (sym h ∙ ap is_seen is))
unseen_past None text (Some P) None f s h is = is
unseen_past None text (Some P) (Some p) f s h is = absurd (unseen_from text p s h is)

unseen_in : (points : Bool) (payloads : List Bytes) (f : Finding) (s : Seen) → is_seen s ≡ false → SeesIn points payloads f s → s ≡ seen_after 0 [] f
unseen_in points [] f s h is = is
unseen_in points (text ∷ payloads) f s h is = unseen_past (first_long 0 first_gate (text ∷ payloads)) text (accepted text) (parted_with points payloads) f s h is

as_fresh : (f : Finding) → opened.fresh ≡ seen_after 0 [] f → f ≡ model.fresh
as_fresh model.fresh h = refl
as_fresh model.not_journal h = absurd (cc h)
as_fresh (model.damaged number place) h = absurd (cc h)
as_fresh (model.holds text P H gate) h = absurd (cc h)

as_not_journal : (f : Finding) → opened.not_journal ≡ seen_after 0 [] f → f ≡ model.not_journal
as_not_journal model.fresh h = absurd (cc h)
as_not_journal model.not_journal h = refl
as_not_journal (model.damaged number place) h = absurd (cc h)
as_not_journal (model.holds text P H gate) h = absurd (cc h)

pub fresh_seen : (file : Bytes) → (found file ≡ model.fresh) ↔ Sees file opened.fresh
fresh_seen file = (
  λ is. subst (Sees file) (ap (seen_after 0 []) is) (seen_untold file (ap is_told is)),
  λ sees. as_fresh (found file) (unseen_in (has_points file) (journal.counted file) (found file) opened.fresh refl sees),
)

pub not_journal_seen : (file : Bytes) → (found file ≡ model.not_journal) ↔ Sees file opened.not_journal
not_journal_seen file = (
  λ is. subst (Sees file) (ap (seen_after 0 []) is) (seen_untold file (ap is_told is)),
  λ sees. as_not_journal (found file) (unseen_in (has_points file) (journal.counted file) (found file) opened.not_journal refl sees),
)
