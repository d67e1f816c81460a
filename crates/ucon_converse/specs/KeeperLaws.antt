-- The laws of a keeper, for a store that answers lines.
use Rattle.std.proofs.Common.{◌≡◌, ◌⊎◌, inl, inr, ⊎_elim, ℕ, ◌+◌, ◌≤◌, List, [], ◌∷◌, ◌++◌, length, append_assoc, refl, sym, ap, subst, ◌∙◌, arith}
use Rattle.std.specs.Prelude.{Option, Some, None, IsSome, IfSome, option_map, unwrap_or, true, false}
use Rattle.ucon_disk.specs.Disk.{Only}
use Rattle.ucon_disk.specs.Run.{joined, started, weaker}
use Rattle.ucon_disk.specs.Seen.{DiskSeen}
use Rattle.ucon_journal.specs.Found as journal
use Rattle.ucon_journal.specs.Found.{counted, payloads_found}
use Rattle.ucon_model.specs.Found.{Takes, damaged, holds, first_gate, found_behind, found_in, next_gate, policy_taken}
use Rattle.ucon_model.specs.History.{History}
use Rattle.ucon_model.specs.Plain.{Bytes, PlainPolicy}
use Rattle.ucon_store.specs.Found.{Holds, IsFoundAs, IsFoundMarked, finding_of, found_by}
use Rattle.ucon_store.specs.Points.{SameKind, has_points, point_places, takes_with}
use Rattle.ucon_store.specs.Stays.{IsFoundBetween, stays_again, stays_same}
use Rattle.ucon_store.specs.Whole.{whole}
use Rattle.ucon_syntax.specs.Policies.{accepted}
use Rattle.ucon_turn.specs.Lists.{Begins, begins_refl, begins_trans}
use Rattle.ucon_converse.specs.Answering.{Answering}
use Rattle.ucon_converse.specs.Holding.{HasFirst, HasPointsOf, HasPointsPast, HoldsAll, IsBased, IsFoundPast, IsFoundedAt, IsLeftBy, standing}
use Rattle.ucon_converse.specs.Keeping.{Keeps, KeepsPoints, moment_by, moment_of}
use Rattle.ucon_converse.specs.Replies.{Standing}

none_or_some : {A : Type 0} (o : Option A) → (o ≡ None) ⊎ ((a : A) × (o ≡ Some a))
none_or_some None = inl refl
none_or_some (Some a) = inr (a, refl)

if_some : (o : Option Bytes) (A B : Bytes → Type 0) → ((c : Bytes) → A c → B c) → IfSome o A → IfSome o B
if_some None A B f a = tt
if_some (Some c) A B f a = f c a

-- ---- what a file holds has its policy as the first record

text_behind : (takes : Takes) (text : Bytes) (P : PlainPolicy) (H : History) (number gate : ℕ) (payloads : List Bytes) (t : Bytes) (Q : PlainPolicy) (K : History) (g : ℕ)
    → found_behind takes text P H number gate payloads ≡ holds t Q K g → text ≡ t
text_behind takes text P H number gate [] t Q K g is = cc is
text_behind takes text P H number gate (p ∷ ps) t Q K g is = by (λ later e. text_behind takes text P later (number + 1) (next_gate gate p) ps t Q K g e) (takes text P H p) is
  where
    by : ((later : History) → found_behind takes text P later (number + 1) (next_gate gate p) ps ≡ holds t Q K g → text ≡ t) → (o : Option History)
        → unwrap_or (option_map (λ later. found_behind takes text P later (number + 1) (next_gate gate p) ps) o) (damaged number gate) ≡ holds t Q K g → text ≡ t
    by next None e = absurd (cc e)
    by next (Some later) e = next later e

first_in : (takes : Takes) (payloads : List Bytes) (t : Bytes) (Q : PlainPolicy) (K : History) (g : ℕ) → found_in accepted takes payloads ≡ holds t Q K g
    → (others : List Bytes) × (payloads ≡ t ∷ others)
first_in takes [] t Q K g is = absurd (cc is)
first_in takes (text ∷ ps) t Q K g is = by (policy_taken accepted text) is
  where
    by : (o : Option PlainPolicy)
        → unwrap_or (option_map (λ P. found_behind takes text P [] 1 (next_gate first_gate text) ps) o) (damaged 0 first_gate) ≡ holds t Q K g
        → (others : List Bytes) × (text ∷ ps ≡ t ∷ others)
    by None e = absurd (cc e)
    by (Some P) e = (ps, ap (λ (l : Bytes). l ∷ ps) (text_behind takes text P [] 1 (next_gate first_gate text) ps t Q K g e))

first_found : (takes : Takes) (f : journal.Found) (t : Bytes) (Q : PlainPolicy) (K : History) (g : ℕ) → finding_of takes f ≡ holds t Q K g
    → (others : List Bytes) × (payloads_found f ≡ t ∷ others)
first_found takes journal.Fresh t Q K g is = absurd (cc is)
first_found takes journal.NotJournal t Q K g is = absurd (cc is)
first_found takes (journal.Holds payloads gate) t Q K g is = first_in takes payloads t Q K g is

pub first_held : (text : Bytes) (P : PlainPolicy) (H : History) (file : Bytes) → Holds text P H file → HasFirst text file
unfolding found_by
first_held text P H file h = first_found (takes_with (has_points file)) (journal.found file) text P H h.gate h.is

-- ---- kinds and places

same_kind : (o : Option Bytes) → SameKind o o
same_kind None = tt
same_kind (Some file) = refl

-- the kind stays through two stretches, if a disk that tells goes on telling
kind_again : (o p q : Option Bytes) → (IsSome o → IsSome p) → SameKind o p → SameKind p q → SameKind o q
kind_again None p q tells a b = tt
kind_again (Some f) p None tells a b = tt
kind_again (Some f) None (Some h) tells a b = absurd (let no : false ≡ true = tells refl in cc no)
kind_again (Some f) (Some g) (Some h) tells a b = b ∙ a

unmarked_not : {A : Type 0} (m : Option A) (a : A) → m ≡ None → m ≡ Some a → ⊥
unmarked_not m a none some = let no : None ≡ Some a = sym none ∙ some in cc no

-- without a mark the checkpoints are those of the standing
exactly : (s : Standing) (c : Bytes) → s.failed ≡ None → HasPointsOf s c → point_places c ≡ s.points
exactly s c none (inl is) = is
exactly s c none (inr more) = absurd (unmarked_not s.failed [] none more.0)

-- what is left holds all of it
pub points_past : (text : Bytes) (s : Standing) (c : Bytes) → HasFirst text c → HasPointsOf s c → HasPointsPast text s.points c
points_past text s c first (inl is) = record { recorded = first; kept = subst (λ (l : List ℕ). Begins s.points l) (sym is) (begins_refl s.points) }
points_past text s c first (inr more) = record { recorded = first; kept = (length s.history ∷ [], sym more.1) }

past_of : (text : Bytes) (s : Standing) (c : Bytes) → IsLeftBy accepted text s c → IsFoundPast text s c
past_of text s c left = by left.found
  where
    by : IsFoundMarked text s.history s.failed c → IsFoundPast text s c
    by (inl f) = record { history = s.history; found = f; begun = begins_refl s.history; points = points_past text s c left.recorded left.points }
    by (inr f) = record { history = s.history ++ f.0; found = f.2; begun = (f.0, refl); points = points_past text s c left.recorded left.points }

-- more checkpoints behind the same ones
begins_added : (places xs ys : List ℕ) → Begins xs ys → Begins (places ++ xs) (places ++ ys)
begins_added places xs ys b = (b.0, append_assoc places xs b.0 ∙ ap (λ (l : List ℕ). places ++ l) b.1)

module _ {D : Type 0} (seen : D → DiskSeen) (only : (d : D) (c : List ℕ) → (seen d).images_since (seen d).moment c → (seen d).images c) where
  -- a store that is founded leaves its policy and its checkpoints, and nothing else
  pub left_founded : (P : PlainPolicy) (a : Answering D) (G : History) (places : List ℕ) → IsFoundedAt seen P a G places
      → (c : Bytes) → (seen a.store.disk).images c → HasFirst a.store.policy c × (point_places c ≡ places ++ a.made)
  left_founded P a G places f c image = by (seen a.store.disk).contents f.told f.founded.holds f.founded.only f.points
    where
      by : (o : Option Bytes) → IsSome o → IfSome o (Holds a.store.policy P (G ++ a.store.entries)) → Only o (seen a.store.disk).images
          → IfSome o (λ file. point_places file ≡ places ++ a.made) → HasFirst a.store.policy c × (point_places c ≡ places ++ a.made)
      by None told held only' points = absurd (let no : false ≡ true = told in cc no)
      by (Some file) told held only' points =
          let is : c ≡ file = only' c image in
          (subst (HasFirst a.store.policy) (sym is) (first_held a.store.policy P (G ++ a.store.entries) file held), ap point_places is ∙ points)

  -- it stays founded so, once nothing was done
  points_same : (P : PlainPolicy) (a : Answering D) (G : History) (places : List ℕ) → IsFoundedAt seen P a G places → KeepsPoints seen a a G places
  points_same P a G places f = record {
    since = started (seen a.store.disk) (HasPointsPast a.store.policy (places ++ a.made))
        (λ c since.
        let left = left_founded P a G places f c (only a.store.disk c since) in
        record { recorded = left.0; kept = subst (λ (l : List ℕ). Begins (places ++ a.made) l) (sym left.1) (begins_refl (places ++ a.made)) });
    now = λ c image. let left = left_founded P a G places f c image in (left.0, inl left.1);
  }

  pub keeps_same : (x : Answering D) → Keeps seen x x
  keeps_same x = record {
    stays = stays_same seen only x.store;
    later = omega arith;
    still = λ es is. refl;
    kind = same_kind (seen x.store.disk).contents;
    made = begins_refl x.made;
    points = λ P G places f. points_same P x G places f;
  }

  module _ (read : (d : D) → IfSome (seen d).contents (seen d).images) where
    -- a store that isn't stopped goes on from what it was founded on
    pub founded_later : (x y : Answering D) (P : PlainPolicy) (G : History) (places : List ℕ) → Keeps seen x y → IsFoundedAt seen P x G places → y.store.mark ≡ None
        → IsFoundedAt seen P y G places
    founded_later x y P G places keeps f none = record {
      founded = keeps.stays.founded P G f.founded none;
      told = keeps.stays.tells f.told;
      points = if_some (seen y.store.disk).contents (seen y.store.disk).images (λ file. point_places file ≡ places ++ y.made)
          (λ file image. exactly (standing G places y) file none ((keeps.points P G places f).now file image).1) (read y.store.disk);
    }

    -- all that it stands for is left
    pub based_later : (x y : Answering D) (P : PlainPolicy) (G : History) (places : List ℕ) → Keeps seen x y → IsFoundedAt seen P x G places → IsBased seen P y G places
    based_later x y P G places keeps f = record {
      founded = λ none. founded_later x y P G places keeps f none;
      told = keeps.stays.tells f.told;
      each = λ c image.
          let points = (keeps.points P G places f).now c image in
          record { found = keeps.stays.left_now P G f.founded (keeps.stays.tells f.told) c image; recorded = points.0; points = points.1 };
    }

    -- what a store had answered each image holds, at its moment and from then on
    kept_since : (x y : Answering D) (c : List ℕ) → Keeps seen x y → (seen y.store.disk).images_since (seen x.store.disk).moment c → HoldsAll seen x c
    kept_since x y c keeps since = λ P G places based. ⊎_elim
        (λ (unmarked : x.store.mark ≡ None).
        let at = based.founded unmarked in
        let points : HasPointsPast x.store.policy (places ++ x.made) c = (keeps.points P G places at).since.each c since in
        ⊎_elim
        (λ (image : (seen x.store.disk).images c). past_of x.store.policy (standing G places x) c (based.each c image))
        (λ (f : IsFoundBetween (whole G x.store) (whole G y.store) c).
        let past : IsFoundPast x.store.policy (standing G places x) c = record {
          history = f.history;
          found = subst (λ (text : Bytes). IsFoundAs text c f.history) keeps.stays.policy f.found;
          begun = f.begun;
          points = points;
        } in past)
        ((keeps.stays.left P G at.founded based.told).each c since))
        (λ (marked : (es : History) × (x.store.mark ≡ Some es)).
        let same : y ≡ x = keeps.still marked.0 marked.1 in
        let image : (seen x.store.disk).images c =
        only x.store.disk c (subst (λ (a : Answering D). (seen a.store.disk).images_since (seen x.store.disk).moment c) same since) in
        past_of x.store.policy (standing G places x) c (based.each c image))
        (none_or_some x.store.mark)

    module _ (counts : (d : D) (t : ℕ) (c : List ℕ) → t ≤ (seen d).moment → (seen d).images c → (seen d).images_since t c) where
      pub keeps_again : (x y z : Answering D) → Keeps seen x y → Keeps seen y z → Keeps seen x z
      keeps_again x y z p q = record {
        stays = stays_again seen counts x.store y.store z.store p.stays q.stays;
        later = omega (arith, p.later, q.later);
        still = λ es is.
            let here : y ≡ x = p.still es is in
            q.still es (ap (λ (a : Answering D). a.store.mark) here ∙ is) ∙ here;
        kind = kind_again (seen x.store.disk).contents (seen y.store.disk).contents (seen z.store.disk).contents p.stays.tells p.kind q.kind;
        made = begins_trans x.made y.made z.made p.made q.made;
        points = λ P G places f. ⊎_elim
            (λ (unmarked : y.store.mark ≡ None). both P G places f unmarked)
            (λ (marked : (es : History) × (y.store.mark ≡ Some es)).
            subst (λ (a : Answering D). KeepsPoints seen x a G places) (sym (q.still marked.0 marked.1)) (p.points P G places f))
            (none_or_some y.store.mark);
      }
        where
          fewer : (places : List ℕ) (c : Bytes) → HasPointsPast y.store.policy (places ++ y.made) c → HasPointsPast x.store.policy (places ++ x.made) c
          fewer places c h = record {
            recorded = subst (λ (text : Bytes). HasFirst text c) p.stays.policy h.recorded;
            kept = begins_trans (places ++ x.made) (places ++ y.made) (point_places c) (begins_added places x.made y.made p.made) h.kept;
          }

          both : (P : PlainPolicy) (G : History) (places : List ℕ) → IsFoundedAt seen P x G places → y.store.mark ≡ None → KeepsPoints seen x z G places
          both P G places f none =
              let next = q.points P G places (founded_later x y P G places p f none) in
              record {
                since = joined (seen x.store.disk) (seen y.store.disk) (seen z.store.disk) (HasPointsPast x.store.policy (places ++ x.made))
                    ((p.points P G places f).since)
                    (weaker (seen y.store.disk) (seen z.store.disk) (HasPointsPast y.store.policy (places ++ y.made)) (HasPointsPast x.store.policy (places ++ x.made))
                    (fewer places) next.since);
                now = next.now;
              }

    module _ (earlier : (d : D) (t u : ℕ) (c : List ℕ) → t ≤ u → u ≤ (seen d).moment → (seen d).images_since u c → (seen d).images_since t c) where
      pub keeps_kept : (x y : Answering D) (t : ℕ) (c : List ℕ) → Keeps seen x y → moment_of (seen x.store.disk) ≤ t → t ≤ moment_of (seen y.store.disk)
          → (seen y.store.disk).images_since t c → HoldsAll seen x c
      keeps_kept x y t c p le lt since = λ P G places based.
          let told = based.told in
          kept_since x y c p
          (earlier y.store.disk (seen x.store.disk).moment t c (from (seen x.store.disk).contents told le) (within (seen y.store.disk).contents (p.stays.tells told) lt) since)
          P G places based
        where
          from : (o : Option Bytes) → IsSome o → moment_by o (seen x.store.disk).moment ≤ t → (seen x.store.disk).moment ≤ t
          from None some h = absurd (let no : false ≡ true = some in cc no)
          from (Some file) some h = h

          within : (o : Option Bytes) → IsSome o → t ≤ moment_by o (seen y.store.disk).moment → t ≤ (seen y.store.disk).moment
          within None some h = absurd (let no : false ≡ true = some in cc no)
          within (Some file) some h = h
