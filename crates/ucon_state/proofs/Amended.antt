-- The tables of a state under a policy that replaces another, and the names of its rights.
use Rattle.std.proofs.Common.{◌≡◌, ◌∙◌, ◌≤◌, ◌<◌, ◌+◌, ◌*◌, ◌^◌, ◌⊎◌, inl, inr, ℕ, zero, suc, refl, sym, ap, subst, List, [], ◌∷◌, ◌++◌, length, map, drop, position, slice_get, slice_index_or, Bool, true, false, is_some, Option, Some, None, unwrap_or, cond, arith}
use Rattle.std.specs.Str.{bytes_eq}
use Rattle.std.proofs.lemmas.List.{drop_all, length-append, length-map, length_push}
use Rattle.std.proofs.lemmas.List.Sums.{length-filter}
use Rattle.ucon_base.specs.declared.value.Side.{Side}
use Rattle.ucon_base.specs.declared.value.Side.TheVariants as sides
use Rattle.ucon_base.specs.declared.value.Value.{Value}
use Rattle.ucon_model.specs.Plain.{Bytes, PlainPolicy, PlainRight}
use Rattle.ucon_model.specs.declared.policy.Right.{Right}
use Rattle.ucon_model.specs.Limits.{HasFewAttrs}
use Rattle.ucon_model.specs.Readings.{same_side}
use Rattle.ucon_model.specs.Views.{right_of}
use Rattle.ucon_model.specs.Decision.{right_named}
use Rattle.ucon_state.specs.declared.change.Undo.{Undo}
use Rattle.ucon_state.specs.declared.session.Session.{Session}
use Rattle.ucon_state.specs.Applied.{all_kept_cells, laid_from, kept_variable, amended}
use Rattle.ucon_state.specs.Shown.{showing}
use Rattle.ucon_state.specs.Sound.{CellsAreThere, IsSound, HasRights, IsKept, AllSound}
use Rattle.ucon_state.specs.Stored.{Stored, AreDistinct, AreNumbered, name_at, right_at, row_of, named}
use Rattle.ucon_state.specs.Tables.{width}
use Rattle.ucon_state.specs.Undo.{all_undone, policy_before, policy_undone, tables_before}
use Rattle.ucon_state.proofs.Following.Amending.{names-laid, length-laid, room, room_kept}
use Rattle.ucon_state.proofs.Following.Places.{place_kept, place_new, still_there}
use Rattle.ucon_state.proofs.Following.Names.{own_name, same_name}
use Rattle.ucon_state.proofs.Laying.{drop_there}
use Rattle.ucon_state.proofs.Numbered.{map_same}
use Rattle.ucon_state.proofs.Stages.{holds_now, kept_now, same_opening, same_opening_policy, sound_with_one}

-- ---- what is laid is there

laid_at : (first w : ℕ) (es : List (Bytes × ℕ)) (e : Bytes × ℕ) (k : ℕ) → k < length (laid_from first w es) → slice_index_or (laid_from first w es) k e ≡ e
    → e.1 + w ≤ first + room w es
laid_at first w [] e k within is = absurd (omega (arith, within))
laid_at first w (d ∷ es) e zero within is = let same : first ≡ e.1 = ap (λ (p : Bytes × ℕ). p.1) is in omega (arith, same)
laid_at first w (d ∷ es) e (suc k) within is = let later = laid_at (first + w) w es e k (omega (arith, within)) is in omega (arith, later)

-- ---- a side has at most 16 attributes, so each of its entities has at most 16 cells

pub width_few : (Q : PlainPolicy) → HasFewAttrs Q → (side : Side) → width Q side ≤ 16
width_few Q few side = subst (λ n. n ≤ 16) (sym (length-filter (λ d. same_side side d.side) Q.attrs)) (few side)

room_few : (w : ℕ) (es : List (Bytes × ℕ)) → w ≤ 16 → room w es ≤ 16 * length es
room_few w [] few = omega arith
room_few w (e ∷ es) few = omega (arith, few, room_few w es few)

module _ (P Q : PlainPolicy) (t : Stored) where
  abbrev subject_cells : List Value
  subject_cells = all_kept_cells P Q t.cells sides.Subject t.subjects

  abbrev object_cells : List Value
  object_cells = all_kept_cells P Q t.cells sides.Object t.objects

  all_cells : length (amended P Q t).cells ≡ length subject_cells + length object_cells
  all_cells = length-append subject_cells object_cells

  subjects_there : CellsAreThere Q (amended P Q t) sides.Subject
  subjects_there e there =
      omega (arith, laid_at 0 (width Q sides.Subject) t.subjects e there.0 there.1 there.2, room_kept P Q (named [] t) sides.Subject t.subjects, all_cells)

  objects_there : CellsAreThere Q (amended P Q t) sides.Object
  objects_there e there =
      omega (arith, laid_at (length subject_cells) (width Q sides.Object) t.objects e there.0 there.1 there.2, room_kept P Q (named [] t) sides.Object t.objects, all_cells)

  few_cells : HasFewAttrs Q → length (amended P Q t).cells ≤ 16 * (length t.subjects + length t.objects)
  few_cells few =
      omega (
        arith,
        all_cells,
        room_kept P Q (named [] t) sides.Subject t.subjects,
        room_few (width Q sides.Subject) t.subjects (width_few Q few sides.Subject),
        room_kept P Q (named [] t) sides.Object t.objects,
        room_few (width Q sides.Object) t.objects (width_few Q few sides.Object),
      )

  pub sound_amended : IsSound P t → HasFewAttrs Q → IsSound Q (amended P Q t)
  sound_amended s few = record {
    subjects = omega (arith, s.subjects, length-laid 0 (width Q sides.Subject) t.subjects);
    objects = omega (arith, s.objects, length-laid (length subject_cells) (width Q sides.Object) t.objects);
    acts = s.acts;
    sessions = s.sessions;
    cells = omega (arith, few_cells few, length-laid 0 (width Q sides.Subject) t.subjects, length-laid (length subject_cells) (width Q sides.Object) t.objects);
    variables = length-map Q.envs (kept_variable P t);
    subject_cells = subjects_there;
    object_cells = objects_there;
  }

-- ---- names and numbers

abbrev StandsFirst : List Bytes → Bytes → ℕ → Type 0
StandsFirst names e i = slice_get names i ≡ Some e → position (bytes_eq e) names ≡ Some i

distinct_laid : (first w : ℕ) (es : List (Bytes × ℕ)) → AreDistinct es → AreDistinct (laid_from first w es)
distinct_laid first w es differ e i = subst (λ (names : List Bytes). StandsFirst names e i) (sym (names-laid first w es)) (differ e i)

name_laid : (first w : ℕ) (es : List (Bytes × ℕ)) (n : ℕ) → name_at (laid_from first w es) n ≡ name_at es n
name_laid first w [] n = refl
name_laid first w (e ∷ es) zero = refl
name_laid first w (e ∷ es) (suc n) = name_laid (first + w) w es n

module _ (P Q : PlainPolicy) (R : List Bytes) (t : Stored) where
  abbrev laid_subjects : List (Bytes × ℕ)
  laid_subjects = laid_from 0 (width Q sides.Subject) t.subjects

  abbrev laid_objects : List (Bytes × ℕ)
  laid_objects = laid_from (length (all_kept_cells P Q t.cells sides.Subject t.subjects)) (width Q sides.Object) t.objects

  pub numbered_amended : AreNumbered R t.subjects t.objects t.sessions → AreNumbered R laid_subjects laid_objects t.sessions
  numbered_amended h = record {
    numbers = λ i s at.
        let b = h.numbers i s at in
        record {
          right = b.right;
          subject = omega (arith, b.subject, length-laid 0 (width Q sides.Subject) t.subjects);
          object = omega (arith, b.object, length-laid (length (all_kept_cells P Q t.cells sides.Subject t.subjects)) (width Q sides.Object) t.objects);
        };
    subjects_differ = distinct_laid 0 (width Q sides.Subject) t.subjects h.subjects_differ;
    objects_differ = distinct_laid (length (all_kept_cells P Q t.cells sides.Subject t.subjects)) (width Q sides.Object) t.objects h.objects_differ;
  }

  same_row : (s : Session) → row_of R laid_subjects laid_objects s ≡ row_of R t.subjects t.objects s
  same_row s = λ j. record {
    caller = s.caller;
    right = right_at R s.right;
    subject = name_laid 0 (width Q sides.Subject) t.subjects s.subject j;
    object = name_laid (length (all_kept_cells P Q t.cells sides.Subject t.subjects)) (width Q sides.Object) t.objects s.object j;
    state = s.state;
    start = s.start;
  }

  pub named-amended : named R (amended P Q t) ≡ amended P Q (named R t)
  named-amended =
      let same = map_same (row_of R laid_subjects laid_objects) (row_of R t.subjects t.objects) t.sessions (λ i s at. same_row s) in
      λ j. record (amended P Q (named R t)) { sessions = same j }

-- ---- an amendment that was noted

module _ (P Q : PlainPolicy) (R : List Bytes) (old new : List Undo) (u : Undo) (before after : Stored) where
  pub amended_sound : new ≡ old ++ u ∷ [] → policy_before u Q ≡ P → tables_before u after ≡ before → after ≡ amended P Q before → HasFewAttrs Q
      → AllSound P R old before → HasRights Q R → AllSound Q R new after
  amended_sound added policy back is few all rights =
      let kept = kept_now P R old before all in
      let now : IsKept Q R (amended P Q before) =
      (sound_amended P Q before kept.0 few, numbered_amended P Q R before kept.1) in
      subst (λ cs. AllSound Q R cs after) (sym added)
      (sound_with_one R P Q old u before after policy back all (subst (IsKept Q R) (sym is) now, rights))

  pub amended_shown : new ≡ old ++ u ∷ [] → policy_before u Q ≡ P → tables_before u after ≡ before → after ≡ amended P Q before
      → showing Q R after new ≡ record (showing P R before old) { policy = Q; tables = amended P Q (named R before) }
  amended_shown added policy back is =
      let tables = ap (named R) is ∙ named-amended P Q R before in
      let opening = ap (λ cs. named R (all_undone cs after)) added ∙ ap (named R) (same_opening old u before after back) in
      let opening_policy = ap (λ cs. policy_undone cs Q) added ∙ same_opening_policy old u P Q policy in
      λ j. record { policy = Q; tables = tables j; opening_policy = opening_policy j; opening = opening j }

-- ---- one more name of a right

module _ (R : List Bytes) (name : Bytes) where
  abbrev more : List Bytes
  more = R ++ name ∷ []

  numbered_more : (subjects objects : List (Bytes × ℕ)) (sessions : List Session) → AreNumbered R subjects objects sessions → AreNumbered more subjects objects sessions
  numbered_more subjects objects sessions h = record {
    numbers = λ i s at. let b = h.numbers i s at in record { right = omega (arith, b.right, length_push R name); subject = b.subject; object = b.object };
    subjects_differ = h.subjects_differ;
    objects_differ = h.objects_differ;
  }

  still_placed : (o : Option ℕ) (e : Bytes) → position (bytes_eq e) R ≡ o → is_some o ≡ true → is_some (position (bytes_eq e) more) ≡ true
  still_placed None e at some = absurd cc
  still_placed (Some i) e at some = ap is_some (place_kept (bytes_eq e) R name i at)

  pub placed_still : (e : Bytes) → is_some (position (bytes_eq e) R) ≡ true → is_some (position (bytes_eq e) more) ≡ true
  placed_still e = still_placed (position (bytes_eq e) R) e refl

  pub placed_last : is_some (position (bytes_eq name) more) ≡ true
  placed_last = by_place (position (bytes_eq name) R) refl
    where
      by_place : (o : Option ℕ) → position (bytes_eq name) R ≡ o → is_some (position (bytes_eq name) more) ≡ true
      by_place None at = ap is_some (place_new (bytes_eq name) R name at ∙ ap (λ b. cond b (Some (length R)) None) (own_name name))
      by_place (Some i) at = ap is_some (place_kept (bytes_eq name) R name i at)

  rights_more : (P : PlainPolicy) → length more < 2 ^ 32 → HasRights P R → HasRights P more
  rights_more P few h = record { few = few; all = λ e has. placed_still e (h.all e has) }

  pub all_sound_more : (P : PlainPolicy) (changes : List Undo) (t : Stored) → length more < 2 ^ 32 → AllSound P R changes t → AllSound P more changes t
  all_sound_more P changes t few all k =
      let h = all k in
      ((h.0.0, numbered_more _ _ _ h.0.1), rights_more _ few h.1)

  pub has_rights_more : (P : PlainPolicy) → length more < 2 ^ 32 → HasRights P R → HasRights P more
  has_rights_more = rights_more

  same_right : (n : ℕ) → n < length R → right_at more n ≡ right_at R n
  same_right n lt = ap (λ (o : Option Bytes). unwrap_or o []) (still_there R (name ∷ []) n lt)

  pub named_more : (t : Stored) → AreNumbered R t.subjects t.objects t.sessions → named more t ≡ named R t
  named_more t h =
      let same = map_same (row_of more t.subjects t.objects) (row_of R t.subjects t.objects) t.sessions
      (λ i s at. ap (λ (x : Bytes). record { caller = s.caller; right = x; subject = name_at t.subjects s.subject; object = name_at t.objects s.object; state = s.state; start = s.start })
      (same_right s.right (h.numbers i s at).right)) in
      λ j. record (named R t) { sessions = same j }

  opening_numbered : (P : PlainPolicy) (changes : List Undo) (t : Stored) → AllSound P R changes t
      → let u = all_undone changes t in AreNumbered R u.subjects u.objects u.sessions
  opening_numbered P [] t all = (all zero).0.1
  opening_numbered P (c ∷ changes) t all = (all zero).0.1

  -- what is shown is the same
  pub shown_more : (P : PlainPolicy) (changes : List Undo) (t : Stored) → AllSound P R changes t → showing P more t changes ≡ showing P R t changes
  shown_more P changes t all =
      let now = named_more t ((holds_now P R changes t all).0.1) in
      let before = named_more (all_undone changes t) (opening_numbered P changes t all) in
      λ j. record { policy = P; tables = now j; opening_policy = policy_undone changes P; opening = before j }

-- ---- the rights of a policy, one after the other

-- a right of this name is among these rights
abbrev pub HasRight : List Right → Bytes → Type 0
HasRight items name = is_some (right_named (map right_of items) name) ≡ true

-- a name is among these
abbrev pub HasName : List Bytes → Bytes → Type 0
HasName R name = is_some (position (bytes_eq name) R) ≡ true

-- each right's name is among these names, or the right is behind the first so many
abbrev pub AreNamed : List Bytes → List Right → ℕ → Type 0
AreNamed R items i = (name : Bytes) → HasRight items name → HasName R name ⊎ HasRight (drop i items) name

first_or_later : (b : Bool) (r : PlainRight) (later : Option PlainRight) → is_some (cond b (Some r) later) ≡ true → (b ≡ true) ⊎ (is_some later ≡ true)
first_or_later true r later some = inl refl
first_or_later false r later some = inr some

one_fewer : (items : List Right) (i : ℕ) (r : Right) (name : Bytes) → slice_get items i ≡ Some r → HasRight (drop i items) name
    → (bytes_eq name r.name ≡ true) ⊎ HasRight (drop (i + 1) items) name
one_fewer items i r name at some =
    first_or_later (bytes_eq name r.name) (right_of r) (right_named (map right_of (drop (i + 1) items)) name)
    (subst (λ (rs : List Right). HasRight rs name) (drop_there items i r at) some)

module _ (R S : List Bytes) (items : List Right) (i : ℕ) (r : Right) where
  its_name : (name : Bytes) → HasName S r.name → (bytes_eq name r.name ≡ true) ⊎ HasRight (drop (i + 1) items) name → HasName S name ⊎ HasRight (drop (i + 1) items) name
  its_name name there (inl same) = inl (subst (HasName S) (sym (same_name name r.name same)) there)
  its_name name there (inr later) = inr later

  placed_or_later : (name : Bytes) → slice_get items i ≡ Some r → HasName S r.name → (HasName R name → HasName S name) → HasName R name ⊎ HasRight (drop i items) name
      → HasName S name ⊎ HasRight (drop (i + 1) items) name
  placed_or_later name at there stay (inl placed) = inl (stay placed)
  placed_or_later name at there stay (inr left) = its_name name there (one_fewer items i r name at left)

  -- one right more is named
  pub one_more_named : slice_get items i ≡ Some r → HasName S r.name → ((name : Bytes) → HasName R name → HasName S name) → AreNamed R items i → AreNamed S items (i + 1)
  one_more_named at there stay all name has = placed_or_later name at there (stay name) (all name has)

pub all_named : (R : List Bytes) (items : List Right) (i : ℕ) → length items ≤ i → AreNamed R items i → (name : Bytes) → HasRight items name → HasName R name
all_named R items i past all name has = by (drop i items) (drop_all i items past) (all name has)
  where
    by : (rest : List Right) → rest ≡ [] → HasName R name ⊎ HasRight rest name → HasName R name
    by rest none (inl there) = there
    by rest none (inr left) = let never : HasRight [] name = subst (λ (rs : List Right). HasRight rs name) none left in absurd cc
