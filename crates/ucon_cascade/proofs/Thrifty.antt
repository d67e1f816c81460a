-- Who reads what the updates of one who was revoked wrote.
use Rattle.std.proofs.Common.{◌≡◌, ◌≢◌, ◌∙◌, ◌+◌, ◌<◌, inl, inr, ℕ, zero, suc, Bool, true, false, List, [], ◌∷◌, length, get_or, map, refl, sym, ap, subst, arith}
use Rattle.std.specs.Prelude.{◌^◌, nat_eq, nat_lt, filter, position, Option, Some, None, option_map, cond}
use Rattle.std.specs.List.{Contains, list_any}
use Rattle.std.specs.Option.{option_map_or, option_to_list}
use Rattle.std.specs.Str.{bytes_eq}
use Rattle.std.proofs.lemmas.List.Elements.{Contains-append_cases}
use Rattle.std.proofs.lemmas.List.Quantifiers.{position-Some}
use Rattle.std.proofs.lemmas.Slice.Eq.{bytes_eq-Decides}
use Rattle.ucon_base.specs.declared.value.Side.{Side}
use Rattle.ucon_base.specs.declared.value.Side.TheVariants as sides
use Rattle.ucon_model.specs.declared.formula.Ref.{Ref}
use Rattle.ucon_model.specs.declared.policy.EnvDecl.{EnvDecl}
use Rattle.ucon_model.specs.declared.policy.When.{When}
use Rattle.ucon_model.specs.declared.policy.When.TheVariants.{AfterRevoke}
use Rattle.ucon_model.specs.declared.session.SessionRow.{SessionRow}
use Rattle.ucon_model.specs.declared.session.SessionState.TheVariants.{Revoked}
use Rattle.ucon_model.specs.Plain.{Bytes, PlainPolicy, PlainUpdate}
use Rattle.ucon_model.specs.Action.{Trace, extended, revoke}
use Rattle.ucon_model.specs.Reach.{Location, attribute_of, variable_of, location_of, places_of, reads_at, readers, same_location, session_targets, target, targets}
use Rattle.ucon_model.specs.Readings.{changed_if, env_position, in_force, is_accessing, same_side, session}
use Rattle.ucon_model.specs.Settle.{revocation}
use Rattle.ucon_model.specs.Updates.{entity_of, same_when, session_writes, updates_of}
use Rattle.ucon_model.specs.Usages.{going_on}
use Rattle.ucon_state.specs.Following.{Follows}
use Rattle.ucon_state.specs.Shown.{Shown}
use Rattle.ucon_state.specs.Tables.{cell_of, session_in}
use Rattle.ucon_cascade.specs.Numbering.{IsExact, numbers_of, place_number, told}
use Rattle.ucon_cascade.specs.Grouping.{AreGrouped}
use Rattle.ucon_cascade.specs.Putting.{StandsAt, StandsAtOne, targets_in}
use Rattle.ucon_cascade.proofs.Covering.{or_left, or_right, stands_at_one, targets_are}
use Rattle.ucon_cascade.proofs.Firsts.{LikeReadAlike, accessing_after, goes_after, going_row, reads_as_first}
use Rattle.ucon_cascade.proofs.Following.{IsOver, OthersStay}

-- ---- a number is of one location

variable_at : (ds : List EnvDecl) (name other : Bytes) (i : ℕ) → position (λ d. bytes_eq name d.name) ds ≡ Some i → position (λ d. bytes_eq other d.name) ds ≡ Some i
    → name ≡ other
variable_at [] name other i is is' = absurd (let no : None ≡ Some i = is in cc)
variable_at (d ∷ rest) name other i is is' =
    let one = position-Some (λ (d : EnvDecl). bytes_eq name d.name) (d ∷ rest) i d is in
    let two = position-Some (λ (d : EnvDecl). bytes_eq other d.name) (d ∷ rest) i d is' in
    (bytes_eq-Decides name (get_or (d ∷ rest) i d).name).0 one.1 ∙ sym ((bytes_eq-Decides other (get_or (d ∷ rest) i d).name).0 two.1)

variable_below : (ds : List EnvDecl) (name : Bytes) (i : ℕ) → position (λ d. bytes_eq name d.name) ds ≡ Some i → i < length ds
variable_below [] name i is = absurd (let no : None ≡ Some i = is in cc)
variable_below (d ∷ rest) name i is = (position-Some (λ (d : EnvDecl). bytes_eq name d.name) (d ∷ rest) i d is).0

told_is : (o : Option ℕ) (k : ℕ) → told o ≡ Some k → o ≡ Some k
told_is None k is = is
told_is (Some n) k is = by (nat_lt n (2 ^ 32)) is
  where
    by : (b : Bool) → cond b (Some n) None ≡ Some k → Some n ≡ Some k
    by true is = is
    by false is = absurd (let no : None ≡ Some k = is in cc)

cell_at_place : (o : Option ℕ) (first place : ℕ) → option_map (λ cell. first + cell) o ≡ Some place → (cell : ℕ) × (o ≡ Some cell) × (first + cell ≡ place)
cell_at_place None first place is = absurd (let no : None ≡ Some place = is in cc)
cell_at_place (Some cell) first place is = (cell, refl, let same : first + cell ≡ place = cc in same)

-- a cell is of one attribute
abbrev pub CellsAreOfOne : Type 0
CellsAreOfOne = (s : Shown) (P : PlainPolicy) (T : Trace) → Follows s P T → (side side' : Side) (name name' attr attr' : Bytes) (cell : ℕ)
    → cell_of s.policy s.tables side name attr ≡ Some cell → cell_of s.policy s.tables side' name' attr' ≡ Some cell
    → (side ≡ side') × (name ≡ name') × (attr ≡ attr')

not_both : (s : Shown) (name : Bytes) (side : Side) (entity attr : Bytes) (place : ℕ) → place_number s (variable_of name) ≡ Some place
    → place_number s (attribute_of side entity attr) ≡ Some place → ⊥
not_both s name side entity attr place is is' =
    let below = variable_below s.policy.envs name place (told_is (env_position s.policy name) place is) in
    let at = cell_at_place (cell_of s.policy s.tables side entity attr) (length s.policy.envs) place (told_is (option_map (λ cell. length s.policy.envs + cell) (cell_of s.policy s.tables side entity attr)) place is') in
    let sum = at.2 in
    omega (arith, below, sum)

one_location : CellsAreOfOne → (s : Shown) (P : PlainPolicy) (T : Trace) → Follows s P T → (k l : Location) (place : ℕ) → place_number s k ≡ Some place → place_number s l ≡ Some place
    → k ≡ l
one_location whose s P T h (variable_of name) (variable_of other) place is is' =
    ap variable_of (variable_at s.policy.envs name other place (told_is (env_position s.policy name) place is) (told_is (env_position s.policy other) place is'))
one_location whose s P T h (variable_of name) (attribute_of side entity attr) place is is' = absurd (not_both s name side entity attr place is is')
one_location whose s P T h (attribute_of side entity attr) (variable_of name) place is is' = absurd (not_both s name side entity attr place is' is)
one_location whose s P T h (attribute_of side entity attr) (attribute_of side' entity' attr') place is is' =
    let first = length s.policy.envs in
    let one = cell_at_place (cell_of s.policy s.tables side entity attr) first place (told_is (option_map (λ cell. first + cell) (cell_of s.policy s.tables side entity attr)) place is) in
    let two = cell_at_place (cell_of s.policy s.tables side' entity' attr') first place (told_is (option_map (λ cell. first + cell) (cell_of s.policy s.tables side' entity' attr')) place is') in
    let sum = one.2 in
    let sum' = two.2 in
    let same : two.0 ≡ one.0 = omega (arith, sum, sum') in
    let all = whose s P T h side side' entity entity' attr attr' one.0 one.1 (two.1 ∙ ap Some same) in
    rw (all.0, all.1, all.2) refl

-- ---- whoever stands at a location reads it

same_side_self : (side : Side) → same_side side side ≡ true
same_side_self sides.Subject = refl
same_side_self sides.Object = refl

same_location_self : (location : Location) → same_location location location ≡ true
same_location_self (attribute_of side name attr) = rw (same_side_self side, (bytes_eq-Decides name name).1 refl, (bytes_eq-Decides attr attr).1 refl) refl
same_location_self (variable_of name) = (bytes_eq-Decides name name).1 refl

in_option : (o : Option ℕ) (k : ℕ) → Contains (option_to_list o) k → o ≡ Some k
in_option None k (i, within, is) = absurd (omega (arith, within))
in_option (Some n) k (zero, within, is) = ap Some is
in_option (Some n) k (suc i, within, is) = absurd (omega (arith, within))

reads_among : CellsAreOfOne → (s : Shown) (P : PlainPolicy) (T : Trace) → Follows s P T → (row : SessionRow) (location : Location) (k : ℕ) → place_number s location ≡ Some k
    → (places : List Ref) → Contains (numbers_of s row places) k → list_any (λ place. same_location (location_of row place) location) places ≡ true
reads_among whose s P T h row location k is [] (i, within, at) = absurd (omega (arith, within))
reads_among whose s P T h row location k is (place ∷ rest) has =
    elim (Contains-append_cases (option_to_list (place_number s (location_of row place))) (numbers_of s row rest) k has) [
      | inl here ↦
          let same : location_of row place ≡ location = one_location whose s P T h (location_of row place) location k (in_option (place_number s (location_of row place)) k here) is in
          or_left (same_location (location_of row place) location) _ (ap (λ (l : Location). same_location l location) same ∙ same_location_self location)
      | inr later ↦ or_right (same_location (location_of row place) location) _ (reads_among whose s P T h row location k is rest later)
    ]

reads_there : CellsAreOfOne → (s : Shown) (standing : ℕ → List ℕ) (P : PlainPolicy) (T : Trace) → Follows s P T → IsExact s standing → (m : ℕ) (row : SessionRow)
    → going_on (session_in s.tables m) ≡ Some row → (location : Location) → StandsAt s standing location m → reads_at s.policy row location ≡ true
reads_there whose s standing P T h exact m row is location at =
    let reads = exact.sound m at.place at.stands in
    let both : Some reads.row ≡ Some row = sym reads.is ∙ is in
    let same : reads.row ≡ row = cc in
    subst (λ (r : SessionRow). reads_at s.policy r location ≡ true) same (reads_among whose s P T h reads.row location at.place at.is (places_of s.policy reads.row) reads.reads)

pub reads_at_one : CellsAreOfOne → (s : Shown) (standing : ℕ → List ℕ) (P : PlainPolicy) (T : Trace) → Follows s P T → IsExact s standing → (m : ℕ) (row : SessionRow)
    → going_on (session_in s.tables m) ≡ Some row → (locations : List Location) → StandsAtOne s standing locations m → list_any (reads_at s.policy row) locations ≡ true
reads_at_one whose s standing P T h exact m row is [] stands = absurd stands
reads_at_one whose s standing P T h exact m row is (location ∷ rest) (inl here) =
    or_left (reads_at s.policy row location) _ (reads_there whose s standing P T h exact m row is location here)
reads_at_one whose s standing P T h exact m row is (location ∷ rest) (inr later) =
    or_right (reads_at s.policy row location) _ (reads_at_one whose s standing P T h exact m row is rest later)

-- ---- where the one who was revoked writes

entity_alike : (row other : SessionRow) → other.subject ≡ row.subject → other.object ≡ row.object → (side : Side) → entity_of side other ≡ entity_of side row
entity_alike row other su ob sides.Subject = su
entity_alike row other su ob sides.Object = ob

pub targets_alike : (row other : SessionRow) → other.subject ≡ row.subject → other.object ≡ row.object → (us : List PlainUpdate) → map (target other) us ≡ map (target row) us
targets_alike row other su ob [] = refl
targets_alike row other su ob (u ∷ us) = rw (entity_alike row other su ob u.side, targets_alike row other su ob us) refl

changed_targets : (Q : PlainPolicy) (when : When) (b : Bool) (o : Option SessionRow)
    → option_map_or (λ row. targets row when (updates_of Q row)) (changed_if b (λ row. record row { state = Revoked }) o) []
    ≡ option_map_or (λ row. targets row when (updates_of Q row)) o []
changed_targets Q when false o = refl
changed_targets Q when true None = refl
changed_targets Q when true (Some row) = targets_alike row (record row { state = Revoked }) refl refl (filter (λ u. same_when when u.when) (updates_of Q row))

-- the updates of a session leave the policy in force, and each session
abbrev pub UpdatesLeavePolicy : Type 0
UpdatesLeavePolicy = (P : PlainPolicy) (m : ℕ) (when : When) (T : Trace) → in_force P (extended T (session_writes P m when T)) ≡ in_force P T

abbrev pub UpdatesLeaveSessions : Type 0
UpdatesLeaveSessions = (P : PlainPolicy) (m : ℕ) (when : When) (T : Trace) (n : ℕ) → session (extended T (session_writes P m when T)) n ≡ session T n

targets_stay : UpdatesLeavePolicy → UpdatesLeaveSessions → (P : PlainPolicy) (U : Trace) (f : ℕ × Bytes)
    → session_targets P (extended U (revocation P U f)) f.0 AfterRevoke ≡ session_targets P U f.0 AfterRevoke
targets_stay policy sessions P U f =
    let V : Trace = revoke f.0 f.1 ∷ U in
    let W = extended V (session_writes P f.0 AfterRevoke V) in
    ap (λ (Q : PlainPolicy). option_map_or (λ row. targets row AfterRevoke (updates_of Q row)) (session W f.0) []) (policy P f.0 AfterRevoke V)
    ∙ ap (λ (o : Option SessionRow). option_map_or (λ row. targets row AfterRevoke (updates_of (in_force P U) row)) o []) (sessions P f.0 AfterRevoke V f.0)
    ∙ changed_targets (in_force P U) AfterRevoke (nat_eq f.0 f.0) (session U f.0)

-- ---- who reads where the one who was revoked writes

module _ (whose : CellsAreOfOne) (policy : UpdatesLeavePolicy) (sessions : UpdatesLeaveSessions) (over : IsOver) (stay : OthersStay) (s : Shown) (standing : ℕ → List ℕ)
    (P : PlainPolicy) (U : Trace) (f : ℕ × Bytes) (h : Follows s P (extended U (revocation P U f))) (exact : IsExact s standing) where
  abbrev W : Trace
  W = extended U (revocation P U f)

  -- where the one who was revoked writes, read off the tables
  abbrev locations : List Location
  locations = targets_in s f.0 AfterRevoke

  -- whoever goes on isn't the one who was revoked
  pub other : (m : ℕ) → is_accessing (session W m) ≡ true → m ≢ f.0
  other m on is =
      let there = going_row (session W m) on in
      let none : None ≡ Some there.0 = sym (over P U f) ∙ ap (λ (k : ℕ). going_on (session W k)) (sym is) ∙ there.2 in
      cc

  same_policy : s.policy ≡ in_force P U
  same_policy = h.policy ∙ policy P f.0 AfterRevoke (revoke f.0 f.1 ∷ U)

  same_locations : session_targets P U f.0 AfterRevoke ≡ locations
  same_locations = sym (targets_stay policy sessions P U f) ∙ targets_are s P W h h.tables.sessions.rows f.0 AfterRevoke

  in_tables : (m : ℕ) (row : SessionRow) → going_on (session W m) ≡ Some row → going_on (session_in s.tables m) ≡ Some row
  in_tables m row is = ap going_on (h.tables.sessions.rows m) ∙ is

  -- whether one that goes on reads what the updates of the one who was revoked wrote
  reads_told : (m : ℕ) (row : SessionRow) → m ≢ f.0 → session W m ≡ Some row → readers P U (session_targets P U f.0 AfterRevoke) m ≡ list_any (reads_at s.policy row) locations
  reads_told m row apart is =
      ap (λ (o : Option SessionRow). option_map_or (λ row. list_any (reads_at (in_force P U) row) (session_targets P U f.0 AfterRevoke)) o false) (sym (stay P U f m apart) ∙ is)
      ∙ ap (λ (Q : PlainPolicy). list_any (reads_at Q row) (session_targets P U f.0 AfterRevoke)) (sym same_policy)
      ∙ ap (λ (ls : List Location). list_any (reads_at s.policy row) ls) same_locations

  module _ (alike : LikeReadAlike) (new_first : ℕ → ℕ) (grouped : AreGrouped s new_first) where
    -- whose list's first stands there, reads it
    pub first_stands : (m : ℕ) → is_accessing (session W m) ≡ true → StandsAtOne s standing locations (new_first m) → readers P U (session_targets P U f.0 AfterRevoke) m ≡ true
    first_stands m on stands =
        let row = going_row (session W m) on in
        let first_row = going_row (session W (new_first m)) (accessing_after s P W h (new_first m) (grouped.on m (goes_after s P W h m on))) in
        reads_told m row.0 (other m on) row.1
        ∙ sym (reads_as_first alike s new_first grouped m row.0 first_row.0 (in_tables m row.0 row.2) (in_tables (new_first m) first_row.0 first_row.2) locations)
        ∙ reads_at_one whose s standing P W h exact (new_first m) first_row.0 (in_tables (new_first m) first_row.0 first_row.2) locations stands

    -- and the first of the list of one who reads it stands there
    pub stands_for_reader : (m : ℕ) → is_accessing (session W m) ≡ true → readers P U (session_targets P U f.0 AfterRevoke) m ≡ true → StandsAtOne s standing locations (new_first m)
    stands_for_reader m on reads =
        let row = going_row (session W m) on in
        let first_row = going_row (session W (new_first m)) (accessing_after s P W h (new_first m) (grouped.on m (goes_after s P W h m on))) in
        let first_is = in_tables (new_first m) first_row.0 first_row.2 in
        stands_at_one s standing exact (new_first m) first_row.0 first_is locations
        (reads_as_first alike s new_first grouped m row.0 first_row.0 (in_tables m row.0 row.2) first_is locations ∙ sym (reads_told m row.0 (other m on) row.1) ∙ reads)
