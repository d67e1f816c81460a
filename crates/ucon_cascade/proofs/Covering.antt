-- The members of the work cover by the firsts of lists.
use Rattle.std.proofs.Common.{◌≡◌, ◌≢◌, ◌⊎◌, ◌∙◌, ◌<◌, inl, inr, ℕ, zero, suc, Bool, true, false, List, [], ◌∷◌, ◌++◌, refl, sym, ap, subst, arith}
use Rattle.std.specs.Prelude.{◌&&◌, ◌||◌, nat_eq, not, Option, Some, None, IsSome, is_some}
use Rattle.std.specs.List.{Contains, flat_map, list_any}
use Rattle.std.specs.Option.{option_map_or, option_to_list}
use Rattle.std.specs.Str.{bytes_eq}
use Rattle.std.proofs.lemmas.Bool.Decides.{eqb_tells}
use Rattle.std.proofs.lemmas.List.Elements.{Contains-append_left, Contains-append_right}
use Rattle.std.proofs.lemmas.Slice.Eq.{bytes_eq-Decides}
use Rattle.ucon_base.specs.Elements.{Each}
use Rattle.ucon_base.specs.declared.value.Side.{Side}
use Rattle.ucon_base.specs.declared.value.Side.TheVariants as sides
use Rattle.ucon_model.specs.declared.command.Command.{Command}
use Rattle.ucon_model.specs.declared.command.Command.TheVariants.{Subject, Object, Set, Env, Tick, Act, Try, Again, Beat, End, Look, Value as Value', Amend}
use Rattle.ucon_model.specs.declared.formula.Ref.{Ref}
use Rattle.ucon_model.specs.declared.policy.When.{When}
use Rattle.ucon_model.specs.declared.policy.When.TheVariants.{Before, During, AfterEnd}
use Rattle.ucon_model.specs.declared.reply.Head.{Head}
use Rattle.ucon_model.specs.declared.reply.Head.TheVariants as heads
use Rattle.ucon_model.specs.declared.session.SessionRow.{SessionRow}
use Rattle.ucon_model.specs.Plain.{Bytes, PlainPolicy}
use Rattle.ucon_model.specs.Action.{Trace}
use Rattle.ucon_model.specs.Readings.{in_force, is_accessing, same_side, session}
use Rattle.ucon_model.specs.Reach.{Location, attribute_of, variable_of, location_of, places_of, reads_at, readers, same_location, session_targets, targets}
use Rattle.ucon_model.specs.Settle.{fails_at, least_failing}
use Rattle.ucon_model.specs.Sound.{IsNumbered}
use Rattle.ucon_model.specs.Updates.{updates_of}
use Rattle.ucon_model.specs.Usages.{going_on}
use Rattle.ucon_model.specs.Afterwards.{command_locations, concerned_by, permit_locations, permitted_by, work_afterwards}
use Rattle.ucon_model.specs.Groups.{FirstsCover, IsLed}
use Rattle.ucon_model.specs.Work.{IsLeastOf, Work, without}
use Rattle.ucon_state.specs.Following.{Follows}
use Rattle.ucon_state.specs.Shown.{Shown}
use Rattle.ucon_state.specs.Tables.{session_in}
use Rattle.ucon_actions.specs.Leads.{AfterEach}
use Rattle.ucon_cascade.specs.Cascading.{IsWork, work_of}
use Rattle.ucon_cascade.specs.Numbering.{IsExact, place_number}
use Rattle.ucon_cascade.specs.Passing.{is_tick}
use Rattle.ucon_cascade.proofs.Firsts.{going_row, led}
use Rattle.ucon_cascade.specs.Putting.{IsCommandWork, IsOwnWork, IsPermitWork, StandsAt, StandsAtOne, targets_in}

-- ---- truth values

pub or_left : (a b : Bool) → a ≡ true → (a || b) ≡ true
or_left true b h = refl
or_left false b h = absurd cc

pub or_right : (a b : Bool) → b ≡ true → (a || b) ≡ true
or_right true b h = refl
or_right false b h = h

or_cases : (a b : Bool) → (a || b) ≡ true → (a ≡ true) ⊎ (b ≡ true)
or_cases true b h = inl refl
or_cases false b h = inr h

and_parts : (a b : Bool) → (a && b) ≡ true → (a ≡ true) × (b ≡ true)
and_parts true b h = (refl, h)
and_parts false b h = absurd cc

never : false ≡ true → ⊥
never h = cc

-- ---- locations

same_side_is : (s t : Side) → same_side s t ≡ true → s ≡ t
same_side_is sides.Subject sides.Subject h = refl
same_side_is sides.Object sides.Object h = refl
same_side_is sides.Subject sides.Object h = absurd cc
same_side_is sides.Object sides.Subject h = absurd cc

location_is : (k l : Location) → same_location k l ≡ true → k ≡ l
location_is (attribute_of side name attr) (attribute_of s n a) h =
    let front = and_parts (same_side side s && bytes_eq name n) (bytes_eq attr a) h in
    let first = and_parts (same_side side s) (bytes_eq name n) front.0 in
    rw (same_side_is side s first.0, (bytes_eq-Decides name n).0 first.1, (bytes_eq-Decides attr a).0 front.1) refl
location_is (attribute_of side name attr) (variable_of n) h = absurd cc
location_is (variable_of name) (attribute_of s n a) h = absurd cc
location_is (variable_of name) (variable_of n) h = ap variable_of ((bytes_eq-Decides name n).0 h)

-- ---- whoever reads there stands there

in_one : (o : Option ℕ) (rest : List ℕ) → IsSome o → (k : ℕ) × (o ≡ Some k) × Contains (option_to_list o ++ rest) k
in_one None rest some = absurd cc
in_one (Some k) rest some = (k, refl, Contains-append_left (k ∷ []) rest k (0, omega arith, refl))

-- the number of a location among those of places
number_among : (s : Shown) (row : SessionRow) (location : Location) (places : List Ref) → Each (λ place. IsSome (place_number s (location_of row place))) places
    → list_any (λ place. same_location (location_of row place) location) places ≡ true
    → (k : ℕ) × (place_number s location ≡ Some k) × Contains (flat_map (λ place. option_to_list (place_number s (location_of row place))) places) k
number_among s row location [] each reads = absurd cc
number_among s row location (place ∷ rest) each reads =
    elim (or_cases (same_location (location_of row place) location) (list_any (λ place. same_location (location_of row place) location) rest) reads) [
      | inl here ↦
          let found = in_one (place_number s (location_of row place)) (flat_map (λ place. option_to_list (place_number s (location_of row place))) rest) each.0 in
          (found.0, ap (place_number s) (sym (location_is (location_of row place) location here)) ∙ found.1, found.2)
      | inr later ↦
          let found = number_among s row location rest each.1 later in
          (found.0, found.1, Contains-append_right (option_to_list (place_number s (location_of row place))) _ found.0 found.2)
    ]

stands_at : (s : Shown) (standing : ℕ → List ℕ) → IsExact s standing → (n : ℕ) (row : SessionRow) → going_on (session_in s.tables n) ≡ Some row → (location : Location)
    → reads_at s.policy row location ≡ true → StandsAt s standing location n
stands_at s standing exact n row is location reads =
    let found = number_among s row location (places_of s.policy row) (exact.numbered n row is) reads in
    record {
      place = found.0;
      is = found.1;
      stands = exact.complete n found.0 (record { row = row; is = is; reads = found.2 });
    }

pub stands_at_one : (s : Shown) (standing : ℕ → List ℕ) → IsExact s standing → (n : ℕ) (row : SessionRow) → going_on (session_in s.tables n) ≡ Some row → (locations : List Location)
    → list_any (reads_at s.policy row) locations ≡ true → StandsAtOne s standing locations n
stands_at_one s standing exact n row is [] reads = absurd cc
stands_at_one s standing exact n row is (location ∷ rest) reads = elim (or_cases (reads_at s.policy row location) (list_any (reads_at s.policy row) rest) reads) [
  | inl here ↦ inl (stands_at s standing exact n row is location here)
  | inr later ↦ inr (stands_at_one s standing exact n row is rest later)
]

-- ---- the tables and the trace

-- the tables tell each session of the trace
abbrev pub SessionsAre : Shown → Trace → Type 0
SessionsAre s T = (n : ℕ) → session_in s.tables n ≡ session T n

-- a reader of locations stands at one
reader_stands : (s : Shown) (standing : ℕ → List ℕ) (P : PlainPolicy) (T : Trace) → Follows s P T → IsExact s standing → (n : ℕ) (row : SessionRow) → session T n ≡ Some row
    → going_on (session_in s.tables n) ≡ Some row → (locations : List Location) → readers P T locations n ≡ true → StandsAtOne s standing locations n
reader_stands s standing P T h exact n row there is locations reads =
    let told : list_any (reads_at (in_force P T) row) locations ≡ true = rw there at reads in
    stands_at_one s standing exact n row is locations (subst (λ (Q : PlainPolicy). list_any (reads_at Q row) locations ≡ true) (sym h.policy) told)

pub targets_are : (s : Shown) (P : PlainPolicy) (T : Trace) → Follows s P T → SessionsAre s T → (n : ℕ) (when : When) → session_targets P T n when ≡ targets_in s n when
targets_are s P T h same n when =
    ap (λ (Q : PlainPolicy). option_map_or (λ row. targets row when (updates_of Q row)) (session T n) []) (sym h.policy)
    ∙ ap (λ (o : Option SessionRow). option_map_or (λ row. targets row when (updates_of s.policy row)) o []) (sym (same n))

-- ---- after own actions

permit_stands : (s : Shown) (standing : ℕ → List ℕ) (P : PlainPolicy) (T : Trace) → Follows s P T → SessionsAre s T → IsExact s standing → (n : ℕ) (row : SessionRow) → session T n ≡ Some row
    → going_on (session_in s.tables n) ≡ Some row → (head : Head) → readers P T (permit_locations P T head) n ≡ true → IsPermitWork s standing head n
permit_stands s standing P T h same exact n row there is heads.Ok reads = absurd (never (rw there at reads))
permit_stands s standing P T h same exact n row there is (heads.Permitted k) reads =
    inr (subst (λ (locations : List Location). StandsAtOne s standing locations n) (targets_are s P T h same k Before)
    (reader_stands s standing P T h exact n row there is (session_targets P T k Before) reads))
permit_stands s standing P T h same exact n row there is (heads.Denied k label) reads = absurd (never (rw there at reads))
permit_stands s standing P T h same exact n row there is (heads.Waiting k label) reads = absurd (never (rw there at reads))
permit_stands s standing P T h same exact n row there is (heads.Ended k) reads = absurd (never (rw there at reads))

permitted_is : (s : Shown) (standing : ℕ → List ℕ) (n : ℕ) (head : Head) → permitted_by head n ≡ true → IsPermitWork s standing head n
permitted_is s standing n heads.Ok is = absurd (never is)
permitted_is s standing n (heads.Permitted k) is = elim (eqb_tells n k) [ inl here ↦ inl here.1 | inr other ↦ absurd (never (sym other.0 ∙ is)) ]
permitted_is s standing n (heads.Denied k label) is = absurd (never is)
permitted_is s standing n (heads.Waiting k label) is = absurd (never is)
permitted_is s standing n (heads.Ended k) is = absurd (never is)

first_of : (s : Shown) (standing : ℕ → List ℕ) (location : Location) (n : ℕ) → StandsAtOne s standing (location ∷ []) n → StandsAt s standing location n
first_of s standing location n (inl here) = here
first_of s standing location n (inr none) = absurd none

command_stands : (s : Shown) (standing : ℕ → List ℕ) (P : PlainPolicy) (T : Trace) → Follows s P T → SessionsAre s T → IsExact s standing → (n : ℕ) (row : SessionRow) → session T n ≡ Some row
    → going_on (session_in s.tables n) ≡ Some row → (c : Command) → is_tick c ≡ false → (readers P T (command_locations P T c) n || concerned_by P T c n) ≡ true
    → IsCommandWork s standing c n
command_stands s standing P T h same exact n row there is c no_tick reads = by c no_tick (or_cases (readers P T (command_locations P T c) n) (concerned_by P T c n) reads)
  where
    nowhere : readers P T [] n ≡ true → ⊥
    nowhere reads = never (rw there at reads)

    by_targets : (k : ℕ) (when : When) → readers P T (session_targets P T k when) n ≡ true → StandsAtOne s standing (targets_in s k when) n
    by_targets k when reads =
        subst (λ (locations : List Location). StandsAtOne s standing locations n) (targets_are s P T h same k when)
        (reader_stands s standing P T h exact n row there is (session_targets P T k when) reads)

    by_one : (location : Location) → readers P T (location ∷ []) n ≡ true → StandsAt s standing location n
    by_one location reads = first_of s standing location n (reader_stands s standing P T h exact n row there is (location ∷ []) reads)

    by : (c : Command) → is_tick c ≡ false → (readers P T (command_locations P T c) n ≡ true) ⊎ (concerned_by P T c n ≡ true) → IsCommandWork s standing c n
    by (Subject name) no_tick (inl reads) = absurd (nowhere reads)
    by (Object name) no_tick (inl reads) = absurd (nowhere reads)
    by (Set side name attr v) no_tick (inl reads) = by_one (attribute_of side name attr) reads
    by (Env name v) no_tick (inl reads) = by_one (variable_of name) reads
    by (Tick t) no_tick (inl reads) = absurd (never (sym no_tick))
    by (Act u a o) no_tick (inl reads) = absurd (nowhere reads)
    by (Try u r o) no_tick (inl reads) = absurd (nowhere reads)
    by (Again k) no_tick (inl reads) = absurd (nowhere reads)
    by (Beat k) no_tick (inl reads) = by_targets k During reads
    by (End k) no_tick (inl reads) = by_targets k AfterEnd reads
    by (Look k) no_tick (inl reads) = absurd (nowhere reads)
    by (Value' side name attr) no_tick (inl reads) = absurd (nowhere reads)
    by (Amend a) no_tick (inl reads) = absurd (nowhere reads)
    by (Subject name) no_tick (inr timed) = absurd (never timed)
    by (Object name) no_tick (inr timed) = absurd (never timed)
    by (Set side name attr v) no_tick (inr timed) = absurd (never timed)
    by (Env name v) no_tick (inr timed) = absurd (never timed)
    by (Tick t) no_tick (inr timed) = absurd (never (sym no_tick))
    by (Act u a o) no_tick (inr timed) = absurd (never timed)
    by (Try u r o) no_tick (inr timed) = absurd (never timed)
    by (Again k) no_tick (inr timed) = absurd (never timed)
    by (Beat k) no_tick (inr timed) = absurd (never timed)
    by (End k) no_tick (inr timed) = absurd (never timed)
    by (Look k) no_tick (inr timed) = absurd (never timed)
    by (Value' side name attr) no_tick (inr timed) = absurd (never timed)
    by (Amend a) no_tick (inr everybody) = ap is_some is

pub member : (n : ℕ) (members : List ℕ) → Contains members n → work_of members n ≡ true
member n [] (i, within, is) = absurd (omega (arith, within))
member n (x ∷ xs) (zero, within, is) = elim (eqb_tells n x) [ inl here ↦ or_left (nat_eq n x) _ here.0 | inr other ↦ absurd (other.1 (sym is)) ]
member n (x ∷ xs) (suc i, within, is) = or_right (nat_eq n x) _ (member n xs (i, omega (arith, within), is))

pub is_member : (n : ℕ) (members : List ℕ) → work_of members n ≡ true → Contains members n
is_member n [] h = absurd cc
is_member n (x ∷ xs) h = elim (eqb_tells n x) [
  | inl here ↦ (0, omega arith, sym here.1)
  | inr other ↦
      let rest : work_of xs n ≡ true = rw other.0 at h in
      let found = is_member n xs rest in
      (suc found.0, omega (arith, found.1), found.2)
]

-- whoever is concerned by own actions that don't move the tick, and accessing, is permitted or stands where they wrote, or the policy was replaced
pub concerned_is_own : (s : Shown) (standing : ℕ → List ℕ) (P : PlainPolicy) (T : Trace) (c : Command) (head : Head) → Follows s P T → SessionsAre s T → IsExact s standing
    → is_tick c ≡ false → (n : ℕ) → is_accessing (session T n) ≡ true → work_afterwards P T c head n ≡ true → IsOwnWork s standing c head n
concerned_is_own s standing P T c head h same exact no_tick n on concerned =
    let row = going_row (session T n) on in
    let is : going_on (session_in s.tables n) ≡ Some row.0 = ap going_on (same n) ∙ row.2 in
    elim (or_cases (permitted_by head n) _ concerned) [
      | inl permitted ↦ inl (permitted_is s standing n head permitted)
      | inr others ↦ elim (or_cases (readers P T (permit_locations P T head) n) _ others) [
        | inl reads ↦ inl (permit_stands s standing P T h same exact n row.0 row.1 is head reads)
        | inr more ↦ inr (command_stands s standing P T h same exact n row.0 row.1 is c no_tick more)
      ]
    ]

-- ---- one of the work holds

-- whoever is in the work behind another is in the rest
pub behind : (n m : ℕ) (rest : List ℕ) → m ≢ n → work_of (n ∷ rest) m ≡ true → work_of rest m ≡ true
behind n m rest other has = elim (eqb_tells m n) [ inl here ↦ absurd (other here.1) | inr apart ↦ (rw apart.0 at has) ]

rest_of : (n m : ℕ) (rest : List ℕ) → without n (work_of (n ∷ rest)) m ≡ true → work_of rest m ≡ true
rest_of n m rest has = elim (eqb_tells m n) [
  | inl here ↦ absurd (let no : false ≡ true = rw here.0 at has in cc)
  | inr apart ↦ behind n m rest apart.1 (and_parts (not (nat_eq m n)) (work_of (n ∷ rest) m) has).1
]

-- one that holds may go
abbrev pub HoldingMayGo : Type 0
HoldingMayGo = (P : PlainPolicy) (T : Trace) (first : ℕ → ℕ) (work : Work) (n : ℕ) → IsLed P T first → FirstsCover P T first work → fails_at P T n ≡ None
    → FirstsCover P T first (without n work)

pub work_passes_over : HoldingMayGo → (s : Shown) (first : ℕ → ℕ) (n : ℕ) (rest : List ℕ) → IsWork s first (n ∷ rest) → AfterEach s (λ P T. fails_at P T n ≡ None)
    → IsWork s first rest
work_passes_over law s first n rest work none = record {
  grouped = work.grouped;
  covers = λ P T h m label fails.
      rest_of n (first m) rest (law P T first (work_of (n ∷ rest)) n (led s first P T h work.grouped) (work.covers P T h) (none P T h) m label fails);
  firsts = λ m has goes. work.firsts m (behind_one n m rest has) goes;
}
  where
    behind_one : (n m : ℕ) (rest : List ℕ) → Contains rest m → Contains (n ∷ rest) m
    behind_one n m rest (i, within, is) = (suc i, omega (arith, within), is)

-- ---- the least of the work

least_is_first : (n : ℕ) (rest : List ℕ) → ((m : ℕ) → Contains rest m → n < m) → IsLeastOf (work_of (n ∷ rest)) n
least_is_first n rest above = record {
  there = elim (eqb_tells n n) [ inl here ↦ or_left (nat_eq n n) _ here.0 | inr other ↦ absurd (other.1 refl) ];
  lower = λ m below. by m below (work_of (n ∷ rest) m) refl;
}
  where
    inside : (m : ℕ) → m < n → Contains (n ∷ rest) m → ⊥
    inside m below (zero, within, is) = omega (arith, below, is)
    inside m below (suc i, within, is) = let over : n < m = above m (i, omega (arith, within), is) in omega (arith, below, over)

    by : (m : ℕ) → m < n → (b : Bool) → work_of (n ∷ rest) m ≡ b → work_of (n ∷ rest) m ≡ false
    by m below false is = is
    by m below true is = absurd (inside m below (is_member m (n ∷ rest) is))

-- of rising members that cover by firsts, the first is the least that fails, if it does
abbrev pub HaveTheLeast : Type 0
HaveTheLeast = (P : PlainPolicy) (T : Trace) (first : ℕ → ℕ) (work : Work) (f : ℕ × Bytes) → IsNumbered T → IsLed P T first → FirstsCover P T first work → IsLeastOf work f.0
    → fails_at P T f.0 ≡ Some f.1 → least_failing P T ≡ Some f

pub first_is_least : HaveTheLeast → (P : PlainPolicy) (T : Trace) (first : ℕ → ℕ) → IsNumbered T → IsLed P T first → (n : ℕ) (label : Bytes) (rest : List ℕ)
    → ((m : ℕ) → Contains rest m → n < m) → FirstsCover P T first (work_of (n ∷ rest)) → fails_at P T n ≡ Some label → least_failing P T ≡ Some (n, label)
first_is_least law P T first numbered led n label rest above covers fails = law P T first (work_of (n ∷ rest)) (n, label) numbered led covers (least_is_first n rest above) fails
