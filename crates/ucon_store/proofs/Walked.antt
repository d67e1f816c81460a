-- A walk over a journal's records finds the last checkpoint among them, or the first record that is too long.
use Rattle.std.proofs.Common.{◌≡◌, ◌≢◌, ℕ, ◌+◌, ◌<◌, ◌≤◌, Bool, true, false, cond, List, [], ◌∷◌, length, Option, Some, None, refl, sym, ap, ◌∙◌, subst, arith}
use Rattle.std.specs.Prelude.{◌&&◌, nat_lt, option_map, IfSome}
use Rattle.std.specs.Option.{option_or}
use Rattle.ucon_disk.specs.Causes.{raised}
use Rattle.ucon_journal.specs.declared.fault.TakeFault.{TakeFault}
use Rattle.ucon_journal.specs.declared.fault.TakeFault.TheVariants as taking
use Rattle.ucon_journal.specs.Found.{counted, payloads_from}
use Rattle.ucon_model.specs.Found.{first_gate, gate_behind, next_gate}
use Rattle.ucon_model.specs.Payload.{most_payload}
use Rattle.ucon_model.specs.Plain.{Bytes}
use Rattle.ucon_store.specs.declared.walking.LastPoint.{LastPoint}
use Rattle.ucon_store.specs.declared.walking.Walk.{Walk}
use Rattle.ucon_store.specs.RecordFaults.{of_take}
use Rattle.ucon_store.specs.Parted.{Parted, first_long, parted, parted_with, preceded_by, steps_among}
use Rattle.ucon_store.specs.PointRecords.{has_points, is_point}
use Rattle.ucon_store.specs.Walking.{HasLong, IsAtParted, IsWalked, finds, walked}

-- ---- one record

long_no : (m n : ℕ) → n ≤ m → nat_lt m n ≡ false
long_no m n le = grind arith

long_yes : (m n : ℕ) → m < n → nat_lt m n ≡ true
long_yes m n less = grind arith

-- a walk that has passed a checkpoint, whose gate is here
abbrev pub behind_point : Walk → ℕ → Walk
behind_point w place = record { number = w.number + 1; entries = w.entries; last = Some (record { number = w.number; place = place; entries = w.entries }) }

-- a walk that has passed a step
abbrev pub behind_step : Walk → Walk
behind_step w = record { number = w.number + 1; entries = w.entries + 1; last = w.last }

-- what is found from a record on is found behind it
module _ (points : Bool) (w : Walk) (gate next : ℕ) (payload : Bytes) (on : next ≡ gate + 5 + length payload) (short : length payload ≤ most_payload) where
  past : (w' : Walk) (b : Bool) → (points && is_point payload) ≡ b → w'.number ≡ w.number + 1
      → ((rest : List Bytes) → walked points w'.number w'.entries next w'.last rest
      ≡ cond b (walked points (w.number + 1) w.entries next (Some (record { number = w.number; place = gate; entries = w.entries })) rest) (walked points (w.number + 1) (w.entries + 1) next w.last rest))
      → (o : Option Bytes) → IfSome o (λ file. payloads_from file gate ≡ payload ∷ payloads_from file next) → IfSome o (λ file. finds points w' next file ≡ finds points w gate file)
  past w' b is number same None more = tt
  past w' b is number same (Some file) more =
      let rest : List Bytes = payloads_from file next in
      let fits : nat_lt most_payload (length payload) ≡ false = long_no most_payload (length payload) short in
      let there : finds points w gate file ≡ (walked points w.number w.entries gate w.last (payload ∷ rest), first_long w.number gate (payload ∷ rest)) =
      ap (λ (l : List Bytes). (walked points w.number w.entries gate w.last l, first_long w.number gate l)) more in
      let here : (walked points w.number w.entries gate w.last (payload ∷ rest), first_long w.number gate (payload ∷ rest))
      ≡ (
        cond b (walked points (w.number + 1) w.entries next (Some (record { number = w.number; place = gate; entries = w.entries })) rest) (walked points (w.number + 1) (w.entries + 1) next w.last rest),
        first_long (w.number + 1) next rest,
      ) =
      λ i. (
        cond (is i) (walked points (w.number + 1) w.entries (sym on i) (Some (record { number = w.number; place = gate; entries = w.entries })) rest)
            (walked points (w.number + 1) (w.entries + 1) (sym on i) w.last rest),
        cond (fits i) (Some (w.number, gate)) (first_long (w.number + 1) (sym on i) rest),
      ) in
      (λ i. (same rest i, first_long (number i) next rest)) ∙ sym (there ∙ here)

  pub passed_point : (points && is_point payload) ≡ true → (o : Option Bytes) → IfSome o (λ file. payloads_from file gate ≡ payload ∷ payloads_from file next)
      → IfSome o (λ file. finds points (behind_point w gate) next file ≡ finds points w gate file)
  passed_point is = past (behind_point w gate) true is refl (λ rest. refl)

  pub passed_step : (points && is_point payload) ≡ false → (o : Option Bytes) → IfSome o (λ file. payloads_from file gate ≡ payload ∷ payloads_from file next)
      → IfSome o (λ file. finds points (behind_step w) next file ≡ finds points w gate file)
  passed_step is = past (behind_step w) false is refl (λ rest. refl)

-- a record that is too long is the first such
pub long_here : (number gate : ℕ) (file : Bytes) (p : Bytes) (ps : List Bytes) → payloads_from file gate ≡ p ∷ ps → most_payload < length p → first_long number gate (payloads_from file gate) ≡ Some (number, gate)
long_here number gate file p ps is long =
    ap (first_long number gate) is ∙ ap (λ (b : Bool). cond b (Some (number, gate)) (first_long (number + 1) (next_gate gate p) ps)) (long_yes most_payload (length p) long)

-- why a record could not be taken
pub long_reason : (fault : TakeFault) (o : Option Bytes) (number gate before now : ℕ)
    → ((place : ℕ) → fault ≡ taking.TooLong place → (place ≡ gate) × IfSome o (λ file. (p : Bytes) × (ps : List Bytes) × (payloads_from file place ≡ p ∷ ps) × (most_payload < length p)))
    → (fault ≡ taking.DiskFault → now ≡ raised before) → (fault ≢ taking.DiskFault → now ≡ before) → HasLong (of_take number fault) o number gate before now
long_reason (taking.TooLong place) o number gate before now long failed unfailed =
    let l = long place refl in
    (told o (subst (λ (at : ℕ). IfSome o (λ file. (p : Bytes) × (ps : List Bytes) × (payloads_from file at ≡ p ∷ ps) × (most_payload < length p))) l.0 l.1), unfailed (λ e. absurd (cc e)))
  where
    told : (o : Option Bytes) → IfSome o (λ file. (p : Bytes) × (ps : List Bytes) × (payloads_from file gate ≡ p ∷ ps) × (most_payload < length p))
        → IfSome o (λ file. first_long number gate (payloads_from file gate) ≡ Some (number, place))
    told None h = tt
    told (Some file) h = long_here number gate file h.0 h.1 h.2 h.3 ∙ ap (λ (at : ℕ). Some (number, at)) (sym (long place refl).0)
long_reason taking.DiskFault o number gate before now long failed unfailed = failed refl
long_reason (taking.NoMemory m) o number gate before now long failed unfailed = unfailed (λ e. absurd (cc e))

-- ---- all records

-- where the last checkpoint is, behind so many records and steps and this gate
abbrev pub placed_at : (number entries gate : ℕ) → Parted → LastPoint
placed_at number entries gate p = record { number = number + length p.before; place = gate_behind gate p.before; entries = entries + steps_among p.before }

module _ (number entries gate : ℕ) (payload : Bytes) (payloads : List Bytes) (last : Option LastPoint) where
  abbrev here : LastPoint
  here = record { number = number; place = gate; entries = entries }

  -- a checkpoint, and those behind it
  at_point : is_point payload ≡ true → (o : Option Parted) → option_or (option_map (placed_at (number + 1) entries (next_gate gate payload)) o) (Some here)
      ≡ option_or (option_map (placed_at number entries gate) (option_or (option_map (preceded_by payload) o) (Some (record { before = []; point = payload; behind = payloads })))) last
  at_point is None =
      let none : number ≡ number + 0 = omega arith in
      let no_step : entries ≡ entries + 0 = omega arith in
      λ i. Some (record { number = none i; place = gate; entries = no_step i })
  at_point is (Some p) =
      let place : number + 1 + length p.before ≡ number + length (payload ∷ p.before) = omega arith in
      let steps : entries + steps_among p.before ≡ entries + steps_among (payload ∷ p.before) =
      ap (λ (b : Bool). entries + cond b (steps_among p.before) (steps_among p.before + 1)) (sym is) in
      λ i. Some (record { number = place i; place = gate_behind (next_gate gate payload) p.before; entries = steps i })

  -- a step, and those behind it
  at_step : is_point payload ≡ false → (o : Option Parted) → option_or (option_map (placed_at (number + 1) (entries + 1) (next_gate gate payload)) o) last
      ≡ option_or (option_map (placed_at number entries gate) (option_or (option_map (preceded_by payload) o) None)) last
  at_step is None = refl
  at_step is (Some p) =
      let place : number + 1 + length p.before ≡ number + length (payload ∷ p.before) = omega arith in
      let more : entries + 1 + steps_among p.before ≡ entries + (steps_among p.before + 1) = omega arith in
      let steps : entries + 1 + steps_among p.before ≡ entries + steps_among (payload ∷ p.before) =
      more ∙ ap (λ (b : Bool). entries + cond b (steps_among p.before) (steps_among p.before + 1)) (sym is) in
      λ i. Some (record { number = place i; place = gate_behind (next_gate gate payload) p.before; entries = steps i })

  at_either : (b : Bool) → is_point payload ≡ b
      → walked true (number + 1) entries (next_gate gate payload) (Some here) payloads ≡ option_or (option_map (placed_at (number + 1) entries (next_gate gate payload)) (parted payloads)) (Some here)
      → walked true (number + 1) (entries + 1) (next_gate gate payload) last payloads ≡ option_or (option_map (placed_at (number + 1) (entries + 1) (next_gate gate payload)) (parted payloads)) last
      → cond b (walked true (number + 1) entries (next_gate gate payload) (Some here) payloads) (walked true (number + 1) (entries + 1) (next_gate gate payload) last payloads)
      ≡ option_or (option_map (placed_at number entries gate) (option_or (option_map (preceded_by payload) (parted payloads)) (cond b (Some (record { before = []; point = payload; behind = payloads })) None))) last
  at_either true is point step = point ∙ at_point is (parted payloads)
  at_either false is point step = step ∙ at_step is (parted payloads)

-- what the walk finds is the last checkpoint, or where there is none the one before these
pub walked_parted : (number entries gate : ℕ) (last : Option LastPoint) (payloads : List Bytes) → walked true number entries gate last payloads ≡ option_or (option_map (placed_at number entries gate) (parted payloads)) last
walked_parted number entries gate last [] = refl
walked_parted number entries gate last (payload ∷ payloads) =
    at_either number entries gate payload payloads last (is_point payload) refl
    (walked_parted (number + 1) entries (next_gate gate payload) (Some (record { number = number; place = gate; entries = entries })) payloads)
    (walked_parted (number + 1) (entries + 1) (next_gate gate payload) last payloads)

-- and where there may be none it finds none
pub walked_old : (number entries gate : ℕ) (payloads : List Bytes) → walked false number entries gate None payloads ≡ None
walked_old number entries gate [] = refl
walked_old number entries gate (payload ∷ payloads) = walked_old (number + 1) (entries + 1) (next_gate gate payload) payloads

-- so from record 0 on it finds the last checkpoint
at_parted : (text : Bytes) (o : Option Parted) (last : Option LastPoint) → option_or (option_map (placed_at 1 0 (next_gate first_gate text)) o) None ≡ last → IsAtParted text o last
at_parted text None last is = sym is
at_parted text (Some p) last is =
    let number : 1 + length p.before ≡ length p.before + 1 = omega arith in
    let entries : 0 + steps_among p.before ≡ steps_among p.before = omega arith in
    subst (IsAtParted text (Some p)) is (number, refl, entries)

with_kind : (text : Bytes) (points : Bool) (payloads : List Bytes) (last : Option LastPoint) → walked points 1 0 (next_gate first_gate text) None payloads ≡ last → IsAtParted text (parted_with points payloads) last
with_kind text true payloads last is = at_parted text (parted payloads) last (sym (walked_parted 1 0 (next_gate first_gate text) None payloads) ∙ is)
with_kind text false payloads last is = sym is ∙ walked_old 1 0 (next_gate first_gate text) payloads

pub all_walked : (o : Option Bytes) (points : Bool) (text : Bytes) (gate next : ℕ) (w : Walk) (last : Option LastPoint) → IfSome o (λ file. has_points file ≡ points)
    → IfSome o (λ file. payloads_from file 8 ≡ counted file) → gate ≡ 8 → IfSome o (λ file. payloads_from file gate ≡ text ∷ payloads_from file next) → next ≡ gate + 5 + length text
    → length text ≤ most_payload → w.number ≡ 1 → w.entries ≡ 0 → w.last ≡ None → IfSome o (λ file. finds points w next file ≡ (last, None))
    → IfSome o (λ file. IsWalked (has_points file) (counted file) last)
all_walked None points text gate next w last kind all is more on short one none no_point found = tt
all_walked (Some file) points text gate next w last kind all is more on short one none no_point found =
    let rest : List Bytes = payloads_from file next in
    let counts : counted file ≡ text ∷ rest = sym all ∙ ap (payloads_from file) (sym is) ∙ more in
    let place : next ≡ next_gate first_gate text = on ∙ ap (λ (n : ℕ). n + 5 + length text) is in
    let begun : (walked points 1 0 (next_gate first_gate text) None rest, first_long 1 (next_gate first_gate text) rest) ≡ (last, None) =
    (λ i. (walked points (sym one i) (sym none i) (sym place i) (sym no_point i) rest, first_long (sym one i) (sym place i) rest)) ∙ found in
    let fits : nat_lt most_payload (length text) ≡ false = long_no most_payload (length text) short in
    let none_long : first_long 0 first_gate (text ∷ rest) ≡ None =
    ap (λ (b : Bool). cond b (Some (0, first_gate)) (first_long 1 (next_gate first_gate text) rest)) fits ∙ ap (λ (p : Option LastPoint × Option (ℕ × ℕ)). p.1) begun in
    let at : IsAtParted text (parted_with points rest) last = with_kind text points rest last (ap (λ (p : Option LastPoint × Option (ℕ × ℕ)). p.0) begun) in
    subst (λ (z : Bool × List Bytes). IsWalked z.0 z.1 last) (λ i. (sym kind i, sym counts i)) (none_long, at)
