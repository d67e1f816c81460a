-- What payloads may stand in a file, by its version, and that a step's payload is taken in each.
use Rattle.std.proofs.Common.{◌≡◌, ℕ, ◌<◌, Bool, true, false, cond, List, [], ◌∷◌, ◌++◌, length, drop, Option, Some, None, Err, refl, sym, ap, ◌∙◌, arith}
use Rattle.std.specs.Prelude.{◌&&◌, codes, nat_lt, option_and_then, if◌then◌else◌, IfSome}
use Rattle.std.specs.Fmt.{digits}
use Rattle.std.specs.Result.{result_ok}
use Rattle.std.specs.Str.{bytes_eq}
use Rattle.std.proofs.lemmas.Bool.Decides.{Decides-eqb}
use Rattle.std.proofs.lemmas.Slice.Eq.{starts_is}
use Rattle.ucon_model.specs.Found.{TakesSteps, taken, with_step}
use Rattle.ucon_model.specs.History.{History}
use Rattle.ucon_model.specs.Payload.{most_payload, payload_read}
use Rattle.ucon_model.specs.Plain.{Bytes, PlainPolicy}
use Rattle.ucon_journal.specs.declared.journal.Journal.{Journal}
use Rattle.ucon_journal.specs.Found.{StandsAt, counted, payloads_from}
use Rattle.ucon_journal.specs.Journal.{disk_of, gate_of, version_of, HasEnded, IsClosed}
use Rattle.ucon_syntax.specs.Policies.{accepted}
use Rattle.ucon_store.specs.Points.{checkpoint, has_points, is_point, point_taken, points_of, takes_with}
use Rattle.ucon_disk.specs.Seen.{DiskSeen}

-- ---- steps and checkpoints are apart

either_none : (b : Bool) → cond {A = Option History} b None None ≡ None
either_none true = refl
either_none false = refl

unread : (rest : Bytes) → payload_read accepted (codes "point " ++ rest) ≡ Err 0
unfolding payload_read digits
unread rest = refl

-- what begins as a checkpoint tells no step
pub point_untaken : (P : PlainPolicy) (H : History) (payload : Bytes) → is_point payload ≡ true → taken accepted P H payload ≡ None
unfolding taken
point_untaken P H payload is =
    let whole : payload ≡ codes "point " ++ drop 6 payload = (starts_is Decides-eqb payload (codes "point ") true (sym is)).0 refl in
    ap (λ r. if nat_lt most_payload (length payload) then None else option_and_then (with_step P H) (result_ok r)) (ap (payload_read accepted) whole ∙ unread (drop 6 payload))
    ∙ either_none (nat_lt most_payload (length payload))

by_beginning : (text : Bytes) (P : PlainPolicy) (H later : History) (payload : Bytes) (b : Bool) → is_point payload ≡ b → taken accepted P H payload ≡ Some later
    → (if b then point_taken text P H payload else taken accepted P H payload) ≡ Some later
by_beginning text P H later payload true is takes = absurd (let no : None ≡ Some later = sym (point_untaken P H payload is) ∙ takes in cc no)
by_beginning text P H later payload false is takes = takes

-- so in each file a payload that tells the next step is taken as it
pub steps_taken : (points : Bool) → TakesSteps accepted (takes_with points)
steps_taken true text P H later payload takes = by_beginning text P H later payload (is_point payload) refl takes
steps_taken false text P H later payload takes = takes

-- ---- payloads that are taken, or aren't

-- by whether there may be checkpoints, and it begins as one
pub takes_as : (points : Bool) (text : Bytes) (P : PlainPolicy) (H : History) (payload : Bytes) (b : Bool) → (points && is_point payload) ≡ b
    → takes_with points text P H payload ≡ (if b then point_taken text P H payload else taken accepted P H payload)
takes_as true text P H payload b is = ap (λ (x : Bool). if x then point_taken text P H payload else taken accepted P H payload) is
takes_as false text P H payload b is = ap (λ (x : Bool). if x then point_taken text P H payload else taken accepted P H payload) is

long_yes : (m n : ℕ) → m < n → nat_lt m n ≡ true
long_yes m n less = grind arith

long_step : (P : PlainPolicy) (H : History) (payload : Bytes) → most_payload < length payload → taken accepted P H payload ≡ None
unfolding taken
long_step P H payload long = ap (λ b. if b then None else option_and_then (with_step P H) (result_ok (payload_read accepted payload))) (long_yes most_payload (length payload) long)

long_point : (text : Bytes) (P : PlainPolicy) (H : History) (payload : Bytes) → most_payload < length payload → point_taken text P H payload ≡ None
unfolding point_taken
long_point text P H payload long = ap (λ b. if b then None else if bytes_eq payload (checkpoint text P H) then Some H else None) (long_yes most_payload (length payload) long)

long_either : (text : Bytes) (P : PlainPolicy) (H : History) (payload : Bytes) (b : Bool) → most_payload < length payload → (if b then point_taken text P H payload else taken accepted P H payload) ≡ None
long_either text P H payload true long = long_point text P H payload long
long_either text P H payload false long = long_step P H payload long

-- none is taken that is too long
pub long_refused : (points : Bool) (text : Bytes) (P : PlainPolicy) (H : History) (payload : Bytes) → most_payload < length payload → takes_with points text P H payload ≡ None
long_refused true text P H payload long = long_either text P H payload (is_point payload) long
long_refused false text P H payload long = long_step P H payload long

-- ---- the version of a file

pub stands_with : (file : Bytes) (version gate : ℕ) (payloads : List Bytes) → StandsAt file version gate payloads → has_points file ≡ points_of version
stands_with file version gate payloads s = ap has_points s.is

module _ {D : Type 0} (seen : D → DiskSeen) (j : Journal D) where
  told_kind : (o : Option (List ℕ)) (payloads : List ℕ → List Bytes) → IfSome o (λ file. StandsAt file (version_of j) (gate_of j) (payloads file)) → IfSome o (λ file. has_points file ≡ points_of (version_of j))
  told_kind None payloads h = tt
  told_kind (Some file) payloads h = stands_with file (version_of j) (gate_of j) (payloads file) h

  first_part : (o : Option (List ℕ)) (A B : List ℕ → Type 0) → IfSome o (λ file. A file × B file) → IfSome o A
  first_part None A B h = tt
  first_part (Some file) A B h = h.0

  -- the file of a journal is of its version
  pub ended_kind : HasEnded seen j → IfSome (seen (disk_of j)).contents (λ file. has_points file ≡ points_of (version_of j))
  ended_kind r = told_kind (seen (disk_of j)).contents counted
      (first_part (seen (disk_of j)).contents (λ file. StandsAt file (version_of j) (gate_of j) (counted file)) (λ file. payloads_from file (gate_of j) ≡ []) r.told)

  pub closed_kind : IsClosed seen j → IfSome (seen (disk_of j)).contents (λ file. has_points file ≡ points_of (version_of j))
  closed_kind r = told_kind (seen (disk_of j)).contents counted
      (first_part (seen (disk_of j)).contents (λ file. StandsAt file (version_of j) (gate_of j) (counted file)) (λ file. drop (gate_of j) file ≡ 0 ∷ []) r.told)
