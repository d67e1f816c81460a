-- A legal run that met no disk fault, and a legal run behind the history that it made, are one legal run.
use Rattle.std.proofs.Common.{◌≡◌, ℕ, ◌+◌, ◌-◌, ◌≤◌, ◌<◌, Bool, true, false, cond, List, [], ◌∷◌, ◌++◌, map, length, refl, sym, ap, subst, ◌∙◌, arith, append_assoc}
use Rattle.std.specs.Prelude.{IsTrue, Some, None, ◌||◌, count_by, nat_le, if◌then◌else◌, ⊤}
use Rattle.std.specs.List.{list_any}
use Rattle.std.proofs.lemmas.Bool.{le-leb}
use Rattle.std.proofs.lemmas.List.{length-append, length-map, map-append, take-append-le}
use Rattle.std.proofs.lemmas.List.Sums.{sum_by-append}
use Rattle.ucon_base.specs.Elements.{Each, each_append, each_both, each_map}
use Rattle.ucon_model.specs.declared.command.Caller.{Caller}
use Rattle.ucon_model.specs.declared.command.Entry.{Entry}
use Rattle.ucon_model.specs.Plain.{PlainPolicy}
use Rattle.ucon_model.specs.History.{History, said, changes}
use Rattle.ucon_model.specs.LegalRun.{Answer, no_memory, disk_fault, stopped, placed, Answered, with_record, recorded, put_by_place, by_place, history_made, AreNumberedFrom, stands_on, IsSaid, Saw, StaysStopped, AreInOrder, is_disk_fault, is_stopped, HaveCauses, IsLegalRun}
use Rattle.ucon_model.specs.StoredRun.{failed_line}
use Rattle.ucon_model.proofs.SerialRuns.{IsSound, no_faults}

-- ---- the places

abbrev UpTo : ℕ → ℕ × Entry → Type 0
UpTo m x = x.0 ≤ m

abbrev Behind : ℕ → List (ℕ × Entry) → Type 0
Behind m [] = ⊤
Behind m (y ∷ ys) = m < y.0

recorded_by : (line : Entry) (a : Answer) (xs ys : List (ℕ × Entry)) → with_record line a (xs ++ ys) ≡ with_record line a xs ++ ys
recorded_by line no_memory xs ys = refl
recorded_by line disk_fault xs ys = refl
recorded_by line stopped xs ys = refl
recorded_by line (placed place reply) xs ys = by_change (changes reply)
  where
    by_change : (b : Bool) → cond b ((place, line) ∷ xs ++ ys) (xs ++ ys) ≡ cond b ((place, line) ∷ xs) xs ++ ys
    by_change true = refl
    by_change false = refl

recorded_both : (told more : List Answered) → recorded (told ++ more) ≡ recorded told ++ recorded more
recorded_both [] more = refl
recorded_both (t ∷ told) more = ap (with_record t.line t.answer) (recorded_both told more) ∙ recorded_by t.line t.answer (recorded told) (recorded more)

put_before : (m : ℕ) (x : ℕ × Entry) (xs ys : List (ℕ × Entry)) → x.0 ≤ m → Behind m ys → put_by_place x (xs ++ ys) ≡ put_by_place x xs ++ ys
put_before m x [] [] le behind = refl
put_before m x [] (y ∷ ys) le behind = rw (le-leb x.0 y.0 (omega (arith, le, behind)))
put_before m x (z ∷ xs) ys le behind = by_order (nat_le x.0 z.0) (put_before m x xs ys le behind)
  where
    by_order : (b : Bool) → put_by_place x (xs ++ ys) ≡ put_by_place x xs ++ ys
        → cond b (x ∷ z ∷ xs ++ ys) (z ∷ put_by_place x (xs ++ ys)) ≡ cond b (x ∷ z ∷ xs) (z ∷ put_by_place x xs) ++ ys
    by_order true rest = refl
    by_order false rest = ap (λ l. z ∷ l) rest

by_place_both : (m : ℕ) (xs ys : List (ℕ × Entry)) → Each (UpTo m) xs → Behind m (by_place ys) → by_place (xs ++ ys) ≡ by_place xs ++ by_place ys
by_place_both m [] ys low behind = refl
by_place_both m (x ∷ xs) ys low behind =
    ap (put_by_place x) (by_place_both m xs ys low.1 behind) ∙ put_before m x (by_place xs) (by_place ys) low.0 behind

-- what is said of each place is said of each that was put in order
put_parts : (Q : ℕ × Entry → Type 0) (x : ℕ × Entry) (xs : List (ℕ × Entry)) → Each Q (put_by_place x xs) → Q x × Each Q xs
put_parts Q x [] h = (h.0, tt)
put_parts Q x (y ∷ xs) h = by_order (nat_le x.0 y.0) (put_parts Q x xs) h
  where
    by_order : (b : Bool) → (Each Q (put_by_place x xs) → Q x × Each Q xs) → Each Q (cond b (x ∷ y ∷ xs) (y ∷ put_by_place x xs)) → Q x × Each Q (y ∷ xs)
    by_order true rest h = h
    by_order false rest h = let parts = rest h.1 in (parts.0, (h.0, parts.1))

of_ordered : (Q : ℕ × Entry → Type 0) (xs : List (ℕ × Entry)) → Each Q (by_place xs) → Each Q xs
of_ordered Q [] h = tt
of_ordered Q (x ∷ xs) h = let parts = put_parts Q x (by_place xs) h in (parts.0, of_ordered Q xs parts.1)

numbered_low : (n m : ℕ) (xs : List (ℕ × Entry)) → AreNumberedFrom n xs → n + length xs ≤ m → Each (UpTo m) xs
numbered_low n m [] h le = tt
numbered_low n m (x ∷ xs) h le = (omega (arith, h.0, le), numbered_low (n + 1) m xs h.1 (omega (arith, le)))

numbered_behind : (m : ℕ) (ys : List (ℕ × Entry)) → AreNumberedFrom m ys → Behind m ys
numbered_behind m [] h = tt
numbered_behind m (y ∷ ys) h = omega (arith, h.0)

numbered_both : (n m : ℕ) (xs ys : List (ℕ × Entry)) → AreNumberedFrom n xs → AreNumberedFrom m ys → m ≡ n + length xs → AreNumberedFrom n (xs ++ ys)
numbered_both n m [] ys h k e = subst (λ (i : ℕ). AreNumberedFrom i ys) (omega (arith, e)) k
numbered_both n m (x ∷ xs) ys h k e = (h.0, numbered_both (n + 1) m xs ys h.1 k (omega (arith, e)))

-- ---- the order

-- at most this place was told
abbrev Told : ℕ → Answer → Type 0
Told m no_memory = ⊤
Told m disk_fault = ⊤
Told m stopped = ⊤
Told m (placed place reply) = place ≤ m

told_by : (P : PlainPolicy) (opening m : ℕ) (H : History) (line : Entry) (a : Answer) (others : List (ℕ × Entry)) → length H ≤ m → IsSaid P opening H line a
    → Each (UpTo m) (with_record line a others) → Told m a × Each (UpTo m) others
told_by P opening m H line no_memory others le is low = (tt, low)
told_by P opening m H line disk_fault others le is low = (tt, low)
told_by P opening m H line stopped others le is low = (tt, low)
told_by P opening m H line (placed place reply) others le is low = by_change (changes reply) is.1 low
  where
    by_change : (b : Bool) → cond b (place - 1) place ≤ length H → Each (UpTo m) (cond b ((place, line) ∷ others) others) → (place ≤ m) × Each (UpTo m) others
    by_change true stands low = low
    by_change false stands low = (omega (arith, stands, le), low)

all_told : (P : PlainPolicy) (opening m : ℕ) (H : History) → length H ≤ m → (told : List Answered) → Each (λ t. IsSaid P opening H t.line t.answer) told
    → Each (UpTo m) (recorded told) → Each (λ t. Told m t.answer) told
all_told P opening m H le [] is low = tt
all_told P opening m H le (t ∷ told) is low =
    let here = told_by P opening m H t.line t.answer (recorded told) le is.0 low in
    (here.0, all_told P opening m H le told is.1 here.1)

follows : (P : PlainPolicy) (m : ℕ) (H : History) (line : Entry) (earlier later : Answer) → Told m earlier → IsSound earlier → IsSaid P m H line later
    → Saw earlier later × StaysStopped earlier later
follows P m H line no_memory later has sound is = (tt, tt)
follows P m H line disk_fault later has sound is = absurd (let no = sound.0 in (cc))
follows P m H line stopped later has sound is = absurd (let no = sound.1 in (cc))
follows P m H line (placed place reply) no_memory has sound is = (tt, tt)
follows P m H line (placed place reply) disk_fault has sound is = (tt, tt)
follows P m H line (placed place reply) stopped has sound is = (tt, tt)
follows P m H line (placed place reply) (placed later more) has sound is = (omega (arith, has, is.0), tt)

in_order : (P : PlainPolicy) (sees : Caller → Caller → Bool) (m : ℕ) (H : History) (told more : List Answered) → Each (λ t. Told m t.answer) told
    → Each (λ t. IsSound t.answer) told → Each (λ t. IsSaid P m H t.line t.answer) more → AreInOrder sees told → AreInOrder sees more
    → AreInOrder sees (told ++ more)
in_order P sees m H [] more has sound said before behind = behind
in_order P sees m H (t ∷ told) more has sound said before behind = (
  each_append (λ (later : Answered). IsTrue (sees t.line.caller later.line.caller) → Saw t.answer later.answer × StaysStopped t.answer later.answer) told more before.0
      (each_map (λ (later : Answered). IsSaid P m H later.line later.answer)
      (λ (later : Answered). IsTrue (sees t.line.caller later.line.caller) → Saw t.answer later.answer × StaysStopped t.answer later.answer)
      (λ later is sees. follows P m H later.line t.answer later.answer has.0 sound.0 is) more said),
  in_order P sees m H told more has.1 sound.1 said before.1 behind,
)

-- ---- the replies

-- what was said stays said in a longer history, and where more had to be there
said_longer : (P : PlainPolicy) (n : ℕ) (H later : History) (line : Entry) (a : Answer) → IsSaid P n H line a → IsSaid P n (H ++ later) line a
said_longer P n H later line no_memory is = tt
said_longer P n H later line disk_fault is = tt
said_longer P n H later line stopped is = tt
said_longer P n H later line (placed place reply) is = (
  is.0,
  omega (arith, is.1, length-append H later),
  is.2 ∙ ap (λ K. said P K line.caller line.command) (sym (take-append-le (stands_on place reply) H later is.1)),
)

said_sooner : (P : PlainPolicy) (n m : ℕ) (H : History) (line : Entry) (a : Answer) → n ≤ m → IsSaid P m H line a → IsSaid P n H line a
said_sooner P n m H line no_memory le is = tt
said_sooner P n m H line disk_fault le is = tt
said_sooner P n m H line stopped le is = tt
said_sooner P n m H line (placed place reply) le is = (omega (arith, le, is.0), is.1, is.2)

-- ---- the causes

unfailed : (told : List Answered) → failed_line told ≡ None → Each (λ t. is_disk_fault t.answer ≡ false) told
unfailed [] none = tt
unfailed (t ∷ told) none = let h = by_fault (is_disk_fault t.answer) refl none in (h.0, unfailed told h.1)
  where
    by_fault : (b : Bool) → is_disk_fault t.answer ≡ b → (if b then Some t.line else failed_line told) ≡ None → (is_disk_fault t.answer ≡ false) × (failed_line told ≡ None)
    by_fault true is none = absurd (cc none)
    by_fault false is none = (is, none)

no_fault : (told : List Answered) → Each (λ t. is_disk_fault t.answer ≡ false) told → list_any (λ t. is_disk_fault t.answer) told ≡ false
no_fault [] h = refl
no_fault (t ∷ told) h = rw h.0 (no_fault told h.1)

none_stopped : (told : List Answered) → list_any (λ t. is_stopped t.answer) told ≡ false → Each (λ t. is_stopped t.answer ≡ false) told
none_stopped [] h = tt
none_stopped (t ∷ told) h = let parts = by_head (is_stopped t.answer) refl h in (parts.0, none_stopped told parts.1)
  where
    by_head : (b : Bool) → is_stopped t.answer ≡ b → (b || list_any (λ t. is_stopped t.answer) told) ≡ false
        → (is_stopped t.answer ≡ false) × (list_any (λ t. is_stopped t.answer) told ≡ false)
    by_head true is h = absurd (cc h)
    by_head false is h = (is, h)

not_true : (a b : Bool) → (IsTrue a → IsTrue b) → b ≡ false → a ≡ false
not_true true b f is = absurd (let yes = f refl in (cc))
not_true false b f is = refl

all_sound : (P : PlainPolicy) (H : History) (told : List Answered) → failed_line told ≡ None → HaveCauses P H told → Each (λ t. IsSound t.answer) told
all_sound P H told none causes =
    let faults = unfailed told none in
    let stops = none_stopped told
    (not_true (list_any (λ (t : Answered). is_stopped t.answer) told) (list_any (λ (t : Answered). is_disk_fault t.answer) told) causes.by_fault (no_fault told faults)) in
    each_both (λ (t : Answered). is_disk_fault t.answer ≡ false) (λ (t : Answered). is_stopped t.answer ≡ false) (λ (t : Answered). IsSound t.answer)
    (λ t a b. (a, b)) told faults stops

would_change : (P : PlainPolicy) (H : History) (told more : List Answered) → Each (λ t. IsSound t.answer) told
    → Each (λ t. IsTrue (is_disk_fault t.answer) → IsTrue (changes (said P H t.line.caller t.line.command))) more
    → Each (λ t. IsTrue (is_disk_fault t.answer) → IsTrue (changes (said P H t.line.caller t.line.command))) (told ++ more)
would_change P H [] more h behind = behind
would_change P H (t ∷ told) more h behind = (λ fault. absurd (let none = h.0.0 in (cc)), would_change P H told more h.1 behind)

by_fault : (told more : List Answered) → Each (λ t. IsSound t.answer) told
    → (IsTrue (list_any (λ t. is_stopped t.answer) more) → IsTrue (list_any (λ t. is_disk_fault t.answer) more))
    → IsTrue (list_any (λ t. is_stopped t.answer) (told ++ more)) → IsTrue (list_any (λ t. is_disk_fault t.answer) (told ++ more))
by_fault [] more h behind = behind
by_fault (t ∷ told) more h behind = rw (h.0.0, h.0.1) (by_fault told more h.1 behind)

failed_behind : (told more : List Answered) → Each (λ t. is_disk_fault t.answer ≡ false) told → failed_line (told ++ more) ≡ failed_line more
failed_behind [] more h = refl
failed_behind (t ∷ told) more h = rw h.0 (failed_behind told more h.1)

-- the line that met a disk fault is one behind
pub behind-failed : (told more : List Answered) → failed_line told ≡ None → failed_line (told ++ more) ≡ failed_line more
behind-failed told more none = failed_behind told more (unfailed told none)

-- ---- the law

module _ (P : PlainPolicy) (sees : Caller → Caller → Bool) (G : History) (told more : List Answered) (none : failed_line told ≡ None)
    (first : IsLegalRun P sees G told) (second : IsLegalRun P sees (history_made G told) more) where
  abbrev H : History
  H = history_made G told

  abbrev xs : List (ℕ × Entry)
  xs = by_place (recorded told)

  abbrev ys : List (ℕ × Entry)
  ys = by_place (recorded more)

  size : length H ≡ length G + length xs
  size = length-append G (map (λ x. x.1) xs) ∙ ap (λ n. length G + n) (length-map xs (λ (x : ℕ × Entry). x.1))

  low : Each (UpTo (length H)) (recorded told)
  low = of_ordered (UpTo (length H)) (recorded told) (numbered_low (length G) (length H) xs first.places (omega (arith, size)))

  both : by_place (recorded (told ++ more)) ≡ xs ++ ys
  both =
      ap by_place (recorded_both told more) ∙ by_place_both (length H) (recorded told) (recorded more) low (numbered_behind (length H) ys second.places)

  pub behind-made : history_made G (told ++ more) ≡ history_made H more
  behind-made =
      ap (λ (l : List (ℕ × Entry)). G ++ map (λ x. x.1) l) both ∙ ap (λ (l : History). G ++ l) (map-append (λ (x : ℕ × Entry). x.1) xs ys)
      ∙ sym (append_assoc G (map (λ x. x.1) xs) (map (λ x. x.1) ys))

  sound : Each (λ t. IsSound t.answer) told
  sound = all_sound P H told none first.causes

  abbrev Said : ℕ → History → Answered → Type 0
  Said opening K t = IsSaid P opening K t.line t.answer

  replies : Each (Said (length G) (history_made H more)) (told ++ more)
  replies = each_append (Said (length G) (history_made H more)) told more
      (each_map (Said (length G) H) (Said (length G) (history_made H more)) (λ t is. said_longer P (length G) H (map (λ x. x.1) ys) t.line t.answer is) told first.replies)
      (each_map (Said (length H) (history_made H more)) (Said (length G) (history_made H more))
      (λ t is. said_sooner P (length G) (length H) (history_made H more) t.line t.answer (omega (arith, size)) is) more second.replies)

  order : AreInOrder sees (told ++ more)
  order = in_order P sees (length H) (history_made H more) told more (all_told P (length G) (length H) H (omega arith) told first.replies low) sound second.replies
      first.order second.order

  once : count_by (λ t. is_disk_fault t.answer) (told ++ more) ≤ 1
  once =
      let count : count_by (λ t. is_disk_fault t.answer) (told ++ more) ≡ count_by (λ t. is_disk_fault t.answer) told + count_by (λ t. is_disk_fault t.answer) more =
      sum_by-append (λ (t : Answered). if is_disk_fault t.answer then 1 else 0) told more in
      omega (arith, count, no_faults told sound, second.causes.once)

  pub behind-legal : IsLegalRun P sees G (told ++ more)
  behind-legal = record {
    places = subst (AreNumberedFrom (length G)) (sym both) (numbered_both (length G) (length H) xs ys first.places second.places size);
    replies = subst (λ (K : History). Each (Said (length G) K) (told ++ more)) (sym behind-made) replies;
    order = order;
    causes = record {
      once = once;
      would_change = subst (λ (K : History). Each (λ t. IsTrue (is_disk_fault t.answer) → IsTrue (changes (said P K t.line.caller t.line.command))) (told ++ more)) (sym behind-made)
          (would_change P (history_made H more) told more sound second.causes.would_change);
      by_fault = by_fault told more sound second.causes.by_fault;
    };
  }
