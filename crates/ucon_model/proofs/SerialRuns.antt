-- A serial run is a legal run.
use Rattle.std.proofs.Common.{◌≡◌, ℕ, ◌+◌, ◌-◌, ◌≤◌, Bool, true, false, cond, List, [], ◌∷◌, ◌++◌, map, length, take, refl, sym, ap, subst, ◌∙◌, arith, append_assoc}
use Rattle.std.specs.Prelude.{IsTrue, count_by, ⊤}
use Rattle.std.specs.List.{list_any}
use Rattle.std.proofs.lemmas.Bool.{le-leb}
use Rattle.std.proofs.lemmas.List.{length_push, length-append, take_at}
use Rattle.ucon_model.specs.declared.command.Entry.{Entry}
use Rattle.ucon_model.specs.Plain.{PlainPolicy}
use Rattle.ucon_model.specs.History.{History, said, changes}
use Rattle.ucon_base.specs.Elements.{Each}
use Rattle.ucon_model.specs.LegalRun.{Answer, no_memory, disk_fault, stopped, placed, Answered, with_record, recorded, put_by_place, by_place, history_made, AreNumberedFrom, stands_on, IsSaid, Saw, StaysStopped, AreInOrder, is_disk_fault, is_stopped, IsLegalRun, in_text_order, history_after, IsNext, IsSerialRun}

-- ---- the places

-- the records are numbered from the history's length
numbered_by : (b : Bool) (H : History) (line : Entry) (place : ℕ) (others : List (ℕ × Entry)) → place ≡ length (cond b (H ++ line ∷ []) H)
    → AreNumberedFrom (length (cond b (H ++ line ∷ []) H)) others → AreNumberedFrom (length H) (cond b ((place, line) ∷ others) others)
numbered_by true H line place others e h = (e ∙ length_push H line, subst (λ (n : ℕ). AreNumberedFrom n others) (length_push H line) h)
numbered_by false H line place others e h = h

pub numbered_next : (P : PlainPolicy) (H : History) (line : Entry) (a : Answer) (others : List (ℕ × Entry)) → IsNext P H line a
    → AreNumberedFrom (length (history_after H line a)) others → AreNumberedFrom (length H) (with_record line a others)
numbered_next P H line no_memory others is h = h
numbered_next P H line disk_fault others is h = absurd is
numbered_next P H line stopped others is h = absurd is
numbered_next P H line (placed place reply) others is h = numbered_by (changes reply) H line place others is.1 h

numbered : (P : PlainPolicy) (H : History) (told : List Answered) → IsSerialRun P H told → AreNumberedFrom (length H) (recorded told)
numbered P H [] run = tt
numbered P H (t ∷ told) run = numbered_next P H t.line t.answer (recorded told) run.0 (numbered P (history_after H t.line t.answer) told run.1)

stays_first : (n : ℕ) (x : ℕ × Entry) (xs : List (ℕ × Entry)) → x.0 ≡ n + 1 → AreNumberedFrom (n + 1) xs → put_by_place x xs ≡ x ∷ xs
stays_first n x [] e h = refl
stays_first n x (y ∷ ys) e h = rw (le-leb x.0 y.0 (omega (arith, e, h.0)))

pub by_place-numbered : (n : ℕ) (xs : List (ℕ × Entry)) → AreNumberedFrom n xs → by_place xs ≡ xs
by_place-numbered n [] h = refl
by_place-numbered n (x ∷ xs) h = ap (put_by_place x) (by_place-numbered (n + 1) xs h.1) ∙ stays_first n x xs h.0 h.1

-- ---- the history that is made

abbrev pub led_to : History → List Answered → History
led_to H told = H ++ map (λ x. x.1) (recorded told)

led_by : (b : Bool) (H : History) (line : Entry) (place : ℕ) (others : List (ℕ × Entry))
    → H ++ map (λ x. x.1) (cond b ((place, line) ∷ others) others) ≡ cond b (H ++ line ∷ []) H ++ map (λ x. x.1) others
led_by true H line place others = sym (append_assoc H (line ∷ []) (map (λ x. x.1) others))
led_by false H line place others = refl

pub led_next : (H : History) (line : Entry) (a : Answer) (others : List (ℕ × Entry))
    → H ++ map (λ x. x.1) (with_record line a others) ≡ history_after H line a ++ map (λ x. x.1) others
led_next H line no_memory others = refl
led_next H line disk_fault others = refl
led_next H line stopped others = refl
led_next H line (placed place reply) others = led_by (changes reply) H line place others

grown_by : (b : Bool) (H : History) (line : Entry) → length H ≤ length (cond b (H ++ line ∷ []) H)
grown_by true H line = omega (arith, length_push H line)
grown_by false H line = omega arith

pub grown_after : (H : History) (line : Entry) (a : Answer) → length H ≤ length (history_after H line a)
grown_after H line no_memory = omega arith
grown_after H line disk_fault = omega arith
grown_after H line stopped = omega arith
grown_after H line (placed place reply) = grown_by (changes reply) H line

-- ---- the replies

stands_by : (b : Bool) (H : History) (line : Entry) (place : ℕ) → place ≡ length (cond b (H ++ line ∷ []) H) → cond b (place - 1) place ≡ length H
stands_by true H line place e = omega (arith, e, length_push H line)
stands_by false H line place e = e

pub said_next : (P : PlainPolicy) (opening : ℕ) (whole H later : History) (line : Entry) (a : Answer) → IsNext P H line a → opening ≤ length H
    → whole ≡ H ++ later → IsSaid P opening whole line a
said_next P opening whole H later line no_memory is le e = tt
said_next P opening whole H later line disk_fault is le e = tt
said_next P opening whole H later line stopped is le e = tt
said_next P opening whole H later line (placed place reply) is le e =
    let on : stands_on place reply ≡ length H = stands_by (changes reply) H line place is.1 in
    let seen : take (stands_on place reply) whole ≡ H = ap (take (stands_on place reply)) e ∙ take_at H later (stands_on place reply) (sym on) in
    (omega (arith, le, on), omega (arith, on, ap length e, length-append H later), is.0 ∙ ap (λ K. said P K line.caller line.command) (sym seen))

all_said : (P : PlainPolicy) (opening : ℕ) (whole H : History) (told : List Answered) → IsSerialRun P H told → opening ≤ length H
    → whole ≡ led_to H told → Each (λ t. IsSaid P opening whole t.line t.answer) told
all_said P opening whole H [] run le e = tt
all_said P opening whole H (t ∷ told) run le e = (
  said_next P opening whole H (map (λ x. x.1) (recorded (t ∷ told))) t.line t.answer run.0 le e,
  all_said P opening whole (history_after H t.line t.answer) told run.1 (omega (arith, le, grown_after H t.line t.answer)) (e ∙ led_next H t.line t.answer (recorded told)),
)

-- ---- the order

-- the history has all that an answer tells
abbrev pub Has : History → Answer → Type 0
Has H no_memory = ⊤
Has H disk_fault = ⊥
Has H stopped = ⊥
Has H (placed place reply) = place ≤ length H

pub has_still : (H : History) (line : Entry) (a earlier : Answer) → Has H earlier → Has (history_after H line a) earlier
has_still H line a no_memory has = tt
has_still H line a disk_fault has = has
has_still H line a stopped has = has
has_still H line a (placed place reply) has = omega (arith, has, grown_after H line a)

pub has_next : (P : PlainPolicy) (H : History) (line : Entry) (a : Answer) → IsNext P H line a → Has (history_after H line a) a
has_next P H line no_memory is = tt
has_next P H line disk_fault is = is
has_next P H line stopped is = is
has_next P H line (placed place reply) is = omega (arith, is.1)

pub saw_next : (P : PlainPolicy) (H : History) (line : Entry) (earlier a : Answer) → Has H earlier → IsNext P H line a → Saw earlier a × StaysStopped earlier a
saw_next P H line no_memory a has is = (tt, tt)
saw_next P H line disk_fault a has is = absurd has
saw_next P H line stopped a has is = absurd has
saw_next P H line (placed place reply) no_memory has is = (tt, tt)
saw_next P H line (placed place reply) disk_fault has is = absurd is
saw_next P H line (placed place reply) stopped has is = absurd is
saw_next P H line (placed place reply) (placed later more) has is = (omega (arith, has, stands_by (changes more) H line later is.1), tt)

saw_later : (P : PlainPolicy) (H : History) (earlier : Answer) (told : List Answered) → Has H earlier → IsSerialRun P H told
    → Each (λ later. IsTrue true → Saw earlier later.answer × StaysStopped earlier later.answer) told
saw_later P H earlier [] has run = tt
saw_later P H earlier (t ∷ told) has run = (
  λ sees. saw_next P H t.line earlier t.answer has run.0,
  saw_later P (history_after H t.line t.answer) earlier told (has_still H t.line t.answer earlier has) run.1,
)

in_order : (P : PlainPolicy) (H : History) (told : List Answered) → IsSerialRun P H told → AreInOrder in_text_order told
in_order P H [] run = tt
in_order P H (t ∷ told) run =
    (saw_later P (history_after H t.line t.answer) t.answer told (has_next P H t.line t.answer run.0) run.1, in_order P (history_after H t.line t.answer) told run.1)

-- ---- the causes

-- neither a disk fault nor stopped
abbrev pub IsSound : Answer → Type 0
IsSound a = (is_disk_fault a ≡ false) × (is_stopped a ≡ false)

pub sound_next : (P : PlainPolicy) (H : History) (line : Entry) (a : Answer) → IsNext P H line a → IsSound a
sound_next P H line no_memory is = (refl, refl)
sound_next P H line disk_fault is = absurd is
sound_next P H line stopped is = absurd is
sound_next P H line (placed place reply) is = (refl, refl)

all_sound : (P : PlainPolicy) (H : History) (told : List Answered) → IsSerialRun P H told → Each (λ t. IsSound t.answer) told
all_sound P H [] run = tt
all_sound P H (t ∷ told) run = (sound_next P H t.line t.answer run.0, all_sound P (history_after H t.line t.answer) told run.1)

pub no_faults : (told : List Answered) → Each (λ t. IsSound t.answer) told → count_by (λ t. is_disk_fault t.answer) told ≡ 0
no_faults [] h = refl
no_faults (t ∷ told) h = rw h.0.0 (omega (arith, no_faults told h.1))

none_stopped : (told : List Answered) → Each (λ t. IsSound t.answer) told → list_any (λ t. is_stopped t.answer) told ≡ false
none_stopped [] h = refl
none_stopped (t ∷ told) h = rw h.0.1 (none_stopped told h.1)

none_would_change : (P : PlainPolicy) (whole : History) (told : List Answered) → Each (λ t. IsSound t.answer) told
    → Each (λ t. IsTrue (is_disk_fault t.answer) → IsTrue (changes (said P whole t.line.caller t.line.command))) told
none_would_change P whole [] h = tt
none_would_change P whole (t ∷ told) h = (λ fault. absurd (let none = h.0.0 in (cc)), none_would_change P whole told h.1)

-- ---- the law

pub serial-legal : (P : PlainPolicy) (G : History) (told : List Answered) → IsSerialRun P G told → IsLegalRun P in_text_order G told
serial-legal P G told run =
    let places : by_place (recorded told) ≡ recorded told = by_place-numbered (length G) (recorded told) (numbered P G told run) in
    let sound : Each (λ t. IsSound t.answer) told = all_sound P G told run in
    record {
      places = subst (AreNumberedFrom (length G)) (sym places) (numbered P G told run);
      replies = all_said P (length G) (history_made G told) G told run (omega arith) (ap (λ xs. G ++ map (λ x. x.1) xs) places);
      order = in_order P G told run;
      causes = record {
        once = omega (arith, no_faults told sound);
        would_change = none_would_change P (history_made G told) told sound;
        by_fault = λ some. absurd (let none = none_stopped told sound in (cc));
      };
    }
