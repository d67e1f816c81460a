-- A run by its replies: it is a legal run, and where each line was a step or refused it is the only one.
use Rattle.std.proofs.Common.{◌≡◌, ℕ, suc, ◌+◌, ◌≤◌, false, List, [], ◌∷◌, ◌++◌, map, length, refl, sym, ap, ◌∙◌, arith}
use Rattle.std.specs.Prelude.{Option, Some, None, if◌then◌else◌}
use Rattle.ucon_model.specs.declared.command.Entry.{Entry}
use Rattle.ucon_model.specs.declared.reply.Head.TheVariants as heads
use Rattle.ucon_model.specs.Plain.{PlainPolicy, PlainReply, refused, made, value_is, status}
use Rattle.ucon_model.specs.History.{History, said, grown, changes}
use Rattle.ucon_model.specs.LegalRun.{Answered, history_after, in_text_order, IsLegalRun, IsNext, IsSerialRun, is_disk_fault, is_stopped}
use Rattle.ucon_model.specs.Summary.{LineReply, answer_of, answered, history_behind, IsReplyNext, IsReplyRun, whole_run, Counts, with_line, counted_from}
use Rattle.ucon_trial.specs.Hearing.{line_of}
use Rattle.ucon_trial.specs.Runs.{IsUnfaulted}

-- ---- a serial run

-- a serial run is legal
abbrev pub SerialIsLegal : Type 0
SerialIsLegal = (P : PlainPolicy) (G : History) (told : List Answered) → IsSerialRun P G told → IsLegalRun P in_text_order G told

-- the history after an answer
behind : (P : PlainPolicy) (H : History) (e : Entry) (reply : Option (ℕ × PlainReply)) → IsReplyNext P H e reply → history_after H e (answer_of reply) ≡ history_behind P H e reply
behind P H e None next = refl
behind P H e (Some r) next = ap (λ (reply : PlainReply). if changes reply then H ++ e ∷ [] else H) next.1

next_is : (P : PlainPolicy) (H : History) (e : Entry) (reply : Option (ℕ × PlainReply)) → IsReplyNext P H e reply → IsNext P H e (answer_of reply)
next_is P H e None next = tt
next_is P H e (Some r) next = (next.1, next.0 ∙ ap length (sym (behind P H e (Some r) next)))

pub serial_run : (P : PlainPolicy) (H : History) (told : List LineReply) → IsReplyRun P H told → IsSerialRun P H (map answered told)
serial_run P H [] run = tt
serial_run P H (t ∷ told) run = (
  next_is P H t.line t.reply run.0,
  rw (behind P H t.line t.reply run.0) (serial_run P (history_behind P H t.line t.reply) told run.1),
)

unfaulted_one : (reply : Option (ℕ × PlainReply)) → (is_disk_fault (answer_of reply) ≡ false) × (is_stopped (answer_of reply) ≡ false)
unfaulted_one None = (refl, refl)
unfaulted_one (Some r) = (refl, refl)

pub unfaulted : (told : List LineReply) → IsUnfaulted (map answered told)
unfaulted [] = tt
unfaulted (t ∷ told) = (unfaulted_one t.reply, unfaulted told)

-- ---- a whole run

abbrev answered_so : Counts → ℕ
answered_so n = n.steps + n.refused

line_counted : (reply : Option (ℕ × PlainReply)) (n : Counts) → (with_line reply n).lines ≡ n.lines + 1
line_counted None n = refl
line_counted (Some (place, refused r)) n = refl
line_counted (Some (place, made heads.Ok revoked)) n = refl
line_counted (Some (place, made (heads.Permitted k) revoked)) n = refl
line_counted (Some (place, made (heads.Denied k label) revoked)) n = refl
line_counted (Some (place, made (heads.Waiting k label) revoked)) n = refl
line_counted (Some (place, made (heads.Ended k) revoked)) n = refl
line_counted (Some (place, value_is v)) n = refl
line_counted (Some (place, status k state)) n = refl

one_at_most : (reply : Option (ℕ × PlainReply)) (n : Counts) → answered_so (with_line reply n) ≤ answered_so n + 1
one_at_most None n = omega arith
one_at_most (Some (place, refused r)) n = omega arith
one_at_most (Some (place, made heads.Ok revoked)) n = omega arith
one_at_most (Some (place, made (heads.Permitted k) revoked)) n = omega arith
one_at_most (Some (place, made (heads.Denied k label) revoked)) n = omega arith
one_at_most (Some (place, made (heads.Waiting k label) revoked)) n = omega arith
one_at_most (Some (place, made (heads.Ended k) revoked)) n = omega arith
one_at_most (Some (place, value_is v)) n = omega arith
one_at_most (Some (place, status k state)) n = omega arith

pub lines_counted : (n : Counts) (told : List LineReply) → (counted_from n told).lines ≡ n.lines + length told
lines_counted n [] = omega arith
lines_counted n (t ∷ told) = omega (arith, lines_counted (with_line t.reply n) told, line_counted t.reply n)

all_at_most : (n : Counts) (told : List LineReply) → answered_so (counted_from n told) ≤ answered_so n + length told
all_at_most n [] = omega arith
all_at_most n (t ∷ told) = omega (arith, all_at_most (with_line t.reply n) told, one_at_most t.reply n)

pair_is : (r : ℕ × PlainReply) (n : ℕ) (reply : PlainReply) → r.0 ≡ n → r.1 ≡ reply → r ≡ (n, reply)
pair_is r n reply e f = ap (λ (n : ℕ). (n, r.1)) e ∙ ap (λ (reply : PlainReply). (n, reply)) f

-- where so many lines were steps or refused as there are, the one run is the whole one
whole_by : (P : PlainPolicy) (H : History) (n : Counts) (t : LineReply) (told : List LineReply) (reply : Option (ℕ × PlainReply)) → reply ≡ t.reply
    → IsReplyNext P H t.line reply → answered_so n + suc (length told) ≤ answered_so (counted_from (with_line reply n) told)
    → told ≡ whole_run P (history_behind P H t.line reply) (map line_of told)
    → t ∷ told ≡ whole_run P H (map line_of (t ∷ told))
whole_by P H n t told None is next le rest = absurd (omega (arith, le, all_at_most (with_line None n) told))
whole_by P H n t told (Some r) is next le rest =
    let x : LineReply = record { line = t.line; reply = Some (length (grown P H t.line), said P H t.line.caller t.line.command) } in
    let e : t ≡ x =
    ap (λ (reply : Option (ℕ × PlainReply)). record { line = t.line; reply = reply }) (sym is ∙ ap (λ (p : ℕ × PlainReply). Some p) (pair_is r _ _ next.0 next.1)) in
    ap (λ (y : LineReply). y ∷ told) e ∙ ap (λ (ts : List LineReply). x ∷ ts) rest

pub whole : (P : PlainPolicy) (H : History) (n : Counts) (told : List LineReply) → IsReplyRun P H told → answered_so n + length told ≤ answered_so (counted_from n told)
    → told ≡ whole_run P H (map line_of told)
whole P H n [] run le = refl
whole P H n (t ∷ told) run le =
    whole_by P H n t told t.reply refl run.0 le (whole P (history_behind P H t.line t.reply) (with_line t.reply n) told run.1 (omega (arith, le, one_at_most t.reply n)))
