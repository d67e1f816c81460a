-- A step's payload is read as the step, and bytes that are read are the step's payload.
use Rattle.std.proofs.Common.{◌≡◌, ℕ, zero, suc, ◌+◌, ◌-◌, ◌*◌, ◌/◌, ◌%◌, ◌<◌, ◌≤◌, ◌^◌, Bool, true, false, cond, [], ◌∷◌, ◌++◌, length, take, drop, get_or, Some, None, Ok, Err, is_ok, is_some, subst, refl, sym, ap, ◌∙◌, arith, append_assoc, length-append, length-drop, inl, inr, ⊎_elim}
use Rattle.std.specs.Prelude.{◌⊎◌, not, IfOk, MatchResult, Option, Result, option_map, option_and_then, ok_or, unwrap_or, OnOk, nat_lt, ◌==◌, position}
use Rattle.std.specs.Fmt.{decimal}
use Rattle.std.specs.List.{position_or_len}
use Rattle.std.specs.Result.{result_ok, result_err, result_unwrap_or}
use Rattle.std.specs.Str.{bytes_eq}
use Rattle.std.specs.Str.Parse.{digits_value}
use Rattle.std.proofs.Math.Seq.{drop-append_seam}
use Rattle.std.proofs.lemmas.Bool.{le-ltb, lt-ltb, ltb-true, ltb-false, cases_lt, eq-eqb, eqb-true, false≢true}
use Rattle.std.proofs.lemmas.Fmt.{decimal_digit, decimal_step, decimal_is_IsNumeral, length-decimal-le}
use Rattle.std.proofs.lemmas.List.{take_all}
use Rattle.std.proofs.lemmas.Slice.Eq.{bytes_eq-Decides}
use Rattle.ucon_model.specs.declared.command.Caller.{Caller}
use Rattle.ucon_model.specs.declared.command.Command.{Command}
use Rattle.ucon_model.specs.declared.command.Entry.{Entry}
use Rattle.ucon_model.specs.CommandLine.{command_spelling, line_read, IsCommand, LineRefusal}
use Rattle.ucon_model.specs.Document.{caller_of}
use Rattle.ucon_model.specs.Output.{Lacks, cut_at, number_read}
use Rattle.ucon_model.specs.Payload.{Told, told, entry_told, payload_spelling, caller_read, client_numbered, step_read, payload_read, ◌>>=◌}
use Rattle.ucon_model.specs.Plain.{Bytes, PlainPolicy, PlainReply}
use Rattle.ucon_model.specs.ReplyText.{IsReply, reply_read}
use Rattle.ucon_model.specs.Spelling.{reply_spelling}
use Rattle.ucon_model.specs.declared.reply.Reply.{Reply}
use Rattle.ucon_command.specs.declared.payload_fault.PayloadFault.{PayloadFault}
use Rattle.ucon_command.specs.declared.payload_fault.PayloadFault.TheVariants.{BadPlace}
use Rattle.ucon_command.specs.Payloads.{IsBadAt, entry_read, most_told, told_of}
use Rattle.ucon_command.proofs.Lengths.{CommandsAreShort, most}
use Rattle.ucon_command.proofs.LowerLaws.{NumbersLack, RepliesAreRead, RepliesAreShort}
use Rattle.ucon_command.proofs.SpelledLines.{same_bytes}

-- ---- what is written is read

pub cut_at-append : (byte : ℕ) (xs ys : Bytes) → Lacks byte xs → cut_at byte (xs ++ byte ∷ ys) ≡ Some (xs, ys)
cut_at-append byte [] ys h = rw (eq-eqb byte byte refl) refl
cut_at-append byte (x ∷ xs) ys h = rw (h.0, cut_at-append byte xs ys h.1) refl

number_back : (n : ℕ) → n < 64 → number_read (decimal n) ≡ Some n
number_back n lt = rw ((decimal_is_IsNumeral n (omega (arith, lt))).1, (bytes_eq-Decides (decimal n) (decimal n)).1 refl) refl

pub caller_back : (n : ℕ) → n < 64 → caller_read (decimal n) ≡ Some (caller_of n)
caller_back n lt = rw (number_back n lt, lt-ltb n 64 lt) refl

-- each command's text is read as the command, and has no newline
pub record CommandsAreRead (reads : Bytes → Option PlainPolicy) : Type 0 where
  pub written : (c : Command) → IsCommand c → line_read reads (command_spelling c) ≡ Ok c
  pub one_line : (c : Command) → IsCommand c → Lacks 10 (command_spelling c)

module _ (numbers : NumbersLack) (reads : Bytes → Option PlainPolicy) (commands : CommandsAreRead reads) (replies : RepliesAreRead) where
  step_back : (place : ℕ) (t : Told) → IsCommand t.command → IsReply t.reply → step_read reads place t.caller (command_spelling t.command ++ 10 ∷ reply_spelling t.reply) ≡ Ok t
  unfolding step_read
  step_back place t is_command is_reply =
      rw (cut_at-append 10 (command_spelling t.command) (reply_spelling t.reply) (commands.one_line t.command is_command), commands.written t.command is_command, replies t.reply is_reply) refl

  pub payload_back : (t : Told) → t.caller.0 < 64 → IsCommand t.command → IsReply t.reply → payload_read reads (payload_spelling t) ≡ Ok t
  unfolding payload_read
  payload_back t lt is_command is_reply =
      rw (
        cut_at-append 32 (decimal t.caller.0) (command_spelling t.command ++ 10 ∷ reply_spelling t.reply) (numbers 32 t.caller.0 (omega arith) (omega (arith, lt))),
        caller_back t.caller.0 lt,
        step_back (length (decimal t.caller.0) + 1) t is_command is_reply,
      ) refl

pub payload_short : CommandsAreShort → RepliesAreShort → (t : Told) → t.caller.0 < 2 ^ 8 → IsCommand t.command → IsReply t.reply → length (payload_spelling t) ≤ most_told t.reply
payload_short commands replies t lt is_command is_reply =
    omega (
      arith,
      length-decimal-le 3 t.caller.0 (omega arith) (omega (arith, lt)) (omega (arith, lt)),
      commands t.command is_command,
      most (command_spelling t.command),
      replies t.reply is_reply,
      length-append (decimal t.caller.0) (32 ∷ (command_spelling t.command ++ 10 ∷ reply_spelling t.reply)),
      length-append (command_spelling t.command) (10 ∷ reply_spelling t.reply),
    )

-- ---- what is read is what is written

refused : {A : Type 0} {place : ℕ} {x : A} → Err place ≡ Ok x → ⊥
refused h = false≢true (ap is_ok h)

nothing : {A : Type 0} {x : A} → None ≡ Some x → ⊥
nothing h = false≢true (ap is_some h)

bind_is : {A B : Type 0} (r : Result A ℕ) (f : A → Result B ℕ) (y : B) → (r >>= f) ≡ Ok y → (x : A) × ((r ≡ Ok x) × (f x ≡ Ok y))
bind_is (Ok x) f y h = (x, (refl, h))
bind_is (Err place) f y h = absurd (refused h)

said_is : {A : Type 0} (o : Option A) (place : ℕ) (x : A) → ok_or o place ≡ Ok x → o ≡ Some x
said_is None place x h = absurd (refused h)
said_is (Some y) place x h = ap result_ok h

command_ok : (r : Result Command LineRefusal) (c : Command) → result_ok r ≡ Some c → r ≡ Ok c
command_ok (Ok d) c h = ap (λ o. Ok (unwrap_or o d)) h
command_ok (Err f) c h = absurd (nothing h)

cut_kept : (o : Option (Bytes × Bytes)) (b : ℕ) (p : Bytes × Bytes) → option_map (λ q. (b ∷ q.0, q.1)) o ≡ Some p → (q : Bytes × Bytes) × ((o ≡ Some q) × ((b ∷ q.0, q.1) ≡ p))
cut_kept None b p h = absurd (nothing h)
cut_kept (Some q) b p h = (q, (refl, ap (λ o. unwrap_or o p) h))

mutual_cut : (byte b : ℕ) (bs : Bytes) (p : Bytes × Bytes) → ((q : Bytes × Bytes) → cut_at byte bs ≡ Some q → q.0 ++ byte ∷ q.1 ≡ bs)
    → (same : Bool) → (b == byte) ≡ same → cond {A = Option (Bytes × Bytes)} same (Some ([], bs)) (option_map (λ q. (b ∷ q.0, q.1)) (cut_at byte bs)) ≡ Some p → p.0 ++ byte ∷ p.1 ≡ b ∷ bs
mutual_cut byte b bs p next true is h =
    let e : ([], bs) ≡ p = ap (λ o. unwrap_or o p) h in
    ap (λ (q : Bytes × Bytes). q.0 ++ byte ∷ q.1) (sym e) ∙ ap (λ (n : ℕ). n ∷ bs) (sym (eqb-true b byte is))
mutual_cut byte b bs p next false is h =
    let k = cut_kept (cut_at byte bs) b p h in
    ap (λ (q : Bytes × Bytes). q.0 ++ byte ∷ q.1) (sym k.1.1) ∙ ap (λ (r : Bytes). b ∷ r) (next k.0 k.1.0)

-- what is cut is joined again
pub cut_is : (byte : ℕ) (bs : Bytes) (p : Bytes × Bytes) → cut_at byte bs ≡ Some p → p.0 ++ byte ∷ p.1 ≡ bs
cut_is byte [] p h = absurd (nothing h)
cut_is byte (b ∷ bs) p h = mutual_cut byte b bs p (cut_is byte bs) (b == byte) refl h

number_from : (bs : Bytes) (m n : ℕ) (same : Bool) → bytes_eq bs (decimal m) ≡ same → cond same (Some m) None ≡ Some n → decimal n ≡ bs
number_from bs m n true is h = ap (λ (o : Option ℕ). decimal (unwrap_or o m)) (sym h) ∙ sym (same_bytes bs (decimal m) is)
number_from bs m n false is h = absurd (nothing h)

number_is : (bs : Bytes) (n : ℕ) → number_read bs ≡ Some n → decimal n ≡ bs
number_is bs n h = number_from bs (digits_value 10 bs) n (bytes_eq bs (decimal (digits_value 10 bs))) refl h

numbered_from : (m : ℕ) (caller : Caller) (small : Bool) → nat_lt m 64 ≡ small → cond small (Some (caller_of m)) None ≡ Some caller → (caller_of m ≡ caller) × (m < 64)
numbered_from m caller true is h = (ap (λ o. unwrap_or o caller) h, ltb-true m 64 is)
numbered_from m caller false is h = absurd (nothing h)

client_from : (bs : Bytes) (o : Option ℕ) (caller : Caller) → number_read bs ≡ o → option_and_then client_numbered o ≡ Some caller → (decimal caller.0 ≡ bs) × (caller.0 < 64)
client_from bs None caller is h = absurd (nothing h)
client_from bs (Some m) caller is h =
    let k = numbered_from m caller (nat_lt m 64) refl h in
    (ap (λ (c : Caller). decimal c.0) (sym k.0) ∙ number_is bs m is, (let P : Caller → Type 0 = λ c. c.0 < 64 in subst P k.0 k.1))

-- a caller that is read is one of the 64
pub caller_is : (bs : Bytes) (caller : Caller) → caller_read bs ≡ Some caller → (decimal caller.0 ≡ bs) × (caller.0 < 64)
caller_is bs caller h = client_from bs (number_read bs) caller refl h

-- ---- as the code finds it

-- where the first of these bytes stands, and the cut there
abbrev first_at : ℕ → Bytes → ℕ
first_at byte bs = position_or_len (λ b. b == byte) bs

cut_next : (byte b : ℕ) (bs : Bytes) (same : Bool) → (b == byte) ≡ same
    → (first_at byte bs < length bs → cut_at byte bs ≡ Some (take (first_at byte bs) bs, drop (first_at byte bs + 1) bs))
    → (length bs ≤ first_at byte bs → cut_at byte bs ≡ None)
    → (cond (not same) (1 + first_at byte bs) 0 < suc (length bs)
    → cond {A = Option (Bytes × Bytes)} same (Some ([], bs)) (option_map (λ q. (b ∷ q.0, q.1)) (cut_at byte bs))
    ≡ Some (take (cond (not same) (1 + first_at byte bs) 0) (b ∷ bs), drop (cond (not same) (1 + first_at byte bs) 0 + 1) (b ∷ bs)))
    × (suc (length bs) ≤ cond (not same) (1 + first_at byte bs) 0 → cond {A = Option (Bytes × Bytes)} same (Some ([], bs)) (option_map (λ q. (b ∷ q.0, q.1)) (cut_at byte bs)) ≡ None)
cut_next byte b bs true is found none = (λ lt. refl, λ le. absurd (omega (arith, le)))
cut_next byte b bs false is found none =
    let one : 1 + first_at byte bs ≡ suc (first_at byte bs) = omega arith in
    let two : suc (first_at byte bs) + 1 ≡ suc (first_at byte bs + 1) = omega arith in (
      λ lt. rw (one, two, found (omega (arith, lt))) refl,
      λ le. rw (none (omega (arith, le))) refl,
    )

cut_first : (byte : ℕ) (bs : Bytes)
    → (first_at byte bs < length bs → cut_at byte bs ≡ Some (take (first_at byte bs) bs, drop (first_at byte bs + 1) bs)) × (length bs ≤ first_at byte bs → cut_at byte bs ≡ None)
cut_first byte [] = (λ lt. absurd (omega (arith, lt)), λ le. refl)
cut_first byte (b ∷ bs) = let next = cut_first byte bs in cut_next byte b bs (b == byte) refl next.0 next.1

place_found : (b : Bool) (n i : ℕ) → cond b (Some n) None ≡ Some i → (b ≡ true) × (n ≡ i)
place_found true n i e = (refl, cc)
place_found false n i e = absurd cc

no_place : (b : Bool) (n : ℕ) → cond b (Some n) None ≡ None → b ≡ false
no_place true n e = absurd cc
no_place false n e = refl

pub cut_here : (byte : ℕ) (bs : Bytes) (i : ℕ) → position (λ b. b == byte) bs ≡ Some i → cut_at byte bs ≡ Some (take i bs, take (length bs - (i + 1)) (drop (i + 1) bs))
cut_here byte bs i e =
    let h = place_found (nat_lt (first_at byte bs) (length bs)) (first_at byte bs) i e in
    (cut_first byte bs).0 (ltb-true _ _ h.0) ∙ ap (λ (n : ℕ). Some (take n bs, drop (n + 1) bs)) h.1
    ∙ ap (λ (r : Bytes). Some (take i bs, r)) (sym (take_all (length bs - (i + 1)) (drop (i + 1) bs) (omega (arith, length-drop (i + 1) bs))))

pub cut_nowhere : (byte : ℕ) (bs : Bytes) → position (λ b. b == byte) bs ≡ None → cut_at byte bs ≡ None
cut_nowhere byte bs e = (cut_first byte bs).1 (ltb-false _ _ (no_place (nat_lt (first_at byte bs) (length bs)) (first_at byte bs) e))

behind_one : (byte n : ℕ) (bs : Bytes) → (first_at byte (take n bs) ≡ n → first_at byte bs ≡ n + first_at byte (drop n bs))
    → (same : Bool) → cond (not same) (1 + first_at byte (take n bs)) 0 ≡ suc n → cond (not same) (1 + first_at byte bs) 0 ≡ suc n + first_at byte (drop n bs)
behind_one byte n bs next true h = absurd (omega (arith, h))
behind_one byte n bs next false h = omega (arith, next (omega (arith, h)))

-- where none of the bytes at the front is the one that is sought, it stands as far behind them as among the others
behind_front : (byte n : ℕ) (bs : Bytes) → first_at byte (take n bs) ≡ n → first_at byte bs ≡ n + first_at byte (drop n bs)
behind_front byte zero bs is = omega arith
behind_front byte (suc n) [] is = absurd (omega (arith, is))
behind_front byte (suc n) (b ∷ bs) is = behind_one byte n bs (behind_front byte n bs) (b == byte) is

pub place_behind : (byte n : ℕ) (bs : Bytes) → n ≤ length bs → first_at byte (take n bs) ≡ n
    → position (λ b. b == byte) bs ≡ option_map (λ i. n + i) (position (λ b. b == byte) (drop n bs))
place_behind byte n bs le is = by (nat_lt (first_at byte (drop n bs)) (length (drop n bs))) refl
  where
    at : first_at byte bs ≡ n + first_at byte (drop n bs)
    at = behind_front byte n bs is

    by : (below : Bool) → nat_lt (first_at byte (drop n bs)) (length (drop n bs)) ≡ below
        → position (λ b. b == byte) bs ≡ option_map (λ i. n + i) (cond below (Some (first_at byte (drop n bs))) None)
    by true h =
        let lt : first_at byte bs < length bs = omega (arith, at, le, length-drop n bs, ltb-true _ _ h) in
        ap (λ b. cond b (Some (first_at byte bs)) None) (lt-ltb _ _ lt) ∙ ap (λ (i : ℕ). Some i) at
    by false h =
        let ge : length bs ≤ first_at byte bs = omega (arith, at, le, length-drop n bs, ltb-false _ _ h) in
        ap (λ b. cond b (Some (first_at byte bs)) None) (le-ltb _ _ ge)

-- the two digits of a client's number, or the one
pub one_digit : (n : ℕ) → n < 10 → decimal n ≡ (48 + n) ∷ []
one_digit n lt = decimal_digit n lt

pub both_digits : (n : ℕ) → 10 ≤ n → n < 64 → decimal n ≡ (48 + n / 10) ∷ (48 + n % 10) ∷ []
both_digits n le lt = decimal_step n le (omega (arith, lt)) ∙ ap (λ (ds : Bytes). ds ++ (48 + n % 10) ∷ []) (decimal_digit (n / 10) (omega (arith, lt)))

-- whether bytes are a number's decimal, by a comparison with what it is spelled as
pub decimal_by : (n : ℕ) (bs spelled : Bytes) (same : Bool) → decimal n ≡ spelled → same ≡ bytes_eq bs spelled → (same ≡ true → decimal n ≡ bs) × (decimal n ≡ bs → same ≡ true)
decimal_by n bs spelled same is by = (
  λ yes. is ∙ sym ((bytes_eq-Decides bs spelled).0 (sym by ∙ yes)),
  λ one. by ∙ (bytes_eq-Decides bs spelled).1 (sym one ∙ is),
)

-- the digits of a client's number, by how many they are
pub digits_are : (n : ℕ) (bs : Bytes) → n < 64 → decimal n ≡ bs
    → ((length bs ≡ 1) × (get_or bs 0 0 ≡ 48 + n)) ⊎ ((length bs ≡ 2) × ((get_or bs 0 0 - 48) * 10 + (get_or bs 1 0 - 48) ≡ n))
digits_are n bs lt e = ⊎_elim
    (λ (few : n < 10). inl (let same : (48 + n) ∷ [] ≡ bs = sym (one_digit n few) ∙ e in (ap length (sym same), ap (λ (ds : Bytes). get_or ds 0 0) (sym same))))
    (λ (many : 10 ≤ n). inr (let same : (48 + n / 10) ∷ (48 + n % 10) ∷ [] ≡ bs = sym (both_digits n many lt) ∙ e in (ap length (sym same), ap (λ (ds : Bytes). (get_or ds 0 0 - 48) * 10 + (get_or ds 1 0 - 48)) (sym same) ∙ omega arith)))
    (cases_lt n 10)

pub caller_spelled : (bs : Bytes) (n : ℕ) → n < 64 → decimal n ≡ bs → Some (caller_of n) ≡ caller_read bs
caller_spelled bs n lt e = sym (caller_back n lt) ∙ ap caller_read e

-- a digit is the number of a client
pub digit_read : (unit : ℕ) → 48 ≤ unit → unit ≤ 57 → caller_read (unit ∷ []) ≡ Some (caller_of (unit - 48))
digit_read unit le lt =
    let digit : 48 + (unit - 48) ≡ unit = omega (arith, le) in
    sym (caller_spelled (unit ∷ []) (unit - 48) (omega (arith, lt)) (one_digit (unit - 48) (omega (arith, lt)) ∙ ap (λ (b : ℕ). b ∷ []) digit))

caller_none : (bs : Bytes) (o : Option Caller) → caller_read bs ≡ o → ((n : ℕ) → n < 64 → decimal n ≡ bs → ⊥) → None ≡ caller_read bs
caller_none bs None is h = sym is
caller_none bs (Some caller) is h = let k = caller_is bs caller is in absurd (h caller.0 k.1 k.0)

-- no client is spelled
pub no_caller : (bs : Bytes) → ((n : ℕ) → n < 64 → decimal n ≡ bs → ⊥) → None ≡ caller_read bs
no_caller bs h = caller_none bs (caller_read bs) refl h

-- ---- steps

-- a line that is read is the text of the command read
abbrev pub CommandsAreSpelled : (Bytes → Option PlainPolicy) → Type 0
CommandsAreSpelled reads = (line : Bytes) (c : Command) → line_read reads line ≡ Ok c → command_spelling c ≡ line

-- bytes that are read are the text of the reply read
abbrev pub RepliesAreSpelled : Type 0
RepliesAreSpelled = (bytes : Bytes) (r : PlainReply) → reply_read bytes ≡ Some r → reply_spelling r ≡ bytes

module _ (reads : Bytes → Option PlainPolicy) (commands : CommandsAreSpelled reads) (replies : RepliesAreSpelled) where
  step_is : (place : ℕ) (caller : Caller) (bytes : Bytes) (t : Told) → step_read reads place caller bytes ≡ Ok t
      → (caller ≡ t.caller) × (command_spelling t.command ++ 10 ∷ reply_spelling t.reply ≡ bytes)
  unfolding step_read
  step_is place caller bytes t h =
      let cut = bind_is (ok_or (cut_at 10 bytes) place) _ t h in
      let parts : Bytes × Bytes = cut.0 in
      let first = bind_is (ok_or (result_ok (line_read reads parts.0)) place) _ t cut.1.1 in
      let second = bind_is (ok_or (reply_read parts.1) (place + length parts.0 + 1)) _ t first.1.1 in
      let same : record { caller = caller; command = first.0; reply = second.0 } ≡ t = ap (λ r. result_unwrap_or r t) second.1.1 in
      let command : command_spelling first.0 ≡ parts.0 = commands parts.0 first.0 (command_ok (line_read reads parts.0) first.0 (said_is _ place first.0 first.1.0)) in
      let reply : reply_spelling second.0 ≡ parts.1 = replies parts.1 second.0 (said_is _ _ second.0 second.1.0) in (
        ap (λ (u : Told). u.caller) same,
        ap (λ (u : Told). command_spelling u.command ++ 10 ∷ reply_spelling u.reply) (sym same)
            ∙ ap (λ (l : Bytes). l ++ 10 ∷ reply_spelling second.0) command ∙ ap (λ (l : Bytes). parts.0 ++ 10 ∷ l) reply
            ∙ cut_is 10 bytes parts (said_is _ place parts cut.1.0),
      )

  pub payload_from : (bytes : Bytes) (t : Told) → payload_read reads bytes ≡ Ok t → (payload_spelling t ≡ bytes) × (t.caller.0 < 64)
  unfolding payload_read
  payload_from bytes t h =
      let cut = bind_is (ok_or (cut_at 32 bytes) 0) _ t h in
      let parts : Bytes × Bytes = cut.0 in
      let client = bind_is (ok_or (caller_read parts.0) 0) _ t cut.1.1 in
      let rest = step_is (length parts.0 + 1) client.0 parts.1 t client.1.1 in
      let caller = caller_is parts.0 client.0 (said_is _ 0 client.0 client.1.0) in (
        ap (λ (c : Caller). decimal c.0 ++ 32 ∷ (command_spelling t.command ++ 10 ∷ reply_spelling t.reply)) (sym rest.0)
            ∙ ap (λ (w : Bytes). w ++ 32 ∷ (command_spelling t.command ++ 10 ∷ reply_spelling t.reply)) caller.0
            ∙ ap (λ (w : Bytes). parts.0 ++ 32 ∷ w) rest.1 ∙ cut_is 32 bytes parts (said_is _ 0 parts cut.1.0),
        (let P : Caller → Type 0 = λ c. c.0 < 64 in subst P rest.0 caller.1),
      )

-- bytes that are read are the payload of the step read, which is of one of the 64 clients
abbrev pub StepsAreSpelled : (Bytes → Option PlainPolicy) → Type 0
StepsAreSpelled reads = (bytes : Bytes) (t : Told) → payload_read reads bytes ≡ Ok t → (payload_spelling t ≡ bytes) × (t.caller.0 < 64)

-- so what the code reads is spelled as it was, and of one of the 64 clients
pub read_is : (reads : Bytes → Option PlainPolicy) → StepsAreSpelled reads → (bytes : Bytes) (r : Result (Caller × Command × Reply) PayloadFault) → MatchResult r (λ t. payload_read reads bytes ≡ Ok (told_of t.0 t.1 t.2)) (IsBadAt (payload_read reads bytes))
    → (IfOk r (λ t. payload_spelling (told_of t.0 t.1 t.2) ≡ bytes)) × (IfOk r (λ t. t.0.0 < 64))
read_is reads as_read bytes (Ok t) h = as_read bytes (told_of t.0 t.1 t.2) h
read_is reads as_read bytes (Err f) h = (tt, tt)

-- however the texts of policies are read
module _ (reads : Bytes → Option PlainPolicy) where
  -- a fault of the command or the reply stands behind the caller
  refused_behind : {A B : Type 0} (place p : ℕ) (o : Option A) (f : A → Result B ℕ) → ((x : A) → f x ≡ Err p → place ≤ p) → (ok_or o place >>= f) ≡ Err p → place ≤ p
  refused_behind place p None f next h = omega (arith, (let same : place ≡ p = ap (λ r. unwrap_or (result_err r) p) h in same))
  refused_behind place p (Some x) f next h = next x h

  step_behind : (place : ℕ) (caller : Caller) (bytes : Bytes) (p : ℕ) → step_read reads place caller bytes ≡ Err p → place ≤ p
  unfolding step_read
  step_behind place caller bytes p h =
      refused_behind place p (cut_at 10 bytes) _ (λ parts. refused_behind place p (result_ok (line_read reads parts.0)) _ (λ command k.
      let behind : place + length parts.0 + 1 ≤ p = refused_behind (place + length parts.0 + 1) p (reply_read parts.1) _ (λ reply ok. absurd (false≢true (sym (ap is_ok ok)))) k in
      omega (arith, behind))) h

  pub no_client : (bytes : Bytes) (client rest : Bytes) (caller : Caller) → cut_at 32 bytes ≡ Some (client, rest) → caller_read client ≡ Some caller → payload_read reads bytes ≡ Err 0 → ⊥
  unfolding payload_read
  no_client bytes client rest caller cut is h =
      let step : payload_read reads bytes ≡ step_read reads (length client + 1) caller rest = rw (cut, is) refl in
      omega (arith, step_behind (length client + 1) caller rest 0 (sym step ∙ h))

-- ---- the entry alone

-- what is read of a whole payload beside what is read of its entry alone: refused at one place, or, of one of the 64 clients, by the reply behind it
abbrev IsOfOne : Result Told ℕ → Result (Entry × Bytes) ℕ → Type 0
IsOfOne whole (Err place) = whole ≡ Err place
IsOfOne whole (Ok p) = (p.0.caller.0 < 64) × ((place : ℕ) × (whole ≡ (ok_or (reply_read p.1) place >>= (λ reply. Ok (told p.0 reply)))))

part_of_one : {A : Type 0} (o : Option A) (place : ℕ) (f : A → Result Told ℕ) (g : A → Result (Entry × Bytes) ℕ) → ((x : A) → o ≡ Some x → IsOfOne (f x) (g x))
    → IsOfOne (ok_or o place >>= f) (ok_or o place >>= g)
part_of_one None place f g next = refl
part_of_one (Some x) place f g next = next x refl

module _ (reads : Bytes → Option PlainPolicy) where
  entry_of_one : (bytes : Bytes) → IsOfOne (payload_read reads bytes) (entry_read reads bytes)
  unfolding payload_read step_read entry_read
  entry_of_one bytes =
      part_of_one (cut_at 32 bytes) 0 _ _ (λ parts _.
      part_of_one (caller_read parts.0) 0 _ _ (λ caller is.
      part_of_one (cut_at 10 parts.1) (length parts.0 + 1) _ _ (λ step _.
      part_of_one (result_ok (line_read reads step.0)) (length parts.0 + 1) _ _ (λ command _.
      ((caller_is parts.0 caller is).1, (length parts.0 + 1 + length step.0 + 1, refl))))))

  -- what the payload tells, where its entry is read: by the reply behind
  by_reply : (bytes : Bytes) (e : Entry) (rest : Bytes) → entry_read reads bytes ≡ Ok (e, rest) → IsOfOne (payload_read reads bytes) (Ok (e, rest))
  by_reply bytes e rest is = subst (IsOfOne (payload_read reads bytes)) is (entry_of_one bytes)

  told_from : (bytes : Bytes) (e : Entry) (rest : Bytes) → entry_read reads bytes ≡ Ok (e, rest) → (t : Told) → payload_read reads bytes ≡ Ok t → e ≡ entry_told t
  told_from bytes e rest is t h =
      let one = by_reply bytes e rest is in
      let reply = bind_is (ok_or (reply_read rest) one.1.0) (λ r. Ok (told e r)) t (sym one.1.1 ∙ h) in
      ap (λ r. entry_told (result_unwrap_or r (told e reply.0))) reply.1.1

  -- a reply that is read behind the entry is the payload's
  pub reply_behind : (bytes : Bytes) (e : Entry) (rest : Bytes) (r : PlainReply) → entry_read reads bytes ≡ Ok (e, rest) → reply_read rest ≡ Some r → payload_read reads bytes ≡ Ok (told e r)
  reply_behind bytes e rest r is h =
      let one = by_reply bytes e rest is in
      one.1.1 ∙ ap (λ o. ok_or o one.1.0 >>= (λ reply. Ok (told e reply))) h

  -- so what the code reads is the entry of the step that the payload tells
  pub entry_is : {A : Type 0} (bytes : Bytes) (e : Entry) (text : A → Bytes) (r : Result A PayloadFault)
      → MatchResult r (λ a. entry_read reads bytes ≡ Ok (e, text a)) (IsBadAt (entry_read reads bytes))
      → OnOk r ((t : Told) → payload_read reads bytes ≡ Ok t → e ≡ entry_told t)
      × ((place : ℕ) → r ≡ Err (BadPlace place) → payload_read reads bytes ≡ Err place)
      × OnOk r (e.caller.0 < 64)
  entry_is bytes e text (Ok a) is = (told_from bytes e (text a) is, λ place h. absurd (false≢true (ap is_ok (sym h))), (by_reply bytes e (text a) is).0)
  entry_is bytes e text (Err fault) is = (
    tt,
    λ place h.
        let same : fault ≡ BadPlace place = ap (λ r. unwrap_or (result_err r) fault) h in
        let bad : entry_read reads bytes ≡ Err place = subst (IsBadAt (entry_read reads bytes)) same is in
        subst (IsOfOne (payload_read reads bytes)) bad (entry_of_one bytes),
    tt,
  )

  -- an entry that is read is spelled as it stands, before what stands behind it
  module _ (commands : CommandsAreSpelled reads) where
    pub entry_spelled : (bytes : Bytes) (e : Entry) (rest : Bytes) → entry_read reads bytes ≡ Ok (e, rest)
        → decimal e.caller.0 ++ 32 ∷ (command_spelling e.command ++ 10 ∷ rest) ≡ bytes
    unfolding entry_read
    entry_spelled bytes e rest h =
        let cut = bind_is (ok_or (cut_at 32 bytes) 0) _ (e, rest) h in
        let parts : Bytes × Bytes = cut.0 in
        let client = bind_is (ok_or (caller_read parts.0) 0) _ (e, rest) cut.1.1 in
        let step = bind_is (ok_or (cut_at 10 parts.1) (length parts.0 + 1)) _ (e, rest) client.1.1 in
        let line = bind_is (ok_or (result_ok (line_read reads step.0.0)) (length parts.0 + 1)) _ (e, rest) step.1.1 in
        let same : (record { caller = client.0; command = line.0 }, step.0.1) ≡ (e, rest) = ap (λ r. result_unwrap_or r (e, rest)) line.1.1 in
        let caller = caller_is parts.0 client.0 (said_is _ 0 client.0 client.1.0) in
        let command : command_spelling line.0 ≡ step.0.0 = commands step.0.0 line.0 (command_ok (line_read reads step.0.0) line.0 (said_is _ _ line.0 line.1.0)) in
        ap (λ (p : Entry × Bytes). decimal p.0.caller.0 ++ 32 ∷ (command_spelling p.0.command ++ 10 ∷ p.1)) (sym same)
        ∙ ap (λ (w : Bytes). w ++ 32 ∷ (command_spelling line.0 ++ 10 ∷ step.0.1)) caller.0
        ∙ ap (λ (w : Bytes). parts.0 ++ 32 ∷ (w ++ 10 ∷ step.0.1)) command
        ∙ ap (λ (w : Bytes). parts.0 ++ 32 ∷ w) (cut_is 10 parts.1 step.0 (said_is _ _ step.0 step.1.0))
        ∙ cut_is 32 bytes parts (said_is _ 0 parts cut.1.0)

    -- what stands before a step's reply
    abbrev front_of : Entry → Bytes
    front_of e = decimal e.caller.0 ++ 32 ∷ (command_spelling e.command ++ 10 ∷ [])

    front_told : (e : Entry) (rest : Bytes) → decimal e.caller.0 ++ 32 ∷ (command_spelling e.command ++ 10 ∷ rest) ≡ front_of e ++ rest
    front_told e rest =
        ap (λ (bs : Bytes). decimal e.caller.0 ++ 32 ∷ bs) (sym (append_assoc (command_spelling e.command) (10 ∷ []) rest))
        ∙ sym (append_assoc (decimal e.caller.0) (32 ∷ (command_spelling e.command ++ 10 ∷ [])) rest)

    same_behind : (front a b : Bytes) (same : Bool) → bytes_eq a b ≡ same → same ≡ bytes_eq (front ++ a) (front ++ b)
    same_behind front a b true is = sym ((bytes_eq-Decides (front ++ a) (front ++ b)).1 (ap (λ (x : Bytes). front ++ x) ((bytes_eq-Decides a b).0 is)))
    same_behind front a b false is = sym (not_true (bytes_eq (front ++ a) (front ++ b)) (λ yes.
        let one : a ≡ b = sym (drop-append_seam front a) ∙ ap (drop (length front)) ((bytes_eq-Decides (front ++ a) (front ++ b)).0 yes) ∙ drop-append_seam front b in
        false≢true (sym is ∙ (bytes_eq-Decides a b).1 one)))
      where
        not_true : (x : Bool) → (x ≡ true → ⊥) → x ≡ false
        not_true true isnt = absurd (isnt refl)
        not_true false isnt = refl

    -- the payload is that of the entry with a reply exactly if the reply's text stands behind the entry
    pub reply_told : (bytes : Bytes) (e : Entry) (rest : Bytes) (r : PlainReply) → entry_read reads bytes ≡ Ok (e, rest)
        → bytes_eq (reply_spelling r) rest ≡ bytes_eq (payload_spelling (told e r)) bytes
    reply_told bytes e rest r h =
        same_behind (front_of e) (reply_spelling r) rest (bytes_eq (reply_spelling r) rest) refl
        ∙ ap (λ (x : Bytes). bytes_eq x (front_of e ++ rest)) (sym (front_told e (reply_spelling r)))
        ∙ ap (λ (x : Bytes). bytes_eq (payload_spelling (told e r)) x) (sym (front_told e rest) ∙ entry_spelled bytes e rest h)
