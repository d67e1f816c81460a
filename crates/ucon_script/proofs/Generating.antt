-- What a generated document says.
use Rattle.std.proofs.Common.{⊎_elim, ◌≡◌, ℕ, zero, suc, ◌+◌, ◌*◌, ◌<◌, ◌≤◌, ◌^◌, Bool, true, false, cond, List, [], ◌∷◌, ◌++◌, length, map, refl, sym, ap, subst, ◌∙◌, arith, append_assoc, length-append}
use Rattle.std.specs.Prelude.{Option, Some, None, option_map, unwrap_or, IsOkAnd, not, Result, Ok, Err, codes, nat_lt, ◌==◌, ⊤}
use Rattle.std.specs.List.{list_all}
use Rattle.std.specs.Fmt.{decimal, digits}
use Rattle.std.proofs.lemmas.Bool.{and_parts, cases_lt, lt-ltb}
use Rattle.std.proofs.lemmas.Fmt.{decimal_digit}
use Rattle.std.proofs.lemmas.List.{append-nil, map-append, length-map}
use Rattle.ucon_model.specs.declared.command.Caller.{Caller}
use Rattle.ucon_model.specs.declared.command.Command.{Command}
use Rattle.ucon_model.specs.declared.command.Command.TheVariants.{Subject, Object, Set, Env, Tick, Act, Try, Again, Beat, End, Look, Value, Amend}
use Rattle.ucon_model.specs.declared.command.Entry.{Entry}
use Rattle.ucon_model.specs.Plain.{Bytes}
use Rattle.ucon_model.specs.CommandLine.{IsCommand, command_spelling, line_read}
use Rattle.ucon_model.specs.Document.{ScriptLine, DocumentRefusal, too_many_clients, lines_of, is_divider, before_divider, policy_part, is_skipped, is_heading, heading_number, caller_of, heading_told, command_told, said_told, line_told, before_next, script_lines, script_number, script_told, document_read, entry_of, entries_of}
use Rattle.ucon_model.specs.Generated.{Generator, user, video, credit_set, drawn, by, first, opening, seeded, all_drawn, part_lines, entry_lines, text_of, generated_policy, generated_head, generated, generated_entries}
use Rattle.ucon_base.specs.Elements.{Each}
use Rattle.ucon_model.specs.Output.{Lacks}
use Rattle.ucon_syntax.specs.Policies.{accepted}
use Rattle.ucon_script.specs.Lines.{client_after, count_after, told_from}
use Rattle.ucon_script.proofs.Scripts.{told_below}
use Rattle.ucon_script.proofs.Drawing.{IsShort, IsWithin, user_named, video_named, in_range, all_short, length-all_drawn}

-- commands are read as they are spelled, each on a line
pub record AreReadBack : Type 0 where
  pub written : (c : Command) → IsCommand c → line_read accepted (command_spelling c) ≡ Ok c
  pub one_line : (c : Command) → IsCommand c → Lacks 10 (command_spelling c)

-- ---- lines

text_of-append : (xs ys : List Bytes) → text_of (xs ++ ys) ≡ text_of xs ++ text_of ys
text_of-append [] ys = refl
text_of-append (x ∷ xs) ys = ap (λ (t : Bytes). x ++ 10 ∷ t) (text_of-append xs ys) ∙ sym (append_assoc x (10 ∷ text_of xs) (text_of ys))

cut_first : (line rest : Bytes) → Lacks 10 line → lines_of (line ++ 10 ∷ rest) ≡ line ∷ lines_of rest
cut_first [] rest h = refl
cut_first (b ∷ bs) rest h = rw (h.0, cut_first bs rest h.1) refl

-- lines, each with a newline, are followed by an empty one
lines_of-text_of : (ls : List Bytes) → Each (Lacks 10) ls → lines_of (text_of ls) ≡ ls ++ [] ∷ []
lines_of-text_of [] h = refl
lines_of-text_of (l ∷ ls) h = cut_first l (text_of ls) h.0 ∙ ap (λ (rest : List Bytes). l ∷ rest) (lines_of-text_of ls h.1)

each-append : {A : Type 0} (P : A → Type 0) (xs ys : List A) → Each P xs → Each P ys → Each P (xs ++ ys)
each-append P [] ys h k = k
each-append P (x ∷ xs) ys h k = (h.0, each-append P xs ys h.1 k)

not_true : (b : Bool) → not b ≡ true → b ≡ false
not_true false e = refl
not_true true e = absurd cc

lacks_tested : (byte : ℕ) (text : Bytes) → list_all (λ b. not (b == byte)) text ≡ true → Lacks byte text
lacks_tested byte [] e = tt
lacks_tested byte (b ∷ bs) e =
    let parts = and_parts (not (b == byte)) (list_all (λ b. not (b == byte)) bs) e in
    (not_true (b == byte) parts.0, lacks_tested byte bs parts.1)

all_lack : (ls : List Bytes) → list_all (λ l. list_all (λ b. not (b == 10)) l) ls ≡ true → Each (Lacks 10) ls
all_lack [] e = tt
all_lack (l ∷ ls) e =
    let parts = and_parts (list_all (λ b. not (b == 10)) l) (list_all (λ l. list_all (λ b. not (b == 10)) l) ls) e in
    (lacks_tested 10 l parts.0, all_lack ls parts.1)

-- ---- headings

abbrev heading : ℕ → Bytes
heading k = codes "client " ++ decimal k

-- of each number below n
abbrev AllBelow : (ℕ → Type 0) → ℕ → Type 0
AllBelow P zero = ⊤
AllBelow P (suc n) = AllBelow P n × P n

pick : (P : ℕ → Type 0) (n k : ℕ) → AllBelow P n → k < n → P k
pick P zero k all lt = absurd (omega (arith, lt))
pick P (suc n) k all lt = ⊎_elim (pick P n k all.0) (λ over. (let e : k ≡ n = omega (arith, lt, over) in subst P (sym e) all.1)) (cases_lt k n)

heading_told_is : (k : ℕ) → k < 10 → heading_number (heading k) ≡ Some k
unfolding digits
heading_told_is k lt =
    pick (λ k. heading_number (heading k) ≡ Some k) 10 k ((((((((((tt, refl), refl), refl), refl), refl), refl), refl), refl), refl), refl) lt

heading_lacks : (k : ℕ) → k < 10 → Lacks 10 (heading k)
unfolding digits
heading_lacks k lt =
    lacks_tested 10 (heading k) (pick (λ k. list_all (λ b. not (b == 10)) (heading k) ≡ true) 10 k ((((((((((tt, refl), refl), refl), refl), refl), refl), refl), refl), refl), refl) lt)

-- ---- what lines say

-- the lines from this one on, below a heading of this client, if any, and so many command lines, say these entries
pub record Says (n : ℕ) (client : Option Caller) (said : ℕ) (ls : List Bytes) (es : List Entry) : Type 0 where
  pub lines : List ScriptLine
  pub told : told_from n client said ls ≡ Ok lines
  pub entries : entries_of lines ≡ es

heading_says : (k n : ℕ) (client : Option Caller) (said : ℕ) (rest : List Bytes) (es : List Entry) → k < 10
    → Says (n + 1) (Some (caller_of k)) said rest es → Says n client said (heading k ∷ rest) es
heading_says k n client said rest es lt next = record {
  lines = next.lines;
  told = ap (λ (o : Option ℕ). before_next (heading_told n o) (told_from (n + 1) (option_map caller_of o) said rest)) (heading_told_is k lt)
      ∙ ap (λ (b : Bool). before_next (cond b (Ok None) (Err (too_many_clients n))) (told_from (n + 1) (Some (caller_of k)) said rest)) (lt-ltb k 64 (omega (arith, lt)))
      ∙ ap (before_next (Ok None)) next.told;
  entries = next.entries;
}

-- a command's line is neither skipped nor a heading
command_said : (c : Command) → (is_skipped (command_spelling c) ≡ false) × (is_heading (command_spelling c) ≡ false)
unfolding command_spelling
command_said (Subject name) = (refl, refl)
command_said (Object name) = (refl, refl)
command_said (Set side name attr v) = (refl, refl)
command_said (Env name v) = (refl, refl)
command_said (Tick t) = (refl, refl)
command_said (Act s a o) = (refl, refl)
command_said (Try s r o) = (refl, refl)
command_said (Again n) = (refl, refl)
command_said (Beat n) = (refl, refl)
command_said (End n) = (refl, refl)
command_said (Look n) = (refl, refl)
command_said (Value side name attr) = (refl, refl)
command_said (Amend a) = (refl, refl)

command_says : AreReadBack → (k n said : ℕ) (c : Command) (rest : List Bytes) (es : List Entry) → IsCommand c → said < 262144
    → Says (n + 1) (Some (caller_of k)) (said + 1) rest es → Says n (Some (caller_of k)) said (command_spelling c ∷ rest) (by k c ∷ es)
command_says back k n said c rest es is lt next =
    let plain = command_said c in record {
      lines = record { number = n; caller = caller_of k; command = c } ∷ next.lines;
      told = rw (plain.0, plain.1, lt-ltb said 262144 lt, back.written c is, next.told) refl;
      entries = ap (λ (rest : List Entry). by k c ∷ rest) next.entries;
    }

commands_say : AreReadBack → (k : ℕ) (cs : List Command) (rest : List Bytes) (es : List Entry) → Each IsCommand cs → (n said : ℕ) → said + length cs ≤ 262144
    → ((m s : ℕ) → s ≡ said + length cs → Says m (Some (caller_of k)) s rest es) → Says n (Some (caller_of k)) said (map command_spelling cs ++ rest) (map (by k) cs ++ es)
commands_say back k [] rest es are n said few next = next n said (omega arith)
commands_say back k (c ∷ cs) rest es are n said few next =
    command_says back k n said c (map command_spelling cs ++ rest) (map (by k) cs ++ es) are.0 (omega (arith, few))
    (commands_say back k cs rest es are.1 (n + 1) (said + 1) (omega (arith, few)) (λ m s e. next m s (omega (arith, e))))

entries_say : AreReadBack → (es : List Entry) → Each IsShort es → (n : ℕ) (client : Option Caller) (said : ℕ) → said + length es ≤ 262144
    → Says n client said (entry_lines es ++ [] ∷ []) es
entries_say back [] are n client said few = record { lines = []; told = refl; entries = refl }
entries_say back (e ∷ es) are n client said few =
    heading_says e.caller.0 n client said (command_spelling e.command ∷ (entry_lines es ++ [] ∷ [])) (e ∷ es) are.0.client
    (command_says back e.caller.0 (n + 1) said e.command (entry_lines es ++ [] ∷ []) es are.0.command (omega (arith, few))
    (entries_say back es are.1 (n + 1 + 1) (Some e.caller) (said + 1) (omega (arith, few))))

-- ---- the opening lines

each-map : {A B : Type 0} (P : B → Type 0) (f : A → B) (xs : List A) → Each (λ x. P (f x)) xs → Each P (map f xs)
each-map P f [] h = tt
each-map P f (x ∷ xs) h = (h.0, each-map P f xs h.1)

each-first : (P : ℕ → Type 0) (k n : ℕ) → ((i : ℕ) → i < n → P i) → k ≤ n → Each P (first k)
each-first P zero n all le = tt
each-first P (suc k) n all le = each-append P (first k) (k ∷ []) (each-first P k n all (omega (arith, le))) (all k (omega (arith, le)), tt)

subjects_are : Each IsCommand (map (λ n. Subject (user n)) (first 10))
subjects_are = each-map IsCommand (λ n. Subject (user n)) (first 10) (each-first (λ n. IsCommand (Subject (user n))) 10 10 user_named (omega arith))

objects_are : Each IsCommand (map (λ n. Object (video n)) (first 5))
objects_are =
    each-map IsCommand (λ n. Object (video n)) (first 5) (each-first (λ n. IsCommand (Object (video n))) 5 10 video_named (omega arith))

credits_are : Each IsCommand (map (λ n. credit_set n 100) (first 10))
credits_are =
    each-map IsCommand (λ n. credit_set n 100) (first 10)
    (each-first (λ n. IsCommand (credit_set n 100)) 10 10 (λ n lt. (user_named n lt, refl, in_range 100 (omega arith))) (omega arith))

opening_is : Each IsCommand opening
unfolding opening
opening_is =
    let subjects : List Command = map (λ n. Subject (user n)) (first 10) in
    let objects : List Command = map (λ n. Object (video n)) (first 5) in
    let credits : List Command = map (λ n. credit_set n 100) (first 10) in
    each-append IsCommand (subjects ++ objects) credits (each-append IsCommand subjects objects subjects_are objects_are) credits_are

opening_length : length opening ≡ 25
unfolding opening
opening_length = refl

-- ---- the document

seeded_short : (seed size : ℕ) → size ≤ 100000 → Each IsShort (all_drawn size (seeded seed))
seeded_short seed size few = all_short size 0 (seeded seed) (omega (arith, few)) (record { tries = omega arith; tick = omega arith })

abbrev script : ℕ → ℕ → List Bytes
script seed size = part_lines (caller_of 0) opening ++ entry_lines (all_drawn size (seeded seed))

text_is : (seed size : ℕ) → generated seed size ≡ text_of (generated_policy ++ codes "%%" ∷ script seed size)
unfolding generated generated_head
text_is seed size =
    let entries = entry_lines (all_drawn size (seeded seed)) in
    sym (text_of-append (generated_policy ++ codes "%%" ∷ part_lines (caller_of 0) opening) entries)
    ∙ ap text_of (append_assoc generated_policy (codes "%%" ∷ part_lines (caller_of 0) opening) entries)

policy_lacks : Each (Lacks 10) generated_policy
unfolding generated_policy
policy_lacks = all_lack generated_policy refl

commands_lack : AreReadBack → (cs : List Command) → Each IsCommand cs → Each (Lacks 10) (map command_spelling cs)
commands_lack back [] are = tt
commands_lack back (c ∷ cs) are = (back.one_line c are.0, commands_lack back cs are.1)

entries_lack : AreReadBack → (es : List Entry) → Each IsShort es → Each (Lacks 10) (entry_lines es)
entries_lack back [] are = tt
entries_lack back (e ∷ es) are = (heading_lacks e.caller.0 are.0.client, (back.one_line e.command are.0.command, entries_lack back es are.1))

document_lacks : AreReadBack → (seed size : ℕ) → size ≤ 100000 → Each (Lacks 10) (generated_policy ++ codes "%%" ∷ script seed size)
document_lacks back seed size few =
    let entries : Each (Lacks 10) (entry_lines (all_drawn size (seeded seed))) = entries_lack back (all_drawn size (seeded seed)) (seeded_short seed size few) in
    each-append (Lacks 10) generated_policy (codes "%%" ∷ script seed size) policy_lacks
    (lacks_tested 10 (codes "%%") refl, (heading_lacks 0 (omega arith), each-append (Lacks 10) (map command_spelling opening) _ (commands_lack back opening opening_is) entries))

lines_are : AreReadBack → (seed size : ℕ) → size ≤ 100000 → lines_of (generated seed size) ≡ generated_policy ++ codes "%%" ∷ (script seed size ++ [] ∷ [])
lines_are back seed size few =
    ap lines_of (text_is seed size) ∙ lines_of-text_of (generated_policy ++ codes "%%" ∷ script seed size) (document_lacks back seed size few)
    ∙ append_assoc generated_policy (codes "%%" ∷ script seed size) ([] ∷ [])

policy_divided : (rest : List Bytes) → before_divider (generated_policy ++ codes "%%" ∷ rest) ≡ Some (text_of generated_policy)
unfolding generated_policy
policy_divided rest = refl

script_divided : (rest : List Bytes) → script_told accepted (script_number (generated_policy ++ codes "%%" ∷ rest)) [] (script_lines (generated_policy ++ codes "%%" ∷ rest)) ≡ script_told accepted 15 [] rest
unfolding generated_policy
script_divided rest = refl

pub policy_is : AreReadBack → (seed size : ℕ) → size ≤ 100000 → policy_part (generated seed size) ≡ text_of generated_policy
policy_is back seed size few =
    ap (λ (o : Option Bytes). unwrap_or o (generated seed size)) (ap before_divider (lines_are back seed size few) ∙ policy_divided (script seed size ++ [] ∷ []))

script_says : AreReadBack → (seed size : ℕ) → size ≤ 100000 → Says 15 None 0 (script seed size ++ [] ∷ []) (generated_entries seed size)
script_says back seed size few =
    let es = all_drawn size (seeded seed) in
    let len : length es ≡ size = length-all_drawn size (seeded seed) in
    rw append_assoc (heading_says 0 15 None 0 _ _ (omega arith)
    (commands_say back 0 opening (entry_lines es ++ [] ∷ []) es opening_is 16 0 (omega (arith, opening_length))
    (λ m s e. entries_say back es (seeded_short seed size few) m (Some (caller_of 0)) s (omega (arith, e, opening_length, len, few)))))

pub says : AreReadBack → (seed size : ℕ) → size ≤ 100000 → IsOkAnd (document_read accepted (generated seed size)) (λ lines. entries_of lines ≡ generated_entries seed size)
unfolding document_read
says back seed size few =
    let told = script_says back seed size few in
    let read : document_read accepted (generated seed size) ≡ Ok told.lines =
    ap (λ (ls : List Bytes). script_told accepted (script_number ls) [] (script_lines ls)) (lines_are back seed size few) ∙ script_divided (script seed size ++ [] ∷ [])
    ∙ sym (told_below [] (script seed size ++ [] ∷ []) 15) ∙ told.told in
    rw read told.entries

-- ---- its length

entries_length : (es : List Entry) → Each IsShort es → length (text_of (entry_lines es)) ≤ 41 * length es
entries_length [] are = omega arith
entries_length (e ∷ es) are =
    let line = command_spelling e.command in
    rw (decimal_digit e.caller.0 are.0.client) (omega (arith, are.0.short, entries_length es are.1, length-append line (10 ∷ text_of (entry_lines es))))

head_length : length generated_head ≤ 2000
unfolding generated_head generated_policy opening command_spelling digits
head_length = omega arith

pub short : (seed size : ℕ) → size ≤ 100000 → length (generated seed size) ≤ 4194304
unfolding generated
short seed size few =
    let es = all_drawn size (seeded seed) in
    omega (arith, few, head_length, length-append generated_head (text_of (entry_lines es)), entries_length es (seeded_short seed size few), length-all_drawn size (seeded seed))

-- ---- one entry more

pub one_more : (n : ℕ) (g : Generator) → text_of (entry_lines (all_drawn (suc n) g)) ≡ text_of (part_lines (drawn g).entry.caller ((drawn g).entry.command ∷ [])) ++ text_of (entry_lines (all_drawn n (drawn g).after))
one_more n g = text_of-append (part_lines (drawn g).entry.caller ((drawn g).entry.command ∷ [])) (entry_lines (all_drawn n (drawn g).after))
