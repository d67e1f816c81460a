-- Payloads, spelled and read, and what is found in those of a small journal.
use Rattle.std.proofs.Common.{◌≡◌, refl, [], ◌∷◌, Option, Some, None}
use Rattle.std.specs.Prelude.{Ok, Err, codes, map, if◌then◌else◌}
use Rattle.std.specs.Fmt.{digits}
use Rattle.std.specs.Str.{bytes_eq}
use Rattle.ucon_model.specs.declared.command.Command.TheVariants as commands
use Rattle.ucon_model.specs.CommandLine.{command_spelling, line_read, command_read, one_word}
use Rattle.ucon_model.specs.Found.{taken, only_steps, found_in, payloads_of, fresh, damaged, holds}
use Rattle.ucon_model.specs.Payload.{told, payload_spelling, payload_read, step_read}
use Rattle.ucon_model.specs.Plain.{Bytes, PlainPolicy}
use Rattle.ucon_model.specs.ReplyText.{reply_read, told_read, made_read, labelled_read, one_revoked}
use Rattle.ucon_model.proofs.Scenes.{by, ok}

-- `right r {}` and a newline
abbrev bare_right : Bytes
bare_right = 114 ∷ 105 ∷ 103 ∷ 104 ∷ 116 ∷ 32 ∷ 114 ∷ 32 ∷ 123 ∷ 125 ∷ 10 ∷ []

abbrev bare_policy : PlainPolicy
bare_policy = record { attrs = []; envs = []; rights = record { name = codes "r"; preds = []; updates = [] } ∷ [] }

-- this text and no other is a policy's
abbrev reads_bare : Bytes → Option PlainPolicy
reads_bare text = if bytes_eq text bare_right then Some bare_policy else None

-- `0 subject a`, a newline, `ok`
abbrev subject_a : Bytes
subject_a = 48 ∷ 32 ∷ 115 ∷ 117 ∷ 98 ∷ 106 ∷ 101 ∷ 99 ∷ 116 ∷ 32 ∷ 97 ∷ 10 ∷ 111 ∷ 107 ∷ []

spelled : payload_spelling (told (by 0 (commands.Subject (codes "a"))) ok) ≡ subject_a
unfolding command_spelling digits
spelled = refl

read : payload_read reads_bare subject_a ≡ Ok (told (by 0 (commands.Subject (codes "a"))) ok)
unfolding payload_read step_read line_read command_read one_word reply_read told_read made_read digits
read = refl

-- The first part that is none: the caller, where it is above 63, has a leading zero or no space behind it; the command, also where no
-- newline ends it; the reply.
refused_at : map (payload_read reads_bare) (codes "64 end 7" ∷ codes "07 end 7" ∷ codes "7" ∷ [] ∷ codes "63 end 7" ∷ codes "63 end x\nok" ∷ codes "63 end 7\noj" ∷ codes "63 end 7\n" ∷ [])
    ≡ Err 0 ∷ Err 0 ∷ Err 0 ∷ Err 0 ∷ Err 3 ∷ Err 3 ∷ Err 9 ∷ Err 9 ∷ []
unfolding payload_read step_read line_read command_read one_word reply_read told_read made_read digits
refused_at = refl

-- a journal of one step
one_step : payloads_of bare_right bare_policy (by 0 (commands.Subject (codes "a")) ∷ []) ≡ bare_right ∷ subject_a ∷ []
unfolding command_spelling digits
one_step = refl

found_one_step : found_in reads_bare (only_steps reads_bare) (bare_right ∷ subject_a ∷ []) ≡ holds bare_right bare_policy (by 0 (commands.Subject (codes "a")) ∷ []) 43
unfolding taken payload_read step_read line_read command_read one_word reply_read told_read made_read digits
found_one_step = refl

-- a reply's text that is damaged, and a step of a caller that may not take it, whatever it says it was answered
damaged_reply : found_in reads_bare (only_steps reads_bare) (bare_right ∷ codes "0 subject a\noj" ∷ []) ≡ damaged 1 24
unfolding taken payload_read step_read line_read command_read one_word reply_read told_read made_read digits
damaged_reply = refl

not_the_reply : found_in reads_bare (only_steps reads_bare) (bare_right ∷ codes "1 subject a\nok" ∷ []) ≡ damaged 1 24
unfolding taken payload_read step_read line_read command_read one_word reply_read told_read made_read digits
not_the_reply = refl

changes_nothing : found_in reads_bare (only_steps reads_bare) (bare_right ∷ codes "1 subject a\nnot admin" ∷ []) ≡ damaged 1 24
unfolding taken payload_read step_read line_read command_read one_word reply_read told_read made_read digits
changes_nothing = refl

other_revocations : found_in reads_bare (only_steps reads_bare) (bare_right ∷ codes "0 subject a\nok revoked 1 cap" ∷ []) ≡ damaged 1 24
unfolding taken payload_read step_read line_read command_read one_word reply_read told_read made_read one_revoked labelled_read digits
other_revocations = refl

-- the first wrong record is told: record 0 where its policy isn't accepted, and a step that is done a second time
first_wrong : map (found_in reads_bare (only_steps reads_bare)) ([] ∷ (codes "right" ∷ codes "x" ∷ []) ∷ (bare_right ∷ subject_a ∷ subject_a ∷ codes "x" ∷ []) ∷ [])
    ≡ fresh ∷ damaged 0 8 ∷ damaged 2 43 ∷ []
unfolding taken payload_read step_read line_read command_read one_word reply_read told_read made_read digits
first_wrong = refl
