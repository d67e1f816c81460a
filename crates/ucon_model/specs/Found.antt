-- What a journal's payloads say, record by record. Two things are arguments: how a policy's text is read, and what a later payload may be.
use Rattle.std.specs.Prelude.{◌≡◌, ℕ, ◌+◌, Bool, ◌&&◌, nat_lt, List, [], ◌∷◌, ◌++◌, length, Option, Some, None, option_map, option_and_then}
use Rattle.std.specs.Prelude.{unwrap_or, if◌then◌else◌}
use Rattle.std.specs.Result.{result_ok}
use Rattle.std.specs.Str.{bytes_eq}
use Rattle.ucon_model.specs.History.{History, said, changes}
use Rattle.ucon_model.specs.Payload.{most_payload, Told, entry_told, told, payload_spelling, payload_read}
use Rattle.ucon_model.specs.Plain.{Bytes, PlainPolicy}
use Rattle.ucon_model.specs.Spelling.{reply_spelling}

-- What is found in a file: no record yet; no journal; a record that is wrong, by its number, from 0, and the place of its gate; or a policy's text,
-- the policy, a history, and the place of the gate behind the last record.
pub data Finding : Type 0 where
  fresh : Finding
  not_journal : Finding
  damaged : (number place : ℕ) → Finding
  holds : (text : Bytes) (P : PlainPolicy) (H : History) (gate : ℕ) → Finding

-- the place of the first gate, behind the magic
abbrev pub first_gate : ℕ
first_gate = 8

-- the place of the next gate: a record is its gate, four bytes of length, and its payload
abbrev pub next_gate : ℕ → Bytes → ℕ
next_gate gate payload = gate + 5 + length payload

-- the reply changes something, and is the serial run's reply to its command after these entries
abbrev pub is_next_step : PlainPolicy → History → Told → Bool
is_next_step P H t = changes t.reply && bytes_eq (reply_spelling t.reply) (reply_spelling (said P H t.caller t.command))

-- these entries with the step that is told, if it is the next one
abbrev pub with_step : PlainPolicy → History → Told → Option History
with_step P H t = if is_next_step P H t then Some (H ++ entry_told t ∷ []) else None

-- these entries with the step that a payload tells; none if the record is wrong
unfoldable pub taken : (Bytes → Option PlainPolicy) → PlainPolicy → History → Bytes → Option History
taken reads P H payload =
    if nat_lt most_payload (length payload) then None else option_and_then (with_step P H) (result_ok (payload_read reads payload))

-- What a payload makes of the entries before it, under a policy that has this text; none if the record is wrong.
abbrev pub Takes : Type 0
Takes = Bytes → PlainPolicy → History → Bytes → Option History

-- each payload has to tell the next step
abbrev pub only_steps : (Bytes → Option PlainPolicy) → Takes
only_steps reads text P H payload = taken reads P H payload

-- each payload that tells the next step is taken as that step
abbrev pub TakesSteps : (Bytes → Option PlainPolicy) → Takes → Type 0
TakesSteps reads takes =
    (text : Bytes) (P : PlainPolicy) (H later : History) (payload : Bytes) → taken reads P H payload ≡ Some later
    → takes text P H payload ≡ Some later

-- the policy of record 0; none if the record is wrong
abbrev pub policy_taken : (Bytes → Option PlainPolicy) → Bytes → Option PlainPolicy
policy_taken reads payload = if nat_lt most_payload (length payload) then None else reads payload

-- what is found behind these entries, from the record of this number on, whose gate is here
abbrev pub found_behind : Takes → Bytes → PlainPolicy → History → (number gate : ℕ) → List Bytes → Finding
found_behind takes text P H number gate [] = holds text P H gate
found_behind takes text P H number gate (payload ∷ payloads) =
    unwrap_or
    (option_map (λ later. found_behind takes text P later (number + 1) (next_gate gate payload) payloads) (takes text P H payload))
    (damaged number gate)

-- what is found in the payloads of a journal's records that count
abbrev pub found_in : (Bytes → Option PlainPolicy) → Takes → List Bytes → Finding
found_in reads takes [] = fresh
found_in reads takes (text ∷ payloads) =
    unwrap_or
    (option_map (λ P. found_behind takes text P [] 1 (next_gate first_gate text) payloads) (policy_taken reads text))
    (damaged 0 first_gate)

-- what is found once more payloads stand behind so many, in which this is found
abbrev pub found_on : (Bytes → Option PlainPolicy) → Takes → Finding → ℕ → List Bytes → Finding
found_on reads takes fresh number payloads = found_in reads takes payloads
found_on reads takes (holds text P H gate) number payloads = found_behind takes text P H number gate payloads
found_on reads takes found number payloads = found

-- ---- what a history leaves

-- the payloads of these entries behind others, each with its reply there
abbrev pub payloads_behind : PlainPolicy → History → History → List Bytes
payloads_behind P H [] = []
payloads_behind P H (e ∷ rest) = payload_spelling (told e (said P H e.caller e.command)) ∷ payloads_behind P (H ++ e ∷ []) rest

-- the payloads of a history's journal: the policy's text, and then each entry with its reply
abbrev pub payloads_of : Bytes → PlainPolicy → History → List Bytes
payloads_of text P H = text ∷ payloads_behind P [] H

-- the place of the gate behind these payloads' records
abbrev pub gate_behind : ℕ → List Bytes → ℕ
gate_behind gate [] = gate
gate_behind gate (payload ∷ payloads) = gate_behind (next_gate gate payload) payloads
