-- Which replies there are, and which bytes are the text of one.
use Rattle.std.specs.Prelude.{◌≡◌, ℕ, ◌<◌, ◌^◌, Bool, ◌||◌, IsTrue, ⊤, nat_eq, List, [], ◌∷◌, find, Option, Some, None, option_map, option_and_then}
use Rattle.std.specs.Prelude.{codes, if◌then◌else◌}
use Rattle.std.specs.List.{starts_with}
use Rattle.std.specs.Str.{bytes_eq}
use Rattle.ucon_base.specs.NameBytes.{is_name}
use Rattle.ucon_base.specs.Spelling.{IsValue}
use Rattle.ucon_model.specs.declared.reply.Head.{Head}
use Rattle.ucon_model.specs.declared.reply.Head.TheVariants as heads
use Rattle.ucon_model.specs.declared.reply.Refusal.{Refusal}
use Rattle.ucon_model.specs.declared.reply.Refusal.TheVariants.{NotAdmin, NoRight, NoSubject, NoObject, NoAttribute, NoVariable, NoAct, NoSession}
use Rattle.ucon_model.specs.declared.reply.Refusal.TheVariants.{NotYours, NotAccessing, NotRequesting, AlreadyThere, BadValue, TickBack, KindChanged}
use Rattle.ucon_model.specs.declared.reply.Refusal.TheVariants.{FullSubjects, FullObjects, FullActs, FullSessions, FullAccessing}
use Rattle.ucon_model.specs.declared.reply.Revoked.{Revoked}
use Rattle.ucon_model.specs.declared.session.SessionState.{SessionState}
use Rattle.ucon_model.specs.declared.session.SessionState.TheVariants as states
use Rattle.ucon_model.specs.CommandLine.{Word, words_of, with_rest, name_in, value_in, number_in}
use Rattle.ucon_base.specs.Elements.{Each}
use Rattle.ucon_model.specs.Plain.{Bytes, PlainReply, refused, made, value_is, status}
use Rattle.ucon_model.specs.Spelling.{refusal_words, state_word, reply_spelling}

-- a number of a session and a label
abbrev pub IsLabelled : ℕ → Bytes → Type 0
IsLabelled n label = (n < 2 ^ 32) × IsTrue (is_name label)

-- a head of numbers of sessions and labels
abbrev pub IsHead : Head → Type 0
IsHead heads.Ok = ⊤
IsHead (heads.Permitted n) = n < 2 ^ 32
IsHead (heads.Denied n label) = IsLabelled n label
IsHead (heads.Waiting n label) = IsLabelled n label
IsHead (heads.Ended n) = n < 2 ^ 32

-- a reply of values, numbers of sessions and labels
abbrev pub IsReply : PlainReply → Type 0
IsReply (refused r) = ⊤
IsReply (made head revoked) = IsHead head × Each (λ r. IsLabelled r.session r.label) revoked
IsReply (value_is v) = IsValue v
IsReply (status n state) = n < 2 ^ 32

-- bytes that are the text of a reply
abbrev pub IsReplyText : Bytes → Type 0
IsReplyText bytes = (r : PlainReply) × (IsReply r × (reply_spelling r ≡ bytes))

-- whether a reply's text tells that something changed: its first word is `ok`, `permitted`, `denied`, `waiting` or `ended`
abbrev pub tells_change : Bytes → Bool
tells_change text =
    starts_with nat_eq text (codes "ok") || starts_with nat_eq text (codes "permitted ") || starts_with nat_eq text (codes "denied ")
    || starts_with nat_eq text (codes "waiting ") || starts_with nat_eq text (codes "ended ")

-- ---- how a reply is read

infixl 10 ◌>>=◌
abbrev pub ◌>>=◌ : {A B : Type 0} → Option A → (A → Option B) → Option B
o >>= f = option_and_then f o

-- all refusals
abbrev pub refusals : List Refusal
refusals =
    NotAdmin ∷ NoRight ∷ NoSubject ∷ NoObject ∷ NoAttribute ∷ NoVariable ∷ NoAct ∷ NoSession
    ∷ NotYours ∷ NotAccessing ∷ NotRequesting ∷ AlreadyThere ∷ BadValue ∷ TickBack
    ∷ KindChanged ∷ FullSubjects ∷ FullObjects ∷ FullActs ∷ FullSessions ∷ FullAccessing ∷ []

-- the refusal of this text
abbrev pub refusal_read : Bytes → Option Refusal
refusal_read bytes = find (λ r. bytes_eq bytes (refusal_words r)) refusals

-- all states of a session
abbrev pub session_states : List SessionState
session_states = states.Requesting ∷ states.Denied ∷ states.Accessing ∷ states.Revoked ∷ states.Ended ∷ []

-- the state of this word
abbrev pub state_read : Bytes → Option SessionState
state_read bytes = find (λ s. bytes_eq bytes (state_word s)) session_states

-- a session's number and a label
unfoldable pub labelled_read : Word → Word → Option (ℕ × Bytes)
labelled_read n l = do
  number ← number_in n.text
  label ← name_in l.text
  Some (number, label)

-- a revocation's three words
unfoldable pub one_revoked : Word → Word → Word → Option Revoked
one_revoked w n l =
    if bytes_eq w.text (codes "revoked") then option_map (λ p. record { session = p.0; label = p.1 }) (labelled_read n l) else None

-- the revocations behind a head
abbrev pub revoked_read : List Word → Option (List Revoked)
revoked_read [] = Some []
revoked_read (w ∷ n ∷ l ∷ words) = one_revoked w n l >>= (λ r. option_map (λ rs. r ∷ rs) (revoked_read words))
revoked_read words = None

-- what was made: a head, and the revocations behind it
unfoldable pub made_read : Head → List Word → Option PlainReply
made_read head words = option_map (made head) (revoked_read words)

-- a head with a session's number, and the revocations behind it
unfoldable pub numbered_reply : (ℕ → Head) → List Word → Option PlainReply
numbered_reply head (n ∷ words) = number_in n.text >>= (λ k. made_read (head k) words)
numbered_reply head words = None

-- a head with a session's number and a label, and the revocations behind it
unfoldable pub labelled_reply : (ℕ → Bytes → Head) → List Word → Option PlainReply
labelled_reply head (n ∷ l ∷ words) = labelled_read n l >>= (λ p. made_read (head p.0 p.1) words)
labelled_reply head words = None

-- a value, which takes the rest of the text
unfoldable pub value_reply : Bytes → List Word → Option PlainReply
value_reply bytes (v ∷ more) = option_map value_is (value_in (with_rest bytes v).text)
value_reply bytes words = None

-- a session's number and its state
unfoldable pub status_of : Word → Word → Option PlainReply
status_of n s = do
  number ← number_in n.text
  state ← state_read s.text
  Some (status number state)

-- these and no more
unfoldable pub status_reply : List Word → Option PlainReply
status_reply (n ∷ s ∷ []) = status_of n s
status_reply words = None

-- a reply that is no refusal, by its first word
unfoldable pub told_read : Bytes → List Word → Option PlainReply
told_read bytes [] = None
told_read bytes (w ∷ words) =
    if bytes_eq w.text (codes "ok") then made_read heads.Ok words else
    if bytes_eq w.text (codes "permitted") then numbered_reply heads.Permitted words else
    if bytes_eq w.text (codes "denied") then labelled_reply heads.Denied words else
    if bytes_eq w.text (codes "waiting") then labelled_reply heads.Waiting words else
    if bytes_eq w.text (codes "ended") then numbered_reply heads.Ended words else
    if bytes_eq w.text (codes "value") then value_reply bytes words else
    if bytes_eq w.text (codes "status") then status_reply words else
    None

-- a refusal first, and else what was told
abbrev pub refused_else : Option PlainReply → Option Refusal → Option PlainReply
refused_else told (Some r) = Some (refused r)
refused_else told None = told

-- the reply of which the bytes are the text
unfoldable pub reply_read : Bytes → Option PlainReply
reply_read bytes = refused_else (told_read bytes (words_of bytes)) (refusal_read bytes)
