-- How replies are spelled.
use Rattle.std.specs.Prelude.{List, [], ◌∷◌, ◌++◌, codes}
use Rattle.std.specs.Fmt.{decimal}
use Rattle.ucon_base.specs.Spelling.{value_spelling}
use Rattle.ucon_model.specs.declared.reply.Head.{Head}
use Rattle.ucon_model.specs.declared.reply.Head.TheVariants as heads
use Rattle.ucon_model.specs.declared.reply.Refusal.{Refusal}
use Rattle.ucon_model.specs.declared.reply.Refusal.TheVariants.{NotAdmin, NoRight, NoSubject, NoObject, NoAttribute, NoVariable, NoAct, NoSession}
use Rattle.ucon_model.specs.declared.reply.Refusal.TheVariants.{NotYours, NotAccessing, NotRequesting, AlreadyThere, BadValue, TickBack, KindChanged}
use Rattle.ucon_model.specs.declared.reply.Refusal.TheVariants.{FullSubjects, FullObjects, FullActs, FullSessions, FullAccessing}
use Rattle.ucon_model.specs.declared.reply.Revoked.{Revoked}
use Rattle.ucon_model.specs.declared.session.SessionState.{SessionState}
use Rattle.ucon_model.specs.declared.session.SessionState.TheVariants as states
use Rattle.ucon_model.specs.Plain.{Bytes, PlainReply, refused, made, value_is, status}

-- the text of each refusal
abbrev pub refusal_words : Refusal → Bytes
refusal_words NotAdmin = codes "not admin"
refusal_words NoRight = codes "no right"
refusal_words NoSubject = codes "no subject"
refusal_words NoObject = codes "no object"
refusal_words NoAttribute = codes "no attribute"
refusal_words NoVariable = codes "no variable"
refusal_words NoAct = codes "no act"
refusal_words NoSession = codes "no session"
refusal_words NotYours = codes "not yours"
refusal_words NotAccessing = codes "not accessing"
refusal_words NotRequesting = codes "not requesting"
refusal_words AlreadyThere = codes "already there"
refusal_words BadValue = codes "bad value"
refusal_words TickBack = codes "tick back"
refusal_words KindChanged = codes "kind changed"
refusal_words FullSubjects = codes "full subjects"
refusal_words FullObjects = codes "full objects"
refusal_words FullActs = codes "full acts"
refusal_words FullSessions = codes "full sessions"
refusal_words FullAccessing = codes "full accessing"

-- the word for each state of a session
abbrev pub state_word : SessionState → Bytes
state_word states.Requesting = codes "requesting"
state_word states.Denied = codes "denied"
state_word states.Accessing = codes "accessing"
state_word states.Revoked = codes "revoked"
state_word states.Ended = codes "ended"

-- what a reply begins with
abbrev pub head_spelling : Head → Bytes
head_spelling heads.Ok = codes "ok"
head_spelling (heads.Permitted n) = codes "permitted " ++ decimal n
head_spelling (heads.Denied n label) = codes "denied " ++ decimal n ++ 32 ∷ label
head_spelling (heads.Waiting n label) = codes "waiting " ++ decimal n ++ 32 ∷ label
head_spelling (heads.Ended n) = codes "ended " ++ decimal n

-- the revocations behind it, in order
abbrev pub revoked_spelling : List Revoked → Bytes
revoked_spelling [] = []
revoked_spelling (r ∷ rs) = codes " revoked " ++ decimal r.session ++ 32 ∷ r.label ++ revoked_spelling rs

-- the one text of a reply
abbrev pub reply_spelling : PlainReply → Bytes
reply_spelling (refused r) = refusal_words r
reply_spelling (made head revoked) = head_spelling head ++ revoked_spelling revoked
reply_spelling (value_is v) = codes "value " ++ value_spelling v
reply_spelling (status n state) = codes "status " ++ decimal n ++ 32 ∷ state_word state
