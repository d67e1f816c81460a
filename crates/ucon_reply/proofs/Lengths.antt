-- How long the texts of a value and of a reply are at the most.
use Rattle.std.proofs.Common.{◌≡◌, ℕ, suc, ◌+◌, ◌*◌, ◌≤◌, ◌<◌, ◌^◌, true, List, [], ◌∷◌, ◌++◌, length, arith, length-append}
use Rattle.std.specs.Prelude.{ℤ, pos, negsuc, nat_le, nat_lt, ◌&&◌, is_none, codes}
use Rattle.std.specs.Fmt.{decimal, signed_decimal}
use Rattle.std.specs.List.{list_all}
use Rattle.std.proofs.lemmas.Bool.{and_parts, leb-true}
use Rattle.std.proofs.lemmas.Fmt.{length-decimal-le}
use Rattle.std.proofs.lemmas.Int.{ints}
use Rattle.ucon_base.specs.declared.value.Value.{Value}
use Rattle.ucon_base.specs.declared.value.Value.TheVariants.{Int, Text, Set}
use Rattle.ucon_base.specs.Elements.{Each}
use Rattle.ucon_base.specs.NameBytes.{is_name, bad_place}
use Rattle.ucon_base.specs.Numbers.{InRange}
use Rattle.ucon_base.specs.Spelling.{quoted, more_texts, set_spelling, value_spelling, IsValue}
use Rattle.ucon_base.specs.TextBytes.{is_text, bad_text_place}
use Rattle.ucon_base.specs.Value.{is_rising}
use Rattle.ucon_model.specs.declared.reply.Head.{Head}
use Rattle.ucon_model.specs.declared.reply.Head.TheVariants as heads
use Rattle.ucon_model.specs.declared.reply.Refusal.{Refusal}
use Rattle.ucon_model.specs.declared.reply.Refusal.TheVariants.{NotAdmin, NoRight, NoSubject, NoObject, NoAttribute, NoVariable, NoAct, NoSession, NotYours, NotAccessing, NotRequesting, AlreadyThere, BadValue, TickBack, KindChanged, FullSubjects, FullObjects, FullActs, FullSessions, FullAccessing}
use Rattle.ucon_model.specs.declared.reply.Revoked.{Revoked}
use Rattle.ucon_model.specs.declared.session.SessionState.{SessionState}
use Rattle.ucon_model.specs.declared.session.SessionState.TheVariants as states
use Rattle.ucon_model.specs.Plain.{Bytes, PlainReply, refused, made, value_is, status}
use Rattle.ucon_model.specs.ReplyText.{IsLabelled, IsHead, IsReply}
use Rattle.ucon_model.specs.Spelling.{refusal_words, state_word, head_spelling, revoked_spelling, reply_spelling}
use Rattle.ucon_reply.specs.Replies.{most_reply}

-- ---- values

length-name : (name : Bytes) → is_name name ≡ true → length name ≤ 32
length-name name h =
    let parts = and_parts (nat_lt 0 (length name) && nat_le (length name) 32) (is_none (bad_place name)) h in
    leb-true (length name) 32 (and_parts (nat_lt 0 (length name)) (nat_le (length name) 32) parts.0).1

length-text : (t : Bytes) → is_text t ≡ true → length t ≤ 64
length-text t h = leb-true (length t) 64 (and_parts (nat_le (length t) 64) (is_none (bad_text_place t)) h).0

length-quoted : (t : Bytes) → is_text t ≡ true → length (quoted t) ≤ 66
length-quoted t h = omega (arith, length-text t h, length-append t (34 ∷ []))

length-more : (ts : List Bytes) → list_all is_text ts ≡ true → length (more_texts ts) ≤ 67 * length ts
length-more [] h = omega arith
length-more (t ∷ ts) h =
    let parts = and_parts (is_text t) (list_all is_text ts) h in
    omega (arith, length-quoted t parts.0, length-more ts parts.1, length-append (quoted t) (more_texts ts))

length-set : (ts : List Bytes) → length ts ≤ 64 → list_all is_text ts ≡ true → length (set_spelling ts) ≤ 4300
length-set [] few h = omega arith
length-set (t ∷ ts) few h =
    let parts = and_parts (is_text t) (list_all is_text ts) h in
    omega (arith, few, length-quoted t parts.0, length-more ts parts.1, length-append (quoted t) (more_texts ts), length-append (quoted t ++ more_texts ts) (125 ∷ []))

length-integer : (n : ℤ) → InRange n → length (signed_decimal n) ≤ 4300
length-integer (pos n) h =
    let small : n ≤ 1000000000000000 = omega (arith, ints, h.high) in
    omega (arith, length-decimal-le 16 n (omega arith) (omega (arith, small)) (omega (arith, small)))
length-integer (negsuc n) h =
    let small : suc n ≤ 1000000000000000 = omega (arith, ints, h.low) in
    omega (arith, length-decimal-le 16 (suc n) (omega arith) (omega (arith, small)) (omega (arith, small)))

pub length-value : (v : Value) → IsValue v → length (value_spelling v) ≤ 4300
length-value (Int n) h = length-integer n h
length-value (Text t) h = omega (arith, length-quoted t h)
length-value (Set ts) h = length-set ts (leb-true (length ts) 64 (and_parts (nat_le (length ts) 64) (is_rising ts) h.0).0) h.1

-- ---- replies

length-refusal : (r : Refusal) → length (refusal_words r) ≤ 15
length-refusal NotAdmin = omega arith
length-refusal NoRight = omega arith
length-refusal NoSubject = omega arith
length-refusal NoObject = omega arith
length-refusal NoAttribute = omega arith
length-refusal NoVariable = omega arith
length-refusal NoAct = omega arith
length-refusal NoSession = omega arith
length-refusal NotYours = omega arith
length-refusal NotAccessing = omega arith
length-refusal NotRequesting = omega arith
length-refusal AlreadyThere = omega arith
length-refusal BadValue = omega arith
length-refusal TickBack = omega arith
length-refusal KindChanged = omega arith
length-refusal FullSubjects = omega arith
length-refusal FullObjects = omega arith
length-refusal FullActs = omega arith
length-refusal FullSessions = omega arith
length-refusal FullAccessing = omega arith

length-state : (s : SessionState) → length (state_word s) ≤ 10
length-state states.Requesting = omega arith
length-state states.Denied = omega arith
length-state states.Accessing = omega arith
length-state states.Revoked = omega arith
length-state states.Ended = omega arith

length-session : (n : ℕ) → n < 2 ^ 32 → length (decimal n) ≤ 10
length-session n lt = length-decimal-le 10 n (omega arith) (omega (arith, lt)) (omega (arith, lt))

length-numbered : (word : Bytes) (n : ℕ) → n < 2 ^ 32 → length (word ++ decimal n) ≤ length word + 10
length-numbered word n lt = omega (arith, length-session n lt, length-append word (decimal n))

length-labelled : (word : Bytes) (n : ℕ) (label : Bytes) → IsLabelled n label → length (word ++ decimal n ++ 32 ∷ label) ≤ length word + 43
length-labelled word n label h = omega (arith, length-numbered word n h.0, length-name label h.1, length-append (word ++ decimal n) (32 ∷ label))

length-head : (head : Head) → IsHead head → length (head_spelling head) ≤ 51
length-head heads.Ok h = omega arith
length-head (heads.Permitted n) h = omega (arith, length-numbered (codes "permitted ") n h)
length-head (heads.Denied n label) h = omega (arith, length-labelled (codes "denied ") n label h)
length-head (heads.Waiting n label) h = omega (arith, length-labelled (codes "waiting ") n label h)
length-head (heads.Ended n) h = omega (arith, length-numbered (codes "ended ") n h)

length-revoked : (rs : List Revoked) → Each (λ r. IsLabelled r.session r.label) rs → length (revoked_spelling rs) ≤ 52 * length rs
length-revoked [] h = omega arith
length-revoked (r ∷ rs) h =
    omega (
      arith,
      length-labelled (codes " revoked ") r.session r.label h.0,
      length-revoked rs h.1,
      length-append (codes " revoked " ++ decimal r.session ++ 32 ∷ r.label) (revoked_spelling rs),
    )

pub reply_short : (r : PlainReply) → IsReply r → length (reply_spelling r) ≤ most_reply r
reply_short (refused r) h = omega (arith, length-refusal r)
reply_short (made head revoked) h = omega (arith, length-head head h.0, length-revoked revoked h.1, length-append (head_spelling head) (revoked_spelling revoked))
reply_short (value_is v) h = omega (arith, length-value v h, length-append (codes "value ") (value_spelling v))
reply_short (status n state) h =
    omega (arith, length-numbered (codes "status ") n h, length-state state, length-append (codes "status " ++ decimal n) (32 ∷ state_word state))
