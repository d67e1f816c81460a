-- The texts of values and replies have no newline.
use Rattle.std.proofs.Common.{◌≡◌, ℕ, suc, ◌+◌, ◌<◌, ◌^◌, Bool, true, false, cond, List, [], ◌∷◌, ◌++◌, length, refl, sym, ap, ◌∙◌, arith}
use Rattle.std.specs.Prelude.{ℤ, pos, negsuc, Option, Some, None, codes, is_none, nat_le, not}
use Rattle.std.specs.Fmt.{decimal, signed_decimal}
use Rattle.std.specs.List.{list_all, position_from}
use Rattle.std.proofs.lemmas.Bool.{and_parts, ne_eqb}
use Rattle.std.proofs.lemmas.Int.{ints}
use Rattle.std.proofs.lemmas.Iterator.Adapters.{position_from-zero}
use Rattle.ucon_base.specs.declared.value.Value.{Value}
use Rattle.ucon_base.specs.declared.value.Value.TheVariants.{Int, Text, Set}
use Rattle.ucon_base.specs.Elements.{Each}
use Rattle.ucon_base.specs.Numbers.{InRange}
use Rattle.ucon_base.specs.Spelling.{quoted, more_texts, set_spelling, value_spelling, IsValue}
use Rattle.ucon_base.specs.TextBytes.{is_text, is_text_byte, bad_text_place}
use Rattle.ucon_model.specs.declared.reply.Head.{Head}
use Rattle.ucon_model.specs.declared.reply.Head.TheVariants as heads
use Rattle.ucon_model.specs.declared.reply.Refusal.{Refusal}
use Rattle.ucon_model.specs.declared.reply.Refusal.TheVariants.{NotAdmin, NoRight, NoSubject, NoObject, NoAttribute, NoVariable, NoAct, NoSession, NotYours, NotAccessing, NotRequesting, AlreadyThere, BadValue, TickBack, KindChanged, FullSubjects, FullObjects, FullActs, FullSessions, FullAccessing}
use Rattle.ucon_model.specs.declared.reply.Revoked.{Revoked}
use Rattle.ucon_model.specs.declared.session.SessionState.{SessionState}
use Rattle.ucon_model.specs.declared.session.SessionState.TheVariants as states
use Rattle.ucon_model.specs.Output.{Lacks}
use Rattle.ucon_model.specs.Plain.{Bytes, PlainReply, refused, made, value_is, status}
use Rattle.ucon_model.specs.ReplyText.{IsLabelled, IsHead, IsReply}
use Rattle.ucon_model.specs.Spelling.{refusal_words, state_word, head_spelling, revoked_spelling, reply_spelling}
use Rattle.ucon_reply.proofs.LowerLaws.{TextsLack}

-- ---- texts

passed_over : (b : Bool) (i : ℕ) (rest : Option ℕ) → cond (not b) (Some i) rest ≡ None → (b ≡ true) × (rest ≡ None)
passed_over true i rest e = (refl, e)
passed_over false i rest e = absurd cc

bytes_in_line : (i : ℕ) (t : Bytes) → position_from (λ b. not (is_text_byte b)) i t ≡ None → Lacks 10 t
bytes_in_line i [] e = tt
bytes_in_line i (b ∷ bs) e =
    let passed = passed_over (is_text_byte b) i (position_from (λ b. not (is_text_byte b)) (i + 1) bs) e in
    (ne_eqb b 10 (λ e. (let same : is_text_byte b ≡ false = ap is_text_byte e in cc)), bytes_in_line (i + 1) bs passed.1)

none_is : (o : Option ℕ) → is_none o ≡ true → o ≡ None
none_is None e = refl
none_is (Some i) e = absurd cc

text_in_line : (t : Bytes) → is_text t ≡ true → Lacks 10 t
text_in_line t h =
    let parts = and_parts (nat_le (length t) 64) (is_none (bad_text_place t)) h in
    bytes_in_line 0 t (sym (position_from-zero (λ b. not (is_text_byte b)) t) ∙ none_is (bad_text_place t) parts.1)

module _ (lack : TextsLack) where
  -- ---- values

  quoted_in_line : (t : Bytes) → is_text t ≡ true → Lacks 10 (quoted t)
  quoted_in_line t h = (refl, lack.joined 10 t (34 ∷ []) (text_in_line t h) (refl, tt))

  more_in_line : (ts : List Bytes) → list_all is_text ts ≡ true → Lacks 10 (more_texts ts)
  more_in_line [] h = tt
  more_in_line (t ∷ ts) h =
      let parts = and_parts (is_text t) (list_all is_text ts) h in
      (refl, lack.joined 10 (quoted t) (more_texts ts) (quoted_in_line t parts.0) (more_in_line ts parts.1))

  set_in_line : (ts : List Bytes) → list_all is_text ts ≡ true → Lacks 10 (set_spelling ts)
  set_in_line [] h = lack.tested 10 (codes "{}") refl
  set_in_line (t ∷ ts) h =
      let parts = and_parts (is_text t) (list_all is_text ts) h in
      let front : Lacks 10 (123 ∷ quoted t) = (refl, quoted_in_line t parts.0) in
      lack.joined 10 (123 ∷ quoted t ++ more_texts ts) (125 ∷ []) (lack.joined 10 (123 ∷ quoted t) (more_texts ts) front (more_in_line ts parts.1)) (refl, tt)

  integer_in_line : (n : ℤ) → InRange n → Lacks 10 (signed_decimal n)
  integer_in_line (pos n) h = lack.numbers 10 n (omega arith) (omega (arith, ints, h.high))
  integer_in_line (negsuc n) h = (refl, lack.numbers 10 (suc n) (omega arith) (omega (arith, ints, h.low)))

  pub value_in_line : (v : Value) → IsValue v → Lacks 10 (value_spelling v)
  value_in_line (Int n) h = integer_in_line n h
  value_in_line (Text t) h = quoted_in_line t h
  value_in_line (Set ts) h = set_in_line ts h.1

  -- ---- words

  number_in_line : (n : ℕ) → n < 2 ^ 32 → Lacks 10 (decimal n)
  number_in_line n lt = lack.numbers 10 n (omega arith) (omega (arith, lt))

  refusal_in_line : (r : Refusal) → Lacks 10 (refusal_words r)
  refusal_in_line NotAdmin = lack.tested 10 (refusal_words NotAdmin) refl
  refusal_in_line NoRight = lack.tested 10 (refusal_words NoRight) refl
  refusal_in_line NoSubject = lack.tested 10 (refusal_words NoSubject) refl
  refusal_in_line NoObject = lack.tested 10 (refusal_words NoObject) refl
  refusal_in_line NoAttribute = lack.tested 10 (refusal_words NoAttribute) refl
  refusal_in_line NoVariable = lack.tested 10 (refusal_words NoVariable) refl
  refusal_in_line NoAct = lack.tested 10 (refusal_words NoAct) refl
  refusal_in_line NoSession = lack.tested 10 (refusal_words NoSession) refl
  refusal_in_line NotYours = lack.tested 10 (refusal_words NotYours) refl
  refusal_in_line NotAccessing = lack.tested 10 (refusal_words NotAccessing) refl
  refusal_in_line NotRequesting = lack.tested 10 (refusal_words NotRequesting) refl
  refusal_in_line AlreadyThere = lack.tested 10 (refusal_words AlreadyThere) refl
  refusal_in_line BadValue = lack.tested 10 (refusal_words BadValue) refl
  refusal_in_line TickBack = lack.tested 10 (refusal_words TickBack) refl
  refusal_in_line KindChanged = lack.tested 10 (refusal_words KindChanged) refl
  refusal_in_line FullSubjects = lack.tested 10 (refusal_words FullSubjects) refl
  refusal_in_line FullObjects = lack.tested 10 (refusal_words FullObjects) refl
  refusal_in_line FullActs = lack.tested 10 (refusal_words FullActs) refl
  refusal_in_line FullSessions = lack.tested 10 (refusal_words FullSessions) refl
  refusal_in_line FullAccessing = lack.tested 10 (refusal_words FullAccessing) refl

  state_in_line : (s : SessionState) → Lacks 10 (state_word s)
  state_in_line states.Requesting = lack.tested 10 (codes "requesting") refl
  state_in_line states.Denied = lack.tested 10 (codes "denied") refl
  state_in_line states.Accessing = lack.tested 10 (codes "accessing") refl
  state_in_line states.Revoked = lack.tested 10 (codes "revoked") refl
  state_in_line states.Ended = lack.tested 10 (codes "ended") refl

  -- ---- replies

  numbered : (word : Bytes) (n : ℕ) → Lacks 10 word → n < 2 ^ 32 → Lacks 10 (word ++ decimal n)
  numbered word n h lt = lack.joined 10 word (decimal n) h (number_in_line n lt)

  labelled : (word : Bytes) (n : ℕ) (label : Bytes) → Lacks 10 word → IsLabelled n label → Lacks 10 (word ++ decimal n ++ 32 ∷ label)
  labelled word n label h l = lack.joined 10 (word ++ decimal n) (32 ∷ label) (numbered word n h l.0) (refl, lack.names 10 label refl l.1)

  head_in_line : (head : Head) → IsHead head → Lacks 10 (head_spelling head)
  head_in_line heads.Ok h = lack.tested 10 (codes "ok") refl
  head_in_line (heads.Permitted n) h = numbered (codes "permitted ") n (lack.tested 10 (codes "permitted ") refl) h
  head_in_line (heads.Denied n label) h = labelled (codes "denied ") n label (lack.tested 10 (codes "denied ") refl) h
  head_in_line (heads.Waiting n label) h = labelled (codes "waiting ") n label (lack.tested 10 (codes "waiting ") refl) h
  head_in_line (heads.Ended n) h = numbered (codes "ended ") n (lack.tested 10 (codes "ended ") refl) h

  revoked_in_line : (rs : List Revoked) → Each (λ r. IsLabelled r.session r.label) rs → Lacks 10 (revoked_spelling rs)
  revoked_in_line [] h = tt
  revoked_in_line (r ∷ rs) h =
      lack.joined 10 (codes " revoked " ++ decimal r.session ++ 32 ∷ r.label) (revoked_spelling rs)
      (labelled (codes " revoked ") r.session r.label (lack.tested 10 (codes " revoked ") refl) h.0) (revoked_in_line rs h.1)

  pub reply_in_line : (r : PlainReply) → IsReply r → Lacks 10 (reply_spelling r)
  reply_in_line (refused r) h = refusal_in_line r
  reply_in_line (made head revoked) h = lack.joined 10 (head_spelling head) (revoked_spelling revoked) (head_in_line head h.0) (revoked_in_line revoked h.1)
  reply_in_line (value_is v) h = lack.joined 10 (codes "value ") (value_spelling v) (lack.tested 10 (codes "value ") refl) (value_in_line v h)
  reply_in_line (status n state) h =
      lack.joined 10 (codes "status " ++ decimal n) (32 ∷ state_word state) (numbered (codes "status ") n (lack.tested 10 (codes "status ") refl) h) (refl, state_in_line state)
