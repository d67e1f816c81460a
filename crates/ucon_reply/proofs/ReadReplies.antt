-- A reply's text is read as the reply, and bytes that are read are the text of the reply.
use Rattle.std.proofs.Common.{◌≡◌, ℕ, ◌+◌, ◌<◌, ◌^◌, List, [], ◌∷◌, ◌++◌, length, Some, None, is_some, refl, sym, ap, ◌∙◌, append_assoc, append-nil}
use Rattle.std.specs.Prelude.{option_map, codes}
use Rattle.std.specs.Fmt.{decimal}
use Rattle.std.proofs.lemmas.Bool.{false≢true}
use Rattle.ucon_base.specs.declared.value.Value.{Value}
use Rattle.ucon_base.specs.Spelling.{value_spelling, IsValue}
use Rattle.ucon_reply.specs.declared.reply_fault.ReplyFault.{ReplyFault}
use Rattle.ucon_reply.specs.declared.reply_fault.ReplyFault.TheVariants.{BadReply, NoMemory}
use Rattle.ucon_reply.specs.Replies.{IsUnread, IsNoReply}
use Rattle.ucon_model.specs.declared.reply.Head.{Head}
use Rattle.ucon_model.specs.declared.reply.Head.TheVariants as heads
use Rattle.ucon_model.specs.declared.reply.Refusal.{Refusal}
use Rattle.ucon_model.specs.declared.reply.Refusal.TheVariants.{NotAdmin, NoRight, NoSubject, NoObject, NoAttribute, NoVariable, NoAct, NoSession, NotYours, NotAccessing, NotRequesting, AlreadyThere, BadValue, TickBack, KindChanged, FullSubjects, FullObjects, FullActs, FullSessions, FullAccessing}
use Rattle.ucon_model.specs.declared.reply.Revoked.{Revoked}
use Rattle.ucon_model.specs.declared.session.SessionState.{SessionState}
use Rattle.ucon_model.specs.declared.session.SessionState.TheVariants as states
use Rattle.ucon_model.specs.CommandLine.{placed}
use Rattle.ucon_base.specs.Elements.{Each, each_append}
use Rattle.ucon_model.specs.Output.{Lacks}
use Rattle.ucon_model.specs.Plain.{Bytes, PlainReply, refused, made, value_is, status}
use Rattle.ucon_model.specs.ReplyText.{IsLabelled, IsHead, IsReply, refusal_read, state_read, labelled_read, one_revoked, revoked_read, made_read, numbered_reply, labelled_reply, value_reply, status_of, status_reply, told_read, reply_read}
use Rattle.ucon_model.specs.Spelling.{refusal_words, state_word, head_spelling, revoked_spelling, reply_spelling}
use Rattle.ucon_reply.proofs.LowerLaws.{TextsLack, ValuesAreRead}
use Rattle.ucon_reply.specs.Joined.{split, join, split-join, split-join_rest, drop-join, split_some}
use Rattle.ucon_reply.proofs.ReadWords.{name_back, number_back, spelled_back, name_lacks, number_lacks}

-- ---- a reply's text is read as the reply

refusal_back : (r : Refusal) → refusal_read (refusal_words r) ≡ Some r
refusal_back NotAdmin = refl
refusal_back NoRight = refl
refusal_back NoSubject = refl
refusal_back NoObject = refl
refusal_back NoAttribute = refl
refusal_back NoVariable = refl
refusal_back NoAct = refl
refusal_back NoSession = refl
refusal_back NotYours = refl
refusal_back NotAccessing = refl
refusal_back NotRequesting = refl
refusal_back AlreadyThere = refl
refusal_back BadValue = refl
refusal_back TickBack = refl
refusal_back KindChanged = refl
refusal_back FullSubjects = refl
refusal_back FullObjects = refl
refusal_back FullActs = refl
refusal_back FullSessions = refl
refusal_back FullAccessing = refl

state_back : (s : SessionState) → state_read (state_word s) ≡ Some s
state_back states.Requesting = refl
state_back states.Denied = refl
state_back states.Accessing = refl
state_back states.Revoked = refl
state_back states.Ended = refl

-- the words of revocations
abbrev pub revoked_words : List Revoked → List Bytes
revoked_words [] = []
revoked_words (r ∷ rs) = codes "revoked" ∷ decimal r.session ∷ r.label ∷ revoked_words rs

labelled_front : (word n label rest : Bytes) → word ++ n ++ 32 ∷ label ++ rest ≡ word ++ (n ++ 32 ∷ (label ++ rest))
labelled_front word n label rest = append_assoc (word ++ n) (32 ∷ label) rest ∙ append_assoc word n (32 ∷ (label ++ rest))

-- revocations behind a word are its line's other words
revoked_joined : (front : Bytes) (rs : List Revoked) → join (front ∷ revoked_words rs) ≡ front ++ revoked_spelling rs
revoked_joined front [] = sym (append-nil front)
revoked_joined front (r ∷ rs) =
    ap (λ bs. front ++ (codes " revoked " ++ (decimal r.session ++ 32 ∷ bs))) (revoked_joined r.label rs)
    ∙ ap (λ bs. front ++ bs) (sym (labelled_front (codes " revoked ") (decimal r.session) r.label (revoked_spelling rs)))

-- the words of a head
abbrev pub head_words : Head → List Bytes
head_words heads.Ok = codes "ok" ∷ []
head_words (heads.Permitted n) = codes "permitted" ∷ decimal n ∷ []
head_words (heads.Denied n label) = codes "denied" ∷ decimal n ∷ label ∷ []
head_words (heads.Waiting n label) = codes "waiting" ∷ decimal n ∷ label ∷ []
head_words (heads.Ended n) = codes "ended" ∷ decimal n ∷ []

pub made_joined : (head : Head) (rs : List Revoked) → join (head_words head ++ revoked_words rs) ≡ head_spelling head ++ revoked_spelling rs
made_joined heads.Ok rs = revoked_joined (codes "ok") rs
made_joined (heads.Permitted n) rs = ap (λ bs. codes "permitted " ++ bs) (revoked_joined (decimal n) rs) ∙ sym (append_assoc (codes "permitted ") (decimal n) (revoked_spelling rs))
made_joined (heads.Denied n label) rs =
    ap (λ bs. codes "denied " ++ (decimal n ++ 32 ∷ bs)) (revoked_joined label rs) ∙ sym (labelled_front (codes "denied ") (decimal n) label (revoked_spelling rs))
made_joined (heads.Waiting n label) rs =
    ap (λ bs. codes "waiting " ++ (decimal n ++ 32 ∷ bs)) (revoked_joined label rs) ∙ sym (labelled_front (codes "waiting ") (decimal n) label (revoked_spelling rs))
made_joined (heads.Ended n) rs = ap (λ bs. codes "ended " ++ bs) (revoked_joined (decimal n) rs) ∙ sym (append_assoc (codes "ended ") (decimal n) (revoked_spelling rs))

told_back : (r : PlainReply) (bytes : Bytes) (words : List Bytes) → refusal_read bytes ≡ None → split bytes ≡ words → told_read bytes (placed 0 words) ≡ Some r → reply_read bytes ≡ Some r
unfolding reply_read
told_back r bytes words none is told = rw (none, is) told

cut : (w : Bytes) (ws : List Bytes) (bytes : Bytes) → join (w ∷ ws) ≡ bytes → Each (Lacks 32) (w ∷ ws) → split bytes ≡ w ∷ ws
cut w ws bytes is h = ap split (sym is) ∙ split-join w ws h

not_refused : (head : Head) (rest : Bytes) → refusal_read (head_spelling head ++ rest) ≡ None
not_refused heads.Ok rest = refl
not_refused (heads.Permitted n) rest = refl
not_refused (heads.Denied n label) rest = refl
not_refused (heads.Waiting n label) rest = refl
not_refused (heads.Ended n) rest = refl

refused_back : (r : Refusal) → reply_read (refusal_words r) ≡ Some (refused r)
unfolding reply_read
refused_back r = rw (refusal_back r) refl

module _ (values : ValuesAreRead) (lack : TextsLack) where
  state_lacks : (s : SessionState) → Lacks 32 (state_word s)
  state_lacks states.Requesting = lack.tested 32 (codes "requesting") refl
  state_lacks states.Denied = lack.tested 32 (codes "denied") refl
  state_lacks states.Accessing = lack.tested 32 (codes "accessing") refl
  state_lacks states.Revoked = lack.tested 32 (codes "revoked") refl
  state_lacks states.Ended = lack.tested 32 (codes "ended") refl

  labelled_back : (at to n : ℕ) (label : Bytes) → IsLabelled n label → labelled_read (record { at = at; text = decimal n }) (record { at = to; text = label }) ≡ Some (n, label)
  unfolding labelled_read
  labelled_back at to n label h = rw (number_back values n h.0, name_back label h.1) refl

  revoked_lack : (rs : List Revoked) → Each (λ r. IsLabelled r.session r.label) rs → Each (Lacks 32) (revoked_words rs)
  revoked_lack [] h = tt
  revoked_lack (r ∷ rs) h = (lack.tested 32 (codes "revoked") refl, (number_lacks lack r.session h.0.0, (name_lacks lack r.label h.0.1, revoked_lack rs h.1)))

  revoked_back : (at : ℕ) (rs : List Revoked) → Each (λ r. IsLabelled r.session r.label) rs → revoked_read (placed at (revoked_words rs)) ≡ Some rs
  unfolding one_revoked
  revoked_back at [] h = refl
  revoked_back at (r ∷ rs) h =
      let to : ℕ = at + length (codes "revoked") + 1 + length (decimal r.session) + 1 in
      rw (labelled_back (at + length (codes "revoked") + 1) to r.session r.label h.0) (ap (option_map (λ others. r ∷ others)) (revoked_back (to + length r.label + 1) rs h.1))

  head_lacks : (head : Head) → IsHead head → Each (Lacks 32) (head_words head)
  head_lacks heads.Ok h = (lack.tested 32 (codes "ok") refl, tt)
  head_lacks (heads.Permitted n) h = (lack.tested 32 (codes "permitted") refl, (number_lacks lack n h, tt))
  head_lacks (heads.Denied n label) h = (lack.tested 32 (codes "denied") refl, (number_lacks lack n h.0, (name_lacks lack label h.1, tt)))
  head_lacks (heads.Waiting n label) h = (lack.tested 32 (codes "waiting") refl, (number_lacks lack n h.0, (name_lacks lack label h.1, tt)))
  head_lacks (heads.Ended n) h = (lack.tested 32 (codes "ended") refl, (number_lacks lack n h, tt))

  made_split : (head : Head) (rs : List Revoked) → IsHead head → Each (λ r. IsLabelled r.session r.label) rs → split (head_spelling head ++ revoked_spelling rs) ≡ head_words head ++ revoked_words rs
  made_split heads.Ok rs h k = cut _ _ _ (made_joined heads.Ok rs) (each_append (Lacks 32) (head_words heads.Ok) (revoked_words rs) (head_lacks heads.Ok h) (revoked_lack rs k))
  made_split (heads.Permitted n) rs h k = cut _ _ _ (made_joined (heads.Permitted n) rs) (each_append (Lacks 32) (head_words (heads.Permitted n)) (revoked_words rs) (head_lacks (heads.Permitted n) h) (revoked_lack rs k))
  made_split (heads.Denied n label) rs h k = cut _ _ _ (made_joined (heads.Denied n label) rs) (each_append (Lacks 32) (head_words (heads.Denied n label)) (revoked_words rs) (head_lacks (heads.Denied n label) h) (revoked_lack rs k))
  made_split (heads.Waiting n label) rs h k = cut _ _ _ (made_joined (heads.Waiting n label) rs) (each_append (Lacks 32) (head_words (heads.Waiting n label)) (revoked_words rs) (head_lacks (heads.Waiting n label) h) (revoked_lack rs k))
  made_split (heads.Ended n) rs h k = cut _ _ _ (made_joined (heads.Ended n) rs) (each_append (Lacks 32) (head_words (heads.Ended n)) (revoked_words rs) (head_lacks (heads.Ended n) h) (revoked_lack rs k))

  made_told : (bytes : Bytes) (head : Head) (rs : List Revoked) → IsHead head → Each (λ r. IsLabelled r.session r.label) rs → told_read bytes (placed 0 (head_words head ++ revoked_words rs)) ≡ Some (made head rs)
  unfolding told_read made_read numbered_reply labelled_reply
  made_told bytes heads.Ok rs h k = rw (revoked_back _ rs k) refl
  made_told bytes (heads.Permitted n) rs h k = rw (number_back values n h, revoked_back _ rs k) refl
  made_told bytes (heads.Denied n label) rs h k = rw (labelled_back _ _ n label h, revoked_back _ rs k) refl
  made_told bytes (heads.Waiting n label) rs h k = rw (labelled_back _ _ n label h, revoked_back _ rs k) refl
  made_told bytes (heads.Ended n) rs h k = rw (number_back values n h, revoked_back _ rs k) refl

  value_back : (v : Value) → IsValue v → reply_read (codes "value " ++ value_spelling v) ≡ Some (value_is v)
  unfolding told_read value_reply
  value_back v h =
      let front : List Bytes = codes "value" ∷ [] in
      let some = split_some (value_spelling v) in
      told_back (value_is v) (codes "value " ++ value_spelling v) (front ++ some.0 ∷ some.1.0) refl
      (split-join_rest front (value_spelling v) (lack.tested 32 (codes "value") refl, tt) ∙ ap (λ vs. front ++ vs) some.1.1)
      (rw (drop-join front (value_spelling v), spelled_back values v h) refl)

  status_back : (n : ℕ) (s : SessionState) → n < 2 ^ 32 → reply_read (codes "status " ++ decimal n ++ 32 ∷ state_word s) ≡ Some (status n s)
  unfolding told_read status_of status_reply
  status_back n s lt =
      told_back (status n s) (codes "status " ++ decimal n ++ 32 ∷ state_word s) (codes "status" ∷ decimal n ∷ state_word s ∷ []) refl
      (cut (codes "status") (decimal n ∷ state_word s ∷ []) _ (sym (append_assoc (codes "status ") (decimal n) (32 ∷ state_word s))) (lack.tested 32 (codes "status") refl, (number_lacks lack n lt, (state_lacks s, tt))))
      (rw (number_back values n lt, state_back s) refl)

  pub reply_back : (r : PlainReply) → IsReply r → reply_read (reply_spelling r) ≡ Some r
  reply_back (refused r) h = refused_back r
  reply_back (made head revoked) h =
      told_back (made head revoked) (head_spelling head ++ revoked_spelling revoked) (head_words head ++ revoked_words revoked) (not_refused head (revoked_spelling revoked))
      (made_split head revoked h.0 h.1) (made_told (head_spelling head ++ revoked_spelling revoked) head revoked h.0 h.1)
  reply_back (value_is v) h = value_back v h
  reply_back (status n state) h = status_back n state h

-- each reply's text is read as the reply
abbrev pub RepliesAreRead : Type 0
RepliesAreRead = (r : PlainReply) → IsReply r → reply_read (reply_spelling r) ≡ Some r

-- so bytes that aren't read are no reply's text
pub unread : RepliesAreRead → (bytes : Bytes) (f : ReplyFault) → IsUnread (reply_read bytes) f → IsNoReply bytes f
unread back bytes BadReply none = λ (r, told). false≢true (ap is_some (sym none ∙ ap reply_read (sym told.1) ∙ back r told.0))
unread back bytes (NoMemory e) h = tt
