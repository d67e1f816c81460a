-- Bytes that are read as a reply are the reply's text.
use Rattle.std.proofs.Common.{◌≡◌, ℕ, ◌+◌, Bool, true, false, cond, List, [], ◌∷◌, ◌++◌, length, Some, None, is_some, refl, sym, ap, ◌∙◌, append_assoc}
use Rattle.std.specs.Prelude.{Option, option_map, unwrap_or, find, codes}
use Rattle.std.specs.Fmt.{decimal}
use Rattle.std.specs.Str.{bytes_eq}
use Rattle.std.proofs.lemmas.Bool.{false≢true}
use Rattle.std.proofs.lemmas.List.Splits.{join_with_byte-slice_split}
use Rattle.ucon_base.specs.Spelling.{value_spelling}
use Rattle.ucon_model.specs.declared.reply.Head.{Head}
use Rattle.ucon_model.specs.declared.reply.Head.TheVariants as heads
use Rattle.ucon_model.specs.declared.reply.Refusal.{Refusal}
use Rattle.ucon_model.specs.declared.reply.Revoked.{Revoked}
use Rattle.ucon_model.specs.declared.session.SessionState.{SessionState}
use Rattle.ucon_model.specs.CommandLine.{Word, placed, words_of}
use Rattle.ucon_model.specs.Plain.{Bytes, PlainReply, status}
use Rattle.ucon_model.specs.ReplyText.{◌>>=◌, refusals, refusal_read, session_states, state_read, labelled_read, one_revoked, revoked_read, made_read, numbered_reply, labelled_reply, value_reply, status_of, status_reply, told_read, refused_else, reply_read}
use Rattle.ucon_model.specs.Spelling.{refusal_words, state_word, reply_spelling}
use Rattle.ucon_reply.specs.Joined.{split, join}
use Rattle.ucon_reply.proofs.LowerLaws.{ValuesAreSpelled}
use Rattle.ucon_reply.proofs.ReadWords.{same_bytes, name_is, number_is, rest_is}
use Rattle.ucon_reply.proofs.ReadReplies.{revoked_words, head_words, made_joined}

nothing : {A : Type 0} {v : A} → None ≡ Some v → ⊥
nothing h = false≢true (ap is_some h)

-- ---- what is found

either : {A G : Type 0} (b : Bool) (x y : Option A) (r : A) → cond b x y ≡ Some r → (b ≡ true → x ≡ Some r → G) → (y ≡ Some r → G) → G
either true x y r h f g = f refl h
either false x y r h f g = g h

found : {A : Type 0} (p : A → Bool) (xs : List A) (x : A) → find p xs ≡ Some x → p x ≡ true
found p [] x h = absurd (nothing h)
found p (y ∷ ys) x h = either (p y) (Some y) (find p ys) x h (λ is r. ap p (sym (ap (λ o. unwrap_or o y) r)) ∙ is) (λ r. found p ys x r)

refusal_is : (bytes : Bytes) (r : Refusal) → refusal_read bytes ≡ Some r → refusal_words r ≡ bytes
refusal_is bytes r h = sym (same_bytes bytes (refusal_words r) (found (λ q. bytes_eq bytes (refusal_words q)) refusals r h))

state_is : (bytes : Bytes) (s : SessionState) → state_read bytes ≡ Some s → state_word s ≡ bytes
state_is bytes s h = sym (same_bytes bytes (state_word s) (found (λ q. bytes_eq bytes (state_word q)) session_states s h))

map_is : {A B : Type 0} (f : A → B) (o : Option A) (y : B) → option_map f o ≡ Some y → (x : A) × ((o ≡ Some x) × (f x ≡ y))
map_is f None y h = absurd (nothing h)
map_is f (Some x) y h = (x, (refl, ap (λ o. unwrap_or o y) h))

then_is : {A B : Type 0} (o : Option A) (f : A → Option B) (y : B) → (o >>= f) ≡ Some y → (x : A) × ((o ≡ Some x) × (f x ≡ Some y))
then_is None f y h = absurd (nothing h)
then_is (Some x) f y h = (x, (refl, h))

listed : (x a y b z c : Bytes) (ws vs : List Bytes) → x ≡ a → y ≡ b → z ≡ c → ws ≡ vs → x ∷ y ∷ z ∷ ws ≡ a ∷ b ∷ c ∷ vs
listed x a y b z c ws vs p q r s = rw (p, q, r, s) refl

module _ (written : ValuesAreSpelled) where
  -- ---- what was made

  labelled_is : (n l : Word) (p : ℕ × Bytes) → labelled_read n l ≡ Some p → (decimal p.0 ≡ n.text) × (p.1 ≡ l.text)
  unfolding labelled_read
  labelled_is n l p h =
      let x = then_is _ _ p h in
      let y = then_is _ _ p x.1.1 in
      let told : (x.0, y.0) ≡ p = ap (λ o. unwrap_or o p) y.1.1 in
      (ap (λ q. decimal q.0) (sym told) ∙ number_is written n.text x.0 x.1.0, ap (λ q. q.1) (sym told) ∙ name_is l.text y.0 y.1.0)

  one_is : (w n l : Word) (r : Revoked) → one_revoked w n l ≡ Some r → (codes "revoked" ≡ w.text) × ((decimal r.session ≡ n.text) × (r.label ≡ l.text))
  unfolding one_revoked
  one_is w n l r h =
      either (bytes_eq w.text (codes "revoked")) _ None r h
      (λ is told.
      let x = map_is _ (labelled_read n l) r told in
      let parts = labelled_is n l x.0 x.1.0 in
      (sym (same_bytes w.text (codes "revoked") is), (ap (λ q. decimal q.session) (sym x.1.1) ∙ parts.0, ap (λ q. q.label) (sym x.1.1) ∙ parts.1)))
      (λ none. absurd (nothing none))

  revoked_is : (at : ℕ) (ws : List Bytes) (rs : List Revoked) → revoked_read (placed at ws) ≡ Some rs → revoked_words rs ≡ ws
  revoked_is at [] rs h = ap (λ o. revoked_words (unwrap_or o rs)) (sym h)
  revoked_is at (w ∷ []) rs h = absurd (nothing h)
  revoked_is at (w ∷ n ∷ []) rs h = absurd (nothing h)
  revoked_is at (w ∷ n ∷ l ∷ ws) rs h =
      let x = then_is _ _ rs h in
      let y = map_is _ _ rs x.1.1 in
      let one = one_is _ _ _ x.0 x.1.0 in
      ap revoked_words (sym y.1.1) ∙ listed _ _ _ _ _ _ _ _ one.0 one.1.0 one.1.1 (revoked_is (at + length w + 1 + length n + 1 + length l + 1) ws y.0 y.1.0)

  made_is : (head : Head) (at : ℕ) (ws words : List Bytes) (r : PlainReply) → head_words head ++ ws ≡ words → made_read head (placed at ws) ≡ Some r → reply_spelling r ≡ join words
  unfolding made_read
  made_is head at ws words r front h =
      let x = map_is _ _ r h in
      ap reply_spelling (sym x.1.1) ∙ sym (made_joined head x.0) ∙ ap (λ vs. join (head_words head ++ vs)) (revoked_is at ws x.0 x.1.0) ∙ ap join front

  numbered_is : (head : ℕ → Head) (word : Bytes) (at : ℕ) (w : Bytes) (ws : List Bytes) (r : PlainReply) → ((k : ℕ) → head_words (head k) ≡ word ∷ decimal k ∷ []) → word ≡ w
      → numbered_reply head (placed at ws) ≡ Some r → reply_spelling r ≡ join (w ∷ ws)
  unfolding numbered_reply
  numbered_is head word at w [] r spelled is h = absurd (nothing h)
  numbered_is head word at w (n ∷ ws) r spelled is h =
      let x = then_is _ _ r h in
      made_is (head x.0) _ ws (w ∷ n ∷ ws) r
      (ap (λ vs. vs ++ ws) (spelled x.0) ∙ ap (λ v. v ∷ decimal x.0 ∷ ws) is ∙ ap (λ v. w ∷ v ∷ ws) (number_is written n x.0 x.1.0)) x.1.1

  labelled_told : (head : ℕ → Bytes → Head) (word : Bytes) (at : ℕ) (w : Bytes) (ws : List Bytes) (r : PlainReply) → ((k : ℕ) (label : Bytes) → head_words (head k label) ≡ word ∷ decimal k ∷ label ∷ []) → word ≡ w
      → labelled_reply head (placed at ws) ≡ Some r → reply_spelling r ≡ join (w ∷ ws)
  unfolding labelled_reply
  labelled_told head word at w [] r spelled is h = absurd (nothing h)
  labelled_told head word at w (n ∷ []) r spelled is h = absurd (nothing h)
  labelled_told head word at w (n ∷ l ∷ ws) r spelled is h =
      let x = then_is _ _ r h in
      let parts = labelled_is _ _ x.0 x.1.0 in
      made_is (head x.0.0 x.0.1) _ ws (w ∷ n ∷ l ∷ ws) r
      (ap (λ vs. vs ++ ws) (spelled x.0.0 x.0.1) ∙ listed _ _ _ _ _ _ _ _ is parts.0 parts.1 refl) x.1.1

  -- ---- other replies

  value_told : (bytes w : Bytes) (ws : List Bytes) (r : PlainReply) → bytes ≡ join (w ∷ ws) → codes "value" ≡ w → value_reply bytes (placed (0 + length w + 1) ws) ≡ Some r → reply_spelling r ≡ join (w ∷ ws)
  unfolding value_reply
  value_told bytes w [] r whole is h = absurd (nothing h)
  value_told bytes w (v ∷ more) r whole is h =
      let x = map_is _ _ r h in
      let value : value_spelling x.0 ≡ join (v ∷ more) = rest_is written (w ∷ []) bytes (join (v ∷ more)) x.0 whole x.1.0 in
      ap reply_spelling (sym x.1.1) ∙ ap (λ t. codes "value " ++ t) value ∙ ap (λ t. t ++ 32 ∷ join (v ∷ more)) is

  status_is : (n s : Word) (w : Bytes) (r : PlainReply) → codes "status" ≡ w → status_of n s ≡ Some r → reply_spelling r ≡ join (w ∷ n.text ∷ s.text ∷ [])
  unfolding status_of
  status_is n s w r is h =
      let x = then_is _ _ r h in
      let y = then_is _ _ r x.1.1 in
      let told : status x.0 y.0 ≡ r = ap (λ o. unwrap_or o r) y.1.1 in
      ap reply_spelling (sym told) ∙ append_assoc (codes "status ") (decimal x.0) (32 ∷ state_word y.0)
      ∙ ap join (listed (codes "status") w (decimal x.0) n.text (state_word y.0) s.text [] [] is (number_is written n.text x.0 x.1.0) (state_is s.text y.0 y.1.0) refl)

  status_told : (at : ℕ) (w : Bytes) (ws : List Bytes) (r : PlainReply) → codes "status" ≡ w → status_reply (placed at ws) ≡ Some r → reply_spelling r ≡ join (w ∷ ws)
  unfolding status_reply
  status_told at w [] r is h = absurd (nothing h)
  status_told at w (n ∷ []) r is h = absurd (nothing h)
  status_told at w (n ∷ s ∷ []) r is h = status_is _ _ w r is h
  status_told at w (n ∷ s ∷ v ∷ ws) r is h = absurd (nothing h)

  -- ---- replies

  told_is : (bytes : Bytes) (words : List Bytes) (r : PlainReply) → bytes ≡ join words → told_read bytes (placed 0 words) ≡ Some r → reply_spelling r ≡ join words
  unfolding told_read
  told_is bytes [] r whole h = absurd (nothing h)
  told_is bytes (w ∷ ws) r whole h =
      let word : (v : Bytes) → bytes_eq w v ≡ true → v ≡ w = λ v e. sym (same_bytes w v e) in
      either _ _ _ r h (λ e told. made_is heads.Ok _ ws (w ∷ ws) r (ap (λ v. v ∷ ws) (word _ e)) told) (λ h1.
      either _ _ _ r h1 (λ e told. numbered_is heads.Permitted (codes "permitted") _ w ws r (λ k. refl) (word _ e) told) (λ h2.
      either _ _ _ r h2 (λ e told. labelled_told heads.Denied (codes "denied") _ w ws r (λ k l. refl) (word _ e) told) (λ h3.
      either _ _ _ r h3 (λ e told. labelled_told heads.Waiting (codes "waiting") _ w ws r (λ k l. refl) (word _ e) told) (λ h4.
      either _ _ _ r h4 (λ e told. numbered_is heads.Ended (codes "ended") _ w ws r (λ k. refl) (word _ e) told) (λ h5.
      either _ _ _ r h5 (λ e told. value_told bytes w ws r whole (word _ e) told) (λ h6.
      either _ _ _ r h6 (λ e told. status_told _ w ws r (word _ e) told) (λ h7.
      absurd (nothing h7))))))))

  refused_is : (told : Option PlainReply) (o : Option Refusal) (bytes : Bytes) (r : PlainReply) → refusal_read bytes ≡ o → (told ≡ Some r → reply_spelling r ≡ bytes) → refused_else told o ≡ Some r → reply_spelling r ≡ bytes
  refused_is told (Some q) bytes r is back h = ap (λ o. reply_spelling (unwrap_or o r)) (sym h) ∙ refusal_is bytes q is
  refused_is told None bytes r is back h = back h

  pub reply_is : (bytes : Bytes) (r : PlainReply) → reply_read bytes ≡ Some r → reply_spelling r ≡ bytes
  unfolding reply_read
  reply_is bytes r h =
      let whole : join (split bytes) ≡ bytes = join_with_byte-slice_split 32 bytes in
      refused_is (told_read bytes (words_of bytes)) (refusal_read bytes) bytes r refl (λ told. told_is bytes (split bytes) r (sym whole) told ∙ whole) h
