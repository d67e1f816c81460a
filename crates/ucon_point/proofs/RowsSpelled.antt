-- A line that is read as a row is the row's.
use Rattle.std.proofs.Common.{◌≡◌, ℕ, ◌<◌, Bool, true, false, cond, List, [], ◌∷◌, ◌++◌, Some, None, Ok, Err, refl, sym, ap, ◌∙◌, subst, inl, inr, ⊎_elim}
use Rattle.std.specs.Prelude.{ℤ, ◌⊎◌, Option, Result, option_map, option_and_then, unwrap_or, codes, find, nat_lt}
use Rattle.std.specs.Fmt.{decimal, signed_decimal}
use Rattle.std.specs.Result.{result_ok}
use Rattle.std.specs.Str.{bytes_eq}
use Rattle.std.proofs.lemmas.Bool.{ltb-true}
use Rattle.std.proofs.lemmas.Slice.Eq.{bytes_eq-Decides}
use Rattle.ucon_base.specs.declared.value.Side.{Side}
use Rattle.ucon_base.specs.declared.value.Side.TheVariants as sides
use Rattle.ucon_base.specs.declared.value.Value.{Value}
use Rattle.ucon_base.specs.declared.value.Value.TheVariants.{Int, Text, Set}
use Rattle.ucon_base.specs.declared.value_fault.ValueFault.{ValueFault}
use Rattle.ucon_base.specs.NameBytes.{is_name}
use Rattle.ucon_base.specs.Reading.{value_read}
use Rattle.ucon_base.specs.Spelling.{value_spelling}
use Rattle.ucon_model.specs.declared.command.Caller.{Caller}
use Rattle.ucon_model.specs.declared.session.SessionState.{SessionState}
use Rattle.ucon_model.specs.CommandLine.{name_in, value_in, integer_of, integer_in}
use Rattle.ucon_model.specs.Document.{caller_of}
use Rattle.ucon_model.specs.Output.{cut_at}
use Rattle.ucon_model.specs.Payload.{caller_read, client_numbered}
use Rattle.ucon_model.specs.Plain.{Bytes}
use Rattle.ucon_model.specs.ReplyText.{state_read, session_states}
use Rattle.ucon_model.specs.Spelling.{state_word}
use Rattle.ucon_point.specs.declared.row.Row.{Row}
use Rattle.ucon_point.specs.declared.row.Row.TheVariants.{Variable, Entity, Attribute}
use Rattle.ucon_point.specs.Lines.{entity_word}
use Rattle.ucon_point.specs.Numbers.{count_read}
use Rattle.ucon_point.specs.RowText.{row_spelling, IsRow, IsSpelled, AreNames, front, names_front, valued, act_read, session_read, row_told, row_read}
use Rattle.ucon_point.specs.Cutting.{cut_is}
use Rattle.ucon_point.proofs.Digits.{caller_read_is, count_is}
use Rattle.ucon_point.proofs.RowLowerLaws.{ValuesAreSpelled}
use Rattle.ucon_point.proofs.RowResults.{and_then_is, kept, mapped_is, nothing, same}

-- ---- what is found

either : {A : Type 0} (b : Bool) (x y z : Option A) → cond b x y ≡ z → ((b ≡ true) × (x ≡ z)) ⊎ (y ≡ z)
either true x y z h = inl (refl, h)
either false x y z h = inr h

find_more : {A : Type 0} (p : A → Bool) (y : A) (ys : List A) (x : A) (b : Bool) → p y ≡ b → (find p ys ≡ Some x → p x ≡ true) → cond b (Some y) (find p ys) ≡ Some x → p x ≡ true
find_more p y ys x true is rest h = ap p (sym (same y x h)) ∙ is
find_more p y ys x false is rest h = rest h

find_is : {A : Type 0} (p : A → Bool) (xs : List A) (x : A) → find p xs ≡ Some x → p x ≡ true
find_is p [] x h = absurd (nothing h)
find_is p (y ∷ ys) x h = find_more p y ys x (p y) refl (λ k. find_is p ys x k) h

-- ---- words

name_is : (bs name : Bytes) → name_in bs ≡ Some name → (name ≡ bs) × (is_name name ≡ true)
name_is bs name h = let k = kept (is_name bs) bs name h in (sym k.1, ap is_name (sym k.1) ∙ k.0)

read_ok : (r : Result Value ValueFault) (v : Value) → result_ok r ≡ Some v → r ≡ Ok v
read_ok (Ok w) v h = ap (λ o. Ok (unwrap_or o w)) h
read_ok (Err f) v h = absurd (nothing h)

integer_from : (o : Option Value) (z : ℤ) → option_and_then integer_of o ≡ Some z → o ≡ Some (Int z)
integer_from None z h = absurd (nothing h)
integer_from (Some (Int n)) z h = ap (λ x. Some (Int (unwrap_or x n))) h
integer_from (Some (Text t)) z h = absurd (nothing h)
integer_from (Some (Set ts)) z h = absurd (nothing h)

state_is : (bs : Bytes) (s : SessionState) → state_read bs ≡ Some s → state_word s ≡ bs
state_is bs s h = sym ((bytes_eq-Decides bs (state_word s)).0 (find_is (λ t. bytes_eq bs (state_word t)) session_states s h))

pub caller_is : (bs : Bytes) (c : Caller) → caller_read bs ≡ Some c → (decimal c.0 ≡ bs) × (c.0 < 64)
caller_is bs c h =
    let k = and_then_is (count_read bs) client_numbered c (sym (caller_read_is bs) ∙ h) in
    let n : ℕ = k.0 in
    let is = kept (nat_lt n 64) (caller_of n) c k.1.1 in
    (ap (λ (d : Caller). decimal d.0) (sym is.1) ∙ (count_is bs n k.1.0).0, (let P : Caller → Type 0 = λ d. d.0 < 64 in subst P is.1 (ltb-true n 64 is.0)))

front_is : {A : Type 0} (kind : Bytes → Option A) (bytes : Bytes) (p : A × Bytes) → front kind bytes ≡ Some p → (w : Bytes) × ((kind w ≡ Some p.0) × (w ++ 32 ∷ p.1 ≡ bytes))
unfolding front
front_is kind bytes p h =
    let cut = and_then_is (cut_at 32 bytes) _ p h in
    let x = and_then_is (kind cut.0.0) _ p cut.1.1 in
    let is : (x.0, cut.0.1) ≡ p = same _ p x.1.1 in (
      cut.0.0,
      (
        x.1.0 ∙ ap (λ q. Some q.0) is,
        ap (λ q. cut.0.0 ++ 32 ∷ q.1) (sym is) ∙ cut_is 32 bytes cut.0 cut.1.0,
      ),
    )

name_front_is : (bytes : Bytes) (p : Bytes × Bytes) → front name_in bytes ≡ Some p → (p.0 ++ 32 ∷ p.1 ≡ bytes) × (is_name p.0 ≡ true)
name_front_is bytes p h =
    let k = front_is name_in bytes p h in
    let name = name_is k.0 p.0 k.1.0 in
    (ap (λ w. w ++ 32 ∷ p.1) name.0 ∙ k.1.1, name.1)

names_front_is : (bytes : Bytes) (p : (Bytes × Bytes × Bytes) × Bytes) → names_front bytes ≡ Some p
    → (p.0.0 ++ 32 ∷ (p.0.1 ++ 32 ∷ (p.0.2 ++ 32 ∷ p.1)) ≡ bytes) × AreNames p.0.0 p.0.1 p.0.2
unfolding names_front
names_front_is bytes p h =
    let a = and_then_is (front name_in bytes) _ p h in
    let b = and_then_is (front name_in a.0.1) _ p a.1.1 in
    let c = and_then_is (front name_in b.0.1) _ p b.1.1 in
    let is : ((a.0.0, b.0.0, c.0.0), c.0.1) ≡ p = same _ p c.1.1 in
    let x = name_front_is bytes a.0 a.1.0 in
    let y = name_front_is a.0.1 b.0 b.1.0 in
    let z = name_front_is b.0.1 c.0 c.1.0 in
    let P : (Bytes × Bytes × Bytes) × Bytes → Type 0 = λ q. (q.0.0 ++ 32 ∷ (q.0.1 ++ 32 ∷ (q.0.2 ++ 32 ∷ q.1)) ≡ bytes) × AreNames q.0.0 q.0.1 q.0.2 in
    subst P is (
      ap (λ r. a.0.0 ++ 32 ∷ (b.0.0 ++ 32 ∷ r)) z.0 ∙ ap (λ r. a.0.0 ++ 32 ∷ r) y.0 ∙ x.0,
      (x.1, y.1, z.1),
    )

-- the row is in form, and its line is this
abbrev pub IsRowOf : Bytes → Row → Type 0
IsRowOf line row = (row_spelling row ≡ line) × IsRow row

module _ (values : ValuesAreSpelled) where
  value_is : (bs : Bytes) (v : Value) → value_in bs ≡ Some v → (value_spelling v ≡ bs) × IsSpelled v
  value_is bs v h =
      let read : value_read bs ≡ Ok v = read_ok (value_read bs) v h in
      let spelled : value_spelling v ≡ bs = values bs v read in
      (spelled, ap value_read spelled ∙ read)

  pub integer_is : (bs : Bytes) (z : ℤ) → integer_in bs ≡ Some z → (signed_decimal z ≡ bs) × IsSpelled (Int z)
  integer_is bs z h = value_is bs (Int z) (integer_from (value_in bs) z h)

  valued_is : (bytes : Bytes) (p : Bytes × Value) → valued bytes ≡ Some p → (p.0 ++ 32 ∷ value_spelling p.1 ≡ bytes) × (is_name p.0 ≡ true) × IsSpelled p.1
  unfolding valued
  valued_is bytes p h =
      let a = and_then_is (front name_in bytes) _ p h in
      let b = and_then_is (value_in a.0.1) _ p a.1.1 in
      let is : (a.0.0, b.0) ≡ p = same _ p b.1.1 in
      let name = name_front_is bytes a.0 a.1.0 in
      let v = value_is a.0.1 b.0 b.1.0 in
      let P : Bytes × Value → Type 0 = λ q. (q.0 ++ 32 ∷ value_spelling q.1 ≡ bytes) × (is_name q.0 ≡ true) × IsSpelled q.1 in
      subst P is (ap (λ r. a.0.0 ++ 32 ∷ r) v.0 ∙ name.0, name.1, v.1)

  -- behind a first word
  abbrev Behind : Bytes → Bytes → Row → Type 0
  Behind word rest row = IsRowOf (word ++ 32 ∷ rest) row

  variable_is : (rest : Bytes) (row : Row) → option_map (λ p. Variable p.0 p.1) (valued rest) ≡ Some row → Behind (codes "env") rest row
  variable_is rest row h =
      let k = mapped_is (valued rest) _ row h in
      let is = valued_is rest k.0 k.1.0 in
      subst (Behind (codes "env") rest) k.1.1 (ap (λ r. codes "env" ++ 32 ∷ r) is.0, (is.1, is.2))

  attribute_is : (rest : Bytes) (row : Row) → option_map (λ p. Attribute p.0 p.1) (valued rest) ≡ Some row → Behind (codes "value") rest row
  attribute_is rest row h =
      let k = mapped_is (valued rest) _ row h in
      let is = valued_is rest k.0 k.1.0 in
      subst (Behind (codes "value") rest) k.1.1 (ap (λ r. codes "value" ++ 32 ∷ r) is.0, (is.1, is.2))

  entity_is : (side : Side) (rest : Bytes) (row : Row) → option_map (Entity side) (name_in rest) ≡ Some row → Behind (entity_word side) rest row
  entity_is side rest row h =
      let k = mapped_is (name_in rest) (Entity side) row h in
      let name = name_is rest k.0 k.1.0 in
      subst (Behind (entity_word side) rest) k.1.1 (ap (λ r. entity_word side ++ 32 ∷ r) name.0, name.1)

  act_is : (rest : Bytes) (row : Row) → act_read rest ≡ Some row → Behind (codes "act") rest row
  unfolding act_read
  act_is rest row h =
      let names = and_then_is (names_front rest) _ row h in
      let moment = and_then_is (integer_in names.0.1) _ row names.1.1 in
      let n = names_front_is rest names.0 names.1.0 in
      let m = integer_is names.0.1 moment.0 moment.1.0 in
      subst (Behind (codes "act") rest) (same _ row moment.1.1) (
        ap (λ r. codes "act" ++ 32 ∷ (names.0.0.0 ++ 32 ∷ (names.0.0.1 ++ 32 ∷ (names.0.0.2 ++ 32 ∷ r)))) m.0 ∙ ap (λ r. codes "act" ++ 32 ∷ r) n.0,
        (n.1, m.1),
      )

  session_is : (rest : Bytes) (row : Row) → session_read rest ≡ Some row → Behind (codes "session") rest row
  unfolding session_read
  session_is rest row h =
      let caller = and_then_is (front caller_read rest) _ row h in
      let names = and_then_is (names_front caller.0.1) _ row caller.1.1 in
      let state = and_then_is (front state_read names.0.1) _ row names.1.1 in
      let start = and_then_is (integer_in state.0.1) _ row state.1.1 in
      let c = front_is caller_read rest caller.0 caller.1.0 in
      let client = caller_is c.0 caller.0.0 c.1.0 in
      let n = names_front_is caller.0.1 names.0 names.1.0 in
      let s = front_is state_read names.0.1 state.0 state.1.0 in
      let m = integer_is state.0.1 start.0 start.1.0 in
      let w : Bytes → Bytes = λ r. codes "session" ++ 32 ∷ r in
      let d : Bytes → Bytes = λ r. w (decimal caller.0.0.0 ++ 32 ∷ r) in
      let ns : Bytes → Bytes = λ r. d (names.0.0.0 ++ 32 ∷ (names.0.0.1 ++ 32 ∷ (names.0.0.2 ++ 32 ∷ r))) in
      subst (Behind (codes "session") rest) (same _ row start.1.1) (
        ap (λ r. ns (state_word state.0.0 ++ 32 ∷ r)) m.0
            ∙ ap (λ u. ns (u ++ 32 ∷ state.0.1)) (state_is s.0 state.0.0 s.1.0) ∙ ap ns s.1.1
            ∙ ap d n.0 ∙ ap (λ u. w (u ++ 32 ∷ caller.0.1)) client.0 ∙ ap w c.1.1,
        (client.1, n.1, m.1),
      )

  worded : (word rest known : Bytes) (row : Row) → bytes_eq word known ≡ true → Behind known rest row → Behind word rest row
  worded word rest known row is h = subst (λ w. Behind w rest row) (sym ((bytes_eq-Decides word known).0 is)) h

  told_is : (word rest : Bytes) (row : Row) → row_told word rest ≡ Some row → Behind word rest row
  unfolding row_told
  told_is word rest row h =
      ⊎_elim (λ k. worded word rest (codes "env") row k.0 (variable_is rest row k.1)) (λ h1.
      ⊎_elim (λ k. worded word rest (codes "subject") row k.0 (entity_is sides.Subject rest row k.1)) (λ h2.
      ⊎_elim (λ k. worded word rest (codes "object") row k.0 (entity_is sides.Object rest row k.1)) (λ h3.
      ⊎_elim (λ k. worded word rest (codes "value") row k.0 (attribute_is rest row k.1)) (λ h4.
      ⊎_elim (λ k. worded word rest (codes "act") row k.0 (act_is rest row k.1)) (λ h5.
      ⊎_elim (λ k. worded word rest (codes "session") row k.0 (session_is rest row k.1)) (λ h6. absurd (nothing h6))
      (either (bytes_eq word (codes "session")) _ _ _ h5))
      (either (bytes_eq word (codes "act")) _ _ _ h4))
      (either (bytes_eq word (codes "value")) _ _ _ h3))
      (either (bytes_eq word (codes "object")) _ _ _ h2))
      (either (bytes_eq word (codes "subject")) _ _ _ h1))
      (either (bytes_eq word (codes "env")) _ _ _ h)

  pub row_is : (line : Bytes) (row : Row) → row_read line ≡ Some row → IsRowOf line row
  unfolding row_read
  row_is line row h =
      let cut = and_then_is (cut_at 32 line) _ row h in
      subst (λ l. IsRowOf l row) (cut_is 32 line cut.0 cut.1.0) (told_is cut.0.0 cut.0.1 row cut.1.1)
