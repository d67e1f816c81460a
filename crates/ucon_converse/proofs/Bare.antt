-- What is told of readings has no newline.
use Rattle.std.proofs.Common.{◌≡◌, true, false, ℕ, zero, suc, ◌+◌, ◌-◌, ◌/◌, ◌%◌, ◌<◌, Bool, [], ◌∷◌, ◌++◌, refl, sym, subst, arith}
use Rattle.std.proofs.lemmas.Bool.{ne_eqb, eqb-true}
use Rattle.std.specs.Prelude.{ℤ, pos, negsuc, ◌==◌, ◌||◌, nat_lt, if◌then◌else◌, List, Option, codes, length, take}
use Rattle.std.specs.Char.{digit_char}
use Rattle.std.specs.Fmt.{decimal, digit_glyph, digits, digits_onto, signed_decimal}
use Rattle.std.specs.List.{flat_map}
use Rattle.json.specs.Print.{escape, escape_byte, escape_letter, quoted, token_text}
use Rattle.json.specs.Token.{Token}
use Rattle.serde_json.specs.Data.{Num, unsigned, negative, float, Data, null, boolean, number, string, array, object, Items, no_items, item, Members, no_members, member}
use Rattle.serde_json.specs.Written.{comma_if, compact_text, items_text, members_text, number_text}
use Rattle.ucon_base.specs.declared.value.Side.{Side}
use Rattle.ucon_base.specs.Elements.{each_append}
use Rattle.ucon_model.specs.declared.session.SessionRow.{SessionRow}
use Rattle.ucon_model.specs.declared.session.SessionState.{SessionState}
use Rattle.ucon_model.specs.declared.session.SessionState.TheVariants as states
use Rattle.ucon_model.specs.Output.{Lacks}
use Rattle.ucon_model.specs.Plain.{Bytes}
use Rattle.ucon_model.specs.Spelling.{state_word}
use Rattle.ucon_converse.specs.Readings.{joined, joint, number_of, row_words, using_of_words, using_words}
use Rattle.ucon_converse.proofs.OneLine.{all_lack}

abbrev IsOther : ℕ → Type 0
IsOther byte = (byte == 10) ≡ false

pub both : (xs ys : Bytes) → Lacks 10 xs → Lacks 10 ys → Lacks 10 (xs ++ ys)
both xs ys p q = each_append (λ (b : ℕ). (b == 10) ≡ false) xs ys p q

either_byte : (b : Bool) (m n : ℕ) → IsOther m → IsOther n → IsOther (if b then m else n)
either_byte true m n p q = p
either_byte false m n p q = q

either_text : (b : Bool) (xs ys : Bytes) → Lacks 10 xs → Lacks 10 ys → Lacks 10 (if b then xs else ys)
either_text true xs ys p q = p
either_text false xs ys p q = q

above : (m : ℕ) → 10 < m → IsOther m
above m more = ne_eqb m 10 (λ e. omega (arith, e, more))

-- ---- numbers

glyph_other : (d : ℕ) → IsOther (digit_glyph false d)
glyph_other d = either_byte (nat_lt d 10) (48 + d) (87 + d) (above (48 + d) (omega arith)) (above (87 + d) (omega arith))

digits_lack : (k n : ℕ) (acc : Bytes) → Lacks 10 acc → Lacks 10 (digits_onto k 10 false n acc)
digits_lack zero n acc h = h
digits_lack (suc k) n acc h =
    let more : Lacks 10 (digit_glyph false (n % 10) ∷ acc) = (glyph_other (n % 10), h) in
    either_text (n / 10 == 0) (digit_glyph false (n % 10) ∷ acc) (digits_onto k 10 false (n / 10) (digit_glyph false (n % 10) ∷ acc)) more
    (digits_lack k (n / 10) (digit_glyph false (n % 10) ∷ acc) more)

pub decimal_lacks : (n : ℕ) → Lacks 10 (decimal n)
unfolding digits
decimal_lacks n = digits_lack 64 n [] tt

signed_lacks : (z : ℤ) → Lacks 10 (signed_decimal z)
signed_lacks (pos n) = decimal_lacks n
signed_lacks (negsuc n) = (refl, decimal_lacks (suc n))

-- ---- JSON

letter_other : (x : ℕ) → IsOther x → IsOther (escape_letter x)
letter_other x other =
    either_byte ((x == 34) || (x == 92)) x _ other
    (either_byte (x == 8) 98 _ refl (either_byte (x == 12) 102 _ refl (either_byte (x == 10) 110 _ refl (either_byte (x == 13) 114 _ refl (either_byte (x == 9) 116 0 refl refl)))))

char_other : (d : ℕ) → IsOther (digit_char d)
char_other d = either_byte (nat_lt d 10) (48 + d) (87 + d) (above (48 + d) (omega arith)) (above (87 + d) (omega arith))

escaped_byte_lacks : (x : ℕ) → Lacks 10 (escape_byte x)
unfolding escape_byte
escaped_byte_lacks x = by (x == 10) refl
  where
    by : (is : Bool) → (x == 10) ≡ is → Lacks 10 (escape_byte x)
    by true e = let newline : 10 ≡ x = sym (eqb-true x 10 e) in subst (λ (b : ℕ). Lacks 10 (escape_byte b)) newline (refl, (refl, tt))
    by false e =
        either_text (nat_lt 0 (escape_letter x)) (92 ∷ escape_letter x ∷ []) _ (refl, (letter_other x e, tt))
        (either_text (nat_lt x 32) (92 ∷ 117 ∷ 48 ∷ 48 ∷ digit_char (x / 16) ∷ digit_char (x % 16) ∷ []) (x ∷ [])
        (refl, (refl, (refl, (refl, (char_other (x / 16), (char_other (x % 16), tt)))))) (e, tt))

escaped_lack : (s : Bytes) → Lacks 10 (escape s)
escaped_lack [] = tt
escaped_lack (x ∷ s) = both (escape_byte x) (escape s) (escaped_byte_lacks x) (escaped_lack s)

pub quoted_lacks : (s : Bytes) → Lacks 10 (quoted s)
quoted_lacks s = (refl, both (escape s) (34 ∷ []) (escaped_lack s) (refl, tt))

number_lacks : (n : Num) → Lacks 10 (number_text n)
number_lacks (unsigned n) = decimal_lacks n
number_lacks (negative z) = signed_lacks z
number_lacks (float x) = tt

comma_lacks : (later : Bool) → Lacks 10 (comma_if later)
comma_lacks true = (refl, tt)
comma_lacks false = tt

mutual
  pub compact_lacks : (d : Data) → Lacks 10 (compact_text d)
  compact_lacks null = all_lack (token_text Token.null) refl
  compact_lacks (boolean true) = all_lack (token_text (Token.boolean true)) refl
  compact_lacks (boolean false) = all_lack (token_text (Token.boolean false)) refl
  compact_lacks (number n) = number_lacks n
  compact_lacks (string s) = quoted_lacks s
  compact_lacks (array ds) = (refl, items_lack false ds)
  compact_lacks (object ms) = (refl, members_lack false ms)

  items_lack : (later : Bool) (ds : Items) → Lacks 10 (items_text later ds)
  items_lack later no_items = (refl, tt)
  items_lack later (item d ds) =
      both (comma_if later) (compact_text d ++ items_text true ds) (comma_lacks later) (both (compact_text d) (items_text true ds) (compact_lacks d) (items_lack true ds))

  members_lack : (later : Bool) (ms : Members) → Lacks 10 (members_text later ms)
  members_lack later no_members = (refl, tt)
  members_lack later (member k d ms) =
      both (comma_if later) (quoted k ++ 58 ∷ (compact_text d ++ members_text true ms)) (comma_lacks later)
      (both (quoted k) (58 ∷ (compact_text d ++ members_text true ms)) (quoted_lacks k)
      (refl, both (compact_text d) (members_text true ms) (compact_lacks d) (members_lack true ms)))

-- ---- lines as one

joint_lacks : (byte : ℕ) → Lacks 10 (joint byte)
joint_lacks byte = by (byte == 10) refl
  where
    by : (is : Bool) → (byte == 10) ≡ is → Lacks 10 (if is then codes "; " else byte ∷ [])
    by true e = (refl, (refl, tt))
    by false e = (e, tt)

joints_lack : (bytes : Bytes) → Lacks 10 (flat_map joint bytes)
joints_lack [] = tt
joints_lack (b ∷ bytes) = both (joint b) (flat_map joint bytes) (joint_lacks b) (joints_lack bytes)

pub joined_lacks : (text : Bytes) → Lacks 10 (joined text)
joined_lacks text = joints_lack (take (length text - 1) text)

-- ---- sessions

numbers_lack : (numbers : List ℕ) → Lacks 10 (flat_map (λ n. 32 ∷ decimal n) numbers)
numbers_lack [] = tt
numbers_lack (n ∷ numbers) = (refl, both (decimal n) (flat_map (λ m. 32 ∷ decimal m) numbers) (decimal_lacks n) (numbers_lack numbers))

pub using_lacks : (numbers : List ℕ) → Lacks 10 (using_words numbers)
using_lacks numbers = both (codes "using") (flat_map (λ n. 32 ∷ decimal n) numbers) (all_lack (codes "using") refl) (numbers_lack numbers)

module _ (side : Side) (name : Bytes) (row : ℕ → Option SessionRow) where
  number_of_lacks : (n : ℕ) → Lacks 10 (number_of side name row n)
  number_of_lacks n = either_text _ (32 ∷ decimal n) [] (refl, decimal_lacks n) tt

  numbers_of_lack : (numbers : List ℕ) → Lacks 10 (flat_map (number_of side name row) numbers)
  numbers_of_lack [] = tt
  numbers_of_lack (n ∷ numbers) = both (number_of side name row n) (flat_map (number_of side name row) numbers) (number_of_lacks n) (numbers_of_lack numbers)

  pub using_of_lacks : (numbers : List ℕ) → Lacks 10 (using_of_words side name row numbers)
  using_of_lacks numbers = both (codes "using") (flat_map (number_of side name row) numbers) (all_lack (codes "using") refl) (numbers_of_lack numbers)

state_lacks : (state : SessionState) → Lacks 10 (state_word state)
state_lacks states.Requesting = all_lack (codes "requesting") refl
state_lacks states.Denied = all_lack (codes "denied") refl
state_lacks states.Accessing = all_lack (codes "accessing") refl
state_lacks states.Revoked = all_lack (codes "revoked") refl
state_lacks states.Ended = all_lack (codes "ended") refl

pub row_lacks : (n : ℕ) (row : SessionRow) → Lacks 10 row.subject → Lacks 10 row.right → Lacks 10 row.object → Lacks 10 (row_words n row)
row_lacks n row s r o =
    let a : Bytes = codes "session " ++ decimal n in
    let b : Bytes = a ++ 32 ∷ decimal row.caller.0 in
    let c : Bytes = b ++ 32 ∷ row.subject in
    let d : Bytes = c ++ 32 ∷ row.right in
    let e : Bytes = d ++ 32 ∷ row.object in
    let f : Bytes = e ++ 32 ∷ state_word row.state in
    let in_a : Lacks 10 a = both (codes "session ") (decimal n) (all_lack (codes "session ") refl) (decimal_lacks n) in
    let in_b : Lacks 10 b = both a (32 ∷ decimal row.caller.0) in_a (refl, decimal_lacks row.caller.0) in
    let in_c : Lacks 10 c = both b (32 ∷ row.subject) in_b (refl, s) in
    let in_d : Lacks 10 d = both c (32 ∷ row.right) in_c (refl, r) in
    let in_e : Lacks 10 e = both d (32 ∷ row.object) in_d (refl, o) in
    let in_f : Lacks 10 f = both e (32 ∷ state_word row.state) in_e (refl, state_lacks row.state) in
    both f (32 ∷ signed_decimal row.start) in_f (refl, signed_lacks row.start)
