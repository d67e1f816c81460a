-- A reading's text is read as it, and nothing else is.
use Rattle.std.proofs.Common.{◌≡◌, true, false, ℕ, ◌<◌, ◌^◌, [], ◌∷◌, ◌++◌, is_some, append_assoc, refl, sym, ap, subst, ◌∙◌}
use Rattle.std.proofs.lemmas.Bool.{eq-eqb, eqb-true, false≢true, ltb-true}
use Rattle.std.proofs.lemmas.Slice.Eq.{bytes_eq-Decides}
use Rattle.std.specs.Prelude.{⊤, ℤ, pos, negsuc, Bool, ◌==◌, if◌then◌else◌, nat_lt, IsTrue, Option, Some, None, option_map, option_and_then, unwrap_or, codes}
use Rattle.std.specs.Fmt.{decimal}
use Rattle.std.specs.Str.{bytes_eq}
use Rattle.ucon_base.specs.declared.value.Side.{Side}
use Rattle.ucon_base.specs.declared.value.Side.TheVariants as sides
use Rattle.ucon_base.specs.NameBytes.{is_name}
use Rattle.ucon_base.specs.Spelling.{side_word}
use Rattle.ucon_model.specs.CommandLine.{integer_in, name_in, number_in, number_of, side_in}
use Rattle.ucon_model.specs.Output.{Lacks, cut_at}
use Rattle.ucon_model.specs.Plain.{Bytes}
use Rattle.ucon_converse.specs.declared.reading.Reading.{Reading}
use Rattle.ucon_converse.specs.declared.reading.Reading.TheVariants.{State, Session, Using, UsingOf, Explain, Policy, Steps}
use Rattle.ucon_converse.specs.ReadingLines.{behind_word, names_told, of_one, one_word, reading_read, try_told, words_told}
use Rattle.ucon_converse.specs.Readings.{IsInForm, IsReadingOf, reading_spelling}

nothing : {A : Type 0} {x : A} → None ≡ Some x → ⊥
nothing h = false≢true (ap is_some h)

same_bytes : (xs ys : Bytes) → bytes_eq xs ys ≡ true → xs ≡ ys
same_bytes xs ys h = (bytes_eq-Decides xs ys).0 h

-- ---- cuts

cut_at-append : (byte : ℕ) (xs ys : Bytes) → Lacks byte xs → cut_at byte (xs ++ byte ∷ ys) ≡ Some (xs, ys)
cut_at-append byte [] ys h = rw (eq-eqb byte byte refl) refl
cut_at-append byte (x ∷ xs) ys h = rw (h.0, cut_at-append byte xs ys h.1) refl

-- what a cut gives is joined again
abbrev Joins : ℕ → Bytes → Option (Bytes × Bytes) → Type 0
Joins byte bs None = ⊤
Joins byte bs (Some p) = p.0 ++ byte ∷ p.1 ≡ bs

longer : (byte b : ℕ) (bs : Bytes) (o : Option (Bytes × Bytes)) → Joins byte bs o → Joins byte (b ∷ bs) (option_map (λ q. (b ∷ q.0, q.1)) o)
longer byte b bs None joins = tt
longer byte b bs (Some p) joins = ap (λ (l : Bytes). b ∷ l) joins

cut_joins : (byte : ℕ) (bs : Bytes) → Joins byte bs (cut_at byte bs)
cut_joins byte [] = tt
cut_joins byte (b ∷ bs) = by (cut_joins byte bs) (b == byte) refl
  where
    by : Joins byte bs (cut_at byte bs) → (same : Bool) → (b == byte) ≡ same
        → Joins byte (b ∷ bs) (if same then Some ([], bs) else option_map (λ q. (b ∷ q.0, q.1)) (cut_at byte bs))
    by next true e = ap (λ (n : ℕ). n ∷ bs) (sym (eqb-true b byte e))
    by next false e = longer byte b bs (cut_at byte bs) next

-- ---- words

name_written : (name : Bytes) → is_name name ≡ true → name_in name ≡ Some name
name_written name e = rw e refl

name_is : (bs name : Bytes) → name_in bs ≡ Some name → (name ≡ bs) × IsTrue (is_name name)
name_is bs name h = by (is_name bs) refl h
  where
    by : (is : Bool) → is_name bs ≡ is → (if is then Some bs else None) ≡ Some name → (name ≡ bs) × IsTrue (is_name name)
    by true e h =
        let same : bs ≡ name = ap (λ (o : Option Bytes). unwrap_or o bs) h in
        (sym same, subst (λ (l : Bytes). IsTrue (is_name l)) same e)
    by false e h = absurd (nothing h)

side_is : (bs : Bytes) (side : Side) → side_in bs ≡ Some side → side_word side ≡ bs
side_is bs side h = by (bytes_eq bs (codes "s")) (bytes_eq bs (codes "o")) refl refl h
  where
    by : (s o : Bool) → bytes_eq bs (codes "s") ≡ s → bytes_eq bs (codes "o") ≡ o
        → (if s then Some sides.Subject else if o then Some sides.Object else None) ≡ Some side → side_word side ≡ bs
    by true o is_s is_o h = ap (λ (x : Option Side). side_word (unwrap_or x side)) (sym h) ∙ sym (same_bytes bs (codes "s") is_s)
    by false true is_s is_o h = ap (λ (x : Option Side). side_word (unwrap_or x side)) (sym h) ∙ sym (same_bytes bs (codes "o") is_o)
    by false false is_s is_o h = absurd (nothing h)

-- a number of a session is below 2^32
few : (o : Option ℤ) (n : ℕ) → option_and_then number_of o ≡ Some n → n < 2 ^ 32
few None n h = absurd (nothing h)
few (Some (negsuc m)) n h = absurd (nothing h)
few (Some (pos m)) n h = by (nat_lt m (2 ^ 32)) refl h
  where
    by : (small : Bool) → nat_lt m (2 ^ 32) ≡ small → (if small then Some m else None) ≡ Some n → n < 2 ^ 32
    by true e h = subst (λ (k : ℕ). k < 2 ^ 32) (ap (λ (o : Option ℕ). unwrap_or o m) h) (ltb-true m (2 ^ 32) e)
    by false e h = absurd (nothing h)

-- ---- what is read is the line

abbrev Right : Bytes → Option Reading → Type 0
Right line None = ⊤
Right line (Some reading) = IsReadingOf line reading

branch : (line : Bytes) (t : Bool) (x y : Option Reading) → (t ≡ true → Right line x) → Right line y → Right line (if t then x else y)
branch line true x y a b = a refl
branch line false x y a b = b

-- a word that is a reading of its own
alone : (line word : Bytes) (reading : Reading) (others : Option Reading) → IsInForm reading → word ≡ reading_spelling reading → Right line others
    → Right line (if bytes_eq line word then Some reading else others)
alone line word reading others in_form is rest =
    branch line (bytes_eq line word) (Some reading) others (λ e. record { in_form = in_form; line_is = same_bytes line word e ∙ is }) rest

word_right : (line : Bytes) → Right line (one_word line)
word_right line =
    alone line (codes "state") State _ tt refl
    (alone line (codes "using") Using _ tt refl (alone line (codes "policy") Policy _ tt refl (alone line (codes "steps") Steps None tt refl tt)))

module _ (numbers_read : (bytes : Bytes) (n : ℕ) → number_in bytes ≡ Some n → decimal n ≡ bytes) (line word rest : Bytes) (whole : word ++ 32 ∷ rest ≡ line) where
  begins : (first : Bytes) → bytes_eq word first ≡ true → line ≡ first ++ 32 ∷ rest
  begins first e = sym whole ∙ ap (λ (w : Bytes). w ++ 32 ∷ rest) (same_bytes word first e)

  session_right : bytes_eq word (codes "session") ≡ true → (o : Option ℕ) → number_in rest ≡ o → Right line (option_map Session o)
  session_right e None is = tt
  session_right e (Some n) is = record {
    in_form = few (integer_in rest) n is;
    line_is = begins (codes "session") e ∙ ap (λ (l : Bytes). codes "session " ++ l) (sym (numbers_read rest n is));
  }

  one_right : bytes_eq word (codes "using") ≡ true → (p : Bytes × Bytes) → p.0 ++ 32 ∷ p.1 ≡ rest → Right line (of_one p)
  one_right e p joins = by_side (side_in p.0) refl
    where
      by_name : (side : Side) → side_word side ≡ p.0 → (o : Option Bytes) → name_in p.1 ≡ o → Right line (option_map (UsingOf side) o)
      by_name side of_side None is = tt
      by_name side of_side (Some name) is =
          let named = name_is p.1 name is in
          record {
            in_form = named.1;
            line_is =
                begins (codes "using") e
                ∙ ap (λ (l : Bytes). codes "using " ++ l) (sym joins ∙ (λ i. sym of_side i ++ 32 ∷ sym named.0 i));
          }

      by_side : (o : Option Side) → side_in p.0 ≡ o → Right line (option_and_then (λ side. option_map (UsingOf side) (name_in p.1)) o)
      by_side None is = tt
      by_side (Some side) is = by_name side (side_is p.0 side is) (name_in p.1) refl

  using_right : bytes_eq word (codes "using") ≡ true → (o : Option (Bytes × Bytes)) → Joins 32 rest o → Right line (option_and_then of_one o)
  using_right e None joins = tt
  using_right e (Some p) joins = one_right e p joins

  names_right : bytes_eq word (codes "explain") ≡ true → (s r o : Bytes) → s ++ 32 ∷ (r ++ 32 ∷ o) ≡ rest → Right line (names_told s r o)
  names_right e s r o joins = by_subject (name_in s) refl
    where
      by_object : (subject right : Bytes) → (subject ≡ s) × IsTrue (is_name subject) → (right ≡ r) × IsTrue (is_name right) → (x : Option Bytes) → name_in o ≡ x
          → Right line (option_map (Explain subject right) x)
      by_object subject right is_s is_r None is = tt
      by_object subject right is_s is_r (Some object) is =
          let is_o = name_is o object is in
          let parts : rest ≡ subject ++ 32 ∷ (right ++ 32 ∷ object) = sym joins ∙ (λ i. sym is_s.0 i ++ 32 ∷ (sym is_r.0 i ++ 32 ∷ sym is_o.0 i)) in
          record {
            in_form = (is_s.1, is_r.1, is_o.1);
            line_is = begins (codes "explain") e ∙ ap (λ (l : Bytes). codes "explain " ++ l) (parts ∙ sym (append_assoc subject (32 ∷ right) (32 ∷ object)));
          }

      by_right : (subject : Bytes) → (subject ≡ s) × IsTrue (is_name subject) → (x : Option Bytes) → name_in r ≡ x
          → Right line (option_and_then (λ right. option_map (Explain subject right) (name_in o)) x)
      by_right subject is_s None is = tt
      by_right subject is_s (Some right) is = by_object subject right is_s (name_is r right is) (name_in o) refl

      by_subject : (x : Option Bytes) → name_in s ≡ x
          → Right line (option_and_then (λ subject. option_and_then (λ right. option_map (Explain subject right) (name_in o)) (name_in r)) x)
      by_subject None is = tt
      by_subject (Some subject) is = by_right subject (name_is s subject is) (name_in r) refl

  try_right : bytes_eq word (codes "explain") ≡ true → (p : Bytes × Bytes) → p.0 ++ 32 ∷ p.1 ≡ rest → Right line (try_told p)
  try_right e p joins = by (cut_at 32 p.1) (cut_joins 32 p.1)
    where
      by : (o : Option (Bytes × Bytes)) → Joins 32 p.1 o → Right line (option_and_then (λ q. names_told p.0 q.0 q.1) o)
      by None more = tt
      by (Some q) more = names_right e p.0 q.0 q.1 (ap (λ (l : Bytes). p.0 ++ 32 ∷ l) more ∙ joins)

  explain_right : bytes_eq word (codes "explain") ≡ true → (o : Option (Bytes × Bytes)) → Joins 32 rest o → Right line (option_and_then try_told o)
  explain_right e None joins = tt
  explain_right e (Some p) joins = try_right e p joins

  behind_right : Right line (behind_word word rest)
  behind_right =
      branch line (bytes_eq word (codes "session")) (option_map Session (number_in rest)) _ (λ e. session_right e (number_in rest) refl)
      (branch line (bytes_eq word (codes "using")) (option_and_then of_one (cut_at 32 rest)) _ (λ e. using_right e (cut_at 32 rest) (cut_joins 32 rest))
      (branch line (bytes_eq word (codes "explain")) (option_and_then try_told (cut_at 32 rest)) None (λ e. explain_right e (cut_at 32 rest) (cut_joins 32 rest)) tt))

module _ (numbers_read : (bytes : Bytes) (n : ℕ) → number_in bytes ≡ Some n → decimal n ≡ bytes) where
  read_right : (line : Bytes) (o : Option (Bytes × Bytes)) → Joins 32 line o → Right line (words_told line o)
  read_right line None joins = word_right line
  read_right line (Some p) joins = behind_right numbers_read line p.0 p.1 joins

  pub what_is_read : (line : Bytes) (reading : Reading) → reading_read line ≡ Some reading → IsReadingOf line reading
  what_is_read line reading is = subst (Right line) is (read_right line (cut_at 32 line) (cut_joins 32 line))

-- ---- what is written is read

module _ (numbers_written : (n : ℕ) → n < 2 ^ 32 → number_in (decimal n) ≡ Some n) (names : (name : Bytes) → is_name name ≡ true → Lacks 32 name) where
  three_names : (s r o : Bytes) → is_name s ≡ true → is_name r ≡ true → is_name o ≡ true → names_told s r o ≡ Some (Explain s r o)
  three_names s r o is_s is_r is_o = rw (is_s, is_r, is_o) refl

  tried : (s r o : Bytes) → is_name s ≡ true → is_name r ≡ true → is_name o ≡ true → option_and_then try_told (cut_at 32 (s ++ 32 ∷ r ++ 32 ∷ o)) ≡ Some (Explain s r o)
  tried s r o is_s is_r is_o =
      ap (λ (l : Bytes). option_and_then try_told (cut_at 32 l)) (append_assoc s (32 ∷ r) (32 ∷ o))
      ∙ (ap (option_and_then try_told) (cut_at-append 32 s (r ++ 32 ∷ o) (names s is_s))
      ∙ (ap (option_and_then (λ q. names_told s q.0 q.1)) (cut_at-append 32 r o (names r is_r)) ∙ three_names s r o is_s is_r is_o))

  pub what_is_written : (reading : Reading) → IsInForm reading → reading_read (reading_spelling reading) ≡ Some reading
  what_is_written State form = refl
  what_is_written (Session n) form = ap (option_map Session) (numbers_written n form)
  what_is_written Using form = refl
  what_is_written (UsingOf sides.Subject name) form = ap (option_map (UsingOf sides.Subject)) (name_written name form)
  what_is_written (UsingOf sides.Object name) form = ap (option_map (UsingOf sides.Object)) (name_written name form)
  what_is_written (Explain s r o) form = tried s r o form.0 form.1 form.2
  what_is_written Policy form = refl
  what_is_written Steps form = refl
