-- A document, read as far as its divider.
use Rattle.std.proofs.Common.{◌≡◌, ℕ, ◌+◌, ◌-◌, ◌<◌, ◌≤◌, true, false, List, [], ◌∷◌, ◌++◌, length, take, refl, sym, ap, ◌∙◌, ⊎_elim, arith, append_assoc, length-append}
use Rattle.std.specs.Prelude.{Option, Some, None, option_map, codes}
use Rattle.std.proofs.Math.Seq.{take-append_seam}
use Rattle.std.proofs.lemmas.List.{append-nil}
use Rattle.std.proofs.lemmas.Slice.Eq.{bytes_eq-Decides}
use Rattle.ucon_model.specs.Plain.{Bytes}
use Rattle.ucon_model.specs.Document.{is_divider, before_divider, lines_of, script_lines, script_number, script_told}
use Rattle.ucon_syntax.specs.Policies.{accepted}
use Rattle.ucon_script.proofs.Cuts.{first_line, next_lines, IsCut, IsLastLine, cut_or_last}

-- what stands before the rest of a text
abbrev pub front : Bytes → Bytes → Bytes
front bytes rest = take (length bytes - length rest) bytes

-- No line before the rest is the divider, and so many there are.
pub record ReadTo (bytes rest : Bytes) (above : ℕ) : Type 0 where
  pub joined : front bytes rest ++ rest ≡ bytes
  pub place : option_map (λ text. front bytes rest ++ text) (before_divider (lines_of rest)) ≡ before_divider (lines_of bytes)
  pub script : script_lines (lines_of rest) ≡ script_lines (lines_of bytes)
  pub number : 0 < length rest → above + script_number (lines_of rest) ≡ script_number (lines_of bytes)
  pub bound : above + length rest ≤ length bytes

-- what was found where the divider stands
pub record IsFound (bytes rest : Bytes) (above : ℕ) : Type 0 where
  pub place : Some (front bytes rest) ≡ before_divider (lines_of bytes)
  pub number : script_number (lines_of bytes) ≡ above + 2
  pub script : (n : ℕ) → script_told accepted n [] (lines_of (next_lines rest)) ≡ script_told accepted n [] (script_lines (lines_of bytes))
  pub within : length (next_lines rest) + above + 2 ≤ length bytes

front_is : (bytes f rest : Bytes) → f ++ rest ≡ bytes → front bytes rest ≡ f
front_is bytes f rest e =
    let n : length bytes - length rest ≡ length f = omega (arith, ap length e, length-append f rest) in
    rw (n, ← e) (take-append_seam f rest)

map_nothing : (o : Option Bytes) → option_map (λ (text : Bytes). [] ++ text) o ≡ o
map_nothing None = refl
map_nothing (Some text) = refl

pub none_read : (bytes : Bytes) → ReadTo bytes bytes 0
none_read bytes =
    let e : front bytes bytes ≡ [] = front_is bytes [] bytes refl in record {
      joined = rw e refl;
      place = rw e (map_nothing (before_divider (lines_of bytes)));
      script = refl;
      number = λ _. omega arith;
      bound = omega arith;
    }

behind_line : (f line : Bytes) (o : Option Bytes) → option_map (λ (t : Bytes). (f ++ line ++ 10 ∷ []) ++ t) o ≡ option_map (λ (t : Bytes). f ++ t) (option_map (λ (t : Bytes). line ++ 10 ∷ t) o)
behind_line f line None = refl
behind_line f line (Some t) = simp append_assoc refl

not_here : (l : Bytes) (ls : List Bytes) → is_divider l ≡ false → before_divider (l ∷ ls) ≡ option_map (λ text. l ++ 10 ∷ text) (before_divider ls)
not_here l ls e = rw e refl

not_before : (l : Bytes) (ls : List Bytes) → is_divider l ≡ false → script_lines (l ∷ ls) ≡ script_lines ls
not_before l ls e = rw e refl

not_counted : (l : Bytes) (ls : List Bytes) → is_divider l ≡ false → script_number (l ∷ ls) ≡ script_number ls + 1
not_counted l ls e = rw e refl

cut_read : (bytes rest : Bytes) (above : ℕ) → ReadTo bytes rest above → is_divider (first_line rest) ≡ false → 0 < length rest → IsCut rest → ReadTo bytes (next_lines rest) (above + 1)
cut_read bytes rest above read other some cut =
    let line : Bytes = first_line rest in
    let next : Bytes = next_lines rest in
    let f : Bytes = front bytes rest in
    let whole : (f ++ line ++ 10 ∷ []) ++ next ≡ bytes = simp append_assoc (ap (λ (r : Bytes). f ++ r) (sym cut.whole) ∙ read.joined) in
    let e : front bytes next ≡ f ++ line ++ 10 ∷ [] = front_is bytes (f ++ line ++ 10 ∷ []) next whole in record {
      joined = rw e whole;
      place = rw e (behind_line f line (before_divider (lines_of next)) ∙ ap (λ (o : Option Bytes). option_map (λ (t : Bytes). f ++ t) o) (sym (not_here line (lines_of next) other) ∙ ap before_divider (sym cut.lines)) ∙ read.place);
      script = sym (not_before line (lines_of next) other) ∙ ap script_lines (sym cut.lines) ∙ read.script;
      number = λ _. omega (arith, read.number some, ap script_number cut.lines, not_counted line (lines_of next) other);
      bound = omega (arith, read.bound, ap length cut.whole, length-append line (10 ∷ next));
    }

last_read : (bytes rest : Bytes) (above : ℕ) → ReadTo bytes rest above → is_divider (first_line rest) ≡ false → 0 < length rest → IsLastLine rest → ReadTo bytes (next_lines rest) (above + 1)
last_read bytes rest above read other some last =
    let line : Bytes = first_line rest in
    let e : front bytes [] ≡ bytes = front_is bytes bytes [] (append-nil bytes) in rw last.behind (record {
      joined = rw e (append-nil bytes);
      place = ap (λ (o : Option Bytes). option_map (λ (t : Bytes). front bytes rest ++ t) o) (sym (not_here line [] other) ∙ ap before_divider (sym last.lines)) ∙ read.place;
      script = sym (not_before line [] other) ∙ ap script_lines (sym last.lines) ∙ read.script;
      number = λ h. absurd (omega (arith, h));
      bound = omega (arith, read.bound);
    })

pub next_read : (bytes rest : Bytes) (above : ℕ) → ReadTo bytes rest above → is_divider (first_line rest) ≡ false → 0 < length rest → ReadTo bytes (next_lines rest) (above + 1)
next_read bytes rest above read other some = ⊎_elim (cut_read bytes rest above read other some) (last_read bytes rest above read other some) (cut_or_last rest)

-- ---- the divider found

two_long : (l : Bytes) → is_divider l ≡ true → length l ≡ 2
two_long l h = ap length ((bytes_eq-Decides l (codes "%%")).0 h)

found_at : (bytes rest : Bytes) (above : ℕ) (ls : List Bytes) → ReadTo bytes rest above → is_divider (first_line rest) ≡ true → 0 < length rest
    → lines_of rest ≡ first_line rest ∷ ls → ((n : ℕ) → script_told accepted n [] (lines_of (next_lines rest)) ≡ script_told accepted n [] ls)
    → 2 + length (next_lines rest) ≤ length rest → IsFound bytes rest above
found_at bytes rest above ls read here some lines same short =
    let divided : before_divider (lines_of rest) ≡ Some [] = rw (lines, here) refl in
    let counted : script_number (lines_of rest) ≡ 2 = rw (lines, here) refl in
    let behind : script_lines (lines_of rest) ≡ ls = rw (lines, here) refl in record {
      place = ap (λ (t : Bytes). Some t) (sym (append-nil (front bytes rest))) ∙ ap (λ (o : Option Bytes). option_map (λ (t : Bytes). front bytes rest ++ t) o) (sym divided) ∙ read.place;
      number = omega (arith, read.number some, counted);
      script = λ n. same n ∙ ap (λ (ls : List Bytes). script_told accepted n [] ls) (sym behind ∙ read.script);
      within = omega (arith, read.bound, short);
    }

pub found : (bytes rest : Bytes) (above : ℕ) → ReadTo bytes rest above → is_divider (first_line rest) ≡ true → 0 < length rest → IsFound bytes rest above
found bytes rest above read here some = ⊎_elim
    (λ cut. found_at bytes rest above (lines_of (next_lines rest)) read here some cut.lines (λ n. refl)
    (omega (arith, ap length cut.whole, length-append (first_line rest) (10 ∷ next_lines rest), two_long (first_line rest) here)))
    (λ last. found_at bytes rest above [] read here some last.lines (λ n. rw last.behind refl)
    (omega (arith, ap length last.whole, ap length last.behind, two_long (first_line rest) here)))
    (cut_or_last rest)

-- ---- no divider

pub all_read : (bytes rest : Bytes) (above : ℕ) → ReadTo bytes rest above → rest ≡ [] → (None ≡ before_divider (lines_of bytes)) × (script_lines (lines_of bytes) ≡ [])
all_read bytes rest above read e = (rw e at read.place, sym (rw e at read.script))
