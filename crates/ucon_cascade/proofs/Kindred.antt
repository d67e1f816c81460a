-- Sessions of one kind are judged alike.
use Rattle.std.proofs.Common.{◌≡◌, ◌∙◌, ◌<◌, ℕ, Bool, true, false, [], ap, refl, sym}
use Rattle.std.specs.Prelude.{IfSome, Option, Some, None, option_map}
use Rattle.std.specs.List.{list_any}
use Rattle.std.specs.Option.{option_map_or}
use Rattle.ucon_base.specs.declared.value.Side.{Side}
use Rattle.ucon_base.specs.declared.value.Side.TheVariants as sides
use Rattle.ucon_model.specs.declared.session.SessionRow.{SessionRow}
use Rattle.ucon_model.specs.Groups.{is_of_side}
use Rattle.ucon_model.specs.Plain.{Bytes, PlainRight}
use Rattle.ucon_model.specs.Places.{places_read}
use Rattle.ucon_model.specs.Decision.{right_named}
use Rattle.ucon_model.specs.Lookup.{right_read}
use Rattle.ucon_model.specs.Reach.{places_of, right_timed}
use Rattle.ucon_model.specs.Updates.{entity_of}
use Rattle.ucon_readers.specs.declared.kind.Kind.{Kind}
use Rattle.ucon_state.specs.declared.numbers.Numbers.{Numbers}
use Rattle.ucon_state.specs.declared.state.State.{State}
use Rattle.ucon_state.specs.Numbers.{Names, names_by, names_of}
use Rattle.ucon_state.specs.Shown.{object_name, right_name, shown, subject_name}
use Rattle.ucon_state.specs.Tables.{readings_in, session_in}
use Rattle.ucon_cascade.specs.Grouping.{AreAlike, MayLead}
use Rattle.ucon_cascade.specs.Kinds.{IsOfKind}
use Rattle.ucon_cascade.specs.Putting.{GoesOn}
use Rattle.ucon_cascade.proofs.Asking.{right_by_row}

-- ---- by numbers

told_names : (s : State) (o : Option SessionRow) (numbers : Numbers) → option_map (names_by s) (Some numbers) ≡ option_map names_of o
    → (row : SessionRow) × (o ≡ Some row) × (names_of row ≡ names_by s numbers)
told_names s None numbers told = let no : Some (names_by s numbers) ≡ None = told in absurd cc
told_names s (Some row) numbers told =
    let both : Some (names_by s numbers) ≡ Some (names_of row) = told in
    (row, refl, let same : names_of row ≡ names_by s numbers = cc in same)

by_number : (name : ℕ → Bytes) (o : Option ℕ) (is : Bytes) (number : ℕ) → is ≡ name number → IfSome o (λ it. it ≡ number) → IfSome o (λ it. is ≡ name it)
by_number name None is number same told = tt
by_number name (Some it) is number same told = same ∙ ap name (sym told)

-- a session with these numbers is of a kind that has them
pub of_kind : (s : State) (n : ℕ) (numbers : Numbers) (kind : Kind) (o : Option Numbers) → o ≡ Some numbers
    → option_map (names_by s) o ≡ option_map names_of (session_in (shown s).tables n)
    → numbers.right ≡ kind.right → IfSome kind.subject (λ it. it ≡ numbers.subject) → IfSome kind.object (λ it. it ≡ numbers.object) → IsOfKind s n kind
of_kind s n numbers kind o is told right subject object =
    let found = told_names s (session_in (shown s).tables n) numbers (sym (ap (option_map (names_by s)) is) ∙ told) in
    record {
      row = found.0;
      is = found.1;
      right = ap (λ (names : Names). names.right) found.2 ∙ ap (right_name s) right;
      subject = by_number (subject_name s) kind.subject found.0.subject numbers.subject (ap (λ (names : Names). names.subject) found.2) subject;
      object = by_number (object_name s) kind.object found.0.object numbers.object (ap (λ (names : Names). names.object) found.2) object;
    }

-- ---- alike

one_name : (name : ℕ → Bytes) (o : Option ℕ) (a b : Bytes) → IfSome o (λ it. a ≡ name it) → IfSome o (λ it. b ≡ name it) → (o ≡ None → ⊥) → a ≡ b
one_name name None a b one two some = absurd (some refl)
one_name name (Some it) a b one two some = one ∙ sym two

not_both : (b : Bool) → b ≡ true → b ≡ false → ⊥
not_both true is isnt = cc
not_both false is isnt = cc

-- two of one kind, of the second's right, which reads of no side where the kind tells no entity and has no timed parts, are judged alike
pub of_one_kind : (s : State) (m n : ℕ) (kind : Kind) (r : PlainRight) → IsOfKind s m kind → (one : IsOfKind s n kind)
    → right_named (shown s).policy.rights one.row.right ≡ Some r → right_timed r ≡ []
    → (kind.subject ≡ None → list_any (is_of_side sides.Subject) (places_read r) ≡ false)
    → (kind.object ≡ None → list_any (is_of_side sides.Object) (places_read r) ≡ false) → AreAlike (shown s) m n
of_one_kind s m n kind r first one there untimed subject object =
    let same : first.row.right ≡ one.row.right = first.right ∙ sym one.right in
    let its : right_named (shown s).policy.rights first.row.right ≡ Some r = ap (right_named (shown s).policy.rights) same ∙ there in
    let places : places_of (shown s).policy first.row ≡ places_read r = ap (λ (o : Option PlainRight). option_map_or places_read o []) its in
    record {
      row = first.row;
      other = one.row;
      is = first.is;
      other_is = one.is;
      alike = record {
        right = same;
        untimed = ap (λ (o : Option PlainRight). option_map_or right_timed o []) its ∙ untimed;
        entities = entities places;
      };
    }
  where
    entities : places_of (shown s).policy first.row ≡ places_read r → (side : Side) → list_any (is_of_side side) (places_of (shown s).policy first.row) ≡ true
        → entity_of side first.row ≡ entity_of side one.row
    entities places sides.Subject reads =
        one_name (subject_name s) kind.subject first.row.subject one.row.subject first.subject one.subject
        (λ none. not_both (list_any (is_of_side sides.Subject) (places_read r)) (ap (list_any (is_of_side sides.Subject)) (sym places) ∙ reads) (subject none))
    entities places sides.Object reads =
        one_name (object_name s) kind.object first.row.object one.row.object first.object one.object
        (λ none. not_both (list_any (is_of_side sides.Object) (places_read r)) (ap (list_any (is_of_side sides.Object)) (sym places) ∙ reads) (object none))

-- so a session of the kind that is below another, goes on and is its own first may lead it
pub may_lead : (s : State) (first : ℕ → ℕ) (n m : ℕ) (kind : Kind) (r : PlainRight) → m < n → GoesOn (shown s) m → first m ≡ m → IsOfKind s m kind → IsOfKind s n kind
    → Some r ≡ right_read (shown s).policy (readings_in (shown s).policy (shown s).tables) n → right_timed r ≡ []
    → (kind.subject ≡ None → list_any (is_of_side sides.Subject) (places_read r) ≡ false)
    → (kind.object ≡ None → list_any (is_of_side sides.Object) (places_read r) ≡ false) → MayLead (shown s) first n m
may_lead s first n m kind r below on itself its mine right untimed subject object = record {
  below = below;
  on = on;
  itself = itself;
  like = of_one_kind s m n kind r its mine (right_by_row (shown s) n mine.row (Some r) mine.is right) untimed subject object;
}
