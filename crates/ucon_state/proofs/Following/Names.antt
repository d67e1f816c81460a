-- The entities of a side: their names, how many they are, and whether one is there.
use Rattle.std.proofs.Common.{◌≡◌, ◌⊎◌, inl, inr, ◌∙◌, sym, ap, subst, ℕ, ◌+◌, ◌<◌, Bool, true, false, cond, List, [], ◌∷◌, ◌++◌, length, map, refl, arith}
use Rattle.std.specs.Prelude.{◌||◌, Option, Some, None, is_some, slice_get, position}
use Rattle.std.specs.Map.{lookup}
use Rattle.std.specs.Str.{bytes_eq}
use Rattle.std.proofs.lemmas.Bool.{or_right, cases_order}
use Rattle.std.proofs.lemmas.List.{length_push, map_push}
use Rattle.std.proofs.lemmas.Option.{same_Some}
use Rattle.std.proofs.lemmas.Slice.Eq.{bytes_eq-Decides}
use Rattle.ucon_base.specs.declared.value.Side.{Side}
use Rattle.ucon_base.specs.declared.value.Side.TheVariants.{Subject, Object}
use Rattle.ucon_model.specs.Plain.{Bytes}
use Rattle.ucon_model.specs.Action.{Trace, subject, object}
use Rattle.ucon_model.specs.Readings.{has_entity, entity_names, with_new}
use Rattle.ucon_state.specs.Following.{KeepsNames}
use Rattle.ucon_state.proofs.Following.Places.{still_there, added_there, not_there, place_kept, place_new, found_still, found_new, placed_where_found}

pub same_name : (a b : Bytes) → bytes_eq a b ≡ true → a ≡ b
same_name a b e = (bytes_eq-Decides a b).0 e

pub own_name : (a : Bytes) → bytes_eq a a ≡ true
own_name a = (bytes_eq-Decides a a).1 refl

pub keeps_names_opening : (side : Side) → KeepsNames [] side []
keeps_names_opening side = record { names = refl; count = refl; there = λ e. refl; number = λ e i at. absurd cc }

there_by : (es : List (Bytes × ℕ)) (e name : Bytes) (f : ℕ) (o : Option ℕ) (b : Bool) → lookup (bytes_eq e) es ≡ o → is_some o ≡ b
    → is_some (lookup (bytes_eq e) (es ++ (name, f) ∷ [])) ≡ (bytes_eq e name || b)
there_by es e name f (Some v) b is there = ap is_some (found_still (bytes_eq e) es (name, f) v is) ∙ sym (or_right (bytes_eq e name) b (sym there))
there_by es e name f None b is there = ap is_some (found_new (bytes_eq e) es (name, f) is) ∙ by_name (bytes_eq e name)
  where
    by_name : (c : Bool) → is_some (cond c (Some f) None) ≡ (c || b)
    by_name true = refl
    by_name false = there

there_step : (es : List (Bytes × ℕ)) (name : Bytes) (f : ℕ) (side : Side) (T : Trace) → KeepsNames es side T
    → (e : Bytes) → is_some (lookup (bytes_eq e) (es ++ (name, f) ∷ [])) ≡ (bytes_eq e name || has_entity side e T)
there_step es name f side T h e = there_by es e name f (lookup (bytes_eq e) es) (has_entity side e T) refl (h.there e)

names_step : (es : List (Bytes × ℕ)) (name : Bytes) (f : ℕ) (side : Side) (T : Trace) → KeepsNames es side T → has_entity side name T ≡ false
    → map (λ e. e.0) (es ++ (name, f) ∷ []) ≡ with_new (has_entity side name T) (entity_names side T) name
names_step es name f side T h new = map_push (λ e. e.0) es (name, f) ∙ rw (new, h.names) refl

-- each name stands at its number, an older one where it stood
pub number_by : (names : List Bytes) (name e : Bytes) (i : ℕ) → position (bytes_eq name) names ≡ None → (slice_get names i ≡ Some e → position (bytes_eq e) names ≡ Some i)
    → (i ≡ length names) ⊎ ((i < length names) ⊎ (length names < i)) → slice_get (names ++ name ∷ []) i ≡ Some e → position (bytes_eq e) (names ++ name ∷ []) ≡ Some i
number_by names name e i new old (inl last) at =
    let same : name ≡ e = same_Some name e (sym (added_there names (name ∷ []) i 0 (omega (arith, last))) ∙ at) in
    subst (λ (d : Bytes). position (bytes_eq d) (names ++ name ∷ []) ≡ Some i) same
    (place_new (bytes_eq name) names name new ∙ rw (own_name name, last) refl)
number_by names name e i new old (inr (inl lt)) at = place_kept (bytes_eq e) names name i (old (sym (still_there names (name ∷ []) i lt) ∙ at))
number_by names name e i new old (inr (inr gt)) at = let past = not_there (names ++ name ∷ []) i (omega (arith, length_push names name, gt)) in absurd cc

pub not_placed : (o : Option ℕ) → is_some o ≡ false → o ≡ None
not_placed None e = refl
not_placed (Some i) e = absurd cc

number_step : (es : List (Bytes × ℕ)) (name : Bytes) (f : ℕ) (side : Side) (T : Trace) → KeepsNames es side T → has_entity side name T ≡ false
    → (e : Bytes) (i : ℕ) → slice_get (map (λ d. d.0) (es ++ (name, f) ∷ [])) i ≡ Some e → position (bytes_eq e) (map (λ d. d.0) (es ++ (name, f) ∷ [])) ≡ Some i
number_step es name f side T h new e i =
    let none : position (bytes_eq name) (map (λ d. d.0) es) ≡ None =
    not_placed (position (bytes_eq name) (map (λ d. d.0) es)) (placed_where_found (bytes_eq name) es ∙ h.there name ∙ new) in
    subst (λ (names : List Bytes). slice_get names i ≡ Some e → position (bytes_eq e) names ≡ Some i) (sym (map_push (λ (d : Bytes × ℕ). d.0) es (name, f)))
    (number_by (map (λ d. d.0) es) name e i none (h.number e i) (cases_order i (length (map (λ (d : Bytes × ℕ). d.0) es))))

pub keeps_names_subject : (es : List (Bytes × ℕ)) (name : Bytes) (f : ℕ) (T : Trace) → KeepsNames es Subject T → has_entity Subject name T ≡ false
    → KeepsNames (es ++ (name, f) ∷ []) Subject (subject name ∷ T)
keeps_names_subject es name f T h new = record {
  names = names_step es name f Subject T h new;
  count = length_push es (name, f) ∙ ap (λ n. n + 1) h.count;
  there = there_step es name f Subject T h;
  number = number_step es name f Subject T h new;
}

pub keeps_names_object : (es : List (Bytes × ℕ)) (name : Bytes) (f : ℕ) (T : Trace) → KeepsNames es Object T → has_entity Object name T ≡ false
    → KeepsNames (es ++ (name, f) ∷ []) Object (object name ∷ T)
keeps_names_object es name f T h new = record {
  names = names_step es name f Object T h new;
  count = length_push es (name, f) ∙ ap (λ n. n + 1) h.count;
  there = there_step es name f Object T h;
  number = number_step es name f Object T h new;
}
