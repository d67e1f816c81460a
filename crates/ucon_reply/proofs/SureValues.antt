-- The reading of a value never says want of memory, and only a set takes any.
use Rattle.std.proofs.Common.{◌≡◌, ℕ, ◌+◌, Bool, true, false, List, [], ◌∷◌, ◌++◌, length, take, drop, Option, Some, None, Result, Ok, Err, refl, sym, ap, subst, ◌∙◌}
use Rattle.std.specs.Prelude.{ℤ, pos, neg_ℤ, ⊤, IsSome, ◌==◌, nat_le, nat_lt, if◌then◌else◌}
use Rattle.std.specs.Result.{result_ok}
use Rattle.ucon_base.specs.declared.value.Value.{Value}
use Rattle.ucon_base.specs.declared.value.Value.TheVariants as values
use Rattle.ucon_base.specs.declared.value_fault.ValueFault.{ValueFault}
use Rattle.ucon_base.specs.declared.value_fault.ValueFault.TheVariants as faults
use Rattle.ucon_base.specs.declared.no_memory.NoMemory.{NoMemory}
use Rattle.ucon_base.specs.TextBytes.{is_text_byte}
use Rattle.ucon_base.specs.Reading.{Member, Stage, opened, inside, behind, awaiting, closed, number_of, sized, spelled_integer, unless_bad, bad_integer_place, text_len, bad_close, rises, can_rise, before, members, first_long, unless_long, set_of, value_read, spells_set}
use Rattle.ucon_model.specs.CommandLine.{value_in}

abbrev IsOther : ValueFault → Type 0
IsOther (faults.NoMemory e) = ⊥
IsOther f = ⊤

-- what is said is no want of memory
abbrev IsSaid : {A : Type 0} → Result A ValueFault → Type 0
IsSaid (Ok x) = ⊤
IsSaid (Err f) = IsOther f

either : {A : Type 0} (b : Bool) (r s : Result A ValueFault) → IsSaid r → IsSaid s → IsSaid (if b then r else s)
either true r s h k = h
either false r s h k = k

unless_said : (o : Option ℕ) (r : Result Value ValueFault) → IsSaid r → IsSaid (unless_bad o r)
unless_said None r h = h
unless_said (Some p) r h = tt

sized_said : (sign : ℕ → ℤ) (n : ℕ) → IsSaid (sized sign n)
sized_said sign n = either (nat_le n 1000000000000000) _ _ tt tt

integer_said : (bs : List ℕ) → IsSaid (spelled_integer bs)
integer_said [] = sized_said pos 0
integer_said (b ∷ bs) = either (b == 45) _ _ (sized_said (λ n. neg_ℤ (pos n)) (number_of bs)) (sized_said pos (number_of (b ∷ bs)))

before_said : (m : Member) (r : Result (List Member) ValueFault) → IsSaid r → IsSaid (before m r)
before_said m (Ok ms) h = tt
before_said m (Err f) h = h

members_said : (last : Option (List ℕ)) (stage : Stage) (at : ℕ) (bs : List ℕ) → IsSaid (members last stage at bs)
members_said last closed at [] = tt
members_said last opened at [] = tt
members_said last (inside q t) at [] = tt
members_said last behind at [] = tt
members_said last awaiting at [] = tt
members_said last closed at (b ∷ bs) = tt
members_said last opened at (b ∷ bs) =
    either (b == 34) _ _ (members_said last (inside at []) (at + 1) bs) (either (b == 125) _ _ (members_said last closed (at + 1) bs) tt)
members_said last (inside q t) at (b ∷ bs) =
    either (is_text_byte b) _ _ (either (can_rise last (t ++ b ∷ [])) _ _ (members_said last (inside q (t ++ b ∷ [])) (at + 1) bs) tt)
    (either (b == 34) _ _ (either (rises last t) _ _ (before_said _ _ (members_said (Some t) behind (at + 1) bs)) tt) tt)
members_said last behind at (b ∷ bs) =
    either (b == 44) _ _ (members_said last awaiting (at + 1) bs) (either (b == 125) _ _ (members_said last closed (at + 1) bs) tt)
members_said last awaiting at (b ∷ bs) = either (b == 34) _ _ (members_said last (inside at []) (at + 1) bs) tt

long_said : (o : Option ℕ) (ms : List Member) → IsSaid (unless_long o ms)
long_said (Some p) ms = tt
long_said None ms = either (nat_lt 64 (length ms)) _ _ tt tt

set_said : (r : Result (List Member) ValueFault) → IsSaid r → IsSaid (set_of r)
set_said (Ok ms) h = long_said (first_long ms) ms
set_said (Err f) h = h

text_said : (b : Bool) (t : List ℕ) → IsSaid {A = Value} (if b then Err (faults.TooLong 0) else Ok (values.Text t))
text_said true t = tt
text_said false t = tt

value_said : (bs : List ℕ) → IsSaid (value_read bs)
value_said [] = unless_said (bad_integer_place []) (spelled_integer []) (integer_said [])
value_said (b ∷ bs) =
    either (b == 34) _ _ (unless_said (bad_close (text_len bs + 1) (drop (text_len bs) bs)) _ (text_said (nat_lt 64 (text_len bs)) (take (text_len bs) bs)))
    (either (b == 123) _ _ (set_said (members None opened 1 bs) (members_said None opened 1 bs)) (unless_said (bad_integer_place (b ∷ bs)) (spelled_integer (b ∷ bs)) (integer_said (b ∷ bs))))

-- where want of memory is answered, a value is spelled
pub wants_value : (bs : List ℕ) (f : ValueFault) (e : NoMemory) → f ≡ faults.NoMemory e → (spells_set (value_read bs) ≡ false → Err f ≡ value_read bs)
    → IsSome (value_in bs)
wants_value bs f e wants sure = by (value_read bs) refl
  where
    by : (said : Result Value ValueFault) → value_read bs ≡ said → IsSome (result_ok said)
    by (Ok v) is = refl
    by (Err g) is =
        let same : value_read bs ≡ Err (faults.NoMemory e) = sym (sure (ap spells_set is)) ∙ ap (λ (h : ValueFault). Err h) wants in
        absurd (subst IsSaid same (value_said bs))
