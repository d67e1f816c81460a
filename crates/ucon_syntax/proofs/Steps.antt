-- Steps of reading, one after the other.
use Rattle.std.proofs.Common.{◌≡◌, Bool, true, false, cond, ◌⊎◌, inl, inr, List, ◌++◌, Result, Ok, Err, refl, sym, ap, ◌∙◌, append_assoc}
use Rattle.ucon_base.specs.Tokens.{Token}
use Rattle.ucon_model.specs.Forms.{Marked, bare}
use Rattle.ucon_token.specs.declared.stop.Cause.{Cause}
use Rattle.ucon_token.specs.Reading.{Halt, ◌>>=◌}
use Rattle.ucon_syntax.proofs.Marks.{bare_append}

abbrev pub halted : Cause → List Token → Halt
halted c ts = (c, ts)

abbrev pub outcome : {A : Type 0} → A → List Token → Result (A × List Token) Halt
outcome x ts = Ok (x, ts)

pub bind_ok : {A B : Type 0} (r : Result A Halt) (f : A → Result B Halt) (y : B) → (r >>= f) ≡ Ok y → (x : A) × (r ≡ Ok x) × (f x ≡ Ok y)
bind_ok (Ok x) f y e = (x, refl, e)
bind_ok (Err d) f y e = absurd cc

pub bind_err : {A B : Type 0} (r : Result A Halt) (f : A → Result B Halt) (h : Halt) → (r >>= f) ≡ Err h → (r ≡ Err h) ⊎ ((x : A) × (r ≡ Ok x) × (f x ≡ Err h))
bind_err (Ok x) f h e = inr (x, refl, e)
bind_err (Err d) f h e = inl cc

pub ok_is : {A : Type 0} (x y : A) → (let a : Result A Halt = Ok x in a) ≡ Ok y → x ≡ y
ok_is x y e = cc

pub pair_is : {A : Type 0} {x y : A} {r s : List Token} → outcome x r ≡ outcome y s → (x ≡ y) × (r ≡ s)
pair_is {A} {x} {y} {r} {s} e = let h : (x, r) ≡ (y, s) = ok_is (x, r) (y, s) e in (ap (λ (p : A × List Token). p.0) h, ap (λ (p : A × List Token). p.1) h)

pub chosen : {A : Type 0} (b : Bool) (x y z : A) → cond b x y ≡ z → ((b ≡ true) × (x ≡ z)) ⊎ ((b ≡ false) × (y ≡ z))
chosen true x y z e = inl (refl, e)
chosen false x y z e = inr (refl, e)

-- one text behind another
pub two_texts : (a b : List Marked) (ts us rest : List Token) → ts ≡ bare a ++ us → us ≡ bare b ++ rest → ts ≡ bare (a ++ b) ++ rest
two_texts a b ts us rest e f = e ∙ ap (λ (r : List Token). bare a ++ r) f ∙ sym (append_assoc (bare a) (bare b) rest) ∙ ap (λ (r : List Token). r ++ rest) (sym (bare_append a b))

pub bare_both : (a b : List Marked) (rest : List Token) → bare (a ++ b) ++ rest ≡ bare a ++ (bare b ++ rest)
bare_both a b rest = ap (λ (r : List Token). r ++ rest) (bare_append a b) ∙ append_assoc (bare a) (bare b) rest
