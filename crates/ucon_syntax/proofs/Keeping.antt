-- What holds of a reader and of a form of the grammar.
use Rattle.std.specs.Prelude.{⊤}
use Rattle.std.proofs.Common.{◌≡◌, ◌⊎◌, List, [], ◌∷◌, ◌++◌, Some, None, Ok, Err, subst}
use Rattle.ucon_base.specs.Tokens.{Token}
use Rattle.ucon_model.specs.Forms.{Terminal, as_token, Limit, operand, item, level, Marked, Form, bare, IsClean}
use Rattle.ucon_model.specs.Spells.{Stands}
use Rattle.ucon_token.specs.declared.stop.Cause.{Cause}
use Rattle.ucon_token.specs.declared.stop.Cause.TheVariants.{Unexpected, TooMany, TooDeep}
use Rattle.ucon_token.specs.Tokens.{first}
use Rattle.ucon_token.specs.Reading.{Halt, Reads}

abbrev pub cause_of : Limit → Cause
cause_of operand = TooMany
cause_of item = TooMany
cause_of level = TooDeep

-- the tokens begin with one that is written so
pub record Found {A : Type 0} (X : Form A) (ts : List Token) (x : A) (rest : List Token) : Type 0 where
  pub written : X.Written
  pub text : ts ≡ bare (X.tokens written) ++ rest
  pub tree : X.tree written ≡ x
  pub proper : X.IsProper written
  pub clean : IsClean (X.tokens written)

-- the rest begins with a token that passes a limit
pub record Beyond (c : Cause) (behind : List Marked) (rest : List Token) : Type 0 where
  pub limit : Limit
  pub last : Terminal
  pub more : List Marked
  pub token : Token
  pub after : List Token
  pub is_behind : behind ≡ (last, Some limit) ∷ more
  pub is_rest : rest ≡ token ∷ after
  pub stands : Stands limit last token
  pub cause : cause_of limit ≡ c

abbrev pub Over : Cause → List Marked → List Token → Type 0
Over c behind rest = (c ≡ Unexpected) ⊎ Beyond c behind rest

-- the tokens before the one at which reading stopped begin one
pub record Stopped {A : Type 0} (X : Form A) (ts : List Token) (h : Halt) : Type 0 where
  pub written : X.Written
  pub front : List Marked
  pub behind : List Marked
  pub whole : X.tokens written ≡ front ++ behind
  pub text : ts ≡ bare front ++ h.1
  pub proper : X.IsProper written
  pub clean : IsClean front
  pub over : Over h.0 behind h.1

pub record Example {A : Type 0} (X : Form A) : Type 0 where
  pub written : X.Written
  pub proper : X.IsProper written

pub record Finds {A : Type 0} (X : Form A) (reads : Reads A) : Type 0 where
  pub found : (ts : List Token) (x : A) (rest : List Token) → reads ts ≡ Ok (x, rest) → Found X ts x rest
  pub stopped : (ts : List Token) (h : Halt) → reads ts ≡ Err h → Stopped X ts h

-- reading what is written stops at the first token that passes a limit
pub record Breaks {A : Type 0} (ms : List Marked) (reads : Reads A) : Type 0 where
  pub front : List Marked
  pub last : Terminal
  pub limit : Limit
  pub behind : List Marked
  pub whole : ms ≡ front ++ (last, Some limit) ∷ behind
  pub clean : IsClean front
  pub stops : (t : Token) (r : List Token) → Stands limit last t → reads (bare front ++ t ∷ r) ≡ Err (cause_of limit, t ∷ r)

-- or gives what it stands for, where the next token is one of these
pub record Repeats {A : Type 0} (ms : List Marked) (x : A) (E : Token → Type 0) (reads : Reads A) : Type 0 where
  pub clean : IsClean ms
  pub on : (rest : List Token) → E (first rest) → reads (bare ms ++ rest) ≡ Ok (x, rest)

abbrev pub Outcome : {A : Type 0} → List Marked → A → (Token → Type 0) → Reads A → Type 0
Outcome ms x E reads = Repeats ms x E reads ⊎ Breaks ms reads

pub record Again {A : Type 0} (X : Form A) (E : Token → Type 0) (reads : Reads A) : Type 0 where
  pub again : (s : X.Written) → X.IsProper s → Outcome (X.tokens s) (X.tree s) E reads

-- what follows is one of these, where the tokens are followed by one of those
abbrev pub Meets : (Token → Type 0) → List Marked → (Token → Type 0) → Type 0
Meets E [] F = (t : Token) → F t → E t
Meets E ((t, None) ∷ ms) F = E (as_token t)
Meets E ((t, Some limit) ∷ ms) F = (u : Token) → Stands limit t u → E u

pub meets_rest : (E F : Token → Type 0) (ms : List Marked) (rest : List Token) → Meets E ms F → F (first rest) → IsClean ms → E (first (bare ms ++ rest))
meets_rest E F [] rest m f c = m (first rest) f
meets_rest E F ((t, None) ∷ ms) rest m f c = m
meets_rest E F ((t, Some l) ∷ ms) rest m f c = absurd c

meets_at : (E F : Token → Type 0) (front : List Marked) (last : Terminal) (limit : Limit) (behind : List Marked) → IsClean front → Meets E (front ++ (last, Some limit) ∷ behind) F → (t : Token) (r : List Token) → Stands limit last t → E (first (bare front ++ t ∷ r))
meets_at E F [] last limit behind c m t r s = m t s
meets_at E F ((u, None) ∷ front) last limit behind c m t r s = m
meets_at E F ((u, Some l) ∷ front) last limit behind c m t r s = absurd c

pub meets_stop : (E F : Token → Type 0) (ms front : List Marked) (last : Terminal) (limit : Limit) (behind : List Marked) → ms ≡ front ++ (last, Some limit) ∷ behind → IsClean front → Meets E ms F → (t : Token) (r : List Token) → Stands limit last t → E (first (bare front ++ t ∷ r))
meets_stop E F ms front last limit behind whole c m t r s = meets_at E F front last limit behind c (let P : List Marked → Type 0 = λ l. Meets E l F in subst P whole m) t r s

-- where anything may follow
pub meets_any : (ms : List Marked) (F : Token → Type 0) → Meets (λ t. ⊤) ms F
meets_any [] F = λ t f. tt
meets_any ((t, None) ∷ ms) F = tt
meets_any ((t, Some l) ∷ ms) F = λ u s. tt
