-- What refuses bytes.
use Rattle.std.specs.Prelude.{◌≡◌, ◌⊎◌, ℕ, ◌+◌, [], ◌∷◌, ◌++◌, length, Some, Result, Err, codes, ⊤}
use Rattle.ucon_model.specs.Output.{Lacks}
use Rattle.ucon_model.specs.Plain.{Bytes}
use Rattle.ucon_point.specs.declared.fault.PointFault.{PointFault}
use Rattle.ucon_point.specs.declared.fault.PointFault.TheVariants.{BadPlace, NoMemory}
use Rattle.ucon_state.specs.Held.{Held}
use Rattle.ucon_point.specs.HeldRows.{point_held}
use Rattle.ucon_point.specs.PointRead.{Said, IsPoint, counted, point_spelling}
use Rattle.ucon_point.specs.PointText.{point_text}

-- what is read is refused at this place, unless memory ran out
abbrev pub IsBadAt : {A : Type 0} → Result A ℕ → PointFault → Type 0
IsBadAt read (BadPlace place) = read ≡ Err place
IsBadAt read (NoMemory e) = ⊤

-- the bytes are the text of no checkpoint, unless memory ran out
abbrev pub IsNoText : Bytes → PointFault → Type 0
IsNoText bytes (BadPlace place) = (p : Said) → IsPoint p → point_spelling p ≡ bytes → ⊥
IsNoText bytes (NoMemory e) = ⊤

-- the bytes are the text of nothing that is there so that it can be put row after row, unless memory ran out
abbrev pub IsTextOfNothing : Bytes → PointFault → Type 0
IsTextOfNothing bytes (BadPlace place) =
    (entries : ℕ) (text : Bytes) (h : Held) → IsPoint (point_held entries text h) → point_text entries text h ≡ bytes → ⊥
IsTextOfNothing bytes (NoMemory e) = ⊤

-- ---- where the bytes are refused

-- a line and its newline
pub record IsPlainLine (bytes : Bytes) : Type 0 where
  pub word : Bytes
  pub one_line : Lacks 10 word
  pub is : word ++ 10 ∷ [] ≡ bytes

-- the line of a policy with its text, and the byte behind the text
pub record IsPolicyLine (bytes : Bytes) : Type 0 where
  pub word : Bytes
  pub number : ℕ
  pub text : Bytes
  pub one_line : Lacks 10 word
  pub told : counted (codes "policy") word ≡ Some number
  pub long : length text ≡ number + 1
  pub is : word ++ 10 ∷ text ≡ bytes

-- no text of a checkpoint begins with these bytes
abbrev pub NoTextBegins : Bytes → Type 0
NoTextBegins bytes = (p : Said) → IsPoint p → (rest : Bytes) → point_spelling p ≡ bytes ++ rest → ⊥

-- a line begins at the place, and no text begins with the bytes up to its end
pub record IsBadLine (bytes : Bytes) (place : ℕ) : Type 0 where
  pub front : Bytes
  pub line : Bytes
  pub rest : Bytes
  pub is : front ++ (line ++ rest) ≡ bytes
  pub begins : length front ≡ place
  pub one : IsPlainLine line ⊎ IsPolicyLine line
  pub none : NoTextBegins (front ++ line)

-- such a line is refused, or the bytes end too soon
abbrev pub IsRefusedAt : Bytes → PointFault → Type 0
IsRefusedAt bytes (BadPlace place) = IsBadLine bytes place ⊎ (place ≡ length bytes)
IsRefusedAt bytes (NoMemory e) = ⊤
