-- Whether each name is declared once.
use Rattle.std.specs.Prelude.{◌≡◌, Bool, false, List, [], ◌∷◌, ◌++◌, is_some, ⊤}
use Rattle.ucon_model.specs.declared.policy.AttrDecl.{AttrDecl}
use Rattle.ucon_model.specs.declared.policy.EnvDecl.{EnvDecl}
use Rattle.ucon_model.specs.Plain.{PlainPolicy}
use Rattle.ucon_model.specs.Readings.{declared_attr, declared_env}

-- none of these stands among those before it
abbrev pub IsOnce : {T : Type 0} → (List T → T → Bool) → List T → List T → Type 0
IsOnce stands before [] = ⊤
IsOnce stands before (x ∷ xs) = (stands before x ≡ false) × IsOnce stands (before ++ x ∷ []) xs

-- whether an attribute of this side and name is declared among these
abbrev pub attr_stands : List AttrDecl → AttrDecl → Bool
attr_stands before d = is_some (declared_attr before d.side d.name)

-- whether a variable of this name is declared among these
abbrev pub env_stands : List EnvDecl → EnvDecl → Bool
env_stands before d = is_some (declared_env before d.name)

-- a policy declares each attribute of a side and each variable once
abbrev pub AreDeclaredOnce : PlainPolicy → Type 0
AreDeclaredOnce P = IsOnce attr_stands [] P.attrs × IsOnce env_stands [] P.envs
