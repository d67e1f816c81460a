-- Whether one policy may follow another while uses go on. Whatever both declare, an attribute of one side and name or a variable of one name, has
-- to be of the same kind in both. Attributes and variables may be dropped and brought, defaults may change, and so may rights.
use Rattle.std.specs.Prelude.{◌≡◌, Bool, true, false, ◌&&◌, not, List, find, Option, Some, None, option_map}
use Rattle.std.specs.Option.{option_or}
use Rattle.std.specs.Ordering.{int_eq}
use Rattle.ucon_base.specs.declared.value.Kind.{Kind}
use Rattle.ucon_base.specs.declared.value.Kind.TheVariants as kinds
use Rattle.ucon_model.specs.declared.policy.AttrDecl.{AttrDecl}
use Rattle.ucon_model.specs.declared.policy.EnvDecl.{EnvDecl}
use Rattle.ucon_model.specs.Plain.{Bytes, PlainPolicy}
use Rattle.ucon_model.specs.Readings.{declared_attr, declared_env}

-- whether two kinds are the same, the bounds of integers included
abbrev pub same_kind : Kind → Kind → Bool
same_kind (kinds.Int low high) (kinds.Int l h) = int_eq low l && int_eq high h
same_kind kinds.Text kinds.Text = true
same_kind kinds.Set kinds.Set = true
same_kind k l = false

-- whether a kind is another than the declared one, if one is declared
abbrev pub is_changed : Kind → Option Kind → Bool
is_changed k None = false
is_changed k (Some l) = not (same_kind k l)

-- whether these declarations have the attribute, with another kind
abbrev pub changes_attr : List AttrDecl → AttrDecl → Bool
changes_attr ds d = is_changed d.kind (option_map (λ e. e.kind) (declared_attr ds d.side d.name))

-- whether these declarations have the variable, with another kind
abbrev pub changes_env : List EnvDecl → EnvDecl → Bool
changes_env ds d = is_changed d.kind (option_map (λ e. e.kind) (declared_env ds d.name))

-- the first name, in the old policy's written order and attributes before variables, that the new policy declares with another kind
abbrev pub changed_kind : PlainPolicy → PlainPolicy → Option Bytes
changed_kind old new =
    option_or (option_map (λ d. d.name) (find (changes_attr new.attrs) old.attrs)) (option_map (λ d. d.name) (find (changes_env new.envs) old.envs))

-- no kind changes from the old policy to the new one
abbrev pub MayFollow : PlainPolicy → PlainPolicy → Type 0
MayFollow old new = changed_kind old new ≡ None
