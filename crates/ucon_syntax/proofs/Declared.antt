-- Attributes, variables and updates by their parts.
use Rattle.std.proofs.Common.{◌≡◌, List, Result, Ok, codes, refl, sym, ◌∙◌}
use Rattle.ucon_base.specs.Tokens.{Token, colon, semicolon, dot, equal_sign}
use Rattle.ucon_base.specs.declared.value.Side.{Side}
use Rattle.ucon_model.specs.declared.policy.AttrDecl.{AttrDecl}
use Rattle.ucon_model.specs.declared.policy.EnvDecl.{EnvDecl}
use Rattle.ucon_model.specs.declared.policy.When.{When}
use Rattle.ucon_model.specs.Plain.{Bytes, PlainUpdate}
use Rattle.ucon_token.specs.Tokens.{first}
use Rattle.ucon_token.specs.Reading.{Halt, ◌>>=◌, expect, expect_word, taken, name_at}
use Rattle.ucon_token.specs.Literals.{literal_at}
use Rattle.ucon_syntax.specs.Expressions.{place_at, expr_at}
use Rattle.ucon_syntax.specs.Starts.{side_of, when_of}
use Rattle.ucon_syntax.specs.Items.{side_number, when_number, update_at, take, counted, kind_at, attr_at, env_at, declared_at}
use Rattle.ucon_syntax.specs.declared.room.Room.{Room}
use Rattle.ucon_syntax.proofs.Chains.{in_two, later}

pub env_is : (ts : List Token) → env_at ts ≡ (expect_word (codes "env") ts >>= declared_at)
unfolding env_at declared_at
env_is ts = refl

declared_then : {Y : Type 0} (ts : List Token) (f : EnvDecl × List Token → Result Y Halt) → (declared_at ts >>= f) ≡ (name_at ts >>= λ name. expect colon name.1 >>= λ b. kind_at b >>= λ kind. expect equal_sign kind.1 >>= λ c. literal_at c >>= λ start. expect semicolon start.1 >>= λ d. f (record { name = name.0; kind = kind.0; start = start.0 }, d))
unfolding declared_at
declared_then ts f =
    in_two (name_at ts) _ f ∙ later (name_at ts) _ _ (λ name.
    in_two (expect colon name.1) _ f ∙ later (expect colon name.1) _ _ (λ b.
    in_two (kind_at b) _ f ∙ later (kind_at b) _ _ (λ kind.
    in_two (expect equal_sign kind.1) _ f ∙ later (expect equal_sign kind.1) _ _ (λ c.
    in_two (literal_at c) _ f ∙ later (literal_at c) _ _ (λ start.
    in_two (expect semicolon start.1) _ f)))))

-- an attribute of this side, with what is declared of it
abbrev attr_of : (Side × Room) × List Token → EnvDecl × List Token → Result ((AttrDecl × Room) × List Token) Halt
attr_of side d = Ok ((record { side = side.0.0; name = d.0.name; kind = d.0.kind; start = d.0.start }, side.0.1), d.1)

pub attr_is : (room : Room) (ts : List Token) → attr_at room ts ≡ (expect_word (codes "attr") ts >>= λ a. counted (λ side. take (side_number side)) room (side_of (first a)) a >>= λ side. declared_at side.1 >>= λ d. Ok ((record { side = side.0.0; name = d.0.name; kind = d.0.kind; start = d.0.start }, side.0.1), d.1))
unfolding attr_at
attr_is room ts = later (expect_word (codes "attr") ts) _ _ (λ a. later (counted (λ side. take (side_number side)) room (side_of (first a)) a) _ _ (λ side. sym (declared_then side.1 (attr_of side))))

-- an update at this time, of this side, from the name of its attribute on
abbrev update_from : (When × Room) × List Token → Side × List Token → Bytes × List Token → Result ((PlainUpdate × Room) × List Token) Halt
update_from when side attr = expect equal_sign attr.1 >>= λ b. expr_at 32 b >>= λ value. expect semicolon value.1 >>= λ c. Ok ((record { when = when.0.0; side = side.0; attr = attr.0; value = value.0 }, when.0.1), c)

pub update_is : (room : Room) (ts : List Token) → update_at room ts ≡ (counted (λ when. take (when_number when)) room (when_of (first ts)) ts >>= λ when. taken (side_of (first when.1)) when.1 >>= λ side. place_at side.1 >>= λ attr. expect equal_sign attr.1 >>= λ b. expr_at 32 b >>= λ value. expect semicolon value.1 >>= λ c. Ok ((record { when = when.0.0; side = side.0; attr = attr.0; value = value.0 }, when.0.1), c))
unfolding update_at place_at
update_is room ts = later (counted (λ when. take (when_number when)) room (when_of (first ts)) ts) _ _ (λ when. later (taken (side_of (first when.1)) when.1) _ _ (λ side. sym (in_two (expect dot side.1) _ (update_from when side))))
