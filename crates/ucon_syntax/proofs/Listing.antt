-- Lists of items that take no room.
use Rattle.std.specs.Prelude.{⊤}
use Rattle.std.proofs.Common.{◌≡◌, ℕ, zero, suc, Bool, List, ◌∷◌, Result, Ok, codes, refl, sym, ◌∙◌}
use Rattle.ucon_base.specs.Tokens.{Token}
use Rattle.ucon_token.specs.Tokens.{first, is_word}
use Rattle.ucon_token.specs.Reading.{Halt, Reads, ◌>>=◌}
use Rattle.ucon_syntax.specs.declared.room.Room.{Room}
use Rattle.ucon_syntax.specs.Items.{full, env_at, keeps}
use Rattle.ucon_syntax.specs.Lists.{items_at, alone}
use Rattle.ucon_syntax.specs.Policies.{envs_at, right_at, rights_at}
use Rattle.ucon_syntax.proofs.Chains.{if_alike, in_two, later}

-- Where no item takes room, none need be handed on.
alone_is : {A : Type 0} (begins : Token → Bool) (item : Reads A) (n : ℕ) (room : Room) (ts : List Token) → items_at begins (keeps item) n room ts ≡ items_at begins (alone item) n tt ts
unfolding items_at
alone_is begins item zero room ts = refl
alone_is {A = A} begins item (suc n) room ts =
    let rest : (A × Room) × List Token → Result (List A × List Token) Halt = λ x. items_at begins (keeps item) n x.0.1 x.1 >>= λ xs. Ok (x.0.0 ∷ xs.0, xs.1) in
    let others : (A × ⊤) × List Token → Result (List A × List Token) Halt = λ x. items_at begins (alone item) n x.0.1 x.1 >>= λ xs. Ok (x.0.0 ∷ xs.0, xs.1) in
    let step : A × List Token → Result ((A × Room) × List Token) Halt = λ x. Ok ((x.0, room), x.1) in
    let other : A × List Token → Result ((A × ⊤) × List Token) Halt = λ x. Ok ((x.0, tt), x.1) in
    if_alike (begins (first ts)) _ _ _ (λ is. in_two (item ts) step rest ∙ later (item ts) _ _ (λ x. rw (alone_is begins item n room x.1) refl) ∙ sym (in_two (item ts) other others))

pub envs_are : (ts : List Token) → items_at (λ t. is_word t (codes "env")) (keeps env_at) 32 full ts ≡ envs_at ts
unfolding envs_at
envs_are ts = alone_is (λ t. is_word t (codes "env")) env_at 32 full ts

pub rights_are : (ts : List Token) → items_at (λ t. is_word t (codes "right")) (keeps right_at) 64 full ts ≡ rights_at ts
unfolding rights_at
rights_are ts = alone_is (λ t. is_word t (codes "right")) right_at 64 full ts
