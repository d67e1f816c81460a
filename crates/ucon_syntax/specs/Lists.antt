-- Reading items one after the other.
use Rattle.std.specs.Prelude.{ℕ, zero, suc, Bool, List, [], ◌∷◌, Ok, Err, if◌then◌else◌, ⊤}
use Rattle.ucon_base.specs.Tokens.{Token}
use Rattle.ucon_token.specs.declared.stop.Cause.TheVariants.{TooMany}
use Rattle.ucon_token.specs.Tokens.{first}
use Rattle.ucon_token.specs.Reading.{Reads, ◌>>=◌}

-- At most this many items, each of which begins so. What the items so far leave of room is handed from each to the next.
unfoldable pub items_at : {S A : Type 0} → (Token → Bool) → (S → Reads (A × S)) → ℕ → S → Reads (List A)
items_at begins item zero room ts = if begins (first ts) then Err (TooMany, ts) else Ok ([], ts)
items_at begins item (suc n) room ts = if begins (first ts)
    then (item room ts >>= λ x. items_at begins item n x.0.1 x.1 >>= λ xs. Ok (x.0.0 ∷ xs.0, xs.1))
    else Ok ([], ts)

-- an item that counts for itself
abbrev pub alone : {A : Type 0} → Reads A → ⊤ → Reads (A × ⊤)
alone item room ts = item ts >>= λ x. Ok ((x.0, tt), x.1)
