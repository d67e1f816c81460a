-- What is found in more payloads is what is found in the first, and then in the others.
use Rattle.std.proofs.Common.{◌≡◌, ℕ, suc, ◌+◌, List, [], ◌∷◌, ◌++◌, length, Option, Some, None, refl, ap, ◌∙◌, arith}
use Rattle.std.specs.Prelude.{option_map, unwrap_or}
use Rattle.ucon_model.specs.Found.{Finding, damaged, holds, next_gate, first_gate, Takes, policy_taken, found_behind, found_in, found_on}
use Rattle.ucon_model.specs.History.{History}
use Rattle.ucon_model.specs.Plain.{Bytes, PlainPolicy}

module _ (reads : Bytes → Option PlainPolicy) (takes : Takes) (rest : List Bytes) where
  abbrev on : Finding → ℕ → Finding
  on found number = found_on reads takes found number rest

  abbrev Behind : Bytes → PlainPolicy → List Bytes → History → ℕ → ℕ → Type 0
  Behind text P front H number gate = found_behind takes text P H number gate (front ++ rest) ≡ on (found_behind takes text P H number gate front) (number + length front)

  behind_taken : (text : Bytes) (P : PlainPolicy) (number gate : ℕ) (payload : Bytes) (front : List Bytes)
      → ((later : History) → Behind text P front later (number + 1) (next_gate gate payload))
      → (o : Option History)
      → unwrap_or (option_map (λ later. found_behind takes text P later (number + 1) (next_gate gate payload) (front ++ rest)) o) (damaged number gate)
      ≡ on (unwrap_or (option_map (λ later. found_behind takes text P later (number + 1) (next_gate gate payload) front) o) (damaged number gate)) (number + suc (length front))
  behind_taken text P number gate payload front next None = refl
  behind_taken text P number gate payload front next (Some later) = next later ∙ ap (on (found_behind takes text P later (number + 1) (next_gate gate payload) front)) (omega arith)

  behind : (text : Bytes) (P : PlainPolicy) (front : List Bytes) (H : History) (number gate : ℕ) → Behind text P front H number gate
  behind text P [] H number gate = ap (on (holds text P H gate)) (omega arith)
  behind text P (payload ∷ front) H number gate =
      behind_taken text P number gate payload front (λ later. behind text P front later (number + 1) (next_gate gate payload)) (takes text P H payload)

  behind_policy : (text : Bytes) (front : List Bytes) (o : Option PlainPolicy)
      → unwrap_or (option_map (λ P. found_behind takes text P [] 1 (next_gate first_gate text) (front ++ rest)) o) (damaged 0 first_gate)
      ≡ on (unwrap_or (option_map (λ P. found_behind takes text P [] 1 (next_gate first_gate text) front) o) (damaged 0 first_gate)) (suc (length front))
  behind_policy text front None = refl
  behind_policy text front (Some P) = behind text P front [] 1 (next_gate first_gate text) ∙ ap (on (found_behind takes text P [] 1 (next_gate first_gate text) front)) (omega arith)

  pub found_in-append : (front : List Bytes) → found_in reads takes (front ++ rest) ≡ found_on reads takes (found_in reads takes front) (length front) rest
  found_in-append [] = refl
  found_in-append (text ∷ front) = behind_policy text front (policy_taken reads text)
