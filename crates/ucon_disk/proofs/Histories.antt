-- What one call more makes of a history.
use Rattle.std.proofs.Common.{◌≡◌, ℕ, List, [], ◌∷◌, ◌++◌, map, refl, ap, ◌∙◌}
use Rattle.std.proofs.lemmas.List.{map_push}
use Rattle.ucon_disk.specs.declared.log.Call.{Call}
use Rattle.ucon_disk.specs.Image.{State, Change, at_rest, step, after}
use Rattle.ucon_disk.specs.Recorded.{change_of}

pub after-append : (s : State) (changes : List Change) (change : Change) → after s (changes ++ change ∷ []) ≡ step (after s changes) change
after-append s [] change = refl
after-append s (c ∷ changes) change = after-append (step s c) changes change

-- the model after one recorded call more
pub after_call : (s : State) (calls : List Call) (call : Call) → after s (map change_of (calls ++ call ∷ [])) ≡ step (after s (map change_of calls)) (change_of call)
after_call s calls call = ap (λ (changes : List Change). after s changes) (map_push change_of calls call) ∙ after-append s (map change_of calls) (change_of call)

-- the bytes of the model after it
pub file_after_call : (start begun : List ℕ) (calls more : List Call) (call : Call) (file : List ℕ)
    → begun ≡ start → more ≡ calls ++ call ∷ [] → (step (after (at_rest start) (map change_of calls)) (change_of call)).file ≡ file
    → (after (at_rest begun) (map change_of more)).file ≡ file
file_after_call start begun calls more call file same grown is =
    ap (λ (l : List ℕ). (after (at_rest l) (map change_of more)).file) same
    ∙ ap (λ (cs : List Call). (after (at_rest start) (map change_of cs)).file) grown
    ∙ ap (λ (s : State). s.file) (after_call (at_rest start) calls call)
    ∙ is
