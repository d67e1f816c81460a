-- A set's spelling is read as the set.
use Rattle.std.proofs.Common.{◌≡◌, ℕ, suc, ◌+◌, true, List, [], ◌∷◌, ◌++◌, length, Option, Some, None, Ok, refl, sym, ap, ◌∙◌, arith, append_assoc, append-nil}
use Rattle.std.specs.Prelude.{nat_le}
use Rattle.std.specs.List.{list_all}
use Rattle.std.proofs.lemmas.Bool.{and_parts, and_from, or_left, true≢false, le-ltb, leb-true, true_from_ne_false}
use Rattle.ucon_base.specs.declared.value.Value.TheVariants.{Set}
use Rattle.ucon_base.specs.Reading.{Member, rises, can_rise, begins_with, inside, opened, behind, before, members, first_long, set_read}
use Rattle.ucon_base.specs.Spelling.{more_texts, set_spelling}
use Rattle.ucon_base.specs.TextBytes.{is_text, is_text_byte}
use Rattle.ucon_base.specs.Value.{is_rising, is_set}
use Rattle.ucon_base.proofs.Rising.{below}
use Rattle.ucon_base.proofs.Runs.{can_rise_more}
use Rattle.ucon_base.proofs.SetsRead.{texts, chain, ending, regrouped}
use Rattle.ucon_base.proofs.TextFront.{texty, texty_is}

-- texts with their places in a spelling, of which the first opens at this place
abbrev pub members_at : ℕ → List (List ℕ) → List Member
members_at at [] = []
members_at at (t ∷ ts) = record { at = at; text = t } ∷ members_at (at + length t + 3) ts

can_rise_if : (last : Option (List ℕ)) (t : List ℕ) → rises last t ≡ true → can_rise last t ≡ true
can_rise_if None t h = refl
can_rise_if (Some u) t h = or_left (below u t) (begins_with u t) h

-- the beginning of a text that rises can
can_rise_front : (last : Option (List ℕ)) (t w : List ℕ) → rises last (t ++ w) ≡ true → can_rise last t ≡ true
can_rise_front last t w h = true_from_ne_false (can_rise last t) (λ stopped. true≢false (sym (can_rise_if last (t ++ w) h) ∙ can_rise_more last t w stopped))

text_ran : (last : Option (List ℕ)) (q : ℕ) (t w : List ℕ) (at : ℕ) (rest : List ℕ) → texty w ≡ true → rises last (t ++ w) ≡ true
    → members last (inside q t) at (w ++ 34 ∷ rest) ≡ before (record { at = q; text = t ++ w }) (members (Some (t ++ w)) behind (at + length w + 1) rest)
text_ran last q t [] at rest plain up =
    let up_here : rises last t ≡ true = ap (rises last) (sym (append-nil t)) ∙ up in
    let here : at + 0 + 1 ≡ at + 1 = omega arith in
    rw (append-nil t, up_here, here) refl
text_ran last q t (b ∷ w) at rest plain up =
    let parts = and_parts (is_text_byte b) (texty w) plain in
    let all : (t ++ b ∷ []) ++ w ≡ t ++ b ∷ w = append_assoc t (b ∷ []) w in
    let up_all : rises last ((t ++ b ∷ []) ++ w) ≡ true = ap (rises last) all ∙ up in
    let alive : can_rise last (t ++ b ∷ []) ≡ true = can_rise_front last (t ++ b ∷ []) w up_all in
    let far : at + 1 + length w + 1 ≡ at + length (b ∷ w) + 1 = omega arith in
    rw (parts.0, alive)
    (text_ran last q (t ++ b ∷ []) w (at + 1) rest parts.1 up_all
    ∙ ap (λ s. before (record { at = q; text = s }) (members (Some s) behind (at + 1 + length w + 1) rest)) all
    ∙ ap (λ k. before (record { at = q; text = t ++ b ∷ w }) (members (Some (t ++ b ∷ w)) behind k rest)) far)

text_and_rest : (last : Option (List ℕ)) (q : ℕ) (t more : List ℕ) → texty t ≡ true → rises last t ≡ true
    → members last (inside q []) (q + 1) (((t ++ 34 ∷ []) ++ more) ++ 125 ∷ []) ≡ before (record { at = q; text = t }) (members (Some t) behind (q + length t + 2) (more ++ 125 ∷ []))
text_and_rest last q t more plain up =
    let far : q + 1 + length t + 1 ≡ q + length t + 2 = omega arith in
    ap (members last (inside q []) (q + 1)) (sym (regrouped t more)) ∙ text_ran last q [] t (q + 1) (more ++ 125 ∷ []) plain up
    ∙ ap (λ k. before (record { at = q; text = t }) (members (Some t) behind k (more ++ 125 ∷ []))) far

more_spelled : (last : Option (List ℕ)) (at : ℕ) (ts : List (List ℕ)) → chain last ts ≡ true → list_all texty ts ≡ true → members last behind at (ending ts) ≡ Ok (members_at (at + 1) ts)
more_spelled last at [] up plain = refl
more_spelled last at (t ∷ ts) up plain =
    let rising = and_parts (rises last t) (chain (Some t) ts) up in
    let each = and_parts (texty t) (list_all texty ts) plain in
    let m : Member = record { at = at + 1; text = t } in
    let far : at + 1 + length t + 2 + 1 ≡ at + 1 + length t + 3 = omega arith in
    text_and_rest last (at + 1) t (more_texts ts) each.0 rising.0
    ∙ ap (before m) (more_spelled (Some t) (at + 1 + length t + 2) ts rising.1 each.1 ∙ ap (λ k. Ok (members_at k ts)) far)

abbrev pub behind_first : List ℕ → List ℕ
behind_first [] = []
behind_first (b ∷ bs) = bs

set_spelled : (ts : List (List ℕ)) → chain None ts ≡ true → list_all texty ts ≡ true → members None opened 1 (behind_first (set_spelling ts)) ≡ Ok (members_at 1 ts)
set_spelled [] up plain = refl
set_spelled (t ∷ ts) up plain =
    let each = and_parts (texty t) (list_all texty ts) plain in
    let m : Member = record { at = 1; text = t } in
    let far : 1 + length t + 2 + 1 ≡ 1 + length t + 3 = omega arith in
    text_and_rest None 1 t (more_texts ts) each.0 refl
    ∙ ap (before m) (more_spelled (Some t) (1 + length t + 2) ts up each.1 ∙ ap (λ k. Ok (members_at k ts)) far)

chain_above : (u : List ℕ) (ts : List (List ℕ)) → is_rising (u ∷ ts) ≡ true → chain (Some u) ts ≡ true
chain_above u [] h = refl
chain_above u (t ∷ ts) h =
    let parts = and_parts (below u t) (is_rising (t ∷ ts)) h in
    and_from (below u t) (chain (Some t) ts) parts.0 (chain_above t ts parts.1)

chain_from_rising : (ts : List (List ℕ)) → is_rising ts ≡ true → chain None ts ≡ true
chain_from_rising [] h = refl
chain_from_rising (t ∷ ts) h = chain_above t ts h

all_texty : (ts : List (List ℕ)) → list_all is_text ts ≡ true → list_all texty ts ≡ true
all_texty [] h = refl
all_texty (t ∷ ts) h =
    let parts = and_parts (is_text t) (list_all is_text ts) h in
    and_from (texty t) (list_all texty ts) (texty_is t parts.0) (all_texty ts parts.1)

none_long : (at : ℕ) (ts : List (List ℕ)) → list_all is_text ts ≡ true → first_long (members_at at ts) ≡ None
none_long at [] h = refl
none_long at (t ∷ ts) h =
    let parts = and_parts (is_text t) (list_all is_text ts) h in
    let short = and_parts (nat_le (length t) 64) _ parts.0 in
    rw (le-ltb 64 (length t) (leb-true (length t) 64 short.0)) (none_long (at + length t + 3) ts parts.1)

length-members_at : (at : ℕ) (ts : List (List ℕ)) → length (members_at at ts) ≡ length ts
length-members_at at [] = refl
length-members_at at (t ∷ ts) = ap suc (length-members_at (at + length t + 3) ts)

texts-members_at : (at : ℕ) (ts : List (List ℕ)) → texts (members_at at ts) ≡ ts
texts-members_at at [] = refl
texts-members_at at (t ∷ ts) = ap (λ us. t ∷ us) (texts-members_at (at + length t + 3) ts)

pub set_back : (ts : List (List ℕ)) → is_set ts ≡ true → list_all is_text ts ≡ true → set_read (behind_first (set_spelling ts)) ≡ Ok (Set ts)
set_back ts h each =
    let parts = and_parts (nat_le (length ts) 64) (is_rising ts) h in
    rw (set_spelled ts (chain_from_rising ts parts.1) (all_texty ts each), none_long 1 ts each, length-members_at 1 ts, le-ltb 64 (length ts) (leb-true (length ts) 64 parts.0))
    (ap (λ us. Ok (Set us)) (texts-members_at 1 ts))
