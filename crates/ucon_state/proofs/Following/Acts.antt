-- The tables keep the acts of the trace.
use Rattle.std.proofs.Common.{◌≡◌, ◌∙◌, sym, ap, ℕ, suc, ℤ, ◌+◌, Bool, true, false, cond, ◌&&◌, List, [], ◌∷◌, ◌++◌, length, map, refl, arith}
use Rattle.std.specs.Prelude.{Option, Some, None, is_none, if◌then◌else◌}
use Rattle.std.specs.Map.{lookup}
use Rattle.std.specs.Str.{bytes_eq}
use Rattle.std.proofs.lemmas.Bool.{and_parts, and_from, both_ways}
use Rattle.indexmap.specs.IndexMap.{insert_entry}
use Rattle.ucon_model.specs.Plain.{Bytes}
use Rattle.ucon_model.specs.Action.{Trace, act}
use Rattle.ucon_model.specs.Readings.{tick_of}
use Rattle.ucon_state.specs.Following.{act_of, row_of, KeepsActs}
use Rattle.ucon_state.specs.declared.act.Act.{Act}
use Rattle.ucon_state.specs.Tables.{same_act}
use Rattle.ucon_state.proofs.Following.Names.{same_name, own_name}

pub same_acts : (a b : Act) → same_act a b ≡ true → a ≡ b
same_acts a b e =
    let front = and_parts (bytes_eq a.subject b.subject && bytes_eq a.action b.action) (bytes_eq a.object b.object) e in
    let both = and_parts (bytes_eq a.subject b.subject) (bytes_eq a.action b.action) front.0 in
    λ i. record { subject = same_name a.subject b.subject both.0 i; action = same_name a.action b.action both.1 i; object = same_name a.object b.object front.1 i }

pub own_act : (a : Act) → same_act a a ≡ true
own_act a = and_from _ _ (and_from _ _ (own_name a.subject) (own_name a.action)) (own_name a.object)

-- ---- an act that is done

-- what a key finds, where another key is or isn't the first one's
in_either_order : (x y : Bool) (v w : ℤ) (rest : Option ℤ) → (x ≡ true → y ≡ true → ⊥) → cond x (Some w) (cond y (Some v) rest) ≡ cond y (Some v) (cond x (Some w) rest)
in_either_order true true v w rest apart = absurd (apart refl refl)
in_either_order true false v w rest apart = refl
in_either_order false y v w rest apart = refl

over_by : (y : Bool) (v w : ℤ) (rest : Option ℤ) → cond y (Some v) rest ≡ cond y (Some v) (cond y (Some w) rest)
over_by true v w rest = refl
over_by false v w rest = refl

found_by : (e : Act × ℤ) (es : List (Act × ℤ)) (a d : Act) (v : ℤ) (b : Bool) → same_act a e.0 ≡ b
    → lookup (same_act d) (insert_entry same_act es a v) ≡ cond (same_act d a) (Some v) (lookup (same_act d) es)
    → lookup (same_act d) (cond b ((e.0, v) ∷ es) (e ∷ insert_entry same_act es a v)) ≡ cond (same_act d a) (Some v) (cond (same_act d e.0) (Some e.1) (lookup (same_act d) es))
found_by e es a d v true is rest = rw (same_acts a e.0 is) (over_by (same_act d e.0) v e.1 (lookup (same_act d) es))
found_by e es a d v false is rest =
    ap (cond (same_act d e.0) (Some e.1)) rest
    ∙ in_either_order (same_act d e.0) (same_act d a) v e.1 (lookup (same_act d) es)
    (λ there here. both_ways (same_act a e.0) is (ap (λ (c : Act). same_act c e.0) (sym (same_acts d a here)) ∙ there))

pub lookup-insert : (es : List (Act × ℤ)) (a d : Act) (v : ℤ) → lookup (same_act d) (insert_entry same_act es a v) ≡ cond (same_act d a) (Some v) (lookup (same_act d) es)
lookup-insert [] a d v = refl
lookup-insert (e ∷ es) a d v = found_by e es a d v (same_act a e.0) refl (lookup-insert es a d v)

counted_by : (b : Bool) (n more w : ℕ) (v : ℤ) (rest : Option ℤ) → more ≡ n + cond (is_none rest) 1 0 → cond b (suc n) (suc more) ≡ suc n + cond (is_none (cond b (Some v) rest)) 1 0
counted_by true n more w v rest e = omega arith
counted_by false n more w v rest e = omega (arith, e)

length_by : (b : Bool) (e : Act × ℤ) (xs ys : List (Act × ℤ)) (v : ℤ) → length (cond b ((e.0, v) ∷ xs) (e ∷ ys)) ≡ cond b (suc (length xs)) (suc (length ys))
length_by true e xs ys v = refl
length_by false e xs ys v = refl

pub length-insert : (es : List (Act × ℤ)) (a : Act) (v : ℤ) → length (insert_entry same_act es a v) ≡ length es + (if is_none (lookup (same_act a) es) then 1 else 0)
length-insert [] a v = omega arith
length-insert (e ∷ es) a v =
    length_by (same_act a e.0) e es (insert_entry same_act es a v) v
    ∙ counted_by (same_act a e.0) (length es) (length (insert_entry same_act es a v)) 0 e.1 (lookup (same_act a) es) (length-insert es a v)

rows_by : (b : Bool) (e : Act × ℤ) (es more : List (Act × ℤ)) (new : Bytes × Bytes × Bytes) (v : ℤ) (rest : Option ℤ)
    → map row_of more ≡ cond (is_none rest) (map row_of es ++ new ∷ []) (map row_of es)
    → map row_of (cond b ((e.0, v) ∷ es) (e ∷ more)) ≡ cond (is_none (cond b (Some e.1) rest)) ((row_of e ∷ map row_of es) ++ new ∷ []) (row_of e ∷ map row_of es)
rows_by true e es more new v rest is = refl
rows_by false e es more new v None is = ap (λ rows. row_of e ∷ rows) is
rows_by false e es more new v (Some w) is = ap (λ rows. row_of e ∷ rows) is

pub rows-insert : (es : List (Act × ℤ)) (a : Act) (v : ℤ)
    → map row_of (insert_entry same_act es a v) ≡ cond (is_none (lookup (same_act a) es)) (map row_of es ++ (a.subject, a.action, a.object) ∷ []) (map row_of es)
rows-insert [] a v = refl
rows-insert (e ∷ es) a v =
    rows_by (same_act a e.0) e es (insert_entry same_act es a v) (a.subject, a.action, a.object) v (lookup (same_act a) es) (rows-insert es a v)

-- ---- the acts of a trace

pub keeps_acts_opening : KeepsActs [] []
keeps_acts_opening = record { moments = λ s a o. refl; rows = refl; count = refl }

pub keeps_acts_act : (es : List (Act × ℤ)) (T : Trace) (now : ℤ) (s a o : Bytes) → now ≡ tick_of T → KeepsActs es T
    → KeepsActs (insert_entry same_act es (act_of s a o) now) (act s a o ∷ T)
keeps_acts_act es T now s a o is h = record {
  moments = λ s' a' o'. lookup-insert es (act_of s a o) (act_of s' a' o') now ∙ rw (is, h.moments s' a' o') refl;
  rows = rows-insert es (act_of s a o) now ∙ rw (h.moments s a o, h.rows) refl;
  count = length-insert es (act_of s a o) now ∙ rw (h.moments s a o, h.count) refl;
}
