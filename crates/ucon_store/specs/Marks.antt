-- The marks that steps leave, one at most: for runs in which no checkpoint is made.
use Rattle.std.proofs.Common.{◌≡◌, [], ◌∷◌, ◌++◌, Option, Some, None, refl, ap, ◌∙◌}
use Rattle.std.specs.Prelude.{is_some}
use Rattle.ucon_model.specs.declared.command.Entry.{Entry}
use Rattle.ucon_model.specs.History.{History}

-- the mark of the step that met a disk fault, if one did
abbrev pub marked : Option Entry → Option History
marked None = None
marked (Some e) = Some (e ∷ [])

-- it is there where a step met one
pub is_marked : (failed : Option Entry) → is_some (marked failed) ≡ is_some failed
is_marked None = refl
is_marked (Some e) = refl

pub none_marked : (failed : Option Entry) → marked failed ≡ None → failed ≡ None
none_marked None is = refl
none_marked (Some e) is = absurd (cc is)

pub one_marked : (failed : Option Entry) (e : Entry) → marked failed ≡ Some (e ∷ []) → failed ≡ Some e
one_marked None e is = absurd (cc is)
one_marked (Some a) e is = let same : a ∷ [] ≡ e ∷ [] = cc is in let one : a ≡ e = cc same in ap Some one

pub same_marked : (failed other : Option Entry) → marked failed ≡ marked other → failed ≡ other
same_marked None None is = refl
same_marked None (Some b) is = absurd (cc is)
same_marked (Some a) None is = absurd (cc is)
same_marked (Some a) (Some b) is = one_marked (Some a) b is

-- a history with the entries of such a mark behind is it with the step's
pub with_marked : (failed : Option Entry) (es H history : History) → marked failed ≡ Some es → history ≡ H ++ es
    → (e : Entry) × (failed ≡ Some e) × (history ≡ H ++ e ∷ [])
with_marked None es H history is all = absurd (cc is)
with_marked (Some e) es H history is all = let same : es ≡ e ∷ [] = cc is in (e, refl, all ∙ ap (λ (l : History). H ++ l) same)
