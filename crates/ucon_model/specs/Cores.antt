-- The core models that a right's predicates and updates make: preA, onA, preB, onB, preC and onC (Park and Sandhu, ACM TISSEC 7(1), 2004). Their
-- index is 0 for no update, 1 for updates before, 2 during and 3 after a usage.
use Rattle.std.specs.Prelude.{ℕ, Bool, true, false, ◌&&◌, ◌||◌, not, List, [], ◌∷◌, ◌++◌, map, codes, if◌then◌else◌}
use Rattle.std.specs.List.{list_any, flat_map}
use Rattle.std.specs.Fmt.{decimal}
use Rattle.ucon_model.specs.declared.core_model.Core.{Core}
use Rattle.ucon_model.specs.declared.core_model.CoreKind.{CoreKind}
use Rattle.ucon_model.specs.declared.core_model.CoreKind.TheVariants.{PreA, OnA, PreB, OnB, PreC, OnC}
use Rattle.ucon_model.specs.declared.policy.When.{When}
use Rattle.ucon_model.specs.declared.policy.When.TheVariants.{Before, During, AfterEnd, AfterRevoke}
use Rattle.ucon_model.specs.Plain.{Bytes, PlainTest, authorisation, condition, PlainPredicate, PlainUpdate, PlainRight}
use Rattle.ucon_model.specs.Decision.{ongoing, is_duty}
use Rattle.ucon_model.specs.Updates.{same_when}

-- whether a test is an authorisation
abbrev pub is_authorisation : PlainTest → Bool
is_authorisation (authorisation f) = true
is_authorisation t = false

-- whether a test is a condition
abbrev pub is_condition : PlainTest → Bool
is_condition (condition f) = true
is_condition t = false

-- whether there is an update of a time
abbrev pub has_update : When → List PlainUpdate → Bool
has_update when us = list_any (λ u. same_when when u.when) us

-- whether there is an update at all
abbrev pub has_updates : List PlainUpdate → Bool
has_updates [] = false
has_updates (u ∷ us) = true

-- ---- which rights are usage control

-- a predicate by which a usage is decided over attributes or acts: an authorisation or an obligation
abbrev pub is_decider : PlainPredicate → Bool
is_decider p = not (is_condition p.test)

-- an update needs an authorisation or an obligation, and an update during the usage an ongoing one
abbrev pub is_core : PlainRight → Bool
is_core r =
    (not (has_updates r.updates) || list_any is_decider r.preds)
    && (not (has_update During r.updates) || list_any (λ p. ongoing p && is_decider p) r.preds)

-- ---- the models of a right

-- whether a predicate is of a kind
abbrev pub is_of_kind : CoreKind → PlainPredicate → Bool
is_of_kind PreA p = not (ongoing p) && is_authorisation p.test
is_of_kind OnA p = ongoing p && is_authorisation p.test
is_of_kind PreB p = not (ongoing p) && is_duty p.test
is_of_kind OnB p = ongoing p && is_duty p.test
is_of_kind PreC p = not (ongoing p) && is_condition p.test
is_of_kind OnC p = ongoing p && is_condition p.test

-- this index, if it applies
abbrev pub index_if : Bool → ℕ → List ℕ
index_if applies i = if applies then i ∷ [] else []

-- 0 alone if no other index applies
abbrev pub or_zero : List ℕ → List ℕ
or_zero [] = 0 ∷ []
or_zero (i ∷ is) = i ∷ is

-- whether a kind's models are told apart by updates of a time: those of conditions by none, and decisions before a usage not by
-- updates during it
abbrev pub may_update : CoreKind → When → Bool
may_update PreC when = false
may_update OnC when = false
may_update PreA During = false
may_update PreB During = false
may_update kind when = true

abbrev pub updates_at : CoreKind → List PlainUpdate → When → Bool
updates_at kind us when = may_update kind when && has_update when us

-- the indices by these: there are updates before, during and after a usage
abbrev pub indices_by : Bool → Bool → Bool → List ℕ
indices_by before during after = or_zero (index_if before 1 ++ index_if during 2 ++ index_if after 3)

-- the indices of a kind beside these updates
abbrev pub indices : CoreKind → List PlainUpdate → List ℕ
indices kind us = indices_by (updates_at kind us Before) (updates_at kind us During) (updates_at kind us AfterEnd || updates_at kind us AfterRevoke)

-- a right's core models of a kind: none if it has no predicate of the kind
abbrev pub cores_of_kind : PlainRight → CoreKind → List Core
cores_of_kind r kind =
    if list_any (is_of_kind kind) r.preds then map (λ i. record { kind = kind; index = i }) (indices kind r.updates) else []

-- a right's core models
abbrev pub core_models_of : PlainRight → List Core
core_models_of r = flat_map (cores_of_kind r) (PreA ∷ OnA ∷ PreB ∷ OnB ∷ PreC ∷ OnC ∷ [])

-- ---- how they are spelled

-- a kind's name
abbrev pub kind_name : CoreKind → Bytes
kind_name PreA = codes "preA"
kind_name OnA = codes "onA"
kind_name PreB = codes "preB"
kind_name OnB = codes "onB"
kind_name PreC = codes "preC"
kind_name OnC = codes "onC"

-- a core model's name: its kind's, and its index
abbrev pub core_name : Core → Bytes
core_name c = kind_name c.kind ++ decimal c.index
