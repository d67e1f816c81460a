-- The cascade by a list of work, over a state.
use Rattle.std.specs.Prelude.{◌≡◌, ℕ, List, nat_eq}
use Rattle.std.specs.List.{Contains, list_any}
use Rattle.ucon_model.specs.declared.reply.Head.{Head}
use Rattle.ucon_model.specs.Usages.{IsUsageTold}
use Rattle.ucon_model.specs.Groups.{FirstsCover}
use Rattle.ucon_model.specs.Work.{Work}
use Rattle.ucon_actions.specs.Leads.{AfterEach, KeepsBase}
use Rattle.ucon_state.specs.Shown.{Shown}
use Rattle.ucon_state.specs.Tables.{session_in}
use Rattle.ucon_cascade.specs.Grouping.{AreGrouped}
use Rattle.ucon_cascade.specs.Numbering.{IsExact}
use Rattle.ucon_cascade.specs.Putting.{GoesOn}

-- the work whose members these are
abbrev pub work_of : List ℕ → Work
work_of members n = list_any (nat_eq n) members

-- What a list of work is, over a state: the sessions are grouped by their firsts; after each trace that the state follows the first of each
-- accessing session that fails is in the work; and whoever in the work goes on is the first of its list.
pub record IsWork (s : Shown) (first : ℕ → ℕ) (members : List ℕ) : Type 0 where
  pub grouped : AreGrouped s first
  pub covers : AfterEach s (λ P T. FirstsCover P T first (work_of members))
  pub firsts : (n : ℕ) → Contains members n → GoesOn s n → first n ≡ n

-- The readers were exact and grouped before own actions that lead to this state, and the head tells whose usage the actions began or ended.
pub record WereExact (s : Shown) (standing : ℕ → List ℕ) (first : ℕ → ℕ) (head : Head) : Type 0 where
  pub before : Shown
  pub base : KeepsBase before s
  pub exact : IsExact before standing
  pub grouped : AreGrouped before first
  pub told : (n : ℕ) → IsUsageTold head n (session_in before.tables n) (session_in s.tables n)
