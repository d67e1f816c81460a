-- How the rows and the ends hold the lists in order, and what the table's own functions write. No public clause cites this module.
use Rattle.std.specs.Prelude.{◌≡◌, ℕ, Bool, true, List, Option, Some, None, option_map, slice_get, slice_set, ⊤}
use Rattle.ucon_collections.specs.declared.table.Member.{Member}
use Rattle.ucon_collections.specs.declared.table.Ends.{Ends}
use Rattle.ucon_collections.specs.declared.table.Gap.{Gap}
use Rattle.ucon_collections.specs.declared.table.Table.{Table}
use Rattle.ucon_collections.specs.Lists.{IsLed, IsNext, IsPrevious, Members, ends_at, is_joined, member_at, nobody}

-- what a clause sees of a table
abbrev pub seen : Table → Members
seen t = record { rows = t.rows.items; ends = t.ends.items }

-- ---- in order

-- what is kept as the next behind a session, or, if there is none, as the first of a list
abbrev pub after : Members → ℕ → Option ℕ → Option ℕ
after v leader None = (ends_at v.ends leader).first
after v leader (Some n) = (member_at v.rows n).next

-- what is kept as the previous in front of a session, or, if there is none, as the last of a list
abbrev pub before : Members → ℕ → Option ℕ → Option ℕ
before v leader None = (ends_at v.ends leader).last
before v leader (Some n) = (member_at v.rows n).previous

-- the session, if there is one, is in the list of a leader
abbrev pub IsIn : Members → ℕ → Option ℕ → Type 0
IsIn v leader None = ⊤
IsIn v leader (Some n) = IsLed v leader n

-- each list that has a member was joined, and what is kept as next and as previous is so
pub record IsSound (v : Members) : Type 0 where
  pub joined : (leader n : ℕ) → IsLed v leader n → is_joined v leader ≡ true
  pub next : (leader : ℕ) (at : Option ℕ) → IsIn v leader at → IsNext (IsLed v leader) at (after v leader at)
  pub previous : (leader : ℕ) (at : Option ℕ) → IsIn v leader at → IsPrevious (IsLed v leader) at (before v leader at)

-- ---- what is written

module _ {X : Type 0} where
  abbrev pub put_at : List X → ℕ → Option X → List X
  put_at xs at None = xs
  put_at xs at (Some x) = slice_set xs at x

  -- one of these is changed, if it is there
  abbrev pub changed : (X → X) → List X → ℕ → List X
  changed change xs at = put_at xs at (option_map change (slice_get xs at))

-- the rows with `next` behind a session
abbrev pub with_next : List Member → Option ℕ → Option ℕ → List Member
with_next rows None next = rows
with_next rows (Some n) next = changed (λ row. record row { next = next }) rows n

-- the rows with `previous` in front of a session
abbrev pub with_previous : List Member → Option ℕ → Option ℕ → List Member
with_previous rows None previous = rows
with_previous rows (Some n) previous = changed (λ row. record row { previous = previous }) rows n

-- the ends, of which the first changes if no session stands before
abbrev pub with_first : List Ends → ℕ → Option ℕ → Option ℕ → List Ends
with_first ends leader None next = changed (λ e. record e { first = next }) ends leader
with_first ends leader (Some n) next = ends

-- the ends, of which the last changes if no session stands behind
abbrev pub with_last : List Ends → ℕ → Option ℕ → Option ℕ → List Ends
with_last ends leader None previous = changed (λ e. record e { last = previous }) ends leader
with_last ends leader (Some n) previous = ends

-- a list was joined, or it wasn't
abbrev pub marked : Members → ℕ → Bool → Members
marked v leader joined = record v { ends = changed (λ e. record e { is_joined = joined }) v.ends leader }

-- the members with a session between neighbours in a leader's list
abbrev pub linked : Members → ℕ → ℕ → Gap → Members
linked v leader session gap = record {
  rows = slice_set (with_previous (with_next v.rows gap.previous (Some session)) gap.next (Some session)) session
      (record { leader = Some leader; previous = gap.previous; next = gap.next });
  ends = with_last (with_first v.ends leader gap.previous (Some session)) leader gap.next (Some session);
}

-- the gap in which a session stands
abbrev pub gap_of : Members → ℕ → Gap
gap_of v session = record { previous = (member_at v.rows session).previous; next = (member_at v.rows session).next }

-- the members without a session, where its neighbours stand next to each other
abbrev pub closed : Members → ℕ → ℕ → Gap → Members
closed v leader session gap = record {
  rows = slice_set (with_previous (with_next v.rows gap.previous gap.next) gap.next gap.previous) session nobody;
  ends = with_last (with_first v.ends leader gap.previous gap.next) leader gap.next gap.previous;
}

abbrev pub unlinked : Members → ℕ → ℕ → Members
unlinked v leader session = closed v leader session (gap_of v session)
