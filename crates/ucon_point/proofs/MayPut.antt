-- The tests of what may be put are those of the state.
use Rattle.std.proofs.Common.{◌≡◌, ◌≤ℤ◌, ℤ, pos, negsuc, zero, suc, true, length, refl, arith, ltb-true}
use Rattle.std.specs.Prelude.{int_le, nat_lt}
use Rattle.std.proofs.lemmas.Bool.{false≢true}
use Rattle.std.proofs.lemmas.Int.{ints}
use Rattle.ucon_model.specs.declared.session.SessionRow.{SessionRow}
use Rattle.ucon_model.specs.declared.session.SessionState.{SessionState}
use Rattle.ucon_model.specs.declared.session.SessionState.TheVariants.{Requesting, Denied, Accessing, Revoked, Ended}
use Rattle.ucon_model.specs.Plain.{Bytes}
use Rattle.ucon_state.specs.declared.held.ActRow.{ActRow}
use Rattle.ucon_state.specs.Putting.{EntitiesAreThere, HasRoomIn, IsPast, MayPutAct, MayPutSession, StartsAtZero}
use Rattle.ucon_state.specs.Tables.{Tables, accessing_among, moment_in}
use Rattle.ucon_point.specs.Standing.{are_there, has_room_in, is_past, is_zero, may_put_act, may_put_session, starts_right}
use Rattle.std.proofs.lemmas.Bool.{and_parts}
use Rattle.ucon_point.proofs.PointsSpelled.{none_is}

at_most : (a b : ℤ) → int_le a b ≡ true → a ≤ℤ b
at_most a b h = grind (arith, ints)

there_of : (t : Tables) (s o : Bytes) → are_there t s o ≡ true → EntitiesAreThere t s o
there_of t s o h = let p = and_parts _ _ h in record { subject_there = p.0; object_there = p.1 }

past_of : (t : Tables) (m : ℤ) → is_past t m ≡ true → IsPast t m
past_of t m h = let p = and_parts _ _ h in record { since = at_most (pos 0) m p.0; until = at_most m t.tick p.1 }

zero_of : (z : ℤ) → is_zero z ≡ true → z ≡ pos 0
zero_of (pos zero) h = refl
zero_of (pos (suc n)) h = absurd (false≢true h)
zero_of (negsuc n) h = absurd (false≢true h)

starts_of : (state : SessionState) (start : ℤ) → starts_right state start ≡ true → StartsAtZero state start
starts_of Requesting start h = zero_of start h
starts_of Denied start h = zero_of start h
starts_of Accessing start h = tt
starts_of Revoked start h = tt
starts_of Ended start h = tt

room_of : (t : Tables) (state : SessionState) → has_room_in t state ≡ true → HasRoomIn t state
room_of t Accessing h = ltb-true (accessing_among t.sessions) 65536 h
room_of t Requesting h = tt
room_of t Denied h = tt
room_of t Revoked h = tt
room_of t Ended h = tt

pub may_act : (t : Tables) (a : ActRow) → may_put_act t a ≡ true → MayPutAct t a
may_act t a h =
    let p = and_parts (nat_lt (length t.acts) 1048576) _ h in
    let q = and_parts (are_there t a.subject a.object) _ p.1 in
    let r = and_parts (is_past t a.moment) _ q.1 in
    record { new = none_is (moment_in t a.subject a.action a.object) r.1; room = ltb-true (length t.acts) 1048576 p.0; entities = there_of t a.subject a.object q.0; past = past_of t a.moment r.0 }

pub may_session : (t : Tables) (s : SessionRow) → may_put_session t s ≡ true → MayPutSession t s
may_session t s h =
    let p = and_parts (nat_lt (length t.sessions) 1048576) _ h in
    let q = and_parts (has_room_in t s.state) _ p.1 in
    let r = and_parts (are_there t s.subject s.object) _ q.1 in
    let u = and_parts (is_past t s.start) _ r.1 in
    record {
      room = ltb-true (length t.sessions) 1048576 p.0;
      room_in_state = room_of t s.state q.0;
      entities = there_of t s.subject s.object r.0;
      past = past_of t s.start u.0;
      starts = starts_of s.state s.start u.1;
    }
