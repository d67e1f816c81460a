-- What the rows of a checkpoint make is what they say.
use Rattle.std.proofs.Common.{◌≡◌, ◌∙◌, ◌≤ℤ◌, ℤ, pos, negsuc, true, List, Some, None, sym, ap, ap₂, arith}
use Rattle.std.specs.Result.{result_ok}
use Rattle.std.proofs.lemmas.Bool.{false≢true}
use Rattle.std.proofs.lemmas.Int.{ints}
use Rattle.ucon_model.specs.Plain.{Bytes, PlainPolicy}
use Rattle.ucon_model.specs.Typing.{IsTyped, is_typed}
use Rattle.ucon_state.specs.Following.{IsFollowing}
use Rattle.ucon_state.specs.Held.{held_in}
use Rattle.ucon_state.specs.Shown.{Shown}
use Rattle.ucon_syntax.specs.Policies.{accepted, if_typed, reading_of}
use Rattle.ucon_point.specs.declared.row.Row.{Row}
use Rattle.ucon_point.specs.HeldRows.{point_held}
use Rattle.ucon_point.specs.Order.{awaited}
use Rattle.ucon_point.specs.PointRead.{Said, IsPoint, is_whole}
use Rattle.ucon_point.specs.Standing.{Standing, put_all, start}
use Rattle.ucon_point.proofs.Made.{StateLaws, made_after, moved_so, seen, whole_rows}
use Rattle.ucon_point.proofs.PointsRead.{some_and}
use Rattle.ucon_point.proofs.Results.{and_then_is, kept, same}

accepted_typed : (text : Bytes) (Q : PlainPolicy) → accepted text ≡ Some Q → IsTyped Q
accepted_typed text Q h =
    let k = and_then_is (result_ok (reading_of text)) if_typed Q h in
    let t = kept (is_typed k.0) k.0 Q k.1.1 in
    ap is_typed (sym t.1) ∙ t.0

whole_since : (t : ℤ) → is_whole t ≡ true → pos 0 ≤ℤ t
whole_since (pos n) h = grind (arith, ints)
whole_since (negsuc n) h = absurd (false≢true h)

module _ (laws : StateLaws) (p : Said) (end : Standing) (is : IsPoint p) (made : put_all p.policy (start p.policy p.tick) p.rows ≡ Some end) where
  pub typed : IsTyped p.policy
  typed = accepted_typed p.text p.policy is.policy

  pub since : pos 0 ≤ℤ p.tick
  since = whole_since p.tick is.from_zero

  complete : awaited p.policy end.reached ≡ None
  complete =
      let k = some_and (put_all p.policy (start p.policy p.tick) p.rows) (λ s. awaited p.policy s.reached ≡ None) is.order in
      ap (λ (s : Standing). awaited p.policy s.reached) (same end k.0 (sym made ∙ k.1.0)) ∙ k.1.1

  pub held_of : point_held p.entries p.text (held_in p.policy end.tables) ≡ p
  held_of =
      let st = made_after laws p.policy typed p.tick end p.rows since made in
      ap₂ (λ (t : ℤ) (rows : List Row). record { entries = p.entries; text = p.text; policy = p.policy; tick = t; rows = rows })
      st.tick (sym (whole_rows laws p.policy typed p.tick end p.rows st complete))

  pub following_of : (s : Shown) → s.policy ≡ p.policy → s.tables ≡ end.tables → IsFollowing s
  following_of s same_policy same_tables =
      moved_so (seen p.policy end.tables) s same_policy same_tables (made_after laws p.policy typed p.tick end p.rows since made).following
