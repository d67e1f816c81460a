use Rattle.std.proofs.Common.{rules, slice_index_or, ◌≡◌, ◌<◌, ◌∙◌, ℕ, ◌-◌, ◌+◌, List, take, length, length-append, replicate, map, ap, sym, subst, arith, slice_index_or}
use Rattle.std.proofs.lemmas.List.{take_all, length-replicate}
use Rattle.std.proofs.lemmas.List.Elements.{All-more, All-weaker}
use Rattle.std.specs.List.{All}
use Rattle.ucon_links.specs.Dependents.{Dependents, Place, is_there, stands_in, empty_place}
use Rattle.ucon_readers.proofs.Outcomes.{on_ok}
use Rattle.ucon_readers.proofs.Placed.{place_at-grown, is_there-grown}
use Rattle.ucon_readers.proofs.standing.make_room.Goals as goal

pub loop-place-preserved : goal.loop-place-preserved
loop-place-preserved c =
    let old = c.loop-place.index in
    let ok = c.in_ok-grow.ensures.ok in
    let more = c.in-Some.count - length old.places in
    let size : length c.grow.new.self.places ≡ length old.places + more =
    ap (λ (v : Dependents). length v.places) ok ∙ length-append old.places (replicate more empty_place) ∙ ap (λ n. length old.places + n) (length-replicate more empty_place) in
    let place : ℕ = slice_index_or c.args.places.now c.loop-place.place-index 0 in
    let count : c.in-Some.count ≡ place + 1 = search rules in
    let next : place < length old.places + more = omega (arith, count) in
    record {
      stands = λ place. ap (λ (v : Dependents). stands_in v place) ok
          ∙ ap (λ (p : Place). map (λ x. x.1) p.listed) (place_at-grown old.places more place) ∙ c.loop-place.invariant.stands place;
      hidden = ap (λ (v : Dependents). v.hidden) ok ∙ c.loop-place.invariant.hidden;
      there = λ leader. ap (λ (v : Dependents). is_there leader v.places) ok ∙ is_there-grown leader old.places more ∙ c.loop-place.invariant.there leader;
      exist = subst (λ n. All (λ place. place < n) (take (c.loop-place.place-index + 1) c.args.places.now)) (sym size)
          (All-more (λ place. place < length old.places + more) c.args.places.now c.loop-place.place-index 0 c.loop-place-test.true
          (All-weaker (λ place. place < length old.places) (λ place. place < length old.places + more) (λ place below. omega (arith, below))
          (take c.loop-place.place-index c.args.places.now) c.loop-place.invariant.exist) next);
    }

pub returns-clause-exist : goal.returns-clause-exist
returns-clause-exist c =
    let whole : take c.loop-place.place-index c.args.places.now ≡ c.args.places.now = take_all c.loop-place.place-index c.args.places.now c.loop-place-test.false in
    let places = ap (λ (v : Dependents). length v.places) c.reserve.ensures.kept ∙ ap (λ (v : Dependents). length v.places) c.in_ok-grow_sessions.ensures.ok in
    on_ok c.reserve.result
    (subst (λ n. All (λ place. place < n) c.args.places.now) (sym places)
    (subst (λ (xs : List ℕ). All (λ place. place < length c.loop-place.index.places) xs) whole c.loop-place.invariant.exist))
