use Rattle.std.proofs.Common.{◌≡◌, ◌<◌, arith, false, get_or, sym, subst, take, List, ℕ}
use Rattle.std.proofs.lemmas.List.{take_more, take_all}
use Rattle.ucon_links.specs.Lists.{IsAbsent}
use Rattle.ucon_links.specs.Dependents.{Dependents, is_there, IsAdded}
use Rattle.ucon_links.specs.Tables.{seen}
use Rattle.ucon_links.proofs.Added.{added_at, added_elsewhere, added_there, remove-added}
use Rattle.ucon_links.proofs.Adding.{adding_goes_on, place_is_new}
use Rattle.ucon_links.proofs.Walks.{within_seen}
use Rattle.ucon_links.proofs.index.Index.add.Goals as goal

pub link-node-requires-clause-list : goal.link-node-requires-clause-list
link-node-requires-clause-list c =
    let exists = c.requires.exist c.loop-place.place-index 0 c.loop-place-test.true in
    let within = within_seen c.self.inside.places c.self.inside.sessions c.args.self.now c.self.view_is (get_or c.args.places.now c.loop-place.place-index 0) exists in
    let count = c.loop-place.invariant.count in
    omega (arith, within, count)

pub loop-place-preserved : goal.loop-place-preserved
loop-place-preserved c =
    let place = get_or c.args.places.now c.loop-place.place-index 0 in
    let added = take c.loop-place.place-index c.args.places.now in
    let exists = c.requires.exist c.loop-place.place-index 0 c.loop-place-test.true in
    let within = within_seen c.self.inside.places c.self.inside.sessions c.args.self.now c.self.view_is place exists in
    let session = subst (λ (v : Dependents). c.args.session < v.sessions) (sym c.self.view_is) c.requires.session in
    let not_there = subst (λ (v : Dependents). is_there c.args.session v.places ≡ false) (sym c.self.view_is) c.requires.not_there in
    let not_hidden = subst (λ (v : Dependents). IsAbsent c.args.session v.hidden) (sym c.self.view_is) c.requires.not_hidden in
    let is_new = place_is_new c.args.places.now c.loop-place.place-index c.loop-place-test.true c.requires.distinct in
    let more = adding_goes_on c.args.session place c.link-node.result c.link.result added c.self.inside.places c.self.inside.sessions c.loop-place.self-inside.places c.loop-place.self-inside.sessions within session not_there not_hidden is_new c.loop-place.invariant in
    rw (take_more c.args.places.now c.loop-place.place-index 0 c.loop-place-test.true, c.link-node.ensures.linked, c.link.ensures.linked) more

pub returns-clause-added : goal.returns-clause-added
returns-clause-added c =
    let past = c.loop-place-test.false in
    let whole = take_all c.loop-place.place-index c.args.places.now (omega arith) in
    subst (λ (v : Dependents). IsAdded v c.args.session c.args.places.now (seen c.loop-place.self-inside.places c.loop-place.self-inside.sessions)) c.self.view_is
    (subst (λ (added : List ℕ). IsAdded (seen c.self.inside.places c.self.inside.sessions) c.args.session added (seen c.loop-place.self-inside.places c.loop-place.self-inside.sessions)) whole c.loop-place.invariant.is_added)

pub returns-clause-at : goal.returns-clause-at
returns-clause-at c k d within = added_at c.args.self.now c.args.session c.args.places.now _ k d (returns-clause-added c) c.requires.distinct c.requires.exist within

pub returns-clause-elsewhere : goal.returns-clause-elsewhere
returns-clause-elsewhere c place absent = added_elsewhere c.args.self.now c.args.session c.args.places.now _ place (returns-clause-added c) absent

pub returns-clause-there : goal.returns-clause-there
returns-clause-there c = added_there c.args.self.now c.args.session c.args.places.now _ (returns-clause-added c) c.requires.distinct c.requires.exist c.requires.some

pub returns-clause-undone : goal.returns-clause-undone
returns-clause-undone c = remove-added c.args.self.now c.args.session c.args.places.now _ (returns-clause-added c) c.requires.distinct c.requires.exist c.requires.not_there c.requires.room
