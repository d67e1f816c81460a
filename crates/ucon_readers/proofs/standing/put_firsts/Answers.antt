use Rattle.std.proofs.Common.{◌≡◌, ◌<◌, ◌∙◌, ◌++◌, ◌∷◌, ◌⊎◌, ◌↔◌, [], ℕ, List, Some, None, ap, is_some, subst, sym, refl}
use Rattle.std.specs.List.{All, Contains}
use Rattle.ucon_links.specs.Dependents.{place_at, stands_in}
use Rattle.ucon_links.specs.Walk.{IsWalked, left_from}
use Rattle.ucon_readers.specs.Lists.{first_in, led_by}
use Rattle.ucon_readers.proofs.Leading.{there_if_stands}
use Rattle.ucon_readers.proofs.Walking.{IsFirstOf, members_below, nobody_met, one_met}
use Rattle.ucon_readers.proofs.standing.put_firsts.Goals as goal

some_of : {a b : ℕ} → Some a ≡ Some b → a ≡ b
some_of e = cc

pub loop-at-init : goal.loop-at-init
loop-at-init c = record {
  way = record {
    met = [];
    way = c.walks_meet_who_stands.ensures.begins c.args.index.now c.args.place c.first-at.result c.first-at.ensures.first;
    members = nobody_met c.args.lists.now.members c.args.work.now.members;
  };
  limit = refl;
}

pub owner-requires : goal.owner-requires
owner-requires c =
    let v = c.args.index.now in
    let way = c.loop-at.invariant.way in
    let within : c.args.place < _ = subst (λ n. c.args.place < n) c.place_count.ensures c.if-place-place_count.false in
    let met = c.walks_meet_who_stands.ensures.meets v c.args.place way.met c.in-Some.node c.first-at.ensures.distinct within (subst (IsWalked v c.args.place way.met) c.in-Some.is way.way) in
    ap is_some met.session_is

pub put_first-requires-clause-below : goal.put_first-requires-clause-below
put_first-requires-clause-below c =
    let v = c.args.index.now in
    let lists = c.args.lists.now.members in
    let way = c.loop-at.invariant.way in
    let within : c.args.place < _ = subst (λ n. c.args.place < n) c.place_count.ensures c.if-place-place_count.false in
    let met = c.walks_meet_who_stands.ensures.meets v c.args.place way.met c.in-Some.node c.first-at.ensures.distinct within (subst (IsWalked v c.args.place way.met) c.in-Some.is way.way) in
    let same : met.session ≡ c.owner.result = some_of (sym met.session_is ∙ c.owner.ensures) in
    let below = members_below lists v c.args.place met.session c.args.work.now.limit c.requires.below met.stands in
    subst (λ (l : ℕ). All (λ n. n < c.loop-at.work.limit) (led_by lists l)) same
    (subst (λ (limit : ℕ). All (λ n. n < limit) (led_by lists met.session)) (sym c.loop-at.invariant.limit) below)

pub put_first-requires-clause-alone : goal.put_first-requires-clause-alone
put_first-requires-clause-alone c =
    let v = c.args.index.now in
    let way = c.loop-at.invariant.way in
    let within : c.args.place < _ = subst (λ n. c.args.place < n) c.place_count.ensures c.if-place-place_count.false in
    let met = c.walks_meet_who_stands.ensures.meets v c.args.place way.met c.in-Some.node c.first-at.ensures.distinct within (subst (IsWalked v c.args.place way.met) c.in-Some.is way.way) in
    let same : met.session ≡ c.owner.result = some_of (sym met.session_is ∙ c.owner.ensures) in
    c.requires.led.alone c.owner.result (there_if_stands c.owner.result v.places c.args.place (subst (Contains (stands_in v c.args.place)) same met.stands))

pub next-at-requires : goal.next-at-requires
next-at-requires c =
    let v = c.args.index.now in
    let way = c.loop-at.invariant.way in
    let within : c.args.place < _ = subst (λ n. c.args.place < n) c.place_count.ensures c.if-place-place_count.false in
    let met = c.walks_meet_who_stands.ensures.meets v c.args.place way.met c.in-Some.node c.first-at.ensures.distinct within (subst (IsWalked v c.args.place way.met) c.in-Some.is way.way) in
    met.listed

pub loop-at-smaller : goal.loop-at-smaller
loop-at-smaller c =
    let v = c.args.index.now in
    let way = c.loop-at.invariant.way in
    let within : c.args.place < _ = subst (λ n. c.args.place < n) c.place_count.ensures c.if-place-place_count.false in
    let met = c.walks_meet_who_stands.ensures.meets v c.args.place way.met c.in-Some.node c.first-at.ensures.distinct within (subst (IsWalked v c.args.place way.met) c.in-Some.is way.way) in
    let listed = (place_at v.places c.args.place).listed in
    subst (λ at. left_from listed c.next-at.result < left_from listed at) (sym c.in-Some.is) (met.fewer c.next-at.result c.next-at.ensures.next)

pub loop-at-preserved : goal.loop-at-preserved
loop-at-preserved c =
    let v = c.args.index.now in
    let lists = c.args.lists.now.members in
    let way = c.loop-at.invariant.way in
    let within : c.args.place < _ = subst (λ n. c.args.place < n) c.place_count.ensures c.if-place-place_count.false in
    let met = c.walks_meet_who_stands.ensures.meets v c.args.place way.met c.in-Some.node c.first-at.ensures.distinct within (subst (IsWalked v c.args.place way.met) c.in-Some.is way.way) in
    let same : met.session ≡ c.owner.result = some_of (sym met.session_is ∙ c.owner.ensures) in
    record {
      way = record {
        met = way.met ++ met.session ∷ [];
        way = met.more c.next-at.result c.next-at.ensures.next;
        members = λ n. one_met lists way.met c.args.work.now.members c.loop-at.work.members c.put_first.new.work.members met.session n (way.members n)
            (subst (λ (l : ℕ). Contains c.put_first.new.work.members n ↔ ((Contains (led_by lists l) n × (first_in lists n ≡ n)) ⊎ Contains c.loop-at.work.members n)) (sym same)
            (c.put_first.ensures.members n));
      };
      limit = search;
    }

pub returns-clause-members : goal.returns-clause-members
returns-clause-members c =
    let v = c.args.index.now in
    let lists = c.args.lists.now.members in
    let way = c.loop-at.invariant.way in
    let none : c.loop-at.at ≡ None = c.in_default.is in
    let ended = c.walks_meet_who_stands.ensures.ends v c.args.place way.met (subst (IsWalked v c.args.place way.met) none way.way) in
    λ n. subst (λ (met : List ℕ). Contains c.loop-at.work.members n ↔ (IsFirstOf lists met n ⊎ Contains c.args.work.now.members n)) ended (way.members n)
