use Rattle.std.proofs.Common.{◌≡◌, ℕ, List, [], ◌∷◌, map, filter_map, Option, Some, None, refl, ap, ◌∙◌}
use Rattle.rayon.proofs.ListFacts.{IfOk-then}
use Rattle.rayon.proofs.ToStd.{slice-map}
use Rattle.ucon_audit.specs.Recheck.{unless_permitted, verdict_now}
use Rattle.ucon_audit.proofs.parallel.recheck_shared.Goals as goal

-- the results that are there, taken after all were made or as each is made
kept : {X Y : Type 0} (f : X → Option Y) (xs : List X) → filter_map (λ o. o) (map f xs) ≡ filter_map f xs
kept f [] = refl
kept f (x ∷ xs) = go (f x) refl (kept f xs)
  where
    go : (o : Option _) → f x ≡ o → filter_map (λ o. o) (map f xs) ≡ filter_map f xs → filter_map (λ o. o) (map f (x ∷ xs)) ≡ filter_map f (x ∷ xs)
    go None e rest = rw e rest
    go (Some y) e rest = rw e (ap (λ l. y ∷ l) rest)

pub returns : goal.returns
returns g c =
    let slice = ap (λ it. it.base.slice.now) c.filter_map.ensures.base ∙ ap (λ it. it.slice.now) c.with_min_len.ensures.base ∙ c.par_iter.ensures in
    let one = λ (n : ℕ). unless_permitted n (verdict_now (g.V.View.policy c.args.view.now) (g.V.View.readings c.args.view.now) n) in
    IfOk-then c.collect.result _ _ c.collect.ensures (λ v h.
    let chain = rw c.filter_map.ensures.f at h.1 in
    let answers = slice-map chain.0 c.args.sessions.now (chain.2 ∙ slice) one chain.1 chain.3 in
    h.2 ∙ chain.4 ∙ ap (filter_map (λ o. o)) answers ∙ kept one c.args.sessions.now)
