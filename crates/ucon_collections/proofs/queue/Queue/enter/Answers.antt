use Rattle.std.proofs.Common.{◌∙◌, [], ◌∷◌, ℤ, zero, arith, heap_items, ap, sym, rules, w64}
use Rattle.std.proofs.lemmas.Int.{to_z-of_z}
use mir.Val.{SFits}
use Rattle.std.proofs.lemmas.List.Elements.{Contains-append_right}
use Rattle.std.proofs.lemmas.List.Sorted.{Contains-permutation}
use Rattle.std.proofs.lemmas.Option.{same_Some}
use Rattle.ucon_collections.specs.Entries.{entry}
use Rattle.ucon_collections.proofs.queue.Queue.enter.Goals as goal

pub invariant_of-self-2 : goal.invariant_of-self-2
invariant_of-self-2 c = record {
  order = c.in_ok-push.ensures.heap_order (rw c.in_ok-reserve.ensures.items c.self.invariant.order);
  room = omega (arith, c.in_ok-push.ensures.len, c.in_ok-push.ensures.capacity, c.in_ok-reserve.ensures.ok);
}

pub returns-clause-entered : goal.returns-clause-entered
returns-clause-entered c = λ d is.
    let same = same_Some c.in-Some.deadline d (sym c.in-Some.is ∙ is) in
    let fits : SFits w64 c.in-Some.deadline = search rules in
    let first = c.entry_of.ensures ∙ ap (λ (t : ℤ). entry t c.args.session) (to_z-of_z w64 c.in-Some.deadline fits ∙ same) in
    Contains-permutation _ _ _ c.in_ok-push.ensures.permutation (zero, omega arith, first)

pub returns-clause-rest : goal.returns-clause-rest
returns-clause-rest c =
    rw (← c.self.view_is) (λ e found. Contains-permutation _ _ e c.in_ok-push.ensures.permutation (Contains-append_right (c.entry_of.result ∷ []) (heap_items c.reserve.new.self) e (rw c.in_ok-reserve.ensures.items found)))
