use Rattle.std.proofs.Common.{◌≡◌, ◌+◌, List, [], ◌∷◌, ◌++◌, get_or, map, take, sym, ◌∙◌, ap, arith}
use Rattle.std.proofs.lemmas.List.{map_more}
use Rattle.ucon_disk.specs.declared.log.Call.{Call}
use Rattle.ucon_disk.specs.Image.{State, Change, at_rest, step, after}
use Rattle.ucon_disk.specs.Started.{start_of}
use Rattle.ucon_disk.specs.Recorded.{change_of}
use Rattle.ucon_disk.proofs.Histories.{after-append}
use Rattle.ucon_disk.proofs.log.Log.replayed.Goals as goal

pub loop-call-preserved : goal.loop-call-preserved
loop-call-preserved c =
    let calls = c.self.inside.calls.items in
    let i = c.loop-call.call-index in
    let begun = at_rest (start_of c.self.inside.first c.self.inside.bytes.items) in
    let is : c.call-item.result ≡ get_or calls i c.call-item.result = c.call-item.is ∙ ap (λ (l : List Call). get_or l i c.call-item.result) c.deref-call-items.ensures.value in
    let more : map change_of (take (i + 1) calls) ≡ map change_of (take i calls) ++ change_of c.call-item.result ∷ [] = map_more change_of calls i c.call-item.result (omega arith) ∙ ap (λ (call : Call). map change_of (take i calls) ++ change_of call ∷ []) (sym is) in
    c.in_ok-apply.ensures
    ∙ ap (λ (s : State). step s (change_of c.call-item.result)) c.loop-call.invariant
    ∙ sym (after-append begun (map change_of (take i calls)) (change_of c.call-item.result))
    ∙ ap (λ (changes : List Change). after begun changes) (sym more)
