use Rattle.std.proofs.Common.{◌≡◌, ℕ, suc, ◌+◌, ◌-◌, List, [], ◌∷◌, ◌++◌, sym, ◌∙◌, ap, arith, append_assoc}
use Rattle.ucon_disk.specs.Image.{filled}
use Rattle.ucon_disk.specs.Replayed.{state_of}
use Rattle.ucon_disk.proofs.replay.Replay.image.Goals as goal

pub loop-place-preserved : goal.loop-place-preserved
loop-place-preserved c =
    let s = state_of c.args.self.now in
    let k = c.loop-place.place in
    let n = c.args.len - (k + 1) in
    let left : suc n ≡ c.args.len - k = omega arith in
    let xs = c.loop-place.image.items in
    let more = filled s (k + 1) n c.byte-byte.result.1.now in
    ap (λ (l : List ℕ). l ++ more) c.in_ok-push.ensures.items
    ∙ append_assoc xs (c.byte-byte.result.0 ∷ []) more
    ∙ ap (λ (l : List ℕ). xs ++ l) (sym (c.byte-byte.ensures n))
    ∙ ap (λ m. xs ++ filled s k m c.loop-place.rest.now) left
    ∙ c.loop-place.invariant
