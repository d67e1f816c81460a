use Rattle.std.proofs.Common.{◌≡◌, ◌<◌, true, false, length, sym, ◌∙◌, arith}
use Rattle.std.specs.List.{slice_get}
use Rattle.ucon_model.specs.Sums.{is_same_text}
use Rattle.ucon_eval.proofs.SameTexts.{same_texts-lengths, same_texts-on, same_texts-off}
use Rattle.ucon_eval.proofs.worth.are_same_texts.Goals as goal

pub returns-then-size : goal.returns-then-size
returns-then-size c = sym (same_texts-lengths c.args.a.now c.args.b.now (λ same. c.if-size.true (cc)))

pub returns-then-not-are_same_text : goal.returns-then-not-are_same_text
returns-then-not-are_same_text c =
    let within : c.loop-i.i < length c.args.a.now = omega arith in
    let within' : c.loop-i.i < length c.args.b.now = omega arith in
    let other : is_same_text (slice_get c.args.a.now c.loop-i.i) (slice_get c.args.b.now c.loop-i.i) ≡ false = cc in
    sym (same_texts-off _ _ c.loop-i.i within within' other) ∙ c.loop-i.invariant.0

pub loop-i-preserved : goal.loop-i-preserved
loop-i-preserved c =
    let within : c.loop-i.i < length c.args.a.now = omega arith in
    let within' : c.loop-i.i < length c.args.b.now = omega arith in
    let same : is_same_text (slice_get c.args.a.now c.loop-i.i) (slice_get c.args.b.now c.loop-i.i) ≡ true = cc in
    (same_texts-on _ _ c.loop-i.i within within' same ∙ c.loop-i.invariant.0, c.loop-i.invariant.1)
