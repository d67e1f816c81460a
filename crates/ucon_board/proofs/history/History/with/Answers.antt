use Rattle.std.proofs.Common.{ap, sym, ◌∙◌, length}
use Rattle.ucon_board.proofs.Adding.{adds_moves}
use Rattle.ucon_board.proofs.history.History.with.Goals as goal

pub compare_exchange-found-requires : goal.compare_exchange-found-requires
compare_exchange-found-requires c =
    let h = c.args.self.now.word_is in
    let told = c.again-told.ensures in
    let offer = c.plain-offer.ensures in
    let pen = c.no_pen-pen.ensures in (
      ap (λ w. w.tracked) h,
      ap (λ s. s.book) told ∙ sym (ap (λ w. w.book) h),
      pen.0 ∙ (ap (λ s. s.book) told ∙ sym (ap (λ w. w.book) h)),
      offer.0,
      rw (ap (λ w. w.key) h, pen.1, offer.1, offer.3) (adds_moves c.again-told.result.log _ c.args.self.now.count (c.args.self.now.counted ∙ sym (ap (λ s. length s.log) told))),
    )
