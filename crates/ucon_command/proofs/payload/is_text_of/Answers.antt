use Rattle.std.proofs.Common.{rules, ◌≡◌, [], true, Some, sym, ap, ◌∙◌}
use Rattle.std.specs.Prelude.{codes}
use Rattle.std.specs.Str.{bytes_eq}
use Rattle.std.proofs.lemmas.Slice.Eq.{bytes_eq-Decides}
use Rattle.ucon_model.specs.declared.reply.Head.TheVariants as heads
use Rattle.ucon_model.specs.Plain.{PlainReply, made}
use Rattle.ucon_model.specs.ReplyText.{reply_read}
use Rattle.ucon_model.specs.Views.{reply_of}
use Rattle.ucon_command.proofs.payload.is_text_of.Goals as goal

pub returns-then-is_ok-clause-read : goal.returns-then-is_ok-clause-read
returns-then-is_ok-clause-read c = λ yes.
    let text = c.args.text.now in
    let ok : reply_of c.args.reply.now ≡ made heads.Ok [] = c.is_ok.ensures c.if-is_ok.true in
    let same : bytes_eq (codes "ok") text ≡ true = search rules in
    let spelled : codes "ok" ≡ text = (bytes_eq-Decides (codes "ok") text).0 same in
    let back : reply_read (codes "ok") ≡ Some (made heads.Ok []) = c.replies_are_read_back.ensures.written (made heads.Ok []) (tt, tt) in
    ap reply_read (sym spelled) ∙ back ∙ ap (λ (r : PlainReply). Some r) (sym ok)
