use Rattle.std.proofs.Common.{◌≡◌, ◌++◌, drop}
use Rattle.ucon_base.specs.Elements.{Each}
use Rattle.ucon_model.specs.ReplyText.{IsLabelled}
use Rattle.ucon_model.specs.Spelling.{revoked_spelling}
use Rattle.ucon_reply.proofs.replies.put_revoked.Given as goal

-- the text so far and that of the rest are all, and where the rest are in form, all are
abbrev pub invariant-loop-r : goal.invariant-loop-r
invariant-loop-r l = record {
  text : l.out.items ++ revoked_spelling (drop l.r-index l.revoked) ≡ l.fn.out.items ++ revoked_spelling l.revoked;
  in_form : Each (λ r. IsLabelled r.session r.label) (drop l.r-index l.revoked) → Each (λ r. IsLabelled r.session r.label) l.revoked;
}
