-- A reply's text tells whether the reply changes something.
use Rattle.std.proofs.Common.{◌≡◌, refl}
use Rattle.ucon_model.specs.declared.reply.Head.TheVariants as heads
use Rattle.ucon_model.specs.declared.reply.Refusal.TheVariants.{NotAdmin, NoRight, NoSubject, NoObject, NoAttribute, NoVariable, NoAct, NoSession, NotYours, NotAccessing, NotRequesting, AlreadyThere, BadValue, TickBack, KindChanged, FullSubjects, FullObjects, FullActs, FullSessions, FullAccessing}
use Rattle.ucon_model.specs.Plain.{PlainReply, refused, made, value_is, status}
use Rattle.ucon_model.specs.Spelling.{reply_spelling}
use Rattle.ucon_model.specs.History.{changes}
use Rattle.ucon_model.specs.ReplyText.{tells_change}

pub tells_change-reply_spelling : (r : PlainReply) → tells_change (reply_spelling r) ≡ changes r
tells_change-reply_spelling (refused NotAdmin) = refl
tells_change-reply_spelling (refused NoRight) = refl
tells_change-reply_spelling (refused NoSubject) = refl
tells_change-reply_spelling (refused NoObject) = refl
tells_change-reply_spelling (refused NoAttribute) = refl
tells_change-reply_spelling (refused NoVariable) = refl
tells_change-reply_spelling (refused NoAct) = refl
tells_change-reply_spelling (refused NoSession) = refl
tells_change-reply_spelling (refused NotYours) = refl
tells_change-reply_spelling (refused NotAccessing) = refl
tells_change-reply_spelling (refused NotRequesting) = refl
tells_change-reply_spelling (refused AlreadyThere) = refl
tells_change-reply_spelling (refused BadValue) = refl
tells_change-reply_spelling (refused TickBack) = refl
tells_change-reply_spelling (refused KindChanged) = refl
tells_change-reply_spelling (refused FullSubjects) = refl
tells_change-reply_spelling (refused FullObjects) = refl
tells_change-reply_spelling (refused FullActs) = refl
tells_change-reply_spelling (refused FullSessions) = refl
tells_change-reply_spelling (refused FullAccessing) = refl
tells_change-reply_spelling (made heads.Ok revoked) = refl
tells_change-reply_spelling (made (heads.Permitted n) revoked) = refl
tells_change-reply_spelling (made (heads.Denied n label) revoked) = refl
tells_change-reply_spelling (made (heads.Waiting n label) revoked) = refl
tells_change-reply_spelling (made (heads.Ended n) revoked) = refl
tells_change-reply_spelling (value_is v) = refl
tells_change-reply_spelling (status n state) = refl
