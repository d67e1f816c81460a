use Rattle.std.proofs.Common.{arith}
use Rattle.ucon_top.proofs.Forms.{form_of_more, form_of_none}
use Rattle.ucon_top.proofs.form.read_form.Goals.{in_default-via-then-words-lt1, in_default-via-else-words-lt1+else-words-lt2+else-words-lt3+else-words-lt4+else-words-lt5+else-words-lt6}
use Rattle.ucon_top.proofs.form.read_form.Goals as goal

pub returns-in_default-clause-form : goal.returns-in_default-clause-form
returns-in_default-clause-form c =
    elim c.in_default.branch [
      | in_default-via-then-words-lt1 w ↦ grind (arith, form_of_none c.args.words.now)
      | in_default-via-else-words-lt1+else-words-lt2+else-words-lt3+else-words-lt4+else-words-lt5+else-words-lt6 w ↦ grind (arith, form_of_more c.args.words.now)
    ]
