-- The output of a run as it is written.
use Rattle.std.specs.Prelude.{◌≡◌, ◌<◌, List, map}
use Rattle.ucon_model.specs.Plain.{Bytes}
use Rattle.ucon_base.specs.Elements.{Each}
use Rattle.ucon_model.specs.Output.{FitsLine, output}
use Rattle.ucon_model.specs.Summary.{LineReply, answer_of, answered}

-- the text is the output of these answers, and each fits its line
pub record IsTranscript (text : Bytes) (told : List LineReply) : Type 0 where
  pub text_is : text ≡ output (map answered told)
  pub fits : Each (λ t. FitsLine (answer_of t.reply)) told
  pub clients : Each (λ t. t.line.caller.0 < 256) told
