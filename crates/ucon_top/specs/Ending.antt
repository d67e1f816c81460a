-- How a run ends, by its form.
use Rattle.std.specs.Bool.{OnFalse}
use Rattle.ucon_outcome.specs.declared.outcome.Outcome.{Outcome}
pub use Rattle.ucon_outcome.specs.Ending.{ending, status_of, IsCounted, by_syntax, by_typing, by_script, outcome_of, by_reading, by_opening, by_point}
pub use Rattle.ucon_outcome.specs.Ending.{IsOfDocument, IsOfPrinting, IsOfAccepted, IsUnwritten, IsUntouched, IsUnrefused, IsOffPoint, IsOffDisk}
use Rattle.ucon_top.specs.declared.form.Form.{Form}
use Rattle.ucon_top.specs.Traits.{traits}

-- How a form may end. One that reads nothing ends by nothing of the input. One that makes no call of the disk ends by nothing of that, and one
-- that writes no checkpoint by nothing of one.
abbrev pub MayEnd : Form → Outcome → Type 0
MayEnd form outcome =
    OnFalse (traits form).reads (IsOfDocument outcome)
    × OnFalse (traits form).disk (IsOffDisk outcome)
    × OnFalse (traits form).points (IsOffPoint outcome)
