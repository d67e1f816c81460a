use Rattle.std.proofs.Common.{[], sym}
use Rattle.ucon_model.specs.Document.{document_read, lines_of, script_lines, script_number}
use Rattle.ucon_script.proofs.Scripts.{told_below}
use Rattle.ucon_script.proofs.laws.documents_are_read_line_by_line.Goals as goal

pub returns : goal.returns
unfolding document_read
returns c = λ bytes. sym (told_below [] (script_lines (lines_of bytes)) (script_number (lines_of bytes)))
