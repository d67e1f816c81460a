use Rattle.std.proofs.Common.{◌∙◌, sym}
use Rattle.ucon_script.proofs.Arriving.{none_found}
use Rattle.ucon_script.proofs.coming_lines.is_bare.Goals as goal

pub returns-in-None-clause-bare : goal.returns-in-None-clause-bare
returns-in-None-clause-bare c = λ e. none_found c.args.bytes.now (sym c.first_place.ensures.place ∙ c.in-None.is)
