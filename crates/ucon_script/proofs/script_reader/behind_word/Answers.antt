use Rattle.std.proofs.Common.{sym, ◌∙◌}
use Rattle.ucon_script.proofs.Headings.{begins_otherwise}
use Rattle.ucon_script.proofs.script_reader.behind_word.Goals as goal

pub returns-then-not-starts_with : goal.returns-then-not-starts_with
returns-then-not-starts_with c = begins_otherwise c.args.line.now (sym c.starts_with.ensures.value ∙ c.if-not-starts_with.true)
