use Rattle.std.proofs.Common.{sym, subst}
use Rattle.std.specs.Str.{IsAscii}
use Rattle.ucon_model.specs.Plain.{Bytes}
use Rattle.ucon_audit.proofs.Ascii.{names_are_ascii}
use Rattle.ucon_audit.proofs.state_json.name_text.Goals as goal

pub ascii_text-requires : goal.ascii_text-requires
ascii_text-requires c = subst (λ (bytes : Bytes). IsAscii bytes) (sym c.bytes.ensures.bytes) (names_are_ascii c.args.name.now c.bytes.ensures.in_form)
