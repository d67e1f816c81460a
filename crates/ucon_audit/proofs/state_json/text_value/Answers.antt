use Rattle.std.proofs.Common.{sym, subst}
use Rattle.std.specs.Str.{IsAscii}
use Rattle.ucon_model.specs.Plain.{Bytes}
use Rattle.ucon_audit.proofs.Ascii.{texts_are_ascii}
use Rattle.ucon_audit.proofs.state_json.text_value.Goals as goal

pub ascii_text-text-requires : goal.ascii_text-text-requires
ascii_text-text-requires c = subst (λ (bytes : Bytes). IsAscii bytes) (sym c.bytes.ensures.bytes) (texts_are_ascii c.args.text.now c.bytes.ensures.in_form)
