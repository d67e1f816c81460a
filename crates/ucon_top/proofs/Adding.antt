-- What was printed of a document.
use Rattle.std.proofs.Common.{◌≡◌, sym, subst}
use Rattle.std.specs.Prelude.{Option, Some, None, IfSome}
use Rattle.ucon_model.specs.Plain.{Bytes}
use Rattle.ucon_top.specs.Printed.{Adds}

-- what was added of these bytes was added of the document, where it is told
pub adds_document : (R : Bytes → Bytes → Type 0) (document : Option Bytes) (bytes : Bytes) (before now : Option Bytes) → IfSome document (λ d. d ≡ bytes)
    → Adds R (Some bytes) before now → Adds R document before now
adds_document R None bytes before now is adds = tt
adds_document R (Some d) bytes before now is adds = subst (λ (b : Bytes). Adds R (Some b) before now) (sym is) adds
