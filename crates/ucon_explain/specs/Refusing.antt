-- What it means that there is no explanation.
use Rattle.std.specs.Prelude.{◌≡◌, Some, ⊤}
use Rattle.ucon_model.specs.Plain.{Bytes}
use Rattle.ucon_state.specs.Following.{AfterEach}
use Rattle.ucon_state.specs.Shown.{Shown}
use Rattle.ucon_accept.specs.Trying.{try_refusal}
use Rattle.ucon_explain.specs.declared.trying.ExplainFault.{ExplainFault}
use Rattle.ucon_explain.specs.declared.trying.ExplainFault.TheVariants.{Refused, NoMemory}

-- if a refusal is answered, the try would meet it
abbrev pub IsRefused : ExplainFault → Shown → Bytes → Bytes → Bytes → Type 0
IsRefused (Refused x) s u r o = AfterEach s (λ P T. try_refusal P T u r o ≡ Some x)
IsRefused (NoMemory e) s u r o = ⊤
