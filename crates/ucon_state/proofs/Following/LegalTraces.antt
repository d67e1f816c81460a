-- The traces of histories are legal.
use Rattle.std.proofs.Common.{◌≡◌, sym, subst, [], ◌∷◌, ◌++◌, refl}
use Rattle.ucon_model.specs.declared.command.Entry.{Entry}
use Rattle.ucon_model.specs.Plain.{PlainPolicy}
use Rattle.ucon_model.specs.Action.{Trace}
use Rattle.ucon_model.specs.Block.{block, after}
use Rattle.ucon_model.specs.CommandLine.{IsCommand}
use Rattle.ucon_model.specs.Typing.{IsTyped}
use Rattle.ucon_model.specs.History.{History, AreCommands, trace_from, trace}
use Rattle.ucon_model.specs.declared.command.Caller.{Caller}
use Rattle.ucon_model.specs.declared.command.Command.{Command}
use Rattle.ucon_model.specs.Legal.{AreLegal}
use Rattle.ucon_state.specs.Following.{IsLegalTrace}
use Rattle.ucon_state.proofs.Following.Keeping.{legal_extended}

one_more : (P : PlainPolicy) (T : Trace) (G : History) (e : Entry) → trace_from P T (G ++ e ∷ []) ≡ after P (trace_from P T G) e.caller e.command
one_more P T [] e = refl
one_more P T (d ∷ G) e = one_more P (after P T d.caller d.command) G e

-- each action of a block is legal after those before it, under a well typed policy, where entries are commands
abbrev BlocksAreLegal : Type 0
BlocksAreLegal = (P : PlainPolicy) → IsTyped P → (H : History) → AreCommands H → (caller : Caller) (c : Command) → IsCommand c
    → AreLegal P (trace P H) (block P (trace P H) caller c)

commands_more : (G : History) (e : Entry) → AreCommands G → IsCommand e.command → AreCommands (G ++ e ∷ [])
commands_more [] e before now = (now, tt)
commands_more (d ∷ G) e before now = (before.0, commands_more G e before.1 now)

legal_from : BlocksAreLegal → (P : PlainPolicy) → IsTyped P → (G H : History) → AreCommands G → AreCommands H → IsLegalTrace P (trace P G)
    → IsLegalTrace P (trace_from P (trace P G) H)
legal_from blocks P typed G [] before commands legal = legal
legal_from blocks P typed G (e ∷ H) before commands legal =
    let next : IsLegalTrace P (after P (trace P G) e.caller e.command) =
    legal_extended P (trace P G) (block P (trace P G) e.caller e.command) legal (blocks P typed G before e.caller e.command commands.0) in
    subst (λ (T : Trace). IsLegalTrace P (trace_from P T H)) (one_more P [] G e)
    (legal_from blocks P typed (G ++ e ∷ []) H (commands_more G e before commands.0) commands.1 (subst (IsLegalTrace P) (sym (one_more P [] G e)) next))

pub legal_trace_of : BlocksAreLegal → (P : PlainPolicy) → IsTyped P → (H : History) → AreCommands H → IsLegalTrace P (trace P H)
legal_trace_of blocks P typed H commands = legal_from blocks P typed [] H tt commands tt
