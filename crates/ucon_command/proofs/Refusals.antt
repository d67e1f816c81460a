-- Refusals that are told whatever memory there is are told where there is some.
use Rattle.std.proofs.Common.{Result, Ok, Err, refl, ap}
use Rattle.std.specs.Prelude.{Option, Some, None, IsOk, IsSome, ok_or}
use Rattle.std.proofs.lemmas.Bool.{false≢true}
use Rattle.ucon_command.specs.declared.line_fault.LineFault.{LineFault}
use Rattle.ucon_command.specs.declared.line_fault.LineFault.TheVariants as faults
use Rattle.ucon_command.specs.Faults.{IsRefusal, IsSure, IsTold}
use Rattle.ucon_model.specs.declared.command.Command.{Command}
use Rattle.ucon_model.specs.CommandLine.{LineRefusal, made}

pub told_sure : {A : Type 0} (said : Result A LineRefusal) (f : LineFault) → IsTold said f → IsSure said f
told_sure said (faults.TooLong n) h = h
told_sure said faults.NoWord h = h
told_sure said faults.UnknownWord h = h
told_sure said (faults.WrongCount n) h = h
told_sure said (faults.BadWord place) h = h
told_sure said (faults.NoMemory e) h = absurd h

pub sure_refused : {A : Type 0} (said : Result A LineRefusal) (f : LineFault) → IsSure said f → IsRefusal said f
sure_refused said (faults.TooLong n) h = h
sure_refused said faults.NoWord h = h
sure_refused said faults.UnknownWord h = h
sure_refused said (faults.WrongCount n) h = h
sure_refused said (faults.BadWord place) h = h
sure_refused said (faults.NoMemory e) h = tt

pub some_said : {A : Type 0} (o : Option A) (refusal : LineRefusal) → IsSome o → IsOk (ok_or o refusal)
some_said (Some x) refusal h = refl
some_said None refusal h = absurd (false≢true h)

made_ok : {A : Type 0} (command : A → Command) (said : Result A LineRefusal) → IsOk said → IsOk (made command said)
made_ok command (Ok x) h = refl
made_ok command (Err refusal) h = absurd (false≢true h)

pub made_sure : {A : Type 0} (command : A → Command) (said : Result A LineRefusal) (f : LineFault) → IsSure said f → IsSure (made command said) f
made_sure command said (faults.TooLong n) h = ap (made command) h
made_sure command said faults.NoWord h = ap (made command) h
made_sure command said faults.UnknownWord h = ap (made command) h
made_sure command said (faults.WrongCount n) h = ap (made command) h
made_sure command said (faults.BadWord place) h = ap (made command) h
made_sure command said (faults.NoMemory e) h = made_ok command said h
