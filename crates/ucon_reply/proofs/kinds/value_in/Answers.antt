use Rattle.ucon_reply.proofs.SureValues.{wants_value}
use Rattle.ucon_reply.proofs.kinds.value_in.Goals as goal

pub returns-in-Err-NoMemory-clause-sure : goal.returns-in-Err-NoMemory-clause-sure
returns-in-Err-NoMemory-clause-sure c =
    let in_err = c.in-Err-NoMemory in
    wants_value c.args.bytes.now in_err.field-0 in_err.refused in_err.field-0-is in_err.ensures.sure
