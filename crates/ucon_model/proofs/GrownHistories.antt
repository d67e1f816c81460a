-- The trace of a history that is grown by an entry.
use Rattle.std.proofs.Common.{◌≡◌, ap, sym, Bool, true, false, cond, [], ◌∷◌, ◌++◌, refl}
use Rattle.ucon_model.specs.declared.command.Entry.{Entry}
use Rattle.ucon_model.specs.Plain.{PlainPolicy}
use Rattle.ucon_model.specs.Action.{Trace, extended}
use Rattle.ucon_model.specs.OwnActions.{Own, refuse, tell, make, own}
use Rattle.ucon_model.specs.Block.{own_block, own_reply, reply, after}
use Rattle.ucon_model.specs.History.{History, trace_from, trace, changes, grown}

-- one entry more
trace-more : (P : PlainPolicy) (T : Trace) (H : History) (e : Entry) → trace_from P T (H ++ e ∷ []) ≡ after P (trace_from P T H) e.caller e.command
trace-more P T [] e = refl
trace-more P T (x ∷ H) e = trace-more P (after P T x.caller x.command) H e

-- where the reply changes nothing, there is no action
no_action : (P : PlainPolicy) (T : Trace) (o : Own) → changes (own_reply P T o) ≡ false → own_block P T o ≡ []
no_action P T (refuse r) none = refl
no_action P T (tell reply) none = refl
no_action P T (make head actions) none = absurd cc

grown_if : (P : PlainPolicy) (H : History) (e : Entry) (b : Bool) → changes (reply P (trace P H) e.caller e.command) ≡ b
    → trace P (cond b (H ++ e ∷ []) H) ≡ after P (trace P H) e.caller e.command
grown_if P H e true is = trace-more P [] H e
grown_if P H e false is =
    ap (extended (trace P H)) (sym (no_action P (trace P H) (own P (trace P H) e.caller e.command) is))

pub trace-grown : (P : PlainPolicy) (H : History) (e : Entry) → trace P (grown P H e) ≡ after P (trace P H) e.caller e.command
trace-grown P H e = grown_if P H e (changes (reply P (trace P H) e.caller e.command)) refl
