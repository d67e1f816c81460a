-- What a session of the tables is doing, and what the code tells of it.
use Rattle.std.specs.Prelude.{◌≡◌, ℕ, ◌+◌, ◌∷◌, IsSomeAnd, Result, Ok, Err}
use Rattle.std.specs.Option.{option_map_or}
use Rattle.ucon_model.specs.declared.policy.When.TheVariants.{During, AfterEnd}
use Rattle.ucon_model.specs.declared.reply.Head.TheVariants as heads
use Rattle.ucon_model.specs.declared.reply.Refusal.{Refusal}
use Rattle.ucon_model.specs.declared.session.SessionRow.{SessionRow}
use Rattle.ucon_model.specs.declared.session.SessionState.{SessionState}
use Rattle.ucon_model.specs.declared.reply.Refusal.TheVariants.{NoSession}
use Rattle.ucon_model.specs.declared.command.Caller.{Caller}
use Rattle.ucon_model.specs.Plain.{Bytes, PlainPolicy, status}
use Rattle.ucon_model.specs.Action.{Trace, tries, ends, extended}
use Rattle.ucon_model.specs.Readings.{session, sessions}
use Rattle.ucon_model.specs.OwnActions.{Own, refuse, tell, make, after_action, decide, with_usage}
use Rattle.ucon_model.specs.Updates.{session_writes}
use Rattle.ucon_state.specs.Tables.{Tables, session_in}

-- session n is in this state
abbrev pub IsIn : Tables → ℕ → SessionState → Type 0
IsIn t n state = IsSomeAnd (session_in t n) (λ row. row.state ≡ state)

-- what is done with the session that is told, or the refusal
abbrev pub done_or_refused : Result SessionRow Refusal → (SessionRow → Own) → Own
done_or_refused (Ok row) done = done row
done_or_refused (Err r) done = refuse r

-- what is done if nothing refuses it
abbrev pub done_unless : Result (Unit {0}) Refusal → Own → Own
done_unless (Ok x) done = done
done_unless (Err r) done = refuse r

-- a try, with the number of a new session, and the decision on it
abbrev pub requested : PlainPolicy → Trace → Caller → Bytes → Bytes → Bytes → Own
requested P T caller s r o =
    after_action (tries (sessions T + 1) caller s r o) (decide P (tries (sessions T + 1) caller s r o ∷ T) (sessions T + 1))

-- a beat: the writes of the updates during the caller's own usage
abbrev pub beaten : PlainPolicy → Trace → Caller → ℕ → Own
beaten P T caller n = with_usage T caller n (make heads.Ok (session_writes P n During T))

-- the trace after the end of session n and the updates after it
abbrev pub ended : PlainPolicy → Trace → ℕ → Trace
ended P T n = extended (ends n ∷ T) (session_writes P n AfterEnd (ends n ∷ T))

-- the state of session n is told, or that there is none
abbrev pub looked_at : Trace → ℕ → Own
looked_at T n = option_map_or (λ row. tell (status n row.state)) (session T n) (refuse NoSession)
