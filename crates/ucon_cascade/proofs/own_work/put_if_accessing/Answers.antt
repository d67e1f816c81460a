use Rattle.std.proofs.Common.{◌≡◌, ◌∙◌, sym}
use Rattle.ucon_state.specs.Shown.{shown}
use Rattle.ucon_state.specs.Tables.{session_in}
use Rattle.ucon_cascade.specs.Putting.{GoesOn}
use Rattle.ucon_readers.specs.Readers.{first_of}
use Rattle.ucon_cascade.proofs.Anew.{goes_on_in, is_over_in, no_session}
use Rattle.ucon_cascade.proofs.Putting.{gains_like, gains_none}
use Rattle.ucon_cascade.proofs.own_work.put_if_accessing.Goals as goal

pub returns-then-is_accessing-clause-members : goal.returns-then-is_accessing-clause-members
returns-then-is_accessing-clause-members c =
    let s = shown c.args.state.now in
    let n = c.args.n in
    let goes = goes_on_in (session_in s.tables n) c.in-Some.session (sym c.session_state.ensures.tables ∙ c.in-Some.is) (sym c.is_accessing.ensures ∙ c.if-is_accessing.true) in
    gains_like (first_of c.args.readers.now) c.args.work.now.members c.put_first.new.work.members (λ m. m ≡ n) (λ m. (m ≡ n) × GoesOn s n) (λ m. (λ is. (is, goes), λ both. both.0)) c.put_first.ensures.members

pub returns-else-is_accessing-clause-members : goal.returns-else-is_accessing-clause-members
returns-else-is_accessing-clause-members c =
    let s = shown c.args.state.now in
    let n = c.args.n in
    gains_none (first_of c.args.readers.now) c.args.work.now.members (λ m. (m ≡ n) × GoesOn s n)
    (λ m both. is_over_in (session_in s.tables n) c.in-Some.session (sym c.session_state.ensures.tables ∙ c.in-Some.is) (sym c.is_accessing.ensures ∙ c.if-is_accessing.false) both.1)

pub returns-in_default-clause-members : goal.returns-in_default-clause-members
returns-in_default-clause-members c =
    let s = shown c.args.state.now in
    let n = c.args.n in
    gains_none (first_of c.args.readers.now) c.args.work.now.members (λ m. (m ≡ n) × GoesOn s n)
    (λ m both. no_session (session_in s.tables n) (sym c.session_state.ensures.tables ∙ c.in_default.is) both.1)
