use Rattle.std.proofs.Common.{◌≤◌, sym, subst}
use Rattle.std.proofs.lemmas.List.{length-map}
use Rattle.ucon_model.specs.Checked.{checked_policy}
use Rattle.ucon_state.specs.Shown.{right_names}
use Rattle.ucon_state.specs.Stored.{row_of}
use Rattle.ucon_state.specs.Views.{lists_of}
use Rattle.ucon_state.proofs.Stages.{sound_now}
use Rattle.ucon_state.proofs.laws.sessions_are_few.Goals as goal

pub returns : goal.returns
returns c = λ s.
    let R = right_names s in
    let t = lists_of s.tables in
    let now = sound_now (checked_policy s.planned.checked) R s.changes.items t s.sound in
    subst (λ n. n ≤ 1048576) (sym (length-map t.sessions (row_of R t.subjects t.objects))) now.sessions
