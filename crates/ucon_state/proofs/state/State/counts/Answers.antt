use Rattle.std.proofs.Common.{◌≤◌, sym, subst, arith}
use Rattle.std.proofs.lemmas.List.Sums.{count_by-le-length}
use Rattle.ucon_model.specs.Checked.{checked_policy}
use Rattle.ucon_model.specs.Readings.{is_accessing_state}
use Rattle.ucon_state.specs.Shown.{right_names}
use Rattle.ucon_state.specs.Views.{lists_of}
use Rattle.ucon_state.proofs.Stages.{sound_now}
use Rattle.ucon_state.proofs.state.State.counts.Goals as goal

pub overflow_cast-result : goal.overflow_cast-result
overflow_cast-result c =
    let P = checked_policy c.args.self.now.planned.checked in
    let R = right_names c.args.self.now in
    let t = lists_of c.args.self.now.tables in
    let now = sound_now P R c.args.self.now.changes.items t c.args.self.now.sound in
    let few : c.len.result ≤ 16384 = subst (λ n. n ≤ 16384) (sym c.len.ensures.len) now.subjects in
    omega (arith, few)

pub overflow_cast-result-2 : goal.overflow_cast-result-2
overflow_cast-result-2 c =
    let P = checked_policy c.args.self.now.planned.checked in
    let R = right_names c.args.self.now in
    let t = lists_of c.args.self.now.tables in
    let now = sound_now P R c.args.self.now.changes.items t c.args.self.now.sound in
    let few : c.len-2.result ≤ 16384 = subst (λ n. n ≤ 16384) (sym c.len-2.ensures.len) now.objects in
    omega (arith, few)

pub overflow_cast-result-3 : goal.overflow_cast-result-3
overflow_cast-result-3 c =
    let P = checked_policy c.args.self.now.planned.checked in
    let R = right_names c.args.self.now in
    let t = lists_of c.args.self.now.tables in
    let now = sound_now P R c.args.self.now.changes.items t c.args.self.now.sound in
    let few : c.len-3.result ≤ 1048576 = subst (λ n. n ≤ 1048576) (sym c.len-3.ensures.len) now.acts in
    omega (arith, few)

pub overflow_cast-result-4 : goal.overflow_cast-result-4
overflow_cast-result-4 c =
    let P = checked_policy c.args.self.now.planned.checked in
    let R = right_names c.args.self.now in
    let t = lists_of c.args.self.now.tables in
    let now = sound_now P R c.args.self.now.changes.items t c.args.self.now.sound in
    let few : c.len-4.result ≤ 1048576 = omega (arith, c.len-4.ensures, now.sessions) in
    omega (arith, few)

pub overflow_cast-result-5 : goal.overflow_cast-result-5
overflow_cast-result-5 c =
    let P = checked_policy c.args.self.now.planned.checked in
    let R = right_names c.args.self.now in
    let t = lists_of c.args.self.now.tables in
    let now = sound_now P R c.args.self.now.changes.items t c.args.self.now.sound in
    let few : c.args.self.now.tables.accessing ≤ 1048576 = omega (arith, c.args.self.now.tables.counted, count_by-le-length (λ s. is_accessing_state s.state) t.sessions, now.sessions) in
    omega (arith, few)
