use Rattle.std.proofs.Common.{◌≡◌, ◌+◌, ◌++◌, ℕ, Ok, Err, refl, sym, subst, ◌∙◌, length, length-append, arith, rules}
use Rattle.std.specs.Prelude.{List, Result}
use Rattle.ucon_model.specs.History.{History}
use Rattle.ucon_tell.specs.Heard.{Hears}
use Rattle.ucon_tell.specs.Talk.{HasTalked}
use Rattle.ucon_tell.specs.declared.talk_fault.TalkFault.{TalkFault}
use Rattle.ucon_converse.specs.Greeting.{HasGreeted}
use Rattle.ucon_converse.specs.Keeping.{GivesReplies, Keeps, Refuses, kept_seen, moment_of}
use Rattle.ucon_converse.specs.KeeperLaws.{keeps_same}
use Rattle.ucon_converse.proofs.Conversing.{conversed, not_greeted, nothing_heard}
use Rattle.ucon_converse.proofs.Overall.{answered_at, not_greeted_at}
use Rattle.ucon_converse.proofs.holding.hold.Goals as goal

pub returns-clause-conversed : goal.returns-clause-conversed
returns-clause-conversed g c = λ P G places accepts front unmarked.
    let seen = g.D.Disk.seen in
    let first = c.args.keeper.now in
    let last = c.talk.new.keeper in
    let H : History = G ++ first.store.entries in
    let laws = c.runs_over_a_store_are_legal.ensures in
    let count : first.store.before + length first.store.entries ≡ length H = omega (arith, front.count, length-append G first.store.entries) in
    let hears : List ℕ → Type 0 = λ lines. Hears c.talk.result c.args.lines.now.held c.talk.new.lines.held (g.S.Source.seen c.args.input.now).left (g.S.Source.seen c.talk.new.input).left lines in
    conversed seen g.met.D.Disk.only_now g.met.D.Disk.as_read g.met.D.Disk.counts_now g.met.D.Disk.since_earlier P G places first last c.talk.ensures.stays
    (g.V.Voice.seen c.args.out.now) (g.V.Voice.seen c.greet.new.out) (g.V.Voice.seen c.talk.new.out) (first.store.before + length first.store.entries) count accepts front unmarked
    (λ told K failed. laws.legal P H told K failed) (λ told K failed. laws.made P H told K failed) (λ told K failed. laws.failed P H told K failed) hears
    c.talk.result c.in_ok-greet.ensures.greeted
    (subst (λ (n : ℕ). HasTalked (kept_seen seen) (Keeps seen) (GivesReplies seen) Refuses n c.talk.result first last (g.V.Voice.seen c.greet.new.out) (g.V.Voice.seen c.talk.new.out) hears)
    c.requires c.talk.ensures.talked)

pub returns-clause-answered : goal.returns-clause-answered
returns-clause-answered g c = λ P T accepts starts.
    let seen = g.D.Disk.seen in
    let hears : List ℕ → Type 0 = λ lines. Hears c.talk.result c.args.lines.now.held c.talk.new.lines.held (g.S.Source.seen c.args.input.now).left (g.S.Source.seen c.talk.new.input).left lines in
    answered_at seen g.met.D.Disk.only_now g.met.D.Disk.as_read g.met.D.Disk.counts_now g.met.D.Disk.since_earlier P T c.args.keeper.now c.talk.new.keeper
    (g.V.Voice.seen c.args.out.now) (g.V.Voice.seen c.greet.new.out) (g.V.Voice.seen c.talk.new.out) hears c.talk.result accepts starts c.in_ok-greet.ensures.greeted
    (subst (λ (n : ℕ). HasTalked (kept_seen seen) (Keeps seen) (GivesReplies seen) Refuses n c.talk.result c.args.keeper.now c.talk.new.keeper (g.V.Voice.seen c.greet.new.out) (g.V.Voice.seen c.talk.new.out) hears)
    c.requires c.talk.ensures.talked)

pub returns-clause-keeps : goal.returns-clause-keeps
returns-clause-keeps g c = c.talk.ensures.stays

pub returns-in_err-greet-clause-conversed : goal.returns-in_err-greet-clause-conversed
returns-in_err-greet-clause-conversed g c = λ P G places accepts front unmarked.
    let seen = g.D.Disk.seen in
    let first = c.args.keeper.now in
    let H : History = G ++ first.store.entries in
    let laws = c.runs_over_a_store_are_legal.ensures in
    let count : first.store.before + length first.store.entries ≡ length H = omega (arith, front.count, length-append G first.store.entries) in
    let r = c.from_residual.result in
    let is : r ≡ Err c.in_err-greet.field-0.0 = search rules in
    let bad : r ≡ Ok tt → ⊥ = λ ok. let no : Err c.in_err-greet.field-0.0 ≡ Ok tt = sym is ∙ ok in cc no in
    let old = g.V.Voice.seen c.args.out.now in
    let new = g.V.Voice.seen c.greet.new.out in
    let steps = first.store.before + length first.store.entries in
    let greeted : HasGreeted r steps (moment_of (seen first.store.disk)) old new =
    subst (λ (s : Result (Unit {0}) TalkFault). HasGreeted s steps (moment_of (seen first.store.disk)) old new) (sym is) c.in_err-greet.ensures.greeted in
    let held = c.args.lines.now.held in
    let left = (g.S.Source.seen c.args.input.now).left in
    let hears : List ℕ → Type 0 = λ lines. Hears r held held left left lines in
    not_greeted seen g.met.D.Disk.only_now g.met.D.Disk.as_read g.met.D.Disk.counts_now g.met.D.Disk.since_earlier P G places first first
    (keeps_same seen g.met.D.Disk.only_now first)
    old old new steps count accepts front unmarked
    (λ told K failed. laws.legal P H told K failed) (λ told K failed. laws.made P H told K failed) (λ told K failed. laws.failed P H told K failed) hears
    r refl (nothing_heard r steps (moment_of (seen first.store.disk)) old new greeted bad held left) greeted bad

pub returns-in_err-greet-clause-answered : goal.returns-in_err-greet-clause-answered
returns-in_err-greet-clause-answered g c = λ P T accepts starts.
    let seen = g.D.Disk.seen in
    let first = c.args.keeper.now in
    let r = c.from_residual.result in
    let is : r ≡ Err c.in_err-greet.field-0.0 = search rules in
    let bad : r ≡ Ok tt → ⊥ = λ ok. let no : Err c.in_err-greet.field-0.0 ≡ Ok tt = sym is ∙ ok in cc no in
    let old = g.V.Voice.seen c.args.out.now in
    let new = g.V.Voice.seen c.greet.new.out in
    let steps = first.store.before + length first.store.entries in
    let greeted : HasGreeted r steps (moment_of (seen first.store.disk)) old new =
    subst (λ (s : Result (Unit {0}) TalkFault). HasGreeted s steps (moment_of (seen first.store.disk)) old new) (sym is) c.in_err-greet.ensures.greeted in
    let held = c.args.lines.now.held in
    let left = (g.S.Source.seen c.args.input.now).left in
    let hears : List ℕ → Type 0 = λ lines. Hears r held held left left lines in
    not_greeted_at seen g.met.D.Disk.only_now g.met.D.Disk.as_read g.met.D.Disk.counts_now g.met.D.Disk.since_earlier P T first first old old new hears
    r refl (nothing_heard r steps (moment_of (seen first.store.disk)) old new greeted bad held left) greeted bad

pub returns-in_err-greet-clause-keeps : goal.returns-in_err-greet-clause-keeps
returns-in_err-greet-clause-keeps g c = keeps_same g.D.Disk.seen g.met.D.Disk.only_now c.args.keeper.now
