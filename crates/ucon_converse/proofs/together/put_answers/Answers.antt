use Rattle.std.proofs.Common.{◌≡◌, ◌-◌, List, ℕ, length, take, drop, arith, sym, ap, subst, ◌∙◌}
use Rattle.std.proofs.lemmas.List.{length-drop, take_all}
use Rattle.ucon_model.specs.declared.command.Entry.{Entry}
use Rattle.ucon_store.specs.declared.batch.BatchEnd.{BatchEnd}
use Rattle.ucon_store.specs.declared.placed.Placed.{Placed}
use Rattle.ucon_converse.specs.Together.{ArePut, answered_so, broken_off, replied}
use Rattle.ucon_converse.proofs.Putting.{failed_count, more_put}
use Rattle.ucon_converse.proofs.together.put_answers.Goals as goal

pub returns-in_ok-put_broken_off-in-DiskFault-clause-text : goal.returns-in_ok-put_broken_off-in-DiskFault-clause-text
returns-in_ok-put_broken_off-in-DiskFault-clause-text c =
    let lines = c.args.lines.now in
    let b = c.args.told.now in
    let ps : List Placed = b.placed.items in
    let taken = take b.taken lines in
    let old = c.args.out.now.items in
    let mid = c.put_counted-in-DiskFault.new.out.items in
    let new = c.put_broken_off.new.out.items in
    let placed : c.deref-in-DiskFault.result.now ≡ ps = c.deref-in-DiskFault.ensures.value in
    let first : ArePut (replied lines ps) old mid = subst (λ (l : List Placed). ArePut (replied lines l) old mid) placed c.in_ok-count-in-DiskFault.ensures.text in
    let count : c.in_ok-count-in-DiskFault.count ≡ length ps = c.in_ok-count-in-DiskFault.ensures.len ∙ ap (λ (l : List Placed). length l) placed in
    let part : take (length taken - c.in_ok-count-in-DiskFault.count) (drop c.in_ok-count-in-DiskFault.count taken) ≡ drop (length ps) taken =
    take_all (length taken - c.in_ok-count-in-DiskFault.count) (drop c.in_ok-count-in-DiskFault.count taken)
    (let long = length-drop c.in_ok-count-in-DiskFault.count taken in omega arith) ∙ ap (λ (n : ℕ). drop n taken) count in
    let rest : ArePut (broken_off (drop (length ps) taken)) mid new =
    subst (λ (l : List Entry). ArePut (broken_off l) mid new) part c.in_ok-put_broken_off-in-DiskFault.ensures in
    subst (λ (end : BatchEnd). ArePut (answered_so end lines ps b.taken) old new) (sym c.in-DiskFault.is) (more_put (replied lines ps) (broken_off (drop (length ps) taken)) old mid new first rest)

pub returns-in_ok-put_broken_off-in-DiskFault-clause-count : goal.returns-in_ok-put_broken_off-in-DiskFault-clause-count
returns-in_ok-put_broken_off-in-DiskFault-clause-count c =
    let lines = c.args.lines.now in
    let b = c.args.told.now in
    subst (λ (end : BatchEnd). b.taken ≡ length (answered_so end lines b.placed.items b.taken)) (sym c.in-DiskFault.is)
    (sym (failed_count lines b.placed.items b.taken c.requires.within c.requires.taken))
