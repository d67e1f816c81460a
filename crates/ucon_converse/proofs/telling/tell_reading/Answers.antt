use Rattle.std.proofs.Common.{rules, ◌≡◌, ◌++◌, true, false, refl, ◌∙◌}
use Rattle.std.specs.Prelude.{Some, is_some, codes, length}
use Rattle.ucon_model.specs.History.{History}
use Rattle.ucon_model.specs.Output.{Lacks}
use Rattle.ucon_model.specs.Plain.{Bytes, PlainPolicy}
use Rattle.ucon_store.specs.Whole.{IsFront}
use Rattle.ucon_syntax.specs.Policies.{accepted}
use Rattle.ucon_converse.specs.Readings.{line_told, reading_line, text_told}
use Rattle.ucon_converse.specs.Replies.{IsToldSo, refusal_line}
use Rattle.ucon_converse.proofs.OneLine.{all_lack, refusal_line_is}
use Rattle.ucon_converse.proofs.Tellings.{no_memory_told, reading_line_is, replied, stopped_told, told_so, unstopped, whole_count}
use Rattle.ucon_converse.proofs.telling.tell_reading.Goals as goal

pub reading_text-requires-clause-unmarked : goal.reading_text-requires-clause-unmarked
reading_text-requires-clause-unmarked g c =
    let unfailed : is_some c.args.store.now.mark ≡ false = search rules in
    unstopped c.args.store.now.mark unfailed

pub returns-then-is_stopped : goal.returns-then-is_stopped
returns-then-is_stopped g c =
    let s = c.args.store.now in
    let failed : is_some s.mark ≡ true = search rules in
    let So : Bytes → Type 0 = λ reply. (P : PlainPolicy) (G : History) → accepted s.policy ≡ Some P → IsFront P s G
    → IsToldSo s.mark (line_told P s.policy (G ++ s.entries) c.args.reading.now) reply in
    replied c.put_refusal.result c.args.out.now.items c.put_refusal.new.out.items (refusal_line (codes "stopped")) So
    (refusal_line_is (codes "stopped") (all_lack (codes "stopped") refl))
    (λ P G accepts front. stopped_told s.mark (line_told P s.policy (G ++ s.entries) c.args.reading.now) failed) c.put_refusal.ensures

pub returns-in-Ok : goal.returns-in-Ok
returns-in-Ok g c =
    let s = c.args.store.now in
    let unfailed : is_some s.mark ≡ false = search rules in
    let steps = c.place.result in
    let text = c.deref.result.now in
    let is_text : text ≡ c.in-Ok.text.items = c.deref.ensures.value in
    let lacks : Lacks 10 text = search rules in
    let So : Bytes → Type 0 = λ reply. (P : PlainPolicy) (G : History) → accepted s.policy ≡ Some P → IsFront P s G
    → IsToldSo s.mark (line_told P s.policy (G ++ s.entries) c.args.reading.now) reply in
    replied c.put_reading.result c.args.out.now.items c.put_reading.new.out.items (reading_line steps text) So (reading_line_is steps text lacks)
    (λ P G accepts front.
    let count : steps ≡ length (G ++ s.entries) = c.place.ensures.place ∙ whole_count P s G front in
    let told : text ≡ text_told P s.policy (G ++ s.entries) c.args.reading.now = is_text ∙ c.in-Ok.ensures.told P G accepts front in
    told_so s.mark (line_told P s.policy (G ++ s.entries) c.args.reading.now) (reading_line steps text) unfailed (λ i. reading_line (count i) (told i)))
    c.put_reading.ensures

pub returns-in-Err : goal.returns-in-Err
returns-in-Err g c =
    let s = c.args.store.now in
    let unfailed : is_some s.mark ≡ false = search rules in
    let So : Bytes → Type 0 = λ reply. (P : PlainPolicy) (G : History) → accepted s.policy ≡ Some P → IsFront P s G
    → IsToldSo s.mark (line_told P s.policy (G ++ s.entries) c.args.reading.now) reply in
    replied c.put_refusal-in-Err.result c.args.out.now.items c.put_refusal-in-Err.new.out.items (refusal_line (codes "no memory")) So
    (refusal_line_is (codes "no memory") (all_lack (codes "no memory") refl))
    (λ P G accepts front. no_memory_told s.mark (line_told P s.policy (G ++ s.entries) c.args.reading.now) unfailed) c.put_refusal-in-Err.ensures
