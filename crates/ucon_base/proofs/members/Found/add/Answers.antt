use Rattle.std.proofs.Common.{◌∷◌, [], take, map, ap, ◌∙◌, arith}
use Rattle.std.proofs.lemmas.List.{map-append, take_more_set, length-set}
use Rattle.std.specs.Option.{option_or}
use Rattle.ucon_base.specs.Reading.{Member}
use Rattle.ucon_base.proofs.SetsFound.{count_more, long_more, texts_more}
use Rattle.ucon_base.proofs.members.Found.add.Goals as goal
use Rattle.ucon_base.proofs.members.Found.add.Goals.{then-self-lt-MOST_TEXTS, else-self-lt-MOST_TEXTS}

pub returns-clause-holds : goal.returns-clause-holds
returns-clause-holds c = λ ms h.
    let m : Member = record { at = c.args.at; text = c.args.text.now } in
    let found = c.args.self.now in
    let long = c.or-self.ensures ∙ ap (λ o. option_or c.if-self-lt-MOST_TEXTS.self.long o) c.long_at.ensures in
    elim c.if-self-lt-MOST_TEXTS.branch [
      | then-self-lt-MOST_TEXTS w ↦
          rw w.self-is
          record {
            count = count_more found.count ms m h.count;
            long = long_more ms m found.long c.or-self.result h.long (rw w.self-is at long);
            room = length-set found.texts found.count c.args.text ∙ h.room;
            texts = λ few.
                ap (map (λ t. t.now)) (take_more_set found.texts found.count c.args.text (omega (arith, w.if-self-lt-MOST_TEXTS.true, h.room)))
                ∙ map-append (λ t. t.now) (take found.count found.texts) (c.args.text ∷ [])
                ∙ texts_more ms m _ (h.texts (omega (arith, w.if-self-lt-MOST_TEXTS.true, h.count)));
          }
      | else-self-lt-MOST_TEXTS w ↦
          rw w.self-is
          record {
            count = count_more found.count ms m h.count;
            long = long_more ms m found.long c.or-self.result h.long (rw w.self-is at long);
            room = h.room;
            texts = λ few. absurd (omega (arith, few, count_more found.count ms m h.count, w.if-self-lt-MOST_TEXTS.false));
          }
    ]
