use Rattle.std.proofs.Common.{◌≡◌, ◌++◌, drop}
use Rattle.std.specs.Prelude.{IsTrue}
use Rattle.std.specs.List.{list_all}
use Rattle.ucon_base.specs.Spelling.{more_texts}
use Rattle.ucon_base.specs.TextBytes.{is_text}
use Rattle.ucon_base.proofs.writing.put_more_texts.Given as goal

-- the text so far and that of the rest are all, and where the rest are texts, all are
abbrev pub invariant-loop-t : goal.invariant-loop-t
invariant-loop-t l = record {
  text : l.out.items ++ more_texts (drop l.t-index l.texts) ≡ l.fn.out.items ++ more_texts l.fn.texts;
  in_form : IsTrue (list_all is_text (drop l.t-index l.texts)) → IsTrue (list_all is_text l.texts);
}
