use Rattle.std.proofs.Common.{rules, ◌≡◌, length}
use Rattle.std.specs.Prelude.{vec_len}
use Rattle.serde_json.specs.Written.{compact_text}
use Rattle.ucon_audit.specs.Report.{tree_of}
use Rattle.ucon_state.specs.Held.{held_after}
use Rattle.ucon_converse.proofs.Tellings.{one_off}
use Rattle.ucon_converse.proofs.reading_texts.state_text.Goals as goal

pub returns : goal.returns
returns c = λ P T follows.
    let line = c.in_ok-line.line in
    let counted : vec_len line ≡ length line.items = search rules in
    one_off (compact_text (tree_of c.args.entries (held_after P T))) 10 line.items c.pop-newline.new.self.items (vec_len line) counted
    (c.in_ok-line.ensures.after_trace P T follows) c.pop-newline.ensures.rest
