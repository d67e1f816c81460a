use Rattle.ucon_script.proofs.Judging.{fed, to_end, to_fault, to_limit, to_refusal}
use Rattle.ucon_script.proofs.laws.coming_documents_are_read_line_by_line.Goals as goal

pub returns : goal.returns
returns g c =
    let seen = g.S.Source.seen in
    record {
      fed = fed seen;
      whole = to_end seen;
      refused = λ policy a b c first mid at last told f more o client said s running r may. to_refusal seen policy a b c first mid at last told o client said s running f more r may;
      long = λ policy a b c first mid at last told o client said s running r. to_limit seen policy a b c first mid at last told o client said s running r;
      failed = λ policy a b c first mid at last told o client said s running r. to_fault seen policy a b c first mid at last told o client said s running r;
    }
