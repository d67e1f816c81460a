use Rattle.ucon_model.specs.Views.{right_of, policy_of}
use Rattle.ucon_check.proofs.Counting.{read_tally}
use Rattle.ucon_check.proofs.counted.count_read.Goals as goal

pub returns : goal.returns
returns c =
    rw (c.attrs_read.ensures.count, c.envs_read.ensures.count, c.slice.ensures, c.slice-2.ensures)
    (read_tally (policy_of c.args.policy.now) (right_of c.args.right.now) c.requires.once c.requires.declared)
