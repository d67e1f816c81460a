use Rattle.std.proofs.Common.{refl, sym, ap, [], length, unwrap_or}
use Rattle.std.proofs.lemmas.Option.{slice_get_read}
use Rattle.ucon_state.specs.Shown.{right_names}
use Rattle.ucon_state.proofs.state.State.right_name.Goals as goal

pub returns : goal.returns
returns c =
    let R = right_names c.args.self.now in
    sym (ap (λ o. unwrap_or o []) (slice_get_read R (length R) c.args.right c.index.result.now refl c.requires c.index.ensures))
