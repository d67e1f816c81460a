use Rattle.std.proofs.Common.{refl, append_assoc}
use Rattle.std.proofs.lemmas.Fmt.{decimal_digit}
use Rattle.ucon_script.proofs.draws.put_entry.Goals as goal

pub returns : goal.returns
returns c =
    rw (
      decimal_digit c.args.entry.now.caller.0 c.requires,
      c.in_ok-push-3.ensures.items,
      c.in_ok-put_command.ensures.text,
      c.in_ok-push-2.ensures.items,
      c.in_ok-push.ensures.items,
      c.in_ok-extend_from_slice.ensures.items,
    ) (simp append_assoc refl)
