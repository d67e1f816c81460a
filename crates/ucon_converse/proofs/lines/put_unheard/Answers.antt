use Rattle.ucon_converse.proofs.lines.put_unheard.Goals as goal

pub returns-else-stopped : goal.returns-else-stopped
returns-else-stopped c = rw c.if-stopped.false c.put_unplaced-else-stopped.ensures.text
