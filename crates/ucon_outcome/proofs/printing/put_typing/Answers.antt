use Rattle.ucon_outcome.proofs.printing.put_typing.Goals as goal

pub returns-in-TooManyCells : goal.returns-in-TooManyCells
returns-in-TooManyCells g c = rw c.in-TooManyCells.is c.put_counted.ensures
