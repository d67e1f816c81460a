use Rattle.ucon_outcome.proofs.printing.put_script_fault.Goals as goal

pub returns-in-BadHeading : goal.returns-in-BadHeading
returns-in-BadHeading g c = rw c.in-BadHeading.is c.put_at.ensures

pub returns-in-TooManyClients : goal.returns-in-TooManyClients
returns-in-TooManyClients g c = rw c.in-TooManyClients.is c.put_at-in-TooManyClients.ensures

pub returns-in-TooManyLines : goal.returns-in-TooManyLines
returns-in-TooManyLines g c = rw c.in-TooManyLines.is c.put_at-in-TooManyLines.ensures
