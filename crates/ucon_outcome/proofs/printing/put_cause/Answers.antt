use Rattle.ucon_outcome.proofs.printing.put_cause.Goals as goal

pub returns-in-SourceFault : goal.returns-in-SourceFault
returns-in-SourceFault g c = rw c.in-SourceFault.is c.put-in-SourceFault.ensures

pub returns-in-OtherPolicy : goal.returns-in-OtherPolicy
returns-in-OtherPolicy g c = rw c.in-OtherPolicy.is c.put_at.ensures

pub returns-in-TooLong : goal.returns-in-TooLong
returns-in-TooLong g c = rw c.in-TooLong.is c.put-in-TooLong.ensures

pub returns-in-FullPoint : goal.returns-in-FullPoint
returns-in-FullPoint g c = rw c.in-FullPoint.is c.put_at-in-FullPoint.ensures
