use Rattle.ucon_client.proofs.Stepping.{faults_are_marked}
use Rattle.ucon_client.proofs.laws.faults_are_marked.Goals as goal

pub returns : goal.returns
returns c = faults_are_marked
