use Rattle.ucon_disk.proofs.Cuts.{shortened_same}
use Rattle.ucon_disk.proofs.file.FileDiskDisk.cut.Goals as goal

pub returns-in_err-begin_call-clause-images : goal.returns-in_err-begin_call-clause-images
returns-in_err-begin_call-clause-images g c = λ image left. (image, tt, shortened_same c.args.len image)

pub returns-clause-images : goal.returns-clause-images
returns-clause-images g c = λ image left. (image, tt, shortened_same c.args.len image)
