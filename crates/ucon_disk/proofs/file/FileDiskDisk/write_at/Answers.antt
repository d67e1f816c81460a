use Rattle.std.proofs.Common.{length}
use Rattle.ucon_disk.proofs.Writes.{torn_same}
use Rattle.ucon_disk.proofs.file.FileDiskDisk.write_at.Goals as goal

pub returns-in_err-begin_call-clause-images : goal.returns-in_err-begin_call-clause-images
returns-in_err-begin_call-clause-images g c = λ image left. (image, tt, torn_same c.args.at (length c.args.bytes.now) image)

pub returns-clause-images : goal.returns-clause-images
returns-clause-images g c = λ image left. (image, tt, torn_same c.args.at (length c.args.bytes.now) image)
