use Rattle.std.proofs.lemmas.Result.{on_ok_weaker}
use Rattle.ucon_disk.specs.Image.{wrote}
use Rattle.ucon_disk.proofs.Kept.{kept, done_if_ok, time_kept, write_sound, write_now, write_images, write_all}
use Rattle.ucon_disk.proofs.memory.MemDiskDisk.write_at.Goals as goal

pub invariant_of-self : goal.invariant_of-self
invariant_of-self c =
    let made = kept c.write-kept.result c.args.self.now.log c.write-kept.new.self (wrote c.args.at c.args.bytes.now c.begin-done.result) c.write-kept.ensures.ok c.write-kept.ensures.err in
    record { sound = write_sound c.args.self.now.log c.write-kept.new.self c.args.at c.args.bytes.now c.begin-done.result made c.args.self.now.sound c.requires.0 }

pub returns-clause-written : goal.returns-clause-written
returns-clause-written c =
    let ok = done_if_ok c.begin-done.result c.write-kept.result c.end.result _ c.end.ensures.outcome c.write-kept.ensures.ok in
    on_ok_weaker c.end.result (λ done. write_now c.args.self.now.log c.write-kept.new.self c.args.at c.args.bytes.now c.begin-done.result done.0 done.1) ok

pub returns-clause-images : goal.returns-clause-images
returns-clause-images c =
    let made = kept c.write-kept.result c.args.self.now.log c.write-kept.new.self (wrote c.args.at c.args.bytes.now c.begin-done.result) c.write-kept.ensures.ok c.write-kept.ensures.err in
    write_images c.args.self.now.log c.write-kept.new.self c.args.at c.args.bytes.now c.begin-done.result made c.args.self.now.sound c.requires.0

pub returns-clause-all_images : goal.returns-clause-all_images
returns-clause-all_images c =
    let ok = done_if_ok c.begin-done.result c.write-kept.result c.end.result _ c.end.ensures.outcome c.write-kept.ensures.ok in
    on_ok_weaker c.end.result (λ done. write_all c.args.self.now.log c.write-kept.new.self c.args.at c.args.bytes.now c.begin-done.result done.1) ok

pub returns-clause-time : goal.returns-clause-time
returns-clause-time c =
    let made = kept c.write-kept.result c.args.self.now.log c.write-kept.new.self (wrote c.args.at c.args.bytes.now c.begin-done.result) c.write-kept.ensures.ok c.write-kept.ensures.err in
    time_kept c.args.self.now.log c.write-kept.new.self (wrote c.args.at c.args.bytes.now c.begin-done.result) made
