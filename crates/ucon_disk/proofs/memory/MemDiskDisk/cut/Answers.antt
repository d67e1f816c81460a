use Rattle.std.proofs.lemmas.Result.{on_ok_weaker}
use Rattle.ucon_disk.specs.Image.{cut_to}
use Rattle.ucon_disk.proofs.Kept.{kept, done_if_ok, time_kept, cut_sound, cut_now, cut_images, cut_all}
use Rattle.ucon_disk.proofs.memory.MemDiskDisk.cut.Goals as goal

pub invariant_of-self : goal.invariant_of-self
invariant_of-self c =
    let made = kept c.cut-kept.result c.args.self.now.log c.cut-kept.new.self (cut_to c.args.len c.begin-done.result) c.cut-kept.ensures.ok c.cut-kept.ensures.err in
    record { sound = cut_sound c.args.self.now.log c.cut-kept.new.self c.args.len c.begin-done.result made c.args.self.now.sound c.requires }

pub returns-clause-cut : goal.returns-clause-cut
returns-clause-cut c =
    let ok = done_if_ok c.begin-done.result c.cut-kept.result c.end.result _ c.end.ensures.outcome c.cut-kept.ensures.ok in
    on_ok_weaker c.end.result (λ done. cut_now c.args.self.now.log c.cut-kept.new.self c.args.len c.begin-done.result done.0 done.1) ok

pub returns-clause-images : goal.returns-clause-images
returns-clause-images c =
    let made = kept c.cut-kept.result c.args.self.now.log c.cut-kept.new.self (cut_to c.args.len c.begin-done.result) c.cut-kept.ensures.ok c.cut-kept.ensures.err in
    cut_images c.args.self.now.log c.cut-kept.new.self c.args.len c.begin-done.result made c.args.self.now.sound

pub returns-clause-all_images : goal.returns-clause-all_images
returns-clause-all_images c =
    let ok = done_if_ok c.begin-done.result c.cut-kept.result c.end.result _ c.end.ensures.outcome c.cut-kept.ensures.ok in
    on_ok_weaker c.end.result (λ done. cut_all c.args.self.now.log c.cut-kept.new.self c.args.len c.begin-done.result done.1) ok

pub returns-clause-time : goal.returns-clause-time
returns-clause-time c =
    let made = kept c.cut-kept.result c.args.self.now.log c.cut-kept.new.self (cut_to c.args.len c.begin-done.result) c.cut-kept.ensures.ok c.cut-kept.ensures.err in
    time_kept c.args.self.now.log c.cut-kept.new.self (cut_to c.args.len c.begin-done.result) made
