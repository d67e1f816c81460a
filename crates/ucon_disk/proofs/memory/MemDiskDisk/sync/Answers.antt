use Rattle.std.proofs.lemmas.Result.{on_ok_weaker}
use Rattle.ucon_disk.specs.Image.{synced_all}
use Rattle.ucon_disk.proofs.Kept.{kept, done_if_ok, time_kept, sync_sound, sync_images, sync_contents, sync_only}
use Rattle.ucon_disk.proofs.memory.MemDiskDisk.sync.Goals as goal

pub invariant_of-self : goal.invariant_of-self
invariant_of-self c =
    let made = kept c.note-kept.result c.args.self.now.log c.note-kept.new.self (synced_all c.begin-done.result) c.note-kept.ensures.ok c.note-kept.ensures.err in
    record { sound = sync_sound c.args.self.now.log c.note-kept.new.self c.begin-done.result made c.args.self.now.sound }

pub returns-clause-only : goal.returns-clause-only
returns-clause-only c =
    let ok = done_if_ok c.begin-done.result c.note-kept.result c.end.result _ c.end.ensures.outcome c.note-kept.ensures.ok in
    on_ok_weaker c.end.result (λ done. sync_only c.args.self.now.log c.note-kept.new.self c.begin-done.result done.0 done.1) ok

pub returns-clause-contents : goal.returns-clause-contents
returns-clause-contents c =
    let ok = done_if_ok c.begin-done.result c.note-kept.result c.end.result _ c.end.ensures.outcome c.note-kept.ensures.ok in
    on_ok_weaker c.end.result (λ done. sync_contents c.args.self.now.log c.note-kept.new.self c.begin-done.result done.0 done.1) ok

pub returns-clause-images : goal.returns-clause-images
returns-clause-images c =
    let made = kept c.note-kept.result c.args.self.now.log c.note-kept.new.self (synced_all c.begin-done.result) c.note-kept.ensures.ok c.note-kept.ensures.err in
    sync_images c.args.self.now.log c.note-kept.new.self c.begin-done.result made c.args.self.now.sound

pub returns-clause-time : goal.returns-clause-time
returns-clause-time c =
    let made = kept c.note-kept.result c.args.self.now.log c.note-kept.new.self (synced_all c.begin-done.result) c.note-kept.ensures.ok c.note-kept.ensures.err in
    time_kept c.args.self.now.log c.note-kept.new.self (synced_all c.begin-done.result) made
