use Rattle.std.proofs.Common.{◌∙◌, length, Some, ap, subst, sym}
use Rattle.ucon_disk.specs.Image.{State, IsImage, looked}
use Rattle.ucon_disk.proofs.Kept.{kept, look_same, look_images, time_kept}
use Rattle.ucon_disk.proofs.memory.MemDiskDisk.len.Goals as goal

pub invariant_of-self : goal.invariant_of-self
invariant_of-self c =
    let made = kept c.note-kept.result c.args.self.now.log c.note-kept.new.self (looked) c.note-kept.ensures.ok c.note-kept.ensures.err in
    let P : State → Type 0 = λ s. IsImage s s.file in
    record { sound = subst P (sym (look_same c.args.self.now.log c.note-kept.new.self made)) c.args.self.now.sound }

pub returns-in_err-end-clause-contents : goal.returns-in_err-end-clause-contents
returns-in_err-end-clause-contents c =
    let made = kept c.note-kept.result c.args.self.now.log c.note-kept.new.self (looked) c.note-kept.ensures.ok c.note-kept.ensures.err in
    ap (λ (s : State). Some s.file) (look_same c.args.self.now.log c.note-kept.new.self made)

pub returns-in_err-end-clause-images : goal.returns-in_err-end-clause-images
returns-in_err-end-clause-images c =
    let made = kept c.note-kept.result c.args.self.now.log c.note-kept.new.self (looked) c.note-kept.ensures.ok c.note-kept.ensures.err in
    look_images c.args.self.now.log c.note-kept.new.self made

pub returns-in_err-end-clause-time : goal.returns-in_err-end-clause-time
returns-in_err-end-clause-time c =
    let made = kept c.note-kept.result c.args.self.now.log c.note-kept.new.self (looked) c.note-kept.ensures.ok c.note-kept.ensures.err in
    time_kept c.args.self.now.log c.note-kept.new.self looked made

pub returns-clause-contents : goal.returns-clause-contents
returns-clause-contents c =
    let made = kept c.note-kept.result c.args.self.now.log c.note-kept.new.self (looked) c.note-kept.ensures.ok c.note-kept.ensures.err in
    ap (λ (s : State). Some s.file) (look_same c.args.self.now.log c.note-kept.new.self made)

pub returns-clause-images : goal.returns-clause-images
returns-clause-images c =
    let made = kept c.note-kept.result c.args.self.now.log c.note-kept.new.self (looked) c.note-kept.ensures.ok c.note-kept.ensures.err in
    look_images c.args.self.now.log c.note-kept.new.self made

pub returns-clause-time : goal.returns-clause-time
returns-clause-time c =
    let made = kept c.note-kept.result c.args.self.now.log c.note-kept.new.self (looked) c.note-kept.ensures.ok c.note-kept.ensures.err in
    time_kept c.args.self.now.log c.note-kept.new.self looked made

pub returns-clause-length : goal.returns-clause-length
returns-clause-length c =
    let made = kept c.note-kept.result c.args.self.now.log c.note-kept.new.self (looked) c.note-kept.ensures.ok c.note-kept.ensures.err in
    ap length c.bytes.ensures.file ∙ ap (λ (s : State). length s.file) (look_same c.args.self.now.log c.note-kept.new.self made)
