use Rattle.std.proofs.Common.{rules, ◌≡◌, ◌+◌, ◌-◌, ◌++◌, length, take, drop, IfSome, ◌∙◌, ap, subst, arith, length-append, length-take}
use Rattle.ucon_disk.specs.Disk.{ReadsPart}
use Rattle.ucon_disk.proofs.Portions.{put_all, read_goes_on}
use Rattle.ucon_disk.proofs.parts.read_whole.Goals as goal

pub loop-done-preserved : goal.loop-done-preserved
loop-done-preserved g c =
    let done = c.loop-done.done in
    let buf = c.loop-done.buf in
    let part = c.read_part.new.buf in
    let n = c.in_ok-n.n in
    let o = g.F.Parts.contents c.args.file.now in
    let all : take done buf ++ (part ++ drop (length buf - done) (drop done buf)) ≡ take done buf ++ part = put_all done buf part (omega (arith, c.loop-done.invariant.within)) in
    let place : c.in_ok-place.place ≡ c.args.at + done = search rules in
    let read : IfSome o (λ file. ReadsPart file (c.args.at + done) n part) =
    subst (λ o. IfSome o (λ file. ReadsPart file (c.args.at + done) n part)) c.loop-done.invariant.same (subst (λ k. IfSome (g.F.Parts.contents c.loop-done.file) (λ file. ReadsPart file k n part)) place c.in_ok-n.ensures.bytes) in
    record {
      within = omega (arith, ap length all, length-append (take done buf) part, length-take done buf, c.loop-done.invariant.within, c.in_ok-n.ensures.bound);
      front = read_goes_on o c.args.at done n buf part _ c.loop-done.invariant.front read (omega (arith, c.loop-done.invariant.within)) all;
      same = c.in_ok-n.ensures.same ∙ c.loop-done.invariant.same;
    }
