use Rattle.std.proofs.Common.{◌+◌, ◌-◌, ◌≡◌, min, length, arith}
use Rattle.ucon_flow.proofs.Pieces.{given_and_rest, at_end}
use Rattle.ucon_flow.proofs.memory.MemSourceSource.read.Goals as goal

pub returns-clause-bytes : goal.returns-clause-bytes
returns-clause-bytes c =
    let s = c.self.inside in
    let n = c.min-n.result in
    let least : n ≡ min (min s.piece (length c.args.buf.now)) (length s.bytes.items - s.at) = omega arith in
    rw (← c.self.view_is) (
      given_and_rest s.bytes.items c.args.buf.now c.copy_from_slice.new.self s.at (s.at + n - s.at) n (omega arith) (omega arith) (rw c.deref.ensures.value at c.copy_from_slice.ensures.after),
      at_end s.bytes.items c.args.buf.now c.copy_from_slice.new.self s.at n s.piece c.self.invariant.1 c.copy_from_slice.ensures.len least,
    )
