use Rattle.std.proofs.Common.{◌≡◌, ◌+◌, List, [], ◌∷◌, length, Option, None, Result, Ok, Err, ap, subst, arith}
use Rattle.std.specs.Prelude.{IfSome, IfOk}
use Rattle.ucon_disk.specs.Seen.{DiskSeen}
use Rattle.ucon_journal.specs.declared.journal.Journal.{Journal}
use Rattle.ucon_journal.specs.Found.{counted, payloads_from}
use Rattle.ucon_journal.specs.Journal.{disk_of, gate_of, payload_of}
use Rattle.ucon_model.specs.declared.command.Entry.{Entry}
use Rattle.ucon_model.specs.Action.{Trace}
use Rattle.ucon_model.specs.Plain.{Bytes, PlainPolicy}
use Rattle.ucon_store.specs.declared.walking.LastPoint.{LastPoint}
use Rattle.ucon_store.specs.Walking.{IsWalked}
use Rattle.ucon_store.specs.declared.fault.StoreFault.{StoreFault}
use Rattle.ucon_store.specs.declared.loading.Loaded.{Loaded}
use Rattle.ucon_store.specs.Kept.{payload_in}
use Rattle.ucon_store.specs.Loading.{IsLoading, IsStanding}
use Rattle.ucon_store.specs.Points.{has_points}
use Rattle.ucon_store.specs.Starts.{IsBeforeAll}
use Rattle.ucon_store.proofs.Reading.{read_first}
use Rattle.ucon_store.proofs.starting.start.Goals as goal

-- behind record 0, where there is no checkpoint
loads_first : {E D : Type 0} (follows : E → PlainPolicy → Trace → Type 0) (seen : D → DiskSeen) (journal : Journal D) (text : Bytes)
    (r : Result (Loaded E) StoreFault)
    → IfSome (seen (disk_of journal)).contents (λ file. (counted file ≡ text ∷ payloads_from file (gate_of journal)) × IsWalked (has_points file) (counted file) None)
    → gate_of journal ≡ 13 + length text
    → IfOk r (λ l. l.policy.items ≡ text) → IfOk r (λ l. IsBeforeAll (payload_in l.point) l.before) → IfOk r (λ l. l.entries ≡ [])
    → IfOk r (λ l. l.records ≡ 1) → IfOk r (λ l. IsStanding follows l)
    → IfOk r (λ l. IsLoading follows seen l journal)
loads_first follows seen journal text (Err e) walked gate policy begins entries records standing = tt
loads_first follows seen journal text (Ok l) walked gate policy begins entries records standing =
    let none : length l.entries ≡ 0 = ap (λ (h : List Entry). length h) entries in record {
      standing = standing;
      entries = omega (arith, begins.1, none, records);
      few = omega (arith, gate, records);
      says = read_first (seen (disk_of journal)).contents text l.policy.items standing.P (payload_in l.point) l.before l.entries l.records (gate_of journal)
          walked gate policy begins entries records;
    }

pub returns-in-None-clause-loading : goal.returns-in-None-clause-loading
returns-in-None-clause-loading g c =
    let journal = c.args.journal.now in
    let text = payload_of journal in
    let r = c.start_first.result in
    let told = c.start_first.ensures in
    loads_first g.E.Engine.follows g.D.Disk.seen journal text r
    (subst (λ (last : Option LastPoint). IfSome (g.D.Disk.seen (disk_of journal)).contents
    (λ file. (counted file ≡ text ∷ payloads_from file (gate_of journal)) × IsWalked (has_points file) (counted file) last)) c.in-None.is c.requires.walked)
    c.requires.gate (subst (λ (t : Bytes). IfOk r (λ l. l.policy.items ≡ t)) c.payload.ensures told.policy)
    told.begins told.entries told.records told.standing
