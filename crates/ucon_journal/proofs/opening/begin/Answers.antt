use Rattle.std.proofs.Common.{◌≡◌, ℕ, List, ◌≤◌, [], length, inr, Some, ◌∙◌, ap, subst, arith}
use Rattle.std.specs.Prelude.{Option}
use Rattle.std.specs.Option.{option_map}
use Rattle.ucon_disk.specs.Disk.{Only, Torn, overwritten}
use Rattle.ucon_disk.specs.Run.{LeavesOnly, joined, weaker}
use Rattle.ucon_journal.specs.Opened.{Untouched}
use Rattle.ucon_journal.specs.JournalBytes.{newest, journal_bytes}
use Rattle.ucon_journal.proofs.Beginning.{IsOldOr, none_new, untried}
use Rattle.ucon_journal.proofs.Told.{told_at, if_told, Begun, begun}
use Rattle.ucon_journal.proofs.opening.begin.Given.{Over}
use Rattle.ucon_journal.proofs.opening.begin.Goals.{After-sync, After-len, After-write_synced, In_ok-write_synced}
use Rattle.ucon_journal.proofs.opening.begin.Goals as goal

-- ---- what a crash may leave

module _ (g : Over) (c : After-sync g) where
  synced : (file : List ℕ) → LeavesOnly (g.D.Disk.seen c.args.disk.now) (g.D.Disk.seen c.sync.new.self) (IsOldOr g.D.Disk.seen Untouched c.args.disk.now file)
  synced file =
      none_new g.D.Disk.seen Untouched c.args.disk.now c.args.disk.now c.sync.new.self file
      (untried g.D.Disk.seen Untouched g.met.D.Disk.only_now c.args.disk.now file) c.sync.ensures.time c.sync.ensures.images

module _ (g : Over) (c : After-len g) where
  measured : (file : List ℕ) → LeavesOnly (g.D.Disk.seen c.args.disk.now) (g.D.Disk.seen c.len.new.self) (IsOldOr g.D.Disk.seen Untouched c.args.disk.now file)
  measured file =
      let at = g.D.Disk.seen in
      none_new at Untouched c.args.disk.now c.sync.new.self c.len.new.self file
      (none_new at Untouched c.args.disk.now c.args.disk.now c.sync.new.self file
      (untried at Untouched g.met.D.Disk.only_now c.args.disk.now file) c.sync.ensures.time c.sync.ensures.images)
      c.len.ensures.time (λ x now. c.sync.ensures.images x (c.len.ensures.images.no_more x now))

module _ (g : Over) (c : After-write_synced g) where
  made_over : (file : List ℕ) → (g.D.Disk.seen c.args.disk.now).contents ≡ Some file
      → LeavesOnly (g.D.Disk.seen c.args.disk.now) (g.D.Disk.seen c.write_synced.new.disk) (IsOldOr g.D.Disk.seen Untouched c.args.disk.now file)
  made_over file told =
      let at = g.D.Disk.seen in
      let old = c.args.disk.now in
      let P = IsOldOr at Untouched old file in
      let before =
      none_new at Untouched old c.sync.new.self c.len.new.self file
      (none_new at Untouched old old c.sync.new.self file
      (untried at Untouched g.met.D.Disk.only_now old file) c.sync.ensures.time c.sync.ensures.images)
      c.len.ensures.time (λ x now. c.sync.ensures.images x (c.len.ensures.images.no_more x now)) in
      let is_synced : (at c.sync.new.self).contents ≡ Some file = c.in_ok-sync.ensures.contents ∙ told in
      let is_measured : (at c.len.new.self).contents ≡ Some file = c.len.ensures.contents ∙ is_synced in
      let rests : Only (Some file) (at c.sync.new.self).images = subst (λ (o : Option (List ℕ)). Only o (at c.sync.new.self).images) told c.in_ok-sync.ensures.only in
      let size = told_at (λ (l : List ℕ). c.in_ok-len.len ≡ length l) file is_synced c.in_ok-len.ensures.length in
      let making = weaker (at c.len.new.self) (at c.write_synced.new.disk) (Torn 0 9 file) P
      (λ x torn. inr (inr (omega (arith, size), omega (arith, torn.no_longer, size))))
      (c.write_synced.ensures.images.each file (record { told = is_measured; only = λ x now. rests x (c.len.ensures.images.no_more x now) })) in
      joined (at old) (at c.len.new.self) (at c.write_synced.new.disk) P before making

pub returns-in_err-sync-clause-since : goal.returns-in_err-sync-clause-since
returns-in_err-sync-clause-since g c = record { each = λ file told. synced g (goal.at.returns-in_err-sync-clause-since g c).After-sync file }

pub returns-in_err-len-clause-since : goal.returns-in_err-len-clause-since
returns-in_err-len-clause-since g c = record { each = λ file told. measured g (goal.at.returns-in_err-len-clause-since g c).After-len file }

pub returns-in_err-write_synced-clause-since : goal.returns-in_err-write_synced-clause-since
returns-in_err-write_synced-clause-since g c =
    record { each = λ file told. made_over g (goal.at.returns-in_err-write_synced-clause-since g c).After-write_synced file told }

pub returns-then-len-clause-since : goal.returns-then-len-clause-since
returns-then-len-clause-since g c =
    record { each = λ file told. made_over g (goal.at.returns-then-len-clause-since g c).After-write_synced file told }

-- ---- a new journal was written over at most 9 bytes

module _ (g : Over) (c : In_ok-write_synced g) where
  made : Begun (g.D.Disk.seen c.args.disk.now).contents (g.D.Disk.seen c.write_synced.new.disk).contents
  made =
      begun (g.D.Disk.seen c.args.disk.now).contents (g.D.Disk.seen c.write_synced.new.disk).contents
      (if_told (g.D.Disk.seen c.args.disk.now).contents (λ file. length file ≤ 9) (λ file told.
      let size = told_at (λ (l : List ℕ). c.in_ok-len.len ≡ length l) file (c.in_ok-sync.ensures.contents ∙ told) c.in_ok-len.ensures.length in
      omega (arith, size, c.if-len.true)))
      (c.in_ok-write_synced.ensures.written ∙ ap (option_map (overwritten 0 (journal_bytes newest []))) (c.len.ensures.contents ∙ c.in_ok-sync.ensures.contents))

pub returns-then-len-clause-version : goal.returns-then-len-clause-version
returns-then-len-clause-version g c = (made g c).version

pub returns-then-len-clause-bytes : goal.returns-then-len-clause-bytes
returns-then-len-clause-bytes g c = (made g c).bytes

pub returns-then-len-clause-is_journal : goal.returns-then-len-clause-is_journal
returns-then-len-clause-is_journal g c = (made g c).journal
