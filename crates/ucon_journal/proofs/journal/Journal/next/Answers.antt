use Rattle.std.proofs.Common.{◌≡◌, ℕ, ◌+◌, inl, inr, Some, List, [], ◌∷◌, ◌++◌, length, take, drop, refl, sym, ◌∙◌, ap, arith}
use Rattle.ucon_journal.specs.Ahead.{bytes_at}
use Rattle.ucon_journal.specs.Found.{payload_at, payloads_from, StandsAt}
use Rattle.ucon_journal.proofs.Records.{payloads_after-none}
use Rattle.ucon_journal.proofs.Taking.{left_is, ends_at, length-payload, length_read, payloads_from-more, payload_is, stands_more}
use Rattle.ucon_journal.proofs.Told.{told_at, if_told}
use Rattle.ucon_journal.proofs.journal.Journal.next.Given.{Over}
use Rattle.ucon_journal.proofs.journal.Journal.next.Goals.{Then-bytes_at-size}
use Rattle.ucon_journal.proofs.journal.Journal.next.Goals as goal

pub returns-in_default-clause-ended : goal.returns-in_default-clause-ended
returns-in_default-clause-ended g c = λ _. record {
  phase = refl;
  told = if_told (g.D.Disk.seen c.bring.new.disk).contents _ (λ file now.
      let is = sym c.bring.ensures.contents ∙ now in
      let gate = c.args.self.now.gate in
      let version = c.args.self.now.version in
      let header = c.bytes_at-header.ensures ∙ told_at (λ (l : List ℕ). bytes_at c.bring.new.self gate 5 ≡ take 5 (drop gate l)) file is c.in_ok-bring.ensures.there in
      let left = left_is file gate c.args.self.now.len c.saturating_sub-left.result c.saturating_sub-left.ensures (told_at (λ (l : List ℕ). c.args.self.now.len ≡ length l) file is c.requires.len) in
      ends_at file version gate (told_at (λ (l : List ℕ). (ps : List (List ℕ)) × StandsAt l version gate ps) file is c.requires.told) (payloads_after-none (drop gate file) (c.in_default.ensures.counts (drop gate file) header left)));
}

pub returns-then-len-gt-MAX_PAYLOAD-clause-too_long : goal.returns-then-len-gt-MAX_PAYLOAD-clause-too_long
returns-then-len-gt-MAX_PAYLOAD-clause-too_long g c = λ place e.
    let same : place ≡ c.args.self.now.gate = cc in (
      same,
      if_told (g.D.Disk.seen c.args.self.now.disk).contents _ (λ file is.
          let gate = c.args.self.now.gate in
          let header = c.bytes_at-header.ensures ∙ told_at (λ (l : List ℕ). bytes_at c.bring.new.self gate 5 ≡ take 5 (drop gate l)) file is c.in_ok-bring.ensures.there in
          let left = left_is file gate c.args.self.now.len c.saturating_sub-left.result c.saturating_sub-left.ensures (told_at (λ (l : List ℕ). c.args.self.now.len ≡ length l) file is c.requires.len) in
          let whole = c.in-Some.ensures.counts (drop gate file) header left in
          (payload_at (drop gate file), payloads_from file (gate + (5 + c.in-Some.len)), ap (λ k. payloads_from file k) same ∙ payloads_from-more file gate c.in-Some.len whole.0 whole.1, omega (arith, length-payload file gate c.in-Some.len whole.0 whole.1))),
    )

pub returns-clause-reading : goal.returns-clause-reading
returns-clause-reading g c = record {
  phase = inl refl;
  told = if_told (g.D.Disk.seen c.bring-2.new.disk).contents _ (λ file now.
      let is = sym (c.bring-2.ensures.contents ∙ c.bring.ensures.contents) ∙ now in
      let gate = c.args.self.now.gate in
      let version = c.args.self.now.version in
      let header = c.bytes_at-header.ensures ∙ told_at (λ (l : List ℕ). bytes_at c.bring.new.self gate 5 ≡ take 5 (drop gate l)) file is c.in_ok-bring.ensures.there in
      let left = left_is file gate c.args.self.now.len c.saturating_sub-left.result c.saturating_sub-left.ensures (told_at (λ (l : List ℕ). c.args.self.now.len ≡ length l) file is c.requires.len) in
      let whole = c.in-Some.ensures.counts (drop gate file) header left in
      let stands = told_at (λ (l : List ℕ). (ps : List (List ℕ)) × StandsAt l version gate ps) file is c.requires.told in
      (stands.0 ++ payload_at (drop gate file) ∷ [], stands_more file gate c.in-Some.len whole.0 whole.1 version stands.0 stands.1));
  len = if_told (g.D.Disk.seen c.bring-2.new.disk).contents _ (λ file now.
      told_at (λ (l : List ℕ). c.args.self.now.len ≡ length l) file (sym (c.bring-2.ensures.contents ∙ c.bring.ensures.contents) ∙ now) c.requires.len);
  ahead = c.bring-2.ensures.part;
}

pub returns-clause-taken : goal.returns-clause-taken
returns-clause-taken g c = if_told (g.D.Disk.seen c.args.self.now.disk).contents _ (λ file is.
    let gate = c.args.self.now.gate in
    let len = c.in-Some.len in
    let header = c.bytes_at-header.ensures ∙ told_at (λ (l : List ℕ). bytes_at c.bring.new.self gate 5 ≡ take 5 (drop gate l)) file is c.in_ok-bring.ensures.there in
    let left = left_is file gate c.args.self.now.len c.saturating_sub-left.result c.saturating_sub-left.ensures (told_at (λ (l : List ℕ). c.args.self.now.len ≡ length l) file is c.requires.len) in
    let whole = c.in-Some.ensures.counts (drop gate file) header left in
    let there = told_at (λ (l : List ℕ). bytes_at c.bring-2.new.self (gate + 5) len ≡ take len (drop (gate + 5) l)) file (c.bring.ensures.contents ∙ is) c.in_ok-bring-2.ensures.there in
    let payload = payload_is file gate len whole.0 whole.1 ∙ sym there in
    payloads_from-more file gate len whole.0 whole.1 ∙ ap (λ (l : List ℕ). l ∷ payloads_from file (gate + (5 + len))) payload)

-- ---- not all bytes of the record were read, which can't be where the disk tells its content

module _ (g : Over) (c : Then-bytes_at-size g) where
  untold : (file : List ℕ) → (g.D.Disk.seen c.args.self.now.disk).contents ≡ Some file → ⊥
  untold file is =
      let gate = c.args.self.now.gate in
      let len = c.in-Some.len in
      let header = c.bytes_at-header.ensures ∙ told_at (λ (l : List ℕ). bytes_at c.bring.new.self gate 5 ≡ take 5 (drop gate l)) file is c.in_ok-bring.ensures.there in
      let left = left_is file gate c.args.self.now.len c.saturating_sub-left.result c.saturating_sub-left.ensures (told_at (λ (l : List ℕ). c.args.self.now.len ≡ length l) file is c.requires.len) in
      let whole = c.in-Some.ensures.counts (drop gate file) header left in
      let there = c.bytes_at.ensures ∙ told_at (λ (l : List ℕ). bytes_at c.bring-2.new.self (gate + 5) len ≡ take len (drop (gate + 5) l)) file (c.bring.ensures.contents ∙ is) c.in_ok-bring-2.ensures.there in
      omega (arith, length_read file gate len whole.0 whole.1 c.bytes_at.result.now there, c.if-bytes_at-size.true)

pub returns-then-bytes_at-size-clause-taken : goal.returns-then-bytes_at-size-clause-taken
returns-then-bytes_at-size-clause-taken g c =
    let short = (goal.at.returns-then-bytes_at-size-clause-taken g c).Then-bytes_at-size in
    if_told (g.D.Disk.seen c.args.self.now.disk).contents _ (λ file is. absurd (untold g short file is))

pub returns-then-bytes_at-size-clause-ended : goal.returns-then-bytes_at-size-clause-ended
returns-then-bytes_at-size-clause-ended g c =
    let short = (goal.at.returns-then-bytes_at-size-clause-ended g c).Then-bytes_at-size in
    λ _. record {
      phase = refl;
      told = if_told (g.D.Disk.seen c.bring-2.new.disk).contents _ (λ file now.
          absurd (untold g short file (sym (c.bring-2.ensures.contents ∙ c.bring.ensures.contents) ∙ now)));
    }

pub returns-then-bytes_at-size-clause-reading : goal.returns-then-bytes_at-size-clause-reading
returns-then-bytes_at-size-clause-reading g c =
    let short = (goal.at.returns-then-bytes_at-size-clause-reading g c).Then-bytes_at-size in
    let none : (file : List ℕ) → (g.D.Disk.seen c.bring-2.new.disk).contents ≡ Some file → ⊥ =
    λ file now. untold g short file (sym (c.bring-2.ensures.contents ∙ c.bring.ensures.contents) ∙ now) in
    record {
      phase = inr refl;
      told = if_told (g.D.Disk.seen c.bring-2.new.disk).contents _ (λ file now. absurd (none file now));
      len = if_told (g.D.Disk.seen c.bring-2.new.disk).contents _ (λ file now. absurd (none file now));
      ahead = c.bring-2.ensures.part;
    }
