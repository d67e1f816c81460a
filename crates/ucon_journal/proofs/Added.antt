-- Payloads that are added together behind a closed gate.
use Rattle.std.proofs.Common.{◌≡◌, ◌≢◌, ◌⊎◌, inl, inr, ℕ, ◌+◌, ◌<◌, ◌≤◌, List, [], ◌∷◌, ◌++◌, length, get_or, take, drop, sym, ◌∙◌, ap, arith, append_assoc, length-append, length-take, length-drop, take-append-drop}
use Rattle.std.proofs.lemmas.Bool.{cases_eq}
use Rattle.std.proofs.lemmas.List.{take-take, take_at, take_all, drop_at, drop_all, drop_more, get_or-take, get_or-drop, append-nil}
use Rattle.ucon_disk.specs.Disk.{overwritten, Torn}
use Rattle.ucon_journal.specs.JournalBytes.{magic, records, batch_bytes, AreShort}
use Rattle.ucon_journal.specs.Found.{payloads_after, counted, StandsAt}
use Rattle.ucon_journal.specs.Opened.{StillHolds}
use Rattle.ucon_journal.proofs.Records.{records-append, counts-closed, counts-shut, reads_records}
use Rattle.ucon_journal.proofs.Batches.{open_batch, batch_read}
use Rattle.ucon_journal.proofs.Files.{take-gate, gate_within, counted-stands, holds_like, holds_alone}

module _ (file : List ℕ) (version gate : ℕ) (ps : List (List ℕ)) (stands : StandsAt file version gate ps) (shut : drop gate file ≡ 0 ∷ []) where
  size : length file ≡ gate + 1
  size = omega (arith, ap length shut, length-drop gate file, gate_within file version gate ps stands)

  closed_file : file ≡ take gate file ++ 0 ∷ []
  closed_file = sym (take-append-drop gate file) ∙ ap (λ (l : List ℕ). take gate file ++ l) shut

  front-size : length (take gate file) ≡ gate
  front-size = omega (arith, length-take gate file, size)

  -- a torn write behind the closed gate leaves what is found
  pub stage_same : (n : ℕ) (c : List ℕ) → Torn (gate + 1) n file c → StillHolds file ps c
  stage_same n c torn =
      let same : take gate c ≡ take gate file = sym (take-take gate (gate + 1) c (omega arith)) ∙ ap (λ (l : List ℕ). take gate l) torn.before ∙ take-take gate (gate + 1) file (omega arith) in
      let long : gate < length c = omega (arith, torn.no_shorter, size) in
      let zeroth : gate + 0 ≡ gate = omega arith in
      let byte : get_or c gate 0 ≡ 0 =
      sym (get_or-take (gate + 1) c gate 0 (omega arith)) ∙ ap (λ (l : List ℕ). get_or l gate 0) torn.before ∙ get_or-take (gate + 1) file gate 0 (omega arith)
      ∙ ap (λ k. get_or file k 0) (sym zeroth) ∙ sym (get_or-drop gate file 0 0) ∙ ap (λ (l : List ℕ). get_or l 0 0) shut in
      let tail : drop gate c ≡ 0 ∷ drop (gate + 1) c = drop_more c gate 0 long ∙ ap (λ b. b ∷ drop (gate + 1) c) byte in
      holds_alone file version gate ps stands c same long (ap (λ (l : List ℕ). payloads_after 0 l) tail ∙ counts-closed (drop (gate + 1) c))

  module _ (qs : List (List ℕ)) (short : AreShort qs) (some : qs ≢ []) where
    pub staged_file : overwritten (gate + 1) (batch_bytes qs) file ≡ take gate file ++ 0 ∷ batch_bytes qs
    staged_file =
        ap (λ (l : List ℕ). l ++ batch_bytes qs ++ drop (gate + 1 + length (batch_bytes qs)) file) (take_all (gate + 1) file (omega (arith, size)) ∙ closed_file)
        ∙ ap (λ (l : List ℕ). take gate file ++ (0 ∷ []) ++ batch_bytes qs ++ l) (drop_all (gate + 1 + length (batch_bytes qs)) file (omega (arith, size)))
        ∙ append-nil (take gate file ++ (0 ∷ []) ++ batch_bytes qs)
        ∙ append_assoc (take gate file) (0 ∷ []) (batch_bytes qs)

    behind : (b : ℕ) → drop (gate + 1) (take gate file ++ b ∷ batch_bytes qs) ≡ batch_bytes qs
    behind b = ap (λ (l : List ℕ). drop (gate + 1) l) (sym (append_assoc (take gate file) (b ∷ []) (batch_bytes qs))) ∙ drop_at (take gate file ++ b ∷ []) (batch_bytes qs) (gate + 1) (omega (arith, length-append (take gate file) (b ∷ []), front-size))

    pub staged_within : gate ≤ length (take gate file ++ 0 ∷ batch_bytes qs)
    staged_within = omega (arith, length-append (take gate file) (0 ∷ batch_bytes qs), front-size)

    whole : (b : ℕ) → (payloads_after 0 (b ∷ batch_bytes qs) ≡ []) ⊎ (payloads_after 0 (b ∷ batch_bytes qs) ≡ qs)
    whole b = elim (cases_eq b 1) [
      | inl opened ↦ inr (ap (λ k. payloads_after 0 (k ∷ batch_bytes qs)) opened ∙ batch_read qs short)
      | inr closed ↦ inl (counts-shut b (batch_bytes qs) closed)
    ]

    -- a torn gate before them leaves that, or all the payloads too
    pub open_perhaps : (c : List ℕ) → Torn gate 1 (take gate file ++ 0 ∷ batch_bytes qs) c → StillHolds file ps c ⊎ StillHolds file (ps ++ qs) c
    open_perhaps c torn =
        let same : take gate c ≡ take gate file = torn.before ∙ take_at (take gate file) (0 ∷ batch_bytes qs) gate front-size in
        let long : gate < length c = omega (arith, torn.no_shorter, length-append (take gate file) (0 ∷ batch_bytes qs), front-size) in
        let tail : drop gate c ≡ get_or c gate 0 ∷ batch_bytes qs = drop_more c gate 0 long ∙ ap (λ (l : List ℕ). get_or c gate 0 ∷ l) (torn.after ∙ behind 0) in
        let behind = λ (found : List (List ℕ)) (is : payloads_after 0 (get_or c gate 0 ∷ batch_bytes qs) ≡ found). ap (λ (l : List ℕ). ps ++ payloads_after 0 l) tail ∙ ap (λ (rs : List (List ℕ)). ps ++ rs) is in
        elim (whole (get_or c gate 0)) [
          | inl none ↦ inl (holds_like file version gate ps stands c same long ps (behind [] none ∙ append-nil ps))
          | inr all ↦ inr (holds_like file version gate ps stands c same long (ps ++ qs) (behind qs all))
        ]

    pub opened_file : overwritten gate (1 ∷ []) (take gate file ++ 0 ∷ batch_bytes qs) ≡ take gate file ++ records qs ++ 0 ∷ []
    opened_file =
        (λ i. take_at (take gate file) (0 ∷ batch_bytes qs) gate front-size i ++ (1 ∷ []) ++ behind 0 i)
        ∙ append_assoc (take gate file) (1 ∷ []) (batch_bytes qs)
        ∙ ap (λ (l : List ℕ). take gate file ++ l) (open_batch qs some)
        ∙ sym (append_assoc (take gate file) (records qs) (0 ∷ []))

    pub added_stands : StandsAt (take gate file ++ records qs ++ 0 ∷ []) version (gate + length (records qs)) (ps ++ qs)
    added_stands = record {
      front = stands.front ++ records qs;
      rest = 0 ∷ [];
      known = stands.known;
      is = ap (λ (l : List ℕ). l ++ records qs ++ 0 ∷ []) (take-gate file version gate ps stands) ∙ ap (λ (l : List ℕ). l ++ 0 ∷ []) (append_assoc (magic version) stands.front (records qs));
      place = omega (arith, stands.place, length-append stands.front (records qs));
      size = omega (arith, stands.size, length-append stands.front (records qs), ap length (records-append ps qs), length-append (records ps) (records qs));
      some = omega arith;
      reads = reads_records stands.front ps qs stands.reads short;
    }

    pub added_shut : drop (gate + length (records qs)) (take gate file ++ records qs ++ 0 ∷ []) ≡ 0 ∷ []
    added_shut = drop_at (take gate file ++ records qs) (0 ∷ []) (gate + length (records qs)) (omega (arith, length-append (take gate file) (records qs), front-size))

    pub counted-added : counted (take gate file ++ records qs ++ 0 ∷ []) ≡ ps ++ qs
    counted-added = counted-stands _ _ _ _ added_stands ∙ ap (λ (l : List ℕ). (ps ++ qs) ++ payloads_after 0 l) added_shut ∙ append-nil (ps ++ qs)
