-- A record that is taken.
use Rattle.std.proofs.Common.{◌≡◌, ℕ, ◌+◌, ◌-◌, true, List, [], ◌∷◌, ◌++◌, length, take, drop, sym, ◌∙◌, ap, subst, arith, append_assoc, length-append, length-take, length-drop, take-append-drop}
use Rattle.std.proofs.lemmas.List.{drop-drop, append-nil}
use Rattle.ucon_journal.specs.JournalBytes.{magic}
use Rattle.ucon_journal.specs.Found.{length_told, counts, payload_at, payloads_after, payloads_from, counted, StandsAt}
use Rattle.ucon_journal.proofs.Records.{length-records-append, payloads_after-more, counts_within, reads_more}
use Rattle.ucon_journal.proofs.Files.{drop-gate, counted-stands}

pub left_is : (file : List ℕ) (gate len left : ℕ) → left ≡ len - gate → len ≡ length file → left ≡ length (drop gate file)
left_is file gate len left is is_len = omega (arith, is, is_len, length-drop gate file)

-- where nothing counts behind the gate, all that is found stands before it
pub ends_at : (file : List ℕ) (version gate : ℕ) → ((ps : List (List ℕ)) × StandsAt file version gate ps) → payloads_from file gate ≡ [] → StandsAt file version gate (counted file) × (payloads_from file gate ≡ [])
ends_at file version gate stands none =
    let all : counted file ≡ stands.0 = counted-stands file version gate stands.0 stands.1 ∙ ap (λ (qs : List (List ℕ)). stands.0 ++ qs) none ∙ append-nil stands.0 in
    (subst (λ (ps : List (List ℕ)). StandsAt file version gate ps) (sym all) stands.1, none)

module _ (file : List ℕ) (gate n : ℕ) (counted : counts (drop gate file) ≡ true) (told : n ≡ length_told (drop gate file)) where
  pub length-payload : length (payload_at (drop gate file)) ≡ n
  length-payload = omega (arith, length-take (length_told (drop gate file)) (drop 5 (drop gate file)), length-drop 5 (drop gate file), counts_within (drop gate file) counted, told)

  pub payloads_from-more : payloads_from file gate ≡ payload_at (drop gate file) ∷ payloads_from file (gate + (5 + n))
  payloads_from-more =
      payloads_after-more (drop gate file) counted
      ∙ ap (λ k. payload_at (drop gate file) ∷ payloads_after 0 (drop (5 + k) (drop gate file))) (sym told)
      ∙ ap (λ (l : List ℕ). payload_at (drop gate file) ∷ payloads_after 0 l) (drop-drop (5 + n) gate file)

  -- the payload stands behind the gate and its length
  pub payload_is : payload_at (drop gate file) ≡ take n (drop (gate + 5) file)
  payload_is = ap (λ k. take k (drop 5 (drop gate file))) (sym told) ∙ ap (λ (l : List ℕ). take n l) (drop-drop 5 gate file)

  -- what is read of it, where the file tells, is as long as it was told
  pub length_read : (bytes : List ℕ) → bytes ≡ take n (drop (gate + 5) file) → length bytes ≡ n
  length_read bytes is = ap (λ (l : List ℕ). length l) (is ∙ sym payload_is) ∙ length-payload

  pub stands_more : (version : ℕ) (ps : List (List ℕ)) → StandsAt file version gate ps → StandsAt file version (gate + (5 + n)) (ps ++ payload_at (drop gate file) ∷ [])
  stands_more version ps stands =
      let tail = drop gate file in
      let m = 5 + length_told tail in
      let split : stands.rest ≡ take m tail ++ drop m tail = sym (drop-gate file version gate ps stands) ∙ sym (take-append-drop m tail) in
      let long : length (take m tail) ≡ 5 + n = omega (arith, length-take m tail, counts_within tail counted, told) in
      record {
        front = stands.front ++ take m tail;
        rest = drop m tail;
        known = stands.known;
        is = stands.is ∙ ap (λ (l : List ℕ). magic version ++ stands.front ++ l) split ∙ sym (append_assoc (magic version ++ stands.front) (take m tail) (drop m tail)) ∙ ap (λ (l : List ℕ). l ++ drop m tail) (append_assoc (magic version) stands.front (take m tail));
        place = omega (arith, stands.place, length-append stands.front (take m tail), long);
        size = omega (arith, stands.size, length-append stands.front (take m tail), long, length-records-append ps (payload_at tail), length-payload);
        some = omega (arith, length-drop m tail, counts_within tail counted);
        reads = reads_more stands.front tail ps stands.reads counted;
      }
