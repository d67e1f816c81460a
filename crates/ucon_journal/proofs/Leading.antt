-- From one gate to another behind it, where none of the records between is read.
use Rattle.std.proofs.Common.{◌≡◌, inl, inr, ℕ, ◌+◌, true, List, [], ◌∷◌, ◌++◌, length, drop, Option, None, Some, IfSome, refl, sym, ◌∙◌, ap, subst, arith, length-append}
use Rattle.std.proofs.lemmas.Bool.{cases_Bool}
use Rattle.ucon_journal.specs.JournalBytes.{records}
use Rattle.ucon_journal.specs.Found.{length_told, counts, payload_at, payloads_from, LeadTo, StandsAt}
use Rattle.ucon_journal.proofs.Records.{payloads_after-none}
use Rattle.ucon_journal.proofs.Taking.{length-payload, payloads_from-more, stands_more}

heads : (x y : List ℕ) (xs ys : List (List ℕ)) → x ∷ xs ≡ y ∷ ys → x ≡ y
heads x y xs ys h = cc h

tails : (x y : List ℕ) (xs ys : List (List ℕ)) → x ∷ xs ≡ y ∷ ys → xs ≡ ys
tails x y xs ys h = cc h

module _ (file : List ℕ) (version : ℕ) where
  -- where a payload is found, a record counts
  first_counts : (gate : ℕ) (p : List ℕ) (ps : List (List ℕ)) → payloads_from file gate ≡ p ∷ ps → counts (drop gate file) ≡ true
  first_counts gate p ps are = elim (cases_Bool (counts (drop gate file))) [
    | inl e ↦ e
    | inr e ↦ let no : [] ≡ p ∷ ps = sym (payloads_after-none (drop gate file) e) ∙ are in absurd (cc no)
  ]

  -- there the journal can be read on, and what is found there is what is left
  led : (ps : List (List ℕ)) (gate to : ℕ) (qs : List (List ℕ)) → ((rs : List (List ℕ)) × StandsAt file version gate rs) → LeadTo file gate ps to qs
      → ((rs : List (List ℕ)) × StandsAt file version to rs) × (payloads_from file to ≡ qs)
  led [] gate to qs stands leads =
      let is : gate ≡ to = omega (arith, leads.place) in
      subst (λ (k : ℕ). ((rs : List (List ℕ)) × StandsAt file version k rs) × (payloads_from file k ≡ qs)) is (stands, leads.are)
  led (p ∷ ps) gate to qs stands leads =
      let tail = drop gate file in
      let n = length_told tail in
      let counted = first_counts gate p (ps ++ qs) leads.are in
      let both : payload_at tail ∷ payloads_from file (gate + (5 + n)) ≡ p ∷ (ps ++ qs) = sym (payloads_from-more file gate n counted refl) ∙ leads.are in
      let same : payload_at tail ≡ p = heads (payload_at tail) p (payloads_from file (gate + (5 + n))) (ps ++ qs) both in
      let size : length p ≡ n = ap length (sym same) ∙ length-payload file gate n counted refl in
      let behind : LeadTo file (gate + (5 + n)) ps to qs =
      record {
        are = tails (payload_at tail) p (payloads_from file (gate + (5 + n))) (ps ++ qs) both;
        place = omega (arith, leads.place, size, length-append p (records ps));
      } in
      led ps (gate + (5 + n)) to qs (stands.0 ++ payload_at tail ∷ [], stands_more file gate n counted refl version stands.0 stands.1) behind

-- ---- where the disk tells

module _ (version gate to : ℕ) where
  pub led_stands : (o : Option (List ℕ)) → IfSome o (λ file. (rs : List (List ℕ)) × StandsAt file version gate rs)
      → IfSome o (λ file. (ps : List (List ℕ)) × (qs : List (List ℕ)) × LeadTo file gate ps to qs) → IfSome o (λ file. (rs : List (List ℕ)) × StandsAt file version to rs)
  led_stands None stands leads = tt
  led_stands (Some file) stands leads = (led file version leads.0 gate to leads.1 stands leads.2).0

  pub led_left : (o : Option (List ℕ)) → IfSome o (λ file. (rs : List (List ℕ)) × StandsAt file version gate rs)
      → IfSome o (λ file. (ps qs : List (List ℕ)) → LeadTo file gate ps to qs → payloads_from file to ≡ qs)
  led_left None stands = tt
  led_left (Some file) stands = λ ps qs leads. (led file version ps gate to qs stands leads).1
