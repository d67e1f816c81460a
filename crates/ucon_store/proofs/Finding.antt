-- What is found in a file, by the payloads that count in it.
use Rattle.std.proofs.Common.{◌≡◌, ℕ, Bool, List, ◌++◌, ap, ◌∙◌}
use Rattle.ucon_model.specs.Plain.{Bytes, PlainPolicy}
use Rattle.ucon_model.specs.History.{History}
use Rattle.ucon_model.specs.Batches.{AreTaken}
use Rattle.ucon_model.specs.Found.{Finding, fresh, not_journal, holds, Takes, TakesSteps, found_in, gate_behind, only_steps}
use Rattle.ucon_journal.specs.Found as journal
use Rattle.ucon_syntax.specs.Policies.{accepted}
use Rattle.ucon_store.specs.Found.{finding_of, Holds, found_by}
use Rattle.ucon_store.specs.Points.{has_points, takes_with}

-- a finding by records that count is that by their payloads, where a policy and a history are found
by_payloads : (takes : Takes) (f : journal.Found) (text : Bytes) (P : PlainPolicy) (H : History) (gate : ℕ) → finding_of takes f ≡ holds text P H gate → found_in accepted takes (journal.payloads_found f) ≡ holds text P H gate
by_payloads takes journal.Fresh text P H gate is = is
by_payloads takes journal.NotJournal text P H gate is = absurd (cc is)
by_payloads takes (journal.Holds payloads g) text P H gate is = is

from_payloads : (takes : Takes) (f : journal.Found) (text : Bytes) (P : PlainPolicy) (H : History) (gate : ℕ) → found_in accepted takes (journal.payloads_found f) ≡ holds text P H gate → finding_of takes f ≡ holds text P H gate
from_payloads takes journal.Fresh text P H gate is = is
from_payloads takes journal.NotJournal text P H gate is = absurd (cc is)
from_payloads takes (journal.Holds payloads g) text P H gate is = is

-- what may stand in a file
abbrev pub takes_of : Bytes → Takes
takes_of file = takes_with (has_points file)

pub counted_hold : (text : Bytes) (P : PlainPolicy) (H : History) (file : Bytes) (h : Holds text P H file) → found_in accepted (takes_of file) (journal.counted file) ≡ holds text P H h.gate
unfolding found_by
counted_hold text P H file h = by_payloads (takes_of file) (journal.found file) text P H h.gate h.is

pub hold_counted : (text : Bytes) (P : PlainPolicy) (H : History) (gate : ℕ) (file : Bytes) → found_in accepted (takes_of file) (journal.counted file) ≡ holds text P H gate → Holds text P H file
unfolding found_by
hold_counted text P H gate file is = record { gate = gate; is = from_payloads (takes_of file) (journal.found file) text P H gate is }

-- the same payloads hold the same, in files of one kind
pub holds_same : (text : Bytes) (P : PlainPolicy) (H : History) (file c : Bytes) → Holds text P H file → has_points c ≡ has_points file → journal.counted c ≡ journal.counted file → Holds text P H c
holds_same text P H file c h kind same =
    hold_counted text P H h.gate c (ap (λ (b : Bool). found_in accepted (takes_with b) (journal.counted c)) kind ∙ (ap (found_in accepted (takes_of file)) same ∙ counted_hold text P H file h))

-- Payloads that are taken one after the other are found together behind those that hold something. Those that tell steps are taken wherever steps
-- are.
pub record Together : Type 0 where
  pub found : (takes : Takes) (front rest : List Bytes) (text : Bytes) (P : PlainPolicy) (H later : History) (gate : ℕ)
      → found_in accepted takes front ≡ holds text P H gate → AreTaken takes text P H rest later
      → found_in accepted takes (front ++ rest) ≡ holds text P later (gate_behind gate rest)
  pub steps : (takes : Takes) (text : Bytes) (P : PlainPolicy) (H later : History) (payloads : List Bytes) → TakesSteps accepted takes
      → AreTaken (only_steps accepted) text P H payloads later → AreTaken takes text P H payloads later

-- payloads more that are taken
pub holds_more : Together → (text : Bytes) (P : PlainPolicy) (H later : History) (payloads : List Bytes) (file c : Bytes)
    → AreTaken (takes_of file) text P H payloads later → Holds text P H file → has_points c ≡ has_points file
    → journal.counted c ≡ journal.counted file ++ payloads → Holds text P later c
holds_more together text P H later payloads file c takes h kind more =
    let all : Takes = takes_of file in
    hold_counted text P later (gate_behind h.gate payloads) c
    (ap (λ (b : Bool). found_in accepted (takes_with b) (journal.counted c)) kind
    ∙ (ap (found_in accepted all) more
    ∙ together.found all (journal.counted file) payloads text P H later h.gate (counted_hold text P H file h) takes))
