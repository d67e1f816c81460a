-- A list is joined by its leader, and by a session after it.
use Rattle.std.proofs.Common.{◌≡◌, ◌∙◌, inl, inr, ℕ, true, sym, ap}
use Rattle.std.specs.Prelude.{Result, Ok, Err, OnErr, OnOk}
use Rattle.std.proofs.lemmas.Bool.Decides.{eqb_tells}
use Rattle.ucon_collections.specs.Lists.{AreSame, Enters, JoinsAtMost, Members, is_joined, leader_in}
use Rattle.ucon_collections.proofs.Standing.{some_of}

-- what follows on both ways
pub either_way : {X E A B C : Type 0} (r : Result X E) → OnOk r A → OnErr r B → (A → C) → (B → C) → C
either_way (Ok x) a b f g = f a
either_way (Err e) a b f g = g b

pub at_most_same : (v u w : Members) (leader session : ℕ) → JoinsAtMost v u leader session → AreSame u w → JoinsAtMost v w leader session
at_most_same v u w leader session at_most same = record {
  members = λ l n led. elim (at_most.members l n (sym (same.leaders n) ∙ led)) [
    | inl new ↦ inl (new.0, same.joined leader ∙ new.1, new.2)
    | inr old ↦ inr old
  ];
  joined = λ l was. same.joined l ∙ at_most.joined l was;
}

pub at_most_entered : (v u w : Members) (leader session : ℕ) → JoinsAtMost v u leader session → is_joined u leader ≡ true → Enters u w leader session
    → JoinsAtMost v w leader session
at_most_entered v u w leader session at_most joined enters = record {
  members = λ l n led. elim (eqb_tells n session) [
    | inl same ↦ inl (some_of (sym led ∙ ap (leader_in w) same.1 ∙ enters.itself), enters.joined leader ∙ joined, inl same.1)
    | inr other ↦ elim (at_most.members l n (sym (enters.others n other.1) ∙ led)) [
      | inl new ↦ inl (new.0, enters.joined leader ∙ joined, new.2)
      | inr old ↦ inr old
    ]
  ];
  joined = λ l was. enters.joined l ∙ at_most.joined l was;
}
