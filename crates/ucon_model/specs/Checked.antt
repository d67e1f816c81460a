-- What a checked policy holds.
use Rattle.ucon_model.specs.declared.checked.Checked.{Checked}
use Rattle.ucon_model.specs.Plain.{PlainPolicy}
use Rattle.ucon_model.specs.Views.{policy_of}

-- the policy that was checked
abbrev pub checked_policy : Checked → PlainPolicy
checked_policy c = policy_of c.policy
