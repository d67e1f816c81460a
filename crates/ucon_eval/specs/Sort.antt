-- Which predicates are asked.
use Rattle.std.specs.Prelude.{Bool}
use Rattle.ucon_model.specs.Plain.{PlainPredicate}
use Rattle.ucon_model.specs.Decision.{pre_check, pre_duty, ongoing}
use Rattle.ucon_eval.specs.declared.decide.Sort.{Sort}
use Rattle.ucon_eval.specs.declared.decide.Sort.TheVariants.{PreCheck, PreDuty, Ongoing}

abbrev pub sort_of : Sort → PlainPredicate → Bool
sort_of PreCheck = pre_check
sort_of PreDuty = pre_duty
sort_of Ongoing = ongoing
