-- What a recheck answers.
use Rattle.std.specs.Prelude.{ℕ, List, filter_map, Option, Some, None}
use Rattle.std.specs.Option.{option_map_or}
use Rattle.ucon_model.specs.Action.{Trace}
use Rattle.ucon_model.specs.Decision.{no_right, verdict}
use Rattle.ucon_model.specs.declared.session.Verdict.{Verdict}
use Rattle.ucon_model.specs.declared.session.Verdict.TheVariants.{Permit, Deny, Wait}
use Rattle.ucon_model.specs.Lookup.{right_read}
use Rattle.ucon_model.specs.Plain.{PlainPolicy}
use Rattle.ucon_model.specs.Readings.{in_force}
use Rattle.ucon_model.specs.Truth.{Readings, readings}
use Rattle.ucon_audit.specs.declared.parallel.Changed.{Changed}

-- a session with its verdict, if that isn't to permit
abbrev pub unless_permitted : ℕ → Verdict → Option Changed
unless_permitted n Permit = None
unless_permitted n (Deny label) = Some (record { session = n; verdict = Deny label })
unless_permitted n (Wait label) = Some (record { session = n; verdict = Wait label })

-- the verdict on session n now; denied by `no_right` if an amendment took its right away
abbrev pub verdict_now : PlainPolicy → Readings → ℕ → Verdict
verdict_now P R n = option_map_or (λ right. verdict P R n) (right_read P R n) (Deny no_right)

-- of these sessions, those whose verdict now isn't to permit, in order
abbrev pub changed : PlainPolicy → Readings → List ℕ → List Changed
changed P R sessions = filter_map (λ n. unless_permitted n (verdict_now P R n)) sessions

-- the same after a trace, under the policy in force there
abbrev pub changed_after : PlainPolicy → Trace → List ℕ → List Changed
changed_after P T sessions = changed (in_force P T) (readings P T) sessions
