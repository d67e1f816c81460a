use Rattle.std.proofs.Common.{ℕ, ◌-◌, length, sym, ◌∙◌, ap}
use Rattle.ucon_base.specs.Tokens.{fault_from}
use Rattle.ucon_token.specs.Seen.{token_of}
use Rattle.ucon_token.proofs.Fuel.{place_here, left_here, not_ended}
use Rattle.ucon_token.proofs.reader.Reader.place.Goals as goal

pub returns-in_default : goal.returns-in_default
returns-in_default c =
    let i = c.self.inside in
    let h = place_here (token_of i.token) (length (fault_from i.begin.now)) i.after.now i.text.now c.self.invariant in
    let k = left_here (token_of i.token) (length (fault_from i.begin.now)) i.after.now (not_ended i.token c.in_default.not-End) in
    rw (c.saturating_sub.ensures, c.fault_from.ensures, ← c.self.view_is) (ap (λ (n : ℕ). length i.text.now - n) (sym (h ∙ k)))
