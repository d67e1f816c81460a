use Rattle.std.proofs.Common.{◌≡◌, true, List, sym, subst}
use Rattle.ucon_base.specs.Elements.{Each}
use Rattle.ucon_model.specs.declared.reply.Revoked.{Revoked}
use Rattle.ucon_model.specs.Views.{reply_of}
use Rattle.ucon_board.specs.Board.{IsSession, NamesSessions}
use Rattle.ucon_board.proofs.Named.{all_named, named_rest}
use Rattle.ucon_board.proofs.naming.names_sessions.Goals as goal

pub returns-then-is_named : goal.returns-then-is_named
returns-then-is_named c =
    let head = c.in-Made.head in
    let rs : List Revoked = c.in-Made.revoked.items in
    let yes = c.are_named.result in
    let rest : (yes ≡ true → Each (λ (r : Revoked). IsSession r.session) rs) × (Each (λ (r : Revoked). IsSession r.session) rs → yes ≡ true) =
    subst (λ (l : List Revoked). (yes ≡ true → Each (λ (r : Revoked). IsSession r.session) l) × (Each (λ (r : Revoked). IsSession r.session) l → yes ≡ true))
    c.slice.ensures c.are_named.ensures in
    let first = c.is_named.ensures.0 c.if-is_named.true in
    subst (λ r. (yes ≡ true → NamesSessions (reply_of r)) × (NamesSessions (reply_of r) → yes ≡ true)) (sym c.in-Made.is)
    (λ is. all_named head rs first (rest.0 is), λ h. rest.1 (named_rest head rs h))
