-- The sessions that a reply names.
use Rattle.std.proofs.Common.{List, [], ◌∷◌, map}
use Rattle.ucon_base.specs.Elements.{Each, each_append, each_parts}
use Rattle.ucon_model.specs.declared.reply.Head.{Head}
use Rattle.ucon_model.specs.declared.reply.Revoked.{Revoked}
use Rattle.ucon_board.specs.Board.{IsSession, Naming, named_by, revocation, sayings}

revoked_named : (rs : List Revoked) → Each (λ r. IsSession r.session) rs → Each (λ (x : Naming). IsSession x.0) (map revocation rs)
revoked_named [] h = tt
revoked_named (r ∷ rs) h = (h.0, revoked_named rs h.1)

named_revoked : (rs : List Revoked) → Each (λ (x : Naming). IsSession x.0) (map revocation rs) → Each (λ r. IsSession r.session) rs
named_revoked [] h = tt
named_revoked (r ∷ rs) h = (h.0, named_revoked rs h.1)

pub all_named : (head : Head) (rs : List Revoked) → Each (λ x. IsSession x.0) (named_by head) → Each (λ r. IsSession r.session) rs
    → Each (λ (x : Naming). IsSession x.0) (sayings head rs)
all_named head rs h k = each_append (λ (x : Naming). IsSession x.0) (named_by head) (map revocation rs) h (revoked_named rs k)

pub named_head : (head : Head) (rs : List Revoked) → Each (λ (x : Naming). IsSession x.0) (sayings head rs) → Each (λ x. IsSession x.0) (named_by head)
named_head head rs h = (each_parts (λ (x : Naming). IsSession x.0) (named_by head) (map revocation rs) h).0

pub named_rest : (head : Head) (rs : List Revoked) → Each (λ (x : Naming). IsSession x.0) (sayings head rs) → Each (λ r. IsSession r.session) rs
named_rest head rs h = named_revoked rs (each_parts (λ (x : Naming). IsSession x.0) (named_by head) (map revocation rs) h).1
