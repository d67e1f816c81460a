use Rattle.std.proofs.Common.{◌≡◌, ◌∙◌, ◌≤◌, ℕ, false, None, sym, refl, subst}
use Rattle.std.specs.Prelude.{IfSome}
use Rattle.std.specs.List.{Contains}
use Rattle.ucon_readers.specs.Listing.{Listing, StandsSomewhere, readers_in, standing_by}
use Rattle.ucon_collections.specs.Lists.{is_joined, leader_in}
use Rattle.ucon_readers.specs.Lists.{first_in, led_by}
use Rattle.ucon_readers.proofs.Leading.{if_told, own_first, stands_by, stands_if_there, told_if}
use Rattle.ucon_readers.proofs.standing.Standing.first_led.Goals as goal

pub returns-then-is_there-clause-itself : goal.returns-then-is_there-clause-itself
returns-then-is_there-clause-itself c =
    let v = c.self.inside.lists.members in
    let alone : is_joined v c.args.leader ≡ false → leader_in v c.args.leader ≡ None = c.self.invariant.alone c.args.leader (sym c.is_there.ensures ∙ c.if-is_there.true) in
    subst (λ (s : Listing). IfSome c.first_in_list.result (λ m. first_in s.lists.members m ≡ m)) c.self.view_is
    (if_told (λ m. first_in v m ≡ m) c.first_in_list.result (λ m is.
    let member = told_if (λ m. Contains (led_by v c.args.leader) m) c.first_in_list.result m is c.first_in_list.ensures.there in
    let least = told_if (λ m. (n : ℕ) → Contains (led_by v c.args.leader) n → m ≤ n) c.first_in_list.result m is c.first_in_list.ensures.least in
    ((own_first v c.args.leader m alone member least m).0 refl).1))

pub returns-then-is_there-clause-stands : goal.returns-then-is_there-clause-stands
returns-then-is_there-clause-stands c =
    let v = c.self.inside.lists.members in
    let i = c.self.inside.index in
    let stands = stands_if_there c.args.leader i.places (sym c.is_there.ensures ∙ c.if-is_there.true) in
    subst (λ (s : Listing). IfSome c.first_in_list.result (StandsSomewhere (readers_in s))) c.self.view_is
    (if_told (StandsSomewhere (standing_by v i)) c.first_in_list.result (λ m is.
    (stands.0, stands_by v i stands.0 c.args.leader m stands.1 (told_if (λ m. Contains (led_by v c.args.leader) m) c.first_in_list.result m is c.first_in_list.ensures.there))))
