use Rattle.std.proofs.Common.{◌∙◌, ◌≤◌, ℕ, sym, arith}
use Rattle.std.specs.List.{Contains}
use Rattle.ucon_readers.specs.Lists.{led_by, members_in}
use Rattle.ucon_readers.proofs.Leading.{alone_led, if_not_told, if_told, joined_led, led_member, led_only, not_told_if, told_if}
use Rattle.ucon_readers.proofs.Listed.{told_least, told_none, told_there}
use Rattle.ucon_readers.proofs.standing.first_in_list.Goals as goal

pub returns-then-is_joined-clause-there : goal.returns-then-is_joined-clause-there
returns-then-is_joined-clause-there c =
    let v = c.args.lists.now.members in
    let joined = sym c.is_joined.ensures ∙ c.if-is_joined.true in
    if_told (λ m. Contains (led_by v c.args.leader) m) c.first.result (λ m is.
    joined_led v c.args.leader m joined (told_if (λ m. Contains (members_in v c.args.leader) m) c.first.result m is (told_there v c.args.leader c.first.result c.first.ensures)))

pub returns-then-is_joined-clause-least : goal.returns-then-is_joined-clause-least
returns-then-is_joined-clause-least c =
    let v = c.args.lists.now.members in
    let joined = sym c.is_joined.ensures ∙ c.if-is_joined.true in
    if_told (λ m. (n : ℕ) → Contains (led_by v c.args.leader) n → m ≤ n) c.first.result (λ m is n has.
    told_if (λ m. (n : ℕ) → Contains (members_in v c.args.leader) n → m ≤ n) c.first.result m is (told_least v c.args.leader c.first.result c.first.ensures) n (led_member v c.args.leader n joined has))

pub returns-then-is_joined-clause-none : goal.returns-then-is_joined-clause-none
returns-then-is_joined-clause-none c =
    let v = c.args.lists.now.members in
    let joined = sym c.is_joined.ensures ∙ c.if-is_joined.true in
    if_not_told ((n : ℕ) → Contains (led_by v c.args.leader) n → ⊥) c.first.result (λ is n has.
    not_told_if ((n : ℕ) → Contains (members_in v c.args.leader) n → ⊥) c.first.result is (told_none v c.args.leader c.first.result c.first.ensures) n (led_member v c.args.leader n joined has))

pub returns-else-is_joined-clause-there : goal.returns-else-is_joined-clause-there
returns-else-is_joined-clause-there c = alone_led c.args.lists.now.members c.args.leader (sym c.is_joined.ensures ∙ c.if-is_joined.false)

pub returns-else-is_joined-clause-least : goal.returns-else-is_joined-clause-least
returns-else-is_joined-clause-least c = λ n has.
    let is = led_only c.args.lists.now.members c.args.leader n (sym c.is_joined.ensures ∙ c.if-is_joined.false) has in
    omega (arith, is)
