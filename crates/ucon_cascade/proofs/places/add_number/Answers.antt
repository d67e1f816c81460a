use Rattle.std.proofs.Common.{◌≡◌, ◌∙◌, ◌==◌, ℕ, List, true, false, ap, subst, sym}
use Rattle.std.specs.List.{list_any}
use Rattle.ucon_links.specs.Lists.{IsDistinct}
use Rattle.ucon_cascade.proofs.Numbers.{distinct_more, is_among, members_added, members_still, not_among}
use Rattle.ucon_cascade.proofs.places.add_number.Goals as goal

pub returns-then-is_among-clause-members : goal.returns-then-is_among-clause-members
returns-then-is_among-clause-members c = λ n.
    let xs = c.args.numbers.now.items in
    let any : list_any (λ n. n == c.args.number) xs ≡ true =
    ap (λ (ns : List ℕ). list_any (λ n. n == c.args.number) ns) (sym c.slice.ensures) ∙ (sym c.is_among.ensures ∙ c.if-is_among.true) in
    members_still xs c.args.number (is_among c.args.number xs any) n

pub returns-clause-distinct : goal.returns-clause-distinct
returns-clause-distinct c =
    let xs = c.args.numbers.now.items in
    let none : list_any (λ n. n == c.args.number) xs ≡ false =
    ap (λ (ns : List ℕ). list_any (λ n. n == c.args.number) ns) (sym c.slice.ensures) ∙ (sym c.is_among.ensures ∙ c.if-is_among.false) in
    subst IsDistinct (sym c.in_ok-push.ensures.ok) (distinct_more xs c.args.number c.requires (not_among c.args.number xs none))

pub returns-clause-members : goal.returns-clause-members
returns-clause-members c = λ n. rw c.in_ok-push.ensures.ok (members_added c.args.numbers.now.items c.args.number n)
