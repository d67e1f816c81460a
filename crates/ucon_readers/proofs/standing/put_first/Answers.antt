use Rattle.std.proofs.Common.{inl, inr}
use Rattle.ucon_readers.proofs.Leading.{own_first}
use Rattle.ucon_readers.proofs.standing.put_first.Goals as goal

pub returns-in-Some-clause-members : goal.returns-in-Some-clause-members
returns-in-Some-clause-members c = λ n.
    let v = c.args.lists.now.members in
    let own = own_first v c.args.leader c.in-Some.first c.requires.alone c.in-Some.ensures.there c.in-Some.ensures.least n in (
      λ has. elim ((c.put.ensures.members n).0 has) [ inl here ↦ inl (own.0 here) | inr was ↦ inr was ],
      λ either. (c.put.ensures.members n).1 (elim either [ inl first ↦ inl (own.1 first) | inr was ↦ inr was ]),
    )

pub returns-in_default-clause-members : goal.returns-in_default-clause-members
returns-in_default-clause-members c = λ n. (
  λ has. inr has,
  λ either. elim either [ inl first ↦ absurd (c.in_default.ensures.none n first.0) | inr was ↦ was ],
)
