use Rattle.std.proofs.Common.{[], subst, sym}
use Rattle.ucon_model.specs.declared.formula.Formula.{Formula}
use Rattle.ucon_model.specs.Reach.{formula_timed}
use Rattle.ucon_model.specs.Views.{formula_of}
use Rattle.ucon_readers.specs.Limits.{GivesWay}
use Rattle.ucon_readers.proofs.First.{gives_way_twice, no_limit, still_first}
use Rattle.ucon_readers.proofs.limits.+first_of_parts.Goals as goal

pub returns-in-And : goal.returns-in-And
returns-in-And t c = λ R row now starts.
    let f : Formula = c.in-And.f.value in
    let g : Formula = c.in-And.g.value in
    let o = c.args.first in
    let p = c.first_of_parts-first.result in
    let q = c.first_of_parts.result in
    subst (λ (h : Formula). GivesWay R row (formula_timed (formula_of h)) o q) (sym c.in-And.is)
    (gives_way_twice R row (formula_timed (formula_of f)) (formula_timed (formula_of g)) o p q
    (subst (λ (h : Formula). GivesWay R row (formula_timed (formula_of h)) o p) c.deref.ensures (c.first_of_parts-first.ensures R row now starts))
    (subst (λ (h : Formula). GivesWay R row (formula_timed (formula_of h)) p q) c.deref-in-And.ensures (c.first_of_parts.ensures R row now starts)))

pub returns-in-Or : goal.returns-in-Or
returns-in-Or t c = λ R row now starts.
    let f : Formula = c.in-Or.f.value in
    let g : Formula = c.in-Or.g.value in
    let o = c.args.first in
    let p = c.first_of_parts-first-in-Or.result in
    let q = c.first_of_parts-in-Or.result in
    subst (λ (h : Formula). GivesWay R row (formula_timed (formula_of h)) o q) (sym c.in-Or.is)
    (gives_way_twice R row (formula_timed (formula_of f)) (formula_timed (formula_of g)) o p q
    (subst (λ (h : Formula). GivesWay R row (formula_timed (formula_of h)) o p) c.deref-in-Or.ensures (c.first_of_parts-first-in-Or.ensures R row now starts))
    (subst (λ (h : Formula). GivesWay R row (formula_timed (formula_of h)) p q) c.deref-in-Or-2.ensures (c.first_of_parts-in-Or.ensures R row now starts)))

pub returns-in-Not : goal.returns-in-Not
returns-in-Not t c = λ R row now starts.
    let o = c.args.first in
    let p = c.first_of_parts-in-Not.result in
    subst (λ (h : Formula). GivesWay R row (formula_timed (formula_of h)) o p) (sym c.in-Not.is)
    (subst (λ (h : Formula). GivesWay R row (formula_timed (formula_of h)) o p) c.deref-in-Not.ensures (c.first_of_parts-in-Not.ensures R row now starts))

pub returns-in-Compare : goal.returns-in-Compare
returns-in-Compare t c = λ R row now starts.
    let o = c.args.first in
    subst (λ (h : Formula). GivesWay R row (formula_timed (formula_of h)) o o) (sym c.in-Compare.is) (still_first R row [] o (λ d limit. no_limit R row d limit))

pub returns-in-Lasts : goal.returns-in-Lasts
returns-in-Lasts t c = λ R row now starts.
    subst (λ (h : Formula). GivesWay R row (formula_timed (formula_of h)) c.args.first c.first_of_duration.result) (sym c.in-Lasts.is)
    (c.first_of_duration.ensures R row now starts)
