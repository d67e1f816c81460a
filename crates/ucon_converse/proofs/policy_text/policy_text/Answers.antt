use Rattle.std.proofs.Common.{rules, ◌≡◌, ◌+◌, ◌<◌, ◌++◌, ◌∷◌, [], Err, List, ℕ, length, length-append, arith, sym, ap, subst, ◌∙◌}
use Rattle.ucon_flow.specs.Lines.{GivesLine, Holds, IsNoLine, Reading, first_line}
use Rattle.ucon_flow.specs.declared.source.ReadFault.{ReadFault}
use Rattle.ucon_flow.specs.declared.source.ReadFault.TheVariants.{TooLong}
use Rattle.ucon_converse.specs.PolicyPart.{IsKindOf, TakesPolicy}
use Rattle.ucon_converse.specs.declared.policy_text.Kind.TheVariants.{Last, Line}
use Rattle.ucon_converse.proofs.PolicyLines.{TakesLines, divided, divided_last, lasted, long_last, long_line, long_with, none_left, taken_on}
use Rattle.ucon_converse.proofs.policy_text.policy_text.Goals as goal

pub returns-in-None-clause-text : goal.returns-in-None-clause-text
returns-in-None-clause-text g c =
    let none : IsNoLine g.S.Source.seen c.loop-line.lines c.next.new.self c.loop-line.input c.next.new.source = search rules in
    none_left g.S.Source.seen c.args.lines.now.held (g.S.Source.seen c.args.input.now).left c.loop-line.lines c.next.new.self c.loop-line.input c.next.new.source
    c.loop-line.text.items c.loop-line.invariant.taken none

pub returns-in-Divider-clause-text : goal.returns-in-Divider-clause-text
returns-in-Divider-clause-text g c =
    let line = c.in-Some.line.items in
    let gives : GivesLine g.S.Source.seen c.loop-line.lines c.next.new.self c.loop-line.input c.next.new.source line = search rules in
    divided g.S.Source.seen c.args.lines.now.held (g.S.Source.seen c.args.input.now).left c.loop-line.lines c.next.new.self c.loop-line.input c.next.new.source
    c.loop-line.text.items c.loop-line.invariant.taken line gives (sym c.deref.ensures.value ∙ c.in-Divider.ensures)

pub returns-in-LastDivider-clause-text : goal.returns-in-LastDivider-clause-text
returns-in-LastDivider-clause-text g c =
    let line = c.in-Some.line.items in
    let gives : GivesLine g.S.Source.seen c.loop-line.lines c.next.new.self c.loop-line.input c.next.new.source line = search rules in
    divided_last g.S.Source.seen c.args.lines.now.held (g.S.Source.seen c.args.input.now).left c.loop-line.lines c.next.new.self c.loop-line.input c.next.new.source
    c.loop-line.text.items c.loop-line.invariant.taken line gives (sym c.deref.ensures.value ∙ c.in-LastDivider.ensures)

pub returns-in-Last-clause-text : goal.returns-in-Last-clause-text
returns-in-Last-clause-text g c =
    let line = c.in-Some.line.items in
    let was = c.loop-line.text.items in
    let gives : GivesLine g.S.Source.seen c.loop-line.lines c.next.new.self c.loop-line.input c.next.new.source line = search rules in
    let kind = subst (λ (l : List ℕ). IsKindOf Last l) c.deref.ensures.value c.in-Last.ensures in
    let is : c.put_line-in-Last.new.text.items ≡ was ++ line = c.in_ok-put_line-in-Last.ensures.ok ∙ ap (λ (l : List ℕ). was ++ l) c.deref-in-Last.ensures.value in
    subst (λ (t : List ℕ). TakesPolicy c.args.lines.now.held c.next.new.self.held (g.S.Source.seen c.args.input.now).left (g.S.Source.seen c.next.new.source).left t) (sym is)
    (lasted g.S.Source.seen c.args.lines.now.held (g.S.Source.seen c.args.input.now).left c.loop-line.lines c.next.new.self c.loop-line.input c.next.new.source
    was c.loop-line.invariant.taken line gives kind.0 kind.1)

pub loop-line-preserved : goal.loop-line-preserved
loop-line-preserved g c =
    let line = c.in-Some.line.items in
    let was = c.loop-line.text.items in
    let gives : GivesLine g.S.Source.seen c.loop-line.lines c.next.new.self c.loop-line.input c.next.new.source line = search rules in
    let kind = subst (λ (l : List ℕ). IsKindOf Line l) c.deref.ensures.value c.in-Line.ensures in
    let is : c.put_line.new.text.items ≡ was ++ line = c.in_ok-put_line-in-Line.ensures.ok ∙ ap (λ (l : List ℕ). was ++ l) c.deref-in-Line.ensures.value in
    record {
      taken =
          subst (λ (t : List ℕ). TakesLines c.args.lines.now.held c.next.new.self.held (g.S.Source.seen c.args.input.now).left (g.S.Source.seen c.next.new.source).left t) (sym is)
          (taken_on g.S.Source.seen c.args.lines.now.held (g.S.Source.seen c.args.input.now).left c.loop-line.lines c.next.new.self c.loop-line.input c.next.new.source
          was c.loop-line.invariant.taken line gives kind.0 kind.1 kind.2);
      limit = search rules;
      many =
          let so_far = c.loop-line.invariant.many in
          omega (arith, so_far, ap length is, length-append was line, ap length kind.1, length-append kind.0 (10 ∷ []));
      source = search rules;
    }

pub returns-in_err-next-clause-too_long : goal.returns-in_err-next-clause-too_long
returns-in_err-next-clause-too_long g c = λ long.
    let next = c.next.new.self in
    let e = c.in_err-next.field-0.0 in
    let is : c.from_residual.result ≡ Err e = search rules in
    let same : Err e ≡ Err TooLong = sym is ∙ long in
    let fault : e ≡ TooLong = cc same in
    let so : Err e ≡ Err TooLong = ap (λ (f : ReadFault). Err f) fault in
    let above : next.limit < length (first_line next.held) = c.in_err-next.ensures.too_long so in
    let holds : Holds g.S.Source.seen c.loop-line.lines next c.loop-line.input c.next.new.source = c.in_err-next.ensures.err in
    let limit : next.limit ≡ c.loop-line.lines.limit = ap (λ (r : Reading). r.limit) holds.same in
    let most : c.loop-line.lines.limit ≡ 4194304 = c.loop-line.invariant.limit ∙ c.requires in
    long_line g.S.Source.seen c.args.lines.now.held (g.S.Source.seen c.args.input.now).left c.loop-line.lines next c.loop-line.input c.next.new.source
    c.loop-line.text.items c.loop-line.invariant.taken holds (omega (arith, above, limit, most))

pub returns-in_err-put_line-in-Line-clause-too_long : goal.returns-in_err-put_line-in-Line-clause-too_long
returns-in_err-put_line-in-Line-clause-too_long g c = λ long.
    let line = c.in-Some.line.items in
    let was = c.loop-line.text.items in
    let gives : GivesLine g.S.Source.seen c.loop-line.lines c.next.new.self c.loop-line.input c.next.new.source line = search rules in
    let kind = subst (λ (l : List ℕ). IsKindOf Line l) c.deref.ensures.value c.in-Line.ensures in
    let e = c.in_err-put_line-in-Line.field-0.0 in
    let is : c.from_residual-in_err-put_line-in-Line.result ≡ Err e = search rules in
    let same : Err e ≡ Err TooLong = sym is ∙ long in
    let fault : e ≡ TooLong = cc same in
    let so : Err e ≡ Err TooLong = ap (λ (f : ReadFault). Err f) fault in
    let above : 4194304 < length was + length line = subst (λ (l : List ℕ). 4194304 < length was + length l) c.deref-in-Line.ensures.value (c.in_err-put_line-in-Line.ensures.too_long so) in
    long_with g.S.Source.seen c.args.lines.now.held (g.S.Source.seen c.args.input.now).left c.loop-line.lines c.next.new.self c.loop-line.input c.next.new.source
    was c.loop-line.invariant.taken line gives kind.0 kind.1 kind.2 above

pub returns-in_err-put_line-in-Last-clause-too_long : goal.returns-in_err-put_line-in-Last-clause-too_long
returns-in_err-put_line-in-Last-clause-too_long g c = λ long.
    let line = c.in-Some.line.items in
    let was = c.loop-line.text.items in
    let gives : GivesLine g.S.Source.seen c.loop-line.lines c.next.new.self c.loop-line.input c.next.new.source line = search rules in
    let kind = subst (λ (l : List ℕ). IsKindOf Last l) c.deref.ensures.value c.in-Last.ensures in
    let e = c.in_err-put_line-in-Last.field-0.0 in
    let is : c.from_residual-in_err-put_line-in-Last.result ≡ Err e = search rules in
    let same : Err e ≡ Err TooLong = sym is ∙ long in
    let fault : e ≡ TooLong = cc same in
    let so : Err e ≡ Err TooLong = ap (λ (f : ReadFault). Err f) fault in
    let above : 4194304 < length was + length line = subst (λ (l : List ℕ). 4194304 < length was + length l) c.deref-in-Last.ensures.value (c.in_err-put_line-in-Last.ensures.too_long so) in
    long_last g.S.Source.seen c.args.lines.now.held (g.S.Source.seen c.args.input.now).left c.loop-line.lines c.next.new.self c.loop-line.input c.next.new.source
    was c.loop-line.invariant.taken line gives kind.0 kind.1 above
