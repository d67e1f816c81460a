use Rattle.std.proofs.Common.{◌≡◌, ◌+◌, ◌++◌, ◌∷◌, [], length, None, Some, Ok, Err, rules, sym, ap, ◌∙◌, arith, append-nil}
use Rattle.std.specs.Prelude.{option_copied}
use Rattle.ucon_base.specs.Members.{awaited}
use Rattle.ucon_base.specs.Reading.{Member, awaiting, members}
use Rattle.ucon_base.proofs.Runs.{went_on, stopped_inside, joined, joined_nothing}
use Rattle.ucon_base.proofs.members.some_members.Goals as goal

pub loop-quoted-init : goal.loop-quoted-init
loop-quoted-init c = record {
  found = ([], (c.nothing-found.ensures, joined_nothing (members None awaiting 1 c.args.bytes.now)));
  place = omega arith;
  count = omega (arith, c.nothing-found.ensures.count);
}

pub loop-quoted-preserved : goal.loop-quoted-preserved
loop-quoted-preserved c =
    let front = c.loop-quoted.invariant.found.0 in
    let text = c.in_ok-text.text.now in
    let m : Member = record { at = c.loop-quoted.at; text = text } in
    let at = c.loop-quoted.at + (length text + 2) in
    let more = went_on front (option_copied c.loop-quoted.last) c.loop-quoted.at c.loop-quoted.rest.now c.in-Some.quoted.now text c.in_ok-text.after.now (members None awaiting 1 c.args.bytes.now) c.loop-quoted.invariant.found.1.1 (sym c.in-Some.ensures.read) c.in_ok-text.ensures.read in
    let next = c.in_ok-next_member.ensures.read (Some text) ∙ ap (λ o. awaited (Some text) at (option_copied o)) c.in-Some-2.is in
    let last : length c.in-Some-2.more.now + 1 ≡ length c.in_ok-text.after.now = rw c.in-Some-2.is at c.in_ok-next_member.ensures.shorter in
    record {
      found = (front ++ m ∷ [], (c.add.ensures.holds front c.loop-quoted.invariant.found.1.0, ap (joined _) (sym next) ∙ more));
      place = omega (arith, last, c.in_ok-text.ensures.shorter, c.in-Some.ensures.shorter, c.loop-quoted.invariant.place);
      count = omega (arith, c.add.ensures.count, c.loop-quoted.invariant.count);
    }

pub returns-in-None : goal.returns-in-None
returns-in-None c =
    let front = c.loop-quoted.invariant.found.0 in
    let text = c.in_ok-text.text.now in
    let m : Member = record { at = c.loop-quoted.at; text = text } in
    let at = c.loop-quoted.at + (length text + 2) in
    let told = members None awaiting 1 c.args.bytes.now in
    let more = went_on front (option_copied c.loop-quoted.last) c.loop-quoted.at c.loop-quoted.rest.now c.in-Some.quoted.now text c.in_ok-text.after.now told c.loop-quoted.invariant.found.1.1 (sym c.in-Some.ensures.read) c.in_ok-text.ensures.read in
    let none = c.in_ok-next_member.ensures.read (Some text) ∙ ap (λ o. awaited (Some text) at (option_copied o)) c.in-None.is in
    let said : told ≡ Ok (front ++ m ∷ []) = sym more ∙ ap (joined _) none ∙ ap Ok (append-nil _) in
    rw said (c.add.ensures.holds front c.loop-quoted.invariant.found.1.0)

pub returns-in_err-next_member : goal.returns-in_err-next_member
returns-in_err-next_member c =
    let front = c.loop-quoted.invariant.found.0 in
    let text = c.in_ok-text.text.now in
    let told = members None awaiting 1 c.args.bytes.now in
    let f = c.in_err-next_member.field-0.0 in
    let more = went_on front (option_copied c.loop-quoted.last) c.loop-quoted.at c.loop-quoted.rest.now c.in-Some.quoted.now text c.in_ok-text.after.now told c.loop-quoted.invariant.found.1.1 (sym c.in-Some.ensures.read) c.in_ok-text.ensures.read in
    let fault : told ≡ Err f = sym more ∙ ap (joined _) (c.in_err-next_member.ensures.read (Some text)) in
    search (rules, fault)

pub returns-in_err-text : goal.returns-in_err-text
returns-in_err-text c =
    let told = members None awaiting 1 c.args.bytes.now in
    let f = c.in_err-text.field-0.0 in
    let fault : told ≡ Err f = stopped_inside c.loop-quoted.invariant.found.0 (option_copied c.loop-quoted.last) c.loop-quoted.at c.loop-quoted.rest.now c.in-Some.quoted.now told f c.loop-quoted.invariant.found.1.1 (sym c.in-Some.ensures.read) c.in_err-text.ensures.read in
    search (rules, fault)
