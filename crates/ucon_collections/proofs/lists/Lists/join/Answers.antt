use Rattle.ucon_collections.proofs.Founding.{at_most_entered, at_most_same, either_way}
use Rattle.ucon_collections.proofs.lists.Lists.join.Goals as goal

pub returns-in_err-found-clause-at_most : goal.returns-in_err-found-clause-at_most
returns-in_err-found-clause-at_most c = c.in_err-found.ensures.at_most c.args.session

pub returns-clause-at_most : goal.returns-clause-at_most
returns-clause-at_most c =
    let v = c.args.self.now.members in
    let u = c.found.new.self.members in
    let so_far = c.in_ok-found.ensures.at_most c.args.session in
    either_way c.enter.result c.enter.ensures.enters c.enter.ensures.err
    (λ enters. at_most_entered v u c.enter.new.self.members c.args.leader c.args.session so_far c.in_ok-found.ensures.founds.joined enters)
    (λ same. at_most_same v u c.enter.new.self.members c.args.leader c.args.session so_far same)
