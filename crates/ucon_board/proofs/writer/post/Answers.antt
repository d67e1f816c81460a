use Rattle.std.proofs.Common.{◌≡◌, ◌++◌, [], ◌∷◌, drop, refl, rules, ap, sym, ◌∙◌}
use Rattle.ucon_model.specs.Plain.{made}
use Rattle.ucon_model.specs.Views.{reply_of}
use Rattle.ucon_board.specs.declared.shown.Post.{Post}
use Rattle.ucon_board.proofs.writer.post.Goals as goal

pub returns-clause-ok : goal.returns-clause-ok
returns-clause-ok c =
    let post : Post = record { mark = record { place = c.args.place; head = c.in-Made.head; revoked = c.in_ok-from_slice.field-0 }; seen = c.again.result } in
    let pending : drop c.append.new.self.behind c.append.new.self.log.items ≡ drop c.args.inner.now.behind c.args.inner.now.log.items ++ post ∷ [] = search rules in
    record {
      post = post;
      mark = (refl, ap (made c.in-Made.head) (c.in_ok-from_slice.ensures.items ∙ c.slice.ensures) ∙ sym (ap reply_of c.in-Made.is));
      seen = c.again.ensures;
      book = c.in_ok-told.ensures.0;
      log = c.in_ok-told.ensures.1;
      pending = pending;
    }
