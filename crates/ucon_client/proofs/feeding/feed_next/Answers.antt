use Rattle.std.proofs.Common.{Global, ◌≡◌, ◌<◌, length, [], ◌∷◌, List, sym, ap, ◌∙◌, subst, arith}
use Rattle.std.specs.Prelude.{Box, Option, IfSome, option_map, option_to_list, slice_index_or, slice_set}
use Rattle.ucon_model.specs.Document.{ScriptLine}
use Rattle.ucon_script.specs.declared.document.Line.{Line}
use Rattle.ucon_script.specs.ComingScript.{Says}
use Rattle.ucon_script.specs.Document.{line_of}
use Rattle.ucon_client.specs.Feeding.{AreFed, fed_with}
use Rattle.ucon_client.specs.Inbox.{Fed}
use Rattle.ucon_client.proofs.Rounds.{one_fed}
use Rattle.ucon_client.proofs.feeding.feed_next.Goals as goal

pub returns-in-Ok-clause-ok : goal.returns-in-Ok-clause-ok
returns-in-Ok-clause-ok g c =
    let k = c.in-Ok-Some.line.caller.0 in
    let same : c.in-Ok.line.value ≡ c.in-Ok-Some.line = c.in-Ok.ensures in
    let told : option_to_list (option_map line_of c.in-Ok-Some.field-0) ≡ line_of c.in-Ok.line.value ∷ [] =
    ap (λ (o : Option Line). option_to_list (option_map line_of o)) c.in-Ok-Some.field-0-is ∙ ap (λ (l : Line). line_of l ∷ []) (sym same) in
    let few : k < 64 = subst (λ (o : Option Line). IfSome o (λ l. l.caller.0 < 64)) c.in-Ok-Some.field-0-is c.in-Ok-Some.ensures.clients in
    let within : k < length c.args.feeders.now = omega (arith, few, c.requires.clients) in
    let fed : c.feed.new.self ≡ fed_with (slice_index_or c.args.feeders.now k c.index-feeders-client.result) (c.in-Ok.line ∷ []) = c.feed.ensures in
    record {
      lines = c.in-Ok.line ∷ [];
      says = subst (λ (t : List ScriptLine). Says g.S.Source.seen c.args.script.now c.next.new.self c.args.source.now c.next.new.source t) told c.in-Ok-Some.ensures.says;
      are_fed = subst (λ (f : Fed (Box Line Global)). AreFed c.args.feeders.now (slice_set c.args.feeders.now k f) (c.in-Ok.line ∷ [])) (sym fed)
          (one_fed c.args.feeders.now k c.in-Ok.line c.index-feeders-client.result (ap (λ (l : Line). l.caller.0) (sym same)) within);
    }
