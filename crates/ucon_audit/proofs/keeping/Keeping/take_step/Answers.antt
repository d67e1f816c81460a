use Rattle.std.proofs.Common.{rules, ◌≡◌, ◌+◌, ◌++◌, ◌∷◌, [], true, None, Some, ap, ◌∙◌}
use Rattle.std.specs.Prelude.{if◌then◌else◌}
use Rattle.ucon_model.specs.History.{trace}
use Rattle.ucon_store.specs.Points.{text_behind}
use Rattle.ucon_audit.specs.declared.keeping.Keeping.{Keeping}
use Rattle.ucon_audit.proofs.Taking.{keeps_more}
use Rattle.ucon_audit.proofs.keeping.Keeping.take_step.Goals as goal

pub returns : goal.returns
returns g c = record {
  taken = λ text P H keeps.
      let e = c.read_entry.new.out in
      let same : c.in_ok-drafts.field-0 ≡ true = search rules in
      let drafted = c.drafts.new.self in
      let rest = c.drafts.ensures.rest in
      let later = c.put_in_force.new.self in
      let put = c.put_in_force.ensures.rest in
      let entries : later.entries ≡ c.args.self.now.entries = ap (λ (k : Keeping g.row.E.Denot). k.entries) put ∙ ap (λ (k : Keeping g.row.E.Denot). k.entries) rest in
      let in_force : later.in_force.items ≡ text_behind c.args.self.now.in_force.items e.command =
      c.in_ok-put_in_force.ensures.text ∙ ap (λ (k : Keeping g.row.E.Denot). text_behind k.in_force.items e.command) rest in (
        e,
        c.in_ok-drafts.ensures.taken P H keeps.stands ∙ ap (λ b. if b then Some (H ++ e ∷ []) else None) same,
        keeps_more g.E.Engine.follows c.args.self.now _ text P H e keeps
            (c.keep.ensures.follows P (trace P H) e (search (rules, c.in_ok-drafts.ensures.pending same P (trace P H) keeps.stands)))
            (ap (λ n. n + 1) entries) in_force,
      );
}
