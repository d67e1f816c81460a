use Rattle.std.proofs.Common.{◌≡◌, ℕ, ◌∙◌, ◌≤◌, ap, subst, ◌++◌, drop, List, length, ◌+◌, arith}
use Rattle.std.specs.Str.{bytes_eq}
use Rattle.indexmap.specs.IndexMap.{insert_entry}
use Rattle.ucon_model.specs.Checked.{checked_policy}
use Rattle.ucon_model.specs.Plain.{Bytes}
use Rattle.ucon_state.specs.Applied.{laid_from}
use Rattle.ucon_state.specs.Tables.{entities_of, width}
use Rattle.ucon_state.specs.Views.{lists_of}
use Rattle.ucon_state.proofs.Laying.{all_cells_added, all_laid, cells_of_one, its_cells_added, one_more_laid}
use Rattle.ucon_state.proofs.layout.lay.Goals as goal

pub keep_cells-requires : goal.keep_cells-requires
keep_cells-requires c =
    cells_of_one (checked_policy c.args.old.now) (lists_of c.args.tables.now) c.args.side c.loop-i.i c.entity-entity.result c.requires.there c.entity-entity.ensures

pub loop-i-preserved : goal.loop-i-preserved
loop-i-preserved c =
    let P = checked_policy c.args.old.now in
    let Q = checked_policy c.args.new.now in
    let t = lists_of c.args.tables.now in
    let es = entities_of c.args.side t in
    let cells = c.loop-i.cells.items in
    let more = c.keep_cells.new.cells.items in
    let first = length c.args.cells.now.items in
    let behind : c.len-first.result ≡ length cells = omega (arith, c.len-first.ensures, c.loop-i.cells.ok.0) in
    record {
      entities =
          ap (λ (d : List (Bytes × ℕ)). d ++ laid_from (length more) (width Q c.args.side) (drop (c.loop-i.i + 1) es))
          (c.in_ok-insert.ensures.entries ∙ ap (insert_entry bytes_eq c.loop-i.laid.entries c.entity-entity.result.0) behind)
          ∙ one_more_laid P Q t.cells c.args.side es c.loop-i.laid.entries cells more first c.loop-i.i c.entity-entity.result c.requires.differ c.entity-entity.ensures c.in_ok-keep_cells.ensures c.loop-i.invariant.entities;
      cells =
          its_cells_added P Q t.cells c.args.side es c.loop-i.laid.entries cells more first c.loop-i.i c.entity-entity.result _ c.entity-entity.ensures c.in_ok-keep_cells.ensures c.loop-i.invariant.cells;
    }

pub returns-clause-entities : goal.returns-clause-entities
returns-clause-entities c =
    let es = entities_of c.args.side (lists_of c.args.tables.now) in
    let past : length c.entities.result.now.entries ≤ c.loop-i.i = omega (arith, c.loop-i-test.false, c.len-i-end.ensures.len) in
    all_laid es c.loop-i.laid.entries _ (length c.loop-i.cells.items) (width (checked_policy c.args.new.now) c.args.side) c.loop-i.i
    (subst (λ (es : List (Bytes × ℕ)). length es ≤ c.loop-i.i) c.entities.ensures past) c.loop-i.invariant.entities

pub returns-clause-cells : goal.returns-clause-cells
returns-clause-cells c =
    let t = lists_of c.args.tables.now in
    let past : length c.entities.result.now.entries ≤ c.loop-i.i = omega (arith, c.loop-i-test.false, c.len-i-end.ensures.len) in
    all_cells_added (checked_policy c.args.old.now) (checked_policy c.args.new.now) t.cells c.args.side (entities_of c.args.side t) c.loop-i.cells.items _ c.loop-i.i
    (subst (λ (es : List (Bytes × ℕ)). length es ≤ c.loop-i.i) c.entities.ensures past) c.loop-i.invariant.cells
