use Rattle.std.proofs.Common.{◌≡◌, ◌++◌, ◌<◌, length, map, refl, sym, arith}
use Rattle.std.specs.Prelude.{option_map, option_to_list}
use Rattle.std.proofs.lemmas.List.{append-nil, map-append}
use Rattle.std.proofs.lemmas.Result.{err_from_is_err_and}
use Rattle.ucon_script.specs.Document.{spelled_line}
use Rattle.ucon_script.proofs.Scripts.{kept, shorter, line_refused, all_told}
use Rattle.ucon_script.proofs.read.script_from.Goals as goal

pub returns-in_err-line : goal.returns-in_err-line
returns-in_err-line c =
    let p = err_from_is_err_and c.from_residual.result c.from_residual.ensures.1 in
    rw (p.1, p.2) (line_refused _ _ _ _ c.loop-rest.rest.now c.args.number c.args.text.now _ c.loop-rest.invariant.told (rw c.cut.ensures.front at c.in_err-line.ensures.told))

pub loop-rest-preserved-in_ok-push : goal.loop-rest-preserved-in_ok-push
loop-rest-preserved-in_ok-push c =
    let some : 0 < length c.loop-rest.rest.now = grind arith in
    let grown : map spelled_line c.push.new.self.items ≡ map spelled_line c.loop-rest.lines.items ++ option_to_list (option_map spelled_line c.in_ok-line.field-0) =
    rw (c.in_ok-push.ensures.ok, map-append, c.in-Some.is) refl in
    record {
      told = kept _ _ _ _ _ _ _ _ c.loop-rest.rest.now _ _ _ _ c.loop-rest.invariant.told c.cut.ensures.front c.cut.ensures.back
          c.in_ok-line.ensures.told grown c.in_ok-line.ensures.number c.in_ok-line.ensures.client c.in_ok-line.ensures.said;
      room = omega (arith, c.loop-rest.invariant.room, shorter c.loop-rest.rest.now _ c.cut.ensures.back some, c.in_ok-line.ensures.number);
    }

pub loop-rest-preserved : goal.loop-rest-preserved
loop-rest-preserved c =
    let some : 0 < length c.loop-rest.rest.now = grind arith in
    let grown : map spelled_line c.loop-rest.lines.items ≡ map spelled_line c.loop-rest.lines.items ++ option_to_list (option_map spelled_line c.in_ok-line.field-0) =
    rw c.in_default.is (sym (append-nil (map spelled_line c.loop-rest.lines.items))) in
    record {
      told = kept _ _ _ _ _ _ _ _ c.loop-rest.rest.now _ _ _ _ c.loop-rest.invariant.told c.cut.ensures.front c.cut.ensures.back
          c.in_ok-line.ensures.told grown c.in_ok-line.ensures.number c.in_ok-line.ensures.client c.in_ok-line.ensures.said;
      room = omega (arith, c.loop-rest.invariant.room, shorter c.loop-rest.rest.now _ c.cut.ensures.back some, c.in_ok-line.ensures.number);
    }

pub returns : goal.returns
returns c =
    let none : length c.loop-rest.rest.now ≡ 0 = grind arith in
    all_told _ _ _ _ c.loop-rest.rest.now c.args.number c.args.text.now c.loop-rest.invariant.told none
