use Rattle.std.proofs.Common.{◌≡◌, ◌+◌, ◌-◌, ◌∙◌, None, Some, drop, length, length-drop, take, sym, ap, arith}
use Rattle.std.specs.Prelude.{◌==◌, option_map, position}
use Rattle.std.specs.List.{position_or_len}
use Rattle.std.proofs.lemmas.List.{take_all}
use Rattle.ucon_command.proofs.Payloads.{place_behind}
use Rattle.ucon_command.proofs.payload.first_place.Goals as goal

pub returns-in-Some-clause-place : goal.returns-in-Some-clause-place
returns-in-Some-clause-place c =
    let bytes = c.args.bytes.now in
    let byte = c.args.byte in
    let lacking : position_or_len (λ b. b == byte) (take 16 bytes) ≡ 16 = c.lacks.ensures c.if-not-lacks.false in
    let found : Some c.in-Some.at ≡ position (λ b. b == byte) (drop 16 bytes) =
    sym c.in-Some.is ∙ c.place_among-2.ensures.place
    ∙ ap (position (λ b. b == byte)) (take_all (length bytes - 16) (drop 16 bytes) (omega (arith, length-drop 16 bytes))) in
    ap (option_map (λ i. 16 + i)) found ∙ sym (place_behind byte 16 bytes c.if-bytes-lt16.false lacking)

pub returns-in-None-clause-place : goal.returns-in-None-clause-place
returns-in-None-clause-place c =
    let bytes = c.args.bytes.now in
    let byte = c.args.byte in
    let lacking : position_or_len (λ b. b == byte) (take 16 bytes) ≡ 16 = c.lacks.ensures c.if-not-lacks.false in
    let found : None ≡ position (λ b. b == byte) (drop 16 bytes) =
    sym c.in-None.is ∙ c.place_among-2.ensures.place
    ∙ ap (position (λ b. b == byte)) (take_all (length bytes - 16) (drop 16 bytes) (omega (arith, length-drop 16 bytes))) in
    ap (option_map (λ i. 16 + i)) found ∙ sym (place_behind byte 16 bytes c.if-bytes-lt16.false lacking)
