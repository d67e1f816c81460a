use Rattle.std.proofs.Common.{◌≡◌, [], sym, subst, ap}
use Rattle.std.specs.Prelude.{IfSome, Option}
use Rattle.ucon_board.specs.Board.{Known}
use Rattle.ucon_client.specs.declared.looks.Looks.{Looks}
use Rattle.ucon_client.specs.Answers.{HoldsLooks, IsReaderAt, held_by}
use Rattle.ucon_client.proofs.Starting.{starts_holding, starts_right}
use Rattle.ucon_client.proofs.client.Client.new.Goals.{in-None, in-Some}
use Rattle.ucon_client.proofs.client.Client.new.Goals as goal

pub returns-clause-serves : goal.returns-clause-serves
returns-clause-serves g c = (
  record {
    seated = c.requires.seat.0;
    number = c.requires.seat.1;
    part = c.requires.part.0;
    right = λ says G from.
        starts_right says G c.args.part c.args.turn.now.opened.store c.args.seat.seen c.requires.unmarked c.requires.seen c.requires.part.1;
  },
  elim c.match-reader.branch [
    | in-Some w ↦ (
        let reader = subst (λ (o : Option Known). IfSome o (IsReaderAt c.args.turn.now.opened)) w.in-Some.is c.requires.reader in
        subst (λ (o : Option Looks). IfSome o (HoldsLooks c.args.turn.now c.args.part)) (sym w.looks-is)
        (starts_holding c.args.turn.now c.args.part w.new.result c.requires.part.0 c.requires.part.1
        (subst (IsReaderAt c.args.turn.now.opened) (sym w.new.ensures.0) reader) w.new.ensures.1)
        )
    | in-None w ↦ subst (λ (o : Option Looks). IfSome o (HoldsLooks c.args.turn.now c.args.part)) (sym w.looks-is) tt
  ],
)

pub returns-clause-none_held : goal.returns-clause-none_held
returns-clause-none_held g c =
    elim c.match-reader.branch [
      | in-Some w ↦ subst (λ (o : Option Looks). held_by o ≡ []) (sym w.looks-is) w.new.ensures.1
      | in-None w ↦ ap held_by w.looks-is
    ]

pub returns-clause-alone : goal.returns-clause-alone
returns-clause-alone g c =
    elim c.match-reader.branch [
      | in-Some w ↦ λ none. absurd (cc (none, w.in-Some.is))
      | in-None w ↦ λ _. w.looks-is
    ]
