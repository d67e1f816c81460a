use Rattle.std.proofs.Common.{◌≡◌, ◌+◌, [], ◌∷◌, ◌++◌, drop, length, length-append, ap, sym, ◌∙◌, subst, arith}
use Rattle.ucon_model.specs.Plain.{PlainReply}
use Rattle.ucon_model.specs.Views.{reply_of}
use Rattle.ucon_board.specs.declared.history.Published.{Published}
use Rattle.ucon_board.specs.Board.{NamesSessions, Written, place_of, posted}
use Rattle.ucon_board.specs.Rule.{Told}
use Rattle.ucon_board.specs.Told.{board_of, replied}
use Rattle.ucon_board.proofs.Boards.{posted_more, room_left}
use Rattle.ucon_board.proofs.Keeping.{sees, tied_on}
use Rattle.ucon_board.proofs.writer.BoardWriter.publish.Goals as goal

pub post-requires-clause-room : goal.post-requires-clause-room
post-requires-clause-room g c =
    let board = ap (λ (v : Written). v.board) c.self.view_is in
    omega (arith, room_left c.self.inside.history.told.log c.args.self.board c.args.place c.self.invariant.opened board c.requires.place, c.ranges.place)

pub publish_as-inner-requires : goal.publish_as-inner-requires
publish_as-inner-requires g c next is =
    let x = c.post.new.inner.desk.shown.value in
    let ok = c.in-Ok.ensures.ok in
    let m = ok.post.mark in
    let pending : drop c.post.new.inner.behind c.post.new.inner.log.items ≡ ok.post ∷ [] = ok.pending ∙ ap (λ l. l ++ ok.post ∷ []) c.self.invariant.none_pending in
    let was : x.seen ≡ c.self.inside.history.told = ap (λ d. d.shown.value.seen) c.in-Ok.ensures.desk ∙ c.self.invariant.seen in
    let now = rw pending at is in
    let seen : next.seen ≡ c.in-Ok.told = ap (λ t. t.2) now ∙ ok.seen in
    let log : next.seen.log ≡ x.seen.log ++ replied m ∷ [] = ap (λ (s : Told). s.log) seen ∙ (ok.log ∙ ap (λ (s : Told). s.log ++ replied m ∷ []) (sym was)) in
    let book : next.seen.book ≡ x.seen.book = ap (λ (s : Told). s.book) seen ∙ (ok.book ∙ ap (λ (s : Told). s.book) (sym was)) in
    let place : m.place ≡ place_of (board_of x.seen.log) + 1 =
    ok.mark.0 ∙ (c.requires.place ∙ (ap (λ (v : Written). place_of v.board + 1) (sym c.self.view_is) ∙ ap (λ (s : Told). place_of (board_of s.log) + 1) (sym was))) in
    let each : NamesSessions (reply_of c.args.reply.now) = c.requires.sessions in
    sees _ _ x next (tied_on x next m (ap (λ t. t.0) now) (ap (λ t. t.1) now) log place (subst NamesSessions (sym ok.mark.1) each)) book (replied m ∷ [], sym log)

pub go_on-requires-clause-longer : goal.go_on-requires-clause-longer
go_on-requires-clause-longer g c =
    let old = c.self.inside.history.told.log in
    let ok = c.in-Ok.ensures.ok in
    let one : length c.in-Ok.told.log ≡ length old + 1 = ap length ok.log ∙ length-append old (replied ok.post.mark ∷ []) in
    let board = ap (λ (v : Written). v.board) c.self.view_is in
    (one, omega (arith, one, room_left old c.args.self.board c.args.place c.self.invariant.opened board c.requires.place, c.ranges.place))

pub returns : goal.returns
returns g c =
    let old = c.self.inside.history.told in
    let ok = c.in-Ok.ensures.ok in
    let p : Published = record { head = ok.post.mark.head; revoked = ok.post.mark.revoked.items } in
    let reply = reply_of c.args.reply.now in
    let told : c.go_on.new.self.told ≡ c.in-Ok.told = c.go_on.ensures in
    let which : c.go_on.new.self.told.book ≡ c.args.self.which = ap (λ (s : Told). s.book) told ∙ (ok.book ∙ ap (λ (v : Written). v.which) c.self.view_is) in
    let board : board_of c.go_on.new.self.told.log ≡ posted c.args.self.board reply =
    ap (λ (s : Told). board_of s.log) told ∙ (ap board_of ok.log ∙ (posted_more old.log p c.self.invariant.opened
    ∙ (ap (λ (r : PlainReply). posted (board_of old.log) r) ok.mark.1 ∙ ap (λ (v : Written). posted v.board reply) c.self.view_is))) in
    let still : c.self.inside.still ≡ c.args.self.still = ap (λ (v : Written). v.still) c.self.view_is in
    λ i. record { which = which i; board = board i; still = still i }
