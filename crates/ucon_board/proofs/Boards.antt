-- How the boards of histories go on from each other.
use Rattle.std.proofs.Common.{◌≡◌, ◌⊎◌, inl, inr, Bool, false, nat_le, ℕ, suc, ◌+◌, ◌≤◌, List, [], ◌∷◌, ◌++◌, map, length, length-append, refl, ap, sym, ◌∙◌, arith, true}
use Rattle.std.proofs.lemmas.Bool.Decides.{nat_tests}
use mathlib.Core.List.{IsPrefix}
use Rattle.ucon_model.specs.declared.session.SessionState.{SessionState}
use Rattle.ucon_board.specs.declared.history.Published.{Published}
use Rattle.ucon_board.specs.declared.history.Event.{Event}
use Rattle.ucon_board.specs.declared.history.Event.TheVariants.{Opened, Replied}
use Rattle.ucon_board.specs.Board.{Board, GoesOn, place_of, posted}
use Rattle.ucon_board.specs.Told.{events, reply_in, replies_in, board_of, IsOpened, IsCounted}
use Rattle.ucon_board.proofs.Prefixes.{prefix_shorter, prefix_whole}

replies_append : (xs ys : List Event) → replies_in (xs ++ ys) ≡ replies_in xs ++ replies_in ys
replies_append [] ys = refl
replies_append (Opened place sessions ∷ xs) ys = replies_append xs ys
replies_append (Replied p ∷ xs) ys = ap (λ l. reply_in p ∷ l) (replies_append xs ys)

replies_count : (rs : List Published) → length (replies_in (map Replied rs)) ≡ length rs
replies_count [] = refl
replies_count (r ∷ rs) = ap suc (replies_count rs)

events_count : (rs : List Published) → length (map Replied rs) ≡ length rs
events_count [] = refl
events_count (r ∷ rs) = ap suc (events_count rs)

counted_at : (place : ℕ) (sessions : List SessionState) (rs : List Published) → length (board_of (events place sessions rs)).replies + 1 ≡ length (events place sessions rs)
counted_at place sessions rs = omega (arith, replies_count rs, events_count rs)

-- a history has its opening and one event for each reply
pub opened_count : (log : List Event) → IsOpened log → length (board_of log).replies + 1 ≡ length log
opened_count log o = rw o.3 (counted_at o.0 o.1 o.2)

goes_on_from : (place : ℕ) (sessions : List SessionState) (rs : List Published) (more : List Event) → GoesOn (board_of (events place sessions rs)) (board_of (events place sessions rs ++ more))
goes_on_from place sessions rs more = record { opened_at = refl; sessions = refl; replies = (replies_in more, sym (replies_append (map Replied rs) more)) }

-- a longer history goes on from one that begins it
pub longer_goes_on : (log more : List Event) → IsOpened log → IsPrefix log more → GoesOn (board_of log) (board_of more)
longer_goes_on log more o p = rw (sym p.1) (rw o.3 (goes_on_from o.0 o.1 o.2 p.0))

snoc_map : (rs : List Published) (r : Published) → map Replied rs ++ Replied r ∷ [] ≡ map Replied (rs ++ r ∷ [])
snoc_map [] r = refl
snoc_map (x ∷ rs) r = ap (λ l. Replied x ∷ l) (snoc_map rs r)

-- one reply more is a history again
pub opened_more : (log : List Event) (p : Published) → IsOpened log → IsOpened (log ++ Replied p ∷ [])
opened_more log p o = (o.0, o.1, o.2 ++ p ∷ [], ap (λ l. l ++ Replied p ∷ []) o.3 ∙ ap (λ l. Opened o.0 o.1 ∷ l) (snoc_map o.2 p))

posted_at : (place : ℕ) (sessions : List SessionState) (rest : List Event) (p : Published) → board_of ((Opened place sessions ∷ rest) ++ Replied p ∷ []) ≡ posted (board_of (Opened place sessions ∷ rest)) (reply_in p)
posted_at place sessions rest p = ap (λ l. record { opened_at = place; sessions = sessions; replies = l }) (replies_append rest (Replied p ∷ []))

pub posted_more : (log : List Event) (p : Published) → IsOpened log → board_of (log ++ Replied p ∷ []) ≡ posted (board_of log) (reply_in p)
posted_more log p o = rw o.3 (posted_at o.0 o.1 (map Replied o.2) p)

same_board : (a b : Board) → a.opened_at ≡ b.opened_at → a.sessions ≡ b.sessions → a.replies ≡ b.replies → a ≡ b
same_board a b p q r i = record { opened_at = p i; sessions = q i; replies = r i }

-- a board that goes on from another and is at its place is that board
pub same_place : (a b : Board) → GoesOn a b → place_of b ≤ place_of a → b ≡ a
same_place a b g le = same_board b a g.opened_at g.sessions (sym (prefix_whole a.replies b.replies g.replies (omega (arith, g.opened_at))))

-- no board goes on from one at a higher place
pub no_lower : (a b : Board) → GoesOn a b → place_of a ≤ place_of b
no_lower a b g = omega (arith, g.opened_at, length-append a.replies g.replies.0, ap length g.replies.1)

-- at the opening the word has counted none
pub opens_counted : (place : ℕ) (sessions : List SessionState) → IsCounted ((0, true) ∷ []) (events place sessions [])
opens_counted place sessions = record { opened = (place, sessions, [], refl); count = 0; words = refl; counted = refl }

met : (a b whole : List Event) → IsOpened a → IsOpened b → IsPrefix a whole → IsPrefix b whole → (t : Bool) → nat_le (length a) (length b) ≡ t
    → GoesOn (board_of a) (board_of b) ⊎ GoesOn (board_of b) (board_of a)
met a b whole o p q r true is = inl (longer_goes_on a b o (prefix_shorter a b whole q r (grind (arith, nat_tests))))
met a b whole o p q r false is = inr (longer_goes_on b a p (prefix_shorter b a whole r q (grind (arith, nat_tests))))

-- of two beginnings of one history the longer goes on from the other
pub beginnings_meet : (a b whole : List Event) → IsOpened a → IsOpened b → IsPrefix a whole → IsPrefix b whole → GoesOn (board_of a) (board_of b) ⊎ GoesOn (board_of b) (board_of a)
beginnings_meet a b whole o p q r = met a b whole o p q r (nat_le (length a) (length b)) refl

-- a history is no longer than the place behind it
pub room_left : (log : List Event) (b : Board) (place : ℕ) → IsOpened log → board_of log ≡ b → place ≡ place_of b + 1 → length log ≤ place
room_left log b place o is next = omega (arith, opened_count log o, ap (λ (c : Board). length c.replies) is, next)
