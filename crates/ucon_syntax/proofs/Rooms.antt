-- Rooms that are left, beside what was counted.
use Rattle.std.specs.Prelude.{⊤}
use Rattle.std.proofs.Common.{◌≡◌, ℕ, suc, ◌+◌, ◌-◌, ◌<◌, ◌≤◌, ◌==◌, Bool, true, false, cond, ◌⊎◌, inl, inr, List, [], ◌∷◌, drop, Option, Some, None, option_map, Ok, codes, refl, sym, ap, ◌∙◌, arith, nat_lt, subst}
use Rattle.std.proofs.lemmas.Bool.Decides.{nat_tests}
use Rattle.ucon_base.specs.declared.value.Side.{Side}
use Rattle.ucon_base.specs.declared.value.Side.TheVariants as sides
use Rattle.ucon_model.specs.declared.policy.Phase.{Phase}
use Rattle.ucon_model.specs.declared.policy.Phase.TheVariants as phases
use Rattle.ucon_model.specs.declared.policy.When.{When}
use Rattle.ucon_model.specs.declared.policy.When.TheVariants as whens
use Rattle.ucon_base.specs.Tokens.{Token}
use Rattle.ucon_model.specs.Forms.{Terminal, as_token, Limit, item, Marked, beyond, mapped, one_of, IsClean}
use Rattle.ucon_model.specs.Grammar.{side_token, SideCount, of_side, count_side, phase_token, PhaseCount, of_phase, count_phase, when_token, WhenCount, of_when, count_when}
use Rattle.ucon_model.specs.Spells.{Stands}
use Rattle.ucon_token.specs.declared.stop.Cause.TheVariants.{Unexpected, TooMany}
use Rattle.ucon_token.specs.Tokens.{first, is_word}
use Rattle.ucon_token.specs.Reading.{◌>>=◌, taken}
use Rattle.ucon_syntax.specs.declared.room.Room.{Room as Left}
use Rattle.ucon_syntax.specs.Starts.{side_of, phase_of, when_of}
use Rattle.ucon_syntax.specs.Items.{side_number, phase_number, when_number, less, take, with_room, counted}
use Rattle.ucon_syntax.proofs.Steps.{chosen}
use Rattle.ucon_syntax.proofs.Local.{Runs, gives, halts, past, by_first}
use Rattle.ucon_syntax.proofs.Sound.{Sound, Anything, unless_passed, picked, sound_same, sound_mapped, sound_picked, sound_taken}
use Rattle.ucon_syntax.proofs.Chained.{mark_is}
use Rattle.ucon_syntax.proofs.Words.{is_word_is, no_mark}

-- ---- marks

item_stands : (t : Terminal) (u : Token) → Stands item t u → u ≡ as_token t
item_stands t u (inl e) = e
item_stands t u (inr e) = absurd e

as_item : (l : Limit) (t : Terminal) (u : Token) → l ≡ item → Stands l t u → Stands item t u
as_item l t u e s = let P : Limit → Type 0 = λ m. Stands m t u in subst P e s

pub item_alone : (most n : ℕ) (t : Terminal) (l : Limit) → beyond item most n ≡ Some l → (u : Token) → Stands l t u → u ≡ as_token t
item_alone most n t l e u s = item_stands t u (as_item l t u (mark_is item (nat_lt n most) l e) s)

pub clean_first : (t : Terminal) (o : Option Limit) (ms : List Marked) → IsClean ((t, o) ∷ ms) → o ≡ None
clean_first t None ms c = refl
clean_first t (Some l) ms c = absurd c

below_by : (b : Bool) (l : Limit) → (let o : Option Limit = cond b None (Some l) in o) ≡ None → b ≡ true
below_by true l e = refl
below_by false l e = absurd cc

pub below_most : (most n : ℕ) → beyond item most n ≡ None → n < most
below_most most n e = let h : nat_lt n most ≡ true = below_by (nat_lt n most) item e in grind (arith, nat_tests)

-- ---- a token and the room that it takes

abbrev pub Room : {S : Type 0} → Option S → Option Limit → S → Type 0
Room taken passes left = ((taken ≡ Some left) × (passes ≡ None)) ⊎ ((taken ≡ None) × (passes ≡ Some item))

counted_is : {B S : Type 0} (take : B → S → Option S) (room : S) (passes : B → Option Limit) (left : B → S) → ((b : B) → Room (take b room) (passes b) (left b)) → (o : Option B) (ts : List Token) → counted take room o ts ≡ (picked passes o ts >>= λ b. Ok ((b.0, left b.0), b.1))
counted_is take room passes left rooms None ts = refl
counted_is take room passes left rooms (Some b) ts = elim (rooms b) [
  | inl (t, p) ↦ ap (λ z. with_room b z ts) t ∙ sym (ap (λ m. unless_passed m b ts >>= λ b. Ok ((b.0, left b.0), b.1)) p)
  | inr (t, p) ↦ ap (λ z. with_room b z ts) t ∙ sym (ap (λ m. unless_passed m b ts >>= λ b. Ok ((b.0, left b.0), b.1)) p)
]

not_zero : (k m : ℕ) → k ≡ suc m → (k == 0) ≡ false
not_zero k m e = grind (arith, nat_tests)

some_less : (k m : ℕ) → k ≡ suc m → less k ≡ Some m
some_less k m e =
    let h : (k == 0) ≡ false = not_zero k m e in
    let j : k - 1 ≡ m = omega (arith, e) in
    rw (h, j) refl

none_less : (k : ℕ) → k ≡ 0 → less k ≡ None
none_less k e = rw e refl

is_below : (n : ℕ) → nat_lt n 16 ≡ true → n < 16
is_below n e = grind (arith, nat_tests)

is_above : (n : ℕ) → nat_lt n 16 ≡ false → 16 ≤ n
is_above n e = grind (arith, nat_tests)

abbrev Rest : ℕ → Type 0
Rest n = ((less (16 - n) ≡ Some (16 - (n + 1))) × (nat_lt n 16 ≡ true)) ⊎ ((less (16 - n) ≡ None) × (nat_lt n 16 ≡ false))

rest_by : (n : ℕ) (b : Bool) → nat_lt n 16 ≡ b → Rest n
rest_by n true e = inl (some_less (16 - n) (16 - (n + 1)) (omega (arith, is_below n e)), e)
rest_by n false e = inr (none_less (16 - n) (omega (arith, is_above n e)), e)

rest_of : (n : ℕ) → Rest n
rest_of n = rest_by n (nat_lt n 16) refl

room_by : {S : Type 0} (n : ℕ) (left : ℕ → S) → Room (option_map left (less (16 - n))) (beyond item 16 n) (left (16 - (n + 1)))
room_by n left = elim (rest_of n) [
  | inl (a, b) ↦ inl (ap (option_map left) a, ap (λ c. cond c None (Some item)) b)
  | inr (a, b) ↦ inr (ap (option_map left) a, ap (λ c. cond c None (Some item)) b)
]

-- ---- sides

abbrev pub side_room : SideCount → Left
side_room n = record { left = (16 - n.subject) ∷ (16 - n.object) ∷ 16 ∷ 16 ∷ [] }

side_rooms : (n : SideCount) (side : Side) → Room (take (side_number side) (side_room n)) (beyond item 16 (of_side n side)) (side_room (count_side n side))
side_rooms n sides.Subject = room_by n.subject (λ k. record { left = k ∷ (16 - n.object) ∷ 16 ∷ 16 ∷ [] })
side_rooms n sides.Object = room_by n.object (λ k. record { left = (16 - n.subject) ∷ k ∷ 16 ∷ 16 ∷ [] })

side_is : (ts : List Token) (side : Side) → side_of (first ts) ≡ Some side → ts ≡ as_token (side_token side) ∷ drop 1 ts
unfolding side_of
side_is ts side e =
    elim (chosen (is_word (first ts) (codes "s")) (Some sides.Subject) (cond (is_word (first ts) (codes "o")) (Some sides.Object) None) (Some side) e) [
      | inl (b, is) ↦ let h : sides.Subject ≡ side = cc in is_word_is ts (codes "s") b ∙ ap (λ z. as_token (side_token z) ∷ drop 1 ts) h
      | inr (b, e) ↦ elim (chosen (is_word (first ts) (codes "o")) (Some sides.Object) None (Some side) e) [
        | inl (b, is) ↦ let h : sides.Object ≡ side = cc in is_word_is ts (codes "o") b ∙ ap (λ z. as_token (side_token z) ∷ drop 1 ts) h
        | inr (b, e) ↦ absurd cc
      ]
    ]

side_again : (side : Side) → side_of (as_token (side_token side)) ≡ Some side
unfolding side_of is_word
side_again sides.Subject = refl
side_again sides.Object = refl

pub sound_side : {P : Type 0} → Sound P (one_of side_token (λ side. None) (λ side. ⊤)) Anything (λ ts. taken (side_of (first ts)) ts)
sound_side = sound_taken {pick = side_of} (record { is = side_is; allowed = λ t b e. tt; again = λ b a. side_again b; alone = λ b l e u s. no_mark l e; one = sides.Subject; one_allowed = tt })

pub sound_counted_side : {P : Type 0} (n : SideCount) → Sound P (mapped (λ side. (side, side_room (count_side n side))) (one_of side_token (λ side. beyond item 16 (of_side n side)) (λ side. ⊤))) Anything (λ ts. counted (λ side. take (side_number side)) (side_room n) (side_of (first ts)) ts)
sound_counted_side n =
    sound_same (λ ts. counted (λ side. take (side_number side)) (side_room n) (side_of (first ts)) ts) (λ ts. counted_is (λ side. take (side_number side)) (side_room n) (λ side. beyond item 16 (of_side n side)) (λ side. side_room (count_side n side)) (side_rooms n) (side_of (first ts)) ts)
    (sound_mapped (λ side. (side, side_room (count_side n side))) (sound_picked {pick = side_of} (record { is = side_is; allowed = λ t b e. tt; again = λ b a. side_again b; alone = λ b l e u s. item_alone 16 (of_side n b) (side_token b) l e u s; one = sides.Subject; one_allowed = tt })))

-- ---- phases

abbrev pub phase_room : PhaseCount → Left
phase_room n = record { left = (16 - n.pre) ∷ (16 - n.ongoing) ∷ 16 ∷ 16 ∷ [] }

phase_rooms : (n : PhaseCount) (phase : Phase) → Room (take (phase_number phase) (phase_room n)) (beyond item 16 (of_phase n phase)) (phase_room (count_phase n phase))
phase_rooms n phases.Pre = room_by n.pre (λ k. record { left = k ∷ (16 - n.ongoing) ∷ 16 ∷ 16 ∷ [] })
phase_rooms n phases.Ongoing = room_by n.ongoing (λ k. record { left = (16 - n.pre) ∷ k ∷ 16 ∷ 16 ∷ [] })

pub phase_is : (ts : List Token) (phase : Phase) → phase_of (first ts) ≡ Some phase → ts ≡ as_token (phase_token phase) ∷ drop 1 ts
unfolding phase_of
phase_is ts phase e =
    elim (chosen (is_word (first ts) (codes "pre")) (Some phases.Pre) (cond (is_word (first ts) (codes "on")) (Some phases.Ongoing) None) (Some phase) e) [
      | inl (b, is) ↦ let h : phases.Pre ≡ phase = cc in is_word_is ts (codes "pre") b ∙ ap (λ z. as_token (phase_token z) ∷ drop 1 ts) h
      | inr (b, e) ↦ elim (chosen (is_word (first ts) (codes "on")) (Some phases.Ongoing) None (Some phase) e) [
        | inl (b, is) ↦ let h : phases.Ongoing ≡ phase = cc in is_word_is ts (codes "on") b ∙ ap (λ z. as_token (phase_token z) ∷ drop 1 ts) h
        | inr (b, e) ↦ absurd cc
      ]
    ]

pub phase_again : (phase : Phase) → phase_of (as_token (phase_token phase)) ≡ Some phase
unfolding phase_of is_word
phase_again phases.Pre = refl
phase_again phases.Ongoing = refl

pub sound_counted_phase : {P : Type 0} (n : PhaseCount) → Sound P (mapped (λ phase. (phase, phase_room (count_phase n phase))) (one_of phase_token (λ phase. beyond item 16 (of_phase n phase)) (λ phase. ⊤))) Anything (λ ts. counted (λ phase. take (phase_number phase)) (phase_room n) (phase_of (first ts)) ts)
sound_counted_phase n =
    sound_same (λ ts. counted (λ phase. take (phase_number phase)) (phase_room n) (phase_of (first ts)) ts) (λ ts. counted_is (λ phase. take (phase_number phase)) (phase_room n) (λ phase. beyond item 16 (of_phase n phase)) (λ phase. phase_room (count_phase n phase)) (phase_rooms n) (phase_of (first ts)) ts)
    (sound_mapped (λ phase. (phase, phase_room (count_phase n phase))) (sound_picked {pick = phase_of} (record { is = phase_is; allowed = λ t b e. tt; again = λ b a. phase_again b; alone = λ b l e u s. item_alone 16 (of_phase n b) (phase_token b) l e u s; one = phases.Pre; one_allowed = tt })))

-- ---- phases of updates

abbrev pub when_room : WhenCount → Left
when_room n = record { left = (16 - n.before_usage) ∷ (16 - n.during_usage) ∷ (16 - n.after_end) ∷ (16 - n.after_revoke) ∷ [] }

when_rooms : (n : WhenCount) (when : When) → Room (take (when_number when) (when_room n)) (beyond item 16 (of_when n when)) (when_room (count_when n when))
when_rooms n whens.Before = room_by n.before_usage (λ k. record { left = k ∷ (16 - n.during_usage) ∷ (16 - n.after_end) ∷ (16 - n.after_revoke) ∷ [] })
when_rooms n whens.During = room_by n.during_usage (λ k. record { left = (16 - n.before_usage) ∷ k ∷ (16 - n.after_end) ∷ (16 - n.after_revoke) ∷ [] })
when_rooms n whens.AfterEnd = room_by n.after_end (λ k. record { left = (16 - n.before_usage) ∷ (16 - n.during_usage) ∷ k ∷ (16 - n.after_revoke) ∷ [] })
when_rooms n whens.AfterRevoke = room_by n.after_revoke (λ k. record { left = (16 - n.before_usage) ∷ (16 - n.during_usage) ∷ (16 - n.after_end) ∷ k ∷ [] })

pub when_is : (ts : List Token) (when : When) → when_of (first ts) ≡ Some when → ts ≡ as_token (when_token when) ∷ drop 1 ts
unfolding when_of
when_is ts when e =
    elim (chosen (is_word (first ts) (codes "before")) (Some whens.Before) (cond (is_word (first ts) (codes "during")) (Some whens.During) (cond (is_word (first ts) (codes "after_end")) (Some whens.AfterEnd) (cond (is_word (first ts) (codes "after_revoke")) (Some whens.AfterRevoke) None))) (Some when) e) [
      | inl (b, is) ↦ let h : whens.Before ≡ when = cc in is_word_is ts (codes "before") b ∙ ap (λ z. as_token (when_token z) ∷ drop 1 ts) h
      | inr (b, e) ↦ elim (chosen (is_word (first ts) (codes "during")) (Some whens.During) (cond (is_word (first ts) (codes "after_end")) (Some whens.AfterEnd) (cond (is_word (first ts) (codes "after_revoke")) (Some whens.AfterRevoke) None)) (Some when) e) [
        | inl (b, is) ↦ let h : whens.During ≡ when = cc in is_word_is ts (codes "during") b ∙ ap (λ z. as_token (when_token z) ∷ drop 1 ts) h
        | inr (b, e) ↦ elim (chosen (is_word (first ts) (codes "after_end")) (Some whens.AfterEnd) (cond (is_word (first ts) (codes "after_revoke")) (Some whens.AfterRevoke) None) (Some when) e) [
          | inl (b, is) ↦ let h : whens.AfterEnd ≡ when = cc in is_word_is ts (codes "after_end") b ∙ ap (λ z. as_token (when_token z) ∷ drop 1 ts) h
          | inr (b, e) ↦ elim (chosen (is_word (first ts) (codes "after_revoke")) (Some whens.AfterRevoke) None (Some when) e) [
            | inl (b, is) ↦ let h : whens.AfterRevoke ≡ when = cc in is_word_is ts (codes "after_revoke") b ∙ ap (λ z. as_token (when_token z) ∷ drop 1 ts) h
            | inr (b, e) ↦ absurd cc
          ]
        ]
      ]
    ]

pub when_again : (when : When) → when_of (as_token (when_token when)) ≡ Some when
unfolding when_of is_word
when_again whens.Before = refl
when_again whens.During = refl
when_again whens.AfterEnd = refl
when_again whens.AfterRevoke = refl

pub sound_counted_when : {P : Type 0} (n : WhenCount) → Sound P (mapped (λ when. (when, when_room (count_when n when))) (one_of when_token (λ when. beyond item 16 (of_when n when)) (λ when. ⊤))) Anything (λ ts. counted (λ when. take (when_number when)) (when_room n) (when_of (first ts)) ts)
sound_counted_when n =
    sound_same (λ ts. counted (λ when. take (when_number when)) (when_room n) (when_of (first ts)) ts) (λ ts. counted_is (λ when. take (when_number when)) (when_room n) (λ when. beyond item 16 (of_when n when)) (λ when. when_room (count_when n when)) (when_rooms n) (when_of (first ts)) ts)
    (sound_mapped (λ when. (when, when_room (count_when n when))) (sound_picked {pick = when_of} (record { is = when_is; allowed = λ t b e. tt; again = λ b a. when_again b; alone = λ b l e u s. item_alone 16 (of_when n b) (when_token b) l e u s; one = whens.Before; one_allowed = tt })))

-- ---- runs

room_runs : {B S : Type 0} (b : B) (o : Option S) → Runs (with_room b o)
room_runs b None = halts TooMany
room_runs b (Some left) = past (gives (b, left))

pub counted_runs : {B S : Type 0} (take : B → S → Option S) (room : S) (pick : Token → Option B) → Runs (λ ts. counted take room (pick (first ts)) ts)
counted_runs {B} take room pick = by_first pick (counted take room) each
  where
    each : (o : Option B) → Runs (counted take room o)
    each None = halts Unexpected
    each (Some b) = record { program = (room_runs b (take b room)).program; same = (room_runs b (take b room)).same }
