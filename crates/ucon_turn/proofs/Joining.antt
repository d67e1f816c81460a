-- Two seats that are joined keep the rule.
use Rattle.std.proofs.Common.{◌≡◌, ◌≢◌, ℕ, List, [], ◌∷◌, length, set, sym, ap, ◌∙◌, subst, ⊎_elim, arith, length-set}
use Rattle.std.specs.Prelude.{Option}
use Rattle.std.proofs.lemmas.List.{append-nil}
use mathlib.Core.Option.{some}
use lib.ListN.{get_elem?}
use Rattle.atomic_table.specs.Table.{State, Joins}
use Rattle.atomic_table.proofs.Lists.{set_else}
use Rattle.ucon_turn.specs.declared.table.SeatView.{SeatView}
use Rattle.ucon_turn.specs.declared.table.Stage.TheVariants.{Idle}
use Rattle.ucon_turn.specs.Lists.{Begins, ByOthers, longer, begins_trans}
use Rattle.ucon_turn.specs.Rule.{rank, weight, IsLive, Fits, Ruled, spent, joined}
use Rattle.ucon_base.specs.Elements.{each_both}
use Rattle.ucon_turn.proofs.Lists.{continues_map, between, longer_is}
use Rattle.ucon_turn.proofs.Seats.{Places, places_set, Pairs, pairs_set, set_swap, tickets_set, spot_set}
use Rattle.ucon_turn.proofs.Rounds.{away, resting, LiveApart}

-- two beginnings of a list begin the longer of them, which begins the list
both_begin : {A : Type 0} (xs ys zs : List A) → Begins xs zs → Begins ys zs → Begins xs (longer xs ys) × Begins ys (longer xs ys) × Begins (longer xs ys) zs
both_begin {A} xs ys zs p q =
    ⊎_elim
    (λ (h : (longer xs ys ≡ xs) × Begins ys xs). (subst (Begins xs) (sym h.0) ([], append-nil xs), subst (Begins ys) (sym h.0) h.1, subst (λ (l : List A). Begins l zs) (sym h.0) p))
    (λ (h : (longer xs ys ≡ ys) × Begins xs ys). (subst (Begins xs) (sym h.0) h.1, subst (Begins ys) (sym h.0) ([], append-nil ys), subst (λ (l : List A). Begins l zs) (sym h.0) q))
    (longer_is xs ys zs p q)

module _ {E N : Type 0} (caller : N → ℕ) (led_to : E → E → Type 0) (entries : E → List N) (about : E) where
  -- two seats are idle
  module _ (s : State (Option E) (SeatView E N)) (r : Ruled caller led_to entries about s) (id : ℕ) (v : SeatView E N) (other : ℕ) (w : SeatView E N) (at : get_elem? s.views id ≡ some v) (here : get_elem? s.views other ≡ some w) (idle : v.stage ≡ Idle) (idle' : w.stage ≡ Idle) where
    lives : IsLive v
    lives = let ranks : rank v.stage ≡ 1 = ap rank idle in omega arith

    lives' : IsLive w
    lives' = let ranks : rank w.stage ≡ 1 = ap rank idle' in omega arith

    joined_fits : IsLive (joined v w) → Fits caller entries about r.log r.given r.served r.drawn id (joined v w)
    joined_fits _ =
        let f = (r.each id v at lives).knows in
        let g = (r.each other w here lives').knows in
        let seen : List N = longer v.seen w.seen in
        let Mine : N → Type 0 = ByOthers caller v.number v.taken in
        let Others : N → Type 0 = ByOthers caller w.number [] in
        let all = both_begin v.seen w.seen r.log (f.own.0, f.own.1) (g.own.0, g.own.1) in
        let mine = between Mine v.seen seen r.log all.0 all.2 f.own in
        let others = between Others w.seen seen r.log all.1 all.2 (continues_map (ByOthers caller w.number w.taken) Others (λ e h. (h.0, tt)) w.seen r.log g.own) in record {
          knows = record {
            opened_is = f.opened_is;
            begins = begins_trans (entries about) v.seen seen f.begins all.0;
            own = (all.2.0, all.2.1, each_both Mine Others (ByOthers caller v.number (w.number ∷ v.taken)) (λ e a b. (a.0, (b.0, a.1))) all.2.0 mine.1 others.1);
            listed = f.listed;
            back = (g.listed, f.back);
            zeroth = f.zeroth;
          };
          stands = resting r.served r.drawn r.log (joined v w) (omega arith);
          meets = λ _. ((all.0.0, all.0.1, mine.0), (all.1.0, all.1.1, others.0));
        }

    abbrev Beside : ℕ → SeatView E N → Type 0
    Beside j u = j ≢ id → LiveApart (joined v w) u × LiveApart u (joined v w)

    beside : Places (λ j u. j ≢ other → Beside j u) s.views
    beside j u e far near = (
      (λ _ l. let p = (away caller led_to entries about s r id v at lives j u e near l).0 in let q = (away caller led_to entries about s r other w here lives' j u e far l).1 in
          record { numbers = p.numbers; taken = (q.numbers, p.taken); turns = λ out. absurd (omega arith) }),
      (λ l _. let p = (away caller led_to entries about s r id v at lives j u e near l).1 in record { numbers = p.numbers; taken = p.taken; turns = λ _ out. absurd (omega arith) }),
    )

    joined_apart : id ≢ other → Pairs LiveApart (set (set s.views id (joined v w)) other spent)
    joined_apart ne =
        subst (Pairs LiveApart) (set_swap s.views other id spent (joined v w) (λ same. ne (sym same)))
        (pairs_set LiveApart (set s.views other spent) id (joined v w)
        (places_set Beside s.views other spent (λ _. ((λ _ dead. absurd (omega arith)), (λ dead. absurd (omega arith)))) beside)
        (pairs_set LiveApart s.views other spent (λ j u _ _. ((λ dead. absurd (omega arith)), (λ _ dead. absurd (omega arith)))) r.apart))

    join_rule : id ≢ other → get_elem? (set s.views id (joined v w)) other ≡ some w → Ruled caller led_to entries about (record { words = s.words; homes = s.homes; views = set (set s.views id (joined v w)) other spent })
    join_rule ne there =
        let both : SeatView E N = joined v w in
        let FitsNow : ℕ → SeatView E N → Type 0 = λ j u. IsLive u → Fits caller entries about r.log r.given r.served r.drawn j u in
        let ranks : rank v.stage ≡ 1 = ap rank idle in
        let ranks' : rank w.stage ≡ 1 = ap rank idle' in
        let weights : weight v.stage ≡ 0 = ap weight idle in
        let weights' : weight w.stage ≡ 0 = ap weight idle' in record {
          drawn = r.drawn;
          served = r.served;
          booked = r.booked;
          log = r.log;
          given = r.given;
          words_are = r.words_are;
          counted = let a = tickets_set s.views id v both at in let b = tickets_set (set s.views id both) other w spent there in let c = r.counted in omega arith;
          long = r.long;
          few = let h = r.few in
              let l : length (set s.views id both) ≡ length s.views = length-set s.views id both in
              let m : length (set (set s.views id both) other spent) ≡ length (set s.views id both) = length-set (set s.views id both) other spent in omega arith;
          small = r.small;
          known = r.known;
          each = places_set FitsNow (set s.views id both) other spent (λ dead. absurd (omega arith)) (λ j u e _. places_set FitsNow s.views id both joined_fits (λ j u e _. r.each j u e) j u e);
          apart = joined_apart ne;
          spot = spot_set led_to entries about r.log (record { words = s.words; homes = s.homes; views = set s.views id both }) s.words other w spent there (omega arith) (omega arith)
              (spot_set led_to entries about r.log s s.words id v both at (omega arith) (omega arith) r.spot);
        }

  pub joins : (id : ℕ) (v : SeatView E N) (other : ℕ) (w : SeatView E N) → v.stage ≡ Idle → w.stage ≡ Idle → Joins (Ruled caller led_to entries about) id v other w (joined v w) spent
  joins id v other w idle idle' s r at ne there = join_rule s r id v other w at (sym (set_else s.views id other (joined v w) ne) ∙ there) idle idle' (λ same. ne (sym same)) there
