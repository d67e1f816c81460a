-- A seat that is split keeps the rule.
use Rattle.std.proofs.Common.{◌≡◌, ◌≢◌, ℕ, ◌+◌, ◌<◌, ◌≤◌, List, [], ◌∷◌, ◌++◌, length, set, refl, sym, ap, ◌∙◌, subst, inl, inr, ⊎_elim, arith, length-append, length-set}
use Rattle.std.specs.Prelude.{Option}
use mathlib.Core.Option.{some}
use lib.ListN.{get_elem?}
use Rattle.atomic_table.specs.Table.{State, Splits}
use Rattle.ucon_turn.specs.declared.table.SeatView.{SeatView}
use Rattle.ucon_turn.specs.declared.table.Stage.TheVariants.{Idle}
use Rattle.ucon_base.specs.Elements.{Each, each_map}
use Rattle.ucon_turn.specs.Lists.{Has, ByOthers}
use Rattle.ucon_turn.specs.Rule.{rank, top, IsLive, Knows, Fits, Ruled, parted, child}
use Rattle.ucon_turn.proofs.Lists.{continues_map, between, has_not, top_above}
use Rattle.ucon_turn.proofs.Seats.{Places, places_set, places_snoc, pairs_set, pairs_snoc, tickets_set, tickets_snoc, spot_set, spot_snoc}
use Rattle.ucon_turn.proofs.Rounds.{away, resting, LiveApart}

module _ {E N : Type 0} (caller : N → ℕ) (led_to : E → E → Type 0) (entries : E → List N) (about : E) where
  -- the first seat is idle, and has noted a number above each that it gave
  module _ (s : State (Option E) (SeatView E N)) (r : Ruled caller led_to entries about s) (id : ℕ) (v : SeatView E N) (at : get_elem? s.views id ≡ some v) (idle : v.stage ≡ Idle) (zeroth : v.number ≡ 0) (pos : 0 < v.note) (above : Each (λ k. k < v.note) v.given) where
    abbrev views : List (SeatView E N)
    views = set s.views id (parted v)

    lives : IsLive v
    lives = let ranks : rank v.stage ≡ 1 = ap rank idle in omega arith

    first : (id ≡ 0) × (v.given ≡ r.given)
    first = (r.each id v at lives).knows.zeroth zeroth

    above_all : Each (λ k. k < v.note) r.given
    above_all = subst (Each (λ k. k < v.note)) first.1 above

    new : (k : ℕ) → Has (0 ∷ r.given) k → k ≢ v.note
    new k = has_not v.note k (0 ∷ r.given) (pos, above_all)

    more : (k : ℕ) → Has (0 ∷ r.given) k → Has (0 ∷ v.note ∷ r.given) k
    more k h = ⊎_elim (λ (e : k ≡ 0). inl e) (λ (i : Has r.given k). inr (inr i)) h

    -- what a seat knows, once the number is given
    wider : (j : ℕ) (opened : List E) (number : ℕ) (seen : List N) (given given' taken : List ℕ) → Knows caller entries about r.log r.given j opened number seen given taken
        → (number ≡ 0 → (j ≡ 0) × (given' ≡ v.note ∷ r.given)) → Knows caller entries about r.log (v.note ∷ r.given) j opened number seen given' taken
    wider j opened number seen given given' taken k zeroth = record {
      opened_is = k.opened_is;
      begins = k.begins;
      own = k.own;
      listed = more number k.listed;
      back = each_map (Has (0 ∷ r.given)) (Has (0 ∷ v.note ∷ r.given)) more taken k.back;
      zeroth = zeroth;
    }

    abbrev FitsNow : ℕ → SeatView E N → Type 0
    FitsNow j u = IsLive u → Fits caller entries about r.log (v.note ∷ r.given) r.served r.drawn j u

    child_fits : (j : ℕ) → FitsNow j (child v)
    child_fits j _ =
        let k = (r.each id v at lives).knows in
        let known = between (λ e. Has (0 ∷ r.given) (caller e)) (entries about) v.seen r.log k.begins (k.own.0, k.own.1) r.known in record {
          knows = record {
            opened_is = k.opened_is;
            begins = k.begins;
            own = (k.own.0, k.own.1, each_map (λ e. Has (0 ∷ r.given) (caller e)) (ByOthers caller v.note []) (λ e h. (new (caller e) h, tt)) k.own.0 known.1);
            listed = inr (inl refl);
            back = tt;
            zeroth = λ z. absurd (omega arith);
          };
          stands = resting r.served r.drawn r.log (child v) (omega arith);
          meets = λ e. cc e;
        }

    parted_fits : FitsNow id (parted v)
    parted_fits _ = let f = r.each id v at lives in record {
      knows = wider id v.opened v.number v.seen v.given (v.note ∷ v.given) v.taken f.knows (λ _. (first.0, ap (λ l. v.note ∷ l) first.1));
      stands = record { queued = f.stands.queued; up = f.stands.up; sees_all = f.stands.sees_all };
      meets = λ e. cc (idle, e);
    }

    others_fit : Places (λ j u. j ≢ id → FitsNow j u) s.views
    others_fit j u e ne l = let g = r.each j u e l in record {
      knows = wider j u.opened u.number u.seen u.given u.given u.taken g.knows (λ z. absurd (ne ((g.knows.zeroth z).0 ∙ sym first.0)));
      stands = g.stands;
      meets = g.meets;
    }

    -- no seat has the number, or took it back
    abbrev Fresh : ℕ → SeatView E N → Type 0
    Fresh j u = IsLive u → (u.number ≢ v.note) × Each (λ k. v.note ≢ k) u.taken

    fresh : Places Fresh s.views
    fresh j u e l = let k = (r.each j u e l).knows in (new u.number k.listed, each_map (Has (0 ∷ r.given)) (λ k. v.note ≢ k) (λ k h same. new k h (sym same)) u.taken k.back)

    child_apart : Places (λ j u. LiveApart (child v) u × LiveApart u (child v)) views
    child_apart j u e =
        let has : Fresh j u = places_set Fresh s.views id (parted v) (λ _. fresh id v at lives) (λ j u e _. fresh j u e) j u e in (
          (λ _ l. record { numbers = λ same. (has l).0 (sym same); taken = tt; turns = λ out _ _. absurd (omega arith) }),
          (λ l _. record { numbers = (has l).0; taken = (has l).1; turns = λ _ out _. absurd (omega arith) }),
        )

    parted_apart : Places (λ j u. j ≢ id → LiveApart (parted v) u × LiveApart u (parted v)) s.views
    parted_apart j u e ne = (
      (λ _ l. let a = (away caller led_to entries about s r id v at lives j u e ne l).0 in record { numbers = a.numbers; taken = a.taken; turns = a.turns }),
      (λ l _. let a = (away caller led_to entries about s r id v at lives j u e ne l).1 in record { numbers = a.numbers; taken = a.taken; turns = a.turns }),
    )

    split_rule : v.note < 4294967296 → Ruled caller led_to entries about (record { words = s.words; homes = s.homes; views = views ++ child v ∷ [] })
    split_rule small = let less : rank v.stage ≡ 1 = ap rank idle in record {
      drawn = r.drawn;
      served = r.served;
      booked = r.booked;
      log = r.log;
      given = v.note ∷ r.given;
      words_are = r.words_are;
      counted = let a = tickets_snoc views (child v) in let b = tickets_set s.views id v (parted v) at in let k = r.counted in omega arith;
      long = r.long;
      few = let h = r.few in
          let t : top r.given ≤ v.note = top_above v.note r.given pos above_all in
          let l : length views ≡ length s.views = length-set s.views id (parted v) in
          let a : length (views ++ child v ∷ []) ≡ length views + 1 = length-append views (child v ∷ []) in omega arith;
      small = let t : top r.given ≤ v.note = top_above v.note r.given pos above_all in omega arith;
      known = continues_map (λ e. Has (0 ∷ r.given) (caller e)) (λ e. Has (0 ∷ v.note ∷ r.given) (caller e)) (λ e. more (caller e)) (entries about) r.log r.known;
      each = places_snoc FitsNow views (child v) (child_fits (length views)) (places_set FitsNow s.views id (parted v) parted_fits others_fit);
      apart = pairs_snoc LiveApart views (child v) child_apart (pairs_set LiveApart s.views id (parted v) parted_apart r.apart);
      spot = spot_snoc led_to entries about r.log (record { words = s.words; homes = s.homes; views = views }) (child v) (omega arith) (spot_set led_to entries about r.log s s.words id v (parted v) at (omega arith) (omega arith) r.spot);
    }

  pub splits : (id : ℕ) (v : SeatView E N) → v.stage ≡ Idle → v.number ≡ 0 → 0 < v.note → v.note < 4294967296 → Each (λ k. k < v.note) v.given → Splits (Ruled caller led_to entries about) id v (parted v) (child v)
  splits id v idle zeroth pos small above s r at = split_rule s r id v at idle zeroth pos above small
