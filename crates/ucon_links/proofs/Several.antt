-- Several sessions hidden one after another.
use Rattle.std.proofs.Common.{◌≡◌, ℕ, zero, suc, ◌+◌, ◌-◌, ◌<◌, List, [], ◌∷◌, length, take, get_or, true, refl, sym, subst, arith, add-one}
use Rattle.ucon_links.specs.Dependents.{Dependents, is_there, hide, hide_all, unhide, CanUnhide, UnhideGives, AllThere}

pub there_in_turn : (v : Dependents) (sessions : List ℕ) (i : ℕ) → i < length sessions → AllThere v sessions → is_there (get_or sessions i 0) (hide_all v (take i sessions)).places ≡ true
there_in_turn v [] i within all = absurd (omega arith)
there_in_turn v (first ∷ rest) zero within all = all.0
there_in_turn v (first ∷ rest) (suc i) within all = there_in_turn (hide v first) rest i (omega arith) all.1

hide_all-suc : (v : Dependents) (sessions : List ℕ) (i : ℕ) → i < length sessions → hide_all v (take (suc i) sessions) ≡ hide (hide_all v (take i sessions)) (get_or sessions i 0)
hide_all-suc v [] i within = absurd (omega arith)
hide_all-suc v (first ∷ rest) zero within = refl
hide_all-suc v (first ∷ rest) (suc i) within = hide_all-suc (hide v first) rest i (omega arith)

pub hide_all-more : (v : Dependents) (sessions : List ℕ) (i : ℕ) → i < length sessions → hide_all v (take (i + 1) sessions) ≡ hide (hide_all v (take i sessions)) (get_or sessions i 0)
hide_all-more v sessions i within = rw add-one (hide_all-suc v sessions i within)

-- one more hide, one more to put back
pub gives_more : (n : ℕ) (now before first : Dependents) → UnhideGives 1 now before → UnhideGives n before first → UnhideGives (n + 1) now first
gives_more n now before first one rest = rw add-one (one.0, subst (λ v. UnhideGives n v first) (sym one.1) rest)

-- one put back, one fewer
pub record Fewer (n : ℕ) (now before : Dependents) : Type 0 where
  pub can : CanUnhide now
  pub rest : UnhideGives n (unhide now) before

pub gives_fewer : (count counter : ℕ) (now before : Dependents) → counter < count → UnhideGives (count - counter) now before → Fewer (count - (counter + 1)) now before
gives_fewer count counter now before less gives =
    let one : count - counter ≡ suc (count - (counter + 1)) = omega arith in
    let both = subst (λ n. UnhideGives n now before) one gives in
    record { can = both.0; rest = both.1 }
