-- What a voice over a sink notes.
use Rattle.std.proofs.Common.{◌≡◌, ◌⊎◌, inl, inr, ⊎_elim, ℕ, List, [], ◌∷◌, ◌++◌, refl, sym, subst}
use Rattle.std.specs.Prelude.{Option, Some, None, IfSome}
use Rattle.ucon_flow.specs.Seen.{SinkSeen}
use Rattle.ucon_tell.specs.Dated.{Dated, IsTold, dated}
use Rattle.ucon_tell.specs.Seen.{KeeperSeen}

told_last : (ds : List Dated) (d : Dated) (b : List ℕ) → d.held ≡ Some b → IsTold (ds ++ d ∷ []) b d.moment
told_last [] d b is = inl (is, refl)
told_last (x ∷ xs) d b is = inr (told_last xs d b is)

told_still : (ds : List Dated) (d : Dated) (b : List ℕ) (t : ℕ) → IsTold ds b t → IsTold (ds ++ d ∷ []) b t
told_still [] d b t none = absurd none
told_still (x ∷ xs) d b t (inl is) = inl is
told_still (x ∷ xs) d b t (inr is) = inr (told_still xs d b t is)

told_which : (ds : List Dated) (d : Dated) (b : List ℕ) (t : ℕ) → IsTold (ds ++ d ∷ []) b t → IsTold ds b t ⊎ ((d.held ≡ Some b) × (t ≡ d.moment))
told_which [] d b t (inl is) = inr is
told_which [] d b t (inr none) = absurd none
told_which (x ∷ xs) d b t (inl is) = inl (inl is)
told_which (x ∷ xs) d b t (inr is) =
    ⊎_elim (λ (earlier : IsTold xs b t). inl (inr earlier)) (λ (last : (d.held ≡ Some b) × (t ≡ d.moment)). inr last) (told_which xs d b t is)

module _ (old new : List Dated) (sink : SinkSeen) (keeper : KeeperSeen) (added : new ≡ old ++ dated sink keeper ∷ []) where
  -- what the sink holds is told
  pub held_is_told : IfSome sink.contents (λ all. IsTold new all keeper.moment)
  held_is_told = subst (λ (ds : List Dated). IfSome sink.contents (λ all. IsTold ds all keeper.moment)) (sym added) (by sink.contents refl)
    where
      by : (o : Option (List ℕ)) → sink.contents ≡ o → IfSome o (λ all. IsTold (old ++ dated sink keeper ∷ []) all keeper.moment)
      by None is = tt
      by (Some all) is = told_last old (dated sink keeper) all is

  -- what was told still is
  pub still_told : (b : List ℕ) (t : ℕ) → IsTold old b t → IsTold new b t
  still_told b t told = subst (λ (ds : List Dated). IsTold ds b t) (sym added) (told_still old (dated sink keeper) b t told)

  -- nothing else is
  pub nothing_else_told : (b : List ℕ) (t : ℕ) → IsTold new b t → IsTold old b t ⊎ ((t ≡ keeper.moment) × IfSome sink.contents (λ all. b ≡ all))
  nothing_else_told b t told = ⊎_elim inl
      (λ (last : (sink.contents ≡ Some b) × (t ≡ keeper.moment)). inr (last.1, subst (λ (o : Option (List ℕ)). IfSome o (λ all. b ≡ all)) (sym last.0) refl))
      (told_which old (dated sink keeper) b t (subst (λ (ds : List Dated). IsTold ds b t) added told))
