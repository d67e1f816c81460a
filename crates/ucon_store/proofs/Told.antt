-- What a call of the journal tells of more records.
use Rattle.std.proofs.Common.{◌≡◌, Bool, true, false, Option}
use Rattle.std.specs.Prelude.{IfSome, MatchBool}
use Rattle.ucon_model.specs.Plain.{Bytes}

module _ (o : Option Bytes) (A B : Bytes → Type 0) where
  pub more_told : (b : Bool) → b ≡ true → IfSome o (λ file. MatchBool b (A file) (B file)) → IfSome o A
  more_told true is h = h
  more_told false is h = absurd (cc is)

  pub none_told : (b : Bool) → b ≡ false → IfSome o (λ file. MatchBool b (A file) (B file)) → IfSome o B
  none_told true is h = absurd (cc is)
  none_told false is h = h
