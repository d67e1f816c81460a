-- What is known of the words that cuts give.
use Rattle.std.proofs.Common.{Some, None}
use Rattle.std.specs.Prelude.{Option, option_map, IsSome}

pub some_mapped : {A B : Type 0} (f : A → B) (o : Option A) → IsSome (option_map f o) → IsSome o
some_mapped f None h = h
some_mapped f (Some x) h = h
