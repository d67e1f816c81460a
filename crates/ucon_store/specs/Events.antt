-- A store as the value of a turn: what stands in its list.
use Rattle.std.proofs.Common.{◌≡◌, append_assoc, ap, ◌∙◌}
use Rattle.std.proofs.lemmas.List.{map-append}
use Rattle.std.specs.Prelude.{ℕ, ◌+◌, List, ◌++◌, map, Option, Some, None}
use Rattle.ucon_model.specs.History.{History}
use Rattle.ucon_store.specs.declared.event.Event.{Event}
use Rattle.ucon_store.specs.declared.event.Event.TheVariants.{Done, Failed}
use Rattle.ucon_store.specs.Kept.{Kept}
use Rattle.ucon_store.specs.Whole.{whole}

-- the number of the caller, from 1; 0 is nobody's
abbrev pub number_of : Event → ℕ
number_of (Done e) = e.caller.0 + 1
number_of (Failed e) = e.caller.0 + 1

-- the entries, and behind them those of the mark, if there is one
abbrev pub events : History → Option History → List Event
events H None = map Done H
events H (Some es) = map Done H ++ map Failed es

abbrev pub events_of : {D : Type 0} → Kept D → List Event
events_of s = events s.entries s.mark

-- with a history before a store's entries, its own events stand before theirs
pub events_behind : (G H : History) (mark : Option History) → events (G ++ H) mark ≡ map Done G ++ events H mark
events_behind G H None = map-append Done G H
events_behind G H (Some es) = ap (λ l. l ++ map Failed es) (map-append Done G H) ∙ append_assoc (map Done G) (map Done H) (map Failed es)

pub events_whole : {D : Type 0} (G : History) (s : Kept D) → events_of (whole G s) ≡ map Done G ++ events_of s
events_whole G s = events_behind G s.entries s.mark
