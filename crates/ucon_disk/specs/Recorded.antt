-- Calls as a disk in memory records them, and which of them fail.
use Rattle.std.specs.Prelude.{ℕ, ◌==◌, nat_le, Bool, false, ◌||◌, List, map, Option, None, Some, Vec}
use Rattle.std.specs.declared.alloc.Global.{Global}
use Rattle.std.specs.List.{list_any}
use Rattle.ucon_disk.specs.declared.log.Call.{Call}
use Rattle.ucon_disk.specs.declared.log.Call.TheVariants.{Look, Write, Cut, Sync}
use Rattle.ucon_disk.specs.declared.plan.Plan.{Plan}
use Rattle.ucon_disk.specs.History.{History}
use Rattle.ucon_disk.specs.Image.{Change, looked, wrote, cut_to, synced_all}
use Rattle.ucon_disk.specs.Started.{start_of}

-- what a recorded call was
abbrev pub change_of : Call → Change
change_of Look = looked
change_of (Write at bytes done) = wrote at bytes.items done
change_of (Cut len done) = cut_to len done
change_of (Sync done) = synced_all done

-- the bytes at first, which are those of now until a call changed them, and each recorded call
abbrev pub history_recorded : Option (Vec ℕ Global) → List ℕ → List Call → History
history_recorded first now calls = record { start = start_of first now; changes = map change_of calls }

-- so many calls came before, that all calls fail now
abbrev pub is_stopped : Option ℕ → ℕ → Bool
is_stopped None number = false
is_stopped (Some limit) number = nat_le limit number

-- the call of this number is one that fails
abbrev pub is_failing : Plan → ℕ → Bool
is_failing plan number = is_stopped plan.stop_after number || list_any (λ n. n == number) plan.failing.items
