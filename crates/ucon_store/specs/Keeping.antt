-- What calls keep of a file's records and of its version, whatever is found in it.
use Rattle.std.proofs.Common.{refl, ◌∙◌}
use Rattle.std.specs.Prelude.{◌≡◌, ◌⊎◌, ◌<◌, ⊤, [], ◌∷◌, length, Option, None, Some}
use Rattle.ucon_journal.specs.Found.{counted}
use Rattle.ucon_model.specs.Plain.{Bytes}
use Rattle.ucon_store.specs.PointRecords.{has_points}
use Rattle.ucon_turn.specs.Lists.{Begins, begins_refl, begins_trans}

-- ---- what opening keeps

-- what counted in the file counts in c; or nothing did, and now this text alone does
abbrev pub HasSameRecords : (text file c : Bytes) → Type 0
HasSameRecords text file c = (counted c ≡ counted file) ⊎ ((counted file ≡ []) × (counted c ≡ text ∷ []))

-- the same of the bytes as read, if the disk tells before and after
abbrev pub SameRecords : Bytes → Option Bytes → Option Bytes → Type 0
SameRecords text None after = ⊤
SameRecords text (Some before) None = ⊤
SameRecords text (Some before) (Some after) = HasSameRecords text before after

-- c may have checkpoints exactly if the file might, but for one of at most nine bytes, a journal whose making was stopped
abbrev pub IsSameKind : (file c : Bytes) → Type 0
IsSameKind file c = 9 < length file → has_points c ≡ has_points file

-- What a run over an opened file keeps: what counted in the file counts in c, before all else, and the version stays.
pub record KeepsRecords (file c : Bytes) : Type 0 where
  pub kind : IsSameKind file c
  pub records : Begins (counted file) (counted c)

-- ---- what the calls of a store keep

-- what counted in the file counts in c, before all else, and c may have checkpoints exactly if the file might
pub record GrowsFrom (file c : Bytes) : Type 0 where
  pub kind : has_points c ≡ has_points file
  pub records : Begins (counted file) (counted c)

pub grows_same : (file : Bytes) → GrowsFrom file file
grows_same file = record { kind = refl; records = begins_refl (counted file) }

-- what an opened file keeps, one keeps that has grown from it
pub keeps_on : (file mid c : Bytes) → KeepsRecords file mid → GrowsFrom mid c → KeepsRecords file c
keeps_on file mid c p q = record {
  kind = λ long. q.kind ∙ p.kind long;
  records = begins_trans (counted file) (counted mid) (counted c) p.records q.records;
}

pub grows_on : (file mid c : Bytes) → GrowsFrom file mid → GrowsFrom mid c → GrowsFrom file c
grows_on file mid c p q = record {
  kind = q.kind ∙ p.kind;
  records = begins_trans (counted file) (counted mid) (counted c) p.records q.records;
}
