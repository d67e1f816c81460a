-- What readings are told of a store, as lines.
use Rattle.std.proofs.Common.{◌≡◌, inl, inr, true, false, ℕ, ◌+◌, ◌-◌, [], ◌∷◌, ◌++◌, length, take, length-append, refl, sym, ap, subst, ◌∙◌, arith}
use Rattle.std.proofs.lemmas.List.{take_at}
use Rattle.std.specs.Prelude.{Option, Some, None, is_some, Result, Ok, Err, IfOk, OnOk, codes, decimal}
use Rattle.ucon_flow.specs.Lines.{IsLine}
use Rattle.ucon_model.specs.Action.{Trace}
use Rattle.ucon_model.specs.Block.{after}
use Rattle.ucon_model.specs.History.{History, trace, trace_from}
use Rattle.ucon_model.specs.Output.{Lacks}
use Rattle.ucon_model.specs.Plain.{Bytes, PlainPolicy}
use Rattle.ucon_state.specs.Following.{Follows}
use Rattle.ucon_state.specs.Shown.{Shown}
use Rattle.ucon_store.specs.declared.fault.PointFault.{PointFault}
use Rattle.ucon_store.specs.declared.fault.PointFault.TheVariants as faults
use Rattle.ucon_store.specs.Kept.{Kept}
use Rattle.ucon_store.specs.Whole.{IsFront}
use Rattle.ucon_tell.specs.Told.{IsReplied}
use Rattle.ucon_converse.specs.Readings.{reading_line}
use Rattle.ucon_converse.specs.Replies.{IsToldSo, point_line, refusal_line}
use Rattle.ucon_converse.proofs.Bare.{both, decimal_lacks}
use Rattle.ucon_converse.proofs.OneLine.{all_lack, line_of, refusal_line_is}

-- what isn't there is none
pub unstopped : {A : Type 0} (o : Option A) → is_some o ≡ false → o ≡ None
unstopped None none = refl
unstopped (Some a) none = absurd (cc none)

-- what holds of a value holds of it in other words
pub if_ok : {T E : Type 0} (r : Result T E) (A B : T → Type 0) → ((v : T) → A v → B v) → IfOk r A → IfOk r B
if_ok (Ok v) A B f a = f v a
if_ok (Err e) A B f a = tt

pub always_ok : {T E : Type 0} (r : Result T E) (A : Type 0) → A → OnOk r A
always_ok (Ok v) A a = a
always_ok (Err e) A a = tt

-- what is left of a line where its last byte was taken off
pub one_off : (front : Bytes) (last : ℕ) (old new : Bytes) (n : ℕ) → n ≡ length old → old ≡ front ++ last ∷ [] → new ≡ take (n - 1) old → new ≡ front
one_off front last old new n count is left =
    let more : length (front ++ last ∷ []) ≡ length front + 1 = length-append front (last ∷ []) in
    let all : n ≡ length (front ++ last ∷ []) = count ∙ ap length is in
    left ∙ (ap (take (n - 1)) is ∙ take_at front (last ∷ []) (n - 1) (omega (arith, all, more)))

-- ---- histories

pub trace_append : (P : PlainPolicy) (T : Trace) (G H : History) → trace_from P T (G ++ H) ≡ trace_from P (trace_from P T G) H
trace_append P T [] H = refl
trace_append P T (e ∷ G) H = trace_append P (after P T e.caller e.command) G H

module _ {D : Type 0} (P : PlainPolicy) (s : Kept D) (G : History) where
  -- the trace of a store is that of the history before its entries and them
  pub whole_trace : trace_from P (trace P G) s.entries ≡ trace P (G ++ s.entries)
  whole_trace = sym (trace_append P [] G s.entries)

  pub follows_whole : (shown : Shown) → Follows shown P (trace_from P (trace P G) s.entries) → Follows shown P (trace P (G ++ s.entries))
  follows_whole shown follows = subst (Follows shown P) whole_trace follows

  pub whole_count : IsFront P s G → s.before + length s.entries ≡ length (G ++ s.entries)
  whole_count front = let count = front.count in omega (arith, count, length-append G s.entries)

-- ---- one line

pub reading_line_is : (steps : ℕ) (told : Bytes) → Lacks 10 told → IsLine (reading_line steps told)
reading_line_is steps told lacks =
    let front : Lacks 10 (codes "- " ++ decimal steps) = both (codes "- ") (decimal steps) (all_lack (codes "- ") refl) (decimal_lacks steps) in
    line_of (codes "- " ++ decimal steps ++ 32 ∷ told) (both (codes "- " ++ decimal steps) (32 ∷ told) front (refl, lacks))

pub point_line_is : (said : Result ℕ PointFault) → IsLine (point_line said)
point_line_is (Ok n) = reading_line_is n (codes "point " ++ decimal n) (both (codes "point ") (decimal n) (all_lack (codes "point ") refl) (decimal_lacks n))
point_line_is (Err faults.DiskFault) = refusal_line_is (codes "disk fault") (all_lack (codes "disk fault") refl)
point_line_is (Err faults.Stopped) = refusal_line_is (codes "stopped") (all_lack (codes "stopped") refl)
point_line_is (Err faults.OldJournal) = refusal_line_is (codes "old journal") (all_lack (codes "old journal") refl)
point_line_is (Err (faults.TooLarge size)) = refusal_line_is (codes "point too large") (all_lack (codes "point too large") refl)
point_line_is (Err (faults.NoMemory e)) = refusal_line_is (codes "no memory") (all_lack (codes "no memory") refl)

-- a line that was added is a reply
pub replied : {T E : Type 0} (r : Result T E) (old new reply : Bytes) (so : Bytes → Type 0) → IsLine reply → so reply → OnOk r (new ≡ old ++ reply) → OnOk r (IsReplied so old new)
replied (Ok v) old new reply so line is e = (reply, line, is, e)
replied (Err e) old new reply so line is e' = tt

pub replied_as : {T E : Type 0} (r : Result T E) (old new : Bytes) (A B : Bytes → Type 0) → ((reply : Bytes) → A reply → B reply) → OnOk r (IsReplied A old new) → OnOk r (IsReplied B old new)
replied_as (Ok v) old new A B f a = (a.0, a.1, f a.0 a.2, a.3)
replied_as (Err e) old new A B f a = tt

-- ---- by whether the store is stopped

pub stopped_told : (failed : Option History) (told : Bytes) → is_some failed ≡ true → IsToldSo failed told (refusal_line (codes "stopped"))
stopped_told None told is = absurd (let no : false ≡ true = is in cc no)
stopped_told (Some e) told is = refl

pub told_so : (failed : Option History) (told reply : Bytes) → is_some failed ≡ false → reply ≡ told → IsToldSo failed told reply
told_so None told reply is e = inl e
told_so (Some f) told reply is e = absurd (let no : true ≡ false = is in cc no)

pub no_memory_told : (failed : Option History) (told : Bytes) → is_some failed ≡ false → IsToldSo failed told (refusal_line (codes "no memory"))
no_memory_told None told is = inr refl
no_memory_told (Some f) told is = absurd (let no : true ≡ false = is in cc no)
