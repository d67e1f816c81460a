-- What holds behind a history that leads to where a store begins.
use Rattle.std.proofs.Common.{◌≡◌, ℕ, ◌+◌, [], ◌∷◌, ◌++◌, length, length-append, refl, sym, ap, ◌∙◌, subst}
use Rattle.std.specs.Prelude.{Option}
use Rattle.ucon_turn.specs.Lists.{Begins}
use Rattle.std.proofs.lemmas.List.{append_assoc}
use Rattle.ucon_model.specs.Action.{Trace}
use Rattle.ucon_model.specs.Block.{after}
use Rattle.ucon_model.specs.History.{History, trace, trace_from}
use Rattle.ucon_model.specs.Plain.{Bytes, PlainPolicy}
use Rattle.ucon_point.specs.PointText.{point_text}
use Rattle.ucon_state.specs.Held.{held_after}
use Rattle.ucon_store.specs.Kept.{Kept}
use Rattle.ucon_store.specs.Points.{checkpoint, text_behind, text_in_force}
use Rattle.ucon_store.specs.Starts.{IsStart, checkpoint_behind, text_at_start}
use Rattle.ucon_store.specs.Whole.{IsFront}

-- it leads to where another store begins that has the same policy and begins there, too
pub front_same : {D : Type 0} (P : PlainPolicy) (x y : Kept D) (G : History) → y.policy ≡ x.policy → y.point ≡ x.point → y.before ≡ x.before
    → IsFront P x G → IsFront P y G
front_same P x y G policy point before front = record {
  starts = subst (λ (z : Option Bytes × ℕ). IsStart P z.0 z.1 (trace P G)) (λ i. (sym point i, sym before i)) front.starts;
  count = front.count ∙ sym before;
  text = ap (λ (t : Bytes). text_in_force t G) policy ∙ (front.text ∙ (λ i. text_at_start (sym policy i) (sym point i)));
}

-- entries that begin with others still do behind it
pub begins_behind : (G xs ys : History) → Begins xs ys → Begins (G ++ xs) (G ++ ys)
begins_behind G xs ys b = (b.0, append_assoc G xs b.0 ∙ ap (λ (l : History). G ++ l) b.1)

pub trace_append : (P : PlainPolicy) (T : Trace) (G H : History) → trace_from P T (G ++ H) ≡ trace_from P (trace_from P T G) H
trace_append P T [] H = refl
trace_append P T (e ∷ G) H = trace_append P (after P T e.caller e.command) G H

text_append : (text : Bytes) (G H : History) → text_in_force text (G ++ H) ≡ text_in_force (text_in_force text G) H
text_append text [] H = refl
text_append text (e ∷ G) H = text_append (text_behind text e.command) G H

-- the checkpoint behind its trace and a store's entries is the one behind both histories
pub checkpoint_whole : {D : Type 0} (P : PlainPolicy) (s : Kept D) (G : History) → IsFront P s G
    → checkpoint_behind s.policy s.point s.before P (trace P G) s.entries ≡ checkpoint s.policy P (G ++ s.entries)
checkpoint_whole P s G front =
    let H : History = s.entries in
    let number : s.before + length H ≡ length (G ++ H) = sym (length-append G H ∙ ap (λ (n : ℕ). n + length H) front.count) in
    let in_force : text_in_force (text_at_start s.policy s.point) H ≡ text_in_force s.policy (G ++ H) =
    ap (λ (t : Bytes). text_in_force t H) (sym front.text) ∙ sym (text_append s.policy G H) in
    let traces : trace_from P (trace P G) H ≡ trace P (G ++ H) = sym (trace_append P [] G H) in
    λ i. point_text (number i) (in_force i) (held_after P (traces i))
