-- Lines that ask something, and whose they are.
use Rattle.std.proofs.Common.{◌≡◌, ◌∷◌, ◌++◌, Some, None, sym, ap, ◌∙◌, arith}
use Rattle.std.specs.Fmt.{decimal}
use Rattle.ucon_model.specs.declared.command.Caller.{Caller}
use Rattle.ucon_model.specs.Output.{cut_at}
use Rattle.ucon_model.specs.Payload.{caller_read}
use Rattle.ucon_model.specs.Plain.{Bytes}
use Rattle.ucon_command.specs.Requests.{IsAskedBy}
use Rattle.ucon_command.proofs.LowerLaws.{NumbersLack}
use Rattle.ucon_command.proofs.Payloads.{caller_back, caller_is, cut_at-append, cut_is}

-- what is cut off at the first space, and read as a client's number
pub asked_is : (line client text : Bytes) (caller : Caller) → cut_at 32 line ≡ Some (client, text) → caller_read client ≡ Some caller → IsAskedBy line caller text
asked_is line client text caller cut read =
    let k = caller_is client caller read in
    record { few = k.1; line_is = sym (cut_is 32 line (client, text) cut) ∙ ap (λ (x : Bytes). x ++ 32 ∷ text) (sym k.0) }

none_some : (p : Bytes × Bytes) → None ≡ Some p → ⊥
none_some p e = cc

none_caller : (a : Caller) → None ≡ Some a → ⊥
none_caller a e = cc

same_pair : (p q : Bytes × Bytes) → Some p ≡ Some q → p ≡ q
same_pair p q e = cc

same_caller : (a b : Caller) → Some a ≡ Some b → a ≡ b
same_caller a b e = cc

module _ (numbers : NumbersLack) where
  -- a line that is asked is cut so, and the number is read so
  pub asked_cut : (line : Bytes) (caller : Caller) (text : Bytes) → IsAskedBy line caller text → (cut_at 32 line ≡ Some (decimal caller.0, text)) × (caller_read (decimal caller.0) ≡ Some caller)
  asked_cut line caller text asked =
      let few = asked.few in
      (ap (cut_at 32) asked.line_is ∙ cut_at-append 32 (decimal caller.0) text (numbers 32 caller.0 (omega arith) (omega (arith, few))), caller_back caller.0 few)

  -- without a space nobody asks
  pub none_cut : (line : Bytes) → cut_at 32 line ≡ None → (caller : Caller) (text : Bytes) → IsAskedBy line caller text → ⊥
  none_cut line none caller text asked = let cut = (asked_cut line caller text asked).0 in absurd (none_some (decimal caller.0, text) (sym none ∙ cut))

  -- nor where what stands before the first space is no client's number
  pub none_read : (line client behind : Bytes) → cut_at 32 line ≡ Some (client, behind) → caller_read client ≡ None → (caller : Caller) (text : Bytes) → IsAskedBy line caller text → ⊥
  none_read line client behind is none caller text asked =
      let k = asked_cut line caller text asked in
      let same : client ≡ decimal caller.0 = ap (λ (p : Bytes × Bytes). p.0) (same_pair (client, behind) (decimal caller.0, text) (sym is ∙ k.0)) in
      let read : caller_read client ≡ Some caller = ap caller_read same ∙ k.1 in
      absurd (none_caller caller (sym none ∙ read))

  -- one client asks by a line, and one text
  pub one_asker : (line : Bytes) (a b : Caller) (x y : Bytes) → IsAskedBy line a x → IsAskedBy line b y → (a ≡ b) × (x ≡ y)
  one_asker line a b x y p q =
      let first = asked_cut line a x p in
      let second = asked_cut line b y q in
      let parts = same_pair (decimal a.0, x) (decimal b.0, y) (sym first.0 ∙ second.0) in
      let numbers_are : decimal a.0 ≡ decimal b.0 = ap (λ (p : Bytes × Bytes). p.0) parts in
      let reads_are : caller_read (decimal a.0) ≡ caller_read (decimal b.0) = ap caller_read numbers_are in
      let callers : Some a ≡ Some b = sym first.1 ∙ (reads_are ∙ second.1) in
      (same_caller a b callers, ap (λ (p : Bytes × Bytes). p.1) parts)
