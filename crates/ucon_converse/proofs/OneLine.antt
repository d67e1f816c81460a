-- Texts without a newline make lines.
use Rattle.std.proofs.Common.{◌≡◌, ℕ, ◌+◌, [], ◌∷◌, ◌++◌, length, refl, sym, ap, ◌∙◌, arith}
use Rattle.std.specs.Prelude.{Bool, true, false, ◌==◌, ◌&&◌, ◌<◌, ◌^◌, not, codes, cond, Result, Ok, Err, OnOk}
use Rattle.std.specs.Fmt.{decimal}
use Rattle.std.specs.List.{list_all}
use Rattle.ucon_base.specs.Elements.{each_append}
use Rattle.ucon_command.specs.declared.line_fault.LineFault.{LineFault}
use Rattle.ucon_command.specs.declared.line_fault.LineFault.TheVariants as lines
use Rattle.ucon_command.specs.declared.request.RequestFault.{RequestFault}
use Rattle.ucon_command.specs.declared.request.RequestFault.TheVariants.{BadClient, BadCommand}
use Rattle.ucon_command.specs.Requests.{IsOfClient}
use Rattle.ucon_flow.specs.Lines.{IsBare, IsLine, newline}
use Rattle.ucon_model.specs.declared.command.Caller.{Caller}
use Rattle.ucon_model.specs.LegalRun.{Answer, placed, no_memory, disk_fault, stopped}
use Rattle.ucon_model.specs.Output.{Lacks, answer_spelling}
use Rattle.ucon_model.specs.Plain.{Bytes, PlainReply}
use Rattle.ucon_model.specs.Spelling.{reply_spelling}
use Rattle.ucon_converse.specs.Replies.{client_line, refusal_line}
use Rattle.ucon_converse.specs.Said.{fault_line, line_told, unheard_so}

pub bare_of : (text : Bytes) → Lacks 10 text → IsBare text
bare_of [] lacks = refl
bare_of (b ∷ text) lacks =
    let rest : newline text ≡ length text = bare_of text lacks.1 in
    let more : 1 + newline text ≡ length (b ∷ text) = omega (arith, rest) in
    ap (λ (is : Bool). cond (not is) (1 + newline text) 0) lacks.0 ∙ more

-- a text that a test finds to lack a newline lacks it
pub all_lack : (text : Bytes) → list_all (λ b. not (b == 10)) text ≡ true → Lacks 10 text
all_lack [] all = tt
all_lack (b ∷ text) all = by (all_lack text) (b == 10) refl
  where
    by : (list_all (λ c. not (c == 10)) text ≡ true → Lacks 10 text) → (is : Bool) → (b == 10) ≡ is → Lacks 10 (b ∷ text)
    by others true e = absurd (let bad : false ≡ true = sym (ap (λ (t : Bool). not t && list_all (λ c. not (c == 10)) text) e) ∙ all in cc bad)
    by others false e = (e, others (sym (ap (λ (t : Bool). not t && list_all (λ c. not (c == 10)) text) e) ∙ all))

pub line_of : (text : Bytes) → Lacks 10 text → IsLine (text ++ 10 ∷ [])
line_of text lacks = record { text = text; bare = bare_of text lacks; line_is = refl }

pub client_line_is : (caller : Caller) (answer : Answer) → Lacks 10 (decimal caller.0) → Lacks 10 (answer_spelling answer) → IsLine (client_line caller answer)
client_line_is caller answer number spelling = record {
  text = decimal caller.0 ++ 32 ∷ answer_spelling answer;
  bare = bare_of (decimal caller.0 ++ 32 ∷ answer_spelling answer) (each_append (λ (b : ℕ). (b == 10) ≡ false) (decimal caller.0) (32 ∷ answer_spelling answer) number (refl, spelling));
  line_is = refl;
}

pub refusal_line_is : (words : Bytes) → Lacks 10 words → IsLine (refusal_line words)
refusal_line_is words lacks = record {
  text = codes "- - " ++ words;
  bare = bare_of (codes "- - " ++ words) (each_append (λ (b : ℕ). (b == 10) ≡ false) (codes "- - ") words (refl, (refl, (refl, (refl, tt)))) lacks);
  line_is = refl;
}

-- ---- the lines that go out

-- both of what holds where all went well
pub on_ok_both : {T E : Type 0} (r : Result T E) (A B C : Type 0) → (A → B → C) → OnOk r A → OnOk r B → OnOk r C
on_ok_both (Ok v) A B C f a b = f a b
on_ok_both (Err e) A B C f a b = tt

pub on_ok : {T E : Type 0} (r : Result T E) (A B : Type 0) → (A → B) → OnOk r A → OnOk r B
on_ok (Ok v) A B f a = f a
on_ok (Err e) A B f a = tt

-- numbers lack a newline
abbrev pub NumbersLack : Type 0
NumbersLack = (byte n : ℕ) → byte < 48 → n < 2 ^ 64 → Lacks byte (decimal n)

pub placed_line_is : NumbersLack → (caller : Caller) (place : ℕ) (reply : PlainReply) → caller.0 < 256 → place < 2 ^ 64 → Lacks 10 (reply_spelling reply)
    → IsLine (client_line caller (placed place reply))
placed_line_is numbers caller place reply few small lacks =
    client_line_is caller (placed place reply) (numbers 10 caller.0 (omega arith) (omega (arith, few)))
    (each_append (λ (b : ℕ). (b == 10) ≡ false) (decimal place) (32 ∷ reply_spelling reply) (numbers 10 place (omega arith) small) (refl, lacks))

pub no_memory_line_is : NumbersLack → (caller : Caller) → caller.0 < 256 → IsLine (client_line caller no_memory)
no_memory_line_is numbers caller few =
    client_line_is caller no_memory (numbers 10 caller.0 (omega arith) (omega (arith, few))) (all_lack (codes "- no memory") refl)

pub disk_fault_line_is : NumbersLack → (caller : Caller) → caller.0 < 256 → IsLine (client_line caller disk_fault)
disk_fault_line_is numbers caller few =
    client_line_is caller disk_fault (numbers 10 caller.0 (omega arith) (omega (arith, few))) (all_lack (codes "- disk fault") refl)

pub stopped_line_is : NumbersLack → (caller : Caller) → caller.0 < 256 → IsLine (client_line caller stopped)
stopped_line_is numbers caller few =
    client_line_is caller stopped (numbers 10 caller.0 (omega arith) (omega (arith, few))) (all_lack (codes "- stopped") refl)

unheard_line_is : NumbersLack → (failed : Bool) (caller : Caller) → caller.0 < 256 → IsLine (client_line caller (unheard_so failed))
unheard_line_is numbers true caller few = stopped_line_is numbers caller few
unheard_line_is numbers false caller few = no_memory_line_is numbers caller few

told_line_is : NumbersLack → (failed : Bool) (caller : Caller) (fault : LineFault) → caller.0 < 256 → IsLine (line_told failed caller fault)
told_line_is numbers failed caller (lines.TooLong n) few = refusal_line_is (codes "too long") (all_lack (codes "too long") refl)
told_line_is numbers failed caller lines.NoWord few = refusal_line_is (codes "no word") (all_lack (codes "no word") refl)
told_line_is numbers failed caller lines.UnknownWord few = refusal_line_is (codes "unknown word") (all_lack (codes "unknown word") refl)
told_line_is numbers failed caller (lines.WrongCount n) few = refusal_line_is (codes "wrong count") (all_lack (codes "wrong count") refl)
told_line_is numbers failed caller (lines.BadWord place) few = refusal_line_is (codes "bad word") (all_lack (codes "bad word") refl)
told_line_is numbers failed caller (lines.NoMemory e) few = unheard_line_is numbers failed caller few

pub fault_line_is : NumbersLack → (line : Bytes) (fault : RequestFault) (failed : Bool) → IsOfClient line fault → IsLine (fault_line fault failed)
fault_line_is numbers line BadClient failed of = refusal_line_is (codes "bad client") (all_lack (codes "bad client") refl)
fault_line_is numbers line (BadCommand caller fault) failed of = let few = of.1.few in told_line_is numbers failed caller fault (omega (arith, few))

pub too_long_line : IsLine (refusal_line (codes "too long"))
too_long_line = refusal_line_is (codes "too long") (all_lack (codes "too long") refl)
