-- The output of a run, as it is written.
use Rattle.std.proofs.Common.{◌≡◌, ◌<◌, List, [], ◌∷◌, ◌++◌, map, sym, ap, ◌∙◌, append_assoc}
use Rattle.std.specs.Prelude.{Some}
use Rattle.std.proofs.lemmas.List.{append-nil, map-append}
use Rattle.std.proofs.lemmas.Simd.{map-map}
use Rattle.ucon_model.specs.declared.command.Entry.{Entry}
use Rattle.ucon_model.specs.Plain.{Bytes, PlainPolicy}
use Rattle.ucon_base.specs.Elements.{Each}
use Rattle.ucon_model.specs.LegalRun.{Answered}
use Rattle.ucon_model.specs.Output.{FitsLine, answer_line, output, answers_read}
use Rattle.ucon_model.specs.Summary.{LineReply, answer_of, answered}
use Rattle.ucon_trial.specs.Hearing.{HasHeard, line_of}
use Rattle.ucon_trial.specs.Runs.{IsRunOutput}
use Rattle.ucon_trial.specs.Transcript.{IsTranscript}
use Rattle.ucon_trial.proofs.Replies.{SerialIsLegal, serial_run, unfaulted}

each-snoc : {A : Type 0} (P : A → Type 0) (xs : List A) (x : A) → Each P xs → P x → Each P (xs ++ x ∷ [])
each-snoc P [] x all one = (one, tt)
each-snoc P (y ∷ xs) x all one = (all.0, each-snoc P xs x all.1 one)

output-snoc : (told : List Answered) (t : Answered) → output (told ++ t ∷ []) ≡ output told ++ answer_line t
output-snoc [] t = append-nil (answer_line t)
output-snoc (x ∷ told) t = ap (λ (bs : Bytes). answer_line x ++ bs) (output-snoc told t) ∙ sym (append_assoc (answer_line x) (output told) (answer_line t))

-- one answer more
pub one_line_more : (text text' : Bytes) (told : List LineReply) (t : LineReply) → IsTranscript text told → text' ≡ text ++ answer_line (answered t)
    → FitsLine (answer_of t.reply) → t.line.caller.0 < 256 → IsTranscript text' (told ++ t ∷ [])
one_line_more text text' told t is e fits client = record {
  text_is = e ∙ ap (λ (bs : Bytes). bs ++ answer_line (answered t)) is.text_is ∙ sym (output-snoc (map answered told) (answered t)) ∙ ap output (sym (map-append answered told (t ∷ [])));
  fits = each-snoc (λ t. FitsLine (answer_of t.reply)) told t is.fits fits;
  clients = each-snoc (λ t. t.line.caller.0 < 256) told t is.clients client;
}

each-answered : (P : Answered → Type 0) (told : List LineReply) → Each (λ t. P (answered t)) told → Each P (map answered told)
each-answered P [] h = tt
each-answered P (t ∷ told) h = (h.0, each-answered P told h.1)

lines_kept : (told : List LineReply) → map (λ (t : Answered). t.line) (map answered told) ≡ map line_of told
lines_kept told = map-map (λ (t : Answered). t.line) answered told

-- an output whose answers fit their lines is read back
abbrev pub OutputsAreReadBack : Type 0
OutputsAreReadBack = (told : List Answered) → Each (λ t. FitsLine t.answer) told → Each (λ t. t.line.caller.0 < 256) told
    → answers_read (map (λ (t : Answered). t.line) told) (output told) ≡ Some told

pub transcribed : OutputsAreReadBack → SerialIsLegal → (P : PlainPolicy) (lines : List Entry) (text : Bytes) → HasHeard P (IsTranscript text) lines → IsRunOutput P lines text
transcribed back serial P lines text h =
    let told = map answered h.told in
    let read : answers_read lines text ≡ Some told =
    ap (λ (es : List Entry). answers_read es text) (sym (lines_kept h.told ∙ h.lines_are)) ∙ ap (answers_read (map (λ (t : Answered). t.line) told)) h.heard.text_is
    ∙ back told (each-answered (λ t. FitsLine t.answer) h.told h.heard.fits) (each-answered (λ t. t.line.caller.0 < 256) h.told h.heard.clients) in
    rw read (h.heard.text_is, serial P [] told (serial_run P [] h.told h.run), unfaulted h.told)
