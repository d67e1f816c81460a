-- The policy of the generated documents is accepted.
use Rattle.std.proofs.Common.{◌≡◌, ◌≤◌, ℕ, Bool, true, false, refl}
use Rattle.std.specs.Prelude.{Result, Ok, Err, IsOkAnd, List, length}
use Rattle.ucon_model.specs.declared.command.Entry.{Entry}
use Rattle.ucon_model.specs.Plain.{Bytes, PlainPolicy}
use Rattle.ucon_model.specs.Document.{ScriptLine, DocumentRefusal, document_read, entries_of, policy_part}
use Rattle.ucon_model.specs.Generated.{generated_policy, text_of, generated, generated_entries}
use Rattle.ucon_model.specs.Spells.{Spells}
use Rattle.ucon_base.specs.Tokens.{skip, word_token, joined_token, value_from, number_token, text_token, single, symbol_token, token_at, begin_of, token_from, next_token, tokens_within, tokens_from, fault_from, spans_within, spans_from}
use Rattle.ucon_model.specs.Typing.{is_typed, IsTyped, type_fault}
use Rattle.ucon_syntax.specs.Policies.{accepted}
use Rattle.ucon_syntax.specs.Chains.{more}
use Rattle.ucon_syntax.specs.Expressions.{place_at, level, factor_at, term_at, expr_at, round_at}
use Rattle.ucon_syntax.specs.Formulas.{compare_at, unit_level, unit_at, conj_at, formula_at, square_at}
use Rattle.ucon_syntax.specs.Items.{range_at, kind_at, attr_at, env_at, form_at, party_at, duty_at, pred_at, update_at}
use Rattle.ucon_syntax.specs.Lists.{items_at}
use Rattle.ucon_token.specs.Literals.{literal_start, negative_at, int_at, member_at, texts_at, set_at, literal_at}
use Rattle.ucon_syntax.specs.Policies.{preds_at, updates_at, right_at, attrs_at, envs_at, rights_at, policy_at, whole_at, reading_of}
use Rattle.ucon_syntax.specs.Starts.{factor_start, sum_sign, unit_start, op_of, side_of, kind_word, phase_of, test_sort, duty_word, when_of, name_in}
use Rattle.ucon_syntax.specs.declared.read.SyntaxFault.{SyntaxFault}
use Rattle.ucon_token.specs.Tokens.{is_symbol, is_word, is_joined, word_of, number_of, text_of as token_text, sign_of, flaw_at}
use Rattle.ucon_top.specs.OwnReading.{IsAccepted}

-- a text is read as a well typed policy
abbrev is_fine : Result PlainPolicy SyntaxFault → Bool
is_fine (Ok P) = is_typed P
is_fine (Err f) = false

policy_fine : is_fine (reading_of (text_of generated_policy)) ≡ true
unfolding generated_policy skip word_token joined_token value_from number_token text_token single symbol_token token_at begin_of token_from next_token tokens_within tokens_from fault_from spans_within spans_from more place_at level factor_at term_at expr_at round_at compare_at unit_level unit_at conj_at formula_at square_at range_at kind_at attr_at env_at form_at party_at duty_at pred_at update_at items_at negative_at int_at member_at texts_at set_at literal_at preds_at updates_at right_at attrs_at envs_at rights_at policy_at whole_at reading_of literal_start factor_start sum_sign unit_start op_of side_of kind_word phase_of test_sort duty_word when_of name_in is_symbol is_word is_joined word_of number_of token_text sign_of flaw_at type_fault
policy_fine = refl

record IsFine (r : Result PlainPolicy SyntaxFault) : Type 0 where
  policy : PlainPolicy
  read : r ≡ Ok policy
  typed : IsTyped policy

fine : (r : Result PlainPolicy SyntaxFault) → is_fine r ≡ true → IsFine r
fine (Ok P) typed = record { policy = P; read = refl; typed = typed }
fine (Err f) e = absurd cc

record IsRead (read : Result (List ScriptLine) DocumentRefusal) : Type 0 where
  lines : List ScriptLine
  says : read ≡ Ok lines

is_read : (entries : List Entry) (read : Result (List ScriptLine) DocumentRefusal) → IsOkAnd read (λ lines. entries_of lines ≡ entries) → IsRead read
is_read entries (Ok lines) h = record { lines = lines; says = refl }
is_read entries (Err refusal) h = absurd h

pub is_accepted : ((text : Bytes) (P : PlainPolicy) → reading_of text ≡ Ok P → Spells text P)
    → (seed size : ℕ) → policy_part (generated seed size) ≡ text_of generated_policy
    → IsOkAnd (document_read accepted (generated seed size)) (λ lines. entries_of lines ≡ generated_entries seed size)
    → length (generated seed size) ≤ 4194304 → IsAccepted (generated seed size)
is_accepted spells seed size part says short =
    let known = fine (reading_of (text_of generated_policy)) policy_fine in
    let script = is_read (generated_entries seed size) (document_read accepted (generated seed size)) says in
    record {
      short = short;
      policy = known.policy;
      lines = script.lines;
      has_policy = record { spelled = rw part (spells (text_of generated_policy) known.policy known.read); typed = known.typed };
      says = script.says;
    }
