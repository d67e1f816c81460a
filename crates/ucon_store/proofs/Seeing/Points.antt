-- The checkpoint of a history that is found is the one of the history's trace, and its text is read back.
use Rattle.std.proofs.Common.{◌≡◌, ◌∙◌, ℕ, ◌<◌, ◌≤ℤ◌, ◌^◌, ℤ, pos, negsuc, true, [], ◌∷◌, length, Option, Some, None, Ok, refl, ap, arith}
use Rattle.std.specs.Prelude.{◌↔◌, IsSomeAnd}
use Rattle.std.proofs.lemmas.Bool.{false≢true}
use Rattle.std.proofs.lemmas.Int.{ints}
use Rattle.ucon_base.specs.Elements.{Each, each_map}
use Rattle.ucon_base.specs.Reading.{value_read}
use Rattle.ucon_base.specs.Spelling.{IsValue, value_spelling}
use Rattle.ucon_base.specs.declared.value.Side.{Side}
use Rattle.ucon_base.specs.declared.value.Value.{Value}
use Rattle.ucon_base.specs.declared.value.Value.TheVariants.{Int}
use Rattle.ucon_model.specs.Action.{Action, Trace}
use Rattle.ucon_model.specs.CommandLine.{IsCommand}
use Rattle.ucon_model.specs.History.{AreCommands, History, trace}
use Rattle.ucon_model.specs.Legal.{IsLegal}
use Rattle.ucon_model.specs.Plain.{Bytes, PlainPolicy}
use Rattle.ucon_model.specs.Readings.{entities, entity_names, in_force, tick_of}
use Rattle.ucon_model.specs.Typing.{IsTyped}
use Rattle.ucon_model.specs.Work.{NobodyFails}
use Rattle.ucon_state.specs.Applied.{opening_tables}
use Rattle.ucon_state.specs.Following.{Follows, IsFollowing, IsLegalTrace}
use Rattle.ucon_state.specs.Held.{Held, ReadsAlike, held_after}
use Rattle.ucon_state.specs.Shown.{Shown, changed_by}
use Rattle.ucon_point.specs.HeldRows.{point_held, rows_held}
use Rattle.ucon_point.specs.Orderly.{IsOrderly}
use Rattle.ucon_point.specs.PointRead.{IsPoint, Said, is_whole, point_read}
use Rattle.ucon_point.specs.PointText.{point_text}
use Rattle.ucon_point.specs.RowText.{IsRow, IsSpelled}
use Rattle.ucon_point.specs.Standing.{Standing}
use Rattle.ucon_syntax.specs.Policies.{accepted}
use Rattle.ucon_store.specs.Opened.{IsPointOf, text_said}
use Rattle.ucon_store.specs.Points.{checkpoint, text_in_force}
use Rattle.ucon_store.specs.ReadBack.{showing_only}
use Rattle.ucon_store.proofs.Seeing.Histories.{IsGood, PayloadLaws}
use Rattle.ucon_store.proofs.Seeing.SpelledRows.{rows_spelled}
use Rattle.ucon_store.proofs.Spelled.Blocks.{trace_spelled}
use Rattle.ucon_store.proofs.Spelled.Policies.{IsOfNames, spelled_names}
use Rattle.ucon_store.proofs.Spelled.Traces.{AreSpelled, tick_spelled}

-- the laws on states and checkpoints that are built on
pub record PointLaws : Type 0 where
  pub written : (v : Value) → IsValue v → value_read (value_spelling v) ≡ Ok v
  pub settled : (P : PlainPolicy) (H : History) → NobodyFails P (trace P H)
  pub opening : (s : Shown) (P : PlainPolicy) → IsTyped (in_force P []) → s.policy ≡ in_force P [] → s.tables ≡ opening_tables s.policy → Follows s P []
  pub after : (s : Shown) (P : PlainPolicy) (T : Trace) (a : Action) → Follows s P T → IsLegal P T a → Follows (changed_by s a) P (a ∷ T)
  pub legal : (P : PlainPolicy) → IsTyped P → (H : History) → AreCommands H → IsLegalTrace P (trace P H)
  pub alike : (s : Shown) (P : PlainPolicy) (T : Trace) → IsFollowing s → Follows s P T ↔ ReadsAlike s P T
  pub point : (entries : ℕ) (text : Bytes) (P : PlainPolicy) (H : History) → IsTyped P → AreCommands H → entries < 2 ^ 64
      → accepted text ≡ Some (in_force P (trace P H)) → IsSpelled (Int (tick_of (trace P H))) → Each IsRow (rows_held (held_after P (trace P H)))
      → IsPoint (point_held entries text (held_after P (trace P H)))
  pub order : (P : PlainPolicy) (H : History) → IsTyped P → AreCommands H → IsOrderly (held_after P (trace P H))
  pub read : (entries : ℕ) (text : Bytes) (h : Held) → IsPoint (point_held entries text h) → point_read (point_text entries text h) ≡ Ok (point_held entries text h)

pub the_end : (o : Option Standing) (Q : Standing → Type 0) → IsSomeAnd o Q → (end : Standing) × (o ≡ Some end)
the_end None Q h = absurd h
the_end (Some end) Q h = (end, refl)

pub whole_since : (t : ℤ) → is_whole t ≡ true → pos 0 ≤ℤ t
whole_since (pos n) h = grind (arith, ints)
whole_since (negsuc n) h = absurd (false≢true h)

module _ (laws : PointLaws) (payloads : PayloadLaws) where
  -- a state that follows a legal trace
  followed_trace : (P : PlainPolicy) (T : Trace) → IsTyped P → IsLegalTrace P T → (s : Shown) × Follows s P T
  followed_trace P [] typed legal = (showing_only P (opening_tables P), laws.opening (showing_only P (opening_tables P)) P typed refl refl)
  followed_trace P (a ∷ T) typed legal =
      let f = followed_trace P T typed legal.0 in
      (changed_by f.0 a, laws.after f.0 P T a f.1 legal.1)

  module _ (text : Bytes) (P : PlainPolicy) (accepts : accepted text ≡ Some P) (H : History) (good : IsGood text P H) (few : length H < 2 ^ 64) where
    abbrev T : Trace
    T = trace P H

    abbrev told : Said
    told = point_held (length H) (text_in_force text H) (held_after P T)

    typed : IsTyped P
    typed = ((payloads.accepts text P).0 accepts).1

    names : IsOfNames P
    names = spelled_names text P ((payloads.accepts text P).0 accepts).0

    commands : AreCommands H
    commands = each_map (λ e. (e.caller.0 < 64) × IsCommand e.command) (λ e. IsCommand e.command) (λ e both. both.1) H good.clients

    spelled : AreSpelled T
    spelled = trace_spelled P names [] tt H good.clients

    is_point : IsPoint told
    is_point =
        laws.point (length H) (text_in_force text H) P H typed commands few good.accepts (laws.written (Int (tick_of T)) (tick_spelled T spelled)) (rows_spelled laws.written P names T spelled)

    -- some state follows the trace of the history
    history : (s : Shown) × Follows s P T
    history = followed_trace P T typed (laws.legal P typed H commands)

    pub made_once : (side : Side) → entities side T ≡ length (entity_names side T)
    made_once =
        ((laws.alike history.0 P T (record { policy = P; trace = T; follows = history.1 })).0 history.1).made_once

    -- the checkpoint has the text of the policy in force
    pub text_of_history : (payload : Bytes) → payload ≡ checkpoint text P H → text_said text (point_read payload) ≡ text_in_force text H
    text_of_history payload is = ap (text_said text) (ap point_read is ∙ laws.read (length H) (text_in_force text H) (held_after P T) is_point)

    -- so the checkpoint is the one of the history's trace
    pub point_of_history : (payload : Bytes) → payload ≡ checkpoint text P H → IsPointOf (length H) P T payload
    point_of_history payload is = record {
      text = text_in_force text H;
      in_force = good.accepts;
      few = few;
      since = whole_since (tick_of T) is_point.from_zero;
      tick = is_point.tick;
      rows = is_point.rows;
      orderly = laws.order P H typed commands;
      written = is;
      made_once = made_once;
      settled = laws.settled P H;
    }
