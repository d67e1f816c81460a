-- What is read off a state is what is read off the trace that it follows. These laws stand here and not as functions, since the proofs of
-- the crates above go on from them.
use Rattle.std.proofs.Common.{◌≡◌, ℕ, length, sym, ap}
use Rattle.std.specs.Prelude.{is_some}
use Rattle.ucon_base.specs.declared.value.Side.{Side}
use Rattle.ucon_base.specs.declared.value.Side.TheVariants.{Subject, Object}
use Rattle.ucon_model.specs.Plain.{Bytes, PlainPolicy}
use Rattle.ucon_model.specs.Action.{Trace}
use Rattle.ucon_model.specs.Readings.{tick_of, has_entity, entities, attribute, moment, acts, session, sessions, accessing}
use Rattle.ucon_model.specs.Truth.{Readings, readings}
use Rattle.ucon_state.specs.declared.counts.Counts.{Counts}
use Rattle.ucon_state.specs.Following.{Follows, Keeps, counts_of}
use Rattle.ucon_state.specs.Shown.{Shown}
use Rattle.ucon_state.specs.Tables.{entities_of, entity_number, attribute_in, moment_in, session_in, readings_in, counts_in, accessing_among}

-- the law that the tables of a state keep each trace that it follows
abbrev pub TablesKeep : Type 0
TablesKeep = (s : Shown) (P : PlainPolicy) (T : Trace) → Follows s P T → Keeps s.policy s.tables P T

module _ (keep : TablesKeep) (s : Shown) (P : PlainPolicy) (T : Trace) (h : Follows s P T) where
  pub entity_there : (side : Side) (name : Bytes) → has_entity side name T ≡ is_some (entity_number s.tables side name)
  entity_there side name = sym ((keep s P T h).entity_is_there side name)

  counts_same : counts_in s.tables ≡ counts_of T
  counts_same = (keep s P T h).counts_agree

  pub readings_same : readings_in s.policy s.tables ≡ readings P T
  readings_same = λ i.
      let agree = (keep s P T h).readings_agree in
      record { now = agree.now i; row = λ n. agree.row n i; at = λ row place. agree.at row place i; done_at = λ a b c. agree.done_at a b c i }

  pub attribute_same : (side : Side) (name attr : Bytes) → attribute_in s.policy s.tables side name attr ≡ attribute P T side name attr
  attribute_same side name attr = (keep s P T h).attribute_agrees side name attr

  pub entities_same : (side : Side) → entities side T ≡ length (entities_of side s.tables)
  entities_same Subject = sym (ap (λ (c : Counts). c.subjects) counts_same)
  entities_same Object = sym (ap (λ (c : Counts). c.objects) counts_same)

  pub tick_same : tick_of T ≡ s.tables.tick
  tick_same = sym (ap (λ (R : Readings). R.now) readings_same)

  pub session_same : (n : ℕ) → session T n ≡ session_in s.tables n
  session_same n = sym (ap (λ (R : Readings). R.row n) readings_same)

  pub moment_same : (a b c : Bytes) → moment a b c T ≡ moment_in s.tables a b c
  moment_same a b c = sym (ap (λ (R : Readings). R.done_at a b c) readings_same)

  pub acts_same : acts T ≡ length s.tables.acts
  acts_same = sym (ap (λ (c : Counts). c.acts) counts_same)

  pub sessions_same : sessions T ≡ length s.tables.sessions
  sessions_same = sym (ap (λ (c : Counts). c.sessions) counts_same)

  pub accessing_same : accessing T ≡ accessing_among s.tables.sessions
  accessing_same = sym (ap (λ (c : Counts). c.accessing) counts_same)
