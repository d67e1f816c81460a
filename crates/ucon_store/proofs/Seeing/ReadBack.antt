-- The checkpoint of a trace is read as it, and what is read as a trace's checkpoint is that checkpoint.
use Rattle.std.proofs.Common.{◌≡◌, ◌∙◌, ℕ, ◌<◌, ◌≤ℤ◌, ◌^◌, ℤ, pos, negsuc, true, Some, None, Ok, refl, sym, ap, subst, arith}
use Rattle.std.specs.Prelude.{◌↔◌}
use Rattle.std.proofs.lemmas.Int.{ints}
use Rattle.ucon_base.specs.Elements.{Each}
use Rattle.ucon_base.specs.declared.value.Value.TheVariants.{Int}
use Rattle.ucon_model.specs.Action.{Trace}
use Rattle.ucon_model.specs.Plain.{Bytes, PlainPolicy}
use Rattle.ucon_model.specs.Readings.{in_force, tick_of}
use Rattle.ucon_state.specs.Following.{Follows, IsFollowing, Keeps}
use Rattle.ucon_state.specs.Held.{Held, ReadsAlike, held_after, held_in}
use Rattle.ucon_state.specs.Shown.{Shown}
use Rattle.ucon_point.specs.Order.{awaited}
use Rattle.ucon_point.specs.RowText.{IsRow, IsSpelled}
use Rattle.ucon_point.specs.HeldRows.{point_held, rows_held}
use Rattle.ucon_point.specs.Orderly.{IsOrderly}
use Rattle.ucon_point.specs.PointRead.{IsPoint, Said, is_whole, point_read, point_spelling}
use Rattle.ucon_point.specs.PointText.{point_text}
use Rattle.ucon_point.specs.Standing.{Standing, put_all, start}
use Rattle.ucon_syntax.specs.Policies.{accepted}
use Rattle.ucon_store.specs.Opened.{IsPointOf, text_said}
use Rattle.ucon_store.specs.ReadBack.{IsReadPointOf, showing_only}
use Rattle.ucon_store.proofs.Seeing.Listed.{listed_all}
use Rattle.ucon_store.proofs.Seeing.Ordered.{listed_in_order}
use Rattle.ucon_store.proofs.Seeing.Points.{the_end, whole_since}
use Rattle.ucon_store.proofs.Seeing.SameHeld.{held_same}

-- the laws on states and checkpoints that are built on
pub record ReadLaws : Type 0 where
  pub keeps : (s : Shown) (P : PlainPolicy) (T : Trace) → Follows s P T → Keeps s.policy s.tables P T
  pub alike : (s : Shown) (P : PlainPolicy) (T : Trace) → IsFollowing s → Follows s P T ↔ ReadsAlike s P T
  pub points : (bytes : Bytes) (p : Said) → point_read bytes ≡ Ok p → IsPoint p × (point_spelling p ≡ bytes)
  pub text : (entries : ℕ) (text : Bytes) (h : Held) → point_text entries text h ≡ point_spelling (point_held entries text h)
  pub read : (entries : ℕ) (text : Bytes) (h : Held) → IsPoint (point_held entries text h) → point_read (point_text entries text h) ≡ Ok (point_held entries text h)
  pub held : (p : Said) (end : Standing) → IsPoint p → put_all p.policy (start p.policy p.tick) p.rows ≡ Some end → point_held p.entries p.text (held_in p.policy end.tables) ≡ p
  pub followed : (p : Said) (end : Standing) → IsPoint p → put_all p.policy (start p.policy p.tick) p.rows ≡ Some end
      → (s : Shown) → s.policy ≡ p.policy → s.tables ≡ end.tables → IsFollowing s
  pub order : (p : Said) (end : Standing) → IsPoint p → put_all p.policy (start p.policy p.tick) p.rows ≡ Some end → IsOrderly (held_in p.policy end.tables)
  pub can_be_put : (entries : ℕ) (text : Bytes) (h : Held) → entries < 2 ^ 64 → accepted text ≡ Some h.policy → IsSpelled (Int h.tick) → is_whole h.tick ≡ true
      → Each IsRow (rows_held h) → IsOrderly h → IsPoint (point_held entries text h)

whole_tick : (t : ℤ) → pos 0 ≤ℤ t → is_whole t ≡ true
whole_tick (pos n) h = refl
whole_tick (negsuc n) h = absurd (omega (arith, ints, h))

module _ (laws : ReadLaws) (entries : ℕ) (P : PlainPolicy) (T : Trace) (payload : Bytes) where
  abbrev h : Held
  h = held_after P T

  -- ---- what is written is read

  module _ (k : IsPointOf entries P T payload) where
    abbrev told : Said
    told = point_held entries k.text h

    is_point : IsPoint told
    is_point = laws.can_be_put entries k.text h k.few k.in_force k.tick (whole_tick (tick_of T) k.since) k.rows k.orderly

    end : (e : Standing) × (put_all (in_force P T) (start (in_force P T) (tick_of T)) (rows_held h) ≡ Some e)
    end = the_end _ (λ s. awaited (in_force P T) s.reached ≡ None) is_point.order

    -- the state that the rows make follows some trace, after which the same is there
    abbrev made : Shown
    made = showing_only (in_force P T) end.0.tables

    following : IsFollowing made
    following = laws.followed told end.0 is_point end.1 made refl refl

    made_alike : ReadsAlike made following.policy following.trace
    made_alike = (laws.alike made following.policy following.trace following).0 following.follows

    told_by : point_held entries k.text (held_after following.policy following.trace) ≡ told
    told_by = ap (λ (x : Held). point_held entries k.text x) (sym made_alike.held_alike) ∙ laws.held told end.0 is_point end.1

    same_held : held_after following.policy following.trace ≡ h
    same_held =
        held_same following.policy following.trace P T (listed_all laws.keeps made following.policy following.trace following.follows) (listed_in_order P T k.orderly)
        (ap (λ (p : Said). p.policy) told_by) (ap (λ (p : Said). p.tick) told_by) (ap (λ (p : Said). p.rows) told_by)

    is_read : IsReadPointOf entries P T payload
    is_read = record {
      said = told;
      reads = ap point_read k.written ∙ laws.read entries k.text h is_point;
      count = refl;
      end = end.0;
      made = end.1;
      alike = record { held_alike = made_alike.held_alike ∙ same_held; made_once = k.made_once };
      settled = k.settled;
    }

    -- and its text is read
    pub text_read : (text : Bytes) → text_said text (point_read payload) ≡ k.text
    unfolding is_read
    text_read text = ap (text_said text) is_read.reads

  -- ---- and what is read is what is written

  module _ (k : IsReadPointOf entries P T payload) where
    abbrev there : Held
    there = held_in k.said.policy k.end.tables

    said_so : IsPoint k.said
    said_so = (laws.points payload k.said k.reads).0

    listed : point_held k.said.entries k.said.text there ≡ k.said
    listed = laws.held k.said k.end said_so k.made

    policies : k.said.policy ≡ in_force P T
    policies = ap (λ (x : Held). x.policy) k.alike.held_alike

    ticks : k.said.tick ≡ tick_of T
    ticks = sym (ap (λ (p : Said). p.tick) listed) ∙ ap (λ (x : Held). x.tick) k.alike.held_alike

    all_rows : k.said.rows ≡ rows_held h
    all_rows = sym (ap (λ (p : Said). p.rows) listed) ∙ ap rows_held k.alike.held_alike

    is_written : IsPointOf entries P T payload
    is_written = record {
      text = k.said.text;
      in_force = said_so.policy ∙ ap (λ (Q : PlainPolicy). Some Q) policies;
      few = subst (λ (n : ℕ). n < 2 ^ 64) k.count said_so.entries;
      since = subst (λ (t : ℤ). pos 0 ≤ℤ t) ticks (whole_since k.said.tick said_so.from_zero);
      tick = subst (λ (t : ℤ). IsSpelled (Int t)) ticks said_so.tick;
      rows = subst (Each IsRow) all_rows said_so.rows;
      orderly = subst IsOrderly k.alike.held_alike (laws.order k.said k.end said_so k.made);
      written = sym (laws.points payload k.said k.reads).1 ∙ ap point_spelling (sym listed) ∙ sym (laws.text k.said.entries k.said.text there)
          ∙ (λ i. point_text (k.count i) k.said.text (k.alike.held_alike i));
      made_once = k.alike.made_once;
      settled = k.settled;
    }

  pub read_back : IsPointOf entries P T payload ↔ IsReadPointOf entries P T payload
  read_back = (λ k. is_read k, λ k. is_written k)
