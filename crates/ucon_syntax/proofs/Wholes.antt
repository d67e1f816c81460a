-- Lists of items, rights and policies keep to their forms.
use Rattle.std.specs.Prelude.{⊤}
use Rattle.std.proofs.Common.{◌≡◌, ℕ, zero, suc, ◌+◌, ◌<◌, ◌≤◌, Bool, true, false, List, ◌∷◌, drop, Option, Some, None, is_some, Result, codes, refl, sym, ap, ◌∙◌, subst, arith}
use Rattle.ucon_base.specs.declared.value.Side.{Side}
use Rattle.ucon_base.specs.declared.value.Side.TheVariants as sides
use Rattle.ucon_model.specs.declared.policy.AttrDecl.{AttrDecl}
use Rattle.ucon_model.specs.declared.policy.EnvDecl.{EnvDecl}
use Rattle.ucon_model.specs.declared.policy.Phase.{Phase}
use Rattle.ucon_model.specs.declared.policy.Phase.TheVariants as phases
use Rattle.ucon_model.specs.declared.policy.When.{When}
use Rattle.ucon_model.specs.declared.policy.When.TheVariants as whens
use Rattle.ucon_model.specs.Plain.{Bytes, PlainPredicate, PlainRight, PlainPolicy}
use Rattle.ucon_base.specs.Tokens.{Token, a_word, a_symbol, open_curly, close_curly}
use Rattle.ucon_model.specs.Forms.{Terminal, word, as_token, Limit, item, Marked, beyond, Form, nothing, before, and_then, mapped}
use Rattle.ucon_model.specs.Grammar.{keyword, sign, a_name, side_token, SideCount, of_side, count_side, an_attr, attrs, an_env, envs, phase_token, PhaseCount, of_phase, count_phase, a_pred, preds, when_token, WhenCount, of_when, count_when, an_update, updates, a_right, rights, a_policy}
use Rattle.ucon_token.specs.Tokens.{first, is_word}
use Rattle.ucon_token.specs.Reading.{Halt}
use Rattle.ucon_syntax.specs.Starts.{phase_of, when_of}
use Rattle.ucon_syntax.specs.Lists.{alone}
use Rattle.ucon_syntax.specs.Items.{attr_at, env_at, pred_at, update_at, begins_pred, begins_update}
use Rattle.ucon_syntax.specs.Policies.{preds_at, updates_at, right_at, attrs_at, envs_at, rights_at, policy_at}
use Rattle.ucon_syntax.proofs.Marks.{not_beyond, is_beyond}
use Rattle.ucon_syntax.proofs.Keeping.{Meets}
use Rattle.ucon_syntax.proofs.Local.{gives, andthen}
use Rattle.ucon_syntax.proofs.Outcomes.{Led, led_head}
use Rattle.ucon_syntax.proofs.Sound.{Sound, Anything, sound_ending, sound_nothing, sound_mapped, sound_meeting, sound_then, sound_before}
use Rattle.ucon_syntax.proofs.Listed.{Over, OverAt, Listing, sound_listed}
use Rattle.ucon_syntax.proofs.Words.{is_word_is, symbol_tests, word_tests, sound_name}
use Rattle.ucon_syntax.proofs.Rooms.{side_room, phase_room, when_room, phase_is, phase_again, when_is, when_again, item_alone, clean_first, below_most}
use Rattle.ucon_syntax.proofs.Parts.{sound_attr, attr_runs, attr_tail, env_rest, sound_env, sound_pred, pred_runs, pred_rest, pred_example, pred_phase, sound_update, update_runs, plain_rest, update_example}

-- ---- attributes

abbrev attr_fits : ℕ → SideCount → Type 0
attr_fits f n = (f + (n.subject + n.object) ≡ 33) × (n.subject ≤ 16) × (n.object ≤ 16)

attr_next : (f : ℕ) (n : SideCount) (side : Side) → attr_fits (suc f) n → of_side n side < 16 → attr_fits f (count_side n side)
attr_next f n sides.Subject fits lt = (omega (arith, fits.0), omega arith, fits.2)
attr_next f n sides.Object fits lt = (omega (arith, fits.0), fits.1, omega arith)

no_room : {Q : Type 0} (n : SideCount) → attr_fits 0 n → Q
no_room n fits = absurd (omega (arith, fits.0, fits.1, fits.2))

attrs_listing : {P : Type 0} → Listing P an_attr (λ n a. count_side n a.side) side_room (λ t. is_word t (codes "attr")) attr_at attr_fits
unfolding is_word
attrs_listing = record {
  sound = λ f n fits. sound_attr n;
  runs = attr_runs;
  led = λ n s proper. refl;
  next = λ f n s fits clean. attr_next f n s.0 fits (below_most 16 (of_side n s.0) (clean_first (side_token s.0) (beyond item 16 (of_side n s.0)) ((attr_tail s.0).tokens s.1) clean));
  full = λ n s fits. no_room n fits;
  full_at = λ n ts fits b. no_room n fits;
}

sound_attrs : {P : Type 0} → Sound P attrs (λ t. is_word t (codes "attr") ≡ false) attrs_at
unfolding attrs_at
sound_attrs = sound_listed attrs_listing 33 (record { subject = 0; object = 0 }) (refl, omega arith, omega arith)

-- ---- items that are counted together

marked_led : (test : Token → Bool) (most n : ℕ) (w : Bytes) (ms : List Marked) → test (a_word w) ≡ true → Led (λ t. test t ≡ true) ((word w, beyond item most n) ∷ ms)
marked_led test most n w ms is = led_head (λ t. test t ≡ true) (word w) (beyond item most n) ms (λ l u e s. ap test (item_alone most n (word w) l e u s) ∙ is) is

full_over : {A : Type 0} (X : Form A) (s : X.Written) (most n : ℕ) (t : Terminal) (ms : List Marked) → most ≤ n → X.tokens s ≡ (t, beyond item most n) ∷ ms → Over X s
full_over X s most n t ms le e = record { last = t; limit = item; more = ms; whole = e ∙ ap (λ (o : Option Limit). (t, o) ∷ ms) (is_beyond item most n le); cause = refl }

full_at : {A : Type 0} (X : Form A) (s : X.Written) → X.IsProper s → (ts : List Token) (most n : ℕ) (t : Terminal) (ms : List Marked) → most ≤ n → X.tokens s ≡ (t, beyond item most n) ∷ ms → ts ≡ as_token t ∷ drop 1 ts → OverAt X ts
full_at X s proper ts most n t ms le e text = record { written = s; proper = proper; last = t; limit = item; more = ms; whole = e ∙ ap (λ (o : Option Limit). (t, o) ∷ ms) (is_beyond item most n le); cause = refl; text = text }

-- an item that begins with a word, below the limit
below_limit : {A : Type 0} {P : Type 0} (most n : ℕ) (w : Bytes) (X : Form A) (reads : List Token → Result (A × List Token) Halt) → n < most → Sound P (before (keyword w) X) Anything reads → Sound P (mapped (λ a. (a, tt)) (before (word w, beyond item most n) X)) Anything (alone reads tt)
below_limit {A} {P} most n w X reads lt x =
    let Q : Option Limit → Type 0 = λ o. Sound P (mapped (λ a. (a, tt)) (before (word w, o) X)) Anything (alone reads tt) in
    subst Q (sym (not_beyond item most n lt)) (sound_mapped (λ a. (a, tt)) x)

abbrev one_fits : ℕ → ℕ → ℕ → Type 0
one_fits most f n = f + n ≡ most

envs_listing : {P : Type 0} → Listing P an_env (λ n v. suc n) (λ n. tt) (λ t. is_word t (codes "env")) (alone env_at) (one_fits 32)
unfolding is_word
envs_listing {P} = record {
  sound = λ f n fits. below_limit 32 n (codes "env") env_rest env_at (omega (arith, fits)) sound_env;
  runs = λ r. andthen (sound_env {P = ⊤}).runs (λ a. gives (a, tt));
  led = λ n s proper. marked_led (λ t. is_word t (codes "env")) 32 n (codes "env") (env_rest.tokens s) refl;
  next = λ f n s fits clean. omega (arith, fits);
  full = λ n s fits. full_over (an_env n) s 32 n (word (codes "env")) (env_rest.tokens s) (omega (arith, fits)) refl;
  full_at = λ n ts fits b. let e = (sound_env {P = ⊤}).example tt in full_at (an_env n) e.written e.proper ts 32 n (word (codes "env")) (env_rest.tokens e.written) (omega (arith, fits)) refl (is_word_is ts (codes "env") b);
}

sound_envs : {P : Type 0} → Sound P envs (λ t. is_word t (codes "env") ≡ false) envs_at
unfolding envs_at
sound_envs = sound_listed envs_listing 32 0 refl

-- ---- predicates

abbrev pred_fits : ℕ → PhaseCount → Type 0
pred_fits f n = (f + (n.pre + n.ongoing) ≡ 32) × (n.pre ≤ 16) × (n.ongoing ≤ 16)

pred_next : (f : ℕ) (n : PhaseCount) (phase : Phase) → pred_fits (suc f) n → of_phase n phase < 16 → pred_fits f (count_phase n phase)
pred_next f n phases.Pre fits lt = (omega (arith, fits.0), omega arith, fits.2)
pred_next f n phases.Ongoing fits lt = (omega (arith, fits.0), fits.1, omega arith)

pred_full : (n : PhaseCount) (phase : Phase) → pred_fits 0 n → 16 ≤ of_phase n phase
pred_full n phases.Pre fits = omega (arith, fits.0, fits.1, fits.2)
pred_full n phases.Ongoing fits = omega (arith, fits.0, fits.1, fits.2)

there : {B : Type 0} (o : Option B) → is_some o ≡ true → (b : B) × (o ≡ Some b)
there None e = absurd cc
there (Some b) e = (b, refl)

pred_led : (n : PhaseCount) (phase : Phase) (ms : List Marked) → Led (λ t. begins_pred t ≡ true) ((phase_token phase, beyond item 16 (of_phase n phase)) ∷ ms)
pred_led n phase ms = led_head (λ t. begins_pred t ≡ true) (phase_token phase) (beyond item 16 (of_phase n phase)) ms (λ l u e s. ap begins_pred (item_alone 16 (of_phase n phase) (phase_token phase) l e u s) ∙ ap is_some (phase_again phase)) (ap is_some (phase_again phase))

preds_listing : {P : Type 0} → Listing P a_pred (λ n p. count_phase n p.phase) phase_room begins_pred pred_at pred_fits
preds_listing = record {
  sound = λ f n fits. sound_pred n;
  runs = pred_runs;
  led = λ n s proper. pred_led n s.0 ((pred_rest s.0).tokens s.1);
  next = λ f n s fits clean. let Q : Phase → Type 0 = λ z. pred_fits f (count_phase n z) in subst Q (sym (pred_phase n s)) (pred_next f n s.0 fits (below_most 16 (of_phase n s.0) (clean_first (phase_token s.0) (beyond item 16 (of_phase n s.0)) ((pred_rest s.0).tokens s.1) clean)));
  full = λ n s fits. full_over (a_pred n) s 16 (of_phase n s.0) (phase_token s.0) ((pred_rest s.0).tokens s.1) (pred_full n s.0 fits) refl;
  full_at = λ n ts fits b.
      let p = there (phase_of (first ts)) b in
      let e = pred_example p.0 in
      full_at (a_pred n) (p.0, e.written) (tt, e.proper) ts 16 (of_phase n p.0) (phase_token p.0) ((pred_rest p.0).tokens e.written) (pred_full n p.0 fits) refl (phase_is ts p.0 p.1);
}

sound_preds : {P : Type 0} → Sound P preds (λ t. begins_pred t ≡ false) preds_at
unfolding preds_at
sound_preds = sound_listed preds_listing 32 (record { pre = 0; ongoing = 0 }) (refl, omega arith, omega arith)

-- ---- updates

abbrev update_fits : ℕ → WhenCount → Type 0
update_fits f n = (f + (n.before_usage + n.during_usage + n.after_end + n.after_revoke) ≡ 64) × (n.before_usage ≤ 16) × (n.during_usage ≤ 16) × (n.after_end ≤ 16) × (n.after_revoke ≤ 16)

update_next : (f : ℕ) (n : WhenCount) (when : When) → update_fits (suc f) n → of_when n when < 16 → update_fits f (count_when n when)
update_next f n whens.Before fits lt = (omega (arith, fits.0), omega arith, fits.2, fits.3, fits.4)
update_next f n whens.During fits lt = (omega (arith, fits.0), fits.1, omega arith, fits.3, fits.4)
update_next f n whens.AfterEnd fits lt = (omega (arith, fits.0), fits.1, fits.2, omega arith, fits.4)
update_next f n whens.AfterRevoke fits lt = (omega (arith, fits.0), fits.1, fits.2, fits.3, omega arith)

update_full : (n : WhenCount) (when : When) → update_fits 0 n → 16 ≤ of_when n when
update_full n whens.Before fits = omega (arith, fits.0, fits.1, fits.2, fits.3, fits.4)
update_full n whens.During fits = omega (arith, fits.0, fits.1, fits.2, fits.3, fits.4)
update_full n whens.AfterEnd fits = omega (arith, fits.0, fits.1, fits.2, fits.3, fits.4)
update_full n whens.AfterRevoke fits = omega (arith, fits.0, fits.1, fits.2, fits.3, fits.4)

update_led : (n : WhenCount) (when : When) (ms : List Marked) → Led (λ t. begins_update t ≡ true) ((when_token when, beyond item 16 (of_when n when)) ∷ ms)
update_led n when ms = led_head (λ t. begins_update t ≡ true) (when_token when) (beyond item 16 (of_when n when)) ms (λ l u e s. ap begins_update (item_alone 16 (of_when n when) (when_token when) l e u s) ∙ ap is_some (when_again when)) (ap is_some (when_again when))

updates_listing : {P : Type 0} → Listing P an_update (λ n u. count_when n u.when) when_room begins_update update_at update_fits
updates_listing = record {
  sound = λ f n fits. sound_update n;
  runs = update_runs;
  led = λ n s proper. update_led n s.0 ((plain_rest s.0).tokens s.1);
  next = λ f n s fits clean. update_next f n s.0 fits (below_most 16 (of_when n s.0) (clean_first (when_token s.0) (beyond item 16 (of_when n s.0)) ((plain_rest s.0).tokens s.1) clean));
  full = λ n s fits. full_over (an_update n) s 16 (of_when n s.0) (when_token s.0) ((plain_rest s.0).tokens s.1) (update_full n s.0 fits) refl;
  full_at = λ n ts fits b.
      let p = there (when_of (first ts)) b in
      let e = update_example p.0 in
      full_at (an_update n) (p.0, e.written) (tt, e.proper) ts 16 (of_when n p.0) (when_token p.0) ((plain_rest p.0).tokens e.written) (update_full n p.0 fits) refl (when_is ts p.0 p.1);
}

sound_updates : {P : Type 0} → Sound P updates (λ t. begins_update t ≡ false) updates_at
unfolding updates_at
sound_updates = sound_listed updates_listing 64 (record { before_usage = 0; during_usage = 0; after_end = 0; after_revoke = 0 }) (refl, omega arith, omega arith, omega arith, omega arith)

-- ---- rights

abbrev right_rest : Form PlainRight
right_rest =
    and_then a_name (λ name. before (sign open_curly) (and_then preds (λ preds. and_then updates (λ updates.
    before (sign close_curly) (nothing (record { name = name; preds = preds; updates = updates }))))))

abbrev ending_of : Bytes → List PlainPredicate → Form PlainRight
ending_of name preds = and_then updates (λ updates. before (sign close_curly) (nothing (record { name = name; preds = preds; updates = updates })))

-- behind the predicates stands an update or a bracket
no_pred : (name : Bytes) (preds : List PlainPredicate) (s : (ending_of name preds).Written) → Meets (λ t. begins_pred t ≡ false) ((ending_of name preds).tokens s) Anything
unfolding phase_of is_word
no_pred name ps ((zero, us), e) = refl
no_pred name ps ((suc k, ((whens.Before, u), us)), e) = refl
no_pred name ps ((suc k, ((whens.During, u), us)), e) = refl
no_pred name ps ((suc k, ((whens.AfterEnd, u), us)), e) = refl
no_pred name ps ((suc k, ((whens.AfterRevoke, u), us)), e) = refl

no_update : begins_update (a_symbol close_curly) ≡ false
unfolding when_of is_word
no_update = refl

sound_right : {P : Type 0} → Sound P (before (keyword (codes "right")) right_rest) Anything right_at
unfolding right_at
sound_right =
    sound_before (word_tests (codes "right")) (sound_then sound_name (λ name. sound_before (symbol_tests open_curly)
    (sound_meeting sound_preds (λ preds. sound_meeting sound_updates (λ updates. sound_before (symbol_tests close_curly) (sound_nothing (record { name = name; preds = preds; updates = updates }))) (λ updates s proper. no_update)) (λ preds s proper. no_pred name preds s))))

rights_listing : {P : Type 0} → Listing P a_right (λ n r. suc n) (λ n. tt) (λ t. is_word t (codes "right")) (alone right_at) (one_fits 64)
unfolding is_word
rights_listing {P} = record {
  sound = λ f n fits. below_limit 64 n (codes "right") right_rest right_at (omega (arith, fits)) sound_right;
  runs = λ r. andthen (sound_right {P = ⊤}).runs (λ a. gives (a, tt));
  led = λ n s proper. marked_led (λ t. is_word t (codes "right")) 64 n (codes "right") (right_rest.tokens s) refl;
  next = λ f n s fits clean. omega (arith, fits);
  full = λ n s fits. full_over (a_right n) s 64 n (word (codes "right")) (right_rest.tokens s) (omega (arith, fits)) refl;
  full_at = λ n ts fits b. let e = (sound_right {P = ⊤}).example tt in full_at (a_right n) e.written e.proper ts 64 n (word (codes "right")) (right_rest.tokens e.written) (omega (arith, fits)) refl (is_word_is ts (codes "right") b);
}

sound_rights : {P : Type 0} → Sound P rights (λ t. is_word t (codes "right") ≡ false) rights_at
unfolding rights_at
sound_rights = sound_listed rights_listing 64 0 refl

-- ---- policies

-- what may follow a policy
abbrev pub policy_ends : Token → Type 0
policy_ends t = (is_word t (codes "attr") ≡ false) × (is_word t (codes "env") ≡ false) × (is_word t (codes "right") ≡ false)

abbrev behind_envs : List AttrDecl → List EnvDecl → Form PlainPolicy
behind_envs attrs envs = mapped (λ rights. record { attrs = attrs; envs = envs; rights = rights }) rights

abbrev behind_attrs : List AttrDecl → Form PlainPolicy
behind_attrs attrs = and_then envs (λ envs. behind_envs attrs envs)

no_env : (attrs : List AttrDecl) (envs : List EnvDecl) (s : (behind_envs attrs envs).Written) → Meets (λ t. is_word t (codes "env") ≡ false) ((behind_envs attrs envs).tokens s) policy_ends
unfolding is_word
no_env declared vars (zero, rs) = λ t e. e.1
no_env declared vars (suc k, rs) = refl

no_attr : (attrs : List AttrDecl) (s : (behind_attrs attrs).Written) → Meets (λ t. is_word t (codes "attr") ≡ false) ((behind_attrs attrs).tokens s) policy_ends
unfolding is_word
no_attr declared ((suc k, vs), rs) = refl
no_attr declared ((zero, vs), (suc k, rs)) = refl
no_attr declared ((zero, vs), (zero, rs)) = λ t e. e.0

pub sound_policy : {P : Type 0} → Sound P a_policy policy_ends policy_at
unfolding policy_at
sound_policy =
    sound_meeting sound_attrs (λ attrs. sound_meeting sound_envs (λ envs. sound_mapped (λ rights. record { attrs = attrs; envs = envs; rights = rights }) (sound_ending policy_ends (λ t e. e.2) sound_rights)) (λ envs s proper. no_env attrs envs s)) (λ attrs s proper. no_attr attrs s)
