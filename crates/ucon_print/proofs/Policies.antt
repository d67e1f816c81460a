-- Rights and policies are read as they are printed.
use Rattle.std.proofs.Common.{◌≡◌, ℕ, suc, ◌+◌, ◌<◌, ◌≤◌, cond, List, [], ◌∷◌, ◌++◌, length, None, refl, sym, subst, arith}
use Rattle.std.specs.Prelude.{codes, count_by}
use Rattle.std.specs.List.{flat_map}
use Rattle.ucon_base.specs.Elements.{Each}
use Rattle.std.proofs.lemmas.List.{append-nil}
use Rattle.std.proofs.lemmas.List.Sums.{sum_by-cons}
use Rattle.ucon_base.specs.declared.value.Side.{Side}
use Rattle.ucon_base.specs.declared.value.Side.TheVariants as sides
use Rattle.ucon_model.specs.declared.policy.AttrDecl.{AttrDecl}
use Rattle.ucon_model.specs.declared.policy.EnvDecl.{EnvDecl}
use Rattle.ucon_model.specs.declared.policy.Phase.{Phase}
use Rattle.ucon_model.specs.declared.policy.Phase.TheVariants as phases
use Rattle.ucon_model.specs.declared.policy.When.{When}
use Rattle.ucon_model.specs.declared.policy.When.TheVariants as whens
use Rattle.ucon_model.specs.Plain.{Bytes, PlainPredicate, PlainUpdate, PlainRight, PlainPolicy}
use Rattle.ucon_model.specs.Printing.{attr_printing, env_printing, predicate_printing, update_printing, right_printing, policy_printing}
use Rattle.ucon_base.specs.Tokens.{Token, a_symbol, open_curly, close_curly}
use Rattle.ucon_model.specs.Forms.{word, symbol, item, beyond, Form, nothing, before, and_then, mapped, bare}
use Rattle.ucon_model.specs.Limits.{same_phase, IsRightWithin}
use Rattle.ucon_model.specs.Readings.{same_side}
use Rattle.ucon_model.specs.Updates.{same_when}
use Rattle.ucon_model.specs.Grammar.{SideCount, of_side, count_side, side_token, PhaseCount, of_phase, count_phase, phase_token, WhenCount, of_when, count_when, when_token, expr_of_depth}
use Rattle.ucon_model.specs.Grammar as grammar
use Rattle.ucon_print.specs.Printable.{IsAttr, IsEnv, IsPredicate, IsUpdate, IsRight}
use Rattle.ucon_print.proofs.Pieces.{Ends, Any, Puts, puts_both, Printed, not_beyond, before_printed, and_then_printed, mapped_printed, same_printed, list_printed, in_row_3, in_row_8}
use Rattle.ucon_print.proofs.Literals.{name_printed, blank_puts, new_line_puts, open_curly_puts, close_curly_puts}
use Rattle.ucon_base.specs.Tokens.{tokens_from, tokens_of}
use Rattle.ucon_model.specs.Spells.{Spells}
use Rattle.ucon_print.specs.Printable.{IsPrintable}
use Rattle.ucon_print.proofs.Lexing.{Lexes, nothing_left}
use Rattle.ucon_print.proofs.Declarations.{word_blank, closing, attr_printed, env_printed, right_word}
use Rattle.ucon_print.proofs.Entries.{predicate_printed, update_printed}

side_own : (s : Side) (n : SideCount) (k c : ℕ) → of_side n s + k ≤ 16 → k ≡ cond (same_side s s) 1 0 + c → of_side n s < 16
side_own sides.Subject n k c h e = omega (arith, h, e)
side_own sides.Object n k c h e = omega (arith, h, e)

side_moved : (s t : Side) (n : SideCount) (k c : ℕ) → of_side n t + k ≤ 16 → k ≡ cond (same_side t s) 1 0 + c → of_side (count_side n s) t + c ≤ 16
side_moved sides.Subject sides.Subject n k c h e = omega (arith, h, e)
side_moved sides.Subject sides.Object n k c h e = omega (arith, h, e)
side_moved sides.Object sides.Subject n k c h e = omega (arith, h, e)
side_moved sides.Object sides.Object n k c h e = omega (arith, h, e)

phase_own : (s : Phase) (n : PhaseCount) (k c : ℕ) → of_phase n s + k ≤ 16 → k ≡ cond (same_phase s s) 1 0 + c → of_phase n s < 16
phase_own phases.Pre n k c h e = omega (arith, h, e)
phase_own phases.Ongoing n k c h e = omega (arith, h, e)

phase_moved : (s t : Phase) (n : PhaseCount) (k c : ℕ) → of_phase n t + k ≤ 16 → k ≡ cond (same_phase t s) 1 0 + c → of_phase (count_phase n s) t + c ≤ 16
phase_moved phases.Pre phases.Pre n k c h e = omega (arith, h, e)
phase_moved phases.Pre phases.Ongoing n k c h e = omega (arith, h, e)
phase_moved phases.Ongoing phases.Pre n k c h e = omega (arith, h, e)
phase_moved phases.Ongoing phases.Ongoing n k c h e = omega (arith, h, e)

when_own : (s : When) (n : WhenCount) (k c : ℕ) → of_when n s + k ≤ 16 → k ≡ cond (same_when s s) 1 0 + c → of_when n s < 16
when_own whens.Before n k c h e = omega (arith, h, e)
when_own whens.During n k c h e = omega (arith, h, e)
when_own whens.AfterEnd n k c h e = omega (arith, h, e)
when_own whens.AfterRevoke n k c h e = omega (arith, h, e)

when_moved : (s t : When) (n : WhenCount) (k c : ℕ) → of_when n t + k ≤ 16 → k ≡ cond (same_when t s) 1 0 + c → of_when (count_when n s) t + c ≤ 16
when_moved whens.Before whens.Before n k c h e = omega (arith, h, e)
when_moved whens.Before whens.During n k c h e = omega (arith, h, e)
when_moved whens.Before whens.AfterEnd n k c h e = omega (arith, h, e)
when_moved whens.Before whens.AfterRevoke n k c h e = omega (arith, h, e)
when_moved whens.During whens.Before n k c h e = omega (arith, h, e)
when_moved whens.During whens.During n k c h e = omega (arith, h, e)
when_moved whens.During whens.AfterEnd n k c h e = omega (arith, h, e)
when_moved whens.During whens.AfterRevoke n k c h e = omega (arith, h, e)
when_moved whens.AfterEnd whens.Before n k c h e = omega (arith, h, e)
when_moved whens.AfterEnd whens.During n k c h e = omega (arith, h, e)
when_moved whens.AfterEnd whens.AfterEnd n k c h e = omega (arith, h, e)
when_moved whens.AfterEnd whens.AfterRevoke n k c h e = omega (arith, h, e)
when_moved whens.AfterRevoke whens.Before n k c h e = omega (arith, h, e)
when_moved whens.AfterRevoke whens.During n k c h e = omega (arith, h, e)
when_moved whens.AfterRevoke whens.AfterEnd n k c h e = omega (arith, h, e)
when_moved whens.AfterRevoke whens.AfterRevoke n k c h e = omega (arith, h, e)

-- room for so many more behind so many
abbrev attrs_room : SideCount → List AttrDecl → Type 0
attrs_room n xs = ((t : Side) → of_side n t + count_by (λ (y : AttrDecl). same_side t y.side) xs ≤ 16) × Each IsAttr xs

attrs_step : (n : SideCount) (x : AttrDecl) (xs : List AttrDecl) → attrs_room n (x ∷ xs) → Printed Any (grammar.an_attr n) x (attr_printing x) × attrs_room (count_side n x.side) xs
attrs_step n x xs room =
    let all = λ (t : Side). count_by (λ (y : AttrDecl). same_side t y.side) (x ∷ xs) in
    let rest = λ (t : Side). count_by (λ (y : AttrDecl). same_side t y.side) xs in
    let split : (t : Side) → all t ≡ cond (same_side t x.side) 1 0 + rest t = λ t. sum_by-cons (λ (y : AttrDecl). cond (same_side t y.side) 1 0) x xs in
    (attr_printed n x (side_own x.side n (all x.side) (rest x.side) (room.0 x.side) (split x.side)) room.1.0, ((λ t. side_moved x.side t n (all t) (rest t) (room.0 t) (split t)), room.1.1))

-- room for so many more behind so many
abbrev preds_room : PhaseCount → List PlainPredicate → Type 0
preds_room n xs = ((t : Phase) → of_phase n t + count_by (λ (y : PlainPredicate). same_phase t y.phase) xs ≤ 16) × Each IsPredicate xs

preds_step : (n : PhaseCount) (x : PlainPredicate) (xs : List PlainPredicate) → preds_room n (x ∷ xs) → Printed Any (grammar.a_pred n) x (predicate_printing x) × preds_room (count_phase n x.phase) xs
preds_step n x xs room =
    let all = λ (t : Phase). count_by (λ (y : PlainPredicate). same_phase t y.phase) (x ∷ xs) in
    let rest = λ (t : Phase). count_by (λ (y : PlainPredicate). same_phase t y.phase) xs in
    let split : (t : Phase) → all t ≡ cond (same_phase t x.phase) 1 0 + rest t = λ t. sum_by-cons (λ (y : PlainPredicate). cond (same_phase t y.phase) 1 0) x xs in
    (predicate_printed n x (phase_own x.phase n (all x.phase) (rest x.phase) (room.0 x.phase) (split x.phase)) room.1.0, ((λ t. phase_moved x.phase t n (all t) (rest t) (room.0 t) (split t)), room.1.1))

-- room for so many more behind so many
abbrev updates_room : WhenCount → List PlainUpdate → Type 0
updates_room n xs = ((t : When) → of_when n t + count_by (λ (y : PlainUpdate). same_when t y.when) xs ≤ 16) × Each IsUpdate xs

updates_step : (n : WhenCount) (x : PlainUpdate) (xs : List PlainUpdate) → updates_room n (x ∷ xs) → Printed Any (grammar.an_update n) x (update_printing x) × updates_room (count_when n x.when) xs
updates_step n x xs room =
    let all = λ (t : When). count_by (λ (y : PlainUpdate). same_when t y.when) (x ∷ xs) in
    let rest = λ (t : When). count_by (λ (y : PlainUpdate). same_when t y.when) xs in
    let split : (t : When) → all t ≡ cond (same_when t x.when) 1 0 + rest t = λ t. sum_by-cons (λ (y : PlainUpdate). cond (same_when t y.when) 1 0) x xs in
    (update_printed n x (when_own x.when n (all x.when) (rest x.when) (room.0 x.when) (split x.when)) room.1.0, ((λ t. when_moved x.when t n (all t) (rest t) (room.0 t) (split t)), room.1.1))

attrs_printed : (xs : List AttrDecl) → ((side : Side) → count_by (λ (a : AttrDecl). same_side side a.side) xs ≤ 16) → Each IsAttr xs → Printed Any grammar.attrs xs (flat_map attr_printing xs)
attrs_printed xs few each =
    let none : SideCount = record { subject = 0; object = 0 } in
    list_printed grammar.an_attr (λ n a. count_side n a.side) attrs_room attr_printing attrs_step none xs ((λ t. from_none t (count_by (λ (a : AttrDecl). same_side t a.side) xs) (few t)), each)
  where
    from_none : (t : Side) (k : ℕ) → k ≤ 16 → of_side (record { subject = 0; object = 0 }) t + k ≤ 16
    from_none sides.Subject k h = omega (arith, h)
    from_none sides.Object k h = omega (arith, h)

preds_printed : (xs : List PlainPredicate) → ((phase : Phase) → count_by (λ (p : PlainPredicate). same_phase phase p.phase) xs ≤ 16) → Each IsPredicate xs → Printed Any grammar.preds xs (flat_map predicate_printing xs)
preds_printed xs few each =
    let none : PhaseCount = record { pre = 0; ongoing = 0 } in
    list_printed grammar.a_pred (λ n p. count_phase n p.phase) preds_room predicate_printing preds_step none xs ((λ t. from_none t (count_by (λ (p : PlainPredicate). same_phase t p.phase) xs) (few t)), each)
  where
    from_none : (t : Phase) (k : ℕ) → k ≤ 16 → of_phase (record { pre = 0; ongoing = 0 }) t + k ≤ 16
    from_none phases.Pre k h = omega (arith, h)
    from_none phases.Ongoing k h = omega (arith, h)

updates_printed : (xs : List PlainUpdate) → ((when : When) → count_by (λ (u : PlainUpdate). same_when when u.when) xs ≤ 16) → Each IsUpdate xs → Printed Any grammar.updates xs (flat_map update_printing xs)
updates_printed xs few each =
    let none : WhenCount = record { before_usage = 0; during_usage = 0; after_end = 0; after_revoke = 0 } in
    list_printed grammar.an_update (λ n u. count_when n u.when) updates_room update_printing updates_step none xs ((λ t. from_none t (count_by (λ (u : PlainUpdate). same_when t u.when) xs) (few t)), each)
  where
    from_none : (t : When) (k : ℕ) → k ≤ 16 → of_when (record { before_usage = 0; during_usage = 0; after_end = 0; after_revoke = 0 }) t + k ≤ 16
    from_none whens.Before k h = omega (arith, h)
    from_none whens.During k h = omega (arith, h)
    from_none whens.AfterEnd k h = omega (arith, h)
    from_none whens.AfterRevoke k h = omega (arith, h)

-- ---- variables and rights

abbrev envs_room : ℕ → List EnvDecl → Type 0
envs_room n xs = (n + length xs ≤ 32) × Each IsEnv xs

envs_step : (n : ℕ) (x : EnvDecl) (xs : List EnvDecl) → envs_room n (x ∷ xs) → Printed Any (grammar.an_env n) x (env_printing x) × envs_room (suc n) xs
envs_step n x xs room = (env_printed n x (omega (arith, room.0)) room.1.0, (omega (arith, room.0), room.1.1))

envs_printed : (xs : List EnvDecl) → length xs ≤ 32 → Each IsEnv xs → Printed Any grammar.envs xs (flat_map env_printing xs)
envs_printed xs few each = list_printed grammar.an_env (λ n v. suc n) envs_room env_printing envs_step 0 xs (omega (arith, few), each)

abbrev right_made : Bytes → List PlainPredicate → List PlainUpdate → PlainRight
right_made name preds updates = record { name = name; preds = preds; updates = updates }

abbrev behind_updates : Bytes → List PlainPredicate → List PlainUpdate → Form PlainRight
behind_updates name preds updates = before (grammar.sign close_curly) (nothing (right_made name preds updates))

abbrev behind_preds : Bytes → List PlainPredicate → Form PlainRight
behind_preds name preds = and_then grammar.updates (behind_updates name preds)

abbrev behind_name : Bytes → Form PlainRight
behind_name name = before (grammar.sign open_curly) (and_then grammar.preds (behind_preds name))

open_line : Puts Any (codes " {" ++ 10 ∷ []) (a_symbol open_curly ∷ [])
open_line =
    puts_both Any Any (32 ∷ []) (123 ∷ 10 ∷ []) [] (a_symbol open_curly ∷ []) blank_puts
    (puts_both Any Any (123 ∷ []) (10 ∷ []) (a_symbol open_curly ∷ []) [] open_curly_puts new_line_puts (λ rest e. tt))
    (λ rest e. tt)

right_printed_whole : (n : ℕ) (r : PlainRight) → n < 64 → IsRightWithin r → IsRight r → Printed Any (grammar.a_right n) r (right_printing r)
right_printed_whole n r less within is =
    let updates = flat_map update_printing r.updates ++ (125 ∷ 10 ∷ []) in
    let preds = flat_map predicate_printing r.preds ++ updates in
    let tail = (codes " {" ++ 10 ∷ []) ++ preds in
    same_printed Any (grammar.a_right n) r (codes "right " ++ (r.name ++ tail)) (right_printing r) (in_row_8 (codes "right ") r.name (codes " {") (10 ∷ []) (flat_map predicate_printing r.preds) (flat_map update_printing r.updates) (codes "}") (10 ∷ []))
    (before_printed Any Any (word (codes "right")) (beyond item 64 n) (and_then grammar.a_name behind_name) r (codes "right ") (r.name ++ tail) (not_beyond item 64 n less) (word_blank (codes "right") right_word)
    (and_then_printed Any Ends grammar.a_name behind_name r.name r r.name tail (name_printed r.name is.name)
    (before_printed Any Any (symbol open_curly) None (and_then grammar.preds (behind_preds r.name)) r (codes " {" ++ 10 ∷ []) preds refl open_line
    (and_then_printed Any Any grammar.preds (behind_preds r.name) r.preds r (flat_map predicate_printing r.preds) updates (preds_printed r.preds within.preds is.preds)
    (and_then_printed Any Any grammar.updates (behind_updates r.name r.preds) r.updates r (flat_map update_printing r.updates) (125 ∷ 10 ∷ []) (updates_printed r.updates within.updates is.updates)
    (closing close_curly 125 close_curly_puts r)
    (λ rest e. tt))
    (λ rest e. tt))
    (λ rest e. tt))
    (λ rest e. refl))
    (λ rest e. tt))

abbrev rights_room : ℕ → List PlainRight → Type 0
rights_room n xs = (n + length xs ≤ 64) × Each IsRightWithin xs × Each IsRight xs

rights_step : (n : ℕ) (x : PlainRight) (xs : List PlainRight) → rights_room n (x ∷ xs) → Printed Any (grammar.a_right n) x (right_printing x) × rights_room (suc n) xs
rights_step n x xs room = (right_printed_whole n x (omega (arith, room.0)) room.1.0 room.2.0, (omega (arith, room.0), room.1.1, room.2.1))

rights_printed : (xs : List PlainRight) → length xs ≤ 64 → Each IsRightWithin xs → Each IsRight xs → Printed Any grammar.rights xs (flat_map right_printing xs)
rights_printed xs few within each = list_printed grammar.a_right (λ n r. suc n) rights_room right_printing rights_step 0 xs (omega (arith, few), within, each)

-- ---- policies

abbrev policy_made : List AttrDecl → List EnvDecl → List PlainRight → PlainPolicy
policy_made attrs envs rights = record { attrs = attrs; envs = envs; rights = rights }

abbrev behind_envs : List AttrDecl → List EnvDecl → Form PlainPolicy
behind_envs attrs envs = mapped (λ rights. policy_made attrs envs rights) grammar.rights

abbrev behind_attrs : List AttrDecl → Form PlainPolicy
behind_attrs attrs = and_then grammar.envs (behind_envs attrs)

pub policy_printed : (p : PlainPolicy) → IsPrintable p → Printed Any grammar.a_policy p (policy_printing p)
policy_printed p is =
    let attrs = flat_map attr_printing p.attrs in
    let envs = flat_map env_printing p.envs in
    let rights = flat_map right_printing p.rights in
    same_printed Any grammar.a_policy p (attrs ++ (envs ++ rights)) (policy_printing p) (in_row_3 attrs envs rights)
    (and_then_printed Any Any grammar.attrs behind_attrs p.attrs p attrs (envs ++ rights) (attrs_printed p.attrs is.within.attrs is.attrs)
    (and_then_printed Any Any grammar.envs (behind_envs p.attrs) p.envs p envs rights (envs_printed p.envs is.within.envs is.envs)
    (mapped_printed Any (λ rights. policy_made p.attrs p.envs rights) grammar.rights p.rights rights (rights_printed p.rights is.within.rights is.within.each is.rights))
    (λ rest e. tt))
    (λ rest e. tt))

-- the tokens of a whole text
tokens_whole : (bs : Bytes) (ts : List Token) → Puts Any bs ts → ts ≡ tokens_of bs
unfolding tokens_from
tokens_whole bs ts p =
    let lexes : Lexes (bs ++ []) (ts ++ []) = p.lexes [] [] tt nothing_left in
    let plain : Lexes bs ts = subst (λ z. Lexes z ts) (append-nil bs) (subst (λ z. Lexes (bs ++ []) z) (append-nil ts) lexes) in
    sym (plain (length bs + 1) (omega arith))

-- a printed policy is spelled by its text
pub printed_spells : (p : PlainPolicy) → IsPrintable p → Spells (policy_printing p) p
printed_spells p is =
    let all = policy_printed p is in
    record {
      short = is.short;
      spelled = record {
        written = all.written;
        tokens = tokens_whole (policy_printing p) (bare (grammar.a_policy.tokens all.written)) all.puts;
        tree = all.tree;
        proper = all.proper;
        clean = all.clean;
      };
    }
