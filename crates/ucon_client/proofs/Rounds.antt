-- Clients that are fed one after the other.
use Rattle.std.proofs.Common.{◌≡◌, ◌≢◌, ⊎_elim, ℕ, ◌+◌, ◌≤◌, ◌<◌, true, false, List, [], ◌∷◌, ◌++◌, length, refl, sym, ap, ◌∙◌, subst, arith, append_assoc}
use Rattle.std.specs.Prelude.{Box, Result, Ok, Err, OnOk, IfErr, nat_eq, slice_index_or, slice_set}
use Rattle.std.proofs.lemmas.List.{append-nil, get_or_default, get_or-set_same, get_or-set_other, map-append}
use Rattle.std.proofs.lemmas.List.Elements.{filter-append}
use Rattle.std.proofs.lemmas.Bool.Decides.{eqb_tells}
use Rattle.ucon_flow.specs.Seen.{SourceSeen}
use Rattle.ucon_model.specs.Document.{ScriptLine}
use Rattle.ucon_script.specs.declared.coming_script.ComingScript.{ComingScript}
use Rattle.ucon_script.specs.declared.document.Line.{Line}
use Rattle.ucon_script.specs.declared.script_stop.ScriptStop.{ScriptStop}
use Rattle.ucon_script.specs.ComingScript.{Says}
use Rattle.ucon_script.specs.Document.{line_of}
use Rattle.ucon_client.specs.Inbox.{Fed}
use Rattle.ucon_client.specs.Feeding.{own, fed_with, AreFed, HasFedTo, IsFedUpTo, FeedsUpTo, ended}

-- the first of these were fed the end word
pub record AreEndedTo {T : Type 0} (i : ℕ) (old new : List (Fed T)) : Type 0 where
  pub before : (k : ℕ) (d : Fed T) → k < i → slice_index_or new k d ≡ ended (slice_index_or old k d)
  pub behind : (k : ℕ) (d : Fed T) → i ≤ k → slice_index_or new k d ≡ slice_index_or old k d

module _ {Z : Type 0} where
  -- nobody was fed
  pub none_fed : (fs : List (Fed (Box Line Z))) → AreFed fs fs []
  none_fed fs client d lt = ap (λ (ls : List (Box Line Z)). record (slice_index_or fs client d) { fed = record (slice_index_or fs client d).fed { lines = ls } })
      (sym (append-nil (slice_index_or fs client d).fed.lines))

  -- one after the other
  pub both_fed : (fs gs hs : List (Fed (Box Line Z))) (xs ys : List (Box Line Z)) → length gs ≡ length fs → AreFed fs gs xs → AreFed gs hs ys → AreFed fs hs (xs ++ ys)
  both_fed fs gs hs xs ys len f g client d lt =
      g client d (omega (arith, len, lt)) ∙ (ap (λ (x : Fed (Box Line Z)). fed_with x (own client ys)) (f client d lt) ∙ more (slice_index_or fs client d) client)
    where
      more : (f : Fed (Box Line Z)) (client : ℕ) → fed_with (fed_with f (own client xs)) (own client ys) ≡ fed_with f (own client (xs ++ ys))
      more f client = ap (λ (ls : List (Box Line Z)). record f { fed = record f.fed { lines = ls } })
          (append_assoc f.fed.lines (own client xs) (own client ys) ∙ ap (λ (ls : List (Box Line Z)). f.fed.lines ++ ls) (sym (filter-append (λ l. nat_eq client l.value.caller.0) xs ys)))

  -- a line was fed to its client
  pub one_fed : (fs : List (Fed (Box Line Z))) (k : ℕ) (b : Box Line Z) (d : Fed (Box Line Z)) → k ≡ b.value.caller.0 → k < length fs
      → AreFed fs (slice_set fs k (fed_with (slice_index_or fs k d) (b ∷ []))) (b ∷ [])
  one_fed fs k b d is lt client e within = ⊎_elim (λ t. same t.0 t.1) (λ t. other t.0 t.1) (eqb_tells client k)
    where
      fed : List (Fed (Box Line Z))
      fed = slice_set fs k (fed_with (slice_index_or fs k d) (b ∷ []))

      same : nat_eq client k ≡ true → client ≡ k → slice_index_or fed client e ≡ fed_with (slice_index_or fs client e) (own client (b ∷ []))
      same test it =
          let mine : own client (b ∷ []) ≡ b ∷ [] = rw (sym is, test) refl in
          let at : slice_index_or fed client e ≡ fed_with (slice_index_or fs k d) (b ∷ []) =
          rw it (get_or-set_same fs k (fed_with (slice_index_or fs k d) (b ∷ [])) e lt) in
          let there : slice_index_or fs k d ≡ slice_index_or fs client e = rw it (get_or_default fs k d e lt) in
          rw mine (at ∙ ap (λ (f : Fed (Box Line Z)). fed_with f (b ∷ [])) there)

      other : nat_eq client k ≡ false → client ≢ k → slice_index_or fed client e ≡ fed_with (slice_index_or fs client e) (own client (b ∷ []))
      other test apart =
          let nothing : own client (b ∷ []) ≡ [] = rw (sym is, test) refl in
          let at : slice_index_or fed client e ≡ slice_index_or fs client e = get_or-set_other fs k client (fed_with (slice_index_or fs k d) (b ∷ [])) e apart in
          rw nothing (at ∙ none_fed fs client e within)

-- ---- lines that came, and were fed

module _ {S Z : Type 0} (seen : S → SourceSeen) where
  pub nothing_fed : (s : ComingScript) (at : S) (fs : List (Fed (Box Line Z))) → Says seen s s at at [] → HasFedTo seen s s at at fs fs
  nothing_fed s at fs says = record { lines = []; says = says; are_fed = none_fed fs }

  pub more_fed : (a b c : ComingScript) (first mid last : S) (fs gs hs : List (Fed (Box Line Z))) → length gs ≡ length fs
      → ((told next : List ScriptLine) → Says seen a b first mid told → Says seen b c mid last next → Says seen a c first last (told ++ next))
      → HasFedTo seen a b first mid fs gs → HasFedTo seen b c mid last gs hs → HasFedTo seen a c first last fs hs
  more_fed a b c first mid last fs gs hs len joins f g = record {
    lines = f.lines ++ g.lines;
    says = subst (λ (t : List ScriptLine). Says seen a c first last t) (sym (map-append (λ (l : Box Line Z). line_of l.value) f.lines g.lines)) (joins _ _ f.says g.says);
    are_fed = both_fed fs gs hs f.lines g.lines len f.are_fed g.are_fed;
  }

module _ {S Z : Type 0} (seen : S → SourceSeen) where
  pub up_to : (old new : ComingScript) (first last : S) (fs gs : List (Fed (Box Line Z))) (r : Result (Unit {0}) ScriptStop)
      → OnOk r (HasFedTo seen old new first last fs gs × (new.lines.over ≡ true)) → IfErr r (λ stop. IsFedUpTo seen old new first last fs gs stop)
      → FeedsUpTo seen old new first last fs gs r
  up_to old new first last fs gs (Ok u) ok err = ok
  up_to old new first last fs gs (Err stop) ok err = err

-- ---- the end word

pub none_ended : {T : Type 0} (fs : List (Fed T)) → AreEndedTo 0 fs fs
none_ended fs = record { before = λ k d lt. absurd (omega (arith, lt)); behind = λ k d le. refl }

pub one_ended : {T : Type 0} (fs gs : List (Fed T)) (i : ℕ) (d : Fed T) → i < length gs → length gs ≡ length fs → AreEndedTo i fs gs
    → AreEndedTo (i + 1) fs (slice_set gs i (ended (slice_index_or gs i d)))
one_ended {T} fs gs i d lt len so = record {
  before = λ k e below. ⊎_elim (λ t. here k e t.1) (λ t. earlier k e below t.1) (eqb_tells k i);
  behind = λ k e above. get_or-set_other gs i k (ended (slice_index_or gs i d)) e (λ same. absurd (omega (arith, same, above))) ∙ so.behind k e (omega (arith, above));
}
  where
    here : (k : ℕ) (e : Fed T) → k ≡ i → slice_index_or (slice_set gs i (ended (slice_index_or gs i d))) k e ≡ ended (slice_index_or fs k e)
    here k e same = rw same (get_or-set_same gs i (ended (slice_index_or gs i d)) e lt ∙ ap (λ (f : Fed T). ended f) (get_or_default gs i d e lt ∙ so.behind i e (omega arith)))

    earlier : (k : ℕ) (e : Fed T) → k < i + 1 → k ≢ i → slice_index_or (slice_set gs i (ended (slice_index_or gs i d))) k e ≡ ended (slice_index_or fs k e)
    earlier k e below apart = get_or-set_other gs i k (ended (slice_index_or gs i d)) e apart ∙ so.before k e (omega (arith, below, apart))
