-- Conversations, one after the other.
use Rattle.std.proofs.Common.{◌≡◌, ◌⊎◌, inl, inr, ⊎_elim, ℕ, ◌+◌, ◌≤◌, ◌<◌, List, [], ◌∷◌, ◌++◌, length, take, append_assoc, length-append, refl, sym, ap, subst, ◌∙◌, arith}
use Rattle.std.proofs.lemmas.List.{append-nil}
use Rattle.std.proofs.KnownBytes.{Appends-nil, Appends-trans}
use Rattle.std.proofs.Math.Seq.{take-append-add}
use Rattle.std.specs.Prelude.{Option, Some, None, IfSome, Result, Ok, Err}
use Rattle.std.specs.Io.KnownBytes.{Appends}
use Rattle.ucon_base.specs.declared.no_memory.NoMemory.{NoMemory}
use Rattle.ucon_tell.specs.Seen.{KeeperSeen, VoiceSeen}
use Rattle.ucon_flow.specs.Lines.{IsBare}
use Rattle.ucon_tell.specs.Heard.{TakesHeld, adds_line}
use Rattle.ucon_tell.specs.Told.{IsCut, AreAnsweredUntold, IsFrontOf, IsReplied, TellsFronts, Told, lines_of, replies_of}
use Rattle.ucon_tell.specs.Talk.{AreAnswered, AreRounds, HasTalked, IsRefused, IsToldOnceKept, Round, ends_by, told_in, writes_by}
use Rattle.ucon_tell.specs.declared.talk_fault.TalkFault.{TalkFault}
use Rattle.ucon_tell.specs.declared.talk_fault.TalkFault.TheVariants as faults

told_append : {K : Type 0} (xs ys : List (Round K)) → told_in (xs ++ ys) ≡ told_in xs ++ told_in ys
told_append [] ys = refl
told_append (x ∷ xs) ys = ap (λ (r : List Told). x.told ++ r) (told_append xs ys) ∙ sym (append_assoc x.told (told_in xs) (told_in ys))

lines_of_append : (xs ys : List Told) → lines_of (xs ++ ys) ≡ lines_of xs ++ lines_of ys
lines_of_append [] ys = refl
lines_of_append (x ∷ xs) ys = ap (λ (r : List ℕ). x.line ++ 10 ∷ r) (lines_of_append xs ys) ∙ sym (append_assoc x.line (10 ∷ lines_of xs) (lines_of ys))

replies_of_append : (xs ys : List Told) → replies_of (xs ++ ys) ≡ replies_of xs ++ replies_of ys
replies_of_append [] ys = refl
replies_of_append (x ∷ xs) ys = ap (λ (r : List ℕ). x.reply ++ r) (replies_of_append xs ys) ∙ sym (append_assoc x.reply (replies_of xs) (replies_of ys))

lines_append : {K : Type 0} (xs ys : List (Round K)) → lines_of (told_in (xs ++ ys)) ≡ lines_of (told_in xs) ++ lines_of (told_in ys)
lines_append xs ys = ap lines_of (told_append xs ys) ∙ lines_of_append (told_in xs) (told_in ys)

replies_append : {K : Type 0} (xs ys : List (Round K)) → replies_of (told_in (xs ++ ys)) ≡ replies_of (told_in xs) ++ replies_of (told_in ys)
replies_append xs ys = ap replies_of (told_append xs ys) ∙ replies_of_append (told_in xs) (told_in ys)

-- some lines have some bytes
pub some_bytes : (told : List Told) → 0 < length told → 0 < length (lines_of told)
some_bytes [] some = absurd (omega arith)
some_bytes (t ∷ told) some = let l = length-append t.line (10 ∷ lines_of told) in omega arith

-- so many bytes in front are as many as the lines have
pub front_within : (n : ℕ) (held front behind : List ℕ) → held ≡ front ++ behind → n ≡ length front → n ≤ length held
front_within n held front behind is len = let l = length-append front behind in let h : length held ≡ length (front ++ behind) = ap (λ (x : List ℕ). length x) is in omega arith

-- what went out whole, and then what was written so
wrote_on : (r : Result (Unit {0}) TalkFault) (before between now : Option (List ℕ)) (xs ys : List ℕ) → Appends before between xs → writes_by r between now ys → writes_by r before now (xs ++ ys)
wrote_on (Ok done) before between now xs ys p q = Appends-trans before between now xs ys p q
wrote_on (Err faults.SinkFault) before between now xs ys p q = (
  length xs + q.0,
  omega (arith, q.1, length-append xs ys),
  rw (take-append-add xs ys q.0) (Appends-trans before between now xs (take q.0 ys) p q.2),
)
wrote_on (Err faults.SourceFault) before between now xs ys p q = Appends-trans before between now xs ys p q
wrote_on (Err faults.TooLong) before between now xs ys p q = Appends-trans before between now xs ys p q
wrote_on (Err (faults.NoMemory e)) before between now xs ys p q = Appends-trans before between now xs ys p q

-- what no sink's fault ends
pub no_sink : (e : TalkFault) → (e ≡ faults.SinkFault → ⊥) → ◌≡◌ {A = Result (Unit {0}) TalkFault} (Err e) (Err faults.SinkFault) → ⊥
no_sink e other bad = other (cc bad)

module _ {K : Type 0} (answers : K → K → List Told → Type 0) (refuses : K → List ℕ → Type 0) (limit : ℕ) where
  rounds_append : (first mid last : K) (xs ys : List (Round K)) → AreRounds limit answers refuses first xs mid → AreRounds limit answers refuses mid ys last
      → AreRounds limit answers refuses first (xs ++ ys) last
  rounds_append first mid last [] ys p q = subst (λ (k : K). AreRounds limit answers refuses k ys last) (sym p) q
  rounds_append first mid last (x ∷ xs) ys p q = (p.0, rounds_append x.after mid last xs ys p.1 q)

module _ {K : Type 0} (seen : K → KeeperSeen) (stays : K → K → Type 0)
    (kept : (x y : K) (t : ℕ) (c : List ℕ) → stays x y → (seen x).moment ≤ t → t ≤ (seen y).moment → (seen y).images_since t c → (seen x).holds c)
    (onward : (x y : K) → stays x y → (seen x).moment ≤ (seen y).moment) (same : (x : K) → stays x x) (again : (x y z : K) → stays x y → stays y z → stays x z)
    (answers : K → K → List Told → Type 0) (refuses : K → List ℕ → Type 0) (limit : ℕ) where
  -- nothing was said yet
  pub not_begun : (first : K) (v : VoiceSeen) (hears : List ℕ → Type 0) → hears [] → HasTalked seen stays answers refuses limit (Ok tt) first first v v hears
  not_begun first v hears none = record {
    rounds = [];
    heard = none;
    reached = first;
    answered = refl;
    ends = refl;
    output = Appends-nil v.contents;
    told = λ b t is. inl is;
  }

  -- a keeper tried to answer lines, and found no memory
  pub none_told : (e : NoMemory) (first last : K) (v : VoiceSeen) (hears : List ℕ → Type 0) → hears [] → ends_by limit answers hears (Err (faults.NoMemory e)) first last
      → HasTalked seen stays answers refuses limit (Err (faults.NoMemory e)) first last v v hears
  none_told e first last v hears none perhaps = record {
    rounds = [];
    heard = none;
    reached = first;
    answered = refl;
    ends = perhaps;
    output = Appends-nil v.contents;
    told = λ b t is. inl is;
  }

  -- a round was answered, and its replies told, at this moment
  pub round_told : (r : Result (Unit {0}) TalkFault) (first last : K) (told : List Told) (old new : VoiceSeen) (hears : List ℕ → Type 0)
      → AreAnswered limit answers first (record { told = told; after = last }) ⊎ IsRefused limit refuses first (record { told = told; after = last })
      → writes_by r old.contents new.contents (replies_of told) → TellsFronts old new (replies_of told) (seen last).moment → hears (lines_of told)
      → HasTalked seen stays answers refuses limit r first last old new hears
  round_told r first last told old new hears answered written tells heard = record {
    rounds = record { told = told; after = last } ∷ [];
    heard = subst (λ (l : List Told). hears (lines_of l)) (sym (append-nil told)) heard;
    reached = last;
    answered = (answered, refl);
    ends = ends_here r;
    output = subst (λ (l : List Told). writes_by r old.contents new.contents (replies_of l)) (sym (append-nil told)) written;
    told = λ b t is. ⊎_elim inl (λ (h : (t ≡ (seen last).moment) × IfSome old.contents (λ held. IsCut held (replies_of told) b)). inr (by_held old.contents b t h.0 h.1)) (tells.nothing_else b t is);
  }
    where
      ends_here : (s : Result (Unit {0}) TalkFault) → ends_by limit answers (λ more. hears (lines_of (told ++ []) ++ more)) s last last
      ends_here (Ok done) = refl
      ends_here (Err faults.SourceFault) = refl
      ends_here (Err faults.SinkFault) = refl
      ends_here (Err faults.TooLong) = refl
      ends_here (Err (faults.NoMemory e)) = inl refl

      by_held : (o : Option (List ℕ)) (b : List ℕ) (t : ℕ) → t ≡ (seen last).moment → IfSome o (λ held. IsCut held (replies_of told) b)
          → IfSome o (λ held. IsToldOnceKept seen stays held (record { told = told; after = last } ∷ []) last b t)
      by_held None b t at cut = tt
      by_held (Some held) b t at cut = record {
        earlier = [];
        one = record { told = told; after = last };
        later = [];
        among = refl;
        bytes = subst (λ (x : List ℕ). IsCut x (replies_of told) b) (sym (append-nil held)) cut;
        answered = omega arith;
        not_later = omega arith;
        stays_from = same last;
        kept = λ c since. kept last last t c (same last) (omega arith) (omega arith) since;
      }

  -- a line that is too long was refused, and that told, at this moment
  pub refusal_told : (r : Result (Unit {0}) TalkFault) (first : K) (line text : List ℕ) (old new : VoiceSeen) → IsBare line → limit ≤ length line → (IsReplied (refuses first) [] text)
      → writes_by r old.contents new.contents text → TellsFronts old new text (seen first).moment → adds_line r line (line ++ 10 ∷ [])
      → HasTalked seen stays answers refuses limit r first first old new (adds_line r line)
  refusal_told r first line text old new bare long is written tells heard =
      let told : List Told = record { line = line; reply = is.0 } ∷ [] in
      let same : text ≡ replies_of told = is.3 ∙ sym (append-nil is.0) in
      round_told r first first told old new (adds_line r line)
      (inr (record { one = record { line = line; reply = is.0 }; alone = refl; line = bare; reply = is.1; long = long; refused = is.2; same = refl }))
      (subst (λ (l : List ℕ). writes_by r old.contents new.contents l) same written)
      (subst (λ (l : List ℕ). TellsFronts old new l (seen first).moment) same tells) heard

  -- lines that were answered and not told are a front of what was held
  pub untold_held : (limit' : ℕ) (held held' : List ℕ) (e : NoMemory) (old new : K) → limit' ≡ limit → held' ≡ held
      → (old ≡ new) ⊎ AreAnsweredUntold limit' answers (λ lines. IsFrontOf lines held') old new
      → ends_by limit answers (TakesHeld (Err (faults.NoMemory e)) held held) (Err (faults.NoMemory e)) old new
  untold_held limit' held held' e old new same_limit same is =
      subst (λ (z : ℕ × List ℕ). (old ≡ new) ⊎ AreAnsweredUntold z.0 answers (λ lines. IsFrontOf lines z.1) old new) (λ i. (same_limit i, same i)) is

  -- the same of another set of lines
  pub heard_so : (r : Result (Unit {0}) TalkFault) (first last : K) (old new : VoiceSeen) (hears_first hears : List ℕ → Type 0) → ((ls : List ℕ) → hears_first ls → hears ls)
      → HasTalked seen stays answers refuses limit r first last old new hears_first → HasTalked seen stays answers refuses limit r first last old new hears
  heard_so r first last old new hears_first hears then p = record {
    rounds = p.rounds;
    heard = then (lines_of (told_in p.rounds)) p.heard;
    reached = p.reached;
    answered = p.answered;
    ends = ends r p.ends;
    output = p.output;
    told = p.told;
  }
    where
      ends : (s : Result (Unit {0}) TalkFault) → ends_by limit answers (λ more. hears_first (lines_of (told_in p.rounds) ++ more)) s p.reached last
          → ends_by limit answers (λ more. hears (lines_of (told_in p.rounds) ++ more)) s p.reached last
      ends (Ok done) e = e
      ends (Err faults.SourceFault) e = e
      ends (Err faults.SinkFault) e = e
      ends (Err faults.TooLong) e = e
      ends (Err (faults.NoMemory m)) e = ⊎_elim inl (λ (u : AreAnsweredUntold limit answers (λ more. hears_first (lines_of (told_in p.rounds) ++ more)) p.reached last). inr (record {
        told = u.told;
        each = u.each;
        came = then (lines_of (told_in p.rounds) ++ lines_of u.told) u.came;
        answer = u.answer;
      })) e

  -- one conversation after the other
  pub talked_on : (r : Result (Unit {0}) TalkFault) (first mid last : K) (v0 v1 v2 : VoiceSeen) (hears_first hears_then hears : List ℕ → Type 0)
      → ((ls more : List ℕ) → hears_first ls → hears_then more → hears (ls ++ more)) → stays mid last
      → HasTalked seen stays answers refuses limit (Ok tt) first mid v0 v1 hears_first
      → HasTalked seen stays answers refuses limit r mid last v1 v2 hears_then
      → HasTalked seen stays answers refuses limit r first last v0 v2 hears
  talked_on r first mid last v0 v1 v2 hears_first hears_then hears both stayed p q = record {
    rounds = p.rounds ++ q.rounds;
    heard = subst hears (sym (lines_append p.rounds q.rounds)) (both (lines_of (told_in p.rounds)) (lines_of (told_in q.rounds)) p.heard q.heard);
    reached = q.reached;
    answered = rounds_append answers refuses limit first mid q.reached p.rounds q.rounds (subst (AreRounds limit answers refuses first p.rounds) p.ends p.answered) q.answered;
    ends = ends r q.ends;
    output = subst (λ (w : List ℕ). writes_by r v0.contents v2.contents w) (sym (replies_append p.rounds q.rounds))
        (wrote_on r v0.contents v1.contents v2.contents (replies_of (told_in p.rounds)) (replies_of (told_in q.rounds)) p.output q.output);
    told = λ b t is. ⊎_elim (λ (m : v1.told b t). ⊎_elim inl (λ (h : IfSome v0.contents (λ held. IsToldOnceKept seen stays held p.rounds mid b t)). inr (sooner v0.contents b t h)) (p.told b t m))
        (λ (h : IfSome v1.contents (λ held. IsToldOnceKept seen stays held q.rounds last b t)). inr (then v0.contents v1.contents p.output b t h)) (q.told b t is);
  }
    where
      ends : (s : Result (Unit {0}) TalkFault) → ends_by limit answers (λ more. hears_then (lines_of (told_in q.rounds) ++ more)) s q.reached last
          → ends_by limit answers (λ more. hears (lines_of (told_in (p.rounds ++ q.rounds)) ++ more)) s q.reached last
      ends (Ok done) e = e
      ends (Err faults.SourceFault) e = e
      ends (Err faults.SinkFault) e = e
      ends (Err faults.TooLong) e = e
      ends (Err (faults.NoMemory m)) e = ⊎_elim inl (λ (u : AreAnsweredUntold limit answers (λ more. hears_then (lines_of (told_in q.rounds) ++ more)) q.reached last). inr (record {
        told = u.told;
        each = u.each;
        came =
            let more : List ℕ = lines_of u.told in
            let all : lines_of (told_in p.rounds) ++ (lines_of (told_in q.rounds) ++ more) ≡ lines_of (told_in (p.rounds ++ q.rounds)) ++ more =
            sym (append_assoc (lines_of (told_in p.rounds)) (lines_of (told_in q.rounds)) more) ∙ ap (λ (l : List ℕ). l ++ more) (sym (lines_append p.rounds q.rounds)) in
            subst hears all (both (lines_of (told_in p.rounds)) (lines_of (told_in q.rounds) ++ more) p.heard u.came);
        answer = u.answer;
      })) e

      sooner : (o : Option (List ℕ)) (b : List ℕ) (t : ℕ) → IfSome o (λ held. IsToldOnceKept seen stays held p.rounds mid b t)
          → IfSome o (λ held. IsToldOnceKept seen stays held (p.rounds ++ q.rounds) last b t)
      sooner None b t h = tt
      sooner (Some held) b t h =
          let on = onward mid last stayed in
          let late : t ≤ (seen last).moment = omega (arith, on, h.not_later) in
          record {
            earlier = h.earlier;
            one = h.one;
            later = h.later ++ q.rounds;
            among = ap (λ (l : List (Round K)). l ++ q.rounds) h.among ∙ append_assoc h.earlier (h.one ∷ h.later) q.rounds;
            bytes = h.bytes;
            answered = h.answered;
            not_later = late;
            stays_from = again h.one.after mid last h.stays_from stayed;
            kept = λ c since. kept h.one.after last t c (again h.one.after mid last h.stays_from stayed) h.answered late since;
          }

      then : (o u : Option (List ℕ)) → Appends o u (replies_of (told_in p.rounds)) → (b : List ℕ) (t : ℕ) → IfSome u (λ held. IsToldOnceKept seen stays held q.rounds last b t)
          → IfSome o (λ held. IsToldOnceKept seen stays held (p.rounds ++ q.rounds) last b t)
      then None u a b t h = tt
      then (Some x) None a b t h = absurd a
      then (Some x) (Some y) a b t h = record {
        earlier = p.rounds ++ h.earlier;
        one = h.one;
        later = h.later;
        among = ap (λ (l : List (Round K)). p.rounds ++ l) h.among ∙ sym (append_assoc p.rounds h.earlier (h.one ∷ h.later));
        bytes = subst (λ (w : List ℕ). IsCut w (replies_of h.one.told) b)
            (ap (λ (w : List ℕ). w ++ replies_of (told_in h.earlier)) a ∙ append_assoc x (replies_of (told_in p.rounds)) (replies_of (told_in h.earlier))
            ∙ ap (λ (w : List ℕ). x ++ w) (sym (replies_append p.rounds h.earlier))) h.bytes;
        answered = h.answered;
        not_later = h.not_later;
        stays_from = h.stays_from;
        kept = h.kept;
      }

  -- what ends for want of something else than the voice has talked as far as that
  pub ended : (r : Result (Unit {0}) TalkFault) (first last : K) (old new : VoiceSeen) (hears_first hears : List ℕ → Type 0) → ((ls : List ℕ) → hears_first ls → hears ls)
      → (r ≡ Err faults.SinkFault → ⊥) → HasTalked seen stays answers refuses limit (Ok tt) first last old new hears_first → HasTalked seen stays answers refuses limit r first last old new hears
  ended r first last old new hears_first hears then other p = record {
    rounds = p.rounds;
    heard = then (lines_of (told_in p.rounds)) p.heard;
    reached = p.reached;
    answered = p.answered;
    ends = ends r;
    output = output r other;
    told = p.told;
  }
    where
      ends : (s : Result (Unit {0}) TalkFault) → ends_by limit answers (λ more. hears (lines_of (told_in p.rounds) ++ more)) s p.reached last
      ends (Ok done) = p.ends
      ends (Err faults.SinkFault) = p.ends
      ends (Err faults.SourceFault) = p.ends
      ends (Err faults.TooLong) = p.ends
      ends (Err (faults.NoMemory e)) = inl p.ends

      output : (s : Result (Unit {0}) TalkFault) → (s ≡ Err faults.SinkFault → ⊥) → writes_by s old.contents new.contents (replies_of (told_in p.rounds))
      output (Ok done) bad = p.output
      output (Err faults.SinkFault) bad = absurd (bad refl)
      output (Err faults.SourceFault) bad = p.output
      output (Err faults.TooLong) bad = p.output
      output (Err (faults.NoMemory e)) bad = p.output
